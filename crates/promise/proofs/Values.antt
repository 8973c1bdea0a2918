-- Values against counts: values unlike the honest ones pass at few points, a false claim has such values, and honest values pass everywhere.
-- Assumes nothing but the laws of the field and of the question.
use Rattle.std.proofs.Common.{◌≡◌, ℕ, suc, ◌+◌, ◌%◌, ◌<◌, ◌≤◌, ◌≢◌, List, [], ◌∷◌, length, get_or, take, ℤ, pos, negsuc, ◌-ℤ◌, nat_abs, ◌≤ℤ◌, sym, refl, ap, ◌∙◌, ap₂, inl, inr, mod-eq_of_lt, arith}
use Rattle.std.proofs.lemmas.Int.{ints}
use Rattle.field.specs.Field.{FieldModel, LawfulField, InRange, modulo}
use Rattle.field.specs.declared.limits.TheConstants.{INVERSES}
use Rattle.field.proofs.Consequences.{image-sub}
use Rattle.field.proofs.Sameness.{decided}
use Rattle.field.proofs.Solver.{sides, solve}
use Rattle.board.proofs.Grids.{allowed_grid}
use Rattle.polynomial.specs.Lists.{Distinct}
use Rattle.std.specs.List.{AllByRecursion}
use Rattle.polynomial.specs.Sums.{list_sum}
use Rattle.polynomial.specs.Polynomials.{sub, eval, scaled, poly_add}
use Rattle.polynomial.specs.Interpolation.{node, interpolant}
use Rattle.polynomial.specs.Columns.{columns_at}
use Rattle.polynomial.proofs.Columns.{columns_node, column_polynomials, eval-columns, length-columns, short_columns}
use Rattle.polynomial.proofs.Evals.{eval-poly_add, eval_scaled, length-poly_add, length_scaled}
use Rattle.polynomial.proofs.Lagrange.{interpolation}
use Rattle.polynomial.proofs.Roots.{root_bound, sub-zero}
use Rattle.polynomial.proofs.Sums.{length-listed, get_or-listed, take-listed, sum_cong, list_sum-listed}
use Rattle.question.specs.Question.{QuestionModel, Fits, Within, Follows, LawfulQuestion}
use Rattle.protocol.specs.Asking.{claim_image, honest}
use Rattle.promise.specs.Counts.{AddUp, Agree, ValuesAgainstCounts}
use Rattle.promise.proofs.Lists.{each_map}

module _ {K : Type 0} {F : FieldModel K} (L : LawfulField F) where
  -- ---- lists that differ
  -- a place at which two lists differ
  record Differ (vs ws : List K) : Type 0 where
    place : ℕ
    below : place < length vs
    apart : get_or vs place F.zero ≢ get_or ws place F.zero

  differ : (vs ws : List K) → length vs ≡ length ws → vs ≢ ws → Differ vs ws
  differ [] [] e n = absurd (n refl)
  differ [] (w ∷ ws) e n = absurd (omega arith)
  differ (v ∷ vs) [] e n = absurd (omega arith)
  differ (v ∷ vs) (w ∷ ws) e n =
      elim (decided L.parts v w) [
        | inr d ↦ record { place = 0; below = omega arith; apart = d.0 }
        | inl s ↦ let d = differ vs ws (omega arith) (λ z. n (ap₂ ◌∷◌ s.0 z)) in record { place = suc d.place; below = omega (arith, d.below); apart = d.apart }
      ]

  -- ---- claims
  pub claim_image_lem : (c : ℤ) → InRange c → claim_image F c ≡ F.image c
  claim_image_lem c b = ap₂ F.make (sym (L.parts.low-image c b)) (sym (L.parts.high-image c b)) ∙ L.parts.make_parts (F.image c)

  -- a number near zero that p divides is zero
  near_zero : (n : ℤ) → nat_abs n < F.characteristic → modulo F.characteristic n ≡ 0 → nat_abs n ≡ 0
  near_zero (pos n) b e = sym (mod-eq_of_lt b) ∙ e
  near_zero (negsuc n) b e = let s : n % F.characteristic ≡ n = mod-eq_of_lt (omega arith) in absurd (omega arith)

  module _ (q : QuestionModel K) (Q : LawfulQuestion F q) (h v : ℕ) (fit : Fits q h v) where
    pub claim_range : (c : ℤ) → q.least ≤ℤ c → c ≤ℤ q.greatest → InRange c
    claim_range c a b = omega (arith, ints, (Q.least_range h v fit).0, (Q.greatest_range h v fit).1, L.bounds.characteristic_most)

    -- claims within the limits with one image are the same
    pub same_claim : (c t : ℤ) → q.least ≤ℤ c → c ≤ℤ q.greatest → q.least ≤ℤ t → t ≤ℤ q.greatest → F.image c ≡ F.image t → c ≡ t
    same_claim c t a b a' b' e = equal (near_zero (c -ℤ t) less (L.images.zero_only_if (c -ℤ t) near zero_difference))
      where
        less : nat_abs (c -ℤ t) < F.characteristic
        less = omega (arith, ints, Q.narrow h v fit)

        near : InRange (c -ℤ t)
        near = omega (arith, less, L.bounds.characteristic_most)

        zero_difference : F.image (c -ℤ t) ≡ F.zero
        zero_difference = image-sub L c t (claim_range c a b) (claim_range t a' b') near ∙ ap (λ w. F.add w (F.neg (F.image t))) e ∙ L.ring.add-neg (F.image t)

        equal : nat_abs (c -ℤ t) ≡ 0 → c ≡ t
        equal z = omega (arith, ints)

    -- ---- the degree
    rows_most : h ≤ 64
    rows_most = (allowed_grid h v fit.grid).rows_most

    pub degree_small : q.degree h ≤ INVERSES
    degree_small = omega (arith, rows_most, Q.degree_most h v fit)

    pub rows_fit : h ≤ suc (q.degree h)
    rows_fit = omega (arith, Q.degree_least h v fit)

    module _ (fs : List ℤ) where
      -- ---- the polynomial of the question on the columns of the counts
      follows : Follows F q h v (column_polynomials L h v fs)
      follows = Q.polynomial h v fit (column_polynomials L h v fs) (length-columns L h v fs) (short_columns L h v fs (omega (arith, rows_most)))

      rule_poly : List K
      rule_poly = follows.poly

      rule_short : length rule_poly ≤ suc (q.degree h)
      unfolding rule_poly
      rule_short = follows.short

      eval_rule : (X : K) → eval F rule_poly X ≡ q.rule h v X (columns_at F h v fs X)
      unfolding rule_poly
      eval_rule X = follows.value X ∙ ap (q.rule h v X) (eval-columns L h v fs X)

      -- ---- honest values
      pub length_honest : length (honest F h v q fs) ≡ suc (q.degree h)
      length_honest = length-listed 0 (suc (q.degree h)) _

      honest_at : (j : ℕ) → j < suc (q.degree h) → get_or (honest F h v q fs) j F.zero ≡ eval F rule_poly (node F j)
      honest_at j b =
          let e : 0 + j ≡ j = omega arith in
          get_or-listed 0 (suc (q.degree h)) (λ k. q.rule h v (node F k) (columns_at F h v fs (node F k))) j F.zero b
          ∙ ap (λ k. q.rule h v (node F k) (columns_at F h v fs (node F k))) e ∙ sym (eval_rule (node F j))

      pub honest_agree : (r : K) → Agree F q h v (honest F h v q fs) r (columns_at F h v fs r)
      honest_agree r =
          sym ((interpolation L (honest F h v q fs) (omega (arith, length_honest, degree_small))).only rule_poly (omega (arith, length_honest, rule_short)) (λ k b. sym (honest_at k (omega (arith, length_honest)))) r)
          ∙ eval_rule r

      honest_sum : Within F h v fs → list_sum F (take h (honest F h v q fs)) ≡ F.image (q.tally h v fs)
      honest_sum w =
          ap (list_sum F) (take-listed 0 h (suc (q.degree h)) _ rows_fit) ∙ list_sum-listed L 0 h _
          ∙ sum_cong L 0 h _ _ (λ x a b. ap (q.rule h v (node F x)) (columns_node L h v fs x (omega (arith, rows_most)) (omega arith)))
          ∙ Q.rows_add_up h v fit fs w

      pub honest_add_up : Within F h v fs → AddUp F q h v (honest F h v q fs) (q.tally h v fs)
      honest_add_up w = honest_sum w ∙ sym (claim_image_lem (q.tally h v fs) (claim_range (q.tally h v fs) (Q.tally_least h v fit fs w) (Q.tally_most h v fit fs w)))

      -- ---- other values
      pub false_unlike : Within F h v fs → (c : ℤ) (vs : List K) → q.least ≤ℤ c → c ≤ℤ q.greatest → AddUp F q h v vs c → c ≢ q.tally h v fs → vs ≢ honest F h v q fs
      false_unlike w c vs a b s d z =
          d (same_claim c (q.tally h v fs) a b (Q.tally_least h v fit fs w) (Q.tally_most h v fit fs w)
          (sym (claim_image_lem c (claim_range c a b)) ∙ sym s ∙ ap (λ ws. list_sum F (take h ws)) z ∙ honest_sum w))

      pub unlike_few : (vs : List K) → length vs ≡ suc (q.degree h) → vs ≢ honest F h v q fs → (rs : List K) → Distinct rs → AllByRecursion (λ r. Agree F q h v vs r (columns_at F h v fs r)) rs → length rs ≤ q.degree h
      unlike_few vs l n rs d agree =
          root_bound L (q.degree h) difference short (node F z.place, nonzero) rs d (each_map _ _ rs (λ r e. eval_difference r ∙ ap (λ w. sub F w (eval F rule_poly r)) (e ∙ sym (eval_rule r)) ∙ L.ring.add-neg _) agree)
        where
          z : Differ vs (honest F h v q fs)
          z = differ vs (honest F h v q fs) (l ∙ sym length_honest) n

          difference : List K
          difference = poly_add F (interpolant F vs) (scaled F (F.neg F.one) rule_poly)

          eval_difference : (X : K) → eval F difference X ≡ sub F (eval F (interpolant F vs) X) (eval F rule_poly X)
          eval_difference X =
              eval-poly_add L (interpolant F vs) (scaled F (F.neg F.one) rule_poly) X ∙ ap (F.add (eval F (interpolant F vs) X)) (eval_scaled L (F.neg F.one) rule_poly X)
              ∙ solve L.ring (eval F (interpolant F vs) X ∷ eval F rule_poly X ∷ []) (search sides depth 30) refl

          short : length difference ≤ suc (q.degree h)
          short =
              length-poly_add L (interpolant F vs) (scaled F (F.neg F.one) rule_poly) (suc (q.degree h))
              (omega (arith, (interpolation L vs (omega (arith, degree_small))).fits)) (omega (arith, length_scaled L (F.neg F.one) rule_poly, rule_short))

          nonzero : eval F difference (node F z.place) ≢ F.zero
          nonzero e =
              z.apart (sym ((interpolation L vs (omega (arith, degree_small))).takes z.place z.below)
              ∙ sub-zero L _ _ (sym (eval_difference (node F z.place)) ∙ e) ∙ sym (honest_at z.place (omega (arith, z.below))))

  pub values_against_counts : ValuesAgainstCounts F
  values_against_counts q Q h v fit fs w = record {
    honest_agree = honest_agree q Q h v fit fs;
    honest_add_up = honest_add_up q Q h v fit fs w;
    false_unlike = false_unlike q Q h v fit fs w;
    unlike_few = unlike_few q Q h v fit fs;
  }
