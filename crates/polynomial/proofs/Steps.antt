-- One turn of the loops that evaluate the basis, the first weight and the interpolating polynomial. Assumes nothing but the laws of the field.
use Rattle.std.proofs.Common.{◌≡◌, ℕ, zero, suc, ◌+◌, ◌-◌, ◌<◌, ◌≤◌, ◌≢◌, List, [], ◌∷◌, length, get_or, drop, sym, ap, ◌∙◌, add-one, arith, drop-cons}
use Rattle.std.proofs.lemmas.List.{drop_all}
use native.Mathlib.Decide.{dec_lt}
use Rattle.field.specs.Field.{FieldModel, LawfulField}
use Rattle.polynomial.specs.Polynomials.{sub, eval}
use Rattle.polynomial.specs.Interpolation.{except, node, factor, interpolant}
use Rattle.polynomial.specs.OnePass.{first_weight, next_weight, pass_from}
use Rattle.polynomial.proofs.Excepts.{except_same, except_other}
use Rattle.polynomial.proofs.OnePass.{one_pass_lem}

module _ {K : Type 0} (F : FieldModel K) where
  -- ---- the basis
  -- the product of the factors at the k below n but x
  abbrev pub factors : ℕ → K → ℕ → K
  factors x X n = except F.mul F.one (factor F x X) n x

  pub factors_more : (x : ℕ) (X : K) (k : ℕ) → k ≢ x → factors x X (k + 1) ≡ F.mul (factor F x X k) (factors x X k)
  factors_more x X k d = ap (factors x X) (add-one k) ∙ except_other F.mul F.one (factor F x X) k x d

  pub factors_skip : (x : ℕ) (X : K) (k : ℕ) → k ≡ x → factors x X (k + 1) ≡ factors x X k
  factors_skip x X k e = ap (factors x X) (add-one k) ∙ except_same F.mul F.one (factor F x X) k x e

  -- ---- the weights
  pub first_weight_step : (k : ℕ) → 1 ≤ k → first_weight F k ≡ F.mul (F.inv (sub F (node F 0) (node F k))) (first_weight F (k - 1))
  first_weight_step zero h = absurd (omega arith)
  first_weight_step (suc k) h = let less : k ≡ suc k - 1 = omega arith in ap (λ n. F.mul (F.inv (sub F (node F 0) (node F (suc k)))) (first_weight F n)) less

  -- ---- the pass
  pub pass_end : (d : ℕ) (X : K) (vs : List K) (j : ℕ) (w l acc : K) → length vs ≤ j → pass_from F d X (drop j vs) j w l acc ≡ acc
  pass_end d X vs j w l acc h = ap (λ p. pass_from F d X p j w l acc) (drop_all j vs h)

  -- one value more; behind the last one the weight may be any
  pub pass_step : (d : ℕ) (X : K) (vs : List K) (j : ℕ) (v w w' l acc : K) → d + 1 ≡ length vs → j < length vs → v ≡ get_or vs j v → (j < d → w' ≡ next_weight F d j w)
      → pass_from F d X (drop j vs) j w l acc ≡ pass_from F d X (drop (j + 1) vs) (j + 1) w' (F.mul l (sub F X (node F j))) (F.add (F.mul acc (sub F X (node F j))) (F.mul (F.mul v w) l))
  pass_step d X vs j v w w' l acc size inside read next =
      ap (λ p. pass_from F d X p j w l acc) (drop-cons vs j v inside) ∙ ap (λ i. turned i (drop i vs) (next_weight F d j w) (get_or vs j v)) (sym (add-one j))
      ∙ ap (turned (j + 1) (drop (j + 1) vs) (next_weight F d j w)) (sym read) ∙ weight (dec_lt j d)
    where
      -- the rest of the pass, behind the value y
      turned : ℕ → List K → K → K → K
      turned i p u y = pass_from F d X p i u (F.mul l (sub F X (node F j))) (F.add (F.mul acc (sub F X (node F j))) (F.mul (F.mul y w) l))

      weight : Dec (j < d) → turned (j + 1) (drop (j + 1) vs) (next_weight F d j w) v ≡ turned (j + 1) (drop (j + 1) vs) w' v
      weight (yes h) = ap (λ u. turned (j + 1) (drop (j + 1) vs) u v) (sym (next h))
      weight (no h) = pass_end d X vs (j + 1) _ _ _ (omega arith) ∙ sym (pass_end d X vs (j + 1) w' _ _ (omega arith))

module _ {K : Type 0} {F : FieldModel K} (L : LawfulField F) where
  -- the whole pass, over a list that is not empty
  pub pass_whole : (vs : List K) (X : K) → 1 ≤ length vs → length vs ≤ 65537 → pass_from F (length vs - 1) X vs 0 (first_weight F (length vs - 1)) F.one F.zero ≡ eval F (interpolant F vs) X
  pass_whole [] X h b = absurd (omega arith)
  pass_whole (v ∷ vs) X h b =
      let e : length (v ∷ vs) - 1 ≡ length vs = omega arith in
      ap (λ d. pass_from F d X (v ∷ vs) 0 (first_weight F d) F.one F.zero) e ∙ one_pass_lem L v vs X (omega arith)
