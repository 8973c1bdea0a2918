-- The question about squares is lawful. Assumes nothing but the laws of the field.
use Rattle.std.proofs.Common.{◌≡◌, ℕ, zero, suc, ◌+◌, ◌-◌, ◌*◌, ◌<◌, ◌≤◌, List, [], ◌∷◌, map, length, get_or, ℤ, pos, ◌+ℤ◌, ◌*ℤ◌, nat_abs, sym, refl, ap, ◌∙◌, subst, ap₂, mul-le-mul, arith}
use Rattle.std.proofs.lemmas.Int.{ints}
use Rattle.field.specs.Field.{FieldModel, LawfulField}
use Rattle.field.proofs.Consequences.{limit_small}
use Rattle.board.specs.Ledger.{abs_sum}
use Rattle.polynomial.specs.Lists.{listed}
use Rattle.std.specs.List.{AllByRecursion}
use Rattle.polynomial.specs.Sums.{sum_from}
use Rattle.polynomial.specs.Polynomials.{eval, poly_add, poly_mul}
use Rattle.polynomial.specs.Columns.{count_image, row_images}
use Rattle.polynomial.proofs.Evals.{eval-poly_add, eval-poly_mul, length-poly_add, length-poly_mul}
use Rattle.polynomial.proofs.Sums.{sum_cong, all_cells}
use Rattle.season.specs.Squares.{squares_tally, squares_rule, SquaresLawful}
use Rattle.season.proofs.Tallies.{squares_sum, square, squares_pos, squares_bound}
use Rattle.board.proofs.Grids.{allowed_grid}

module _ {K : Type 0} {F : FieldModel K} (L : LawfulField F) where
  pub squares_limit : (fs : List ℤ) → abs_sum fs ≤ F.limit → squares_sum fs ≤ F.limit * F.limit
  squares_limit fs b = omega (arith, squares_bound fs, mul-le-mul b b)

  squares_listed : (j n : ℕ) (f : ℕ → K) → squares_rule F (listed j n f) ≡ sum_from F j n (λ y. F.mul (f y) (f y))
  squares_listed j zero f = refl
  squares_listed j (suc n) f = ap (F.add (F.mul (f j) (f j))) (squares_listed (suc j) n f)

  squares_image : (j : ℕ) (fs : List ℤ) (G : ℕ → ℤ) → ((k : ℕ) → k < length fs → G (j + k) ≡ get_or fs k (pos 0)) → abs_sum fs ≤ 2147483647 → squares_sum fs ≤ 2147483647
      → sum_from F j (length fs) (λ i. F.mul (F.image (G i)) (F.image (G i))) ≡ F.image (squares_tally fs)
  unfolding squares_sum
  squares_image j [] G e b c = sym L.images.of_zero
  squares_image j (f ∷ fs) G e b c =
      let z : j ≡ j + 0 = omega arith in
      let sq = square f in
      let a : nat_abs (f *ℤ f) ≡ nat_abs f * nat_abs f = ap nat_abs sq in
      let t : nat_abs (squares_tally fs) ≡ squares_sum fs = ap nat_abs (squares_pos fs) in
      let u : nat_abs (f *ℤ f +ℤ squares_tally fs) ≡ nat_abs f * nat_abs f + squares_sum fs = ap nat_abs (squares_pos (f ∷ fs)) in
      ap₂ F.add
      (ap (λ n. F.mul (F.image n) (F.image n)) (ap G z ∙ e 0 (omega arith)) ∙ sym (L.images.of_mul f f (omega arith) (omega arith) (omega arith)))
      (squares_image (suc j) fs G (λ k d. let s : suc j + k ≡ j + suc k = omega arith in ap G s ∙ e (suc k) (omega arith)) (omega arith) (omega arith))
      ∙ sym (L.images.of_add (f *ℤ f) (squares_tally fs) (omega arith) (omega arith) (omega arith))

  squares_add_up : (h v : ℕ) (fs : List ℤ) → length fs ≡ h * v → abs_sum fs ≤ F.limit → sum_from F 0 h (λ x. squares_rule F (row_images F v fs x)) ≡ F.image (squares_tally fs)
  squares_add_up h v fs n b =
      sum_cong L 0 h _ _ (λ x p q. squares_listed 0 v (λ y. count_image F v fs y x))
      ∙ all_cells L h v (λ i. F.mul (F.image (get_or fs i (pos 0))) (F.image (get_or fs i (pos 0))))
      ∙ ap (λ k. sum_from F 0 k (λ i. F.mul (F.image (get_or fs i (pos 0))) (F.image (get_or fs i (pos 0))))) (sym n)
      ∙ squares_image 0 fs (λ i. get_or fs i (pos 0)) (λ k c. let z : 0 + k ≡ k = omega arith in ap (λ i. get_or fs i (pos 0)) z) (omega (arith, limit_small L)) (omega (arith, squares_limit fs b, L.bounds.limit_most, L.bounds.characteristic_most))

  squares_poly : List (List K) → List K
  squares_poly [] = []
  squares_poly (p ∷ ps) = poly_add F (poly_mul F p p) (squares_poly ps)

  eval_squares : (ps : List (List K)) (X : K) → eval F (squares_poly ps) X ≡ squares_rule F (map (λ p. eval F p X) ps)
  unfolding squares_poly
  eval_squares [] X = refl
  eval_squares (p ∷ ps) X = eval-poly_add L (poly_mul F p p) (squares_poly ps) X ∙ ap₂ F.add (eval-poly_mul L p p X) (eval_squares ps X)

  length_squares : (n : ℕ) (ps : List (List K)) → AllByRecursion (λ p. length p ≤ suc n) ps → length (squares_poly ps) ≤ suc (2 * n)
  unfolding squares_poly
  length_squares n [] e = omega arith
  length_squares n (p ∷ ps) e = length-poly_add L (poly_mul F p p) (squares_poly ps) (suc (2 * n)) (omega (arith, length-poly_mul L p p n n e.0 e.0)) (length_squares n ps e.1)

  pub squares_lawful : SquaresLawful F
  squares_lawful = record {
    tag_small = omega arith;
    degree_least = λ h v fits. omega arith;
    degree_most = λ h v fits. omega arith;
    polynomial = λ h v fits ps n e.
        let gr = allowed_grid h v fits.grid in
        let s : suc (h - 1) ≡ h = omega arith in
        record { poly = squares_poly ps; short = length_squares (h - 1) ps (subst (λ k. AllByRecursion (λ p. length p ≤ k) ps) (sym s) e); value = eval_squares ps };
    rows_add_up = λ h v fits fs w. squares_add_up h v fs w.size w.light;
    tally_least = λ h v fits fs w. rw (squares_pos fs) (omega (arith, ints));
    tally_most = λ h v fits fs w. rw (squares_pos fs) (omega (arith, ints, squares_limit fs w.light));
    narrow = λ h v fits. omega (arith, ints, L.bounds.limit_most);
    least_range = λ h v fits. (omega (arith, ints, L.bounds.limit_most), omega (arith, ints, L.bounds.limit_most));
    greatest_range = λ h v fits. (omega (arith, ints, L.bounds.limit_most), omega (arith, ints, L.bounds.limit_most));
  }
