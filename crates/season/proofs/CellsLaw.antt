-- A question about any cells of the grid, none twice, is lawful: so is one cell, and so is a range. Assumes nothing but the laws of the field.
use Rattle.std.proofs.Common.{◌≡◌, ℕ, zero, suc, ◌+◌, ◌-◌, ◌*◌, ◌/◌, ◌%◌, ◌<◌, ◌≤◌, ltb, leb, ◌≢◌, List, [], ◌∷◌, map, length, get_or, set, ℤ, pos, nat_abs, sym, refl, ap, ◌∙◌, ap₂, mod-lt, div-add-mod', arith, get_or-set_other, ltb-true, leb-true}
use Rattle.std.proofs.lemmas.Bool.{and_parts}
use lib.ListN.{get_or-map}
use Rattle.field.specs.Field.{FieldModel, LawfulField}
use Rattle.field.proofs.Solver.{zero-mul, one-mul}
use Rattle.field.proofs.Consequences.{limit_small}
use Rattle.board.specs.Ledger.{abs_sum}
use Rattle.board.proofs.Ledgers.{abs-add}
use Rattle.polynomial.specs.Lists.{Distinct, listed}
use Rattle.std.specs.List.{AllByRecursion}
use Rattle.polynomial.specs.Sums.{sum_from}
use Rattle.polynomial.specs.Polynomials.{eval, poly_add, poly_mul}
use Rattle.polynomial.specs.Interpolation.{node, chi, basis}
use Rattle.polynomial.specs.Columns.{count_image, row_images}
use Rattle.polynomial.proofs.Evals.{eval-poly_add, eval-poly_mul, length-poly_add, length-poly_mul}
use Rattle.polynomial.proofs.Lagrange.{lagrange_basis, eval-basis, chi_here, chi_elsewhere}
use Rattle.polynomial.proofs.Sums.{get_or-listed, sum_single, sum_zeros, sum-add}
use Rattle.season.specs.Cells.{cells_tally, cells_rule, CellsLawful}
use Rattle.season.specs.Cell.{CellLawful}
use Rattle.season.specs.Range.{cells_between, RangeLawful}
use Rattle.board.proofs.Grids.{AllowedGrid, allowed_grid}
use Rattle.question.proofs.Fits.{test_holds}
use Rattle.season.proofs.Rows.{row_below}
use Rattle.season.proofs.Bounds.{abs_least, abs_most, narrow_limit, limit_range, neg_limit_range}

-- ---- the counts at some cells
-- their absolute values, added
abbrev cells_abs : List ℕ → List ℤ → ℕ
cells_abs [] fs = 0
cells_abs (i ∷ is) fs = nat_abs (get_or fs i (pos 0)) + cells_abs is fs

pub tally_abs : (is : List ℕ) (fs : List ℤ) → nat_abs (cells_tally is fs) ≤ cells_abs is fs
tally_abs [] fs = omega arith
tally_abs (i ∷ is) fs = omega (arith, abs-add (get_or fs i (pos 0)) (cells_tally is fs), tally_abs is fs)

without : (fs : List ℤ) (i : ℕ) → abs_sum (set fs i (pos 0)) + nat_abs (get_or fs i (pos 0)) ≡ abs_sum fs
without [] i = omega arith
without (f ∷ fs) zero = omega arith
without (f ∷ fs) (suc i) = omega (arith, without fs i)

others : (is : List ℕ) (fs : List ℤ) (i : ℕ) → AllByRecursion (λ j. i ≢ j) is → cells_abs is (set fs i (pos 0)) ≡ cells_abs is fs
others [] fs i d = refl
others (j ∷ is) fs i d = ap₂ (λ n m. nat_abs n + m) (get_or-set_other fs i j (pos 0) (pos 0) (λ e. d.0 (sym e))) (others is fs i d.1)

pub cells_abs_lem : (is : List ℕ) (fs : List ℤ) → Distinct is → cells_abs is fs ≤ abs_sum fs
cells_abs_lem [] fs d = omega arith
cells_abs_lem (i ∷ is) fs d = omega (arith, without fs i, others is fs i d.0, cells_abs_lem is (set fs i (pos 0)) d.1)

-- ---- ranges of cells
each_above : (j a n : ℕ) → j < a → AllByRecursion (λ i. j ≢ i) (listed a n (λ i. i))
each_above j a zero b = tt
each_above j a (suc n) b = (omega arith, each_above j (suc a) n (omega arith))

distinct_range : (a n : ℕ) → Distinct (listed a n (λ i. i))
distinct_range a zero = tt
distinct_range a (suc n) = (each_above a (suc a) n (omega arith), distinct_range (suc a) n)

range_below : (a n m : ℕ) → a + n ≤ m → AllByRecursion (λ i. i < m) (listed a n (λ i. i))
range_below a zero m b = tt
range_below a (suc n) m b = (omega arith, range_below (suc a) n m (omega arith))

module _ {K : Type 0} {F : FieldModel K} (L : LawfulField F) where
  module _ (h v : ℕ) (gr : AllowedGrid h v) where
    -- ---- the polynomial
    cells_poly : List ℕ → List (List K) → List K
    cells_poly [] ps = []
    cells_poly (i ∷ is) ps = poly_add F (poly_mul F (basis F h (i / v)) (get_or ps (i % v) [])) (cells_poly is ps)

    eval_cells : (is : List ℕ) (ps : List (List K)) (X : K) → eval F (cells_poly is ps) X ≡ cells_rule F h v is X (map (λ p. eval F p X) ps)
    unfolding cells_poly
    eval_cells [] ps X = refl
    eval_cells (i ∷ is) ps X =
        eval-poly_add L (poly_mul F (basis F h (i / v)) (get_or ps (i % v) [])) (cells_poly is ps) X
        ∙ ap₂ F.add (eval-poly_mul L (basis F h (i / v)) (get_or ps (i % v) []) X ∙ ap₂ F.mul (eval-basis L h (i / v) X) (sym (get_or-map (λ p. eval F p X) ps (i % v) []))) (eval_cells is ps X)

    short_at : (ps : List (List K)) (y : ℕ) → AllByRecursion (λ p. length p ≤ h) ps → length (get_or ps y []) ≤ h
    short_at [] y e = omega arith
    short_at (p ∷ ps) zero e = e.0
    short_at (p ∷ ps) (suc y) e = short_at ps y e.1

    length_cells : (is : List ℕ) (ps : List (List K)) → AllByRecursion (λ i. i < h * v) is → AllByRecursion (λ p. length p ≤ h) ps → length (cells_poly is ps) ≤ suc (2 * (h - 1))
    unfolding cells_poly
    length_cells [] ps b e = omega arith
    length_cells (i ∷ is) ps b e =
        let x : i / v < h = row_below h v i (omega arith) b.0 in
        length-poly_add L (poly_mul F (basis F h (i / v)) (get_or ps (i % v) [])) (cells_poly is ps) (suc (2 * (h - 1)))
        (omega (arith, length-poly_mul L (basis F h (i / v)) (get_or ps (i % v) []) (h - 1) (h - 1) (omega (arith, (lagrange_basis L h (i / v) (omega arith) x).fits)) (omega (arith, short_at ps (i % v) e))))
        (length_cells is ps b.1 e)

    -- ---- the rows add up to the image of the tally
    one_cell : (fs : List ℤ) (i : ℕ) → i < h * v → sum_from F 0 h (λ x. F.mul (chi F h (i / v) (node F x)) (get_or (row_images F v fs x) (i % v) F.zero)) ≡ F.image (get_or fs i (pos 0))
    one_cell fs i b =
        let x : i / v < h = row_below h v i (omega arith) b in
        let y : i % v < v = mod-lt i (omega arith) in
        let z : 0 + i % v ≡ i % v = omega arith in
        sum_single L h (i / v) _ x (λ k c d. ap (λ w. F.mul w (get_or (row_images F v fs k) (i % v) F.zero)) (chi_elsewhere L h (i / v) k c d) ∙ zero-mul L.ring _)
        ∙ ap₂ F.mul (chi_here L h (i / v) (omega arith) (omega arith)) (get_or-listed 0 v (λ y. count_image F v fs y (i / v)) (i % v) F.zero y ∙ ap (λ y. count_image F v fs y (i / v)) z)
        ∙ one-mul L.ring _ ∙ ap (λ n. F.image (get_or fs n (pos 0))) (div-add-mod' i v)

    cells_add_up : (is : List ℕ) (fs : List ℤ) → AllByRecursion (λ i. i < h * v) is → cells_abs is fs ≤ 2147483647 → sum_from F 0 h (λ x. cells_rule F h v is (node F x) (row_images F v fs x)) ≡ F.image (cells_tally is fs)
    cells_add_up [] fs b s = sum_zeros L 0 h ∙ sym L.images.of_zero
    cells_add_up (i ∷ is) fs b s =
        sum-add L 0 h (λ x. F.mul (chi F h (i / v) (node F x)) (get_or (row_images F v fs x) (i % v) F.zero)) (λ x. cells_rule F h v is (node F x) (row_images F v fs x))
        ∙ ap₂ F.add (one_cell fs i b.0) (cells_add_up is fs b.1 (omega arith))
        ∙ sym (L.images.of_add (get_or fs i (pos 0)) (cells_tally is fs) (omega arith) (omega (arith, tally_abs is fs)) (omega (arith, tally_abs (i ∷ is) fs)))

  -- ---- lawful
  pub cells_lawful : CellsLawful F
  cells_lawful t small test is d inside = record {
    tag_small = small;
    degree_least = λ h v fits. omega arith;
    degree_most = λ h v fits. omega arith;
    polynomial = λ h v fits ps n e.
        let gr = allowed_grid h v fits.grid in
        record { poly = cells_poly h v gr is ps; short = length_cells h v gr is ps (inside h v fits.fit) e; value = eval_cells h v gr is ps };
    rows_add_up = λ h v fits fs w. cells_add_up h v (allowed_grid h v fits.grid) is fs (inside h v fits.fit) (omega (arith, cells_abs_lem is fs d, w.light, limit_small L));
    tally_least = λ h v fits fs w. abs_least (cells_tally is fs) F.limit (omega (arith, tally_abs is fs, cells_abs_lem is fs d, w.light));
    tally_most = λ h v fits fs w. abs_most (cells_tally is fs) F.limit (omega (arith, tally_abs is fs, cells_abs_lem is fs d, w.light));
    narrow = λ h v fits. narrow_limit L;
    least_range = λ h v fits. neg_limit_range L;
    greatest_range = λ h v fits. limit_range L;
  }

  pub cell_lawful : CellLawful F
  cell_lawful i b = cells_lawful _ (omega arith) _ (i ∷ []) (tt, tt) (λ h v e. (ltb-true i (h * v) (test_holds (ltb i (h * v)) e), tt))

  pub range_lawful : RangeLawful F
  range_lawful a b p q =
      cells_lawful _ (omega arith) _ (cells_between a b) (distinct_range a (suc b - a))
      (λ h v e.
      let t = and_parts (leb a b) (ltb b (h * v)) (test_holds _ e) in
      range_below a (suc b - a) (h * v) (omega (arith, leb-true a b t.0, ltb-true b (h * v) t.1)))
