-- A range of cells, row by row: its rule by the sums of columns, and its tally by the counts in a row. Assumes nothing but the laws of the field.
use Rattle.std.proofs.Common.{◌≡◌, ℕ, zero, suc, ◌+◌, ◌-◌, ◌*◌, ◌/◌, ◌%◌, ◌<◌, ◌≤◌, List, length, get_or, take, drop, drop-cons, fold, ℤ, pos, ◌+ℤ◌, sym, refl, ap, ◌∙◌, ap₂, mod-lt, div-add-mod', arith, take_all}
use lib.IntN.{+ℤ_assoc}
use Rattle.std.proofs.lemmas.Int.{ints}
use lib.Arith.{digits_div, digits_mod}
use Rattle.field.specs.Field.{FieldModel, LawfulField}
use Rattle.field.proofs.Solver.{mul-zero}
use Rattle.polynomial.specs.Lists.{listed}
use Rattle.polynomial.specs.Sums.{sum_from, list_sum}
use Rattle.polynomial.specs.Interpolation.{chi}
use Rattle.polynomial.proofs.Sums.{sum_cong, sum_split, sum_shift, sum_rows}
use Rattle.season.specs.Cells.{cells_tally, cells_rule}
use Rattle.season.specs.Range.{cells_between}

-- the counts at n cells from cell a on, added to z
range_onto : (z : ℤ) (a n : ℕ) (fs : List ℤ) → a + n ≤ length fs → fold ◌+ℤ◌ z (take n (drop a fs)) ≡ z +ℤ cells_tally (listed a n (λ i. i)) fs
range_onto z a zero fs h = omega (arith, ints)
range_onto z a (suc n) fs h =
    let f = get_or fs a (pos 0) in
    rw (drop-cons fs a (pos 0) (omega arith)) (range_onto (z +ℤ f) (suc a) n fs (omega arith) ∙ +ℤ_assoc z f (cells_tally (listed (suc a) n (λ i. i)) fs))

pub range_tally : (a n : ℕ) (fs : List ℤ) → a + n ≤ length fs → fold ◌+ℤ◌ (pos 0) (take n (drop a fs)) ≡ cells_tally (listed a n (λ i. i)) fs
range_tally a n fs h = range_onto (pos 0) a n fs h ∙ omega (arith, ints)

module _ {K : Type 0} {F : FieldModel K} (L : LawfulField F) where
  -- ---- sums with a common factor
  scale_left : (j n : ℕ) (c : K) (f : ℕ → K) → sum_from F j n (λ k. F.mul c (f k)) ≡ F.mul c (sum_from F j n f)
  scale_left j zero c f = sym (mul-zero L.ring c)
  scale_left j (suc n) c f = ap (F.add (F.mul c (f j))) (scale_left (suc j) n c f) ∙ sym (L.ring.mul-add c (f j) (sum_from F (suc j) n f))

  scale_right : (j n : ℕ) (c : K) (f : ℕ → K) → sum_from F j n (λ k. F.mul (f k) c) ≡ F.mul (sum_from F j n f) c
  scale_right j n c f = sum_cong L j n (λ k. F.mul (f k) c) (λ k. F.mul c (f k)) (λ k p q. L.ring.mul_comm (f k) c) ∙ scale_left j n c f ∙ L.ring.mul_comm c _

  -- m elements from place y on
  places_sum : (y m : ℕ) (cs : List K) → y + m ≤ length cs → sum_from F y m (λ k. get_or cs k F.zero) ≡ list_sum F (take m (drop y cs))
  places_sum y zero cs h = refl
  places_sum y (suc m) cs h = rw (drop-cons cs y F.zero (omega arith)) (ap (F.add (get_or cs y F.zero)) (places_sum (suc y) m cs (omega arith)))

  module _ (h v : ℕ) (X : K) (cs : List K) (wide : length cs ≡ v) where
    -- what a cell adds
    abbrev at : ℕ → K
    at i = F.mul (chi F h (i / v) X) (get_or cs (i % v) F.zero)

    cells_sum : (a n : ℕ) → cells_rule F h v (listed a n (λ i. i)) X cs ≡ sum_from F a n at
    cells_sum a zero = refl
    cells_sum a (suc n) = ap (F.add (at a)) (cells_sum (suc a) n)

    -- m cells of row x from column y on
    row_part : (x y m : ℕ) → y + m ≤ v → sum_from F (x * v + y) m at ≡ F.mul (chi F h x X) (list_sum F (take m (drop y cs)))
    row_part x y m b =
        sum_shift L (x * v) y m at
        ∙ sum_cong L y m (λ k. at (x * v + k)) (λ k. F.mul (chi F h x X) (get_or cs k F.zero))
        (λ k p q. let c : k < v = omega arith in ap₂ (λ r s. F.mul (chi F h r X) (get_or cs s F.zero)) (digits_div x c) (digits_mod x c))
        ∙ scale_left y m (chi F h x X) (λ k. get_or cs k F.zero)
        ∙ ap (F.mul (chi F h x X)) (places_sum y m cs (omega arith))

    whole_row : (x : ℕ) → sum_from F 0 v (λ y. at (x * v + y)) ≡ F.mul (chi F h x X) (list_sum F cs)
    whole_row x =
        let z : 0 + v ≡ v = omega arith in
        sym (sum_shift L (x * v) 0 v at) ∙ row_part x 0 v (omega arith) ∙ ap (λ l. F.mul (chi F h x X) (list_sum F l)) (take_all v cs (omega arith))

    -- n whole rows from row x on
    whole_rows : (x n : ℕ) → sum_from F (x * v) (n * v) at ≡ F.mul (sum_from F x n (λ k. chi F h k X)) (list_sum F cs)
    whole_rows x n = sym (sum_rows L v x n at) ∙ sum_cong L x n _ (λ k. F.mul (chi F h k X) (list_sum F cs)) (λ k p q. whole_row k) ∙ scale_right x n (list_sum F cs) (λ k. chi F h k X)

    module _ (a b : ℕ) (pv : 0 < v) (order : a ≤ b) where
      -- the range lies in one row
      pub in_one_row : a / v ≡ b / v → cells_rule F h v (cells_between a b) X cs ≡ F.mul (chi F h (a / v) X) (list_sum F (take (b % v + 1 - a % v) (drop (a % v) cs)))
      in_one_row e =
          let p : a / v * v + a % v ≡ a = div-add-mod' a v in
          let q : a / v * v + b % v ≡ b = ap (λ n. n * v + b % v) e ∙ div-add-mod' b v in
          let n : suc b - a ≡ b % v + 1 - a % v = omega arith in
          let m : b % v < v = mod-lt b pv in
          cells_sum a (suc b - a) ∙ ap₂ (λ i k. sum_from F i k at) (sym p) n ∙ row_part (a / v) (a % v) (b % v + 1 - a % v) (omega arith)

      -- the range lies in several rows: the rest of the first, the rows between, the beginning of the last
      pub in_several_rows : a / v < b / v → cells_rule F h v (cells_between a b) X cs
          ≡ F.add (F.add (F.mul (chi F h (a / v) X) (list_sum F (take (v - a % v) (drop (a % v) cs)))) (F.mul (sum_from F (a / v + 1) (b / v - (a / v + 1)) (λ k. chi F h k X)) (list_sum F cs)))
          (F.mul (chi F h (b / v) X) (list_sum F (take (b % v + 1) cs)))
      in_several_rows lt =
          let x = a / v in
          let y = a % v in
          let n = b / v - (x + 1) in
          let p : x * v + y ≡ a = div-add-mod' a v in
          let q : b / v * v + b % v ≡ b = div-add-mod' b v in
          let r : b / v ≡ x + 1 + n = omega arith in
          let s : b / v * v ≡ x * v + v + n * v = ap (λ k. k * v) r ∙ omega arith in
          let my : y < v = mod-lt a pv in
          let mb : b % v < v = mod-lt b pv in
          let len : suc b - a ≡ v - y + (n * v + (b % v + 1)) = omega arith in
          let next : a + (v - y) ≡ (x + 1) * v = omega arith in
          let last : (x + 1) * v + n * v ≡ b / v * v + 0 = omega arith in
          cells_sum a (suc b - a) ∙ ap (λ k. sum_from F a k at) len
          ∙ sum_split L a (v - y) (n * v + (b % v + 1)) at
          ∙ ap₂ F.add
          (ap (λ i. sum_from F i (v - y) at) (sym p) ∙ row_part x y (v - y) (omega arith))
          (ap (λ i. sum_from F i (n * v + (b % v + 1)) at) next ∙ sum_split L ((x + 1) * v) (n * v) (b % v + 1) at
          ∙ ap₂ F.add (whole_rows (x + 1) n) (ap (λ i. sum_from F i (b % v + 1) at) last ∙ row_part (b / v) 0 (b % v + 1) (omega arith)))
          ∙ sym (L.ring.add_assoc _ _ _)
