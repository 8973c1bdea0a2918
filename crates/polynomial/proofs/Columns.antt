-- The columns of the counts at a point: linear in the moves, the rows at the nodes, and polynomials of h coefficients. Assumes nothing but the laws of the field.
use Rattle.std.proofs.Common.{◌≡◌, ℕ, ◌+◌, ◌*◌, ◌/◌, ◌%◌, ◌<◌, ◌≤◌, ◌≢◌, ◌⊎◌, List, [], ◌∷◌, map, length, get_or, set, ℤ, pos, ◌+ℤ◌, sym, refl, ap, ◌∙◌, inl, inr, mod-lt, div-lt_iff_lt-mul, div-add-mod', arith, length-set, get_or-set_other, get_or-set_same, ext_get_or}
use lib.Arith.{digits_div, digits_mod, digits_lt}
use Rattle.field.specs.Field.{FieldModel, LawfulField, InRange}
use Rattle.field.proofs.Solver.{sides, solve, mul-zero}
use Rattle.polynomial.specs.Lists.{listed}
use Rattle.std.specs.List.{AllByRecursion}
use Rattle.polynomial.specs.Polynomials.{eval}
use Rattle.polynomial.specs.Interpolation.{node, chi}
use Rattle.polynomial.specs.Columns.{count_image, column_at, columns_at, row_images, column_polynomial, ColumnsExtend}
use Rattle.polynomial.proofs.Excepts.{eqb_cases}
use Rattle.polynomial.proofs.Lagrange.{mixed, eval_blend, interpolation, chi_here, chi_elsewhere}
use Rattle.polynomial.proofs.Sums.{length-listed, get_or-listed, listed_cong, each_listed, map-listed, sum_cong, sum_change, sum_single, mixed_listed}

-- ---- row and column of a cell
same_row : (v x y x' y' : ℕ) → y < v → y' < v → x * v + y ≡ x' * v + y' → x ≡ x'
same_row v x y x' y' b c e = sym (digits_div x b) ∙ ap (λ n. n / v) e ∙ digits_div x' c

same_column : (v x y x' y' : ℕ) → y < v → y' < v → x * v + y ≡ x' * v + y' → y ≡ y'
same_column v x y x' y' b c e = sym (digits_mod x b) ∙ ap (λ n. n % v) e ∙ digits_mod x' c

cell_inside : (h v x y : ℕ) → y < v → x < h → x * v + y < h * v
cell_inside h v x y b c = digits_lt c b

module _ {K : Type 0} {F : FieldModel K} (L : LawfulField F) where
  -- ---- a move adds to one column
  module _ (h v : ℕ) (fs : List ℤ) (x y : ℕ) (a : ℤ) (X : K) (size : length fs ≡ h * v) (xh : x < h) (yv : y < v)
      (before : InRange (get_or fs (x * v + y) (pos 0))) (amount : InRange a) (later : InRange (get_or fs (x * v + y) (pos 0) +ℤ a)) where
    gs : List ℤ
    gs = set fs (x * v + y) (get_or fs (x * v + y) (pos 0) +ℤ a)

    other_column : (z : ℕ) → z < v → z ≢ y → column_at F h v gs X z ≡ column_at F h v fs X z
    unfolding gs
    other_column z b d =
        sum_cong L 0 h _ _ (λ k p q. ap (λ n. F.mul (F.image n) (chi F h k X)) (get_or-set_other fs (x * v + y) (k * v + z) _ (pos 0) (λ e. d (same_column v k z x y b yv e))))

    this_column : column_at F h v gs X y ≡ F.add (column_at F h v fs X y) (F.mul (F.image a) (chi F h x X))
    unfolding gs
    this_column =
        sum_change L 0 h x _ _ (F.mul (F.image a) (chi F h x X)) (omega arith) (omega arith)
        (λ k p q d. ap (λ n. F.mul (F.image n) (chi F h k X)) (get_or-set_other fs (x * v + y) (k * v + y) _ (pos 0) (λ e. d (same_row v k y x y yv yv e))))
        (ap (λ n. F.mul (F.image n) (chi F h x X)) (get_or-set_same fs (x * v + y) _ (pos 0) (omega (arith, cell_inside h v x y yv xh)))
        ∙ ap (λ w. F.mul w (chi F h x X)) (L.images.of_add _ a before amount later)
        ∙ solve L.ring (F.image (get_or fs (x * v + y) (pos 0)) ∷ F.image a ∷ chi F h x X ∷ []) (search sides depth 30) refl)

    at_column : (z : ℕ) → z < v → get_or (columns_at F h v gs X) z F.zero ≡ column_at F h v gs X z
    at_column z b = let e : 0 + z ≡ z = omega arith in get_or-listed 0 v (column_at F h v gs X) z F.zero b ∙ ap (column_at F h v gs X) e

    at_old : (z : ℕ) → z < v → get_or (columns_at F h v fs X) z F.zero ≡ column_at F h v fs X z
    at_old z b = let e : 0 + z ≡ z = omega arith in get_or-listed 0 v (column_at F h v fs X) z F.zero b ∙ ap (column_at F h v fs X) e

    added : List K
    added = set (columns_at F h v fs X) y (F.add (get_or (columns_at F h v fs X) y F.zero) (F.mul (F.image a) (chi F h x X)))

    columns-add : columns_at F h v gs X ≡ added
    unfolding added
    columns-add =
        ext_get_or F.zero _ _ (length-listed 0 v _ ∙ sym (length-set (columns_at F h v fs X) y _ ∙ length-listed 0 v _))
        (λ z b. go z (omega (arith, length-listed 0 v (column_at F h v gs X))) (eqb_cases z y))
      where
        go : (z : ℕ) → z < v → (z ≡ y) ⊎ (z ≢ y) → get_or (columns_at F h v gs X) z F.zero ≡ get_or added z F.zero
        go z b (inl e) =
            ap (λ n. get_or (columns_at F h v gs X) n F.zero) e ∙ at_column y yv ∙ this_column
            ∙ ap (λ w. F.add w (F.mul (F.image a) (chi F h x X))) (sym (at_old y yv))
            ∙ sym (get_or-set_same (columns_at F h v fs X) y _ F.zero (omega (arith, length-listed 0 v (column_at F h v fs X))))
            ∙ ap (λ n. get_or added n F.zero) (sym e)
        go z b (inr d) = at_column z b ∙ other_column z b d ∙ sym (at_old z b) ∙ sym (get_or-set_other (columns_at F h v fs X) y z _ F.zero d)

  -- the same, at a cell of the board
  pub columns_move : (h v : ℕ) (fs : List ℤ) (i : ℕ) (a : ℤ) (X : K) → length fs ≡ h * v → 0 < v → i < h * v
      → InRange (get_or fs i (pos 0)) → InRange a → InRange (get_or fs i (pos 0) +ℤ a)
      → columns_at F h v (set fs i (get_or fs i (pos 0) +ℤ a)) X ≡ set (columns_at F h v fs X) (i % v) (F.add (get_or (columns_at F h v fs X) (i % v) F.zero) (F.mul (F.image a) (chi F h (i / v) X)))
  unfolding gs added
  columns_move h v fs i a X size pv inside before amount later =
      let e : i / v * v + i % v ≡ i = div-add-mod' i v in
      ap (λ n. columns_at F h v (set fs n (get_or fs n (pos 0) +ℤ a)) X) (sym e)
      ∙ columns-add h v fs (i / v) (i % v) a X size ((div-lt_iff_lt-mul pv).1 inside) (mod-lt i pv) (rw e before) amount (rw e later)

  -- ---- at the nodes the columns are the rows
  pub column_node : (h v : ℕ) (fs : List ℤ) (x y : ℕ) → h ≤ 65537 → x < h → column_at F h v fs (node F x) y ≡ count_image F v fs y x
  column_node h v fs x y b c =
      sum_single L h x _ c (λ k r d. ap (F.mul (count_image F v fs y k)) (chi_elsewhere L h k x c (λ e. d (sym e))) ∙ mul-zero L.ring _)
      ∙ ap (F.mul (count_image F v fs y x)) (chi_here L h x b (omega arith)) ∙ L.ring.mul-one _

  pub columns_node : (h v : ℕ) (fs : List ℤ) (x : ℕ) → h ≤ 65537 → x < h → columns_at F h v fs (node F x) ≡ row_images F v fs x
  columns_node h v fs x b c = listed_cong 0 v _ _ (λ y p q. column_node h v fs x y b c)

  -- ---- each column is a polynomial of h coefficients at most
  module _ (h v : ℕ) (fs : List ℤ) where
    pub eval-column : (y : ℕ) (X : K) → eval F (column_polynomial F h v fs y) X ≡ column_at F h v fs X y
    eval-column y X =
        eval_blend L (length (listed 0 h (count_image F v fs y))) 0 (listed 0 h (count_image F v fs y)) X
        ∙ ap (λ n. mixed L n 0 (listed 0 h (count_image F v fs y)) X) (length-listed 0 h (count_image F v fs y))
        ∙ mixed_listed L h 0 h (count_image F v fs y) X

    pub short_column : h ≤ 65537 → (y : ℕ) → length (column_polynomial F h v fs y) ≤ h
    short_column b y =
        let n = length-listed 0 h (count_image F v fs y) in
        omega (arith, (interpolation L (listed 0 h (count_image F v fs y)) (omega arith)).fits)

    -- the polynomials of the columns
    pub column_polynomials : List (List K)
    column_polynomials = listed 0 v (column_polynomial F h v fs)

    pub eval-columns : (X : K) → map (λ p. eval F p X) column_polynomials ≡ columns_at F h v fs X
    unfolding column_polynomials
    eval-columns X = map-listed (λ p. eval F p X) 0 v (column_polynomial F h v fs) ∙ listed_cong 0 v _ _ (λ y p q. eval-column y X)

    pub length-columns : length column_polynomials ≡ v
    unfolding column_polynomials
    length-columns = length-listed 0 v (column_polynomial F h v fs)

    pub short_columns : h ≤ 65537 → AllByRecursion (λ p. length p ≤ h) column_polynomials
    unfolding column_polynomials
    short_columns b = each_listed _ 0 v (column_polynomial F h v fs) (short_column b)

  pub columns_extend : ColumnsExtend F
  columns_extend h v fs y b = record {
    fits = short_column h v fs b y;
    value = eval-column h v fs y;
    at_rows = λ x c. column_node h v fs x y b c;
  }
