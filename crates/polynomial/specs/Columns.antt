-- The columns of a board at a point: the low-degree extensions of its counts. Assumes nothing.
use Rattle.std.specs.Prelude.{◌≡◌, ℕ, ◌+◌, ◌*◌, ◌<◌, ◌≤◌, List, length, ℤ, pos, slice_index_or}
use Rattle.field.specs.Field.{FieldModel}
use Rattle.polynomial.specs.Lists.{listed}
use Rattle.polynomial.specs.Sums.{sum_from}
use Rattle.polynomial.specs.Polynomials.{eval}
use Rattle.polynomial.specs.Interpolation.{node, chi, interpolant}

module _ {K : Type 0} (F : FieldModel K) where
  -- the image of the count in row x and column y, on v columns
  abbrev pub count_image : ℕ → List ℤ → ℕ → ℕ → K
  count_image v fs y x = F.image (slice_index_or fs (x * v + y) (pos 0))

  -- column y at X: the sum over the h rows x of the count there times χ_x(X)
  abbrev pub column_at : ℕ → ℕ → List ℤ → K → ℕ → K
  column_at h v fs X y = sum_from F 0 h (λ x. F.mul (count_image v fs y x) (chi F h x X))

  -- the v columns at X
  abbrev pub columns_at : ℕ → ℕ → List ℤ → K → List K
  columns_at h v fs X = listed 0 v (column_at h v fs X)

  -- the images of the counts in row x
  abbrev pub row_images : ℕ → List ℤ → ℕ → List K
  row_images v fs x = listed 0 v (λ y. count_image v fs y x)

  -- the polynomial of column y: the one through its counts at the rows
  abbrev pub column_polynomial : ℕ → ℕ → List ℤ → ℕ → List K
  column_polynomial h v fs y = interpolant F (listed 0 h (count_image v fs y))

-- a column's polynomial is of degree h − 1 at most, is the column at every point, and takes the counts at the rows
pub record IsColumn {K : Type 0} (F : FieldModel K) (h v : ℕ) (fs : List ℤ) (y : ℕ) : Type 0 where
  pub fits : length (column_polynomial F h v fs y) ≤ h
  pub value : (X : K) → eval F (column_polynomial F h v fs y) X ≡ column_at F h v fs X y
  pub at_rows : (x : ℕ) → x < h → column_at F h v fs (node F x) y ≡ count_image F v fs y x

-- this holds of every column of every list of counts
abbrev pub ColumnsExtend : {K : Type 0} → FieldModel K → Type 0
ColumnsExtend F = (h v : ℕ) (fs : List ℤ) (y : ℕ) → h ≤ 65537 → IsColumn F h v fs y
