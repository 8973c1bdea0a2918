-- Polynomials through given values at the nodes 0, 1, 2, .. of a field. Assumes nothing.
use Rattle.std.specs.Prelude.{◌≡◌, ℕ, zero, suc, ◌<◌, ◌≤◌, if◌then◌else◌, ◌≢◌, List, [], ◌∷◌, length, pos, ◌==◌, slice_index_or}
use Rattle.field.specs.Field.{FieldModel}
use Rattle.polynomial.specs.Polynomials.{sub, eval, scaled, poly_add, poly_mul}

-- f (n − 1) op (.. op (f 0 op unit)), without f x
abbrev pub except : {A : Type 0} → (A → A → A) → A → (ℕ → A) → ℕ → ℕ → A
except op unit f zero x = unit
except op unit f (suc k) x = if k == x then except op unit f k x else op (f k) (except op unit f k x)

module _ {K : Type 0} (F : FieldModel K) where
  -- the node k: the element that k stands for
  abbrev pub node : ℕ → K
  node k = F.image (pos k)

  -- (X − k) / (x − k)
  abbrev pub factor : ℕ → K → ℕ → K
  factor x X k = F.mul (sub F X (node k)) (F.inv (sub F (node x) (node k)))

  -- χ_x(X) on h rows: the product of (X − k) / (x − k) over the k below h but x
  abbrev pub chi : ℕ → ℕ → K → K
  chi h x X = except F.mul F.one (factor x X) h x

  -- (X − k) / (x − k) as a polynomial in X
  abbrev pub linear : ℕ → ℕ → List K
  linear x k = F.mul (F.neg (node k)) (F.inv (sub F (node x) (node k))) ∷ F.inv (sub F (node x) (node k)) ∷ []

  -- χ_x on h rows as a polynomial
  abbrev pub basis : ℕ → ℕ → List K
  basis h x = except (poly_mul F) (F.one ∷ []) (linear x) h x

  -- the sum of v χ_x over the values v, the first of them at x = j
  abbrev pub blend : ℕ → ℕ → List K → List K
  blend h j [] = []
  blend h j (v ∷ vs) = poly_add F (scaled F v (basis h j)) (blend h (suc j) vs)

  -- the polynomial through the values vs at 0, 1, 2, ..
  abbrev pub interpolant : List K → List K
  interpolant vs = blend (length vs) 0 vs

  -- the polynomial takes these values at the nodes 0, 1, 2, ..
  abbrev pub TakesValues : List K → List K → Type 0
  TakesValues p vs = (k : ℕ) → k < length vs → eval F p (node k) ≡ slice_index_or vs k F.zero

-- χ_x on h rows is a polynomial of degree h − 1, and no less, one at x and zero at the other rows
pub record IsBasis {K : Type 0} (F : FieldModel K) (h x : ℕ) : Type 0 where
  pub fits : length (basis F h x) ≤ h
  pub least : (p : List K) → ((X : K) → eval F p X ≡ chi F h x X) → h ≤ length p
  pub value : (X : K) → eval F (basis F h x) X ≡ chi F h x X
  pub here : chi F h x (node F x) ≡ F.one
  pub elsewhere : (y : ℕ) → y < h → y ≢ x → chi F h x (node F y) ≡ F.zero

-- through n values goes a polynomial with n coefficients at most, and every such polynomial is the same function
pub record IsInterpolant {K : Type 0} (F : FieldModel K) (vs : List K) : Type 0 where
  pub fits : length (interpolant F vs) ≤ length vs
  pub takes : TakesValues F (interpolant F vs) vs
  pub only : (q : List K) → length q ≤ length vs → TakesValues F q vs → (X : K) → eval F q X ≡ eval F (interpolant F vs) X

-- this holds of each row
abbrev pub LagrangeBasis : {K : Type 0} → FieldModel K → Type 0
LagrangeBasis F = (h x : ℕ) → h ≤ 65537 → x < h → IsBasis F h x

-- exactly one polynomial function goes through given values
abbrev pub Interpolation : {K : Type 0} → FieldModel K → Type 0
Interpolation {K} F = (vs : List K) → length vs ≤ 65537 → IsInterpolant F vs
