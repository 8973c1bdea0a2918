-- Polynomials over a field, as lists of coefficients, the constant one first. A degree of at most d is a length of at most d + 1. Assumes nothing.
use Rattle.std.specs.Prelude.{◌≡◌, ℕ, suc, ◌+◌, ◌≤◌, ◌≢◌, List, [], ◌∷◌, length}
use Rattle.field.specs.Field.{FieldModel}
use Rattle.polynomial.specs.Lists.{AnyByRecursion, Distinct}
use Rattle.std.specs.List.{AllByRecursion}

module _ {K : Type 0} (F : FieldModel K) where
  -- x − y
  abbrev pub sub : K → K → K
  sub x y = F.add x (F.neg y)

  -- the value at x
  abbrev pub eval : List K → K → K
  eval [] x = F.zero
  eval (c ∷ cs) x = F.add c (F.mul x (eval cs x))

  -- a times the polynomial
  abbrev pub scaled : K → List K → List K
  scaled a [] = []
  scaled a (c ∷ cs) = F.mul a c ∷ scaled a cs

  -- the sum of two polynomials
  abbrev pub poly_add : List K → List K → List K
  poly_add [] q = q
  poly_add (a ∷ p) [] = a ∷ p
  poly_add (a ∷ p) (b ∷ q) = F.add a b ∷ poly_add p q

  -- the product of two polynomials
  abbrev pub poly_mul : List K → List K → List K
  poly_mul [] q = []
  poly_mul (a ∷ p) q = poly_add (scaled a q) (F.zero ∷ poly_mul p q)

  -- the polynomial is not zero at some point
  abbrev pub Nonzero : List K → Type 0
  Nonzero p = (x : K) × (eval p x ≢ F.zero)

  -- the polynomial is zero at x
  abbrev pub Root : List K → K → Type 0
  Root p x = eval p x ≡ F.zero

-- what sums, multiples and products come to at a point, and what their degrees are
pub record Operations {K : Type 0} (F : FieldModel K) : Type 0 where
  pub at_sum : (p q : List K) (x : K) → eval F (poly_add F p q) x ≡ F.add (eval F p x) (eval F q x)
  pub at_scaled : (a : K) (p : List K) (x : K) → eval F (scaled F a p) x ≡ F.mul a (eval F p x)
  pub at_product : (p q : List K) (x : K) → eval F (poly_mul F p q) x ≡ F.mul (eval F p x) (eval F q x)
  pub sum_fits : (p q : List K) (n : ℕ) → length p ≤ n → length q ≤ n → length (poly_add F p q) ≤ n
  pub scaled_fits : (a : K) (p : List K) → length (scaled F a p) ≡ length p
  pub product_fits : (p q : List K) (m n : ℕ) → length p ≤ suc m → length q ≤ suc n → length (poly_mul F p q) ≤ suc (m + n)

-- a polynomial of degree at most d that is not zero everywhere has at most d different roots
abbrev pub RootBound : {K : Type 0} → FieldModel K → Type 0
RootBound {K} F = (d : ℕ) (p : List K) → length p ≤ suc d → Nonzero F p → (rs : List K) → Distinct rs → AllByRecursion (Root F p) rs → length rs ≤ d

-- a polynomial that is not zero everywhere, with a bound of its degree
pub record Bounded {K : Type 0} (F : FieldModel K) : Type 0 where
  pub poly : List K
  pub degree : ℕ
  pub fits : length poly ≤ suc degree
  pub nonzero : Nonzero F poly

-- the sum of the bounds
abbrev pub degrees : {K : Type 0} {F : FieldModel K} → List (Bounded F) → ℕ
degrees [] = 0
degrees (b ∷ bs) = b.degree + degrees bs

-- different points, each a root of one of several polynomials, are no more than the degrees come to
abbrev pub Counting : {K : Type 0} → FieldModel K → Type 0
Counting {K} F = (bs : List (Bounded F)) (rs : List K) → Distinct rs → AllByRecursion (λ r. AnyByRecursion (λ b. Root F b.poly r) bs) rs → length rs ≤ degrees bs
