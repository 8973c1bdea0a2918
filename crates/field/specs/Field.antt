-- What a field of the interface is: its operations, and the laws that make it lawful. Assumes nothing.
use Rattle.std.specs.Prelude.{◌≡◌, ℕ, suc, ◌-◌, ◌*◌, ◌%◌, ◌<◌, ◌≤◌, Bool, ◌&&◌, ◌≢◌, ◌⊎◌, ℤ, pos, negsuc, ◌+ℤ◌, ◌*ℤ◌, Some, None, Option, ◌==◌, if◌then◌else◌, nat_lt, unsigned_abs}

-- the constants and the operations of a field with the elements K
pub record FieldModel (K : Type 0) : Type 0 where
  -- the characteristic p
  pub characteristic : ℕ
  -- 1, or 2 for a quadratic extension
  pub degree : ℕ
  -- the limit W of weights
  pub limit : ℕ
  pub zero : K
  pub one : K
  pub add : K → K → K
  pub neg : K → K
  pub mul : K → K → K
  -- one over an element; at zero it may be anything
  pub inv : K → K
  -- the element that a whole number stands for
  pub image : ℤ → K
  -- the parts of an element, and the element made of two parts
  pub low : K → ℕ
  pub high : K → ℕ
  pub make : ℕ → ℕ → K

-- the remainder of a whole number by p, from 0 to p − 1
abbrev pub modulo : ℕ → ℤ → ℕ
modulo p (pos n) = n % p
modulo p (negsuc n) = p - suc (n % p)

-- from −2,147,483,647 to 2,147,483,647
abbrev pub InRange : ℤ → Type 0
InRange n = unsigned_abs n ≤ 2147483647

-- the pairs that are parts of some element
abbrev pub PartsOf : {K : Type 0} → FieldModel K → ℕ → ℕ → Type 0
PartsOf F l h = (l < F.characteristic) × (h < F.characteristic) × (F.degree ≡ 1 → h ≡ 0)

-- high parts are below this, at characteristic p and degree e: 0 alone where e is 1
abbrev pub high_limit : ℕ → ℕ → ℕ
high_limit p e = if e == 1 then 1 else p

-- the element with these parts, where they are parts of one
abbrev pub element : {K : Type 0} → FieldModel K → ℕ → ℕ → Option K
element F l h = if nat_lt l F.characteristic && nat_lt h (high_limit F.characteristic F.degree) then Some (F.make l h) else None

-- elements are the same where both parts agree
abbrev pub same : {K : Type 0} → FieldModel K → K → K → Bool
same F x y = F.low x == F.low y && F.high x == F.high y

-- the inverse of an element, which zero does not have
abbrev pub inverse : {K : Type 0} → FieldModel K → K → Option K
inverse F x = if same F x F.zero then None else Some (F.inv x)

-- the limits of the three constants
pub record Bounds {K : Type 0} (F : FieldModel K) : Type 0 where
  pub characteristic_least : 65537 ≤ F.characteristic
  pub characteristic_most : F.characteristic ≤ 2147483647
  pub degree_is : (F.degree ≡ 1) ⊎ (F.degree ≡ 2)
  pub limit_least : 1 ≤ F.limit
  pub limit_most : F.limit * F.limit < F.characteristic

-- a commutative ring
pub record Ring {K : Type 0} (F : FieldModel K) : Type 0 where
  pub add_assoc : (x y z : K) → F.add (F.add x y) z ≡ F.add x (F.add y z)
  pub add_comm : (x y : K) → F.add x y ≡ F.add y x
  pub add-zero : (x : K) → F.add x F.zero ≡ x
  pub add-neg : (x : K) → F.add x (F.neg x) ≡ F.zero
  pub mul_assoc : (x y z : K) → F.mul (F.mul x y) z ≡ F.mul x (F.mul y z)
  pub mul_comm : (x y : K) → F.mul x y ≡ F.mul y x
  pub mul-one : (x : K) → F.mul x F.one ≡ x
  pub mul-add : (x y z : K) → F.mul x (F.add y z) ≡ F.add (F.mul x y) (F.mul x z)

-- images of whole numbers, inside their range
pub record Images {K : Type 0} (F : FieldModel K) : Type 0 where
  pub of_zero : F.image (pos 0) ≡ F.zero
  pub of_one : F.image (pos 1) ≡ F.one
  pub of_add : (a b : ℤ) → InRange a → InRange b → InRange (a +ℤ b) → F.image (a +ℤ b) ≡ F.add (F.image a) (F.image b)
  pub of_mul : (a b : ℤ) → InRange a → InRange b → InRange (a *ℤ b) → F.image (a *ℤ b) ≡ F.mul (F.image a) (F.image b)
  -- an image is zero exactly when p divides the number
  pub zero_if : (a : ℤ) → InRange a → modulo F.characteristic a ≡ 0 → F.image a ≡ F.zero
  pub zero_only_if : (a : ℤ) → InRange a → F.image a ≡ F.zero → modulo F.characteristic a ≡ 0

-- every element but zero times its inverse is one
pub record Inverses {K : Type 0} (F : FieldModel K) : Type 0 where
  pub mul-inv : (x : K) → x ≢ F.zero → F.mul x (F.inv x) ≡ F.one

-- elements and pairs of parts match one to one
pub record Parts {K : Type 0} (F : FieldModel K) : Type 0 where
  pub within : (x : K) → PartsOf F (F.low x) (F.high x)
  pub make_parts : (x : K) → F.make (F.low x) (F.high x) ≡ x
  pub low-make : (l h : ℕ) → PartsOf F l h → F.low (F.make l h) ≡ l
  pub high-make : (l h : ℕ) → PartsOf F l h → F.high (F.make l h) ≡ h
  pub low-image : (a : ℤ) → InRange a → F.low (F.image a) ≡ modulo F.characteristic a
  pub high-image : (a : ℤ) → InRange a → F.high (F.image a) ≡ 0

-- what a field has to show
pub record LawfulField {K : Type 0} (F : FieldModel K) : Type 0 where
  pub bounds : Bounds F
  pub ring : Ring F
  pub images : Images F
  pub inverses : Inverses F
  pub parts : Parts F

-- no element times itself is w
abbrev pub NoSquare : {K : Type 0} → FieldModel K → K → Type 0
NoSquare {K} F w = (x : K) → F.mul x x ≢ w

-- a field of degree 1 with an element that is no square
pub record LawfulBase {K : Type 0} (F : FieldModel K) (w : K) : Type 0 where
  pub plain : F.degree ≡ 1
  pub no_square : NoSquare F w
