-- Residues modulo P: the operations of a prime field.
use Rattle.std.specs.Prelude.{ℕ, zero, suc, ◌+◌, ◌-◌, ◌*◌, ◌/◌, ◌%◌, ◌<◌}
use Rattle.std.proofs.Common.{mod-lt, arith}
use Rattle.field.specs.Field.{FieldModel, modulo}
use Rattle.prime.specs.declared.residue.Residue.{Residue}

-- the residue of a number
abbrev pub residue_of : (P : ℕ) → 0 < P → ℕ → Residue P
residue_of P h n = record { value = n % P; small = mod-lt n h }

-- the number from 0 to P - 1 that a residue is
abbrev pub value_of : {P : ℕ} → Residue P → ℕ
value_of x = x.value

-- a modulus that leaves a residue is above 0
pub positive : {P : ℕ} → Residue P → 0 < P
positive x = omega (arith, x.small)

-- the sum, reduced
abbrev pub plus : {P : ℕ} → Residue P → Residue P → Residue P
plus {P} x y = residue_of P (positive x) (x.value + y.value)

-- what comes to a multiple of P with x, reduced
abbrev pub minus : {P : ℕ} → Residue P → Residue P
minus {P} x = residue_of P (positive x) (P - x.value)

-- the product, reduced
abbrev pub times : {P : ℕ} → Residue P → Residue P → Residue P
times {P} x y = residue_of P (positive x) (x.value * y.value)

-- the extended Euclidean algorithm modulo p: each remainder r is its coefficient t times the number that is to be inverted
abbrev pub euclid : ℕ → ℕ → ℕ → ℕ → ℕ → ℕ → ℕ
euclid p zero r₀ r₁ t₀ t₁ = t₀
euclid p (suc fuel) r₀ zero t₀ t₁ = t₀
euclid p (suc fuel) r₀ (suc k) t₀ t₁ = euclid p fuel (suc k) (r₀ % suc k) t₁ ((t₀ + (p - (r₀ / suc k * t₁) % p)) % p)

-- what x times it leaves 1, where P is prime and x is not 0
abbrev pub inverted : {P : ℕ} → Residue P → Residue P
inverted {P} x = residue_of P (positive x) (euclid P (suc x.value) P x.value 0 1)

-- the field of the residues modulo P, with the limit W
abbrev pub prime_field : (P : ℕ) → 0 < P → ℕ → FieldModel (Residue P)
prime_field P h W = record {
  characteristic = P;
  degree = 1;
  limit = W;
  zero = residue_of P h 0;
  one = residue_of P h 1;
  add = plus;
  neg = minus;
  mul = times;
  inv = inverted;
  image = λ n. residue_of P h (modulo P n);
  low = λ x. x.value;
  high = λ x. 0;
  make = λ l k. residue_of P h l;
}
