-- Claims from −W to W, and absolute values. Assumes nothing but the laws of the field.
use Rattle.std.proofs.Common.{ℕ, ◌+◌, ◌<◌, ◌≤◌, ℤ, pos, ◌-ℤ◌, neg_ℤ, nat_abs, ◌≤ℤ◌, ◌<ℤ◌, mul-le-mul_right, arith}
use native.Mathlib.Decide.{dec_lt}
use Rattle.std.proofs.lemmas.Int.{ints}
use Rattle.field.specs.Field.{FieldModel, LawfulField}

pub abs_least : (n : ℤ) (w : ℕ) → nat_abs n ≤ w → neg_ℤ (pos w) ≤ℤ n
abs_least n w b = omega (arith, ints)

pub abs_most : (n : ℤ) (w : ℕ) → nat_abs n ≤ w → n ≤ℤ pos w
abs_most n w b = omega (arith, ints)

module _ {K : Type 0} {F : FieldModel K} (L : LawfulField F) where
  -- 2 W is below p
  pub limit_below : F.limit + F.limit < F.characteristic
  limit_below = go (dec_lt 1 F.limit)
    where
      go : Dec (1 < F.limit) → F.limit + F.limit < F.characteristic
      go (yes b) = omega (arith, mul-le-mul_right {m = 2} {n = F.limit} F.limit b, L.bounds.limit_most)
      go (no b) = omega (arith, L.bounds.characteristic_least)

  pub narrow_limit : (pos F.limit -ℤ neg_ℤ (pos F.limit)) <ℤ pos F.characteristic
  narrow_limit = omega (arith, ints, limit_below)

  pub limit_range : (neg_ℤ (pos F.characteristic) <ℤ pos F.limit) × (pos F.limit <ℤ pos F.characteristic)
  limit_range = (omega (arith, ints, limit_below), omega (arith, ints, limit_below))

  pub neg_limit_range : (neg_ℤ (pos F.characteristic) <ℤ neg_ℤ (pos F.limit)) × (neg_ℤ (pos F.limit) <ℤ pos F.characteristic)
  neg_limit_range = (omega (arith, ints, limit_below), omega (arith, ints, limit_below))
