-- The numbers of a lawful field have at most ten digits. Assumes nothing else.
use Rattle.std.proofs.Common.{◌^◌, ◌<◌, ⊎_elim, arith}
use Rattle.field.specs.Field.{FieldModel, LawfulField}

module _ {K : Type 0} (F : FieldModel K) (L : LawfulField F) where
  pub low_small : (x : K) → F.low x < 10 ^ 10
  low_small x = let a = (L.parts.within x).0 in let b = L.bounds.characteristic_most in omega arith

  pub high_small : (x : K) → F.high x < 10 ^ 10
  high_small x = let a = (L.parts.within x).1 in let b = L.bounds.characteristic_most in omega arith

  pub characteristic_small : F.characteristic < 10 ^ 10
  characteristic_small = let b = L.bounds.characteristic_most in omega arith

  pub degree_small : F.degree < 10 ^ 10
  degree_small = ⊎_elim (λ e. omega arith) (λ e. omega arith) L.bounds.degree_is
