-- Sums of elements of a field. Assumes nothing.
use Rattle.std.specs.Prelude.{ℕ, zero, suc, List, [], ◌∷◌}
use Rattle.field.specs.Field.{FieldModel}

module _ {K : Type 0} (F : FieldModel K) where
  -- f j + f (j + 1) + .., n summands
  abbrev pub sum_from : ℕ → ℕ → (ℕ → K) → K
  sum_from j zero f = F.zero
  sum_from j (suc n) f = F.add (f j) (sum_from (suc j) n f)

  -- the sum of a list
  abbrev pub list_sum : List K → K
  list_sum [] = F.zero
  list_sum (x ∷ xs) = F.add x (list_sum xs)
