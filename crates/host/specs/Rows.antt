-- A row of counts added to sums of columns. Assumes nothing.
use Rattle.std.specs.Prelude.{ℕ, List, [], ◌∷◌, ℤ, pos, slice_index_or}
use Rattle.field.specs.Field.{FieldModel, InRange}

-- image(f) × b is added to each sum, for the count f beside it
abbrev pub added_row : {K : Type 0} → FieldModel K → K → List K → List ℤ → List K
added_row F b [] fs = []
added_row F b (c ∷ cs) [] = c ∷ cs
added_row F b (c ∷ cs) (f ∷ fs) = F.add (F.mul (F.image f) b) c ∷ added_row F b cs fs

-- counts whose images are defined
abbrev pub Ranged : List ℤ → Type 0
Ranged fs = (i : ℕ) → InRange (slice_index_or fs i (pos 0))
