-- The question about the count at one cell. Assumes nothing.
use Rattle.std.specs.Prelude.{ℕ, ◌*◌, ◌≤◌, [], ◌∷◌, nat_lt}
use Rattle.field.specs.Field.{FieldModel}
use Rattle.question.specs.Question.{QuestionModel, LawfulQuestion, fits_if}
use Rattle.season.specs.Cells.{cells_question}

module _ {K : Type 0} (F : FieldModel K) where
  -- the count at cell i
  abbrev pub cell_question : ℕ → QuestionModel K
  cell_question i = cells_question F (record { kind = 1; first = i; second = 0 }) (λ h v. fits_if (nat_lt i (h * v))) (i ∷ [])

  -- at any cell it is lawful
  abbrev pub CellLawful : Type 0
  CellLawful = (i : ℕ) → i ≤ 4294967295 → LawfulQuestion F (cell_question i)
