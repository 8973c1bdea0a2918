-- The question about the counts from one cell to another. Assumes nothing.
use Rattle.std.specs.Prelude.{ℕ, suc, ◌-◌, ◌*◌, ◌≤◌, ◌&&◌, List, nat_le, nat_lt}
use Rattle.field.specs.Field.{FieldModel}
use Rattle.polynomial.specs.Lists.{listed}
use Rattle.question.specs.Question.{QuestionModel, LawfulQuestion, fits_if}
use Rattle.season.specs.Cells.{cells_question}

-- the cells from a to b
abbrev pub cells_between : ℕ → ℕ → List ℕ
cells_between a b = listed a (suc b - a) (λ i. i)

module _ {K : Type 0} (F : FieldModel K) where
  -- the counts from cell a to cell b, added
  abbrev pub range_question : ℕ → ℕ → QuestionModel K
  range_question a b = cells_question F (record { kind = 3; first = a; second = b }) (λ h v. fits_if (nat_le a b && nat_lt b (h * v))) (cells_between a b)

  -- from any cell to any other it is lawful
  abbrev pub RangeLawful : Type 0
  RangeLawful = (a b : ℕ) → a ≤ 4294967295 → b ≤ 4294967295 → LawfulQuestion F (range_question a b)
