-- Questions about the sum of the counts at any list of cells. Assumes nothing.
use Rattle.std.specs.Prelude.{◌≡◌, ℕ, ◌-◌, ◌*◌, ◌<◌, List, [], ◌∷◌, ℤ, pos, ◌+ℤ◌, neg_ℤ, slice_index_or}
use Rattle.std.specs.List.{AllByRecursion}
use Rattle.field.specs.Field.{FieldModel}
use Rattle.board.specs.Grids.{row_of, column_of}
use Rattle.board.specs.declared.tag.Tag.{Tag}
use Rattle.polynomial.specs.Lists.{Distinct}
use Rattle.polynomial.specs.Interpolation.{chi}
use Rattle.question.specs.declared.fit.Fit.{Fit}
use Rattle.question.specs.declared.fit.Fit.TheVariants as fit
use Rattle.question.specs.Question.{QuestionModel, SmallTag, LawfulQuestion}

-- the sum of the counts at the cells
abbrev pub cells_tally : List ℕ → List ℤ → ℤ
cells_tally [] fs = pos 0
cells_tally (i ∷ is) fs = slice_index_or fs i (pos 0) +ℤ cells_tally is fs

module _ {K : Type 0} (F : FieldModel K) where
  -- the sum over the cells of χ_x(X) × c_y, for the row x and the column y of the cell
  abbrev pub cells_rule : ℕ → ℕ → List ℕ → K → List K → K
  cells_rule h v [] X cs = F.zero
  cells_rule h v (i ∷ is) X cs = F.add (F.mul (chi F h (row_of v i) X) (slice_index_or cs (column_of v i) F.zero)) (cells_rule h v is X cs)

  -- the sum of the counts at a list of cells
  abbrev pub cells_question : Tag → (ℕ → ℕ → Fit) → List ℕ → QuestionModel K
  cells_question t fits is = record {
    fits = fits;
    degree = λ h. 2 * (h - 1);
    least = neg_ℤ (pos F.limit);
    greatest = pos F.limit;
    tag = t;
    tally = λ h v fs. cells_tally is fs;
    rule = λ h v X cs. cells_rule h v is X cs;
  }

  -- any list of cells, none twice, that fits only where all of them are on the grid
  abbrev pub CellsLawful : Type 0
  CellsLawful =
      (t : Tag) → SmallTag t → (fits : ℕ → ℕ → Fit) (is : List ℕ) → Distinct is
      → ((h v : ℕ) → fits h v ≡ fit.Fits → AllByRecursion (λ i. i < h * v) is) → LawfulQuestion F (cells_question t fits is)
