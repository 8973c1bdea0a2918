-- The question about the sum of the squares of all counts. Assumes nothing.
use Rattle.std.specs.Prelude.{◌-◌, ◌*◌, true, List, [], ◌∷◌, ℤ, pos, ◌+ℤ◌, ◌*ℤ◌}
use Rattle.field.specs.Field.{FieldModel}
use Rattle.question.specs.Question.{QuestionModel, LawfulQuestion, fits_if}

-- the sum of the squares of the counts
abbrev pub squares_tally : List ℤ → ℤ
squares_tally [] = pos 0
squares_tally (f ∷ fs) = f *ℤ f +ℤ squares_tally fs

module _ {K : Type 0} (F : FieldModel K) where
  -- the sum of the squares of the columns
  abbrev pub squares_rule : List K → K
  squares_rule [] = F.zero
  squares_rule (c ∷ cs) = F.add (F.mul c c) (squares_rule cs)

  -- the squares of all counts, added
  abbrev pub squares_question : QuestionModel K
  squares_question = record {
    fits = λ h v. fits_if true;
    degree = λ h. 2 * (h - 1);
    least = pos 0;
    greatest = pos (F.limit * F.limit);
    tag = record { kind = 4; first = 0; second = 0 };
    tally = λ h v fs. squares_tally fs;
    rule = λ h v X cs. squares_rule cs;
  }

  -- it is lawful
  abbrev pub SquaresLawful : Type 0
  SquaresLawful = LawfulQuestion F squares_question
