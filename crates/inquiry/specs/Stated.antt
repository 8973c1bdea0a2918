-- A question that fits every grid, states any degree and counts nothing.
use Rattle.std.specs.Prelude.{ℕ, true, pos, neg_ℤ}
use Rattle.field.specs.Field.{FieldModel}
use Rattle.question.specs.Question.{QuestionModel, fits_if}

-- the question that states the degree d
abbrev pub stated_question : {K : Type 0} → FieldModel K → ℕ → QuestionModel K
stated_question F d = record {
  fits = λ h v. fits_if true;
  degree = λ h. d;
  least = neg_ℤ (pos F.limit);
  greatest = pos F.limit;
  tag = record { kind = 5; first = d; second = 0 };
  tally = λ h v fs. pos 0;
  rule = λ h v X cs. F.zero;
}
