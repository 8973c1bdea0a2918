-- What both ends agree on when a question is asked of a grid: whether it suits, what its sheet has to state, and the honest values. Assumes nothing.
use Rattle.std.specs.Prelude.{ℕ, suc, Bool, true, false, cond, ◌&&◌, List, ℤ, Ok, Err, Result, nat_le}
use Rattle.refusal.specs.declared.refusal.Refusal.{Refusal}
use Rattle.refusal.specs.declared.refusal.Refusal.TheVariants.{QuestionUnfit}
use Rattle.field.specs.Field.{FieldModel, modulo}
use Rattle.field.specs.declared.limits.TheConstants.{INVERSES}
use Rattle.polynomial.specs.Lists.{listed}
use Rattle.polynomial.specs.Interpolation.{node}
use Rattle.polynomial.specs.Columns.{columns_at}
use Rattle.question.specs.declared.fit.Fit.{Fit}
use Rattle.question.specs.declared.fit.Fit.TheVariants as fit
use Rattle.question.specs.Question.{QuestionModel}
use Rattle.sheet.specs.declared.terms.Terms.{Terms}
use Rattle.sheet.specs.Readings.{reading}

-- whether a question fits, as a test
abbrev pub is_fit : Fit → Bool
is_fit fit.Fits = true
is_fit fit.DoesNotFit = false

module _ {K : Type 0} (q : QuestionModel K) (h v : ℕ) where
  -- the question fits the grid, and its degree is one that the ends take: from h − 1 to 252
  abbrev pub suits : Bool
  suits = is_fit (q.fits h v) && (nat_le h (suc (q.degree h)) && nat_le (q.degree h) INVERSES)

  -- what is answered to a question that does not suit
  abbrev pub suit_answer : Result (Unit {0}) Refusal
  suit_answer = cond suits (Ok tt) (Err QuestionUnfit)

  -- what a sheet for the question has to agree with
  abbrev pub terms_of : Terms
  terms_of = record {
    rows = h;
    columns = v;
    tag = q.tag;
    least = q.least;
    greatest = q.greatest;
    degree = q.degree h;
  }

module _ {K : Type 0} (F : FieldModel K) where
  -- the claim and the values that a sheet for the question states, or its first fault
  abbrev pub reading_under : QuestionModel K → ℕ → ℕ → List ℕ → Result (ℤ × List K) Refusal
  reading_under q h v sheet = reading F (terms_of q h v) sheet

  -- the image of a claim: the element whose low part is the claim's remainder by p
  abbrev pub claim_image : ℤ → K
  claim_image c = F.make (modulo F.characteristic c) 0

  -- the values of the question's polynomial at 0 to its degree: the rule on the columns there
  abbrev pub honest : ℕ → ℕ → QuestionModel K → List ℤ → List K
  honest h v q fs = listed 0 (suc (q.degree h)) (λ j. q.rule h v (node F j) (columns_at F h v fs (node F j)))
