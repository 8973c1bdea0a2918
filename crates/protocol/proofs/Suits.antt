-- What a question that suits a grid keeps to. Assumes nothing.
use Rattle.std.proofs.Common.{◌≡◌, ℕ, suc, ◌≤◌, Bool, true, false, cond, Ok, Err, Result, refl, arith, leb-true}
use Rattle.std.proofs.lemmas.Bool.{and_parts}
use borrow.Author.Tests.{clash}
use Rattle.refusal.specs.declared.refusal.Refusal.{Refusal}
use Rattle.refusal.specs.declared.refusal.Refusal.TheVariants.{QuestionUnfit}
use Rattle.field.specs.declared.limits.TheConstants.{INVERSES}
use Rattle.question.specs.declared.fit.Fit.{Fit}
use Rattle.question.specs.declared.fit.Fit.TheVariants as fit
use Rattle.question.specs.Question.{QuestionModel}
use Rattle.protocol.specs.Asking.{is_fit, suits, suit_answer}

-- it fits, and its degree is from h − 1 to 252
pub record SuitsGrid {K : Type 0} (q : QuestionModel K) (h v : ℕ) : Type 0 where
  pub fits : q.fits h v ≡ fit.Fits
  pub degree_least : h ≤ suc (q.degree h)
  pub degree_most : q.degree h ≤ INVERSES

is_fit_lem : (f : Fit) → is_fit f ≡ true → f ≡ fit.Fits
is_fit_lem fit.Fits e = refl
is_fit_lem fit.DoesNotFit e = absurd (clash e)

module _ {K : Type 0} (q : QuestionModel K) (h v : ℕ) where
  pub suited : suits q h v ≡ true → SuitsGrid q h v
  suited e =
      let (a, e) = and_parts _ _ e in
      let (b, c) = and_parts _ _ e in
      record { fits = is_fit_lem (q.fits h v) a; degree_least = leb-true _ _ b; degree_most = leb-true _ _ c }

  -- a question is granted just where it suits, and is refused in one way
  pub suit_granted : (u : Unit {0}) → suit_answer q h v ≡ Ok u → suits q h v ≡ true
  suit_granted u e = go (suits q h v) refl e
    where
      go : (b : Bool) → suits q h v ≡ b → cond {A = Result (Unit {0}) Refusal} b (Ok tt) (Err QuestionUnfit) ≡ Ok u → suits q h v ≡ true
      go true p e = p
      go false p e = absurd (let z : ◌≡◌ {A = ℕ} 0 1 = cc in omega arith)
