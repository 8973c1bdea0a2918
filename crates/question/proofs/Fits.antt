-- What a question that fits a grid says. Assumes nothing.
use Rattle.std.proofs.Common.{◌≡◌, Bool, true, false, refl}
use Rattle.question.specs.declared.fit.Fit.TheVariants as fit
use Rattle.question.specs.Question.{fits_if}

-- a question fits only where its test holds
pub test_holds : (b : Bool) → fits_if b ≡ fit.Fits → b ≡ true
test_holds true e = refl
test_holds false e = cc
