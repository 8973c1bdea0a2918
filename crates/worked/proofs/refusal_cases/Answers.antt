use Rattle.std.proofs.Common.{rules}
use Rattle.std.specs.Fmt.{digits}
use Rattle.worked.proofs.refusal_cases.Goals as goal

-- computed, case by case
pub returns : goal.returns
unfolding digits
returns c = search rules
