use Rattle.std.proofs.Common.{rules}
use Rattle.std.specs.Fmt.{digits}
use Rattle.text.specs.Items.{items_pass}
use Rattle.worked.proofs.sheet_cases.Goals as goal

-- computed, case by case
pub returns : goal.returns
unfolding items_pass digits
returns c = search rules
