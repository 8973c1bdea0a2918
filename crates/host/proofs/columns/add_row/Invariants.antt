use Rattle.std.proofs.Common.{◌≡◌}
use Rattle.host.proofs.Steps.{added_first}
use Rattle.host.proofs.columns.add_row.Given as goal

abbrev pub invariant-loop-y : goal.invariant-loop-y
invariant-loop-y g l = l.sums ≡ added_first g.F.Field.model l.weight l.y l.initial.sums l.counts
