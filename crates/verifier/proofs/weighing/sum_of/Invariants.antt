use Rattle.std.proofs.Common.{◌≡◌, take}
use Rattle.polynomial.specs.Sums.{list_sum}
use Rattle.verifier.proofs.weighing.sum_of.Given as goal

abbrev pub invariant-loop-value : goal.invariant-loop-value
invariant-loop-value g l = l.sum ≡ list_sum g.F.Field.model (take l.value-index l.values)
