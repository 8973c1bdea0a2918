use Rattle.std.proofs.Common.{◌≡◌, ◌+◌, ◌-◌, ◌≤◌}
use Rattle.polynomial.specs.OnePass.{first_weight}
use Rattle.polynomial.proofs.interpolate.first_weight.Given as goal

abbrev pub invariant-loop-k : goal.invariant-loop-k
invariant-loop-k g l = (l.k ≤ l.d + 1) × (l.weight ≡ first_weight g.F.Field.model (l.k - 1))
