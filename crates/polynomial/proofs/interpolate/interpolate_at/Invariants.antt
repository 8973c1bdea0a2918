use Rattle.std.proofs.Common.{◌≡◌, ◌+◌, length, drop}
use Rattle.polynomial.specs.OnePass.{first_weight, pass_from}
use Rattle.polynomial.proofs.interpolate.interpolate_at.Given as goal

abbrev pub invariant-loop-i : goal.invariant-loop-i
invariant-loop-i g l =
    let F = g.F.Field.model in
    (l.d + 1 ≡ length l.values)
    × (pass_from F l.d l.x (drop l.i l.values) l.i l.weight l.before l.all ≡ pass_from F l.d l.x l.values 0 (first_weight F l.d) F.one F.zero)
