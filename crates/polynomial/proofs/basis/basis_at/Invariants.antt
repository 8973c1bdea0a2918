use Rattle.std.proofs.Common.{◌≡◌}
use Rattle.polynomial.specs.Polynomials.{sub}
use Rattle.polynomial.specs.Interpolation.{node}
use Rattle.polynomial.proofs.Steps.{factors}
use Rattle.polynomial.proofs.basis.basis_at.Given as goal

abbrev pub invariant-loop-k : goal.invariant-loop-k
invariant-loop-k g l =
    let F = g.F.Field.model in
    (l.step ≡ sub F l.fn.point (node F l.k)) × (l.less ≡ F.neg F.one) × (l.all ≡ factors F l.x l.fn.point l.k)
