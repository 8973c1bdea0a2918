use Rattle.std.proofs.Common.{◌≡◌, ℕ, suc, ◌<◌, ◌≤◌}
use Rattle.prime.specs.Residues.{euclid}
use Rattle.prime.proofs.residue.Residue.inverted.Given as goal

abbrev pub invariant-loop-r1 : goal.invariant-loop-r1
invariant-loop-r1 g l =
    (l.r0 ≤ l.p) × (l.r1 < l.p) × (l.t0 < l.p) × (l.t1 < l.p)
    × ((fuel : ℕ) × (l.r1 < fuel) × (euclid l.p fuel l.r0 l.r1 l.t0 l.t1 ≡ euclid l.p (suc l.initial.r1) l.p l.initial.r1 0 1))

abbrev pub decreases-loop-r1 : goal.decreases-loop-r1
decreases-loop-r1 g l = l.r1
