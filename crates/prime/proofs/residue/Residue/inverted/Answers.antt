use Rattle.std.proofs.Common.{◌≡◌, ℕ, suc, ◌%◌, Some, None, if◌then◌else◌, sym, ap, ◌∙◌, subst, ne_eqb}
use Rattle.prime.specs.Residues.{inverted, euclid}
use Rattle.prime.specs.Euclid.{euclid_end}
use Rattle.prime.specs.Equality.{residue_path}
use Rattle.prime.proofs.residue.Residue.inverted.Goals as goal

-- where the remainder is 0 the other coefficient is the inverse
pub returns : goal.returns
returns g c =
    let i = c.loop-r1.invariant.4 in
    let x = c.args.self in
    let all = euclid g.row.P (suc x.value) g.row.P x.value 0 1 in
    let last : c.loop-r1.t0 ≡ all =
    euclid_end g.row.P i.0 c.loop-r1.r0 c.loop-r1.t0 c.loop-r1.t1 all (subst (λ (z : ℕ). euclid g.row.P i.0 c.loop-r1.r0 z c.loop-r1.t0 c.loop-r1.t1 ≡ all) c.loop-r1-test.false i.2) in
    ap Some (residue_path {y = inverted x} (ap (λ z. z % g.row.P) last)) ∙ sym (ap (λ b. if b then None else Some (inverted x)) (ne_eqb x.value 0 c.if-self-eq0.false))
