use Rattle.std.proofs.Common.{◌*◌, ◌<◌, pos, ◌+ℤ◌, sym, ap, ◌∙◌, arith, w32}
use Rattle.std.proofs.lemmas.Int.{to_z-of_z}
use Rattle.prime.specs.Equality.{residue_path}
use Rattle.prime.specs.Remainders.{modulo_raised, modulo-mod}
use Rattle.prime.proofs.prime_field.ResidueField.image.Goals as goal

-- the raised number leaves what the number leaves
pub returns : goal.returns
returns g c =
    let P = g.row.P in
    let n = c.args.n in
    let h : 0 < P = omega arith in
    let same = to_z-of_z w32 n c.ranges.n in
    residue_path (modulo_raised P 2147483648 n c.raised.result h (c.raised.ensures ∙ ap (λ z. z +ℤ pos (P * 2147483648)) same) ∙ sym (modulo-mod P n h))
