use Rattle.std.proofs.Common.{◌≡◌, ◌+◌, ◌-◌, ◌%◌, ◌<◌, sym, ◌∙◌, mod-eq_of_lt, arith}
use Rattle.prime.specs.Equality.{residue_path}
use Rattle.prime.specs.Remainders.{over_mod}
use Rattle.prime.proofs.operators.ResidueAdd.add.Goals as goal
use Rattle.prime.proofs.operators.ResidueAdd.add.Goals.{then-total, else-total}

-- where the total is P or more, one subtraction gives the remainder
pub returns : goal.returns
returns g c =
    let total = c.args.self.value + c.args.other.value in
    let is : c.if-total.value ≡ total % g.row.P =
    elim c.if-total.branch [
      | then-total w ↦ let below : total < g.row.P = omega (arith, w.if-total.true) in w.value-is ∙ sym (mod-eq_of_lt below)
      | else-total w ↦ let less : c.if-total.value ≡ total - g.row.P = omega (arith, w.value-is) in less ∙ over_mod total g.row.P (omega (arith, w.if-total.false)) (omega arith)
    ] in
    residue_path is
