use Rattle.std.proofs.Common.{arith}
use Rattle.prime.proofs.Table.{entry}
use Rattle.prime.specs.Fields.{inverse_by_table}
use Rattle.prime.proofs.prime_field.ResidueField.inverse_of.Goals as goal

-- the table's entry is below P
pub invariant_of-result : goal.invariant_of-result
invariant_of-result g c = record { small = (entry g.row.P c.inverses.result.now c.inverses.ensures c.args.n (omega arith) (omega arith)).0 }

-- the table's entry times n leaves 1
pub returns : goal.returns
returns g c = inverse_by_table _ g.bound-1-met.lawful c.args.n _ (entry g.row.P c.inverses.result.now c.inverses.ensures c.args.n (omega arith) (omega arith)).1
