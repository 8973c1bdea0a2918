use Rattle.std.proofs.Common.{arith}
use Rattle.polynomial.proofs.Nodes.{inv-less}
use Rattle.polynomial.proofs.node.difference_inverse.Goals as goal

pub returns-else-k-x : goal.returns-else-k-x
returns-else-k-x g c = grind (arith, inv-less, g.met.F.Field.neg_law)
