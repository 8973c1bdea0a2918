use Rattle.std.proofs.Common.{arith}
use Rattle.polynomial.proofs.Steps.{first_weight_step}
use Rattle.polynomial.proofs.interpolate.first_weight.Goals as goal

pub loop-k-preserved : goal.loop-k-preserved
loop-k-preserved g c = grind (arith, first_weight_step, g.met.F.Field.mul_law)

pub returns-2 : goal.returns-2
returns-2 g c = grind (arith, first_weight_step, g.met.F.Field.mul_law)
