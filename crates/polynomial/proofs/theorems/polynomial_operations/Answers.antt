use Rattle.polynomial.proofs.Evals.{operations}
use Rattle.polynomial.proofs.theorems.polynomial_operations.Goals as goal

pub returns : goal.returns
returns g c = operations g.met.F.Field.lawful
