use Rattle.polynomial.proofs.Lagrange.{lagrange_basis}
use Rattle.polynomial.proofs.theorems.lagrange_basis.Goals as goal

pub returns : goal.returns
returns g c = lagrange_basis g.met.F.Field.lawful
