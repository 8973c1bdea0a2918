use Rattle.polynomial.proofs.Lagrange.{interpolation}
use Rattle.polynomial.proofs.theorems.one_polynomial_through_values.Goals as goal

pub returns : goal.returns
returns g c = interpolation g.met.F.Field.lawful
