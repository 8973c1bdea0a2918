use Rattle.polynomial.proofs.Roots.{root_bound}
use Rattle.polynomial.proofs.theorems.roots_at_most_degree.Goals as goal

pub returns : goal.returns
returns g c = root_bound g.met.F.Field.lawful
