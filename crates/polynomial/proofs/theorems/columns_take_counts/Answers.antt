use Rattle.polynomial.proofs.Columns.{columns_extend}
use Rattle.polynomial.proofs.theorems.columns_take_counts.Goals as goal

pub returns : goal.returns
returns g c = columns_extend g.met.F.Field.lawful
