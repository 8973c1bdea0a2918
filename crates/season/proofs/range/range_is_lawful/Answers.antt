use Rattle.season.proofs.CellsLaw.{range_lawful}
use Rattle.season.proofs.range.range_is_lawful.Goals as goal

pub returns : goal.returns
returns g c = range_lawful g.met.F.Field.lawful
