use Rattle.season.proofs.CellsLaw.{cell_lawful}
use Rattle.season.proofs.cell.cell_is_lawful.Goals as goal

pub returns : goal.returns
returns g c = cell_lawful g.met.F.Field.lawful
