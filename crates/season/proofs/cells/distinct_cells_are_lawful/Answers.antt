use Rattle.season.proofs.CellsLaw.{cells_lawful}
use Rattle.season.proofs.cells.distinct_cells_are_lawful.Goals as goal

pub returns : goal.returns
returns g c = cells_lawful g.met.F.Field.lawful
