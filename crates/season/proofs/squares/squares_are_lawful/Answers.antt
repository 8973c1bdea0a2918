use Rattle.season.proofs.SquaresLaw.{squares_lawful}
use Rattle.season.proofs.squares.squares_are_lawful.Goals as goal

pub returns : goal.returns
returns g c = squares_lawful g.met.F.Field.lawful
