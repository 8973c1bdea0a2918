use Rattle.season.proofs.SeasonLaw.{season_lawful}
use Rattle.season.proofs.season.season_is_lawful.Goals as goal

pub returns : goal.returns
returns g c = season_lawful g.met.F.Field.lawful
