use Rattle.season.proofs.SeasonLaw.{tags_name}
use Rattle.season.proofs.season.tags_name_questions.Goals as goal

pub returns : goal.returns
returns g c = tags_name g.F.Field.model
