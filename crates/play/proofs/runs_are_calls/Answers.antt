use Rattle.play.proofs.Adequacy.{runs_are_calls}
use Rattle.play.proofs.runs_are_calls.Goals as goal

pub returns : goal.returns
returns g c = runs_are_calls g.F.Field.model
