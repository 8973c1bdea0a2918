use Rattle.promise.proofs.Adequacy.{every_list_runs}
use Rattle.promise.proofs.every_list_has_one_run.Goals as goal

pub returns : goal.returns
returns g c = every_list_runs g.F.Field.model
