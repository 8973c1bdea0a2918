use Rattle.promise.proofs.Values.{values_against_counts}
use Rattle.promise.proofs.values_against_counts.Goals as goal

pub returns : goal.returns
returns g c = values_against_counts g.met.F.Field.lawful
