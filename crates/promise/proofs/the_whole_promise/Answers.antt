use Rattle.promise.proofs.Promise.{promise}
use Rattle.promise.proofs.the_whole_promise.Goals as goal

pub returns : goal.returns
returns g c = promise g.met.F.Field.lawful
