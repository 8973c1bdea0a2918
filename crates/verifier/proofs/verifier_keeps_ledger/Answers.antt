use Rattle.verifier.proofs.Stands.{verifier_keeps_ledger}
use Rattle.verifier.proofs.verifier_keeps_ledger.Goals as goal

pub returns : goal.returns
returns g c = verifier_keeps_ledger g.met.F.Field.lawful
