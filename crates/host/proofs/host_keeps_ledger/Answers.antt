use Rattle.host.proofs.Stands.{host_keeps_ledger}
use Rattle.host.proofs.host_keeps_ledger.Goals as goal

pub returns : goal.returns
returns c = host_keeps_ledger
