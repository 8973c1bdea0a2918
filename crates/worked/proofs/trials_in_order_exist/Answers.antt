use Rattle.worked.proofs.Orders.{orders_met}
use Rattle.worked.proofs.trials_in_order_exist.Goals as goal

pub returns : goal.returns
returns g c = orders_met g.met.F.Field.lawful
