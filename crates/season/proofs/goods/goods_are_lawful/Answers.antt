use Rattle.season.proofs.GoodsLaw.{goods_lawful}
use Rattle.season.proofs.goods.goods_are_lawful.Goals as goal

pub returns : goal.returns
returns g c = goods_lawful g.met.F.Field.lawful
