use Rattle.std.proofs.Common.{◌∙◌, rules}
use Rattle.std.proofs.lemmas.Iterator.{YieldsList-from_slice}
use Rattle.std.proofs.lemmas.Iterator.Consumers.{fold_from_yields_List}
use Rattle.polynomial.proofs.Sums.{fold-sum}
use Rattle.polynomial.proofs.totals.total.Goals as goal

-- the fold adds from the left, the definition from the right
pub returns : goal.returns
returns g c =
    let xs = c.args.values.now in
    fold_from_yields_List _ g.F.Field.model.add _ _ c.fold.ensures.ran (YieldsList-from_slice xs cc) (λ a x b q k. search rules) ∙ fold-sum g.met.F.Field.lawful c.zero.ensures xs
