use Rattle.std.proofs.Common.{◌%◌, eqb, rules, tests, refl, ◌∙◌}
use Rattle.std.proofs.lemmas.Iterator.{YieldsList-from_slice}
use Rattle.std.proofs.lemmas.Iterator.Consumers.{YieldsList-from_enumerate, YieldsList-from_filter, fold_from_yields_List}
use Rattle.season.specs.Goods.{goods_rule}
use Rattle.season.proofs.Sums.{Sum-field, each_of_goods}
use Rattle.season.proofs.goods.GoodsQuestion.rule.Goals as goal

-- the chain keeps the columns of the goods and adds them from the left; the definition goes over all columns from the right
pub returns : goal.returns
returns g c =
    let F = g.F.Field.model in
    let kind = c.args.self.now.kind in
    let cs = c.args.columns.now in
    fold_from_yields_List _ (λ s p. F.add s p.1) _ _ c.fold.ensures.ran (YieldsList-from_filter _ (λ p. eqb (p.0 % 8) kind) (YieldsList-from_enumerate (YieldsList-from_slice cs cc) cc) c.filter.ensures.closure (λ x r q k. search (rules, tests))) (λ a x b q k. search rules)
    ∙ each_of_goods (Sum-field g.met.F.Field.lawful) kind (goods_rule F kind) (λ _. refl) (λ _ _ _. refl) c.zero.ensures cs
