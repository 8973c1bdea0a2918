use Rattle.std.proofs.Common.{◌%◌, ◌+ℤ◌, pos, eqb, filter, rules, tests, refl, ◌∙◌, arith, w64}
use Rattle.std.specs.List.{enumerate_from}
use Rattle.std.proofs.lemmas.Int.{to_z-of_z}
use Rattle.std.proofs.lemmas.List.Folds.{fold-map}
use Rattle.std.proofs.lemmas.Iterator.{YieldsList-from_slice, YieldsList-from_map}
use Rattle.std.proofs.lemmas.Iterator.Consumers.{YieldsList-at, YieldsList-from_enumerate, YieldsList-from_filter}
use Rattle.std.proofs.lemmas.Iterator.Adapters.{total_from_yields_List}
use Rattle.field.proofs.Consequences.{limit_small}
use Rattle.season.specs.Goods.{goods_tally}
use Rattle.season.proofs.Sums.{Sum-ℤ, each_of_goods, sum_fits, goods_abs}
use Rattle.season.proofs.goods.GoodsQuestion.tally.Goals as goal

-- no partial sum overflows, since the absolute values come to no more than the limit
pub sum-requires-clause-fits : goal.sum-requires-clause-fits
sum-requires-clause-fits g c =
    let kind = c.args.self.now.kind in
    let fs = c.args.counts.now in
    sum_fits _ (YieldsList-from_map _ (λ p. p.1) (YieldsList-at c.map.ensures.source (YieldsList-from_filter _ (λ p. eqb (p.0 % 8) kind) (YieldsList-from_enumerate (YieldsList-from_slice fs cc) cc) c.filter.ensures.closure (λ x r q k. search (rules, tests)))) c.map.ensures.closure (λ x r q k. search rules))
    (omega (arith, goods_abs kind 0 fs, c.requires.within.light, limit_small g.met.F.Field.lawful))

-- the chain adds from the left, the definition from the right
pub returns : goal.returns
returns g c =
    let kind = c.args.self.now.kind in
    let fs = c.args.counts.now in
    to_z-of_z w64 c.sum.result (search rules)
    ∙ total_from_yields_List ◌+ℤ◌ (pos 0) _ c.sum.ensures.ran (YieldsList-from_map _ (λ p. p.1) (YieldsList-at c.map.ensures.source (YieldsList-from_filter _ (λ p. eqb (p.0 % 8) kind) (YieldsList-from_enumerate (YieldsList-from_slice fs cc) cc) c.filter.ensures.closure (λ x r q k. search (rules, tests)))) c.map.ensures.closure (λ x r q k. search rules))
    ∙ fold-map ◌+ℤ◌ (λ p. p.1) (pos 0) (filter (λ p. eqb (p.0 % 8) kind) (enumerate_from 0 fs)) ∙ each_of_goods Sum-ℤ kind (goods_tally kind) (λ _. refl) (λ _ _ _. refl) refl fs
