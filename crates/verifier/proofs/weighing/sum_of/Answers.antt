use Rattle.std.proofs.Common.{◌∙◌, sym, ap, rules}
use Rattle.polynomial.proofs.Sums.{list_sum_more}
use Rattle.verifier.proofs.weighing.sum_of.Goals as goal

pub loop-value-preserved : goal.loop-value-preserved
loop-value-preserved g c =
    let F = g.F.Field.model in
    let more = list_sum_more g.met.F.Field.lawful c.args.values.now c.loop-value.value-index c.value-item.result c.loop-value-test.true (search rules) in
    g.met.F.Field.add_law _ _ _ c.add-sum.ensures ∙ ap (λ s. F.add s c.value-item.result) c.loop-value.invariant ∙ sym more
