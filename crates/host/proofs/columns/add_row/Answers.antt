use Rattle.std.proofs.Common.{◌≡◌, ◌≤◌, length, get_or, pos, ap, ◌∙◌, arith, w32}
use Rattle.std.proofs.lemmas.Int.{to_z-of_z}
use Rattle.host.proofs.Steps.{added_more, added_all, ranged_fits}
use Rattle.host.proofs.columns.add_row.Goals as goal

pub loop-y-preserved : goal.loop-y-preserved
loop-y-preserved g c =
    let F = g.F.Field.model in
    let old = c.args.sums.now in
    let fs = c.args.counts.now in
    let y = c.loop-y.y in
    let inv = c.loop-y.invariant in
    let long : length old ≤ length fs = c.requires.long in
    let read : c.image.result ≡ F.image (get_or fs y (pos 0)) = c.image.ensures ∙ ap F.image (to_z-of_z w32 (get_or fs y (pos 0)) (ranged_fits (get_or fs y (pos 0)) (c.requires.ranged y))) in
    grind (arith, added_more F c.args.weight y old fs)

pub returns : goal.returns
returns g c = c.loop-y.invariant ∙ added_all g.F.Field.model c.args.weight c.loop-y.y c.args.sums.now c.args.counts.now (omega arith)
