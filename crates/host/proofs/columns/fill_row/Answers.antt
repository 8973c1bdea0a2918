use Rattle.std.proofs.Common.{◌≡◌, ◌+◌, ◌*◌, get_or, set, pos, ap, ◌∙◌, arith, w32}
use Rattle.std.proofs.lemmas.Int.{to_z-of_z}
use Rattle.polynomial.specs.Columns.{count_image}
use Rattle.host.proofs.Steps.{listed_more, ranged_fits, row_at}
use Rattle.host.proofs.columns.fill_row.Goals as goal

pub loop-y-preserved : goal.loop-y-preserved
loop-y-preserved g c =
    let F = g.F.Field.model in
    let v = c.args.counts.now.grid.columns in
    let fs = c.args.counts.now.cells.now in
    let x = c.args.x in
    let y = c.loop-y.y in
    let f = get_or c.row-row.result.now y (pos 0) in
    let read : c.image.result ≡ F.image f = c.image.ensures ∙ ap F.image (to_z-of_z w32 f (ranged_fits f (c.row-row.ensures.ranged y))) in
    let count : f ≡ get_or fs (x * v + y) (pos 0) = ap (λ r. get_or r y (pos 0)) c.row-row.ensures.row ∙ row_at fs (x * v) v y (omega arith) in
    ap (λ s. set s y c.image.result) c.loop-y.invariant ∙ listed_more (λ y. count_image F v fs y x) y c.args.sums.now c.image.result (omega arith) (read ∙ ap F.image count)
