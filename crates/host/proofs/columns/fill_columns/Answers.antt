use Rattle.std.proofs.Common.{◌≡◌, suc, ◌-◌, ◌*◌, length, take, drop, replicate, sym, ap, ◌∙◌, ap₂, arith}
use lib.ListN.{length-replicate}
use Rattle.polynomial.specs.Interpolation.{chi}
use Rattle.polynomial.proofs.Sums.{length-listed}
use Rattle.host.specs.Rows.{added_row}
use Rattle.host.proofs.Steps.{filled_whole, columns_none, columns_from, columns_more, row_at}
use Rattle.host.proofs.columns.fill_columns.Goals as goal

pub loop-x-init : goal.loop-x-init
loop-x-init g c =
    let F = g.F.Field.model in
    let h = c.args.counts.now.grid.rows in
    let v = c.args.counts.now.grid.columns in
    let fs = c.args.counts.now.cells.now in
    let X = c.args.point in
    let n = length c.args.sums.now in
    let all = c.fill_cells.ensures ∙ filled_whole c.zero.result c.args.sums.now ∙ ap₂ replicate c.requires c.zero.ensures in
    (omega arith, ap length all ∙ length-replicate v F.zero, all ∙ columns_none F h v fs X)

pub loop-x-preserved : goal.loop-x-preserved
loop-x-preserved g c =
    let F = g.F.Field.model in
    let h = c.args.counts.now.grid.rows in
    let v = c.args.counts.now.grid.columns in
    let fs = c.args.counts.now.cells.now in
    let X = c.args.point in
    let x = c.loop-x.x - 1 in
    let row = take v (drop (x * v) fs) in
    let s : c.loop-x.x ≡ suc x = omega arith in
    let before = c.loop-x.invariant.2 ∙ ap (columns_from F h v fs X) s in
    let long : length row ≡ v = ap length (sym c.row.ensures.row) ∙ c.row.ensures.length in
    let more = columns_more F h v fs X x row (omega (arith, c.loop-x.invariant.0)) (omega (arith, long)) (λ y b. row_at fs (x * v) v y b) in
    let now-is = c.add_row.ensures ∙ ap₂ (λ b cs. added_row F b cs c.row.result.now) c.basis_at.ensures before ∙ ap (added_row F (chi F h x X) (columns_from F h v fs X (suc x))) c.row.ensures.row ∙ more in
    (omega (arith, c.loop-x.invariant.0), ap length now-is ∙ length-listed 0 v _, now-is)
