use Rattle.std.proofs.Common.{◌≡◌, ◌+◌, ◌-◌, ◌/◌, ◌<◌, ◌∙◌, ap, arith}
use Rattle.polynomial.specs.Sums.{sum_from}
use Rattle.polynomial.specs.Interpolation.{chi}
use Rattle.season.proofs.Rows.{row_order}
use Rattle.season.proofs.Ranges.{in_several_rows}
use Rattle.season.proofs.range.rows_rule.Goals as goal

-- the range lies in several rows; the sum over the rows between stands under a λ, where the check looks for no equation
pub returns : goal.returns
returns g c =
    let F = g.F.Field.model in
    let X = c.args.point in
    let cs = c.args.columns.now in
    let h = c.args.grid.rows in
    let v = c.args.grid.columns in
    let a = c.args.first in
    let b = c.args.last in
    let above = row_order v a b (omega arith) c.requires.ordered in
    let apart : a / v < b / v = omega arith in
    let top : c.basis_at-top.result ≡ chi F h (a / v) X = c.basis_at-top.ensures ∙ ap (λ k. chi F h k X) c.row_of-x.ensures in
    let between : c.basis_total.result ≡ sum_from F (a / v + 1) (b / v - (a / v + 1)) (λ k. chi F h k X) = c.basis_total.ensures ∙ simp (c.row_of-x.ensures, c.row_of-last_x.ensures) in
    let bottom : c.basis_at.result ≡ chi F h (b / v) X = c.basis_at.ensures ∙ ap (λ k. chi F h k X) c.row_of-last_x.ensures in
    let add = g.met.F.Field.add_law in
    let mul = g.met.F.Field.mul_law in
    let head = mul _ _ _ c.mul-head.ensures in
    let body = mul _ _ _ c.mul-body.ensures in
    let tail = mul _ _ _ c.mul-tail.ensures in
    let front = add _ _ _ c.add.ensures in
    let whole = add _ _ _ c.add-2.ensures in
    let all = in_several_rows g.met.F.Field.lawful h v X cs c.requires.wide a b (omega arith) c.requires.ordered apart in
    cc
