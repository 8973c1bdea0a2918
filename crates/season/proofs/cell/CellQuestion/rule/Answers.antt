use Rattle.std.proofs.Common.{◌≡◌, ◌<◌, ap, ◌∙◌, get_or, length, mod-lt, arith}
use Rattle.std.proofs.lemmas.List.{get_or_default}
use Rattle.board.specs.Grids.{row_of, column_of}
use Rattle.polynomial.specs.Interpolation.{chi}
use Rattle.season.proofs.cell.CellQuestion.rule.Goals as goal

-- the list of one cell
pub returns : goal.returns
returns g c =
    let F = g.F.Field.model in
    let cs = c.args.columns.now in
    let h = c.args.grid.rows in
    let v = c.args.grid.columns in
    let i = c.args.self.now.index in
    let inside : c.column_of-y.result < length cs = omega (arith, mod-lt i {m = v} (omega arith)) in
    let basis : c.basis_at.result ≡ chi F h (row_of v i) c.args.point = c.basis_at.ensures ∙ ap (λ x. chi F h x c.args.point) (c.row_of-x.ensures ∙ ap (row_of v) c.from-cell.ensures) in
    let column : c.index-columns-y.result ≡ get_or cs (column_of v i) F.zero =
    c.index-columns-y.is ∙ get_or_default cs c.column_of-y.result _ F.zero inside ∙ ap (λ y. get_or cs y F.zero) (c.column_of-y.ensures ∙ ap (column_of v) c.from-cell.ensures) in
    cc (g.met.F.Field.mul_law _ _ _ c.mul.ensures, g.met.F.Field.lawful.ring.add-zero c.mul.result)
