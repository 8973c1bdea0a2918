use Rattle.std.proofs.Common.{◌≡◌, get_or, set, sym, ap, ◌∙◌, ap₂, subst}
use Rattle.std.proofs.lemmas.Option.{get_or_from_slice_get}
use Rattle.std.specs.Result.{result_ok}
use Rattle.board.specs.Banks.{cells_of, Rewritten}
use Rattle.verifier.specs.Calls.{move_share}
use Rattle.verifier.proofs.listening.add_share.Goals as goal

pub returns-clause-bank : goal.returns-clause-bank
returns-clause-bank g c =
    let F = g.F.Field.model in
    let cells = cells_of c.args.bank.now in
    let share = move_share F c.args.grid.rows c.args.grid.columns c.args.point c.args.m in
    let there = sym c.get.ensures ∙ c.ok_or.ensures.ok_part ∙ ap result_ok c.in_ok-sum.was in
    let sum : c.in_ok-sum.sum ≡ get_or cells c.column_of-column.result F.zero = sym (get_or_from_slice_get cells c.column_of-column.result c.in_ok-sum.sum F.zero there) in
    let added : c.add.result ≡ F.add (get_or cells c.column_of-column.result F.zero) share = g.met.F.Field.add_law _ _ _ c.add.ensures ∙ ap₂ F.add sum c.share_of.ensures in
    subst (Rewritten c.args.bank.now c.put.new.self)
    (ap (set cells c.column_of-column.result) added ∙ ap (λ y. set cells y (F.add (get_or cells y F.zero) share)) c.column_of-column.ensures)
    c.put.ensures.cells
