use Rattle.std.proofs.Common.{ap, ◌∙◌, ap₂}
use Rattle.board.specs.Banks.{cells_of}
use Rattle.verifier.specs.Judging.{judged, judged_at}
use Rattle.verifier.proofs.sealed.Sealed.judge.Goals as goal

pub returns : goal.returns
returns g c =
    let F = g.F.Field.model in
    let q = g.Q.Question.meaning c.args.question.now in
    let cells = cells_of c.args.bank.now in
    c.judge_cells.ensures
    ∙ ap₂ (λ h v. judged F h v c.self.inside.point cells q c.args.sheet.now c.args.tray.now) c.grid.ensures.0 c.grid.ensures.1
    ∙ ap (λ b. judged_at F b cells q c.args.sheet.now c.args.tray.now) c.self.view_is
