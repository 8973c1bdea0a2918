use Rattle.std.proofs.Common.{◌≡◌, take, Ok, sym, ap, ◌∙◌, ap₂}
use Rattle.board.specs.Banks.{cells_of}
use Rattle.host.specs.Answering.{answered_at}
use Rattle.verifier.specs.Judging.{judged_at}
use Rattle.play.specs.Trials.{judged_answer}
use Rattle.play.proofs.trial.judge_answer.Goals as goal

pub returns : goal.returns
returns g c =
    let F = g.F.Field.model in
    let q = g.Q.Question.meaning c.args.question.now in
    let counts = cells_of c.args.counts.now in
    let sums = cells_of c.args.sums.now in
    let n = c.in_ok-length.length in
    let given = answered_at F c.args.host.now counts q c.args.tray.now c.args.paper.now in
    let told = c.answer.ensures in
    let answer : given.answer ≡ Ok (c.in_ok-length.field-0-0, n) = sym (ap (λ a. a.answer) told) ∙ c.in_ok-length.was in
    let judged = c.judge.ensures ∙ ap₂ (λ paper tray. judged_at F c.args.verifier.now sums q (take n paper) tray) (ap (λ a. a.paper) told) (ap (λ a. a.tray) told) in
    ap₂ (λ j paper. record { answer = j.answer; memory = record { counts = counts; sums = sums; tray = j.tray; paper = paper } }) judged (ap (λ a. a.paper) told)
    ∙ sym (ap (λ a. judged_answer F c.args.verifier.now q (record { counts = counts; sums = sums; tray = c.args.tray.now; paper = c.args.paper.now }) a given.tray given.paper) answer)
