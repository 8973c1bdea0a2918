use Rattle.std.proofs.Common.{◌≡◌, suc, ◌+◌, take, ◌∙◌, ap₂, arith, w64}
use Rattle.std.proofs.lemmas.Int.{to_z-of_z}
use Rattle.verifier.specs.Judging.{weighed}
use Rattle.verifier.proofs.judging.settle.Goals as goal

pub returns-then-is_err-clause-answer : goal.returns-then-is_err-clause-answer
returns-then-is_err-clause-answer g c =
    let asked = c.args.asked.now in
    let count : asked.degree + 1 ≡ suc asked.degree = omega arith in
    c.weigh-answer.ensures
    ∙ ap₂ (λ z n. weighed g.F.Field.model asked.grid.rows asked.grid.columns c.args.point c.args.columns.now (g.Q.Question.meaning asked.question.now) z (take n c.args.tray.now)) (to_z-of_z w64 c.args.claim c.ranges.claim) count
