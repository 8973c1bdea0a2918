use Rattle.std.proofs.Common.{◌≡◌, cond, refl, to_z, of_z, suc, take, is_err, Err, sym, ap, ◌∙◌, ap₂, w64, SFits, rules}
use Rattle.std.proofs.lemmas.Int.{to_z-of_z}
use Rattle.std.proofs.lemmas.Result.{err_from_is_err_and}
use Rattle.board.specs.Banks.{filled}
use Rattle.board.proofs.Fronts.{front_read}
use Rattle.protocol.specs.Asking.{terms_of}
use Rattle.protocol.proofs.Suits.{suit_granted}
use Rattle.sheet.specs.Readings.{read_answer, tray_after}
use Rattle.verifier.specs.Judging.{weighed}
use Rattle.verifier.proofs.Judgements.{given, refused, weighing}
use Rattle.verifier.proofs.judging.judge_cells.Goals as goal

pub returns-in_err-claim : goal.returns-in_err-claim
returns-in_err-claim g c =
    let F = g.F.Field.model in
    let q = g.Q.Question.meaning c.args.question.now in
    let h = c.args.grid.rows in
    let v = c.args.grid.columns in
    let sheet = c.args.sheet.now in
    let tray = c.args.tray.now in
    let bank = c.args.bank.now.cells.now in
    let front = front_read v _ bank c.in_ok-columns.columns.now refl c.in_ok-columns.ensures.cells c.in_ok-columns.ensures.length in
    let terms : c.terms.result ≡ terms_of q h v = c.terms.ensures ∙ ap₂ (λ p k. terms_of p k.rows k.columns) (ap g.Q.Question.meaning c.in_ok-asked.ensures.question) c.in_ok-asked.ensures.grid in
    let p = err_from_is_err_and c.from_residual-in_err-claim.result c.from_residual-in_err-claim.ensures.1 in
    let a = c.in_err-claim.ensures in
    let suits = suit_granted q h v tt (sym c.in_ok-asked.ensures.answer) in
    let told = sym (a.answer ∙ ap (λ t. read_answer F t sheet tray) terms) in
    given (p.1 ∙ ap Err p.2) (a.tray ∙ ap (λ t. tray_after F t sheet tray) terms) ∙ sym (refused F h v c.args.point bank q sheet tray front.long suits _ told)

pub returns : goal.returns
returns g c =
    let F = g.F.Field.model in
    let q = g.Q.Question.meaning c.args.question.now in
    let h = c.args.grid.rows in
    let v = c.args.grid.columns in
    let cells = c.args.bank.now.cells.now in
    let sheet = c.args.sheet.now in
    let tray = c.args.tray.now in
    let asked = c.in_ok-asked.asked in
    let claim = c.in_ok-claim.claim in
    let after = c.read_sheet.new.tray in
    let front = front_read v _ cells c.in_ok-columns.columns.now refl c.in_ok-columns.ensures.cells c.in_ok-columns.ensures.length in
    let same = ap g.Q.Question.meaning c.in_ok-asked.ensures.question in
    let grid = c.in_ok-asked.ensures.grid in
    let terms : c.terms.result ≡ terms_of q h v = c.terms.ensures ∙ ap₂ (λ p k. terms_of p k.rows k.columns) same grid in
    let suits = suit_granted q h v tt (sym c.in_ok-asked.ensures.answer) in
    let told = sym (c.in_ok-claim.ensures.answer ∙ ap (λ t. read_answer F t sheet tray) terms) in
    let is = c.in_ok-claim.ensures.tray ∙ ap (λ t. tray_after F t sheet tray) terms in
    let fits : SFits w64 claim = search rules in
    let count : suc asked.degree ≡ suc (q.degree h) = ap suc (asked.stated ∙ ap₂ (λ p k. p.degree k.rows) same grid) in
    let found : c.settle.result ≡ weighed F h v c.args.point (take v cells) q claim (take (suc (q.degree h)) after) =
    c.settle.ensures.answer
    ∙ ap₂ (λ p k. weighed F k.rows k.columns c.args.point c.in_ok-columns.columns.now p (to_z w64 (of_z w64 claim)) (take (suc asked.degree) after)) same grid
    ∙ ap₂ (λ cs z. weighed F h v c.args.point cs q z (take (suc asked.degree) after)) front.is (to_z-of_z w64 claim fits)
    ∙ ap (λ n. weighed F h v c.args.point (take v cells) q claim (take n after)) count in
    given refl (c.settle.ensures.tray ∙ ap (λ n. cond (is_err c.settle.result) (filled n F.zero after) after) count)
    ∙ sym (weighing F h v c.args.point cells q sheet tray front.long claim after suits told is c.read_sheet.auto.tray c.settle.result found)
