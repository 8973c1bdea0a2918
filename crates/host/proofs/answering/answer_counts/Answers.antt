use Rattle.std.proofs.Common.{◌≡◌, suc, ◌+◌, ◌*◌, ◌≤◌, length, take, Ok, sym, ap, ◌∙◌, subst, ap₂, arith, w64, SFits, to_z, of_z, rules}
use Rattle.std.proofs.lemmas.Int.{to_z-of_z}
use Rattle.board.specs.Ledger.{abs_sum}
use Rattle.board.proofs.Fronts.{front_read}
use Rattle.polynomial.specs.Columns.{columns_at}
use Rattle.polynomial.specs.Interpolation.{node}
use Rattle.polynomial.proofs.Sums.{length-listed}
use Rattle.protocol.specs.Asking.{terms_of, honest}
use Rattle.protocol.proofs.Suits.{suit_granted}
use Rattle.writer.specs.declared.limits.TheConstants.{MOST_VALUES}
use Rattle.writer.specs.Papers.{write_answer, paper_after}
use Rattle.writer.specs.Texts.{text}
use Rattle.host.specs.Answering.{tray_filled}
use Rattle.host.proofs.Answered.{given, granted, take_honest, write_granted, paper_granted, light_ranged}
use Rattle.host.proofs.answering.answer_counts.Goals as goal

pub invariant_of-counts : goal.invariant_of-counts
invariant_of-counts g c =
    let cells = c.in_ok-cells.cells.now in
    let light : abs_sum cells ≤ g.F.Field.model.limit = omega (arith, c.absolute_sum.ensures, c.from.ensures, c.LIMIT.ensures, g.met.F.Field.limit_is, c.if-absolute_sum-from.false) in
    record { whole = search rules; ranged = light_ranged g.met.F.Field.lawful cells light }

pub returns-in_err-asked : goal.returns-in_err-asked
returns-in_err-asked g c =
    let h = c.args.grid.rows in
    let v = c.args.grid.columns in
    let cells = c.args.bank.now.cells.now in
    let front = front_read (h * v) _ cells c.in_ok-cells.cells.now (omega (arith, c.cells.ensures)) c.in_ok-cells.ensures.cells c.in_ok-cells.ensures.length in
    let long = front.long in
    let light : abs_sum (take (h * v) cells) ≤ g.F.Field.model.limit = subst (λ xs. abs_sum xs ≤ g.F.Field.model.limit) front.is (omega (arith, c.absolute_sum.ensures, c.from.ensures, c.LIMIT.ensures, g.met.F.Field.limit_is, c.if-absolute_sum-from.false)) in
    search rules

pub returns : goal.returns
returns g c =
    let F = g.F.Field.model in
    let q = g.Q.Question.meaning c.args.question.now in
    let h = c.args.grid.rows in
    let v = c.args.grid.columns in
    let cells = c.args.bank.now.cells.now in
    let tray = c.args.tray.now in
    let paper = c.args.paper.now in
    let asked = c.in_ok-asked.asked in
    let fs = take (h * v) cells in
    let front = front_read (h * v) _ cells c.in_ok-cells.cells.now (omega (arith, c.cells.ensures)) c.in_ok-cells.ensures.cells c.in_ok-cells.ensures.length in
    let counts = front.is in
    let long = front.long in
    let light : abs_sum fs ≤ F.limit = subst (λ xs. abs_sum xs ≤ F.limit) counts (omega (arith, c.absolute_sum.ensures, c.from.ensures, c.LIMIT.ensures, g.met.F.Field.limit_is, c.if-absolute_sum-from.false)) in
    let suit = suit_granted q h v tt (sym c.in_ok-asked.ensures.answer) in
    let same : g.Q.Question.meaning asked.question.now ≡ q = ap g.Q.Question.meaning c.in_ok-asked.ensures.question in
    let grid = c.in_ok-asked.ensures.grid in
    let degree : asked.degree ≡ q.degree h = asked.stated ∙ ap₂ (λ p k. p.degree k.rows) same grid in
    let room : suc (q.degree h) + v ≤ length tray = omega (arith, c.if-tray-degree.false, degree) in
    let enough = c.if-paper-lt-ENOUGH_PAPER.false in
    let filled : c.fill_values.new.tray ≡ tray_filled F h v q fs tray =
    c.fill_values.ensures ∙ ap₂ (λ p k. tray_filled F k.rows k.columns p c.in_ok-cells.cells.now tray) same grid ∙ ap (λ xs. tray_filled F h v q xs tray) counts in
    let lines : asked.degree + 1 ≡ suc (q.degree h) = omega (arith, degree) in
    let values = ap₂ take lines filled ∙ take_honest F h v cells q tray paper fs in
    let few : length (honest F h v q fs) ≤ MOST_VALUES = omega (arith, length-listed 0 (suc (q.degree h)) (λ j. q.rule h v (node F j) (columns_at F h v fs (node F j))), asked.degree_most, degree) in
    let claim = q.tally h v fs in
    let fits : SFits w64 c.tally-claim.result = search rules in
    let claim-is : to_z w64 (of_z w64 c.tally-claim.result) ≡ claim = to_z-of_z w64 c.tally-claim.result fits ∙ c.tally-claim.ensures ∙ ap (q.tally h v) counts in
    let terms : c.terms.result ≡ terms_of q h v = c.terms.ensures ∙ ap₂ (λ p k. terms_of p k.rows k.columns) same grid in
    let written : c.write_sheet.result ≡ Ok (length (text F (terms_of q h v) claim (honest F h v q fs))) =
    c.write_sheet.ensures.answer
    ∙ ap₂ (λ t z. write_answer F t z (take (asked.degree + 1) c.fill_values.new.tray) paper) terms claim-is
    ∙ ap (λ xs. write_answer F (terms_of q h v) claim xs paper) values
    ∙ write_granted F h v cells q tray paper claim (honest F h v q fs) few enough in
    let was = c.in_ok-length.was in
    let length-is : c.in_ok-length.length ≡ length (text F (terms_of q h v) claim (honest F h v q fs)) = cc in
    let laid =
    c.write_sheet.ensures.paper
    ∙ ap₂ (λ t z. paper_after F t z (take (asked.degree + 1) c.fill_values.new.tray) paper) terms claim-is
    ∙ ap (λ xs. paper_after F (terms_of q h v) claim xs paper) values
    ∙ paper_granted F h v cells q tray paper claim (honest F h v q fs) few enough in
    given (ap₂ (λ z n. Ok (z, n)) claim-is length-is) filled laid ∙ sym (granted F h v cells q tray paper long light suit room enough)
