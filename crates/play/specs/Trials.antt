-- A trial: a host and a box are opened on the same grid, told the same moves and sealed; the host answers a question, and the box judges the sheet.
-- Assumes nothing.
use Rattle.std.specs.Prelude.{◌≡◌, ℕ, suc, ◌+◌, ◌*◌, ◌≤◌, true, List, length, take, ℤ, Ok, Err, Result}
use Rattle.board.specs.declared.moves.Move.{Move}
use Rattle.refusal.specs.declared.refusal.Refusal.{Refusal}
use Rattle.board.specs.Grids.{grid_allowed}
use Rattle.board.specs.Standing.{Standing}
use Rattle.field.specs.Field.{FieldModel}
use Rattle.question.specs.declared.fit.Fit.TheVariants as fit
use Rattle.question.specs.Question.{QuestionModel, LawfulQuestion}
use Rattle.writer.specs.declared.limits.TheConstants.{ENOUGH_PAPER}
use Rattle.host.specs.Answering.{Answered, answered_at}
use Rattle.host.specs.Calls.{host_open_answer, host_open_bank}
use Rattle.host.specs.Notes.{HostState, host_opened, host_after}
use Rattle.verifier.specs.Calls.{verifier_open_answer}
use Rattle.verifier.specs.Judging.{Judgement, judged_at}
use Rattle.verifier.specs.Notes.{VerifierState, verifier_opened, verifier_after}
use Rattle.verifier.specs.Pointed.{Pointed}
use Rattle.play.specs.Contents.{Contents}
use Rattle.play.specs.States.{box_of}

-- the count that the box accepts or the first refusal, and the memory afterwards
pub record Trial (K : Type 0) : Type 0 where
  pub answer : Result ℤ Refusal
  pub memory : Contents K

-- the first refusal of two calls
abbrev pub both_granted : Result (Unit {0}) Refusal → Result (Unit {0}) Refusal → Result (Unit {0}) Refusal
both_granted (Ok u) second = second
both_granted (Err e) second = Err e

module _ {K : Type 0} (F : FieldModel K) where
  -- whether both ends are opened: the host's refusal comes before the box's
  abbrev pub ends_opened : ℕ → ℕ → Contents K → Result (Unit {0}) Refusal
  ends_opened h v m = both_granted (host_open_answer h v m.counts) (verifier_open_answer F h v m.sums)

  -- what the box finds of a sheet on the paper
  abbrev pub judged_paper : Contents K → List ℕ → Judgement K → Trial K
  judged_paper m paper j = record { answer = j.answer; memory = record m { tray = j.tray; paper = paper } }

  -- the host's refusal, or what the box finds of the sheet that the host wrote
  abbrev pub judged_answer : Pointed K → QuestionModel K → Contents K → Result (ℤ × ℕ) Refusal → List K → List ℕ → Trial K
  judged_answer b q m (Ok claimed) tray paper = judged_paper m paper (judged_at F b m.sums q (take claimed.1 paper) tray)
  judged_answer b q m (Err e) tray paper = record { answer = Err e; memory = record m { tray = tray; paper = paper } }

  -- the same, of all that the host gave
  abbrev pub judged_given : Pointed K → QuestionModel K → Contents K → Answered K → Trial K
  judged_given b q m a = judged_answer b q m a.answer a.tray a.paper

  -- a sealed host answers a question, and a sealed box judges the sheet
  abbrev pub exchanged : Standing → Pointed K → QuestionModel K → Contents K → Trial K
  exchanged s b q m = judged_given b q m (answered_at F s m.counts q m.tray m.paper)

module _ {K : Type 0} (F : FieldModel K) (h v : ℕ) (r : K) (ms : List Move) (q : QuestionModel K) where
  -- the host after it was told the moves
  abbrev pub told_host : List ℤ → HostState
  told_host counts = host_after F.limit (host_opened h v counts) ms

  -- the box after it was told the moves
  abbrev pub told_box : List K → VerifierState K
  told_box sums = verifier_after F (verifier_opened F h v r sums) ms

  -- once both ends are open: they are told the moves and sealed
  abbrev pub open_trial : Contents K → Trial K
  open_trial m =
      exchanged F (told_host m.counts).standing (box_of (told_box m.sums)) q (record m { counts = (told_host m.counts).bank; sums = (told_box m.sums).bank })

  -- once the box was opened, or not
  abbrev pub box_trial : Result (Unit {0}) Refusal → Contents K → Trial K
  box_trial (Ok u) m = open_trial m
  box_trial (Err e) m = record { answer = Err e; memory = record m { counts = host_open_bank h v m.counts } }

  -- once the host was opened, or not
  abbrev pub host_trial : Result (Unit {0}) Refusal → Contents K → Trial K
  host_trial (Ok u) m = box_trial (verifier_open_answer F h v m.sums) m
  host_trial (Err e) m = record { answer = Err e; memory = m }

  -- a trial with this memory
  abbrev pub trial : Contents K → Trial K
  trial m = host_trial (host_open_answer h v m.counts) m

  -- a trial in which nothing stands against an answer: an allowed grid, a lawful question that fits, and memory enough
  pub record InOrder (m : Contents K) : Type 0 where
    pub allowed : grid_allowed h v ≡ true
    pub lawful : LawfulQuestion F q
    pub fitting : q.fits h v ≡ fit.Fits
    pub counts_long : h * v ≤ length m.counts
    pub sums_long : v ≤ length m.sums
    pub tray_long : suc (q.degree h) + v ≤ length m.tray
    pub paper_long : ENOUGH_PAPER ≤ length m.paper
