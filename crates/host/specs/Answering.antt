-- What a host answers to a question: it follows from the grid, the bank's cells, the question, the tray and the paper. Assumes nothing.
use Rattle.std.specs.Prelude.{ℕ, suc, ◌+◌, ◌*◌, cond, List, ◌++◌, length, take, drop, ℤ, Ok, Err, Result, nat_le, nat_lt}
use Rattle.refusal.specs.declared.refusal.Refusal.{Refusal}
use Rattle.refusal.specs.declared.refusal.Refusal.TheVariants.{BankShort, CountOutside, QuestionUnfit, TrayShort, PaperShort}
use Rattle.board.specs.Ledger.{abs_sum}
use Rattle.board.specs.Standing.{Standing}
use Rattle.field.specs.Field.{FieldModel}
use Rattle.polynomial.specs.Columns.{columns_at}
use Rattle.polynomial.specs.Interpolation.{node}
use Rattle.question.specs.Question.{QuestionModel}
use Rattle.writer.specs.declared.limits.TheConstants.{ENOUGH_PAPER}
use Rattle.writer.specs.Texts.{text}
use Rattle.protocol.specs.Asking.{suits, terms_of, honest}

-- the answer to a question, and the tray and the paper afterwards
pub record Answered (K : Type 0) : Type 0 where
  pub answer : Result (ℤ × ℕ) Refusal
  pub tray : List K
  pub paper : List ℕ

module _ {K : Type 0} (F : FieldModel K) (h v : ℕ) where
  -- what comes first: the bank's length, the counts' weight, the question, the tray's length, the paper's length
  abbrev pub answer_ready : List ℤ → QuestionModel K → List K → List ℕ → Result (Unit {0}) Refusal
  answer_ready bank q tray paper =
      cond (nat_lt (length bank) (h * v)) (Err BankShort)
      (cond (nat_le (abs_sum (take (h * v) bank)) F.limit)
      (cond (suits q h v)
      (cond (nat_lt (length tray) (suc (q.degree h) + v)) (Err TrayShort)
      (cond (nat_lt (length paper) ENOUGH_PAPER) (Err PaperShort) (Ok tt)))
      (Err QuestionUnfit))
      (Err CountOutside))

  -- the tray of an answer: the honest values, the columns at the degree behind them, and the rest as it was
  abbrev pub tray_filled : QuestionModel K → List ℤ → List K → List K
  tray_filled q fs tray = honest F h v q fs ++ (columns_at F h v fs (node F (q.degree h)) ++ drop (suc (q.degree h) + v) tray)

  -- the sheet that states the true count and the honest values
  abbrev pub honest_sheet : QuestionModel K → List ℤ → List ℕ
  honest_sheet q fs = text F (terms_of q h v) (q.tally h v fs) (honest F h v q fs)

  -- a refusal changes nothing; else the claim and the sheet's length, the tray filled, and the sheet on the paper
  abbrev pub answered_by : Result (Unit {0}) Refusal → QuestionModel K → List ℤ → List K → List ℕ → Answered K
  answered_by (Ok u) q fs tray paper = record {
    answer = Ok (q.tally h v fs, length (honest_sheet q fs));
    tray = tray_filled q fs tray;
    paper = honest_sheet q fs ++ drop (length (honest_sheet q fs)) paper;
  }
  answered_by (Err e) q fs tray paper = record { answer = Err e; tray = tray; paper = paper }

  -- answer, over a bank whose first h × v cells are the counts
  abbrev pub answered : List ℤ → QuestionModel K → List K → List ℕ → Answered K
  answered bank q tray paper = answered_by (answer_ready bank q tray paper) q (take (h * v) bank) tray paper

-- answer, of a host that stands so
abbrev pub answered_at : {K : Type 0} → FieldModel K → Standing → List ℤ → QuestionModel K → List K → List ℕ → Answered K
answered_at F s bank q tray paper = answered F s.rows s.columns bank q tray paper
