-- What a box finds of a sheet: it follows from the grid, the point, the bank's cells, the question, the sheet and the tray. Assumes nothing.
use Rattle.std.specs.Prelude.{ℕ, suc, cond, List, ◌++◌, length, take, drop, ℤ, Ok, Err, Result, nat_lt}
use Rattle.refusal.specs.declared.refusal.Refusal.{Refusal}
use Rattle.refusal.specs.declared.refusal.Refusal.TheVariants.{BankShort, QuestionUnfit, TrayShort, SumWrong, PointWrong}
use Rattle.board.specs.Banks.{filled}
use Rattle.field.specs.Field.{FieldModel, same}
use Rattle.polynomial.specs.Polynomials.{eval}
use Rattle.polynomial.specs.Interpolation.{interpolant}
use Rattle.polynomial.specs.Sums.{list_sum}
use Rattle.question.specs.Question.{QuestionModel}
use Rattle.protocol.specs.Asking.{suits, reading_under, claim_image}
use Rattle.verifier.specs.Pointed.{Pointed}

-- the answer to a sheet, and the tray afterwards
pub record Judgement (K : Type 0) : Type 0 where
  pub answer : Result ℤ Refusal
  pub tray : List K

module _ {K : Type 0} (F : FieldModel K) (h v : ℕ) (r : K) where
  -- what comes before the sheet is read: the bank's length, then the question, then the tray's length
  abbrev pub judge_ready : List K → QuestionModel K → List K → Result (Unit {0}) Refusal
  judge_ready bank q tray =
      cond (nat_lt (length bank) v) (Err BankShort)
      (cond (suits q h v) (cond (nat_lt (q.degree h) (length tray)) (Ok tt) (Err TrayShort)) (Err QuestionUnfit))

  -- a claim c with the values vs, against the columns: the first h values add up to the claim's image, and the polynomial of degree at most D through
  -- all D + 1 values is the rule at the point r
  abbrev pub weighed : List K → QuestionModel K → ℤ → List K → Result ℤ Refusal
  weighed columns q c vs =
      cond (same F (list_sum F (take h vs)) (claim_image F c))
      (cond (same F (eval F (interpolant F vs) r) (q.rule h v r columns)) (Ok c) (Err PointWrong))
      (Err SumWrong)

  -- the answer to a sheet that was read so
  abbrev pub answer_to : List K → QuestionModel K → Result (ℤ × List K) Refusal → Result ℤ Refusal
  answer_to columns q (Ok s) = weighed columns q s.0 s.1
  answer_to columns q (Err e) = Err e

  -- the tray once its first n elements were read into: the values where the sheet was accepted, else zeros
  abbrev pub tray_left : ℕ → Result (ℤ × List K) Refusal → Result ℤ Refusal → List K → List K
  tray_left n (Ok s) (Ok c) tray = s.1 ++ drop n tray
  tray_left n (Ok s) (Err e) tray = filled n F.zero tray
  tray_left n (Err e) a tray = filled n F.zero tray

  -- a judgement: a refusal before the sheet was read leaves the tray as it was
  abbrev pub settled_by : Result (Unit {0}) Refusal → List K → QuestionModel K → Result (ℤ × List K) Refusal → List K → Judgement K
  settled_by (Ok u) columns q s tray = record { answer = answer_to columns q s; tray = tray_left (suc (q.degree h)) s (answer_to columns q s) tray }
  settled_by (Err e) columns q s tray = record { answer = Err e; tray = tray }

  -- judge, over a bank whose first v cells are the columns
  abbrev pub judged : List K → QuestionModel K → List ℕ → List K → Judgement K
  judged bank q sheet tray = settled_by (judge_ready bank q tray) (take v bank) q (reading_under F q h v sheet) tray

-- judge, of a box that stands so
abbrev pub judged_at : {K : Type 0} → FieldModel K → Pointed K → List K → QuestionModel K → List ℕ → List K → Judgement K
judged_at F b bank q sheet tray = judged F b.standing.rows b.standing.columns b.point bank q sheet tray
