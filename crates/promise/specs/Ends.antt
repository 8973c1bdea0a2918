-- The two ends, by what their calls answer and leave. Assumes nothing.
use Rattle.std.specs.Prelude.{ℕ, List, ℤ}
use Rattle.field.specs.Field.{FieldModel}
use Rattle.question.specs.Question.{QuestionModel}
use Rattle.host.specs.Answering.{Answered, answered}
use Rattle.host.specs.Calls.{host_open_answer, host_note_answer}
use Rattle.host.specs.Notes.{HostState, host_opened, host_noted}
use Rattle.verifier.specs.Judging.{Judgement, judged}
use Rattle.verifier.specs.Calls.{verifier_open_answer, verifier_note_answer}
use Rattle.verifier.specs.Notes.{VerifierState, verifier_opened, verifier_noted}
use Rattle.promise.specs.Runs.{End}

-- what opening a box takes
pub record VerifierOpening (K : Type 0) : Type 0 where
  pub rows : ℕ
  pub columns : ℕ
  pub bank : List K
  pub point : K

-- what judging takes
pub record Judging (K : Type 0) : Type 0 where
  pub question : QuestionModel K
  pub sheet : List ℕ
  pub tray : List K

-- what opening a host takes
pub record HostOpening : Type 0 where
  pub rows : ℕ
  pub columns : ℕ
  pub bank : List ℤ

-- what answering takes
pub record Answering (K : Type 0) : Type 0 where
  pub question : QuestionModel K
  pub tray : List K
  pub paper : List ℕ

module _ {K : Type 0} (F : FieldModel K) where
  -- the box: judging changes neither its standing nor its bank
  abbrev pub verifier_end : End (VerifierOpening K) (VerifierState K) (Judging K) (Judgement K)
  verifier_end = record {
    rows = λ o. o.rows;
    columns = λ o. o.columns;
    grant = λ o. verifier_open_answer F o.rows o.columns o.bank;
    begin = λ o. verifier_opened F o.rows o.columns o.point o.bank;
    note = λ x m. verifier_note_answer F x.standing x.bank m;
    noted = λ x m. verifier_noted F x m;
    reply = λ x j. judged F x.standing.rows x.standing.columns x.point x.bank j.question j.sheet j.tray;
    replied = λ x j. x;
    standing = λ x. x.standing;
  }

  -- the host: answering changes neither its standing nor its bank
  abbrev pub host_end : End HostOpening HostState (Answering K) (Answered K)
  host_end = record {
    rows = λ o. o.rows;
    columns = λ o. o.columns;
    grant = λ o. host_open_answer o.rows o.columns o.bank;
    begin = λ o. host_opened o.rows o.columns o.bank;
    note = λ x m. host_note_answer F.limit x.standing x.bank m;
    noted = λ x m. host_noted F.limit x m;
    reply = λ x a. answered F x.standing.rows x.standing.columns x.bank a.question a.tray a.paper;
    replied = λ x a. x;
    standing = λ x. x.standing;
  }
