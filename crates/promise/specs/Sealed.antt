-- Runs that end with a sealed box or host, the sheets that a box judges in one, and what an honest host gives. Assumes nothing.
use Rattle.std.specs.Prelude.{◌≡◌, ℕ, suc, ◌+◌, ◌≤◌, List, ◌++◌, length, take, drop, ℤ, Ok, Some}
use Rattle.field.specs.Field.{FieldModel}
use Rattle.board.specs.declared.moves.Move.{Move}
use Rattle.board.specs.Ledger.{ledger}
use Rattle.polynomial.specs.Lists.{AnyByRecursion}
use Rattle.std.specs.List.{AllByRecursion}
use Rattle.polynomial.specs.Interpolation.{node}
use Rattle.polynomial.specs.Columns.{columns_at}
use Rattle.question.specs.Question.{QuestionModel}
use Rattle.protocol.specs.Asking.{reading_under, honest}
use Rattle.host.specs.Answering.{Answered}
use Rattle.host.specs.Notes.{HostState}
use Rattle.verifier.specs.Judging.{Judgement}
use Rattle.verifier.specs.Notes.{VerifierState}
use Rattle.promise.specs.Runs.{Request, closed, sealed, moves, Shaped, after, granted_open, replies}
use Rattle.promise.specs.Ends.{VerifierOpening, Judging, verifier_end, HostOpening, Answering, host_end}
use Rattle.promise.specs.Claims.{Entry, true_count, FalseClaim}

-- the sheet of a judging, with its question
abbrev pub entry_of : {K : Type 0} → Judging K → Entry K
entry_of j = record { question = j.question; sheet = j.sheet }

module _ {K : Type 0} (F : FieldModel K) (h v : ℕ) (ms : List Move) where
  -- a run of a box on h rows and v columns, granted at the point r, told the moves ms, and sealed at its end
  pub record SealedVerifier (r : K) : Type 0 where
    pub requests : List (Request (VerifierOpening K) (Judging K))
    pub shaped : Shaped (verifier_end F) closed requests
    pub opened : VerifierOpening K
    pub grants : granted_open (verifier_end F) requests ≡ Some opened
    pub rows : opened.rows ≡ h
    pub columns : opened.columns ≡ v
    pub point : opened.point ≡ r
    pub told : moves requests ≡ ms
    pub verifier : VerifierState K
    pub ends : after (verifier_end F) closed requests ≡ sealed verifier

  -- what the box of such a run gives for a sheet
  abbrev pub verifier_gives : {r : K} → SealedVerifier r → QuestionModel K → List ℕ → List K → Judgement K
  verifier_gives run q sheet tray = (verifier_end F).reply run.verifier (record { question = q; sheet = sheet; tray = tray })

  -- all that the box of a run judged, with what it gave
  abbrev pub judgings : {r : K} → SealedVerifier r → List (Judging K × Judgement K)
  judgings run = replies (verifier_end F) closed run.requests

  -- a run that judges listed sheets alone: any of them, with any trays, in any order, as often as it likes
  pub record ListedRun (es : List (Entry K)) (r : K) : Type 0 where
    pub run : SealedVerifier r
    pub on_list : AllByRecursion (λ g. AnyByRecursion (λ e. e ≡ entry_of g.0) es) (judgings run)

  -- a point at which some such run accepts a listed sheet with a false claim
  pub record Fooled (es : List (Entry K)) (r : K) : Type 0 where
    pub judges : ListedRun es r
    pub accepts : AnyByRecursion (λ g. (c : ℤ) × (g.1.answer ≡ Ok c) × FalseClaim F h v ms (entry_of g.0)) (judgings judges.run)

  -- a run of a host on h rows and v columns, told the moves ms, and sealed at its end
  pub record SealedHost : Type 0 where
    pub requests : List (Request HostOpening (Answering K))
    pub shaped : Shaped (host_end F) closed requests
    pub opened : HostOpening
    pub grants : granted_open (host_end F) requests ≡ Some opened
    pub rows : opened.rows ≡ h
    pub columns : opened.columns ≡ v
    pub told : moves requests ≡ ms
    pub host : HostState
    pub ends : after (host_end F) closed requests ≡ sealed host

  -- what the host of such a run gives for a question
  abbrev pub host_gives : SealedHost → QuestionModel K → List K → List ℕ → Answered K
  host_gives run q tray paper = (host_end F).reply run.host (record { question = q; tray = tray; paper = paper })

  -- what an honest host gives for a question: the true count, the values of the question's polynomial at 0 to D with the columns at D behind them,
  -- and on the paper a sheet that reads as the true count and these values, and that every box told the same moves accepts at its point with that count
  pub record HonestAnswer (q : QuestionModel K) (tray : List K) (paper : List ℕ) (given : Answered K) : Type 0 where
    pub bytes : ℕ
    pub answer : given.answer ≡ Ok (true_count F h v ms q, bytes)
    pub inside : bytes ≤ length paper
    pub values : given.tray ≡ honest F h v q (ledger h v F.limit ms).counts ++ (columns_at F h v (ledger h v F.limit ms).counts (node F (q.degree h)) ++ drop (suc (q.degree h) + v) tray)
    pub rest : drop bytes given.paper ≡ drop bytes paper
    pub reads : reading_under F q h v (take bytes given.paper) ≡ Ok (true_count F h v ms q, honest F h v q (ledger h v F.limit ms).counts)
    pub accepted : (r : K) (box : SealedVerifier r) (tray' : List K) → suc (q.degree h) ≤ length tray' → (verifier_gives box q (take bytes given.paper) tray').answer ≡ Ok (true_count F h v ms q)

  -- a sheet that an honest host gave for a question
  pub record HonestSheet (q : QuestionModel K) (sheet : List ℕ) : Type 0 where
    pub tray : List K
    pub paper : List ℕ
    pub given : Answered K
    pub honest : HonestAnswer q tray paper given
    pub written : sheet ≡ take honest.bytes given.paper
