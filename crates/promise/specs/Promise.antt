-- What the two ends promise, over every lawful field and all lawful questions. Assumes nothing.
use Rattle.std.specs.Prelude.{◌≡◌, ℕ, suc, ◌+◌, ◌*◌, ◌≤◌, List, length, take, ℤ, Ok, Some}
use Rattle.field.specs.Field.{FieldModel}
use Rattle.board.specs.declared.moves.Move.{Move}
use Rattle.board.specs.Ledger.{ledger}
use Rattle.polynomial.specs.Lists.{Distinct}
use Rattle.std.specs.List.{AllByRecursion}
use Rattle.polynomial.specs.Columns.{columns_at}
use Rattle.question.specs.declared.fit.Fit.TheVariants as fit
use Rattle.question.specs.Question.{QuestionModel, LawfulQuestion}
use Rattle.writer.specs.declared.limits.TheConstants.{ENOUGH_PAPER}
use Rattle.host.specs.Notes.{HostState}
use Rattle.verifier.specs.Notes.{VerifierState}
use Rattle.promise.specs.Runs.{Request, closed, moves, Shaped, after, granted_open, replies}
use Rattle.promise.specs.Ledgers.{IsOpen, AlwaysLedger}
use Rattle.promise.specs.Ends.{VerifierOpening, Judging, verifier_end, HostOpening, Answering, host_end}
use Rattle.promise.specs.Claims.{Entry, true_count, FalseClaim, false_degrees}
use Rattle.promise.specs.Sealed.{SealedHost, host_gives, judgings, entry_of, ListedRun, Fooled, HonestAnswer, HonestSheet}

-- paper long enough for the sheet of any lawful question
abbrev pub LongPaper : List ℕ → Type 0
LongPaper paper = ENOUGH_PAPER ≤ length paper

module _ {K : Type 0} (F : FieldModel K) where
  -- what a host can be asked: a lawful question that fits, with tray and paper long enough
  pub record Answerable (h v : ℕ) (a : Answering K) : Type 0 where
    pub lawful : LawfulQuestion F a.question
    pub fits : a.question.fits h v ≡ fit.Fits
    pub room : suc (a.question.degree h) + v ≤ length a.tray
    pub space : LongPaper a.paper

  -- for every lawful question that fits, with tray and paper long enough, a host answers honestly, after whatever it was asked before
  abbrev pub HonestAccepted : Type 0
  HonestAccepted =
      (h v : ℕ) (ms : List Move) (run : SealedHost F h v ms) (q : QuestionModel K) → LawfulQuestion F q → q.fits h v ≡ fit.Fits
      → (tray : List K) → suc (q.degree h) + v ≤ length tray → (paper : List ℕ) → LongPaper paper
      → HonestAnswer F h v ms q tray paper (host_gives F h v ms run q tray paper)

  -- in every run of a host each reply to a lawful question that fits, with tray and paper long enough, is an honest answer
  abbrev pub HonestReplies : Type 0
  HonestReplies =
      (rs : List (Request HostOpening (Answering K))) → Shaped (host_end F) closed rs → (o : HostOpening) → granted_open (host_end F) rs ≡ Some o
      → AllByRecursion (λ g. Answerable o.rows o.columns g.0 → HonestAnswer F o.rows o.columns (moves rs) g.0.question g.0.tray g.0.paper g.1) (replies (host_end F) closed rs)

  -- in every run of a box each judging of an honest sheet for the moves of the run, with a tray long enough, accepts the true count
  abbrev pub HonestJudgings : Type 0
  HonestJudgings =
      (rs : List (Request (VerifierOpening K) (Judging K))) → Shaped (verifier_end F) closed rs → (o : VerifierOpening K) → granted_open (verifier_end F) rs ≡ Some o
      → AllByRecursion (λ g. HonestSheet F o.rows o.columns (moves rs) g.0.question g.0.sheet → suc (g.0.question.degree o.rows) ≤ length g.0.tray
      → g.1.answer ≡ Ok (true_count F o.rows o.columns (moves rs) g.0.question)) (replies (verifier_end F) closed rs)

  -- moves and sheets are fixed first: different points, at each of which some listed sheet with a false claim is accepted, are then no more than
  -- the degrees of the questions of the listed sheets with a false claim, added
  abbrev pub FewPoints : Type 0
  FewPoints =
      (h v : ℕ) (ms : List Move) (es : List (Entry K)) → AllByRecursion (λ e. LawfulQuestion F e.question) es
      → (rs : List K) → Distinct rs → AllByRecursion (Fooled F h v ms es) rs → length rs ≤ false_degrees F h v ms es

  -- whenever any other listed sheet is accepted, the claim given is the true count
  abbrev pub OthersTrue : Type 0
  OthersTrue =
      (h v : ℕ) (ms : List Move) (es : List (Entry K)) → AllByRecursion (λ e. LawfulQuestion F e.question) es → (r : K) (judges : ListedRun F h v ms es r)
      → AllByRecursion (λ g. (c : ℤ) → g.1.answer ≡ Ok c → ¬ FalseClaim F h v ms (entry_of g.0) → c ≡ true_count F h v ms g.0.question) (judgings F h v ms judges.run)

  -- after every request the box's bank begins with the low-degree extensions of its ledger's counts at its point
  abbrev pub VerifierSums : Type 0
  VerifierSums =
      (rs : List (Request (VerifierOpening K) (Judging K))) → Shaped (verifier_end F) closed rs → (o : VerifierOpening K) → granted_open (verifier_end F) rs ≡ Some o
      → (x : VerifierState K) → IsOpen (after (verifier_end F) closed rs) x
      → take o.columns x.bank ≡ columns_at F o.rows o.columns (ledger o.rows o.columns F.limit (moves rs)).counts o.point

  -- after every request the host's bank begins with its ledger's counts
  abbrev pub HostCounts : Type 0
  HostCounts =
      (rs : List (Request HostOpening (Answering K))) → Shaped (host_end F) closed rs → (o : HostOpening) → granted_open (host_end F) rs ≡ Some o
      → (x : HostState) → IsOpen (after (host_end F) closed rs) x
      → take (o.rows * o.columns) x.bank ≡ (ledger o.rows o.columns F.limit (moves rs)).counts

  -- the promise as one whole
  pub record Promised : Type 0 where
    pub honest_accepted : HonestAccepted
    pub honest_replies : HonestReplies
    pub honest_judgings : HonestJudgings
    pub few_points : FewPoints
    pub others_true : OthersTrue
    pub verifier_ledger : AlwaysLedger (verifier_end F) F.limit
    pub host_ledger : AlwaysLedger (host_end F) F.limit
    pub verifier_sums : VerifierSums
    pub host_counts : HostCounts
