-- An end that keeps to the ledger. Assumes nothing.
use Rattle.std.specs.Prelude.{◌≡◌, ℕ, ◌⊎◌, List, Some}
use Rattle.board.specs.Books.{ledger_standing}
use Rattle.board.specs.Ledger.{ledger, ledger_answers}
use Rattle.promise.specs.Runs.{End, Request, State, closed, listening, sealed, moves, Shaped, after, granted_open, note_answers}

-- the end is open in this state: it listens or is sealed
abbrev pub IsOpen : {X : Type 0} → State X → X → Type 0
IsOpen s x = (s ≡ listening x) ⊎ (s ≡ sealed x)

-- the notes were answered as the ledger of the granted grid answers their moves, and the end stands as that ledger does
pub record KeepsLedger {O X Q A : Type 0} (E : End O X Q A) (W : ℕ) (rs : List (Request O Q)) (o : O) (x : X) : Type 0 where
  pub answers : note_answers E closed rs ≡ ledger_answers (E.rows o) (E.columns o) W (moves rs)
  pub standing : E.standing x ≡ ledger_standing (E.rows o) (E.columns o) (ledger (E.rows o) (E.columns o) W (moves rs))

-- this holds of every run; and since every beginning of a run is a run, it holds after every request
abbrev pub AlwaysLedger : {O X Q A : Type 0} → End O X Q A → ℕ → Type 0
AlwaysLedger {O} {X} {Q} E W = (rs : List (Request O Q)) → Shaped E closed rs → (o : O) → granted_open E rs ≡ Some o → (x : X) → IsOpen (after E closed rs) x → KeepsLedger E W rs o x
