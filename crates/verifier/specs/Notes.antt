-- A box that is told moves stands as a ledger that is fed them, and its bank is the columns of the ledger's counts. Assumes nothing.
use Rattle.std.specs.Prelude.{◌≡◌, ℕ, List, [], ◌∷◌, take, drop, Ok, Result}
use Rattle.board.specs.declared.moves.Move.{Move}
use Rattle.refusal.specs.declared.refusal.Refusal.{Refusal}
use Rattle.board.specs.Books.{new_standing, ledger_standing}
use Rattle.board.specs.Standing.{Standing}
use Rattle.board.specs.Ledger.{ledger, ledger_answers}
use Rattle.field.specs.Field.{FieldModel}
use Rattle.polynomial.specs.Columns.{columns_at}
use Rattle.verifier.specs.Calls.{verifier_open_answer, verifier_open_bank, verifier_note_answer, verifier_note_standing, verifier_note_bank}

-- a box with its bank
pub record VerifierState (K : Type 0) : Type 0 where
  pub standing : Standing
  pub point : K
  pub bank : List K

module _ {K : Type 0} (F : FieldModel K) where
  -- a box that was just opened at the point r
  abbrev pub verifier_opened : ℕ → ℕ → K → List K → VerifierState K
  verifier_opened h v r bank = record { standing = new_standing h v; point = r; bank = verifier_open_bank F h v bank }

  -- after one note
  abbrev pub verifier_noted : VerifierState K → Move → VerifierState K
  verifier_noted s m = record {
    standing = verifier_note_standing F s.standing s.bank m;
    point = s.point;
    bank = verifier_note_bank F s.standing s.point s.bank m;
  }

  -- after a list of notes, one after the other, on one bank
  abbrev pub verifier_after : VerifierState K → List Move → VerifierState K
  verifier_after s [] = s
  verifier_after s (m ∷ ms) = verifier_after (verifier_noted s m) ms

  -- the answers to them
  abbrev pub verifier_answers : VerifierState K → List Move → List (Result (Unit {0}) Refusal)
  verifier_answers s [] = []
  verifier_answers s (m ∷ ms) = verifier_note_answer F s.standing s.bank m ∷ verifier_answers (verifier_noted s m) ms

-- After a granted open on a bank of any content, along every list of moves, refused ones included: the answers, the weight and the number are those
-- of a ledger fed the same moves, the bank begins with the low-degree extensions of the ledger's counts at the point, and its other cells are untouched.
pub record VerifierFollowsLedger {K : Type 0} (F : FieldModel K) (h v : ℕ) (r : K) (bank : List K) (ms : List Move) : Type 0 where
  pub answers : verifier_answers F (verifier_opened F h v r bank) ms ≡ ledger_answers h v F.limit ms
  pub standing : (verifier_after F (verifier_opened F h v r bank) ms).standing ≡ ledger_standing h v (ledger h v F.limit ms)
  pub sums : take v (verifier_after F (verifier_opened F h v r bank) ms).bank ≡ columns_at F h v (ledger h v F.limit ms).counts r
  pub rest : drop v (verifier_after F (verifier_opened F h v r bank) ms).bank ≡ drop v bank

-- at every point
abbrev pub VerifierKeepsLedger : {K : Type 0} → FieldModel K → Type 0
VerifierKeepsLedger {K} F = (h v : ℕ) (r : K) (bank : List K) → verifier_open_answer F h v bank ≡ Ok tt → (ms : List Move) → VerifierFollowsLedger F h v r bank ms
