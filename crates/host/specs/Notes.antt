-- A host that is told moves stands as a ledger that is fed them. Assumes nothing.
use Rattle.std.specs.Prelude.{◌≡◌, ℕ, ◌*◌, List, [], ◌∷◌, take, drop, ℤ, Ok, Result}
use Rattle.board.specs.declared.moves.Move.{Move}
use Rattle.refusal.specs.declared.refusal.Refusal.{Refusal}
use Rattle.board.specs.Books.{new_standing, ledger_standing}
use Rattle.board.specs.Standing.{Standing}
use Rattle.board.specs.Ledger.{ledger, ledger_answers}
use Rattle.host.specs.Calls.{host_open_answer, host_open_bank, host_note_answer, host_note_standing, host_note_bank}

-- a host with its bank
pub record HostState : Type 0 where
  pub standing : Standing
  pub bank : List ℤ

-- a host that was just opened
abbrev pub host_opened : ℕ → ℕ → List ℤ → HostState
host_opened h v bank = record { standing = new_standing h v; bank = host_open_bank h v bank }

module _ (W : ℕ) where
  -- after one note
  abbrev pub host_noted : HostState → Move → HostState
  host_noted s m = record { standing = host_note_standing W s.standing s.bank m; bank = host_note_bank W s.standing s.bank m }

  -- after a list of notes, one after the other, on one bank
  abbrev pub host_after : HostState → List Move → HostState
  host_after s [] = s
  host_after s (m ∷ ms) = host_after (host_noted s m) ms

  -- the answers to them
  abbrev pub host_answers : HostState → List Move → List (Result (Unit {0}) Refusal)
  host_answers s [] = []
  host_answers s (m ∷ ms) = host_note_answer W s.standing s.bank m ∷ host_answers (host_noted s m) ms

-- After a granted open on a bank of any content, along every list of moves, refused ones included: the answers, the weight, the number and the
-- counts are those of a ledger fed the same moves, and the cells of the bank behind the board's are untouched.
pub record HostFollowsLedger (W h v : ℕ) (bank : List ℤ) (ms : List Move) : Type 0 where
  pub answers : host_answers W (host_opened h v bank) ms ≡ ledger_answers h v W ms
  pub standing : (host_after W (host_opened h v bank) ms).standing ≡ ledger_standing h v (ledger h v W ms)
  pub counts : take (h * v) (host_after W (host_opened h v bank) ms).bank ≡ (ledger h v W ms).counts
  pub rest : drop (h * v) (host_after W (host_opened h v bank) ms).bank ≡ drop (h * v) bank

-- at every limit W
abbrev pub HostKeepsLedger : Type 0
HostKeepsLedger = (W h v : ℕ) (bank : List ℤ) → host_open_answer h v bank ≡ Ok tt → (ms : List Move) → HostFollowsLedger W h v bank ms
