-- What an end keeps of its grid and of the moves that it accepted, and what opening an end answers. Assumes nothing.
use Rattle.std.specs.Prelude.{ℕ, suc, ◌+◌, cond, List, Err, Result, unsigned_abs}
use Rattle.board.specs.declared.moves.Move.{Move}
use Rattle.refusal.specs.declared.refusal.Refusal.{Refusal}
use Rattle.refusal.specs.declared.refusal.Refusal.TheVariants.{GridOutside}
use Rattle.board.specs.Banks.{room_for, filled}
use Rattle.board.specs.Answers.{kept_or}
use Rattle.board.specs.Grids.{grid_allowed}
use Rattle.board.specs.Ledger.{Ledger, move_answer}
use Rattle.board.specs.Standing.{Standing}

-- a new game
abbrev pub new_standing : ℕ → ℕ → Standing
new_standing h v = record { rows = h; columns = v; weight = 0; number = 0 }

-- the standing of a ledger's game
abbrev pub ledger_standing : ℕ → ℕ → Ledger → Standing
ledger_standing h v l = record { rows = h; columns = v; weight = l.weight; number = l.number }

-- one accepted move more
abbrev pub entered : Standing → Move → Standing
entered s m = record { rows = s.rows; columns = s.columns; weight = s.weight + unsigned_abs m.amount; number = suc s.number }

-- a move is answered as a ledger of this weight answers it
abbrev pub book_answer : ℕ → Standing → Move → Result (Unit {0}) Refusal
book_answer W s m = move_answer s.rows s.columns W s.weight m

-- open on h rows and v columns with a bank of which n cells are wanted
abbrev pub open_answer : {A : Type 0} → ℕ → ℕ → ℕ → List A → Result (Unit {0}) Refusal
open_answer h v n bank = cond (grid_allowed h v) (room_for n bank) (Err GridOutside)

-- the bank after open: x in the first n cells where it was granted
abbrev pub open_bank : {A : Type 0} → ℕ → ℕ → ℕ → A → List A → List A
open_bank h v n x bank = kept_or (open_answer h v n bank) bank (filled n x bank)
