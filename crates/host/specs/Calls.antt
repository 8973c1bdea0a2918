-- What the calls of a host answer and leave. Assumes nothing.
use Rattle.std.specs.Prelude.{ℕ, ◌*◌, cond, List, length, ℤ, pos, Ok, Err, Result, nat_le, nat_lt, slice_index_or, unsigned_abs}
use Rattle.board.specs.declared.moves.Move.{Move}
use Rattle.refusal.specs.declared.refusal.Refusal.{Refusal}
use Rattle.refusal.specs.declared.refusal.Refusal.TheVariants.{BankShort, CountOutside}
use Rattle.board.specs.Answers.{kept_or}
use Rattle.board.specs.Books.{entered, book_answer, open_answer, open_bank}
use Rattle.board.specs.Standing.{Standing}
use Rattle.board.specs.Ledger.{added_count}

-- open on h rows and v columns: a cell of the bank for each cell of the board
abbrev pub host_open_answer : ℕ → ℕ → List ℤ → Result (Unit {0}) Refusal
host_open_answer h v bank = open_answer h v (h * v) bank

-- the bank after open: zero for each cell of the board where it was granted
abbrev pub host_open_bank : ℕ → ℕ → List ℤ → List ℤ
host_open_bank h v bank = open_bank h v (h * v) (pos 0) bank

module _ (W : ℕ) where
  -- last of all, the cell's count before the move has to lie from −W to W
  abbrev pub count_answer : Result (Unit {0}) Refusal → List ℤ → Move → Result (Unit {0}) Refusal
  count_answer (Ok u) bank m = cond (nat_le (unsigned_abs (slice_index_or bank m.cell (pos 0))) W) (Ok u) (Err CountOutside)
  count_answer (Err r) bank m = Err r

  -- note: the bank's length, then the ledger's tests, then the count
  abbrev pub host_note_answer : Standing → List ℤ → Move → Result (Unit {0}) Refusal
  host_note_answer s bank m = cond (nat_lt (length bank) (s.rows * s.columns)) (Err BankShort) (count_answer (book_answer W s m) bank m)

  -- where the host stands after a note; a refused one changes nothing
  abbrev pub host_note_standing : Standing → List ℤ → Move → Standing
  host_note_standing s bank m = kept_or (host_note_answer s bank m) s (entered s m)

  -- the bank after a note: the amount is added at the cell, unless it was refused
  abbrev pub host_note_bank : Standing → List ℤ → Move → List ℤ
  host_note_bank s bank m = kept_or (host_note_answer s bank m) bank (added_count bank m)
