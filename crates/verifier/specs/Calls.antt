-- What the calls of a listening box answer and leave. Assumes nothing.
use Rattle.std.specs.Prelude.{ℕ, cond, List, length, Err, Result, nat_lt, slice_index_or, slice_set}
use Rattle.board.specs.declared.moves.Move.{Move}
use Rattle.refusal.specs.declared.refusal.Refusal.{Refusal}
use Rattle.refusal.specs.declared.refusal.Refusal.TheVariants.{BankShort}
use Rattle.board.specs.Answers.{kept_or}
use Rattle.board.specs.Books.{entered, book_answer, open_answer, open_bank}
use Rattle.board.specs.Standing.{Standing}
use Rattle.board.specs.Grids.{row_of, column_of}
use Rattle.field.specs.Field.{FieldModel}
use Rattle.polynomial.specs.Interpolation.{chi}

module _ {K : Type 0} (F : FieldModel K) where
  -- open on h rows and v columns: a cell of the bank for each column
  abbrev pub verifier_open_answer : ℕ → ℕ → List K → Result (Unit {0}) Refusal
  verifier_open_answer h v bank = open_answer h v v bank

  -- the bank after open: zero for each column where it was granted
  abbrev pub verifier_open_bank : ℕ → ℕ → List K → List K
  verifier_open_bank h v bank = open_bank h v v F.zero bank

  -- what a move in row x adds to its column at the point r: image(amount) × χ_x(r)
  abbrev pub move_share : ℕ → ℕ → K → Move → K
  move_share h v r m = F.mul (F.image m.amount) (chi F h (row_of v m.cell) r)

  -- the bank once a move's share is added to its column
  abbrev pub added_column : ℕ → ℕ → K → List K → Move → List K
  added_column h v r bank m = slice_set bank (column_of v m.cell) (F.add (slice_index_or bank (column_of v m.cell) F.zero) (move_share h v r m))

  -- note: the bank's length, then the ledger's tests
  abbrev pub verifier_note_answer : Standing → List K → Move → Result (Unit {0}) Refusal
  verifier_note_answer s bank m = cond (nat_lt (length bank) s.columns) (Err BankShort) (book_answer F.limit s m)

  -- where the box stands after a note; a refused one changes nothing
  abbrev pub verifier_note_standing : Standing → List K → Move → Standing
  verifier_note_standing s bank m = kept_or (verifier_note_answer s bank m) s (entered s m)

  -- the bank after a note: the move's share is added to its column, unless it was refused
  abbrev pub verifier_note_bank : Standing → K → List K → Move → List K
  verifier_note_bank s r bank m = kept_or (verifier_note_answer s bank m) bank (added_column s.rows s.columns r bank m)
