-- The ledger: which moves count, and what they come to. Assumes nothing.
use Rattle.std.specs.Prelude.{◌≡◌, ℕ, suc, ◌+◌, ◌*◌, Bool, cond, ◌&&◌, List, [], ◌∷◌, replicate, ℤ, pos, ◌+ℤ◌, Ok, Err, Result, nat_le, nat_lt, slice_index_or, slice_set, unsigned_abs}
use Rattle.board.specs.declared.moves.Move.{Move}
use Rattle.refusal.specs.declared.refusal.Refusal.{Refusal}
use Rattle.refusal.specs.declared.refusal.Refusal.TheVariants.{CellOutside, AmountOutside, TooHeavy}

-- an amount from −256 to 256 other than 0
abbrev pub amount_allowed : ℤ → Bool
amount_allowed a = nat_le 1 (unsigned_abs a) && nat_le (unsigned_abs a) 256

-- the first refusal that applies to a move on h rows and v columns, at the limit W and this weight
abbrev pub move_answer : ℕ → ℕ → ℕ → ℕ → Move → Result (Unit {0}) Refusal
move_answer h v W weight m =
    cond (nat_lt m.cell (h * v))
    (cond (amount_allowed m.amount) (cond (nat_le (weight + unsigned_abs m.amount) W) (Ok tt) (Err TooHeavy)) (Err AmountOutside))
    (Err CellOutside)

-- the weight and the number of the accepted moves, and the count at each cell
pub record Ledger : Type 0 where
  pub weight : ℕ
  pub number : ℕ
  pub counts : List ℤ

-- everything begins at 0
abbrev pub ledger_start : ℕ → ℕ → Ledger
ledger_start h v = record { weight = 0; number = 0; counts = replicate (h * v) (pos 0) }

-- the counts once the amount of a move is added at its cell
abbrev pub added_count : List ℤ → Move → List ℤ
added_count counts m = slice_set counts m.cell (slice_index_or counts m.cell (pos 0) +ℤ m.amount)

-- a refused move changes nothing; an accepted one adds its absolute amount to the weight, one to the number, its amount to the count
abbrev pub ledger_enter : Result (Unit {0}) Refusal → Ledger → Move → Ledger
ledger_enter (Ok u) l m = record { weight = l.weight + unsigned_abs m.amount; number = suc l.number; counts = added_count l.counts m }
ledger_enter (Err r) l m = l

module _ (h v W : ℕ) where
  -- the answer to one move
  abbrev pub ledger_answer : Ledger → Move → Result (Unit {0}) Refusal
  ledger_answer l m = move_answer h v W l.weight m

  -- the ledger after one move
  abbrev pub ledger_next : Ledger → Move → Ledger
  ledger_next l m = ledger_enter (ledger_answer l m) l m

  -- the ledger after further moves
  abbrev pub ledger_from : Ledger → List Move → Ledger
  ledger_from l [] = l
  ledger_from l (m ∷ ms) = ledger_from (ledger_next l m) ms

  -- its answers to further moves
  abbrev pub answers_from : Ledger → List Move → List (Result (Unit {0}) Refusal)
  answers_from l [] = []
  answers_from l (m ∷ ms) = ledger_answer l m ∷ answers_from (ledger_next l m) ms

  -- a ledger fed moves
  abbrev pub ledger : List Move → Ledger
  ledger ms = ledger_from (ledger_start h v) ms

  -- its answers
  abbrev pub ledger_answers : List Move → List (Result (Unit {0}) Refusal)
  ledger_answers ms = answers_from (ledger_start h v) ms

  -- a move is kept where it was accepted
  abbrev pub accepted_if : Result (Unit {0}) Refusal → Move → List Move → List Move
  accepted_if (Ok u) m ms = m ∷ ms
  accepted_if (Err r) m ms = ms

  -- the moves that a ledger accepts
  abbrev pub accepted_from : Ledger → List Move → List Move
  accepted_from l [] = []
  accepted_from l (m ∷ ms) = accepted_if (ledger_answer l m) m (accepted_from (ledger_next l m) ms)

-- refused moves leave no trace: a ledger fed the accepted moves alone stands as one fed all
abbrev pub NoTrace : Type 0
NoTrace = (h v W : ℕ) (ms : List Move) → ledger h v W (accepted_from h v W (ledger_start h v) ms) ≡ ledger h v W ms

-- the absolute values of whole numbers, added
abbrev pub abs_sum : List ℤ → ℕ
abs_sum [] = 0
abs_sum (n ∷ ns) = unsigned_abs n + abs_sum ns
