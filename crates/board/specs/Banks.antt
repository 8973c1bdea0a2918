-- A bank: a row of cells over memory that the caller supplies. Assumes nothing.
use Rattle.std.specs.Prelude.{◌≡◌, ℕ, cond, List, ◌++◌, length, drop, replicate, Ok, Err, Result, nat_le, nat_lt}
use Rattle.board.specs.declared.bank.Bank.{Bank}
use Rattle.refusal.specs.declared.refusal.Refusal.{Refusal}
use Rattle.refusal.specs.declared.refusal.Refusal.TheVariants.{BankShort}

-- whether there is a cell i
abbrev pub reached : {A : Type 0} → List A → ℕ → Result (Unit {0}) Refusal
reached cells i = cond (nat_lt i (length cells)) (Ok tt) (Err BankShort)

-- whether there are n cells
abbrev pub room_for : {A : Type 0} → ℕ → List A → Result (Unit {0}) Refusal
room_for n cells = cond (nat_le n (length cells)) (Ok tt) (Err BankShort)

-- x in the first n cells, and the others as they were
abbrev pub filled : {A : Type 0} → ℕ → A → List A → List A
filled n x cells = replicate n x ++ drop n cells

-- the cells of a bank
abbrev pub cells_of : {A : Type 0} → Bank A → List A
cells_of b = b.cells.now

-- the same memory, lent by the same lender, with these cells
pub record Rewritten {A : Type 0} (old new : Bank A) (cells : List A) : Type 0 where
  pub holds : cells_of new ≡ cells
  pub lender : new.cells.ghost_name ≡ old.cells.ghost_name
