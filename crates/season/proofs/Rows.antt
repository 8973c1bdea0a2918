-- The rows of cells. Assumes nothing.
use Rattle.std.proofs.Common.{ℕ, ◌*◌, ◌<◌, ◌≤◌, arith}
use Rattle.std.proofs.lemmas.Nat.{rows}
use Rattle.board.specs.Grids.{row_of}

-- the row of a cell of the grid
pub row_below : (h v i : ℕ) → 0 < v → i < h * v → row_of v i < h
row_below h v i p b = grind (arith, rows)

-- a later cell lies in a later row or in the same
pub row_order : (v a b : ℕ) → 0 < v → a ≤ b → row_of v a ≤ row_of v b
row_order v a b p h = grind (arith, rows)
