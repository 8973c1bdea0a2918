-- Grids: which are allowed, and where a cell lies. Assumes nothing.
use Rattle.std.specs.Prelude.{◌≡◌, ℕ, ◌/◌, ◌%◌, Bool, cond, ◌&&◌, Ok, Err, Result, ◌==◌, nat_le}
use Rattle.board.specs.declared.grid.Grid.{Grid}
use Rattle.refusal.specs.declared.refusal.Refusal.{Refusal}
use Rattle.refusal.specs.declared.refusal.Refusal.TheVariants.{GridOutside}

-- h rows, 1 to 64, and v columns, a multiple of 8 from 8 to 1,024
abbrev pub grid_allowed : ℕ → ℕ → Bool
grid_allowed h v = nat_le 1 h && (nat_le h 64 && (nat_le 8 v && (nat_le v 1024 && v % 8 == 0)))

-- the row of cell i on v columns
abbrev pub row_of : ℕ → ℕ → ℕ
row_of v i = i / v

-- the column of cell i on v columns
abbrev pub column_of : ℕ → ℕ → ℕ
column_of v i = i % v

-- whether the grid is allowed
abbrev pub grid_answer : ℕ → ℕ → Result (Unit {0}) Refusal
grid_answer h v = cond (grid_allowed h v) (Ok tt) (Err GridOutside)

-- the grid of h rows and v columns, or the refusal where it is not allowed
abbrev pub Laid : ℕ → ℕ → Result Grid Refusal → Type 0
Laid h v (Ok g) = (grid_answer h v ≡ Ok tt) × (g.rows ≡ h) × (g.columns ≡ v)
Laid h v (Err r) = grid_answer h v ≡ Err r
