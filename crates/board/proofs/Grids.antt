-- What an allowed grid keeps to. Assumes nothing.
use Rattle.std.proofs.Common.{◌≡◌, ℕ, ◌%◌, ◌≤◌, true, eqb-true, leb-true}
use Rattle.std.proofs.lemmas.Bool.{and_parts}
use Rattle.board.specs.Grids.{grid_allowed}

-- the limits of an allowed grid
pub record AllowedGrid (h v : ℕ) : Type 0 where
  pub rows_least : 1 ≤ h
  pub rows_most : h ≤ 64
  pub columns_least : 8 ≤ v
  pub columns_most : v ≤ 1024
  pub columns_eighths : v % 8 ≡ 0

pub allowed_grid : (h v : ℕ) → grid_allowed h v ≡ true → AllowedGrid h v
allowed_grid h v e =
    let (a, e) = and_parts _ _ e in
    let (b, e) = and_parts _ _ e in
    let (c, e) = and_parts _ _ e in
    let (d, f) = and_parts _ _ e in
    record { rows_least = leb-true _ _ a; rows_most = leb-true _ _ b; columns_least = leb-true _ _ c; columns_most = leb-true _ _ d; columns_eighths = eqb-true _ _ f }
