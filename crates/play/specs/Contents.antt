-- What the memory of a trial holds. Assumes nothing.
use Rattle.std.specs.Prelude.{ℕ, List, ℤ}

-- the cells of both banks, the tray and the paper
pub record Contents (K : Type 0) : Type 0 where
  pub counts : List ℤ
  pub sums : List K
  pub tray : List K
  pub paper : List ℕ
