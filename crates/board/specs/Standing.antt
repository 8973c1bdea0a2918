-- Where an end stands in its game. Assumes nothing.
use Rattle.std.specs.Prelude.{ℕ}

-- where an end stands: its grid, and the weight and the number of its accepted moves
pub record Standing : Type 0 where
  pub rows : ℕ
  pub columns : ℕ
  pub weight : ℕ
  pub number : ℕ
