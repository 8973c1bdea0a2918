-- A box to its callers. Assumes nothing.
use Rattle.board.specs.Standing.{Standing}

-- where a box stands, and its secret point
pub record Pointed (K : Type 0) : Type 0 where
  pub standing : Standing
  pub point : K
