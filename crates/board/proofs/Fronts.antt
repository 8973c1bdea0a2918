-- The front of a bank: what a granted reading says of its cells. Assumes nothing.
use Rattle.std.proofs.Common.{◌≡◌, ℕ, ◌≤◌, List, length, take, ap, ◌∙◌, arith, length-take}

-- the first n cells, of which there are as many
pub record Front {A : Type 0} (n : ℕ) (cells front : List A) : Type 0 where
  pub is : front ≡ take n cells
  pub long : n ≤ length cells

pub front_read : {A : Type 0} (n m : ℕ) (cells front : List A) → m ≡ n → front ≡ take m cells → length front ≡ m → Front n cells front
front_read n m cells front e is size = record { is = is ∙ ap (λ k. take k cells) e; long = omega (arith, size, ap length is, length-take m cells) }
