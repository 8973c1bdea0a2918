-- The numbers that are moduli of the prime fields here.
use Rattle.std.specs.Prelude.{ℕ, ◌*◌, ◌%◌, ◌<◌, ◌≤◌, ◌≢◌}
use Rattle.prime.specs.Primes.{Prime}

-- a prime P of at most 31 bits, with a limit W of weights whose square is below it and a number w that leaves no square
pub record IsModulus (P W w : ℕ) : Type 0 where
  pub prime : Prime P
  pub least : 65537 ≤ P
  pub most : P ≤ 2147483647
  pub limit_least : 1 ≤ W
  pub limit_most : W * W < P
  pub reduced : w < P
  pub no_square : (n : ℕ) → n < P → (n * n) % P ≢ w
