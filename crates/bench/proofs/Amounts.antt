-- The greatest amount of moves that are not too heavy. Assumes nothing.
use Rattle.std.proofs.Common.{◌*◌, ◌<◌, ◌≤◌, ◌/◌, ℕ, arith}
use Rattle.std.specs.Prelude.{Option, None, Some}
use Rattle.std.specs.Option.{SomeIff, unwrap_or}
use Rattle.std.proofs.lemmas.Nat.{le-div}
use Prim.Native.Nat.{max, min}

pub greatest_amount : (limit moves a : ℕ) (q : Option ℕ) → SomeIff q (0 < moves) (limit / moves) → a ≤ 256 → moves * a ≤ limit
    → a ≤ max 1 (min (unwrap_or q 256) 256)
greatest_amount limit moves a None none small light = omega arith
greatest_amount limit moves a (Some d) (some, e) small light =
    let below = le-div a limit moves some (omega (arith, light)) in omega (arith, e, below, small)
