use Rattle.std.proofs.Common.{arith}
use Rattle.bench.proofs.Amounts.{greatest_amount}
use Rattle.bench.proofs.moves.heaviest.Goals as goal

-- src/moves.rt:8:1
pub returns-clause-greatest : goal.returns-clause-greatest
returns-clause-greatest c a small light =
    omega (arith, c.clamp.ensures, c.unwrap_or.ensures, greatest_amount c.args.limit c.args.moves a c.checked_div.result c.checked_div.ensures small light)
