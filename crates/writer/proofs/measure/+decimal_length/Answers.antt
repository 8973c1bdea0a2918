use Rattle.std.proofs.Common.{◌^◌, ◌<◌, arith}
use Rattle.std.proofs.lemmas.Fmt.{length-decimal-le}
use Rattle.writer.proofs.Papers.{front_fits}
use Rattle.writer.proofs.measure.+decimal_length.Goals as goal

-- a number of the code has at most twenty digits
pub returns-else-n-lt10-clause-small : goal.returns-else-n-lt10-clause-small
returns-else-n-lt10-clause-small t c =
    let fits : c.args.n < 2 ^ 64 = omega arith in
    let most = length-decimal-le 20 c.args.n (omega arith) (omega arith) fits in
    let front = front_fits c.args.n c.if-n-lt10.false fits in
    let value = c.decimal_length.ensures.value in
    omega arith
