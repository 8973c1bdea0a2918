use Rattle.std.proofs.Common.{[], ◌∷◌, ◌++◌, ◌+◌, ◌/◌, ◌%◌, sym, ap, ◌∙◌, arith}
use Rattle.std.proofs.lemmas.Fmt.{decimal_step, decimal_digit}
use Rattle.writer.proofs.Papers.{lays_more, lays_as}
use Rattle.writer.proofs.put.+put_decimal.Goals as goal

-- two digits
pub returns-then-tens-lt10 : goal.returns-then-tens-lt10
returns-then-tens-lt10 t c =
    lays_as (sym (decimal_step c.args.n c.if-n-lt10.false (omega arith) ∙ ap (λ xs. xs ++ ((48 + c.args.n % 10) ∷ [])) (decimal_digit (c.args.n / 10) (omega arith))))
    (lays_more c.put_byte-last.ensures c.put_byte-then-tens-lt10.ensures)

-- the decimal of n is that of n / 10 and one digit more, and so is that of n / 10
pub returns : goal.returns
returns t c =
    lays_as
    (sym (decimal_step c.args.n c.if-n-lt10.false (omega arith) ∙ ap (λ xs. xs ++ ((48 + c.args.n % 10) ∷ [])) (decimal_step (c.args.n / 10) c.if-tens-lt10.false (omega arith))))
    (lays_more (lays_more c.put_decimal-next.ensures c.put_byte-last-2.ensures) c.put_byte-2.ensures)
