use Rattle.std.proofs.Common.{◌∷◌, pos, nat_abs, ◌<ℤ◌, decimal, ap, ◌∙◌, arith, w64}
use Rattle.std.proofs.lemmas.Int.{ints, to_z-of_z}
use Rattle.writer.proofs.Papers.{lays_more, lays_as, signed_minus}
use Rattle.writer.proofs.put.put_signed.Goals as goal

pub returns-then-z-lt0 : goal.returns-then-z-lt0
returns-then-z-lt0 c =
    let h : c.args.z <ℤ pos 0 = grind (arith, ints, to_z-of_z) in
    lays_as (ap (λ n. 45 ∷ decimal n) (c.unsigned_abs.ensures.value ∙ ap nat_abs (to_z-of_z w64 c.args.z c.ranges.z)) ∙ signed_minus c.args.z h)
    (lays_more c.put_byte-next.ensures c.put_decimal.ensures)
