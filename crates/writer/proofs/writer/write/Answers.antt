use Rattle.std.proofs.Common.{◌^◌, ◌<◌, nat_abs, sym, ap, subst, arith, w64, to_z, of_z}
use Rattle.std.proofs.lemmas.Int.{to_z-of_z}
use Rattle.writer.specs.Texts.{text}
use Rattle.writer.specs.Laws.{TenDigits}
use Rattle.writer.proofs.Papers.{lays_as}
use Rattle.writer.proofs.Lengths.{text_fits}
use Rattle.writer.proofs.Wholes.{claim_small, wrote}
use Rattle.writer.proofs.writer.write.Goals as goal

-- the text is no longer than the paper that is enough: its numbers have few digits
pub put_sheet-requires : goal.put_sheet-requires
put_sheet-requires g c =
    let fit : TenDigits c.args.terms = record { rows_fit = omega arith; columns_fit = omega arith; kind_fits = omega arith; first_fits = omega arith; second_fits = omega arith } in
    let small = subst (λ z. nat_abs z < 10 ^ 19) (sym (to_z-of_z w64 c.args.claim c.ranges.claim)) (claim_small c.args.claim c.ranges.claim.sfits) in
    let r = text_fits g.F.Field.model g.met.F.Field.lawful c.args.terms (to_z w64 (of_z w64 c.args.claim)) c.args.values.now fit small (omega arith) in
    omega arith

-- the text lies at the start of the paper, which is as it was behind it
pub returns-clause-paper : goal.returns-clause-paper
returns-clause-paper g c =
    let e = to_z-of_z w64 c.args.claim c.ranges.claim in
    wrote g.F.Field.model c.args.terms c.args.claim c.args.values.now c.args.paper.now (omega arith) (omega arith) (lays_as (ap (λ z. text g.F.Field.model c.args.terms z c.args.values.now) e) c.put_sheet.ensures)
