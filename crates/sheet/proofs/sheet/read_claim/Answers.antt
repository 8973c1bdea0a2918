use Rattle.std.proofs.Common.{◌<◌, length, [], ◌∷◌, ◌++◌, get_or, pos, Ok, refl, ap, ◌∙◌, arith, w64, SFits, rules}
use Rattle.std.proofs.lemmas.Result.{err_from_is_err_and}
use Rattle.std.proofs.lemmas.Int.{to_z-of_z}
use Rattle.text.proofs.Lines.{line_stops, line_passed, last_stops, last_read, take_one}
use Rattle.sheet.specs.Lines.{sheet_line, claim_line}
use Rattle.sheet.proofs.sheet.read_claim.Goals as goal

-- a refusal of a line is that of both
pub returns-in_err-pass : goal.returns-in_err-pass
returns-in_err-pass g c =
    let p = err_from_is_err_and c.from_residual.result c.from_residual.ensures.1 in
    rw (p.1, p.2) (λ kept. line_stops _ (sheet_line g.F.Field.model c.args.terms.now) c.sheet_line.ensures kept _ (claim_line c.args.terms.now) _ (c.in_err-pass.ensures.read kept))

pub returns-in_err-pass-2 : goal.returns-in_err-pass-2
returns-in_err-pass-2 g c =
    let p = err_from_is_err_and c.from_residual-in_err-pass-2.result c.from_residual-in_err-pass-2.ensures.1 in
    rw (p.1, p.2)
    (λ kept.
    last_stops _ (claim_line c.args.terms.now) c.claim_line.ensures kept _ _ (c.in_err-pass-2.ensures.read kept)
    ∙ line_passed _ (sheet_line g.F.Field.model c.args.terms.now) c.sheet_line.ensures kept _ (claim_line c.args.terms.now) _ _ (c.in_ok-pass.ensures.read kept) refl)

-- the claim is the number of the second
pub returns : goal.returns
returns g c =
    let ns = c.pass-2.new.numbers in
    let long : 0 < length ns = omega arith in
    let fits : SFits w64 (get_or ns 0 (pos 0)) = search rules in
    λ kept.
    ap (λ z. Ok (kept ++ z ∷ [], c.pass-2.new.self)) (to_z-of_z w64 (get_or ns 0 (pos 0)) fits)
    ∙ last_read _ (claim_line c.args.terms.now) c.claim_line.ensures kept _ ns _ (c.in_ok-pass-2.ensures.read kept) _ (take_one ns long)
    ∙ line_passed _ (sheet_line g.F.Field.model c.args.terms.now) c.sheet_line.ensures kept _ (claim_line c.args.terms.now) _ _ (c.in_ok-pass.ensures.read kept) refl
