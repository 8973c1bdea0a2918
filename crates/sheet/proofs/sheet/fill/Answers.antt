use Rattle.std.proofs.Common.{subst, ◌+◌, length-take-le, length-set, set, get_or, add-one, suc, [], ◌∷◌, sym, refl, ap, ◌∙◌, arith, w64, SFits, to_z, of_z, rules}
use Rattle.std.proofs.lemmas.Result.{err_from_is_err_and}
use Rattle.std.proofs.lemmas.Int.{to_z-of_z}
use Rattle.text.specs.Forms.{whole_form}
use Rattle.text.proofs.Lines.{last_stops, last_passed}
use Rattle.sheet.specs.Lines.{end_line}
use Rattle.sheet.specs.Sheets.{part_numbers}
use Rattle.sheet.specs.Readings.{claim_of, Filled}
use Rattle.sheet.proofs.Fills.{none_read, one_read, value_stops, end_stops, all_read, all_values, claim_stops, fault_left, values_left}
use Rattle.sheet.proofs.sheet.fill.Goals as goal

-- a refusal of a part is that of the whole reading, and so below; the tray's rest is as it was
pub returns-in_err-claim : goal.returns-in_err-claim
returns-in_err-claim g c =
    let F = g.F.Field.model in
    let p = err_from_is_err_and c.from_residual.result c.from_residual.ensures.1 in
    let e = claim_stops F c.args.terms.now c.args.sheet.now _ c.new-reader.ensures _ (c.in_err-claim.ensures []) in
    rw (p.1, p.2) (record { answer = ap (claim_of F) (sym e); tray = subst (λ o. Filled F (suc c.args.terms.now.degree) o c.args.tray.now c.args.tray.now) (sym e) refl })

-- no value is read, and below one more
pub loop-j-init : goal.loop-j-init
loop-j-init g c =
    let f : SFits w64 c.in_ok-claim.claim = search rules in
    none_read g.F.Field.model c.args.terms.now c.args.sheet.now _ c.new-reader.ensures (suc c.args.terms.now.degree) _ refl _ _ (to_z-of_z w64 c.in_ok-claim.claim f) (c.in_ok-claim.ensures []) _

pub returns-in_err-low : goal.returns-in_err-low
returns-in_err-low g c =
    let F = g.F.Field.model in
    let p = err_from_is_err_and c.from_residual-in_err-low.result c.from_residual-in_err-low.ensures.1 in
    let long = length-take-le (c.args.terms.now.degree + 1) c.args.tray.now (omega arith) in
    let f = c.loop-j.invariant in
    let kept = to_z w64 (of_z w64 c.in_ok-claim.claim) ∷ part_numbers f.parts in
    let e = value_stops F c.args.terms.now c.args.sheet.now (suc c.args.terms.now.degree) _ c.loop-j.j (omega arith) c.loop-j.reader c.loop-j.values f _
    (c.in_err-low.ensures.read kept) in
    rw (p.1, p.2) (record {
      answer = ap (claim_of F) (sym e);
      tray = fault_left F c.args.terms.now c.args.sheet.now (c.args.terms.now.degree + 1) (suc c.args.terms.now.degree) (add-one c.args.terms.now.degree) c.args.tray.now
          (set c.loop-j.values c.loop-j.j (get_or c.loop-j.values c.loop-j.j c.index-values-j.result)) (length-set c.loop-j.values c.loop-j.j _ ∙ (omega arith)) _ e;
    })

pub loop-j-preserved : goal.loop-j-preserved
loop-j-preserved g c =
    let long = length-take-le (c.args.terms.now.degree + 1) c.args.tray.now (omega arith) in
    let f = c.loop-j.invariant in
    let kept = to_z w64 (of_z w64 c.in_ok-claim.claim) ∷ part_numbers f.parts in
    one_read g.F.Field.model c.args.terms.now c.args.sheet.now (suc c.args.terms.now.degree) _ c.loop-j.j (omega arith) c.loop-j.reader c.loop-j.values f
    c.in_ok-low.low c.in_ok-low.high c.of_parts.result c.read_parts.new.reader (omega arith) c.of_parts.ensures
    (c.in_ok-low.ensures.read kept)

pub returns-in_err-pass : goal.returns-in_err-pass
returns-in_err-pass g c =
    let F = g.F.Field.model in
    let p = err_from_is_err_and c.from_residual-in_err-pass.result c.from_residual-in_err-pass.ensures.1 in
    let long = length-take-le (c.args.terms.now.degree + 1) c.args.tray.now (omega arith) in
    let f = c.loop-j.invariant in
    let e = end_stops F c.args.terms.now c.args.sheet.now (suc c.args.terms.now.degree) _ c.loop-j.j (omega arith) c.loop-j.reader c.loop-j.values f _ (last_stops _ (whole_form end_line) c.end_line.ensures _ _ _ (c.in_err-pass.ensures.read _)) in
    rw (p.1, p.2) (record { answer = ap (claim_of F) (sym e); tray = fault_left F c.args.terms.now c.args.sheet.now (c.args.terms.now.degree + 1) (suc c.args.terms.now.degree) (add-one c.args.terms.now.degree) c.args.tray.now c.loop-j.values (omega arith) _ e })

-- all are read, so the tray's front is the values
pub returns-clause-tray : goal.returns-clause-tray
returns-clause-tray g c =
    let F = g.F.Field.model in
    let long = length-take-le (c.args.terms.now.degree + 1) c.args.tray.now (omega arith) in
    let f = c.loop-j.invariant in
    let e = all_read F c.args.terms.now c.args.sheet.now (suc c.args.terms.now.degree) _ c.loop-j.j (omega arith) c.loop-j.reader c.loop-j.values f c.pass.new.self (last_passed _ (whole_form end_line) c.end_line.ensures _ _ _ _ (c.in_ok-pass.ensures.read _) refl) in
    values_left F c.args.terms.now c.args.sheet.now (c.args.terms.now.degree + 1) (suc c.args.terms.now.degree) (add-one c.args.terms.now.degree) c.args.tray.now c.loop-j.values (omega arith) _ _ e
    (all_values F c.args.terms.now c.args.sheet.now (suc c.args.terms.now.degree) _ c.loop-j.j (omega arith) c.loop-j.reader c.loop-j.values f (omega arith))
