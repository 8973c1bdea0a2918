use Rattle.std.proofs.Common.{◌<◌, length, [], get_or, pos, Ok, refl, ap, ◌∙◌, arith, w64, SFits, rules}
use Rattle.std.proofs.lemmas.Result.{err_from_is_err_and}
use Rattle.std.proofs.lemmas.Int.{to_z-of_z}
use Rattle.text.specs.Items.{items_pass}
use Rattle.text.specs.Forms.{whole_form, kept_numbers}
use Rattle.text.proofs.Lines.{line_stops, line_passed, last_stops, last_read, take_two}
use Rattle.form_tests.specs.Toys.{grid_line, at_line, toy_lines, first_two}
use Rattle.form_tests.proofs.read.read.Goals as goal

-- a refusal of a line is that of the text
pub returns-in_err-pass : goal.returns-in_err-pass
returns-in_err-pass c =
    let p = err_from_is_err_and c.from_residual.result c.from_residual.ensures.1 in
    rw (p.1, p.2)
    (ap (λ o. first_two (kept_numbers o))
    (line_stops _ (grid_line c.args.n) c.grid_line.ensures [] _ (whole_form at_line) _ (c.in_err-pass.ensures.read [])
    ∙ ap (items_pass (whole_form (toy_lines c.args.n)) []) c.new-reader.ensures))

pub returns-in_err-pass-2 : goal.returns-in_err-pass-2
returns-in_err-pass-2 c =
    let p = err_from_is_err_and c.from_residual-in_err-pass-2.result c.from_residual-in_err-pass-2.ensures.1 in
    rw (p.1, p.2)
    (ap (λ o. first_two (kept_numbers o))
    (last_stops _ (whole_form at_line) c.at_line.ensures [] _ _ (c.in_err-pass-2.ensures.read [])
    ∙ line_passed _ (grid_line c.args.n) c.grid_line.ensures [] _ (whole_form at_line) _ _ (c.in_ok-pass.ensures.read []) refl
    ∙ ap (items_pass (whole_form (toy_lines c.args.n)) []) c.new-reader.ensures))

-- the numbers of the second line
pub returns : goal.returns
returns c =
    let ns = c.pass-2.new.numbers in
    let long : 1 < length ns = omega arith in
    let f : SFits w64 (get_or ns 0 (pos 0)) = search rules in
    let g : SFits w64 (get_or ns 1 (pos 0)) = search rules in
    (λ i. Ok (to_z-of_z w64 (get_or ns 0 (pos 0)) f i, to_z-of_z w64 (get_or ns 1 (pos 0)) g i))
    ∙ ap (λ o. first_two (kept_numbers o))
    (last_read _ (whole_form at_line) c.at_line.ensures [] _ ns _ (c.in_ok-pass-2.ensures.read []) _ (take_two ns long)
    ∙ line_passed _ (grid_line c.args.n) c.grid_line.ensures [] _ (whole_form at_line) _ _ (c.in_ok-pass.ensures.read []) refl
    ∙ ap (items_pass (whole_form (toy_lines c.args.n)) []) c.new-reader.ensures)
