use Rattle.std.proofs.Common.{[], ◌∷◌, map, sym, ap, ◌∙◌, subst, w64, to_z, of_z}
use Rattle.std.proofs.lemmas.Int.{to_z-of_z}
use Rattle.std.proofs.lemmas.Result.{on_ok_weaker}
use Rattle.text.specs.Meanings.{item_of}
use Rattle.writer.specs.Papers.{Puts, put_answer}
use Rattle.writer.specs.Texts.{form_text}
use Rattle.writer.proofs.Pens.{answer_more, puts_more}
use Rattle.form_tests.proofs.Toys.{two_lines}
use Rattle.form_tests.proofs.write.write_toy.Goals as goal

-- behind the first line, what is answered for the second is answered for both
pub returns-clause-answer : goal.returns-clause-answer
returns-clause-answer c =
    let one = form_text (map item_of c.grid_line.result) [] in
    let two = form_text (map item_of c.at_line.result) (to_z w64 (of_z w64 c.args.first) ∷ to_z w64 (of_z w64 c.args.second) ∷ []) in
    c.items-2.ensures.answer
    ∙ answer_more one two c.args.pen.now c.items.new.self (sym c.in_ok-items.ensures.answer) c.in_ok-items.ensures.line
    ∙ ap (λ bs. put_answer bs c.args.pen.now) (two_lines c.args.n c.args.first c.args.second _ _ c.grid_line.ensures c.at_line.ensures _ _ (to_z-of_z w64 c.args.first c.ranges.first) (to_z-of_z w64 c.args.second c.ranges.second))

-- and both are put
pub returns-clause-text : goal.returns-clause-text
returns-clause-text c =
    let one = form_text (map item_of c.grid_line.result) [] in
    let two = form_text (map item_of c.at_line.result) (to_z w64 (of_z w64 c.args.first) ∷ to_z w64 (of_z w64 c.args.second) ∷ []) in
    let both = two_lines c.args.n c.args.first c.args.second _ _ c.grid_line.ensures c.at_line.ensures _ _ (to_z-of_z w64 c.args.first c.ranges.first) (to_z-of_z w64 c.args.second c.ranges.second) in
    on_ok_weaker c.items-2.result (λ p. subst (λ bs. Puts bs c.args.pen.now c.items-2.new.self) both (puts_more one two c.args.pen.now c.items.new.self c.items-2.new.self c.in_ok-items.ensures.line p)) c.items-2.ensures.line
