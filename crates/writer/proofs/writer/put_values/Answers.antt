use Rattle.std.proofs.Common.{◌+◌, [], ◌∷◌, map, pos, refl, ap, ◌∙◌, arith, w64, SFits, to_z, of_z, rules}
use Rattle.std.proofs.lemmas.Int.{to_z-of_z}
use Rattle.text.specs.Meanings.{item_of}
use Rattle.writer.specs.Texts.{form_text}
use Rattle.writer.proofs.Papers.{putting_length, putting_room, putting_more, putting_all}
use Rattle.writer.proofs.Lengths.{lines_from, line_next, lines_done}
use Rattle.writer.proofs.writer.put_values.Goals as goal

-- there is room for the next line, since there is for all that is left
pub put_items-requires-clause-room : goal.put_items-requires-clause-room
put_items-requires-clause-room g c =
    let f : SFits w64 c.from.result = search rules in
    let h : SFits w64 c.from-in-loop-j.result = search rules in
    let low = to_z w64 (of_z w64 c.from.result) in
    let high = to_z w64 (of_z w64 c.from-in-loop-j.result) in
    let next = line_next g.F.Field.model c.args.values.now c.loop-j.j c.index-values-j.result (omega arith) c.index-values-j.is (map item_of c.value_line.result) c.value_line.ensures
    low high (to_z-of_z w64 c.from.result f ∙ c.from.ensures ∙ ap pos c.low.ensures) (to_z-of_z w64 c.from-in-loop-j.result h ∙ c.from-in-loop-j.ensures ∙ ap pos c.high.ensures) in
    let r = putting_room c.loop-j.invariant.putting (form_text (map item_of c.value_line.result) (low ∷ high ∷ [])) (lines_from g.F.Field.model c.args.values.now (c.loop-j.j + 1)) next in
    let l = putting_length c.loop-j.invariant.putting c.requires.room in
    omega arith

-- one line more is put, and the rest is to come
pub loop-j-preserved : goal.loop-j-preserved
loop-j-preserved g c =
    let f : SFits w64 c.from.result = search rules in
    let h : SFits w64 c.from-in-loop-j.result = search rules in
    let low = to_z w64 (of_z w64 c.from.result) in
    let high = to_z w64 (of_z w64 c.from-in-loop-j.result) in
    let next = line_next g.F.Field.model c.args.values.now c.loop-j.j c.index-values-j.result (omega arith) c.index-values-j.is (map item_of c.value_line.result) c.value_line.ensures
    low high (to_z-of_z w64 c.from.result f ∙ c.from.ensures ∙ ap pos c.low.ensures) (to_z-of_z w64 c.from-in-loop-j.result h ∙ c.from-in-loop-j.ensures ∙ ap pos c.high.ensures) in
    record {
      putting = putting_more c.loop-j.invariant.putting (form_text (map item_of c.value_line.result) (low ∷ high ∷ [])) (lines_from g.F.Field.model c.args.values.now (c.loop-j.j + 1)) next c.put_items.ensures.lays;
      lender = c.put_items.ensures.lender ∙ c.loop-j.invariant.lender;
    }

-- after the values only the last line is left
pub put_items-requires-2-clause-room : goal.put_items-requires-2-clause-room
put_items-requires-2-clause-room g c =
    let done = lines_done g.F.Field.model c.args.values.now c.loop-j.j (omega arith) (map item_of c.end_line.result) c.end_line.ensures in
    let r = putting_room c.loop-j.invariant.putting (form_text (map item_of c.end_line.result) []) [] done in
    let l = putting_length c.loop-j.invariant.putting c.requires.room in
    omega arith

pub returns : goal.returns
returns g c =
    let done = lines_done g.F.Field.model c.args.values.now c.loop-j.j (omega arith) (map item_of c.end_line.result) c.end_line.ensures in
    record {
      lays = putting_all (putting_more c.loop-j.invariant.putting (form_text (map item_of c.end_line.result) []) [] done c.put_items-2.ensures.lays) refl;
      lender = c.put_items-2.ensures.lender ∙ c.loop-j.invariant.lender;
    }
