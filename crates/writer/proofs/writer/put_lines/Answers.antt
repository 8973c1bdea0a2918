use Rattle.std.proofs.Common.{map, ◌∙◌, w64, to_z, of_z}
use Rattle.std.proofs.lemmas.Int.{to_z-of_z}
use Rattle.text.specs.Meanings.{item_of}
use Rattle.writer.specs.Papers.{paper_of, place_of}
use Rattle.writer.proofs.Wholes.{second_room, lines_room, all_put}
use Rattle.writer.proofs.writer.put_lines.Goals as goal

-- room for the second line, and below for the lines after it, since there is room for the text
pub put_items-requires-2-clause-room : goal.put_items-requires-2-clause-room
put_items-requires-2-clause-room g c =
    second_room g.F.Field.model c.args.values.now c.args.terms.now c.args.claim (map item_of c.sheet_line.result) c.sheet_line.ensures (map item_of c.claim_line.result) c.claim_line.ensures (to_z w64 (of_z w64 c.args.claim)) (to_z-of_z w64 c.args.claim c.ranges.claim) (paper_of c.args.pen.now) (place_of c.args.pen.now) c.requires.room
    c.put_items.ensures.lays

pub put_values-requires-clause-room : goal.put_values-requires-clause-room
put_values-requires-clause-room g c =
    lines_room g.F.Field.model c.args.values.now c.args.terms.now c.args.claim (map item_of c.sheet_line.result) c.sheet_line.ensures (map item_of c.claim_line.result) c.claim_line.ensures (to_z w64 (of_z w64 c.args.claim)) (to_z-of_z w64 c.args.claim c.ranges.claim) (paper_of c.args.pen.now) (place_of c.args.pen.now) c.requires.room
    c.put_items.ensures.lays c.put_items-2.ensures.lays

-- the lines, one behind the other, are the text
pub returns : goal.returns
returns g c = record {
  lays =
      all_put g.F.Field.model c.args.values.now c.args.terms.now c.args.claim (map item_of c.sheet_line.result) c.sheet_line.ensures (map item_of c.claim_line.result) c.claim_line.ensures (to_z w64 (of_z w64 c.args.claim)) (to_z-of_z w64 c.args.claim c.ranges.claim) (paper_of c.args.pen.now) (place_of c.args.pen.now) c.requires.room
      c.put_items.ensures.lays c.put_items-2.ensures.lays c.put_values.ensures.lays;
  lender = c.put_values.ensures.lender ∙ c.put_items-2.ensures.lender ∙ c.put_items.ensures.lender;
}
