use Rattle.std.proofs.Common.{◌≡◌, ◌+◌, ◌≤◌, map, length, drop}
use Rattle.text.specs.Items.{stated_count}
use Rattle.text.specs.Marks.{marks}
use Rattle.text.specs.Meanings.{item_of}
use Rattle.writer.specs.Papers.{paper_of, place_of}
use Rattle.writer.specs.Texts.{form_text, written_on}
use Rattle.writer.proofs.pen.Pen.fits.Given as goal

-- the room that is left is for the items that are to come, with the numbers that are left
abbrev pub invariant-loop-item : goal.invariant-loop-item
invariant-loop-item l = record {
  left : place_of l.self + length (form_text (map item_of l.items) l.numbers) + l.room ≡ length (paper_of l.self) + length (written_on l.space (marks (map item_of (drop l.item-index l.items)) l.rest));
  enough : stated_count (map item_of (drop l.item-index l.items)) ≤ length l.rest;
}
