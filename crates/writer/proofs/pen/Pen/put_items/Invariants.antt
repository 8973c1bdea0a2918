use Rattle.std.proofs.Common.{◌≡◌, ◌≤◌, ℕ, List, map, length, drop}
use Rattle.text.specs.Items.{stated_count}
use Rattle.text.specs.Marks.{marks}
use Rattle.text.specs.Meanings.{item_of}
use Rattle.writer.specs.Papers.{paper_of, place_of, Lays, Room}
use Rattle.writer.specs.Texts.{written_on}
use Rattle.writer.proofs.pen.Pen.put_items.Given as goal

-- there is room for the items from this one on, and with them all behind the first eleven are put
abbrev pub invariant-loop-i : goal.invariant-loop-i
invariant-loop-i l = record {
  numbers : stated_count (map item_of (drop l.i l.items)) ≤ length l.rest;
  room : Room (written_on l.space (marks (map item_of (drop l.i l.items)) l.rest)) l.self;
  line : (paper : List ℕ) (end : ℕ) → Lays (written_on l.space (marks (map item_of (drop l.i l.items)) l.rest)) (paper_of l.self) (place_of l.self) paper end
      → Lays (written_on l.initial.space (marks (map item_of (drop 11 l.items)) l.initial.rest)) (paper_of l.initial.self) (place_of l.initial.self) paper end;
  lender : l.self.paper.ghost_name ≡ l.initial.self.paper.ghost_name;
}
