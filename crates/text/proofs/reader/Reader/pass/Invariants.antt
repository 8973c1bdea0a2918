use Rattle.std.proofs.Common.{◌≡◌, List, map, length, take, drop, ◌++◌, ℤ, ◌+◌, ◌<◌, ◌≤◌}
use Rattle.text.specs.Items.{stated_count, items_pass, passed_to}
use Rattle.text.specs.Meanings.{item_of}
use Rattle.text.proofs.reader.Reader.pass.Given as goal

-- the numbers so far stand in front, and what is left of the items comes to what all of them do, and ends where that ends
abbrev pub invariant-loop-item : goal.invariant-loop-item
invariant-loop-item l = record {
  all : l.at + stated_count (map item_of (drop l.item-index l.items)) ≡ stated_count (map item_of l.items);
  same : length l.numbers ≡ length l.initial.numbers;
  rest : (kept : List ℤ) → items_pass (map item_of (drop l.item-index l.items)) (kept ++ take l.at l.numbers) l.self ≡ items_pass (map item_of l.items) kept l.initial.self;
  ends : passed_to (map item_of (drop l.item-index l.items)) l.self ≡ passed_to (map item_of l.items) l.initial.self;
  counted : 0 < l.item-index → l.self.line ≤ l.self.place + 1;
}
