use Rattle.std.proofs.Common.{sym, ◌∙◌, arith, w64, SFits, to_z, of_z, rules, length-drop}
use Rattle.std.proofs.lemmas.Int.{to_z-of_z}
use Rattle.std.proofs.lemmas.List.{take_rest}
use Rattle.text.specs.declared.item.Item.TheVariants.{Open}
use Rattle.text.specs.Meanings.{item_of}
use Rattle.text.proofs.Passes.{count_next}
use Rattle.writer.proofs.Papers.{item_first, item_on, item_left, lays_length, lays_more, lays_as}
use Rattle.writer.proofs.pen.Pen.put_item.Goals as goal

-- there is room for the item, since there is for it and those behind it
pub spaced-requires : goal.spaced-requires
spaced-requires c =
    let f : SFits w64 c.first_or_zero.result = search rules in
    let l = item_first item_of c.args.items.now c.args.i Open (omega arith) c.args.space c.args.numbers.now c.requires.numbers
    (to_z w64 (of_z w64 c.first_or_zero.result)) (to_z-of_z w64 c.first_or_zero.result f ∙ c.first_or_zero.ensures) in
    omega arith

-- the item is put, and those behind it are to come
pub returns : goal.returns
returns c =
    let f : SFits w64 c.first_or_zero.result = search rules in
    let zs = c.args.numbers.now in
    let n = to_z w64 (of_z w64 c.first_or_zero.result) in
    let n-is = to_z-of_z w64 c.first_or_zero.result f ∙ c.first_or_zero.ensures in
    let next = count_next item_of c.args.items.now c.args.i Open (omega arith) in
    let long = length-drop c.stated_count_of.result zs in
    let few = c.requires.numbers in
    let is = c.stated_count_of.ensures in
    let on = item_on item_of c.args.items.now c.args.i Open (omega arith) c.args.space zs few n n-is c.spaced_after.result c.stated_count_of.result (c.spaced_after.ensures _) is in
    let left = item_left item_of c.args.items.now c.args.i Open (omega arith) c.args.space zs few n n-is c.spaced_after.result c.stated_count_of.result (c.spaced_after.ensures _) is in
    let end = c.spaced.ensures.lays.end_is in
    let room = c.requires.room in
    let first = item_first item_of c.args.items.now c.args.i Open (omega arith) c.args.space zs few n n-is in
    let same = lays_length c.spaced.ensures.lays (omega arith) in
    rw (take_rest zs c.stated_count_of.result) (record {
      numbers = omega arith;
      room = omega arith;
      line = λ paper end rest. lays_as (sym on) (lays_more c.spaced.ensures.lays rest);
      lender = c.spaced.ensures.lender;
    })
