use Rattle.std.proofs.Common.{ℕ, cond, [], ◌∷◌, ◌++◌, length, ap, ◌∙◌, arith, w64, length-append}
use Rattle.std.proofs.lemmas.Int.{to_z-of_z}
use Rattle.text.specs.Marks.{item_mark}
use Rattle.text.specs.Meanings.{item_of}
use Rattle.writer.specs.Texts.{mark_bytes}
use Rattle.writer.proofs.Papers.{lays_length, lays_more, lays_as}
use Rattle.writer.proofs.pen.Pen.spaced.Goals as goal

-- room for the item behind the space, if there is one
pub item-requires : goal.item-requires
item-requires c =
    let is = ap (λ z. length (mark_bytes (item_mark (item_of c.args.item) z))) (to_z-of_z w64 c.args.number c.ranges.number) in
    let gap = ap (λ t. length {A = ℕ} (cond t (32 ∷ []) [])) (c.spaced_between.ensures c.args.number) in
    let l = length-append (cond c.spaced_between.result (32 ∷ []) []) (mark_bytes (item_mark (item_of c.args.item) c.args.number)) in
    let e = ap (λ t. length (cond t (32 ∷ []) [] ++ mark_bytes (item_mark (item_of c.args.item) c.args.number))) (c.spaced_between.ensures c.args.number) in
    let i = c.gap.ensures.lays.end_is in
    let k = lays_length c.gap.ensures.lays (omega arith) in
    omega arith

pub returns : goal.returns
returns c =
    let is = ap (λ z. mark_bytes (item_mark (item_of c.args.item) z)) (to_z-of_z w64 c.args.number c.ranges.number) in
    record {
      lays = lays_as (λ j. cond (c.spaced_between.ensures c.args.number j) (32 ∷ []) [] ++ is j) (lays_more c.gap.ensures.lays c.item.ensures.lays);
      lender = c.item.ensures.lender ∙ c.gap.ensures.lender;
    }
