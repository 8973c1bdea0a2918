use Rattle.std.proofs.Common.{map, refl, sym, ap, ◌∙◌, arith}
use Rattle.std.proofs.lemmas.List.{drop_all}
use Rattle.text.specs.Marks.{marks}
use Rattle.text.specs.Meanings.{item_of}
use Rattle.writer.specs.Texts.{written_on}
use Rattle.writer.proofs.Papers.{lays_none, lays_as}
use Rattle.writer.proofs.pen.Pen.put_items.Goals as goal

pub loop-i-init : goal.loop-i-init
loop-i-init c = record {
  numbers = c.put_item-space-11.ensures.numbers;
  room = c.put_item-space-11.ensures.room;
  line = λ paper end rest. rest;
  lender = refl;
}

pub loop-i-preserved : goal.loop-i-preserved
loop-i-preserved c = record {
  numbers = c.put_item-next.ensures.numbers;
  room = c.put_item-next.ensures.room;
  line = λ paper end rest. c.loop-i.invariant.line paper end (c.put_item-next.ensures.line paper end rest);
  lender = c.put_item-next.ensures.lender ∙ c.loop-i.invariant.lender;
}

-- behind the last item nothing is left, so that all are put
pub returns : goal.returns
returns c =
    let none = sym (ap (λ items. written_on c.loop-i.space (marks (map item_of items) c.loop-i.rest.now)) (drop_all c.loop-i.i c.args.items.now (omega arith))) in
    let p11 = c.loop-i.invariant.line _ _ (lays_as none (lays_none _ _)) in
    let p8 = c.put_item-space-9.ensures.line _ _ (c.put_item-space-10.ensures.line _ _ (c.put_item-space-11.ensures.line _ _ p11)) in
    let p4 = c.put_item-space-5.ensures.line _ _ (c.put_item-space-6.ensures.line _ _ (c.put_item-space-7.ensures.line _ _ (c.put_item-space-8.ensures.line _ _ p8))) in
    let p0 = c.put_item-space.ensures.line _ _ (c.put_item-space-2.ensures.line _ _ (c.put_item-space-3.ensures.line _ _ (c.put_item-space-4.ensures.line _ _ p4))) in
    let l8 = c.loop-i.invariant.lender ∙ c.put_item-space-11.ensures.lender ∙ c.put_item-space-10.ensures.lender ∙ c.put_item-space-9.ensures.lender in
    let l4 = c.put_item-space-8.ensures.lender ∙ c.put_item-space-7.ensures.lender ∙ c.put_item-space-6.ensures.lender ∙ c.put_item-space-5.ensures.lender in
    let l0 = c.put_item-space-4.ensures.lender ∙ c.put_item-space-3.ensures.lender ∙ c.put_item-space-2.ensures.lender ∙ c.put_item-space.ensures.lender in
    record { lays = p0; lender = l8 ∙ l4 ∙ l0 }
