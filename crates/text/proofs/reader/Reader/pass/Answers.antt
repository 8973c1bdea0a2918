use Rattle.std.proofs.Common.{◌≡◌, [], ◌++◌, ◌+◌, map, take, drop, Ok, sym, ap, ◌∙◌, arith, w64, SFits, rules}
use Rattle.std.proofs.lemmas.Result.{err_from_is_err_and}
use Rattle.std.proofs.lemmas.Int.{to_z-of_z}
use Rattle.std.proofs.lemmas.List.{drop_all}
use Rattle.text.specs.declared.item.Item.TheVariants.{Open}
use Rattle.text.specs.Items.{stated_count, items_pass, passed_to}
use Rattle.text.specs.Meanings.{item_of, given_count, passed_one}
use Rattle.text.proofs.Passes.{pass_on, pass_stop, to_on, to_stop, count_next, pass_done, kept_more}
use Rattle.text.proofs.Forms.{pass_ranges}
use Rattle.text.proofs.reader.Reader.pass.Goals as goal
use Rattle.text.proofs.reader.Reader.pass.Goals.{in-Some, in_default}

-- a refusal of what is next is that of the whole pass, and ends it
pub returns-in_err-number-clause-read : goal.returns-in_err-number-clause-read
returns-in_err-number-clause-read c =
    let p = err_from_is_err_and c.from_residual.result c.from_residual.ensures.1 in
    rw (p.1, p.2) (λ kept. pass_stop item_of _ _ _ c.loop-item-test.true _ _ _ (c.in_err-number.ensures.read (kept ++ take c.loop-item.at c.loop-item.numbers)) ∙ c.loop-item.invariant.rest kept)

pub returns-in_err-number-clause-after : goal.returns-in_err-number-clause-after
returns-in_err-number-clause-after c = c.in_err-number.ensures.after ∙ to_stop item_of _ _ _ c.loop-item-test.true _ _ (c.in_err-number.ensures.read []) ∙ c.loop-item.invariant.ends

-- and where it is there, the pass goes on with the rest
pub loop-item-preserved : goal.loop-item-preserved
loop-item-preserved c =
    let at = c.loop-item.at in
    let ns = c.loop-item.numbers in
    let items = c.args.items.now in
    let i = c.loop-item.item-index in
    let next = count_next item_of items i Open c.loop-item-test.true in
    let all = c.loop-item.invariant.all in
    let same = c.loop-item.invariant.same in
    let room = c.requires in
    elim c.match-branch-2.branch [
      | in-Some w ↦
          let one = sym c.in_ok-number.ensures.count ∙ ap given_count w.in-Some.is in
          let fits : SFits w64 w.in-Some.number = search rules in
          let more = w.at-is in
          record {
            all = omega arith;
            same = c.match-branch-2.auto.numbers ∙ same;
            rest = λ kept.
                ap (λ zs. items_pass (map item_of (drop (i + 1) items)) zs c.item.new.self) (kept_more kept ns _ at _ w.in-Some.number _ w.numbers-is w.at-is (to_z-of_z w64 w.in-Some.number fits) (omega arith))
                ∙ pass_on item_of items i Open c.loop-item-test.true (kept ++ take at ns) c.loop-item.self _ c.item.new.self
                (ap (λ o. passed_one (kept ++ take at ns) (Ok o) c.item.new.self) (sym w.in-Some.is) ∙ c.in_ok-number.ensures.read (kept ++ take at ns))
                ∙ c.loop-item.invariant.rest kept;
            ends =
                ap (passed_to _) c.in_ok-number.ensures.after
                ∙ to_on item_of items i Open c.loop-item-test.true c.loop-item.self _ c.item.new.self
                (ap (λ o. passed_one [] (Ok o) c.item.new.self) (sym w.in-Some.is) ∙ c.in_ok-number.ensures.read [])
                ∙ c.loop-item.invariant.ends;
            counted = λ _. c.in_ok-number.ensures.counted;
          }
      | in_default w ↦
          let none = sym c.in_ok-number.ensures.count ∙ ap given_count w.in_default.is in
          let more = w.at-is in
          record {
            all = omega arith;
            same = c.match-branch-2.auto.numbers ∙ same;
            rest = λ kept.
                (λ k. items_pass (map item_of (drop (i + 1) items)) (kept ++ take (w.at-is k) (w.numbers-is k)) c.item.new.self)
                ∙ pass_on item_of items i Open c.loop-item-test.true (kept ++ take at ns) c.loop-item.self _ c.item.new.self
                (ap (λ o. passed_one (kept ++ take at ns) (Ok o) c.item.new.self) (sym w.in_default.is) ∙ c.in_ok-number.ensures.read (kept ++ take at ns))
                ∙ c.loop-item.invariant.rest kept;
            ends =
                ap (passed_to _) c.in_ok-number.ensures.after
                ∙ to_on item_of items i Open c.loop-item-test.true c.loop-item.self _ c.item.new.self
                (ap (λ o. passed_one [] (Ok o) c.item.new.self) (sym w.in_default.is) ∙ c.in_ok-number.ensures.read [])
                ∙ c.loop-item.invariant.ends;
            counted = λ _. c.in_ok-number.ensures.counted;
          }
    ]

-- all are read
pub returns-clause-read : goal.returns-clause-read
returns-clause-read c = λ kept.
    let at = c.loop-item.at in
    let items = c.args.items.now in
    let none = ap (λ ys. at + stated_count (map item_of ys)) (drop_all c.loop-item.item-index items c.loop-item-test.false) in
    let all = c.loop-item.invariant.all in
    let is : stated_count (map item_of items) ≡ at = omega arith in
    ap (λ n. Ok (kept ++ take n c.loop-item.numbers, c.loop-item.self)) is
    ∙ pass_done item_of items c.loop-item.item-index c.loop-item-test.false (kept ++ take at c.loop-item.numbers) c.loop-item.self
    ∙ c.loop-item.invariant.rest kept

pub returns-clause-ranges : goal.returns-clause-ranges
returns-clause-ranges c = pass_ranges _ _ _ _ (returns-clause-read c [])
