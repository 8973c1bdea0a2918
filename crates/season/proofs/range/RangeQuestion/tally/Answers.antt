use Rattle.std.proofs.Common.{◌≡◌, suc, ◌+◌, ◌-◌, ◌*◌, ◌+ℤ◌, pos, ltb, leb, take, drop, map-id, fold, ap, ◌∙◌, arith, w64, rules, ltb-true, leb-true}
use Rattle.std.proofs.lemmas.Int.{to_z-of_z}
use Rattle.std.proofs.lemmas.Iterator.{YieldsList-from_slice, YieldsList-from_map}
use Rattle.std.proofs.lemmas.Iterator.Adapters.{total_from_yields_List}
use Rattle.std.proofs.lemmas.Bool.{and_parts}
use Rattle.field.proofs.Consequences.{limit_small}
use Rattle.question.proofs.Fits.{test_holds}
use Rattle.season.proofs.Sums.{sum_fits, abs-take-drop}
use Rattle.season.proofs.Ranges.{range_tally}
use Rattle.season.proofs.range.RangeQuestion.tally.Goals as goal

-- no partial sum overflows, since the absolute values come to no more than the limit
pub sum-requires-clause-fits : goal.sum-requires-clause-fits
sum-requires-clause-fits g c =
    let q = c.args.self.now in
    let fs = c.args.counts.now in
    let part = take (q.last + 1 - q.first) (drop q.first fs) in
    sum_fits _ (YieldsList-from_map _ (λ f. f) (YieldsList-from_slice part cc) c.map.ensures.closure (λ x r q k. search rules))
    (rw map-id (omega (arith, abs-take-drop (q.last + 1 - q.first) (drop q.first fs), abs-take-drop q.first fs, c.requires.within.light, limit_small g.met.F.Field.lawful)))

-- the chain adds the counts of a slice, the definition those at the cells of the range
pub returns : goal.returns
returns g c =
    let q = c.args.self.now in
    let fs = c.args.counts.now in
    let h = c.args._grid.rows in
    let v = c.args._grid.columns in
    let t = and_parts (leb q.first q.last) (ltb q.last (h * v)) (test_holds _ c.requires.fitting) in
    let order = leb-true q.first q.last t.0 in
    let inside = ltb-true q.last (h * v) t.1 in
    let part = take (q.last + 1 - q.first) (drop q.first fs) in
    let n : q.last + 1 - q.first ≡ suc q.last - q.first = omega arith in
    to_z-of_z w64 c.sum.result (search rules)
    ∙ total_from_yields_List ◌+ℤ◌ (pos 0) _ c.sum.ensures.ran (YieldsList-from_map _ (λ f. f) (YieldsList-from_slice part cc) c.map.ensures.closure (λ x r q k. search rules))
    ∙ ap (fold ◌+ℤ◌ (pos 0)) (map-id part ∙ ap (λ k. take k (drop q.first fs)) n) ∙ range_tally q.first (suc q.last - q.first) fs (omega (arith, c.requires.within.size))
