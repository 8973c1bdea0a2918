use Rattle.std.proofs.Common.{◌*ℤ◌, ◌+ℤ◌, pos, rules, refl, ◌∙◌, arith, w64}
use Rattle.std.proofs.lemmas.Int.{to_z-of_z}
use Rattle.std.proofs.lemmas.List.Folds.{fold-map}
use Rattle.std.proofs.lemmas.Iterator.{YieldsList-from_slice, YieldsList-from_map}
use Rattle.std.proofs.lemmas.Iterator.Adapters.{total_from_yields_List}
use Rattle.field.proofs.Consequences.{limit_small}
use Rattle.season.specs.Squares.{squares_tally}
use Rattle.season.proofs.Sums.{Sum-ℤ, each_term, sum_fits, squares_small}
use Rattle.season.proofs.squares.SquaresQuestion.tally.Goals as goal

-- no partial sum overflows, since the squares come to no more than the limit's square
pub sum-requires-clause-fits : goal.sum-requires-clause-fits
sum-requires-clause-fits g c =
    let fs = c.args.counts.now in
    sum_fits _ (YieldsList-from_map _ (λ f. f *ℤ f) (YieldsList-from_slice fs cc) c.map.ensures.closure (λ x r q k. search rules)) (omega (arith, squares_small fs (omega (arith, c.requires.within.light, limit_small g.met.F.Field.lawful))))

-- the chain adds from the left, the definition from the right
pub returns : goal.returns
returns g c =
    let fs = c.args.counts.now in
    to_z-of_z w64 c.sum.result (search rules)
    ∙ total_from_yields_List ◌+ℤ◌ (pos 0) _ c.sum.ensures.ran (YieldsList-from_map _ (λ f. f *ℤ f) (YieldsList-from_slice fs cc) c.map.ensures.closure (λ x r q k. search rules))
    ∙ fold-map ◌+ℤ◌ (λ f. f *ℤ f) (pos 0) fs ∙ each_term Sum-ℤ (λ f. f *ℤ f) squares_tally refl (λ _ _. refl) refl fs
