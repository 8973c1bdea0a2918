use Rattle.std.proofs.Common.{rules, refl, ◌∙◌}
use Rattle.std.proofs.lemmas.Iterator.{YieldsList-from_slice}
use Rattle.std.proofs.lemmas.Iterator.Consumers.{fold_from_yields_List}
use Rattle.season.specs.Squares.{squares_rule}
use Rattle.season.proofs.Sums.{Sum-field, each_term}
use Rattle.season.proofs.squares.SquaresQuestion.rule.Goals as goal

-- the fold adds from the left, the definition from the right
pub returns : goal.returns
returns g c =
    let F = g.F.Field.model in
    let cs = c.args.columns.now in
    fold_from_yields_List _ (λ s x. F.add s (F.mul x x)) _ _ c.fold.ensures.ran (YieldsList-from_slice cs cc) (λ a x b q k. search rules)
    ∙ each_term (Sum-field g.met.F.Field.lawful) (λ x. F.mul x x) (squares_rule F) refl (λ _ _. refl) c.zero.ensures cs
