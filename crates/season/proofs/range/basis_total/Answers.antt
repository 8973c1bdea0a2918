use Rattle.std.proofs.Common.{ℕ, ◌-◌, rules, refl, ◌∙◌}
use Rattle.std.proofs.lemmas.Iterator.{YieldsList-from_range}
use Rattle.std.proofs.lemmas.Iterator.Consumers.{fold_from_yields_List}
use Rattle.polynomial.specs.Interpolation.{chi}
use Rattle.polynomial.specs.Sums.{sum_from}
use Rattle.season.proofs.Sums.{Sum-field, each_number}
use Rattle.season.proofs.range.basis_total.Goals as goal

-- the fold takes the terms from the left, the definition from the right
pub returns : goal.returns
returns g c =
    let F = g.F.Field.model in
    let start = c.args.start in
    let number = c.args.end - start in
    let term = λ (x : ℕ). chi F c.args.rows x c.args.point in
    fold_from_yields_List _ (λ s x. F.add s (term x)) _ _ c.fold.ensures.ran (YieldsList-from_range start _ number refl refl) (λ a x b q k. search rules)
    ∙ each_number (Sum-field g.met.F.Field.lawful) term (λ j n. sum_from F j n term) (λ _. refl) (λ _ _. refl) c.zero.ensures start number
