use Rattle.std.proofs.Common.{◌≡◌, ap, ◌∙◌, rules}
use Rattle.std.specs.Option.{option_map}
use Rattle.field.specs.Field.{inverse}
use Rattle.extension.specs.Pairs.{conjugate_times}
use Rattle.extension.specs.Laws.{inverse_by_norm}
use Rattle.extension.proofs.extension.ExtensionField.inverse.Goals as goal

-- the conjugate over the norm, and nothing where the norm is zero
pub returns : goal.returns
returns g c =
    let F = g.B.Field.model in
    let mapped : c.map.result ≡ option_map (conjugate_times F c.args.self) c.inverse.result = search rules in
    mapped
    ∙ ap (option_map (conjugate_times F c.args.self)) (c.inverse.ensures ∙ ap (inverse F) c.norm.ensures)
    ∙ inverse_by_norm F g.B.BaseField.w g.met.B.Field.lawful g.met.B.BaseField.base c.args.self
