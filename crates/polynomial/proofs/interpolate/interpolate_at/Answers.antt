use Rattle.std.proofs.Common.{◌≡◌, ◌-◌, ◌<◌, length, ap, ap₂, ◌∙◌, arith}
use Rattle.polynomial.specs.Polynomials.{sub}
use Rattle.polynomial.specs.Interpolation.{node}
use Rattle.polynomial.specs.OnePass.{next_weight}
use Rattle.polynomial.proofs.Steps.{pass_step}
use Rattle.polynomial.proofs.interpolate.interpolate_at.Goals as goal
use Rattle.polynomial.proofs.interpolate.interpolate_at.Goals.{then-j-d, else-j-d}

pub loop-i-preserved : goal.loop-i-preserved
loop-i-preserved g c =
    let F = g.F.Field.model in
    let add = g.met.F.Field.add_law in
    let mul = g.met.F.Field.mul_law in
    let vs = c.args.values.now in
    let d = length vs - 1 in
    let j = c.loop-i.i in
    let v = c.index-values-i.result in
    let w = c.loop-i.weight in
    let l = c.loop-i.before in
    let acc = c.loop-i.all in
    let step : c.difference-step.result ≡ sub F c.args.x (node F j) = cc in
    let all : c.add-all.result ≡ F.add (F.mul acc c.difference-step.result) (F.mul (F.mul v w) l) =
    add _ _ _ c.add-all.ensures ∙ ap₂ F.add (mul _ _ _ c.mul.ensures) (mul _ _ _ c.mul-in-loop-i-2.ensures ∙ ap (λ p. F.mul p l) (mul _ _ _ c.mul-in-loop-i.ensures)) in
    let before : c.mul-before.result ≡ F.mul l c.difference-step.result = mul _ _ _ c.mul-before.ensures in
    let weight : j < d → c.if-j-d.weight ≡ next_weight F d j w = λ more.
    elim c.if-j-d.branch [
      | then-j-d b ↦ b.weight-is ∙ b.next_weight-weight.ensures
      | else-j-d b ↦ absurd (omega arith)
    ] in
    let turn = pass_step F d c.args.x vs j v w c.if-j-d.weight l acc (omega arith) (omega arith) c.index-values-i.is weight in
    (omega arith, cc)
