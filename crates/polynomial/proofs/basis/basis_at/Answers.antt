use Rattle.std.proofs.Common.{◌≡◌, ◌+◌, [], ◌∷◌, sym, refl, ap, ap₂, ◌∙◌, arith}
use Rattle.field.proofs.Solver.{sides, solve}
use Rattle.polynomial.specs.Polynomials.{sub}
use Rattle.polynomial.specs.Interpolation.{node}
use Rattle.polynomial.proofs.Nodes.{node_add}
use Rattle.polynomial.proofs.Steps.{factors, factors_more, factors_skip}
use Rattle.polynomial.proofs.basis.basis_at.Goals as goal
use Rattle.polynomial.proofs.basis.basis_at.Goals.{then-k-x, else-k-x}

pub loop-k-preserved : goal.loop-k-preserved
loop-k-preserved g c =
    let F = g.F.Field.model in
    let L = g.met.F.Field.lawful in
    let add = g.met.F.Field.add_law in
    let mul = g.met.F.Field.mul_law in
    let x = c.args.x in
    let X = c.args.point in
    let k = c.loop-k.k in
    let known = c.loop-k.invariant in
    let next : F.add (node F k) F.one ≡ node F (k + 1) = ap (F.add (node F k)) (sym L.images.of_one) ∙ sym (node_add L k 1 (omega arith)) in
    let step : c.add-step.result ≡ sub F X (node F (k + 1)) =
    add _ _ _ c.add-step.ensures
    ∙ ap₂ F.add known.0 known.1
    ∙ solve L.ring (X ∷ node F k ∷ []) {y = sub F X (F.add (node F k) F.one)} (search sides depth 30) refl
    ∙ ap (sub F X) next in
    let all : c.if-k-x.all ≡ factors F x X (k + 1) =
    elim c.if-k-x.branch [
      | then-k-x w ↦ w.all-is ∙ mul _ _ _ w.mul-all.ensures ∙ ap₂ F.mul (mul _ _ _ w.mul.ensures ∙ ap₂ F.mul known.0 w.difference_inverse.ensures) known.2 ∙ sym (factors_more F x X k w.if-k-x.true)
      | else-k-x w ↦ w.all-is ∙ known.2 ∙ sym (factors_skip F x X k w.if-k-x.false)
    ] in
    (step, known.1, all)
