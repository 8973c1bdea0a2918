use Rattle.std.proofs.Common.{◌≡◌, suc, ◌+◌, ◌-◌, ◌++◌, length, set, drop, ap, ◌∙◌, ap₂, arith, drop-drop}
use Rattle.polynomial.specs.Interpolation.{node}
use Rattle.polynomial.specs.Lists.{listed}
use Rattle.polynomial.specs.Columns.{columns_at}
use Rattle.polynomial.proofs.Sums.{length-listed}
use Rattle.host.proofs.Steps.{listed_more, listed_all}
use Rattle.host.proofs.values.fill_values.Goals as goal

pub loop-j-preserved : goal.loop-j-preserved
loop-j-preserved g c =
    let F = g.F.Field.model in
    let q = g.Q.Question.meaning c.args.asked.now.question.now in
    let h = c.args.asked.now.grid.rows in
    let v = c.args.asked.now.grid.columns in
    let fs = c.args.counts.now.cells.now in
    let j = c.loop-j.j in
    let inv = c.loop-j.invariant in
    let now-is : c.fill_columns_at.new.sums ≡ columns_at F h v fs (node F j) =
    c.fill_columns_at.ensures ∙ ap (λ k. columns_at F k.rows k.columns fs (node F j)) c.requires.grid in
    let size : length c.fill_columns_at.new.sums ≡ v = ap length now-is ∙ length-listed 0 v _ in
    let value : c.rule.result ≡ q.rule h v (node F j) (columns_at F h v fs (node F j)) = c.rule.ensures ∙ ap₂ (q.rule h v) c.node_at.ensures now-is in
    let old = c.split_at_mut-values.result.0.now in
    let more = listed_more (λ k. q.rule h v (node F k) (columns_at F h v fs (node F k))) j old c.rule.result (omega (arith)) value in
    let back : j ≡ j + 1 - 1 = omega arith in
    (ap (λ xs. set xs j c.rule.result) inv.0 ∙ more, size, λ b. now-is ∙ ap (λ k. columns_at F h v fs (node F k)) back)

pub returns : goal.returns
returns g c =
    let F = g.F.Field.model in
    let q = g.Q.Question.meaning c.args.asked.now.question.now in
    let h = c.args.asked.now.grid.rows in
    let v = c.args.asked.now.grid.columns in
    let fs = c.args.counts.now.cells.now in
    let d = c.args.asked.now.degree in
    let inv = c.loop-j.invariant in
    let old = c.split_at_mut-values.result.0.now in
    let n : length old ≡ suc d = omega (arith, c.split_at_mut-values.ensures.front_len) in
    let j : c.loop-j.j ≡ suc d = omega (arith) in
    let last : c.loop-j.j - 1 ≡ d = omega arith in
    let values = inv.0 ∙ listed_all (λ k. q.rule h v (node F k) (columns_at F h v fs (node F k))) c.loop-j.j old (omega arith) (omega arith) ∙ ap (λ n. listed 0 n (λ k. q.rule h v (node F k) (columns_at F h v fs (node F k)))) n in
    let sums = inv.2 (omega arith) ∙ ap (λ k. columns_at F h v fs (node F k)) last in
    let one : d + 1 ≡ suc d = omega arith in
    let rest : drop v c.split_at_mut-values.result.1.now ≡ drop (suc d + v) c.args.tray.now =
    ap (drop v) (c.split_at_mut-values.ensures.back ∙ ap (λ n. drop n c.args.tray.now) one) ∙ drop-drop v (suc d) c.args.tray.now in
    ap₂ ◌++◌ values (ap₂ ◌++◌ sums rest)
    ∙ ap (λ n. listed 0 (suc n) (λ k. q.rule h v (node F k) (columns_at F h v fs (node F k))) ++ (columns_at F h v fs (node F n) ++ drop (suc n + v) c.args.tray.now)) c.args.asked.now.stated
