use Rattle.std.proofs.Common.{◌≡◌, ◌-◌, ◌<◌, ◌++◌, length, drop}
use Rattle.polynomial.specs.Interpolation.{node}
use Rattle.polynomial.specs.Lists.{listed}
use Rattle.polynomial.specs.Columns.{columns_at}
use Rattle.host.proofs.values.fill_values.Given as goal

abbrev pub invariant-loop-j : goal.invariant-loop-j
invariant-loop-j g l =
    let F = g.F.Field.model in
    let h = l.asked.grid.rows in
    let v = l.asked.grid.columns in
    (l.values ≡ listed 0 l.j (λ k. (g.Q.Question.meaning l.asked.question.now).rule h v (node F k) (columns_at F h v l.counts.cells.now (node F k))) ++ drop l.j l.initial.values)
    × (length l.columns ≡ v)
    × (0 < l.j → l.columns ≡ columns_at F h v l.counts.cells.now (node F (l.j - 1)))
