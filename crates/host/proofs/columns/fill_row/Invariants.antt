use Rattle.std.proofs.Common.{◌≡◌, ◌++◌, drop}
use Rattle.polynomial.specs.Columns.{count_image}
use Rattle.polynomial.specs.Lists.{listed}
use Rattle.host.proofs.columns.fill_row.Given as goal

abbrev pub invariant-loop-y : goal.invariant-loop-y
invariant-loop-y g l = l.sums ≡ listed 0 l.y (λ y. count_image g.F.Field.model l.counts.grid.columns l.counts.cells.now y l.x) ++ drop l.y l.initial.sums
