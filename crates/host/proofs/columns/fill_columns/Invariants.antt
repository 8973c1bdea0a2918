use Rattle.std.proofs.Common.{◌≡◌, ◌≤◌, length}
use Rattle.host.proofs.Steps.{columns_from}
use Rattle.host.proofs.columns.fill_columns.Given as goal

abbrev pub invariant-loop-x : goal.invariant-loop-x
invariant-loop-x g l =
    (l.x ≤ l.counts.grid.rows) × (length l.sums ≡ l.counts.grid.columns)
    × (l.sums ≡ columns_from g.F.Field.model l.counts.grid.rows l.counts.grid.columns l.counts.cells.now l.point l.x)
