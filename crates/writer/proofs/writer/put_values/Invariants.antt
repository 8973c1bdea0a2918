use Rattle.std.proofs.Common.{◌≡◌}
use Rattle.writer.specs.Papers.{paper_of, place_of}
use Rattle.writer.proofs.Papers.{Putting}
use Rattle.writer.proofs.Lengths.{lines_from}
use Rattle.writer.proofs.writer.put_values.Given as goal

-- the lines before line j are put, and the others are to come
abbrev pub invariant-loop-j : goal.invariant-loop-j
invariant-loop-j g l = record {
  putting : Putting (lines_from g.F.Field.model l.values 0) (paper_of l.initial.pen) (place_of l.initial.pen) (paper_of l.pen) (place_of l.pen) (lines_from g.F.Field.model l.values l.j);
  lender : l.pen.paper.ghost_name ≡ l.initial.pen.paper.ghost_name;
}
