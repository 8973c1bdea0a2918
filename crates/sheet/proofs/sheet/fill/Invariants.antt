use Rattle.std.proofs.Common.{suc}
use Rattle.sheet.proofs.Fills.{Reached}
use Rattle.sheet.proofs.sheet.fill.Given as goal

abbrev pub invariant-loop-j : goal.invariant-loop-j
invariant-loop-j g l = Reached g.F.Field.model l.terms l.sheet (suc l.terms.degree) l.j l.claim l.reader l.values
