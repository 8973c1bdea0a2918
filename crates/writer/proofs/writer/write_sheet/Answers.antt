use Rattle.std.proofs.Common.{ap, ◌∙◌, w64}
use Rattle.std.proofs.lemmas.Int.{to_z-of_z}
use Rattle.writer.specs.Papers.{paper_after}
use Rattle.writer.proofs.writer.write_sheet.Goals as goal

-- the claim as `write` was given it is the claim; the check finds this only near its limits
pub returns-clause-paper : goal.returns-clause-paper
returns-clause-paper g c = c.write.ensures.paper ∙ ap (λ z. paper_after g.F.Field.model c.args.terms.now z c.args.values.now c.args.paper.now) (to_z-of_z w64 c.args.claim c.ranges.claim)
