use Rattle.sheet.proofs.Sheets.{reads_allowed}
use Rattle.sheet.proofs.laws.reads_allowed.Goals as goal

pub returns : goal.returns
returns g c = reads_allowed g.F.Field.model
