use Rattle.sheet.proofs.Sheets.{reads_sheets}
use Rattle.sheet.proofs.laws.reads_sheets.Goals as goal

pub returns : goal.returns
returns g c = reads_sheets g.F.Field.model g.met.F.Field.lawful
