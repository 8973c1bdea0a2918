use Rattle.sheet.proofs.Sheets.{refuses_sheets}
use Rattle.sheet.proofs.laws.refuses_sheets.Goals as goal

pub returns : goal.returns
returns g c = refuses_sheets g.F.Field.model
