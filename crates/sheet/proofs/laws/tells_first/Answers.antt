use Rattle.sheet.proofs.Sheets.{tells_first}
use Rattle.sheet.proofs.laws.tells_first.Goals as goal

pub returns : goal.returns
returns g c = tells_first g.F.Field.model
