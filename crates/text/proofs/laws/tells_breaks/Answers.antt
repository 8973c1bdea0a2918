use Rattle.text.proofs.Forms.{tells_breaks}
use Rattle.text.proofs.laws.tells_breaks.Goals as goal

pub returns : goal.returns
returns c = tells_breaks
