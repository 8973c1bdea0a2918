use Rattle.text.proofs.Forms.{reads_forms}
use Rattle.text.proofs.laws.reads_forms.Goals as goal

pub returns : goal.returns
returns c = reads_forms
