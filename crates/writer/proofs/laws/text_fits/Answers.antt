use Rattle.writer.proofs.Lengths.{text_fits}
use Rattle.writer.proofs.laws.text_fits.Goals as goal

pub returns : goal.returns
returns g c = text_fits g.F.Field.model g.met.F.Field.lawful
