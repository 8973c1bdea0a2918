use Rattle.writer.proofs.Papers.{lays_bytes}
use Rattle.writer.proofs.put.put_bytes.Goals as goal

pub returns : goal.returns
returns c = lays_bytes _ _ _ _ c.copy_from_slice.ensures.after c.requires
