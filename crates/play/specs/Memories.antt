-- The memory that a trial is lent. Assumes nothing.
use Rattle.std.specs.Prelude.{◌≡◌}
use Rattle.play.specs.Contents.{Contents}
use Rattle.play.specs.declared.memory.Memory.{Memory}

-- what memory holds
abbrev pub contents_of : {K : Type 0} → Memory K → Contents K
contents_of m = record { counts = m.counts.now; sums = m.sums.now; tray = m.tray.now; paper = m.paper.now }

-- the same memory, each part of it lent by the same lender
pub record SameLenders {K : Type 0} (old new : Memory K) : Type 0 where
  pub counts : new.counts.ghost_name ≡ old.counts.ghost_name
  pub sums : new.sums.ghost_name ≡ old.sums.ghost_name
  pub tray : new.tray.ghost_name ≡ old.tray.ghost_name
  pub paper : new.paper.ghost_name ≡ old.paper.ghost_name
