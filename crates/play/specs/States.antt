-- An end with its bank, as the runs have it. Assumes nothing.
use Rattle.std.specs.Prelude.{List, ℤ}
use Rattle.board.specs.Standing.{Standing}
use Rattle.host.specs.Notes.{HostState}
use Rattle.verifier.specs.Notes.{VerifierState}
use Rattle.verifier.specs.Pointed.{Pointed}

-- a host that stands so, with its counts
abbrev pub host_state : Standing → List ℤ → HostState
host_state s counts = record { standing = s; bank = counts }

-- a box that stands so, with its sums
abbrev pub verifier_state : {K : Type 0} → Pointed K → List K → VerifierState K
verifier_state b sums = record { standing = b.standing; point = b.point; bank = sums }

-- the box of a state, without its sums
abbrev pub box_of : {K : Type 0} → VerifierState K → Pointed K
box_of x = record { standing = x.standing; point = x.point }
