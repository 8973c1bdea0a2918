-- Moves that both ends of a trial are told, with what they answer. Assumes nothing.
use Rattle.std.specs.Prelude.{ℕ, List, [], ◌∷◌, map}
use Rattle.board.specs.declared.moves.Move.{Move}
use Rattle.field.specs.Field.{FieldModel}
use Rattle.host.specs.Calls.{host_note_answer}
use Rattle.host.specs.Notes.{HostState, host_noted}
use Rattle.verifier.specs.Calls.{verifier_note_answer}
use Rattle.verifier.specs.Notes.{VerifierState, verifier_noted}
use Rattle.play.specs.declared.told.Told.{Told}

-- the moves
abbrev pub moves_of : List Told → List Move
moves_of ts = map (λ t. t.moved) ts

-- moves with the answers of a host to them
abbrev pub told_to_host : ℕ → HostState → List Told → List Told
told_to_host W s [] = []
told_to_host W s (t ∷ ts) = record t { host = host_note_answer W s.standing s.bank t.moved } ∷ told_to_host W (host_noted W s t.moved) ts

-- moves with the answers of a box to them
abbrev pub told_to_box : {K : Type 0} → FieldModel K → VerifierState K → List Told → List Told
told_to_box F s [] = []
told_to_box F s (t ∷ ts) = record t { verifier = verifier_note_answer F s.standing s.bank t.moved } ∷ told_to_box F (verifier_noted F s t.moved) ts
