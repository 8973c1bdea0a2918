-- Moves that both ends were told. Assumes nothing.
use Rattle.std.proofs.Common.{◌≡◌, ℕ, List, [], ◌∷◌, map, refl, ap}
use Rattle.board.specs.declared.moves.Move.{Move}
use Rattle.field.specs.Field.{FieldModel}
use Rattle.host.specs.Notes.{HostState, host_noted, host_answers}
use Rattle.verifier.specs.Notes.{VerifierState, verifier_noted, verifier_after, verifier_answers}
use Rattle.host.specs.Calls.{host_note_answer}
use Rattle.verifier.specs.Calls.{verifier_note_answer}
use Rattle.play.specs.declared.told.Told.{Told}
use Rattle.play.specs.Tellings.{moves_of, told_to_host, told_to_box}

-- what a host is told keeps the moves and the box's answers
module _ (W : ℕ) where
  pub moves_of-told_to_host : (s : HostState) (ts : List Told) → moves_of (told_to_host W s ts) ≡ moves_of ts
  moves_of-told_to_host s [] = refl
  moves_of-told_to_host s (t ∷ ts) = ap (◌∷◌ t.moved) (moves_of-told_to_host (host_noted W s t.moved) ts)

  pub host-told_to_host : (s : HostState) (ts : List Told) → map (λ t. t.host) (told_to_host W s ts) ≡ host_answers W s (moves_of ts)
  host-told_to_host s [] = refl
  host-told_to_host s (t ∷ ts) = ap (◌∷◌ (host_note_answer W s.standing s.bank t.moved)) (host-told_to_host (host_noted W s t.moved) ts)

module _ {K : Type 0} (F : FieldModel K) where
  pub moves_of-told_to_box : (s : VerifierState K) (ts : List Told) → moves_of (told_to_box F s ts) ≡ moves_of ts
  moves_of-told_to_box s [] = refl
  moves_of-told_to_box s (t ∷ ts) = ap (◌∷◌ t.moved) (moves_of-told_to_box (verifier_noted F s t.moved) ts)

  pub host-told_to_box : (s : VerifierState K) (ts : List Told) → map (λ t. t.host) (told_to_box F s ts) ≡ map (λ t. t.host) ts
  host-told_to_box s [] = refl
  host-told_to_box s (t ∷ ts) = ap (◌∷◌ t.host) (host-told_to_box (verifier_noted F s t.moved) ts)

  pub verifier-told_to_box : (s : VerifierState K) (ts : List Told) → map (λ t. t.verifier) (told_to_box F s ts) ≡ verifier_answers F s (moves_of ts)
  verifier-told_to_box s [] = refl
  verifier-told_to_box s (t ∷ ts) = ap (◌∷◌ (verifier_note_answer F s.standing s.bank t.moved)) (verifier-told_to_box (verifier_noted F s t.moved) ts)

  -- the point stays
  pub point-verifier_after : (s : VerifierState K) (ms : List Move) → (verifier_after F s ms).point ≡ s.point
  point-verifier_after s [] = refl
  point-verifier_after s (m ∷ ms) = point-verifier_after (verifier_noted F s m) ms
