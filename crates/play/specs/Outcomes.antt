-- What a trial comes to. Assumes nothing.
use Rattle.std.specs.Prelude.{◌≡◌, ℕ, List, map, ℤ, Ok, Err, Result}
use Rattle.refusal.specs.declared.refusal.Refusal.{Refusal}
use Rattle.board.specs.Books.{ledger_standing}
use Rattle.board.specs.Ledger.{ledger, ledger_answers}
use Rattle.field.specs.Field.{FieldModel}
use Rattle.host.specs.Notes.{host_opened, host_after}
use Rattle.verifier.specs.Notes.{verifier_opened, verifier_after}
use Rattle.play.specs.Contents.{Contents}
use Rattle.play.specs.States.{box_of}
use Rattle.play.specs.Tellings.{moves_of, told_to_host, told_to_box}
use Rattle.play.specs.declared.played.Played.{Played}
use Rattle.play.specs.declared.told.Told.{Told}

-- the count that the box accepted, or the first refusal of all
abbrev pub answer_in : {K : Type 0} → Result (Played K) Refusal → Result ℤ Refusal
answer_in (Ok p) = p.found
answer_in (Err e) = Err e

module _ {K : Type 0} (F : FieldModel K) (h v : ℕ) (r : K) where
  -- both ends were opened over what the memory held, and then told the moves
  pub record ToldEnds (m : Contents K) (old new : List Told) (p : Played K) : Type 0 where
    pub told : new ≡ told_to_box F (verifier_opened F h v r m.sums) (told_to_host F.limit (host_opened h v m.counts) old)
    pub host : p.host ≡ (host_after F.limit (host_opened h v m.counts) (moves_of old)).standing
    pub verifier : p.verifier ≡ box_of (verifier_after F (verifier_opened F h v r m.sums) (moves_of old))

  -- both ends answered the moves as the ledger does that is fed them, and they stand as it does, the box at its point
  pub record FollowsLedger (old new : List Told) (p : Played K) : Type 0 where
    pub moves : moves_of new ≡ moves_of old
    pub host_answers : map (λ t. t.host) new ≡ ledger_answers h v F.limit (moves_of old)
    pub verifier_answers : map (λ t. t.verifier) new ≡ ledger_answers h v F.limit (moves_of old)
    pub host : p.host ≡ ledger_standing h v (ledger h v F.limit (moves_of old))
    pub verifier : p.verifier ≡ record { standing = ledger_standing h v (ledger h v F.limit (moves_of old)); point = r }
