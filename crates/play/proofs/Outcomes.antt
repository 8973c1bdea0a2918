-- Ends that were opened and told moves answer them, and stand, as the ledger does. Assumes nothing but the laws of the field.
use Rattle.std.proofs.Common.{◌≡◌, ℕ, List, map, Ok, Err, Result, IfOk, refl, ap, ◌∙◌, ap₂}
use Rattle.refusal.specs.declared.refusal.Refusal.{Refusal}
use Rattle.board.specs.Answers.{granted}
use Rattle.field.specs.Field.{FieldModel, LawfulField}
use Rattle.host.specs.Notes.{host_opened, HostFollowsLedger}
use Rattle.host.proofs.Stands.{host_keeps_ledger}
use Rattle.verifier.specs.Notes.{verifier_opened, verifier_answers, VerifierFollowsLedger}
use Rattle.verifier.proofs.Stands.{verifier_keeps_ledger}
use Rattle.play.specs.Contents.{Contents}
use Rattle.play.specs.declared.played.Played.{Played}
use Rattle.play.specs.declared.told.Told.{Told}
use Rattle.play.specs.Tellings.{moves_of, told_to_host}
use Rattle.play.specs.Trials.{both_granted, ends_opened}
use Rattle.play.specs.Outcomes.{ToldEnds, FollowsLedger}
use Rattle.play.proofs.Tellings.{moves_of-told_to_host, host-told_to_host, moves_of-told_to_box, host-told_to_box, verifier-told_to_box, point-verifier_after}

-- where both calls together are granted, each is
both_are : (a b : Result (Unit {0}) Refusal) → Ok tt ≡ both_granted a b → (a ≡ Ok tt) × (b ≡ Ok tt)
both_are (Ok u) (Ok w) e = (refl, refl)
both_are (Ok u) (Err r) e = cc
both_are (Err r) b e = cc

module _ {K : Type 0} {F : FieldModel K} (L : LawfulField F) (h v : ℕ) (r : K) (m : Contents K) (old new : List Told) where
  pub follows_ledger : (result : Result (Played K) Refusal) → granted result ≡ ends_opened F h v m → IfOk result (ToldEnds F h v r m old new) → IfOk result (FollowsLedger F h v r old new)
  follows_ledger (Err e) opened t = tt
  follows_ledger (Ok p) opened t =
      let (host-granted, verifier-granted) = both_are _ _ opened in
      let by-host : HostFollowsLedger F.limit h v m.counts (moves_of old) = host_keeps_ledger F.limit h v m.counts host-granted (moves_of old) in
      let by-box : VerifierFollowsLedger F h v r m.sums (moves_of old) = verifier_keeps_ledger L h v r m.sums verifier-granted (moves_of old) in
      let host = host_opened h v m.counts in
      let box = verifier_opened F h v r m.sums in
      let ts : List Told = told_to_host F.limit host old in
      let moves = moves_of-told_to_host F.limit host old in
      record {
        moves = ap moves_of t.told ∙ moves_of-told_to_box F box ts ∙ moves;
        host_answers = ap (map (λ t. t.host)) t.told ∙ host-told_to_box F box ts ∙ host-told_to_host F.limit host old ∙ by-host.answers;
        verifier_answers = ap (map (λ t. t.verifier)) t.told ∙ verifier-told_to_box F box ts ∙ ap (verifier_answers F box) moves ∙ by-box.answers;
        host = t.host ∙ by-host.standing;
        verifier = t.verifier ∙ ap₂ (λ s x. record { standing = s; point = x }) by-box.standing (point-verifier_after F box (moves_of old));
      }
