-- What a run itself asked: each of its replies is the reply of the end with which it ends. So what holds of one more call holds of these.
-- Assumes nothing.
use Rattle.std.proofs.Common.{◌≡◌, List, [], ◌∷◌, sym, refl, ap, ◌∙◌, subst}
use Rattle.std.specs.List.{AllByRecursion}
use Rattle.field.specs.Field.{FieldModel}
use Rattle.promise.specs.Runs.{End, Request, opening, noting, sealing, asking, State, closed, listening, sealed, moves, begun, Shaped, after, replies}
use Rattle.promise.specs.Ends.{verifier_end, host_end}
use Rattle.promise.specs.Sealed.{SealedVerifier, SealedHost, verifier_gives, HonestAnswer}
use Rattle.promise.specs.Promise.{HonestAccepted, HonestReplies, HonestJudgings}
use Rattle.promise.proofs.Lists.{each_map}

-- an end that replying does not change
module _ {O X Q A : Type 0} (E : End O X Q A) (stays : (x : X) (q : Q) → E.replied x q ≡ x) where
  -- a reply of the sealed end of this state
  pub record RepliedBy (s : State X) (g : Q × A) : Type 0 where
    pub end : X
    pub ends : s ≡ sealed end
    pub is : g.1 ≡ E.reply end g.0

  stays_sealed : (x : X) (rs : List (Request O Q)) → Shaped E (sealed x) rs → after E (sealed x) rs ≡ sealed x
  stays_sealed x [] h = refl
  stays_sealed x (opening o ∷ rs) h = absurd h.0
  stays_sealed x (noting m ∷ rs) h = absurd h.0
  stays_sealed x (sealing ∷ rs) h = absurd h.0
  stays_sealed x (asking q ∷ rs) h = stays_sealed (E.replied x q) rs h.1 ∙ ap sealed (stays x q)

  -- each reply in a list is one of the end after the list
  pub replied_last : (s : State X) (rs : List (Request O Q)) → Shaped E s rs → AllByRecursion (RepliedBy (after E s rs)) (replies E s rs)
  replied_last s [] h = tt
  replied_last closed (opening o ∷ rs) h = replied_last (begun E (E.grant o) o) rs h.1
  replied_last (listening x) (opening o ∷ rs) h = absurd h.0
  replied_last (sealed x) (opening o ∷ rs) h = absurd h.0
  replied_last closed (noting m ∷ rs) h = absurd h.0
  replied_last (listening x) (noting m ∷ rs) h = replied_last (listening (E.noted x m)) rs h.1
  replied_last (sealed x) (noting m ∷ rs) h = absurd h.0
  replied_last closed (sealing ∷ rs) h = absurd h.0
  replied_last (listening x) (sealing ∷ rs) h = replied_last (sealed x) rs h.1
  replied_last (sealed x) (sealing ∷ rs) h = absurd h.0
  replied_last closed (asking q ∷ rs) h = absurd h.0
  replied_last (listening x) (asking q ∷ rs) h = absurd h.0
  replied_last (sealed x) (asking q ∷ rs) h = (record { end = x; ends = stays_sealed x (asking q ∷ rs) h; is = refl }, replied_last (sealed (E.replied x q)) rs h.1)

module _ {K : Type 0} (F : FieldModel K) where
  pub honest_replies : HonestAccepted F → HonestReplies F
  honest_replies accepted rs s o g =
      each_map _ _ (replies (host_end F) closed rs)
      (λ p z a.
      let run : SealedHost F o.rows o.columns (moves rs) = record { requests = rs; shaped = s; opened = o; grants = g; rows = refl; columns = refl; told = refl; host = z.end; ends = z.ends } in
      subst (HonestAnswer F o.rows o.columns (moves rs) p.0.question p.0.tray p.0.paper) (sym z.is)
      (accepted o.rows o.columns (moves rs) run p.0.question a.lawful a.fits p.0.tray a.room p.0.paper a.space))
      (replied_last (host_end F) (λ x q. refl) closed rs s)

  pub honest_judgings : HonestJudgings F
  honest_judgings rs s o g =
      each_map _ _ (replies (verifier_end F) closed rs)
      (λ p z sheet room.
      let ms = moves rs in
      let run : SealedVerifier F o.rows o.columns ms o.point = record { requests = rs; shaped = s; opened = o; grants = g; rows = refl; columns = refl; point = refl; told = refl; verifier = z.end; ends = z.ends } in
      ap (λ j. j.answer) z.is
      ∙ ap (λ bs. (verifier_gives F o.rows o.columns ms run p.0.question bs p.0.tray).answer) sheet.written
      ∙ sheet.honest.accepted o.point run p.0.tray room)
      (replied_last (verifier_end F) (λ x q. refl) closed rs s)
