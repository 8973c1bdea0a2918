-- Runs of an end that stands in a relation to a ledger: the relation holds at the run's end, the notes are answered as the ledger answers them,
-- and a sealed end stood in the relation whenever it replied. Assumes nothing.
use Rattle.std.proofs.Common.{◌≡◌, ℕ, List, [], ◌∷◌, Ok, Err, Result, sym, refl, subst, ap₂, inl, inr}
use Rattle.std.specs.Prelude.{Some}
use Rattle.std.specs.List.{AllByRecursion}
use Rattle.board.specs.declared.moves.Move.{Move}
use Rattle.refusal.specs.declared.refusal.Refusal.{Refusal}
use Rattle.board.specs.Books.{ledger_standing}
use Rattle.board.specs.Ledger.{Ledger, ledger_start, ledger_answer, ledger_next, ledger_from, answers_from}
use Rattle.promise.specs.Runs.{End, Request, opening, noting, sealing, asking, State, closed, listening, sealed, moves, begun, Shaped, after, granted_open, granted_by, note_answers, replies}
use Rattle.promise.specs.Ledgers.{IsOpen, AlwaysLedger}

-- what holds of the end in a state, if it is open
module _ {X : Type 0} where
  abbrev pub Holds : (X → Type 0) → State X → Type 0
  Holds P closed = Unit {0}
  Holds P (listening x) = P x
  Holds P (sealed x) = P x

  pub holds_map : (P Q : X → Type 0) (s : State X) → ((x : X) → P x → Q x) → Holds P s → Holds Q s
  holds_map P Q closed f h = tt
  holds_map P Q (listening x) f h = f x h
  holds_map P Q (sealed x) f h = f x h

-- a relation of an end to the open that was granted and to a ledger, that each call keeps
pub record Keeps {O X Q A : Type 0} (E : End O X Q A) (W : ℕ) (Stands : O → Ledger → X → Type 0) : Type 0 where
  pub begins : (o : O) (u : Unit {0}) → E.grant o ≡ Ok u → Stands o (ledger_start (E.rows o) (E.columns o)) (E.begin o)
  pub answers : (o : O) (l : Ledger) (x : X) (m : Move) → Stands o l x → E.note x m ≡ ledger_answer (E.rows o) (E.columns o) W l m
  pub follows : (o : O) (l : Ledger) (x : X) (m : Move) → Stands o l x → Stands o (ledger_next (E.rows o) (E.columns o) W l m) (E.noted x m)
  pub stays : (o : O) (l : Ledger) (x : X) (q : Q) → Stands o l x → Stands o l (E.replied x q)
  pub standing : (o : O) (l : Ledger) (x : X) → Stands o l x → E.standing x ≡ ledger_standing (E.rows o) (E.columns o) l

module _ {O X Q A : Type 0} {E : End O X Q A} {W : ℕ} {Stands : O → Ledger → X → Type 0} (k : Keeps E W Stands) where
  -- the ledger l of the grid that o names, fed further moves
  abbrev fed : O → Ledger → List Move → Ledger
  fed o l ms = ledger_from (E.rows o) (E.columns o) W l ms

  -- the reply of an end that stood so
  pub record Replied (o : O) (l : Ledger) (p : Q × A) : Type 0 where
    pub end : X
    pub stands : Stands o l end
    pub is : p.1 ≡ E.reply end p.0

  -- what holds of a run that begins in the state s with the ledger l, and of the end x after it
  pub record RanFrom (o : O) (l : Ledger) (s : State X) (rs : List (Request O Q)) (x : X) : Type 0 where
    pub stands : Stands o (fed o l (moves rs)) x
    pub answers : note_answers E s rs ≡ answers_from (E.rows o) (E.columns o) W l (moves rs)
    pub replied : AllByRecursion (Replied o (fed o l (moves rs))) (replies E s rs)

  -- a sealed end is told no moves
  no_moves : (x : X) (rs : List (Request O Q)) → Shaped E (sealed x) rs → moves rs ≡ []
  no_moves x [] s = refl
  no_moves x (opening o ∷ rs) s = absurd s.0
  no_moves x (noting m ∷ rs) s = absurd s.0
  no_moves x (sealing ∷ rs) s = absurd s.0
  no_moves x (asking q ∷ rs) s = no_moves (E.replied x q) rs s.1

  sealed_run : (o : O) (l : Ledger) (x : X) (rs : List (Request O Q)) → Shaped E (sealed x) rs → Stands o l x → Holds (RanFrom o l (sealed x) rs) (after E (sealed x) rs)
  sealed_run o l x [] s t = record { stands = t; answers = refl; replied = tt }
  sealed_run o l x (opening p ∷ rs) s t = absurd s.0
  sealed_run o l x (noting m ∷ rs) s t = absurd s.0
  sealed_run o l x (sealing ∷ rs) s t = absurd s.0
  sealed_run o l x (asking q ∷ rs) s t =
      let e = no_moves (E.replied x q) rs s.1 in
      holds_map (RanFrom o l (sealed (E.replied x q)) rs) (RanFrom o l (sealed x) (asking q ∷ rs)) _
      (λ y r. record {
        stands = r.stands;
        answers = r.answers;
        replied = (record { end = x; stands = subst (λ ms. Stands o (fed o l ms) x) (sym e) t; is = refl }, r.replied);
      })
      (sealed_run o l (E.replied x q) rs s.1 (k.stays o l x q t))

  open_run : (o : O) (l : Ledger) (x : X) (rs : List (Request O Q)) → Shaped E (listening x) rs → Stands o l x → Holds (RanFrom o l (listening x) rs) (after E (listening x) rs)
  open_run o l x [] s t = record { stands = t; answers = refl; replied = tt }
  open_run o l x (opening p ∷ rs) s t = absurd s.0
  open_run o l x (noting m ∷ rs) s t =
      holds_map (RanFrom o (ledger_next (E.rows o) (E.columns o) W l m) (listening (E.noted x m)) rs) (RanFrom o l (listening x) (noting m ∷ rs)) _
      (λ y r. record { stands = r.stands; answers = ap₂ ◌∷◌ (k.answers o l x m t) r.answers; replied = r.replied })
      (open_run o (ledger_next (E.rows o) (E.columns o) W l m) (E.noted x m) rs s.1 (k.follows o l x m t))
  open_run o l x (sealing ∷ rs) s t =
      holds_map (RanFrom o l (sealed x) rs) (RanFrom o l (listening x) (sealing ∷ rs)) _ (λ y r. record { stands = r.stands; answers = r.answers; replied = r.replied })
      (sealed_run o l x rs s.1 t)
  open_run o l x (asking q ∷ rs) s t = absurd s.0

  -- what holds of a whole run, whose granted open is o, and of the end x after it
  abbrev pub Ran : List (Request O Q) → O → X → Type 0
  Ran rs o x = RanFrom o (ledger_start (E.rows o) (E.columns o)) closed rs x

  ran : (rs : List (Request O Q)) → Shaped E closed rs → (o : O) → granted_open E rs ≡ Some o → Holds (Ran rs o) (after E closed rs)
  ran [] s o g = tt
  ran (opening p ∷ rs) s o g =
      holds_map (RanFrom o (ledger_start (E.rows o) (E.columns o)) (begun E (E.grant p) p) rs) (Ran (opening p ∷ rs) o) _
      (λ y r. record { stands = r.stands; answers = r.answers; replied = r.replied })
      (go (E.grant p) refl s.1 g (λ t. ran rs t o))
    where
      go : (a : Result (Unit {0}) Refusal) → E.grant p ≡ a → Shaped E (begun E a p) rs → granted_by E a p (granted_open E rs) ≡ Some o → (Shaped E closed rs → granted_open E rs ≡ Some o → Holds (Ran rs o) (after E closed rs))
          → Holds (RanFrom o (ledger_start (E.rows o) (E.columns o)) (begun E a p) rs) (after E (begun E a p) rs)
      go (Err r) e t g later = later t g
      go (Ok u) e t g later =
          let same : p ≡ o = cc in
          subst (λ w. Holds (RanFrom w (ledger_start (E.rows w) (E.columns w)) (listening (E.begin p)) rs) (after E (listening (E.begin p)) rs)) same
          (open_run p (ledger_start (E.rows p) (E.columns p)) (E.begin p) rs t (k.begins p u e))
  ran (noting m ∷ rs) s o g = absurd s.0
  ran (sealing ∷ rs) s o g = absurd s.0
  ran (asking q ∷ rs) s o g = absurd s.0

  pub ran_at : (rs : List (Request O Q)) → Shaped E closed rs → (o : O) → granted_open E rs ≡ Some o → (x : X) → IsOpen (after E closed rs) x → Ran rs o x
  ran_at rs s o g x (inl e) = subst (Holds (Ran rs o)) e (ran rs s o g)
  ran_at rs s o g x (inr e) = subst (Holds (Ran rs o)) e (ran rs s o g)

  pub always_ledger : AlwaysLedger E W
  always_ledger rs s o g x e = let r = ran_at rs s o g x e in record { answers = r.answers; standing = k.standing o _ x r.stands }
