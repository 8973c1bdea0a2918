-- That the promise's runs are runs of the product: each step is a call with its contract, and a whole run leads to the ends that a trial's contract names.
-- Assumes nothing.
use Rattle.std.specs.Prelude.{◌≡◌, List, ◌∷◌, ◌++◌, map, ℤ, Ok, Err}
use Rattle.refusal.specs.declared.refusal.Refusal.{Refusal}
use Rattle.board.specs.declared.moves.Move.{Move}
use Rattle.board.specs.Books.{new_standing}
use Rattle.board.specs.Standing.{Standing}
use Rattle.field.specs.Field.{FieldModel}
use Rattle.host.specs.Answering.{answered_at}
use Rattle.host.specs.Calls.{host_open_answer, host_open_bank, host_note_answer, host_note_standing, host_note_bank}
use Rattle.host.specs.Notes.{host_opened, host_after}
use Rattle.verifier.specs.Calls.{verifier_open_answer, verifier_open_bank, verifier_note_answer, verifier_note_standing, verifier_note_bank}
use Rattle.verifier.specs.Judging.{judged_at}
use Rattle.verifier.specs.Notes.{verifier_opened, verifier_after}
use Rattle.verifier.specs.Pointed.{Pointed}
use Rattle.promise.specs.Runs.{End, Request, opening, noting, sealing, asking, State, closed, listening, sealed, Possible, after}
use Rattle.promise.specs.Shapes.{Response, to_open, to_note, to_seal, to_ask, Step}
use Rattle.promise.specs.Ends.{VerifierOpening, Judging, verifier_end, HostOpening, Answering, host_end}
use Rattle.play.specs.States.{host_state, verifier_state}

module _ {O X Q A : Type 0} (E : End O X Q A) where
  -- in this state the request has one step: it gets this response, and leads to that state
  pub record OneStep (s : State X) (r : Request O Q) (a : Response Q A) (t : State X) : Type 0 where
    pub step : Step E s r a t
    pub only : (b : Response Q A) (u : State X) → Step E s r b u → (b ≡ a) × (u ≡ t)

  -- an end has steps only with the requests of its state: closed an open, listening a note or a seal, sealed what it is asked
  abbrev pub NoOtherStep : Type 0
  NoOtherStep = (s : State X) (r : Request O Q) (a : Response Q A) (t : State X) → Step E s r a t → Possible E s r

module _ {K : Type 0} (F : FieldModel K) where
  -- the steps of a host, each by what the contract of its call names
  pub record HostSteps : Type 0 where
    -- an open that is granted: a new host over the bank that open leaves
    pub open_granted : (o : HostOpening) → host_open_answer o.rows o.columns o.bank ≡ Ok tt
        → OneStep (host_end F) closed (opening o) (to_open (Ok tt)) (listening (host_state (new_standing o.rows o.columns) (host_open_bank o.rows o.columns o.bank)))
    -- an open that is refused: there is no host, and the bank is as it was
    pub open_refused : (o : HostOpening) (r : Refusal) → host_open_answer o.rows o.columns o.bank ≡ Err r
        → OneStep (host_end F) closed (opening o) (to_open (Err r)) closed × (host_open_bank o.rows o.columns o.bank ≡ o.bank)
    -- a note: where the host then stands, and its bank
    pub note : (s : Standing) (bank : List ℤ) (m : Move)
        → OneStep (host_end F) (listening (host_state s bank)) (noting m) (to_note (host_note_answer F.limit s bank m))
        (listening (host_state (host_note_standing F.limit s bank m) (host_note_bank F.limit s bank m)))
    -- a seal: the same host over the same bank
    pub seal : (s : Standing) (bank : List ℤ) → OneStep (host_end F) (listening (host_state s bank)) sealing to_seal (sealed (host_state s bank))
    -- an answer, with the tray and the paper afterwards: host and bank stay
    pub answer : (s : Standing) (bank : List ℤ) (a : Answering K)
        → OneStep (host_end F) (sealed (host_state s bank)) (asking a) (to_ask a (answered_at F s bank a.question a.tray a.paper)) (sealed (host_state s bank))
    pub nothing_else : NoOtherStep (host_end F)

  -- the steps of a box, each by what the contract of its call names
  pub record VerifierSteps : Type 0 where
    -- an open that is granted: a new box at the point over the bank that open leaves
    pub open_granted : (o : VerifierOpening K) → verifier_open_answer F o.rows o.columns o.bank ≡ Ok tt
        → OneStep (verifier_end F) closed (opening o) (to_open (Ok tt))
        (listening (verifier_state (record { standing = new_standing o.rows o.columns; point = o.point }) (verifier_open_bank F o.rows o.columns o.bank)))
    -- an open that is refused: there is no box, and the bank is as it was
    pub open_refused : (o : VerifierOpening K) (r : Refusal) → verifier_open_answer F o.rows o.columns o.bank ≡ Err r
        → OneStep (verifier_end F) closed (opening o) (to_open (Err r)) closed × (verifier_open_bank F o.rows o.columns o.bank ≡ o.bank)
    -- a note: where the box then stands, and its bank; the point stays
    pub note : (b : Pointed K) (bank : List K) (m : Move)
        → OneStep (verifier_end F) (listening (verifier_state b bank)) (noting m) (to_note (verifier_note_answer F b.standing bank m))
        (listening (verifier_state (record { standing = verifier_note_standing F b.standing bank m; point = b.point }) (verifier_note_bank F b.standing b.point bank m)))
    -- a seal: the same box over the same bank
    pub seal : (b : Pointed K) (bank : List K) → OneStep (verifier_end F) (listening (verifier_state b bank)) sealing to_seal (sealed (verifier_state b bank))
    -- a judging, with the tray afterwards: box and bank stay
    pub judge : (b : Pointed K) (bank : List K) (j : Judging K)
        → OneStep (verifier_end F) (sealed (verifier_state b bank)) (asking j) (to_ask j (judged_at F b bank j.question j.sheet j.tray)) (sealed (verifier_state b bank))
    pub nothing_else : NoOtherStep (verifier_end F)

  -- each step in the promise's runs is a call; and a granted open, moves, a seal and whatever is asked lead to the end that a trial's contract names
  pub record RunsAreCalls : Type 0 where
    pub host_steps : HostSteps
    pub verifier_steps : VerifierSteps
    pub host : (o : HostOpening) → (host_end F).grant o ≡ Ok tt → (ms : List Move) (qs : List (Answering K))
        → after (host_end F) closed (opening o ∷ (map noting ms ++ (sealing ∷ map asking qs))) ≡ sealed (host_after F.limit (host_opened o.rows o.columns o.bank) ms)
    pub verifier : (o : VerifierOpening K) → (verifier_end F).grant o ≡ Ok tt → (ms : List Move) (qs : List (Judging K))
        → after (verifier_end F) closed (opening o ∷ (map noting ms ++ (sealing ∷ map asking qs))) ≡ sealed (verifier_after F (verifier_opened F o.rows o.columns o.point o.bank) ms)
