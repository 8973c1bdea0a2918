-- Which lists of requests have a run, and that each of them has exactly one. Assumes nothing.
use Rattle.std.specs.Prelude.{◌≡◌, List, [], ◌∷◌, ◌++◌, map, Ok, Err, Result, Some}
use Rattle.std.specs.List.{AllByRecursion}
use Rattle.board.specs.declared.moves.Move.{Move}
use Rattle.refusal.specs.declared.refusal.Refusal.{Refusal}
use Rattle.promise.specs.Runs.{End, Request, opening, noting, sealing, asking, State, closed, listening, sealed, moves, Shaped, after, granted_open, note_answers, replies}
use Rattle.promise.specs.Ledgers.{IsOpen}

-- opens, a granted one, notes, a seal, and what the sealed end is asked
abbrev pub complete_requests : {O Q : Type 0} → List O → O → List Move → List Q → List (Request O Q)
complete_requests os o ms qs = map opening os ++ (opening o ∷ (map noting ms ++ (sealing ∷ map asking qs)))

-- what a request gets: the answer to an open, the answer to a note, nothing at a seal, the reply to what a sealed end is asked
pub data Response (Q A : Type 0) : Type 0 where
  to_open : Result (Unit {0}) Refusal → Response Q A
  to_note : Result (Unit {0}) Refusal → Response Q A
  to_seal : Response Q A
  to_ask : Q → A → Response Q A

-- the answers to the notes among the responses
abbrev pub answers_in : {Q A : Type 0} → List (Response Q A) → List (Result (Unit {0}) Refusal)
answers_in [] = []
answers_in (to_open a ∷ given) = answers_in given
answers_in (to_note a ∷ given) = a ∷ answers_in given
answers_in (to_seal ∷ given) = answers_in given
answers_in (to_ask q a ∷ given) = answers_in given

-- the replies among the responses, each with what was asked
abbrev pub replies_in : {Q A : Type 0} → List (Response Q A) → List (Q × A)
replies_in [] = []
replies_in (to_open a ∷ given) = replies_in given
replies_in (to_note a ∷ given) = replies_in given
replies_in (to_seal ∷ given) = replies_in given
replies_in (to_ask q a ∷ given) = (q, a) ∷ replies_in given

module _ {O X Q A : Type 0} (E : End O X Q A) where
  -- an open that is refused
  abbrev pub Refused : O → Type 0
  Refused o = (r : Refusal) × (E.grant o ≡ Err r)

  -- refused opens; or these, a granted one and notes; or these, a seal, and what the sealed end is asked
  pub data Form : List (Request O Q) → Type 0 where
    unopened : (os : List O) → AllByRecursion Refused os → Form (map opening os)
    unsealed : (os : List O) → AllByRecursion Refused os → (o : O) → E.grant o ≡ Ok tt → (ms : List Move) → Form (map opening os ++ (opening o ∷ map noting ms))
    complete : (os : List O) → AllByRecursion Refused os → (o : O) → E.grant o ≡ Ok tt → (ms : List Move) (qs : List Q) → Form (complete_requests os o ms qs)

  -- one request with its response takes the end from a state to a state
  pub data Step : State X → Request O Q → Response Q A → State X → Type 0 where
    by_refused_open : (o : O) (r : Refusal) → E.grant o ≡ Err r → Step closed (opening o) (to_open (Err r)) closed
    by_open : (o : O) (u : Unit {0}) → E.grant o ≡ Ok u → Step closed (opening o) (to_open (Ok u)) (listening (E.begin o))
    by_note : (x : X) (m : Move) → Step (listening x) (noting m) (to_note (E.note x m)) (listening (E.noted x m))
    by_seal : (x : X) → Step (listening x) sealing to_seal (sealed x)
    by_asking : (x : X) (q : Q) → Step (sealed x) (asking q) (to_ask q (E.reply x q)) (sealed (E.replied x q))

  -- a run: step by step, one end and one bank go through it
  pub data Run : State X → List (Request O Q) → List (Response Q A) → State X → Type 0 where
    stop : (s : State X) → Run s [] [] s
    goes : {s t u : State X} {r : Request O Q} {a : Response Q A} {rs : List (Request O Q)} {given : List (Response Q A)} → Step s r a t → Run t rs given u → Run s (r ∷ rs) (a ∷ given) u

  -- the requests have exactly one run, and the functions of the requests read it off
  pub record OneRun (rs : List (Request O Q)) : Type 0 where
    pub responses : List (Response Q A)
    pub run : Run closed rs responses (after E closed rs)
    pub only : (given : List (Response Q A)) (s : State X) → Run closed rs given s → (given ≡ responses) × (s ≡ after E closed rs)
    pub answers : note_answers E closed rs ≡ answers_in responses
    pub replies_are : replies E closed rs ≡ replies_in responses

  -- a complete list ends with a sealed end; its granted open and its moves are those in the list
  pub record Completed (os : List O) (o : O) (ms : List Move) (qs : List Q) : Type 0 where
    pub grants : granted_open E (complete_requests os o ms qs) ≡ Some o
    pub told : moves (complete_requests os o ms qs) ≡ ms
    pub end : X
    pub ends : after E closed (complete_requests os o ms qs) ≡ sealed end

  -- the lists that have a run are those of the form; each has exactly one; an open end was opened by a granted request
  pub record RunsOf : Type 0 where
    pub of_form : (rs : List (Request O Q)) → Form rs → Shaped E closed rs
    pub formed : (rs : List (Request O Q)) → Shaped E closed rs → Form rs
    pub one_run : (rs : List (Request O Q)) → Shaped E closed rs → OneRun rs
    pub shaped : (rs : List (Request O Q)) (given : List (Response Q A)) (s : State X) → Run closed rs given s → Shaped E closed rs
    pub completed : (os : List O) → AllByRecursion Refused os → (o : O) → E.grant o ≡ Ok tt → (ms : List Move) (qs : List Q) → Completed os o ms qs
    pub openings : (rs : List (Request O Q)) → Shaped E closed rs → (x : X) → IsOpen (after E closed rs) x → (o : O) × (granted_open E rs ≡ Some o)
    pub beginnings : (s : State X) (rs later : List (Request O Q)) → Shaped E s (rs ++ later) → Shaped E s rs
