-- Runs of an end: opens until one is granted, then notes, a seal, and what the sealed end is asked. Every beginning of a run is a run. Assumes nothing.
use Rattle.std.specs.Prelude.{ℕ, List, [], ◌∷◌, ◌++◌, Ok, Err, Result, Option, None, Some}
use Rattle.board.specs.declared.moves.Move.{Move}
use Rattle.refusal.specs.declared.refusal.Refusal.{Refusal}
use Rattle.board.specs.Standing.{Standing}

-- an end, by its calls: O is what an open takes, X an end with its bank, Q what a sealed end is asked, A what it replies
pub record End (O X Q A : Type 0) : Type 0 where
  -- the grid that an open names
  pub rows : O → ℕ
  pub columns : O → ℕ
  -- the answer to an open, and the end where it is granted
  pub grant : O → Result (Unit {0}) Refusal
  pub begin : O → X
  -- the answer to a note, and the end after it
  pub note : X → Move → Result (Unit {0}) Refusal
  pub noted : X → Move → X
  -- the reply of a sealed end, and the end after it
  pub reply : X → Q → A
  pub replied : X → Q → X
  -- its grid, and the weight and the number of the moves that it accepted
  pub standing : X → Standing

-- what an end is asked for
pub data Request (O Q : Type 0) : Type 0 where
  opening : O → Request O Q
  noting : Move → Request O Q
  sealing : Request O Q
  asking : Q → Request O Q

-- before a granted open, after it, and after the seal
pub data State (X : Type 0) : Type 0 where
  closed : State X
  listening : X → State X
  sealed : X → State X

-- the moves of all notes, refused ones included
abbrev pub moves : {O Q : Type 0} → List (Request O Q) → List Move
moves [] = []
moves (opening o ∷ rs) = moves rs
moves (noting m ∷ rs) = m ∷ moves rs
moves (sealing ∷ rs) = moves rs
moves (asking q ∷ rs) = moves rs

module _ {O X Q A : Type 0} (E : End O X Q A) where
  -- after an open that was answered so
  abbrev pub begun : Result (Unit {0}) Refusal → O → State X
  begun (Ok u) o = listening (E.begin o)
  begun (Err r) o = closed

  -- the state after a request; one that an end in this state does not have changes nothing
  abbrev pub next : State X → Request O Q → State X
  next closed (opening o) = begun (E.grant o) o
  next (listening x) (opening o) = listening x
  next (sealed x) (opening o) = sealed x
  next closed (noting m) = closed
  next (listening x) (noting m) = listening (E.noted x m)
  next (sealed x) (noting m) = sealed x
  next closed sealing = closed
  next (listening x) sealing = sealed x
  next (sealed x) sealing = sealed x
  next closed (asking q) = closed
  next (listening x) (asking q) = listening x
  next (sealed x) (asking q) = sealed (E.replied x q)

  -- whether an end in this state has the request
  abbrev pub Possible : State X → Request O Q → Type 0
  Possible closed (opening o) = Unit {0}
  Possible (listening x) (opening o) = ⊥
  Possible (sealed x) (opening o) = ⊥
  Possible closed (noting m) = ⊥
  Possible (listening x) (noting m) = Unit {0}
  Possible (sealed x) (noting m) = ⊥
  Possible closed sealing = ⊥
  Possible (listening x) sealing = Unit {0}
  Possible (sealed x) sealing = ⊥
  Possible closed (asking q) = ⊥
  Possible (listening x) (asking q) = ⊥
  Possible (sealed x) (asking q) = Unit {0}

  -- each request is one that the end has when it comes
  abbrev pub Shaped : State X → List (Request O Q) → Type 0
  Shaped s [] = Unit {0}
  Shaped s (r ∷ rs) = Possible s r × Shaped (next s r) rs

  -- the state after a list of requests
  abbrev pub after : State X → List (Request O Q) → State X
  after s [] = s
  after s (r ∷ rs) = after (next s r) rs

  -- an open is the granted one where it was answered so, else a later one is
  abbrev pub granted_by : Result (Unit {0}) Refusal → O → Option O → Option O
  granted_by (Ok u) o later = Some o
  granted_by (Err r) o later = later

  -- the open that was granted
  abbrev pub granted_open : List (Request O Q) → Option O
  granted_open [] = None
  granted_open (opening o ∷ rs) = granted_by (E.grant o) o (granted_open rs)
  granted_open (noting m ∷ rs) = granted_open rs
  granted_open (sealing ∷ rs) = granted_open rs
  granted_open (asking q ∷ rs) = granted_open rs

  -- the answer, where the request is a note
  abbrev pub note_answer : State X → Request O Q → List (Result (Unit {0}) Refusal)
  note_answer s (opening o) = []
  note_answer closed (noting m) = []
  note_answer (listening x) (noting m) = E.note x m ∷ []
  note_answer (sealed x) (noting m) = []
  note_answer s sealing = []
  note_answer s (asking q) = []

  -- the answers to all notes
  abbrev pub note_answers : State X → List (Request O Q) → List (Result (Unit {0}) Refusal)
  note_answers s [] = []
  note_answers s (r ∷ rs) = note_answer s r ++ note_answers (next s r) rs

  -- what the sealed end is asked by a request, with its reply
  abbrev pub reply_to : State X → Request O Q → List (Q × A)
  reply_to s (opening o) = []
  reply_to s (noting m) = []
  reply_to s sealing = []
  reply_to closed (asking q) = []
  reply_to (listening x) (asking q) = []
  reply_to (sealed x) (asking q) = (q, E.reply x q) ∷ []

  -- all that the sealed end was asked, each with its reply
  abbrev pub replies : State X → List (Request O Q) → List (Q × A)
  replies s [] = []
  replies s (r ∷ rs) = reply_to s r ++ replies (next s r) rs
