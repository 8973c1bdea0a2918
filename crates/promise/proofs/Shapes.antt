-- Every list of requests of the form has exactly one run. Assumes nothing.
use Rattle.std.proofs.Common.{◌≡◌, List, [], ◌∷◌, ◌++◌, map, Ok, Err, Result, sym, refl, ap, ◌∙◌, subst, ap₂, inl, inr}
use Rattle.std.proofs.lemmas.List.{append-nil}
use Rattle.std.specs.Prelude.{Option, Some}
use Rattle.std.specs.List.{AllByRecursion}
use Rattle.board.specs.declared.moves.Move.{Move}
use Rattle.refusal.specs.declared.refusal.Refusal.{Refusal}
use Rattle.promise.specs.Runs.{End, Request, opening, noting, sealing, asking, State, closed, listening, sealed, moves, begun, next, Possible, Shaped, after, granted_open, granted_by, note_answers, replies}
use Rattle.promise.specs.Ledgers.{IsOpen}
use Rattle.promise.specs.Shapes.{complete_requests, Response, to_open, to_note, to_seal, to_ask, answers_in, replies_in, Refused, Form, unopened, unsealed, complete, Step, by_refused_open, by_open, by_note, by_seal, by_asking, Run, stop, goes, OneRun, Completed, RunsOf}
use Rattle.promise.proofs.Runs.{Holds}

module _ {O X Q A : Type 0} (E : End O X Q A) where
  -- ---- lists of the form are shaped
  shaped_asked : (x : X) (qs : List Q) → Shaped E (sealed x) (map asking qs)
  shaped_asked x [] = tt
  shaped_asked x (q ∷ qs) = (tt, shaped_asked (E.replied x q) qs)

  shaped_noted : (x : X) (ms : List Move) → Shaped E (listening x) (map noting ms)
  shaped_noted x [] = tt
  shaped_noted x (m ∷ ms) = (tt, shaped_noted (E.noted x m) ms)

  shaped_sealed : (x : X) (ms : List Move) (qs : List Q) → Shaped E (listening x) (map noting ms ++ (sealing ∷ map asking qs))
  shaped_sealed x [] qs = (tt, shaped_asked x qs)
  shaped_sealed x (m ∷ ms) qs = (tt, shaped_sealed (E.noted x m) ms qs)

  -- after refused opens
  shaped_opened : (os : List O) → AllByRecursion (Refused E) os → (rs : List (Request O Q)) → Shaped E closed rs → Shaped E closed (map opening os ++ rs)
  shaped_opened [] h rs s = s
  shaped_opened (o ∷ os) h rs s = (tt, subst (λ t. Shaped E t (map opening os ++ rs)) (sym (ap (λ a. begun E a o) h.0.1)) (shaped_opened os h.1 rs s))

  shaped_granted : (o : O) → E.grant o ≡ Ok tt → (rs : List (Request O Q)) → Shaped E (listening (E.begin o)) rs → Shaped E closed (opening o ∷ rs)
  shaped_granted o e rs s = (tt, subst (λ t. Shaped E t rs) (sym (ap (λ a. begun E a o) e)) s)

  of_form : (rs : List (Request O Q)) → Form E rs → Shaped E closed rs
  of_form _ (unopened os h) = subst (Shaped E closed) (append-nil (map opening os)) (shaped_opened os h [] tt)
  of_form _ (unsealed os h o e ms) = shaped_opened os h _ (shaped_granted o e _ (shaped_noted (E.begin o) ms))
  of_form _ (complete os h o e ms qs) = shaped_opened os h _ (shaped_granted o e _ (shaped_sealed (E.begin o) ms qs))

  -- ---- shaped lists are of the form
  all_asked : (x : X) (rs : List (Request O Q)) → Shaped E (sealed x) rs → (qs : List Q) × (map asking qs ≡ rs)
  all_asked x [] s = ([], refl)
  all_asked x (opening o ∷ rs) s = absurd s.0
  all_asked x (noting m ∷ rs) s = absurd s.0
  all_asked x (sealing ∷ rs) s = absurd s.0
  all_asked x (asking q ∷ rs) s = let (qs, e) = all_asked (E.replied x q) rs s.1 in (q ∷ qs, ap (◌∷◌ (asking q)) e)

  -- notes, and then perhaps a seal and what the sealed end is asked
  data Told : List (Request O Q) → Type 0 where
    notes : (ms : List Move) → Told (map noting ms)
    seal : (ms : List Move) (qs : List Q) → Told (map noting ms ++ (sealing ∷ map asking qs))

  one_more : (m : Move) (rs : List (Request O Q)) → Told rs → Told (noting m ∷ rs)
  one_more m _ (notes ms) = notes (m ∷ ms)
  one_more m _ (seal ms qs) = seal (m ∷ ms) qs

  all_told : (x : X) (rs : List (Request O Q)) → Shaped E (listening x) rs → Told rs
  all_told x [] s = notes []
  all_told x (opening o ∷ rs) s = absurd s.0
  all_told x (noting m ∷ rs) s = one_more m rs (all_told (E.noted x m) rs s.1)
  all_told x (sealing ∷ rs) s = let (qs, e) = all_asked x rs s.1 in subst (λ z. Told (sealing ∷ z)) e (seal [] qs)
  all_told x (asking q ∷ rs) s = absurd s.0

  granted_first : (o : O) → E.grant o ≡ Ok tt → (rs : List (Request O Q)) → Told rs → Form E (opening o ∷ rs)
  granted_first o e _ (notes ms) = unsealed [] tt o e ms
  granted_first o e _ (seal ms qs) = complete [] tt o e ms qs

  refused_first : (p : O) → Refused E p → (rs : List (Request O Q)) → Form E rs → Form E (opening p ∷ rs)
  refused_first p r _ (unopened os h) = unopened (p ∷ os) (r, h)
  refused_first p r _ (unsealed os h o e ms) = unsealed (p ∷ os) (r, h) o e ms
  refused_first p r _ (complete os h o e ms qs) = complete (p ∷ os) (r, h) o e ms qs

  formed : (rs : List (Request O Q)) → Shaped E closed rs → Form E rs
  formed [] s = unopened [] tt
  formed (opening o ∷ rs) s = go (E.grant o) refl s.1 (formed rs)
    where
      go : (a : Result (Unit {0}) Refusal) → E.grant o ≡ a → Shaped E (begun E a o) rs → (Shaped E closed rs → Form E rs) → Form E (opening o ∷ rs)
      go (Ok u) e t later = granted_first o e rs (all_told (E.begin o) rs t)
      go (Err r) e t later = refused_first o (r, e) rs (later t)
  formed (noting m ∷ rs) s = absurd s.0
  formed (sealing ∷ rs) s = absurd s.0
  formed (asking q ∷ rs) s = absurd s.0

  -- ---- exactly one run
  -- the responses of an open, and of all requests
  response_to : State X → Request O Q → Response Q A
  response_to s (opening o) = to_open (E.grant o)
  response_to closed (noting m) = to_seal
  response_to (listening x) (noting m) = to_note (E.note x m)
  response_to (sealed x) (noting m) = to_seal
  response_to s sealing = to_seal
  response_to closed (asking q) = to_seal
  response_to (listening x) (asking q) = to_seal
  response_to (sealed x) (asking q) = to_ask q (E.reply x q)

  responses_to : State X → List (Request O Q) → List (Response Q A)
  responses_to s [] = []
  responses_to s (r ∷ rs) = response_to s r ∷ responses_to (next E s r) rs

  step : (s : State X) (r : Request O Q) → Possible E s r → Step E s r (response_to s r) (next E s r)
  unfolding response_to
  step closed (opening o) p = go (E.grant o) refl
    where
      go : (a : Result (Unit {0}) Refusal) → E.grant o ≡ a → Step E closed (opening o) (to_open a) (begun E a o)
      go (Ok u) e = by_open o u e
      go (Err r) e = by_refused_open o r e
  step (listening x) (opening o) p = absurd p
  step (sealed x) (opening o) p = absurd p
  step closed (noting m) p = absurd p
  step (listening x) (noting m) p = by_note x m
  step (sealed x) (noting m) p = absurd p
  step closed sealing p = absurd p
  step (listening x) sealing p = by_seal x
  step (sealed x) sealing p = absurd p
  step closed (asking q) p = absurd p
  step (listening x) (asking q) p = absurd p
  step (sealed x) (asking q) p = by_asking x q

  runs : (s : State X) (rs : List (Request O Q)) → Shaped E s rs → Run E s rs (responses_to s rs) (after E s rs)
  unfolding responses_to
  runs s [] h = stop s
  runs s (r ∷ rs) h = goes (step s r h.0) (runs (next E s r) rs h.1)

  step_only : (s : State X) (r : Request O Q) (a : Response Q A) (t : State X) → Step E s r a t → (a ≡ response_to s r) × (t ≡ next E s r)
  unfolding response_to
  step_only _ _ _ _ (by_refused_open o r e) = (ap to_open (sym e), sym (ap (λ a. begun E a o) e))
  step_only _ _ _ _ (by_open o u e) = (ap to_open (sym e), sym (ap (λ a. begun E a o) e))
  step_only _ _ _ _ (by_note x m) = (refl, refl)
  step_only _ _ _ _ (by_seal x) = (refl, refl)
  step_only _ _ _ _ (by_asking x q) = (refl, refl)

  runs_only : (s : State X) (rs : List (Request O Q)) (given : List (Response Q A)) (t : State X) → Run E s rs given t → (given ≡ responses_to s rs) × (t ≡ after E s rs)
  unfolding responses_to
  runs_only _ _ _ _ (stop s) = (refl, refl)
  runs_only s _ _ u (goes {t = t} {r = r} {a = a} {rs = rs} {given = given} d later) =
      let e = step_only s r a t d in
      let l = runs_only t rs given u later in
      (ap₂ ◌∷◌ e.0 (l.0 ∙ ap (λ z. responses_to z rs) e.1), l.1 ∙ ap (λ z. after E z rs) e.1)

  -- a request has one step at most, and the end has the request
  pub one_step : (s : State X) (r : Request O Q) (a b : Response Q A) (t u : State X) → Step E s r a t → Step E s r b u → (b ≡ a) × (u ≡ t)
  one_step s r a b t u d e =
      let (a-is, t-is) = step_only s r a t d in
      let (b-is, u-is) = step_only s r b u e in
      (b-is ∙ sym a-is, u-is ∙ sym t-is)

  pub possible : (s : State X) (r : Request O Q) (a : Response Q A) (t : State X) → Step E s r a t → Possible E s r
  possible _ _ _ _ (by_refused_open o r e) = tt
  possible _ _ _ _ (by_open o u e) = tt
  possible _ _ _ _ (by_note x m) = tt
  possible _ _ _ _ (by_seal x) = tt
  possible _ _ _ _ (by_asking x q) = tt

  shaped : (s : State X) (rs : List (Request O Q)) (given : List (Response Q A)) (t : State X) → Run E s rs given t → Shaped E s rs
  shaped _ _ _ _ (stop s) = tt
  shaped s _ _ u (goes {t = t} {r = r} {a = a} {rs = rs} {given = given} d later) =
      (possible s r a t d, subst (λ z. Shaped E z rs) (step_only s r a t d).1 (shaped t rs given u later))

  -- the functions of the requests read the run off
  read_answers : (s : State X) (rs : List (Request O Q)) → Shaped E s rs → note_answers E s rs ≡ answers_in (responses_to s rs)
  unfolding response_to responses_to
  read_answers s [] h = refl
  read_answers closed (opening o ∷ rs) h = read_answers (begun E (E.grant o) o) rs h.1
  read_answers (listening x) (opening o ∷ rs) h = absurd h.0
  read_answers (sealed x) (opening o ∷ rs) h = absurd h.0
  read_answers closed (noting m ∷ rs) h = absurd h.0
  read_answers (listening x) (noting m ∷ rs) h = ap (◌∷◌ (E.note x m)) (read_answers (listening (E.noted x m)) rs h.1)
  read_answers (sealed x) (noting m ∷ rs) h = absurd h.0
  read_answers closed (sealing ∷ rs) h = absurd h.0
  read_answers (listening x) (sealing ∷ rs) h = read_answers (sealed x) rs h.1
  read_answers (sealed x) (sealing ∷ rs) h = absurd h.0
  read_answers closed (asking q ∷ rs) h = absurd h.0
  read_answers (listening x) (asking q ∷ rs) h = absurd h.0
  read_answers (sealed x) (asking q ∷ rs) h = read_answers (sealed (E.replied x q)) rs h.1

  read_replies : (s : State X) (rs : List (Request O Q)) → Shaped E s rs → replies E s rs ≡ replies_in (responses_to s rs)
  unfolding response_to responses_to
  read_replies s [] h = refl
  read_replies closed (opening o ∷ rs) h = read_replies (begun E (E.grant o) o) rs h.1
  read_replies (listening x) (opening o ∷ rs) h = absurd h.0
  read_replies (sealed x) (opening o ∷ rs) h = absurd h.0
  read_replies closed (noting m ∷ rs) h = absurd h.0
  read_replies (listening x) (noting m ∷ rs) h = read_replies (listening (E.noted x m)) rs h.1
  read_replies (sealed x) (noting m ∷ rs) h = absurd h.0
  read_replies closed (sealing ∷ rs) h = absurd h.0
  read_replies (listening x) (sealing ∷ rs) h = read_replies (sealed x) rs h.1
  read_replies (sealed x) (sealing ∷ rs) h = absurd h.0
  read_replies closed (asking q ∷ rs) h = absurd h.0
  read_replies (listening x) (asking q ∷ rs) h = absurd h.0
  read_replies (sealed x) (asking q ∷ rs) h = ap (◌∷◌ (q, E.reply x q)) (read_replies (sealed (E.replied x q)) rs h.1)

  one_run : (rs : List (Request O Q)) → Shaped E closed rs → OneRun E rs
  one_run rs h = record {
    responses = responses_to closed rs;
    run = runs closed rs h;
    only = λ given s d. runs_only closed rs given s d;
    answers = read_answers closed rs h;
    replies_are = read_replies closed rs h;
  }

  -- ---- complete lists
  record Tail (s : State X) (rs : List (Request O Q)) (ms : List Move) : Type 0 where
    told : moves rs ≡ ms
    end : X
    ends : after E s rs ≡ sealed end

  asked_tail : (x : X) (qs : List Q) → Tail (sealed x) (map asking qs) []
  asked_tail x [] = record { told = refl; end = x; ends = refl }
  asked_tail x (q ∷ qs) = let t = asked_tail (E.replied x q) qs in record { told = t.told; end = t.end; ends = t.ends }

  noted_tail : (x : X) (ms : List Move) (qs : List Q) → Tail (listening x) (map noting ms ++ (sealing ∷ map asking qs)) ms
  noted_tail x [] qs = let t = asked_tail x qs in record { told = t.told; end = t.end; ends = t.ends }
  noted_tail x (m ∷ ms) qs = let t = noted_tail (E.noted x m) ms qs in record { told = ap (◌∷◌ m) t.told; end = t.end; ends = t.ends }

  completed : (os : List O) → AllByRecursion (Refused E) os → (o : O) → E.grant o ≡ Ok tt → (ms : List Move) (qs : List Q) → Completed E os o ms qs
  completed [] h o e ms qs =
      let t = noted_tail (E.begin o) ms qs in
      let later = map noting ms ++ (sealing ∷ map asking qs) in
      record {
        grants = ap (λ a. granted_by E a o (granted_open E later)) e;
        told = t.told;
        end = t.end;
        ends = ap (λ a. after E (begun E a o) later) e ∙ t.ends;
      }
  completed (p ∷ os) h o e ms qs =
      let t = completed os h.1 o e ms qs in
      record {
        grants = ap (λ a. granted_by E a p (granted_open E (complete_requests os o ms qs))) h.0.1 ∙ t.grants;
        told = t.told;
        end = t.end;
        ends = ap (λ a. after E (begun E a p) (complete_requests os o ms qs)) h.0.1 ∙ t.ends;
      }

  -- ---- openings and beginnings
  beginnings : (s : State X) (rs later : List (Request O Q)) → Shaped E s (rs ++ later) → Shaped E s rs
  beginnings s [] later h = tt
  beginnings s (r ∷ rs) later h = (h.0, beginnings (next E s r) rs later h.1)

  abbrev SomeGrant : List (Request O Q) → X → Type 0
  SomeGrant rs x = (o : O) × (granted_open E rs ≡ Some o)

  open_granted : (rs : List (Request O Q)) → Shaped E closed rs → Holds (SomeGrant rs) (after E closed rs)
  open_granted [] s = tt
  open_granted (opening p ∷ rs) s = go (E.grant p) s.1 (open_granted rs)
    where
      go : (a : Result (Unit {0}) Refusal) → Shaped E (begun E a p) rs → (Shaped E closed rs → Holds (SomeGrant rs) (after E closed rs)) → Holds (λ x. (o : O) × (granted_by E a p (granted_open E rs) ≡ Some o)) (after E (begun E a p) rs)
      go (Err r) t later = later t
      go (Ok u) t later = always (after E (listening (E.begin p)) rs)
        where
          always : (s : State X) → Holds (λ x. (o : O) × (◌≡◌ {A = Option O} (Some p) (Some o))) s
          always closed = tt
          always (listening x) = (p, refl)
          always (sealed x) = (p, refl)
  open_granted (noting m ∷ rs) s = absurd s.0
  open_granted (sealing ∷ rs) s = absurd s.0
  open_granted (asking q ∷ rs) s = absurd s.0

  openings : (rs : List (Request O Q)) → Shaped E closed rs → (x : X) → IsOpen (after E closed rs) x → (o : O) × (granted_open E rs ≡ Some o)
  openings rs s x (inl e) = subst (Holds (SomeGrant rs)) e (open_granted rs s)
  openings rs s x (inr e) = subst (Holds (SomeGrant rs)) e (open_granted rs s)

  pub runs_of : RunsOf E
  runs_of = record {
    of_form = of_form;
    formed = formed;
    one_run = one_run;
    shaped = λ rs given s d. shaped closed rs given s d;
    completed = completed;
    openings = openings;
    beginnings = beginnings;
  }
