-- The steps in the promise's runs are calls, and the runs lead to the ends of a trial. Assumes nothing.
use Rattle.std.proofs.Common.{◌≡◌, ◌*◌, List, [], ◌∷◌, ◌++◌, map, pos, refl, ap, ◌∙◌}
use Rattle.board.specs.Answers.{kept_or}
use Rattle.board.specs.Banks.{filled}
use Rattle.board.specs.declared.moves.Move.{Move}
use Rattle.field.specs.Field.{FieldModel}
use Rattle.host.specs.Notes.{HostState, host_noted, host_after}
use Rattle.verifier.specs.Notes.{VerifierState, verifier_noted, verifier_after}
use Rattle.promise.specs.Runs.{End, Request, State, begun, noting, sealing, asking, listening, sealed, after}
use Rattle.promise.specs.Shapes.{Response, Step, by_refused_open, by_open, by_note, by_seal, by_asking}
use Rattle.promise.specs.Ends.{Judging, verifier_end, Answering, host_end}
use Rattle.promise.proofs.Shapes.{one_step, possible}
use Rattle.play.specs.States.{host_state, verifier_state}
use Rattle.play.specs.Adequacy.{OneStep, HostSteps, VerifierSteps, RunsAreCalls}

-- a step is the only one of its request
this : {O X Q A : Type 0} (E : End O X Q A) {s : State X} {r : Request O Q} {a : Response Q A} {t : State X} → Step E s r a t → OneStep E s r a t
this E {s} {r} {a} {t} d = record { step = d; only = λ b u e. one_step E s r a b t u d e }

module _ {K : Type 0} (F : FieldModel K) where
  -- what a sealed end is asked changes nothing
  host_asked : (x : HostState) (qs : List (Answering K)) → after (host_end F) (sealed x) (map asking qs) ≡ sealed x
  host_asked x [] = refl
  host_asked x (q ∷ qs) = host_asked x qs

  verifier_asked : (x : VerifierState K) (qs : List (Judging K)) → after (verifier_end F) (sealed x) (map asking qs) ≡ sealed x
  verifier_asked x [] = refl
  verifier_asked x (q ∷ qs) = verifier_asked x qs

  pub host_sealed : (x : HostState) (ms : List Move) (qs : List (Answering K)) → after (host_end F) (listening x) (map noting ms ++ (sealing ∷ map asking qs)) ≡ sealed (host_after F.limit x ms)
  host_sealed x [] qs = host_asked x qs
  host_sealed x (m ∷ ms) qs = host_sealed (host_noted F.limit x m) ms qs

  pub verifier_sealed : (x : VerifierState K) (ms : List Move) (qs : List (Judging K)) → after (verifier_end F) (listening x) (map noting ms ++ (sealing ∷ map asking qs)) ≡ sealed (verifier_after F x ms)
  verifier_sealed x [] qs = verifier_asked x qs
  verifier_sealed x (m ∷ ms) qs = verifier_sealed (verifier_noted F x m) ms qs

  host_steps : HostSteps F
  host_steps = record {
    open_granted = λ o e. this (host_end F) (by_open o tt e);
    open_refused = λ o r e. (this (host_end F) (by_refused_open o r e), ap (λ a. kept_or a o.bank (filled (o.rows * o.columns) (pos 0) o.bank)) e);
    note = λ s bank m. this (host_end F) (by_note (host_state s bank) m);
    seal = λ s bank. this (host_end F) (by_seal (host_state s bank));
    answer = λ s bank a. this (host_end F) (by_asking (host_state s bank) a);
    nothing_else = possible (host_end F);
  }

  verifier_steps : VerifierSteps F
  verifier_steps = record {
    open_granted = λ o e. this (verifier_end F) (by_open o tt e);
    open_refused = λ o r e. (this (verifier_end F) (by_refused_open o r e), ap (λ a. kept_or a o.bank (filled o.columns F.zero o.bank)) e);
    note = λ b bank m. this (verifier_end F) (by_note (verifier_state b bank) m);
    seal = λ b bank. this (verifier_end F) (by_seal (verifier_state b bank));
    judge = λ b bank j. this (verifier_end F) (by_asking (verifier_state b bank) j);
    nothing_else = possible (verifier_end F);
  }

  pub runs_are_calls : RunsAreCalls F
  runs_are_calls = record {
    host_steps = host_steps;
    verifier_steps = verifier_steps;
    host = λ o granted ms qs. ap (λ a. after (host_end F) (begun (host_end F) a o) (map noting ms ++ (sealing ∷ map asking qs))) granted ∙ host_sealed ((host_end F).begin o) ms qs;
    verifier = λ o granted ms qs. ap (λ a. after (verifier_end F) (begun (verifier_end F) a o) (map noting ms ++ (sealing ∷ map asking qs))) granted ∙ verifier_sealed ((verifier_end F).begin o) ms qs;
  }
