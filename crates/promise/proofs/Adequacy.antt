-- Runs exist and are unique at both ends, and a grant does not depend on the point. Assumes nothing.
use Rattle.std.proofs.Common.{◌≡◌, ℕ, ◌*◌, true, cond, List, [], length, replicate, pos, Ok, Err, refl, ap₂, arith, le-leb}
use lib.ListN.{length-replicate}
use Rattle.field.specs.Field.{FieldModel}
use Rattle.board.specs.declared.moves.Move.{Move}
use Rattle.refusal.specs.declared.refusal.Refusal.TheVariants.{GridOutside, BankShort}
use Rattle.board.specs.Books.{open_answer}
use Rattle.board.specs.Grids.{grid_allowed}
use Rattle.promise.specs.Ends.{VerifierOpening, verifier_end, HostOpening, host_end}
use Rattle.promise.specs.Shapes.{complete_requests, complete}
use Rattle.promise.specs.Sealed.{SealedVerifier, SealedHost}
use Rattle.promise.specs.Adequacy.{EveryListRuns, SealedRuns, GrantedAnywhere}
use Rattle.promise.proofs.Shapes.{runs_of}

-- an allowed grid is opened over a bank of just the cells that are wanted
opens : {A : Type 0} (h v n : ℕ) (x : A) → grid_allowed h v ≡ true → open_answer h v n (replicate n x) ≡ Ok tt
opens h v n x g = ap₂ (λ a b. cond a (cond b (Ok tt) (Err BankShort)) (Err GridOutside)) g (le-leb n (length (replicate n x)) (omega (arith, length-replicate n x)))

module _ {K : Type 0} (F : FieldModel K) where
  pub every_list_runs : EveryListRuns F
  every_list_runs = record { verifier = runs_of (verifier_end F); host = runs_of (host_end F) }

  verifier_run : (h v : ℕ) → grid_allowed h v ≡ true → (ms : List Move) (r : K) → SealedVerifier F h v ms r
  verifier_run h v g ms r =
      let o : VerifierOpening K = record { rows = h; columns = v; bank = replicate v F.zero; point = r } in
      let e = opens h v v F.zero g in
      let c = (runs_of (verifier_end F)).completed [] tt o e ms [] in
      record {
        requests = complete_requests [] o ms [];
        shaped = (runs_of (verifier_end F)).of_form (complete_requests [] o ms []) (complete [] tt o e ms []);
        opened = o;
        grants = c.grants;
        rows = refl;
        columns = refl;
        point = refl;
        told = c.told;
        verifier = c.end;
        ends = c.ends;
      }

  host_run : (h v : ℕ) → grid_allowed h v ≡ true → (ms : List Move) → SealedHost F h v ms
  host_run h v g ms =
      let o : HostOpening = record { rows = h; columns = v; bank = replicate (h * v) (pos 0) } in
      let e = opens h v (h * v) (pos 0) g in
      let c = (runs_of (host_end F)).completed [] tt o e ms [] in
      record {
        requests = complete_requests [] o ms [];
        shaped = (runs_of (host_end F)).of_form (complete_requests [] o ms []) (complete [] tt o e ms []);
        opened = o;
        grants = c.grants;
        rows = refl;
        columns = refl;
        told = c.told;
        host = c.end;
        ends = c.ends;
      }

  pub sealed_runs : SealedRuns F
  sealed_runs = record { verifier = verifier_run; host = host_run }

  pub granted_anywhere : GrantedAnywhere F
  granted_anywhere o r = refl
