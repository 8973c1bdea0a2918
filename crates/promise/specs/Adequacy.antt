-- That the promise says what it should: its runs exist and are unique, its premises can be met, and its bound is reached. Assumes nothing.
use Rattle.std.specs.Prelude.{◌≡◌, ℕ, true, List, []}
use Rattle.field.specs.Field.{FieldModel}
use Rattle.board.specs.declared.moves.Move.{Move}
use Rattle.board.specs.Grids.{grid_allowed}
use Rattle.std.specs.List.{AllByRecursion}
use Rattle.question.specs.Question.{LawfulQuestion}
use Rattle.promise.specs.Ends.{VerifierOpening, verifier_end, host_end}
use Rattle.promise.specs.Shapes.{RunsOf}
use Rattle.promise.specs.Claims.{Entry, FalseClaim, claims_falsely}
use Rattle.promise.specs.Sealed.{SealedVerifier, SealedHost, Fooled}

-- the same opening at another point
abbrev pub with_point : {K : Type 0} → K → VerifierOpening K → VerifierOpening K
with_point r o = record { rows = o.rows; columns = o.columns; bank = o.bank; point = r }

module _ {K : Type 0} (F : FieldModel K) where
  -- at both ends the lists of requests that have a run are those of the form, and each has exactly one
  pub record EveryListRuns : Type 0 where
    pub verifier : RunsOf (verifier_end F)
    pub host : RunsOf (host_end F)

  -- on every allowed grid, for all moves and at every point there are sealed runs
  pub record SealedRuns : Type 0 where
    pub verifier : (h v : ℕ) → grid_allowed h v ≡ true → (ms : List Move) (r : K) → SealedVerifier F h v ms r
    pub host : (h v : ℕ) → grid_allowed h v ≡ true → (ms : List Move) → SealedHost F h v ms

  -- whether a box is opened does not depend on its point
  abbrev pub GrantedAnywhere : Type 0
  GrantedAnywhere = (o : VerifierOpening K) (r : K) → (verifier_end F).grant (with_point r o) ≡ (verifier_end F).grant o

  -- the test for false claims holds exactly of the false claims
  abbrev pub TestsFalseClaims : Type 0
  TestsFalseClaims = (h v : ℕ) (ms : List Move) (e : Entry K) → (claims_falsely F h v ms e ≡ true → FalseClaim F h v ms e) × (FalseClaim F h v ms e → claims_falsely F h v ms e ≡ true)

  -- on one row no false claim is accepted anywhere
  abbrev pub NoneOnOneRow : Type 0
  NoneOnOneRow = (v : ℕ) (ms : List Move) (es : List (Entry K)) → AllByRecursion (λ e. LawfulQuestion F e.question) es → (rs : List K) → AllByRecursion (Fooled F 1 v ms es) rs → rs ≡ []
