-- What a sealed box judged in a run, in terms of its ledger's counts. Assumes nothing but the laws of the field.
use Rattle.std.proofs.Common.{◌≡◌, ℕ, ◌≤◌, true, List, length, take, ℤ, Ok, sym, ap, ◌∙◌, subst, inr, arith}
use mathlib.Core.Path.{subst₃}
use Rattle.field.specs.Field.{FieldModel, LawfulField}
use Rattle.board.specs.declared.moves.Move.{Move}
use Rattle.board.specs.Grids.{grid_allowed}
use Rattle.board.specs.Ledger.{ledger}
use Rattle.board.proofs.Ledgers.{kept}
use Rattle.std.specs.List.{AllByRecursion}
use Rattle.polynomial.specs.Columns.{columns_at}
use Rattle.question.specs.Question.{Within}
use Rattle.verifier.specs.Notes.{VerifierState}
use Rattle.verifier.specs.Judging.{Judgement, judged}
use Rattle.promise.specs.Runs.{moves}
use Rattle.promise.specs.Ends.{VerifierOpening, Judging, verifier_end}
use Rattle.promise.specs.Sealed.{SealedVerifier, judgings}
use Rattle.promise.proofs.Lists.{each_map}
use Rattle.promise.proofs.Runs.{Ran, ran_at}
use Rattle.promise.proofs.Ends.{VerifierStands, verifier_keeps}
use Rattle.promise.proofs.Judgements.{Passed, accepted_passed}

-- the counts of a ledger fed the moves
abbrev pub counts_of : {K : Type 0} → FieldModel K → ℕ → ℕ → List Move → List ℤ
counts_of F h v ms = (ledger h v F.limit ms).counts

pub within : {K : Type 0} (F : FieldModel K) (h v : ℕ) (ms : List Move) → Within F h v (counts_of F h v ms)
within F h v ms = let k = kept h v F.limit ms in record { size = k.size; light = omega arith }

module _ {K : Type 0} {F : FieldModel K} (L : LawfulField F) where
  -- a box whose bank begins with the columns of the counts at the point r
  pub record Holding (h v : ℕ) (ms : List Move) (r : K) (x : VerifierState K) : Type 0 where
    pub bank : List K
    pub allowed : grid_allowed h v ≡ true
    pub long : v ≤ length bank
    pub right : take v bank ≡ columns_at F h v (counts_of F h v ms) r
    pub judges : (j : Judging K) → (verifier_end F).reply x j ≡ judged F h v r bank j.question j.sheet j.tray

  holding : (o : VerifierOpening K) (ms : List Move) (x : VerifierState K) → VerifierStands F o (ledger o.rows o.columns F.limit ms) x → Holding o.rows o.columns ms o.point x
  holding o ms x s = record { bank = s.bank; allowed = s.allowed; long = s.long; right = s.right; judges = λ j. ap (λ z. (verifier_end F).reply z j) s.is }

  -- a judging by such a box
  pub record JudgedBy (h v : ℕ) (ms : List Move) (r : K) (g : Judging K × Judgement K) : Type 0 where
    pub box : VerifierState K
    pub holds : Holding h v ms r box
    pub is : g.1 ≡ (verifier_end F).reply box g.0

  -- the box at the end of a run, and all that was judged in it
  pub record Settled (h v : ℕ) (ms : List Move) (r : K) (x : VerifierState K) (gs : List (Judging K × Judgement K)) : Type 0 where
    pub holds : Holding h v ms r x
    pub all : AllByRecursion (JudgedBy h v ms r) gs

  pub settled : (h v : ℕ) (ms : List Move) (r : K) (run : SealedVerifier F h v ms r) → Settled h v ms r run.verifier (judgings F h v ms run)
  settled h v ms r run = subst₃ (λ a b c. Settled a b ms c x gs) run.rows run.columns run.point (subst (λ ns. Settled o.rows o.columns ns o.point x gs) run.told there)
    where
      o : VerifierOpening K
      o = run.opened

      x : VerifierState K
      x = run.verifier

      gs : List (Judging K × Judgement K)
      gs = judgings F h v ms run

      t : Ran (verifier_keeps F L) run.requests o x
      t = ran_at (verifier_keeps F L) run.requests run.shaped o run.grants x (inr run.ends)

      there : Settled o.rows o.columns (moves run.requests) o.point x gs
      there = record {
        holds = holding o (moves run.requests) x t.stands;
        all = each_map _ _ gs (λ g z. record { box = z.end; holds = holding o (moves run.requests) z.end z.stands; is = z.is }) t.replied;
      }

  -- what a sheet that was accepted passed, in terms of the counts
  pub accepted_at : (h v : ℕ) (ms : List Move) (r : K) (g : Judging K × Judgement K) (c : ℤ) → JudgedBy h v ms r g → g.1.answer ≡ Ok c
      → Passed L h v r (columns_at F h v (counts_of F h v ms) r) g.0.question g.0.sheet c
  accepted_at h v ms r g c z e =
      subst (λ cs. Passed L h v r cs g.0.question g.0.sheet c) z.holds.right
      (accepted_passed L h v r z.holds.bank g.0.question g.0.sheet g.0.tray c (sym (ap (λ w. w.answer) (z.is ∙ z.holds.judges g.0)) ∙ e))
