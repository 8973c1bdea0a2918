-- The test for false claims holds exactly of the false claims. Assumes nothing.
use Rattle.std.proofs.Common.{◌≡◌, ℕ, ◌<◌, ◌≤◌, true, false, ◌&&◌, ltb, ◌≢◌, List, ℤ, ◌-ℤ◌, nat_abs, Ok, Err, Result, refl, ◌∙◌, ap₂, arith, ltb-false, ltb-true, lt-ltb}
use borrow.Author.Tests.{clash}
use Rattle.std.proofs.lemmas.Int.{ints}
use Rattle.field.specs.Field.{FieldModel}
use Rattle.board.specs.declared.moves.Move.{Move}
use Rattle.refusal.specs.declared.refusal.Refusal.{Refusal}
use Rattle.question.specs.declared.fit.Fit.{Fit}
use Rattle.question.specs.declared.fit.Fit.TheVariants as fit
use Rattle.protocol.specs.Asking.{is_fit, reading_under}
use Rattle.promise.specs.Claims.{Entry, claim_differs, true_count, FalseClaim, claims_falsely}
use Rattle.promise.specs.Adequacy.{TestsFalseClaims}

-- numbers that pass the test differ, and others are the same
pub not_apart : (c t : ℤ) → ltb 0 (nat_abs (c -ℤ t)) ≡ false → c ≡ t
not_apart c t e = let z : nat_abs (c -ℤ t) ≤ 0 = ltb-false _ _ e in omega (arith, ints)

pub apart : (c t : ℤ) → ltb 0 (nat_abs (c -ℤ t)) ≡ true → c ≢ t
apart c t e s = let z : 0 < nat_abs (c -ℤ t) = ltb-true _ _ e in absurd (omega (arith, ints, s))

tests_apart : (c t : ℤ) → c ≢ t → ltb 0 (nat_abs (c -ℤ t)) ≡ true
tests_apart c t n = lt-ltb 0 (nat_abs (c -ℤ t)) (omega (arith, ints))

module _ {K : Type 0} (F : FieldModel K) (h v : ℕ) (ms : List Move) (e : Entry K) where
  pub false_claim : claims_falsely F h v ms e ≡ true → FalseClaim F h v ms e
  false_claim = go (e.question.fits h v) (reading_under F e.question h v e.sheet) refl refl
    where
      go : (f : Fit) (s : Result (ℤ × List K) Refusal) → e.question.fits h v ≡ f → reading_under F e.question h v e.sheet ≡ s → (is_fit f && claim_differs s (true_count F h v ms e.question)) ≡ true → FalseClaim F h v ms e
      go fit.DoesNotFit s p r z = absurd (clash z)
      go fit.Fits (Err x) p r z = absurd (clash z)
      go fit.Fits (Ok s) p r z = record { fit = p; claim = s.0; values = s.1; reads = r; wrong = apart s.0 (true_count F h v ms e.question) z }

  pub tests_true : FalseClaim F h v ms e → claims_falsely F h v ms e ≡ true
  tests_true k =
      ap₂ (λ f s. is_fit f && claim_differs s (true_count F h v ms e.question)) k.fit k.reads
      ∙ tests_apart k.claim (true_count F h v ms e.question) k.wrong

pub tests_false_claims : {K : Type 0} (F : FieldModel K) → TestsFalseClaims F
tests_false_claims F h v ms e = (false_claim F h v ms e, tests_true F h v ms e)
