-- A sheet with a false claim is accepted at few points, and any other accepted sheet claims the true count.
-- Assumes nothing but the laws of the field, and of the questions.
use Rattle.std.proofs.Common.{◌≡◌, ℕ, ◌≤◌, Bool, true, false, cond, ◌&&◌, ltb, ◌≢◌, List, [], ◌∷◌, length, ℤ, ◌-ℤ◌, nat_abs, Ok, Err, Result, sym, refl, ap, ◌∙◌, subst, ap₂, true≢false, arith}
use Rattle.field.specs.Field.{FieldModel, LawfulField}
use Rattle.board.specs.declared.moves.Move.{Move}
use Rattle.refusal.specs.declared.refusal.Refusal.{Refusal}
use Rattle.board.specs.Grids.{grid_allowed}
use Rattle.polynomial.specs.Lists.{AnyByRecursion, Distinct}
use Rattle.std.specs.List.{AllByRecursion}
use Rattle.polynomial.specs.Columns.{columns_at}
use Rattle.polynomial.proofs.Counts.{Sorted, sort, split_length, distinct_first, distinct_second}
use Rattle.question.specs.Question.{Fits, LawfulQuestion}
use Rattle.protocol.specs.Asking.{is_fit, terms_of}
use Rattle.sheet.proofs.Sheets.{reads_sheets}
use Rattle.promise.specs.Counts.{Agree}
use Rattle.verifier.specs.Judging.{Judgement}
use Rattle.promise.specs.Ends.{Judging}
use Rattle.promise.specs.Claims.{Entry, claim_differs, true_count, FalseClaim, claims_falsely, false_degrees}
use Rattle.promise.specs.Sealed.{judgings, entry_of, Fooled}
use Rattle.promise.specs.Promise.{FewPoints, OthersTrue}
use Rattle.promise.proofs.Lists.{each_map, any_map, each_both, pick}
use Rattle.promise.proofs.Values.{false_unlike, unlike_few}
use Rattle.promise.proofs.Judgements.{Passed}
use Rattle.promise.proofs.Tests.{not_apart, apart, false_claim, tests_true}
use Rattle.promise.proofs.Boxes.{counts_of, within, JudgedBy, settled, accepted_at}

module _ {K : Type 0} {F : FieldModel K} (L : LawfulField F) (h v : ℕ) (ms : List Move) where
  -- of a sheet that passed, the test whether it claims falsely is the test whether its claim differs from the true count
  tested : (r : K) (cs : List K) (e : Entry K) (c : ℤ) → Passed L h v r cs e.question e.sheet c → claims_falsely F h v ms e ≡ ltb 0 (nat_abs (c -ℤ true_count F h v ms e.question))
  tested r cs e c p = ap₂ (λ f said. is_fit f && claim_differs said (true_count F h v ms e.question)) p.fit p.reads

  claim_true : (r : K) (cs : List K) (e : Entry K) (c : ℤ) → Passed L h v r cs e.question e.sheet c → ¬ FalseClaim F h v ms e → c ≡ true_count F h v ms e.question
  claim_true r cs e c p n = go (claims_falsely F h v ms e) refl
    where
      go : (b : Bool) → claims_falsely F h v ms e ≡ b → c ≡ true_count F h v ms e.question
      go true f = absurd (n (false_claim F h v ms e f))
      go false f = not_apart c (true_count F h v ms e.question) (sym (tested r cs e c p) ∙ f)

  claim_false : (r : K) (cs : List K) (e : Entry K) (c : ℤ) → Passed L h v r cs e.question e.sheet c → claims_falsely F h v ms e ≡ true → c ≢ true_count F h v ms e.question
  claim_false r cs e c p f = apart c (true_count F h v ms e.question) (sym (tested r cs e c p) ∙ f)

  -- a sheet that is accepted at a point, in terms of the counts
  record AcceptedAt (r : K) (e : Entry K) : Type 0 where
    allowed : grid_allowed h v ≡ true
    claim : ℤ
    passed : Passed L h v r (columns_at F h v (counts_of F h v ms) r) e.question e.sheet claim

  -- one that claims falsely besides
  abbrev FalselyAt : K → Entry K → Type 0
  FalselyAt r e = (claims_falsely F h v ms e ≡ true) × AcceptedAt r e

  -- the values of a sheet that was read
  values_of : Result (ℤ × List K) Refusal → List K
  values_of (Ok s) = s.1
  values_of (Err e) = []

  -- one sheet that claims falsely is accepted at no more points than its degree
  entry_few : (e : Entry K) → LawfulQuestion F e.question → claims_falsely F h v ms e ≡ true → (rs : List K) → Distinct rs → AllByRecursion (λ r. AcceptedAt r e) rs → length rs ≤ e.question.degree h
  unfolding values_of
  entry_few e Q f [] d a = omega arith
  entry_few e Q f (r ∷ rs) d a =
      let q = e.question in
      let fs = counts_of F h v ms in
      let c = a.0.claim in
      let p = a.0.passed in
      let vs = p.values in
      let fit : Fits q h v = record { grid = a.0.allowed; fit = p.fit } in
      let stated = (reads_sheets F L (terms_of q h v) e.sheet c vs).0 p.reads in
      let unlike = false_unlike L q Q h v fit fs (within F h v ms) c vs stated.least stated.greatest p.adds (claim_false r _ e c p f) in
      unlike_few L q Q h v fit fs vs stated.count unlike (r ∷ rs) d
      (each_map (λ s. AcceptedAt s e) (λ s. Agree F q h v vs s (columns_at F h v fs s)) (r ∷ rs)
      (λ s y. subst (λ ws. Agree F q h v ws s (columns_at F h v fs s)) (ap values_of (sym y.passed.reads ∙ p.reads)) y.passed.agrees) a)

  -- the points of several sheets are no more than the degrees of those that claim falsely
  entries_few : (es : List (Entry K)) → AllByRecursion (λ e. LawfulQuestion F e.question) es → (rs : List K) → Distinct rs → AllByRecursion (λ r. AnyByRecursion (FalselyAt r) es) rs → length rs ≤ false_degrees F h v ms es
  entries_few [] Q [] d a = omega arith
  entries_few [] Q (r ∷ rs) d a = absurd a.0
  entries_few (e ∷ es) Q rs d a =
      let s : Sorted (λ r. FalselyAt r e) (λ r. AnyByRecursion (FalselyAt r) es) rs = sort rs a in
      let here = at_most (claims_falsely F h v ms e) refl s.left (distinct_first s.split d) s.lefts in
      let others = entries_few es Q.1 s.right (distinct_second s.split d) s.rights in
      omega (arith, split_length s.split)
    where
      at_most : (b : Bool) → claims_falsely F h v ms e ≡ b → (rs : List K) → Distinct rs → AllByRecursion (λ r. FalselyAt r e) rs → length rs ≤ cond (claims_falsely F h v ms e) (e.question.degree h) 0
      at_most true f rs d a = rw f (entry_few e Q.0 f rs d (each_map _ _ rs (λ r z. z.1) a))
      at_most false f [] d a = rw f (omega arith)
      at_most false f (r ∷ rs) d a = absurd (true≢false (sym a.0.0 ∙ f))

  -- at a point where a run accepts a listed sheet that claims falsely, one of the list is accepted so
  fooled_entry : (es : List (Entry K)) (r : K) → Fooled F h v ms es r → AnyByRecursion (FalselyAt r) es
  fooled_entry es r k =
      let gs = judgings F h v ms k.judges.run in
      let found = pick _ _ gs k.accepts (each_both _ _ gs k.judges.on_list (settled L h v ms r k.judges.run).all) in
      go found.0 found.1.0 found.1.1 found.1.2 found.2.0 found.2.1
    where
      go : (g : Judging K × Judgement K) (c : ℤ) → g.1.answer ≡ Ok c → FalseClaim F h v ms (entry_of g.0) → AnyByRecursion (λ e. e ≡ entry_of g.0) es → JudgedBy L h v ms r g → AnyByRecursion (FalselyAt r) es
      go g c a f o j =
          any_map _ _ es
          (λ e s. (subst (λ w. claims_falsely F h v ms w ≡ true) (sym s) (tests_true F h v ms (entry_of g.0) f), subst (AcceptedAt r) (sym s) (record { allowed = j.holds.allowed; claim = c; passed = accepted_at L h v ms r g c j a })))
          o

module _ {K : Type 0} {F : FieldModel K} (L : LawfulField F) where
  pub few_points : FewPoints F
  few_points h v ms es Q rs d a = entries_few L h v ms es Q rs d (each_map _ _ rs (fooled_entry L h v ms es) a)

  pub others_true : OthersTrue F
  others_true h v ms es Q r judges =
      each_map _ _ (judgings F h v ms judges.run)
      (λ g j c a f. claim_true L h v ms r _ (entry_of g.0) c (accepted_at L h v ms r g c j a) f)
      (settled L h v ms r judges.run).all
