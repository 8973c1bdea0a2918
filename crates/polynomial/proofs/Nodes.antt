-- The nodes 0, 1, 2, .. differ from one another. Assumes nothing but the laws of the field.
use Rattle.std.proofs.Common.{◌≡◌, ℕ, zero, suc, ◌+◌, ◌-◌, ◌<◌, ◌≤◌, ◌≢◌, ◌⊎◌, List, [], ◌∷◌, ◌++◌, length, pos, sym, refl, ap, ◌∙◌, subst, inl, inr, arith}
use native.Mathlib.Decide.{dec_lt}
use Rattle.field.specs.Field.{FieldModel, LawfulField}
use Rattle.field.proofs.Solver.{sides, solve, add_cancel}
use Rattle.field.proofs.Consequences.{image_nonzero, inv-neg}
use Rattle.polynomial.specs.Lists.{Distinct}
use Rattle.std.specs.List.{AllByRecursion}
use Rattle.polynomial.specs.Polynomials.{sub}
use Rattle.polynomial.specs.Interpolation.{except, node}
use Rattle.polynomial.proofs.Roots.{sub-zero}
use Rattle.polynomial.proofs.Excepts.{eqb_cases, except_same, except_other}

module _ {K : Type 0} {F : FieldModel K} (L : LawfulField F) where
  pub node_add : (m n : ℕ) → m + n ≤ 2147483647 → node F (m + n) ≡ F.add (node F m) (node F n)
  node_add m n h = L.images.of_add (pos m) (pos n) (omega arith) (omega arith) h

  pub node_nonzero : (n : ℕ) → 1 ≤ n → n ≤ 65536 → node F n ≢ F.zero
  node_nonzero n h k = image_nonzero L n h (omega (arith, L.bounds.characteristic_least))

  below_apart : (m n : ℕ) → m < n → n ≤ 65536 → node F m ≢ node F n
  below_apart m n h k z =
      let e : n ≡ m + (n - m) = omega arith in
      node_nonzero (n - m) (omega arith) (omega arith)
      (sym (add_cancel L.ring (node F m) F.zero (node F (n - m)) (L.ring.add-zero (node F m) ∙ z ∙ ap (node F) e ∙ node_add m (n - m) (omega arith))))

  pub nodes_differ : (m n : ℕ) → m ≤ 65536 → n ≤ 65536 → m ≢ n → node F m ≢ node F n
  nodes_differ m n hm hn d z = go (dec_lt m n)
    where
      go : Dec (m < n) → ⊥
      go (yes h) = below_apart m n h hn z
      go (no h) = below_apart n m (omega arith) hm (sym z)

  pub sub_nonzero : (m n : ℕ) → m ≤ 65536 → n ≤ 65536 → m ≢ n → sub F (node F m) (node F n) ≢ F.zero
  sub_nonzero m n hm hn d z = nodes_differ m n hm hn d (sub-zero L (node F m) (node F n) z)

  -- the difference of two nodes is the node of the difference
  pub node_less : (m n : ℕ) → n ≤ m → m ≤ 65536 → node F (m - n) ≡ sub F (node F m) (node F n)
  node_less m n h k =
      let e : n + (m - n) ≡ m = omega arith in
      solve L.ring (node F n ∷ node F (m - n) ∷ []) {y = sub F (F.add (node F n) (node F (m - n))) (node F n)} (search sides depth 30) refl
      ∙ ap (λ w. sub F w (node F n)) (sym (node_add n (m - n) (omega arith)) ∙ ap (node F) e)

  -- one over m − n, where m is less
  pub inv-less : (m n : ℕ) → m < n → n ≤ 65536 → F.inv (sub F (node F m) (node F n)) ≡ F.neg (F.inv (node F (n - m)))
  inv-less m n h k =
      ap F.inv
      (solve L.ring (node F m ∷ node F n ∷ []) {y = F.neg (sub F (node F n) (node F m))} (search sides depth 30) refl
      ∙ ap F.neg (sym (node_less n m (omega arith) k)))
      ∙ inv-neg L (node F (n - m)) (node_nonzero (n - m) (omega arith) (omega arith))

  -- the nodes below n
  pub nodes : ℕ → List K
  nodes zero = []
  nodes (suc k) = node F k ∷ nodes k

  pub length_nodes : (n : ℕ) → length (nodes n) ≡ n
  unfolding nodes
  length_nodes zero = refl
  length_nodes (suc k) = ap suc (length_nodes k)

  pub each_node : (P : K → Type 0) (n : ℕ) → ((k : ℕ) → k < n → P (node F k)) → AllByRecursion P (nodes n)
  unfolding nodes
  each_node P zero h = tt
  each_node P (suc n) h = (h n (omega arith), each_node P n (λ k b. h k (omega arith)))

  pub distinct_nodes : (n : ℕ) → n ≤ 65537 → Distinct (nodes n)
  unfolding nodes
  distinct_nodes zero h = tt
  distinct_nodes (suc n) h =
      (each_node (λ y. node F n ≢ y) n (λ k b. nodes_differ n k (omega arith) (omega arith) (omega arith)), distinct_nodes n (omega arith))

  -- the nodes below n but x
  pub others : ℕ → ℕ → List K
  others n x = except ◌++◌ [] (λ k. node F k ∷ []) n x

  pub length_others : (n x : ℕ) → n ≤ suc (length (others n x))
  unfolding others
  length_others zero x = omega arith
  length_others (suc n) x = go (eqb_cases n x) (length_others n x) (beyond n x)
    where
      go : (n ≡ x) ⊎ (n ≢ x) → n ≤ suc (length (others n x)) → (n ≤ x → length (others n x) ≡ n) → suc n ≤ suc (length (others (suc n) x))
      go (inl e) r b = omega (arith, ap length (except_same ◌++◌ [] (λ k. node F k ∷ []) n x e), b (omega arith))
      go (inr e) r b = omega (arith, ap length (except_other ◌++◌ [] (λ k. node F k ∷ []) n x e))

      beyond : (n x : ℕ) → n ≤ x → length (others n x) ≡ n
      beyond zero x h = refl
      beyond (suc n) x h = ap length (except_other ◌++◌ [] (λ k. node F k ∷ []) n x (omega arith)) ∙ ap suc (beyond n x (omega arith))

  pub each_other : (P : K → Type 0) (n x : ℕ) → ((k : ℕ) → k < n → k ≢ x → P (node F k)) → AllByRecursion P (others n x)
  unfolding others
  each_other P zero x h = tt
  each_other P (suc n) x h = go (eqb_cases n x) (each_other P n x (λ k b d. h k (omega arith) d))
    where
      go : (n ≡ x) ⊎ (n ≢ x) → AllByRecursion P (others n x) → AllByRecursion P (others (suc n) x)
      go (inl e) r = subst (AllByRecursion P) (sym (except_same ◌++◌ [] (λ k. node F k ∷ []) n x e)) r
      go (inr e) r = subst (AllByRecursion P) (sym (except_other ◌++◌ [] (λ k. node F k ∷ []) n x e)) (h n (omega arith) e, r)

  pub distinct_others : (n x : ℕ) → n ≤ 65537 → Distinct (others n x)
  unfolding others
  distinct_others zero x h = tt
  distinct_others (suc n) x h = go (eqb_cases n x) (distinct_others n x (omega arith))
    where
      go : (n ≡ x) ⊎ (n ≢ x) → Distinct (others n x) → Distinct (others (suc n) x)
      go (inl e) r = subst Distinct (sym (except_same ◌++◌ [] (λ k. node F k ∷ []) n x e)) r
      go (inr e) r =
          subst Distinct (sym (except_other ◌++◌ [] (λ k. node F k ∷ []) n x e))
          (each_other (λ y. node F n ≢ y) n x (λ k b d. nodes_differ n k (omega arith) (omega arith) (omega arith)), r)

-- one over a difference of nodes, either way round
pub ruleset differences = (node_less, inv-less)
