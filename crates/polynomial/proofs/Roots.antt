-- The roots of a polynomial: no more than its degree. Assumes nothing but the laws of the field.
use Rattle.std.proofs.Common.{◌≡◌, ℕ, zero, suc, ◌≤◌, ◌≢◌, List, [], ◌∷◌, length, sym, refl, ap, ◌∙◌, ap₂, arith}
use Rattle.field.specs.Field.{FieldModel, LawfulField}
use Rattle.std.specs.List.{AllByRecursion}
use Rattle.polynomial.specs.Polynomials.{sub, eval, Root, Nonzero, RootBound}
use Rattle.field.proofs.Solver.{sides, solve, mul-zero, zero-add}
use Rattle.field.proofs.Consequences.{factor_zero}

module _ {K : Type 0} {F : FieldModel K} (L : LawfulField F) where
  -- elements whose difference is zero are equal
  pub sub-zero : (x y : K) → sub F x y ≡ F.zero → x ≡ y
  sub-zero x y e =
      solve L.ring (x ∷ y ∷ []) {x = x} {y = F.add (sub F x y) y} (search sides depth 30) refl ∙ ap (λ w. F.add w y) e ∙ zero-add L.ring y

  -- the quotient of p by X − r
  pub quot : K → List K → List K
  quot r [] = []
  quot r (c ∷ []) = []
  quot r (c ∷ d ∷ cs) = eval F (d ∷ cs) r ∷ quot r (d ∷ cs)

  pub length-quot : (r : K) (p : List K) (n : ℕ) → length p ≤ suc n → length (quot r p) ≤ n
  unfolding quot
  length-quot r [] n h = omega arith
  length-quot r (c ∷ []) n h = omega arith
  length-quot r (c ∷ d ∷ cs) zero h = absurd (omega arith)
  length-quot r (c ∷ d ∷ cs) (suc n) h = let k = length-quot r (d ∷ cs) n (omega arith) in omega arith

  pub eval-quot : (r : K) (p : List K) (x : K) → eval F p x ≡ F.add (F.mul (sub F x r) (eval F (quot r p) x)) (eval F p r)
  unfolding quot
  eval-quot r [] x = solve L.ring (x ∷ r ∷ []) (search sides depth 30) refl
  eval-quot r (c ∷ []) x = solve L.ring (x ∷ r ∷ c ∷ []) (search sides depth 30) refl
  eval-quot r (c ∷ d ∷ cs) x =
      ap (λ w. F.add c (F.mul x w)) (eval-quot r (d ∷ cs) x)
      ∙ solve L.ring (c ∷ x ∷ r ∷ eval F (quot r (d ∷ cs)) x ∷ eval F (d ∷ cs) r ∷ []) (search sides depth 30) refl

  -- at another root than r the quotient is zero too
  root_quot : (r : K) (p : List K) → Root F p r → (s : K) → r ≢ s → Root F p s → Root F (quot r p) s
  root_quot r p e s h k =
      factor_zero L (sub F s r) (eval F (quot r p) s)
      (sym (L.ring.add-zero _) ∙ ap (F.add (F.mul (sub F s r) (eval F (quot r p) s))) (sym e) ∙ sym (eval-quot r p s) ∙ k)
      (λ z. h (sym (sub-zero s r z)))

  roots_quot : (r : K) (p : List K) → Root F p r → (rs : List K) → AllByRecursion (λ s. r ≢ s) rs → AllByRecursion (Root F p) rs → AllByRecursion (Root F (quot r p)) rs
  roots_quot r p e [] h k = tt
  roots_quot r p e (s ∷ rs) h k = (root_quot r p e s h.0 k.0, roots_quot r p e rs h.1 k.1)

  nonzero_quot : (r : K) (p : List K) → Root F p r → Nonzero F p → Nonzero F (quot r p)
  nonzero_quot r p e n = (n.0, λ z. n.1 (eval-quot r p n.0 ∙ ap₂ (λ u w. F.add (F.mul (sub F n.0 r) u) w) z e ∙ L.ring.add-zero _ ∙ mul-zero L.ring _))

  pub root_bound : RootBound F
  root_bound d p h n [] ds es = omega arith
  root_bound zero p h n (r ∷ rs) ds es = absurd (none (quot r p) (length-quot r p zero h) (nonzero_quot r p es.0 n))
    where
      none : (q : List K) → length q ≤ zero → Nonzero F q → ⊥
      none [] h n = n.1 refl
      none (c ∷ q) h n = omega arith
  root_bound (suc d) p h n (r ∷ rs) ds es =
      let k = root_bound d (quot r p) (length-quot r p (suc d) h) (nonzero_quot r p es.0 n) rs ds.1 (roots_quot r p es.0 rs ds.0 es.1) in
      omega arith
