-- The polynomials of Lagrange, and the one that takes given values at the nodes. Assumes nothing but the laws of the field.
use Rattle.std.proofs.Common.{◌≡◌, ℕ, zero, suc, ◌+◌, ◌<◌, ◌≤◌, ◌≢◌, ◌⊎◌, List, [], ◌∷◌, length, get_or, sym, refl, ap, ◌∙◌, ap₂, inl, inr, arith}
use Rattle.field.specs.Field.{FieldModel, LawfulField}
use Rattle.polynomial.specs.Polynomials.{sub, eval, scaled, poly_add, poly_mul, Root, Nonzero}
use Rattle.polynomial.specs.Interpolation.{except, node, factor, chi, linear, basis, blend, interpolant, TakesValues, LagrangeBasis, Interpolation}
use Rattle.field.proofs.Solver.{sides, solve, mul-zero, zero-mul, zero-add}
use Rattle.field.proofs.Sameness.{decided}
use Rattle.field.proofs.Consequences.{one_not_zero}
use Rattle.polynomial.proofs.Evals.{eval_scaled, eval-poly_add, eval-poly_mul, length_scaled, length-poly_add, length-poly_mul}
use Rattle.polynomial.proofs.Roots.{root_bound, sub-zero}
use Rattle.polynomial.proofs.Nodes.{sub_nonzero, nodes, length_nodes, each_node, distinct_nodes, others, length_others, each_other, distinct_others}
use Rattle.polynomial.proofs.Excepts.{eqb_cases, except_same, except_other, except_cong, except_map}

module _ {K : Type 0} {F : FieldModel K} (L : LawfulField F) where
  -- ---- products over all numbers but one
  -- factors that are one
  pub units : (f : ℕ → K) (n x : ℕ) → ((k : ℕ) → k < n → k ≢ x → f k ≡ F.one) → except F.mul F.one f n x ≡ F.one
  units f zero x h = refl
  units f (suc n) x h = go (eqb_cases n x) (units f n x (λ k b d. h k (omega arith) d))
    where
      go : (n ≡ x) ⊎ (n ≢ x) → except F.mul F.one f n x ≡ F.one → except F.mul F.one f (suc n) x ≡ F.one
      go (inl e) r = except_same F.mul F.one f n x e ∙ r
      go (inr e) r = except_other F.mul F.one f n x e ∙ ap₂ F.mul (h n (omega arith) e) r ∙ L.ring.mul-one F.one

  -- a factor that is zero
  pub vanishes : (f : ℕ → K) (n x y : ℕ) → y < n → y ≢ x → f y ≡ F.zero → except F.mul F.one f n x ≡ F.zero
  vanishes f zero x y h d z = absurd (omega arith)
  vanishes f (suc n) x y h d z = go (eqb_cases n x) (eqb_cases n y) (vanishes f n x y)
    where
      go : (n ≡ x) ⊎ (n ≢ x) → (n ≡ y) ⊎ (n ≢ y) → (y < n → y ≢ x → f y ≡ F.zero → except F.mul F.one f n x ≡ F.zero) → except F.mul F.one f (suc n) x ≡ F.zero
      go (inl e) (inl e') r = absurd (d (sym e' ∙ e))
      go (inl e) (inr e') r = except_same F.mul F.one f n x e ∙ r (omega arith) d z
      go (inr e) (inl e') r = except_other F.mul F.one f n x e ∙ ap (λ w. F.mul w (except F.mul F.one f n x)) (ap f e' ∙ z) ∙ zero-mul L.ring _
      go (inr e) (inr e') r = except_other F.mul F.one f n x e ∙ ap (F.mul (f n)) (r (omega arith) d z) ∙ mul-zero L.ring _

  -- ---- the basis
  -- also where x is not below h
  length_any : (h x : ℕ) → length (basis F h x) ≤ suc h
  length_any zero x = omega arith
  length_any (suc n) x = go (eqb_cases n x) (length_any n x)
    where
      go : (n ≡ x) ⊎ (n ≢ x) → length (basis F n x) ≤ suc n → length (basis F (suc n) x) ≤ suc (suc n)
      go (inl e) r = omega (arith, ap length (except_same (poly_mul F) (F.one ∷ []) (linear F x) n x e))
      go (inr e) r = omega (arith, ap length (except_other (poly_mul F) (F.one ∷ []) (linear F x) n x e), length-poly_mul L (linear F x n) (basis F n x) 1 n (omega arith) r)

  length-basis : (h x : ℕ) → x < h → length (basis F h x) ≤ h
  length-basis zero x b = absurd (omega arith)
  length-basis (suc n) x b = go n (eqb_cases n x) (length-basis n x) b
    where
      go : (n : ℕ) → (n ≡ x) ⊎ (n ≢ x) → (x < n → length (basis F n x) ≤ n) → x < suc n → length (basis F (suc n) x) ≤ suc n
      go n (inl e) r b = omega (arith, ap length (except_same (poly_mul F) (F.one ∷ []) (linear F x) n x e), length_any n x)
      go zero (inr e) r b = absurd (omega arith)
      go (suc n) (inr e) r b = omega (arith, ap length (except_other (poly_mul F) (F.one ∷ []) (linear F x) (suc n) x e), length-poly_mul L (linear F x (suc n)) (basis F (suc n) x) 1 n (omega arith) (r (omega arith)))

  eval_linear : (x k : ℕ) (X : K) → eval F (linear F x k) X ≡ factor F x X k
  eval_linear x k X = solve L.ring (node F k ∷ F.inv (sub F (node F x) (node F k)) ∷ X ∷ []) (search sides depth 30) refl

  pub eval-basis : (h x : ℕ) (X : K) → eval F (basis F h x) X ≡ chi F h x X
  eval-basis h x X =
      except_map (poly_mul F) (F.one ∷ []) F.mul F.one (λ p. eval F p X) (solve L.ring (X ∷ []) (search sides depth 30) refl) (λ a b. eval-poly_mul L a b X) (linear F x) h x
      ∙ except_cong F.mul F.one (λ k. eval F (linear F x k) X) (factor F x X) h x (λ k b d. eval_linear x k X)

  pub chi_here : (h x : ℕ) → h ≤ 65537 → x ≤ 65536 → chi F h x (node F x) ≡ F.one
  chi_here h x b c = units _ h x (λ k e d. L.inverses.mul-inv _ (sub_nonzero L x k c (omega arith) (λ z. d (sym z))))

  pub chi_elsewhere : (h x y : ℕ) → y < h → y ≢ x → chi F h x (node F y) ≡ F.zero
  chi_elsewhere h x y b d = vanishes _ h x y b d (ap (λ w. F.mul w (F.inv (sub F (node F x) (node F y)))) (L.ring.add-neg (node F y)) ∙ zero-mul L.ring _)

  -- with fewer coefficients χ_x would have more roots than its degree
  no_shorter : (h x : ℕ) → h ≤ 65537 → x < h → (p : List K) → ((X : K) → eval F p X ≡ chi F h x X) → h ≤ length p
  no_shorter h x b c [] e = absurd (one_not_zero L (sym (chi_here h x b (omega arith)) ∙ sym (e (node F x))))
  no_shorter h x b c (a ∷ p) e =
      omega (arith, length_others L h x, root_bound L (length p) (a ∷ p) (omega arith) nonzero (others L h x) (distinct_others L h x b) (each_other L (Root F (a ∷ p)) h x roots))
    where
      nonzero : Nonzero F (a ∷ p)
      nonzero = (node F x, λ z. one_not_zero L (sym (chi_here h x b (omega arith)) ∙ sym (e (node F x)) ∙ z))

      roots : (k : ℕ) → k < h → k ≢ x → Root F (a ∷ p) (node F k)
      roots k d n = e (node F k) ∙ chi_elsewhere h x k d n

  pub lagrange_basis : LagrangeBasis F
  lagrange_basis h x b c = record {
    fits = length-basis h x c;
    least = no_shorter h x b c;
    value = eval-basis h x;
    here = chi_here h x b (omega arith);
    elsewhere = λ y e d. chi_elsewhere h x y e d;
  }

  -- ---- the interpolating polynomial
  -- the sum of v χ_x(X) over the values v, the first of them at x = j
  abbrev pub mixed : ℕ → ℕ → List K → K → K
  mixed h j [] X = F.zero
  mixed h j (v ∷ vs) X = F.add (F.mul v (chi F h j X)) (mixed h (suc j) vs X)

  pub eval_blend : (h j : ℕ) (vs : List K) (X : K) → eval F (blend F h j vs) X ≡ mixed h j vs X
  eval_blend h j [] X = refl
  eval_blend h j (v ∷ vs) X =
      eval-poly_add L (scaled F v (basis F h j)) (blend F h (suc j) vs) X
      ∙ ap₂ F.add (eval_scaled L v (basis F h j) X ∙ ap (F.mul v) (eval-basis h j X)) (eval_blend h (suc j) vs X)

  mixed_before : (h j : ℕ) (vs : List K) (y : ℕ) → y < j → y < h → mixed h j vs (node F y) ≡ F.zero
  mixed_before h j [] y b c = refl
  mixed_before h j (v ∷ vs) y b c =
      ap₂ (λ u w. F.add (F.mul v u) w) (chi_elsewhere h j y c (omega arith)) (mixed_before h (suc j) vs y (omega arith) c)
      ∙ L.ring.add-zero _ ∙ mul-zero L.ring v

  mixed_at : (h j : ℕ) (vs : List K) (i y : ℕ) → h ≤ 65537 → y ≡ j + i → y < h → mixed h j vs (node F y) ≡ get_or vs i F.zero
  mixed_at h j [] i y b e c = refl
  mixed_at h j (v ∷ vs) zero y b e c =
      let s : j ≡ y = omega arith in
      ap₂ (λ u w. F.add (F.mul v u) w) (ap (λ n. chi F h n (node F y)) s ∙ chi_here h y b (omega arith)) (mixed_before h (suc j) vs y (omega arith) c)
      ∙ L.ring.add-zero _ ∙ L.ring.mul-one v
  mixed_at h j (v ∷ vs) (suc i) y b e c =
      ap₂ (λ u w. F.add (F.mul v u) w) (chi_elsewhere h j y c (omega arith)) (mixed_at h (suc j) vs i y b (omega arith) c)
      ∙ ap (λ w. F.add w (get_or vs i F.zero)) (mul-zero L.ring v) ∙ zero-add L.ring _

  length_blend : (h j : ℕ) (vs : List K) → j + length vs ≤ h → length (blend F h j vs) ≤ h
  length_blend h j [] b = omega arith
  length_blend h j (v ∷ vs) b =
      length-poly_add L (scaled F v (basis F h j)) (blend F h (suc j) vs) h
      (omega (arith, length_scaled L v (basis F h j), length-basis h j (omega arith))) (length_blend h (suc j) vs (omega arith))

  -- two polynomials of h coefficients at most that agree at the nodes below h agree
  pub agree : (h : ℕ) (p q : List K) → h ≤ 65537 → length p ≤ h → length q ≤ h → ((k : ℕ) → k < h → eval F p (node F k) ≡ eval F q (node F k)) → (X : K) → eval F p X ≡ eval F q X
  agree h p q b hp hq e X = sub-zero L (eval F p X) (eval F q X) (sym (difference X) ∙ everywhere)
    where
      r : List K
      r = poly_add F p (scaled F (F.neg F.one) q)

      difference : (Y : K) → eval F r Y ≡ sub F (eval F p Y) (eval F q Y)
      difference Y =
          eval-poly_add L p (scaled F (F.neg F.one) q) Y ∙ ap (F.add (eval F p Y)) (eval_scaled L (F.neg F.one) q Y)
          ∙ solve L.ring (eval F p Y ∷ eval F q Y ∷ []) (search sides depth 30) refl

      short : length r ≤ h
      short = length-poly_add L p (scaled F (F.neg F.one) q) h hp (omega (arith, length_scaled L (F.neg F.one) q))

      roots : (k : ℕ) → k < h → Root F r (node F k)
      roots k c = difference (node F k) ∙ ap (λ w. F.add (eval F p (node F k)) (F.neg w)) (sym (e k c)) ∙ L.ring.add-neg _

      too_many : (n : ℕ) (s : List K) → length s ≤ n → n ≤ 65537 → ((k : ℕ) → k < n → Root F s (node F k)) → (eval F s X ≢ F.zero) → ⊥
      too_many zero [] c d z x = x refl
      too_many zero (a ∷ s) c d z x = omega arith
      too_many (suc n) s c d z x =
          let m = root_bound L n s c (X, x) (nodes L (suc n)) (distinct_nodes L (suc n) d) (each_node L (Root F s) (suc n) z) in
          omega (arith, length_nodes L (suc n))

      everywhere : eval F r X ≡ F.zero
      everywhere = elim (decided L.parts (eval F r X) F.zero) [ inl s ↦ s.0 | inr s ↦ absurd (too_many h r short b roots s.0) ]

  pub interpolation : Interpolation F
  interpolation vs b = record {
    fits = length_blend (length vs) 0 vs (omega arith);
    takes = takes;
    only = λ q c t. agree (length vs) q (interpolant F vs) b c (length_blend (length vs) 0 vs (omega arith)) (λ k d. t k d ∙ sym (takes k d));
  }
    where
      takes : TakesValues F (interpolant F vs) vs
      takes k c = eval_blend (length vs) 0 vs (node F k) ∙ mixed_at (length vs) 0 vs k k b (omega arith) c
