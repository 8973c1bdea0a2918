-- The one pass over the values comes to the interpolating polynomial's value. Assumes nothing but the laws of the field.
use Rattle.std.proofs.Common.{◌≡◌, ℕ, zero, suc, ◌+◌, ◌<◌, ◌≤◌, ◌≢◌, ◌⊎◌, List, [], ◌∷◌, length, sym, refl, ap, ◌∙◌, ap₂, inl, inr, arith}
use Rattle.field.specs.Field.{FieldModel, LawfulField}
use Rattle.polynomial.specs.Polynomials.{sub}
use Rattle.polynomial.specs.Interpolation.{except, node, chi}
use Rattle.polynomial.specs.OnePass.{first_weight, next_weight, pass_from, OnePass}
use Rattle.field.proofs.Solver.{sides, solve, mul_left, zero-mul, zero-add, one-mul, neg-zero}
use Rattle.polynomial.proofs.Nodes.{node_add, sub_nonzero}
use Rattle.polynomial.proofs.Excepts.{eqb_cases, except_same, except_other}
use Rattle.polynomial.proofs.Lagrange.{mixed, eval_blend}

module _ {K : Type 0} (F : FieldModel K) where
  -- the product over all numbers below n but x
  abbrev pub over : (ℕ → K) → ℕ → ℕ → K
  over f n x = except F.mul F.one f n x

  -- the product of X − k over the k below n but x
  abbrev pub skip : ℕ → ℕ → K → K
  skip n x X = over (λ k. sub F X (node F k)) n x

  -- the product of 1 / (x − k) over the k below n but x
  abbrev pub weight : ℕ → ℕ → K
  weight n x = over (λ k. F.inv (sub F (node F x) (node F k))) n x

  -- the product of X − k over the k below n
  abbrev pub full : ℕ → K → K
  full zero X = F.one
  full (suc k) X = F.mul (full k X) (sub F X (node F k))

  -- the product of X − k over the m numbers k from j on
  abbrev pub span : ℕ → ℕ → K → K
  span j zero X = F.one
  span j (suc m) X = F.mul (sub F X (node F (j + m))) (span j m X)

module _ {K : Type 0} {F : FieldModel K} (L : LawfulField F) where
  same : (f : ℕ → K) (k x : ℕ) → k ≡ x → over F f (suc k) x ≡ over F f k x
  same = except_same F.mul F.one

  other : (f : ℕ → K) (k x : ℕ) → k ≢ x → over F f (suc k) x ≡ F.mul (f k) (over F f k x)
  other = except_other F.mul F.one

  over_times : (f g : ℕ → K) (n x : ℕ) → over F (λ k. F.mul (f k) (g k)) n x ≡ F.mul (over F f n x) (over F g n x)
  over_times f g zero x = sym (L.ring.mul-one F.one)
  over_times f g (suc n) x = go (eqb_cases n x) (over_times f g n x)
    where
      go : (n ≡ x) ⊎ (n ≢ x) → over F (λ k. F.mul (f k) (g k)) n x ≡ F.mul (over F f n x) (over F g n x) → over F (λ k. F.mul (f k) (g k)) (suc n) x ≡ F.mul (over F f (suc n) x) (over F g (suc n) x)
      go (inl e) r = same (λ k. F.mul (f k) (g k)) n x e ∙ r ∙ sym (ap₂ F.mul (same f n x e) (same g n x e))
      go (inr e) r =
          other (λ k. F.mul (f k) (g k)) n x e ∙ ap (F.mul (F.mul (f n) (g n))) r
          ∙ solve L.ring (f n ∷ g n ∷ over F f n x ∷ over F g n x ∷ []) (search sides depth 30) refl
          ∙ sym (ap₂ F.mul (other f n x e) (other g n x e))

  chi_parts : (n x : ℕ) (X : K) → chi F n x X ≡ F.mul (skip F n x X) (weight F n x)
  chi_parts n x X = over_times (λ k. sub F X (node F k)) (λ k. F.inv (sub F (node F x) (node F k))) n x

  skip_full : (n x : ℕ) (X : K) → n ≤ x → skip F n x X ≡ full F n X
  skip_full zero x X h = refl
  skip_full (suc n) x X h = other (λ k. sub F X (node F k)) n x (omega arith) ∙ ap (F.mul (sub F X (node F n))) (skip_full n x X (omega arith)) ∙ L.ring.mul_comm _ _

  skip_span : (j m : ℕ) (X : K) → skip F (suc (j + m)) j X ≡ F.mul (full F j X) (span F (suc j) m X)
  skip_span j zero X =
      let e : j + zero ≡ j = omega arith in
      same (λ k. sub F X (node F k)) (j + zero) j e ∙ ap (λ n. skip F n j X) e ∙ skip_full j j X (omega arith) ∙ sym (L.ring.mul-one (full F j X))
  skip_span j (suc m) X =
      let e : j + suc m ≡ suc (j + m) = omega arith in
      let e' : j + suc m ≡ suc j + m = omega arith in
      other (λ k. sub F X (node F k)) (j + suc m) j (omega arith)
      ∙ ap₂ (λ a n. F.mul (sub F X (node F a)) (skip F n j X)) e' e
      ∙ ap (F.mul (sub F X (node F (suc j + m)))) (skip_span j m X)
      ∙ mul_left L.ring (sub F X (node F (suc j + m))) (full F j X) (span F (suc j) m X)

  span_front : (j m : ℕ) (X : K) → span F j (suc m) X ≡ F.mul (sub F X (node F j)) (span F (suc j) m X)
  span_front j zero X = let e : j + zero ≡ j = omega arith in ap (λ n. F.mul (sub F X (node F n)) F.one) e
  span_front j (suc m) X =
      let e : j + suc m ≡ suc j + m = omega arith in
      ap₂ (λ n w. F.mul (sub F X (node F n)) w) e (span_front j m X)
      ∙ mul_left L.ring (sub F X (node F (suc j + m))) (sub F X (node F j)) (span F (suc j) m X)

  -- ---- the weights
  node_suc : (n : ℕ) → n ≤ 65536 → node F (suc n) ≡ F.add (node F n) (node F 1)
  node_suc n h = let e : suc n ≡ n + 1 = omega arith in ap (node F) e ∙ node_add L n 1 (omega arith)

  sub_suc : (m n : ℕ) → m ≤ 65536 → n ≤ 65536 → sub F (node F (suc m)) (node F (suc n)) ≡ sub F (node F m) (node F n)
  sub_suc m n hm hn = ap₂ (sub F) (node_suc m hm) (node_suc n hn) ∙ solve L.ring (node F m ∷ node F n ∷ node F 1 ∷ []) (search sides depth 30) refl

  sub_first : (x : K) → sub F x (node F 0) ≡ x
  sub_first x = ap (sub F x) L.images.of_zero ∙ ap (F.add x) (neg-zero L.ring) ∙ L.ring.add-zero x

  weight_shift : (d j : ℕ) → d ≤ 65536 → j ≤ 65536 → weight F (suc d) (suc j) ≡ F.mul (F.inv (node F (suc j))) (weight F d j)
  weight_shift zero j h k = other (λ n. F.inv (sub F (node F (suc j)) (node F n))) 0 (suc j) (omega arith) ∙ ap (λ w. F.mul (F.inv w) F.one) (sub_first (node F (suc j)))
  weight_shift (suc d) j h k = go (eqb_cases d j) (weight_shift d j (omega arith) k)
    where
      go : (d ≡ j) ⊎ (d ≢ j) → weight F (suc d) (suc j) ≡ F.mul (F.inv (node F (suc j))) (weight F d j) → weight F (suc (suc d)) (suc j) ≡ F.mul (F.inv (node F (suc j))) (weight F (suc d) j)
      go (inl e) r = same _ (suc d) (suc j) (ap suc e) ∙ r ∙ ap (F.mul (F.inv (node F (suc j)))) (sym (same _ d j e))
      go (inr e) r =
          other _ (suc d) (suc j) (omega arith)
          ∙ ap₂ (λ a w. F.mul (F.inv a) w) (sub_suc j d k (omega arith)) r
          ∙ solve L.ring (F.inv (sub F (node F j) (node F d)) ∷ F.inv (node F (suc j)) ∷ weight F d j ∷ []) (search sides depth 30) refl
          ∙ ap (F.mul (F.inv (node F (suc j)))) (sym (other _ d j e))

  weight_step : (d j : ℕ) → d ≤ 65536 → j < d → weight F (suc d) (suc j) ≡ next_weight F d j (weight F (suc d) j)
  weight_step d j h k =
      weight_shift d j h (omega arith)
      ∙ sym (one-mul L.ring _)
      ∙ ap (λ w. F.mul w (F.mul t W)) (sym (L.inverses.mul-inv s (sub_nonzero L j d (omega arith) h (omega arith))))
      ∙ solve L.ring (s ∷ F.inv s ∷ t ∷ W ∷ []) {y = F.mul (F.mul (F.mul (F.inv s) W) s) t} (search sides depth 30) refl
      ∙ ap (λ w. F.mul (F.mul w s) t) (sym (other _ d j (omega arith)))
    where
      s : K
      s = sub F (node F j) (node F d)

      t : K
      t = F.inv (node F (suc j))

      W : K
      W = weight F d j

  first_weight_lem : (d : ℕ) → first_weight F d ≡ weight F (suc d) 0
  first_weight_lem zero = refl
  first_weight_lem (suc d) = ap (F.mul (F.inv (sub F (node F 0) (node F (suc d))))) (first_weight_lem d) ∙ sym (other _ (suc d) 0 (omega arith))

  -- ---- the pass
  pass_sound : (d : ℕ) (X : K) (vs : List K) (j : ℕ) (w l acc : K) → suc d ≡ j + length vs → d ≤ 65536 → l ≡ full F j X → (j ≤ d → w ≡ weight F (suc d) j) → pass_from F d X vs j w l acc ≡ F.add (F.mul acc (span F j (length vs) X)) (mixed L (suc d) j vs X)
  pass_sound d X [] j w l acc e h hl hw = solve L.ring (acc ∷ []) (search sides depth 30) refl
  pass_sound d X (v ∷ vs) j w l acc e h hl hw =
      pass_sound d X vs (suc j) (next_weight F d j w) (F.mul l s)
      (F.add (F.mul acc s) (F.mul (F.mul v w) l)) (omega arith) h (ap (λ a. F.mul a s) hl)
      (λ b. ap (next_weight F d j) (hw (omega arith)) ∙ sym (weight_step d j h b))
      ∙ ap₂ (λ a b. F.add (F.mul (F.add (F.mul acc s) (F.mul (F.mul v a) b)) T) M) (hw (omega arith)) hl
      ∙ solve L.ring (acc ∷ s ∷ v ∷ weight F (suc d) j ∷ full F j X ∷ T ∷ M ∷ []) {y = F.add (F.mul acc (F.mul s T)) (F.add (F.mul v (F.mul (F.mul (full F j X) T) (weight F (suc d) j))) M)} (search sides depth 30) refl
      ∙ ap₂ (λ a b. F.add (F.mul acc a) (F.add (F.mul v b) M)) (sym (span_front j (length vs) X)) (sym chi_here)
    where
      s : K
      s = sub F X (node F j)

      T : K
      T = span F (suc j) (length vs) X

      M : K
      M = mixed L (suc d) (suc j) vs X

      chi_here : chi F (suc d) j X ≡ F.mul (F.mul (full F j X) T) (weight F (suc d) j)
      chi_here =
          let q : d ≡ j + length vs = omega arith in
          chi_parts (suc d) j X ∙ ap (λ a. F.mul a (weight F (suc d) j)) (ap (λ n. skip F (suc n) j X) q ∙ skip_span j (length vs) X)

  pub one_pass_lem : OnePass F
  one_pass_lem v vs X h =
      pass_sound (length vs) X (v ∷ vs) 0 (first_weight F (length vs)) F.one F.zero (omega arith) h refl (λ b. first_weight_lem (length vs))
      ∙ ap (λ a. F.add a (mixed L (suc (length vs)) 0 (v ∷ vs) X)) (zero-mul L.ring _) ∙ zero-add L.ring _
      ∙ sym (eval_blend L (suc (length vs)) 0 (v ∷ vs) X)
