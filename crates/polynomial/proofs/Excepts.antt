-- Products over all numbers below n but one. Assumes nothing.
use Rattle.std.proofs.Common.{◌≡◌, ℕ, zero, suc, ◌<◌, Bool, true, false, cond, eqb, ◌≢◌, ◌⊎◌, sym, refl, ap, ◌∙◌, ap₂, inl, inr, arith, eq-eqb, ne_eqb, eqb-true}
use borrow.Author.Tests.{eqb-false}
use Rattle.polynomial.specs.Interpolation.{except}

-- two numbers are equal or not
pub eqb_cases : (k x : ℕ) → (k ≡ x) ⊎ (k ≢ x)
eqb_cases k x = go (eqb k x) refl
  where
    go : (b : Bool) → eqb k x ≡ b → (k ≡ x) ⊎ (k ≢ x)
    go true e = inl (eqb-true k x e)
    go false e = inr (eqb-false k x e)

module _ {A : Type 0} (op : A → A → A) (unit : A) where
  -- no factor at x itself
  pub except_same : (f : ℕ → A) (k x : ℕ) → k ≡ x → except op unit f (suc k) x ≡ except op unit f k x
  except_same f k x e = ap (λ b. cond b (except op unit f k x) (op (f k) (except op unit f k x))) (eq-eqb k x e)

  -- one factor more
  pub except_other : (f : ℕ → A) (k x : ℕ) → k ≢ x → except op unit f (suc k) x ≡ op (f k) (except op unit f k x)
  except_other f k x e = ap (λ b. cond b (except op unit f k x) (op (f k) (except op unit f k x))) (ne_eqb k x e)

  -- factors that agree
  pub except_cong : (f g : ℕ → A) (n x : ℕ) → ((k : ℕ) → k < n → k ≢ x → f k ≡ g k) → except op unit f n x ≡ except op unit g n x
  except_cong f g zero x h = refl
  except_cong f g (suc n) x h = go (eqb_cases n x) (except_cong f g n x (λ k b d. h k (omega arith) d))
    where
      go : (n ≡ x) ⊎ (n ≢ x) → except op unit f n x ≡ except op unit g n x → except op unit f (suc n) x ≡ except op unit g (suc n) x
      go (inl e) r = except_same f n x e ∙ r ∙ sym (except_same g n x e)
      go (inr e) r = except_other f n x e ∙ ap₂ op (h n (omega arith) e) r ∙ sym (except_other g n x e)

-- a map that carries one product to the other
pub except_map : {A B : Type 0} (op : A → A → A) (unit : A) (op' : B → B → B) (unit' : B) (m : A → B) → m unit ≡ unit' → ((a b : A) → m (op a b) ≡ op' (m a) (m b)) → (f : ℕ → A) (n x : ℕ) → m (except op unit f n x) ≡ except op' unit' (λ k. m (f k)) n x
except_map op unit op' unit' m u h f zero x = u
except_map op unit op' unit' m u h f (suc n) x = go (eqb_cases n x) (except_map op unit op' unit' m u h f n x)
  where
    go : (n ≡ x) ⊎ (n ≢ x) → m (except op unit f n x) ≡ except op' unit' (λ k. m (f k)) n x → m (except op unit f (suc n) x) ≡ except op' unit' (λ k. m (f k)) (suc n) x
    go (inl e) r = ap m (except_same op unit f n x e) ∙ r ∙ sym (except_same op' unit' (λ k. m (f k)) n x e)
    go (inr e) r = ap m (except_other op unit f n x e) ∙ h (f n) (except op unit f n x) ∙ ap (op' (m (f n))) r ∙ sym (except_other op' unit' (λ k. m (f k)) n x e)
