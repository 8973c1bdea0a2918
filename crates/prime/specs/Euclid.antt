-- The extended Euclidean algorithm modulo a prime. Assumes nothing.
use Rattle.std.specs.Prelude.{◌≡◌, ℕ, zero, suc, ◌+◌, ◌-◌, ◌*◌, ◌/◌, ◌%◌, ◌<◌, ◌≢◌, refl}
use Rattle.std.proofs.Common.{sym, ap, ◌∙◌, subst, ⊎_elim, mod-lt, mod-eq_of_lt, not-suc-le-zero, arith}
use Rattle.std.proofs.Math.Nat.{mod_self, zero-mod, mod-add-mod, add-mod-mod, div-add-mod, add-mul-mod_self_left}
use Rattle.prime.specs.Primes.{Prime}
use Rattle.prime.specs.Residues.{euclid}
use Rattle.prime.specs.Remainders.{mod-mul-mod, cancel_mod}

-- r₀ and r₁ are t₀ and t₁ times x, and what divides both divides p and x
pub record Euclid (p x r₀ r₁ t₀ t₁ : ℕ) : Type 0 where
  pub first : (t₀ * x) % p ≡ r₀ % p
  pub second : (t₁ * x) % p ≡ r₁ % p
  pub common : (d : ℕ) → r₀ % d ≡ 0 → r₁ % d ≡ 0 → (p % d ≡ 0) × (x % d ≡ 0)

pub start : (p x : ℕ) → Euclid p x p x 0 1
start p x = record {
  first = ap (λ z. z % p) (omega arith) ∙ zero-mod p ∙ sym (mod_self p);
  second = ap (λ z. z % p) (omega arith);
  common = λ d a b. (a, b);
}

divides_sum : (q r s d : ℕ) → r % d ≡ 0 → s % d ≡ 0 → (r * q + s) % d ≡ 0
divides_sum q r s d hr hs =
    sym (add-mod-mod (r * q) s d)
    ∙ sym (mod-add-mod (r * q) d (s % d))
    ∙ ap (λ z. (z + s % d) % d) (sym (mod-mul-mod r q d) ∙ ap (λ z. (z * q) % d) hr ∙ ap (λ z. z % d) (omega arith) ∙ zero-mod d)
    ∙ ap (λ z. (0 + z) % d) hs
    ∙ zero-mod d

pub step : (p x r₀ r₁ t₀ t₁ t₂ : ℕ) → 0 < p → (t₂ + r₀ / r₁ * t₁) % p ≡ t₀ % p → Euclid p x r₀ r₁ t₀ t₁ → Euclid p x r₁ (r₀ % r₁) t₁ t₂
step p x r₀ r₁ t₀ t₁ t₂ h e inv = record {
  first = inv.second;
  second =
      cancel_mod (t₂ * x) (r₀ % r₁) (r₁ * (r₀ / r₁)) p h
      (
      sym (add-mod-mod (t₂ * x) (r₁ * (r₀ / r₁)) p)
      ∙ ap (λ z. (t₂ * x + z) % p) (sym product)
      ∙ add-mod-mod (t₂ * x) (t₁ * x * (r₀ / r₁)) p
      ∙ ap (λ z. z % p) grouped
      ∙ sym (mod-mul-mod (t₂ + r₀ / r₁ * t₁) x p)
      ∙ ap (λ z. (z * x) % p) e
      ∙ mod-mul-mod t₀ x p
      ∙ inv.first
      ∙ ap (λ z. z % p) whole
      );
  common = λ d a b. inv.common d (subst (λ (z : ℕ). z % d ≡ 0) (div-add-mod r₀ r₁) (divides_sum (r₀ / r₁) r₁ (r₀ % r₁) d a b)) a;
}
  where
    product : (t₁ * x * (r₀ / r₁)) % p ≡ (r₁ * (r₀ / r₁)) % p
    product = sym (mod-mul-mod (t₁ * x) (r₀ / r₁) p) ∙ ap (λ z. (z * (r₀ / r₁)) % p) inv.second ∙ mod-mul-mod r₁ (r₀ / r₁) p

    grouped : t₂ * x + t₁ * x * (r₀ / r₁) ≡ (t₂ + r₀ / r₁ * t₁) * x
    grouped = omega arith

    whole : r₀ ≡ r₀ % r₁ + r₁ * (r₀ / r₁)
    whole = omega (arith, div-add-mod r₀ r₁)

-- at the end r₀ is 1, so t₀ is the inverse
pub finish : (p x r₀ t₀ t₁ : ℕ) → Prime p → 0 < x → x < p → Euclid p x r₀ 0 t₀ t₁ → (t₀ * x) % p ≡ 1
finish p x r₀ t₀ t₁ prime lo hi inv =
    inv.first ∙ ap (λ z. z % p) one ∙ mod-eq_of_lt prime.0
  where
    both : (p % r₀ ≡ 0) × (x % r₀ ≡ 0)
    both = inv.common r₀ (mod_self r₀) (zero-mod r₀)

    not_p : r₀ ≢ p
    not_p e = let z : x % p ≡ 0 = subst (λ (d : ℕ). x % d ≡ 0) e both.1 in let y : x % p ≡ x = mod-eq_of_lt hi in omega arith

    one : r₀ ≡ 1
    one = ⊎_elim (λ e. e) (λ e. absurd (not_p e)) (prime.1 r₀ both.0)

-- what takes the place of t₁
next_is : (p q t₀ t₁ : ℕ) → 0 < p → ((t₀ + (p - (q * t₁) % p)) % p + q * t₁) % p ≡ t₀ % p
next_is p q t₀ t₁ h =
    let l : (q * t₁) % p < p = mod-lt (q * t₁) h in
    let e : t₀ + (p - (q * t₁) % p) + (q * t₁) % p ≡ t₀ + p * 1 = omega arith in
    mod-add-mod (t₀ + (p - (q * t₁) % p)) p (q * t₁)
    ∙ sym (add-mod-mod (t₀ + (p - (q * t₁) % p)) (q * t₁) p)
    ∙ ap (λ z. z % p) e
    ∙ add-mul-mod_self_left t₀ p 1

run : (p x : ℕ) → Prime p → 0 < x → x < p → (fuel r₀ r₁ t₀ t₁ : ℕ) → r₁ < fuel → Euclid p x r₀ r₁ t₀ t₁ → (euclid p fuel r₀ r₁ t₀ t₁ * x) % p ≡ 1
run p x prime lo hi zero r₀ r₁ t₀ t₁ f inv = absurd (not-suc-le-zero f)
run p x prime lo hi (suc fuel) r₀ zero t₀ t₁ f inv = finish p x r₀ t₀ t₁ prime lo hi inv
run p x prime lo hi (suc fuel) r₀ (suc k) t₀ t₁ f inv =
    let l : r₀ % suc k < suc k = mod-lt r₀ (omega arith) in
    let h : 0 < p = omega (arith, prime.0) in
    run p x prime lo hi fuel (suc k) (r₀ % suc k) t₁ _ (omega arith) (step p x r₀ (suc k) t₀ t₁ _ h (next_is p (r₀ / suc k) t₀ t₁ h) inv)

pub euclid_inverts : (p x : ℕ) → Prime p → 0 < x → x < p → (euclid p (suc x) p x 0 1 * x) % p ≡ 1
euclid_inverts p x prime lo hi = run p x prime lo hi (suc x) p x 0 1 (omega arith) (start p x)

-- one turn of the loop
pub euclid_more : (p fuel r₀ r₁ t₀ t₁ all : ℕ) → r₁ ≢ 0 → r₁ < fuel → euclid p fuel r₀ r₁ t₀ t₁ ≡ all → (f : ℕ) × (r₀ % r₁ < f) × (euclid p f r₁ (r₀ % r₁) t₁ ((t₀ + (p - (r₀ / r₁ * t₁) % p)) % p) ≡ all)
euclid_more p zero r₀ r₁ t₀ t₁ all n f e = absurd (not-suc-le-zero f)
euclid_more p (suc fuel) r₀ zero t₀ t₁ all n f e = absurd (n refl)
euclid_more p (suc fuel) r₀ (suc k) t₀ t₁ all n f e = let l : r₀ % suc k < suc k = mod-lt r₀ (omega arith) in (fuel, omega arith, e)

pub euclid_end : (p fuel r₀ t₀ t₁ all : ℕ) → euclid p fuel r₀ 0 t₀ t₁ ≡ all → t₀ ≡ all
euclid_end p zero r₀ t₀ t₁ all e = e
euclid_end p (suc fuel) r₀ t₀ t₁ all e = e
