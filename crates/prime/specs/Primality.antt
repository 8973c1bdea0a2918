-- Primality by trial division, computed. Assumes nothing.
use Rattle.std.specs.Prelude.{◌≡◌, ℕ, zero, suc, ◌+◌, ◌-◌, ◌*◌, ◌/◌, ◌%◌, ◌<◌, ◌≤◌, Bool, true, T, ◌≢◌, ◌⊎◌, ◌==◌, refl}
use Rattle.std.proofs.Common.{sym, ap, ◌∙◌, subst, inl, inr, mul-le-mul, arith, lit<}
use Rattle.std.proofs.Math.Nat.{div-add-mod, mul-mod_left}
use Rattle.prime.specs.Primes.{Prime}
use Rattle.prime.specs.Nowhere.{nowhere, nowhere_below}

-- d + 2 divides p
abbrev divides : ℕ → ℕ → Bool
divides p d = p % (d + 2) == 0

-- no divisor from 2 to n + 1, where p is below (n + 2) squared
pub prime_by_trial : (p n : ℕ) → 1 < p → p < (n + 2) * (n + 2) → T (nowhere (divides p) n true) → Prime p
prime_by_trial p n lo hi t = (lo, λ d e. sort d e (p / d) (whole d e))
  where
    whole : (d : ℕ) → p % d ≡ 0 → d * (p / d) ≡ p
    whole d e = omega (arith, div-add-mod p d)

    none : (d : ℕ) → 2 ≤ d → d < n + 2 → p % d ≢ 0
    none d a b e = nowhere_below (divides p) n true t (d - 2) (omega arith) (subst (λ (z : ℕ). T (z == 0)) (sym e ∙ ap (λ z. p % z) (omega arith)) tt)

    divisor : (d q : ℕ) → d * q ≡ p → p % q ≡ 0
    divisor d q e = ap (λ z. z % q) (sym e) ∙ mul-mod_left d q

    far : (d q : ℕ) → d * q ≡ p → n + 2 ≤ d → n + 2 ≤ q → ⊥
    far d q e a b = let h : (n + 2) * (n + 2) ≤ d * q = mul-le-mul a b in omega arith

    sort : (d : ℕ) → p % d ≡ 0 → (q : ℕ) → d * q ≡ p → (d ≡ 1) ⊎ (d ≡ p)
    sort zero e q w = absurd (let z : 0 * q ≡ 0 = omega arith in omega arith)
    sort (suc zero) e q w = inl refl
    sort (suc (suc d)) e zero w = absurd (omega arith)
    sort (suc (suc d)) e (suc zero) w = inr (omega arith)
    sort (suc (suc d)) e (suc (suc q)) w = absurd (far (suc (suc d)) (suc (suc q)) w (at_least (suc (suc d)) (omega arith) e) (at_least (suc (suc q)) (omega arith) (divisor (suc (suc d)) (suc (suc q)) w)))
      where
        at_least : (k : ℕ) → 2 ≤ k → p % k ≡ 0 → n + 2 ≤ k
        at_least k a z = let f : (k < n + 2) → ⊥ = λ b. none k a b z in omega (arith, f)

pub prime_65537 : Prime 65537
prime_65537 = prime_by_trial 65537 255 (lit< tt) (lit< tt) tt

pub prime_2147483647 : Prime 2147483647
prime_2147483647 = prime_by_trial 2147483647 46339 (lit< tt) (lit< tt) tt
