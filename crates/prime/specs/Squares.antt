-- Numbers that are no squares modulo a prime. Assumes nothing.
use Rattle.std.specs.Prelude.{◌≡◌, ℕ, zero, suc, ◌+◌, ◌-◌, ◌*◌, ◌/◌, ◌%◌, ◌<◌, ◌≤◌, Bool, true, T, ◌≢◌, ◌⊎◌, ◌==◌, refl}
use Rattle.std.proofs.Common.{sym, ap, ◌∙◌, subst, inl, inr, ⊎_elim, mod-lt, mul-le-mul, not-suc-le-zero, mul_comm, arith, lit<}
use Rattle.std.proofs.Math.Nat.{div-add-mod, mod-add-mod, add-mul-mod_self_right, mul-add-mod_self_right, mul-mod_right, mul-add-mod_self_left}
use Rattle.prime.specs.Nowhere.{nowhere_below}
use Rattle.prime.specs.Remainders.{mod-mul-mod, mul-mod-mod}

-- k times k is w modulo p
abbrev squares : ℕ → ℕ → ℕ → Bool
squares p w k = (k * k) % p == w

pub three_65537 : (k : ℕ) → k < 65537 → (k * k) % 65537 ≢ 3
three_65537 k h e = nowhere_below (squares 65537 3) 65537 true tt k h (subst (λ (z : ℕ). T (z == 3)) (sym e) tt)

below_two : (j : ℕ) → j < 2 → (j ≡ 0) ⊎ (j ≡ 1)
below_two zero h = inl refl
below_two (suc zero) h = inr refl
below_two (suc (suc j)) h = absurd (omega arith)

-- of x and n - x, reduced, one is even
even_root : (n x : ℕ) → n % 4 ≡ 3 → (x * x + 1) % n ≡ 0 → (e : ℕ) × (e < n) × (e % 2 ≡ 0) × ((e * e + 1) % n ≡ 0)
even_root n x three z =
    ⊎_elim (λ even. (x % n, small, even, reduced)) (λ odd. (n - x % n, omega (arith, odd), omega (arith, odd, small), mirrored)) (below_two (x % n % 2) (mod-lt (x % n) (omega arith)))
  where
    small : x % n < n
    small = mod-lt x (omega arith)

    reduced : (x % n * (x % n) + 1) % n ≡ 0
    reduced =
        sym (mod-add-mod (x % n * (x % n)) n 1)
        ∙ ap (λ s. (s + 1) % n) (mod-mul-mod x (x % n) n ∙ mul-mod-mod x x n)
        ∙ mod-add-mod (x * x) n 1
        ∙ z

    -- (n - r)² + 1 + r n = (n - r) n + r² + 1
    mirrored : ((n - x % n) * (n - x % n) + 1) % n ≡ 0
    mirrored =
        let r = x % n in
        let e = n - r in
        let s : e + r ≡ n = omega (arith, small) in
        let i : e * e + 1 + r * n ≡ e * n + (r * r + 1) = subst (λ (k : ℕ). e * e + 1 + r * k ≡ e * k + (r * r + 1)) s (omega arith) in
        sym (add-mul-mod_self_right (e * e + 1) r n) ∙ ap (λ k. k % n) i ∙ mul-add-mod_self_right e n (r * r + 1) ∙ reduced

leaves_three : (a b m : ℕ) → 4 * a + 3 * m ≡ 4 * b + 1 → m % 4 ≡ 3
leaves_three a b m e =
    let more : b < a + m = omega arith in
    let q = a + m - b - 1 in
    let i : m ≡ 4 * q + 3 = omega arith in
    ap (λ k. k % 4) i ∙ mul-add-mod_self_left 4 q 3

-- n m = 4 f f + 1, so m leaves 3 where n does
quotient_three : (n m f : ℕ) → n % 4 ≡ 3 → n * m ≡ 4 * (f * f) + 1 → m % 4 ≡ 3
quotient_three n m f three e =
    let n-is : n ≡ 4 * (n / 4) + 3 = omega arith in
    let spread : n * m ≡ 4 * (n / 4 * m) + 3 * m = subst (λ (k : ℕ). k * m ≡ 4 * (n / 4 * m) + 3 * m) (sym n-is) (omega arith) in
    let i : 4 * (n / 4 * m) + 3 * m ≡ 4 * (f * f) + 1 = sym spread ∙ e in
    leaves_three (n / 4 * m) (f * f) m i

quotient_less : (n m e : ℕ) → 3 ≤ n → e < n → n * m ≡ e * e + 1 → m < n
quotient_less n m e lo l i = omega (arith, far)
  where
    far : n ≤ m → ⊥
    far h =
        let j = n - 1 in
        let a : n * n ≤ n * m = mul-le-mul (omega arith) h in
        let b : e * e ≤ j * j = mul-le-mul (omega arith) (omega arith) in
        let c : n ≡ j + 1 = omega arith in
        let d : n * n ≡ j * j + 2 * j + 1 = subst (λ (k : ℕ). k * k ≡ j * j + 2 * j + 1) (sym c) (omega arith) in
        omega arith

quotient : (n e : ℕ) → n % 4 ≡ 3 → e < n → e % 2 ≡ 0 → (e * e + 1) % n ≡ 0 → (m : ℕ) × (m < n) × (m % 4 ≡ 3) × ((e * e + 1) % m ≡ 0)
quotient n e three l even t =
    let m = (e * e + 1) / n in
    let f = e / 2 in
    let whole : n * m ≡ e * e + 1 = omega (arith, div-add-mod (e * e + 1) n) in
    let e-is : e ≡ 2 * f = omega arith in
    let square : e * e + 1 ≡ 4 * (f * f) + 1 = subst (λ (k : ℕ). k * k + 1 ≡ 4 * (f * f) + 1) (sym e-is) (omega arith) in
    (m, quotient_less n m e (omega arith) l whole, quotient_three n m f three (whole ∙ square), ap (λ k. k % m) (sym whole ∙ mul_comm n m) ∙ mul-mod_right m n)

-- no number that leaves 3 by 4 divides a square plus 1: else so would a smaller one
pub descent : (bound n x : ℕ) → n < bound → n % 4 ≡ 3 → (x * x + 1) % n ≢ 0
descent zero n x h three z = not-suc-le-zero h
descent (suc bound) n x h three z =
    let e = even_root n x three z in
    let m = quotient n e.0 three e.1 e.2 e.3 in
    descent bound m.0 e.0 (omega arith) m.2 m.3

pub minus_one_2147483647 : (k : ℕ) → (k * k) % 2147483647 ≢ 2147483646
minus_one_2147483647 k e =
    descent 2147483648 2147483647 k (lit< tt) refl (sym (mod-add-mod (k * k) 2147483647 1) ∙ ap (λ s. (s + 1) % 2147483647) e)
