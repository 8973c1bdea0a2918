-- Remainders. Assumes nothing.
use Rattle.std.specs.Prelude.{◌≡◌, ℕ, suc, ◌+◌, ◌-◌, ◌*◌, ◌/◌, ◌%◌, ◌<◌, ◌≤◌, Bool, true, false, cond, nat_lt, ℤ, pos, negsuc, ◌+ℤ◌, unsigned_abs, refl}
use Rattle.std.proofs.Math.IntN.{sub_ℕ, pos-ne-negsuc}
use Rattle.std.proofs.Common.{sym, ap, ◌∙◌, mod-eq_of_lt, add-mul, mul-add, mul_assoc, mul_comm, mod-lt, arith, ltb-false}
use Rattle.std.proofs.Math.Nat.{mod-eq-sub-mod, div-add-mod, mod-add-mod, add-mod-mod, mod_self, mul-add-mod_self_left, add-mul-mod_self_left, mul-mod_right}
use Rattle.field.specs.Field.{modulo}

pub mod-mul-mod : (n k p : ℕ) → ((n % p) * k) % p ≡ (n * k) % p
mod-mul-mod n k p =
    let e : n * k ≡ p * (n / p * k) + (n % p) * k = ap (λ z. z * k) (sym (div-add-mod n p)) ∙ add-mul (p * (n / p)) (n % p) k ∙ ap (λ z. z + (n % p) * k) (mul_assoc p (n / p) k) in
    sym (ap (λ z. z % p) e ∙ mul-add-mod_self_left p (n / p * k) ((n % p) * k))

pub mul-mod-mod : (n k p : ℕ) → (n * (k % p)) % p ≡ (n * k) % p
mul-mod-mod n k p = ap (λ z. z % p) (mul_comm n (k % p)) ∙ mod-mul-mod k n p ∙ ap (λ z. z % p) (mul_comm k n)

-- the residue that a residue and c come to 0 with
drop_out : (a c p : ℕ) → 0 < p → (a + c + (p - c % p)) % p ≡ a % p
drop_out a c p h =
    let l : c % p < p = mod-lt c h in
    let d : p * (c / p) + c % p ≡ c = div-add-mod c p in
    let e : a + c + (p - c % p) ≡ a + p * (c / p + 1) = omega (arith, mul-add p (c / p) 1) in
    ap (λ z. z % p) e ∙ add-mul-mod_self_left a p (c / p + 1)

pub cancel_mod : (a b c p : ℕ) → 0 < p → (a + c) % p ≡ (b + c) % p → a % p ≡ b % p
cancel_mod a b c p h e =
    sym (drop_out a c p h)
    ∙ sym (mod-add-mod (a + c) p (p - c % p))
    ∙ ap (λ z. (z + (p - c % p)) % p) e
    ∙ mod-add-mod (b + c) p (p - c % p)
    ∙ drop_out b c p h

pub add-neg-mod : (a p : ℕ) → a < p → (a + (p - a) % p) % p ≡ 0
add-neg-mod a p h =
    let e : a + (p - a) ≡ p = omega arith in
    add-mod-mod a (p - a) p ∙ ap (λ z. z % p) e ∙ mod_self p

pub modulo_lt : (p : ℕ) (z : ℤ) → 0 < p → modulo p z < p
modulo_lt p (pos n) h = mod-lt n h
modulo_lt p (negsuc n) h = let l : n % p < p = mod-lt n h in omega arith

pub modulo-mod : (p : ℕ) (z : ℤ) → 0 < p → modulo p z % p ≡ modulo p z
modulo-mod p z h = mod-eq_of_lt (modulo_lt p z h)

-- a sum of two residues is reduced by one subtraction
pub over_mod : (t p : ℕ) → p ≤ t → t - p < p → t - p ≡ t % p
over_mod t p lo hi = sym (mod-eq-sub-mod lo ∙ mod-eq_of_lt hi)

-- a difference that is no less than 0
difference_least : (k b v : ℕ) → pos v ≡ sub_ℕ k b → v + b ≡ k
difference_least k b v e = go (nat_lt k b) refl e
  where
    go : (t : Bool) → nat_lt k b ≡ t → pos v ≡ cond t (negsuc (b - suc k)) (pos (k - b)) → v + b ≡ k
    go true l f = absurd (pos-ne-negsuc v (b - suc k) f)
    go false l f = let least : b ≤ k = ltb-false k b l in omega (arith, ap unsigned_abs f)

-- a whole number and a multiple of p, where they come to no less than 0, leave what the number leaves
pub modulo_raised : (p m : ℕ) (z : ℤ) (v : ℕ) → 0 < p → pos v ≡ z +ℤ pos (p * m) → v % p ≡ modulo p z
modulo_raised p m (pos n) v h e = ap (λ k. unsigned_abs k % p) e ∙ add-mul-mod_self_left n p m
modulo_raised p m (negsuc n) v h e =
    let least : n % p < p = mod-lt n h in
    let round : p - suc (n % p) + suc n ≡ p * (n / p + 1) = omega (arith, div-add-mod n p, mul-add p (n / p) 1) in
    cancel_mod v (p - suc (n % p)) (suc n) p h (ap (λ k. k % p) (difference_least (p * m) (suc n) v e) ∙ mul-mod_right p m ∙ sym (ap (λ k. k % p) round ∙ mul-mod_right p (n / p + 1)))
    ∙ modulo-mod p (negsuc n) h
