-- The residues modulo a prime are a lawful field. Assumes nothing.
use Rattle.std.specs.Prelude.{◌≡◌, ℕ, zero, suc, ◌+◌, ◌-◌, ◌*◌, ◌/◌, ◌%◌, ◌<◌, ◌≤◌, Bool, true, false, cond, ◌≢◌, [], ◌∷◌, ℤ, pos, negsuc, ◌+ℤ◌, ◌*ℤ◌, neg_ℤ, nat_lt, refl}
use Rattle.std.proofs.Common.{sym, ap, ap₂, ◌∙◌, inl, add_assoc, add_comm, mul_assoc, mul_comm, mul-add, mod-eq_of_lt, mod-lt, arith, ltb-true, ltb-false}
use Rattle.std.proofs.Math.Nat.{mod-add-mod, add-mod-mod, mod-mod, zero-mod, div-add-mod, mul-mod_right}
use Rattle.std.proofs.Math.IntN.{sub_ℕ}
use Rattle.field.specs.Field.{Ring, Images, Inverses, Parts, LawfulField}
use Rattle.field.proofs.Consequences.{inv_unique}
use Rattle.field.proofs.Solver as ring
use Rattle.field.proofs.Solver.{sides, solve}
use Rattle.prime.specs.Primes.{Prime}
use Rattle.prime.specs.Residues.{residue_of, plus, minus, times, inverted, euclid, prime_field}
use Rattle.prime.specs.declared.residue.Residue.{Residue}
use Rattle.prime.specs.Euclid.{euclid_inverts}
use Rattle.prime.specs.Remainders.{mod-mul-mod, mul-mod-mod, add-neg-mod, modulo-mod}
use Rattle.prime.specs.Equality.{residue_path}

pub prime_ring : (P : ℕ) (h : 0 < P) (W : ℕ) → Ring (prime_field P h W)
prime_ring P h W = record {
  add_assoc = λ x y z. residue_path (mod-add-mod (x.value + y.value) P z.value ∙ ap (λ n. n % P) (add_assoc x.value y.value z.value) ∙ sym (add-mod-mod x.value (y.value + z.value) P));
  add_comm = λ x y. residue_path (ap (λ n. n % P) (add_comm x.value y.value));
  add-zero = λ x. residue_path (add-mod-mod x.value 0 P ∙ ap (λ n. n % P) (omega arith) ∙ mod-eq_of_lt x.small);
  add-neg = λ x. residue_path (add-neg-mod x.value P x.small ∙ sym (zero-mod P));
  mul_assoc = λ x y z. residue_path (mod-mul-mod (x.value * y.value) z.value P ∙ ap (λ n. n % P) (mul_assoc x.value y.value z.value) ∙ sym (mul-mod-mod x.value (y.value * z.value) P));
  mul_comm = λ x y. residue_path (ap (λ n. n % P) (mul_comm x.value y.value));
  mul-one = λ x. residue_path (mul-mod-mod x.value 1 P ∙ ap (λ n. n % P) (omega arith) ∙ mod-eq_of_lt x.small);
  mul-add = λ x y z. residue_path (mul-mod-mod x.value (y.value + z.value) P ∙ ap (λ n. n % P) (mul-add x.value y.value z.value) ∙ sym (add-mod-mod (x.value * y.value) (x.value * z.value) P) ∙ sym (mod-add-mod (x.value * y.value) P ((x.value * z.value) % P)));
}

module _ (P : ℕ) (h : 0 < P) (W : ℕ) where
  abbrev res : ℕ → Residue P
  res = residue_of P h

  abbrev img : ℤ → Residue P
  img = (prime_field P h W).image

  abbrev R : Ring (prime_field P h W)
  R = prime_ring P h W

  res-add : (a b : ℕ) → res (a + b) ≡ plus (res a) (res b)
  res-add a b = residue_path (sym (mod-add-mod a P (b % P) ∙ add-mod-mod a b P))

  res-mul : (a b : ℕ) → res (a * b) ≡ times (res a) (res b)
  res-mul a b = residue_path (sym (mod-mul-mod a (b % P) P ∙ mul-mod-mod a b P))

  img_pos : (n : ℕ) → img (pos n) ≡ res n
  img_pos n = residue_path (mod-mod n P)

  img_negsuc : (n : ℕ) → img (negsuc n) ≡ minus (res (suc n))
  img_negsuc n =
      ring.neg_unique R (res (suc n)) (img (negsuc n)) (sym (res-add (suc n) (P - suc (n % P))) ∙ residue_path (ap (λ z. z % P) whole ∙ mul-mod_right P (n / P + 1) ∙ sym (zero-mod P)))
    where
      whole : suc n + (P - suc (n % P)) ≡ P * (n / P + 1)
      whole = let l : n % P < P = mod-lt n h in omega (arith, div-add-mod n P, mul-add P (n / P) 1)

  img-neg : (n : ℕ) → img (neg_ℤ (pos n)) ≡ minus (res n)
  img-neg zero = img_pos 0 ∙ ring.neg_unique R (res 0) (res 0) (R.add-zero (res 0))
  img-neg (suc n) = img_negsuc n

  img-sub : (a b : ℕ) → img (sub_ℕ a b) ≡ plus (res a) (minus (res b))
  img-sub a b = go (nat_lt a b) refl
    where
      less : (d : ℕ) → b ≡ a + d → minus (res d) ≡ plus (res a) (minus (res b))
      less d e = solve R (res a ∷ res d ∷ []) (search sides depth 30) refl ∙ ap (λ x. plus (res a) (minus x)) (sym (res-add a d) ∙ ap res (sym e))

      more : (d : ℕ) → a ≡ d + b → res d ≡ plus (res a) (minus (res b))
      more d e = solve R (res d ∷ res b ∷ []) (search sides depth 30) refl ∙ ap (λ x. plus x (minus (res b))) (sym (res-add d b) ∙ ap res (sym e))

      go : (t : Bool) → nat_lt a b ≡ t → img (cond t (negsuc (b - suc a)) (pos (a - b))) ≡ plus (res a) (minus (res b))
      go true e = let l : a < b = ltb-true a b e in img_negsuc (b - suc a) ∙ less (suc (b - suc a)) (omega arith)
      go false e = let l : b ≤ a = ltb-false a b e in img_pos (a - b) ∙ more (a - b) (omega arith)

  img-add : (a b : ℤ) → img (a +ℤ b) ≡ plus (img a) (img b)
  img-add (pos a) (pos b) = img_pos (a + b) ∙ res-add a b ∙ sym (ap₂ plus (img_pos a) (img_pos b))
  img-add (pos a) (negsuc b) = img-sub a (suc b) ∙ sym (ap₂ plus (img_pos a) (img_negsuc b))
  img-add (negsuc a) (pos b) = img-sub b (suc a) ∙ R.add_comm (res b) (minus (res (suc a))) ∙ sym (ap₂ plus (img_negsuc a) (img_pos b))
  img-add (negsuc a) (negsuc b) =
      let e : suc (suc (a + b)) ≡ suc a + suc b = omega arith in
      img_negsuc (suc (a + b)) ∙ ap (λ n. minus (res n)) e ∙ ap minus (res-add (suc a) (suc b)) ∙ ring.neg-add R (res (suc a)) (res (suc b)) ∙ sym (ap₂ plus (img_negsuc a) (img_negsuc b))

  img-mul : (a b : ℤ) → img (a *ℤ b) ≡ times (img a) (img b)
  img-mul (pos a) (pos b) = img_pos (a * b) ∙ res-mul a b ∙ sym (ap₂ times (img_pos a) (img_pos b))
  img-mul (pos a) (negsuc b) = img-neg (a * suc b) ∙ ap minus (res-mul a (suc b)) ∙ sym (ring.mul-neg R (res a) (res (suc b))) ∙ sym (ap₂ times (img_pos a) (img_negsuc b))
  img-mul (negsuc a) (pos b) = img-neg (suc a * b) ∙ ap minus (res-mul (suc a) b) ∙ sym (ring.neg-mul R (res (suc a)) (res b)) ∙ sym (ap₂ times (img_negsuc a) (img_pos b))
  img-mul (negsuc a) (negsuc b) =
      img_pos (suc a * suc b)
      ∙ res-mul (suc a) (suc b)
      ∙ sym (ring.neg-mul R (res (suc a)) (minus (res (suc b))) ∙ ap minus (ring.mul-neg R (res (suc a)) (res (suc b))) ∙ ring.neg-neg R (times (res (suc a)) (res (suc b))))
      ∙ sym (ap₂ times (img_negsuc a) (img_negsuc b))

  prime_images : Images (prime_field P h W)
  prime_images = record {
    of_zero = img_pos 0;
    of_one = img_pos 1;
    of_add = λ a b _ _ _. img-add a b;
    of_mul = λ a b _ _ _. img-mul a b;
    zero_if = λ a _ e. ap res e;
    zero_only_if = λ a _ e. sym (modulo-mod P a h) ∙ ap (λ x. x.value) e ∙ zero-mod P;
  }

  prime_inverses : Prime P → Inverses (prime_field P h W)
  prime_inverses prime = record { mul-inv = λ x n. residue_path (inverts x (λ e. n (residue_path (e ∙ sym (zero-mod P))))) }
    where
      inverts : (x : Residue P) → x.value ≢ 0 → (x.value * (euclid P (suc x.value) P x.value 0 1 % P)) % P ≡ 1 % P
      inverts x n =
          let lo : 0 < x.value = omega arith in
          mul-mod-mod x.value _ P
          ∙ ap (λ z. z % P) (mul_comm x.value _)
          ∙ euclid_inverts P x.value prime lo x.small
          ∙ sym (mod-eq_of_lt prime.0)

  prime_parts : Parts (prime_field P h W)
  prime_parts = record {
    within = λ x. (x.small, h, λ _. refl);
    make_parts = λ x. residue_path (mod-eq_of_lt x.small);
    low-make = λ l k t. mod-eq_of_lt t.0;
    high-make = λ l k t. sym (t.2 refl);
    low-image = λ a _. modulo-mod P a h;
    high-image = λ a _. refl;
  }

  pub prime_lawful : Prime P → 65537 ≤ P → P ≤ 2147483647 → 1 ≤ W → W * W < P → LawfulField (prime_field P h W)
  prime_lawful prime lo hi w ww = record {
    bounds = record { characteristic_least = lo; characteristic_most = hi; degree_is = inl refl; limit_least = w; limit_most = ww };
    ring = R;
    images = prime_images;
    inverses = prime_inverses prime;
    parts = prime_parts;
  }

  -- a residue that n takes to 1
  pub table_inverse : LawfulField (prime_field P h W) → (n : ℕ) (y : Residue P) → (n * y.value) % P ≡ 1 → y ≡ inverted (img (pos n))
  table_inverse L n y is =
      let one : 1 < P = omega (arith, L.bounds.characteristic_least) in
      inv_unique L (ap (λ x. times x y) (img_pos n) ∙ residue_path (mod-mul-mod n y.value P ∙ is ∙ sym (mod-eq_of_lt one)))
