-- What follows from a field's laws: one differs from zero, inverses are unique, images of opposites and differences. Assumes nothing else.
use Rattle.std.proofs.Common.{◌≡◌, ℕ, zero, suc, ◌*◌, ◌%◌, ◌<◌, ◌≤◌, ◌≢◌, ℤ, pos, negsuc, ◌+ℤ◌, ◌-ℤ◌, neg_ℤ, nat_abs, sym, refl, ap, ◌∙◌, mod-eq_of_lt, mul-le-mul, arith}
use native.Mathlib.Decide.{dec_lt}
use lib.IntN.{+ℤ_invr}
use Rattle.field.specs.declared.limits.TheConstants.{GREATEST_LIMIT}
use Rattle.field.specs.Field.{FieldModel, LawfulField, InRange}
use Rattle.field.proofs.Solver.{mul-zero, zero-mul, one-mul, neg-mul, mul-neg, neg-neg, neg_unique}

abs_neg : (n : ℤ) → nat_abs (neg_ℤ n) ≡ nat_abs n
abs_neg (pos zero) = refl
abs_neg (pos (suc n)) = refl
abs_neg (negsuc n) = refl

module _ {K : Type 0} {F : FieldModel K} (L : LawfulField F) where
  -- the image of a number from 1 to p − 1 is not zero
  pub image_nonzero : (n : ℕ) → 1 ≤ n → n < F.characteristic → F.image (pos n) ≢ F.zero
  image_nonzero n least below e =
      let z : n % F.characteristic ≡ 0 = L.images.zero_only_if (pos n) (omega (arith, L.bounds.characteristic_most)) e in
      let o : n % F.characteristic ≡ n = mod-eq_of_lt below in
      omega arith

  pub one_not_zero : F.one ≢ F.zero
  one_not_zero e = image_nonzero 1 (omega arith) (omega (arith, L.bounds.characteristic_least)) (L.images.of_one ∙ e)

  pub inverse_nonzero : {x y : K} → F.mul x y ≡ F.one → x ≢ F.zero
  inverse_nonzero {x} {y} e z = one_not_zero (sym e ∙ ap (λ w. F.mul w y) z ∙ zero-mul L.ring y)

  -- what times x is one is the inverse of x
  pub inv_unique : {x y : K} → F.mul x y ≡ F.one → y ≡ F.inv x
  inv_unique {x} {y} e =
      sym (L.ring.mul-one y)
      ∙ ap (F.mul y) (sym (L.inverses.mul-inv x (inverse_nonzero e)))
      ∙ sym (L.ring.mul_assoc y x (F.inv x))
      ∙ ap (λ w. F.mul w (F.inv x)) (L.ring.mul_comm y x ∙ e)
      ∙ one-mul L.ring (F.inv x)

  pub inv-neg : (x : K) → x ≢ F.zero → F.inv (F.neg x) ≡ F.neg (F.inv x)
  inv-neg x h =
      sym (inv_unique (neg-mul L.ring x (F.neg (F.inv x)) ∙ ap F.neg (mul-neg L.ring x (F.inv x)) ∙ neg-neg L.ring (F.mul x (F.inv x)) ∙ L.inverses.mul-inv x h))

  -- a product is zero only where a factor is
  pub factor_zero : (x y : K) → F.mul x y ≡ F.zero → x ≢ F.zero → y ≡ F.zero
  factor_zero x y e n =
      sym (one-mul L.ring y)
      ∙ ap (λ u. F.mul u y) (sym (L.inverses.mul-inv x n) ∙ L.ring.mul_comm x (F.inv x))
      ∙ L.ring.mul_assoc (F.inv x) x y
      ∙ ap (F.mul (F.inv x)) e
      ∙ mul-zero L.ring (F.inv x)

  pub image-neg : (n : ℤ) → InRange n → F.image (neg_ℤ n) ≡ F.neg (F.image n)
  image-neg n h =
      let z : n +ℤ neg_ℤ n ≡ pos 0 = +ℤ_invr n in
      let b : nat_abs (n +ℤ neg_ℤ n) ≤ 2147483647 = rw z (omega arith) in
      neg_unique L.ring (F.image n) (F.image (neg_ℤ n)) (sym (L.images.of_add n (neg_ℤ n) h (omega (arith, abs_neg n)) b) ∙ ap F.image z ∙ L.images.of_zero)

  pub image-sub : (m n : ℤ) → InRange m → InRange n → InRange (m -ℤ n) → F.image (m -ℤ n) ≡ F.add (F.image m) (F.neg (F.image n))
  image-sub m n hm hn h = L.images.of_add m (neg_ℤ n) hm (omega (arith, abs_neg n)) h ∙ ap (F.add (F.image m)) (image-neg n hn)

  -- a limit whose square is below the characteristic is at most 46,340
  pub limit_small : F.limit ≤ GREATEST_LIMIT
  limit_small = go (dec_lt 46340 F.limit)
    where
      go : Dec (46340 < F.limit) → F.limit ≤ GREATEST_LIMIT
      go (yes h) =
          let k : 46341 * 46341 ≤ F.limit * F.limit = mul-le-mul {n₁ = 46341} {m₁ = 46341} {n₂ = F.limit} {m₂ = F.limit} h h in
          absurd (omega (arith, k, L.bounds.limit_most, L.bounds.characteristic_most))
      go (no h) = omega arith
