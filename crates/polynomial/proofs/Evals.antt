-- Sums and products of polynomials: their values and their lengths. Assumes nothing but the laws of the field.
use Rattle.std.proofs.Common.{◌≡◌, ℕ, zero, suc, ◌+◌, ◌≤◌, List, [], ◌∷◌, length, sym, refl, ap, ◌∙◌, ap₂, arith}
use Rattle.field.specs.Field.{FieldModel, LawfulField}
use Rattle.polynomial.specs.Polynomials.{eval, scaled, poly_add, poly_mul, Operations}
use Rattle.field.proofs.Solver.{sides, solve, mul-zero, zero-mul, zero-add}

module _ {K : Type 0} {F : FieldModel K} (L : LawfulField F) where
  pub eval_scaled : (a : K) (p : List K) (x : K) → eval F (scaled F a p) x ≡ F.mul a (eval F p x)
  eval_scaled a [] x = sym (mul-zero L.ring a)
  eval_scaled a (c ∷ cs) x =
      ap (λ w. F.add (F.mul a c) (F.mul x w)) (eval_scaled a cs x) ∙ solve L.ring (a ∷ c ∷ x ∷ eval F cs x ∷ []) (search sides depth 30) refl

  pub eval-poly_add : (p q : List K) (x : K) → eval F (poly_add F p q) x ≡ F.add (eval F p x) (eval F q x)
  eval-poly_add [] q x = sym (zero-add L.ring (eval F q x))
  eval-poly_add (a ∷ p) [] x = sym (L.ring.add-zero (eval F (a ∷ p) x))
  eval-poly_add (a ∷ p) (b ∷ q) x =
      ap (λ w. F.add (F.add a b) (F.mul x w)) (eval-poly_add p q x) ∙ solve L.ring (a ∷ b ∷ x ∷ eval F p x ∷ eval F q x ∷ []) (search sides depth 30) refl

  pub eval-poly_mul : (p q : List K) (x : K) → eval F (poly_mul F p q) x ≡ F.mul (eval F p x) (eval F q x)
  eval-poly_mul [] q x = sym (zero-mul L.ring (eval F q x))
  eval-poly_mul (a ∷ p) q x =
      eval-poly_add (scaled F a q) (F.zero ∷ poly_mul F p q) x
      ∙ ap₂ (λ u w. F.add u (F.add F.zero (F.mul x w))) (eval_scaled a q x) (eval-poly_mul p q x)
      ∙ solve L.ring (a ∷ x ∷ eval F p x ∷ eval F q x ∷ []) (search sides depth 30) refl

  pub length_scaled : (a : K) (p : List K) → length (scaled F a p) ≡ length p
  length_scaled a [] = refl
  length_scaled a (c ∷ cs) = ap suc (length_scaled a cs)

  pub length-poly_add : (p q : List K) (n : ℕ) → length p ≤ n → length q ≤ n → length (poly_add F p q) ≤ n
  length-poly_add [] q n h k = k
  length-poly_add (a ∷ p) [] n h k = h
  length-poly_add (a ∷ p) (b ∷ q) zero h k = absurd (omega arith)
  length-poly_add (a ∷ p) (b ∷ q) (suc n) h k = let r = length-poly_add p q n (omega arith) (omega arith) in omega arith

  -- of degrees m and n: the product is of degree m + n
  pub length-poly_mul : (p q : List K) (m n : ℕ) → length p ≤ suc m → length q ≤ suc n → length (poly_mul F p q) ≤ suc (m + n)
  length-poly_mul [] q m n h k = omega arith
  length-poly_mul (a ∷ []) q zero n h k =
      length-poly_add (scaled F a q) (F.zero ∷ []) (suc (zero + n)) (omega (arith, length_scaled a q)) (omega arith)
  length-poly_mul (a ∷ b ∷ p) q zero n h k = absurd (omega arith)
  length-poly_mul (a ∷ p) q (suc m) n h k =
      let r = length-poly_mul p q m n (omega arith) k in
      length-poly_add (scaled F a q) (F.zero ∷ poly_mul F p q) (suc (suc m + n)) (omega (arith, length_scaled a q)) (omega arith)

  pub operations : Operations F
  operations = record {
    at_sum = eval-poly_add;
    at_scaled = eval_scaled;
    at_product = eval-poly_mul;
    sum_fits = length-poly_add;
    scaled_fits = length_scaled;
    product_fits = length-poly_mul;
  }
