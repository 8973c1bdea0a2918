-- The quadratic extension of a base field is a lawful field. Assumes nothing but the laws of the base.
use Rattle.std.specs.Prelude.{◌≡◌, ℕ, ◌<◌, ◌≤◌, Bool, ◌&&◌, [], ◌∷◌, pos, ◌==◌, refl}
use Rattle.std.specs.Option.{option_map}
use Rattle.std.proofs.Common.{sym, ap, ap₂, ◌∙◌, inl, inr, arith}
use Rattle.std.proofs.Math.Nat.{zero-mod}
use Rattle.std.proofs.Math.Bool.{and-true}
use Rattle.field.specs.declared.limits.TheConstants.{INVERSES}
use Rattle.field.specs.Field.{FieldModel, Ring, Images, Inverses, Parts, LawfulField, LawfulBase, PartsOf, same, inverse}
use Rattle.field.proofs.Consequences.{inv_unique, image_nonzero}
use Rattle.field.proofs.Sameness.{decided, square_zero, some_inverse, none_inverse}
use Rattle.field.proofs.Solver.{sides, solve, solve_by₂}
use Rattle.extension.specs.Pairs.{pair, norm, conjugate_times, quadratic}
use Rattle.extension.specs.declared.extension.Extension.{Extension}

-- pairs with equal parts are equal
pub pair_path : {B : Type 0} {x y : Extension B} → x.a ≡ y.a → x.b ≡ y.b → x ≡ y
pair_path p q = ap₂ pair p q

module _ {B : Type 0} (F : FieldModel B) (w : B) (R : Ring F) where
  open F use {zero, one, add, neg, mul, inv, image}

  pub pair_ring : Ring (quadratic F w)
  pair_ring = record {
    add_assoc = λ x y z. pair_path (R.add_assoc x.a y.a z.a) (R.add_assoc x.b y.b z.b);
    add_comm = λ x y. pair_path (R.add_comm x.a y.a) (R.add_comm x.b y.b);
    add-zero = λ x. pair_path (R.add-zero x.a) (R.add-zero x.b);
    add-neg = λ x. pair_path (R.add-neg x.a) (R.add-neg x.b);
    mul_assoc = λ x y z. pair_path (assoc_a x.a x.b y.a y.b z.a z.b) (assoc_b x.a x.b y.a y.b z.a z.b);
    mul_comm = λ x y. pair_path (comm_a x.a x.b y.a y.b) (comm_b x.a x.b y.a y.b);
    mul-one = λ x. pair_path (one_a x.a x.b) (one_b x.a x.b);
    mul-add = λ x y z. pair_path (over_a x.a x.b y.a y.b z.a z.b) (over_b x.a x.b y.a y.b z.a z.b);
  }
    where
      assoc_a : (a b c d e f : B) → add (mul (add (mul a c) (mul w (mul b d))) e) (mul w (mul (add (mul a d) (mul b c)) f)) ≡ add (mul a (add (mul c e) (mul w (mul d f)))) (mul w (mul b (add (mul c f) (mul d e))))
      assoc_a a b c d e f = solve R (w ∷ a ∷ b ∷ c ∷ d ∷ e ∷ f ∷ []) (search sides depth 40) refl

      assoc_b : (a b c d e f : B) → add (mul (add (mul a c) (mul w (mul b d))) f) (mul (add (mul a d) (mul b c)) e) ≡ add (mul a (add (mul c f) (mul d e))) (mul b (add (mul c e) (mul w (mul d f))))
      assoc_b a b c d e f = solve R (w ∷ a ∷ b ∷ c ∷ d ∷ e ∷ f ∷ []) (search sides depth 40) refl

      comm_a : (a b c d : B) → add (mul a c) (mul w (mul b d)) ≡ add (mul c a) (mul w (mul d b))
      comm_a a b c d = solve R (w ∷ a ∷ b ∷ c ∷ d ∷ []) (search sides depth 30) refl

      comm_b : (a b c d : B) → add (mul a d) (mul b c) ≡ add (mul c b) (mul d a)
      comm_b a b c d = solve R (a ∷ b ∷ c ∷ d ∷ []) (search sides depth 30) refl

      one_a : (a b : B) → add (mul a one) (mul w (mul b zero)) ≡ a
      one_a a b = solve R (w ∷ a ∷ b ∷ []) (search sides depth 30) refl

      one_b : (a b : B) → add (mul a zero) (mul b one) ≡ b
      one_b a b = solve R (a ∷ b ∷ []) (search sides depth 30) refl

      over_a : (a b c d e f : B) → add (mul a (add c e)) (mul w (mul b (add d f))) ≡ add (add (mul a c) (mul w (mul b d))) (add (mul a e) (mul w (mul b f)))
      over_a a b c d e f = solve R (w ∷ a ∷ b ∷ c ∷ d ∷ e ∷ f ∷ []) (search sides depth 30) refl

      over_b : (a b c d e f : B) → add (mul a (add d f)) (mul b (add c e)) ≡ add (add (mul a d) (mul b c)) (add (mul a f) (mul b e))
      over_b a b c d e f = solve R (a ∷ b ∷ c ∷ d ∷ e ∷ f ∷ []) (search sides depth 30) refl

  -- two elements of the base, as pairs, have the product of the base
  plain : (x y : B) → add (mul x y) (mul w (mul zero zero)) ≡ mul x y
  plain x y = solve R (w ∷ x ∷ y ∷ []) (search sides depth 30) refl

  none : (x y : B) → add (mul x zero) (mul zero y) ≡ zero
  none x y = solve R (x ∷ y ∷ []) (search sides depth 30) refl

  pub pair_images : Images F → Images (quadratic F w)
  pair_images I = record {
    of_zero = pair_path I.of_zero refl;
    of_one = pair_path I.of_one refl;
    of_add = λ m n p q r. pair_path (I.of_add m n p q r) (sym (R.add-zero zero));
    of_mul = λ m n p q r. pair_path (I.of_mul m n p q r ∙ sym (plain (image m) (image n))) (sym (none (image m) (image n)));
    zero_if = λ n p e. pair_path (I.zero_if n p e) refl;
    zero_only_if = λ n p e. I.zero_only_if n p (ap (λ x. x.a) e);
  }

  pub zero-norm : (x : Extension B) → x ≡ (quadratic F w).zero → norm F w x ≡ zero
  zero-norm x e = ap (norm F w) e ∙ zeros
    where
      zeros : add (mul zero zero) (neg (mul w (mul zero zero))) ≡ zero
      zeros = solve R (w ∷ []) (search sides depth 30) refl

  -- x times its conjugate over the norm
  times_inverse : (x : Extension B) → mul (norm F w x) (inv (norm F w x)) ≡ one → (quadratic F w).mul x ((quadratic F w).inv x) ≡ (quadratic F w).one
  times_inverse x e = pair_path (first x.a x.b (inv (norm F w x)) ∙ e) (second x.a x.b (inv (norm F w x)))
    where
      first : (a b i : B) → add (mul a (mul a i)) (mul w (mul b (mul (neg b) i))) ≡ mul (add (mul a a) (neg (mul w (mul b b)))) i
      first a b i = solve R (w ∷ a ∷ b ∷ i ∷ []) (search sides depth 30) refl

      second : (a b i : B) → add (mul a (mul (neg b) i)) (mul b (mul a i)) ≡ zero
      second a b i = solve R (a ∷ b ∷ i ∷ []) (search sides depth 30) refl

  -- a a = w b b and b = 0 give a a = 0
  flat : (a b : B) → add (mul a a) (neg (mul w (mul b b))) ≡ zero → b ≡ zero → mul a a ≡ zero
  flat a b e z = solve_by₂ R (w ∷ a ∷ b ∷ []) one e (mul w b) z (search sides depth 30) refl

  -- a a = w b b and b i = 1 give (a i)(a i) = w
  steep : (a b i : B) → add (mul a a) (neg (mul w (mul b b))) ≡ zero → mul b i ≡ one → mul (mul a i) (mul a i) ≡ w
  steep a b i e u = solve_by₂ R (w ∷ a ∷ b ∷ i ∷ []) (mul i i) e (mul w (add one (mul b i))) u (search sides depth 30) refl

module _ {B : Type 0} (F : FieldModel B) (w : B) (L : LawfulField F) (base : LawfulBase F w) where
  open F use {zero, mul, inv, image}

  -- the norm is zero only at zero, since w is no square
  pub norm-zero : (x : Extension B) → norm F w x ≡ zero → x ≡ (quadratic F w).zero
  norm-zero x e =
      elim (decided L.parts x.b zero) [
        | inl s ↦ pair_path (square_zero L x.a (flat F w L.ring x.a x.b e s.0)) s.0
        | inr s ↦ absurd (base.no_square (mul x.a (inv x.b)) (steep F w L.ring x.a x.b (inv x.b) e (L.inverses.mul-inv x.b s.0)))
      ]

  pub pair_inverses : Inverses (quadratic F w)
  pair_inverses = record { mul-inv = λ x n. times_inverse F w L.ring x (L.inverses.mul-inv (norm F w x) (λ e. n (norm-zero x e))) }

  -- a part is the low part of an element of the base
  parts_of : (l : ℕ) → l < F.characteristic → PartsOf F l 0
  parts_of l h = (h, omega arith, λ _. refl)

  pub pair_parts : Parts (quadratic F w)
  pair_parts = record {
    within = λ x. ((L.parts.within x.a).0, (L.parts.within x.b).0, λ e. absurd (omega (arith, e)));
    make_parts = λ x. pair_path (back x.a) (back x.b);
    low-make = λ l h t. L.parts.low-make l 0 (parts_of l t.0);
    high-make = λ l h t. L.parts.low-make h 0 (parts_of h t.1);
    low-image = L.parts.low-image;
    high-image = λ n _. ap F.low (sym L.images.of_zero) ∙ L.parts.low-image (pos 0) (omega arith) ∙ zero-mod F.characteristic;
  }
    where
      back : (y : B) → F.make (F.low y) 0 ≡ y
      back y = ap (F.make (F.low y)) (sym ((L.parts.within y).2 base.plain)) ∙ L.parts.make_parts y

  pub pair_lawful : LawfulField (quadratic F w)
  pair_lawful = record {
    bounds = record {
      characteristic_least = L.bounds.characteristic_least;
      characteristic_most = L.bounds.characteristic_most;
      degree_is = inr refl;
      limit_least = L.bounds.limit_least;
      limit_most = L.bounds.limit_most;
    };
    ring = pair_ring F w L.ring;
    images = pair_images F w L.ring L.images;
    inverses = pair_inverses;
    parts = pair_parts;
  }

  -- the inverse of a whole number is that of the base
  pub pair_number : (n : ℕ) → 1 ≤ n → n ≤ INVERSES → pair (inv (image (pos n))) zero ≡ (quadratic F w).inv (pair (image (pos n)) zero)
  pair_number n lo hi =
      let x = image (pos n) in
      let unit = L.inverses.mul-inv x (image_nonzero L n lo (omega (arith, L.bounds.characteristic_least))) in
      inv_unique pair_lawful (pair_path (plain F w L.ring x (inv x) ∙ unit) (none F w L.ring x (inv x)))

  -- the inverse is the conjugate over the norm, and there is none where the norm has none
  pub inverse_by_norm : (x : Extension B) → option_map (conjugate_times F x) (inverse F (norm F w x)) ≡ inverse (quadratic F w) x
  inverse_by_norm x =
      elim (decided L.parts (norm F w x) zero) [
        | inl s ↦ ap (option_map (conjugate_times F x)) (none_inverse L.parts (norm F w x) s.0) ∙ sym (none_inverse pair_parts x (norm-zero x s.0))
        | inr s ↦ ap (option_map (conjugate_times F x)) (some_inverse L.parts (norm F w x) s.0) ∙ sym (some_inverse pair_parts x (λ e. s.0 (zero-norm F w L.ring x e)))
      ]

  -- elements of the base are the same where their low parts agree
  same-low : (x y : B) → same F x y ≡ F.low x == F.low y
  same-low x y = ap₂ (λ m n. F.low x == F.low y && m == n) ((L.parts.within x).2 base.plain) ((L.parts.within y).2 base.plain) ∙ and-true _

  -- pairs are equal, part by part, where their parts agree
  pub pair_equality : (E : B → B → Bool) → ((x y : B) → E x y ≡ same F x y) → (x y : Extension B) → (E x.a y.a && E x.b y.b) ≡ same (quadratic F w) x y
  pair_equality E is x y = ap₂ ◌&&◌ (is x.a y.a ∙ same-low x.a y.a) (is x.b y.b ∙ same-low x.b y.b)
