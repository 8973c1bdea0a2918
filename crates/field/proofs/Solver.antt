-- Commutative rings: an equation between two sums of products is proved by bringing both sides to one sorted form.
-- Assumes nothing but the laws of the ring.
use Rattle.std.proofs.Common.{◌≡◌, ℕ, suc, Bool, true, false, cond, not, ◌&&◌, T, eqb, ltb, List, [], ◌∷◌, get_or, sym, refl, ap, ◌∙◌, ap₂, eqb→eq}
use Rattle.field.specs.Field.{FieldModel, Ring}

infixl 6 ◌⊕◌
infixl 7 ◌⊗◌
infix 8 ⊖◌
pub data Ex : Type 0 where
  var : ℕ → Ex
  𝟘 𝟙 : Ex
  ◌⊕◌ ◌⊗◌ : Ex → Ex → Ex
  ⊖◌ : Ex → Ex

-- a product of variables, in order, with a sign: true is plus
pub data Term : Type 0 where
  term : Bool → List ℕ → Term

-- ---- the sorted form, which antt computes
abbrev put : ℕ → List ℕ → List ℕ
put n [] = n ∷ []
put n (m ∷ ms) = cond (ltb m n) (m ∷ put n ms) (n ∷ m ∷ ms)

abbrev times : List ℕ → List ℕ → List ℕ
times [] ns = ns
times (m ∷ ms) ns = put m (times ms ns)

abbrev equal : List ℕ → List ℕ → Bool
equal [] [] = true
equal [] (n ∷ ns) = false
equal (m ∷ ms) [] = false
equal (m ∷ ms) (n ∷ ns) = eqb m n && equal ms ns

abbrev before : List ℕ → List ℕ → Bool
before [] [] = false
before [] (n ∷ ns) = true
before (m ∷ ms) [] = false
before (m ∷ ms) (n ∷ ns) = cond (eqb m n) (before ms ns) (ltb m n)

abbrev signs : Bool → Bool → Bool
signs true s = s
signs false s = not s

-- two terms that come to zero together
abbrev opposite : Term → Term → Bool
opposite (term true ms) (term true ns) = false
opposite (term true ms) (term false ns) = equal ms ns
opposite (term false ms) (term true ns) = equal ms ns
opposite (term false ms) (term false ns) = false

abbrev earlier : Term → Term → Bool
earlier (term s ms) (term t ns) = before ms ns

abbrev join : Term → List Term → List Term
join t [] = t ∷ []
join t (u ∷ us) = cond (opposite t u) us (cond (earlier u t) (u ∷ join t us) (t ∷ u ∷ us))

abbrev plus : List Term → List Term → List Term
plus [] us = us
plus (t ∷ ts) us = join t (plus ts us)

abbrev by : Term → Term → Term
by (term s ms) (term t ns) = term (signs s t) (times ms ns)

abbrev scale : Term → List Term → List Term
scale t [] = []
scale t (u ∷ us) = join (by t u) (scale t us)

abbrev prod : List Term → List Term → List Term
prod [] us = []
prod (t ∷ ts) us = plus (scale t us) (prod ts us)

abbrev flip : Term → Term
flip (term s ms) = term (not s) ms

abbrev flips : List Term → List Term
flips [] = []
flips (t ∷ ts) = flip t ∷ flips ts

abbrev pub norm : Ex → List Term
norm (var n) = term true (n ∷ []) ∷ []
norm 𝟘 = []
norm 𝟙 = term true [] ∷ []
norm (e ⊕ f) = plus (norm e) (norm f)
norm (e ⊗ f) = prod (norm e) (norm f)
norm (⊖ e) = flips (norm e)

module _ {K : Type 0} (F : FieldModel K) (env : List K) where
  abbrev pub value : Ex → K
  value (var n) = get_or env n F.zero
  value 𝟘 = F.zero
  value 𝟙 = F.one
  value (e ⊕ f) = F.add (value e) (value f)
  value (e ⊗ f) = F.mul (value e) (value f)
  value (⊖ e) = F.neg (value e)

  abbrev mono : List ℕ → K
  mono [] = F.one
  mono (m ∷ ms) = F.mul (get_or env m F.zero) (mono ms)

  abbrev signed : Bool → K → K
  signed true x = x
  signed false x = F.neg x

  abbrev value_t : Term → K
  value_t (term s ms) = signed s (mono ms)

  abbrev value_s : List Term → K
  value_s [] = F.zero
  value_s (t ∷ ts) = F.add (value_t t) (value_s ts)

-- ---- what the laws give
module _ {K : Type 0} {F : FieldModel K} (R : Ring F) where
  pub add_left : (x y z : K) → F.add x (F.add y z) ≡ F.add y (F.add x z)
  add_left x y z = sym (R.add_assoc x y z) ∙ ap (λ w. F.add w z) (R.add_comm x y) ∙ R.add_assoc y x z

  pub mul_left : (x y z : K) → F.mul x (F.mul y z) ≡ F.mul y (F.mul x z)
  mul_left x y z = sym (R.mul_assoc x y z) ∙ ap (λ w. F.mul w z) (R.mul_comm x y) ∙ R.mul_assoc y x z

  pub add-mul : (x y z : K) → F.mul (F.add x y) z ≡ F.add (F.mul x z) (F.mul y z)
  add-mul x y z = R.mul_comm (F.add x y) z ∙ R.mul-add z x y ∙ ap₂ F.add (R.mul_comm z x) (R.mul_comm z y)

  pub zero-add : (x : K) → F.add F.zero x ≡ x
  zero-add x = R.add_comm F.zero x ∙ R.add-zero x

  pub one-mul : (x : K) → F.mul F.one x ≡ x
  one-mul x = R.mul_comm F.one x ∙ R.mul-one x

  pub neg-add_self : (x : K) → F.add (F.neg x) x ≡ F.zero
  neg-add_self x = R.add_comm (F.neg x) x ∙ R.add-neg x

  -- x + y = x + z gives y = z
  pub add_cancel : (x y z : K) → F.add x y ≡ F.add x z → y ≡ z
  add_cancel x y z e =
      sym (zero-add y) ∙ ap (λ w. F.add w y) (sym (neg-add_self x)) ∙ R.add_assoc (F.neg x) x y ∙ ap (F.add (F.neg x)) e ∙ sym (R.add_assoc (F.neg x) x z) ∙ ap (λ w. F.add w z) (neg-add_self x) ∙ zero-add z

  pub mul-zero : (x : K) → F.mul x F.zero ≡ F.zero
  mul-zero x =
      add_cancel (F.mul x F.zero) (F.mul x F.zero) F.zero
      (sym (R.mul-add x F.zero F.zero) ∙ ap (F.mul x) (R.add-zero F.zero) ∙ sym (R.add-zero (F.mul x F.zero)))

  pub zero-mul : (x : K) → F.mul F.zero x ≡ F.zero
  zero-mul x = R.mul_comm F.zero x ∙ mul-zero x

  -- x + y = 0 gives y = −x
  pub neg_unique : (x y : K) → F.add x y ≡ F.zero → y ≡ F.neg x
  neg_unique x y e = add_cancel x y (F.neg x) (e ∙ sym (R.add-neg x))

  pub neg-neg : (x : K) → F.neg (F.neg x) ≡ x
  neg-neg x = sym (neg_unique (F.neg x) x (neg-add_self x))

  pub neg-zero : F.neg F.zero ≡ F.zero
  neg-zero = sym (neg_unique F.zero F.zero (R.add-zero F.zero))

  pub neg-add : (x y : K) → F.neg (F.add x y) ≡ F.add (F.neg x) (F.neg y)
  neg-add x y = sym (neg_unique (F.add x y) (F.add (F.neg x) (F.neg y))
      (R.add_assoc x y _ ∙ ap (F.add x) (add_left y (F.neg x) (F.neg y) ∙ ap (F.add (F.neg x)) (R.add-neg y) ∙ R.add-zero (F.neg x)) ∙ R.add-neg x))

  pub mul-neg : (x y : K) → F.mul x (F.neg y) ≡ F.neg (F.mul x y)
  mul-neg x y = neg_unique (F.mul x y) (F.mul x (F.neg y)) (sym (R.mul-add x y (F.neg y)) ∙ ap (F.mul x) (R.add-neg y) ∙ mul-zero x)

  pub neg-mul : (x y : K) → F.mul (F.neg x) y ≡ F.neg (F.mul x y)
  neg-mul x y = R.mul_comm (F.neg x) y ∙ mul-neg y x ∙ ap F.neg (R.mul_comm y x)

  -- ---- the sorted form has the value of what it came from
  module _ (env : List K) where
    put_step : (b : Bool) (n m : ℕ) (ms r : List ℕ) → mono F env r ≡ F.mul (get_or env n F.zero) (mono F env ms) → mono F env (cond b (m ∷ r) (n ∷ m ∷ ms)) ≡ F.mul (get_or env n F.zero) (mono F env (m ∷ ms))
    put_step true n m ms r e = ap (F.mul (get_or env m F.zero)) e ∙ mul_left (get_or env m F.zero) (get_or env n F.zero) (mono F env ms)
    put_step false n m ms r e = refl

    put_sound : (n : ℕ) (ms : List ℕ) → mono F env (put n ms) ≡ F.mul (get_or env n F.zero) (mono F env ms)
    put_sound n [] = refl
    put_sound n (m ∷ ms) = put_step (ltb m n) n m ms (put n ms) (put_sound n ms)

    times_sound : (ms ns : List ℕ) → mono F env (times ms ns) ≡ F.mul (mono F env ms) (mono F env ns)
    times_sound [] ns = sym (one-mul (mono F env ns))
    times_sound (m ∷ ms) ns = put_sound m (times ms ns) ∙ ap (F.mul _) (times_sound ms ns) ∙ sym (R.mul_assoc _ _ _)

    equal_step : (b : Bool) (m n : ℕ) (ms ns : List ℕ) → (T b → m ≡ n) → (T (equal ms ns) → mono F env ms ≡ mono F env ns) → T (b && equal ms ns) → mono F env (m ∷ ms) ≡ mono F env (n ∷ ns)
    equal_step true m n ms ns e r h = ap₂ F.mul (ap (λ k. get_or env k F.zero) (e tt)) (r h)
    equal_step false m n ms ns e r h = absurd h

    equal_sound : (ms ns : List ℕ) → T (equal ms ns) → mono F env ms ≡ mono F env ns
    equal_sound [] [] h = refl
    equal_sound [] (n ∷ ns) h = absurd h
    equal_sound (m ∷ ms) [] h = absurd h
    equal_sound (m ∷ ms) (n ∷ ns) h = equal_step (eqb m n) m n ms ns (eqb→eq m n) (equal_sound ms ns) h

    opposite_sound : (t u : Term) → T (opposite t u) → F.add (value_t F env t) (value_t F env u) ≡ F.zero
    opposite_sound (term true ms) (term true ns) h = absurd h
    opposite_sound (term true ms) (term false ns) h = ap (λ w. F.add w (F.neg (mono F env ns))) (equal_sound ms ns h) ∙ R.add-neg (mono F env ns)
    opposite_sound (term false ms) (term true ns) h = ap (λ w. F.add (F.neg w) (mono F env ns)) (equal_sound ms ns h) ∙ neg-add_self (mono F env ns)
    opposite_sound (term false ms) (term false ns) h = absurd h

    join_step : (b c : Bool) (t u : Term) (us r : List Term) → (T b → F.add (value_t F env t) (value_t F env u) ≡ F.zero) → value_s F env r ≡ F.add (value_t F env t) (value_s F env us) → value_s F env (cond b us (cond c (u ∷ r) (t ∷ u ∷ us))) ≡ F.add (value_t F env t) (value_s F env (u ∷ us))
    join_step true c t u us r o e = sym (zero-add (value_s F env us)) ∙ ap (λ w. F.add w (value_s F env us)) (sym (o tt)) ∙ R.add_assoc _ _ _
    join_step false true t u us r o e = ap (F.add (value_t F env u)) e ∙ add_left (value_t F env u) (value_t F env t) (value_s F env us)
    join_step false false t u us r o e = refl

    join_sound : (t : Term) (us : List Term) → value_s F env (join t us) ≡ F.add (value_t F env t) (value_s F env us)
    join_sound t [] = refl
    join_sound t (u ∷ us) = join_step (opposite t u) (earlier u t) t u us (join t us) (opposite_sound t u) (join_sound t us)

    plus_sound : (ts us : List Term) → value_s F env (plus ts us) ≡ F.add (value_s F env ts) (value_s F env us)
    plus_sound [] us = sym (zero-add (value_s F env us))
    plus_sound (t ∷ ts) us = join_sound t (plus ts us) ∙ ap (F.add (value_t F env t)) (plus_sound ts us) ∙ sym (R.add_assoc _ _ _)

    signs_sound : (s t : Bool) (x y : K) → signed F env (signs s t) (F.mul x y) ≡ F.mul (signed F env s x) (signed F env t y)
    signs_sound true true x y = refl
    signs_sound true false x y = sym (mul-neg x y)
    signs_sound false true x y = sym (neg-mul x y)
    signs_sound false false x y = sym (neg-mul x (F.neg y) ∙ ap F.neg (mul-neg x y) ∙ neg-neg (F.mul x y))

    by_sound : (t u : Term) → value_t F env (by t u) ≡ F.mul (value_t F env t) (value_t F env u)
    by_sound (term s ms) (term t ns) = ap (signed F env (signs s t)) (times_sound ms ns) ∙ signs_sound s t (mono F env ms) (mono F env ns)

    scale_sound : (t : Term) (us : List Term) → value_s F env (scale t us) ≡ F.mul (value_t F env t) (value_s F env us)
    scale_sound t [] = sym (mul-zero (value_t F env t))
    scale_sound t (u ∷ us) = join_sound (by t u) (scale t us) ∙ ap₂ F.add (by_sound t u) (scale_sound t us) ∙ sym (R.mul-add _ _ _)

    prod_sound : (ts us : List Term) → value_s F env (prod ts us) ≡ F.mul (value_s F env ts) (value_s F env us)
    prod_sound [] us = sym (zero-mul (value_s F env us))
    prod_sound (t ∷ ts) us = plus_sound (scale t us) (prod ts us) ∙ ap₂ F.add (scale_sound t us) (prod_sound ts us) ∙ sym (add-mul _ _ _)

    flip_sound : (t : Term) → value_t F env (flip t) ≡ F.neg (value_t F env t)
    flip_sound (term true ms) = refl
    flip_sound (term false ms) = sym (neg-neg (mono F env ms))

    flips_sound : (ts : List Term) → value_s F env (flips ts) ≡ F.neg (value_s F env ts)
    flips_sound [] = sym neg-zero
    flips_sound (t ∷ ts) = ap₂ F.add (flip_sound t) (flips_sound ts) ∙ sym (neg-add _ _)

    pub norm_sound : (e : Ex) → value_s F env (norm e) ≡ value F env e
    norm_sound (var n) = R.add-zero _ ∙ R.mul-one _
    norm_sound 𝟘 = refl
    norm_sound 𝟙 = R.add-zero F.one
    norm_sound (e ⊕ f) = plus_sound (norm e) (norm f) ∙ ap₂ F.add (norm_sound e) (norm_sound f)
    norm_sound (e ⊗ f) = prod_sound (norm e) (norm f) ∙ ap₂ F.mul (norm_sound e) (norm_sound f)
    norm_sound (⊖ e) = flips_sound (norm e) ∙ ap F.neg (norm_sound e)

    pub ring : (e f : Ex) → norm e ≡ norm f → value F env e ≡ value F env f
    ring e f h = sym (norm_sound e) ∙ ap (value_s F env) h ∙ norm_sound f

-- ---- reading an expression off a value: `search reads` finds it, over a list of atoms
pub record At {K : Type 0} (F : FieldModel K) (env : List K) (x : K) : Type 0 where
  pub place : ℕ
  pub here : get_or env place F.zero ≡ x

pub record Read {K : Type 0} (F : FieldModel K) (env : List K) (x : K) : Type 0 where
  pub expr : Ex
  pub is : value F env expr ≡ x

abbrev pub at_first : {K : Type 0} {F : FieldModel K} {x : K} {env : List K} → At F (x ∷ env) x
at_first = record { place = 0; here = refl }

abbrev pub at_later : {K : Type 0} {F : FieldModel K} {x y : K} {env : List K} → At F env x → At F (y ∷ env) x
at_later a = record { place = suc a.place; here = a.here }

module _ {K : Type 0} {F : FieldModel K} {env : List K} where
  abbrev pub r_var : {x : K} → At F env x → Read F env x
  r_var a = record { expr = var a.place; is = a.here }

  abbrev pub r_zero : Read F env F.zero
  r_zero = record { expr = 𝟘; is = refl }

  abbrev pub r_one : Read F env F.one
  r_one = record { expr = 𝟙; is = refl }

  abbrev pub r_add : {x y : K} → Read F env x → Read F env y → Read F env (F.add x y)
  r_add r s = record { expr = r.expr ⊕ s.expr; is = ap₂ F.add r.is s.is }

  abbrev pub r_mul : {x y : K} → Read F env x → Read F env y → Read F env (F.mul x y)
  r_mul r s = record { expr = r.expr ⊗ s.expr; is = ap₂ F.mul r.is s.is }

  abbrev pub r_neg : {x : K} → Read F env x → Read F env (F.neg x)
  r_neg r = record { expr = ⊖ r.expr; is = ap F.neg r.is }

pub ruleset reads = (r_zero, r_one, r_add, r_mul, r_neg, r_var, at_first, at_later)

pub equate : {K : Type 0} {F : FieldModel K} (R : Ring F) (env : List K) {x y : K} (r : Read F env x) (s : Read F env y) → norm r.expr ≡ norm s.expr → x ≡ y
equate R env r s h = sym r.is ∙ ring R env r.expr s.expr h ∙ s.is

-- both sides at once: `solve R (a ∷ b ∷ []) (search reads depth 30) refl` proves an equation between sums of products of a and b
pub record Sides {K : Type 0} (F : FieldModel K) (env : List K) (x y : K) : Type 0 where
  pub left : Read F env x
  pub right : Read F env y

abbrev pub r_sides : {K : Type 0} {F : FieldModel K} {env : List K} {x y : K} → Read F env x → Read F env y → Sides F env x y
r_sides r s = record { left = r; right = s }

pub ruleset sides = (r_sides, reads)

pub solve : {K : Type 0} {F : FieldModel K} (R : Ring F) (env : List K) {x y : K} (b : Sides F env x y) → norm b.left.expr ≡ norm b.right.expr → x ≡ y
solve R env b h = equate R env b.left b.right h

-- from c ≡ d and c' ≡ d': x ≡ y, if x + k d + k' d' and y + k c + k' c' are the same
pub solve_by₂ : {K : Type 0} {F : FieldModel K} (R : Ring F) (env : List K) {x y c d c' d' : K} (k : K) → c ≡ d → (k' : K) → c' ≡ d' → (b : Sides F env (F.add (F.add x (F.mul k d)) (F.mul k' d')) (F.add (F.add y (F.mul k c)) (F.mul k' c'))) → norm b.left.expr ≡ norm b.right.expr → x ≡ y
solve_by₂ {F = F} R env {x} {y} {c} {d} {c'} {d'} k e k' e' b h =
    add_cancel R (F.add (F.mul k d) (F.mul k' d')) x y
    (R.add_comm _ x ∙ sym (R.add_assoc x (F.mul k d) (F.mul k' d')) ∙ solve R env b h
    ∙ ap₂ (λ u w. F.add (F.add y (F.mul k u)) (F.mul k' w)) e e' ∙ R.add_assoc y (F.mul k d) (F.mul k' d') ∙ R.add_comm y _)
