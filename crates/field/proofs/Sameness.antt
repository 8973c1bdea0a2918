-- What sameness and the inverse say of elements. Assumes nothing.
use Rattle.std.proofs.Common.{◌≡◌, Bool, true, false, ◌&&◌, eqb, ◌≢◌, ◌⊎◌, Some, None, if◌then◌else◌, sym, refl, ap, ◌∙◌, ap₂, inl, inr, eq-eqb, eqb-true}
use borrow.Author.Tests.{clash}
use Rattle.field.specs.Field.{FieldModel, LawfulField, Parts, same, inverse}
use Rattle.field.proofs.Consequences.{factor_zero}

-- both parts of a test that holds
left : (a b : Bool) → (a && b) ≡ true → a ≡ true
left true b e = refl
left false b e = absurd (clash e)

right : (a b : Bool) → (a && b) ≡ true → b ≡ true
right true b e = e
right false b e = absurd (clash e)

module _ {K : Type 0} {F : FieldModel K} (P : Parts F) where
  pub agree : (x y : K) → F.low x ≡ F.low y → F.high x ≡ F.high y → x ≡ y
  agree x y l h = sym (P.make_parts x) ∙ ap₂ F.make l h ∙ P.make_parts y

  pub same_true : (x y : K) → same F x y ≡ true → x ≡ y
  same_true x y e =
      agree x y
      (eqb-true _ _ (left (eqb (F.low x) (F.low y)) (eqb (F.high x) (F.high y)) e))
      (eqb-true _ _ (right (eqb (F.low x) (F.low y)) (eqb (F.high x) (F.high y)) e))

  pub same_self : (x : K) → same F x x ≡ true
  same_self x = ap₂ ◌&&◌ (eq-eqb (F.low x) (F.low x) refl) (eq-eqb (F.high x) (F.high x) refl)

  pub same_eq : (x y : K) → x ≡ y → same F x y ≡ true
  same_eq x y e = ap (same F x) (sym e) ∙ same_self x

  decide : (x y : K) (b : Bool) → same F x y ≡ b → ((x ≡ y) × (same F x y ≡ true)) ⊎ ((x ≢ y) × (same F x y ≡ false))
  decide x y true e = inl (same_true x y e, e)
  decide x y false e = inr (λ p. clash (sym e ∙ same_eq x y p), e)

  pub decided : (x y : K) → ((x ≡ y) × (same F x y ≡ true)) ⊎ ((x ≢ y) × (same F x y ≡ false))
  decided x y = decide x y (same F x y) refl

  pub some_inverse : (x : K) → x ≢ F.zero → inverse F x ≡ Some (F.inv x)
  some_inverse x n = elim (decided x F.zero) [ inl e ↦ absurd (n e.0) | inr e ↦ ap (λ b. if b then None else Some (F.inv x)) e.1 ]

  pub none_inverse : (x : K) → x ≡ F.zero → inverse F x ≡ None
  none_inverse x e = ap (λ b. if b then None else Some (F.inv x)) (same_eq x F.zero e)

module _ {K : Type 0} {F : FieldModel K} (L : LawfulField F) where
  -- a square is zero only at zero
  pub square_zero : (x : K) → F.mul x x ≡ F.zero → x ≡ F.zero
  square_zero x e = elim (decided L.parts x F.zero) [ inl s ↦ s.0 | inr s ↦ factor_zero L x x e s.0 ]
