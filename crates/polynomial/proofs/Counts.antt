-- Points that are each a root of one of several polynomials are no more than the degrees come to. Assumes nothing but the laws of the field.
use Rattle.std.proofs.Common.{◌≡◌, ◌+◌, ◌≤◌, ◌⊎◌, List, [], ◌∷◌, length, refl, inl, inr, arith}
use Rattle.field.specs.Field.{FieldModel, LawfulField}
use Rattle.polynomial.specs.Lists.{AnyByRecursion, Distinct}
use Rattle.std.specs.List.{AllByRecursion}
use Rattle.polynomial.specs.Polynomials.{Root, Counting}
use Rattle.polynomial.proofs.Roots.{root_bound}

module _ {A : Type 0} where
  -- xs is split into the elements of ys and those of zs
  pub data Split : List A → List A → List A → Type 0 where
    none : Split [] [] []
    first : {x : A} {xs ys zs : List A} → Split xs ys zs → Split (x ∷ xs) (x ∷ ys) zs
    second : {x : A} {xs ys zs : List A} → Split xs ys zs → Split (x ∷ xs) ys (x ∷ zs)

  pub split_length : {xs ys zs : List A} → Split xs ys zs → length xs ≡ length ys + length zs
  split_length none = refl
  split_length (first s) = let e = split_length s in omega arith
  split_length (second s) = let e = split_length s in omega arith

  pub each_first : (P : A → Type 0) {xs ys zs : List A} → Split xs ys zs → AllByRecursion P xs → AllByRecursion P ys
  each_first P none h = tt
  each_first P (first s) h = (h.0, each_first P s h.1)
  each_first P (second s) h = each_first P s h.1

  pub each_second : (P : A → Type 0) {xs ys zs : List A} → Split xs ys zs → AllByRecursion P xs → AllByRecursion P zs
  each_second P none h = tt
  each_second P (first s) h = each_second P s h.1
  each_second P (second s) h = (h.0, each_second P s h.1)

  pub distinct_first : {xs ys zs : List A} → Split xs ys zs → Distinct xs → Distinct ys
  distinct_first none h = tt
  distinct_first (first s) h = (each_first _ s h.0, distinct_first s h.1)
  distinct_first (second s) h = distinct_first s h.1

  pub distinct_second : {xs ys zs : List A} → Split xs ys zs → Distinct xs → Distinct zs
  distinct_second none h = tt
  distinct_second (first s) h = distinct_second s h.1
  distinct_second (second s) h = (each_second _ s h.0, distinct_second s h.1)

  -- each element has one of two properties: split by them
  pub record Sorted (P Q : A → Type 0) (xs : List A) : Type 0 where
    pub left : List A
    pub right : List A
    pub split : Split xs left right
    pub lefts : AllByRecursion P left
    pub rights : AllByRecursion Q right

  pub sort : {P Q : A → Type 0} (xs : List A) → AllByRecursion (λ x. P x ⊎ Q x) xs → Sorted P Q xs
  sort [] h = record { left = []; right = []; split = none; lefts = tt; rights = tt }
  sort {P} {Q} (x ∷ xs) h = go h.0 (sort xs h.1)
    where
      go : P x ⊎ Q x → Sorted P Q xs → Sorted P Q (x ∷ xs)
      go (inl p) s = record { left = x ∷ s.left; right = s.right; split = first s.split; lefts = (p, s.lefts); rights = s.rights }
      go (inr q) s = record { left = s.left; right = x ∷ s.right; split = second s.split; lefts = s.lefts; rights = (q, s.rights) }

module _ {K : Type 0} {F : FieldModel K} (L : LawfulField F) where
  no_points : (rs : List K) → AllByRecursion (λ r. ⊥) rs → length rs ≤ 0
  no_points [] h = omega arith
  no_points (r ∷ rs) h = absurd h.0

  pub counting : Counting F
  counting [] rs ds h = no_points rs h
  counting (b ∷ bs) rs ds h =
      let s : Sorted (Root F b.poly) (λ r. AnyByRecursion (λ c. Root F c.poly r) bs) rs = sort rs h in
      let m = root_bound L b.degree b.poly b.fits b.nonzero s.left (distinct_first s.split ds) s.lefts in
      let n = counting bs s.right (distinct_second s.split ds) s.rights in
      omega (arith, split_length s.split)
