-- Lists: what holds of their elements, and lists made from a function of the place. Assumes nothing.
use Rattle.std.specs.Prelude.{ℕ, zero, suc, ◌≢◌, ◌⊎◌, List, [], ◌∷◌}
use Rattle.std.specs.List.{AllByRecursion}

module _ {A : Type 0} where
  -- P holds of some element
  abbrev pub AnyByRecursion : (A → Type 0) → List A → Type 0
  AnyByRecursion P [] = ⊥
  AnyByRecursion P (x ∷ xs) = P x ⊎ AnyByRecursion P xs

  -- no element stands twice
  abbrev pub Distinct : List A → Type 0
  Distinct [] = Unit {0}
  Distinct (x ∷ xs) = AllByRecursion (λ y. x ≢ y) xs × Distinct xs

  -- f j, f (j + 1), .., n of them
  abbrev pub listed : ℕ → ℕ → (ℕ → A) → List A
  listed j zero f = []
  listed j (suc n) f = f j ∷ listed (suc j) n f
