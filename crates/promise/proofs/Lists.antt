-- What holds of each element of a list, or of some. Assumes nothing.
use Rattle.std.proofs.Common.{List, [], ◌∷◌, inl, inr}
use Rattle.polynomial.specs.Lists.{AnyByRecursion}
use Rattle.std.specs.List.{AllByRecursion}

module _ {A : Type 0} (P Q : A → Type 0) where
  pub each_map : (xs : List A) → ((x : A) → P x → Q x) → AllByRecursion P xs → AllByRecursion Q xs
  each_map [] f h = tt
  each_map (x ∷ xs) f h = (f x h.0, each_map xs f h.1)

  pub any_map : (xs : List A) → ((x : A) → P x → Q x) → AnyByRecursion P xs → AnyByRecursion Q xs
  any_map [] f h = h
  any_map (x ∷ xs) f (inl p) = inl (f x p)
  any_map (x ∷ xs) f (inr h) = inr (any_map xs f h)

  pub each_both : (xs : List A) → AllByRecursion P xs → AllByRecursion Q xs → AllByRecursion (λ x. P x × Q x) xs
  each_both [] p q = tt
  each_both (x ∷ xs) p q = ((p.0, q.0), each_both xs p.1 q.1)

  -- an element of which P holds, and then Q too
  pub pick : (xs : List A) → AnyByRecursion P xs → AllByRecursion Q xs → (x : A) × P x × Q x
  pick [] h e = absurd h
  pick (x ∷ xs) (inl p) e = (x, p, e.0)
  pick (x ∷ xs) (inr h) e = pick xs h e.1
