-- Cells that one call after another fills alike. Assumes nothing.
use Rattle.std.proofs.Common.{◌≡◌, List, [], ◌∷◌, length, replicate, refl, subst}
use Rattle.std.specs.List.{FoldsTo}

-- what calls give that each give x and change nothing
pub all_alike : {P A : Type 0} (R : P → A → P → Type 0) (x : A) (p q : P) (xs : List A) → ((y : A) (r : P) → R p y r → (y ≡ x) × (r ≡ p)) → FoldsTo R p xs q → xs ≡ replicate (length xs) x
all_alike R x p q [] same ran = refl
all_alike R x p q (y ∷ ys) same (r, now, later) =
    let h = same y r now in λ i. h.0 i ∷ all_alike R x p q ys same (subst (λ s. FoldsTo R s ys q) h.1 later) i
