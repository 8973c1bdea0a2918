-- The value at a point of the polynomial through given values, in one pass over them and without a division by the point. Assumes nothing.
use Rattle.std.specs.Prelude.{◌≡◌, ℕ, zero, suc, ◌≤◌, List, [], ◌∷◌, length}
use Rattle.field.specs.Field.{FieldModel}
use Rattle.polynomial.specs.Polynomials.{sub, eval}
use Rattle.polynomial.specs.Interpolation.{node, interpolant}

module _ {K : Type 0} (F : FieldModel K) where
  -- the first weight: the product of 1 / (0 − k) over the k from 1 to d
  abbrev pub first_weight : ℕ → K
  first_weight zero = F.one
  first_weight (suc d) = F.mul (F.inv (sub F (node F 0) (node F (suc d)))) (first_weight d)

  -- the weight after w, the one of j: w (j − d) / (j + 1)
  abbrev pub next_weight : ℕ → ℕ → K → K
  next_weight d j w = F.mul (F.mul w (sub F (node F j) (node F d))) (F.inv (node F (suc j)))

  -- at the value of j, w is the product of 1 / (j − k) over the k from 0 to d but j, and l the product of X − k over the k below j
  abbrev pub pass_from : ℕ → K → List K → ℕ → K → K → K → K
  pass_from d X [] j w l acc = acc
  pass_from d X (v ∷ vs) j w l acc =
      pass_from d X vs (suc j) (next_weight d j w) (F.mul l (sub F X (node F j))) (F.add (F.mul acc (sub F X (node F j))) (F.mul (F.mul v w) l))

  -- the whole pass over the values v and vs: d is the length of vs
  abbrev pub one_pass : K → K → List K → K
  one_pass X v vs = pass_from (length vs) X (v ∷ vs) 0 (first_weight (length vs)) F.one F.zero

-- one pass gives the value of the polynomial through the values, at the nodes too
abbrev pub OnePass : {K : Type 0} → FieldModel K → Type 0
OnePass {K} F = (v : K) (vs : List K) (X : K) → length vs ≤ 65536 → one_pass F X v vs ≡ eval F (interpolant F (v ∷ vs)) X
