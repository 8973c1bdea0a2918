-- On one row no false claim is accepted anywhere. Assumes nothing but the laws of the field and of the questions.
use Rattle.std.proofs.Common.{◌≡◌, ℕ, ◌≤◌, Bool, true, false, cond, List, [], ◌∷◌, refl, arith}
use Rattle.field.specs.Field.{FieldModel, LawfulField}
use Rattle.board.specs.declared.moves.Move.{Move}
use Rattle.board.specs.Grids.{grid_allowed}
use Rattle.std.specs.List.{AllByRecursion}
use Rattle.question.specs.Question.{LawfulQuestion}
use Rattle.promise.specs.Claims.{Entry, claims_falsely, false_degrees}
use Rattle.promise.specs.Adequacy.{NoneOnOneRow}
use Rattle.promise.proofs.Tests.{false_claim}
use Rattle.promise.proofs.Boxes.{settled}
use Rattle.promise.proofs.FalseClaims.{few_points}

module _ {K : Type 0} (F : FieldModel K) where
  -- the degrees of lawful questions on one row are 0
  no_degrees : (v : ℕ) (ms : List Move) → grid_allowed 1 v ≡ true → (es : List (Entry K)) → AllByRecursion (λ e. LawfulQuestion F e.question) es → false_degrees F 1 v ms es ≤ 0
  no_degrees v ms g [] Q = omega arith
  no_degrees v ms g (e ∷ es) Q = let here = go (claims_falsely F 1 v ms e) refl in omega (arith, here, no_degrees v ms g es Q.1)
    where
      go : (b : Bool) → claims_falsely F 1 v ms e ≡ b → cond (claims_falsely F 1 v ms e) (e.question.degree 1) 0 ≤ 0
      go true f = rw f (omega (arith, Q.0.degree_most 1 v (record { grid = g; fit = (false_claim F 1 v ms e f).fit })))
      go false f = rw f (omega arith)

pub none_on_one_row : {K : Type 0} {F : FieldModel K} → LawfulField F → NoneOnOneRow F
none_on_one_row L v ms es Q [] a = refl
none_on_one_row {K} {F} L v ms es Q (r ∷ rs) a =
    let allowed = (settled L 1 v ms r a.0.judges.run).holds.allowed in
    absurd (omega (arith, few_points L 1 v ms es Q (r ∷ []) (tt, tt) (a.0, tt), no_degrees F v ms allowed es Q))
