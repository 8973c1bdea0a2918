-- Values against counts: what honest values pass, and at how few points other values do. There is no run in it. Assumes nothing.
use Rattle.std.specs.Prelude.{◌≡◌, ℕ, suc, ◌≤◌, ◌≢◌, List, length, take, ℤ, ◌≤ℤ◌}
use Rattle.field.specs.Field.{FieldModel}
use Rattle.polynomial.specs.Lists.{Distinct}
use Rattle.std.specs.List.{AllByRecursion}
use Rattle.polynomial.specs.Sums.{list_sum}
use Rattle.polynomial.specs.Polynomials.{eval}
use Rattle.polynomial.specs.Interpolation.{interpolant}
use Rattle.polynomial.specs.Columns.{columns_at}
use Rattle.question.specs.Question.{QuestionModel, Fits, Within, LawfulQuestion}
use Rattle.protocol.specs.Asking.{claim_image, honest}

module _ {K : Type 0} (F : FieldModel K) (q : QuestionModel K) (h v : ℕ) where
  -- the first h values add up to the claim's image
  abbrev pub AddUp : List K → ℤ → Type 0
  AddUp vs c = list_sum F (take h vs) ≡ claim_image F c

  -- the polynomial through the values is, at the point r, the rule on the columns cs
  abbrev pub Agree : List K → K → List K → Type 0
  Agree vs r cs = eval F (interpolant F vs) r ≡ q.rule h v r cs

  -- of a board with the counts fs
  pub record ValuesOf (fs : List ℤ) : Type 0 where
    -- honest values pass at every point, and add up to the true count
    pub honest_agree : (r : K) → Agree (honest F h v q fs) r (columns_at F h v fs r)
    pub honest_add_up : AddUp (honest F h v q fs) (q.tally h v fs)
    -- values that add up to a false claim are unlike the honest ones
    pub false_unlike : (c : ℤ) (vs : List K) → q.least ≤ℤ c → c ≤ℤ q.greatest → AddUp vs c → c ≢ q.tally h v fs → vs ≢ honest F h v q fs
    -- values unlike the honest ones pass at no more points than the degree
    pub unlike_few : (vs : List K) → length vs ≡ suc (q.degree h) → vs ≢ honest F h v q fs → (rs : List K) → Distinct rs → AllByRecursion (λ r. Agree vs r (columns_at F h v fs r)) rs → length rs ≤ q.degree h

-- this holds of every lawful question on every grid that it fits, and of all counts that come to the limit at most
abbrev pub ValuesAgainstCounts : {K : Type 0} → FieldModel K → Type 0
ValuesAgainstCounts {K} F = (q : QuestionModel K) → LawfulQuestion F q → (h v : ℕ) → Fits q h v → (fs : List ℤ) → Within F h v fs → ValuesOf F q h v fs
