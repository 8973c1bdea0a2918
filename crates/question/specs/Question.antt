-- A question about a board's counts: what it means, and what makes it lawful. Assumes nothing.
use Rattle.std.specs.Prelude.{◌≡◌, ℕ, suc, ◌-◌, ◌*◌, ◌≤◌, Bool, true, if◌then◌else◌, List, map, length, ℤ, pos, ◌-ℤ◌, neg_ℤ, ◌≤ℤ◌, ◌<ℤ◌}
use Rattle.field.specs.Field.{FieldModel}
use Rattle.board.specs.Grids.{grid_allowed}
use Rattle.board.specs.Ledger.{abs_sum}
use Rattle.std.specs.List.{AllByRecursion}
use Rattle.polynomial.specs.Sums.{sum_from}
use Rattle.polynomial.specs.Polynomials.{eval}
use Rattle.polynomial.specs.Interpolation.{node}
use Rattle.polynomial.specs.Columns.{row_images}
use Rattle.question.specs.declared.fit.Fit.{Fit}
use Rattle.question.specs.declared.fit.Fit.TheVariants as fit
use Rattle.board.specs.declared.tag.Tag.{Tag}

-- the meaning of a question over a field with the elements K
pub record QuestionModel (K : Type 0) : Type 0 where
  -- whether it fits a grid of h rows and v columns
  pub fits : ℕ → ℕ → Fit
  -- its degree D on h rows
  pub degree : ℕ → ℕ
  -- the least and the greatest claim
  pub least : ℤ
  pub greatest : ℤ
  pub tag : Tag
  -- the true count, from h, v and the counts
  pub tally : ℕ → ℕ → List ℤ → ℤ
  -- an element, from h, v, a point and the v columns there
  pub rule : ℕ → ℕ → K → List K → K

-- it fits where the test holds
abbrev pub fits_if : Bool → Fit
fits_if b = if b then fit.Fits else fit.DoesNotFit

-- an allowed grid that the question fits
pub record Fits {K : Type 0} (q : QuestionModel K) (h v : ℕ) : Type 0 where
  pub grid : grid_allowed h v ≡ true
  pub fit : q.fits h v ≡ fit.Fits

-- a count for each cell, whose absolute values come to the field's limit at most
pub record Within {K : Type 0} (F : FieldModel K) (h v : ℕ) (fs : List ℤ) : Type 0 where
  pub size : length fs ≡ h * v
  pub light : abs_sum fs ≤ F.limit

-- one polynomial of degree at most D that equals the rule on the polynomials ps at every point
pub record Follows {K : Type 0} (F : FieldModel K) (q : QuestionModel K) (h v : ℕ) (ps : List (List K)) : Type 0 where
  pub poly : List K
  pub short : length poly ≤ suc (q.degree h)
  pub value : (X : K) → eval F poly X ≡ q.rule h v X (map (λ p. eval F p X) ps)

-- the numbers of a tag are from 0 to 4,294,967,295
abbrev pub SmallTag : Tag → Type 0
SmallTag t = (t.kind ≤ 4294967295) × (t.first ≤ 4294967295) × (t.second ≤ 4294967295)

-- what a question has to show
pub record LawfulQuestion {K : Type 0} (F : FieldModel K) (q : QuestionModel K) : Type 0 where
  pub tag_small : SmallTag q.tag
  -- h − 1 ≤ D ≤ 4 (h − 1)
  pub degree_least : (h v : ℕ) → Fits q h v → h - 1 ≤ q.degree h
  pub degree_most : (h v : ℕ) → Fits q h v → q.degree h ≤ 4 * (h - 1)
  -- on v polynomials of degree at most h − 1 the rule is a polynomial of degree at most D
  pub polynomial : (h v : ℕ) → Fits q h v → (ps : List (List K)) → length ps ≡ v → AllByRecursion (λ p. length p ≤ h) ps → Follows F q h v ps
  -- the rule at the rows, on the counts there, adds up to the image of the true count
  pub rows_add_up : (h v : ℕ) → Fits q h v → (fs : List ℤ) → Within F h v fs → sum_from F 0 h (λ x. q.rule h v (node F x) (row_images F v fs x)) ≡ F.image (q.tally h v fs)
  -- the true count is among the claims
  pub tally_least : (h v : ℕ) → Fits q h v → (fs : List ℤ) → Within F h v fs → q.least ≤ℤ q.tally h v fs
  pub tally_most : (h v : ℕ) → Fits q h v → (fs : List ℤ) → Within F h v fs → q.tally h v fs ≤ℤ q.greatest
  -- different claims have different images
  pub narrow : (h v : ℕ) → Fits q h v → (q.greatest -ℤ q.least) <ℤ pos F.characteristic
  pub least_range : (h v : ℕ) → Fits q h v → (neg_ℤ (pos F.characteristic) <ℤ q.least) × (q.least <ℤ pos F.characteristic)
  pub greatest_range : (h v : ℕ) → Fits q h v → (neg_ℤ (pos F.characteristic) <ℤ q.greatest) × (q.greatest <ℤ pos F.characteristic)
