-- What is written is read back, and fits the paper. Assumes nothing.
use Rattle.std.specs.Prelude.{◌≡◌, suc, ◌^◌, ◌<◌, ◌≤◌, List, [], ◌∷◌, length, ℤ, ◌≤ℤ◌, Ok, unsigned_abs}
use Rattle.field.specs.Field.{FieldModel}
use Rattle.text.specs.Items.{Fixed.opening, Fixed.closing, Fixed.line_end, Fixed.text_end, Fixed.word, Item}
use Rattle.text.specs.Marks.{Mark, Mark.fixed, Mark.number, marks, InRanges}
use Rattle.text.specs.Forms.{whole_form, form_reading}
use Rattle.sheet.specs.declared.terms.Terms.{Terms}
use Rattle.sheet.specs.Readings.{reading}
use Rattle.writer.specs.declared.limits.TheConstants.{MOST_VALUES, ENOUGH_PAPER}
use Rattle.writer.specs.Texts.{form_text, text}

-- numbers have at most ten digits, and nothing is behind the text's end
abbrev pub Tidy : List Mark → Type 0
Tidy [] = Unit {0}
Tidy (fixed opening ∷ ms) = Tidy ms
Tidy (fixed closing ∷ ms) = Tidy ms
Tidy (fixed line_end ∷ ms) = Tidy ms
Tidy (fixed text_end ∷ ms) = ms ≡ []
Tidy (fixed (word k) ∷ ms) = Tidy ms
Tidy (number z ∷ ms) = (unsigned_abs z < 10 ^ 10) × Tidy ms

-- whatever the form, what is written of numbers in their ranges is read back
abbrev pub FormsReadBack : Type 0
FormsReadBack = (ds : List Item) (zs : List ℤ) → InRanges (whole_form ds) zs → Tidy (marks (whole_form ds) zs) → form_reading ds (form_text (whole_form ds) zs) ≡ Ok zs

-- the grid and the tag are numbers of at most ten digits
pub record TenDigits (t : Terms) : Type 0 where
  pub rows_fit : t.rows < 10 ^ 10
  pub columns_fit : t.columns < 10 ^ 10
  pub kind_fits : t.tag.kind < 10 ^ 10
  pub first_fits : t.tag.first < 10 ^ 10
  pub second_fits : t.tag.second < 10 ^ 10

-- what a sheet may state: a claim of at most ten digits between the limits, and degree + 1 values
pub record Statable {K : Type 0} (t : Terms) (c : ℤ) (xs : List K) : Type 0 where
  pub terms_fit : TenDigits t
  pub degree_fits : t.degree < 10 ^ 10
  pub claim_fits : unsigned_abs c < 10 ^ 10
  pub least : t.least ≤ℤ c
  pub greatest : c ≤ℤ t.greatest
  pub count : length xs ≡ suc t.degree

-- a sheet that is written is read back
abbrev pub ReadsBack : {K : Type 0} → FieldModel K → Type 0
ReadsBack {K} F = (t : Terms) (c : ℤ) (xs : List K) → Statable t c xs → reading F t (text F t c xs) ≡ Ok (c, xs)

-- the paper that is enough suffices for the most values and a claim of at most 19 digits
abbrev pub TextFits : {K : Type 0} → FieldModel K → Type 0
TextFits {K} F = (t : Terms) (c : ℤ) (xs : List K) → TenDigits t → unsigned_abs c < 10 ^ 19 → length xs ≤ MOST_VALUES → length (text F t c xs) ≤ ENOUGH_PAPER
