-- Forms: what reading a text under a form gives, what the text states, and where it first breaks the form. Assumes nothing.
use Rattle.std.specs.Prelude.{◌≡◌, ℕ, suc, ◌≤◌, List, [], ◌∷◌, ◌++◌, length, take, drop, ℤ, Ok, Err, Result}
use Rattle.refusal.specs.declared.fault.Fault.{Fault}
use Rattle.refusal.specs.declared.refusal.Refusal.{Refusal}
use Rattle.refusal.specs.declared.refusal.Refusal.TheVariants.{Sheet}
use Rattle.text.specs.Tokens.{leading_spaces, line_ends_in, token_at, cursor_start}
use Rattle.text.specs.Items.{Fixed.text_end, Item, Item.the, Verdict.wrong, item_verdict, Passed, items_pass}
use Rattle.text.specs.Marks.{marks, InRanges, Layout}

-- the items of a form's lines, and nothing but spaces behind them
abbrev pub whole_form : List Item → List Item
whole_form ds = ds ++ the text_end ∷ []

-- the numbers kept of a pass, or its refusal
abbrev pub kept_numbers : Passed → Result (List ℤ) Refusal
kept_numbers (Ok p) = Ok p.0
kept_numbers (Err r) = Err r

-- the numbers that a text states under a form, or its first fault
abbrev pub form_reading : List Item → List ℕ → Result (List ℤ) Refusal
form_reading ds bs = kept_numbers (items_pass (whole_form ds) [] (cursor_start bs))

-- the bytes are laid out as the form has it, and state the numbers zs
pub record States (ds : List Item) (zs : List ℤ) (bs : List ℕ) : Type 0 where
  pub ranges : InRanges (whole_form ds) zs
  pub layout : Layout (marks (whole_form ds) zs) [] bs

-- where the bytes first break a form: up to that place they are laid out as the form has it, and what stands there is not what is next
pub record Breaks (ds : List Item) (bs : List ℕ) (fault : Fault) (line place : ℕ) : Type 0 where
  pub before : List Item
  pub here : Item
  pub later : List Item
  pub form : whole_form ds ≡ before ++ here ∷ later
  pub numbers : List ℤ
  pub ranges : InRanges before numbers
  pub layout : Layout (marks before numbers) (drop place bs) bs
  pub inside : place ≤ length bs
  pub no_space : leading_spaces (drop place bs) ≡ 0
  pub verdict : item_verdict here (token_at (drop place bs)) ≡ wrong fault
  pub line_is : line ≡ suc (line_ends_in (take place bs))

-- reading under a form gives numbers exactly where the bytes state them
abbrev pub ReadsForms : Type 0
ReadsForms = (ds : List Item) (bs : List ℕ) (zs : List ℤ) → (form_reading ds bs ≡ Ok zs → States ds zs bs) × (States ds zs bs → form_reading ds bs ≡ Ok zs)

-- it tells a fault with a line and a place exactly where the bytes first break the form
abbrev pub TellsBreaks : Type 0
TellsBreaks =
    (ds : List Item) (bs : List ℕ) (f : Fault) (l p : ℕ)
    → (form_reading ds bs ≡ Err (Sheet f l p) → Breaks ds bs f l p) × (Breaks ds bs f l p → form_reading ds bs ≡ Err (Sheet f l p))

-- it refuses with nothing but a fault
abbrev pub RefusesForms : Type 0
RefusesForms = (ds : List Item) (bs : List ℕ) (r : Refusal) → form_reading ds bs ≡ Err r → (f : Fault) × (l : ℕ) × (p : ℕ) × (r ≡ Sheet f l p)
