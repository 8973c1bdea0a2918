-- Which bytes are a sheet, and which fault is the first of bytes that are none. Assumes nothing.
use Rattle.std.specs.Prelude.{◌≡◌, ℕ, suc, List, [], ◌∷◌, map, length, ℤ, pos, ◌≤ℤ◌}
use Rattle.std.specs.List.{AllByRecursion}
use Rattle.field.specs.Field.{FieldModel, PartsOf}
use Rattle.refusal.specs.declared.fault.Fault.{Fault}
use Rattle.text.specs.Marks.{marks, Layout}
use Rattle.text.specs.Forms.{whole_form, Breaks}
use Rattle.sheet.specs.declared.terms.Terms.{Terms}
use Rattle.sheet.specs.Lines.{sheet_lines}

-- pairs of parts as the numbers that a sheet states
abbrev pub part_numbers : List (ℕ × ℕ) → List ℤ
part_numbers [] = []
part_numbers (v ∷ vs) = pos v.0 ∷ pos v.1 ∷ part_numbers vs

module _ {K : Type 0} (F : FieldModel K) where
  -- the parts of elements
  abbrev pub parts_of : List K → List (ℕ × ℕ)
  parts_of xs = map (λ x. (F.low x, F.high x)) xs

  -- the numbers of the sheet that states the claim c and the values xs
  abbrev pub sheet_numbers : ℤ → List K → List ℤ
  sheet_numbers c xs = c ∷ part_numbers (parts_of xs)

  -- the bytes are a sheet that states the claim c and the values xs
  pub record Sheet (t : Terms) (c : ℤ) (xs : List K) (bs : List ℕ) : Type 0 where
    pub layout : Layout (marks (whole_form (sheet_lines F t)) (sheet_numbers c xs)) [] bs
    pub least : t.least ≤ℤ c
    pub greatest : c ≤ℤ t.greatest
    pub count : length xs ≡ suc t.degree

  -- an element made of parts within their range
  pub record Made (x : K) : Type 0 where
    pub low : ℕ
    pub high : ℕ
    pub parts : PartsOf F low high
    pub is : x ≡ F.make low high

  -- what the terms allow: a claim between the limits, and degree + 1 values
  pub record Allowed (t : Terms) (c : ℤ) (xs : List K) : Type 0 where
    pub least : t.least ≤ℤ c
    pub greatest : c ≤ℤ t.greatest
    pub count : length xs ≡ suc t.degree
    pub made : AllByRecursion Made xs

  -- the first fault of the bytes, with its line and its place: there they first break the form of a sheet
  abbrev pub FirstFault : Terms → List ℕ → Fault → ℕ → ℕ → Type 0
  FirstFault t bs fault line place = Breaks (sheet_lines F t) bs fault line place
