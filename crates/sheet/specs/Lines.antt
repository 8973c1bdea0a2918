-- The lines of a sheet: the items of each, and of all. Assumes nothing.
use Rattle.std.specs.Prelude.{ℕ, zero, suc, List, [], ◌∷◌, ◌++◌, pos, ◌-ℤ◌}
use Rattle.field.specs.Field.{FieldModel, high_limit}
use Rattle.refusal.specs.declared.fault.Fault.TheVariants as fault
use Rattle.text.specs.declared.keyword.Keyword.TheVariants.{Sheet, Grid, Claim, At, End}
use Rattle.text.specs.Items.{Fixed.opening, Fixed.closing, Fixed.line_end, Fixed.word, Item, Item.the, Item.given, Item.stated}
use Rattle.sheet.specs.declared.terms.Terms.{Terms}

-- a part below n
abbrev pub part_below : ℕ → Item
part_below n = stated (pos 0) (pos n -ℤ pos 1) fault.Part

-- the claim's line: the question's tag, and the claim
abbrev pub claim_line : Terms → List Item
claim_line t =
    the opening ∷ the (word Claim) ∷ the opening ∷ given t.tag.kind fault.Tag ∷ given t.tag.first fault.Tag ∷ given t.tag.second fault.Tag ∷ the closing
    ∷ stated t.least t.greatest fault.Claim ∷ the closing ∷ the line_end ∷ []

-- the last line
abbrev pub end_line : List Item
end_line = the opening ∷ the (word End) ∷ the closing ∷ the line_end ∷ []

module _ {K : Type 0} (F : FieldModel K) where
  -- the first line: the field and the grid
  abbrev pub sheet_line : Terms → List Item
  sheet_line t =
      the opening ∷ the (word Sheet) ∷ given F.characteristic fault.Field ∷ given F.degree fault.Field
      ∷ the opening ∷ the (word Grid) ∷ given t.rows fault.Grid ∷ given t.columns fault.Grid ∷ the closing ∷ the closing ∷ the line_end ∷ []

  -- value line j: the parts of a value
  abbrev pub value_line : ℕ → List Item
  value_line j =
      the opening ∷ the (word At) ∷ given j fault.Index ∷ the opening ∷ part_below F.characteristic ∷ part_below (high_limit F.characteristic F.degree) ∷ the closing
      ∷ the closing ∷ the line_end ∷ []

  -- n value lines from line j on, and the last line
  abbrev pub value_lines : ℕ → ℕ → List Item
  value_lines j zero = end_line
  value_lines j (suc n) = value_line j ++ value_lines (suc j) n

  -- all lines of a sheet with n values: the first, the claim's, the value lines and the last
  abbrev pub counted_lines : Terms → ℕ → List Item
  counted_lines t n = sheet_line t ++ (claim_line t ++ value_lines 0 n)

  -- all lines of a sheet, which has degree + 1 values
  abbrev pub sheet_lines : Terms → List Item
  sheet_lines t = counted_lines t (suc t.degree)
