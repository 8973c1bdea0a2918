-- The text that is written of items, and of a sheet: no leading zeros, one space between tokens, none just inside a bracket or at either end of a line. Assumes nothing.
use Rattle.std.specs.Prelude.{ℕ, Bool, true, false, cond, ◌&&◌, List, [], ◌∷◌, ◌++◌, length, ℤ}
use Rattle.std.specs.Fmt.{signed_decimal}
use Rattle.field.specs.Field.{FieldModel}
use Rattle.text.specs.Items.{Fixed.opening, Fixed.closing, Fixed.line_end, Fixed.text_end, Fixed.word, Item}
use Rattle.text.specs.Marks.{Mark, Mark.fixed, Mark.number, marks, fixed_bytes}
use Rattle.text.specs.Forms.{whole_form}
use Rattle.sheet.specs.declared.terms.Terms.{Terms}
use Rattle.sheet.specs.Lines.{counted_lines}
use Rattle.sheet.specs.Sheets.{sheet_numbers}

-- whether a space may follow: not inside a bracket, nor at the start of a line
abbrev pub spaced_after : Mark → Bool
spaced_after (fixed opening) = false
spaced_after (fixed closing) = true
spaced_after (fixed line_end) = false
spaced_after (fixed text_end) = false
spaced_after (fixed (word k)) = true
spaced_after (number z) = true

-- whether a space may stand before: not inside a bracket, nor at the end of a line
abbrev pub spaced_before : Mark → Bool
spaced_before (fixed opening) = true
spaced_before (fixed closing) = false
spaced_before (fixed line_end) = false
spaced_before (fixed text_end) = false
spaced_before (fixed (word k)) = true
spaced_before (number z) = true

-- the bytes of a mark: a number as it is written in decimal
abbrev pub mark_bytes : Mark → List ℕ
mark_bytes (fixed x) = fixed_bytes x
mark_bytes (number z) = signed_decimal z

-- the bytes of a mark, after a space where the mark before it and this one allow it
abbrev pub spaced_bytes : Bool → Mark → List ℕ
spaced_bytes space m = cond (space && spaced_before m) (32 ∷ []) [] ++ mark_bytes m

-- marks after one that allows a space or not
abbrev pub written_on : Bool → List Mark → List ℕ
written_on space [] = []
written_on space (m ∷ ms) = spaced_bytes space m ++ written_on (spaced_after m) ms

-- the text of items that state the numbers zs
abbrev pub form_text : List Item → List ℤ → List ℕ
form_text ds zs = written_on false (marks ds zs)

-- the text of the sheet that states the claim c and the values xs
abbrev pub text : {K : Type 0} → FieldModel K → Terms → ℤ → List K → List ℕ
text F t c xs = form_text (whole_form (counted_lines F t (length xs))) (sheet_numbers F c xs)
