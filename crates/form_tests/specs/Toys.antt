-- A form of two lines: its items, and what reading and writing it come to. Assumes nothing.
use Rattle.std.specs.Prelude.{◌≡◌, ℕ, ◌^◌, ◌<◌, List, [], ◌∷◌, ◌++◌, ℤ, pos, negsuc, ◌≤ℤ◌, slice_index_or, Ok, Err, Result}
use Rattle.refusal.specs.declared.fault.Fault.TheVariants as fault
use Rattle.refusal.specs.declared.refusal.Refusal.{Refusal}
use Rattle.text.specs.declared.keyword.Keyword.TheVariants.{Grid, At}
use Rattle.text.specs.Items.{Fixed.opening, Fixed.closing, Fixed.line_end, Fixed.word, Item, Item.the, Item.given, Item.stated}
use Rattle.text.specs.Forms.{whole_form, form_reading}
use Rattle.writer.specs.Texts.{form_text}

-- the first line: a number that is given
abbrev pub grid_line : ℕ → List Item
grid_line n = the opening ∷ the (word Grid) ∷ given n fault.Grid ∷ the closing ∷ the line_end ∷ []

-- the second line: two numbers that the text states
abbrev pub at_line : List Item
at_line = the opening ∷ the (word At) ∷ stated (pos 0) (pos 9) fault.Part ∷ stated (negsuc 4) (pos 5) fault.Claim ∷ the closing ∷ the line_end ∷ []

-- both lines
abbrev pub toy_lines : ℕ → List Item
toy_lines n = grid_line n ++ at_line

-- of the numbers that a text states, the first two
abbrev pub first_two : Result (List ℤ) Refusal → Result (ℤ × ℤ) Refusal
first_two (Ok zs) = Ok (slice_index_or zs 0 (pos 0), slice_index_or zs 1 (pos 0))
first_two (Err r) = Err r

-- what reading gives
abbrev pub toy_reading : ℕ → List ℕ → Result (ℤ × ℤ) Refusal
toy_reading n bs = first_two (form_reading (toy_lines n) bs)

-- the text that is written
abbrev pub toy_text : ℕ → ℤ → ℤ → List ℕ
toy_text n a b = form_text (whole_form (toy_lines n)) (a ∷ b ∷ [])

-- what is written is read back
abbrev pub ToysReadBack : Type 0
ToysReadBack = (n : ℕ) (a b : ℤ) → n < 10 ^ 10 → pos 0 ≤ℤ a → a ≤ℤ pos 9 → negsuc 4 ≤ℤ b → b ≤ℤ pos 5 → toy_reading n (toy_text n a b) ≡ Ok (a, b)
