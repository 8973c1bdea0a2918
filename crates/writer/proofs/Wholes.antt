-- A whole sheet, put on paper line by line. Assumes nothing.
use Rattle.std.proofs.Common.{◌≡◌, ℕ, ◌+◌, ◌^◌, ◌<◌, ◌≤◌, true, leb, List, [], ◌∷◌, ◌++◌, length, drop, ℤ, pos, negsuc, nat_abs, sym, refl, ◌∙◌, append-nil, arith}
use lib.Signed.{mag}
use Rattle.std.proofs.lemmas.Bool.{cond-true, and_from, le-leb}
use Rattle.field.specs.Field.{FieldModel}
use Rattle.text.specs.Items.{Item}
use Rattle.sheet.specs.declared.terms.Terms.{Terms}
use Rattle.sheet.specs.Lines.{sheet_line, claim_line}
use Rattle.writer.specs.declared.limits.TheConstants.{MOST_VALUES, ENOUGH_PAPER}
use Rattle.writer.specs.Texts.{form_text, text}
use Rattle.writer.specs.Papers.{Lays, writable, paper_after}
use Rattle.writer.proofs.Papers.{Putting, putting_none, putting_room, putting_length, putting_more, putting_all, lays_whole}
use Rattle.writer.proofs.Lengths.{lines_from, text_lines}

-- the first two lines as the code has them, and the claim
module _ {K : Type 0} (F : FieldModel K) (xs : List K) (t : Terms) (c : ℤ) (ds : List Item) (ds-are : ds ≡ sheet_line F t) (es : List Item) (es-are : es ≡ claim_line t) (z : ℤ) (z-is : z ≡ c) (paper : List ℕ) (at : ℕ) (fits : at + length (text F t c xs) ≤ length paper) where
  three_parts : text F t c xs ≡ form_text ds [] ++ (form_text es (z ∷ []) ++ lines_from F xs 0)
  three_parts = text_lines F xs t c ∙ sym (λ i. form_text (ds-are i) [] ++ (form_text (es-are i) (z-is i ∷ []) ++ lines_from F xs 0))

  start : Putting (text F t c xs) paper at paper at (text F t c xs)
  start = putting_none (text F t c xs) paper at

  module _ {paper₁ : List ℕ} {a : ℕ} (x : Lays (form_text ds []) paper at paper₁ a) where
    one : Putting (text F t c xs) paper at paper₁ a (form_text es (z ∷ []) ++ lines_from F xs 0)
    one = putting_more start (form_text ds []) (form_text es (z ∷ []) ++ lines_from F xs 0) three_parts x

    pub second_room : a + length (form_text es (z ∷ [])) ≤ length paper₁
    second_room = let r = putting_room one (form_text es (z ∷ [])) (lines_from F xs 0) refl in let l = putting_length one (omega arith) in omega arith

    module _ {paper₂ : List ℕ} {b : ℕ} (y : Lays (form_text es (z ∷ [])) paper₁ a paper₂ b) where
      two : Putting (text F t c xs) paper at paper₂ b (lines_from F xs 0)
      two = putting_more one (form_text es (z ∷ [])) (lines_from F xs 0) refl y

      pub lines_room : b + length (lines_from F xs 0) ≤ length paper₂
      lines_room = let r = putting_room two (lines_from F xs 0) [] (sym (append-nil (lines_from F xs 0))) in let l = putting_length two (omega arith) in omega arith

      pub all_put : {paper₃ : List ℕ} {d : ℕ} → Lays (lines_from F xs 0) paper₂ b paper₃ d → Lays (text F t c xs) paper at paper₃ d
      all_put l = putting_all (putting_more two (lines_from F xs 0) [] (sym (append-nil (lines_from F xs 0))) l) refl

-- a claim of the code has at most 19 digits
pub claim_small : (c : ℤ) → mag c < 2 ^ 63 → nat_abs c < 10 ^ 19
claim_small (pos n) h = omega arith
claim_small (negsuc n) h = omega arith

-- what write_sheet leaves where it writes
module _ {K : Type 0} (F : FieldModel K) (t : Terms) (c : ℤ) (xs : List K) (paper : List ℕ) (few : length xs ≤ MOST_VALUES) (enough : ENOUGH_PAPER ≤ length paper) where
  may_write : writable (length xs) (length paper) ≡ true
  may_write = and_from (leb (length xs) MOST_VALUES) (leb ENOUGH_PAPER (length paper)) (le-leb (length xs) MOST_VALUES few) (le-leb ENOUGH_PAPER (length paper) enough)

  pub wrote : {after : List ℕ} {n : ℕ} → Lays (text F t c xs) paper 0 after n → after ≡ paper_after F t c xs paper
  wrote l = (lays_whole l).1 ∙ sym (cond-true (writable (length xs) (length paper)) (text F t c xs ++ drop (length (text F t c xs)) paper) paper may_write)
