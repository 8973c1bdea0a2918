-- The text of a sheet, line by line, and its length. Assumes nothing.
use Rattle.std.proofs.Common.{◌≡◌, ℕ, suc, ◌+◌, ◌*◌, ◌^◌, ◌<◌, ◌≤◌, List, [], ◌∷◌, ◌++◌, length, get_or, drop, ℤ, pos, negsuc, nat_abs, decimal, sym, refl, ap, ◌∙◌, arith, length-append}
use Rattle.std.specs.Fmt.{signed_decimal}
use Rattle.std.proofs.lemmas.Fmt.{length-decimal-le}
use Rattle.std.proofs.lemmas.List.{drop_more, drop_all}
use Rattle.field.specs.Field.{FieldModel, LawfulField}
use Rattle.text.specs.Items.{Item}
use Rattle.text.specs.Forms.{whole_form}
use Rattle.sheet.specs.declared.terms.Terms.{Terms}
use Rattle.sheet.specs.Lines.{sheet_line, claim_line, value_line, end_line, value_lines}
use Rattle.sheet.specs.Sheets.{part_numbers, parts_of}
use Rattle.writer.specs.Texts.{form_text, text}
use Rattle.writer.specs.Laws.{TextFits}
use Rattle.writer.proofs.Small.{characteristic_small, degree_small, low_small, high_small}
use Rattle.writer.proofs.Lines.{text_line}

module _ {K : Type 0} (F : FieldModel K) where
  -- the value lines of xs from line j on, and the last line
  abbrev pub lines_of : ℕ → List K → List ℕ
  lines_of j xs = form_text (whole_form (value_lines F j (length xs))) (part_numbers (parts_of F xs))

  -- the text of value line j, with a low and a high part
  abbrev pub value_text : ℕ → ℕ → ℕ → List ℕ
  value_text j low high = form_text (value_line F j) (pos low ∷ pos high ∷ [])

  lines_split : (j : ℕ) (x : K) (xs : List K) → lines_of j (x ∷ xs) ≡ value_text j (F.low x) (F.high x) ++ lines_of (suc j) xs
  lines_split j x xs = text_line (value_line F j) (whole_form (value_lines F (suc j) (length xs))) (pos (F.low x) ∷ pos (F.high x) ∷ []) (part_numbers (parts_of F xs)) refl refl

  module _ (xs : List K) where
    -- what is left of the values from line j on
    abbrev pub lines_from : ℕ → List ℕ
    lines_from j = lines_of j (drop j xs)

    -- the next line, with its items and numbers as the code has them
    pub line_next : (j : ℕ) (x : K) → j < length xs → x ≡ get_or xs j x → (ds : List Item) → ds ≡ value_line F j → (low high : ℤ) → low ≡ pos (F.low x) → high ≡ pos (F.high x)
        → lines_from j ≡ form_text ds (low ∷ high ∷ []) ++ lines_from (j + 1)
    line_next j x lt is ds are low high l h =
        ap (lines_of j) (drop_more xs j x lt)
        ∙ ap (λ y. lines_of j (y ∷ drop (j + 1) xs)) (sym is)
        ∙ lines_split j x (drop (j + 1) xs)
        ∙ sym (λ i. form_text (are i) (l i ∷ h i ∷ []) ++ lines_of (suc j) (drop (j + 1) xs))
        ∙ ap (λ m. form_text ds (low ∷ high ∷ []) ++ lines_of m (drop (j + 1) xs)) (let k : suc j ≡ j + 1 = omega arith in k)

    pub lines_done : (j : ℕ) → length xs ≤ j → (ds : List Item) → ds ≡ whole_form end_line → lines_from j ≡ form_text ds [] ++ []
    lines_done j h ds are = ap (lines_of j) (drop_all j xs h) ∙ ap (λ es. form_text es [] ++ []) (sym are)

    -- the whole text: the first line, the claim's line and the others
    pub text_lines : (t : Terms) (c : ℤ) → text F t c xs ≡ form_text (sheet_line F t) [] ++ (form_text (claim_line t) (c ∷ []) ++ lines_from 0)
    text_lines t c =
        text_line (sheet_line F t) (claim_line t ++ whole_form (value_lines F 0 (length xs))) [] (c ∷ part_numbers (parts_of F xs)) refl refl
        ∙ ap (λ bs. form_text (sheet_line F t) [] ++ bs) (text_line (claim_line t) (whole_form (value_lines F 0 (length xs))) (c ∷ []) (part_numbers (parts_of F xs)) refl refl)

short_decimal : (n : ℕ) → n < 10 ^ 10 → length (decimal n) ≤ 10
short_decimal n h = length-decimal-le 10 n (omega arith) h (omega arith)

short_signed : (z : ℤ) → nat_abs z < 10 ^ 19 → length (signed_decimal z) ≤ 20
short_signed (pos n) h = let k = length-decimal-le 19 n (omega arith) h (omega arith) in omega arith
short_signed (negsuc n) h = let k = length-decimal-le 19 (suc n) (omega arith) h (omega arith) in omega arith

claim_length : (t : Terms) (c : ℤ) → t.tag.kind < 10 ^ 10 → t.tag.first < 10 ^ 10 → t.tag.second < 10 ^ 10 → nat_abs c < 10 ^ 19 → length (form_text (claim_line t) (c ∷ [])) ≤ 64
claim_length t c h₁ h₂ h₃ h₄ =
    let n₁ = short_decimal t.tag.kind h₁ in
    let n₂ = short_decimal t.tag.first h₂ in
    let n₃ = short_decimal t.tag.second h₃ in
    let n₄ = short_signed c h₄ in
    simp length-append (omega arith)

module _ {K : Type 0} (F : FieldModel K) where
  sheet_length : (t : Terms) → F.characteristic < 10 ^ 10 → F.degree < 10 ^ 10 → t.rows < 10 ^ 10 → t.columns < 10 ^ 10 → length (form_text (sheet_line F t) []) ≤ 59
  sheet_length t h₁ h₂ h₃ h₄ =
      let n₁ = short_decimal F.characteristic h₁ in
      let n₂ = short_decimal F.degree h₂ in
      let n₃ = short_decimal t.rows h₃ in
      let n₄ = short_decimal t.columns h₄ in
      simp length-append (omega arith)

  -- a line number of three digits
  value_length : (j low high : ℕ) → j < 1000 → low < 10 ^ 10 → high < 10 ^ 10 → length (value_text F j low high) ≤ 35
  value_length j low high h₁ h₂ h₃ =
      let a : length (decimal j) ≤ 3 = length-decimal-le 3 j (omega arith) (omega arith) (omega arith) in
      let l = short_decimal low h₂ in
      let r = short_decimal high h₃ in
      simp length-append (omega arith)

  module _ (L : LawfulField F) where
    lines_length : (xs : List K) (j : ℕ) → j + length xs ≤ 1000 → length (lines_of F j xs) ≤ 35 * length xs + 6
    lines_length [] j h = omega arith
    lines_length (x ∷ xs) j h =
        let a = value_length j (F.low x) (F.high x) (omega arith) (low_small F L x) (high_small F L x) in
        let s = ap length (lines_split F j x xs) ∙ length-append (value_text F j (F.low x) (F.high x)) (lines_of F (suc j) xs) in
        let i = lines_length xs (suc j) (omega arith) in
        omega arith

    pub text_fits : TextFits F
    text_fits t c xs fit small few =
        let a = sheet_length t (characteristic_small F L) (degree_small F L) fit.rows_fit fit.columns_fit in
        let b = claim_length t c fit.kind_fits fit.first_fits fit.second_fits small in
        let l = lines_length xs 0 (omega arith) in
        let e = ap length (text_lines F xs t c) in
        let f = length-append (form_text (sheet_line F t) []) (form_text (claim_line t) (c ∷ []) ++ lines_from F xs 0) in
        let g = length-append (form_text (claim_line t) (c ∷ [])) (lines_from F xs 0) in
        omega arith
