-- What is written is laid out, and so is read back. Assumes nothing.
use Rattle.std.proofs.Common.{◌≡◌, ℕ, suc, ◌+◌, ◌^◌, ◌<◌, ◌≤◌, Bool, true, false, ◌&&◌, List, [], ◌∷◌, ◌++◌, length, get_or, ℤ, pos, negsuc, neg_ℤ, nat_abs, Some, None, decimal, sym, refl, ap, ◌∙◌, subst, arith, rules}
use Rattle.std.specs.Char.{is_ascii_digit}
use Rattle.std.specs.Fmt.{signed_decimal}
use Rattle.std.proofs.lemmas.Fmt.{digits_decimal, digits_value-decimal, length-decimal-le, decimal_nonempty}
use Rattle.std.proofs.lemmas.Str.Parse.{IsNumeralModel, numerals_by_fold}
use Rattle.std.proofs.lemmas.Bool.{cond-true, cond_both, and_parts}
use Rattle.std.proofs.lemmas.Bool.Decides.{nat_tests}
use Rattle.std.specs.List.{list_all}
use Rattle.field.specs.Field.{FieldModel, LawfulField}
use Rattle.text.specs.Tokens.{RunEnded, is_digits, value_after, digits_value, signed_by, number_value}
use Rattle.text.specs.Items.{Fixed.opening, Fixed.closing, Fixed.line_end, Fixed.text_end, Fixed.word}
use Rattle.text.specs.Marks.{Mark, Mark.fixed, Mark.number, marks, Spells, Apart, Begins, Layout}
use Rattle.text.specs.Forms.{whole_form}
use Rattle.text.proofs.Runs.{made_of_yes, number_plain}
use Rattle.text.proofs.Forms.{reads_forms}
use Rattle.sheet.specs.declared.terms.Terms.{Terms}
use Rattle.sheet.specs.Lines.{value_lines, counted_lines}
use Rattle.sheet.specs.Sheets.{part_numbers, parts_of, sheet_numbers}
use Rattle.sheet.proofs.Sheets.{reads_sheets}
use Rattle.writer.specs.Texts.{spaced_after, spaced_before, mark_bytes, written_on, form_text, text}
use Rattle.writer.specs.Laws.{Tidy, Statable, FormsReadBack, ReadsBack}
use Rattle.writer.proofs.Small.{characteristic_small, degree_small, low_small, high_small}

-- rows of digits and their values, in the shelf's words
digits_own : IsNumeralModel (λ ds. list_all is_ascii_digit ds ≡ true) (value_after 0)
digits_own = numerals_by_fold _ (search rules) value_after (search rules)

-- ten digits are read back
module _ (n : ℕ) (h : n < 10 ^ 10) where
  all_digits : list_all is_ascii_digit (decimal n) ≡ true
  all_digits = digits_decimal digits_own n (omega arith)

  is_numeral : is_digits (decimal n) ≡ true
  is_numeral = made_of_yes is_ascii_digit 10 (decimal n) (decimal_nonempty n (omega arith)) (length-decimal-le 10 n (omega arith) h (omega arith)) all_digits

  digits_back : digits_value (decimal n) ≡ Some n
  digits_back = cond-true (is_digits (decimal n)) (Some (value_after 0 (decimal n))) None is_numeral ∙ ap Some (digits_value-decimal digits_own n (omega arith))

first_digit : (ds : List ℕ) → list_all is_ascii_digit ds ≡ true → get_or ds 0 0 ≡ 45 → ⊥
first_digit [] e f = omega arith
first_digit (b ∷ bs) e f = let d = (and_parts (is_ascii_digit b) (list_all is_ascii_digit bs) e).0 in grind (arith, nat_tests)

number_back : (z : ℤ) → nat_abs z < 10 ^ 10 → number_value (signed_decimal z) ≡ Some z
number_back (pos n) h = number_plain (decimal n) (λ _. first_digit (decimal n) (all_digits n h)) ∙ ap (signed_by (λ z. z)) (digits_back n h)
number_back (negsuc n) h = ap (signed_by neg_ℤ) (digits_back (suc n) h)

-- a space, a bracket, a line end or nothing follows a word or a number
ended_on : (ms : List Mark) → Tidy ms → RunEnded (written_on true ms)
ended_on [] t = tt
ended_on (fixed opening ∷ ms) t = refl
ended_on (fixed closing ∷ ms) t = refl
ended_on (fixed line_end ∷ ms) t = refl
ended_on (fixed text_end ∷ ms) t = subst (λ ns. RunEnded (written_on false ns)) (sym t) tt
ended_on (fixed (word k) ∷ ms) t = refl
ended_on (number z ∷ ms) t = refl

begin_written : (space : Bool) (m : Mark) (ms : List Mark) → Spells m (mark_bytes m) → Apart m (written_on (spaced_after m) ms) → Layout ms [] (written_on (spaced_after m) ms) → Begins (Layout ms []) m (written_on space (m ∷ ms))
begin_written space m ms s a l =
    cond_both (space && spaced_before m) (32 ∷ []) [] (λ gap. Begins (Layout ms []) m ((gap ++ mark_bytes m) ++ written_on (spaced_after m) ms))
    (λ _. record { spaces = 1; bytes = mark_bytes m; rest = written_on (spaced_after m) ms; whole = refl; spells = s; apart = a; goes_on = l })
    (λ _. record { spaces = 0; bytes = mark_bytes m; rest = written_on (spaced_after m) ms; whole = refl; spells = s; apart = a; goes_on = l })

-- what is written is laid out
laid_out : (space : Bool) (ms : List Mark) → Tidy ms → Layout ms [] (written_on space ms)
laid_out space [] t = (0, refl)
laid_out space (fixed opening ∷ ms) t = begin_written space (fixed opening) ms refl tt (laid_out false ms t)
laid_out space (fixed closing ∷ ms) t = begin_written space (fixed closing) ms refl tt (laid_out true ms t)
laid_out space (fixed line_end ∷ ms) t = begin_written space (fixed line_end) ms refl tt (laid_out false ms t)
laid_out space (fixed text_end ∷ ms) t = begin_written space (fixed text_end) ms refl (ap (written_on false) t) (subst (λ ns. Layout ns [] (written_on false ns)) (sym t) (0, refl))
laid_out space (fixed (word k) ∷ ms) t = begin_written space (fixed (word k)) ms refl (ended_on ms t) (laid_out true ms t)
laid_out space (number z ∷ ms) t = begin_written space (number z) ms (number_back z t.0) (ended_on ms t.1) (laid_out true ms t.1)

pub forms_read_back : FormsReadBack
forms_read_back ds zs k t = (reads_forms ds (form_text (whole_form ds) zs) zs).1 (record { ranges = k; layout = laid_out false (marks (whole_form ds) zs) t })

module _ {K : Type 0} (F : FieldModel K) (L : LawfulField F) where
  lines_tidy : (xs : List K) (j : ℕ) → j + length xs ≤ 10 ^ 10 → Tidy (marks (whole_form (value_lines F j (length xs))) (part_numbers (parts_of F xs)))
  lines_tidy [] j h = refl
  lines_tidy (x ∷ xs) j h = (omega arith, (low_small F L x, (high_small F L x, lines_tidy xs (suc j) (omega arith))))

  tidy : (t : Terms) (c : ℤ) (xs : List K) → Statable t c xs → Tidy (marks (whole_form (counted_lines F t (length xs))) (sheet_numbers F c xs))
  tidy t c xs s =
      let d = s.degree_fits in
      let n = s.count in (
        characteristic_small F L,
        (degree_small F L, (s.terms_fit.rows_fit, (s.terms_fit.columns_fit, (s.terms_fit.kind_fits, (s.terms_fit.first_fits, (s.terms_fit.second_fits, (s.claim_fits, lines_tidy xs 0 (omega arith)))))))),
      )

  pub reads_back : ReadsBack F
  reads_back t c xs s =
      (reads_sheets F L t (text F t c xs) c xs).1 (record {
        layout = subst (λ n. Layout (marks (whole_form (counted_lines F t n)) (sheet_numbers F c xs)) [] (text F t c xs)) s.count (laid_out false (marks (whole_form (counted_lines F t (length xs))) (sheet_numbers F c xs)) (tidy t c xs s));
        least = s.least;
        greatest = s.greatest;
        count = s.count;
      })
