-- Reading a sheet into a tray, value by value. Assumes nothing.
use Rattle.std.proofs.Common.{true, false, ◌≡◌, ℕ, suc, ◌+◌, ◌-◌, ◌<◌, ltb, List, [], ◌∷◌, ◌++◌, length, take, drop, set, replicate, ℤ, pos, Ok, Err, Result, sym, refl, ap, ◌∙◌, subst, arith}
use borrow.Author.Tests.{clash}
use Rattle.std.specs.Result.{is_err}
use lib.Seq.{drop-append_seam}
use Rattle.std.proofs.lemmas.List.{take_all, take_more_set, map_push}
use Rattle.std.proofs.lemmas.Bool.{cond-true, lt-ltb}
use Rattle.field.specs.Field.{FieldModel}
use Rattle.board.specs.Banks.{filled}
use Rattle.refusal.specs.declared.refusal.Refusal.{Refusal}
use Rattle.refusal.specs.declared.refusal.Refusal.TheVariants.{TrayShort}
use Rattle.text.specs.Tokens.{Cursor, cursor_start}
use Rattle.text.specs.Items.{items_pass}
use Rattle.text.specs.Forms.{whole_form, kept_numbers}
use Rattle.text.proofs.Passes.{on_first, stop_first}
use Rattle.sheet.specs.declared.terms.Terms.{Terms}
use Rattle.sheet.specs.Lines.{sheet_line, claim_line, value_line, end_line, value_lines, sheet_lines}
use Rattle.sheet.specs.Sheets.{part_numbers}
use Rattle.sheet.specs.Readings.{paired, concluded, elements, valued, reading, claim_of, tray_of, Filled, read_answer, tray_after}

part_numbers_push : (vs : List (ℕ × ℕ)) (v : ℕ × ℕ) → part_numbers (vs ++ v ∷ []) ≡ part_numbers vs ++ pos v.0 ∷ pos v.1 ∷ []
part_numbers_push [] v = refl
part_numbers_push (u ∷ vs) v = ap (λ zs. pos u.0 ∷ pos u.1 ∷ zs) (part_numbers_push vs v)

pub paired_numbers : (vs : List (ℕ × ℕ)) → paired (part_numbers vs) ≡ vs
paired_numbers [] = refl
paired_numbers (v ∷ vs) = ap (λ ws. v ∷ ws) (paired_numbers vs)

-- j of n value lines are read, and their values stand in front
pub record Reached {K : Type 0} (F : FieldModel K) (t : Terms) (bs : List ℕ) (n j : ℕ) (c : ℤ) (s : Cursor) (xs : List K) : Type 0 where
  pub parts : List (ℕ × ℕ)
  pub values : take j xs ≡ elements F parts
  pub rest : items_pass (whole_form (value_lines F j (n - j))) (c ∷ part_numbers parts) s ≡ items_pass (whole_form (sheet_lines F t)) [] (cursor_start bs)

module _ {K : Type 0} (F : FieldModel K) (t : Terms) (bs : List ℕ) where
  -- what a pass of all lines comes to
  stops : (r : Refusal) → Err r ≡ items_pass (whole_form (sheet_lines F t)) [] (cursor_start bs) → reading F t bs ≡ Err r
  stops r e = sym (ap (λ o. valued F (concluded (kept_numbers o))) e)

  says : (c : ℤ) (vs : List (ℕ × ℕ)) (s : Cursor) → Ok (c ∷ part_numbers vs, s) ≡ items_pass (whole_form (sheet_lines F t)) [] (cursor_start bs) → reading F t bs ≡ Ok (c, elements F vs)
  says c vs s e = sym (ap (λ o. valued F (concluded (kept_numbers o))) e) ∙ ap (λ ws. Ok (c, elements F ws)) (paired_numbers vs)

  -- behind the claim, from a reader at the start
  module _ (s₀ : Cursor) (start : s₀ ≡ cursor_start bs) where
    pub claim_stops : (r : Refusal) → Err r ≡ items_pass (sheet_line F t ++ claim_line t) [] s₀ → reading F t bs ≡ Err r
    claim_stops r e = stops r (subst (λ s. Err r ≡ items_pass (whole_form (sheet_lines F t)) [] s) start (stop_first (sheet_line F t ++ claim_line t) (whole_form (value_lines F 0 (suc t.degree))) [] s₀ r e))

    pub none_read : (n : ℕ) (c : ℤ) → n ≡ suc t.degree → (d : ℤ) (s : Cursor) → d ≡ c → Ok (c ∷ [], s) ≡ items_pass (sheet_line F t ++ claim_line t) [] s₀ → (xs : List K) → Reached F t bs n 0 d s xs
    none_read n c is d s same e xs = record {
      parts = [];
      values = refl;
      rest =
          (λ i. items_pass (whole_form (value_lines F 0 (let k : n - 0 ≡ suc t.degree = omega arith in k i))) (same i ∷ []) s)
          ∙ on_first (sheet_line F t ++ claim_line t) (whole_form (value_lines F 0 (suc t.degree))) [] s₀ (c ∷ []) s e
          ∙ ap (items_pass (whole_form (sheet_lines F t)) []) start;
    }

  module _ (n : ℕ) (c : ℤ) where
    line_next : (j : ℕ) → j < n → whole_form (value_lines F j (n - j)) ≡ value_line F j ++ whole_form (value_lines F (j + 1) (n - (j + 1)))
    line_next j h =
        ap (λ m. whole_form (value_lines F j m)) (let k : n - j ≡ suc (n - (j + 1)) = omega arith in k)
        ∙ ap (λ i. value_line F j ++ whole_form (value_lines F i (n - (j + 1)))) (let k : suc j ≡ j + 1 = omega arith in k)

    module _ (j : ℕ) (lt : j < n) (s : Cursor) (xs : List K) (f : Reached F t bs n j c s xs) where
      pub one_read : (low high : ℕ) (x : K) (s' : Cursor) → j < length xs → x ≡ F.make low high → Ok ((c ∷ part_numbers f.parts) ++ pos low ∷ pos high ∷ [], s') ≡ items_pass (value_line F j) (c ∷ part_numbers f.parts) s → Reached F t bs n (j + 1) c s' (set xs j x)
      one_read low high x s' inside is e = record {
        parts = f.parts ++ (low, high) ∷ [];
        values = take_more_set xs j x inside ∙ ap (λ ys. ys ++ x ∷ []) f.values ∙ ap (λ y. elements F f.parts ++ y ∷ []) is ∙ sym (map_push (λ v. F.make v.0 v.1) f.parts (low, high));
        rest =
            ap (λ zs. items_pass (whole_form (value_lines F (j + 1) (n - (j + 1)))) (c ∷ zs) s') (part_numbers_push f.parts (low, high))
            ∙ on_first (value_line F j) (whole_form (value_lines F (j + 1) (n - (j + 1)))) (c ∷ part_numbers f.parts) s _ s' e
            ∙ ap (λ ds. items_pass ds (c ∷ part_numbers f.parts) s) (sym (line_next j lt))
            ∙ f.rest;
      }

      pub value_stops : (r : Refusal) → Err r ≡ items_pass (value_line F j) (c ∷ part_numbers f.parts) s → reading F t bs ≡ Err r
      value_stops r e =
          stops r (stop_first (value_line F j) (whole_form (value_lines F (j + 1) (n - (j + 1)))) (c ∷ part_numbers f.parts) s r e
          ∙ ap (λ ds. items_pass ds (c ∷ part_numbers f.parts) s) (sym (line_next j lt))
          ∙ f.rest)

    module _ (j : ℕ) (all : j ≡ n) (s : Cursor) (xs : List K) (f : Reached F t bs n j c s xs) where
      at_end : items_pass (whole_form end_line) (c ∷ part_numbers f.parts) s ≡ items_pass (whole_form (sheet_lines F t)) [] (cursor_start bs)
      at_end = ap (λ m. items_pass (whole_form (value_lines F j m)) (c ∷ part_numbers f.parts) s) (let k : 0 ≡ n - j = omega arith in k) ∙ f.rest

      pub end_stops : (r : Refusal) → Err r ≡ items_pass (whole_form end_line) (c ∷ part_numbers f.parts) s → reading F t bs ≡ Err r
      end_stops r e = stops r (e ∙ at_end)

      pub all_read : (s' : Cursor) → Ok (c ∷ part_numbers f.parts, s') ≡ items_pass (whole_form end_line) (c ∷ part_numbers f.parts) s → reading F t bs ≡ Ok (c, elements F f.parts)
      all_read s' e = says c f.parts s' (e ∙ at_end)

      pub all_values : length xs ≡ n → xs ≡ elements F f.parts
      all_values long = sym (take_all j xs (omega arith)) ∙ f.values

  -- what is left in a tray whose front is ys: anything after a fault, and the values after a claim
  module _ (n m : ℕ) (same : n ≡ m) (before ys : List K) (long : length ys ≡ n) where
    pub fault_left : (r : Refusal) → reading F t bs ≡ Err r → Filled F m (reading F t bs) before (ys ++ drop n before)
    fault_left r e =
        subst (λ o. Filled F m o before (ys ++ drop n before)) (sym e)
        (subst (λ k. drop k (ys ++ drop n before) ≡ drop m before) (long ∙ same) (drop-append_seam ys (drop n before) ∙ ap (λ k. drop k before) same))

    pub values_left : (c : ℤ) (xs : List K) → reading F t bs ≡ Ok (c, xs) → ys ≡ xs → Filled F m (reading F t bs) before (ys ++ drop n before)
    values_left c xs e is = subst (λ o. Filled F m o before (ys ++ drop n before)) (sym e) (λ i. is i ++ drop (same i) before)

  -- after a claim the tray holds the values, and after a fault zeros, over whatever the fault left
  module _ (n : ℕ) (before between : List K) where
    pub values_kept : (o : Result (ℤ × List K) Refusal) → is_err (claim_of F o) ≡ false → Filled F n o before between → between ≡ tray_of F n o before
    values_kept (Ok v) e f = f
    values_kept (Err r) e f = absurd (clash (sym e))

    pub zeros_put : (o : Result (ℤ × List K) Refusal) → is_err (claim_of F o) ≡ true → Filled F n o before between → filled n F.zero between ≡ tray_of F n o before
    zeros_put (Ok v) e f = absurd (clash e)
    zeros_put (Err r) e f = ap (λ xs. replicate n F.zero ++ xs) f

  -- what read_sheet answers and leaves with a tray that is long enough
  module _ (tray : List K) (long : t.degree < length tray) where
    pub answer_is : read_answer F t bs tray ≡ claim_of F (reading F t bs)
    answer_is = cond-true (ltb t.degree (length tray)) (claim_of F (reading F t bs)) (Err TrayShort) (lt-ltb t.degree (length tray) long)

    pub tray_after_lem : tray_after F t bs tray ≡ tray_of F (suc t.degree) (reading F t bs) tray
    tray_after_lem = cond-true (ltb t.degree (length tray)) (tray_of F (suc t.degree) (reading F t bs) tray) tray (lt-ltb t.degree (length tray) long)
