-- Runs, spaces and classes of bytes, one byte at a time.
use Rattle.std.proofs.Common.{cond, not, take_while, ◌≡◌, ℕ, suc, ◌+◌, ◌<◌, ◌≤◌, Bool, true, false, ◌&&◌, eqb, leb, List, [], ◌∷◌, length, get_or, take, ℤ, neg_ℤ, Some, None, Option, sym, refl, ap, ◌∙◌, arith}
use Rattle.std.specs.List.{list_all, prefix_len}
use Rattle.std.proofs.lemmas.List.Sums.{prefix_len-le-length}
use Rattle.std.proofs.lemmas.List.Folds.{length-prefix_len}
use Rattle.std.proofs.lemmas.Bool.{cond-false, and_from, cond_both, le-leb, ne_eqb}
use Rattle.text.specs.Tokens.{is_stop, leading_run, leading_spaces, made_of, digits_value, signed_by, number_value, numeric, is_word, Token, Token.opening, Token.closing, Token.line_end, Token.text_end, Token.word, Token.number, Token.malformed, classed, token_at, width, line_ends}

-- the run and the spaces at the front, in the library's words
run_prefix : (bs : List ℕ) → prefix_len (λ b. not (is_stop b)) bs ≡ length (leading_run bs)
run_prefix [] = refl
run_prefix (b ∷ bs) =
    let e = run_prefix bs in
    elim (is_stop b) as (λ t. cond (not t) (1 + prefix_len (λ c. not (is_stop c)) bs) 0 ≡ length (cond t [] (b ∷ leading_run bs))) [ true ↦ refl | false ↦ omega arith ]

spaces_prefix : (bs : List ℕ) → prefix_len (λ b. eqb b 32) bs ≡ leading_spaces bs
spaces_prefix [] = refl
spaces_prefix (b ∷ bs) =
    let e = spaces_prefix bs in
    elim (eqb b 32) as (λ t. cond t (1 + prefix_len (λ c. eqb c 32) bs) 0 ≡ cond t (suc (leading_spaces bs)) 0) [ true ↦ omega arith | false ↦ refl ]

pub run_taken : (bs : List ℕ) → length (take_while (λ b. not (is_stop b)) bs) ≡ length (leading_run bs)
run_taken bs = length-prefix_len (λ b. not (is_stop b)) bs ∙ run_prefix bs

pub spaces_taken : (bs : List ℕ) → length (take_while (λ b. eqb b 32) bs) ≡ leading_spaces bs
spaces_taken bs = length-prefix_len (λ b. eqb b 32) bs ∙ spaces_prefix bs

pub made_of_yes : (p : ℕ → Bool) (n : ℕ) (bs : List ℕ) → 0 < length bs → length bs ≤ n → list_all p bs ≡ true → made_of p n bs ≡ true
made_of_yes p n bs some few all =
    and_from (leb 1 (length bs)) (leb (length bs) n && list_all p bs) (le-leb 1 (length bs) some)
    (and_from (leb (length bs) n) (list_all p bs) (le-leb (length bs) n few) all)

pub number_plain : (bs : List ℕ) → (0 < length bs → get_or bs 0 0 ≡ 45 → ⊥) → number_value bs ≡ signed_by (λ z. z) (digits_value bs)
number_plain [] e = refl
number_plain (b ∷ bs) e = cond-false (eqb b 45) (signed_by neg_ℤ (digits_value bs)) (signed_by (λ z. z) (digits_value (b ∷ bs))) (ne_eqb b 45 (e (omega arith)))

pub spaces_le : (bs : List ℕ) → leading_spaces bs ≤ length bs
spaces_le bs = omega (arith, spaces_prefix bs, prefix_len-le-length (λ b. eqb b 32) bs)

pub run_le : (bs : List ℕ) → length (leading_run bs) ≤ length bs
run_le bs = omega (arith, run_prefix bs, prefix_len-le-length (λ b. not (is_stop b)) bs)

-- the run is the front of the bytes
pub run_front : (bs : List ℕ) → take (length (leading_run bs)) bs ≡ leading_run bs
run_front [] = refl
run_front (b ∷ bs) = cond_both (is_stop b) [] (b ∷ leading_run bs) (λ r. take (length r) (b ∷ bs) ≡ r) (λ _. refl) (λ _. ap (λ r. b ∷ r) (run_front bs))

width_classed : (bs : List ℕ) → width (classed bs) ≡ length bs
width_classed bs = cond_both (is_word bs) (word bs) (numeric bs (number_value bs)) (λ t. width t ≡ length bs) (λ _. refl) (λ _. go (number_value bs))
  where
    go : (o : Option ℤ) → width (numeric bs o) ≡ length bs
    go (Some z) = refl
    go None = refl

pub width_le : (bs : List ℕ) → width (token_at bs) ≤ length bs
width_le [] = omega arith
width_le (b ∷ bs) =
    cond_both (eqb b 40) opening _ (λ t. width t ≤ suc (length bs)) (λ _. omega arith)
    (λ _. cond_both (eqb b 41) closing _ (λ t. width t ≤ suc (length bs)) (λ _. omega arith)
    (λ _. cond_both (eqb b 10) line_end _ (λ t. width t ≤ suc (length bs)) (λ _. omega arith)
    (λ _. let e = width_classed (leading_run (b ∷ bs)) in let h = run_le (b ∷ bs) in omega arith)))

-- a line end takes a byte
pub closes_le : (t : Token) → line_ends t ≤ width t
closes_le opening = omega arith
closes_le closing = omega arith
closes_le line_end = omega arith
closes_le text_end = omega arith
closes_le (word bs) = omega arith
closes_le (number bs z) = omega arith
closes_le (malformed bs) = omega arith

token_run : (bs : List ℕ) → (length bs < 1 → ⊥) → (get_or bs 0 0 ≡ 40 → ⊥) → (get_or bs 0 0 ≡ 41 → ⊥) → (get_or bs 0 0 ≡ 10 → ⊥) → token_at bs ≡ classed (leading_run bs)
token_run [] some n40 n41 n10 = absurd (some (omega arith))
token_run (b ∷ bs) some n40 n41 n10 =
    cond-false (eqb b 40) opening _ (ne_eqb b 40 n40) ∙ cond-false (eqb b 41) closing _ (ne_eqb b 41 n41) ∙ cond-false (eqb b 10) line_end (classed (leading_run (b ∷ bs))) (ne_eqb b 10 n10)

-- what `token_at` finds in its last arm
pub by_run : (bs : List ℕ) (n : ℕ) (t : Token) → (length bs < 1 → ⊥) → (get_or bs 0 0 ≡ 40 → ⊥) → (get_or bs 0 0 ≡ 41 → ⊥) → (get_or bs 0 0 ≡ 10 → ⊥) → n ≡ length (take_while (λ b. not (is_stop b)) bs) → t ≡ classed (take n bs) → t ≡ token_at bs
by_run bs n t some n40 n41 n10 e d = d ∙ ap (λ m. classed (take m bs)) (e ∙ run_taken bs) ∙ ap classed (run_front bs) ∙ sym (token_run bs some n40 n41 n10)
