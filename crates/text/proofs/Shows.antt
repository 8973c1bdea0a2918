-- What the bytes are where a token is seen, and which token is seen at given bytes.
use Rattle.std.proofs.Common.{◌≡◌, ℕ, zero, suc, ◌<◌, Bool, true, false, not, ◌&&◌, ◌||◌, eqb, leb, List, [], ◌∷◌, ◌++◌, length, drop, replicate, ℤ, neg_ℤ, Some, None, Option, sym, refl, ap, ◌∙◌, ⊎_elim, arith}
use Rattle.std.specs.Char.{is_ascii_lowercase, is_ascii_digit}
use Rattle.std.proofs.lemmas.Bool.{cond-true, cond-false, cond_both, cases_Bool, and_parts, and_from, and_left, and_right, eqb-true, not-true, leb-true, or_parts}
use Rattle.std.proofs.lemmas.Bool.Decides.{nat_tests}
use Rattle.std.specs.List.{list_all}
use Rattle.text.specs.Tokens.{RunEnded, is_stop, leading_run, leading_spaces, made_of, is_word, is_digits, digits_value, signed_by, number_value, numeric, classed, token_at, Token, Token.opening, Token.closing, Token.line_end, Token.text_end, Token.word, Token.number, Token.malformed}

-- spaces, then what is left
pub spaces_split : (bs : List ℕ) → bs ≡ replicate (leading_spaces bs) 32 ++ drop (leading_spaces bs) bs
spaces_split [] = refl
spaces_split (b ∷ bs) =
    cond_both (eqb b 32) (suc (leading_spaces bs)) 0 (λ n. b ∷ bs ≡ replicate n 32 ++ drop n (b ∷ bs))
    (λ e. λ i. eqb-true b 32 e i ∷ spaces_split bs i)
    (λ e. refl)

pub spaces_of : (n : ℕ) (xs : List ℕ) → leading_spaces xs ≡ 0 → leading_spaces (replicate n 32 ++ xs) ≡ n
spaces_of zero xs e = e
spaces_of (suc n) xs e = ap suc (spaces_of n xs e)

-- behind the spaces there is no space
pub skip_close : (bs : List ℕ) → leading_spaces (drop (leading_spaces bs) bs) ≡ 0
skip_close [] = refl
skip_close (b ∷ bs) =
    cond_both (eqb b 32) (suc (leading_spaces bs)) 0 (λ n. leading_spaces (drop n (b ∷ bs)) ≡ 0)
    (λ _. skip_close bs)
    (λ e. cond-false (eqb b 32) (suc (leading_spaces bs)) 0 e)

-- no byte of w ends a run
abbrev pub solid : List ℕ → Bool
solid w = list_all (λ b. not (is_stop b)) w

-- w is the run at the front of bs
pub record Runs (bs w : List ℕ) : Type 0 where
  pub whole : bs ≡ w ++ drop (length w) bs
  pub ended : RunEnded (drop (length w) bs)
  pub through : solid w ≡ true

runs_on : (bs : List ℕ) → Runs bs (leading_run bs)
runs_on [] = record { whole = refl; ended = tt; through = refl }
runs_on (b ∷ bs) =
    cond_both (is_stop b) [] (b ∷ leading_run bs) (λ w. Runs (b ∷ bs) w)
    (λ e. record { whole = refl; ended = e; through = refl })
    (λ e. record {
      whole = ap (λ xs. b ∷ xs) (runs_on bs).whole;
      ended = (runs_on bs).ended;
      through = and_from (not (is_stop b)) (solid (leading_run bs)) (ap not e) (runs_on bs).through;
    })

-- what the bytes are where a token is seen
abbrev pub Shows : List ℕ → Token → Type 0
Shows bs opening = bs ≡ 40 ∷ drop 1 bs
Shows bs closing = bs ≡ 41 ∷ drop 1 bs
Shows bs line_end = bs ≡ 10 ∷ drop 1 bs
Shows bs text_end = bs ≡ []
Shows bs (word w) = Runs bs w × (is_word w ≡ true)
Shows bs (number w z) = Runs bs w × (number_value w ≡ Some z)
Shows bs (malformed w) = Runs bs w

shows_numeric : (bs w : List ℕ) → Runs bs w → (o : Option ℤ) → number_value w ≡ o → Shows bs (numeric w o)
shows_numeric bs w r (Some z) e = (r, e)
shows_numeric bs w r None e = r

pub shows : (bs : List ℕ) → Shows bs (token_at bs)
shows [] = refl
shows (b ∷ bs) =
    cond_both (eqb b 40) opening _ (Shows (b ∷ bs)) (λ e. ap (λ x. x ∷ bs) (eqb-true b 40 e))
    (λ _. cond_both (eqb b 41) closing _ (Shows (b ∷ bs)) (λ e. ap (λ x. x ∷ bs) (eqb-true b 41 e))
    (λ _. cond_both (eqb b 10) line_end (classed (leading_run (b ∷ bs))) (Shows (b ∷ bs)) (λ e. ap (λ x. x ∷ bs) (eqb-true b 10 e))
    (λ _. cond_both (is_word (leading_run (b ∷ bs))) (word (leading_run (b ∷ bs))) (numeric (leading_run (b ∷ bs)) (number_value (leading_run (b ∷ bs)))) (Shows (b ∷ bs))
    (λ e. (runs_on (b ∷ bs), e))
    (λ _. shows_numeric (b ∷ bs) (leading_run (b ∷ bs)) (runs_on (b ∷ bs)) (number_value (leading_run (b ∷ bs))) refl))))

each_weaker : (p q : ℕ → Bool) → ((b : ℕ) → p b ≡ true → q b ≡ true) → (w : List ℕ) → list_all p w ≡ true → list_all q w ≡ true
each_weaker p q h [] e = refl
each_weaker p q h (b ∷ bs) e = let ps = and_parts (p b) (list_all p bs) e in and_from (q b) (list_all q bs) (h b ps.0) (each_weaker p q h bs ps.1)

lower_solid : (b : ℕ) → is_ascii_lowercase b ≡ true → not (is_stop b) ≡ true
lower_solid b h = grind (arith, nat_tests)

digit_solid : (b : ℕ) → is_ascii_digit b ≡ true → not (is_stop b) ≡ true
digit_solid b h = grind (arith, nat_tests)

digit_not_lower : (b : ℕ) → is_ascii_digit b ≡ true → is_ascii_lowercase b ≡ false
digit_not_lower b h = grind (arith, nat_tests)

made_of_parts : (p : ℕ → Bool) (n : ℕ) (w : List ℕ) → made_of p n w ≡ true → (0 < length w) × (list_all p w ≡ true)
made_of_parts p n w e =
    let a = and_parts (leb 1 (length w)) (leb (length w) n && list_all p w) e in
    (leb-true 1 (length w) a.0, (and_parts (leb (length w) n) (list_all p w) a.1).1)

run_solid : (w rest : List ℕ) → solid w ≡ true → RunEnded rest → leading_run (w ++ rest) ≡ w
run_solid [] [] s e = refl
run_solid [] (b ∷ rest) s e = cond-true (is_stop b) [] (b ∷ leading_run rest) e
run_solid (b ∷ w) rest s e =
    let a = and_parts (not (is_stop b)) (solid w) s in
    cond-false (is_stop b) [] (b ∷ leading_run (w ++ rest)) (not-true (is_stop b) a.0) ∙ ap (λ r. b ∷ r) (run_solid w rest a.1 e)

not_a_stop : (b : ℕ) → is_stop b ≡ false → (eqb b 32 ≡ false) × (eqb b 40 ≡ false) × (eqb b 41 ≡ false) × (eqb b 10 ≡ false)
not_a_stop b e =
    let p = or_parts (eqb b 32) (eqb b 40 || (eqb b 41 || eqb b 10)) e in
    let q = or_parts (eqb b 40) (eqb b 41 || eqb b 10) p.1 in
    let r = or_parts (eqb b 41) (eqb b 10) q.1 in
    (p.0, q.0, r.0, r.1)

-- a run that stands alone is classed as a whole
token_solid : (w rest : List ℕ) → 0 < length w → solid w ≡ true → RunEnded rest → token_at (w ++ rest) ≡ classed w
token_solid [] rest some s e = absurd (omega arith)
token_solid (b ∷ w) rest some s e =
    let ns = not_a_stop b (not-true (is_stop b) (and_parts (not (is_stop b)) (solid w) s).0) in
    cond-false (eqb b 40) opening _ ns.1 ∙ cond-false (eqb b 41) closing _ ns.2 ∙ cond-false (eqb b 10) line_end (classed (leading_run (b ∷ w ++ rest))) ns.3 ∙ ap classed (run_solid (b ∷ w) rest s e)

spaces_solid : (w rest : List ℕ) → 0 < length w → solid w ≡ true → leading_spaces (w ++ rest) ≡ 0
spaces_solid [] rest some s = absurd (omega arith)
spaces_solid (b ∷ w) rest some s =
    let ns = not_a_stop b (not-true (is_stop b) (and_parts (not (is_stop b)) (solid w) s).0) in
    cond-false (eqb b 32) (suc (leading_spaces (w ++ rest))) 0 ns.0

-- a row of bytes that is one run: not empty, and no byte ends it
pub record Solid (w : List ℕ) : Type 0 where
  pub some : 0 < length w
  pub through : solid w ≡ true

pub solid_word : (w : List ℕ) → is_word w ≡ true → Solid w
solid_word w e = let p = made_of_parts is_ascii_lowercase 8 w e in record { some = p.0; through = each_weaker is_ascii_lowercase (λ b. not (is_stop b)) lower_solid w p.1 }

none≢some : (z : ℤ) → ◌≡◌ {A = Option ℤ} None (Some z) → ⊥
none≢some z e = let q : ◌≡◌ {A = ℕ} 0 1 = cc in omega arith

signed_digits : (f : ℤ → ℤ) (ds : List ℕ) (z : ℤ) → signed_by f (digits_value ds) ≡ Some z → is_digits ds ≡ true
signed_digits f ds z e =
    ⊎_elim (λ t. t)
    (λ n. absurd (none≢some z (sym (ap (signed_by f) (cond-false (is_digits ds) (Some _) None n)) ∙ e)))
    (cases_Bool (is_digits ds))

digits_solid : (ds : List ℕ) → is_digits ds ≡ true → Solid ds
digits_solid ds e = let p = made_of_parts is_ascii_digit 10 ds e in record { some = p.0; through = each_weaker is_ascii_digit (λ b. not (is_stop b)) digit_solid ds p.1 }

minus_solid : (b : ℕ) (bs : List ℕ) → b ≡ 45 → solid bs ≡ true → solid (b ∷ bs) ≡ true
minus_solid b bs e s = ap (λ x. not (is_stop x) && solid bs) e ∙ s

not_word : (b : ℕ) (bs : List ℕ) → is_ascii_lowercase b ≡ false → is_word (b ∷ bs) ≡ false
not_word b bs e = and_right (leb 1 (suc (length bs))) _ (and_right (leb (suc (length bs)) 8) _ (and_left (is_ascii_lowercase b) (list_all is_ascii_lowercase bs) e))

-- a number is one run, and no word
pub record Lone (w : List ℕ) : Type 0 where
  pub one : Solid w
  pub other : is_word w ≡ false

pub lone_number : (w : List ℕ) (z : ℤ) → number_value w ≡ Some z → Lone w
lone_number [] z e = absurd (none≢some z e)
lone_number (b ∷ bs) z e = ⊎_elim minus plain (cases_Bool (eqb b 45))
  where
    minus : eqb b 45 ≡ true → Lone (b ∷ bs)
    minus h =
        let d = signed_digits neg_ℤ bs z (sym (cond-true (eqb b 45) (signed_by neg_ℤ (digits_value bs)) (signed_by (λ y. y) (digits_value (b ∷ bs))) h) ∙ e) in
        record {
          one = record { some = omega arith; through = minus_solid b bs (eqb-true b 45 h) (digits_solid bs d).through };
          other = not_word b bs (ap is_ascii_lowercase (eqb-true b 45 h));
        }

    plain : eqb b 45 ≡ false → Lone (b ∷ bs)
    plain h =
        let d = signed_digits (λ y. y) (b ∷ bs) z (sym (cond-false (eqb b 45) (signed_by neg_ℤ (digits_value bs)) (signed_by (λ y. y) (digits_value (b ∷ bs))) h) ∙ e) in
        record {
          one = digits_solid (b ∷ bs) d;
          other = not_word b bs (digit_not_lower b (and_parts (is_ascii_digit b) (list_all is_ascii_digit bs) (made_of_parts is_ascii_digit 10 (b ∷ bs) d).1).0);
        }

-- which token is seen at the bytes of a word or a number
pub sees_word : (w rest : List ℕ) → is_word w ≡ true → RunEnded rest → token_at (w ++ rest) ≡ word w
sees_word w rest e ended = let s = solid_word w e in token_solid w rest s.some s.through ended ∙ cond-true (is_word w) (word w) _ e

pub sees_number : (w rest : List ℕ) (z : ℤ) → number_value w ≡ Some z → RunEnded rest → token_at (w ++ rest) ≡ number w z
sees_number w rest z e ended =
    let l = lone_number w z e in
    token_solid w rest l.one.some l.one.through ended ∙ cond-false (is_word w) (word w) (numeric w (number_value w)) l.other ∙ ap (numeric w) e

pub no_space : (w rest : List ℕ) → Solid w → leading_spaces (w ++ rest) ≡ 0
no_space w rest s = spaces_solid w rest s.some s.through
