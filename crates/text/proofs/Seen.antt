-- One token: which mark it says, and which token a mark is read as. Assumes nothing.
use Rattle.std.proofs.Common.{◌≡◌, ℕ, true, cond, eqb, List, [], ◌∷◌, ◌++◌, length, drop, replicate, ℤ, pos, ◌≤ℤ◌, sym, refl, ap, ◌∙◌, subst, arith}
use lib.ListN.{length-replicate}
use lib.Signed.{le_z}
use Rattle.std.specs.Str.{bytes_eq}
use Rattle.std.proofs.lemmas.Slice.Eq.{bytes_eq-Decides}
use Rattle.std.proofs.lemmas.List.{drop_at}
use Rattle.std.proofs.lemmas.Int.{ints}
use Rattle.std.proofs.lemmas.Bool.{cond-true, cond_both, and_parts, and_from, eqb-true}
use Rattle.refusal.specs.declared.fault.Fault.TheVariants as fault
use Rattle.text.specs.Tokens as tokens
use Rattle.text.specs.Tokens.{Token, is_word, leading_spaces, kind, spelling, alike, is_malformed, token_at, width, Cursor, skip_spaces, after_token, next_token}
use Rattle.text.proofs.Shows.{spaces_split, spaces_of, Shows, shows, solid_word, lone_number, sees_word, sees_number, no_space}
use Rattle.text.specs.declared.keyword.Keyword.{Keyword}
use Rattle.text.specs.declared.keyword.Keyword.TheVariants as keyword
use Rattle.text.specs.Items.{spelled, Fixed, Fixed.opening, Fixed.closing, Fixed.line_end, Fixed.text_end, Fixed.word, fixed_token, Item, Item.the, Item.given, Item.stated, Verdict, Verdict.wrong, Verdict.fine, Verdict.keep, in_range, formed_verdict, item_verdict}
use Rattle.text.specs.Marks.{Mark, Mark.fixed, Mark.number, Spells, Apart, Begins}

in_range_parts : (lo hi z : ℤ) → in_range lo hi z ≡ true → (lo ≤ℤ z) × (z ≤ℤ hi)
in_range_parts lo hi z e = let p = and_parts (le_z lo z) (le_z z hi) e in (grind (arith, ints), grind (arith, ints))

pub in_range_from : (lo hi z : ℤ) → lo ≤ℤ z → z ≤ℤ hi → in_range lo hi z ≡ true
in_range_from lo hi z a b = and_from (le_z lo z) (le_z z hi) (grind (arith, ints)) (grind (arith, ints))

both_bounds : (n z : ℤ) → n ≤ℤ z → z ≤ℤ n → z ≡ n
both_bounds n z a b = omega (arith, ints)

pub within_itself : (n : ℤ) → in_range n n n ≡ true
within_itself n = let a : n ≤ℤ n = omega (arith, ints) in in_range_from n n n a a

-- the words of the format are words
is_keyword : (k : Keyword) → is_word (spelled k) ≡ true
is_keyword keyword.Sheet = refl
is_keyword keyword.Grid = refl
is_keyword keyword.Claim = refl
is_keyword keyword.At = refl
is_keyword keyword.End = refl

-- the token of a mark that is spelled so
abbrev pub token_for : Mark → List ℕ → Token
token_for (fixed x) w = fixed_token x
token_for (number z) w = tokens.Token.number w z

-- a token from its kind, its bytes and a value
abbrev rebuilt : ℕ → List ℕ → ℤ → Token
rebuilt n bs z =
    cond (eqb n 0) tokens.Token.opening (cond (eqb n 1) tokens.Token.closing (cond (eqb n 2) tokens.Token.line_end (cond (eqb n 3) tokens.Token.text_end
    (cond (eqb n 4) (tokens.Token.word bs) (cond (eqb n 5) (tokens.Token.number bs z) (tokens.Token.malformed bs))))))

abbrev value_in : Token → ℤ
value_in tokens.Token.opening = pos 0
value_in tokens.Token.closing = pos 0
value_in tokens.Token.line_end = pos 0
value_in tokens.Token.text_end = pos 0
value_in (tokens.Token.word bs) = pos 0
value_in (tokens.Token.number bs z) = z
value_in (tokens.Token.malformed bs) = pos 0

rebuilt_same : (t : Token) → rebuilt (kind t) (spelling t) (value_in t) ≡ t
rebuilt_same tokens.Token.opening = refl
rebuilt_same tokens.Token.closing = refl
rebuilt_same tokens.Token.line_end = refl
rebuilt_same tokens.Token.text_end = refl
rebuilt_same (tokens.Token.word bs) = refl
rebuilt_same (tokens.Token.number bs z) = refl
rebuilt_same (tokens.Token.malformed bs) = refl

rebuilt_fixed : (x : Fixed) (z : ℤ) → rebuilt (kind (fixed_token x)) (spelling (fixed_token x)) z ≡ fixed_token x
rebuilt_fixed opening z = refl
rebuilt_fixed closing z = refl
rebuilt_fixed line_end z = refl
rebuilt_fixed text_end z = refl
rebuilt_fixed (word k) z = refl

-- a token of the same kind, with the same bytes, is the same
alike_fixed : (x : Fixed) (t : Token) → alike (fixed_token x) t ≡ true → t ≡ fixed_token x
alike_fixed x t e =
    let p = and_parts (eqb (kind (fixed_token x)) (kind t)) (bytes_eq (spelling (fixed_token x)) (spelling t)) e in
    sym (rebuilt_same t)
    ∙ sym (λ i. rebuilt (eqb-true (kind (fixed_token x)) (kind t) p.0 i) ((bytes_eq-Decides (spelling (fixed_token x)) (spelling t)).0 p.1 i) (value_in t))
    ∙ rebuilt_fixed x (value_in t)

-- what an accepted verdict says of the token
abbrev pub Met : Item → Token → Verdict → Type 0
Met (the x) t (wrong f) = Unit {0}
Met (the x) t fine = t ≡ fixed_token x
Met (the x) t (keep z) = ⊥
Met (given n g) t (wrong f) = Unit {0}
Met (given n g) t fine = (w : List ℕ) × (t ≡ tokens.Token.number w (pos n))
Met (given n g) t (keep z) = ⊥
Met (stated lo hi g) t (wrong f) = Unit {0}
Met (stated lo hi g) t fine = ⊥
Met (stated lo hi g) t (keep z) = (w : List ℕ) × (t ≡ tokens.Token.number w z) × (lo ≤ℤ z) × (z ≤ℤ hi)

pub met : (d : Item) (t : Token) → Met d t (item_verdict d t)
met (the x) t =
    cond_both (is_malformed t) (wrong fault.Malformed) (formed_verdict (the x) t) (Met (the x) t) (λ _. tt)
    (λ _. cond_both (alike (fixed_token x) t) fine (wrong fault.Unexpected) (Met (the x) t) (alike_fixed x t) (λ _. tt))
met (given n g) tokens.Token.opening = tt
met (given n g) tokens.Token.closing = tt
met (given n g) tokens.Token.line_end = tt
met (given n g) tokens.Token.text_end = tt
met (given n g) (tokens.Token.word v) = tt
met (given n g) (tokens.Token.number v y) =
    cond_both (in_range (pos n) (pos n) y) fine (wrong g) (Met (given n g) (tokens.Token.number v y))
    (λ e. let p = in_range_parts (pos n) (pos n) y e in (v, ap (tokens.Token.number v) (both_bounds (pos n) y p.0 p.1))) (λ _. tt)
met (given n g) (tokens.Token.malformed v) = tt
met (stated lo hi g) tokens.Token.opening = tt
met (stated lo hi g) tokens.Token.closing = tt
met (stated lo hi g) tokens.Token.line_end = tt
met (stated lo hi g) tokens.Token.text_end = tt
met (stated lo hi g) (tokens.Token.word v) = tt
met (stated lo hi g) (tokens.Token.number v y) =
    cond_both (in_range lo hi y) (keep y) (wrong g) (Met (stated lo hi g) (tokens.Token.number v y))
    (λ e. let p = in_range_parts lo hi y e in (v, refl, p.0, p.1)) (λ _. tt)
met (stated lo hi g) (tokens.Token.malformed v) = tt

-- spaces and the bytes of m, up to next
pub record Taken (m : Mark) (bs next : List ℕ) : Type 0 where
  pub spaces : ℕ
  pub bytes : List ℕ
  pub whole : bs ≡ replicate spaces 32 ++ (bytes ++ next)
  pub spells : Spells m bytes
  pub apart : Apart m next

-- what is behind the spaces, as bytes of a mark
record Split (m : Mark) (xs next : List ℕ) : Type 0 where
  bytes : List ℕ
  whole : xs ≡ bytes ++ next
  spells : Spells m bytes
  apart : Apart m next

split_fixed : (xs : List ℕ) (x : Fixed) → Shows xs (fixed_token x) → Split (fixed x) xs (drop (width (fixed_token x)) xs)
split_fixed xs opening e = record { bytes = 40 ∷ []; whole = e; spells = refl; apart = tt }
split_fixed xs closing e = record { bytes = 41 ∷ []; whole = e; spells = refl; apart = tt }
split_fixed xs line_end e = record { bytes = 10 ∷ []; whole = e; spells = refl; apart = tt }
split_fixed xs text_end e = record { bytes = []; whole = refl; spells = refl; apart = e }
split_fixed xs (word k) e = record { bytes = spelled k; whole = e.0.whole; spells = refl; apart = e.0.ended }

split_number : (xs w : List ℕ) (z : ℤ) → Shows xs (tokens.Token.number w z) → Split (number z) xs (drop (length w) xs)
split_number xs w z e = record { bytes = w; whole = e.0.whole; spells = e.1; apart = e.0.ended }

split_taken : (s : Cursor) (m : Mark) (next : List ℕ) → Split m (skip_spaces s).rest next → Taken m s.rest next
split_taken s m next p = record {
  spaces = leading_spaces s.rest;
  bytes = p.bytes;
  whole = spaces_split s.rest ∙ ap (λ ys. replicate (leading_spaces s.rest) 32 ++ ys) p.whole;
  spells = p.spells;
  apart = p.apart;
}

-- a token that was read, as marks see it
pub taken_fixed : (s : Cursor) (x : Fixed) → next_token s ≡ fixed_token x → Taken (fixed x) s.rest (after_token s).rest
taken_fixed s x e =
    subst (λ u. Taken (fixed x) s.rest (drop (width u) (skip_spaces s).rest)) (sym e)
    (split_taken s (fixed x) _ (split_fixed (skip_spaces s).rest x (subst (Shows (skip_spaces s).rest) e (shows (skip_spaces s).rest))))

pub taken_number : (s : Cursor) (w : List ℕ) (z : ℤ) → next_token s ≡ tokens.Token.number w z → Taken (number z) s.rest (after_token s).rest
taken_number s w z e =
    subst (λ u. Taken (number z) s.rest (drop (width u) (skip_spaces s).rest)) (sym e)
    (split_taken s (number z) _ (split_number (skip_spaces s).rest w z (subst (Shows (skip_spaces s).rest) e (shows (skip_spaces s).rest))))

-- the token that is seen at the bytes of a mark
record Sees (m : Mark) (w rest : List ℕ) : Type 0 where
  token_is : token_at (w ++ rest) ≡ token_for m w
  close : leading_spaces (w ++ rest) ≡ 0
  wide : width (token_for m w) ≡ length w

sees : (m : Mark) (w rest : List ℕ) → Spells m w → Apart m rest → Sees m w rest
sees (fixed opening) w rest e a = record { token_is = ap (λ v. token_at (v ++ rest)) e; close = ap (λ v. leading_spaces (v ++ rest)) e; wide = sym (ap length e) }
sees (fixed closing) w rest e a = record { token_is = ap (λ v. token_at (v ++ rest)) e; close = ap (λ v. leading_spaces (v ++ rest)) e; wide = sym (ap length e) }
sees (fixed line_end) w rest e a = record { token_is = ap (λ v. token_at (v ++ rest)) e; close = ap (λ v. leading_spaces (v ++ rest)) e; wide = sym (ap length e) }
sees (fixed text_end) w rest e a = record { token_is = (λ i. token_at (e i ++ a i)); close = (λ i. leading_spaces (e i ++ a i)); wide = sym (ap length e) }
sees (fixed (word k)) w rest e a = record {
  token_is = ap (λ v. token_at (v ++ rest)) e ∙ sees_word (spelled k) rest (is_keyword k) a;
  close = ap (λ v. leading_spaces (v ++ rest)) e ∙ no_space (spelled k) rest (solid_word (spelled k) (is_keyword k));
  wide = sym (ap length e);
}
sees (number z) w rest e a = record { token_is = sees_number w rest z e a; close = no_space w rest (lone_number w z e).one; wide = refl }

-- where a mark is next: the token read there, and what is left
module _ {P : List ℕ → Type 0} (s : Cursor) (m : Mark) (b : Begins P m s.rest) where
  sees_here : Sees m b.bytes b.rest
  sees_here = sees m b.bytes b.rest b.spells b.apart

  spaces_here : leading_spaces s.rest ≡ b.spaces
  spaces_here = ap leading_spaces b.whole ∙ spaces_of b.spaces (b.bytes ++ b.rest) sees_here.close

  skipped : (skip_spaces s).rest ≡ b.bytes ++ b.rest
  skipped = (λ i. drop (spaces_here i) (b.whole i)) ∙ drop_at (replicate b.spaces 32) (b.bytes ++ b.rest) b.spaces (length-replicate b.spaces 32)

  pub next_here : next_token s ≡ token_for m b.bytes
  next_here = ap token_at skipped ∙ sees_here.token_is

  left_here : (after_token s).rest ≡ b.rest
  left_here = (λ i. drop (width (next_here i)) (skipped i)) ∙ drop_at b.bytes b.rest (width (token_for m b.bytes)) (sym sees_here.wide)

  pub goes_here : P (after_token s).rest
  goes_here = subst P (sym left_here) b.goes_on

-- a fixed token is fine where it is next
pub fine_fixed : (x : Fixed) → item_verdict (the x) (fixed_token x) ≡ fine
fine_fixed opening = refl
fine_fixed closing = refl
fine_fixed line_end = refl
fine_fixed text_end = refl
fine_fixed (word k) = cond-true (bytes_eq (spelled k) (spelled k)) fine (wrong fault.Unexpected) ((bytes_eq-Decides (spelled k) (spelled k)).1 refl)
