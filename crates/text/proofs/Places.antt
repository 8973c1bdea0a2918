-- The line and the place of a reader, whatever it has read: the line ends and the bytes are those before it. Assumes nothing.
use Rattle.std.proofs.Common.{◌≡◌, ℕ, zero, suc, ◌+◌, true, false, cond, not, eqb, List, [], ◌∷◌, ◌++◌, length, drop, replicate, refl, ap, ◌∙◌, arith, length-drop}
use Rattle.std.proofs.lemmas.Bool.{cond-false, and_parts}
use Rattle.std.proofs.lemmas.Bool.Decides.{nat_tests}
use Rattle.text.specs.Tokens.{is_stop, leading_spaces, line_ends_in, width, line_ends, Cursor, skip_spaces, after_token, next_token, Token, Token.opening, Token.closing, Token.line_end, Token.text_end, Token.word, Token.number, Token.malformed}
use Rattle.text.proofs.Runs.{spaces_le, width_le}
use Rattle.text.proofs.Shows.{spaces_split, Shows, shows, solid, Runs}

pub ends_append : (xs ys : List ℕ) → line_ends_in (xs ++ ys) ≡ line_ends_in xs + line_ends_in ys
ends_append [] ys = omega arith
ends_append (b ∷ xs) ys =
    let e = ends_append xs ys in
    elim (eqb b 10) as (λ t. cond t (suc (line_ends_in (xs ++ ys))) (line_ends_in (xs ++ ys)) ≡ cond t (suc (line_ends_in xs)) (line_ends_in xs) + line_ends_in ys) [ true ↦ omega arith | false ↦ e ]

pub ends_spaces : (n : ℕ) → line_ends_in (replicate n 32) ≡ 0
ends_spaces zero = refl
ends_spaces (suc n) = ends_spaces n

not_line_end : (b : ℕ) → not (is_stop b) ≡ true → eqb b 10 ≡ false
not_line_end b h = grind (arith, nat_tests)

ends_solid : (w : List ℕ) → solid w ≡ true → line_ends_in w ≡ 0
ends_solid [] e = refl
ends_solid (b ∷ w) e =
    let p = and_parts (not (is_stop b)) (solid w) e in
    cond-false (eqb b 10) (suc (line_ends_in w)) (line_ends_in w) (not_line_end b p.0) ∙ ends_solid w p.1

-- a run closes no line
ends_run : (xs w : List ℕ) → Runs xs w → line_ends_in xs ≡ 0 + line_ends_in (drop (length w) xs)
ends_run xs w r = ap line_ends_in r.whole ∙ ends_append w (drop (length w) xs) ∙ ap (λ n. n + line_ends_in (drop (length w) xs)) (ends_solid w r.through)

-- a token's line ends are those that it closes
ends_token : (xs : List ℕ) (t : Token) → Shows xs t → line_ends_in xs ≡ line_ends t + line_ends_in (drop (width t) xs)
ends_token xs opening e = ap line_ends_in e ∙ (let k : line_ends_in (drop 1 xs) ≡ 0 + line_ends_in (drop 1 xs) = omega arith in k)
ends_token xs closing e = ap line_ends_in e ∙ (let k : line_ends_in (drop 1 xs) ≡ 0 + line_ends_in (drop 1 xs) = omega arith in k)
ends_token xs line_end e = ap line_ends_in e ∙ (let k : suc (line_ends_in (drop 1 xs)) ≡ 1 + line_ends_in (drop 1 xs) = omega arith in k)
ends_token xs text_end e = let k : line_ends_in xs ≡ 0 + line_ends_in xs = omega arith in k
ends_token xs (word w) e = ends_run xs w e.0
ends_token xs (number w z) e = ends_run xs w e.0
ends_token xs (malformed w) e = ends_run xs w e

-- the line goes on with the line ends that are left, the place with the bytes
pub skip_line : (s : Cursor) → (skip_spaces s).line + line_ends_in (skip_spaces s).rest ≡ s.line + line_ends_in s.rest
skip_line s =
    let a = ap line_ends_in (spaces_split s.rest) in
    let b = ends_append (replicate (leading_spaces s.rest) 32) (drop (leading_spaces s.rest) s.rest) in
    let c = ends_spaces (leading_spaces s.rest) in
    omega arith

pub skip_place : (s : Cursor) → (skip_spaces s).place + length (skip_spaces s).rest ≡ s.place + length s.rest
skip_place s = let a = spaces_le s.rest in let b = length-drop (leading_spaces s.rest) s.rest in omega arith

pub after_line : (s : Cursor) → (after_token s).line + line_ends_in (after_token s).rest ≡ s.line + line_ends_in s.rest
after_line s =
    let a = ends_token (skip_spaces s).rest (next_token s) (shows (skip_spaces s).rest) in
    let b = skip_line s in
    omega arith

pub after_place : (s : Cursor) → (after_token s).place + length (after_token s).rest ≡ s.place + length s.rest
after_place s =
    let a = width_le (skip_spaces s).rest in
    let b = length-drop (width (next_token s)) (skip_spaces s).rest in
    let c = skip_place s in
    omega arith
