-- The bytes of a text, cut into tokens, with the line and the place of each. Assumes nothing.
use Rattle.std.specs.Prelude.{◌≡◌, ℕ, suc, ◌+◌, ◌-◌, ◌*◌, Bool, true, cond, ◌&&◌, ◌||◌, List, [], ◌∷◌, length, drop, ℤ, pos, neg_ℤ, Some, None, Option, ◌==◌, if◌then◌else◌, nat_le}
use Rattle.std.specs.List.{list_all}
use Rattle.std.specs.Char.{is_ascii_lowercase, is_ascii_digit}
use Rattle.std.specs.Str.{bytes_eq}

-- a space, a bracket or a line end: what ends a run
abbrev pub is_stop : ℕ → Bool
is_stop b = b == 32 || (b == 40 || (b == 41 || b == 10))

-- the longest run at the front
abbrev pub leading_run : List ℕ → List ℕ
leading_run [] = []
leading_run (b ∷ bs) = cond (is_stop b) [] (b ∷ leading_run bs)

-- how many spaces stand at the front
abbrev pub leading_spaces : List ℕ → ℕ
leading_spaces [] = 0
leading_spaces (b ∷ bs) = cond (b == 32) (suc (leading_spaces bs)) 0

-- no run goes on here: at the end, or at a byte that ends runs
abbrev pub RunEnded : List ℕ → Type 0
RunEnded [] = Unit {0}
RunEnded (b ∷ bs) = is_stop b ≡ true

-- how many line ends there are
abbrev pub line_ends_in : List ℕ → ℕ
line_ends_in [] = 0
line_ends_in (b ∷ bs) = cond (b == 10) (suc (line_ends_in bs)) (line_ends_in bs)

-- bytes of one class, at least one and at most n
abbrev pub made_of : (ℕ → Bool) → ℕ → List ℕ → Bool
made_of p n bs = nat_le 1 (length bs) && (nat_le (length bs) n && list_all p bs)

-- one to eight letters a to z
abbrev pub is_word : List ℕ → Bool
is_word bs = made_of is_ascii_lowercase 8 bs

-- one to ten digits
abbrev pub is_digits : List ℕ → Bool
is_digits bs = made_of is_ascii_digit 10 bs

-- the value of digits that follow the value n
abbrev pub value_after : ℕ → List ℕ → ℕ
value_after n [] = n
value_after n (c ∷ cs) = value_after (n * 10 + (c - 48)) cs

-- the value of one to ten digits
abbrev pub digits_value : List ℕ → Option ℕ
digits_value ds = cond (is_digits ds) (Some (value_after 0 ds)) None

-- a value with its sign
abbrev pub signed_by : (ℤ → ℤ) → Option ℕ → Option ℤ
signed_by sign (Some n) = Some (sign (pos n))
signed_by sign None = None

-- the value of a number: an optional minus sign and one to ten digits
abbrev pub number_value : List ℕ → Option ℤ
number_value [] = None
number_value (b ∷ bs) = cond (b == 45) (signed_by neg_ℤ (digits_value bs)) (signed_by (λ z. z) (digits_value (b ∷ bs)))

-- what stands at a place: a bracket, a line end, the text's end, or a run: a word, a number with its value, or neither
pub data Token : Type 0 where
  opening closing line_end text_end : Token
  word : List ℕ → Token
  number : List ℕ → ℤ → Token
  malformed : List ℕ → Token

-- a run by its value as a number
abbrev pub numeric : List ℕ → Option ℤ → Token
numeric bs (Some z) = number bs z
numeric bs None = malformed bs

-- a run as a whole is a word, a number or malformed
abbrev pub classed : List ℕ → Token
classed bs = cond (is_word bs) (word bs) (numeric bs (number_value bs))

-- the token at the front of bytes that do not begin with a space
abbrev pub token_at : List ℕ → Token
token_at [] = text_end
token_at (b ∷ bs) =
    if b == 40 then opening
    else (if b == 41 then closing
    else (if b == 10 then line_end
    else classed (leading_run (b ∷ bs))))

-- the kinds of token, numbered
abbrev pub kind : Token → ℕ
kind opening = 0
kind closing = 1
kind line_end = 2
kind text_end = 3
kind (word bs) = 4
kind (number bs z) = 5
kind (malformed bs) = 6

-- the bytes of a run
abbrev pub spelling : Token → List ℕ
spelling opening = []
spelling closing = []
spelling line_end = []
spelling text_end = []
spelling (word bs) = bs
spelling (number bs z) = bs
spelling (malformed bs) = bs

-- tokens of one kind, with the same bytes
abbrev pub alike : Token → Token → Bool
alike x t = kind x == kind t && bytes_eq (spelling x) (spelling t)

-- a run that is neither a word nor a number
abbrev pub is_malformed : Token → Bool
is_malformed t = kind t == 6

-- how many bytes a token takes
abbrev pub width : Token → ℕ
width opening = 1
width closing = 1
width line_end = 1
width text_end = 0
width (word bs) = length bs
width (number bs z) = length bs
width (malformed bs) = length bs

-- how many lines a token closes
abbrev pub line_ends : Token → ℕ
line_ends opening = 0
line_ends closing = 0
line_ends line_end = 1
line_ends text_end = 0
line_ends (word bs) = 0
line_ends (number bs z) = 0
line_ends (malformed bs) = 0

-- where a reader is: what is left of the text, the line (from 1) and the byte place (from 0)
pub record Cursor : Type 0 where
  pub rest : List ℕ
  pub line : ℕ
  pub place : ℕ

-- before the first byte
abbrev pub cursor_start : List ℕ → Cursor
cursor_start bs = record { rest = bs; line = 1; place = 0 }

-- past the spaces
abbrev pub skip_spaces : Cursor → Cursor
skip_spaces s = record { rest = drop (leading_spaces s.rest) s.rest; line = s.line; place = s.place + leading_spaces s.rest }

-- past the token at the front
abbrev pub past : Token → Cursor → Cursor
past t s = record { rest = drop (width t) s.rest; line = s.line + line_ends t; place = s.place + width t }

-- the next token, which begins at `skip_spaces s`
abbrev pub next_token : Cursor → Token
next_token s = token_at (skip_spaces s).rest

-- past the next token
abbrev pub after_token : Cursor → Cursor
after_token s = past (next_token s) (skip_spaces s)
