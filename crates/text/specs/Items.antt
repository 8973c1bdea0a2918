-- The items of a form, and a pass of tokens against them. Assumes nothing.
use Rattle.std.specs.Prelude.{ℕ, ◌+◌, Bool, cond, ◌&&◌, List, [], ◌∷◌, ◌++◌, take, ℤ, pos, Ok, Err, codes, Result, int_le}
use Rattle.refusal.specs.declared.fault.Fault.{Fault}
use Rattle.refusal.specs.declared.fault.Fault.TheVariants as fault
use Rattle.refusal.specs.declared.refusal.Refusal.{Refusal}
use Rattle.refusal.specs.declared.refusal.Refusal.TheVariants as refusal
use Rattle.text.specs.Tokens as tokens
use Rattle.text.specs.Tokens.{Token, alike, is_malformed, Cursor, skip_spaces, next_token, after_token}
use Rattle.text.specs.declared.keyword.Keyword.{Keyword}
use Rattle.text.specs.declared.keyword.Keyword.TheVariants as keyword

-- the bytes of a word of the format
abbrev pub spelled : Keyword → List ℕ
spelled keyword.Sheet = codes "sheet"
spelled keyword.Grid = codes "grid"
spelled keyword.Claim = codes "claim"
spelled keyword.At = codes "at"
spelled keyword.End = codes "end"

-- what is written in one way only: a bracket, a line end, a word of the format; and the text's end
pub data Fixed : Type 0 where
  opening closing line_end text_end : Fixed
  word : Keyword → Fixed

-- what a form has next
pub data Item : Type 0 where
  the : Fixed → Item  -- just this
  given : ℕ → Fault → Item  -- the number n; another has this fault
  stated : ℤ → ℤ → Fault → Item  -- a number from lo to hi, which the text states; another has this fault

-- how many numbers are stated where an item stands
abbrev pub stated_count_of : Item → ℕ
stated_count_of (the x) = 0
stated_count_of (given n f) = 0
stated_count_of (stated lo hi f) = 1

-- how many numbers are stated where items stand
abbrev pub stated_count : List Item → ℕ
stated_count [] = 0
stated_count (d ∷ ds) = stated_count_of d + stated_count ds

-- the numbers in front, as many as are stated where items stand
abbrev pub stated_front : List Item → List ℤ → List ℤ
stated_front ds zs = take (stated_count ds) zs

-- the token of what is written in one way
abbrev pub fixed_token : Fixed → Token
fixed_token opening = tokens.Token.opening
fixed_token closing = tokens.Token.closing
fixed_token line_end = tokens.Token.line_end
fixed_token text_end = tokens.Token.text_end
fixed_token (word k) = tokens.Token.word (spelled k)

-- what a token comes to: a fault, what was next, or a number to keep
pub data Verdict : Type 0 where
  wrong : Fault → Verdict
  fine : Verdict
  keep : ℤ → Verdict

-- lo ≤ z ≤ hi
abbrev pub in_range : ℤ → ℤ → ℤ → Bool
in_range lo hi z = int_le lo z && int_le z hi

-- a number by its value; any other token is unexpected
abbrev pub number_verdict : Token → (ℤ → Verdict) → Verdict
number_verdict tokens.Token.opening f = wrong fault.Unexpected
number_verdict tokens.Token.closing f = wrong fault.Unexpected
number_verdict tokens.Token.line_end f = wrong fault.Unexpected
number_verdict tokens.Token.text_end f = wrong fault.Unexpected
number_verdict (tokens.Token.word bs) f = wrong fault.Unexpected
number_verdict (tokens.Token.number bs z) f = f z
number_verdict (tokens.Token.malformed bs) f = wrong fault.Unexpected

-- a token that is well formed, where an item is next
abbrev pub formed_verdict : Item → Token → Verdict
formed_verdict (the x) t = cond (alike (fixed_token x) t) fine (wrong fault.Unexpected)
formed_verdict (given n f) t = number_verdict t (λ z. cond (in_range (pos n) (pos n) z) fine (wrong f))
formed_verdict (stated lo hi f) t = number_verdict t (λ z. cond (in_range lo hi z) (keep z) (wrong f))

-- a token where an item is next: a malformed run is a fault wherever it stands
abbrev pub item_verdict : Item → Token → Verdict
item_verdict d t = cond (is_malformed t) (wrong fault.Malformed) (formed_verdict d t)

-- the numbers kept so far and where the reader is, or a refusal
abbrev pub Passed : Type 0
Passed = Result (List ℤ × Cursor) Refusal

-- what a verdict on the token between two places comes to
abbrev pub verdict_outcome : Verdict → List ℤ → Cursor → Cursor → Passed
verdict_outcome (wrong f) kept here next = Err (refusal.Sheet f here.line here.place)
verdict_outcome fine kept here next = Ok (kept, next)
verdict_outcome (keep z) kept here next = Ok (kept ++ z ∷ [], next)

-- one token against an item
abbrev pub item_pass : Item → List ℤ → Cursor → Passed
item_pass d kept s = verdict_outcome (item_verdict d (next_token s)) kept (skip_spaces s) (after_token s)

-- a pass that goes on unless there was a refusal
abbrev pub pass_then : Passed → (List ℤ → Cursor → Passed) → Passed
pass_then (Err r) f = Err r
pass_then (Ok p) f = f p.0 p.1

-- the tokens, one by one, against items: the first that is wrong ends the pass
unfoldable pub items_pass : List Item → List ℤ → Cursor → Passed
items_pass [] kept s = Ok (kept, s)
items_pass (d ∷ ds) kept s = pass_then (item_pass d kept s) (λ more t. items_pass ds more t)

-- behind a token that was wrong the reader stays, and goes on otherwise
abbrev pub going_on : Passed → Cursor → Cursor → Cursor
going_on (Ok p) on stop = on
going_on (Err r) on stop = stop

-- where the reader is after a pass: behind the first token that is wrong, or else behind the last
unfoldable pub passed_to : List Item → Cursor → Cursor
passed_to [] s = s
passed_to (d ∷ ds) s = going_on (item_pass d [] s) (passed_to ds (after_token s)) (after_token s)
