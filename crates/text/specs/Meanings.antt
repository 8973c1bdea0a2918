-- What the code's tokens, items and answers stand for. Assumes nothing.
use Rattle.std.specs.Prelude.{ℕ, List, [], ◌∷◌, ◌++◌, ℤ, Ok, Err, Result, Some, None, Option}
use Rattle.refusal.specs.declared.fault.Fault.{Fault}
use Rattle.refusal.specs.declared.refusal.Refusal.{Refusal}
use Rattle.text.specs.declared.token.Token.{Token}
use Rattle.text.specs.declared.token.Token.TheVariants as token
use Rattle.text.specs.declared.item.Item.{Item}
use Rattle.text.specs.declared.item.Item.TheVariants as item
use Rattle.text.specs.Tokens as tokens
use Rattle.text.specs.Tokens.{Cursor}
use Rattle.text.specs.Items as items
use Rattle.text.specs.Items.{Fixed.opening, Fixed.closing, Fixed.line_end, Fixed.text_end, Fixed.word, Verdict, Verdict.wrong, Verdict.fine, Verdict.keep, Passed}

-- the token that the code's token stands for
abbrev pub token_of : Token → tokens.Token
token_of token.Open = tokens.Token.opening
token_of token.Close = tokens.Token.closing
token_of token.LineEnd = tokens.Token.line_end
token_of token.End = tokens.Token.text_end
token_of (token.Word bs) = tokens.Token.word bs.now
token_of (token.Number bs z) = tokens.Token.number bs.now z
token_of (token.Malformed bs) = tokens.Token.malformed bs.now

-- the item that the code's item stands for
abbrev pub item_of : Item → items.Item
item_of item.Open = items.Item.the opening
item_of item.Close = items.Item.the closing
item_of item.LineEnd = items.Item.the line_end
item_of (item.Word k) = items.Item.the (word k)
item_of (item.Given n f) = items.Item.given n f
item_of (item.Stated lo hi f) = items.Item.stated lo hi f
item_of item.End = items.Item.the text_end

-- how many numbers a check gave
abbrev pub given_count : Option ℤ → ℕ
given_count None = 0
given_count (Some z) = 1

-- what a check found
abbrev pub verdict_of : Result (Option ℤ) Fault → Verdict
verdict_of (Ok None) = fine
verdict_of (Ok (Some z)) = keep z
verdict_of (Err f) = wrong f

-- the answer for one item, of a reader that is now at s
abbrev pub passed_one : List ℤ → Result (Option ℤ) Refusal → Cursor → Passed
passed_one kept (Ok None) s = Ok (kept, s)
passed_one kept (Ok (Some z)) s = Ok (kept ++ z ∷ [], s)
passed_one kept (Err r) s = Err r

-- the answer for items, of a reader that is now at s, with the numbers of an answer kept
abbrev pub passed_with : {X : Type 0} → (X → List ℤ) → List ℤ → Result X Refusal → Cursor → Passed
passed_with numbers kept (Ok x) s = Ok (kept ++ numbers x, s)
passed_with numbers kept (Err r) s = Err r
