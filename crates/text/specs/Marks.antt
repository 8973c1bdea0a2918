-- What a text says, mark by mark, and how marks are laid out in bytes: with spaces before, between and after them, and with leading zeros. Assumes nothing.
use Rattle.std.specs.Prelude.{◌≡◌, ℕ, List, [], ◌∷◌, ◌++◌, replicate, ℤ, pos, ◌≤ℤ◌, Some}
use Rattle.text.specs.Tokens.{RunEnded, number_value}
use Rattle.text.specs.Items.{spelled, Fixed, Fixed.opening, Fixed.closing, Fixed.line_end, Fixed.text_end, Fixed.word, Item, Item.the, Item.given, Item.stated}

-- a bracket, a line end, a word of the format or the text's end; or a number, by its value
pub data Mark : Type 0 where
  fixed : Fixed → Mark
  number : ℤ → Mark

-- the mark of an item, where the number that may be stated there is z
abbrev pub item_mark : Item → ℤ → Mark
item_mark (the x) z = fixed x
item_mark (given n f) z = number (pos n)
item_mark (stated lo hi f) z = number z

-- the marks of items that state the numbers zs
abbrev pub marks : List Item → List ℤ → List Mark
marks [] zs = []
marks (the x ∷ ds) zs = fixed x ∷ marks ds zs
marks (given n f ∷ ds) zs = number (pos n) ∷ marks ds zs
marks (stated lo hi f ∷ ds) [] = []
marks (stated lo hi f ∷ ds) (z ∷ zs) = number z ∷ marks ds zs

-- zs are a number for each that is stated where the items stand, and lie in their ranges
abbrev pub InRanges : List Item → List ℤ → Type 0
InRanges [] zs = zs ≡ []
InRanges (the x ∷ ds) zs = InRanges ds zs
InRanges (given n f ∷ ds) zs = InRanges ds zs
InRanges (stated lo hi f ∷ ds) [] = ⊥
InRanges (stated lo hi f ∷ ds) (z ∷ zs) = (lo ≤ℤ z) × (z ≤ℤ hi) × InRanges ds zs

-- the bytes of what is written in one way
abbrev pub fixed_bytes : Fixed → List ℕ
fixed_bytes opening = 40 ∷ []
fixed_bytes closing = 41 ∷ []
fixed_bytes line_end = 10 ∷ []
fixed_bytes text_end = []
fixed_bytes (word k) = spelled k

-- bytes that spell a mark: a number may have a minus sign before zero, and leading zeros up to ten digits
abbrev pub Spells : Mark → List ℕ → Type 0
Spells (fixed x) w = w ≡ fixed_bytes x
Spells (number z) w = number_value w ≡ Some z

-- what may follow a mark: no run goes on behind a word or a number, and nothing is behind the end
abbrev pub Apart : Mark → List ℕ → Type 0
Apart (fixed opening) rest = Unit {0}
Apart (fixed closing) rest = Unit {0}
Apart (fixed line_end) rest = Unit {0}
Apart (fixed text_end) rest = rest ≡ []
Apart (fixed (word k)) rest = RunEnded rest
Apart (number z) rest = RunEnded rest

-- spaces, then a mark, then the rest
pub record Begins (Rest : List ℕ → Type 0) (m : Mark) (bs : List ℕ) : Type 0 where
  pub spaces : ℕ
  pub bytes : List ℕ
  pub rest : List ℕ
  pub whole : bs ≡ replicate spaces 32 ++ (bytes ++ rest)
  pub spells : Spells m bytes
  pub apart : Apart m rest
  pub goes_on : Rest rest

-- bs are these marks in order, with spaces before, between and after them, and then what is left
abbrev pub Layout : List Mark → List ℕ → List ℕ → Type 0
Layout [] left bs = (n : ℕ) × (bs ≡ replicate n 32 ++ left)
Layout (m ∷ ms) left bs = Begins (Layout ms left) m bs
