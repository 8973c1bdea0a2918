-- Pens and their paper, and what writing a sheet answers and leaves there. Assumes nothing.
use Rattle.std.specs.Prelude.{◌≡◌, ℕ, ◌+◌, ◌≤◌, Bool, cond, ◌&&◌, List, ◌++◌, length, take, drop, ℤ, Ok, Err, Result, nat_le, if◌then◌else◌}
use Rattle.field.specs.Field.{FieldModel}
use Rattle.refusal.specs.declared.refusal.Refusal.{Refusal}
use Rattle.refusal.specs.declared.refusal.Refusal.TheVariants.{PaperShort}
use Rattle.sheet.specs.declared.terms.Terms.{Terms}
use Rattle.writer.specs.declared.limits.TheConstants.{MOST_VALUES, ENOUGH_PAPER}
use Rattle.writer.specs.declared.pen.Pen.{Pen}
use Rattle.writer.specs.Texts.{text}

-- the bytes bs are put at a place of the paper, up to an end, and the others are as they were
pub record Lays (bs before : List ℕ) (at : ℕ) (after : List ℕ) (end : ℕ) : Type 0 where
  pub end_is : end ≡ at + length bs
  pub front : take end after ≡ take at before ++ bs
  pub back : drop end after ≡ drop end before

-- the paper of a pen
abbrev pub paper_of : Pen → List ℕ
paper_of pen = pen.paper.now

-- how many bytes stand before a pen
abbrev pub place_of : Pen → ℕ
place_of pen = pen.at

-- there is room for the bytes bs where the pen is
abbrev pub Room : List ℕ → Pen → Type 0
Room bs pen = place_of pen + length bs ≤ length (paper_of pen)

-- what writing the bytes bs where the pen is answers: 22 where there is no room for them
abbrev pub put_answer : List ℕ → Pen → Result (Unit {0}) Refusal
put_answer bs pen = if nat_le (place_of pen + length bs) (length (paper_of pen)) then Ok tt else Err PaperShort

-- the bytes bs are put where the pen was, on the same paper
pub record Puts (bs : List ℕ) (before after : Pen) : Type 0 where
  pub lays : Lays bs (paper_of before) (place_of before) (paper_of after) (place_of after)
  pub lender : after.paper.ghost_name ≡ before.paper.ghost_name

-- whether a sheet may be written: it has no more values than a sheet may have, and the paper is enough for every such sheet
abbrev pub writable : ℕ → ℕ → Bool
writable count room = nat_le count MOST_VALUES && nat_le ENOUGH_PAPER room

module _ {K : Type 0} (F : FieldModel K) where
  -- what writing a sheet answers: its length, or 22 where it is not written
  abbrev pub write_answer : Terms → ℤ → List K → List ℕ → Result ℕ Refusal
  write_answer t c xs paper = cond (writable (length xs) (length paper)) (Ok (length (text F t c xs))) (Err PaperShort)

  -- and what it leaves on the paper: the text, and the bytes behind it as they were
  abbrev pub paper_after : Terms → ℤ → List K → List ℕ → List ℕ
  paper_after t c xs paper = cond (writable (length xs) (length paper)) (text F t c xs ++ drop (length (text F t c xs)) paper) paper
