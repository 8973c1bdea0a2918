-- This season's four questions in one type: what each means, and which of them a tag names. Assumes nothing.
use Rattle.std.specs.Prelude.{◌≡◌, ◌&&◌, ◌==◌, if◌then◌else◌, Option, Some, None}
use Rattle.field.specs.Field.{FieldModel}
use Rattle.board.specs.declared.tag.Tag.{Tag}
use Rattle.question.specs.Question.{QuestionModel, SmallTag, LawfulQuestion}
use Rattle.season.specs.declared.season.Season.{Season}
use Rattle.season.specs.declared.season.Season.TheVariants as season
use Rattle.season.specs.Cell.{cell_question}
use Rattle.season.specs.Goods.{goods_question}
use Rattle.season.specs.Range.{range_question}
use Rattle.season.specs.Squares.{squares_question}

-- the question with this tag, where one of the four has it
abbrev pub season_of : Tag → Option Season
season_of t =
    if t.kind == 1 && t.second == 0 then Some (season.Cell (record { index = t.first }))
    else if t.kind == 2 && t.second == 0 then Some (season.Goods (record { kind = t.first }))
    else if t.kind == 3 then Some (season.Range (record { first = t.first; last = t.second }))
    else if t.kind == 4 && (t.first == 0 && t.second == 0) then Some (season.Squares (record {}))
    else None

module _ {K : Type 0} (F : FieldModel K) where
  -- the meaning of one of the four
  abbrev pub season_question : Season → QuestionModel K
  season_question (season.Cell q) = cell_question F q.index
  season_question (season.Goods q) = goods_question F q.kind
  season_question (season.Range q) = range_question F q.first q.last
  season_question (season.Squares q) = squares_question F

  -- any of the four whose numbers are in range is lawful
  abbrev pub SeasonLawful : Type 0
  SeasonLawful = (q : Season) → SmallTag (season_question q).tag → LawfulQuestion F (season_question q)

  -- each of the four has a tag of its own, and a tag names the question that has it
  pub record TagsName : Type 0 where
    pub named : (q : Season) → season_of (season_question q).tag ≡ Some q
    pub tagged : (t : Tag) (q : Season) → season_of t ≡ Some q → (season_question q).tag ≡ t
