-- What a book shows of itself. Assumes nothing.
use Rattle.board.specs.declared.book.Book.TheInside.{Inside}
use Rattle.board.specs.Standing.{Standing}

-- where a book stands
abbrev pub standing : Inside → Standing
standing b = record { rows = b.grid.rows; columns = b.grid.columns; weight = b.weight; number = b.number }
