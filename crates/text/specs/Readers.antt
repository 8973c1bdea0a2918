-- What a reader stands for. Assumes nothing.
use Rattle.std.specs.Prelude.{drop}
use Rattle.text.specs.declared.reader.Reader.TheInside.{Inside}
use Rattle.text.specs.Tokens.{Cursor}

-- where a reader is: the bytes from its cursor on, its line and its place
abbrev pub cursor_of : Inside → Cursor
cursor_of r = record { rest = drop r.cursor r.text.now; line = r.line; place = r.cursor }
