-- What each refusal says in words. Assumes nothing.
use Rattle.std.specs.Prelude.{ℕ, List, ◌++◌, codes, decimal}
use Rattle.refusal.specs.declared.fault.Fault.{Fault}
use Rattle.refusal.specs.declared.fault.Fault.TheVariants as fault
use Rattle.refusal.specs.declared.refusal.Refusal.{Refusal}
use Rattle.refusal.specs.declared.refusal.Refusal.TheVariants.{CellOutside, AmountOutside, TooHeavy, GridOutside, BankShort, CountOutside, QuestionUnfit, TrayShort, PaperShort, Sheet, SumWrong, PointWrong}

-- what is wrong with a sheet
abbrev pub fault_words : Fault → List ℕ
fault_words fault.Malformed = codes "a run that is neither a word of 1 to 8 letters nor a number of 1 to 10 digits"
fault_words fault.Unexpected = codes "a token, or the sheet's end, where the grammar has another"
fault_words fault.Field = codes "the characteristic or the degree is not the field's"
fault_words fault.Grid = codes "the rows or the columns are not the grid's"
fault_words fault.Tag = codes "a number of the tag is not the question's"
fault_words fault.Claim = codes "the claim is outside the question's least to greatest claim"
fault_words fault.Index = codes "the value line is not the next one"
fault_words fault.Part = codes "a part of a value is not from 0 to p - 1, or a high part is not 0 where e is 1"

-- why a call refuses; a sheet's fault is told with its line and its byte
abbrev pub refusal_words : Refusal → List ℕ
refusal_words CellOutside = codes "the move's cell is not on the board"
refusal_words AmountOutside = codes "the move's amount is 0 or outside -256 to 256"
refusal_words TooHeavy = codes "the move takes the weight past the field's limit"
refusal_words GridOutside = codes "the rows are not 1 to 64, or the columns no multiple of 8 from 8 to 1,024"
refusal_words BankShort = codes "the bank has too few cells"
refusal_words CountOutside = codes "a count, or the absolute counts together, are beyond the field's limit"
refusal_words QuestionUnfit = codes "the question does not fit the grid, or its degree is not from h - 1 to 252"
refusal_words TrayShort = codes "the tray has too few elements"
refusal_words PaperShort = codes "the paper is too short"
refusal_words (Sheet fault line place) = codes "line " ++ (decimal line ++ (codes ", byte " ++ (decimal place ++ (codes " of the sheet: " ++ fault_words fault))))
refusal_words SumWrong = codes "the first values do not add up to the claim"
refusal_words PointWrong = codes "the values fail at the secret point"
