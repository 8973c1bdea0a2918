-- The table of refusals: each case with its number, and where a sheet's fault lies. Assumes nothing.
use Rattle.std.specs.Prelude.{ℕ, Some, None, Option}
use Rattle.refusal.specs.declared.fault.Fault.{Fault}
use Rattle.refusal.specs.declared.fault.Fault.TheVariants as fault
use Rattle.refusal.specs.declared.refusal.Refusal.{Refusal}
use Rattle.refusal.specs.declared.refusal.Refusal.TheVariants.{CellOutside, AmountOutside, TooHeavy, GridOutside, BankShort, CountOutside, QuestionUnfit, TrayShort, PaperShort, Sheet, SumWrong, PointWrong}

-- the number of a sheet's fault
abbrev pub fault_number : Fault → ℕ
fault_number fault.Malformed = 30
fault_number fault.Unexpected = 31
fault_number fault.Field = 40
fault_number fault.Grid = 41
fault_number fault.Tag = 42
fault_number fault.Claim = 43
fault_number fault.Index = 44
fault_number fault.Part = 45

-- the number of a refusal
abbrev pub number_of : Refusal → ℕ
number_of CellOutside = 1
number_of AmountOutside = 2
number_of TooHeavy = 3
number_of GridOutside = 10
number_of BankShort = 12
number_of CountOutside = 13
number_of QuestionUnfit = 20
number_of TrayShort = 21
number_of PaperShort = 22
number_of (Sheet fault line place) = fault_number fault
number_of SumWrong = 50
number_of PointWrong = 51

-- the line (from 1) and the byte place (from 0) that a fault of a sheet tells
abbrev pub position_of : Refusal → Option (ℕ × ℕ)
position_of CellOutside = None
position_of AmountOutside = None
position_of TooHeavy = None
position_of GridOutside = None
position_of BankShort = None
position_of CountOutside = None
position_of QuestionUnfit = None
position_of TrayShort = None
position_of PaperShort = None
position_of (Sheet fault line place) = Some (line, place)
position_of SumWrong = None
position_of PointWrong = None
