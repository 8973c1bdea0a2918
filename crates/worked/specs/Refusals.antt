-- The numbers of refusals, and the lines and places that they tell. Assumes nothing.
use Rattle.std.specs.Prelude.{◌≡◌, [], ◌∷◌, map, replicate, codes, Some, None}
use Rattle.refusal.specs.declared.fault.Fault.TheVariants as fault
use Rattle.refusal.specs.declared.refusal.Refusal.TheVariants.{CellOutside, AmountOutside, TooHeavy, GridOutside, BankShort, CountOutside, QuestionUnfit, TrayShort, PaperShort, Sheet, SumWrong, PointWrong}
use Rattle.refusal.specs.Refusals.{fault_number, number_of, position_of}
use Rattle.refusal.specs.Words.{refusal_words}

-- what a refusal tells
pub record RefusalCases : Type 0 where
  -- the numbers of refusals and of faults
  pub refusals : map number_of (CellOutside ∷ AmountOutside ∷ TooHeavy ∷ GridOutside ∷ BankShort ∷ CountOutside ∷ QuestionUnfit ∷ TrayShort ∷ PaperShort ∷ SumWrong ∷ PointWrong ∷ []) ≡ 1 ∷ 2 ∷ 3 ∷ 10 ∷ 12 ∷ 13 ∷ 20 ∷ 21 ∷ 22 ∷ 50 ∷ 51 ∷ []
  pub faults : map fault_number (fault.Malformed ∷ fault.Unexpected ∷ fault.Field ∷ fault.Grid ∷ fault.Tag ∷ fault.Claim ∷ fault.Index ∷ fault.Part ∷ []) ≡ 30 ∷ 31 ∷ 40 ∷ 41 ∷ 42 ∷ 43 ∷ 44 ∷ 45 ∷ []
  -- a fault of a sheet has the fault's number, whatever its line and its place
  pub number_of_a_fault : number_of (Sheet fault.Index 4 63) ≡ 44
  pub number_elsewhere : number_of (Sheet fault.Index 50 51) ≡ 44
  -- it tells its line first and then its place, whichever fault it is
  pub place_30 : position_of (Sheet fault.Malformed 2 42) ≡ Some (2, 42)
  pub place_31 : position_of (Sheet fault.Unexpected 1 0) ≡ Some (1, 0)
  pub place_40 : position_of (Sheet fault.Field 1 7) ≡ Some (1, 7)
  pub place_41 : position_of (Sheet fault.Grid 1 23) ≡ Some (1, 23)
  pub place_42 : position_of (Sheet fault.Tag 2 35) ≡ Some (2, 35)
  pub place_43 : position_of (Sheet fault.Claim 2 42) ≡ Some (2, 42)
  pub place_44 : position_of (Sheet fault.Index 4 63) ≡ Some (4, 63)
  pub place_45 : position_of (Sheet fault.Part 3 53) ≡ Some (3, 53)
  -- the others tell none
  pub no_place : map position_of (CellOutside ∷ AmountOutside ∷ TooHeavy ∷ GridOutside ∷ BankShort ∷ CountOutside ∷ QuestionUnfit ∷ TrayShort ∷ PaperShort ∷ SumWrong ∷ PointWrong ∷ []) ≡ replicate 11 None
  -- in words a fault comes behind its line and its place
  pub words_43 : refusal_words (Sheet fault.Claim 2 42) ≡ codes "line 2, byte 42 of the sheet: the claim is outside the question's least to greatest claim"
  pub words_51 : refusal_words PointWrong ≡ codes "the values fail at the secret point"
