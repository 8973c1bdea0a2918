-- Judgements of the box: which sheets it accepts at which points, what it finds of others, how long its tray must be, and which check comes first. Assumes nothing.
use Rattle.std.specs.Prelude.{◌≡◌, ℕ, List, [], ◌∷◌, ◌++◌, take, replicate, ℤ, pos, negsuc, Ok, Err, codes, Result}
use Rattle.refusal.specs.declared.fault.Fault.TheVariants as fault
use Rattle.refusal.specs.declared.refusal.Refusal.{Refusal}
use Rattle.refusal.specs.declared.refusal.Refusal.TheVariants.{Sheet, SumWrong, PointWrong}
use Rattle.prime.specs.declared.residue.Residue.{Residue}
use Rattle.polynomial.specs.Columns.{columns_at}
use Rattle.polynomial.specs.Interpolation.{node}
use Rattle.question.specs.Question.{QuestionModel}
use Rattle.season.specs.Cell.{cell_question}
use Rattle.season.specs.Goods.{goods_question}
use Rattle.season.specs.Range.{range_question}
use Rattle.season.specs.Squares.{squares_question}
use Rattle.verifier.specs.Judging.{judged}
use Rattle.extension.specs.declared.extension.Extension.{Extension}
use Rattle.worked.specs.Board.{residues, extended, t, worked_counts, bank_at, sum_of_squares, squares_of_degree, sheet_of, true_sheet, sheet_but, sheet_about, text_of, numbered}

-- what the box at a point finds of a sheet for the squares
abbrev pub box_answer : ℕ → List ℕ → Result ℤ Refusal
box_answer r sheet = (judged residues 2 8 (node residues r) (bank_at r) (squares_question residues) sheet (replicate 3 residues.one)).answer

-- what the box at 5 answers over the first n cells of its bank, with a tray of m ones; a refusal by its number
abbrev pub judged_in : ℕ → QuestionModel (Residue 65537) → List ℕ → ℕ → Result ℤ ℕ
judged_in n q sheet m = numbered (judged residues 2 8 (node residues 5) (take n (bank_at 5)) q sheet (replicate m residues.one)).answer

-- what it answers to a sheet for a question, with memory enough
abbrev pub box_finding : QuestionModel (Residue 65537) → List ℕ → Result ℤ ℕ
box_finding q sheet = judged_in 8 q sheet 3

-- a sheet for the count at cell 9, with this claim and this second value; the count is −2, and the honest values are 0, −2 and −8
abbrev pub cell_9_sheet : List ℕ → List ℕ → List ℕ
cell_9_sheet claim second =
    sheet_about (codes "(claim (1 9 0) " ++ (claim ++ codes ")")) (codes "(at 0 (0 0))" ∷ (codes "(at 1 (" ++ (second ++ codes " 0))")) ∷ codes "(at 2 (65529 0))" ∷ [])

-- a sheet for the goods 0, with this claim and this second value; their count is 4, and the honest values are 3 and 1
abbrev pub goods_sheet : List ℕ → List ℕ → List ℕ
goods_sheet claim second = sheet_about (codes "(claim (2 0 0) " ++ (claim ++ codes ")")) (codes "(at 0 (3 0))" ∷ (codes "(at 1 (" ++ (second ++ codes " 0))")) ∷ [])

-- a sheet for the range from 8 to 9, with this claim and these first and third values; the count is −1, and the honest values are 0, −1 and −10
abbrev pub range_sheet : List ℕ → List ℕ → List ℕ → List ℕ
range_sheet claim first third =
    sheet_about (codes "(claim (3 8 9) " ++ (claim ++ codes ")")) ((codes "(at 0 (" ++ (first ++ codes " 0))")) ∷ codes "(at 1 (65536 0))" ∷ (codes "(at 2 (" ++ (third ++ codes " 0))")) ∷ [])

-- what a box over the quadratic extension answers at a point to a sheet for the squares
abbrev pub extended_finding : Extension (Residue 65537) → List ℕ → Result ℤ ℕ
extended_finding r sheet = numbered (judged extended 2 8 r (columns_at extended 2 8 worked_counts r) (squares_question extended) sheet (replicate 3 extended.one)).answer

-- a sheet for the squares over the extension, with these numbers in the lines
abbrev pub extended_sheet : List ℕ → List ℕ → List ℕ → List ℕ → List ℕ
extended_sheet claim a b c =
    text_of (codes "(sheet 65537 2 (grid 2 8))" ∷ (codes "(claim (4 0 0) " ++ (claim ++ codes ")")) ∷ (codes "(at 0 (" ++ (a ++ codes "))")) ∷ (codes "(at 1 (" ++ (b ++ codes "))")) ∷ (codes "(at 2 (" ++ (c ++ codes "))")) ∷ codes "(end)" ∷ [])

-- what the box at 5 answers on a board of one row with 3 and −2 in its first columns to a sheet for the squares, whose count is 13
abbrev pub one_row_finding : List ℕ → List ℕ → Result ℤ ℕ
one_row_finding claim value =
    numbered (judged residues 1 8 (node residues 5) (node residues 3 ∷ residues.neg (node residues 2) ∷ replicate 6 residues.zero) sum_of_squares
    (text_of (codes "(sheet 65537 1 (grid 1 8))" ∷ (codes "(claim (4 0 0) " ++ (claim ++ codes ")")) ∷ (codes "(at 0 (" ++ (value ++ codes " 0))")) ∷ codes "(end)" ∷ [])) (replicate 1 residues.one)).answer

-- the box, sealed
pub record JudgementCases : Type 0 where
  -- the true count of the squares is accepted; a false one with values of its own at the points 0 and 2 alone
  pub true_at_five : box_answer 5 (sheet_of (codes "14") (codes "9") (codes "5") (codes "17")) ≡ Ok (pos 14)
  pub true_at_zero : box_answer 0 true_sheet ≡ Ok (pos 14)
  pub true_at_less_one : box_answer 65536 true_sheet ≡ Ok (pos 14)
  pub false_at_zero : box_answer 0 (sheet_of (codes "13") (codes "9") (codes "4") (codes "17")) ≡ Ok (pos 13)
  pub false_at_two : box_answer 2 (sheet_of (codes "13") (codes "9") (codes "4") (codes "17")) ≡ Ok (pos 13)
  pub false_at_one : box_answer 1 (sheet_of (codes "13") (codes "9") (codes "4") (codes "17")) ≡ Err PointWrong
  pub false_at_five : box_answer 5 (sheet_of (codes "13") (codes "9") (codes "4") (codes "17")) ≡ Err PointWrong
  pub wrong_sum : box_answer 5 (sheet_of (codes "13") (codes "9") (codes "5") (codes "17")) ≡ Err SumWrong
  pub not_modulo : box_answer 5 (sheet_of (codes "65551") (codes "9") (codes "5") (codes "17")) ≡ Err (Sheet fault.Claim 2 42)
  -- the sum is of the first two values, one for each row, and the point has the third
  pub third_value : box_answer 5 (sheet_of (codes "14") (codes "9") (codes "5") (codes "18")) ≡ Err PointWrong
  -- a box that was told other moves
  pub other_moves : numbered (judged residues 2 8 (node residues 5) (replicate 8 residues.zero) sum_of_squares true_sheet (replicate 3 residues.one)).answer ≡ Err 51
  -- by their numbers
  pub number_51 : numbered (box_answer 5 (sheet_of (codes "13") (codes "9") (codes "4") (codes "17"))) ≡ Err 51
  pub number_50 : numbered (box_answer 5 (sheet_of (codes "13") (codes "9") (codes "5") (codes "17"))) ≡ Err 50
  pub number_43 : numbered (box_answer 5 (sheet_of (codes "65551") (codes "9") (codes "5") (codes "17"))) ≡ Err 43
  -- the other questions: the true count, a false one whose values add up, and one whose values do not
  pub cell_true : box_finding (cell_question residues 9) (cell_9_sheet (codes "-2") (codes "65535")) ≡ Ok (negsuc 1)
  pub cell_false : box_finding (cell_question residues 9) (cell_9_sheet (codes "-1") (codes "65536")) ≡ Err 51
  pub cell_unsigned : box_finding (cell_question residues 9) (cell_9_sheet (codes "2") (codes "65535")) ≡ Err 50
  pub goods_true : box_finding (goods_question residues 0) (goods_sheet (codes "4") (codes "1")) ≡ Ok (pos 4)
  pub goods_false : box_finding (goods_question residues 0) (goods_sheet (codes "5") (codes "2")) ≡ Err 51
  pub goods_unbalanced : box_finding (goods_question residues 0) (goods_sheet (codes "5") (codes "1")) ≡ Err 50
  pub range_true : box_finding (range_question residues 8 9) (range_sheet (codes "-1") (codes "0") (codes "65527")) ≡ Ok (negsuc 0)
  pub range_false : box_finding (range_question residues 8 9) (range_sheet (codes "0") (codes "1") (codes "65524")) ≡ Err 51
  pub range_unbalanced : box_finding (range_question residues 8 9) (range_sheet (codes "0") (codes "0") (codes "65527")) ≡ Err 50
  -- lines and places
  pub empty : box_answer 5 [] ≡ Err (Sheet fault.Unexpected 1 0)
  pub malformed : box_answer 5 (sheet_of (codes "00000000014") (codes "9") (codes "5") (codes "17")) ≡ Err (Sheet fault.Malformed 2 42)
  pub wrong_field : box_answer 5 (sheet_but 1 (codes "(sheet 65539 1 (grid 2 8))")) ≡ Err (Sheet fault.Field 1 7)
  pub wrong_grid : box_answer 5 (sheet_but 1 (codes "(sheet 65537 1 (grid 2 16))")) ≡ Err (Sheet fault.Grid 1 23)
  pub wrong_tag : box_answer 5 (sheet_but 2 (codes "(claim (5 0 0) 14)")) ≡ Err (Sheet fault.Tag 2 35)
  pub wrong_index : box_answer 5 (sheet_but 4 (codes "(at 2 (5 0))")) ≡ Err (Sheet fault.Index 4 63)
  pub wrong_part : box_answer 5 (sheet_of (codes "14") (codes "65537") (codes "5") (codes "17")) ≡ Err (Sheet fault.Part 3 53)
  -- a cell of the bank for each column, an element of the tray for each value
  pub bank_of_7 : judged_in 7 sum_of_squares true_sheet 3 ≡ Err 12
  pub bank_of_8 : judged_in 8 sum_of_squares true_sheet 3 ≡ Ok (pos 14)
  pub tray_of_2 : judged_in 8 (squares_question residues) (sheet_of (codes "14") (codes "9") (codes "5") (codes "17")) 2 ≡ Err 21
  pub tray_of_3 : judged_in 8 (squares_question residues) (sheet_of (codes "14") (codes "9") (codes "5") (codes "17")) 3 ≡ Ok (pos 14)
  pub goods_tray_of_1 : judged_in 8 (goods_question residues 0) (goods_sheet (codes "4") (codes "1")) 1 ≡ Err 21
  pub goods_tray_of_2 : judged_in 8 (goods_question residues 0) (goods_sheet (codes "4") (codes "1")) 2 ≡ Ok (pos 4)
  -- a question that does not fit, or whose degree is below h − 1 or above 252
  pub cell_16 : judged_in 8 (cell_question residues 16) true_sheet 3 ≡ Err 20
  pub degree_0 : judged_in 8 (squares_of_degree 0) true_sheet 3 ≡ Err 20
  pub degree_253 : judged_in 8 (squares_of_degree 253) true_sheet 300 ≡ Err 20
  -- its checks in order: the bank, the question, the tray, the sheet
  pub bank_first : judged_in 7 (range_question residues 9 8) [] 2 ≡ Err 12
  pub question_second : judged_in 8 (range_question residues 9 8) [] 2 ≡ Err 20
  pub tray_third : judged_in 8 (squares_question residues) [] 2 ≡ Err 21
  -- each with the next alone
  pub bank_before_question : judged_in 7 (goods_question residues 8) true_sheet 9 ≡ Err 12
  pub question_before_tray : judged_in 8 (goods_question residues 8) true_sheet 1 ≡ Err 20
  pub tray_before_sheet : judged_in 8 sum_of_squares (true_sheet ++ codes "x") 2 ≡ Err 21
  -- a fault at the very end of a sheet comes before its sum, and the sum before the point
  pub sheet_before_sum : box_answer 5 (sheet_of (codes "13") (codes "9") (codes "5") (codes "17") ++ codes "x") ≡ Err (Sheet fault.Unexpected 7 92)
  pub sheet_before_point : box_answer 5 (sheet_of (codes "13") (codes "9") (codes "4") (codes "17") ++ codes "x") ≡ Err (Sheet fault.Unexpected 7 92)
  -- a sheet that fails both tests is refused by the first
  pub sum_first : numbered (box_answer 5 (sheet_of (codes "13") (codes "9") (codes "5") (codes "18"))) ≡ Err 50
  -- over the quadratic extension, where t × t = 3: a claim of 12 with a value of 15 + 2 t is accepted at t, and not at −t or at 5
  pub extended_true : extended_finding t (extended_sheet (codes "14") (codes "9 0") (codes "5 0") (codes "17 0")) ≡ Ok (pos 14)
  pub extended_false_at_t : extended_finding t (extended_sheet (codes "12") (codes "9 0") (codes "3 0") (codes "15 2")) ≡ Ok (pos 12)
  pub extended_false_at_less_t : extended_finding (extended.neg t) (extended_sheet (codes "12") (codes "9 0") (codes "3 0") (codes "15 2")) ≡ Err 51
  pub extended_false_at_5 : extended_finding (node extended 5) (extended_sheet (codes "12") (codes "9 0") (codes "3 0") (codes "15 2")) ≡ Err 51
  -- high parts are added too
  pub extended_sum_high : extended_finding t (extended_sheet (codes "14") (codes "9 1") (codes "5 0") (codes "17 0")) ≡ Err 50
  pub extended_sum_cancelled : extended_finding t (extended_sheet (codes "14") (codes "9 65536") (codes "5 1") (codes "17 0")) ≡ Err 51
  -- on one row there is one value, and it is the claim
  pub one_row_true : one_row_finding (codes "13") (codes "13") ≡ Ok (pos 13)
  pub one_row_false : one_row_finding (codes "12") (codes "12") ≡ Err 51
  pub one_row_unbalanced : one_row_finding (codes "12") (codes "13") ≡ Err 50
