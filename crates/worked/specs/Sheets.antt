-- Sheets: what is read of the honest sheet and of damaged ones, with lines and places; and how sheets are written. Assumes nothing.
use Rattle.std.specs.Prelude.{◌≡◌, ℕ, List, [], ◌∷◌, ◌++◌, take, drop, replicate, ℤ, pos, negsuc, Ok, Err, codes, Result}
use Rattle.refusal.specs.declared.fault.Fault.TheVariants as fault
use Rattle.refusal.specs.declared.refusal.Refusal.{Refusal}
use Rattle.refusal.specs.declared.refusal.Refusal.TheVariants.{Sheet}
use Rattle.prime.specs.declared.residue.Residue.{Residue}
use Rattle.question.specs.Question.{QuestionModel}
use Rattle.season.specs.Cell.{cell_question}
use Rattle.season.specs.Goods.{goods_question}
use Rattle.season.specs.Range.{range_question}
use Rattle.season.specs.Squares.{squares_question}
use Rattle.sheet.specs.Readings.{read_answer}
use Rattle.writer.specs.Texts.{text}
use Rattle.writer.specs.Papers.{write_answer}
use Rattle.protocol.specs.Asking.{terms_of}
use Rattle.host.specs.Answering.{honest_sheet}
use Rattle.worked.specs.Board.{residues, extended, nodes, worked_counts, sum_of_squares, sheet_of, honest_lines, true_sheet, sheet_but, sheet_about, text_of, numbered}

-- what reading a sheet for a question gives, into a tray of n ones
abbrev pub read_into : ℕ → QuestionModel (Residue 65537) → List ℕ → Result ℤ ℕ
read_into n q sheet = numbered (read_answer residues (terms_of q 2 8) sheet (replicate n residues.one))

-- what reading a sheet for the squares finds
abbrev pub found : List ℕ → Result ℤ Refusal
found sheet = read_answer residues (terms_of sum_of_squares 2 8) sheet (replicate 3 residues.one)

-- what reading a sheet for the count at cell 8 finds
abbrev pub found_of_cell_8 : List ℕ → Result ℤ Refusal
found_of_cell_8 sheet = read_answer residues (terms_of (cell_question residues 8) 2 8) sheet (replicate 3 residues.one)

-- a sheet for that, with this claim
abbrev pub cell_8_sheet : List ℕ → List ℕ
cell_8_sheet claim = sheet_about (codes "(claim (1 8 0) " ++ (claim ++ codes ")")) (codes "(at 0 (0 0))" ∷ codes "(at 1 (1 0))" ∷ codes "(at 2 (65535 0))" ∷ [])

-- what reading a sheet for the squares finds over the quadratic extension
abbrev pub found_extended : List ℕ → Result ℤ Refusal
found_extended sheet = read_answer extended (terms_of (squares_question extended) 2 8) sheet (replicate 3 extended.one)

-- a sheet over the extension, whose second value has this high part
abbrev pub sheet_with_high : List ℕ → List ℕ
sheet_with_high high =
    text_of (codes "(sheet 65537 2 (grid 2 8))" ∷ codes "(claim (4 0 0) 12)" ∷ codes "(at 0 (9 0))" ∷ (codes "(at 1 (3 " ++ (high ++ codes "))")) ∷ codes "(at 2 (15 2))" ∷ codes "(end)" ∷ [])

-- what writing n zeros as the values of a sheet answers, on a paper of m zeros
abbrev pub written : ℕ → ℕ → Result ℕ ℕ
written n m = numbered (write_answer residues (terms_of sum_of_squares 2 8) (pos 0) (replicate n residues.zero) (replicate m 0))

-- sheets as they are read, and as they are written
pub record SheetCases : Type 0 where
  -- the honest sheet, and other spellings of it: spaces, no spaces beside brackets, leading zeros, -0
  pub honest : found true_sheet ≡ Ok (pos 14)
  pub spaces_behind : found (true_sheet ++ codes "   ") ≡ Ok (pos 14)
  pub spaces_between : found (sheet_but 1 (codes "  ( sheet  65537 1(grid 2 8 ) ) ")) ≡ Ok (pos 14)
  pub spaces_left_out : found (sheet_but 3 (codes "(at 0(9 0))")) ≡ Ok (pos 14)
  pub zeros_in_front : found (sheet_but 2 (codes "( claim(4 0 0)  0014 )")) ≡ Ok (pos 14)
  pub zeros_in_index : found (sheet_but 4 (codes "(at 01 (5 0))")) ≡ Ok (pos 14)
  pub minus_zero : found (sheet_but 3 (codes "(at 0 (9 -0))")) ≡ Ok (pos 14)
  -- no sheet, or one that ends too early: the place is where it ends
  pub no_byte : found [] ≡ Err (Sheet fault.Unexpected 1 0)
  pub spaces_alone : found (codes "   ") ≡ Err (Sheet fault.Unexpected 1 3)
  pub cut_in_line_3 : found (take 54 true_sheet) ≡ Err (Sheet fault.Unexpected 3 54)
  pub cut_before_spaces : found (take 54 true_sheet ++ codes "  ") ≡ Err (Sheet fault.Unexpected 3 56)
  pub last_line_end_left_out : found (take 91 true_sheet) ≡ Err (Sheet fault.Unexpected 6 91)
  -- before the first line
  pub line_end_before : found (10 ∷ true_sheet) ≡ Err (Sheet fault.Unexpected 1 0)
  pub tab_before : found (9 ∷ true_sheet) ≡ Err (Sheet fault.Malformed 1 0)
  -- the first line
  pub capital : found (sheet_but 1 (codes "(Sheet 65537 1 (grid 2 8))")) ≡ Err (Sheet fault.Malformed 1 1)
  pub other_word : found (sheet_but 1 (codes "(sheets 65537 1 (grid 2 8))")) ≡ Err (Sheet fault.Unexpected 1 1)
  pub characteristic : found (sheet_but 1 (codes "(sheet 65539 1 (grid 2 8))")) ≡ Err (Sheet fault.Field 1 7)
  pub degree : found (sheet_but 1 (codes "(sheet 65537 2 (grid 2 8))")) ≡ Err (Sheet fault.Field 1 13)
  pub rows : found (sheet_but 1 (codes "(sheet 65537 1 (grid 3 8))")) ≡ Err (Sheet fault.Grid 1 21)
  pub columns : found (sheet_but 1 (codes "(sheet 65537 1 (grid 2 16))")) ≡ Err (Sheet fault.Grid 1 23)
  pub carriage_return : found (sheet_but 1 (codes "(sheet 65537 1 (grid 2 8))" ++ (13 ∷ []))) ≡ Err (Sheet fault.Malformed 1 26)
  -- the claim's line
  pub kind : found (sheet_but 2 (codes "(claim (5 0 0) 14)")) ≡ Err (Sheet fault.Tag 2 35)
  pub first_number : found (sheet_but 2 (codes "(claim (4 1 0) 14)")) ≡ Err (Sheet fault.Tag 2 37)
  pub second_number : found (sheet_but 2 (codes "(claim (4 0 1) 14)")) ≡ Err (Sheet fault.Tag 2 39)
  pub claim_65536 : found (sheet_but 2 (codes "(claim (4 0 0) 65536)")) ≡ Ok (pos 65536)
  pub claim_65537 : found (sheet_but 2 (codes "(claim (4 0 0) 65537)")) ≡ Err (Sheet fault.Claim 2 42)
  pub claim_65551 : found (sheet_but 2 (codes "(claim (4 0 0) 65551)")) ≡ Err (Sheet fault.Claim 2 42)
  pub claim_minus_0 : found (sheet_but 2 (codes "(claim (4 0 0) -0)")) ≡ Ok (pos 0)
  pub claim_less_1 : found (sheet_but 2 (codes "(claim (4 0 0) -1)")) ≡ Err (Sheet fault.Claim 2 42)
  pub claim_of_11_digits : found (sheet_but 2 (codes "(claim (4 0 0) 00000000014)")) ≡ Err (Sheet fault.Malformed 2 42)
  pub claim_left_out : found (sheet_but 2 (codes "(claim (4 0 0) )")) ≡ Err (Sheet fault.Unexpected 2 42)
  pub claim_a_word : found (sheet_but 2 (codes "(claim (4 0 0) x)")) ≡ Err (Sheet fault.Unexpected 2 42)
  pub claim_line_left_out : found (text_of (take 1 honest_lines ++ drop 2 honest_lines)) ≡ Err (Sheet fault.Unexpected 2 28)
  -- a count at a cell may be claimed from −256 to 256, under its own tag
  pub cell_claim_less_256 : found_of_cell_8 (cell_8_sheet (codes "-256")) ≡ Ok (negsuc 255)
  pub cell_claim_less_257 : found_of_cell_8 (cell_8_sheet (codes "-257")) ≡ Err (Sheet fault.Claim 2 42)
  pub cell_claim_256 : found_of_cell_8 (cell_8_sheet (codes "256")) ≡ Ok (pos 256)
  pub cell_claim_257 : found_of_cell_8 (cell_8_sheet (codes "257")) ≡ Err (Sheet fault.Claim 2 42)
  pub other_cell : found (cell_8_sheet (codes "1")) ≡ Err (Sheet fault.Tag 2 35)
  -- the value lines
  pub empty_line : found (sheet_but 3 (10 ∷ codes "(at 0 (9 0))")) ≡ Err (Sheet fault.Unexpected 3 46)
  pub part_65536 : found (sheet_but 3 (codes "(at 0 (65536 0))")) ≡ Ok (pos 14)
  pub part_65537 : found (sheet_but 3 (codes "(at 0 (65537 0))")) ≡ Err (Sheet fault.Part 3 53)
  pub part_less_1 : found (sheet_but 3 (codes "(at 0 (-1 0))")) ≡ Err (Sheet fault.Part 3 53)
  pub high_part : found (sheet_but 3 (codes "(at 0 (9 1))")) ≡ Err (Sheet fault.Part 3 55)
  pub index_2 : found (sheet_but 4 (codes "(at 2 (5 0))")) ≡ Err (Sheet fault.Index 4 63)
  pub index_0 : found (sheet_but 4 (codes "(at 0 (5 0))")) ≡ Err (Sheet fault.Index 4 63)
  pub value_line_left_out : found (text_of (take 4 honest_lines ++ drop 5 honest_lines)) ≡ Err (Sheet fault.Unexpected 5 73)
  pub value_line_too_many : found (text_of (take 5 honest_lines ++ (codes "(at 3 (0 0))" ∷ codes "(end)" ∷ []))) ≡ Err (Sheet fault.Unexpected 6 87)
  -- goods have one value less
  pub goods : read_into 2 (goods_question residues 0) (sheet_about (codes "(claim (2 0 0) 4)") (codes "(at 0 (3 0))" ∷ codes "(at 1 (1 0))" ∷ [])) ≡ Ok (pos 4)
  pub goods_with_a_third : read_into 2 (goods_question residues 0) (sheet_about (codes "(claim (2 0 0) 4)") (codes "(at 0 (3 0))" ∷ codes "(at 1 (1 0))" ∷ codes "(at 2 (0 0))" ∷ [])) ≡ Err 31
  -- in the extension high parts go to 65,536 too
  pub high_65536 : found_extended (sheet_with_high (codes "65536")) ≡ Ok (pos 12)
  pub high_65537 : found_extended (sheet_with_high (codes "65537")) ≡ Err (Sheet fault.Part 4 68)
  pub not_extended : found_extended true_sheet ≡ Err (Sheet fault.Field 1 13)
  -- behind the last line
  pub word_behind : found (true_sheet ++ codes "x") ≡ Err (Sheet fault.Unexpected 7 92)
  pub line_end_behind : found (true_sheet ++ (10 ∷ [])) ≡ Err (Sheet fault.Unexpected 7 92)
  pub byte_255_behind : found (true_sheet ++ (255 ∷ [])) ≡ Err (Sheet fault.Malformed 7 92)
  pub space_and_word_behind : found (true_sheet ++ codes " x") ≡ Err (Sheet fault.Unexpected 7 93)
  -- of two faults the first in the text is told; at one place a malformed run is that before it is anything else
  pub field_before_grid : found (sheet_but 1 (codes "(sheet 65539 1 (grid 2 16))")) ≡ Err (Sheet fault.Field 1 7)
  pub claim_before_part : found (sheet_of (codes "65551") (codes "65537") (codes "5") (codes "17")) ≡ Err (Sheet fault.Claim 2 42)
  pub part_before_index : found (text_of (take 2 honest_lines ++ (codes "(at 0 (65537 0))" ∷ codes "(at 5 (5 0))" ∷ []))) ≡ Err (Sheet fault.Part 3 53)
  pub malformed_claim : found (sheet_but 2 (codes "(claim (4 0 0) 65551x)")) ≡ Err (Sheet fault.Malformed 2 42)
  -- the tray's length comes before the sheet's faults
  pub tray_of_2 : read_into 2 sum_of_squares true_sheet ≡ Err 21
  pub tray_of_3 : read_into 3 sum_of_squares true_sheet ≡ Ok (pos 14)
  pub tray_before_sheet : read_into 2 sum_of_squares [] ≡ Err 21
  -- the host's spelling
  pub sheet : honest_sheet residues 2 8 (squares_question residues) worked_counts ≡ sheet_of (codes "14") (codes "9") (codes "5") (codes "17")
  pub sheet_for_cell_9 : honest_sheet residues 2 8 (cell_question residues 9) worked_counts ≡ sheet_about (codes "(claim (1 9 0) -2)") (codes "(at 0 (0 0))" ∷ codes "(at 1 (65535 0))" ∷ codes "(at 2 (65529 0))" ∷ [])
  pub sheet_for_goods_0 : honest_sheet residues 2 8 (goods_question residues 0) worked_counts ≡ sheet_about (codes "(claim (2 0 0) 4)") (codes "(at 0 (3 0))" ∷ codes "(at 1 (1 0))" ∷ [])
  pub sheet_for_range : honest_sheet residues 2 8 (range_question residues 8 9) worked_counts ≡ sheet_about (codes "(claim (3 8 9) -1)") (codes "(at 0 (0 0))" ∷ codes "(at 1 (65536 0))" ∷ codes "(at 2 (65527 0))" ∷ [])
  -- any claim and values are written so
  pub text_of_13 : text residues (terms_of sum_of_squares 2 8) (pos 13) (nodes (9 ∷ 4 ∷ 17 ∷ [])) ≡ sheet_of (codes "13") (codes "9") (codes "4") (codes "17")
  -- a sheet has at most 253 values, and wants a paper of 9,216 bytes whatever it says
  pub written_3 : written 3 9216 ≡ Ok 90
  pub written_on_9215 : written 3 9215 ≡ Err 22
  pub written_253 : written 253 9216 ≡ Ok 3736
  pub written_254 : written 254 9216 ≡ Err 22
