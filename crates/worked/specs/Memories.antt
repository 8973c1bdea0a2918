-- What is left in trays and on papers: as they were, zeros, or values and a sheet. Assumes nothing.
use Rattle.std.specs.Prelude.{◌≡◌, ℕ, List, [], ◌∷◌, ◌++◌, take, replicate, ℤ, pos, codes}
use Rattle.prime.specs.declared.residue.Residue.{Residue}
use Rattle.polynomial.specs.Interpolation.{node}
use Rattle.question.specs.Question.{QuestionModel}
use Rattle.season.specs.Goods.{goods_question}
use Rattle.season.specs.Squares.{squares_question}
use Rattle.sheet.specs.Readings.{tray_after}
use Rattle.writer.specs.Papers.{paper_after}
use Rattle.protocol.specs.Asking.{terms_of}
use Rattle.host.specs.Answering.{Answered, answered}
use Rattle.verifier.specs.Judging.{judged}
use Rattle.worked.specs.Board.{residues, nodes, values, worked_counts, bank_at, sum_of_squares, sheet_of, true_sheet, sheet_but, sheet_about}
use Rattle.worked.specs.Answers.{answered_in, backward_range}

-- the tray of four elements that the box at 5 leaves
abbrev pub box_tray : List ℕ → List ℕ
box_tray sheet = values (judged residues 2 8 (node residues 5) (bank_at 5) (squares_question residues) sheet (replicate 4 residues.one)).tray

-- the first m elements of an old tray: 6, 7, 8 and 9
abbrev pub old_tray : ℕ → List (Residue 65537)
old_tray m = take m (nodes (6 ∷ 7 ∷ 8 ∷ 9 ∷ []))

-- what the box at 5 leaves of it, over the first n cells of its bank
abbrev pub tray_in : ℕ → QuestionModel (Residue 65537) → List ℕ → ℕ → List ℕ
tray_in n q sheet m = values (judged residues 2 8 (node residues 5) (take n (bank_at 5)) q sheet (old_tray m)).tray

-- what it leaves of four elements after a sheet for the squares
abbrev pub tray_then : List ℕ → List ℕ
tray_then sheet = tray_in 8 sum_of_squares sheet 4

-- what reading a sheet for the squares alone leaves of m elements
abbrev pub tray_read : List ℕ → ℕ → List ℕ
tray_read sheet m = values (tray_after residues (terms_of sum_of_squares 2 8) sheet (old_tray m))

-- n sevens on a paper
abbrev pub old_paper : ℕ → List ℕ
old_paper n = replicate n 7

-- what the host answers for a question over a bank and leaves, with a tray of m sevens and a paper of n sevens
abbrev pub answered_over : List ℤ → QuestionModel (Residue 65537) → ℕ → ℕ → Answered (Residue 65537)
answered_over bank q m n = answered residues 2 8 bank q (replicate m (node residues 7)) (old_paper n)

-- the host refused for each reason in turn: the bank, the counts, the question, the tray, the paper
abbrev pub after_12 : Answered (Residue 65537)
after_12 = answered_over (replicate 15 (pos 0)) sum_of_squares 12 9216

abbrev pub after_13 : Answered (Residue 65537)
after_13 = answered_over (replicate 16 (pos 257)) sum_of_squares 12 9216

abbrev pub after_20 : Answered (Residue 65537)
after_20 = answered_over worked_counts backward_range 12 9216

abbrev pub after_21 : Answered (Residue 65537)
after_21 = answered_over worked_counts sum_of_squares 10 9216

abbrev pub after_22 : Answered (Residue 65537)
after_22 = answered_over worked_counts sum_of_squares 12 9215

-- and not refused
abbrev pub after_squares : Answered (Residue 65537)
after_squares = answered_over worked_counts sum_of_squares 12 9300

-- what writing a sheet alone, with this many values all zero, leaves of a paper of n sevens
abbrev pub paper_written : ℕ → ℕ → List ℕ
paper_written count n = paper_after residues (terms_of sum_of_squares 2 8) (pos 0) (replicate count residues.zero) (old_paper n)

-- the sheet with three zeros
abbrev pub zero_sheet : List ℕ
zero_sheet = sheet_of (codes "0") (codes "0") (codes "0") (codes "0")

-- memory that is lent
pub record MemoryCases : Type 0 where
  -- the tray after a judgement: the values, or zeros, and the fourth element as it was
  pub left_accepted : box_tray (sheet_of (codes "14") (codes "9") (codes "5") (codes "17")) ≡ 9 ∷ 5 ∷ 17 ∷ 1 ∷ []
  pub left_51 : box_tray (sheet_of (codes "13") (codes "9") (codes "4") (codes "17")) ≡ 0 ∷ 0 ∷ 0 ∷ 1 ∷ []
  pub left_50 : box_tray (sheet_of (codes "13") (codes "9") (codes "5") (codes "17")) ≡ 0 ∷ 0 ∷ 0 ∷ 1 ∷ []
  pub left_31 : box_tray [] ≡ 0 ∷ 0 ∷ 0 ∷ 1 ∷ []
  -- below 30 it is as it was
  pub tray_after_12 : tray_in 7 sum_of_squares true_sheet 4 ≡ 6 ∷ 7 ∷ 8 ∷ 9 ∷ []
  pub tray_after_20 : tray_in 8 backward_range true_sheet 4 ≡ 6 ∷ 7 ∷ 8 ∷ 9 ∷ []
  pub tray_after_21 : tray_in 8 sum_of_squares true_sheet 2 ≡ 6 ∷ 7 ∷ []
  -- after each fault of a sheet, early or late in it, the first three are zeros
  pub tray_after_30 : tray_then (sheet_but 2 (codes "(claim (4 0 0) 00000000014)")) ≡ 0 ∷ 0 ∷ 0 ∷ 9 ∷ []
  pub tray_after_31 : tray_then (sheet_but 1 (codes "(sheets 65537 1 (grid 2 8))")) ≡ 0 ∷ 0 ∷ 0 ∷ 9 ∷ []
  pub tray_after_40 : tray_then (sheet_but 1 (codes "(sheet 65539 1 (grid 2 8))")) ≡ 0 ∷ 0 ∷ 0 ∷ 9 ∷ []
  pub tray_after_41 : tray_then (sheet_but 1 (codes "(sheet 65537 1 (grid 2 16))")) ≡ 0 ∷ 0 ∷ 0 ∷ 9 ∷ []
  pub tray_after_42 : tray_then (sheet_but 2 (codes "(claim (5 0 0) 14)")) ≡ 0 ∷ 0 ∷ 0 ∷ 9 ∷ []
  pub tray_after_43 : tray_then (sheet_but 2 (codes "(claim (4 0 0) 65551)")) ≡ 0 ∷ 0 ∷ 0 ∷ 9 ∷ []
  pub tray_after_44 : tray_then (sheet_but 4 (codes "(at 2 (5 0))")) ≡ 0 ∷ 0 ∷ 0 ∷ 9 ∷ []
  pub tray_after_45 : tray_then (sheet_but 5 (codes "(at 2 (65537 0))")) ≡ 0 ∷ 0 ∷ 0 ∷ 9 ∷ []
  pub tray_after_31_at_the_end : tray_then (true_sheet ++ codes "x") ≡ 0 ∷ 0 ∷ 0 ∷ 9 ∷ []
  -- and after a sheet that fails a test
  pub tray_after_50 : tray_then (sheet_of (codes "13") (codes "9") (codes "5") (codes "17")) ≡ 0 ∷ 0 ∷ 0 ∷ 9 ∷ []
  pub tray_after_51 : tray_then (sheet_of (codes "13") (codes "9") (codes "4") (codes "17")) ≡ 0 ∷ 0 ∷ 0 ∷ 9 ∷ []
  -- an accepted sheet leaves its values
  pub tray_accepted : tray_then true_sheet ≡ 9 ∷ 5 ∷ 17 ∷ 9 ∷ []
  pub tray_of_three : tray_in 8 sum_of_squares true_sheet 3 ≡ 9 ∷ 5 ∷ 17 ∷ []
  -- under goods there are two
  pub goods_accepted : tray_in 8 (goods_question residues 0) (sheet_about (codes "(claim (2 0 0) 4)") (codes "(at 0 (3 0))" ∷ codes "(at 1 (1 0))" ∷ [])) 4 ≡ 3 ∷ 1 ∷ 8 ∷ 9 ∷ []
  pub goods_refused : tray_in 8 (goods_question residues 0) true_sheet 4 ≡ 0 ∷ 0 ∷ 8 ∷ 9 ∷ []
  -- reading a sheet alone leaves the same, and looks at no sum and no point
  pub read_after_21 : tray_read true_sheet 2 ≡ 6 ∷ 7 ∷ []
  pub read_after_31 : tray_read [] 4 ≡ 0 ∷ 0 ∷ 0 ∷ 9 ∷ []
  pub read_after_45 : tray_read (sheet_but 5 (codes "(at 2 (65537 0))")) 4 ≡ 0 ∷ 0 ∷ 0 ∷ 9 ∷ []
  pub read_honest : tray_read true_sheet 4 ≡ 9 ∷ 5 ∷ 17 ∷ 9 ∷ []
  pub read_false : tray_read (sheet_of (codes "13") (codes "9") (codes "5") (codes "18")) 4 ≡ 9 ∷ 5 ∷ 18 ∷ 9 ∷ []
  -- the host's tray: the honest values, then the columns at 2, and the twelfth element as it was
  pub host_tray : values (answered_in 12 9216).tray ≡ 9 ∷ 5 ∷ 17 ∷ 65536 ∷ 65533 ∷ 0 ∷ 0 ∷ 0 ∷ 0 ∷ 0 ∷ 0 ∷ 1 ∷ []
  pub host_tray_for_goods : values (answered_over worked_counts (goods_question residues 0) 12 9216).tray ≡ 3 ∷ 1 ∷ 1 ∷ 65535 ∷ 0 ∷ 0 ∷ 0 ∷ 0 ∷ 0 ∷ 0 ∷ 7 ∷ 7 ∷ []
  -- its paper: the sheet, and what was behind it
  pub host_paper : take 94 after_squares.paper ≡ true_sheet ++ (7 ∷ 7 ∷ [])
  pub host_paper_rest : after_squares.paper ≡ true_sheet ++ old_paper 9208
  -- a refusal leaves the tray as it was
  pub host_tray_after_12 : values after_12.tray ≡ old_paper 12
  pub host_tray_after_13 : values after_13.tray ≡ old_paper 12
  pub host_tray_after_20 : values after_20.tray ≡ old_paper 12
  pub host_tray_after_21 : values after_21.tray ≡ old_paper 10
  pub host_tray_after_22 : values after_22.tray ≡ old_paper 12
  -- and the paper
  pub host_paper_after_12 : after_12.paper ≡ old_paper 9216
  pub host_paper_after_13 : after_13.paper ≡ old_paper 9216
  pub host_paper_after_20 : after_20.paper ≡ old_paper 9216
  pub host_paper_after_21 : after_21.paper ≡ old_paper 9216
  pub host_paper_after_22 : after_22.paper ≡ old_paper 9215
  -- writing a sheet alone leaves the same
  pub paper_of_zeros : paper_written 3 9300 ≡ zero_sheet ++ old_paper 9210
  pub paper_after_short : paper_written 3 9215 ≡ old_paper 9215
  pub paper_after_254_values : paper_written 254 9216 ≡ old_paper 9216
