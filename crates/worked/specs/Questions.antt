-- Questions: of each of the four its fit, tag, degree, limits, counts and honest values on the worked board; which degrees the ends take; and rules on other boards. Assumes nothing.
use Rattle.std.specs.Prelude.{◌≡◌, ℕ, List, [], ◌∷◌, ◌++◌, map, replicate, ℤ, pos, negsuc, Ok, Err, Result, Some, None}
use Rattle.prime.specs.declared.residue.Residue.{Residue}
use Rattle.extension.specs.declared.extension.Extension.{Extension}
use Rattle.polynomial.specs.Interpolation.{node, chi}
use Rattle.polynomial.specs.Columns.{columns_at}
use Rattle.question.specs.declared.fit.Fit.TheVariants as fit
use Rattle.question.specs.Question.{QuestionModel}
use Rattle.season.specs.declared.season.Season.TheVariants as season
use Rattle.season.specs.Cell.{cell_question}
use Rattle.season.specs.Goods.{goods_question}
use Rattle.season.specs.Range.{range_question}
use Rattle.season.specs.Season.{season_of}
use Rattle.season.specs.Squares.{squares_question}
use Rattle.protocol.specs.Asking.{suit_answer, claim_image, honest}
use Rattle.worked.specs.Board.{residues, values, worked_counts, sum_of_squares, squares_of_degree, tag_of, extended, t, numbered}

-- three of the four
abbrev pub cell : ℕ → QuestionModel (Residue 65537)
cell i = cell_question residues i

abbrev pub goods : ℕ → QuestionModel (Residue 65537)
goods g = goods_question residues g

abbrev pub range_of : ℕ → ℕ → QuestionModel (Residue 65537)
range_of a b = range_question residues a b

-- whether a question suits the worked board, with the refusal's number
abbrev pub suited : QuestionModel (Residue 65537) → Result (Unit {0}) ℕ
suited q = numbered (suit_answer q 2 8)

-- the count that a question asks for on the worked board
abbrev pub count_of : QuestionModel (Residue 65537) → ℤ
count_of q = q.tally 2 8 worked_counts

-- its honest values there
abbrev pub honest_values : QuestionModel (Residue 65537) → List ℕ
honest_values q = values (honest residues 2 8 q worked_counts)

-- counts on three rows: 1, 2 and 4 in the first column, whose polynomial is 1 + X / 2 + X X / 2
abbrev pub counts_on_3_rows : List ℤ
counts_on_3_rows = (pos 1 ∷ replicate 7 (pos 0)) ++ ((pos 2 ∷ replicate 7 (pos 0)) ++ (pos 4 ∷ replicate 7 (pos 0)))

-- the honest values of a question there
abbrev pub values_on_3_rows : QuestionModel (Residue 65537) → List ℕ
values_on_3_rows q = values (honest residues 3 8 q counts_on_3_rows)

-- counts on one row of 16 columns: 5 at cell 1, 7 at cell 9 and 1 at cell 10
abbrev pub counts_on_16_columns : List ℤ
counts_on_16_columns = pos 0 ∷ pos 5 ∷ (replicate 7 (pos 0) ++ (pos 7 ∷ pos 1 ∷ replicate 5 (pos 0)))

-- the rule for the squares at t, on the columns there
abbrev pub squares_at_t : Extension (Residue 65537)
squares_at_t = (squares_question extended).rule 2 8 t (columns_at extended 2 8 worked_counts t)

-- what may be asked of the counts
pub record QuestionCases : Type 0 where
  -- a cell: it fits where it is on the board
  pub cell_15_fits : (cell 15).fits 2 8 ≡ fit.Fits
  pub cell_16_does_not_fit : (cell 16).fits 2 8 ≡ fit.DoesNotFit
  pub cell_15 : suited (cell 15) ≡ Ok tt
  pub cell_16 : suited (cell 16) ≡ Err 20
  pub cell_tag : (cell 15).tag ≡ tag_of 1 15 0
  pub cell_degree : map (cell 15).degree (1 ∷ 2 ∷ 64 ∷ []) ≡ 0 ∷ 2 ∷ 126 ∷ []
  pub cell_least : (cell 15).least ≡ negsuc 255
  pub cell_greatest : (cell 15).greatest ≡ pos 256
  pub cell_counts : map (λ i. count_of (cell i)) (0 ∷ 1 ∷ 8 ∷ 9 ∷ 15 ∷ []) ≡ pos 3 ∷ pos 0 ∷ pos 1 ∷ negsuc 1 ∷ pos 0 ∷ []
  pub cell_0_values : honest_values (cell 0) ≡ 3 ∷ 0 ∷ 1 ∷ []
  pub cell_8_values : honest_values (cell 8) ≡ 0 ∷ 1 ∷ 65535 ∷ []
  pub cell_9_values : honest_values (cell 9) ≡ 0 ∷ 65535 ∷ 65529 ∷ []
  pub cell_15_values : honest_values (cell 15) ≡ 0 ∷ 0 ∷ 0 ∷ []
  -- goods: there are eight, from 0 to 7
  pub goods_7_fit : (goods 7).fits 2 8 ≡ fit.Fits
  pub goods_8_do_not_fit : (goods 8).fits 2 8 ≡ fit.DoesNotFit
  pub goods_7 : suited (goods 7) ≡ Ok tt
  pub goods_8 : suited (goods 8) ≡ Err 20
  pub goods_tag : (goods 7).tag ≡ tag_of 2 7 0
  pub goods_degree : map (goods 7).degree (1 ∷ 2 ∷ 64 ∷ []) ≡ 0 ∷ 1 ∷ 63 ∷ []
  pub goods_least : (goods 7).least ≡ negsuc 255
  pub goods_greatest : (goods 7).greatest ≡ pos 256
  pub goods_counts : map (λ g. count_of (goods g)) (0 ∷ 1 ∷ 2 ∷ 7 ∷ []) ≡ pos 4 ∷ negsuc 1 ∷ pos 0 ∷ pos 0 ∷ []
  pub goods_0_values : honest_values (goods 0) ≡ 3 ∷ 1 ∷ []
  pub goods_1_values : honest_values (goods 1) ≡ 0 ∷ 65535 ∷ []
  pub goods_7_values : honest_values (goods 7) ≡ 0 ∷ 0 ∷ []
  -- on 16 columns two columns have goods 1
  pub goods_1_of_16_count : (goods 1).tally 1 16 counts_on_16_columns ≡ pos 12
  pub goods_1_of_16_values : values (honest residues 1 16 (goods 1) counts_on_16_columns) ≡ 12 ∷ []
  -- a range: from a cell to itself or to a later one, as far as the board goes; a range from a cell to one before it does not suit
  pub range_8_9_fits : (range_of 8 9).fits 2 8 ≡ fit.Fits
  pub range_9_8_does_not_fit : (range_of 9 8).fits 2 8 ≡ fit.DoesNotFit
  pub range_8_9 : suited (range_of 8 9) ≡ Ok tt
  pub backward : numbered (suit_answer (range_question residues 9 8) 2 8) ≡ Err 20
  pub range_9_9 : suited (range_of 9 9) ≡ Ok tt
  pub range_0_15 : suited (range_of 0 15) ≡ Ok tt
  pub range_0_16 : suited (range_of 0 16) ≡ Err 20
  pub range_16_16 : suited (range_of 16 16) ≡ Err 20
  pub range_tag : (range_of 8 9).tag ≡ tag_of 3 8 9
  pub range_degree : map (range_of 8 9).degree (1 ∷ 2 ∷ 64 ∷ []) ≡ 0 ∷ 2 ∷ 126 ∷ []
  pub range_least : (range_of 8 9).least ≡ negsuc 255
  pub range_greatest : (range_of 8 9).greatest ≡ pos 256
  pub range : honest_values (range_of 8 9) ≡ 0 ∷ 65536 ∷ 65527 ∷ []
  pub range_count : count_of (range_of 8 9) ≡ negsuc 0
  pub range_9_9_count : count_of (range_of 9 9) ≡ negsuc 1
  pub range_0_8_count : count_of (range_of 0 8) ≡ pos 4
  pub range_0_8_values : honest_values (range_of 0 8) ≡ 3 ∷ 1 ∷ 3 ∷ []
  pub range_0_15_count : count_of (range_of 0 15) ≡ pos 2
  pub range_0_15_values : honest_values (range_of 0 15) ≡ 3 ∷ 65536 ∷ 65532 ∷ []
  -- the squares: they always fit
  pub squares_fit : sum_of_squares.fits 2 8 ≡ fit.Fits
  pub squares_suit : suited sum_of_squares ≡ Ok tt
  pub squares_tag : sum_of_squares.tag ≡ tag_of 4 0 0
  pub squares_degree : map sum_of_squares.degree (1 ∷ 2 ∷ 64 ∷ []) ≡ 0 ∷ 2 ∷ 126 ∷ []
  pub squares_least : sum_of_squares.least ≡ pos 0
  pub squares_greatest : sum_of_squares.greatest ≡ pos 65536
  pub squares : values (honest residues 2 8 (squares_question residues) worked_counts) ≡ 9 ∷ 5 ∷ 17 ∷ []
  pub squares_count : (squares_question residues).tally 2 8 worked_counts ≡ pos 14
  -- a tag names the question that has it, and no other three numbers name one
  pub tag_1_15_0 : season_of (tag_of 1 15 0) ≡ Some (season.Cell (record { index = 15 }))
  pub tag_1_15_1 : season_of (tag_of 1 15 1) ≡ None
  pub tag_2_7_0 : season_of (tag_of 2 7 0) ≡ Some (season.Goods (record { kind = 7 }))
  pub tag_2_7_1 : season_of (tag_of 2 7 1) ≡ None
  pub tag_3_8_9 : season_of (tag_of 3 8 9) ≡ Some (season.Range (record { first = 8; last = 9 }))
  pub tag_4_0_0 : season_of (tag_of 4 0 0) ≡ Some (season.Squares (record {}))
  pub tag_4_1_0 : season_of (tag_of 4 1 0) ≡ None
  pub tag_4_0_1 : season_of (tag_of 4 0 1) ≡ None
  pub tag_0_0_0 : season_of (tag_of 0 0 0) ≡ None
  pub tag_5_0_0 : season_of (tag_of 5 0 0) ≡ None
  -- the ends take degrees from h − 1 to 252
  pub degree_0_on_2_rows : suited (squares_of_degree 0) ≡ Err 20
  pub degree_1_on_2_rows : suited (squares_of_degree 1) ≡ Ok tt
  pub degree_252 : suited (squares_of_degree 252) ≡ Ok tt
  pub degree_253 : suited (squares_of_degree 253) ≡ Err 20
  pub degree_0_on_1_row : suit_answer (squares_of_degree 0) 1 8 ≡ Ok tt
  pub degree_62_on_64_rows : numbered (suit_answer (squares_of_degree 62) 64 8) ≡ Err 20
  pub degree_63_on_64_rows : suit_answer (squares_of_degree 63) 64 8 ≡ Ok tt
  -- on three rows the columns bend: 1, 2 and 4 go on to 7, 11 and 16
  pub chis_at_5 : values (map (λ x. chi residues 3 x (node residues 5)) (0 ∷ 1 ∷ 2 ∷ [])) ≡ 6 ∷ 65522 ∷ 10 ∷ []
  pub columns_at_5 : values (columns_at residues 3 8 counts_on_3_rows (node residues 5)) ≡ 16 ∷ 0 ∷ 0 ∷ 0 ∷ 0 ∷ 0 ∷ 0 ∷ 0 ∷ []
  pub cell_16_on_3_rows : values_on_3_rows (cell 16) ≡ 0 ∷ 0 ∷ 4 ∷ 21 ∷ 66 ∷ []
  pub goods_on_3_rows : values_on_3_rows (goods 0) ≡ 1 ∷ 2 ∷ 4 ∷ []
  pub range_on_3_rows : values_on_3_rows (range_of 8 16) ≡ 0 ∷ 2 ∷ 4 ∷ 0 ∷ 65515 ∷ []
  pub squares_on_3_rows : values_on_3_rows sum_of_squares ≡ 1 ∷ 4 ∷ 16 ∷ 49 ∷ 121 ∷ []
  -- in the quadratic extension the point may be t
  pub low_at_t : extended.low squares_at_t ≡ 33
  pub high_at_t : extended.high squares_at_t ≡ 65525
  -- the image of a claim is its remainder by 65,537
  pub image_14 : values (map (claim_image residues) (pos 14 ∷ pos 65536 ∷ pos 65551 ∷ negsuc 0 ∷ negsuc 65550 ∷ [])) ≡ 14 ∷ 65536 ∷ 14 ∷ 65536 ∷ 65523 ∷ []
