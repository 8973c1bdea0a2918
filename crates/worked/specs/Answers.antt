-- Answers of the host: what it answers, how long the tray and the paper must be, which counts weigh too much, and which check comes first. Assumes nothing.
use Rattle.std.specs.Prelude.{◌≡◌, ℕ, List, [], ◌∷◌, ◌++◌, replicate, ℤ, pos, negsuc, Ok, Err, Result}
use Rattle.prime.specs.declared.residue.Residue.{Residue}
use Rattle.question.specs.Question.{QuestionModel}
use Rattle.season.specs.Cell.{cell_question}
use Rattle.season.specs.Goods.{goods_question}
use Rattle.season.specs.Range.{range_question}
use Rattle.season.specs.Squares.{squares_question}
use Rattle.host.specs.Answering.{Answered, answered}
use Rattle.worked.specs.Board.{residues, worked_counts, sum_of_squares, squares_of_degree, numbered}

-- what the host answers for the squares and leaves, with a tray of m ones and a paper of n zeros
abbrev pub answered_in : ℕ → ℕ → Answered (Residue 65537)
answered_in m n = answered residues 2 8 worked_counts (squares_question residues) (replicate m residues.one) (replicate n 0)

-- what the host answers for a question over a bank, with a tray of m ones and a paper of n zeros
abbrev pub reply : List ℤ → QuestionModel (Residue 65537) → ℕ → ℕ → Result (ℤ × ℕ) ℕ
reply bank q m n = numbered (answered residues 2 8 bank q (replicate m residues.one) (replicate n 0)).answer

-- what it answers for the squares over a bank that begins with two counts, and has n zeros more
abbrev pub reply_over : ℤ → ℤ → ℕ → Result (ℤ × ℕ) ℕ
reply_over a b n = reply (a ∷ b ∷ replicate n (pos 0)) sum_of_squares 11 9216

-- the range from cell 9 to cell 8, which does not fit
abbrev pub backward_range : QuestionModel (Residue 65537)
backward_range = range_question residues 9 8

-- the host, sealed
pub record AnswerCases : Type 0 where
  -- each question's claim, and how long its sheet is
  pub cell_8 : reply worked_counts (cell_question residues 8) 11 9216 ≡ Ok (pos 1, 94)
  pub cell_9 : reply worked_counts (cell_question residues 9) 11 9216 ≡ Ok (negsuc 1, 99)
  pub goods_0 : reply worked_counts (goods_question residues 0) 10 9216 ≡ Ok (pos 4, 77)
  pub range_8_9 : reply worked_counts (range_question residues 8 9) 11 9216 ≡ Ok (negsuc 0, 99)
  -- the squares: three values and eight columns in the tray, 92 bytes on a paper of 9,216
  pub tray_of_10 : numbered (answered_in 10 9216).answer ≡ Err 21
  pub tray_of_11 : numbered (answered_in 11 9216).answer ≡ Ok (pos 14, 92)
  pub paper_of_9215 : numbered (answered_in 11 9215).answer ≡ Err 22
  -- goods have one value less
  pub goods_tray_of_9 : reply worked_counts (goods_question residues 0) 9 9216 ≡ Err 21
  -- a cell of the bank for each cell of the board
  pub bank_of_15 : reply_over (pos 3) (pos 0) 13 ≡ Err 12
  pub bank_of_16 : reply_over (pos 3) (pos 0) 14 ≡ Ok (pos 9, 90)
  -- a question that does not fit
  pub backward : reply worked_counts backward_range 11 9216 ≡ Err 20
  pub goods_8 : reply worked_counts (goods_question residues 8) 11 9216 ≡ Err 20
  -- one whose degree is below h − 1 or above 252
  pub degree_0 : reply worked_counts (squares_of_degree 0) 11 9216 ≡ Err 20
  pub degree_253 : reply worked_counts (squares_of_degree 253) 300 9216 ≡ Err 20
  -- 13 looks at the absolute counts together: none alone need be above 256
  pub counts_256 : reply_over (pos 256) (pos 0) 14 ≡ Ok (pos 65536, 102)
  pub counts_257 : reply_over (pos 257) (pos 0) 14 ≡ Err 13
  pub counts_less_256 : reply_over (negsuc 255) (pos 0) 14 ≡ Ok (pos 65536, 102)
  pub counts_less_257 : reply_over (negsuc 256) (pos 0) 14 ≡ Err 13
  pub counts_128_128 : reply_over (pos 128) (pos 128) 14 ≡ Ok (pos 32768, 102)
  pub counts_128_129 : reply_over (pos 128) (pos 129) 14 ≡ Err 13
  pub counts_128_less_128 : reply_over (pos 128) (negsuc 127) 14 ≡ Ok (pos 32768, 102)
  pub counts_128_less_129 : reply_over (pos 128) (negsuc 128) 14 ≡ Err 13
  -- at those of the board, and not at the bank's other cells
  pub counts_behind : reply (replicate 16 (pos 1) ++ (pos 257 ∷ [])) sum_of_squares 11 9216 ≡ Ok (pos 16, 91)
  pub counts_at_15 : reply (replicate 15 (pos 0) ++ (pos 257 ∷ [])) sum_of_squares 11 9216 ≡ Err 13
  -- whatever is asked
  pub counts_of_others : reply (pos 3 ∷ (replicate 14 (pos 0) ++ (pos 257 ∷ []))) (cell_question residues 0) 11 9216 ≡ Err 13
  -- the checks in order, each with the next: the bank, the counts, the question, the tray, the paper
  pub bank_before_counts : reply_over (pos 257) (pos 0) 13 ≡ Err 12
  pub counts_before_question : reply (replicate 16 (pos 257)) backward_range 11 9216 ≡ Err 13
  pub question_before_tray : reply worked_counts backward_range 10 9216 ≡ Err 20
  pub tray_before_paper : reply worked_counts sum_of_squares 10 9215 ≡ Err 21
  -- with all faults at once the first is told
  pub bank_first : reply (replicate 15 (pos 257)) backward_range 0 0 ≡ Err 12
