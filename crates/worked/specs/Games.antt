-- Grids and moves: which grids are allowed, where cells lie, how a ledger answers moves, and what these come to. Assumes nothing.
use Rattle.std.specs.Prelude.{◌≡◌, ℕ, [], ◌∷◌, map, ℤ, pos, negsuc, Ok, Err, Result}
use Rattle.board.specs.Grids.{grid_answer, row_of, column_of}
use Rattle.board.specs.Ledger.{move_answer, ledger_start, ledger, ledger_answers, accepted_from, abs_sum}
use Rattle.worked.specs.Board.{move_at, worked_moves, mixed_moves, worked_counts, numbered}

-- what a ledger of this weight answers to an amount at a cell
abbrev pub answer_at : ℕ → ℕ → ℤ → Result (Unit {0}) ℕ
answer_at weight i a = numbered (move_answer 2 8 256 weight (move_at i a))

-- grids, and the moves of a game
pub record GameCases : Type 0 where
  -- the largest grid and the smallest, and one just outside each limit
  pub largest : grid_answer 64 1024 ≡ Ok tt
  pub smallest : grid_answer 1 8 ≡ Ok tt
  pub no_row : numbered (grid_answer 0 8) ≡ Err 10
  pub rows_over : numbered (grid_answer 65 8) ≡ Err 10
  pub no_column : numbered (grid_answer 2 0) ≡ Err 10
  pub uneven : numbered (grid_answer 2 12) ≡ Err 10
  pub columns_over : numbered (grid_answer 2 1032) ≡ Err 10
  -- eights of columns alone, and any number of rows between the limits
  pub columns_7 : numbered (grid_answer 2 7) ≡ Err 10
  pub columns_9 : numbered (grid_answer 2 9) ≡ Err 10
  pub columns_1016 : grid_answer 63 1016 ≡ Ok tt
  pub columns_1020 : numbered (grid_answer 64 1020) ≡ Err 10
  pub rows_3 : grid_answer 3 24 ≡ Ok tt
  -- cells go row by row
  pub rows : map (row_of 8) (0 ∷ 7 ∷ 8 ∷ 9 ∷ 15 ∷ []) ≡ 0 ∷ 0 ∷ 1 ∷ 1 ∷ 1 ∷ []
  pub columns : map (column_of 8) (0 ∷ 7 ∷ 8 ∷ 9 ∷ 15 ∷ []) ≡ 0 ∷ 7 ∷ 0 ∷ 1 ∷ 7 ∷ []
  -- the weight may reach the limit; cells end at 15, and come before the amount, which is from −256 to 256 and not 0
  pub full : map numbered (ledger_answers 2 8 256 (move_at 0 (pos 256) ∷ move_at 0 (pos 1) ∷ [])) ≡ Ok tt ∷ Err 3 ∷ []
  pub cell_first : map numbered (ledger_answers 2 8 256 (move_at 16 (pos 257) ∷ move_at 0 (pos 257) ∷ move_at 0 (pos 0) ∷ [])) ≡ Err 1 ∷ Err 2 ∷ Err 2 ∷ []
  pub below_zero : map numbered (ledger_answers 2 8 256 (move_at 0 (negsuc 256) ∷ move_at 15 (negsuc 255) ∷ [])) ≡ Err 2 ∷ Ok tt ∷ []
  -- one at a time
  pub cell_15 : answer_at 0 15 (pos 1) ≡ Ok tt
  pub cell_16 : answer_at 0 16 (pos 1) ≡ Err 1
  pub amount_1 : answer_at 0 0 (pos 1) ≡ Ok tt
  pub amount_0 : answer_at 0 0 (pos 0) ≡ Err 2
  pub amount_less_1 : answer_at 0 0 (negsuc 0) ≡ Ok tt
  pub amount_256 : answer_at 0 0 (pos 256) ≡ Ok tt
  pub amount_257 : answer_at 0 0 (pos 257) ≡ Err 2
  pub amount_less_256 : answer_at 0 0 (negsuc 255) ≡ Ok tt
  pub amount_less_257 : answer_at 0 0 (negsuc 256) ≡ Err 2
  pub weight_256 : answer_at 250 0 (pos 6) ≡ Ok tt
  pub weight_257 : answer_at 250 0 (pos 7) ≡ Err 3
  pub weight_less_6 : answer_at 250 0 (negsuc 5) ≡ Ok tt
  pub weight_less_7 : answer_at 250 0 (negsuc 6) ≡ Err 3
  -- of two that apply the first is told: the cell, the amount, the weight
  pub cell_before_amount : answer_at 0 16 (pos 257) ≡ Err 1
  pub cell_before_weight : answer_at 256 16 (pos 1) ≡ Err 1
  pub amount_before_weight : answer_at 0 0 (pos 300) ≡ Err 2
  -- the worked moves: their weight is absolute, and each counts once
  pub weight : (ledger 2 8 256 worked_moves).weight ≡ 6
  pub number : (ledger 2 8 256 worked_moves).number ≡ 3
  pub counts : worked_counts ≡ pos 3 ∷ pos 0 ∷ pos 0 ∷ pos 0 ∷ pos 0 ∷ pos 0 ∷ pos 0 ∷ pos 0 ∷ pos 1 ∷ negsuc 1 ∷ pos 0 ∷ pos 0 ∷ pos 0 ∷ pos 0 ∷ pos 0 ∷ pos 0 ∷ []
  pub absolute_counts : abs_sum worked_counts ≡ 6
  -- before any move there is nothing
  pub start : ledger 1 8 256 [] ≡ record { weight = 0; number = 0; counts = pos 0 ∷ pos 0 ∷ pos 0 ∷ pos 0 ∷ pos 0 ∷ pos 0 ∷ pos 0 ∷ pos 0 ∷ [] }
  -- amounts at one cell are added; what they weigh stays, though the count goes back to 0
  pub added : ledger 1 8 256 (move_at 4 (pos 5) ∷ move_at 4 (pos 2) ∷ []) ≡ record { weight = 7; number = 2; counts = pos 0 ∷ pos 0 ∷ pos 0 ∷ pos 0 ∷ pos 7 ∷ pos 0 ∷ pos 0 ∷ pos 0 ∷ [] }
  pub taken_back : ledger 1 8 256 (move_at 4 (pos 5) ∷ move_at 4 (negsuc 4) ∷ []) ≡ record { weight = 10; number = 2; counts = pos 0 ∷ pos 0 ∷ pos 0 ∷ pos 0 ∷ pos 0 ∷ pos 0 ∷ pos 0 ∷ pos 0 ∷ [] }
  -- a refused move leaves no trace, and a lighter one may follow it
  pub refused_alone : ledger 2 8 256 (move_at 16 (pos 1) ∷ move_at 0 (pos 257) ∷ move_at 0 (pos 0) ∷ []) ≡ ledger_start 2 8
  pub mixed_answers : map numbered (ledger_answers 2 8 256 mixed_moves) ≡ Err 1 ∷ Err 2 ∷ Ok tt ∷ Err 3 ∷ Ok tt ∷ Err 2 ∷ Err 3 ∷ []
  pub mixed_weight : (ledger 2 8 256 mixed_moves).weight ≡ 256
  pub mixed_number : (ledger 2 8 256 mixed_moves).number ≡ 2
  pub mixed_counts : (ledger 2 8 256 mixed_moves).counts ≡ pos 3 ∷ pos 0 ∷ pos 0 ∷ pos 0 ∷ pos 0 ∷ pos 0 ∷ pos 0 ∷ pos 0 ∷ pos 0 ∷ pos 0 ∷ pos 0 ∷ pos 0 ∷ pos 0 ∷ pos 0 ∷ pos 0 ∷ negsuc 252 ∷ []
  pub mixed_accepted : accepted_from 2 8 256 (ledger_start 2 8) mixed_moves ≡ move_at 0 (pos 3) ∷ move_at 15 (negsuc 252) ∷ []
