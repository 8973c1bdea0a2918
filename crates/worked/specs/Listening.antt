-- Opens and notes at both ends: what they answer, which check comes first, and what they leave in the end and in its bank. Assumes nothing.
use Rattle.std.specs.Prelude.{◌≡◌, ℕ, ◌-◌, List, [], ◌∷◌, ◌++◌, map, replicate, ℤ, pos, negsuc, Ok, Err, Result}
use Rattle.prime.specs.declared.residue.Residue.{Residue}
use Rattle.board.specs.Banks.{reached}
use Rattle.board.specs.Standing.{Standing}
use Rattle.polynomial.specs.Interpolation.{node}
use Rattle.host.specs.Calls.{host_open_answer, host_open_bank, host_note_answer, host_note_standing, host_note_bank}
use Rattle.host.specs.Notes.{HostState, host_opened, host_after, host_answers}
use Rattle.verifier.specs.Calls.{verifier_open_answer, verifier_open_bank, verifier_note_answer, verifier_note_standing, verifier_note_bank}
use Rattle.verifier.specs.Notes.{VerifierState, verifier_opened, verifier_after, verifier_answers}
use Rattle.worked.specs.Board.{residues, values, move_at, mixed_moves, bank_at, numbered}

-- n sevens, as what an old bank holds
abbrev pub old_sums : ℕ → List (Residue 65537)
old_sums n = replicate n (node residues 7)

abbrev pub old_counts : ℕ → List ℤ
old_counts n = replicate n (pos 7)

-- the answer to open on h rows and v columns with n cells, at a box and at a host
abbrev pub box_grant : ℕ → ℕ → ℕ → Result (Unit {0}) ℕ
box_grant h v n = numbered (verifier_open_answer residues h v (old_sums n))

abbrev pub host_grant : ℕ → ℕ → ℕ → Result (Unit {0}) ℕ
host_grant h v n = numbered (host_open_answer h v (old_counts n))

-- an end of two rows and eight columns after k accepted moves of the weight w
abbrev pub standing_of : ℕ → ℕ → Standing
standing_of w k = record { rows = 2; columns = 8; weight = w; number = k }

-- a note of the amount a at cell i to a box at 5 with n cells, all 7, after one move of the weight w: the answer, the bank and where the box stands then
abbrev pub box_reply : ℕ → ℕ → ℕ → ℤ → Result (Unit {0}) ℕ
box_reply n w i a = numbered (verifier_note_answer residues (standing_of w 1) (old_sums n) (move_at i a))

abbrev pub box_bank : ℕ → ℕ → ℕ → ℤ → List ℕ
box_bank n w i a = values (verifier_note_bank residues (standing_of w 1) (node residues 5) (old_sums n) (move_at i a))

abbrev pub box_standing : ℕ → ℕ → ℕ → ℤ → Standing
box_standing n w i a = verifier_note_standing residues (standing_of w 1) (old_sums n) (move_at i a)

-- a bank of n cells: the count c at cell 0, and 7 at the others
abbrev pub counts_with : ℤ → ℕ → List ℤ
counts_with c n = c ∷ old_counts (n - 1)

-- a note of the amount a at cell i to a host with that bank, after one move of the weight w: the answer, the bank and where the host stands then
abbrev pub host_reply : ℤ → ℕ → ℕ → ℕ → ℤ → Result (Unit {0}) ℕ
host_reply c n w i a = numbered (host_note_answer 256 (standing_of w 1) (counts_with c n) (move_at i a))

abbrev pub host_bank : ℤ → ℕ → ℕ → ℕ → ℤ → List ℤ
host_bank c n w i a = host_note_bank 256 (standing_of w 1) (counts_with c n) (move_at i a)

abbrev pub host_standing : ℤ → ℕ → ℕ → ℕ → ℤ → Standing
host_standing c n w i a = host_note_standing 256 (standing_of w 1) (counts_with c n) (move_at i a)

-- a box at 5 and a host that were told moves, over banks with a cell more than are needed
abbrev pub box_told : VerifierState (Residue 65537)
box_told = verifier_after residues (verifier_opened residues 2 8 (node residues 5) (old_sums 9)) mixed_moves

abbrev pub host_told : HostState
host_told = host_after 256 (host_opened 2 8 (old_counts 17)) mixed_moves

-- ends that listen
pub record ListeningCases : Type 0 where
  -- the box wants a cell for each column, the host one for each cell of the board
  pub bank_of_7 : numbered (verifier_open_answer residues 2 8 (replicate 7 residues.one)) ≡ Err 12
  pub bank_of_8 : verifier_open_answer residues 2 8 (replicate 8 residues.one) ≡ Ok tt
  pub box_with_9_cells : box_grant 2 8 9 ≡ Ok tt
  pub host_with_15_cells : host_grant 2 8 15 ≡ Err 12
  pub host_with_16_cells : host_grant 2 8 16 ≡ Ok tt
  pub host_with_17_cells : host_grant 2 8 17 ≡ Ok tt
  -- nothing is put behind the last cell
  pub cell_7_of_8 : reached (old_sums 8) 7 ≡ Ok tt
  pub cell_8_of_8 : numbered (reached (old_sums 8) 8) ≡ Err 12
  -- a grid outside the limits is refused with cells enough, and with none: 10 comes before 12
  pub box_10 : box_grant 2 12 12 ≡ Err 10
  pub box_10_before_12 : box_grant 2 12 0 ≡ Err 10
  pub host_10 : host_grant 2 12 24 ≡ Err 10
  pub host_10_before_12 : host_grant 2 12 0 ≡ Err 10
  -- a granted open clears the cells that are wanted, a refused one none
  pub box_cleared : values (verifier_open_bank residues 2 8 (old_sums 10)) ≡ 0 ∷ 0 ∷ 0 ∷ 0 ∷ 0 ∷ 0 ∷ 0 ∷ 0 ∷ 7 ∷ 7 ∷ []
  pub box_bank_after_10 : verifier_open_bank residues 2 12 (old_sums 12) ≡ old_sums 12
  pub box_bank_after_12 : verifier_open_bank residues 2 8 (old_sums 7) ≡ old_sums 7
  pub host_cleared : host_open_bank 2 8 (old_counts 18) ≡ replicate 16 (pos 0) ++ (pos 7 ∷ pos 7 ∷ [])
  pub host_bank_after_10 : host_open_bank 2 12 (old_counts 24) ≡ old_counts 24
  pub host_bank_after_12 : host_open_bank 2 8 (old_counts 15) ≡ old_counts 15
  -- a note at the box: each check alone
  pub box_note : box_reply 8 0 15 (pos 256) ≡ Ok tt
  pub box_note_12 : box_reply 7 0 0 (pos 1) ≡ Err 12
  pub box_note_1 : box_reply 8 0 16 (pos 1) ≡ Err 1
  pub box_note_2 : box_reply 8 0 0 (pos 257) ≡ Err 2
  pub box_note_2_for_0 : box_reply 8 0 0 (pos 0) ≡ Err 2
  pub box_note_3 : box_reply 8 250 0 (pos 7) ≡ Err 3
  pub box_note_full : box_reply 8 250 0 (pos 6) ≡ Ok tt
  -- and each with the next
  pub box_12_before_1 : box_reply 7 0 16 (pos 1) ≡ Err 12
  pub box_1_before_2 : box_reply 8 0 16 (pos 257) ≡ Err 1
  pub box_2_before_3 : box_reply 8 256 0 (pos 257) ≡ Err 2
  -- an accepted note adds its share to one column, its amount to the weight, and one to the number: at 5 a row 0 weighs −4 and row 1 weighs 5
  pub box_bank_of_row_0 : box_bank 9 6 1 (negsuc 1) ≡ 7 ∷ 15 ∷ 7 ∷ 7 ∷ 7 ∷ 7 ∷ 7 ∷ 7 ∷ 7 ∷ []
  pub box_bank_of_row_1 : box_bank 9 6 9 (negsuc 1) ≡ 7 ∷ 65534 ∷ 7 ∷ 7 ∷ 7 ∷ 7 ∷ 7 ∷ 7 ∷ 7 ∷ []
  pub box_standing_then : box_standing 9 6 9 (negsuc 1) ≡ standing_of 8 2
  -- a refused one leaves both as they were
  pub box_bank_after_note_12 : box_bank 7 6 0 (pos 1) ≡ 7 ∷ 7 ∷ 7 ∷ 7 ∷ 7 ∷ 7 ∷ 7 ∷ []
  pub box_bank_after_note_1 : box_bank 8 6 16 (pos 1) ≡ 7 ∷ 7 ∷ 7 ∷ 7 ∷ 7 ∷ 7 ∷ 7 ∷ 7 ∷ []
  pub box_bank_after_note_2 : box_bank 8 6 0 (pos 257) ≡ 7 ∷ 7 ∷ 7 ∷ 7 ∷ 7 ∷ 7 ∷ 7 ∷ 7 ∷ []
  pub box_bank_after_note_3 : box_bank 8 256 0 (pos 1) ≡ 7 ∷ 7 ∷ 7 ∷ 7 ∷ 7 ∷ 7 ∷ 7 ∷ 7 ∷ []
  pub box_standing_after_note_12 : box_standing 7 6 0 (pos 1) ≡ standing_of 6 1
  pub box_standing_after_note_1 : box_standing 8 6 16 (pos 1) ≡ standing_of 6 1
  pub box_standing_after_note_2 : box_standing 8 6 0 (pos 257) ≡ standing_of 6 1
  pub box_standing_after_note_3 : box_standing 8 256 0 (pos 1) ≡ standing_of 256 1
  -- a note at the host: each check alone
  pub host_note : host_reply (pos 7) 16 0 15 (pos 256) ≡ Ok tt
  pub host_note_12 : host_reply (pos 7) 15 0 0 (pos 1) ≡ Err 12
  pub host_note_1 : host_reply (pos 7) 16 0 16 (pos 1) ≡ Err 1
  pub host_note_1_in_the_bank : host_reply (pos 7) 17 0 16 (pos 1) ≡ Err 1
  pub host_note_2 : host_reply (pos 7) 16 0 0 (pos 257) ≡ Err 2
  pub host_note_2_for_0 : host_reply (pos 7) 16 0 0 (pos 0) ≡ Err 2
  pub host_note_3 : host_reply (pos 7) 16 250 0 (pos 7) ≡ Err 3
  pub host_note_full : host_reply (pos 7) 16 250 0 (pos 6) ≡ Ok tt
  -- the count at the cell before the move, and no other, may be from −256 to 256
  pub host_at_256 : host_reply (pos 256) 16 0 0 (pos 1) ≡ Ok tt
  pub host_at_257 : host_reply (pos 257) 16 0 0 (pos 1) ≡ Err 13
  pub host_at_less_256 : host_reply (negsuc 255) 16 0 0 (negsuc 0) ≡ Ok tt
  pub host_at_less_257 : host_reply (negsuc 256) 16 0 0 (negsuc 0) ≡ Err 13
  pub host_back_from_257 : host_reply (pos 257) 16 0 0 (negsuc 0) ≡ Err 13
  pub host_beside_257 : host_reply (pos 257) 16 0 1 (pos 1) ≡ Ok tt
  -- and each with the next
  pub host_12_before_1 : host_reply (pos 7) 15 0 16 (pos 1) ≡ Err 12
  pub host_1_before_2 : host_reply (pos 7) 16 0 16 (pos 257) ≡ Err 1
  pub host_2_before_3 : host_reply (pos 7) 16 256 0 (pos 257) ≡ Err 2
  pub host_3_before_13 : host_reply (pos 257) 16 256 0 (pos 1) ≡ Err 3
  -- an accepted note adds its amount to one count and to the weight, and one to the number
  pub host_bank_then : host_bank (pos 3) 17 6 0 (negsuc 1) ≡ pos 1 ∷ old_counts 16
  pub host_bank_at_256 : host_bank (pos 256) 16 0 0 (pos 1) ≡ pos 257 ∷ old_counts 15
  pub host_bank_at_cell_9 : host_bank (pos 3) 17 6 9 (negsuc 7) ≡ pos 3 ∷ (old_counts 8 ++ (negsuc 0 ∷ old_counts 7))
  pub host_standing_then : host_standing (pos 3) 16 6 0 (negsuc 1) ≡ standing_of 8 2
  -- a refused one leaves both as they were
  pub host_bank_after_note_12 : host_bank (pos 3) 15 6 0 (pos 1) ≡ pos 3 ∷ old_counts 14
  pub host_bank_after_note_1 : host_bank (pos 3) 17 6 16 (pos 1) ≡ pos 3 ∷ old_counts 16
  pub host_bank_after_note_2 : host_bank (pos 3) 16 6 0 (pos 257) ≡ pos 3 ∷ old_counts 15
  pub host_bank_after_note_3 : host_bank (pos 3) 16 256 0 (pos 1) ≡ pos 3 ∷ old_counts 15
  pub host_bank_after_note_13 : host_bank (pos 257) 16 6 0 (pos 1) ≡ pos 257 ∷ old_counts 15
  pub host_standing_after_note_12 : host_standing (pos 3) 15 6 0 (pos 1) ≡ standing_of 6 1
  pub host_standing_after_note_1 : host_standing (pos 3) 17 6 16 (pos 1) ≡ standing_of 6 1
  pub host_standing_after_note_2 : host_standing (pos 3) 16 6 0 (pos 257) ≡ standing_of 6 1
  pub host_standing_after_note_3 : host_standing (pos 3) 16 256 0 (pos 1) ≡ standing_of 256 1
  pub host_standing_after_note_13 : host_standing (pos 257) 16 6 0 (pos 1) ≡ standing_of 6 1
  -- both ends through all moves, refused ones among them: the answers, where they stand, and their banks
  pub bank_at_five : values (bank_at 5) ≡ 65530 ∷ 65527 ∷ 0 ∷ 0 ∷ 0 ∷ 0 ∷ 0 ∷ 0 ∷ 1 ∷ []
  pub box_answers : map numbered (verifier_answers residues (verifier_opened residues 2 8 (node residues 5) (old_sums 9)) mixed_moves) ≡ Err 1 ∷ Err 2 ∷ Ok tt ∷ Err 3 ∷ Ok tt ∷ Err 2 ∷ Err 3 ∷ []
  pub box_stands : box_told.standing ≡ standing_of 256 2
  pub box_sums : values box_told.bank ≡ 65525 ∷ 0 ∷ 0 ∷ 0 ∷ 0 ∷ 0 ∷ 0 ∷ 64272 ∷ 7 ∷ []
  pub host_answers_then : map numbered (host_answers 256 (host_opened 2 8 (old_counts 17)) mixed_moves) ≡ Err 1 ∷ Err 2 ∷ Ok tt ∷ Err 3 ∷ Ok tt ∷ Err 2 ∷ Err 3 ∷ []
  pub host_stands : host_told.standing ≡ standing_of 256 2
  pub host_counts : host_told.bank ≡ pos 3 ∷ pos 0 ∷ pos 0 ∷ pos 0 ∷ pos 0 ∷ pos 0 ∷ pos 0 ∷ pos 0 ∷ pos 0 ∷ pos 0 ∷ pos 0 ∷ pos 0 ∷ pos 0 ∷ pos 0 ∷ pos 0 ∷ negsuc 252 ∷ pos 7 ∷ []
