-- Trials: both ends on one board from open to judgement, what such a trial answers, and what its memory holds then. Assumes nothing.
use Rattle.std.specs.Prelude.{◌≡◌, ℕ, List, [], ◌∷◌, ◌++◌, replicate, ℤ, pos, Ok, Err, Result}
use Rattle.board.specs.declared.moves.Move.{Move}
use Rattle.prime.specs.declared.residue.Residue.{Residue}
use Rattle.polynomial.specs.Interpolation.{node}
use Rattle.question.specs.Question.{QuestionModel}
use Rattle.play.specs.Contents.{Contents}
use Rattle.play.specs.Trials.{Trial, trial}
use Rattle.worked.specs.Board.{residues, values, worked_moves, worked_counts, mixed_moves, sum_of_squares, true_sheet, numbered}
use Rattle.worked.specs.Answers.{backward_range}

-- memory full of sevens: cells of both banks, elements of the tray, bytes of the paper
abbrev pub sevens : ℕ → ℕ → ℕ → ℕ → Contents (Residue 65537)
sevens counts sums tray paper = record {
  counts = replicate counts (pos 7);
  sums = replicate sums (node residues 7);
  tray = replicate tray (node residues 7);
  paper = replicate paper 7;
}

-- a trial on two rows and v columns with a box at 5
abbrev pub trial_on : ℕ → List Move → QuestionModel (Residue 65537) → Contents (Residue 65537) → Trial (Residue 65537)
trial_on v ms q m = trial residues 2 v (node residues 5) ms q m

-- its answer on the worked board
abbrev pub outcome : List Move → QuestionModel (Residue 65537) → Contents (Residue 65537) → Result ℤ ℕ
outcome ms q m = numbered (trial_on 8 ms q m).answer

-- the squares of the worked moves, with one of everything more than is wanted
abbrev pub worked_trial : Trial (Residue 65537)
worked_trial = trial_on 8 worked_moves sum_of_squares (sevens 17 9 12 9300)

-- a question that does not fit
abbrev pub unfit_trial : Trial (Residue 65537)
unfit_trial = trial_on 8 worked_moves backward_range (sevens 17 9 12 9300)

-- whole trials
pub record TrialCases : Type 0 where
  -- the true count comes out, whether moves were refused or not
  pub accepted : outcome worked_moves sum_of_squares (sevens 17 9 12 9300) ≡ Ok (pos 14)
  pub least_memory : outcome worked_moves sum_of_squares (sevens 16 8 11 9216) ≡ Ok (pos 14)
  pub refused_moves : outcome mixed_moves sum_of_squares (sevens 16 8 11 9216) ≡ Ok (pos 64018)
  pub no_moves : outcome [] sum_of_squares (sevens 16 8 11 9216) ≡ Ok (pos 0)
  -- the memory then: the counts, the sums at 5, the sheet's values and the columns at 2, the sheet
  pub counts_then : worked_trial.memory.counts ≡ worked_counts ++ (pos 7 ∷ [])
  pub sums_then : values worked_trial.memory.sums ≡ 65530 ∷ 65527 ∷ 0 ∷ 0 ∷ 0 ∷ 0 ∷ 0 ∷ 0 ∷ 7 ∷ []
  pub tray_then : values worked_trial.memory.tray ≡ 9 ∷ 5 ∷ 17 ∷ 65536 ∷ 65533 ∷ 0 ∷ 0 ∷ 0 ∷ 0 ∷ 0 ∷ 0 ∷ 7 ∷ []
  pub paper_then : worked_trial.memory.paper ≡ true_sheet ++ replicate 9208 7
  -- a grid outside the limits: nothing was done
  pub grid_10 : numbered (trial_on 12 worked_moves sum_of_squares (sevens 100 100 100 9300)).answer ≡ Err 10
  pub memory_after_10 : (trial_on 12 worked_moves sum_of_squares (sevens 100 100 100 9300)).memory ≡ sevens 100 100 100 9300
  -- a bank that is too short: nothing was done if it is the host's, and the host was opened if it is the box's
  pub host_12 : outcome worked_moves sum_of_squares (sevens 15 9 12 9300) ≡ Err 12
  pub memory_after_host_12 : (trial_on 8 worked_moves sum_of_squares (sevens 15 9 12 9300)).memory ≡ sevens 15 9 12 9300
  pub box_12 : outcome worked_moves sum_of_squares (sevens 17 7 12 9300) ≡ Err 12
  pub memory_after_box_12 : (trial_on 8 worked_moves sum_of_squares (sevens 17 7 12 9300)).memory ≡ record (sevens 17 7 12 9300) { counts = replicate 16 (pos 0) ++ (pos 7 ∷ []) }
  -- a question, a tray or a paper that the host refuses: both were told the moves, and tray and paper are as they were
  pub unfit_20 : numbered unfit_trial.answer ≡ Err 20
  pub counts_after_20 : unfit_trial.memory.counts ≡ worked_counts ++ (pos 7 ∷ [])
  pub sums_after_20 : values unfit_trial.memory.sums ≡ 65530 ∷ 65527 ∷ 0 ∷ 0 ∷ 0 ∷ 0 ∷ 0 ∷ 0 ∷ 7 ∷ []
  pub tray_after_20 : unfit_trial.memory.tray ≡ (sevens 17 9 12 9300).tray
  pub paper_after_20 : unfit_trial.memory.paper ≡ (sevens 17 9 12 9300).paper
  pub tray_21 : outcome worked_moves sum_of_squares (sevens 17 9 10 9300) ≡ Err 21
  pub paper_22 : outcome worked_moves sum_of_squares (sevens 17 9 12 9215) ≡ Err 22
