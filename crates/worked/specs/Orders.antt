-- Trials in order exist, with just the memory that is wanted. Assumes nothing.
use Rattle.std.specs.Prelude.{◌≡◌, ℕ, suc, ◌+◌, ◌-◌, ◌*◌, true, List, replicate, pos}
use Rattle.field.specs.Field.{FieldModel}
use Rattle.board.specs.declared.moves.Move.{Move}
use Rattle.board.specs.Grids.{grid_allowed}
use Rattle.season.specs.Squares.{squares_question}
use Rattle.writer.specs.declared.limits.TheConstants.{ENOUGH_PAPER}
use Rattle.play.specs.Contents.{Contents}
use Rattle.play.specs.Trials.{InOrder}

-- h × v counts, v sums, a tray of D + 1 + v elements, where D is 2 (h − 1), and 9,216 bytes of paper, all zeros
abbrev pub least_memory : {K : Type 0} → FieldModel K → ℕ → ℕ → Contents K
least_memory F h v = record {
  counts = replicate (h * v) (pos 0);
  sums = replicate v F.zero;
  tray = replicate (suc (2 * (h - 1)) + v) F.zero;
  paper = replicate ENOUGH_PAPER 0;
}

-- on every allowed grid, at every point and for all moves a trial of the squares is in order with this memory
abbrev pub OrdersMet : {K : Type 0} → FieldModel K → Type 0
OrdersMet {K} F =
    (h v : ℕ) → grid_allowed h v ≡ true → (r : K) (ms : List Move)
    → InOrder F h v r ms (squares_question F) (least_memory F h v)
