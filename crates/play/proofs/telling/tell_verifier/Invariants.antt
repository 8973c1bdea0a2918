use Rattle.std.proofs.Common.{◌≡◌, ◌++◌, take, drop}
use Rattle.verifier.specs.Notes.{verifier_after}
use Rattle.board.specs.Banks.{cells_of}
use Rattle.play.specs.States.{verifier_state}
use Rattle.play.specs.Tellings.{moves_of, told_to_box}
use Rattle.play.proofs.telling.tell_verifier.Given as goal

abbrev pub invariant-loop-one : goal.invariant-loop-one
invariant-loop-one g l = record {
  state :
      verifier_after g.F.Field.model (verifier_state l.verifier (cells_of l.bank)) (moves_of (drop l.one-index l.told))
      ≡ verifier_after g.F.Field.model (verifier_state l.initial.verifier (cells_of l.initial.bank)) (moves_of l.initial.told);
  told :
      take l.one-index l.told ++ told_to_box g.F.Field.model (verifier_state l.verifier (cells_of l.bank)) (drop l.one-index l.told)
      ≡ told_to_box g.F.Field.model (verifier_state l.initial.verifier (cells_of l.initial.bank)) l.initial.told;
  lender : l.bank.cells.ghost_name ≡ l.initial.bank.cells.ghost_name;
}
