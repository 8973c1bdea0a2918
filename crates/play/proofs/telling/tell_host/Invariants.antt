use Rattle.std.proofs.Common.{◌≡◌, ◌++◌, take, drop}
use Rattle.host.specs.Notes.{host_after}
use Rattle.board.specs.Banks.{cells_of}
use Rattle.play.specs.States.{host_state}
use Rattle.play.specs.Tellings.{moves_of, told_to_host}
use Rattle.play.proofs.telling.tell_host.Given as goal

abbrev pub invariant-loop-one : goal.invariant-loop-one
invariant-loop-one g l = record {
  state :
      host_after g.F.Field.model.limit (host_state l.host (cells_of l.bank)) (moves_of (drop l.one-index l.told))
      ≡ host_after g.F.Field.model.limit (host_state l.initial.host (cells_of l.initial.bank)) (moves_of l.initial.told);
  told :
      take l.one-index l.told ++ told_to_host g.F.Field.model.limit (host_state l.host (cells_of l.bank)) (drop l.one-index l.told)
      ≡ told_to_host g.F.Field.model.limit (host_state l.initial.host (cells_of l.initial.bank)) l.initial.told;
  lender : l.bank.cells.ghost_name ≡ l.initial.bank.cells.ghost_name;
}
