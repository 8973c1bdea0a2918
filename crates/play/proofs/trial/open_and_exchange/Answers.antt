use Rattle.std.proofs.Common.{◌≡◌, Ok, sym, ap, ◌∙◌, ap₂, rules}
use Rattle.board.specs.Banks.{cells_of}
use Rattle.host.specs.Calls.{host_open_answer}
use Rattle.host.specs.Notes.{host_opened, host_after}
use Rattle.verifier.specs.Calls.{verifier_open_answer}
use Rattle.verifier.specs.Notes.{verifier_opened, verifier_after}
use Rattle.play.specs.Memories.{contents_of}
use Rattle.play.specs.States.{host_state, verifier_state, box_of}
use Rattle.play.specs.Tellings.{moves_of, told_to_host, told_to_box}
use Rattle.play.specs.Trials.{Trial, exchanged, box_trial, host_trial}
use Rattle.play.proofs.Tellings.{moves_of-told_to_host}
use Rattle.play.proofs.trial.open_and_exchange.Goals as goal
use Rattle.play.proofs.trial.open_and_exchange.Given as given

module _ (g : given.Over) (c : goal.After-exchange-found g) where
  -- the host was opened and told the moves
  host-told : c.tell_host.new.told ≡ told_to_host g.F.Field.model.limit (host_opened c.args.rows c.args.columns (contents_of c.args.memory.now).counts) c.args.told.now
  host-told = search rules

  host-stands :
      host_state c.tell_host.new.host (cells_of c.tell_host.new.bank)
      ≡ host_after g.F.Field.model.limit (host_opened c.args.rows c.args.columns (contents_of c.args.memory.now).counts) (moves_of c.args.told.now)
  host-stands = search rules

  -- the box was opened and told the same moves
  same-moves : moves_of c.tell_host.new.told ≡ moves_of c.args.told.now
  same-moves = ap moves_of host-told ∙ moves_of-told_to_host g.F.Field.model.limit (host_opened c.args.rows c.args.columns (contents_of c.args.memory.now).counts) c.args.told.now

  box-told : c.tell_verifier.new.told ≡ told_to_box g.F.Field.model (verifier_opened g.F.Field.model c.args.rows c.args.columns c.args.point (contents_of c.args.memory.now).sums) c.tell_host.new.told
  box-told = search rules

  box-stands :
      verifier_state c.tell_verifier.new.verifier (cells_of c.tell_verifier.new.bank)
      ≡ verifier_after g.F.Field.model (verifier_opened g.F.Field.model c.args.rows c.args.columns c.args.point (contents_of c.args.memory.now).sums) (moves_of c.args.told.now)
  box-stands =
      let told :
      verifier_state c.tell_verifier.new.verifier (cells_of c.tell_verifier.new.bank)
      ≡ verifier_after g.F.Field.model (verifier_opened g.F.Field.model c.args.rows c.args.columns c.args.point (contents_of c.args.memory.now).sums) (moves_of c.tell_host.new.told) = search rules in
      told ∙ ap (verifier_after g.F.Field.model (verifier_opened g.F.Field.model c.args.rows c.args.columns c.args.point (contents_of c.args.memory.now).sums)) same-moves

-- both ends then exchanged over what stood in their banks
pub returns-clause-trial : goal.returns-clause-trial
returns-clause-trial g c =
    let F = g.F.Field.model in
    let h = c.args.rows in
    let v = c.args.columns in
    let r = c.args.point in
    let ms = moves_of c.args.told.now in
    let q = g.Q.Question.meaning c.args.question.now in
    let lent = contents_of c.args.memory.now in
    let host-granted : host_open_answer h v lent.counts ≡ Ok tt = search rules in
    let verifier-granted : verifier_open_answer F h v lent.sums ≡ Ok tt = search rules in
    let ended : ◌≡◌ {A = Trial g.row.F.Denot} record { answer = c.exchange-found.result; memory = contents_of c.exchange-found.new.memory }
    (exchanged F c.tell_host.new.host c.tell_verifier.new.verifier q (record lent { counts = cells_of c.tell_host.new.bank; sums = cells_of c.tell_verifier.new.bank })) = search rules in
    ended ∙ ap₂ (λ x y. exchanged F x.standing (box_of y) q (record lent { counts = x.bank; sums = y.bank })) (host-stands g c) (box-stands g c)
    ∙ sym (ap (λ a. host_trial F h v r ms q a lent) host-granted ∙ ap (λ a. box_trial F h v r ms q a lent) verifier-granted)

pub returns-clause-ends : goal.returns-clause-ends
returns-clause-ends g c = record {
  told = box-told g c ∙ ap (told_to_box g.F.Field.model (verifier_opened g.F.Field.model c.args.rows c.args.columns c.args.point (contents_of c.args.memory.now).sums)) (host-told g c);
  host = c.seal-host.ensures ∙ ap (λ x. x.standing) (host-stands g c);
  verifier = c.seal-verifier.ensures ∙ ap box_of (box-stands g c);
}
