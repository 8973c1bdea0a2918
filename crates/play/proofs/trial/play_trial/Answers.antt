use Rattle.std.proofs.Common.{ap, ◌∙◌}
use Rattle.promise.proofs.Promise.{promise}
use Rattle.play.specs.Memories.{contents_of}
use Rattle.play.specs.Tellings.{moves_of}
use Rattle.play.proofs.Honest.{honest_trial}
use Rattle.play.proofs.Outcomes.{follows_ledger}
use Rattle.play.proofs.trial.play_trial.Goals as goal

pub returns-clause-promise : goal.returns-clause-promise
returns-clause-promise g c = promise g.met.F.Field.lawful

pub returns-clause-ledger : goal.returns-clause-ledger
returns-clause-ledger g c =
    let told = c.open_and_exchange.ensures in
    follows_ledger g.met.F.Field.lawful c.args.rows c.args.columns c.args.point (contents_of c.args.memory.now) c.args.told.now c.open_and_exchange.new.told c.open_and_exchange.result told.opened told.ends

pub returns-clause-honest : goal.returns-clause-honest
returns-clause-honest g c =
    let F = g.F.Field.model in
    let q = g.Q.Question.meaning c.args.question.now in
    let honest = honest_trial F c.args.rows c.args.columns c.args.point (moves_of c.args.told.now) q (promise g.met.F.Field.lawful) (contents_of c.args.memory.now) in
    λ order. ap (λ t. t.answer) c.open_and_exchange.ensures.trial ∙ honest order
