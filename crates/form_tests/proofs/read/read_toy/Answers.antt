use Rattle.form_tests.proofs.Toys.{toy_states, toy_gives, toy_first}
use Rattle.form_tests.proofs.read.read_toy.Goals as goal

pub returns-clause-states : goal.returns-clause-states
returns-clause-states c = toy_states c.args.n c.args.bytes.now _ c.read.ensures

pub returns-clause-gives : goal.returns-clause-gives
returns-clause-gives c = toy_gives c.args.n c.args.bytes.now _ c.read.ensures

pub returns-clause-first : goal.returns-clause-first
returns-clause-first c = toy_first c.args.n c.args.bytes.now _ c.read.ensures
