use Rattle.prime.specs.Fields.{not_square}
use Rattle.prime.proofs.prime_field.ResidueBaseField.non_square.Goals as goal

pub returns-clause-no_square : goal.returns-clause-no_square
returns-clause-no_square g c = λ x e. not_square g.bound-1-met.lawful x e c.NON_SQUARE.ensures
