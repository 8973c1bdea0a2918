use Rattle.reference.proofs.arithmetic.Arithmetic.power.Given as goal

abbrev pub decreases-loop-rest : goal.decreases-loop-rest
decreases-loop-rest l = l.rest
