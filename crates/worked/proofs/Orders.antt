-- Trials in order exist. Assumes nothing but the laws of the field.
use Rattle.std.proofs.Common.{ℕ, suc, ◌+◌, ◌-◌, ◌*◌, pos, refl, arith}
use lib.ListN.{length-replicate}
use Rattle.field.specs.Field.{FieldModel, LawfulField}
use Rattle.season.proofs.SquaresLaw.{squares_lawful}
use Rattle.writer.specs.declared.limits.TheConstants.{ENOUGH_PAPER}
use Rattle.worked.specs.Orders.{OrdersMet}

pub orders_met : {K : Type 0} {F : FieldModel K} → LawfulField F → OrdersMet F
orders_met {K} {F} L h v allowed r ms = record {
  allowed = allowed;
  lawful = squares_lawful L;
  fitting = refl;
  counts_long = omega (arith, length-replicate (h * v) (pos 0));
  sums_long = omega (arith, length-replicate v F.zero);
  tray_long = omega (arith, length-replicate (suc (2 * (h - 1)) + v) F.zero);
  paper_long = omega (arith, length-replicate {A = ℕ} ENOUGH_PAPER 0);
}
