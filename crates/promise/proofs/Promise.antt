-- The promise as one whole. Assumes nothing but the laws of the field, and of the questions.
use Rattle.std.proofs.Common.{◌*◌, take, ap, ◌∙◌}
use Rattle.field.specs.Field.{FieldModel, LawfulField}
use Rattle.promise.specs.Promise.{VerifierSums, HostCounts, Promised}
use Rattle.promise.proofs.Runs.{ran_at, always_ledger}
use Rattle.promise.proofs.Ends.{verifier_keeps, host_keeps}
use Rattle.promise.proofs.FalseClaims.{few_points, others_true}
use Rattle.promise.proofs.Honesty.{honest_answers}
use Rattle.promise.proofs.Inside.{honest_replies, honest_judgings}

module _ {K : Type 0} (F : FieldModel K) where
  verifier_sums : LawfulField F → VerifierSums F
  verifier_sums L rs s o g x e = let t = (ran_at (verifier_keeps F L) rs s o g x e).stands in ap (λ z. take o.columns z.bank) t.is ∙ t.right

  host_counts : HostCounts F
  host_counts rs s o g x e = let t = (ran_at (host_keeps F) rs s o g x e).stands in ap (λ z. take (o.rows * o.columns) z.bank) t.is ∙ t.right

pub promise : {K : Type 0} {F : FieldModel K} → LawfulField F → Promised F
promise {K} {F} L = record {
  honest_accepted = honest_answers F L;
  honest_replies = honest_replies F (honest_answers F L);
  honest_judgings = honest_judgings F;
  few_points = few_points L;
  others_true = others_true L;
  verifier_ledger = always_ledger (verifier_keeps F L);
  host_ledger = always_ledger (host_keeps F);
  verifier_sums = verifier_sums F L;
  host_counts = host_counts F;
}
