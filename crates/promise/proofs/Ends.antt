-- Box and host stand to the ledger as they should in every run: the box's bank begins with the columns of the counts at its point, the host's with the counts.
-- Assumes nothing but the laws of the field.
use Rattle.std.proofs.Common.{◌*◌, drop, ap}
use Rattle.field.specs.Field.{FieldModel, LawfulField}
use Rattle.board.specs.Ledger.{Ledger}
use Rattle.host.specs.Notes.{HostState}
use Rattle.host.proofs.Stands as host
use Rattle.verifier.specs.Notes.{VerifierState}
use Rattle.verifier.proofs.Stands as verifier
use Rattle.promise.specs.Ends.{VerifierOpening, verifier_end, HostOpening, host_end}
use Rattle.promise.proofs.Runs.{Keeps}

module _ {K : Type 0} (F : FieldModel K) where
  -- how a box that was opened by o stands
  abbrev pub VerifierStands : VerifierOpening K → Ledger → VerifierState K → Type 0
  VerifierStands o l x = verifier.Stands F o.rows o.columns o.point (drop o.columns o.bank) l x

  -- how a host that was opened by o stands
  abbrev pub HostStands : HostOpening → Ledger → HostState → Type 0
  HostStands o l x = host.Stands F.limit o.rows o.columns (drop (o.rows * o.columns) o.bank) l x

  pub verifier_keeps : LawfulField F → Keeps (verifier_end F) F.limit VerifierStands
  verifier_keeps L = record {
    begins = λ o u e. verifier.opened_stands L o.rows o.columns o.point o.bank u e;
    answers = λ o l x m s. verifier.note_answer_lem L o.rows o.columns o.point (drop o.columns o.bank) l x m s;
    follows = λ o l x m s. verifier.note_stands L o.rows o.columns o.point (drop o.columns o.bank) l x m s;
    stays = λ o l x q s. s;
    standing = λ o l x s. ap (λ z. z.standing) s.is;
  }

  pub host_keeps : Keeps (host_end F) F.limit HostStands
  host_keeps = record {
    begins = λ o u e. host.opened_stands F.limit o.rows o.columns o.bank u e;
    answers = λ o l x m s. host.note_answer_lem F.limit o.rows o.columns (drop (o.rows * o.columns) o.bank) l x m s;
    follows = λ o l x m s. host.note_stands F.limit o.rows o.columns (drop (o.rows * o.columns) o.bank) l x m s;
    stays = λ o l x q s. s;
    standing = λ o l x s. ap (λ z. z.standing) s.is;
  }
