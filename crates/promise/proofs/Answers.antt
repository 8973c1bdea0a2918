-- What a host whose bank begins with the counts gives for a lawful question that fits. There is no run in it.
-- Assumes nothing but the laws of the field and of the question.
use Rattle.std.proofs.Common.{◌≡◌, ℕ, suc, ◌+◌, ◌*◌, ◌≤◌, List, length, take, ℤ, Ok, refl, ap₂, le-ltb, le-leb}
use Rattle.field.specs.Field.{FieldModel, LawfulField}
use Rattle.board.specs.Ledger.{abs_sum}
use Rattle.question.specs.Question.{QuestionModel, Fits, Within, LawfulQuestion}
use Rattle.host.specs.Answering.{answer_ready, answered_by, answered}
use Rattle.writer.specs.declared.limits.TheConstants.{ENOUGH_PAPER}
use Rattle.promise.proofs.Judgements.{suits_true}

module _ {K : Type 0} {F : FieldModel K} (L : LawfulField F) (q : QuestionModel K) (Q : LawfulQuestion F q) (h v : ℕ) (fit : Fits q h v) (fs : List ℤ) (w : Within F h v fs) where
  module _ (bank : List ℤ) (b : h * v ≤ length bank) (e : take (h * v) bank ≡ fs) (tray : List K) (t : suc (q.degree h) + v ≤ length tray) (paper : List ℕ) (p : ENOUGH_PAPER ≤ length paper) where
    ready : answer_ready F h v bank q tray paper ≡ Ok tt
    ready =
        let long = le-ltb (length bank) (h * v) b in
        let light = le-leb (abs_sum (take (h * v) bank)) F.limit (rw e w.light) in
        let room = le-ltb (length tray) (suc (q.degree h) + v) t in
        let space = le-ltb (length paper) ENOUGH_PAPER p in
        rw (long, light, suits_true L q Q h v fit, room, space) refl

    pub answer_granted : answered F h v bank q tray paper ≡ answered_by F h v (Ok tt) q fs tray paper
    answer_granted = ap₂ (λ a gs. answered_by F h v a q gs tray paper) ready e
