-- An honest host's sheet is accepted at every point. Assumes nothing but the laws of the field and of the question.
use Rattle.std.proofs.Common.{◌≡◌, ℕ, ◌*◌, ◌≤◌, true, List, length, take, drop, ℤ, refl, ap, ◌∙◌, inr, arith, take_at, drop_at}
use mathlib.Core.Path.{subst₃}
use Rattle.field.specs.Field.{FieldModel, LawfulField}
use Rattle.board.specs.declared.moves.Move.{Move}
use Rattle.board.specs.Grids.{grid_allowed}
use Rattle.board.specs.Ledger.{ledger}
use Rattle.question.specs.Question.{Fits}
use Rattle.protocol.specs.Asking.{reading_under}
use Rattle.host.specs.Answering.{answered, honest_sheet}
use Rattle.host.specs.Notes.{HostState}
use Rattle.verifier.specs.Judging.{judged}
use Rattle.promise.specs.Runs.{moves}
use Rattle.promise.specs.Ends.{Answering, host_end}
use Rattle.promise.specs.Sealed.{SealedHost, host_gives}
use Rattle.promise.specs.Promise.{HonestAccepted}
use Rattle.promise.proofs.Runs.{ran_at}
use Rattle.promise.proofs.Ends.{HostStands, host_keeps}
use Rattle.promise.proofs.Judgements.{honest_read, honest_short, honest_accepted}
use Rattle.promise.proofs.Answers.{answer_granted}
use Rattle.promise.proofs.Boxes.{counts_of, within, settled}

module _ {K : Type 0} (F : FieldModel K) where
  -- a host whose bank begins with the counts
  record Counting (h v : ℕ) (ms : List Move) (x : HostState) : Type 0 where
    bank : List ℤ
    allowed : grid_allowed h v ≡ true
    long : h * v ≤ length bank
    right : take (h * v) bank ≡ counts_of F h v ms
    answers : (a : Answering K) → (host_end F).reply x a ≡ answered F h v bank a.question a.tray a.paper

  counting : (h v : ℕ) (ms : List Move) (run : SealedHost F h v ms) → Counting h v ms run.host
  counting h v ms run = subst₃ (λ a b ns. Counting a b ns run.host) run.rows run.columns run.told there
    where
      s : HostStands F run.opened (ledger run.opened.rows run.opened.columns F.limit (moves run.requests)) run.host
      s = (ran_at (host_keeps F) run.requests run.shaped run.opened run.grants run.host (inr run.ends)).stands

      there : Counting run.opened.rows run.opened.columns (moves run.requests) run.host
      there = record { bank = s.bank; allowed = s.allowed; long = s.long; right = s.right; answers = λ a. ap (λ z. (host_end F).reply z a) s.is }

  pub honest_answers : LawfulField F → HonestAccepted F
  honest_answers L h v ms run q Q f tray t paper p =
      let k = counting h v ms run in
      let fs = counts_of F h v ms in
      let fit : Fits q h v = record { grid = k.allowed; fit = f } in
      let w = within F h v ms in
      let sheet = honest_sheet F h v q fs in
      let n = length sheet in
      let given = k.answers (record { question = q; tray = tray; paper = paper }) ∙ answer_granted L q Q h v fit fs w k.bank k.long k.right tray t paper p in
      let left = ap (λ z. z.paper) given in
      let whole = ap (take n) left ∙ take_at sheet (drop n paper) n refl in
      record {
        bytes = n;
        answer = ap (λ z. z.answer) given;
        inside = omega (arith, honest_short L q Q h v fit fs w);
        values = ap (λ z. z.tray) given;
        rest = ap (drop n) left ∙ drop_at sheet (drop n paper) n refl;
        reads = ap (reading_under F q h v) whole ∙ honest_read L q Q h v fit fs w;
        accepted = λ r box tray' t'.
            let z = (settled L h v ms r box).holds in
            ap (λ j. j.answer) (z.judges (record { question = q; sheet = take n (host_gives F h v ms run q tray paper).paper; tray = tray' }))
            ∙ ap (λ bs. (judged F h v r z.bank q bs tray').answer) whole
            ∙ honest_accepted L q Q h v fit fs w r z.bank z.long z.right tray' t';
      }
