-- A trial in order ends with the true count. It follows from the promise: the trial's two runs are runs of a host and of a box told the same moves.
-- Assumes nothing but the laws of the field.
use Rattle.std.proofs.Common.{◌≡◌, ℕ, suc, ◌+◌, ◌*◌, ◌≤◌, true, cond, List, [], ◌∷◌, ◌++◌, map, length, drop, ℤ, Ok, Err, refl, ap, ◌∙◌, arith, length-append, le-leb}
use Rattle.board.specs.declared.moves.Move.{Move}
use Rattle.refusal.specs.declared.refusal.Refusal.TheVariants.{BankShort, GridOutside}
use Rattle.board.specs.Banks.{room_for}
use Rattle.board.specs.Books.{open_answer}
use Rattle.board.specs.Grids.{grid_allowed}
use Rattle.field.specs.Field.{FieldModel}
use Rattle.board.specs.Ledger.{ledger}
use Rattle.polynomial.specs.Columns.{columns_at}
use Rattle.polynomial.specs.Interpolation.{node}
use Rattle.protocol.specs.Asking.{honest}
use Rattle.polynomial.proofs.Sums.{length-listed}
use Rattle.question.specs.Question.{QuestionModel}
use Rattle.host.specs.Answering.{answered_at}
use Rattle.host.specs.Calls.{host_open_answer}
use Rattle.verifier.specs.Calls.{verifier_open_answer}
use Rattle.promise.specs.Claims.{true_count}
use Rattle.promise.specs.Ends.{HostOpening, host_end, VerifierOpening, verifier_end}
use Rattle.promise.specs.Promise.{Promised}
use Rattle.promise.specs.Runs.{noting, sealing, begun, after}
use Rattle.promise.specs.Sealed.{SealedHost, SealedVerifier}
use Rattle.promise.specs.Shapes.{complete_requests, complete}
use Rattle.promise.proofs.Shapes.{runs_of}
use Rattle.play.proofs.Adequacy.{host_sealed, verifier_sealed}
use Rattle.play.specs.Contents.{Contents}
use Rattle.play.specs.States.{box_of}
use Rattle.play.specs.Trials.{judged_answer, told_host, told_box, box_trial, host_trial, trial, InOrder}

-- an open on an allowed grid with cells enough is granted
open_granted : {A : Type 0} (h v n : ℕ) (bank : List A) → grid_allowed h v ≡ true → n ≤ length bank → open_answer h v n bank ≡ Ok tt
open_granted h v n bank allowed long =
    ap (λ b. cond b (room_for n bank) (Err GridOutside)) allowed ∙ ap (λ b. cond b (Ok tt) (Err BankShort)) (le-leb n (length bank) long)

module _ {K : Type 0} (F : FieldModel K) where
  module _ (h v : ℕ) (r : K) (ms : List Move) (q : QuestionModel K) where
    -- the host's run of a trial
    host_run : (counts : List ℤ) → host_open_answer h v counts ≡ Ok tt → SealedHost F h v ms
    host_run counts granted =
        let o : HostOpening = record { rows = h; columns = v; bank = counts } in
        let done = (runs_of (host_end F)).completed [] tt o granted ms [] in
        record {
          requests = complete_requests [] o ms [];
          shaped = (runs_of (host_end F)).of_form _ (complete [] tt o granted ms []);
          opened = o;
          grants = done.grants;
          rows = refl;
          columns = refl;
          told = done.told;
          host = told_host F h v r ms q counts;
          ends = ap (λ a. after (host_end F) (begun (host_end F) a o) (map noting ms ++ (sealing ∷ []))) granted ∙ host_sealed F ((host_end F).begin o) ms [];
        }

    -- the box's run of a trial
    verifier_run : (sums : List K) → verifier_open_answer F h v sums ≡ Ok tt → SealedVerifier F h v ms r
    verifier_run sums granted =
        let o : VerifierOpening K = record { rows = h; columns = v; bank = sums; point = r } in
        let done = (runs_of (verifier_end F)).completed [] tt o granted ms [] in
        record {
          requests = complete_requests [] o ms [];
          shaped = (runs_of (verifier_end F)).of_form _ (complete [] tt o granted ms []);
          opened = o;
          grants = done.grants;
          rows = refl;
          columns = refl;
          point = refl;
          told = done.told;
          verifier = told_box F h v r ms q sums;
          ends = ap (λ a. after (verifier_end F) (begun (verifier_end F) a o) (map noting ms ++ (sealing ∷ []))) granted ∙ verifier_sealed F ((verifier_end F).begin o) ms [];
        }

    pub honest_trial : Promised F → (m : Contents K) → InOrder F h v r ms q m → (trial F h v r ms q m).answer ≡ Ok (true_count F h v ms q)
    unfolding host_run verifier_run
    honest_trial promised m order =
        let host-granted = open_granted h v (h * v) m.counts order.allowed order.counts_long in
        let verifier-granted = open_granted h v v m.sums order.allowed order.sums_long in
        let host = told_host F h v r ms q m.counts in
        let box = told_box F h v r ms q m.sums in
        let given = answered_at F host.standing host.bank q m.tray m.paper in
        let answer = promised.honest_accepted h v ms (host_run m.counts host-granted) q order.lawful order.fitting m.tray order.tray_long m.paper order.paper_long in
        let fs = (ledger h v F.limit ms).counts in
        let rest = columns_at F h v fs (node F (q.degree h)) ++ drop (suc (q.degree h) + v) m.tray in
        let values : given.tray ≡ honest F h v q fs ++ rest = answer.values in
        let room : suc (q.degree h) ≤ length given.tray =
        omega (arith, ap length values, length-append (honest F h v q fs) rest, length-listed 0 (suc (q.degree h)) (λ j. q.rule h v (node F j) (columns_at F h v fs (node F j)))) in
        ap (λ a. (host_trial F h v r ms q a m).answer) host-granted
        ∙ ap (λ a. (box_trial F h v r ms q a m).answer) verifier-granted
        ∙ ap (λ a. (judged_answer F (box_of box) q (record m { counts = host.bank; sums = box.bank }) a given.tray given.paper).answer) answer.answer
        ∙ answer.accepted r (verifier_run m.sums verifier-granted) given.tray room
