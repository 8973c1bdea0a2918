-- A box stands as its ledger does: its standing is the ledger's, and its bank begins with the columns of the ledger's counts at its point.
-- Assumes nothing but the laws of the field.
use Rattle.std.proofs.Common.{◌≡◌, ℕ, zero, suc, ◌+◌, ◌*◌, ◌<◌, ◌≤◌, true, cond, List, [], ◌∷◌, length, get_or, take, drop, set, replicate, pos, Ok, Err, Result, sym, refl, ap, ◌∙◌, subst, ap₂, mod-lt, arith, length-set, get_or-take, drop-set-lt, le-ltb}
use lib.Seq.{take-set-lt}
use Rattle.board.specs.declared.moves.Move.{Move}
use Rattle.refusal.specs.declared.refusal.Refusal.{Refusal}
use Rattle.refusal.specs.declared.refusal.Refusal.TheVariants.{BankShort}
use Rattle.board.specs.Answers.{kept_or}
use Rattle.board.specs.Books.{ledger_standing, entered}
use Rattle.board.specs.Grids.{grid_allowed, column_of}
use Rattle.board.specs.Ledger.{Ledger, ledger_start, ledger_enter, ledger_answer, ledger_next, ledger_from, answers_from}
use Rattle.board.proofs.Ledgers.{Kept, kept_start, kept_next, move_accepted, abs-add, abs_at}
use Rattle.board.proofs.Opens.{open_granted, opened_bank, length_filled, take_filled, drop_filled}
use Rattle.board.proofs.Grids.{allowed_grid}
use Rattle.field.specs.Field.{FieldModel, LawfulField}
use Rattle.field.proofs.Consequences.{limit_small}
use Rattle.field.proofs.Solver.{zero-mul}
use Rattle.polynomial.specs.Lists.{listed}
use Rattle.polynomial.specs.Interpolation.{chi}
use Rattle.polynomial.specs.Columns.{columns_at}
use Rattle.polynomial.proofs.Columns.{columns_move}
use Rattle.polynomial.proofs.Sums.{listed_cong, sum_cong, sum_zeros}
use Rattle.verifier.specs.Calls.{verifier_open_answer, verifier_open_bank, move_share, added_column, verifier_note_answer}
use Rattle.verifier.specs.Notes.{VerifierState, verifier_opened, verifier_noted, verifier_after, verifier_answers, VerifierKeepsLedger}

-- a box on h rows and v columns at the point r whose ledger is l, over a bank whose cells behind the columns' are `rest`
pub record Stands {K : Type 0} (F : FieldModel K) (h v : ℕ) (r : K) (rest : List K) (l : Ledger) (s : VerifierState K) : Type 0 where
  pub bank : List K
  pub is : s ≡ record { standing = ledger_standing h v l; point = r; bank = bank }
  pub allowed : grid_allowed h v ≡ true
  pub long : v ≤ length bank
  pub right : take v bank ≡ columns_at F h v l.counts r
  pub behind : drop v bank ≡ rest
  pub kept : Kept h v F.limit l

get_or_zeros : (n i : ℕ) → get_or (replicate n (pos 0)) i (pos 0) ≡ pos 0
get_or_zeros zero i = refl
get_or_zeros (suc n) zero = refl
get_or_zeros (suc n) (suc i) = get_or_zeros n i

listed_same : {A : Type 0} (j n : ℕ) (a : A) → listed j n (λ i. a) ≡ replicate n a
listed_same j zero a = refl
listed_same j (suc n) a = ap (◌∷◌ a) (listed_same (suc j) n a)

module _ {K : Type 0} {F : FieldModel K} (L : LawfulField F) where
  -- the columns of a board of zeros
  columns_zeros : (h v n : ℕ) (X : K) → columns_at F h v (replicate n (pos 0)) X ≡ replicate v F.zero
  columns_zeros h v n X =
      listed_cong 0 v _ (λ y. F.zero)
      (λ y a b.
      sum_cong L 0 h _ (λ x. F.zero) (λ x c d. ap (λ z. F.mul (F.image z) (chi F h x X)) (get_or_zeros n (x * v + y)) ∙ ap (λ w. F.mul w (chi F h x X)) L.images.of_zero ∙ zero-mul L.ring _)
      ∙ sum_zeros L 0 h)
      ∙ listed_same 0 v F.zero

  module _ (h v : ℕ) (r : K) where
    -- a box that was just opened
    pub opened_stands : (bank : List K) (u : Unit {0}) → verifier_open_answer F h v bank ≡ Ok u → Stands F h v r (drop v bank) (ledger_start h v) (verifier_opened F h v r bank)
    opened_stands bank u e =
        let granted = open_granted h v v bank u e in
        let is = opened_bank h v v bank F.zero u e in
        record {
          bank = verifier_open_bank F h v bank;
          is = refl;
          allowed = granted.allowed;
          long = omega (arith, ap length is, length_filled v F.zero bank granted.long, granted.long);
          right = ap (take v) is ∙ take_filled v F.zero bank ∙ sym (columns_zeros h v (h * v) r);
          behind = ap (drop v) is ∙ drop_filled v F.zero bank;
          kept = kept_start h v F.limit;
        }

    module _ (rest : List K) (l : Ledger) (m : Move) (bank : List K) (allowed : grid_allowed h v ≡ true) (long : v ≤ length bank) (right : take v bank ≡ columns_at F h v l.counts r) (behind : drop v bank ≡ rest) (kept : Kept h v F.limit l) where
      -- a note is answered as the ledger answers it
      answer_is : verifier_note_answer F (ledger_standing h v l) bank m ≡ ledger_answer h v F.limit l m
      answer_is = ap (λ b. cond b (Err BankShort) (ledger_answer h v F.limit l m)) (le-ltb (length bank) v long)

      -- the box once a note was answered so
      abbrev after : Result (Unit {0}) Refusal → VerifierState K
      after a = record { standing = kept_or a (ledger_standing h v l) (entered (ledger_standing h v l) m); point = r; bank = kept_or a bank (added_column F h v r bank m) }

      after_stands : (a : Result (Unit {0}) Refusal) → ledger_answer h v F.limit l m ≡ a → Stands F h v r rest (ledger_enter a l m) (after a)
      after_stands (Err x) e = record { bank = bank; is = refl; allowed = allowed; long = long; right = right; behind = behind; kept = kept }
      after_stands (Ok u) e =
          let accepted = move_accepted h v F.limit l.weight m u e in
          let some = allowed_grid h v allowed in
          let inside : column_of v m.cell < v = mod-lt m.cell (omega arith) in
          let at = abs_at l.counts m.cell in
          let small = limit_small L in
          let share = move_share F h v r m in
          record {
            bank = added_column F h v r bank m;
            is = refl;
            allowed = allowed;
            long = omega (arith, length-set bank (column_of v m.cell) (F.add (get_or bank (column_of v m.cell) F.zero) share));
            right =
                take-set-lt v bank (column_of v m.cell) _ inside
                ∙ ap₂ (λ cs c. set cs (column_of v m.cell) (F.add c share)) right (sym (get_or-take v bank (column_of v m.cell) F.zero inside) ∙ ap (λ cs. get_or cs (column_of v m.cell) F.zero) right)
                ∙ sym (columns_move L h v l.counts m.cell m.amount r kept.size (omega arith) accepted.inside (omega arith) (omega arith) (omega (arith, abs-add (get_or l.counts m.cell (pos 0)) m.amount)));
            behind = drop-set-lt v bank (column_of v m.cell) _ inside ∙ behind;
            kept = rw e at (kept_next h v F.limit l m kept);
          }

    module _ (rest : List K) (l : Ledger) (s : VerifierState K) (m : Move) (k : Stands F h v r rest l s) where
      pub note_answer_lem : verifier_note_answer F s.standing s.bank m ≡ ledger_answer h v F.limit l m
      note_answer_lem = ap (λ z. verifier_note_answer F z.standing z.bank m) k.is ∙ answer_is rest l m k.bank k.allowed k.long k.right k.behind k.kept

      pub note_stands : Stands F h v r rest (ledger_next h v F.limit l m) (verifier_noted F s m)
      note_stands =
          subst (λ z. Stands F h v r rest (ledger_next h v F.limit l m) (verifier_noted F z m)) (sym k.is)
          (subst (λ a. Stands F h v r rest (ledger_next h v F.limit l m) (after rest l m k.bank k.allowed k.long k.right k.behind k.kept a)) (sym (answer_is rest l m k.bank k.allowed k.long k.right k.behind k.kept))
          (after_stands rest l m k.bank k.allowed k.long k.right k.behind k.kept (ledger_answer h v F.limit l m) refl))

    -- along a list of notes
    pub all_answers : (rest : List K) (l : Ledger) (s : VerifierState K) (ms : List Move) → Stands F h v r rest l s → verifier_answers F s ms ≡ answers_from h v F.limit l ms
    all_answers rest l s [] k = refl
    all_answers rest l s (m ∷ ms) k =
        ap₂ ◌∷◌ (note_answer_lem rest l s m k) (all_answers rest (ledger_next h v F.limit l m) (verifier_noted F s m) ms (note_stands rest l s m k))

    pub all_stand : (rest : List K) (l : Ledger) (s : VerifierState K) (ms : List Move) → Stands F h v r rest l s → Stands F h v r rest (ledger_from h v F.limit l ms) (verifier_after F s ms)
    all_stand rest l s [] k = k
    all_stand rest l s (m ∷ ms) k = all_stand rest (ledger_next h v F.limit l m) (verifier_noted F s m) ms (note_stands rest l s m k)

  pub verifier_keeps_ledger : VerifierKeepsLedger F
  verifier_keeps_ledger h v r bank e ms =
      let start = opened_stands h v r bank tt e in
      let k = all_stand h v r (drop v bank) (ledger_start h v) (verifier_opened F h v r bank) ms start in
      record {
        answers = all_answers h v r (drop v bank) (ledger_start h v) (verifier_opened F h v r bank) ms start;
        standing = ap (λ z. z.standing) k.is;
        sums = ap (λ z. take v z.bank) k.is ∙ k.right;
        rest = ap (λ z. drop v z.bank) k.is ∙ k.behind;
      }
