-- A host stands as its ledger does: its standing is the ledger's, and its bank begins with the ledger's counts. Assumes nothing.
use Rattle.std.proofs.Common.{◌≡◌, ℕ, ◌*◌, ◌<◌, ◌≤◌, true, cond, List, [], ◌∷◌, length, get_or, take, drop, set, ℤ, pos, ◌+ℤ◌, Ok, Err, Result, sym, refl, ap, ◌∙◌, subst, ap₂, arith, length-set, get_or-take, drop-set-lt, le-ltb, le-leb}
use lib.Seq.{take-set-lt}
use Rattle.board.specs.declared.moves.Move.{Move}
use Rattle.refusal.specs.declared.refusal.Refusal.{Refusal}
use Rattle.refusal.specs.declared.refusal.Refusal.TheVariants.{BankShort, CountOutside}
use Rattle.board.specs.Answers.{kept_or}
use Rattle.board.specs.Books.{ledger_standing, entered}
use Rattle.board.specs.Grids.{grid_allowed}
use Rattle.board.specs.Ledger.{Ledger, ledger_start, ledger_enter, ledger_answer, ledger_next, ledger_from, answers_from, added_count}
use Rattle.board.proofs.Ledgers.{Kept, kept_start, kept_next, move_accepted, abs_at}
use Rattle.board.proofs.Opens.{open_granted, opened_bank, length_filled, take_filled, drop_filled}
use Rattle.host.specs.Calls.{host_open_answer, host_open_bank, count_answer, host_note_answer}
use Rattle.host.specs.Notes.{HostState, host_opened, host_noted, host_after, host_answers, HostKeepsLedger}

-- a host on h rows and v columns whose ledger is l, over a bank whose cells behind the board's are `rest`
pub record Stands (W h v : ℕ) (rest : List ℤ) (l : Ledger) (s : HostState) : Type 0 where
  pub bank : List ℤ
  pub is : s ≡ record { standing = ledger_standing h v l; bank = bank }
  pub allowed : grid_allowed h v ≡ true
  pub long : h * v ≤ length bank
  pub right : take (h * v) bank ≡ l.counts
  pub behind : drop (h * v) bank ≡ rest
  pub kept : Kept h v W l

module _ (W h v : ℕ) where
  -- a host that was just opened
  pub opened_stands : (bank : List ℤ) (u : Unit {0}) → host_open_answer h v bank ≡ Ok u → Stands W h v (drop (h * v) bank) (ledger_start h v) (host_opened h v bank)
  opened_stands bank u e =
      let granted = open_granted h v (h * v) bank u e in
      let is = opened_bank h v (h * v) bank (pos 0) u e in
      record {
        bank = host_open_bank h v bank;
        is = refl;
        allowed = granted.allowed;
        long = omega (arith, ap length is, length_filled (h * v) (pos 0) bank granted.long, granted.long);
        right = ap (take (h * v)) is ∙ take_filled (h * v) (pos 0) bank;
        behind = ap (drop (h * v)) is ∙ drop_filled (h * v) (pos 0) bank;
        kept = kept_start h v W;
      }

  module _ (rest : List ℤ) (l : Ledger) (m : Move) (bank : List ℤ) (long : h * v ≤ length bank) (right : take (h * v) bank ≡ l.counts) (behind : drop (h * v) bank ≡ rest) (kept : Kept h v W l) where
    count_at : m.cell < h * v → get_or bank m.cell (pos 0) ≡ get_or l.counts m.cell (pos 0)
    count_at b = sym (get_or-take (h * v) bank m.cell (pos 0) b) ∙ ap (λ fs. get_or fs m.cell (pos 0)) right

    -- the count never is beyond the limit
    count_answer_lem : (a : Result (Unit {0}) Refusal) → ledger_answer h v W l m ≡ a → count_answer W a bank m ≡ a
    count_answer_lem (Err r) e = refl
    count_answer_lem (Ok u) e =
        let accepted = move_accepted h v W l.weight m u e in
        let at = abs_at l.counts m.cell in
        ap (λ b. cond b (Ok u) (Err CountOutside)) (le-leb _ W (rw (count_at accepted.inside) (omega arith)))

    -- a note is answered as the ledger answers it
    answer_is : host_note_answer W (ledger_standing h v l) bank m ≡ ledger_answer h v W l m
    answer_is =
        ap (λ b. cond b (Err BankShort) (count_answer W (ledger_answer h v W l m) bank m)) (le-ltb (length bank) (h * v) long)
        ∙ count_answer_lem (ledger_answer h v W l m) refl

    -- the host once a note was answered so
    abbrev after : Result (Unit {0}) Refusal → HostState
    after a = record { standing = kept_or a (ledger_standing h v l) (entered (ledger_standing h v l) m); bank = kept_or a bank (added_count bank m) }

    after_stands : grid_allowed h v ≡ true → (a : Result (Unit {0}) Refusal) → ledger_answer h v W l m ≡ a → Stands W h v rest (ledger_enter a l m) (after a)
    after_stands allowed (Err r) e = record { bank = bank; is = refl; allowed = allowed; long = long; right = right; behind = behind; kept = kept }
    after_stands allowed (Ok u) e =
        let accepted = move_accepted h v W l.weight m u e in
        record {
          bank = added_count bank m;
          is = refl;
          allowed = allowed;
          long = omega (arith, length-set bank m.cell (get_or bank m.cell (pos 0) +ℤ m.amount));
          right = take-set-lt (h * v) bank m.cell _ accepted.inside ∙ ap₂ (λ fs n. set fs m.cell (n +ℤ m.amount)) right (count_at accepted.inside);
          behind = drop-set-lt (h * v) bank m.cell _ accepted.inside ∙ behind;
          kept = rw e at (kept_next h v W l m kept);
        }

  module _ (rest : List ℤ) (l : Ledger) (s : HostState) (m : Move) (k : Stands W h v rest l s) where
    pub note_answer_lem : host_note_answer W s.standing s.bank m ≡ ledger_answer h v W l m
    note_answer_lem = ap (λ z. host_note_answer W z.standing z.bank m) k.is ∙ answer_is rest l m k.bank k.long k.right k.behind k.kept

    pub note_stands : Stands W h v rest (ledger_next h v W l m) (host_noted W s m)
    note_stands =
        subst (λ z. Stands W h v rest (ledger_next h v W l m) (host_noted W z m)) (sym k.is)
        (subst (λ a. Stands W h v rest (ledger_next h v W l m) (after rest l m k.bank k.long k.right k.behind k.kept a)) (sym (answer_is rest l m k.bank k.long k.right k.behind k.kept))
        (after_stands rest l m k.bank k.long k.right k.behind k.kept k.allowed (ledger_answer h v W l m) refl))

  -- along a list of notes
  pub all_answers : (rest : List ℤ) (l : Ledger) (s : HostState) (ms : List Move) → Stands W h v rest l s → host_answers W s ms ≡ answers_from h v W l ms
  all_answers rest l s [] k = refl
  all_answers rest l s (m ∷ ms) k = ap₂ ◌∷◌ (note_answer_lem rest l s m k) (all_answers rest (ledger_next h v W l m) (host_noted W s m) ms (note_stands rest l s m k))

  pub all_stand : (rest : List ℤ) (l : Ledger) (s : HostState) (ms : List Move) → Stands W h v rest l s → Stands W h v rest (ledger_from h v W l ms) (host_after W s ms)
  all_stand rest l s [] k = k
  all_stand rest l s (m ∷ ms) k = all_stand rest (ledger_next h v W l m) (host_noted W s m) ms (note_stands rest l s m k)

pub host_keeps_ledger : HostKeepsLedger
host_keeps_ledger W h v bank e ms =
    let start = opened_stands W h v bank tt e in
    let k = all_stand W h v (drop (h * v) bank) (ledger_start h v) (host_opened h v bank) ms start in
    record {
      answers = all_answers W h v (drop (h * v) bank) (ledger_start h v) (host_opened h v bank) ms start;
      standing = ap (λ z. z.standing) k.is;
      counts = ap (λ z. take (h * v) z.bank) k.is ∙ k.right;
      rest = ap (λ z. drop (h * v) z.bank) k.is ∙ k.behind;
    }
