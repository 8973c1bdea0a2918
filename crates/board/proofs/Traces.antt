-- Refused moves leave no trace in the ledger. Assumes nothing.
use Rattle.std.proofs.Common.{◌≡◌, ℕ, List, [], ◌∷◌, Ok, Err, Result, sym, refl, ap, ◌∙◌}
use Rattle.board.specs.declared.moves.Move.{Move}
use Rattle.refusal.specs.declared.refusal.Refusal.{Refusal}
use Rattle.board.specs.Ledger.{Ledger, ledger_start, ledger_enter, ledger_answer, ledger_next, ledger_from, accepted_if, accepted_from, NoTrace}

module _ (h v W : ℕ) where
  from_accepted : (l : Ledger) (ms : List Move) → ledger_from h v W l (accepted_from h v W l ms) ≡ ledger_from h v W l ms
  from_accepted l [] = refl
  from_accepted l (m ∷ ms) = go (ledger_answer h v W l m) refl (from_accepted (ledger_next h v W l m) ms)
    where
      rest : List Move
      rest = accepted_from h v W (ledger_next h v W l m) ms

      go : (a : Result (Unit {0}) Refusal) → ledger_answer h v W l m ≡ a → ledger_from h v W (ledger_next h v W l m) rest ≡ ledger_from h v W (ledger_next h v W l m) ms
          → ledger_from h v W l (accepted_if h v W a m rest) ≡ ledger_from h v W (ledger_next h v W l m) ms
      go (Ok u) e r = r
      go (Err x) e r = ap (λ z. ledger_from h v W z rest) (sym (ap (λ a. ledger_enter a l m) e)) ∙ r

pub no_trace : NoTrace
no_trace h v W ms = from_accepted h v W (ledger_start h v) ms
