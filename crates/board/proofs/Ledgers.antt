-- What the ledger keeps: its counts are as many as the cells, and their absolute values come to the weight at most. Assumes nothing.
use Rattle.std.proofs.Common.{IfOk, ◌≡◌, ℕ, zero, suc, ◌+◌, ◌*◌, ◌<◌, ◌≤◌, Bool, true, false, ltb, leb, List, [], ◌∷◌, ◌++◌, length, get_or, set, replicate, ℤ, pos, ◌+ℤ◌, nat_abs, Ok, Err, Result, refl, ◌∙◌, subst, arith, length-set, ltb-true, leb-true}
use lib.ListN.{length-replicate}
use Rattle.std.proofs.lemmas.Int.{ints}
use Rattle.board.specs.declared.moves.Move.{Move}
use Rattle.refusal.specs.declared.refusal.Refusal.{Refusal}
use Rattle.board.specs.Ledger.{move_answer, abs_sum, Ledger, ledger_start, ledger_enter, ledger_answer, ledger_next, ledger_from, ledger}

-- what an accepted move keeps to
pub record Accepted (h v W w : ℕ) (m : Move) : Type 0 where
  pub inside : m.cell < h * v
  pub amount_least : 1 ≤ nat_abs m.amount
  pub amount_most : nat_abs m.amount ≤ 256
  pub light : w + nat_abs m.amount ≤ W

pub move_accepted : (h v W w : ℕ) (m : Move) (u : Unit {0}) → move_answer h v W w m ≡ Ok u → Accepted h v W w m
move_accepted h v W w m u e = subst (λ r. IfOk r (λ _. Accepted h v W w m)) e (cases (ltb m.cell (h * v)) (leb 1 (nat_abs m.amount)) (leb (nat_abs m.amount) 256) (leb (w + nat_abs m.amount) W) refl refl refl refl)
  where
    cases : (a b c d : Bool) → ltb m.cell (h * v) ≡ a → leb 1 (nat_abs m.amount) ≡ b → leb (nat_abs m.amount) 256 ≡ c → leb (w + nat_abs m.amount) W ≡ d → IfOk (move_answer h v W w m) (λ _. Accepted h v W w m)
    cases false b c d p q r s = rw p tt
    cases true false c d p q r s = rw (p, q) tt
    cases true true false d p q r s = rw (p, q, r) tt
    cases true true true false p q r s = rw (p, q, r, s) tt
    cases true true true true p q r s = rw (p, q, r, s) (record { inside = ltb-true _ _ p; amount_least = leb-true _ _ q; amount_most = leb-true _ _ r; light = leb-true _ _ s })

-- absolute values
pub abs-add : (a b : ℤ) → nat_abs (a +ℤ b) ≤ nat_abs a + nat_abs b
abs-add a b = omega (arith, ints)

pub abs-set : (fs : List ℤ) (i : ℕ) (a : ℤ) → abs_sum (set fs i (get_or fs i (pos 0) +ℤ a)) ≤ abs_sum fs + nat_abs a
abs-set [] i a = omega arith
abs-set (f ∷ fs) zero a = omega (arith, abs-add f a)
abs-set (f ∷ fs) (suc i) a = omega (arith, abs-set fs i a)

pub abs_zeros : (n : ℕ) → abs_sum (replicate n (pos 0)) ≡ 0
abs_zeros zero = refl
abs_zeros (suc n) = omega (arith, abs_zeros n)

pub abs_at : (fs : List ℤ) (i : ℕ) → nat_abs (get_or fs i (pos 0)) ≤ abs_sum fs
abs_at [] i = omega arith
abs_at (f ∷ fs) zero = omega arith
abs_at (f ∷ fs) (suc i) = omega (arith, abs_at fs i)

module _ (h v W : ℕ) where
  -- what a ledger keeps at all times
  pub record Kept (l : Ledger) : Type 0 where
    pub size : length l.counts ≡ h * v
    pub light : abs_sum l.counts ≤ l.weight
    pub limited : l.weight ≤ W
    pub few : l.number ≤ l.weight

  pub kept_start : Kept (ledger_start h v)
  kept_start = record { size = length-replicate (h * v) (pos 0); light = omega (arith, abs_zeros (h * v)); limited = omega arith; few = omega arith }

  pub kept_next : (l : Ledger) (m : Move) → Kept l → Kept (ledger_next h v W l m)
  kept_next l m k = go (ledger_answer h v W l m) refl
    where
      go : (a : Result (Unit {0}) Refusal) → ledger_answer h v W l m ≡ a → Kept (ledger_enter a l m)
      go (Ok u) e =
          let g = move_accepted h v W l.weight m u e in
          record {
            size = length-set l.counts m.cell _ ∙ k.size;
            light = omega (arith, abs-set l.counts m.cell m.amount);
            limited = omega arith;
            few = omega arith;
          }
      go (Err r) e = k

  pub kept_from : (l : Ledger) (ms : List Move) → Kept l → Kept (ledger_from h v W l ms)
  kept_from l [] k = k
  kept_from l (m ∷ ms) k = kept_from (ledger_next h v W l m) ms (kept_next l m k)

  pub kept : (ms : List Move) → Kept (ledger h v W ms)
  kept ms = kept_from (ledger_start h v) ms kept_start

  pub ledger_append : (l : Ledger) (ms ns : List Move) → ledger_from h v W l (ms ++ ns) ≡ ledger_from h v W (ledger_from h v W l ms) ns
  ledger_append l [] ns = refl
  ledger_append l (m ∷ ms) ns = ledger_append (ledger_next h v W l m) ms ns

pub abs-append : (fs gs : List ℤ) → abs_sum (fs ++ gs) ≡ abs_sum fs + abs_sum gs
abs-append [] gs = omega arith
abs-append (f ∷ fs) gs = omega (arith, abs-append fs gs)
