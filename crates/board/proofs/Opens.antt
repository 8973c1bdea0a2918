-- What a granted open says of the grid and the bank, and what the bank then holds. Assumes nothing.
use Rattle.std.proofs.Common.{IfOk, ◌≡◌, ℕ, ◌≤◌, Bool, true, false, leb, List, length, take, drop, replicate, Ok, refl, ap, ◌∙◌, subst, arith, length-append, length-drop, leb-true}
use lib.ListN.{length-replicate}
use lib.Seq.{take-append_seam, drop-append_seam}
use Rattle.board.specs.Banks.{filled}
use Rattle.board.specs.Answers.{kept_or}
use Rattle.board.specs.Books.{open_answer, open_bank}
use Rattle.board.specs.Grids.{grid_allowed}

-- a granted open: the grid is allowed, and there are cells enough
pub record OpenGranted {A : Type 0} (h v n : ℕ) (bank : List A) : Type 0 where
  pub allowed : grid_allowed h v ≡ true
  pub long : n ≤ length bank

module _ {A : Type 0} (h v n : ℕ) (bank : List A) where
  pub open_granted : (u : Unit {0}) → open_answer h v n bank ≡ Ok u → OpenGranted h v n bank
  open_granted u e = subst (λ r. IfOk r (λ _. OpenGranted h v n bank)) e (cases (grid_allowed h v) (leb n (length bank)) refl refl)
    where
      cases : (a b : Bool) → grid_allowed h v ≡ a → leb n (length bank) ≡ b → IfOk (open_answer h v n bank) (λ _. OpenGranted h v n bank)
      cases false b p q = rw p tt
      cases true false p q = rw (p, q) tt
      cases true true p q = rw (p, q) (record { allowed = p; long = leb-true _ _ q })

  -- the bank after a granted open
  pub opened_bank : (x : A) (u : Unit {0}) → open_answer h v n bank ≡ Ok u → open_bank h v n x bank ≡ filled n x bank
  opened_bank x u e = ap (λ a. kept_or a bank (filled n x bank)) e

pub length_filled : {A : Type 0} (n : ℕ) (x : A) (cells : List A) → n ≤ length cells → length (filled n x cells) ≡ length cells
length_filled n x cells h = length-append (replicate n x) (drop n cells) ∙ simp (length-replicate, length-drop) (omega arith)

pub take_filled : {A : Type 0} (n : ℕ) (x : A) (cells : List A) → take n (filled n x cells) ≡ replicate n x
take_filled n x cells = subst (λ k. take k (filled n x cells) ≡ replicate n x) (length-replicate n x) (take-append_seam (replicate n x) (drop n cells))

pub drop_filled : {A : Type 0} (n : ℕ) (x : A) (cells : List A) → drop n (filled n x cells) ≡ drop n cells
drop_filled n x cells = subst (λ k. drop k (filled n x cells) ≡ drop n cells) (length-replicate n x) (drop-append_seam (replicate n x) (drop n cells))
