-- How large the tallies of goods and squares can be. Assumes nothing.
use Rattle.std.proofs.Common.{◌≡◌, ℕ, suc, ◌+◌, ◌*◌, ◌%◌, ◌≤◌, Bool, true, false, cond, eqb, List, [], ◌∷◌, ℤ, pos, negsuc, ◌+ℤ◌, ◌*ℤ◌, nat_abs, refl, ap₂, arith}
use Rattle.board.specs.Ledger.{abs_sum}
use Rattle.board.proofs.Ledgers.{abs-add}
use Rattle.season.specs.Goods.{goods_tally}
use Rattle.season.specs.Squares.{squares_tally}

-- ---- goods
pub cond-abs : (b : Bool) (f : ℤ) → nat_abs (cond b f (pos 0)) ≤ nat_abs f
cond-abs true f = omega arith
cond-abs false f = omega arith

pub goods_abs : (g j : ℕ) (fs : List ℤ) → nat_abs (goods_tally g j fs) ≤ abs_sum fs
goods_abs g j [] = omega arith
goods_abs g j (f ∷ fs) = omega (arith, abs-add (cond (eqb (j % 8) g) f (pos 0)) (goods_tally g (suc j) fs), goods_abs g (suc j) fs, cond-abs (eqb (j % 8) g) f)

-- ---- squares
-- the same sum, of natural numbers
unfoldable pub squares_sum : List ℤ → ℕ
squares_sum [] = 0
squares_sum (f ∷ fs) = nat_abs f * nat_abs f + squares_sum fs

pub square : (f : ℤ) → f *ℤ f ≡ pos (nat_abs f * nat_abs f)
square (pos a) = refl
square (negsuc a) = refl

pub squares_pos : (fs : List ℤ) → squares_tally fs ≡ pos (squares_sum fs)
unfolding squares_sum
squares_pos [] = refl
squares_pos (f ∷ fs) = ap₂ ◌+ℤ◌ (square f) (squares_pos fs)

pub squares_bound : (fs : List ℤ) → squares_sum fs ≤ abs_sum fs * abs_sum fs
unfolding squares_sum
squares_bound [] = omega arith
squares_bound (f ∷ fs) = omega (arith, squares_bound fs)
