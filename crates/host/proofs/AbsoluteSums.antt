-- Absolute counts, added. Assumes nothing.
use Rattle.std.proofs.Common.{◌≡◌, ◌+◌, List, [], ◌∷◌, ℤ, nat_abs, sum_by, sym, refl, ap, ◌∙◌}
use Rattle.std.proofs.lemmas.List.Sums.{sum_by-cons}
use Rattle.board.specs.Ledger.{abs_sum}

pub abs_sum-is_sum : (fs : List ℤ) → abs_sum fs ≡ sum_by nat_abs fs
abs_sum-is_sum [] = refl
abs_sum-is_sum (f ∷ fs) = ap (λ n. nat_abs f + n) (abs_sum-is_sum fs) ∙ sym (sum_by-cons nat_abs f fs)
