-- A test that no number below n passes, computed number by number. Assumes nothing.
use Rattle.std.specs.Prelude.{ℕ, zero, suc, ◌<◌, Bool, true, false, not, ◌&&◌, T}
use Rattle.std.proofs.Common.{subst, ⊎_elim, eq-or-lt_of_le, not-suc-le-zero, arith}
use Rattle.std.specs.Float.Ieee.Fits.{and_l, and_r}

-- none of the numbers below n passes; `so_far` says that none from n on did
abbrev pub nowhere : (ℕ → Bool) → ℕ → Bool → Bool
nowhere test zero so_far = so_far
nowhere test (suc n) so_far = nowhere test n (so_far && not (test n))

earlier : (test : ℕ → Bool) (n : ℕ) (so_far : Bool) → T (nowhere test n so_far) → T so_far
earlier test zero so_far t = t
earlier test (suc n) so_far t = and_l so_far (not (test n)) (earlier test n (so_far && not (test n)) t)

refuted : (b : Bool) → T (not b) → T b → ⊥
refuted true n t = n
refuted false n t = t

pub nowhere_below : (test : ℕ → Bool) (n : ℕ) (so_far : Bool) → T (nowhere test n so_far) → (k : ℕ) → k < n → T (test k) → ⊥
nowhere_below test zero so_far t k h passes = not-suc-le-zero h
nowhere_below test (suc n) so_far t k h passes =
    ⊎_elim
    (λ e. refuted (test n) (and_r so_far (not (test n)) (earlier test n (so_far && not (test n)) t)) (subst (λ (i : ℕ). T (test i)) e passes))
    (λ l. nowhere_below test n (so_far && not (test n)) t k l passes)
    (eq-or-lt_of_le {n = k} {m = n} (omega arith))
