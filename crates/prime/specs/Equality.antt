-- Residues of one value are equal. Assumes nothing.
use Rattle.std.specs.Prelude.{◌≡◌, ℕ, ◌<◌}
use Rattle.std.proofs.Common.{ap, subst}
use Rattle.std.proofs.Math.Bridge.{le_prop}
use Rattle.prime.specs.declared.residue.Residue.{Residue}

abbrev made : {P : ℕ} (n : ℕ) → n < P → Residue P
made n h = record { value = n; small = h }

at : {P : ℕ} (a b : ℕ) → a ≡ b → (p : a < P) (q : b < P) → made a p ≡ made b q
at {P} a b e = subst (λ (z : ℕ). (p : a < P) (q : z < P) → made a p ≡ made z q) e (λ p q. ap (made a) (le_prop p q))

pub residue_path : {P : ℕ} {x y : Residue P} → x.value ≡ y.value → x ≡ y
residue_path {P} {x} {y} e = at x.value y.value e x.small y.small
