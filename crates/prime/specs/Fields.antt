-- The residues modulo such a number are a lawful field with a non-square, and 65,537 and 2,147,483,647 are such numbers. Assumes nothing.
use Rattle.std.specs.Prelude.{◌≡◌, ℕ, ◌*◌, ◌%◌, ◌<◌, ◌≢◌, refl}
use Rattle.std.proofs.Common.{ap, ◌∙◌, mod-eq_of_lt, lit<, lit≤}
use Rattle.field.specs.Field.{LawfulField, LawfulBase}
use Rattle.prime.specs.Modulus.{IsModulus}
use Rattle.prime.specs.Residues.{residue_of, times, inverted, prime_field}
use Rattle.prime.specs.declared.residue.Residue.{Residue}
use Rattle.prime.specs.Laws.{prime_lawful, table_inverse}
use Rattle.prime.specs.Primality.{prime_65537, prime_2147483647}
use Rattle.prime.specs.Squares.{three_65537, minus_one_2147483647}

pub lawful : {P W w : ℕ} (h : 0 < P) → IsModulus P W w → LawfulField (prime_field P h W)
lawful {P} {W} h m = prime_lawful P h W m.prime m.least m.most m.limit_least m.limit_most

-- a residue that n takes to 1 is the inverse of n's
pub inverse_by_table : {P W w : ℕ} (h : 0 < P) → IsModulus P W w → (n : ℕ) (y : Residue P) → (n * y.value) % P ≡ 1 → y ≡ inverted (residue_of P h (n % P))
inverse_by_table {P} {W} h m n y is = table_inverse P h W (lawful h m) n y is

-- no residue times itself is the one of w
pub not_square : {P W w : ℕ} → IsModulus P W w → (x : Residue P) {y : Residue P} → times x x ≡ y → y.value ≢ w
not_square m x e is = m.no_square x.value x.small (ap (λ y. y.value) e ∙ is)

pub base : {P W w : ℕ} (h : 0 < P) → IsModulus P W w → LawfulBase (prime_field P h W) (residue_of P h w)
base h m = record { plain = refl; no_square = λ x e. not_square m x e (mod-eq_of_lt m.reduced) }

pub modulus_65537 : IsModulus 65537 256 3
modulus_65537 = record {
  prime = prime_65537;
  least = lit≤ tt;
  most = lit≤ tt;
  limit_least = lit≤ tt;
  limit_most = lit< tt;
  reduced = lit< tt;
  no_square = three_65537;
}

pub modulus_2147483647 : IsModulus 2147483647 46340 2147483646
modulus_2147483647 = record {
  prime = prime_2147483647;
  least = lit≤ tt;
  most = lit≤ tt;
  limit_least = lit≤ tt;
  limit_most = lit< tt;
  reduced = lit< tt;
  no_square = λ n h. minus_one_2147483647 n;
}

pub lawful_65537 : LawfulField (prime_field 65537 (lit< tt) 256)
lawful_65537 = lawful (lit< tt) modulus_65537

pub lawful_2147483647 : LawfulField (prime_field 2147483647 (lit< tt) 46340)
lawful_2147483647 = lawful (lit< tt) modulus_2147483647

pub base_65537 : LawfulBase (prime_field 65537 (lit< tt) 256) (residue_of 65537 (lit< tt) 3)
base_65537 = base (lit< tt) modulus_65537

pub base_2147483647 : LawfulBase (prime_field 2147483647 (lit< tt) 46340) (residue_of 2147483647 (lit< tt) 2147483646)
base_2147483647 = base (lit< tt) modulus_2147483647
