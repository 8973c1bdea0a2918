-- The four named fields by their numbers. Assumes nothing.
use Rattle.std.specs.Prelude.{ℕ, Bool, ◌&&◌, ◌||◌, ◌==◌}
use Rattle.fields.specs.declared.named.NamedField.{NamedField}
use Rattle.fields.specs.declared.named.NamedField.TheVariants.{Mod65537, Mod65537x2, Mersenne31, Mersenne31x2}

-- the characteristic p
abbrev pub characteristic_of : NamedField → ℕ
characteristic_of Mod65537 = 65537
characteristic_of Mod65537x2 = 65537
characteristic_of Mersenne31 = 2147483647
characteristic_of Mersenne31x2 = 2147483647

-- the degree e
abbrev pub degree_of : NamedField → ℕ
degree_of Mod65537 = 1
degree_of Mod65537x2 = 2
degree_of Mersenne31 = 1
degree_of Mersenne31x2 = 2

-- the limit W of weights
abbrev pub limit_of : NamedField → ℕ
limit_of Mod65537 = 256
limit_of Mod65537x2 = 256
limit_of Mersenne31 = 46340
limit_of Mersenne31x2 = 46340

-- what t × t is in the extension, for the field and for its extension
abbrev pub non_square_of : NamedField → ℕ
non_square_of Mod65537 = 3
non_square_of Mod65537x2 = 3
non_square_of Mersenne31 = 2147483646
non_square_of Mersenne31x2 = 2147483646

-- whether a named field has the characteristic p and the degree e
abbrev pub is_named : ℕ → ℕ → Bool
is_named p e = (p == 65537 || p == 2147483647) && (e == 1 || e == 2)
