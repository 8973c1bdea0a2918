-- Fields and polynomials: the residues modulo 65,537, their quadratic extension, and polynomials through given values. Assumes nothing.
use Rattle.std.specs.Prelude.{◌≡◌, ℕ, true, false, List, [], ◌∷◌, map, pos, negsuc, Some, None, option_map}
use Rattle.field.specs.Field.{element, same, inverse}
use Rattle.prime.specs.declared.residue.Residue.{Residue}
use Rattle.prime.specs.Residues.{value_of}
use Rattle.extension.specs.declared.extension.Extension.{Extension}
use Rattle.extension.specs.Pairs.{pair}
use Rattle.polynomial.specs.Interpolation.{node, interpolant}
use Rattle.polynomial.specs.Polynomials.{sub, eval, scaled, poly_add, poly_mul}
use Rattle.worked.specs.Board.{residues, extended, t, nodes, values}

-- the residue of a number
abbrev pub whole : ℕ → Residue 65537
whole k = node residues k

-- a + b t
abbrev pub with_t : ℕ → ℕ → Extension (Residue 65537)
with_t a b = pair (node residues a) (node residues b)

-- a and b of such an element
abbrev pub both_parts : Extension (Residue 65537) → ℕ × ℕ
both_parts x = (extended.low x, extended.high x)

-- arithmetic
pub record FieldCases : Type 0 where
  -- the constants
  pub characteristic : residues.characteristic ≡ 65537
  pub degree : residues.degree ≡ 1
  pub limit : residues.limit ≡ 256
  pub extended_characteristic : extended.characteristic ≡ 65537
  pub extended_degree : extended.degree ≡ 2
  pub extended_limit : extended.limit ≡ 256
  -- residues
  pub sum : value_of (residues.add (whole 65536) (whole 5)) ≡ 4
  pub opposite : value_of (residues.neg (whole 5)) ≡ 65532
  pub opposite_of_0 : value_of (residues.neg (whole 0)) ≡ 0
  pub difference : value_of (sub residues (whole 2) (whole 5)) ≡ 65534
  pub product : value_of (residues.mul (whole 300) (whole 300)) ≡ 24463
  pub inverse_of_2 : option_map value_of (inverse residues (whole 2)) ≡ Some 32769
  pub inverse_of_3 : option_map value_of (inverse residues (whole 3)) ≡ Some 21846
  pub inverse_of_less_1 : option_map value_of (inverse residues (whole 65536)) ≡ Some 65536
  pub inverse_of_0 : option_map value_of (inverse residues (whole 0)) ≡ None
  -- images of whole numbers
  pub images : values (map residues.image (pos 0 ∷ pos 1 ∷ pos 65537 ∷ pos 131079 ∷ negsuc 0 ∷ negsuc 65535 ∷ negsuc 65536 ∷ negsuc 65537 ∷ [])) ≡ 0 ∷ 1 ∷ 0 ∷ 5 ∷ 65536 ∷ 1 ∷ 0 ∷ 65536 ∷ []
  -- parts: from 0 to 65,536, and 0 alone for a high part
  pub parts : map residues.low (whole 5 ∷ whole 65536 ∷ []) ≡ 5 ∷ 65536 ∷ []
  pub high_parts : map residues.high (whole 5 ∷ whole 65536 ∷ []) ≡ 0 ∷ 0 ∷ []
  pub element_65536 : option_map value_of (element residues 65536 0) ≡ Some 65536
  pub element_65537 : option_map value_of (element residues 65537 0) ≡ None
  pub element_with_high_part : option_map value_of (element residues 5 1) ≡ None
  pub same_5 : same residues (whole 5) (whole 5) ≡ true
  pub not_same_6 : same residues (whole 5) (whole 6) ≡ false
  -- the extension, in which t × t = 3
  pub t_squared : both_parts (extended.mul t t) ≡ (3, 0)
  pub extended_sum : both_parts (extended.add (with_t 2 65536) (with_t 65536 5)) ≡ (1, 4)
  pub extended_opposite : both_parts (extended.neg (with_t 2 0)) ≡ (65535, 0)
  pub extended_product : both_parts (extended.mul (with_t 2 1) (with_t 5 3)) ≡ (19, 11)
  pub inverse_of_t : option_map both_parts (inverse extended t) ≡ Some (0, 21846)
  pub inverse_of_1_and_t : option_map both_parts (inverse extended (with_t 1 1)) ≡ Some (32768, 32769)
  pub extended_inverse_of_0 : option_map both_parts (inverse extended (with_t 0 0)) ≡ None
  pub extended_image : both_parts (extended.image (negsuc 0)) ≡ (65536, 0)
  pub extended_low : extended.low (with_t 7 9) ≡ 7
  pub extended_high : extended.high (with_t 7 9) ≡ 9
  pub extended_element : option_map both_parts (element extended 65535 65536) ≡ Some (65535, 65536)
  pub extended_low_65537 : option_map both_parts (element extended 65537 0) ≡ None
  pub extended_high_65537 : option_map both_parts (element extended 0 65537) ≡ None
  pub not_same_high : same extended (with_t 5 1) (with_t 5 2) ≡ false
  pub not_same_low : same extended (with_t 5 1) (with_t 6 1) ≡ false
  -- polynomials by their coefficients, the constant one first
  pub value_at_5 : value_of (eval residues (nodes (9 ∷ 65525 ∷ 8 ∷ [])) (whole 5)) ≡ 149
  pub value_of_none : value_of (eval residues [] (whole 5)) ≡ 0
  pub polynomials_added : values (poly_add residues (nodes (1 ∷ 2 ∷ [])) (nodes (3 ∷ 65535 ∷ 7 ∷ []))) ≡ 4 ∷ 0 ∷ 7 ∷ []
  pub polynomial_scaled : values (scaled residues (whole 2) (nodes (1 ∷ 65536 ∷ []))) ≡ 2 ∷ 65535 ∷ []
  pub polynomials_multiplied : values (poly_mul residues (nodes (1 ∷ 2 ∷ [])) (nodes (3 ∷ 1 ∷ []))) ≡ 3 ∷ 7 ∷ 2 ∷ []
  -- through 9, 5 and 17 goes 9 − 12 X + 8 X X, and through the one value 5 the constant 5
  pub through_three : values (interpolant residues (nodes (9 ∷ 5 ∷ 17 ∷ []))) ≡ 9 ∷ 65525 ∷ 8 ∷ []
  pub through_one : values (interpolant residues (nodes (5 ∷ []))) ≡ 5 ∷ []
