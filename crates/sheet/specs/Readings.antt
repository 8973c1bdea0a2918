-- What reading a sheet gives, and what reading it into a tray answers and leaves there. Assumes nothing.
use Rattle.std.specs.Prelude.{◌≡◌, ℕ, suc, cond, List, [], ◌∷◌, ◌++◌, map, length, drop, ℤ, pos, Ok, Err, Result, nat_lt, slice_index_or, unsigned_abs}
use Rattle.field.specs.Field.{FieldModel}
use Rattle.board.specs.Banks.{filled}
use Rattle.refusal.specs.declared.refusal.Refusal.{Refusal}
use Rattle.refusal.specs.declared.refusal.Refusal.TheVariants.{TrayShort}
use Rattle.text.specs.Forms.{form_reading}
use Rattle.sheet.specs.declared.terms.Terms.{Terms}
use Rattle.sheet.specs.Lines.{sheet_lines}

-- the numbers of the value lines, two by two
abbrev pub paired : List ℤ → List (ℕ × ℕ)
paired [] = []
paired (low ∷ []) = []
paired (low ∷ high ∷ zs) = (unsigned_abs low, unsigned_abs high) ∷ paired zs

-- of the numbers that a sheet states, the first is the claim and the others are the parts
abbrev pub concluded : Result (List ℤ) Refusal → Result (ℤ × List (ℕ × ℕ)) Refusal
concluded (Ok zs) = Ok (slice_index_or zs 0 (pos 0), paired (drop 1 zs))
concluded (Err r) = Err r

module _ {K : Type 0} (F : FieldModel K) where
  -- the claim that a sheet states and the parts of its values, or the first fault
  abbrev pub parsed : Terms → List ℕ → Result (ℤ × List (ℕ × ℕ)) Refusal
  parsed t bs = concluded (form_reading (sheet_lines F t) bs)

  -- the elements with these parts
  abbrev pub elements : List (ℕ × ℕ) → List K
  elements ps = map (λ v. F.make v.0 v.1) ps

  -- a claim with the parts of values, as elements
  abbrev pub valued : Result (ℤ × List (ℕ × ℕ)) Refusal → Result (ℤ × List K) Refusal
  valued (Ok r) = Ok (r.0, elements r.1)
  valued (Err r) = Err r

  -- the claim that a sheet states and its values, or the first fault
  abbrev pub reading : Terms → List ℕ → Result (ℤ × List K) Refusal
  reading t bs = valued (parsed t bs)

  -- the claim of a reading
  abbrev pub claim_of : Result (ℤ × List K) Refusal → Result ℤ Refusal
  claim_of (Ok r) = Ok r.0
  claim_of (Err r) = Err r

  -- a tray after a reading into its first n elements: the values there, or zeros after a fault
  abbrev pub tray_of : ℕ → Result (ℤ × List K) Refusal → List K → List K
  tray_of n (Ok r) tray = r.1 ++ drop n tray
  tray_of n (Err r) tray = filled n F.zero tray

  -- the values of a reading stand in the first n elements, or anything after a fault, and the others are as they were
  abbrev pub Filled : ℕ → Result (ℤ × List K) Refusal → List K → List K → Type 0
  Filled n (Ok r) before after = after ≡ r.1 ++ drop n before
  Filled n (Err r) before after = drop n after ≡ drop n before

  -- what reading a sheet into a tray answers: 21 unless the tray has degree + 1 elements, else the claim or the first fault
  abbrev pub read_answer : Terms → List ℕ → List K → Result ℤ Refusal
  read_answer t bs tray = cond (nat_lt t.degree (length tray)) (claim_of (reading t bs)) (Err TrayShort)

  -- and what it leaves in the tray: a short one is as it was
  abbrev pub tray_after : Terms → List ℕ → List K → List K
  tray_after t bs tray = cond (nat_lt t.degree (length tray)) (tray_of (suc t.degree) (reading t bs) tray) tray
