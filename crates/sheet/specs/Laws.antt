-- What reading has to do with sheets. Assumes nothing.
use Rattle.std.specs.Prelude.{◌≡◌, ℕ, List, ℤ, Ok, Err}
use Rattle.field.specs.Field.{FieldModel}
use Rattle.refusal.specs.declared.fault.Fault.{Fault}
use Rattle.refusal.specs.declared.refusal.Refusal.{Refusal}
use Rattle.refusal.specs.declared.refusal.Refusal.TheVariants as refusal
use Rattle.sheet.specs.declared.terms.Terms.{Terms}
use Rattle.sheet.specs.Readings.{reading}
use Rattle.sheet.specs.Sheets.{Sheet, Allowed, FirstFault}

module _ {K : Type 0} (F : FieldModel K) where
  -- reading gives a claim and values exactly where the bytes are a sheet that states them
  abbrev pub ReadsSheets : Type 0
  ReadsSheets =
      (t : Terms) (bs : List ℕ) (c : ℤ) (xs : List K)
      → (reading F t bs ≡ Ok (c, xs) → Sheet F t c xs bs) × (Sheet F t c xs bs → reading F t bs ≡ Ok (c, xs))

  -- whatever the terms, a reading gives a claim between the limits, and degree + 1 values made of parts
  abbrev pub ReadsAllowed : Type 0
  ReadsAllowed = (t : Terms) (bs : List ℕ) (c : ℤ) (xs : List K) → reading F t bs ≡ Ok (c, xs) → Allowed F t c xs

  -- reading tells a fault with a line and a place exactly where it is the sheet's first
  abbrev pub TellsFirst : Type 0
  TellsFirst =
      (t : Terms) (bs : List ℕ) (f : Fault) (l p : ℕ)
      → (reading F t bs ≡ Err (refusal.Sheet f l p) → FirstFault F t bs f l p) × (FirstFault F t bs f l p → reading F t bs ≡ Err (refusal.Sheet f l p))

  -- reading refuses with nothing but a fault of the sheet
  abbrev pub RefusesSheets : Type 0
  RefusesSheets = (t : Terms) (bs : List ℕ) (r : Refusal) → reading F t bs ≡ Err r → (f : Fault) × (l : ℕ) × (p : ℕ) × (r ≡ refusal.Sheet f l p)
