-- Reading accepts just the sheets, tells what they state, and tells the first fault of what is none. Assumes nothing.
use Rattle.std.proofs.Common.{◌≡◌, ℕ, suc, ◌<◌, Bool, true, false, cond, ltb, List, [], ◌∷◌, ◌++◌, length, take, drop, ℤ, IfOk, Ok, Err, Result, sym, refl, ap, ◌∙◌, subst, arith}
use lib.ListN.{length-map}
use Rattle.std.specs.List.{AllByRecursion}
use Rattle.std.proofs.lemmas.List.{take_at}
use Rattle.field.specs.Field.{FieldModel, LawfulField}
use Rattle.refusal.specs.declared.fault.Fault.{Fault}
use Rattle.refusal.specs.declared.refusal.Refusal.{Refusal}
use Rattle.refusal.specs.declared.refusal.Refusal.TheVariants as refusal
use Rattle.text.specs.Marks.{marks, Layout}
use Rattle.text.specs.Forms.{whole_form, form_reading}
use Rattle.text.proofs.Forms.{tells_breaks, refuses_forms}
use Rattle.sheet.specs.declared.terms.Terms.{Terms}
use Rattle.sheet.specs.Lines.{sheet_lines}
use Rattle.sheet.specs.Sheets.{part_numbers, parts_of, Sheet, Made, FirstFault}
use Rattle.sheet.specs.Readings.{concluded, parsed, elements, valued, reading, claim_of, tray_of, read_answer, tray_after}
use Rattle.sheet.specs.Laws.{ReadsSheets, ReadsAllowed, TellsFirst, RefusesSheets}
use Rattle.sheet.proofs.Fills.{answer_is, tray_after_lem}
use Rattle.sheet.proofs.Parts.{same_ok, IsPair, sheet_from, parsed_from}

module _ {K : Type 0} (F : FieldModel K) where
  -- a reading comes of parts
  record Valued (c : ℤ) (xs : List K) (o : Result (ℤ × List (ℕ × ℕ)) Refusal) : Type 0 where
    values : List (ℕ × ℕ)
    parsed_is : o ≡ Ok (c, values)
    are : xs ≡ elements F values

  valued_from : (c : ℤ) (xs : List K) (o : Result (ℤ × List (ℕ × ℕ)) Refusal) → valued F o ≡ Ok (c, xs) → Valued c xs o
  valued_from c xs (Ok v) e = record { values = v.1; parsed_is = ap (λ w. Ok (w.0, v.1)) (same_ok e); are = sym (ap (λ w. w.1) (same_ok e)) }
  valued_from c xs (Err r) e = absurd (let q : ◌≡◌ {A = ℕ} 0 1 = cc in omega arith)

  all_made : (vs : List (ℕ × ℕ)) → AllByRecursion (IsPair F) vs → AllByRecursion (Made F) (elements F vs)
  all_made [] ps = tt
  all_made (v ∷ vs) ps = (record { low = v.0; high = v.1; parts = ps.0; is = refl }, all_made vs ps.1)

  pub reads_allowed : ReadsAllowed F
  reads_allowed t bs c xs h =
      let v = valued_from c xs (parsed F t bs) h in
      let s = sheet_from F t bs c v.values v.parsed_is in
      record {
        least = s.least;
        greatest = s.greatest;
        count = ap length v.are ∙ length-map v.values _ ∙ s.count;
        made = subst (AllByRecursion (Made F)) (sym v.are) (all_made v.values s.parts);
      }

  -- a refusal of a reading is that of its form
  refused : (r : Refusal) (o : Result (List ℤ) Refusal) → valued F (concluded o) ≡ Err r → o ≡ Err r
  refused r (Ok zs) e = absurd (let q : ◌≡◌ {A = ℕ} 0 1 = cc in omega arith)
  refused r (Err r') e = let is : r' ≡ r = cc in ap Err is

  pub tells_first : TellsFirst F
  tells_first t bs f l p =
      let b = tells_breaks (sheet_lines F t) bs f l p in
      (λ h. b.0 (refused (refusal.Sheet f l p) (form_reading (sheet_lines F t) bs) h), λ x. ap (λ o. valued F (concluded o)) (b.1 x))

  pub refuses_sheets : RefusesSheets F
  refuses_sheets t bs r h = refuses_forms (sheet_lines F t) bs r (refused r (form_reading (sheet_lines F t) bs) h)

module _ {K : Type 0} (F : FieldModel K) (L : LawfulField F) where
  parts_back : (vs : List (ℕ × ℕ)) → AllByRecursion (IsPair F) vs → parts_of F (elements F vs) ≡ vs
  parts_back [] ps = refl
  parts_back (v ∷ vs) ps = λ i. (L.parts.low-make v.0 v.1 ps.0 i, L.parts.high-make v.0 v.1 ps.0 i) ∷ parts_back vs ps.1 i

  pub elements_back : (xs : List K) → elements F (parts_of F xs) ≡ xs
  elements_back [] = refl
  elements_back (x ∷ xs) = λ i. L.parts.make_parts x i ∷ elements_back xs i

  pub all_parts : (xs : List K) → AllByRecursion (IsPair F) (parts_of F xs)
  all_parts [] = tt
  all_parts (x ∷ xs) = (L.parts.within x, all_parts xs)

  pub reads_sheets : ReadsSheets F
  reads_sheets t bs c xs = (
    (λ h.
        let v = valued_from F c xs (parsed F t bs) h in
        let s = sheet_from F t bs c v.values v.parsed_is in
        record {
          layout = subst (λ vs. Layout (marks (whole_form (sheet_lines F t)) (c ∷ part_numbers vs)) [] bs) (sym (ap (parts_of F) v.are ∙ parts_back v.values s.parts)) s.layout;
          least = s.least;
          greatest = s.greatest;
          count = ap length v.are ∙ length-map v.values _ ∙ s.count;
        }),
    (λ s.
        ap (valued F) (parsed_from F t bs c (parts_of F xs) (record {
          layout = s.layout;
          least = s.least;
          greatest = s.greatest;
          count = length-map xs _ ∙ s.count;
          parts = all_parts xs;
        }))
        ∙ ap (λ ys. Ok (c, ys)) (elements_back xs)),
  )

-- what reading into a tray answers and leaves there, of the bytes
module _ {K : Type 0} (F : FieldModel K) (L : LawfulField F) (t : Terms) (bs : List ℕ) (tray : List K) where
  states_from : (long : Bool) (o : Result (ℤ × List K) Refusal) → reading F t bs ≡ o → (r : Result ℤ Refusal) (after : List K)
      → r ≡ cond long (claim_of F o) (Err refusal.TrayShort) → after ≡ cond long (tray_of F (suc t.degree) o tray) tray
      → IfOk r (λ c. Sheet F t c (take (suc t.degree) after) bs)
  states_from long o e (Err x) after r-is after-is = tt
  states_from false o e (Ok c) after r-is after-is = absurd (let q : ◌≡◌ {A = ℕ} 0 1 = cc in omega arith)
  states_from true (Err x) e (Ok c) after r-is after-is = absurd (let q : ◌≡◌ {A = ℕ} 0 1 = cc in omega arith)
  states_from true (Ok v) e (Ok c) after r-is after-is =
      let s = (reads_sheets F L t bs v.0 v.1).0 e in
      let front : take (suc t.degree) after ≡ v.1 = ap (take (suc t.degree)) after-is ∙ take_at v.1 (drop (suc t.degree) tray) (suc t.degree) s.count in
      subst (λ z. Sheet F t z (take (suc t.degree) after) bs) (sym (same_ok r-is)) (subst (λ xs. Sheet F t v.0 xs bs) (sym front) s)

  -- a claim that is given is that of a sheet, whose values stand in front of the tray
  pub gives_stated : (r : Result ℤ Refusal) (after : List K) → r ≡ read_answer F t bs tray → after ≡ tray_after F t bs tray → IfOk r (λ c. Sheet F t c (take (suc t.degree) after) bs)
  gives_stated r after r-is after-is = states_from (ltb t.degree (length tray)) (reading F t bs) refl r after r-is after-is

  -- what a sheet states is given
  pub stated_given : (r : Result ℤ Refusal) (after : List K) → r ≡ read_answer F t bs tray → after ≡ tray_after F t bs tray
      → (c : ℤ) (xs : List K) → t.degree < length tray → Sheet F t c xs bs → (r ≡ Ok c) × (after ≡ xs ++ drop (suc t.degree) tray)
  stated_given r after r-is after-is c xs long s =
      let is = (reads_sheets F L t bs c xs).1 s in (
        r-is ∙ answer_is F t bs tray long ∙ ap (claim_of F) is,
        after-is ∙ tray_after_lem F t bs tray long ∙ ap (λ o. tray_of F (suc t.degree) o tray) is,
      )

  first_from : (long : Bool) (o : Result (ℤ × List K) Refusal) (f : Fault) (l p : ℕ) → cond long (claim_of F o) (Err refusal.TrayShort) ≡ Err (refusal.Sheet f l p) → o ≡ Err (refusal.Sheet f l p)
  first_from false o f l p e = absurd (let q : ◌≡◌ {A = ℕ} 0 1 = cc in omega arith)
  first_from true (Ok v) f l p e = absurd (let q : ◌≡◌ {A = ℕ} 0 1 = cc in omega arith)
  first_from true (Err x) f l p e = let is : x ≡ refusal.Sheet f l p = cc in ap Err is

  -- a fault that is told is the first
  pub told_first : (r : Result ℤ Refusal) → r ≡ read_answer F t bs tray → (f : Fault) (l p : ℕ) → r ≡ Err (refusal.Sheet f l p) → FirstFault F t bs f l p
  told_first r r-is f l p e = (tells_first F t bs f l p).0 (first_from (ltb t.degree (length tray)) (reading F t bs) f l p (sym r-is ∙ e))
