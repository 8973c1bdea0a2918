-- Reading accepts just the sheets, with values given by their parts. Assumes nothing.
use Rattle.std.proofs.Common.{◌≡◌, ℕ, zero, suc, ◌<◌, List, [], ◌∷◌, length, get_or, drop, ℤ, pos, negsuc, ◌-ℤ◌, ◌≤ℤ◌, Ok, Err, Result, sym, refl, ap, ◌∙◌, subst, arith}
use Rattle.std.specs.List.{AllByRecursion}
use Rattle.std.proofs.lemmas.Int.{ints}
use Rattle.std.proofs.lemmas.Bool.Decides.{nat_tests}
use Rattle.field.specs.Field.{FieldModel, PartsOf, high_limit}
use Rattle.refusal.specs.declared.refusal.Refusal.{Refusal}
use Rattle.text.specs.Marks.{marks, InRanges, Layout}
use Rattle.text.specs.Forms.{whole_form, form_reading}
use Rattle.text.proofs.Forms.{reads_forms}
use Rattle.sheet.specs.declared.terms.Terms.{Terms}
use Rattle.sheet.specs.Lines.{value_lines, sheet_lines}
use Rattle.sheet.specs.Sheets.{part_numbers}
use Rattle.sheet.specs.Readings.{paired, concluded, parsed}
use Rattle.sheet.proofs.Fills.{paired_numbers}

pub same_ok : {A : Type 0} {x y : A} → ◌≡◌ {A = Result A Refusal} (Ok x) (Ok y) → x ≡ y
same_ok e = cc

-- a number from 0 to n − 1
record Below (n : ℕ) (z : ℤ) : Type 0 where
  value : ℕ
  is : z ≡ pos value
  small : value < n

below : (n : ℕ) (z : ℤ) → pos 0 ≤ℤ z → z ≤ℤ (pos n -ℤ pos 1) → Below n z
below n (pos m) a b = record { value = m; is = refl; small = omega (arith, ints) }
below n (negsuc m) a b = absurd (omega (arith, ints))

below_least : (n : ℕ) → pos 0 ≤ℤ pos n
below_least n = omega (arith, ints)

below_most : (n m : ℕ) → m < n → pos m ≤ℤ (pos n -ℤ pos 1)
below_most n m h = omega (arith, ints)

-- parts of an element are below the limits of both parts, and what is below them are parts
below_limit : (p e l h : ℕ) → l < p → h < p → (e ≡ 1 → h ≡ 0) → h < high_limit p e
below_limit p e l h a b z = grind (arith, nat_tests)

high_fits : (p e l h : ℕ) → l < p → h < high_limit p e → h < p
high_fits p e l h some below = grind (arith, nat_tests)

high_only : (p e h : ℕ) → h < high_limit p e → e ≡ 1 → h ≡ 0
high_only p e h below one = grind (arith, nat_tests)

module _ {K : Type 0} (F : FieldModel K) where
  -- a pair of parts of an element
  abbrev pub IsPair : ℕ × ℕ → Type 0
  IsPair v = PartsOf F v.0 v.1

  -- the numbers of n value lines are n pairs of parts
  record Lined (n : ℕ) (zs : List ℤ) : Type 0 where
    values : List (ℕ × ℕ)
    are : zs ≡ part_numbers values
    count : length values ≡ n
    parts : AllByRecursion IsPair values

  lined : (j n : ℕ) (zs : List ℤ) → InRanges (whole_form (value_lines F j n)) zs → Lined n zs
  lined j zero zs k = record { values = []; are = k; count = refl; parts = tt }
  lined j (suc n) [] k = absurd k
  lined j (suc n) (low ∷ []) k = absurd k.2
  lined j (suc n) (low ∷ high ∷ zs) k =
      let r = lined (suc j) n zs k.2.2 in
      let l = below F.characteristic low k.0 k.1 in
      let h = below (high_limit F.characteristic F.degree) high k.2.0 k.2.1 in
      record {
        values = (l.value, h.value) ∷ r.values;
        are = (λ i. l.is i ∷ h.is i ∷ r.are i);
        count = ap suc r.count;
        parts = ((l.small, high_fits F.characteristic F.degree l.value h.value l.small h.small, high_only F.characteristic F.degree h.value h.small), r.parts);
      }

  lines_in_ranges : (j n : ℕ) (vs : List (ℕ × ℕ)) → length vs ≡ n → AllByRecursion IsPair vs → InRanges (whole_form (value_lines F j n)) (part_numbers vs)
  lines_in_ranges j zero [] c ps = refl
  lines_in_ranges j zero (v ∷ vs) c ps = absurd (omega arith)
  lines_in_ranges j (suc n) [] c ps = absurd (omega arith)
  lines_in_ranges j (suc n) (v ∷ vs) c ps =
      let p = ps.0 in (
        below_least v.0,
        below_most F.characteristic v.0 p.0,
        (below_least v.1, below_most (high_limit F.characteristic F.degree) v.1 (below_limit F.characteristic F.degree v.0 v.1 p.0 p.1 p.2), lines_in_ranges (suc j) n vs (omega arith) ps.1),
      )

  -- the bytes are a sheet that states the claim c and values with these parts
  pub record PartSheet (t : Terms) (c : ℤ) (vs : List (ℕ × ℕ)) (bs : List ℕ) : Type 0 where
    pub layout : Layout (marks (whole_form (sheet_lines F t)) (c ∷ part_numbers vs)) [] bs
    pub least : t.least ≤ℤ c
    pub greatest : c ≤ℤ t.greatest
    pub count : length vs ≡ suc t.degree
    pub parts : AllByRecursion IsPair vs

  module _ (t : Terms) (bs : List ℕ) (c : ℤ) (vs : List (ℕ × ℕ)) where
    -- numbers that are stated, as a claim and parts
    says : (zs : List ℤ) → InRanges (whole_form (sheet_lines F t)) zs → Layout (marks (whole_form (sheet_lines F t)) zs) [] bs → get_or zs 0 (pos 0) ≡ c → paired (drop 1 zs) ≡ vs → PartSheet t c vs bs
    says [] k l same-c same-vs = absurd k
    says (d ∷ zs) k l same-c same-vs =
        let r = lined 0 (suc t.degree) zs k.2 in
        let are : r.values ≡ vs = sym (paired_numbers r.values) ∙ ap paired (sym r.are) ∙ same-vs in
        record {
          layout = subst (λ ys. Layout (marks (whole_form (sheet_lines F t)) ys) [] bs) ((λ i. same-c i ∷ r.are i) ∙ ap (λ ws. c ∷ part_numbers ws) are) l;
          least = subst (λ z. t.least ≤ℤ z) same-c k.0;
          greatest = subst (λ z. z ≤ℤ t.greatest) same-c k.1;
          count = ap length (sym are) ∙ r.count;
          parts = subst (AllByRecursion IsPair) are r.parts;
        }

    from : (o : Result (List ℤ) Refusal) → form_reading (sheet_lines F t) bs ≡ o → concluded o ≡ Ok (c, vs) → PartSheet t c vs bs
    from (Err r) e h = absurd (let q : ◌≡◌ {A = ℕ} 0 1 = cc in omega arith)
    from (Ok zs) e h =
        let s = (reads_forms (sheet_lines F t) bs zs).0 e in
        let same = same_ok h in
        says zs s.ranges s.layout (ap (λ w. w.0) same) (ap (λ w. w.1) same)

    -- what is parsed is a sheet
    pub sheet_from : parsed F t bs ≡ Ok (c, vs) → PartSheet t c vs bs
    sheet_from h = from (form_reading (sheet_lines F t) bs) refl h

    -- a sheet is parsed
    pub parsed_from : PartSheet t c vs bs → parsed F t bs ≡ Ok (c, vs)
    parsed_from s =
        ap concluded ((reads_forms (sheet_lines F t) bs (c ∷ part_numbers vs)).1 (record { ranges = (s.least, s.greatest, lines_in_ranges 0 (suc t.degree) vs s.count s.parts); layout = s.layout }))
        ∙ ap (λ ws. Ok (c, ws)) (paired_numbers vs)
