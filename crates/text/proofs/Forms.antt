-- The laws of every form. Assumes nothing.
use Rattle.std.proofs.Common.{◌≡◌, ℕ, zero, suc, List, [], ◌∷◌, ◌++◌, length, take, drop, replicate, ℤ, Ok, Err, Result, sym, ap, ◌∙◌, subst, append_assoc, append-nil, arith, length-append, length-drop, take-append-drop}
use lib.ListN.{length-replicate}
use Rattle.std.proofs.lemmas.List.{take_at, drop_at}
use Rattle.refusal.specs.declared.fault.Fault.{Fault}
use Rattle.refusal.specs.declared.refusal.Refusal.{Refusal}
use Rattle.refusal.specs.declared.refusal.Refusal.TheVariants.{Sheet}
use Rattle.text.specs.Tokens.{leading_spaces, line_ends_in, token_at, Cursor, cursor_start, skip_spaces}
use Rattle.text.specs.Items.{Item, Item.the, Item.given, Item.stated, Verdict.wrong, item_verdict, Passed, items_pass}
use Rattle.text.specs.Marks.{Mark, marks, InRanges, Layout}
use Rattle.text.specs.Forms.{whole_form, kept_numbers, form_reading, States, Breaks, ReadsForms, TellsBreaks, RefusesForms}
use Rattle.text.proofs.Shows.{spaces_of}
use Rattle.text.proofs.Places.{ends_append, skip_line, skip_place}
use Rattle.text.proofs.Traces.{Broken, Traced, trace, Arrived, arrive, pass_by, pass_none}

same_ok : {A : Type 0} {x y : A} → ◌≡◌ {A = Result A Refusal} (Ok x) (Ok y) → x ≡ y
same_ok e = cc

none_left : (n : ℕ) (left : List ℕ) → [] ≡ replicate n 32 ++ left → left ≡ []
none_left zero left e = sym e
none_left (suc n) left e = absurd (let q : ◌≡◌ {A = ℕ} 0 1 = cc in omega arith)

-- nothing is left behind a whole form
ends : (ds : List Item) (zs : List ℤ) (left bs : List ℕ) → InRanges (whole_form ds) zs → Layout (marks (whole_form ds) zs) left bs → left ≡ []
ends [] zs left bs k l = none_left l.goes_on.0 left (sym l.apart ∙ l.goes_on.1)
ends (the x ∷ ds) zs left bs k l = ends ds zs left l.rest k l.goes_on
ends (given n f ∷ ds) zs left bs k l = ends ds zs left l.rest k l.goes_on
ends (stated lo hi f ∷ ds) [] left bs k l = absurd k
ends (stated lo hi f ∷ ds) (z ∷ zs) left bs k l = ends ds zs left l.rest k.2 l.goes_on

-- what is left is the end of the bytes
record Suffix (bs left : List ℕ) : Type 0 where
  used : List ℕ
  whole : bs ≡ used ++ left

suffix : (ms : List Mark) (left bs : List ℕ) → Layout ms left bs → Suffix bs left
suffix [] left bs l = record { used = replicate l.0 32; whole = l.1 }
suffix (m ∷ ms) left bs l =
    let r = suffix ms left l.rest l.goes_on in
    record {
      used = replicate l.spaces 32 ++ (l.bytes ++ r.used);
      whole =
          l.whole ∙ ap (λ xs. replicate l.spaces 32 ++ (l.bytes ++ xs)) r.whole
          ∙ ap (λ xs. replicate l.spaces 32 ++ xs) (sym (append_assoc l.bytes r.used left))
          ∙ sym (append_assoc (replicate l.spaces 32) (l.bytes ++ r.used) left);
    }

module _ (ds : List Item) (bs : List ℕ) where
  says : (zs : List ℤ) (o : Passed) → Traced (whole_form ds) [] (cursor_start bs) o → kept_numbers o ≡ Ok zs → States ds zs bs
  says zs (Err r) b h = absurd (let q : ◌≡◌ {A = ℕ} 0 1 = cc in omega arith)
  says zs (Ok q) r h =
      let are : r.numbers ≡ zs = sym r.all ∙ same_ok h in
      subst (λ ns. States ds ns bs) are (record {
        ranges = r.ranges;
        layout = subst (λ left. Layout (marks (whole_form ds) r.numbers) left bs) (ends ds r.numbers q.1.rest bs r.ranges r.layout) r.layout;
      })

  -- what is laid out is read
  read_from : (zs : List ℤ) → States ds zs bs → form_reading ds bs ≡ Ok zs
  read_from zs s =
      let a = arrive (whole_form ds) [] [] zs (cursor_start bs) [] s.ranges s.layout in
      ap (λ es. kept_numbers (items_pass es [] (cursor_start bs))) (sym (append-nil (whole_form ds)))
      ∙ ap kept_numbers (a.passes ∙ pass_none zs a.at)

  -- a broken pass, at the place of the fault in the whole text
  break_from : (r : Refusal) (b : Broken (whole_form ds) (cursor_start bs) r) → Breaks ds bs b.fault b.line b.place
  break_from r b =
      let s = suffix (marks b.before b.numbers) b.left bs b.layout in
      let a = ap length s.whole ∙ length-append s.used b.left in
      let c = ap line_ends_in s.whole ∙ ends_append s.used b.left in
      let far : length s.used ≡ b.place = let x = b.place_is in omega arith in
      let front : take b.place bs ≡ s.used = ap (take b.place) s.whole ∙ take_at s.used b.left b.place far in
      let back : drop b.place bs ≡ b.left = ap (drop b.place) s.whole ∙ drop_at s.used b.left b.place far in
      let lines : b.line ≡ suc (line_ends_in s.used) = let x = b.line_is in omega arith in
      record {
        before = b.before;
        here = b.here;
        later = b.later;
        form = b.grammar;
        numbers = b.numbers;
        ranges = b.ranges;
        layout = subst (λ left. Layout (marks b.before b.numbers) left bs) (sym back) b.layout;
        inside = omega arith;
        no_space = ap leading_spaces back ∙ b.no_space;
        verdict = ap (λ xs. item_verdict b.here (token_at xs)) back ∙ b.verdict;
        line_is = lines ∙ ap (λ xs. suc (line_ends_in xs)) (sym front);
      }

  refused : (r : Refusal) (o : Passed) → Traced (whole_form ds) [] (cursor_start bs) o → kept_numbers o ≡ Err r → Broken (whole_form ds) (cursor_start bs) r
  refused r (Ok q) b h = absurd (let z : ◌≡◌ {A = ℕ} 0 1 = cc in omega arith)
  refused r (Err r') b h = subst (Broken (whole_form ds) (cursor_start bs)) (let e : r' ≡ r = cc in e) b

  broken : (r : Refusal) → form_reading ds bs ≡ Err r → Broken (whole_form ds) (cursor_start bs) r
  broken r h = refused r (items_pass (whole_form ds) [] (cursor_start bs)) (trace (whole_form ds) [] (cursor_start bs)) h

  break_told : (f : Fault) (l p : ℕ) → form_reading ds bs ≡ Err (Sheet f l p) → Breaks ds bs f l p
  break_told f l p h =
      let b = broken (Sheet f l p) h in
      let e = b.told in
      let ef : b.fault ≡ f = cc in
      let el : b.line ≡ l = cc in
      let ep : b.place ≡ p = cc in
      subst (λ x. x) (λ i. Breaks ds bs (ef i) (el i) (ep i)) (break_from (Sheet f l p) b)

  -- the place where the break is told
  module _ (f : Fault) (l p : ℕ) (x : Breaks ds bs f l p) where
    there : Arrived x.before (x.here ∷ x.later) [] x.numbers (cursor_start bs) (drop p bs)
    there = arrive x.before (x.here ∷ x.later) [] x.numbers (cursor_start bs) (drop p bs) x.ranges x.layout

    spaces_there : leading_spaces there.at.rest ≡ there.spaces
    spaces_there = ap leading_spaces there.rest_is ∙ spaces_of there.spaces (drop p bs) x.no_space

    rest_there : (skip_spaces there.at).rest ≡ drop p bs
    rest_there = (λ i. drop (spaces_there i) (there.rest_is i)) ∙ drop_at (replicate there.spaces 32) (drop p bs) there.spaces (length-replicate there.spaces 32)

    place_there : (skip_spaces there.at).place ≡ p
    place_there =
        let a = skip_place there.at in
        let b = there.place_is in
        let c = ap length rest_there in
        let d = length-drop p bs in
        let e = x.inside in
        omega arith

    line_there : (skip_spaces there.at).line ≡ l
    line_there =
        let a = skip_line there.at in
        let b = there.line_is in
        let c = ap line_ends_in rest_there in
        let d = ap line_ends_in (sym (take-append-drop p bs)) ∙ ends_append (take p bs) (drop p bs) in
        let e = x.line_is in
        omega arith

    told_there : form_reading ds bs ≡ Err (Sheet f l p)
    told_there =
        ap (λ es. kept_numbers (items_pass es [] (cursor_start bs))) x.form
        ∙ ap kept_numbers (there.passes ∙ pass_by x.here x.later x.numbers there.at (wrong f) (ap (λ xs. item_verdict x.here (token_at xs)) rest_there ∙ x.verdict))
        ∙ (λ i. Err (Sheet f (line_there i) (place_there i)))

pub reads_forms : ReadsForms
reads_forms ds bs zs = (says ds bs zs (items_pass (whole_form ds) [] (cursor_start bs)) (trace (whole_form ds) [] (cursor_start bs)), read_from ds bs zs)

pub tells_breaks : TellsBreaks
tells_breaks ds bs f l p = (break_told ds bs f l p, told_there ds bs f l p)

pub refuses_forms : RefusesForms
refuses_forms ds bs r h = let b = broken ds bs r h in (b.fault, b.line, b.place, b.told)

-- numbers that a pass kept lie in their ranges
pub pass_ranges : (ds : List Item) (s t : Cursor) (zs : List ℤ) → Ok (zs, t) ≡ items_pass ds [] s → InRanges ds zs
pass_ranges ds s t zs e =
    let r : Traced ds [] s (Ok (zs, t)) = subst (Traced ds [] s) (sym e) (trace ds [] s) in
    subst (InRanges ds) (sym r.all) r.ranges
