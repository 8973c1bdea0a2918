-- A pass and the layout of marks: what a pass accepts is laid out, what it refuses is a first fault, and what is laid out is accepted. Assumes nothing.
use Rattle.std.proofs.Common.{◌≡◌, ℕ, ◌+◌, List, [], ◌∷◌, ◌++◌, length, replicate, ℤ, pos, Ok, Err, sym, refl, ap, ◌∙◌, subst, append_assoc, append-nil}
use Rattle.std.proofs.lemmas.Bool.{cond-true}
use Rattle.refusal.specs.declared.fault.Fault.{Fault}
use Rattle.refusal.specs.declared.refusal.Refusal.{Refusal}
use Rattle.refusal.specs.declared.refusal.Refusal.TheVariants.{Sheet}
use Rattle.text.specs.Tokens.{leading_spaces, line_ends_in, token_at, Cursor, skip_spaces, after_token, next_token}
use Rattle.text.proofs.Shows.{spaces_split, skip_close}
use Rattle.text.proofs.Places.{skip_line, skip_place, after_line, after_place}
use Rattle.text.specs.Items.{Item, Item.the, Item.given, Item.stated, Verdict, Verdict.wrong, Verdict.fine, Verdict.keep, in_range, Passed, item_verdict, verdict_outcome, pass_then, items_pass}
use Rattle.text.specs.Marks.{Mark, Mark.fixed, Mark.number, marks, InRanges, Begins, Layout}
use Rattle.text.proofs.Seen.{Met, met, Taken, taken_fixed, taken_number, next_here, goes_here, fine_fixed, within_itself, in_range_from}

-- a pass that went on: the numbers kept, and the marks laid out up to what is left
pub record Read (ds : List Item) (kept out : List ℤ) (bs left : List ℕ) : Type 0 where
  pub numbers : List ℤ
  pub all : out ≡ kept ++ numbers
  pub ranges : InRanges ds numbers
  pub layout : Layout (marks ds numbers) left bs

-- a pass that was refused: the fault, with what is laid out before it
pub record Broken (ds : List Item) (s : Cursor) (r : Refusal) : Type 0 where
  pub fault : Fault
  pub line : ℕ
  pub place : ℕ
  pub told : r ≡ Sheet fault line place
  pub before : List Item
  pub here : Item
  pub later : List Item
  pub grammar : ds ≡ before ++ here ∷ later
  pub numbers : List ℤ
  pub ranges : InRanges before numbers
  pub left : List ℕ
  pub layout : Layout (marks before numbers) left s.rest
  pub no_space : leading_spaces left ≡ 0
  pub verdict : item_verdict here (token_at left) ≡ wrong fault
  pub place_is : place + length left ≡ s.place + length s.rest
  pub line_is : line + line_ends_in left ≡ s.line + line_ends_in s.rest

-- what a pass came to
abbrev pub Traced : List Item → List ℤ → Cursor → Passed → Type 0
Traced ds kept s (Ok p) = Read ds kept p.0 s.rest p.1.rest
Traced ds kept s (Err r) = Broken ds s r

-- an item was met by a mark, and ns is what was kept of it
record Stepped (d : Item) (s : Cursor) (ns : List ℤ) : Type 0 where
  mark : Mark
  taken : Taken mark s.rest (after_token s).rest
  marks_are : (ds : List Item) (zs : List ℤ) → marks (d ∷ ds) (ns ++ zs) ≡ mark ∷ marks ds zs
  ranges : (ds : List Item) (zs : List ℤ) → InRanges ds zs → InRanges (d ∷ ds) (ns ++ zs)

stepped_fine : (d : Item) (s : Cursor) → Met d (next_token s) fine → Stepped d s []
stepped_fine (the x) s m = record { mark = fixed x; taken = taken_fixed s x m; marks_are = λ ds zs. refl; ranges = λ ds zs k. k }
stepped_fine (given n f) s m = record { mark = number (pos n); taken = taken_number s m.0 (pos n) m.1; marks_are = λ ds zs. refl; ranges = λ ds zs k. k }
stepped_fine (stated lo hi f) s m = absurd m

stepped_keep : (d : Item) (s : Cursor) (z : ℤ) → Met d (next_token s) (keep z) → Stepped d s (z ∷ [])
stepped_keep (the x) s z m = absurd m
stepped_keep (given n f) s z m = absurd m
stepped_keep (stated lo hi f) s z m = record { mark = number z; taken = taken_number s m.0 z m.1; marks_are = λ ds zs. refl; ranges = λ ds zs k. (m.2, m.3, k) }

begins : (P : List ℕ → Type 0) (m : Mark) (bs next : List ℕ) → Taken m bs next → P next → Begins P m bs
begins P m bs next t p = record { spaces = t.spaces; bytes = t.bytes; rest = next; whole = t.whole; spells = t.spells; apart = t.apart; goes_on = p }

-- one more item in front
module _ (d : Item) (ds : List Item) (kept ns : List ℤ) (s : Cursor) (p : Stepped d s ns) where
  laid : (es : List Item) (zs : List ℤ) (left : List ℕ) → Layout (marks es zs) left (after_token s).rest → Layout (marks (d ∷ es) (ns ++ zs)) left s.rest
  laid es zs left l = subst (λ ms. Layout ms left s.rest) (sym (p.marks_are es zs)) (begins (Layout (marks es zs) left) p.mark s.rest (after_token s).rest p.taken l)

  more : (o : Passed) → Traced ds (kept ++ ns) (after_token s) o → Traced (d ∷ ds) kept s o
  more (Ok q) r = record {
    numbers = ns ++ r.numbers;
    all = r.all ∙ append_assoc kept ns r.numbers;
    ranges = p.ranges ds r.numbers r.ranges;
    layout = laid ds r.numbers q.1.rest r.layout;
  }
  more (Err r) b = record {
    fault = b.fault;
    line = b.line;
    place = b.place;
    told = b.told;
    before = d ∷ b.before;
    here = b.here;
    later = b.later;
    grammar = ap (λ es. d ∷ es) b.grammar;
    numbers = ns ++ b.numbers;
    ranges = p.ranges b.before b.numbers b.ranges;
    left = b.left;
    layout = laid b.before b.numbers b.left b.layout;
    no_space = b.no_space;
    verdict = b.verdict;
    place_is = b.place_is ∙ after_place s;
    line_is = b.line_is ∙ after_line s;
  }

-- the fault is the next token
broken_here : (d : Item) (ds : List Item) (s : Cursor) (f : Fault) → item_verdict d (next_token s) ≡ wrong f → Broken (d ∷ ds) s (Sheet f (skip_spaces s).line (skip_spaces s).place)
broken_here d ds s f e = record {
  fault = f;
  line = (skip_spaces s).line;
  place = (skip_spaces s).place;
  told = refl;
  before = [];
  here = d;
  later = ds;
  grammar = refl;
  numbers = [];
  ranges = refl;
  left = (skip_spaces s).rest;
  layout = (leading_spaces s.rest, spaces_split s.rest);
  no_space = skip_close s.rest;
  verdict = e;
  place_is = skip_place s;
  line_is = skip_line s;
}

trace_on : (d : Item) (ds : List Item) (kept : List ℤ) (s : Cursor) → ((kept' : List ℤ) (t : Cursor) → Traced ds kept' t (items_pass ds kept' t)) → (v : Verdict) → item_verdict d (next_token s) ≡ v → Met d (next_token s) v
    → Traced (d ∷ ds) kept s (pass_then (verdict_outcome v kept (skip_spaces s) (after_token s)) (λ zs t. items_pass ds zs t))
trace_on d ds kept s ih (wrong f) e m = broken_here d ds s f e
trace_on d ds kept s ih fine e m =
    more d ds kept [] s (stepped_fine d s m) (items_pass ds kept (after_token s))
    (subst (λ zs. Traced ds zs (after_token s) (items_pass ds kept (after_token s))) (sym (append-nil kept)) (ih kept (after_token s)))
trace_on d ds kept s ih (keep z) e m = more d ds kept (z ∷ []) s (stepped_keep d s z m) (items_pass ds (kept ++ z ∷ []) (after_token s)) (ih (kept ++ z ∷ []) (after_token s))

pub trace : (ds : List Item) (kept : List ℤ) (s : Cursor) → Traced ds kept s (items_pass ds kept s)
unfolding items_pass
trace [] kept s = record { numbers = []; all = sym (append-nil kept); ranges = refl; layout = (0, refl) }
trace (d ∷ ds) kept s = trace_on d ds kept s (λ kept' t. trace ds kept' t) (item_verdict d (next_token s)) refl (met d (next_token s))

-- a reader that has read items, up to spaces before what is left
pub record Arrived (ds es : List Item) (kept zs : List ℤ) (s : Cursor) (left : List ℕ) : Type 0 where
  pub at : Cursor
  pub passes : items_pass (ds ++ es) kept s ≡ items_pass es (kept ++ zs) at
  pub spaces : ℕ
  pub rest_is : at.rest ≡ replicate spaces 32 ++ left
  pub place_is : at.place + length at.rest ≡ s.place + length s.rest
  pub line_is : at.line + line_ends_in at.rest ≡ s.line + line_ends_in s.rest

pub pass_by : (d : Item) (es : List Item) (kept : List ℤ) (s : Cursor) (v : Verdict) → item_verdict d (next_token s) ≡ v → items_pass (d ∷ es) kept s ≡ pass_then (verdict_outcome v kept (skip_spaces s) (after_token s)) (λ zs t. items_pass es zs t)
unfolding items_pass
pass_by d es kept s v e = ap (λ u. pass_then (verdict_outcome u kept (skip_spaces s) (after_token s)) (λ zs t. items_pass es zs t)) e

pub pass_none : (kept : List ℤ) (s : Cursor) → items_pass [] kept s ≡ Ok (kept, s)
unfolding items_pass
pass_none kept s = refl

-- one more item in front, of which ns is kept
arrive_on : (d : Item) (ds es : List Item) (kept ns zs : List ℤ) (s : Cursor) (left : List ℕ) → items_pass (d ∷ (ds ++ es)) kept s ≡ items_pass (ds ++ es) (kept ++ ns) (after_token s) → Arrived ds es (kept ++ ns) zs (after_token s) left → Arrived (d ∷ ds) es kept (ns ++ zs) s left
arrive_on d ds es kept ns zs s left e a = record {
  at = a.at;
  passes = e ∙ a.passes ∙ ap (λ ys. items_pass es ys a.at) (append_assoc kept ns zs);
  spaces = a.spaces;
  rest_is = a.rest_is;
  place_is = a.place_is ∙ after_place s;
  line_is = a.line_is ∙ after_line s;
}

-- what is fine keeps nothing
go_fine : (d : Item) (ds : List Item) (kept : List ℤ) (s : Cursor) → item_verdict d (next_token s) ≡ fine → items_pass (d ∷ ds) kept s ≡ items_pass ds (kept ++ []) (after_token s)
go_fine d ds kept s e = pass_by d ds kept s fine e ∙ ap (λ zs. items_pass ds zs (after_token s)) (sym (append-nil kept))

-- what is laid out is accepted
pub arrive : (ds es : List Item) (kept zs : List ℤ) (s : Cursor) (left : List ℕ) → InRanges ds zs → Layout (marks ds zs) left s.rest → Arrived ds es kept zs s left
arrive [] es kept zs s left k l = record {
  at = s;
  passes = ap (λ ys. items_pass es ys s) (sym (append-nil kept) ∙ ap (λ ys. kept ++ ys) (sym k));
  spaces = l.0;
  rest_is = l.1;
  place_is = refl;
  line_is = refl;
}
arrive (the x ∷ ds) es kept zs s left k l =
    arrive_on (the x) ds es kept [] zs s left
    (go_fine (the x) (ds ++ es) kept s (ap (item_verdict (the x)) (next_here s (fixed x) l) ∙ fine_fixed x))
    (arrive ds es (kept ++ []) zs (after_token s) left k (goes_here s (fixed x) l))
arrive (given n f ∷ ds) es kept zs s left k l =
    arrive_on (given n f) ds es kept [] zs s left
    (go_fine (given n f) (ds ++ es) kept s (ap (item_verdict (given n f)) (next_here s (number (pos n)) l) ∙ cond-true (in_range (pos n) (pos n) (pos n)) fine (wrong f) (within_itself (pos n))))
    (arrive ds es (kept ++ []) zs (after_token s) left k (goes_here s (number (pos n)) l))
arrive (stated lo hi f ∷ ds) es kept [] s left k l = absurd k
arrive (stated lo hi f ∷ ds) es kept (z ∷ zs) s left k l =
    arrive_on (stated lo hi f) ds es kept (z ∷ []) zs s left
    (pass_by (stated lo hi f) (ds ++ es) kept s (keep z)
    (ap (item_verdict (stated lo hi f)) (next_here s (number z) l) ∙ cond-true (in_range lo hi z) (keep z) (wrong f) (in_range_from lo hi z k.0 k.1)))
    (arrive ds es (kept ++ z ∷ []) zs (after_token s) left k.2 (goes_here s (number z) l))
