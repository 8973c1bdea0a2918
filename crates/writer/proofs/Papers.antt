-- Putting bytes on the paper, one after another. Assumes nothing.
use Rattle.std.proofs.Common.{◌≡◌, ℕ, ◌+◌, ◌-◌, ◌/◌, ◌%◌, ◌^◌, ◌<◌, ◌≤◌, Bool, List, [], ◌∷◌, ◌++◌, map, length, get_or, take, drop, ℤ, pos, negsuc, nat_abs, ◌<ℤ◌, decimal, sym, refl, ap, ◌∙◌, subst, append_assoc, append-nil, arith, length-append, length-drop, length-take-le, take-append-drop}
use borrow.Rule.Slice.PartMut.{put_mid}
use Rattle.std.specs.Fmt.{signed_decimal}
use Rattle.std.proofs.lemmas.Fmt.{decimal_step}
use Rattle.std.proofs.lemmas.List.{drop-drop, drop_more}
use Rattle.std.proofs.lemmas.Int.{ints}
use Rattle.std.proofs.lemmas.Slice.{take-put_mid, drop-put_mid}
use Rattle.text.specs.Items.{Item, Item.the, Item.given, Item.stated, stated_count_of, stated_count}
use Rattle.text.specs.Marks.{Mark, Mark.number, item_mark, marks}
use Rattle.text.proofs.Passes.{count_next}
use Rattle.writer.specs.Texts.{spaced_bytes, spaced_after, written_on}
use Rattle.writer.specs.Papers.{Lays}

pub lays_bytes : (bs xs ys : List ℕ) (at : ℕ) → ys ≡ bs → at + length bs ≤ length xs → Lays bs xs at (put_mid at (at + length bs - at) xs ys) (at + length bs)
lays_bytes bs xs ys at e h =
    let l : length ys ≡ length bs = ap length e in
    record {
      end_is = refl;
      front = take-put_mid at (at + length bs - at) xs ys (at + length bs) (omega arith) (omega arith) ∙ ap (λ zs. take at xs ++ zs) e;
      back = drop-put_mid at (at + length bs - at) xs ys (at + length bs) (omega arith) (omega arith) (omega arith);
    }

pub lays_none : (xs : List ℕ) (at : ℕ) → Lays [] xs at xs at
lays_none xs at = record { end_is = omega arith; front = sym (append-nil (take at xs)); back = refl }

pub lays_more : {bs cs p q r : List ℕ} {a m e : ℕ} → Lays bs p a q m → Lays cs q m r e → Lays (bs ++ cs) p a r e
lays_more {bs} {cs} {p} {q} {r} {a} {m} {e} x y =
    let l = length-append bs cs in
    let i = x.end_is in
    let j = y.end_is in
    let k : m + (e - m) ≡ e = omega arith in
    let on : (zs : List ℕ) → drop e zs ≡ drop (e - m) (drop m zs) = λ zs. ap (λ n. drop n zs) (sym k) ∙ sym (drop-drop (e - m) m zs) in
    record {
      end_is = omega arith;
      front = y.front ∙ ap (λ zs. zs ++ cs) x.front ∙ append_assoc (take a p) bs cs;
      back = y.back ∙ on q ∙ ap (drop (e - m)) x.back ∙ sym (on p);
    }

-- the paper stays as long as it was
pub lays_length : {bs p q : List ℕ} {a e : ℕ} → Lays bs p a q e → a + length bs ≤ length p → length q ≡ length p
lays_length {bs} {p} {q} {a} {e} x h =
    let w : q ≡ (take a p ++ bs) ++ drop e p = sym (take-append-drop e q) ∙ (λ i. x.front i ++ x.back i) in
    let l = ap length w ∙ length-append (take a p ++ bs) (drop e p) in
    let m = length-append (take a p) bs in
    let t = length-take-le a p (omega arith) in
    let d = length-drop e p in
    let i = x.end_is in
    omega arith

-- the same bytes, in other words
pub lays_as : {bs cs p q : List ℕ} {a e : ℕ} → bs ≡ cs → Lays bs p a q e → Lays cs p a q e
lays_as {p = p} {q = q} {a = a} {e = e} is x = subst (λ zs. Lays zs p a q e) is x

-- bytes at the start, and the others as they were
pub lays_whole : {bs p q : List ℕ} {e : ℕ} → Lays bs p 0 q e → (e ≡ length bs) × (q ≡ bs ++ drop (length bs) p)
lays_whole {bs} {p} {q} {e} x =
    let n : e ≡ length bs = let k = x.end_is in omega arith in
    (n, sym (take-append-drop e q) ∙ (λ i. x.front i ++ x.back i) ∙ ap (λ m. bs ++ drop m p) n)

pub front_fits : (n : ℕ) → 10 ≤ n → n < 2 ^ 64 → length (decimal n) ≡ length (decimal (n / 10)) + 1
front_fits n h k = ap length (decimal_step n h k) ∙ length-append (decimal (n / 10)) ((48 + n % 10) ∷ [])

pub signed_minus : (z : ℤ) → z <ℤ pos 0 → 45 ∷ decimal (nat_abs z) ≡ signed_decimal z
signed_minus (pos n) h = absurd (omega (arith, ints))
signed_minus (negsuc n) h = refl

-- part of the bytes is put, and the rest is to come
pub record Putting (total before : List ℕ) (at : ℕ) (paper : List ℕ) (end : ℕ) (rest : List ℕ) : Type 0 where
  pub sofar : List ℕ
  pub lays : Lays sofar before at paper end
  pub split : sofar ++ rest ≡ total

pub putting_none : (total before : List ℕ) (at : ℕ) → Putting total before at before at total
putting_none total before at = record { sofar = []; lays = lays_none before at; split = refl }

-- the next bytes end no later than all of them
pub putting_room : {total before paper rest : List ℕ} {at end : ℕ} → Putting total before at paper end rest → (cs more : List ℕ) → rest ≡ cs ++ more → end + length cs ≤ at + length total
putting_room {rest = rest} p cs more e =
    let a = ap length p.split in
    let b = length-append p.sofar rest in
    let d = ap length e ∙ length-append cs more in
    let f = p.lays.end_is in
    omega arith

pub putting_length : {total before paper rest : List ℕ} {at end : ℕ} → Putting total before at paper end rest → at + length total ≤ length before → length paper ≡ length before
putting_length {rest = rest} p h = lays_length p.lays (let a = ap length p.split in let b = length-append p.sofar rest in omega arith)

pub putting_more : {total before paper after rest : List ℕ} {at end end' : ℕ} → Putting total before at paper end rest → (cs more : List ℕ) → rest ≡ cs ++ more → Lays cs paper end after end' → Putting total before at after end' more
putting_more p cs more e l = record { sofar = p.sofar ++ cs; lays = lays_more p.lays l; split = append_assoc p.sofar cs more ∙ ap (λ zs. p.sofar ++ zs) (sym e) ∙ p.split }

pub putting_all : {total before paper rest : List ℕ} {at end : ℕ} → Putting total before at paper end rest → rest ≡ [] → Lays total before at paper end
putting_all p e = lays_as (sym (append-nil p.sofar) ∙ ap (λ zs. p.sofar ++ zs) (sym e) ∙ p.split) p.lays

-- the marks of one item and of those behind it, with the numbers that are left
marks_next : (d : Item) (ds : List Item) (zs : List ℤ) (n : ℤ) → stated_count_of d ≤ length zs → n ≡ get_or zs 0 (pos 0) → marks (d ∷ ds) zs ≡ item_mark d n ∷ marks ds (drop (stated_count_of d) zs)
marks_next (the x) ds zs n few is = refl
marks_next (given k f) ds zs n few is = refl
marks_next (stated lo hi f) ds [] n few is = absurd (omega arith)
marks_next (stated lo hi f) ds (z ∷ zs) n few is = ap (λ y. number y ∷ marks ds zs) (sym is)

-- items that are written one by one, each with the first of the numbers that are left
module _ {X : Type 0} (f : X → Item) (xs : List X) (i : ℕ) (d : X) (lt : i < length xs) (space : Bool) (zs : List ℤ) (few : stated_count (map f (drop i xs)) ≤ length zs) (n : ℤ) (n-is : n ≡ get_or zs 0 (pos 0)) where
  enough : stated_count_of (f (get_or xs i d)) ≤ length zs
  enough = let r = count_next f xs i d lt in omega arith

  abbrev rest : List Mark
  rest = marks (map f (drop (i + 1) xs)) (drop (stated_count_of (f (get_or xs i d))) zs)

  pub item_next : written_on space (marks (map f (drop i xs)) zs) ≡ spaced_bytes space (item_mark (f (get_or xs i d)) n) ++ written_on (spaced_after (item_mark (f (get_or xs i d)) n)) rest
  item_next =
      ap (λ ys. written_on space (marks (map f ys) zs)) (drop_more xs i d lt)
      ∙ ap (written_on space) (marks_next (f (get_or xs i d)) (map f (drop (i + 1) xs)) zs n enough n-is)

  pub item_first : length (written_on space (marks (map f (drop i xs)) zs)) ≡ length (spaced_bytes space (item_mark (f (get_or xs i d)) n)) + length (written_on (spaced_after (item_mark (f (get_or xs i d)) n)) rest)
  item_first = ap length item_next ∙ length-append (spaced_bytes space (item_mark (f (get_or xs i d)) n)) (written_on (spaced_after (item_mark (f (get_or xs i d)) n)) rest)

  -- with the space and the count as the code has them
  module _ (space' : Bool) (k : ℕ) (s-is : space' ≡ spaced_after (item_mark (f (get_or xs i d)) n)) (k-is : k ≡ stated_count_of (f (get_or xs i d))) where
    pub item_on : written_on space (marks (map f (drop i xs)) zs) ≡ spaced_bytes space (item_mark (f (get_or xs i d)) n) ++ written_on space' (marks (map f (drop (i + 1) xs)) (drop k zs))
    item_on = item_next ∙ sym (λ j. spaced_bytes space (item_mark (f (get_or xs i d)) n) ++ written_on (s-is j) (marks (map f (drop (i + 1) xs)) (drop (k-is j) zs)))

    pub item_left : length (written_on space (marks (map f (drop i xs)) zs)) ≡ length (spaced_bytes space (item_mark (f (get_or xs i d)) n)) + length (written_on space' (marks (map f (drop (i + 1) xs)) (drop k zs)))
    item_left = ap length item_on ∙ length-append (spaced_bytes space (item_mark (f (get_or xs i d)) n)) (written_on space' (marks (map f (drop (i + 1) xs)) (drop k zs)))
