-- Sums as a chain of calls takes them, from the left, and as the definitions take them, from the right. Assumes nothing but the laws of the field.
use Rattle.std.proofs.Common.{◌≡◌, ℕ, zero, suc, ◌+◌, ◌%◌, ◌<◌, ◌^◌, ◌≤◌, Bool, true, false, cond, eqb, List, [], ◌∷◌, map, map-id, length, take, drop, ℤ, pos, ◌+ℤ◌, ◌*ℤ◌, ◌*◌, nat_abs, Option, fold, filter, sym, refl, ap, ◌∙◌, subst, add-one, mul-le-mul, arith, w64, SFits}
use Rattle.std.specs.List.{enumerate_from, range_with_len}
use Rattle.std.proofs.lemmas.Int.{ints, fits_signed_from_abs}
use Rattle.std.proofs.lemmas.List.Recursion.{is_sum_by}
use Rattle.std.proofs.lemmas.List.Sums.{sum_by-take-drop}
use Rattle.std.proofs.lemmas.Iterator.{YieldsList}
use Rattle.std.proofs.lemmas.Iterator.Consumers.{YieldsList-so_far}
use Rattle.std.specs.Iterator.{Yields}
use Rattle.std.specs.Iterator.Runs.{EachRunFrom, YieldsRun}
use Rattle.field.specs.declared.limits.TheConstants.{GREATEST_LIMIT}
use Rattle.field.specs.Field.{FieldModel, LawfulField}
use Rattle.board.specs.Ledger.{abs_sum}
use Rattle.board.proofs.Ledgers.{abs-add}
use Rattle.season.proofs.Tallies.{square}

-- a sum with its laws
pub record Sum {K : Type 0} (plus : K → K → K) (none : K) : Type 0 where
  pub from_none : (a : K) → plus none a ≡ a
  pub none_more : (a : K) → plus a none ≡ a
  pub regroup : (a b c : K) → plus (plus a b) c ≡ plus a (plus b c)

pub Sum-ℤ : Sum ◌+ℤ◌ (pos 0)
Sum-ℤ = record { from_none = λ a. omega (arith, ints); none_more = λ a. omega (arith, ints); regroup = λ a b c. omega (arith, ints) }

pub Sum-field : {K : Type 0} {F : FieldModel K} → LawfulField F → Sum F.add F.zero
Sum-field {F = F} L = record { from_none = λ a. L.ring.add_comm F.zero a ∙ L.ring.add-zero a; none_more = L.ring.add-zero; regroup = L.ring.add_assoc }

module _ {K : Type 0} {plus : K → K → K} {none : K} (S : Sum plus none) where
  -- ---- a term for each item
  module _ {X : Type 0} (term : X → K) (right : List X → K) (e : right [] ≡ none) (r : (x : X) (xs : List X) → right (x ∷ xs) ≡ plus (term x) (right xs)) where
    onto : (a : K) (xs : List X) → fold (λ s x. plus s (term x)) a xs ≡ plus a (right xs)
    onto a [] = sym (ap (plus a) e ∙ S.none_more a)
    onto a (x ∷ xs) = onto (plus a (term x)) xs ∙ S.regroup a (term x) (right xs) ∙ ap (plus a) (sym (r x xs))

    pub each_term : {z : K} → z ≡ none → (xs : List X) → fold (λ s x. plus s (term x)) z xs ≡ right xs
    each_term {z} i xs = onto z xs ∙ ap (λ a. plus a (right xs)) i ∙ S.from_none (right xs)

  -- ---- a term for each number from j on
  module _ (term : ℕ → K) (right : ℕ → ℕ → K) (e : (j : ℕ) → right j 0 ≡ none) (r : (j n : ℕ) → right j (suc n) ≡ plus (term j) (right (suc j) n)) where
    numbers_onto : (a : K) (j n : ℕ) → fold (λ s x. plus s (term x)) a (range_with_len j n) ≡ plus a (right j n)
    numbers_onto a j zero = sym (ap (plus a) (e j) ∙ S.none_more a)
    numbers_onto a j (suc n) = rw add-one (numbers_onto (plus a (term j)) (suc j) n) ∙ S.regroup a (term j) (right (suc j) n) ∙ ap (plus a) (sym (r j n))

    pub each_number : {z : K} → z ≡ none → (j n : ℕ) → fold (λ s x. plus s (term x)) z (range_with_len j n) ≡ right j n
    each_number {z} i j n = numbers_onto z j n ∙ ap (λ a. plus a (right j n)) i ∙ S.from_none (right j n)

  -- ---- the items of one of the goods
  module _ (kind : ℕ) (right : ℕ → List K → K) (e : (j : ℕ) → right j [] ≡ none) (r : (j : ℕ) (x : K) (xs : List K) → right j (x ∷ xs) ≡ plus (cond (eqb (j % 8) kind) x none) (right (suc j) xs)) where
    taken_if : (b : Bool) (a x : K) (j : ℕ) (ps : List (ℕ × K)) (k : K) → ((a : K) → fold (λ s p. plus s p.1) a ps ≡ plus a k) → fold (λ s p. plus s p.1) a (cond b ((j, x) ∷ ps) ps) ≡ plus a (plus (cond b x none) k)
    taken_if true a x j ps k more = more (plus a x) ∙ S.regroup a x k
    taken_if false a x j ps k more = more a ∙ ap (plus a) (sym (S.from_none k))

    goods_onto : (a : K) (j : ℕ) (xs : List K) → fold (λ s p. plus s p.1) a (filter (λ p. eqb (p.0 % 8) kind) (enumerate_from j xs)) ≡ plus a (right j xs)
    goods_onto a j [] = sym (ap (plus a) (e j) ∙ S.none_more a)
    goods_onto a j (x ∷ xs) = taken_if (eqb (j % 8) kind) a x j _ (right (suc j) xs) (λ b. rw add-one (goods_onto b (suc j) xs)) ∙ ap (plus a) (sym (r j x xs))

    pub each_of_goods : {z : K} → z ≡ none → (xs : List K) → fold (λ s p. plus s p.1) z (filter (λ p. eqb (p.0 % 8) kind) (enumerate_from 0 xs)) ≡ right 0 xs
    each_of_goods {z} i xs = goods_onto z 0 xs ∙ ap (λ a. plus a (right 0 xs)) i ∙ S.from_none (right 0 xs)

-- ---- a sum of whole numbers overflows at no item, if the absolute values come to less than 2 ^ 63
-- a sum begun at a
abs_onto : (a : ℤ) (zs : List ℤ) → nat_abs (fold ◌+ℤ◌ a zs) ≤ nat_abs a + abs_sum zs
abs_onto a [] = omega arith
abs_onto a (z ∷ zs) = omega (arith, abs_onto (a +ℤ z) zs, abs-add a z)

-- the front and the rest
pub abs-take-drop : (n : ℕ) (zs : List ℤ) → abs_sum (take n zs) + abs_sum (drop n zs) ≡ abs_sum zs
abs-take-drop n zs =
    let same = is_sum_by abs_sum nat_abs refl (λ _ _. refl) in
    omega (arith, same zs, same (take n zs), same (drop n zs), sum_by-take-drop nat_abs zs n)

pub sum_fits : {S : Type 0} {steps : S → Option ℤ → S → Type 0} {all : List ℤ} (s : S) → YieldsList steps (λ x. x) s all → abs_sum all < 2 ^ 63 → EachRunFrom steps s (λ p. SFits w64 (fold ◌+ℤ◌ (pos 0) p.items))
unfolding YieldsRun
sum_fits {steps = steps} {all} s e b = λ p _ at.
    let so_far = sym (map-id p.items) ∙ YieldsList-so_far e p.items p.gave.0.0 (subst (λ u. Yields steps u p.items p.gave.0.0) at p.gave.0.1) in
    fits_signed_from_abs w64 _ (omega (arith, ap (λ l. nat_abs (fold ◌+ℤ◌ (pos 0) l)) so_far, abs_onto (pos 0) (take (length p.items) all), abs-take-drop (length p.items) all))

-- the squares of counts
squares_abs : (fs : List ℤ) → abs_sum (map (λ f. f *ℤ f) fs) ≤ abs_sum fs * abs_sum fs
squares_abs [] = omega arith
squares_abs (f ∷ fs) = omega (arith, squares_abs fs, ap nat_abs (square f))

pub squares_small : (fs : List ℤ) → abs_sum fs ≤ GREATEST_LIMIT → abs_sum (map (λ f. f *ℤ f) fs) ≤ GREATEST_LIMIT * GREATEST_LIMIT
squares_small fs h = omega (arith, squares_abs fs, mul-le-mul {n₁ = abs_sum fs} {m₁ = abs_sum fs} {n₂ = GREATEST_LIMIT} {m₂ = GREATEST_LIMIT} h h)

-- the counts of one of the goods
pub goods_abs : (kind j : ℕ) (fs : List ℤ) → abs_sum (map (λ p. p.1) (filter (λ p. eqb (p.0 % 8) kind) (enumerate_from j fs))) ≤ abs_sum fs
goods_abs kind j [] = omega arith
goods_abs kind j (f ∷ fs) = picked (eqb (j % 8) kind) _ (goods_abs kind (j + 1) fs)
  where
    picked : (b : Bool) (ps : List (ℕ × ℤ)) → abs_sum (map (λ p. p.1) ps) ≤ abs_sum fs → abs_sum (map (λ p. p.1) (cond b ((j, f) ∷ ps) ps)) ≤ nat_abs f + abs_sum fs
    picked true ps h = omega arith
    picked false ps h = omega arith
