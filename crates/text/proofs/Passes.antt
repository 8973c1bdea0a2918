-- A pass, one item after another. Assumes nothing.
use Rattle.std.proofs.Common.{◌≡◌, ℕ, ◌+◌, ◌<◌, ◌≤◌, List, [], ◌∷◌, ◌++◌, map, length, get_or, take, drop, set, append_assoc, ℤ, Ok, Err, sym, refl, ap, ◌∙◌}
use Rattle.std.proofs.lemmas.List.{drop_more, drop_all, take_more_set}
use Rattle.refusal.specs.declared.refusal.Refusal.{Refusal}
use Rattle.text.specs.Tokens.{Cursor, after_token}
use Rattle.text.specs.Items.{Item, stated_count_of, stated_count, Passed, item_pass, pass_then, items_pass, going_on, passed_to}

-- a pass stops at the first refusal
pub pass_append : (ds es : List Item) (kept : List ℤ) (s : Cursor) → items_pass (ds ++ es) kept s ≡ pass_then (items_pass ds kept s) (λ more t. items_pass es more t)
unfolding items_pass
pass_append [] es kept s = refl
pass_append (d ∷ ds) es kept s = go (λ more t. pass_append ds es more t) (item_pass d kept s)
  where
    go : ((more : List ℤ) (t : Cursor) → items_pass (ds ++ es) more t ≡ pass_then (items_pass ds more t) (λ more' t'. items_pass es more' t')) → (o : Passed) → pass_then o (λ more t. items_pass (ds ++ es) more t) ≡ pass_then (pass_then o (λ more t. items_pass ds more t)) (λ more t. items_pass es more t)
    go ih (Err r) = refl
    go ih (Ok p) = ih p.0 p.1

-- items that are read off a list, one by one
module _ {X : Type 0} (f : X → Item) (xs : List X) (i : ℕ) (d : X) (lt : i < length xs) where
  -- the numbers of one item, and of those behind it
  pub count_next : stated_count (map f (drop i xs)) ≡ stated_count_of (f (get_or xs i d)) + stated_count (map f (drop (i + 1) xs))
  count_next = ap (λ ys. stated_count (map f ys)) (drop_more xs i d lt)

  module _ (kept : List ℤ) (s : Cursor) where
    pass_next : items_pass (map f (drop i xs)) kept s ≡ pass_then (item_pass (f (get_or xs i d)) kept s) (λ more t. items_pass (map f (drop (i + 1) xs)) more t)
    unfolding items_pass
    pass_next = ap (λ ys. items_pass (map f ys) kept s) (drop_more xs i d lt)

    -- one item more is passed, or ends the pass
    pub pass_on : (more : List ℤ) (t : Cursor) → Ok (more, t) ≡ item_pass (f (get_or xs i d)) kept s → items_pass (map f (drop (i + 1) xs)) more t ≡ items_pass (map f (drop i xs)) kept s
    pass_on more t e = ap (λ o. pass_then o (λ more' u. items_pass (map f (drop (i + 1) xs)) more' u)) e ∙ sym pass_next

    pub pass_stop : (r : Refusal) → Err r ≡ item_pass (f (get_or xs i d)) kept s → Err r ≡ items_pass (map f (drop i xs)) kept s
    pass_stop r e = ap (λ o. pass_then o (λ more u. items_pass (map f (drop (i + 1) xs)) more u)) e ∙ sym pass_next

  module _ (s : Cursor) where
    to_next : passed_to (map f (drop i xs)) s ≡ going_on (item_pass (f (get_or xs i d)) [] s) (passed_to (map f (drop (i + 1) xs)) (after_token s)) (after_token s)
    unfolding passed_to
    to_next = ap (λ ys. passed_to (map f ys) s) (drop_more xs i d lt)

    -- and where the reader is then
    pub to_on : (more : List ℤ) (t : Cursor) → Ok (more, t) ≡ item_pass (f (get_or xs i d)) [] s → passed_to (map f (drop (i + 1) xs)) (after_token s) ≡ passed_to (map f (drop i xs)) s
    to_on more t e = ap (λ o. going_on o (passed_to (map f (drop (i + 1) xs)) (after_token s)) (after_token s)) e ∙ sym to_next

    pub to_stop : (r : Refusal) → Err r ≡ item_pass (f (get_or xs i d)) [] s → after_token s ≡ passed_to (map f (drop i xs)) s
    to_stop r e = ap (λ o. going_on o (passed_to (map f (drop (i + 1) xs)) (after_token s)) (after_token s)) e ∙ sym to_next

-- nothing is left
pub pass_done : {X : Type 0} (f : X → Item) (xs : List X) (i : ℕ) → length xs ≤ i → (kept : List ℤ) (s : Cursor) → Ok (kept, s) ≡ items_pass (map f (drop i xs)) kept s
unfolding items_pass
pass_done f xs i h kept s = sym (ap (λ ys. items_pass (map f ys) kept s) (drop_all i xs h))

pub to_done : {X : Type 0} (f : X → Item) (xs : List X) (i : ℕ) → length xs ≤ i → (s : Cursor) → s ≡ passed_to (map f (drop i xs)) s
unfolding passed_to
to_done f xs i h s = sym (ap (λ ys. passed_to (map f ys) s) (drop_all i xs h))

-- a list of items in two parts
module _ (ds es : List Item) (kept : List ℤ) (s : Cursor) where
  pub stop_first : (r : Refusal) → Err r ≡ items_pass ds kept s → Err r ≡ items_pass (ds ++ es) kept s
  stop_first r e = ap (λ o. pass_then o (λ more t. items_pass es more t)) e ∙ sym (pass_append ds es kept s)

  pub on_first : (more : List ℤ) (t : Cursor) → Ok (more, t) ≡ items_pass ds kept s → items_pass es more t ≡ items_pass (ds ++ es) kept s
  on_first more t e = ap (λ o. pass_then o (λ more' t'. items_pass es more' t')) e ∙ sym (pass_append ds es kept s)

-- one number more stands behind those that were kept
pub kept_more : (kept ns ms : List ℤ) (at at' : ℕ) (z y : ℤ) → ms ≡ set ns at y → at' ≡ at + 1 → y ≡ z → at < length ns → kept ++ take at' ms ≡ (kept ++ take at ns) ++ z ∷ []
kept_more kept ns ms at at' z y m-is a-is y-is lt =
    (λ i. kept ++ take (a-is i) (m-is i))
    ∙ ap (λ x. kept ++ take (at + 1) (set ns at x)) y-is
    ∙ ap (λ zs. kept ++ zs) (take_more_set ns at z lt)
    ∙ sym (append_assoc kept (take at ns) (z ∷ []))
