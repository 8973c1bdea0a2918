-- A form read line by line: what a pass of one line's items says of the pass of all. Assumes nothing.
use Rattle.std.proofs.Common.{◌≡◌, ◌<◌, List, [], ◌∷◌, ◌++◌, length, get_or, take, ℤ, pos, Ok, Err, sym, refl, ap, ◌∙◌, append-nil, arith}
use Rattle.refusal.specs.declared.refusal.Refusal.{Refusal}
use Rattle.text.specs.Tokens.{Cursor}
use Rattle.text.specs.Items.{Item, stated_count, items_pass}
use Rattle.text.proofs.Passes.{stop_first, on_first}

-- the code's items are those of a line
module _ (items line : List Item) (same : items ≡ line) (kept : List ℤ) (s : Cursor) where
  -- a refusal, and the numbers of the line, as a line alone or the last
  pub last_stops : (r : Refusal) → Err r ≡ items_pass items kept s → Err r ≡ items_pass line kept s
  last_stops r e = e ∙ ap (λ ds. items_pass ds kept s) same

  module _ (numbers : List ℤ) (t : Cursor) (read : Ok (kept ++ take (stated_count items) numbers, t) ≡ items_pass items kept s) where
    pub last_read : (zs : List ℤ) → take (stated_count line) numbers ≡ zs → Ok (kept ++ zs, t) ≡ items_pass line kept s
    last_read zs are = ap (λ ys. Ok (kept ++ ys, t)) (sym are) ∙ ap (λ ds. Ok (kept ++ take (stated_count ds) numbers, t)) (sym same) ∙ read ∙ ap (λ ds. items_pass ds kept s) same

    pub last_passed : stated_count line ≡ 0 → Ok (kept, t) ≡ items_pass line kept s
    last_passed none = ap (λ ys. Ok (ys, t)) (sym (append-nil kept)) ∙ last_read [] (ap (λ n. take n numbers) none)

  -- and as one that others follow
  module _ (later : List Item) where
    pub line_stops : (r : Refusal) → Err r ≡ items_pass items kept s → Err r ≡ items_pass (line ++ later) kept s
    line_stops r e = stop_first line later kept s r (last_stops r e)

    module _ (numbers : List ℤ) (t : Cursor) (read : Ok (kept ++ take (stated_count items) numbers, t) ≡ items_pass items kept s) where
      pub line_read : (zs : List ℤ) → take (stated_count line) numbers ≡ zs → items_pass later (kept ++ zs) t ≡ items_pass (line ++ later) kept s
      line_read zs are = on_first line later kept s (kept ++ zs) t (last_read numbers t read zs are)

      pub line_passed : stated_count line ≡ 0 → items_pass later kept t ≡ items_pass (line ++ later) kept s
      line_passed none = on_first line later kept s kept t (last_passed numbers t read none)

-- one number in front, and two
pub take_one : (zs : List ℤ) → 0 < length zs → take 1 zs ≡ get_or zs 0 (pos 0) ∷ []
take_one [] h = absurd (omega arith)
take_one (x ∷ zs) h = refl

pub take_two : (zs : List ℤ) → 1 < length zs → take 2 zs ≡ get_or zs 0 (pos 0) ∷ get_or zs 1 (pos 0) ∷ []
take_two [] h = absurd (omega arith)
take_two (x ∷ []) h = absurd (omega arith)
take_two (x ∷ y ∷ zs) h = refl
