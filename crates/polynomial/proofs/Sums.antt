-- Lists made from a function of the place, and sums over places. Assumes nothing but the laws of the field.
use Rattle.std.proofs.Common.{◌≡◌, ℕ, zero, suc, ◌+◌, ◌*◌, ◌<◌, ◌≤◌, ◌≢◌, ◌⊎◌, List, [], ◌∷◌, ◌++◌, map, fold, length, get_or, take, sym, refl, ap, ◌∙◌, ap₂, inl, inr, arith}
use Rattle.std.proofs.lemmas.List.{take_more}
use Rattle.field.specs.Field.{FieldModel, LawfulField}
use Rattle.field.proofs.Solver.{sides, solve, zero-add}
use Rattle.polynomial.specs.Lists.{listed}
use Rattle.std.specs.List.{AllByRecursion}
use Rattle.polynomial.specs.Sums.{sum_from, list_sum}
use Rattle.polynomial.specs.Interpolation.{chi}
use Rattle.polynomial.proofs.Excepts.{eqb_cases}
use Rattle.polynomial.proofs.Lagrange.{mixed}

module _ {A : Type 0} where
  pub length-listed : (j n : ℕ) (f : ℕ → A) → length (listed j n f) ≡ n
  length-listed j zero f = refl
  length-listed j (suc n) f = ap suc (length-listed (suc j) n f)

  pub get_or-listed : (j n : ℕ) (f : ℕ → A) (i : ℕ) (d : A) → i < n → get_or (listed j n f) i d ≡ f (j + i)
  get_or-listed j zero f i d h = absurd (omega arith)
  get_or-listed j (suc n) f zero d h = let e : j ≡ j + 0 = omega arith in ap f e
  get_or-listed j (suc n) f (suc i) d h = let e : suc j + i ≡ j + suc i = omega arith in get_or-listed (suc j) n f i d (omega arith) ∙ ap f e

  pub take-listed : (j m n : ℕ) (f : ℕ → A) → m ≤ n → take m (listed j n f) ≡ listed j m f
  take-listed j zero zero f h = refl
  take-listed j zero (suc n) f h = refl
  take-listed j (suc m) zero f h = absurd (omega arith)
  take-listed j (suc m) (suc n) f h = ap (◌∷◌ (f j)) (take-listed (suc j) m n f (omega arith))

  pub listed_cong : (j n : ℕ) (f g : ℕ → A) → ((i : ℕ) → j ≤ i → i < j + n → f i ≡ g i) → listed j n f ≡ listed j n g
  listed_cong j zero f g h = refl
  listed_cong j (suc n) f g h = ap₂ ◌∷◌ (h j (omega arith) (omega arith)) (listed_cong (suc j) n f g (λ i b c. h i (omega arith) (omega arith)))

  pub each_listed : (P : A → Type 0) (j n : ℕ) (f : ℕ → A) → ((i : ℕ) → P (f i)) → AllByRecursion P (listed j n f)
  each_listed P j zero f h = tt
  each_listed P j (suc n) f h = (h j, each_listed P (suc j) n f h)

pub map-listed : {A B : Type 0} (t : A → B) (j n : ℕ) (f : ℕ → A) → map t (listed j n f) ≡ listed j n (λ i. t (f i))
map-listed t j zero f = refl
map-listed t j (suc n) f = ap (◌∷◌ (t (f j))) (map-listed t (suc j) n f)

module _ {K : Type 0} {F : FieldModel K} (L : LawfulField F) where
  -- ---- sums of lists
  pub list_sum-append : (xs ys : List K) → list_sum F (xs ++ ys) ≡ F.add (list_sum F xs) (list_sum F ys)
  list_sum-append [] ys = sym (zero-add L.ring (list_sum F ys))
  list_sum-append (x ∷ xs) ys = ap (F.add x) (list_sum-append xs ys) ∙ sym (L.ring.add_assoc x (list_sum F xs) (list_sum F ys))

  -- one element more of a list
  pub list_sum_more : (xs : List K) (i : ℕ) (x : K) → i < length xs → x ≡ get_or xs i x → list_sum F (take (i + 1) xs) ≡ F.add (list_sum F (take i xs)) x
  list_sum_more xs i x within read =
      ap (list_sum F) (take_more xs i x within ∙ ap (λ y. take i xs ++ (y ∷ [])) (sym read))
      ∙ list_sum-append (take i xs) (x ∷ []) ∙ ap (F.add (list_sum F (take i xs))) (L.ring.add-zero x)

  fold-add : (a : K) (xs : List K) → fold F.add a xs ≡ F.add a (list_sum F xs)
  fold-add a [] = sym (L.ring.add-zero a)
  fold-add a (x ∷ xs) = fold-add (F.add a x) xs ∙ L.ring.add_assoc a x (list_sum F xs)

  -- the sum of a list, added up from its first element on
  pub fold-sum : {z : K} → z ≡ F.zero → (xs : List K) → fold F.add z xs ≡ list_sum F xs
  fold-sum {z} i xs = fold-add z xs ∙ ap (λ a. F.add a (list_sum F xs)) i ∙ zero-add L.ring (list_sum F xs)

  pub list_sum-listed : (j n : ℕ) (f : ℕ → K) → list_sum F (listed j n f) ≡ sum_from F j n f
  list_sum-listed j zero f = refl
  list_sum-listed j (suc n) f = ap (F.add (f j)) (list_sum-listed (suc j) n f)

  -- ---- sums over places
  pub sum_cong : (j n : ℕ) (f g : ℕ → K) → ((i : ℕ) → j ≤ i → i < j + n → f i ≡ g i) → sum_from F j n f ≡ sum_from F j n g
  sum_cong j zero f g h = refl
  sum_cong j (suc n) f g h = ap₂ F.add (h j (omega arith) (omega arith)) (sum_cong (suc j) n f g (λ i b c. h i (omega arith) (omega arith)))

  pub sum-add : (j n : ℕ) (f g : ℕ → K) → sum_from F j n (λ k. F.add (f k) (g k)) ≡ F.add (sum_from F j n f) (sum_from F j n g)
  sum-add j zero f g = sym (L.ring.add-zero _)
  sum-add j (suc n) f g =
      ap (F.add (F.add (f j) (g j))) (sum-add (suc j) n f g)
      ∙ solve L.ring (f j ∷ g j ∷ sum_from F (suc j) n f ∷ sum_from F (suc j) n g ∷ []) (search sides depth 30) refl

  pub mixed_listed : (h j n : ℕ) (g : ℕ → K) (X : K) → mixed L h j (listed j n g) X ≡ sum_from F j n (λ x. F.mul (g x) (chi F h x X))
  mixed_listed h j zero g X = refl
  mixed_listed h j (suc n) g X = ap (F.add (F.mul (g j) (chi F h j X))) (mixed_listed h (suc j) n g X)

  -- one summand has grown by d
  pub sum_change : (j n x : ℕ) (f g : ℕ → K) (d : K) → j ≤ x → x < j + n → ((k : ℕ) → j ≤ k → k < j + n → k ≢ x → f k ≡ g k) → f x ≡ F.add (g x) d → sum_from F j n f ≡ F.add (sum_from F j n g) d
  sum_change j zero x f g d b c h e = absurd (omega arith)
  sum_change j (suc n) x f g d b c h e = go (eqb_cases j x) (sum_change (suc j) n x f g d)
    where
      go : (j ≡ x) ⊎ (j ≢ x)
          → (suc j ≤ x → x < suc j + n → ((k : ℕ) → suc j ≤ k → k < suc j + n → k ≢ x → f k ≡ g k) → f x ≡ F.add (g x) d → sum_from F (suc j) n f ≡ F.add (sum_from F (suc j) n g) d)
          → F.add (f j) (sum_from F (suc j) n f) ≡ F.add (F.add (g j) (sum_from F (suc j) n g)) d
      go (inl s) r =
          ap₂ F.add (ap f s ∙ e ∙ ap (λ k. F.add (g k) d) (sym s)) (sum_cong (suc j) n f g (λ i p q. h i (omega arith) (omega arith) (omega arith)))
          ∙ solve L.ring (g j ∷ d ∷ sum_from F (suc j) n g ∷ []) (search sides depth 30) refl
      go (inr s) r =
          ap₂ F.add (h j (omega arith) (omega arith) s) (r (omega arith) (omega arith) (λ k p q u. h k (omega arith) (omega arith) u) e)
          ∙ solve L.ring (g j ∷ d ∷ sum_from F (suc j) n g ∷ []) (search sides depth 30) refl

  pub sum_zeros : (j n : ℕ) → sum_from F j n (λ k. F.zero) ≡ F.zero
  sum_zeros j zero = refl
  sum_zeros j (suc n) = zero-add L.ring _ ∙ sum_zeros (suc j) n

  -- all summands but one are zero
  pub sum_single : (n x : ℕ) (f : ℕ → K) → x < n → ((k : ℕ) → k < n → k ≢ x → f k ≡ F.zero) → sum_from F 0 n f ≡ f x
  sum_single n x f b h =
      sum_change 0 n x f (λ k. F.zero) (f x) (omega arith) (omega arith) (λ k p q u. h k (omega arith) u) (sym (zero-add L.ring (f x)))
      ∙ ap (λ w. F.add w (f x)) (sum_zeros 0 n) ∙ zero-add L.ring (f x)

  -- m summands, then n
  pub sum_split : (a m n : ℕ) (f : ℕ → K) → sum_from F a (m + n) f ≡ F.add (sum_from F a m f) (sum_from F (a + m) n f)
  sum_split a zero n f =
      let e : 0 + n ≡ n = omega arith in
      let s : a + 0 ≡ a = omega arith in
      ap (λ k. sum_from F a k f) e ∙ ap (λ k. sum_from F k n f) (sym s) ∙ sym (zero-add L.ring _)
  sum_split a (suc m) n f =
      let e : suc m + n ≡ suc (m + n) = omega arith in
      let s : suc a + m ≡ a + suc m = omega arith in
      ap (λ k. sum_from F a k f) e ∙ ap (F.add (f a)) (sum_split (suc a) m n f ∙ ap (λ k. F.add (sum_from F (suc a) m f) (sum_from F k n f)) s) ∙ sym (L.ring.add_assoc _ _ _)

  pub sum_shift : (a j n : ℕ) (f : ℕ → K) → sum_from F (a + j) n f ≡ sum_from F j n (λ y. f (a + y))
  sum_shift a j zero f = refl
  sum_shift a j (suc n) f = let e : suc (a + j) ≡ a + suc j = omega arith in ap (F.add (f (a + j))) (ap (λ k. sum_from F k n f) e ∙ sum_shift a (suc j) n f)

  -- n rows of v summands, the first of them row j
  pub sum_rows : (v j n : ℕ) (f : ℕ → K) → sum_from F j n (λ x. sum_from F 0 v (λ y. f (x * v + y))) ≡ sum_from F (j * v) (n * v) f
  sum_rows v j zero f = let e : 0 * v ≡ 0 = omega arith in ap (λ k. sum_from F (j * v) k f) (sym e)
  sum_rows v j (suc n) f =
      let e : v + n * v ≡ suc n * v = omega arith in
      let s : suc j * v ≡ j * v + v = omega arith in
      let z : j * v + 0 ≡ j * v = omega arith in
      ap₂ F.add (sym (sum_shift (j * v) 0 v f) ∙ ap (λ k. sum_from F k v f) z) (sum_rows v (suc j) n f ∙ ap (λ k. sum_from F k (n * v) f) s)
      ∙ sym (sum_split (j * v) v (n * v) f) ∙ ap (λ k. sum_from F (j * v) k f) e

  -- a sum over all cells, row by row
  pub all_cells : (h v : ℕ) (f : ℕ → K) → sum_from F 0 h (λ x. sum_from F 0 v (λ y. f (x * v + y))) ≡ sum_from F 0 (h * v) f
  all_cells h v f = let e : 0 * v ≡ 0 = omega arith in sum_rows v 0 h f ∙ ap (λ k. sum_from F k (h * v) f) e
