-- Steps of the host's loops. Assumes nothing but the laws of the field.
use Rattle.std.proofs.Common.{◌≡◌, ℕ, zero, suc, ◌+◌, ◌-◌, ◌*◌, ◌<◌, ◌≤◌, List, [], ◌∷◌, ◌++◌, length, get_or, take, drop, set, replicate, ℤ, pos, negsuc, nat_abs, sym, refl, ap, ◌∙◌, ap₂, arith, get_or-drop, get_or-take, w32, SFits}
use Rattle.field.specs.Field.{FieldModel, LawfulField}
use Rattle.polynomial.specs.Interpolation.{node, chi}
use Rattle.polynomial.specs.Lists.{listed}
use Rattle.polynomial.specs.Sums.{sum_from}
use Rattle.polynomial.specs.Columns.{count_image, columns_at, row_images}
use Rattle.polynomial.proofs.Columns.{columns_extend}
use Rattle.polynomial.proofs.Sums.{listed_cong}
use Rattle.board.specs.Banks.{filled}
use Rattle.host.specs.Rows.{added_row}

module _ {K : Type 0} (F : FieldModel K) (b : K) where
  -- the first n of them
  abbrev pub added_first : ℕ → List K → List ℤ → List K
  added_first zero cs fs = cs
  added_first (suc n) [] fs = []
  added_first (suc n) (c ∷ cs) [] = c ∷ cs
  added_first (suc n) (c ∷ cs) (f ∷ fs) = F.add (F.mul (F.image f) b) c ∷ added_first n cs fs

  pub added_more : (y : ℕ) (cs : List K) (fs : List ℤ) (v : K) → y < length cs → length cs ≤ length fs → v ≡ get_or (added_first y cs fs) y v
      → set (added_first y cs fs) y (F.add (F.mul (F.image (get_or fs y (pos 0))) b) v) ≡ added_first (y + 1) cs fs
  added_more y cs fs v h l e = go y cs fs v h l e ∙ (let s : suc y ≡ y + 1 = omega arith in ap (λ n. added_first n cs fs) s)
    where
      go : (y : ℕ) (cs : List K) (fs : List ℤ) (v : K) → y < length cs → length cs ≤ length fs → v ≡ get_or (added_first y cs fs) y v
          → set (added_first y cs fs) y (F.add (F.mul (F.image (get_or fs y (pos 0))) b) v) ≡ added_first (suc y) cs fs
      go zero [] fs v h l e = absurd (omega arith)
      go (suc y) [] fs v h l e = absurd (omega arith)
      go zero (c ∷ cs) [] v h l e = absurd (omega arith)
      go (suc y) (c ∷ cs) [] v h l e = absurd (omega arith)
      go zero (c ∷ cs) (f ∷ fs) v h l e = ap (λ w. F.add (F.mul (F.image f) b) w ∷ cs) e
      go (suc y) (c ∷ cs) (f ∷ fs) v h l e = ap (◌∷◌ (F.add (F.mul (F.image f) b) c)) (go y cs fs v (omega arith) (omega arith) e)

  pub added_all : (n : ℕ) (cs : List K) (fs : List ℤ) → length cs ≤ n → added_first n cs fs ≡ added_row F b cs fs
  added_all zero [] fs h = refl
  added_all zero (c ∷ cs) fs h = absurd (omega arith)
  added_all (suc n) [] fs h = refl
  added_all (suc n) (c ∷ cs) [] h = refl
  added_all (suc n) (c ∷ cs) (f ∷ fs) h = ap (◌∷◌ (F.add (F.mul (F.image f) b) c)) (added_all n cs fs (omega arith))

  pub length_first : (n : ℕ) (cs : List K) (fs : List ℤ) → length (added_first n cs fs) ≡ length cs
  length_first zero cs fs = refl
  length_first (suc n) [] fs = refl
  length_first (suc n) (c ∷ cs) [] = refl
  length_first (suc n) (c ∷ cs) (f ∷ fs) = ap suc (length_first n cs fs)

  added_listed : (j n : ℕ) (G : ℕ → K) (fs : List ℤ) → n ≤ length fs → added_row F b (listed j n G) fs ≡ listed j n (λ y. F.add (F.mul (F.image (get_or fs (y - j) (pos 0))) b) (G y))
  added_listed j zero G fs h = refl
  added_listed j (suc n) G [] h = absurd (omega arith)
  added_listed j (suc n) G (f ∷ fs) h =
      let z : j - j ≡ 0 = omega arith in
      ap₂ ◌∷◌ (ap (λ k. F.add (F.mul (F.image (get_or (f ∷ fs) k (pos 0))) b) (G j)) (sym z))
      (added_listed (suc j) n G fs (omega arith)
      ∙ listed_cong (suc j) n _ _ (λ y p q. let s : y - j ≡ suc (y - suc j) = omega arith in ap (λ k. F.add (F.mul (F.image (get_or (f ∷ fs) k (pos 0))) b) (G y)) (sym s)))

-- the columns from the row x on
abbrev pub columns_from : {K : Type 0} → FieldModel K → ℕ → ℕ → List ℤ → K → ℕ → List K
columns_from F h v fs X x = listed 0 v (λ y. sum_from F x (h - x) (λ k. F.mul (count_image F v fs y k) (chi F h k X)))

pub columns_none : {K : Type 0} (F : FieldModel K) (h v : ℕ) (fs : List ℤ) (X : K) → replicate v F.zero ≡ columns_from F h v fs X h
columns_none F h v fs X = let z : h - h ≡ 0 = omega arith in go 0 v ∙ ap (λ n. listed 0 v (λ y. sum_from F h n (λ k. F.mul (count_image F v fs y k) (chi F h k X)))) (sym z)
  where
    go : (j n : ℕ) → replicate n F.zero ≡ listed j n (λ y. F.zero)
    go j zero = refl
    go j (suc n) = ap (◌∷◌ F.zero) (go (suc j) n)

pub columns_more : {K : Type 0} (F : FieldModel K) (h v : ℕ) (fs : List ℤ) (X : K) (x : ℕ) (row : List ℤ) → x < h → v ≤ length row → ((y : ℕ) → y < v → get_or row y (pos 0) ≡ get_or fs (x * v + y) (pos 0))
    → added_row F (chi F h x X) (columns_from F h v fs X (suc x)) row ≡ columns_from F h v fs X x
columns_more F h v fs X x row b l e =
    let s : h - x ≡ suc (h - suc x) = omega arith in
    added_listed F (chi F h x X) 0 v _ row l
    ∙ listed_cong 0 v _ _ (λ y p q. let z : y - 0 ≡ y = omega arith in
    ap (λ n. F.add (F.mul (F.image n) (chi F h x X)) (sum_from F (suc x) (h - suc x) (λ k. F.mul (count_image F v fs y k) (chi F h k X)))) (ap (λ k. get_or row k (pos 0)) z ∙ e y (omega arith))
    ∙ ap (λ n. sum_from F x n (λ k. F.mul (count_image F v fs y k) (chi F h k X))) (sym s))

-- at a row the columns are the images of its counts
pub columns_at_row : {K : Type 0} {F : FieldModel K} (L : LawfulField F) (h v : ℕ) (fs : List ℤ) (x : ℕ) → h ≤ 65537 → x < h → row_images F v fs x ≡ columns_at F h v fs (node F x)
columns_at_row L h v fs x most inside = listed_cong 0 v _ _ (λ y p q. sym ((columns_extend L h v fs y most).at_rows x inside))

pub row_at : (fs : List ℤ) (a v y : ℕ) → y < v → get_or (take v (drop a fs)) y (pos 0) ≡ get_or fs (a + y) (pos 0)
row_at fs a v y h = get_or-take v (drop a fs) y (pos 0) h ∙ get_or-drop a fs y (pos 0)

pub ranged_fits : (z : ℤ) → nat_abs z ≤ 2147483647 → SFits w32 z
ranged_fits (pos n) h = record { sfits = omega arith }
ranged_fits (negsuc n) h = record { sfits = omega arith }

-- a slice that is filled whole
pub filled_whole : {A : Type 0} (z : A) (cells : List A) → filled (length cells) z cells ≡ replicate (length cells) z
filled_whole z [] = refl
filled_whole z (c ∷ cells) = ap (◌∷◌ z) (filled_whole z cells)

module _ {A : Type 0} (G : ℕ → A) where
  listed_next : (i j : ℕ) (old : List A) (a : A) → j < length old → a ≡ G (i + j) → set (listed i j G ++ drop j old) j a ≡ listed i (suc j) G ++ drop (suc j) old
  listed_next i j [] a h e = absurd (omega arith)
  listed_next i zero (o ∷ old) a h e = let s : i + 0 ≡ i = omega arith in ap (λ w. w ∷ old) (e ∙ ap G s)
  listed_next i (suc j) (o ∷ old) a h e = let s : i + suc j ≡ suc i + j = omega arith in ap (◌∷◌ (G i)) (listed_next (suc i) j old a (omega arith) (e ∙ ap G s))

  pub listed_more : (j : ℕ) (old : List A) (a : A) → j < length old → a ≡ G j → set (listed 0 j G ++ drop j old) j a ≡ listed 0 (j + 1) G ++ drop (j + 1) old
  listed_more j old a h e =
      let z : j ≡ 0 + j = omega arith in
      let s : suc j ≡ j + 1 = omega arith in
      listed_next 0 j old a h (e ∙ ap G z) ∙ ap (λ n. listed 0 n G ++ drop n old) s

  listed_end : (i j : ℕ) (old : List A) → length old ≤ j → j ≤ length old → listed i j G ++ drop j old ≡ listed i (length old) G
  listed_end i zero [] h k = refl
  listed_end i zero (o ∷ old) h k = absurd (omega arith)
  listed_end i (suc j) [] h k = absurd (omega arith)
  listed_end i (suc j) (o ∷ old) h k = ap (◌∷◌ (G i)) (listed_end (suc i) j old (omega arith) (omega arith))

  pub listed_all : (j : ℕ) (old : List A) → length old ≤ j → j ≤ length old → listed 0 j G ++ drop j old ≡ listed 0 (length old) G
  listed_all j old h k = listed_end 0 j old h k
