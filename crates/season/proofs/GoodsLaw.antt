-- The question about goods is lawful. Assumes nothing but the laws of the field.
use Rattle.std.proofs.Common.{◌≡◌, ℕ, zero, suc, ◌+◌, ◌*◌, ◌/◌, ◌%◌, ◌<◌, ◌≤◌, Bool, true, false, cond, eqb, List, [], ◌∷◌, map, length, get_or, ℤ, pos, sym, refl, ap, ◌∙◌, ap₂, arith}
use Rattle.field.specs.Field.{FieldModel, LawfulField}
use Rattle.field.proofs.Consequences.{limit_small}
use Rattle.board.specs.Ledger.{abs_sum}
use Rattle.polynomial.specs.Lists.{listed}
use Rattle.std.specs.List.{AllByRecursion}
use Rattle.polynomial.specs.Sums.{sum_from}
use Rattle.polynomial.specs.Polynomials.{eval, poly_add}
use Rattle.polynomial.specs.Columns.{count_image, row_images}
use Rattle.polynomial.proofs.Evals.{eval-poly_add, length-poly_add}
use Rattle.polynomial.proofs.Sums.{sum_cong, all_cells}
use Rattle.question.specs.Question.{LawfulQuestion}
use Rattle.season.specs.Goods.{goods_tally, goods_rule, goods_question, GoodsLawful}
use Rattle.season.proofs.Tallies.{cond-abs, goods_abs}
use Rattle.board.proofs.Grids.{allowed_grid}
use Rattle.season.proofs.Bounds.{abs_least, abs_most, narrow_limit, limit_range, neg_limit_range}

-- a row has a multiple of eight columns, so a cell and its column are of the same goods
same_goods : (v x y : ℕ) → v % 8 ≡ 0 → (x * v + y) % 8 ≡ y % 8
same_goods v x y e =
    let w : v ≡ 8 * (v / 8) = omega arith in
    let p : x * v ≡ 8 * (x * (v / 8)) = ap (λ n. x * n) w ∙ omega arith in
    omega arith

module _ {K : Type 0} {F : FieldModel K} (L : LawfulField F) where
  image-cond : (b : Bool) (f : ℤ) → F.image (cond b f (pos 0)) ≡ cond b (F.image f) F.zero
  image-cond true f = refl
  image-cond false f = L.images.of_zero

  -- ---- goods
  module _ (g : ℕ) where
    goods_listed : (j n : ℕ) (f : ℕ → K) → goods_rule F g j (listed j n f) ≡ sum_from F j n (λ y. cond (eqb (y % 8) g) (f y) F.zero)
    goods_listed j zero f = refl
    goods_listed j (suc n) f = ap (F.add (cond (eqb (j % 8) g) (f j) F.zero)) (goods_listed (suc j) n f)

    goods_image : (j : ℕ) (fs : List ℤ) (G : ℕ → ℤ) → ((k : ℕ) → k < length fs → G (j + k) ≡ get_or fs k (pos 0)) → abs_sum fs ≤ 2147483647
        → sum_from F j (length fs) (λ i. cond (eqb (i % 8) g) (F.image (G i)) F.zero) ≡ F.image (goods_tally g j fs)
    goods_image j [] G e b = sym L.images.of_zero
    goods_image j (f ∷ fs) G e b =
        let z : j ≡ j + 0 = omega arith in
        ap₂ F.add
        (ap (λ n. cond (eqb (j % 8) g) (F.image n) F.zero) (ap G z ∙ e 0 (omega arith)) ∙ sym (image-cond (eqb (j % 8) g) f))
        (goods_image (suc j) fs G (λ k c. let s : suc j + k ≡ j + suc k = omega arith in ap G s ∙ e (suc k) (omega arith)) (omega arith))
        ∙ sym (L.images.of_add (cond (eqb (j % 8) g) f (pos 0)) (goods_tally g (suc j) fs) (omega (arith, cond-abs (eqb (j % 8) g) f)) (omega (arith, goods_abs g (suc j) fs)) (omega (arith, goods_abs g j (f ∷ fs))))

    goods_add_up : (h v : ℕ) (fs : List ℤ) → v % 8 ≡ 0 → length fs ≡ h * v → abs_sum fs ≤ 2147483647 → sum_from F 0 h (λ x. goods_rule F g 0 (row_images F v fs x)) ≡ F.image (goods_tally g 0 fs)
    goods_add_up h v fs e n b =
        sum_cong L 0 h _ _ (λ x p q. goods_listed 0 v (λ y. count_image F v fs y x)
        ∙ sum_cong L 0 v _ (λ y. cond (eqb ((x * v + y) % 8) g) (F.image (get_or fs (x * v + y) (pos 0))) F.zero) (λ y c d. ap (λ k. cond (eqb k g) (count_image F v fs y x) F.zero) (sym (same_goods v x y e))))
        ∙ all_cells L h v (λ i. cond (eqb (i % 8) g) (F.image (get_or fs i (pos 0))) F.zero)
        ∙ ap (λ k. sum_from F 0 k (λ i. cond (eqb (i % 8) g) (F.image (get_or fs i (pos 0))) F.zero)) (sym n)
        ∙ goods_image 0 fs (λ i. get_or fs i (pos 0)) (λ k c. let z : 0 + k ≡ k = omega arith in ap (λ i. get_or fs i (pos 0)) z) b

    goods_poly : ℕ → List (List K) → List K
    goods_poly j [] = []
    goods_poly j (p ∷ ps) = poly_add F (cond (eqb (j % 8) g) p []) (goods_poly (suc j) ps)

    eval_goods : (j : ℕ) (ps : List (List K)) (X : K) → eval F (goods_poly j ps) X ≡ goods_rule F g j (map (λ p. eval F p X) ps)
    unfolding goods_poly
    eval_goods j [] X = refl
    eval_goods j (p ∷ ps) X = eval-poly_add L (cond (eqb (j % 8) g) p []) (goods_poly (suc j) ps) X ∙ ap₂ F.add (part (eqb (j % 8) g)) (eval_goods (suc j) ps X)
      where
        part : (b : Bool) → eval F (cond b p []) X ≡ cond b (eval F p X) F.zero
        part true = refl
        part false = refl

    length_goods : (n j : ℕ) (ps : List (List K)) → AllByRecursion (λ p. length p ≤ n) ps → length (goods_poly j ps) ≤ n
    unfolding goods_poly
    length_goods n j [] e = omega arith
    length_goods n j (p ∷ ps) e = length-poly_add L (cond (eqb (j % 8) g) p []) (goods_poly (suc j) ps) n (part (eqb (j % 8) g)) (length_goods n (suc j) ps e.1)
      where
        part : (b : Bool) → length (cond b p []) ≤ n
        part true = e.0
        part false = omega arith

    pub lawful_at : g ≤ 4294967295 → LawfulQuestion F (goods_question F g)
    lawful_at small = record {
      tag_small = omega arith;
      degree_least = λ h v fits. omega arith;
      degree_most = λ h v fits. omega arith;
      polynomial = λ h v fits ps n e.
          let gr = allowed_grid h v fits.grid in
          record { poly = goods_poly 0 ps; short = omega (arith, length_goods h 0 ps e, gr.rows_least); value = eval_goods 0 ps };
      rows_add_up = λ h v fits fs w. goods_add_up h v fs (allowed_grid h v fits.grid).columns_eighths w.size (omega (arith, w.light, limit_small L));
      tally_least = λ h v fits fs w. abs_least (goods_tally g 0 fs) F.limit (omega (arith, goods_abs g 0 fs, w.light));
      tally_most = λ h v fits fs w. abs_most (goods_tally g 0 fs) F.limit (omega (arith, goods_abs g 0 fs, w.light));
      narrow = λ h v fits. narrow_limit L;
      least_range = λ h v fits. neg_limit_range L;
      greatest_range = λ h v fits. limit_range L;
    }

  pub goods_lawful : GoodsLawful F
  goods_lawful g small = lawful_at g small
