-- Each of this season's questions is lawful, and its tag names it. Assumes nothing but the laws of the field.
use Rattle.std.proofs.Common.{◌≡◌, Bool, true, false, cond, Option, Some, ℕ, sym, refl, ap, ◌∙◌, ap₂, subst, eqb-true}
use Rattle.std.proofs.lemmas.Bool.{and_parts}
use Rattle.std.specs.Prelude.{◌&&◌, ◌==◌}
use Rattle.board.specs.declared.tag.Tag.{Tag}
use Rattle.field.specs.Field.{FieldModel, LawfulField}
use Rattle.season.specs.declared.season.Season.{Season}
use Rattle.season.specs.declared.season.Season.TheVariants as season
use Rattle.season.specs.Season.{SeasonLawful, TagsName, season_of, season_question}
use Rattle.season.proofs.CellsLaw.{cell_lawful, range_lawful}
use Rattle.season.proofs.GoodsLaw.{goods_lawful}
use Rattle.season.proofs.SquaresLaw.{squares_lawful}

module _ {K : Type 0} {F : FieldModel K} (L : LawfulField F) where
  pub season_lawful : SeasonLawful F
  season_lawful (season.Cell q) t = cell_lawful L q.index t.1
  season_lawful (season.Goods q) t = goods_lawful L q.kind t.1
  season_lawful (season.Range q) t = range_lawful L q.first q.last t.1 t.2
  season_lawful (season.Squares q) t = squares_lawful L

-- what holds of the first choice, and of what is chosen from the rest, holds of what is chosen
chosen : {A : Type 0} (P : A → Type 0) (b : Bool) (x : A) (rest : Option A) → (b ≡ true → P x) → ((q : A) → rest ≡ Some q → P q) → (q : A) → cond b (Some x) rest ≡ Some q → P q
chosen P true x rest first others q e =
    let same : x ≡ q = cc in
    subst P same (first refl)
chosen P false x rest first others q e = others q e

-- a tag by its numbers
same_tag : (t : Tag) {k a b : ℕ} → t.kind ≡ k → t.first ≡ a → t.second ≡ b → record { kind = k; first = a; second = b } ≡ t
same_tag t e f h = sym (ap (λ k. numbered k t.first t.second) e ∙ ap₂ (numbered _) f h)
  where
    numbered : ℕ → ℕ → ℕ → Tag
    numbered k a b = record { kind = k; first = a; second = b }

module _ {K : Type 0} (F : FieldModel K) where
  pub tags_name : TagsName F
  tags_name = record { named = named; tagged = tagged }
    where
      named : (q : Season) → season_of (season_question F q).tag ≡ Some q
      named (season.Cell q) = refl
      named (season.Goods q) = refl
      named (season.Range q) = refl
      named (season.Squares q) = refl

      tagged : (t : Tag) (q : Season) → season_of t ≡ Some q → (season_question F q).tag ≡ t
      tagged t =
          chosen (λ q. (season_question F q).tag ≡ t) (t.kind == 1 && t.second == 0) _ _ (λ e. let (k, b) = and_parts _ _ e in same_tag t (eqb-true _ _ k) refl (eqb-true _ _ b))
          (chosen _ (t.kind == 2 && t.second == 0) _ _ (λ e. let (k, b) = and_parts _ _ e in same_tag t (eqb-true _ _ k) refl (eqb-true _ _ b))
          (chosen _ (t.kind == 3) _ _ (λ e. same_tag t (eqb-true _ _ e) refl refl)
          (chosen _ (t.kind == 4 && (t.first == 0 && t.second == 0)) _ _
          (λ e. let (k, r) = and_parts _ _ e in let (a, b) = and_parts _ _ r in same_tag t (eqb-true _ _ k) (eqb-true _ _ a) (eqb-true _ _ b)) (λ q e. cc))))
