-- The question about one of eight goods: the sum of the counts at the cells i with i mod 8 = g. Assumes nothing.
use Rattle.std.specs.Prelude.{ℕ, suc, ◌-◌, ◌%◌, ◌≤◌, if◌then◌else◌, List, [], ◌∷◌, ℤ, pos, ◌+ℤ◌, neg_ℤ, ◌==◌, nat_lt}
use Rattle.field.specs.Field.{FieldModel}
use Rattle.question.specs.Question.{QuestionModel, LawfulQuestion, fits_if}

-- the sum of the counts at the cells i with i mod 8 = g; the first count is at cell j
abbrev pub goods_tally : ℕ → ℕ → List ℤ → ℤ
goods_tally g j [] = pos 0
goods_tally g j (f ∷ fs) = (if j % 8 == g then f else pos 0) +ℤ goods_tally g (suc j) fs

module _ {K : Type 0} (F : FieldModel K) where
  -- the sum of the columns y with y mod 8 = g; the first column is column j
  abbrev pub goods_rule : ℕ → ℕ → List K → K
  goods_rule g j [] = F.zero
  goods_rule g j (c ∷ cs) = F.add (if j % 8 == g then c else F.zero) (goods_rule g (suc j) cs)

  -- the count of the goods g
  abbrev pub goods_question : ℕ → QuestionModel K
  goods_question g = record {
    fits = λ h v. fits_if (nat_lt g 8);
    degree = λ h. h - 1;
    least = neg_ℤ (pos F.limit);
    greatest = pos F.limit;
    tag = record { kind = 2; first = g; second = 0 };
    tally = λ h v fs. goods_tally g 0 fs;
    rule = λ h v X cs. goods_rule g 0 cs;
  }

  -- of any goods it is lawful
  abbrev pub GoodsLawful : Type 0
  GoodsLawful = (g : ℕ) → g ≤ 4294967295 → LawfulQuestion F (goods_question g)
