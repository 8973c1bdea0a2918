-- True counts and false claims. Assumes nothing.
use Rattle.std.specs.Prelude.{◌≡◌, ℕ, ◌+◌, Bool, false, if◌then◌else◌, ◌&&◌, ◌≢◌, List, [], ◌∷◌, ℤ, ◌-ℤ◌, Ok, Err, Result, nat_lt, unsigned_abs}
use Rattle.field.specs.Field.{FieldModel}
use Rattle.board.specs.declared.moves.Move.{Move}
use Rattle.refusal.specs.declared.refusal.Refusal.{Refusal}
use Rattle.board.specs.Ledger.{ledger}
use Rattle.question.specs.declared.fit.Fit.TheVariants as fit
use Rattle.question.specs.Question.{QuestionModel}
use Rattle.protocol.specs.Asking.{is_fit, reading_under}

-- a sheet, with the question that it is judged under
pub record Entry (K : Type 0) : Type 0 where
  pub question : QuestionModel K
  pub sheet : List ℕ

-- whether a sheet that was read so claims another number than t
abbrev pub claim_differs : {K : Type 0} → Result (ℤ × List K) Refusal → ℤ → Bool
claim_differs (Ok s) t = nat_lt 0 (unsigned_abs (s.0 -ℤ t))
claim_differs (Err e) t = false

-- the true count: the tally of the counts of a ledger fed the moves, refused ones included
abbrev pub true_count : {K : Type 0} → FieldModel K → ℕ → ℕ → List Move → QuestionModel K → ℤ
true_count F h v ms q = q.tally h v (ledger h v F.limit ms).counts

module _ {K : Type 0} (F : FieldModel K) (h v : ℕ) (ms : List Move) where
  -- the question fits the grid, the sheet reads without refusal, and its claim is not the true count
  pub record FalseClaim (e : Entry K) : Type 0 where
    pub fit : e.question.fits h v ≡ fit.Fits
    pub claim : ℤ
    pub values : List K
    pub reads : reading_under F e.question h v e.sheet ≡ Ok (claim, values)
    pub wrong : claim ≢ true_count F h v ms e.question

  -- the same, as a test
  abbrev pub claims_falsely : Entry K → Bool
  claims_falsely e = is_fit (e.question.fits h v) && claim_differs (reading_under F e.question h v e.sheet) (true_count F h v ms e.question)

  -- the degrees of the listed sheets that claim falsely, added
  abbrev pub false_degrees : List (Entry K) → ℕ
  false_degrees [] = 0
  false_degrees (e ∷ es) = (if claims_falsely e then e.question.degree h else 0) + false_degrees es
