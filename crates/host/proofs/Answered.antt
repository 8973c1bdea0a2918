-- What an answer comes to, step by step. Assumes nothing.
use Rattle.std.proofs.Common.{◌≡◌, ℕ, suc, ◌+◌, ◌*◌, ◌≤◌, Bool, true, false, cond, ◌&&◌, ltb, leb, List, ◌++◌, length, take, drop, ℤ, Ok, Err, Result, ap, subst, ap₂, arith, le-ltb, le-leb}
use lib.Seq.{take-append_seam}
use Rattle.refusal.specs.declared.refusal.Refusal.{Refusal}
use Rattle.refusal.specs.declared.refusal.Refusal.TheVariants.{BankShort, CountOutside, QuestionUnfit, TrayShort, PaperShort}
use Rattle.board.specs.Ledger.{abs_sum}
use Rattle.board.proofs.Ledgers.{abs_at}
use Rattle.field.specs.Field.{FieldModel, LawfulField}
use Rattle.field.proofs.Consequences.{limit_small}
use Rattle.polynomial.proofs.Sums.{length-listed}
use Rattle.question.specs.Question.{QuestionModel}
use Rattle.protocol.specs.Asking.{suits, terms_of, honest}
use Rattle.writer.specs.declared.limits.TheConstants.{MOST_VALUES, ENOUGH_PAPER}
use Rattle.writer.specs.Papers.{write_answer, paper_after}
use Rattle.writer.specs.Texts.{text}
use Rattle.host.specs.Rows.{Ranged}
use Rattle.host.specs.Answering.{Answered, answer_ready, tray_filled, answered_by, answered}

-- an answer, a tray and a paper that are alike come to the same
pub given : {K : Type 0} {a b : Result (ℤ × ℕ) Refusal} {s t : List K} {o p : List ℕ} → a ≡ b → s ≡ t → o ≡ p
    → ◌≡◌ {A = Answered K} record { answer = a; tray = s; paper = o } record { answer = b; tray = t; paper = p }
given e f g = λ i. record { answer = e i; tray = f i; paper = g i }

module _ {K : Type 0} (F : FieldModel K) (h v : ℕ) (bank : List ℤ) (q : QuestionModel K) (tray : List K) (paper : List ℕ) where
  -- the counts
  abbrev fs : List ℤ
  fs = take (h * v) bank

  -- the tests, one after the other
  paper_test : Bool → Result (Unit {0}) Refusal
  paper_test d = cond d (Err PaperShort) (Ok tt)

  tray_test : Bool → Bool → Result (Unit {0}) Refusal
  tray_test c d = cond c (Err TrayShort) (paper_test d)

  suit_test : Bool → Bool → Bool → Result (Unit {0}) Refusal
  suit_test b c d = cond b (tray_test c d) (Err QuestionUnfit)

  tested : Bool → Bool → Bool → Bool → Bool → Result (Unit {0}) Refusal
  tested s a b c d = cond s (Err BankShort) (cond a (suit_test b c d) (Err CountOutside))

  ready : (s a b c d : Bool) → ltb (length bank) (h * v) ≡ s → leb (abs_sum fs) F.limit ≡ a → suits q h v ≡ b → ltb (length tray) (suc (q.degree h) + v) ≡ c → ltb (length paper) ENOUGH_PAPER ≡ d → answer_ready F h v bank q tray paper ≡ tested s a b c d
  unfolding tested suit_test tray_test paper_test
  ready s a b c d p₁ p₂ p₃ p₄ p₅ = λ i. tested (p₁ i) (p₂ i) (p₃ i) (p₄ i) (p₅ i)

  module _ (long : h * v ≤ length bank) (light : abs_sum fs ≤ F.limit) (suit : suits q h v ≡ true) (room : suc (q.degree h) + v ≤ length tray) where
    pub granted : ENOUGH_PAPER ≤ length paper → answered F h v bank q tray paper ≡ answered_by F h v (Ok tt) q fs tray paper
    unfolding tested suit_test tray_test paper_test
    granted d = ap (λ a. answered_by F h v a q fs tray paper) (ready false true true false false (le-ltb (length bank) (h * v) long) (le-leb (abs_sum fs) F.limit light) suit (le-ltb (length tray) (suc (q.degree h) + v) room) (le-ltb (length paper) ENOUGH_PAPER d))

  -- the values that stand first in a filled tray
  pub take_honest : (gs : List ℤ) → take (suc (q.degree h)) (tray_filled F h v q gs tray) ≡ honest F h v q gs
  take_honest gs = subst (λ n. take n (tray_filled F h v q gs tray) ≡ honest F h v q gs) (length-listed 0 (suc (q.degree h)) _) (take-append_seam (honest F h v q gs) _)

  -- the sheet is written: there are as many values as a sheet may have, and paper enough
  pub write_granted : (c : ℤ) (vs : List K) → length vs ≤ MOST_VALUES → ENOUGH_PAPER ≤ length paper → write_answer F (terms_of q h v) c vs paper ≡ Ok (length (text F (terms_of q h v) c vs))
  write_granted c vs few enough = ap₂ (λ a b. cond (a && b) (Ok (length (text F (terms_of q h v) c vs))) (Err PaperShort)) (le-leb (length vs) MOST_VALUES few) (le-leb ENOUGH_PAPER (length paper) enough)

  pub paper_granted : (c : ℤ) (vs : List K) → length vs ≤ MOST_VALUES → ENOUGH_PAPER ≤ length paper → paper_after F (terms_of q h v) c vs paper ≡ text F (terms_of q h v) c vs ++ drop (length (text F (terms_of q h v) c vs)) paper
  paper_granted c vs few enough =
      ap₂ (λ a b. cond (a && b) (text F (terms_of q h v) c vs ++ drop (length (text F (terms_of q h v) c vs)) paper) paper) (le-leb (length vs) MOST_VALUES few) (le-leb ENOUGH_PAPER (length paper) enough)

-- counts that come to the limit at most have images
pub light_ranged : {K : Type 0} {F : FieldModel K} (L : LawfulField F) (gs : List ℤ) → abs_sum gs ≤ F.limit → Ranged gs
light_ranged L gs light i = omega (arith, abs_at gs i, limit_small L)
