-- What an accepted sheet passed, and that the honest sheet passes on every bank that begins with the columns of the counts. There is no run in it.
-- Assumes nothing but the laws of the field and of the question.
use Rattle.std.proofs.Common.{◌≡◌, ℕ, suc, ◌≤◌, Bool, true, false, cond, ◌&&◌, ltb, leb, List, length, take, ℤ, Ok, Err, Result, refl, ap, ◌∙◌, subst, ap₂, arith, le-ltb, lt-ltb, le-leb}
use Rattle.field.specs.Field.{FieldModel, LawfulField, InRange, same}
use Rattle.field.specs.declared.limits.TheConstants.{INVERSES}
use Rattle.field.proofs.Sameness.{same_true, same_eq}
use Rattle.refusal.specs.declared.refusal.Refusal.{Refusal}
use Rattle.refusal.specs.declared.refusal.Refusal.TheVariants.{BankShort, QuestionUnfit, TrayShort}
use Rattle.board.proofs.Grids.{allowed_grid}
use Rattle.polynomial.specs.Sums.{list_sum}
use Rattle.polynomial.specs.Polynomials.{eval}
use Rattle.polynomial.specs.Interpolation.{interpolant}
use Rattle.polynomial.specs.Columns.{columns_at}
use Rattle.question.specs.declared.fit.Fit.{Fit}
use Rattle.question.specs.declared.fit.Fit.TheVariants as fit
use Rattle.question.specs.Question.{QuestionModel, Fits, Within, LawfulQuestion}
use Rattle.writer.specs.declared.limits.TheConstants.{ENOUGH_PAPER}
use Rattle.writer.specs.Laws.{TenDigits}
use Rattle.writer.proofs.Lengths.{text_fits}
use Rattle.writer.proofs.Texts.{reads_back}
use Rattle.protocol.specs.Asking.{is_fit, suits, terms_of, reading_under, claim_image, honest}
use Rattle.host.specs.Answering.{honest_sheet}
use Rattle.verifier.specs.Judging.{judge_ready, weighed, answer_to, settled_by, judged}
use Rattle.promise.specs.Counts.{AddUp, Agree}
use Rattle.promise.proofs.Values.{claim_range, degree_small, rows_fit, length_honest, honest_agree, honest_add_up}

-- P, of what was given
abbrev Given : {A : Type 0} → (A → Type 0) → Result A Refusal → Type 0
Given P (Ok x) = P x
Given P (Err e) = Unit {0}

-- a question whose test says that it fits does
fit_true : (f : Fit) → is_fit f ≡ true → f ≡ fit.Fits
fit_true fit.Fits e = refl
fit_true fit.DoesNotFit e = cc

module _ {K : Type 0} {F : FieldModel K} (L : LawfulField F) where
  -- an accepted sheet: its question fits, it reads with the claim c, its values add up to c and agree with the columns cs at the point
  pub record Passed (h v : ℕ) (r : K) (cs : List K) (q : QuestionModel K) (sheet : List ℕ) (c : ℤ) : Type 0 where
    pub fit : q.fits h v ≡ fit.Fits
    pub values : List K
    pub reads : reading_under F q h v sheet ≡ Ok (c, values)
    pub adds : AddUp F q h v values c
    pub agrees : Agree F q h v values r cs

  module _ (h v : ℕ) (r : K) (bank : List K) (q : QuestionModel K) (sheet : List ℕ) (tray : List K) where
    -- where the sheet is read at all, the question fits
    ready_fits : (u : Unit {0}) → judge_ready F h v r bank q tray ≡ Ok u → q.fits h v ≡ fit.Fits
    ready_fits u e = subst (Given (λ u. q.fits h v ≡ fit.Fits)) e (go (ltb (length bank) v) (is_fit (q.fits h v)) (leb h (suc (q.degree h)) && leb (q.degree h) INVERSES) (ltb (q.degree h) (length tray)) refl)
      where
        go : (a b c d : Bool) → is_fit (q.fits h v) ≡ b → Given (λ u. q.fits h v ≡ fit.Fits) (cond {A = Result (Unit {0}) Refusal} a (Err BankShort) (cond (b && c) (cond d (Ok tt) (Err TrayShort)) (Err QuestionUnfit)))
        go true b c d e = tt
        go false false c d e = tt
        go false true false d e = tt
        go false true true false e = tt
        go false true true true e = fit_true (q.fits h v) e

    answer_passed : q.fits h v ≡ fit.Fits → (s : Result (ℤ × List K) Refusal) → reading_under F q h v sheet ≡ s → Given (Passed h v r (take v bank) q sheet) (answer_to F h v r (take v bank) q s)
    answer_passed f (Err e) s = tt
    answer_passed f (Ok (c, vs)) s = go (same F (list_sum F (take h vs)) (claim_image F c)) (same F (eval F (interpolant F vs) r) (q.rule h v r (take v bank))) refl refl
      where
        go : (a b : Bool) → same F (list_sum F (take h vs)) (claim_image F c) ≡ a → same F (eval F (interpolant F vs) r) (q.rule h v r (take v bank)) ≡ b
            → Given (Passed h v r (take v bank) q sheet) (weighed F h v r (take v bank) q c vs)
        go false b p t = rw p tt
        go true false p t = rw (p, t) tt
        go true true p t = rw (p, t) (record { fit = f; values = vs; reads = s; adds = same_true L.parts _ _ p; agrees = same_true L.parts _ _ t })

    judged_passed : Given (Passed h v r (take v bank) q sheet) (judged F h v r bank q sheet tray).answer
    judged_passed = go (judge_ready F h v r bank q tray) refl
      where
        go : (a : Result (Unit {0}) Refusal) → judge_ready F h v r bank q tray ≡ a → Given (Passed h v r (take v bank) q sheet) (settled_by F h v r a (take v bank) q (reading_under F q h v sheet) tray).answer
        go (Err e) a = tt
        go (Ok u) a = answer_passed (ready_fits u a) (reading_under F q h v sheet) refl

    pub accepted_passed : (c : ℤ) → (judged F h v r bank q sheet tray).answer ≡ Ok c → Passed h v r (take v bank) q sheet c
    accepted_passed c e = subst (Given (Passed h v r (take v bank) q sheet)) e judged_passed

  module _ (q : QuestionModel K) (Q : LawfulQuestion F q) (h v : ℕ) (fit : Fits q h v) where
    -- a lawful question that fits suits
    pub suits_true : suits q h v ≡ true
    suits_true = ap₂ ◌&&◌ (ap is_fit (fit).fit) (ap₂ ◌&&◌ (le-leb h (suc (q.degree h)) (rows_fit L q Q h v fit)) (le-leb (q.degree h) INVERSES (degree_small L q Q h v fit)))

    ready_true : (r : K) (bank tray : List K) → v ≤ length bank → suc (q.degree h) ≤ length tray → judge_ready F h v r bank q tray ≡ Ok tt
    ready_true r bank tray b t = rw (le-ltb (length bank) v b, suits_true, lt-ltb (q.degree h) (length tray) t) refl

    -- the numbers of its sheets have at most ten digits
    ten_digits : TenDigits (terms_of q h v)
    ten_digits =
        let grid = allowed_grid h v (fit).grid in
        record {
          rows_fit = omega (arith, grid.rows_most);
          columns_fit = omega (arith, grid.columns_most);
          kind_fits = omega (arith, Q.tag_small.0);
          first_fits = omega (arith, Q.tag_small.1);
          second_fits = omega (arith, Q.tag_small.2);
        }

    module _ (fs : List ℤ) (w : Within F h v fs) where
      tally_range : InRange (q.tally h v fs)
      tally_range = claim_range L q Q h v fit (q.tally h v fs) (Q.tally_least h v fit fs w) (Q.tally_most h v fit fs w)

      -- the honest sheet is read back
      pub honest_read : reading_under F q h v (honest_sheet F h v q fs) ≡ Ok (q.tally h v fs, honest F h v q fs)
      honest_read = reads_back F L (terms_of q h v) (q.tally h v fs) (honest F h v q fs) (record {
        terms_fit = ten_digits;
        degree_fits = omega (arith, degree_small L q Q h v fit);
        claim_fits = omega (arith, tally_range);
        least = Q.tally_least h v fit fs w;
        greatest = Q.tally_most h v fit fs w;
        count = length_honest L q Q h v fit fs;
      })

      pub honest_short : length (honest_sheet F h v q fs) ≤ ENOUGH_PAPER
      honest_short = text_fits F L (terms_of q h v) (q.tally h v fs) (honest F h v q fs) ten_digits (omega (arith, tally_range)) (omega (arith, length_honest L q Q h v fit fs, degree_small L q Q h v fit))

      answer_honest : (r : K) → answer_to F h v r (columns_at F h v fs r) q (Ok (q.tally h v fs, honest F h v q fs)) ≡ Ok (q.tally h v fs)
      answer_honest r = rw (same_eq L.parts _ _ (honest_add_up L q Q h v fit fs w), same_eq L.parts _ _ (honest_agree L q Q h v fit fs r)) refl

      pub honest_accepted : (r : K) (bank : List K) → v ≤ length bank → take v bank ≡ columns_at F h v fs r → (tray : List K) → suc (q.degree h) ≤ length tray → (judged F h v r bank q (honest_sheet F h v q fs) tray).answer ≡ Ok (q.tally h v fs)
      honest_accepted r bank b e tray t =
          ap (λ a. (settled_by F h v r a (take v bank) q (reading_under F q h v (honest_sheet F h v q fs)) tray).answer) (ready_true r bank tray b t)
          ∙ ap₂ (λ cs s. answer_to F h v r cs q s) e honest_read ∙ answer_honest r
