-- What a judgement comes to, step by step. Assumes nothing.
use Rattle.std.proofs.Common.{◌≡◌, ℕ, suc, ◌<◌, ◌≤◌, Bool, true, false, cond, ltb, List, ◌++◌, length, take, drop, replicate, ℤ, is_err, Ok, Err, Result, sym, refl, ap, ◌∙◌, subst, ap₂, arith, length-append, length-drop, ltb-true, le-ltb}
use lib.Seq.{take-append_seam, drop-append_seam}
use Rattle.refusal.specs.declared.refusal.Refusal.{Refusal}
use Rattle.refusal.specs.declared.refusal.Refusal.TheVariants.{BankShort, QuestionUnfit, TrayShort}
use Rattle.board.specs.Banks.{filled}
use Rattle.field.specs.Field.{FieldModel}
use Rattle.sheet.specs.Readings.{claim_of, tray_of, read_answer, tray_after}
use Rattle.question.specs.Question.{QuestionModel}
use Rattle.protocol.specs.Asking.{suits, terms_of, reading_under}
use Rattle.verifier.specs.Judging.{Judgement, judge_ready, weighed, tray_left, settled_by, judged}

-- an answer and a tray that are alike come to the same
pub given : {K : Type 0} {a b : Result ℤ Refusal} {s t : List K} → a ≡ b → s ≡ t → ◌≡◌ {A = Judgement K} record { answer = a; tray = s } record { answer = b; tray = t }
given e f = λ i. record { answer = e i; tray = f i }

module _ {K : Type 0} (F : FieldModel K) (h v : ℕ) (r : K) (bank : List K) (q : QuestionModel K) (sheet : List ℕ) (tray : List K) where
  -- a judgement that is settled before the sheet is read
  settled_early : (e : Refusal) → judge_ready F h v r bank q tray ≡ Err e → judged F h v r bank q sheet tray ≡ record { answer = Err e; tray = tray }
  settled_early e p = ap (λ a. settled_by F h v r a (take v bank) q (reading_under F q h v sheet) tray) p

  module _ (long : v ≤ length bank) where
    ready : (b : Bool) → suits q h v ≡ b → judge_ready F h v r bank q tray ≡ cond b (cond (ltb (q.degree h) (length tray)) (Ok tt) (Err TrayShort)) (Err QuestionUnfit)
    ready b p =
        ap₂ (λ a s. cond a (Err BankShort) (cond s (cond (ltb (q.degree h) (length tray)) (Ok tt) (Err TrayShort)) (Err QuestionUnfit))) (le-ltb (length bank) v long) p

    -- a reading that is refused
    pub refused : suits q h v ≡ true → (e : Refusal) → read_answer F (terms_of q h v) sheet tray ≡ Err e → judged F h v r bank q sheet tray ≡ record { answer = Err e; tray = tray_after F (terms_of q h v) sheet tray }
    refused p e a = go (ltb (q.degree h) (length tray)) refl
      where
        read : (s : Result (ℤ × List K) Refusal) → claim_of F s ≡ Err e → settled_by F h v r (Ok tt) (take v bank) q s tray ≡ record { answer = Err e; tray = tray_of F (suc (q.degree h)) s tray }
        read (Ok s) x = absurd (let z : ◌≡◌ {A = ℕ} 0 1 = cc in omega arith)
        read (Err y) x = let same : y ≡ e = cc in ap (λ z. record { answer = Err z; tray = filled (suc (q.degree h)) F.zero tray }) same

        go : (b : Bool) → ltb (q.degree h) (length tray) ≡ b → judged F h v r bank q sheet tray ≡ record { answer = Err e; tray = tray_after F (terms_of q h v) sheet tray }
        go true t =
            ap (λ z. settled_by F h v r z (take v bank) q (reading_under F q h v sheet) tray) (ready true p ∙ ap (λ b. cond b (Ok tt) (Err TrayShort)) t)
            ∙ read (reading_under F q h v sheet) (sym (ap (λ b. cond b (claim_of F (reading_under F q h v sheet)) (Err TrayShort)) t) ∙ a)
            ∙ ap (λ z. record { answer = Err e; tray = z }) (sym (ap (λ b. cond b (tray_of F (suc (q.degree h)) (reading_under F q h v sheet) tray) tray) t))
        go false t =
            let short : TrayShort ≡ e = (let x = sym (ap (λ b. cond b (claim_of F (reading_under F q h v sheet)) (Err TrayShort)) t) ∙ a in cc) in
            settled_early TrayShort (ready true p ∙ ap (λ b. cond b (Ok tt) (Err TrayShort)) t)
            ∙ ap₂ (λ z w. record { answer = Err z; tray = w }) short (sym (ap (λ b. cond b (tray_of F (suc (q.degree h)) (reading_under F q h v sheet) tray) tray) t))

    -- a reading that gives a claim and values
    pub record Weighed (c : ℤ) : Type 0 where
      pub values : List K
      pub room : q.degree h < length tray
      pub left : tray_after F (terms_of q h v) sheet tray ≡ values ++ drop (suc (q.degree h)) tray
      pub is : judged F h v r bank q sheet tray ≡ record {
        answer = weighed F h v r (take v bank) q c values;
        tray = tray_left F h v r (suc (q.degree h)) (Ok (c, values)) (weighed F h v r (take v bank) q c values) tray;
      }

    pub read : suits q h v ≡ true → (c : ℤ) → read_answer F (terms_of q h v) sheet tray ≡ Ok c → Weighed c
    read p c a = go (ltb (q.degree h) (length tray)) refl (reading_under F q h v sheet) refl
      where
        go : (b : Bool) → ltb (q.degree h) (length tray) ≡ b → (s : Result (ℤ × List K) Refusal) → reading_under F q h v sheet ≡ s → Weighed c
        go false t s k = absurd (let x = sym (ap (λ b. cond b (claim_of F (reading_under F q h v sheet)) (Err TrayShort)) t) ∙ a in let z : ◌≡◌ {A = ℕ} 0 1 = cc in omega arith)
        go true t (Err y) k =
            absurd (let x = sym (ap (claim_of F) k) ∙ sym (ap (λ b. cond b (claim_of F (reading_under F q h v sheet)) (Err TrayShort)) t) ∙ a in let z : ◌≡◌ {A = ℕ} 0 1 = cc in omega arith)
        go true t (Ok s) k =
            let x = sym (ap (claim_of F) k) ∙ sym (ap (λ b. cond b (claim_of F (reading_under F q h v sheet)) (Err TrayShort)) t) ∙ a in
            let same : s.0 ≡ c = cc in
            record {
              values = s.1;
              room = ltb-true _ _ t;
              left = ap (λ b. cond b (tray_of F (suc (q.degree h)) (reading_under F q h v sheet) tray) tray) t ∙ ap (λ z. tray_of F (suc (q.degree h)) z tray) k;
              is =
                  ap₂ (λ z w. settled_by F h v r z (take v bank) q w tray) (ready true p ∙ ap (λ b. cond b (Ok tt) (Err TrayShort)) t) k
                  ∙ ap (λ z. record {
                    answer = weighed F h v r (take v bank) q z s.1;
                    tray = tray_left F h v r (suc (q.degree h)) (Ok (z, s.1)) (weighed F h v r (take v bank) q z s.1) tray;
                  }) same;
            }

    module _ (c : ℤ) (w : Weighed c) (after : List K) (is : after ≡ tray_after F (terms_of q h v) sheet tray) (kept : length after ≡ length tray) where
      abbrev n : ℕ
      n = suc (q.degree h)

      -- there is a value for each line
      values_length : length w.values ≡ n
      values_length = omega (arith, kept, w.room, ap length (is ∙ w.left), length-append w.values (drop n tray), length-drop n tray)

      -- the values are the first elements of the tray that was read into
      pub take_values : take n after ≡ w.values
      take_values = ap (take n) (is ∙ w.left) ∙ subst (λ k. take k (w.values ++ drop n tray) ≡ w.values) values_length (take-append_seam w.values (drop n tray))

      pub drop_values : drop n after ≡ drop n tray
      drop_values = ap (drop n) (is ∙ w.left) ∙ subst (λ k. drop k (w.values ++ drop n tray) ≡ drop n tray) values_length (drop-append_seam w.values (drop n tray))

      -- an accepted sheet leaves its values, and a refused one zeros
      left : (a : Result ℤ Refusal) → tray_left F h v r n (Ok (c, w.values)) a tray ≡ cond (is_err a) (filled n F.zero after) after
      left (Ok x) = sym (is ∙ w.left)
      left (Err x) = sym (ap (λ xs. replicate n F.zero ++ xs) drop_values)

    -- once a claim and values were read, the box answers what they weigh, and leaves the tray as it was read or zeros in it
    pub weighing : (c : ℤ) (after : List K) → suits q h v ≡ true → read_answer F (terms_of q h v) sheet tray ≡ Ok c → after ≡ tray_after F (terms_of q h v) sheet tray → length after ≡ length tray
        → (a : Result ℤ Refusal) → a ≡ weighed F h v r (take v bank) q c (take (suc (q.degree h)) after)
        → judged F h v r bank q sheet tray ≡ record { answer = a; tray = cond (is_err a) (filled (suc (q.degree h)) F.zero after) after }
    weighing c after p told is kept a e =
        let w = read p c told in
        let same = e ∙ ap (weighed F h v r (take v bank) q c) (take_values c w after is kept) in
        w.is ∙ given (sym same) (ap (λ x. tray_left F h v r (suc (q.degree h)) (Ok (c, w.values)) x tray) (sym same) ∙ left c w after is kept a)
