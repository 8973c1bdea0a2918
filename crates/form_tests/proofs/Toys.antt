-- The form by the laws of every form. Assumes nothing.
use Rattle.std.proofs.Common.{◌≡◌, ℕ, ◌^◌, ◌<◌, List, [], ◌∷◌, ◌++◌, ℤ, nat_abs, IfOk, Ok, Err, Result, sym, refl, ap, ◌∙◌, subst, arith}
use Rattle.std.proofs.lemmas.Int.{ints}
use Rattle.refusal.specs.declared.fault.Fault.{Fault}
use Rattle.refusal.specs.declared.refusal.Refusal.{Refusal}
use Rattle.refusal.specs.declared.refusal.Refusal.TheVariants.{Sheet}
use Rattle.text.specs.Items.{Item}
use Rattle.text.specs.Marks.{InRanges}
use Rattle.text.specs.Forms.{whole_form, form_reading, States, Breaks}
use Rattle.text.proofs.Forms.{reads_forms, tells_breaks}
use Rattle.writer.specs.Texts.{form_text}
use Rattle.writer.proofs.Lines.{text_line}
use Rattle.writer.proofs.Texts.{forms_read_back}
use Rattle.form_tests.specs.Toys.{grid_line, at_line, toy_lines, first_two, toy_reading, toy_text, ToysReadBack}

-- the numbers of the form are two
two_stated : (n : ℕ) (zs : List ℤ) (v : ℤ × ℤ) → InRanges (whole_form (toy_lines n)) zs → first_two (Ok zs) ≡ Ok v → zs ≡ v.0 ∷ v.1 ∷ []
two_stated n [] v k e = absurd k
two_stated n (x ∷ []) v k e = absurd k.2
two_stated n (x ∷ y ∷ []) v k e = let is : (x, y) ≡ v = cc in λ i. (is i).0 ∷ (is i).1 ∷ []
two_stated n (x ∷ y ∷ z ∷ zs) v k e = absurd (let f = k.2.2 in let q : ◌≡◌ {A = ℕ} 0 1 = cc in omega arith)

module _ (n : ℕ) (bs : List ℕ) where
  states_from : (v : ℤ × ℤ) (o : Result (List ℤ) Refusal) → form_reading (toy_lines n) bs ≡ o → first_two o ≡ Ok v → States (toy_lines n) (v.0 ∷ v.1 ∷ []) bs
  states_from v (Err r) e h = absurd (let q : ◌≡◌ {A = ℕ} 0 1 = cc in omega arith)
  states_from v (Ok zs) e h = let s = (reads_forms (toy_lines n) bs zs).0 e in subst (λ ys. States (toy_lines n) ys bs) (two_stated n zs v s.ranges h) s

  refused : (r : Refusal) (o : Result (List ℤ) Refusal) → first_two o ≡ Err r → o ≡ Err r
  refused r (Ok zs) e = absurd (let q : ◌≡◌ {A = ℕ} 0 1 = cc in omega arith)
  refused r (Err x) e = let is : x ≡ r = cc in ap Err is

  -- what an answer says
  pub toy_states : (r : Result (ℤ × ℤ) Refusal) → r ≡ toy_reading n bs → IfOk r (λ v. States (toy_lines n) (v.0 ∷ v.1 ∷ []) bs)
  toy_states (Ok v) e = states_from v (form_reading (toy_lines n) bs) refl (sym e)
  toy_states (Err x) e = tt

  pub toy_gives : (r : Result (ℤ × ℤ) Refusal) → r ≡ toy_reading n bs → (a b : ℤ) → States (toy_lines n) (a ∷ b ∷ []) bs → r ≡ Ok (a, b)
  toy_gives r e a b s = e ∙ ap first_two ((reads_forms (toy_lines n) bs (a ∷ b ∷ [])).1 s)

  pub toy_first : (r : Result (ℤ × ℤ) Refusal) → r ≡ toy_reading n bs → (f : Fault) (l p : ℕ) → r ≡ Err (Sheet f l p) → Breaks (toy_lines n) bs f l p
  toy_first r e f l p h = (tells_breaks (toy_lines n) bs f l p).0 (refused (Sheet f l p) (form_reading (toy_lines n) bs) (sym e ∙ h))

pub toys_read_back : ToysReadBack
toys_read_back n a b few a-least a-most b-least b-most = ap first_two (forms_read_back (toy_lines n) (a ∷ b ∷ []) (a-least, a-most, (b-least, b-most, refl)) (few, (short_a, (short_b, refl))))
  where
    short_a : nat_abs a < 10 ^ 10
    short_a = omega (arith, ints)

    short_b : nat_abs b < 10 ^ 10
    short_b = omega (arith, ints)

-- the two lines as the code has them are the text
pub two_lines : (n : ℕ) (a b : ℤ) (ds es : List Item) → ds ≡ grid_line n → es ≡ whole_form at_line → (x y : ℤ) → x ≡ a → y ≡ b → form_text ds [] ++ form_text es (x ∷ y ∷ []) ≡ toy_text n a b
two_lines n a b ds es first second x y x-is y-is =
    (λ i. form_text (first i) [] ++ form_text (second i) (x-is i ∷ y-is i ∷ []))
    ∙ sym (text_line (grid_line n) (whole_form at_line) [] (a ∷ b ∷ []) refl refl)
