-- A pen that writes line behind line, each where there is room for it. Assumes nothing.
use Rattle.std.proofs.Common.{◌≡◌, ◌+◌, ℕ, Bool, true, false, cond, leb, List, ◌++◌, length, Ok, Err, Result, ◌∙◌, arith, length-append}
use Rattle.std.proofs.lemmas.Bool.{leb-true}
use Rattle.refusal.specs.declared.refusal.Refusal.{Refusal}
use Rattle.refusal.specs.declared.refusal.Refusal.TheVariants.{PaperShort}
use Rattle.writer.specs.declared.pen.Pen.{Pen}
use Rattle.writer.specs.Papers.{paper_of, place_of, Room, Puts, put_answer}
use Rattle.writer.proofs.Papers.{lays_more, lays_length}

-- what is put was granted room
room_from : (b : Bool) → ◌≡◌ {A = Result (Unit {0}) Refusal} (cond b (Ok tt) (Err PaperShort)) (Ok tt) → b ≡ true
room_from true e = λ i. true
room_from false e = absurd (let q : ◌≡◌ {A = ℕ} 0 1 = cc in omega arith)

module _ (line later : List ℕ) (before after : Pen) where
  -- behind a line that is put, the answer for what follows is the answer for both
  pub answer_more : put_answer line before ≡ Ok tt → Puts line before after → put_answer later after ≡ put_answer (line ++ later) before
  answer_more granted p =
      let room : Room line before = leb-true (place_of before + length line) (length (paper_of before)) (room_from (leb (place_of before + length line) (length (paper_of before))) granted) in
      let long = lays_length p.lays room in
      let end = p.lays.end_is in
      let both = length-append line later in
      let place : place_of after + length later ≡ place_of before + length (line ++ later) = omega arith in
      λ i. cond (leb (place i) (long i)) (Ok tt) (Err PaperShort)

  -- and both are put
  pub puts_more : (last : Pen) → Puts line before after → Puts later after last → Puts (line ++ later) before last
  puts_more last p q = record { lays = lays_more p.lays q.lays; lender = q.lender ∙ p.lender }
