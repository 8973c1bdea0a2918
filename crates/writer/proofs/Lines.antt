-- A text line by line: a line end parts what is written. Assumes nothing.
use Rattle.std.proofs.Common.{◌≡◌, ℕ, Bool, true, false, List, [], ◌∷◌, ◌++◌, length, ℤ, pos, sym, ap, ◌∙◌, append_assoc, append-nil, arith}
use Rattle.text.specs.Items.{Fixed.opening, Fixed.closing, Fixed.line_end, Fixed.text_end, Fixed.word, Item, Item.the, Item.given, Item.stated, stated_count}
use Rattle.text.specs.Marks.{Mark.fixed, Mark.number, marks}
use Rattle.writer.specs.Texts.{spaced_after, spaced_bytes, written_on, form_text}

-- whether items end in a line end
abbrev pub is_line_end : Item → Bool
is_line_end (the opening) = false
is_line_end (the closing) = false
is_line_end (the line_end) = true
is_line_end (the text_end) = false
is_line_end (the (word k)) = false
is_line_end (given n f) = false
is_line_end (stated lo hi f) = false

abbrev pub ends_line : List Item → Bool
ends_line [] = false
ends_line (d ∷ []) = is_line_end d
ends_line (d ∷ e ∷ ds) = ends_line (e ∷ ds)

-- a last item
last_on : (d : Item) (es : List Item) (zs ys : List ℤ) (space : Bool) → is_line_end d ≡ true → stated_count (d ∷ []) ≡ length zs
    → written_on space (marks (d ∷ es) (zs ++ ys)) ≡ written_on space (marks (d ∷ []) zs) ++ written_on false (marks es ys)
last_on (the opening) es zs ys space e n = absurd (let q : ◌≡◌ {A = ℕ} 0 1 = cc in omega arith)
last_on (the closing) es zs ys space e n = absurd (let q : ◌≡◌ {A = ℕ} 0 1 = cc in omega arith)
last_on (the line_end) es [] ys space e n = ap (λ bs. bs ++ written_on false (marks es ys)) (sym (append-nil (spaced_bytes space (fixed line_end))))
last_on (the line_end) es (z ∷ zs) ys space e n = absurd (omega arith)
last_on (the text_end) es zs ys space e n = absurd (let q : ◌≡◌ {A = ℕ} 0 1 = cc in omega arith)
last_on (the (word k)) es zs ys space e n = absurd (let q : ◌≡◌ {A = ℕ} 0 1 = cc in omega arith)
last_on (given k f) es zs ys space e n = absurd (let q : ◌≡◌ {A = ℕ} 0 1 = cc in omega arith)
last_on (stated lo hi f) es zs ys space e n = absurd (let q : ◌≡◌ {A = ℕ} 0 1 = cc in omega arith)

line_on : (ds es : List Item) (zs ys : List ℤ) (space : Bool) → ends_line ds ≡ true → stated_count ds ≡ length zs
    → written_on space (marks (ds ++ es) (zs ++ ys)) ≡ written_on space (marks ds zs) ++ written_on false (marks es ys)
line_on [] es zs ys space e n = absurd (let q : ◌≡◌ {A = ℕ} 0 1 = cc in omega arith)
line_on (d ∷ []) es zs ys space e n = last_on d es zs ys space e n
line_on (the x ∷ b ∷ ds) es zs ys space e n =
    ap (λ bs. spaced_bytes space (fixed x) ++ bs) (line_on (b ∷ ds) es zs ys (spaced_after (fixed x)) e (omega arith))
    ∙ sym (append_assoc (spaced_bytes space (fixed x)) (written_on (spaced_after (fixed x)) (marks (b ∷ ds) zs)) (written_on false (marks es ys)))
line_on (given k f ∷ b ∷ ds) es zs ys space e n =
    ap (λ bs. spaced_bytes space (number (pos k)) ++ bs) (line_on (b ∷ ds) es zs ys true e (omega arith))
    ∙ sym (append_assoc (spaced_bytes space (number (pos k))) (written_on true (marks (b ∷ ds) zs)) (written_on false (marks es ys)))
line_on (stated lo hi f ∷ b ∷ ds) es [] ys space e n = absurd (omega arith)
line_on (stated lo hi f ∷ b ∷ ds) es (z ∷ zs) ys space e n =
    ap (λ bs. spaced_bytes space (number z) ++ bs) (line_on (b ∷ ds) es zs ys true e (omega arith))
    ∙ sym (append_assoc (spaced_bytes space (number z)) (written_on true (marks (b ∷ ds) zs)) (written_on false (marks es ys)))

-- the text of a line and of what follows it
pub text_line : (ds es : List Item) (zs ys : List ℤ) → ends_line ds ≡ true → stated_count ds ≡ length zs → form_text (ds ++ es) (zs ++ ys) ≡ form_text ds zs ++ form_text es ys
text_line ds es zs ys e n = line_on ds es zs ys false e n
