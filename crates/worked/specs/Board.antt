-- A board of two rows and eight columns over the residues modulo 65,537, the moves (0, 3), (8, 1), (9, −2) on it, what comes of them, and sheets about them. Assumes nothing.
use Rattle.std.specs.Prelude.{ℕ, ◌-◌, List, [], ◌∷◌, ◌++◌, map, replicate, ℤ, pos, negsuc, Ok, Err, codes, Result, slice_set}
use Rattle.std.proofs.Common.{lit<}
use Rattle.refusal.specs.declared.refusal.Refusal.{Refusal}
use Rattle.refusal.specs.Refusals.{number_of}
use Rattle.field.specs.Field.{FieldModel}
use Rattle.prime.specs.declared.residue.Residue.{Residue}
use Rattle.prime.specs.Residues.{prime_field, value_of}
use Rattle.extension.specs.declared.extension.Extension.{Extension}
use Rattle.extension.specs.Pairs.{pair, quadratic}
use Rattle.board.specs.declared.moves.Move.{Move}
use Rattle.board.specs.declared.tag.Tag.{Tag}
use Rattle.board.specs.Ledger.{ledger}
use Rattle.polynomial.specs.Interpolation.{node}
use Rattle.question.specs.Question.{QuestionModel}
use Rattle.season.specs.Squares.{squares_question}
use Rattle.verifier.specs.Notes.{verifier_opened, verifier_after}

-- the residues modulo 65,537, with the limit 256
abbrev pub residues : FieldModel (Residue 65537)
residues = prime_field 65537 (lit< tt) 256

-- the residues of numbers, and back
abbrev pub nodes : List ℕ → List (Residue 65537)
nodes ns = map (node residues) ns

abbrev pub values : List (Residue 65537) → List ℕ
values xs = map value_of xs

-- the quadratic extension, with t × t = 3
abbrev pub extended : FieldModel (Extension (Residue 65537))
extended = quadratic residues (node residues 3)

-- the element t
abbrev pub t : Extension (Residue 65537)
t = pair residues.zero residues.one

-- an amount at a cell
abbrev pub move_at : ℕ → ℤ → Move
move_at i a = record { cell = i; amount = a }

-- 3 at cell 0, 1 at cell 8, −2 at cell 9: the squares come to 14
abbrev pub worked_moves : List Move
worked_moves = move_at 0 (pos 3) ∷ move_at 8 (pos 1) ∷ move_at 9 (negsuc 1) ∷ []

-- moves of which the third and the fifth are accepted; the others are off the board, twice a wrong amount, and twice too heavy
abbrev pub mixed_moves : List Move
mixed_moves =
    move_at 16 (pos 1) ∷ move_at 0 (pos 257) ∷ move_at 0 (pos 3) ∷ move_at 15 (negsuc 255) ∷ move_at 15 (negsuc 252) ∷ move_at 0 (pos 0) ∷ move_at 0 (pos 1) ∷ []

-- the counts after the worked moves
abbrev pub worked_counts : List ℤ
worked_counts = (ledger 2 8 256 worked_moves).counts

-- the bank of a box at a point that was told the moves, over a bank with one cell more than is needed
abbrev pub bank_at : ℕ → List (Residue 65537)
bank_at r = (verifier_after residues (verifier_opened residues 2 8 (node residues r) (replicate 9 residues.one)) worked_moves).bank

-- the question about the squares
abbrev pub sum_of_squares : QuestionModel (Residue 65537)
sum_of_squares = squares_question residues

-- the same, with another degree
abbrev pub squares_of_degree : ℕ → QuestionModel (Residue 65537)
squares_of_degree d = record sum_of_squares { degree = λ h. d }

-- three numbers that name a question
abbrev pub tag_of : ℕ → ℕ → ℕ → Tag
tag_of k a b = record { kind = k; first = a; second = b }

-- a line of text, and the lines behind it
abbrev pub text_line : List ℕ → List ℕ → List ℕ
text_line text more = text ++ (10 ∷ more)

-- the text of lines
abbrev pub text_of : List (List ℕ) → List ℕ
text_of [] = []
text_of (line ∷ lines) = text_line line (text_of lines)

-- the sheet for the squares with this claim and these three values
abbrev pub sheet_of : List ℕ → List ℕ → List ℕ → List ℕ → List ℕ
sheet_of claim a b c =
    text_line (codes "(sheet 65537 1 (grid 2 8))") (text_line (codes "(claim (4 0 0) " ++ (claim ++ codes ")"))
    (text_line (codes "(at 0 (" ++ (a ++ codes " 0))")) (text_line (codes "(at 1 (" ++ (b ++ codes " 0))")) (text_line (codes "(at 2 (" ++ (c ++ codes " 0))")) (text_line (codes "(end)") [])))))

-- the lines of the honest sheet for the squares
abbrev pub honest_lines : List (List ℕ)
honest_lines =
    codes "(sheet 65537 1 (grid 2 8))" ∷ codes "(claim (4 0 0) 14)" ∷ codes "(at 0 (9 0))" ∷ codes "(at 1 (5 0))" ∷ codes "(at 2 (17 0))" ∷ codes "(end)" ∷ []

-- the honest sheet for the squares
abbrev pub true_sheet : List ℕ
true_sheet = text_of honest_lines

-- the honest sheet with another line k; the first is line 1
abbrev pub sheet_but : ℕ → List ℕ → List ℕ
sheet_but k line = text_of (slice_set honest_lines (k - 1) line)

-- a sheet with this claim's line and these value lines
abbrev pub sheet_about : List ℕ → List (List ℕ) → List ℕ
sheet_about claim lines = text_line (codes "(sheet 65537 1 (grid 2 8))") (text_line claim (text_of lines ++ text_line (codes "(end)") []))

-- an answer, with its refusal's number
abbrev pub numbered : {A : Type 0} → Result A Refusal → Result A ℕ
numbered (Ok x) = Ok x
numbered (Err r) = Err (number_of r)
