-- On the worked board the promise's bound is reached; and what the promise comes to there. Assumes nothing.
use Rattle.std.specs.Prelude.{◌≡◌, ℕ, ◌≤◌, List, [], ◌∷◌, length, take, replicate, pos, Ok, codes, ◌⊎◌}
use Rattle.prime.specs.declared.residue.Residue.{Residue}
use Rattle.polynomial.specs.Lists.{Distinct}
use Rattle.std.specs.List.{AllByRecursion}
use Rattle.polynomial.specs.Interpolation.{node}
use Rattle.question.specs.Question.{LawfulQuestion}
use Rattle.season.specs.Range.{range_question}
use Rattle.season.specs.Squares.{squares_question}
use Rattle.writer.specs.declared.limits.TheConstants.{ENOUGH_PAPER}
use Rattle.promise.specs.Claims.{Entry, FalseClaim, false_degrees}
use Rattle.promise.specs.Sealed.{SealedVerifier, verifier_gives, Fooled, SealedHost, host_gives}
use Rattle.worked.specs.Board.{residues, worked_moves, text_line}

-- the sheet that claims 13 for the squares, with the values 9, 4 and 17; the count is 14, and the honest values are 9, 5 and 17
abbrev pub claims13 : List ℕ
claims13 =
    text_line (codes "(sheet 65537 1 (grid 2 8))") (text_line (codes "(claim (4 0 0) 13)")
    (text_line (codes "(at 0 (9 0))") (text_line (codes "(at 1 (4 0))") (text_line (codes "(at 2 (17 0))") (text_line (codes "(end)") [])))))

-- the sheet that claims 0 for the range from 8 to 9, with the values 1, −1 and −13; the count is −1, and the honest values are 0, −1 and −10
abbrev pub claims0 : List ℕ
claims0 =
    text_line (codes "(sheet 65537 1 (grid 2 8))") (text_line (codes "(claim (3 8 9) 0)")
    (text_line (codes "(at 0 (1 0))") (text_line (codes "(at 1 (65536 0))") (text_line (codes "(at 2 (65524 0))") (text_line (codes "(end)") [])))))

-- judged under the question about squares
abbrev pub entry13 : Entry (Residue 65537)
entry13 = record { question = squares_question residues; sheet = claims13 }

-- judged under the question about the range
abbrev pub entry0 : Entry (Residue 65537)
entry0 = record { question = range_question residues 8 9; sheet = claims0 }

-- both, as one list of sheets
abbrev pub mixture : List (Entry (Residue 65537))
mixture = entry13 ∷ entry0 ∷ []

-- the points 0 and 2
abbrev pub points : List (Residue 65537)
points = node residues 0 ∷ node residues 2 ∷ []

-- the sheet's claim is false, boxes accept it at 0 and at 2, and the promise's bound for it alone is 2: no smaller one would hold
pub record BoundReached : Type 0 where
  pub lawful : LawfulQuestion residues entry13.question
  pub false_claim : FalseClaim residues 2 8 worked_moves entry13
  pub different : Distinct points
  pub fooled : AllByRecursion (Fooled residues 2 8 worked_moves (entry13 ∷ [])) points
  pub bound : false_degrees residues 2 8 worked_moves (entry13 ∷ []) ≡ length points

-- the points 0, 2, 1 and −1
abbrev pub four_points : List (Residue 65537)
four_points = node residues 0 ∷ node residues 2 ∷ node residues 1 ∷ node residues 65536 ∷ []

-- a tray and a paper, all zeros
abbrev pub zero_tray : List (Residue 65537)
zero_tray = replicate 11 residues.zero

abbrev pub zero_paper : List ℕ
zero_paper = replicate ENOUGH_PAPER 0

-- what the promise comes to on this board
pub record WorkedPromise : Type 0 where
  -- the sheet that claims 13 is accepted at the points 0 and 2, and at no other
  pub at_zero : Fooled residues 2 8 worked_moves (entry13 ∷ []) (node residues 0)
  pub at_two : Fooled residues 2 8 worked_moves (entry13 ∷ []) (node residues 2)
  pub nowhere_else : (r : Residue 65537) → Fooled residues 2 8 worked_moves (entry13 ∷ []) r → (r ≡ node residues 0) ⊎ (r ≡ node residues 2)
  -- two false sheets together are accepted at no more points than the sum of their degrees, which is 4, and there are four such points
  pub second_false : FalseClaim residues 2 8 worked_moves entry0
  pub degrees_added : false_degrees residues 2 8 worked_moves mixture ≡ 4
  pub mixed : (rs : List (Residue 65537)) → Distinct rs → AllByRecursion (Fooled residues 2 8 worked_moves mixture) rs → length rs ≤ 4
  pub different : Distinct four_points
  pub fooled : AllByRecursion (Fooled residues 2 8 worked_moves mixture) four_points
  -- there is a host and, at each point, a box that were told the moves; the host answers 14 for the squares, and every such box accepts its sheet
  pub host : SealedHost residues 2 8 worked_moves
  pub box : (r : Residue 65537) → SealedVerifier residues 2 8 worked_moves r
  pub size : ℕ
  pub answer : (host_gives residues 2 8 worked_moves host entry13.question zero_tray zero_paper).answer ≡ Ok (pos 14, size)
  pub accepted : (r : Residue 65537) (b : SealedVerifier residues 2 8 worked_moves r)
      → (verifier_gives residues 2 8 worked_moves b entry13.question (take size (host_gives residues 2 8 worked_moves host entry13.question zero_tray zero_paper).paper) zero_tray).answer ≡ Ok (pos 14)
