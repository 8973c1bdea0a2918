-- The worked board: a sheet fools boxes at the points 0 and 2, another at 1 and −1, and what the promise makes of it. Assumes nothing.
use Rattle.std.proofs.Common.{◌≡◌, ℕ, ◌≤◌, ◌≢◌, true, List, [], ◌∷◌, length, replicate, pos, negsuc, Ok, refl, inl, inr, ◌⊎◌, arith}
use lib.ListN.{length-replicate}
use Rattle.prime.specs.declared.residue.Residue.{Residue}
use Rattle.prime.specs.Fields.{lawful_65537}
use Rattle.board.specs.Grids.{grid_allowed}
use Rattle.field.proofs.Sameness.{decided}
use Rattle.polynomial.specs.Lists.{Distinct}
use Rattle.std.specs.List.{AllByRecursion}
use Rattle.polynomial.specs.Interpolation.{node}
use Rattle.polynomial.proofs.Nodes.{nodes_differ}
use Rattle.question.specs.Question.{LawfulQuestion}
use Rattle.season.proofs.CellsLaw.{range_lawful}
use Rattle.season.proofs.SquaresLaw.{squares_lawful}
use Rattle.text.specs.Items.{items_pass}
use Rattle.writer.specs.declared.limits.TheConstants.{ENOUGH_PAPER}
use Rattle.verifier.specs.Notes.{verifier_opened, verifier_after}
use Rattle.promise.specs.Runs.{Request, opening, noting, sealing, asking}
use Rattle.promise.specs.Ends.{VerifierOpening, Judging}
use Rattle.promise.specs.Claims.{Entry, FalseClaim, false_degrees}
use Rattle.promise.specs.Sealed.{SealedVerifier, verifier_gives, Fooled, SealedHost, host_gives, HonestAnswer}
use Rattle.promise.proofs.Adequacy.{sealed_runs}
use Rattle.promise.proofs.Promise.{promise}
use Rattle.promise.proofs.Tests.{false_claim}
use Rattle.worked.specs.Board.{residues, move_at, worked_moves}
use Rattle.worked.specs.WorkedPromise.{claims13, claims0, entry13, entry0, mixture, zero_tray, zero_paper, BoundReached, WorkedPromise}

-- a bank, and a tray for three values
abbrev bank : List (Residue 65537)
bank = replicate 8 residues.zero

abbrev three : List (Residue 65537)
three = replicate 3 residues.zero

-- a box is opened at the point, told the moves, sealed, and judges a sheet
abbrev requests : Residue 65537 → Entry (Residue 65537) → List (Request (VerifierOpening (Residue 65537)) (Judging (Residue 65537)))
requests r e =
    opening (record { rows = 2; columns = 8; bank = bank; point = r })
    ∷ noting (move_at 0 (pos 3)) ∷ noting (move_at 8 (pos 1)) ∷ noting (move_at 9 (negsuc 1)) ∷ sealing
    ∷ asking (record { question = e.question; sheet = e.sheet; tray = three }) ∷ []

run : (r : Residue 65537) → Entry (Residue 65537) → SealedVerifier residues 2 8 worked_moves r
run r e = record {
  requests = requests r e;
  shaped = (tt, (tt, (tt, (tt, (tt, (tt, tt))))));
  opened = record { rows = 2; columns = 8; bank = bank; point = r };
  grants = refl;
  rows = refl;
  columns = refl;
  point = refl;
  told = refl;
  verifier = verifier_after residues (verifier_opened residues 2 8 r bank) worked_moves;
  ends = refl;
}

false13 : FalseClaim residues 2 8 worked_moves entry13
unfolding items_pass
false13 = false_claim residues 2 8 worked_moves entry13 refl

false0 : FalseClaim residues 2 8 worked_moves entry0
unfolding items_pass
false0 = false_claim residues 2 8 worked_moves entry0 refl

-- an accepted sheet that stands first in a list, or second
fooled_first : (es : List (Entry (Residue 65537))) (r : Residue 65537) → (verifier_gives residues 2 8 worked_moves (run r entry13) entry13.question claims13 three).answer ≡ Ok (pos 13) → Fooled residues 2 8 worked_moves (entry13 ∷ es) r
unfolding run
fooled_first es r e = record { judges = record { run = run r entry13; on_list = (inl refl, tt) }; accepts = inl (pos 13, e, false13) }

fooled_second : (r : Residue 65537) → (verifier_gives residues 2 8 worked_moves (run r entry0) entry0.question claims0 three).answer ≡ Ok (pos 0) → Fooled residues 2 8 worked_moves mixture r
unfolding run
fooled_second r e = record { judges = record { run = run r entry0; on_list = (inr (inl refl), tt) }; accepts = inl (pos 0, e, false0) }

at_zero : (es : List (Entry (Residue 65537))) → Fooled residues 2 8 worked_moves (entry13 ∷ es) (node residues 0)
unfolding run items_pass
at_zero es = fooled_first es (node residues 0) refl

at_two : (es : List (Entry (Residue 65537))) → Fooled residues 2 8 worked_moves (entry13 ∷ es) (node residues 2)
unfolding run items_pass
at_two es = fooled_first es (node residues 2) refl

at_one : Fooled residues 2 8 worked_moves mixture (node residues 1)
unfolding run items_pass
at_one = fooled_second (node residues 1) refl

at_minus_one : Fooled residues 2 8 worked_moves mixture (node residues 65536)
unfolding run items_pass
at_minus_one = fooled_second (node residues 65536) refl

apart : (m n : ℕ) → m ≤ 65536 → n ≤ 65536 → (m ≡ n → ⊥) → node residues m ≡ node residues n → ⊥
apart = nodes_differ lawful_65537

squares : LawfulQuestion residues entry13.question
squares = squares_lawful lawful_65537

pub bound_reached : BoundReached
unfolding items_pass
bound_reached = record {
  lawful = squares;
  false_claim = false13;
  different = ((apart 0 2 (omega arith) (omega arith) (omega arith), tt), (tt, tt));
  fooled = (at_zero [], (at_two [], tt));
  bound = refl;
}

range : LawfulQuestion residues entry0.question
range = range_lawful lawful_65537 8 9 (omega arith) (omega arith)

allowed : grid_allowed 2 8 ≡ true
allowed = refl

host : SealedHost residues 2 8 worked_moves
host = (sealed_runs residues).host 2 8 allowed worked_moves

box : (r : Residue 65537) → SealedVerifier residues 2 8 worked_moves r
box r = (sealed_runs residues).verifier 2 8 allowed worked_moves r

-- one more point than 0 and 2 would be one too many
nowhere_else : (r : Residue 65537) → Fooled residues 2 8 worked_moves (entry13 ∷ []) r → (r ≡ node residues 0) ⊎ (r ≡ node residues 2)
nowhere_else r f =
    elim (decided lawful_65537.parts r (node residues 0)) [
      | inl e ↦ inl e.0
      | inr n ↦ elim (decided lawful_65537.parts r (node residues 2)) [ inl e ↦ inr e.0 | inr m ↦ absurd (too_many n.0 m.0) ]
    ]
  where
    too_many : r ≢ node residues 0 → r ≢ node residues 2 → ⊥
    too_many n m =
        let rs : List (Residue 65537) = r ∷ node residues 0 ∷ node residues 2 ∷ [] in
        let most = (promise lawful_65537).few_points 2 8 worked_moves (entry13 ∷ []) (squares, tt) rs ((n, (m, tt)), bound_reached.different) (f, bound_reached.fooled) in
        omega (arith, most, bound_reached.bound)

degrees_added : false_degrees residues 2 8 worked_moves mixture ≡ 4
unfolding items_pass
degrees_added = refl

mixed : (rs : List (Residue 65537)) → Distinct rs → AllByRecursion (Fooled residues 2 8 worked_moves mixture) rs → length rs ≤ 4
mixed rs different fooled = let most = (promise lawful_65537).few_points 2 8 worked_moves mixture (squares, (range, tt)) rs different fooled in omega (arith, most, degrees_added)

honest : HonestAnswer residues 2 8 worked_moves entry13.question zero_tray zero_paper (host_gives residues 2 8 worked_moves host entry13.question zero_tray zero_paper)
honest = (promise lawful_65537).honest_accepted 2 8 worked_moves host entry13.question squares refl zero_tray (omega arith) zero_paper (omega (arith, length-replicate {A = ℕ} ENOUGH_PAPER 0))

pub worked_promise : WorkedPromise
worked_promise = record {
  at_zero = at_zero [];
  at_two = at_two [];
  nowhere_else = nowhere_else;
  second_false = false0;
  degrees_added = degrees_added;
  mixed = mixed;
  different = (
    (apart 0 2 (omega arith) (omega arith) (omega arith), (apart 0 1 (omega arith) (omega arith) (omega arith), (apart 0 65536 (omega arith) (omega arith) (omega arith), tt))),
    ((apart 2 1 (omega arith) (omega arith) (omega arith), (apart 2 65536 (omega arith) (omega arith) (omega arith), tt)), ((apart 1 65536 (omega arith) (omega arith) (omega arith), tt), (tt, tt))),
  );
  fooled = (at_zero (entry0 ∷ []), (at_two (entry0 ∷ []), (at_one, (at_minus_one, tt))));
  host = host;
  box = box;
  size = honest.bytes;
  answer = honest.answer;
  accepted = λ r b. honest.accepted r b zero_tray (omega arith);
}
