-- What calls came to. Assumes nothing.
use Rattle.std.specs.Prelude.{ℕ, Bool, ◌==◌, ◌&&◌, Ok, Err, Result}
use Rattle.std.specs.Option.{option_eq}
use Rattle.std.specs.Result.{result_eq}
use Rattle.reference.specs.declared.position.Position.{Position}
use Rattle.report.specs.declared.refused.Refused.{Refused}

-- an outcome without what was given, its refusal by the number alone
abbrev pub numbered : {A : Type 0} → Result A Refused → Result (Unit {0}) ℕ
numbered (Ok x) = Ok tt
numbered (Err r) = Err r.number

-- what a difference shows of it: 0 where the call was granted, or the refusal's number
abbrev pub shown_number : Result (Unit {0}) ℕ → ℕ
shown_number (Ok u) = 0
shown_number (Err n) = n

-- whether two places of a sheet are the same
abbrev pub same_position : Position → Position → Bool
same_position a b = a.line == b.line && a.place == b.place

-- whether two refusals are the same, with their places
abbrev pub same_refused : Refused → Refused → Bool
same_refused a b = a.number == b.number && option_eq same_position a.position b.position

-- whether two outcomes are the same, where E says it of what was given
abbrev pub same_outcome : {A : Type 0} → (A → A → Bool) → Result A Refused → Result A Refused → Bool
same_outcome E a b = result_eq E same_refused a b
