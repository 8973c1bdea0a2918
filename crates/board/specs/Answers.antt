-- What calls answer. Assumes nothing.
use Rattle.std.specs.Prelude.{Ok, Err, Result}
use Rattle.refusal.specs.declared.refusal.Refusal.{Refusal}

-- whether a call was granted, or its refusal
abbrev pub granted : {A : Type 0} → Result A Refusal → Result (Unit {0}) Refusal
granted (Ok x) = Ok tt
granted (Err r) = Err r

-- the new value where a call was granted, else the old one
abbrev pub kept_or : {A B : Type 0} → Result B Refusal → A → A → A
kept_or (Ok u) old new = new
kept_or (Err r) old new = old
