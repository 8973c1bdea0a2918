-- The words of fields and calls.
use Rattle.std.specs.Prelude.{◌≡◌, ◌≢◌, ℕ, List, Result, codes, IfOk, OnErr}
use Rattle.fields.specs.declared.named.NamedField.{NamedField}
use Rattle.fields.specs.declared.named.NamedField.TheVariants.{Mod65537, Mersenne31, Mod65537x2, Mersenne31x2}
use Rattle.bench.specs.declared.calls.Call.{Call}
use Rattle.bench.specs.declared.calls.Call.TheVariants.{BoxNote, HostNote, Answer, Judge, Read, Write}
use Rattle.bench.specs.declared.field_name.FieldName.{FieldName}
use Rattle.bench.specs.declared.mistake.Mistake.{Mistake}

-- the word of a named field
abbrev pub named_word : NamedField → List ℕ
named_word Mod65537 = codes "f65537"
named_word Mersenne31 = codes "m31"
named_word Mod65537x2 = codes "f65537x2"
named_word Mersenne31x2 = codes "m31x2"

-- the word of a field's name
abbrev pub field_word : FieldName → List ℕ
field_word name = named_word name.0

-- the word of a call
abbrev pub call_word : Call → List ℕ
call_word BoxNote = codes "box-note"
call_word HostNote = codes "host-note"
call_word Answer = codes "answer"
call_word Judge = codes "judge"
call_word Read = codes "read"
call_word Write = codes "write"

-- a word names what has it as its word, and no other word names anything
pub record Names {A : Type 0} (word_of : A → List ℕ) (word : List ℕ) (r : Result A Mistake) : Type 0 where
  pub known : IfOk r (λ x. word_of x ≡ word)
  pub unknown : OnErr r ((x : A) → word_of x ≢ word)
