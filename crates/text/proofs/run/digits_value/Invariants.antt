use Rattle.std.proofs.Common.{◌≡◌, ◌^◌, ◌<◌, drop}
use Rattle.std.specs.Char.{is_ascii_digit}
use Rattle.std.specs.List.{list_all}
use Rattle.text.specs.Tokens.{value_after}
use Rattle.text.proofs.run.digits_value.Given as goal

abbrev pub invariant-loop-b : goal.invariant-loop-b
invariant-loop-b l = (list_all is_ascii_digit (drop l.b-index l.digits) ≡ list_all is_ascii_digit l.digits) × (value_after l.value (drop l.b-index l.digits) ≡ value_after 0 l.digits) × (l.value < 10 ^ l.b-index)
