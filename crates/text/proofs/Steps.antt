-- One step of the reader.
use Rattle.std.proofs.Common.{eqb, take_while, ◌≡◌, ℕ, ◌+◌, ◌-◌, List, length, take, drop, ap, ◌∙◌}
use Rattle.std.proofs.lemmas.List.{take_rest}
use Rattle.text.specs.Tokens.{leading_spaces, Token, token_at}
use Rattle.text.proofs.Runs.{spaces_taken}

-- the part of s from k on, as the code cuts it
abbrev pub from_on : List ℕ → ℕ → List ℕ
from_on s k = take (length s - k) (drop k s)

module _ (s : List ℕ) (k n : ℕ) (t : Token) (sp : n ≡ length (take_while (λ b. eqb b 32) (from_on s k))) (tok : t ≡ token_at (from_on (from_on s k) n)) where
  spaces_are : n ≡ leading_spaces (drop k s)
  spaces_are = sp ∙ spaces_taken (from_on s k) ∙ ap leading_spaces (take_rest s k)

  pub token_is : t ≡ token_at (drop (leading_spaces (drop k s)) (drop k s))
  token_is = tok ∙ ap token_at (take_rest (from_on s k) n ∙ ap (drop n) (take_rest s k) ∙ ap (λ j. drop j (drop k s)) spaces_are)

  pub place_is : k + n ≡ k + leading_spaces (drop k s)
  place_is = ap (λ j. k + j) spaces_are
