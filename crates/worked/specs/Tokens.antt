-- Tokens: which runs are words and numbers, where a run ends, where a reader goes on, and what a token comes to where an item is next. Assumes nothing.
use Rattle.std.specs.Prelude.{◌≡◌, ℕ, List, [], ◌∷◌, ◌++◌, pos, negsuc, codes}
use Rattle.refusal.specs.declared.fault.Fault.TheVariants as fault
use Rattle.text.specs.Tokens.{Token.opening, Token.closing, Token.line_end, Token.text_end, Token.word, Token.number, Token.malformed, classed, token_at, Cursor, skip_spaces, next_token, after_token}
use Rattle.text.specs.Items as items
use Rattle.text.specs.Items.{Item, Verdict, Verdict.wrong, Verdict.fine, Verdict.keep, item_verdict}
use Rattle.text.specs.declared.keyword.Keyword.TheVariants as keyword

-- a reader with this text before it, on line 3 at the place 40
abbrev pub cursor_before : List ℕ → Cursor
cursor_before bs = record { rest = bs; line = 3; place = 40 }

-- the items that are next: an opening bracket, the word at, the number 5, a number from −1 to 16, and the text's end
abbrev pub next_opening : Item
next_opening = items.Item.the items.Fixed.opening

abbrev pub next_at : Item
next_at = items.Item.the (items.Fixed.word keyword.At)

abbrev pub next_5 : Item
next_5 = items.Item.given 5 fault.Index

abbrev pub next_claim : Item
next_claim = items.Item.stated (negsuc 0) (pos 16) fault.Claim

abbrev pub next_end : Item
next_end = items.Item.the items.Fixed.text_end

-- what a run comes to where an item is next
abbrev pub run_verdict : Item → List ℕ → Verdict
run_verdict d bs = item_verdict d (classed bs)

-- what a text is cut into
pub record TokenCases : Type 0 where
  -- a word has one to eight letters, from a to z
  pub letters_1 : classed (codes "a") ≡ word (codes "a")
  pub letters_8 : classed (codes "abcdefgh") ≡ word (codes "abcdefgh")
  pub letters_9 : classed (codes "abcdefghi") ≡ malformed (codes "abcdefghi")
  pub letters_a_and_z : classed (codes "za") ≡ word (codes "za")
  pub before_a : classed (codes "a`") ≡ malformed (codes "a`")
  pub after_z : classed (codes "z{") ≡ malformed (codes "z{")
  pub capital : classed (codes "Sheet") ≡ malformed (codes "Sheet")
  -- and never a minus sign
  pub minus_letters_1 : classed (codes "-a") ≡ malformed (codes "-a")
  pub minus_letters_8 : classed (codes "-abcdefgh") ≡ malformed (codes "-abcdefgh")
  pub minus_letters_9 : classed (codes "-abcdefghi") ≡ malformed (codes "-abcdefghi")
  -- a number has one to ten digits, and leading zeros are digits
  pub digits_1 : classed (codes "7") ≡ number (codes "7") (pos 7)
  pub digits_10 : classed (codes "9876543210") ≡ number (codes "9876543210") (pos 9876543210)
  pub digits_11 : classed (codes "98765432109") ≡ malformed (codes "98765432109")
  pub zeros : classed (codes "0014") ≡ number (codes "0014") (pos 14)
  pub zeros_10 : classed (codes "0000000014") ≡ number (codes "0000000014") (pos 14)
  pub zeros_11 : classed (codes "00000000014") ≡ malformed (codes "00000000014")
  pub zero : classed (codes "0") ≡ number (codes "0") (pos 0)
  pub before_0 : classed (codes "0/") ≡ malformed (codes "0/")
  pub after_9 : classed (codes "9:") ≡ malformed (codes "9:")
  -- one minus sign may stand before them, and is no digit
  pub minus_digits_1 : classed (codes "-7") ≡ number (codes "-7") (negsuc 6)
  pub minus_digits_10 : classed (codes "-9876543210") ≡ number (codes "-9876543210") (negsuc 9876543209)
  pub minus_digits_11 : classed (codes "-98765432109") ≡ malformed (codes "-98765432109")
  pub minus_zero : classed (codes "-0") ≡ number (codes "-0") (pos 0)
  pub minus_alone : classed (codes "-") ≡ malformed (codes "-")
  pub minus_twice : classed (codes "--5") ≡ malformed (codes "--5")
  pub minus_behind : classed (codes "5-") ≡ malformed (codes "5-")
  pub minus_between : classed (codes "1-2") ≡ malformed (codes "1-2")
  pub plus : classed (codes "+5") ≡ malformed (codes "+5")
  -- a run of letters and digits is neither
  pub letters_first : classed (codes "at0") ≡ malformed (codes "at0")
  pub digits_first : classed (codes "0at") ≡ malformed (codes "0at")
  -- other bytes are in no word and no number: zero, tab, carriage return, 128 and 255
  pub byte_0 : token_at (0 ∷ codes " 5") ≡ malformed (0 ∷ [])
  pub tab : token_at (9 ∷ codes " 5") ≡ malformed (9 ∷ [])
  pub tab_behind : token_at (codes "at" ++ (9 ∷ codes "0 ")) ≡ malformed (codes "at" ++ (9 ∷ codes "0"))
  pub carriage_return : token_at (13 ∷ 10 ∷ []) ≡ malformed (13 ∷ [])
  pub byte_128 : token_at (128 ∷ []) ≡ malformed (128 ∷ [])
  pub byte_255 : token_at (255 ∷ []) ≡ malformed (255 ∷ [])
  pub byte_255_behind : token_at (codes "14" ++ (255 ∷ codes ")")) ≡ malformed (codes "14" ++ (255 ∷ []))
  -- brackets, line ends and the end are tokens of their own
  pub bracket_opened : token_at (codes "(at") ≡ opening
  pub bracket_closed : token_at (codes "))") ≡ closing
  pub line_ended : token_at (10 ∷ codes "(at") ≡ line_end
  pub text_ended : token_at [] ≡ text_end
  -- a run ends at a space, a bracket, a line end and the end, and nowhere else
  pub run_to_space : token_at (codes "at 0") ≡ word (codes "at")
  pub run_to_opening : token_at (codes "at(0") ≡ word (codes "at")
  pub run_to_closing : token_at (codes "14)") ≡ number (codes "14") (pos 14)
  pub run_to_line_end : token_at (codes "14" ++ (10 ∷ codes "5")) ≡ number (codes "14") (pos 14)
  pub run_to_end : token_at (codes "14") ≡ number (codes "14") (pos 14)
  pub run_past_dots : token_at (codes "at.0 5") ≡ malformed (codes "at.0")
  -- spaces are passed over, and a token is told where its first byte stands
  pub spaces_passed : skip_spaces (cursor_before (codes "  at 0")) ≡ record { rest = codes "at 0"; line = 3; place = 42 }
  pub spaces_before : next_token (cursor_before (codes "  at 0")) ≡ word (codes "at")
  pub spaces_alone : next_token (cursor_before (codes "   ")) ≡ text_end
  -- behind a token the reader is past all its bytes; behind a line end it is on the next line
  pub past_bracket : after_token (cursor_before (codes "(at 0")) ≡ record { rest = codes "at 0"; line = 3; place = 41 }
  pub past_word : after_token (cursor_before (codes "  at 0")) ≡ record { rest = codes " 0"; line = 3; place = 44 }
  pub past_number : after_token (cursor_before (codes "-0014)")) ≡ record { rest = codes ")"; line = 3; place = 45 }
  pub past_malformed : after_token (cursor_before (codes "x1 y")) ≡ record { rest = codes " y"; line = 3; place = 42 }
  pub past_line_end : after_token (cursor_before (32 ∷ 10 ∷ codes " 5")) ≡ record { rest = codes " 5"; line = 4; place = 42 }
  pub past_end : after_token (cursor_before (codes " ")) ≡ record { rest = []; line = 3; place = 41 }
  -- a malformed run is one wherever it stands; any other token that does not belong is unexpected
  pub malformed_for_bracket : run_verdict next_opening (codes "at0") ≡ wrong fault.Malformed
  pub malformed_for_number : run_verdict next_5 (codes "+5") ≡ wrong fault.Malformed
  pub malformed_for_end : run_verdict next_end (255 ∷ []) ≡ wrong fault.Malformed
  pub word_for_bracket : run_verdict next_opening (codes "at") ≡ wrong fault.Unexpected
  pub word_for_number : run_verdict next_5 (codes "five") ≡ wrong fault.Unexpected
  pub word_for_claim : run_verdict next_claim (codes "x") ≡ wrong fault.Unexpected
  pub bracket_for_number : item_verdict next_5 closing ≡ wrong fault.Unexpected
  pub line_end_for_claim : item_verdict next_claim line_end ≡ wrong fault.Unexpected
  pub end_for_bracket : item_verdict next_opening text_end ≡ wrong fault.Unexpected
  pub number_for_word : run_verdict next_at (codes "5") ≡ wrong fault.Unexpected
  pub closing_for_opening : item_verdict next_opening closing ≡ wrong fault.Unexpected
  pub bracket : item_verdict next_opening opening ≡ fine
  -- a word is compared byte by byte
  pub word_at : run_verdict next_at (codes "at") ≡ fine
  pub word_shorter : run_verdict next_at (codes "a") ≡ wrong fault.Unexpected
  pub word_longer : run_verdict next_at (codes "ate") ≡ wrong fault.Unexpected
  pub word_turned : run_verdict next_at (codes "ta") ≡ wrong fault.Unexpected
  -- a number is compared by its value
  pub number_5 : run_verdict next_5 (codes "5") ≡ fine
  pub number_005 : run_verdict next_5 (codes "005") ≡ fine
  pub number_4 : run_verdict next_5 (codes "4") ≡ wrong fault.Index
  pub number_6 : run_verdict next_5 (codes "6") ≡ wrong fault.Index
  pub number_less_5 : run_verdict next_5 (codes "-5") ≡ wrong fault.Index
  -- a number that is stated is kept from the least to the greatest
  pub least_kept : run_verdict next_claim (codes "-1") ≡ keep (negsuc 0)
  pub zero_kept : run_verdict next_claim (codes "-0") ≡ keep (pos 0)
  pub greatest_kept : run_verdict next_claim (codes "0016") ≡ keep (pos 16)
  pub below_least : run_verdict next_claim (codes "-2") ≡ wrong fault.Claim
  pub above_greatest : run_verdict next_claim (codes "17") ≡ wrong fault.Claim
