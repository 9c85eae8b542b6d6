-- Kinds of bytes.
use Rattle.std.specs.Prelude.{ℕ, ◌+◌, ◌*◌, ◌-◌, Bool, not, ◌&&◌, ◌||◌, ◌==◌, List, codes}
use Rattle.std.specs.Char.{is_ascii_alphabetic, is_ascii_digit}
use Rattle.std.specs.List.{fold, list_any}
use Rattle.std.specs.Str.{byte}

abbrev pub is_among : List ℕ → ℕ → Bool
is_among bytes b = list_any (λ c. c == b) bytes

abbrev pub is_line_feed : ℕ → Bool
is_line_feed b = b == 10

-- space, tab, line feed, carriage return
abbrev pub is_blank : ℕ → Bool
is_blank b = is_among (codes " \t\n\r") b

-- a blank that does not end a line
abbrev pub is_space : ℕ → Bool
is_space b = is_blank b && not (is_line_feed b)

-- what a line is made of
abbrev pub is_line_byte : ℕ → Bool
is_line_byte b = not (is_line_feed b)

-- what the items of the data are made of
abbrev pub is_item_byte : ℕ → Bool
is_item_byte b = not (is_blank b)

-- `A` to `Z`, `a` to `z`, `_`
abbrev pub is_letter : ℕ → Bool
is_letter b = is_ascii_alphabetic b || b == byte "_"

abbrev pub is_word_byte : ℕ → Bool
is_word_byte b = is_letter b || is_ascii_digit b

-- `==` `!=` `<=` `>=` `..`
abbrev pub is_pair : ℕ → ℕ → Bool
is_pair a b = b == byte "=" && is_among (codes "=!<>") a || a == byte "." && b == byte "."

abbrev pub is_single : ℕ → Bool
is_single b = is_among (codes "{}()[],;=<>+-*/%") b

-- the number that digits write
abbrev pub value_of : List ℕ → ℕ
value_of digits = fold (λ n d. n * 10 + (d - byte "0")) 0 digits
