-- Places of a text.
use Rattle.std.specs.Prelude.{ℕ, ◌+◌, not, if◌then◌else◌, List, take, count_by, reverse}
use Rattle.std.specs.List.{prefix_len}
use Rattle.kt_law.specs.declared.places.Place.{Place}
use Rattle.kt_text.specs.Bytes.{is_line_feed}

-- the place behind these bytes: the line is 1 plus the number of line feeds among them, the column 1 plus the number of
-- bytes since the last of them, or since the start
abbrev pub place_after : List ℕ → Place
place_after bytes = record {
  line = 1 + count_by is_line_feed bytes;
  column = 1 + prefix_len (λ b. not (is_line_feed b)) (reverse bytes);
}

-- the place of the byte at i, or of the end of the text
abbrev pub place_of : List ℕ → ℕ → Place
place_of text i = place_after (take i text)

-- the place behind one more byte
abbrev pub place_behind : Place → ℕ → Place
place_behind p b =
    if is_line_feed b then record { line = p.line + 1; column = 1 }
    else record { line = p.line; column = p.column + 1 }
