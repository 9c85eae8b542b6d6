use Rattle.std.proofs.Common.{◌≡◌, ◌++◌, ◌<◌, ◌^◌, drop, length, string_bytes}
use Rattle.kt_prog.specs.Objects.{elements_of}
use Rattle.kt_print.specs.Rows.{rows_text}
use Rattle.kt_print.proofs.rows.rows_bytes.Given as goal

-- the text so far and the text of what is left are the text of all
abbrev pub invariant-loop-family : goal.invariant-loop-family
invariant-loop-family l = record {
  text : string_bytes l.text ++ rows_text (drop l.family-index l.family-items) l.rest ≡ rows_text l.program.families l.rows;
  all : length l.rest ≡ elements_of (drop l.family-index l.family-items);
  few : length l.rest < 2 ^ 32;
}
