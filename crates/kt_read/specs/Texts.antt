-- Whole texts.
use Rattle.std.specs.Prelude.{ℕ, List, []}
use Rattle.kt_prog.specs.declared.programs.Program.{Program}
use Rattle.kt_text.specs.declared.tokens.Token.{Token}
use Rattle.kt_text.specs.Tokens.{Lexes}
use Rattle.kt_tokens.specs.Words.{toks_of}
use Rattle.kt_read.specs.Programs.{ReadsProgram}

-- The bytes up to `from` are tokens, none of which is refused, and they derive from the grammar with this program. The last
-- of them is the word `data`, which ends at `from`. Nothing is said of how deep they nest.
pub record IsText (bytes : List ℕ) (program : Program) (from : ℕ) : Type 0 where
  pub tokens : List Token
  pub lexed : Lexes bytes 0 tokens from
  pub derived : ReadsProgram program (toks_of bytes tokens) []
