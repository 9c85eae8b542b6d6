-- How a lexer stands.
use Rattle.std.specs.Prelude.{ℕ, List}

-- its text, and how many bytes of it lie behind
pub record Lexing : Type 0 where
  pub text : List ℕ
  pub at : ℕ
