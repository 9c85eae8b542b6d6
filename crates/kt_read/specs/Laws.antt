-- Statements of the laws of the grammar.
use Rattle.std.specs.Prelude.{◌≡◌, ℕ, List, []}
use Rattle.kt_law.specs.declared.places.Refusal.{Refusal}
use Rattle.kt_prog.specs.declared.programs.Program.{Program}
use Rattle.kt_tokens.specs.declared.tokens.Tok.{Tok}
use Rattle.kt_read.specs.Jobs.{IsJob, IsUnread}
use Rattle.kt_read.specs.Programs.{ReadsProgram}
use Rattle.kt_read.specs.Texts.{IsText}

-- no tokens derive from the grammar with two programs
abbrev pub OneProgram : Type 0
OneProgram = (p q : Program) (toks : List Tok) → ReadsProgram p toks [] → ReadsProgram q toks [] → p ≡ q

-- no bytes are read as two programs, and none ends in two places
abbrev pub OneText : Type 0
OneText = (bytes : List ℕ) (p q : Program) (i j : ℕ) → IsText bytes p i → IsText bytes q j → (p ≡ q) × (i ≡ j)

-- no bytes are two jobs
abbrev pub OneJob : Type 0
OneJob = (bytes : List ℕ) (p q : Program) (i j : ℕ) → IsJob bytes p i → IsJob bytes q j → (p ≡ q) × (i ≡ j)

-- no bytes are a job and are refused too
abbrev pub JobIsRead : Type 0
JobIsRead = (bytes : List ℕ) (p : Program) (from : ℕ) (refusal : Refusal) → IsJob bytes p from → IsUnread bytes refusal → ⊥

-- no bytes are refused in two ways
abbrev pub OneRefusal : Type 0
OneRefusal = (bytes : List ℕ) (r s : Refusal) → IsUnread bytes r → IsUnread bytes s → r ≡ s
