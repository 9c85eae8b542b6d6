-- Statements of the laws of the canonical text.
use Rattle.std.specs.Prelude.{ℕ, ◌-◌, List, ◌++◌, length}
use Rattle.kt_prog.specs.declared.programs.Program.{Program}
use Rattle.kt_print.specs.CanonicalText.{canonical_text}
use Rattle.kt_read.specs.Jobs.{IsJob}
use Rattle.kt_read.specs.Texts.{IsText}
use Rattle.kt_canon.specs.Placeless.{SameButForPlaces}

-- some bytes are a text of the program, but for places
pub record HasText (p : Program) : Type 0 where
  pub bytes : List ℕ
  pub program : Program
  pub from : ℕ
  pub text : IsText bytes program from
  pub same : SameButForPlaces p program

-- some bytes are a job of the program, but for places
pub record IsWritten (p : Program) : Type 0 where
  pub bytes : List ℕ
  pub program : Program
  pub from : ℕ
  pub job : IsJob bytes program from
  pub same : SameButForPlaces p program

-- The canonical text, but for its last line feed, is a text of the same program but for places, whatever bytes stand behind it.
pub record IsTextAgain (p : Program) (behind : List ℕ) : Type 0 where
  pub program : Program
  pub text : IsText (canonical_text p ++ behind) program (length (canonical_text p) - 1)
  pub same : SameButForPlaces p program

-- so it is for each program that has a text
abbrev pub CanonicalIsText : Type 0
CanonicalIsText = (p : Program) (behind : List ℕ) → HasText p → IsTextAgain p behind

-- The canonical text, but for its last line feed, is a job of the same program but for places, whatever bytes stand behind it.
pub record IsJobAgain (p : Program) (behind : List ℕ) : Type 0 where
  pub program : Program
  pub job : IsJob (canonical_text p ++ behind) program (length (canonical_text p) - 1)
  pub same : SameButForPlaces p program

-- so it is for each program that is written
abbrev pub CanonicalIsRead : Type 0
CanonicalIsRead = (p : Program) (behind : List ℕ) → IsWritten p → IsJobAgain p behind
