-- The names that statements leave in sight.
use Rattle.std.specs.Prelude.{ℕ, List, [], ◌∷◌, ◌++◌, Bool, false, drop}
use Rattle.std.specs.Str.{bytes_eq}
use Rattle.kt_prog.specs.declared.programs.Stmt.{Stmt}
use Rattle.kt_prog.specs.declared.programs.What.{What, What-F, out-What}
use Rattle.kt_prog.specs.declared.programs.What.TheOpen as W
use Rattle.kt_prog.specs.declared.sight.Kind.TheVariants.{Variable}
use Rattle.kt_prog.specs.declared.sight.Known.{Known}

-- the name that a statement leaves in sight
abbrev pub let_name : What-F What Stmt → List Known
let_name (W.Let name place e) = record { name = name; kind = Variable } ∷ []
let_name _ = []

abbrev pub is_let_of : What-F What Stmt → List ℕ → Bool
is_let_of (W.Let other place e) name = bytes_eq other name
is_let_of _ name = false

abbrev pub let_names : List Stmt → List Known
let_names [] = []
let_names (stmt ∷ stmts) = let_name (out-What stmt.what) ++ let_names stmts

-- the place, where the statement that stands there leaves a name
abbrev pub place_of_let : ℕ → What-F What Stmt → List ℕ
place_of_let place (W.Let name p e) = place ∷ []
place_of_let place _ = []

abbrev pub first_let : List Stmt → List Known
first_let [] = []
first_let (stmt ∷ stmts) = let_name (out-What stmt.what)

-- the names that the statements at these places leave in sight
abbrev pub lets_at : List Stmt → List ℕ → List Known
lets_at stmts [] = []
lets_at stmts (place ∷ places) = first_let (drop place stmts) ++ lets_at stmts places
