-- A small program that keeps to its accesses: main forks two calls that each add to one element.
use Rattle.std.specs.Prelude.{ℕ, List, [], ◌∷◌, None}
use Rattle.kt_law.specs.Acts.{Act, Fold}
use Rattle.kt_law.specs.declared.operators.Op.TheVariants as O
use Rattle.kt_law.specs.declared.modes.Mode.TheVariants as M
use Rattle.kt_law.specs.declared.accesses.Access.{Access}
use Rattle.kt_order.specs.Body.{Body, Stop, Do, Fork}
use Rattle.kt_rights.specs.Plan.{Plan}
use Rattle.kt_rights.specs.Rows.{Rows, row_at, with_row}
use Rattle.kt_rights.specs.Rights.{Obeys}

pub data Adding : Type 0 where
  Main : Adding
  Adder : (value : ℕ) → Adding

-- the adders may be done in either order: each cumulates by the sum
abbrev pub adding_accesses : Adding → List Access
adding_accesses Main = record { lo = 0; hi = 1; mode = M.Xp } ∷ []
adding_accesses (Adder n) = record { lo = 0; hi = 1; mode = M.Cw O.Add } ∷ []

abbrev pub adding_tree : Adding → Body ℕ ℕ Act Adding
adding_tree Main = Fork (Adder 1) (Fork (Adder 2) (Stop None))
adding_tree (Adder n) = Do (record { object = 0; element = 0; deed = Fold O.Add n }) (λ _. Stop None)

abbrev pub adding_height : Adding → ℕ
adding_height Main = 1
adding_height (Adder n) = 0

abbrev pub adding : Plan
adding = record {
  Call = Adding;
  Fault = ℕ;
  tree = adding_tree;
  height = adding_height;
  Fits = λ c. Unit {0};
  accesses = adding_accesses;
  own = λ c. None;
  width = λ object. 1;
  Store = Rows;
  look = row_at;
  change = with_row;
}

-- so the premise of the laws can be met
abbrev pub AddingObeys : Type 0
AddingObeys = Obeys adding
