-- A store as the number of each element of each object.
use Rattle.std.specs.Prelude.{ℕ, cond, nat_eq, ◌&&◌}

abbrev pub Rows : Type 0
Rows = ℕ → ℕ → ℕ

abbrev pub row_at : ℕ → ℕ → Rows → ℕ
row_at o e s = s o e

abbrev pub with_row : ℕ → ℕ → (ℕ → ℕ) → Rows → Rows
with_row o e f s = λ o' e'. cond (nat_eq o' o && nat_eq e' e) (f (s o' e')) (s o' e')
