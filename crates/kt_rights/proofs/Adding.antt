-- The small program keeps to its accesses.
use Rattle.std.proofs.Common.{◌≡◌, ℕ, false, inl, refl, arith}
use Rattle.kt_law.specs.Accesses.{clashes}
use Rattle.kt_order.specs.Body.{Keeps}
use Rattle.kt_rights.specs.Plan.{IsStore}
use Rattle.kt_rights.specs.Rights.{Directly, Handed, EndsWithIndexes, Obeys}
use Rattle.kt_rights.specs.Example.{Adding, Main, Adder, adding}
use Rattle.kt_rights.proofs.RowStores.{rows_other, rows_same, rows_look, rows_still}

handed : (n : ℕ) → Handed adding Main (Adder n)
handed n = record {
  fits = tt;
  lower = omega arith;
  how = inl (record { whole = refl; child = refl; covered = (inl (record { from = omega arith; below = omega arith; hands_on = refl }), tt) });
}

keeps : (c : Adding) → Keeps (Directly adding c) (Handed adding c) (adding.tree c)
keeps Main = (handed 1, (handed 2, tt))
keeps (Adder n) = ((omega arith, inl (record { object = record { from = omega arith; below = omega arith }; lets = refl; owns = tt })), λ a. tt)

unalike : (c : Adding) → clashes (adding.accesses c) ≡ false
unalike Main = refl
unalike (Adder n) = refl

ends : (c : Adding) → EndsWithIndexes adding (adding.tree c)
ends Main = (inl refl, (inl refl, tt))
ends (Adder n) = λ a. tt

store : IsStore adding
store = record {
  look_other = λ o e o' e' f s x y ne. rows_look o e o' e' f s ne;
  other = λ o e o' e' f g s x y ne. rows_other o e o' e' f g s ne;
  same = rows_same;
  still = rows_still;
}

pub adding_obeys : Obeys adding
adding_obeys = record { unalike = λ c fits. unalike c; keeps = λ c fits. keeps c; indexes = λ c fits. ends c; store = store }
