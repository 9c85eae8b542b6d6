-- Members and spans of ranges.
use Rattle.std.proofs.Common.{◌≡◌, ◌≤◌, ◌<◌, ℕ, ◌+◌, true, false, refl, arith, nat_le}
use Rattle.std.proofs.lemmas.Bool.Decides.{nat_tests}
use Rattle.kt_law.specs.declared.faults.F.TheVariants.{F3}
use Rattle.kt_prog.specs.Forks.{range_length}
use Rattle.kt_prog.specs.Lookups.{Range}
use Rattle.kt_prog.specs.Script.{◌>>=◌, give, stop}
use Rattle.kt_body.specs.Forking.{member_at, members_at}
use Rattle.kt_body.proofs.Values.{below, not_below}

module _ (line : ℕ) (r : Range) where
  pub member_denied : (i : ℕ) → range_length r ≤ i → member_at line r i ≡ stop F3 line
  unfolding stop ◌>>=◌
  member_denied i h = rw (not_below i (range_length r) h) refl

  pub member_found : (i : ℕ) → i < range_length r → member_at line r i ≡ give (r.lo + i)
  unfolding give ◌>>=◌
  member_found i h = rw (below i (range_length r) h) refl

  pub members_unordered : (a b : ℕ) → b < a → members_at line r a b ≡ stop F3 line
  unfolding stop ◌>>=◌
  members_unordered a b h = let e : nat_le a b ≡ false = grind (arith, nat_tests) in rw e refl

  pub members_past : (a b : ℕ) → a ≤ b → range_length r < b → members_at line r a b ≡ stop F3 line
  unfolding stop ◌>>=◌
  members_past a b h k =
      let e : nat_le a b ≡ true = grind (arith, nat_tests) in
      let f : nat_le b (range_length r) ≡ false = grind (arith, nat_tests) in
      rw (e, f) refl

  pub members_found : (a b : ℕ) → a ≤ b → b ≤ range_length r → members_at line r a b ≡ give (record { lo = r.lo + a; hi = r.lo + b })
  unfolding give ◌>>=◌
  members_found a b h k =
      let e : nat_le a b ≡ true = grind (arith, nat_tests) in
      let f : nat_le b (range_length r) ≡ true = grind (arith, nat_tests) in
      rw (e, f) refl
