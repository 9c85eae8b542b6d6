-- The way up from a task in hand, record by record: the numbers found so far, and what is still to be found.
use Rattle.std.proofs.Common.{◌≡◌, ℕ, zero, suc, ◌+◌, ◌<◌, ◌≤◌, ◌⊎◌, List, [], ◌∷◌, ◌++◌, append-nil, length, map, sym, refl, ap, ◌∙◌, subst, inl, inr, arith, length-append, Some, None}
use Rattle.kt_law.specs.declared.limits.TheConstants.{DEPTH}
use Rattle.kt_runs.specs.ByPath.{Path, child}
use Rattle.kt_rule.specs.declared.views.Spot.{Spot}
use Rattle.kt_rule.specs.declared.views.View.{View}
use Rattle.kt_rule.specs.Lists.{here}
use Rattle.kt_rule.proofs.Sums.{map_long}
use Rattle.kt_tasks.specs.Climbs.{IsReached, IsReachedAt, IsForkOf, climbed, HasClimbed, IsAbove}
use Rattle.kt_tasks.specs.Hands.{IsHeld, IsPathIn}
use Rattle.kt_tasks.proofs.Climbing.{further}

-- from the record `at` so many numbers were found, up to the record `next`
pub record Way (v w : View) (at next count : ℕ) (numbers : List ℕ) : Type 0 where
  pub moved : HasClimbed v w
  pub count_is : length numbers ≡ count
  pub on : (m : Spot) → IsHeld v at m → (o : Spot) × IsReachedAt w next o × (map suc o.path ++ numbers ≡ map suc m.path)
  pub deep : 0 < count → (m : Spot) → IsHeld v at m → length m.path ≤ DEPTH

pub begins : (v : View) (at : ℕ) → Way v v at at 0 []
begins v at = record {
  moved = refl;
  count_is = refl;
  on = λ m held. (m, (inl held.0, held.1), append-nil (map suc m.path));
  deep = λ some_found. absurd (omega arith);
}

-- the numbers of a child are those of its parent and its own
numbers_on : (p : Path) (k : ℕ) (numbers : List ℕ) → map suc (child p k) ++ numbers ≡ map suc p ++ (suc k ∷ numbers)
numbers_on [] k numbers = refl
numbers_on (x ∷ p) k numbers = ap (λ (z : List ℕ). suc x ∷ z) (numbers_on p k numbers)

numbers_long : (p : Path) (numbers : List ℕ) (m : Path) → map suc p ++ numbers ≡ map suc m → length p + length numbers ≡ length m
numbers_long p numbers m e = let a = length-append (map suc p) numbers in let b = map_long suc p in let c = map_long suc m in
    let d : length (map suc p ++ numbers) ≡ length (map suc m) = ap length e in omega arith

zero_or : (n : ℕ) → (n ≡ 0) ⊎ (0 < n)
zero_or zero = inl refl
zero_or (suc n) = inr (omega arith)

no_path : (p : Path) → length p ≡ 0 → p ≡ []
no_path [] e = refl
no_path (x ∷ p) e = absurd (omega arith)

-- the parent of a task that was reached is reached
reached_on : (w x : View) (o p : Spot) → IsReached w o → IsForkOf p o → x ≡ climbed w p → IsReached x p
reached_on w x o p (inl hand) (k, below, fork) x_is = subst (λ (z : View). IsReached z p) (sym x_is)
    (inr (here, (o, (k ∷ []), hand, sym below)))
reached_on w x o p (inr (found, (h, rest, hand, on))) (k, below, fork) x_is = subst (λ (z : View). IsReached z p) (sym x_is)
    (inr (here, (h, (k ∷ rest), hand, sym (further p.path k rest) ∙ (ap (λ (z : Path). z ++ rest) (sym below) ∙ on))))

moved_on : (v w x : View) (p : Spot) → HasClimbed v w → x ≡ climbed w p → HasClimbed v x
moved_on v w x p moved x_is = x_is ∙ (ap (λ (z : View). climbed z p) moved
    ∙ ap (λ z. record v { seen = record v.seen { line = z } }) (sym (ap (λ (z : View). z.seen.line) x_is)))

module _ (v w x : View) (at next count : ℕ) (numbers : List ℕ) (way : Way v w at next count numbers) where
  found_deep : ((o : Spot) → IsReachedAt w next o → length o.path ≤ DEPTH) → (m : Spot) → IsHeld v at m → length m.path ≤ DEPTH
  found_deep deep m held = elim (zero_or count) [
    | inl none_yet ↦ (let o = way.on m held in let few = deep o.0 o.1 in let long = numbers_long o.0.path numbers m.path o.2 in
        let n = way.count_is in omega arith)
    | inr some_found ↦ way.deep some_found m held
  ]

  -- one more number was found
  pub goes_up : (m : Spot) → IsHeld v at m → (fork parent : ℕ) → ((o : Spot) → IsReachedAt w next o → fork ≡ o.berth.fork)
      → ((o : Spot) → IsReachedAt w next o → length o.path ≤ DEPTH)
      → ((o : Spot) → IsReachedAt w next o → IsAbove w o x (Some parent)) → Way v x at parent (count + 1) (fork ∷ numbers)
  goes_up m held fork parent fork_is deep above = let o = way.on m held in let p = above o.0 o.1 in record {
    moved = moved_on v w x p.0 way.moved p.3;
    count_is = let n = way.count_is in omega arith;
    on = λ n n_held. let a = way.on n n_held in let b = above a.0 a.1 in (
      b.0,
      (reached_on w x a.0 b.0 a.1.0 b.1 b.3, sym b.2),
      ap (λ (z : ℕ). map suc b.0.path ++ (z ∷ numbers)) (fork_is a.0 a.1 ∙ b.1.2) ∙
          (sym (numbers_on b.0.path b.1.0 numbers) ∙ (ap (λ (z : Path). map suc z ++ numbers) (sym b.1.1) ∙ a.2)),
    );
    deep = λ some_found. found_deep deep;
  }

  -- main was reached
  pub ends_above : (m : Spot) → IsHeld v at m → ((o : Spot) → IsReachedAt w next o → IsAbove w o x None)
      → HasClimbed v x × IsPathIn v at numbers
  ends_above m held above = let o = way.on m held in let p = above o.0 o.1 in (
    subst (HasClimbed v) (sym p.1) way.moved,
    (λ n n_held. let a = way.on n n_held in let b = above a.0 a.1 in
        ap (λ (z : Path). map suc z ++ numbers) (sym b.0) ∙ a.2),
  )

  -- no path is longer
  pub ends_full : count ≡ DEPTH → IsPathIn v at numbers
  ends_full full m held = let o = way.on m held in let few = way.deep (omega arith) m held in
      let long = numbers_long o.0.path numbers m.path o.2 in let n = way.count_is in
      ap (λ (z : Path). map suc z ++ numbers) (sym (no_path o.0.path (omega arith))) ∙ o.2
