-- The way down from main to a task that can go on.
use Rattle.std.proofs.Common.{◌≡◌, ◌≤◌, ◌<◌, ℕ, zero, suc, ◌+◌, ◌-◌, Bool, true, false, cond, not, ◌&&◌, List, [], ◌∷◌, length, map, take, Some, None, refl, sym, ap, ◌∙◌, subst, arith, slice_get}
use Rattle.std.proofs.Math.Logic.{∥∥₁_elim}
use Rattle.std.specs.Coded.{le_prop}
use Rattle.std.proofs.lemmas.Option.{slice_get_within}
use Rattle.kt_law.specs.declared.limits.TheConstants.{DEPTH}
use Rattle.kt_order.specs.Paths.{same_path, shift, IsThere}
use Rattle.kt_order.proofs.Squares.{same_is}
use Rattle.kt_prog.proofs.Lists.{both_hold}
use Rattle.kt_tables.specs.Tables.{TaskRow, CoreState, parent_of, is_root, is_child, are_siblings, is_open, first_from, open_before, open_child}
use Rattle.kt_tables.specs.TableLaws.{IsLawfulTable, IsLawfulState}
use Rattle.kt_sim.specs.Turns.{IsFirst, depth_at, depth_of}
use Rattle.kt_sim.proofs.Outside.{row_there}

-- the first task that passes a test
record Found (test : TaskRow → Bool) (tasks : List TaskRow) (n k : ℕ) : Type 0 where
  pub place : ℕ
  pub number : k ≡ n + place
  pub row : TaskRow
  pub there : slice_get tasks place ≡ Some row
  pub passes : test row ≡ true
  pub none : (m : ℕ) → first_from m test (take place tasks) ≡ None

first_found : (n : ℕ) (test : TaskRow → Bool) (tasks : List TaskRow) (k : ℕ) → first_from n test tasks ≡ Some k → Found test tasks n k
first_found n test [] k e = cc
first_found n test (r ∷ tasks) k e = chosen (test r) refl e (λ h. first_found (suc n) test tasks k h)
  where
    chosen : (b : Bool) → test r ≡ b → cond b (Some n) (first_from (suc n) test tasks) ≡ Some k
        → (first_from (suc n) test tasks ≡ Some k → Found test tasks (suc n) k) → Found test (r ∷ tasks) n k
    chosen true is e more =
        let same : n ≡ k = cc in
        record { place = 0; number = omega (arith, same); row = r; there = refl; passes = is; none = λ m. refl }
    chosen false is e more =
        let f = more e in
        let number = f.number in
        record {
          place = suc f.place;
          number = omega (arith, number);
          row = f.row;
          there = f.there;
          passes = f.passes;
          none = λ m. rw is (f.none (suc m));
        }

-- where none passes a wider test, none passes
none_passes : (m : ℕ) (test narrow : TaskRow → Bool) (tasks : List TaskRow) → ((u : TaskRow) → narrow u ≡ true → test u ≡ true)
    → first_from m test tasks ≡ None → first_from m narrow tasks ≡ None
none_passes m test narrow [] h e = refl
none_passes m test narrow (r ∷ tasks) h e = chosen (narrow r) (test r) refl refl e (λ g. none_passes (suc m) test narrow tasks h g)
  where
    chosen : (a b : Bool) → narrow r ≡ a → test r ≡ b → cond b (Some m) (first_from (suc m) test tasks) ≡ None
        → (first_from (suc m) test tasks ≡ None → first_from (suc m) narrow tasks ≡ None) → cond a (Some m) (first_from (suc m) narrow tasks) ≡ None
    chosen a true x y e more = cc
    chosen true false x y e more = let bad = h r x in cc
    chosen false false x y e more = more e

all_three : (a b c : Bool) → (a && (b && c)) ≡ true → (a ≡ true) × (c ≡ true)
all_three true true true e = (refl, refl)
all_three true true false e = cc
all_three true false c e = cc
all_three false b c e = cc

and_both : (a b : Bool) → a ≡ true → b ≡ true → (a && b) ≡ true
and_both true true x y = refl
and_both true false x y = cc
and_both false b x y = cc

child_path : (p q : List ℕ) → is_child p q ≡ true → parent_of q ≡ p
child_path p q e = same_is (parent_of q) p (both_hold (not (is_root q)) (same_path (parent_of q) p) e).1

one_longer : (q : List ℕ) → not (is_root q) ≡ true → length q ≡ suc (length (parent_of q))
one_longer [] e = cc
one_longer (k ∷ []) e = refl
one_longer (k ∷ (j ∷ q)) e = let rest = one_longer (j ∷ q) refl in omega (arith, rest)

child_longer : (p q : List ℕ) → is_child p q ≡ true → length q ≡ suc (length p)
child_longer p q e =
    one_longer q (both_hold (not (is_root q)) (same_path (parent_of q) p) e).0 ∙ ap (λ (w : List ℕ). suc (length w)) (child_path p q e)

-- the first open child of a task is the first open one of its frame
pub record FirstChild (r : TaskRow) (k : ℕ) (tasks : List TaskRow) : Type 0 where
  pub row : TaskRow
  pub there : slice_get tasks k ≡ Some row
  pub live : is_open row ≡ true
  pub child : is_child r.path row.path ≡ true
  pub first : open_before k row tasks ≡ None

sibling_child : (r s u : TaskRow) → is_child r.path s.path ≡ true → (are_siblings u.path s.path && is_open u) ≡ true → (is_child r.path u.path && is_open u) ≡ true
sibling_child r s u child e =
    let two = both_hold (are_siblings u.path s.path) (is_open u) e in
    let parts = all_three (not (is_root u.path)) (not (is_root s.path)) (same_path (parent_of u.path) (parent_of s.path)) two.0 in
    let same : same_path (parent_of u.path) r.path ≡ true = subst (λ (w : List ℕ). same_path (parent_of u.path) w ≡ true) (child_path r.path s.path child) parts.1 in
    and_both (is_child r.path u.path) (is_open u) (and_both (not (is_root u.path)) (same_path (parent_of u.path) r.path) parts.0 same) two.1

pub first_child : (r : TaskRow) (k : ℕ) (tasks : List TaskRow) → open_child r tasks ≡ Some k → FirstChild r k tasks
first_child r k tasks e =
    let f = first_found 0 (λ (u : TaskRow). is_child r.path u.path && is_open u) tasks k e in
    let number = f.number in
    let at : f.place ≡ k = omega (arith, number) in
    let two = both_hold (is_child r.path f.row.path) (is_open f.row) f.passes in
    let none = none_passes 0 (λ (u : TaskRow). is_child r.path u.path && is_open u) (λ (u : TaskRow). are_siblings u.path f.row.path && is_open u)
    (take f.place tasks) (λ u h. sibling_child r f.row u two.0 h) (f.none 0) in
    record {
      row = f.row;
      there = subst (λ (n : ℕ). slice_get tasks n ≡ Some f.row) at f.there;
      live = two.1;
      child = two.0;
      first = subst (λ (n : ℕ). open_before n f.row tasks ≡ None) at none;
    }

-- paths are short
there_short : (depth : ℕ) (count : List ℕ → ℕ) (q : List ℕ) → IsThere depth count q → length q ≤ depth
there_short depth count [] h = omega arith
there_short zero count (k ∷ q) h = absurd h
there_short (suc depth) count (k ∷ q) h = let rest = there_short depth (shift k count) q h.1 in omega (arith, rest)

map_long : (q : List ℕ) → length (map suc q) ≡ length q
map_long [] = refl
map_long (k ∷ q) = ap suc (map_long q)

pub path_short : (c : CoreState) → IsLawfulState c → (t : ℕ) (r : TaskRow) → slice_get c.table.tasks t ≡ Some r → length r.path ≤ suc DEPTH
path_short c law t r there = ∥∥₁_elim law.table le_prop (λ table. short table)
  where
    short : IsLawfulTable c.program c.input c.table → length r.path ≤ suc DEPTH
    short table =
        let h = table.rows.there t r there in
        let long : length r.path ≡ length h.0 = ap length h.1 ∙ map_long h.0 in
        let low = there_short (suc DEPTH) _ h.0 h.2 in
        omega (arith, long, low)

depth_is : (c : CoreState) (t : ℕ) (r : TaskRow) → slice_get c.table.tasks t ≡ Some r → depth_at t c ≡ length r.path
depth_is c t r there = ap depth_of there

-- one step down
pub step_down : (c : CoreState) (t k : ℕ) → IsLawfulState c → IsFirst t c → ((r : TaskRow) → slice_get c.table.tasks t ≡ Some r → Some k ≡ open_child r c.table.tasks)
    → IsFirst k c × (suc DEPTH - depth_at k c < suc DEPTH - depth_at t c)
step_down c t k law first child =
    let r = row_there c.table.tasks t first.there in
    let f = first_child r.0 k c.table.tasks (sym (child r.0 r.1)) in
    let longer = child_longer r.0.path f.row.path f.child in
    let short = path_short c law k f.row f.there in
    let one = depth_is c t r.0 r.1 in
    let two = depth_is c k f.row f.there in (
      record {
        there = slice_get_within c.table.tasks k f.row f.there;
        first = λ s e. let same : f.row ≡ s = cc in subst (λ (u : TaskRow). (is_open u ≡ true) × (open_before k u c.table.tasks ≡ None)) same (f.live, f.first);
      },
      omega (arith, longer, short, one, two),
    )
