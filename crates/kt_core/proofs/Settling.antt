-- The first children of a task that are known to be finished: a search passes them over, and each event keeps them.
use Rattle.std.proofs.Common.{◌≡◌, ◌<◌, ◌≤◌, ℕ, zero, suc, Bool, true, false, cond, nat_lt, List, [], ◌∷◌, ◌++◌, length, drop, Option, Some, None, refl, sym, ap, ◌∙◌, subst, arith, length-append, inl, inr}
use Rattle.std.specs.List.{slice_get, slice_set, All}
use Rattle.std.proofs.lemmas.Bool.Decides.{nat_tests}
use Rattle.std.proofs.lemmas.List.{length-set}
use Rattle.std.proofs.lemmas.List.Elements.{All-drop}
use Rattle.std.proofs.lemmas.Option.{slice_get_within, same_Some}
use Rattle.kt_prog.specs.Calls.{CallTree}
use Rattle.kt_tables.specs.Tables.{TaskRow, CoreState, is_child, is_finished, is_open}
use Rattle.kt_core.specs.Links.{AreDone, AreLinked, AreSettled, FindsAlike, IsParent, IsSettled, IsSound, LinkState, first_below, fresh_links, holds_of, is_done, is_in_the_way, numbers_from, numbers_of, paths_of, with_child, with_link, with_settled}
use Rattle.kt_core.proofs.Linking.{decided, get_either, get_front, get_set_other, get_set_same}

drop_none : {X : Type 0} → (n : ℕ) → drop n (let xs : List X = [] in xs) ≡ []
drop_none zero = refl
drop_none (suc n) = refl

abbrev finished : TaskRow → Bool
finished u = is_finished u.phase

-- a search for a task that is not finished passes over those that are

module _ (test : TaskRow → Bool) (none : (u : TaskRow) → is_finished u.phase ≡ true → test u ≡ false) (bound : ℕ) (all : List TaskRow) (A : List ℕ → Bool) where
  abbrev found : List ℕ → Option ℕ
  found numbers = first_below bound test all numbers

  late : (n m : ℕ) (paths : List (List ℕ)) → bound ≤ n → found (drop m (numbers_from n A paths)) ≡ None
  late n m [] le = ap found (drop_none m)
  late n m (path ∷ paths) le = chosen (A path) m (λ j. late (suc n) j paths (omega (arith, le)))
    where
      chosen : (a : Bool) (m : ℕ) → ((j : ℕ) → found (drop j (numbers_from (suc n) A paths)) ≡ None)
          → found (drop m (cond a (n ∷ numbers_from (suc n) A paths) (numbers_from (suc n) A paths))) ≡ None
      chosen true zero later = let b : nat_lt n bound ≡ false = grind (arith, nat_tests) in rw b refl
      chosen true (suc m) later = later m
      chosen false m later = later m

  passed : (o : Option TaskRow) → holds_of finished o ≡ true → holds_of test o ≡ false
  passed None h = refl
  passed (Some u) h = none u h

  skipped : (n m : ℕ) (paths : List (List ℕ)) → AreDone all (numbers_from n A paths) m → found (drop m (numbers_from n A paths)) ≡ found (numbers_from n A paths)
  skipped n m [] done = ap found (drop_none m)
  skipped n m (path ∷ paths) done = chosen (A path) m (λ j h. skipped (suc n) j paths h) done
    where
      turn : (b : Bool) (m : ℕ) → nat_lt n bound ≡ b → holds_of test (slice_get all n) ≡ false
          → found (drop m (numbers_from (suc n) A paths)) ≡ found (numbers_from (suc n) A paths)
          → found (drop m (numbers_from (suc n) A paths)) ≡ found (n ∷ numbers_from (suc n) A paths)
      turn true m lt closed same = rw (lt, closed) same
      turn false m lt closed same = let le : bound ≤ suc n = grind (arith, nat_tests) in rw lt (late (suc n) m paths le)

      chosen : (a : Bool) (m : ℕ)
          → ((j : ℕ) → AreDone all (numbers_from (suc n) A paths) j → found (drop j (numbers_from (suc n) A paths)) ≡ found (numbers_from (suc n) A paths))
          → AreDone all (cond a (n ∷ numbers_from (suc n) A paths) (numbers_from (suc n) A paths)) m
          → found (drop m (cond a (n ∷ numbers_from (suc n) A paths) (numbers_from (suc n) A paths)))
          ≡ found (cond a (n ∷ numbers_from (suc n) A paths) (numbers_from (suc n) A paths))
      chosen true zero later done = refl
      chosen true (suc m) later done =
          turn (nat_lt n bound) m refl (passed (slice_get all n) (done 0 n (omega arith) refl)) (later m (λ i k lt e. done (suc i) k (omega (arith, lt)) e))
      chosen false m later done = later m done

pub left_finds : (A : List ℕ → Bool) (tasks : List TaskRow) (l : LinkState) → l.children ≡ numbers_of A (paths_of tasks) → IsSettled tasks l
    → FindsAlike tasks (drop l.settled l.children) (numbers_of A (paths_of tasks))
left_finds A tasks l is settled = λ bound test none.
    let done = subst (λ (numbers : List ℕ). AreDone tasks numbers l.settled) is settled.done in
    ap (λ (numbers : List ℕ). first_below bound test tasks (drop l.settled numbers)) is ∙ skipped test none bound tasks A 0 l.settled (paths_of tasks) done

pub left_there : (tasks : List TaskRow) (l : LinkState) (all left : List ℕ) (n : ℕ) → l.children ≡ all → left ≡ drop l.settled l.children → length tasks ≡ n
    → All (λ k. k < length tasks) all → All (λ k. k < n) left
left_there tasks l all left n is is_left size there =
    subst (λ (m : ℕ). All (λ k. k < m) left) size
    (subst (λ (numbers : List ℕ). All (λ k. k < length tasks) numbers) (sym (is_left ∙ ap (drop l.settled) is)) (All-drop (λ k. k < length tasks) l.settled all there))

pub open_ends : (u : TaskRow) → is_finished u.phase ≡ true → is_open u ≡ false
open_ends u h = rw h refl

pub way_ends : (call : CallTree) (u : TaskRow) → is_finished u.phase ≡ true → is_in_the_way call u ≡ false
way_ends call u h = rw h refl

-- a task that is finished stays so

done_kept : (tasks : List TaskRow) (t : ℕ) (r row : TaskRow) → slice_get tasks t ≡ Some r → (is_finished r.phase ≡ true → is_finished row.phase ≡ true)
    → (k : ℕ) → is_done tasks k ≡ true → is_done (slice_set tasks t row) k ≡ true
done_kept tasks t r row at stays k h = elim (decided t k) [
  | inl same ↦ here same
  | inr other ↦ ap (holds_of finished) (get_set_other tasks t k row other) ∙ h
]
  where
    here : t ≡ k → is_done (slice_set tasks t row) k ≡ true
    here same =
        let now : slice_get (slice_set tasks t row) k ≡ Some row = ap (slice_get (slice_set tasks t row)) (sym same) ∙ get_set_same tasks t row (slice_get_within tasks t r at) in
        let was : slice_get tasks k ≡ Some r = ap (slice_get tasks) (sym same) ∙ at in
        ap (holds_of finished) now ∙ stays (sym (ap (holds_of finished) was) ∙ h)

pub settled_kept : (tasks : List TaskRow) (links : List LinkState) (t : ℕ) (r row : TaskRow) → slice_get tasks t ≡ Some r
    → (is_finished r.phase ≡ true → is_finished row.phase ≡ true) → AreSettled tasks links → AreSettled (slice_set tasks t row) links
settled_kept tasks links t r row at stays settled = λ u l e.
    let s = settled u l e in
    record { within = s.within; done = λ i k lt g. done_kept tasks t r row at stays k (s.done i k lt g) }

-- a task more

done_within : (tasks : List TaskRow) (k : ℕ) → is_done tasks k ≡ true → k < length tasks
done_within [] k h = absurd (cc h)
done_within (r ∷ tasks) zero h = omega arith
done_within (r ∷ tasks) (suc k) h = let more = done_within tasks k h in omega (arith, more)

done_more : (tasks : List TaskRow) (child : TaskRow) (k : ℕ) → is_done tasks k ≡ true → is_done (tasks ++ child ∷ []) k ≡ true
done_more tasks child k h = ap (holds_of finished) (get_front tasks (child ∷ []) k (done_within tasks k h)) ∙ h

module _ (tasks : List TaskRow) (links : List LinkState) (settled : AreSettled tasks links) (child : TaskRow) (n t : ℕ) (l : LinkState) (at : slice_get links t ≡ Some l) where
  abbrev more : List TaskRow
  more = tasks ++ child ∷ []

  same_settled : (v : LinkState) → IsSettled tasks v → IsSettled more v
  same_settled v s = record { within = s.within; done = λ i k lt g. done_more tasks child k (s.done i k lt g) }

  longer_settled : IsSettled tasks l → IsSettled more (with_child n l)
  longer_settled s =
      let size = length-append l.children (n ∷ []) in
      record {
        within = omega (arith, size, s.within);
        done = λ i k lt g. done_more tasks child k (s.done i k lt (sym (get_front l.children (n ∷ []) i (omega (arith, lt, s.within))) ∙ g));
      }

  fresh_settled : IsSettled more (fresh_links (Some t))
  fresh_settled = record { within = omega arith; done = λ i k lt g. absurd (omega (arith, lt)) }

  old_settled : (u : ℕ) (v : LinkState) → slice_get (slice_set links t (with_child n l)) u ≡ Some v → IsSettled more v
  old_settled u v e = elim (decided t u) [
    | inl same ↦ subst (IsSettled more) (here same) (longer_settled (settled t l at))
    | inr other ↦ same_settled v (settled u v (sym (get_set_other links t u (with_child n l) other) ∙ e))
  ]
    where
      here : t ≡ u → with_child n l ≡ v
      here same =
          same_Some (with_child n l) v (sym (get_set_same links t (with_child n l) (slice_get_within links t l at))
          ∙ ap (slice_get (slice_set links t (with_child n l))) same ∙ e)

  pub settled_more : AreSettled more (with_link n t links)
  settled_more = λ u v e.
      let front = slice_set links t (with_child n l) in
      let is : with_link n t links ≡ front ++ fresh_links (Some t) ∷ [] = rw at refl in
      elim (get_either front (fresh_links (Some t)) u v (ap (λ (ls : List LinkState). slice_get ls u) (sym is) ∙ e)) [
        | inl h ↦ old_settled u v h
        | inr (last, same) ↦ subst (IsSettled more) (sym same) fresh_settled
      ]

-- more of the children known to be finished

module _ (links : List LinkState) (t : ℕ) (l : LinkState) (n : ℕ) (at : slice_get links t ≡ Some l) where
  abbrev marked : List LinkState
  marked = slice_set links t (with_settled n l)

  -- an entry is the marked one, or one that was there
  marked_at : (P : ℕ → LinkState → Type 0) → P t (with_settled n l) → ((u : ℕ) (v : LinkState) → slice_get links u ≡ Some v → P u v)
      → (u : ℕ) (v : LinkState) → slice_get marked u ≡ Some v → P u v
  marked_at P first others u v e = elim (decided t u) [
    | inl same ↦ subst (λ (w : ℕ). P w v) same (subst (P t) (here same) first)
    | inr other ↦ others u v (sym (get_set_other links t u (with_settled n l) other) ∙ e)
  ]
    where
      here : t ≡ u → with_settled n l ≡ v
      here same =
          same_Some (with_settled n l) v (sym (get_set_same links t (with_settled n l) (slice_get_within links t l at)) ∙ ap (slice_get marked) same ∙ e)

  marked_linked : (paths : List (List ℕ)) → AreLinked paths links → AreLinked paths marked
  marked_linked paths linked = record {
    count = length-set links t (with_settled n l) ∙ linked.count;
    children = λ u path v atp e. marked_at (λ w x. slice_get paths w ≡ Some path → x.children ≡ numbers_of (is_child path) paths) (λ h. linked.children t path l h at)
        (λ w x h g. linked.children w path x g h) u v e atp;
    parent = λ u path v atp e. marked_at (λ w x. slice_get paths w ≡ Some path → IsParent paths path x.parent) (λ h. linked.parent t path l h at)
        (λ w x h g. linked.parent w path x g h) u v e atp;
  }

  pub marked_sound : (c : CoreState) → n ≤ length l.children → AreDone c.table.tasks l.children n → IsSound c links → IsSound c marked
  marked_sound c within done sound = record {
    lawful = sound.lawful;
    linked = marked_linked (paths_of c.table.tasks) sound.linked;
    settled = marked_at (λ u v. IsSettled c.table.tasks v) (record { within = within; done = done }) sound.settled;
    fit = sound.fit;
    few = sound.few;
  }

-- the same where the count was taken of the rows and the children as they were read
pub settled_anew : (c : CoreState) (links : List LinkState) (t : ℕ) (l again new : LinkState) (n : ℕ) (numbers : List ℕ) (rows : List TaskRow) → slice_get links t ≡ Some l
    → slice_get links t ≡ Some again → numbers ≡ l.children → rows ≡ c.table.tasks → n ≤ length numbers → AreDone rows numbers n → new ≡ with_settled n again
    → IsSound c links → IsSound c (slice_set links t new)
settled_anew c links t l again new n numbers rows at at_again children all within done is sound =
    let same : numbers ≡ again.children = children ∙ ap (λ (v : LinkState). v.children) (same_Some l again (sym at ∙ at_again)) in
    let within : n ≤ length again.children = subst (λ (ks : List ℕ). n ≤ length ks) same within in
    let done : AreDone c.table.tasks again.children n =
    subst (λ (ks : List ℕ). AreDone c.table.tasks ks n) same (subst (λ (us : List TaskRow). AreDone us numbers n) all done) in
    subst (λ (v : LinkState). IsSound c (slice_set links t v)) (sym is) (marked_sound links t again n at_again c within done sound)
