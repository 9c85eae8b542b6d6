-- Nothing refuses an event just where it can be done.
use Rattle.std.proofs.Common.{◌≡◌, ◌≢◌, ◌↔◌, ◌<◌, ◌≤◌, ◌+◌, ℕ, zero, suc, Bool, true, false, cond, List, [], ◌∷◌, take, Option, Some, None, ◌⊎◌, inl, inr, ◌&&◌, ◌||◌, not, nat_eq, nat_lt, refl, ◌∙◌, arith, slice_get, option_map}
use Rattle.std.proofs.lemmas.Bool.Decides.{nat_tests}
use Rattle.kt_order.specs.Books.{Piece, is_inside, CanTake}
use Rattle.kt_runs.specs.Clash.{calls_clash}
use Rattle.kt_runs.specs.CoreEvents.{HasInside}
use Rattle.kt_tables.specs.LoopRows.{has_inside, can_take, is_taken, is_under_way}
use Rattle.kt_tables.specs.Tables.{IndexRow, TaskRow, TaskTable, is_child, are_siblings, is_finished, is_open, first_from, open_before, clash_before, open_child}
use Rattle.kt_tables.specs.TableEvents.{task_of, refusal, refusal_of, unless, or_else, is_unclaimed, is_running, is_looping, is_ended}
use Rattle.kt_tables.specs.TableEnabled.{CanHappen}
use Rattle.kt_tables.specs.declared.events.Event.{Event}
use Rattle.kt_tables.specs.declared.events.Event.TheVariants as E
use Rattle.kt_tables.specs.declared.events.Phase.{Phase}
use Rattle.kt_tables.specs.declared.events.Phase.TheVariants as P
use Rattle.kt_tables.specs.declared.events.Stand.{Stand}
use Rattle.kt_tables.specs.declared.events.Stand.TheVariants as S
use Rattle.kt_tables.specs.declared.events.Why.{Why}
use Rattle.kt_tables.specs.declared.events.Why.TheVariants as W
use Rattle.kt_tables.proofs.TableRows.{first_none, get_take}

none_first : (n : ℕ) (test : TaskRow → Bool) (rows : List TaskRow)
    → ((t : ℕ) (r : TaskRow) → slice_get rows t ≡ Some r → test r ≡ false) → first_from n test rows ≡ None
none_first n test [] h = refl
none_first n test (v ∷ rows) h = rw (h 0 v refl) (none_first (suc n) test rows (λ t r at. h (suc t) r at))

-- the test of a row with this phase in this frame, or of one that clashes besides
finished_where : (a : Bool) (ph : Phase) → a && not (is_finished ph) ≡ false → a ≡ true → ph ≡ P.Finished
finished_where true P.Finished e h = refl
finished_where true P.Unclaimed e h = cc
finished_where true P.Running e h = cc
finished_where true P.Looping e h = cc
finished_where true P.Ended e h = cc
finished_where false ph e h = cc

where_finished : (a : Bool) (ph : Phase) → (a ≡ true → ph ≡ P.Finished) → a && not (is_finished ph) ≡ false
where_finished true P.Finished h = refl
where_finished true P.Unclaimed h = let no_such = h refl in cc
where_finished true P.Running h = let no_such = h refl in cc
where_finished true P.Looping h = let no_such = h refl in cc
where_finished true P.Ended h = let no_such = h refl in cc
where_finished false ph h = refl

passed_where : (a : Bool) (ph : Phase) (clash : Bool) → a && (not (is_finished ph) && clash) ≡ false → a ≡ true → (ph ≡ P.Finished) ⊎ (clash ≡ false)
passed_where a ph false e h = inr refl
passed_where true P.Finished true e h = inl refl
passed_where true P.Unclaimed true e h = cc
passed_where true P.Running true e h = cc
passed_where true P.Looping true e h = cc
passed_where true P.Ended true e h = cc
passed_where false ph true e h = cc

not_both : (a : Bool) → a && false ≡ false
not_both true = refl
not_both false = refl

where_passed : (a : Bool) (ph : Phase) (clash : Bool) → (a ≡ true → (ph ≡ P.Finished) ⊎ (clash ≡ false)) → a && (not (is_finished ph) && clash) ≡ false
where_passed false ph clash h = refl
where_passed true ph clash h = elim (h refl) [
  | inl finished ↦ rw finished refl
  | inr none ↦ rw none (not_both (not (is_finished ph)))
]

-- a wanted phase, and what follows
passed : (b : Bool) (ph : Phase) (rest : Option Why) → cond b rest (Some (W.Found ph)) ≡ None → (b ≡ true) × (rest ≡ None)
passed true ph rest e = (refl, e)
passed false ph rest e = cc

mapped_none : (f : ℕ → Why) (o : Option ℕ) → option_map f o ≡ None → o ≡ None
mapped_none f None e = refl
mapped_none f (Some n) e = cc

can : (b : Bool) (why : Why) → unless b why ≡ None → b ≡ true
can true why e = refl
can false why e = cc

unless_can : (b : Bool) (why : Why) → b ≡ true → unless b why ≡ None
unless_can b why e = rw e refl

neither : (a b : Option Why) → or_else a b ≡ None → (a ≡ None) × (b ≡ None)
neither None b e = (refl, e)
neither (Some why) b e = cc

both : (a b : Bool) → (a && b) ≡ true → (a ≡ true) × (b ≡ true)
both true b e = (refl, e)
both false b e = cc

either : (a b : Bool) → (a || b) ≡ true → (a ≡ true) ⊎ (b ≡ true)
either true b e = inl refl
either false b e = inr e

first_of : (a b : Bool) → a ≡ true → (a || b) ≡ true
first_of a b e = rw e refl

second_of : (a b : Bool) → b ≡ true → (a || b) ≡ true
second_of true b e = refl
second_of false b e = e

-- the tests of a loop's pieces, of an index and of its counts
inside_is : (at : ℕ) (pieces : List Piece) → has_inside at pieces ≡ true → HasInside at pieces
inside_is at [] e = cc
inside_is at (piece ∷ pieces) e = elim (either (is_inside at piece) (has_inside at pieces) e) [ inl a ↦ inl a | inr b ↦ inr (inside_is at pieces b) ]

is_inside_so : (at : ℕ) (pieces : List Piece) → HasInside at pieces → has_inside at pieces ≡ true
is_inside_so at [] h = absurd h
is_inside_so at (piece ∷ pieces) (inl a) = first_of (is_inside at piece) (has_inside at pieces) a
is_inside_so at (piece ∷ pieces) (inr b) = second_of (is_inside at piece) (has_inside at pieces) (is_inside_so at pieces b)

some_less : (n : ℕ) → nat_lt 0 n ≡ true → 1 ≤ n
some_less n e = grind (arith, nat_tests)

less_some : (n : ℕ) → 1 ≤ n → nat_lt 0 n ≡ true
less_some n e = grind (arith, nat_tests)

number_is : (k j : ℕ) → nat_eq k j ≡ true → k ≡ j
number_is k j e = grind (arith, nat_tests)

number_not : (k j : ℕ) → nat_eq k j ≡ false → k ≢ j
number_not k j e = grind (arith, nat_tests)

is_number : (k j : ℕ) → k ≡ j → nat_eq k j ≡ true
is_number k j e = grind (arith, nat_tests)

not_number : (k j : ℕ) → k ≢ j → nat_eq k j ≡ false
not_number k j e = grind (arith, nat_tests)

not_less : (k j : ℕ) → not (nat_lt k j) ≡ true → j ≤ k
not_less k j e = grind (arith, nat_tests)

at_least : (k j : ℕ) → j ≤ k → not (nat_lt k j) ≡ true
at_least k j e = grind (arith, nat_tests)

take_is : (at n : ℕ) (pieces : List Piece) → can_take at n pieces ≡ true → CanTake at n pieces
take_is at n [] e = cc
take_is at n (piece ∷ pieces) e = by (nat_eq piece.from at) refl e (take_is at n pieces)
  where
    by : (b : Bool) → nat_eq piece.from at ≡ b → cond b (not (nat_lt piece.to (at + n))) (can_take at n pieces) ≡ true
        → (can_take at n pieces ≡ true → CanTake at n pieces) → CanTake at n (piece ∷ pieces)
    by true same e more = inl (number_is piece.from at same, not_less piece.to (at + n) e)
    by false differ e more = inr (number_not piece.from at differ, more e)

take_free : (at n : ℕ) (pieces : List Piece) → CanTake at n pieces → can_take at n pieces ≡ true
take_free at n [] h = absurd h
take_free at n (piece ∷ pieces) (inl h) = rw (is_number piece.from at h.0) (at_least piece.to (at + n) h.1)
take_free at n (piece ∷ pieces) (inr h) = rw (not_number piece.from at h.0) (take_free at n pieces h.1)

stand_is : (s : Stand) → is_taken s ≡ true → s ≡ S.Taken
stand_is S.Untaken e = cc
stand_is S.Taken e = refl
stand_is S.Over e = cc

taken_is : (o : Option IndexRow) → is_under_way o ≡ true → (v : IndexRow) × (o ≡ Some v) × (v.stand ≡ S.Taken)
taken_is None e = cc
taken_is (Some v) e = (v, refl, stand_is v.stand e)

unclaimed : (ph : Phase) → is_unclaimed ph ≡ true → ph ≡ P.Unclaimed
unclaimed P.Unclaimed e = refl
unclaimed P.Running e = cc
unclaimed P.Looping e = cc
unclaimed P.Ended e = cc
unclaimed P.Finished e = cc

running : (ph : Phase) → is_running ph ≡ true → ph ≡ P.Running
running P.Unclaimed e = cc
running P.Running e = refl
running P.Looping e = cc
running P.Ended e = cc
running P.Finished e = cc

looping : (ph : Phase) → is_looping ph ≡ true → ph ≡ P.Looping
looping P.Unclaimed e = cc
looping P.Running e = cc
looping P.Looping e = refl
looping P.Ended e = cc
looping P.Finished e = cc

over : (ph : Phase) → is_ended ph || is_looping ph ≡ true → (ph ≡ P.Ended) ⊎ (ph ≡ P.Looping)
over P.Unclaimed e = cc
over P.Running e = cc
over P.Looping e = inr refl
over P.Ended e = inl refl
over P.Finished e = cc

module _ (r : TaskRow) (tasks : List TaskRow) where
  earlier : (t : ℕ) (test : TaskRow → Bool) → first_from 0 test (take t tasks) ≡ None
      → (u : ℕ) (s : TaskRow) → u < t → slice_get tasks u ≡ Some s → test s ≡ false
  earlier t test e u s below at = first_none 0 test (take t tasks) e u s (get_take tasks t u below ∙ at)

  none_earlier : (t : ℕ) (test : TaskRow → Bool) → ((u : ℕ) (s : TaskRow) → u < t → slice_get tasks u ≡ Some s → test s ≡ false)
      → first_from 0 test (take t tasks) ≡ None
  none_earlier t test h = none_first 0 test (take t tasks) (λ u s at. let both = got_take tasks t u s at in h u s both.0 both.1)
    where
      got_take : {X : Type 0} → (xs : List X) (t u : ℕ) (s : X) → slice_get (take t xs) u ≡ Some s → (u < t) × (slice_get xs u ≡ Some s)
      got_take xs zero u s e = cc
      got_take [] (suc t) u s e = cc
      got_take (x ∷ xs) (suc t) zero s e = (omega arith, e)
      got_take (x ∷ xs) (suc t) (suc u) s e = let both = got_take xs t u s e in (omega arith, both.1)

  pub happens : (e : Event) → refusal_of e r tasks ≡ None → CanHappen e r tasks
  happens (E.ClaimInOrder t) h =
      let both = passed (is_unclaimed r.phase) r.phase (option_map W.Earlier (open_before t r tasks)) h in
      let none = mapped_none W.Earlier (open_before t r tasks) both.1 in
      (unclaimed r.phase both.0, λ u s below at is. finished_where (are_siblings s.path r.path) s.phase (earlier t _ none u s below at) is)
  happens (E.ClaimReady t) h =
      let both = passed (is_unclaimed r.phase) r.phase (option_map W.Clash (clash_before t r tasks)) h in
      let none = mapped_none W.Clash (clash_before t r tasks) both.1 in
      (unclaimed r.phase both.0, λ u s below at is. passed_where (are_siblings s.path r.path) s.phase (calls_clash s.call r.call) (earlier t _ none u s below at) is)
  happens (E.Body t operation) h = running r.phase (passed (is_running r.phase) r.phase None h).0
  happens (E.Begin t) h = running r.phase (passed (is_running r.phase) r.phase None h).0
  happens (E.Split t at) h =
      let w = passed (is_looping r.phase) r.phase (unless (has_inside at r.loop.pieces) W.NoPiece) h in
      (looping r.phase w.0, inside_is at r.loop.pieces (can (has_inside at r.loop.pieces) W.NoPiece w.1))
  happens (E.Take t at n) h =
      let w = passed (is_looping r.phase) r.phase (unless (nat_lt 0 n && can_take at n r.loop.pieces) W.NoPiece) h in
      let b = both (nat_lt 0 n) (can_take at n r.loop.pieces) (can (nat_lt 0 n && can_take at n r.loop.pieces) W.NoPiece w.1) in
      (looping r.phase w.0, some_less n b.0, take_is at n r.loop.pieces b.1)
  happens (E.Index t i operation) h =
      let w = passed (is_looping r.phase) r.phase (unless (is_under_way (slice_get r.loop.indexes i)) (W.NotTaken i)) h in
      (looping r.phase w.0, taken_is (slice_get r.loop.indexes i) (can (is_under_way (slice_get r.loop.indexes i)) (W.NotTaken i) w.1))
  happens (E.Retire t n) h =
      let w = passed (is_looping r.phase) r.phase (unless (nat_lt 0 n && not (nat_lt r.loop.ended n)) (W.NotEnded r.loop.ended)) h in
      let b = both (nat_lt 0 n) (not (nat_lt r.loop.ended n)) (can (nat_lt 0 n && not (nat_lt r.loop.ended n)) (W.NotEnded r.loop.ended) w.1) in
      (looping r.phase w.0, some_less n b.0, not_less r.loop.ended n b.1)
  happens (E.Finish t) h =
      let left = unless (not (nat_lt 0 r.loop.unretired)) (W.Left r.loop.unretired) in
      let w = passed (is_ended r.phase || is_looping r.phase) r.phase (or_else (option_map W.Child (open_child r tasks)) left) h in
      let two = neither (option_map W.Child (open_child r tasks)) left w.1 in
      let none = mapped_none W.Child (open_child r tasks) two.0 in
      let few = not_less 0 r.loop.unretired (can (not (nat_lt 0 r.loop.unretired)) (W.Left r.loop.unretired) two.1) in
      (over r.phase w.0, (λ u s at is. finished_where (is_child r.path s.path) s.phase (first_none 0 _ tasks none u s at) is), omega (arith, few))

  -- what a claim or a finish that nothing refuses says of the tests
  pub none_open : (t : ℕ) → refusal_of (E.ClaimInOrder t) r tasks ≡ None → open_before t r tasks ≡ None
  none_open t h = mapped_none W.Earlier (open_before t r tasks) (passed (is_unclaimed r.phase) r.phase (option_map W.Earlier (open_before t r tasks)) h).1

  pub none_clashes : (t : ℕ) → refusal_of (E.ClaimReady t) r tasks ≡ None → clash_before t r tasks ≡ None
  none_clashes t h = mapped_none W.Clash (clash_before t r tasks) (passed (is_unclaimed r.phase) r.phase (option_map W.Clash (clash_before t r tasks)) h).1

  pub none_open_child : (t : ℕ) → refusal_of (E.Finish t) r tasks ≡ None → open_child r tasks ≡ None
  none_open_child t h =
      let left = unless (not (nat_lt 0 r.loop.unretired)) (W.Left r.loop.unretired) in
      let w = passed (is_ended r.phase || is_looping r.phase) r.phase (or_else (option_map W.Child (open_child r tasks)) left) h in
      mapped_none W.Child (open_child r tasks) (neither (option_map W.Child (open_child r tasks)) left w.1).0

  pub unrefused : (e : Event) → CanHappen e r tasks → refusal_of e r tasks ≡ None
  unrefused (E.ClaimInOrder t) h =
      let none = none_earlier t (λ (u : TaskRow). are_siblings u.path r.path && is_open u)
      (λ u s below at. where_finished (are_siblings s.path r.path) s.phase (h.1 u s below at)) in
      rw (h.0, none) refl
  unrefused (E.ClaimReady t) h =
      let none = none_earlier t (λ (u : TaskRow). are_siblings u.path r.path && (is_open u && calls_clash u.call r.call))
      (λ u s below at. where_passed (are_siblings s.path r.path) s.phase (calls_clash s.call r.call) (h.1 u s below at)) in
      rw (h.0, none) refl
  unrefused (E.Body t operation) h = rw h refl
  unrefused (E.Begin t) h = rw h refl
  unrefused (E.Split t at) h = rw (h.0, unless_can (has_inside at r.loop.pieces) W.NoPiece (is_inside_so at r.loop.pieces h.1)) refl
  unrefused (E.Take t at n) h = rw (h.0, less_some n h.1, take_free at n r.loop.pieces h.2) refl
  unrefused (E.Index t i operation) h = rw (h.0, h.1.1, h.1.2) refl
  unrefused (E.Retire t n) h = rw (h.0, less_some n h.1, at_least r.loop.ended n h.2) refl
  unrefused (E.Finish t) h =
      let none = none_first 0 (λ (u : TaskRow). is_child r.path u.path && is_open u) tasks
      (λ u s at. where_finished (is_child r.path s.path) s.phase (h.1 u s at)) in
      let few = at_least 0 r.loop.unretired (omega (arith, h.2)) in
      elim h.0 [
        | inl ended ↦ rw (ended, none, few) refl
        | inr looping ↦ rw (looping, none, few) refl
      ]

pub refused_is_disabled : (e : Event) (x : TaskTable) (r : TaskRow) → slice_get x.tasks (task_of e) ≡ Some r → (refusal e x ≡ None) ↔ CanHappen e r x.tasks
refused_is_disabled e x r at = rw at (happens r x.tasks e, unrefused r x.tasks e)
