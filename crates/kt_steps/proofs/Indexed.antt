-- The tasks that all seats began, and the indexes of loops that have begun: where each of them lies.
use Rattle.std.proofs.Common.{◌≡◌, ◌≢◌, ℕ, zero, suc, ◌+◌, ◌<◌, ◌≤◌, ◌⊎◌, ◌&&◌, nat_eq, Bool, true, false, cond, List, [], ◌∷◌, ◌++◌, map, length, sym, refl, ap, ◌∙◌, subst, inl, inr, arith}
use Rattle.std.proofs.lemmas.List.{map-append}
use mathlib.Core.Option.{Option, none, some, some-injective, some-ne-none}
use lib.ListN.{get_elem?}
use Rattle.atomic_table.specs.Table.{State}
use Rattle.kt_order.specs.Books.{NoneEnded}
use Rattle.kt_order.specs.Forest.{Phase, Unclaimed, Running, Ended, Finished}
use Rattle.kt_order.specs.Paths.{same_path}
use Rattle.kt_runs.specs.ByPath.{Path, child}
use Rattle.kt_rule.specs.declared.views.Setup.{Setup}
use Rattle.kt_rule.specs.declared.views.Execution.{Execution}
use Rattle.kt_rule.specs.declared.views.IndexRun.{IndexRun}
use Rattle.kt_rule.specs.declared.views.View.{View}
use Rattle.kt_rule.specs.Lists.{weigh, times, one_if, In, here, there}
use Rattle.kt_rule.specs.Lies.{Stage, Waits, Promised, Posted, Given, Runs, Loops, Done, Gone, IndexLie, Lie, Lies, index_of, index_in, get_of, IsHere}
use Rattle.kt_rule.specs.Paths.{parent_of, number_of}
use Rattle.kt_rule.specs.Views.{path_of, begun_in, executions}
use Rattle.kt_rule.specs.Facts.{is_begun, tally, Agrees}
use Rattle.kt_rule.specs.LoopWords.{hand_of}
use Rattle.kt_rule.specs.LoopFacts.{is_early, phase_in, is_taken, is_retired, task_tally, index_tally, index_times, IsIndex}
use Rattle.kt_rule.specs.Rule.{Slots, Facts}
use Rattle.kt_rule.specs.Shown.{find, all_from, is_index_at, find_index}
use Rattle.kt_rule.proofs.Puts.{same_is, get_child, parent_is, number_is}
use Rattle.kt_rule.proofs.Cores.{last_of}
use Rattle.kt_rule.proofs.Sums.{weigh_append, in_append, times_append}
use Rattle.kt_steps.proofs.LoopSeats.{weigh_hands, at_hand}

-- WHAT IS FOUND IN A LIST

-- what is found is there and has the path; where nothing is found no path is
module _ {A : Type 0} (f : A → Path) (p : Path) where
  pub found_at : (xs : List A) (x : A) → find f p xs ≡ some x → In x xs × (p ≡ f x)
  found_at [] x e = absurd (some-ne-none x (sym e))
  found_at (y ∷ xs) x e = go (same_path p (f y)) refl e (found_at xs x)
    where
      go : (b : Bool) → same_path p (f y) ≡ b → cond b (some y) (find f p xs) ≡ some x → (find f p xs ≡ some x → In x xs × (p ≡ f x))
          → In x (y ∷ xs) × (p ≡ f x)
      go true same d rest = let y_is = some-injective y x d in
          (subst (λ (z : A). In z (y ∷ xs)) y_is here, same_is p (f y) same ∙ ap f y_is)
      go false same d rest = let r = rest d in (there r.0, r.1)

  pub found_none : (xs : List A) → find f p xs ≡ none → times p (map f xs) ≡ 0
  found_none [] e = refl
  found_none (y ∷ xs) e = go (same_path p (f y)) refl e (found_none xs)
    where
      go : (b : Bool) → same_path p (f y) ≡ b → cond b (some y) (find f p xs) ≡ none → (find f p xs ≡ none → times p (map f xs) ≡ 0)
          → one_if (same_path p (f y)) + times p (map f xs) ≡ 0
      go true same d rest = absurd (some-ne-none y d)
      go false same d rest = let a : one_if (same_path p (f y)) ≡ 0 = ap one_if same in let b = rest d in omega arith

  pub found_some : (xs : List A) (x : A) → find f p xs ≡ some x → 0 < times p (map f xs)
  found_some [] x e = absurd (some-ne-none x (sym e))
  found_some (y ∷ xs) x e = go (same_path p (f y)) refl e (found_some xs x)
    where
      go : (b : Bool) → same_path p (f y) ≡ b → cond b (some y) (find f p xs) ≡ some x → (find f p xs ≡ some x → 0 < times p (map f xs))
          → 0 < one_if (same_path p (f y)) + times p (map f xs)
      go true same d rest = let a : one_if (same_path p (f y)) ≡ 1 = ap one_if same in omega arith
      go false same d rest = let b = rest d in omega arith

-- who has it
pub of_whom : {A : Type 0} (g : View → List A) (views : List View) (x : A) → In x (all_from g views)
    → (seat : ℕ) × (v : View) × (get_elem? views seat ≡ some v) × In x (g v)
of_whom g [] x h = elim h [ ]
of_whom g (v ∷ vs) x h = elim (in_append (g v) (all_from g vs) x h) [
  | inl k ↦ (0, v, refl, k)
  | inr k ↦ (let r = of_whom g vs x k in (suc r.0, r.1, r.2, r.3))
]

pub all_weigh : {A : Type 0} (g : View → List A) (f : A → Path) (views : List View) (p : Path)
    → times p (map f (all_from g views)) ≡ weigh (λ (v : View). times p (map f (g v))) views
all_weigh g f [] p = refl
all_weigh g f (v ∷ vs) p = ap (times p) (map-append f (g v) (all_from g vs)) ∙
    (weigh_append (λ q. one_if (same_path p q)) (map f (g v)) (map f (all_from g vs)) ∙ ap (λ (n : ℕ). times p (map f (g v)) + n)
    (all_weigh g f vs p))

nat_is : (a b : ℕ) → nat_eq a b ≡ true → a ≡ b
nat_is a b e = grind arith

-- an index that is found is there
pub index_found : (p : Path) (i : ℕ) (es : List IndexRun) (e : IndexRun) → find_index p i es ≡ some e
    → In e es × (p ≡ e.spot.path) × (i ≡ e.index)
index_found p i [] e d = absurd (some-ne-none e (sym d))
index_found p i (x ∷ es) e d = go (same_path p x.spot.path) (nat_eq i x.index) refl refl d (index_found p i es e)
  where
    go : (a b : Bool) → same_path p x.spot.path ≡ a → nat_eq i x.index ≡ b → cond (a && b) (some x) (find_index p i es) ≡ some e
        → (find_index p i es ≡ some e → In e es × (p ≡ e.spot.path) × (i ≡ e.index))
        → In e (x ∷ es) × (p ≡ e.spot.path) × (i ≡ e.index)
    go true true path number d rest = let x_is = some-injective x e d in (
      subst (λ (z : IndexRun). In z (x ∷ es)) x_is here,
      same_is p x.spot.path path ∙ ap (λ (z : IndexRun). z.spot.path) x_is,
      nat_is i x.index number ∙ ap (λ (z : IndexRun). z.index) x_is,
    )
    go true false path number d rest = let r = rest d in (there r.0, r.1, r.2)
    go false b path number d rest = let r = rest d in (there r.0, r.1, r.2)

pub index_none : (p : Path) (i : ℕ) (es : List IndexRun) → find_index p i es ≡ none → index_times p i es ≡ 0
index_none p i [] d = refl
index_none p i (x ∷ es) d = go (is_index_at p i x) refl d (index_none p i es)
  where
    go : (b : Bool) → is_index_at p i x ≡ b → cond b (some x) (find_index p i es) ≡ none
        → (find_index p i es ≡ none → index_times p i es ≡ 0) → one_if (is_index_at p i x) + index_times p i es ≡ 0
    go true same d rest = absurd (some-ne-none x d)
    go false same d rest = let a : one_if (is_index_at p i x) ≡ 0 = ap one_if same in let b = rest d in omega arith

pub all_sum : {A : Type 0} (w : A → ℕ) (g : View → List A) (views : List View)
    → weigh w (all_from g views) ≡ weigh (λ (v : View). weigh w (g v)) views
all_sum w g [] = refl
all_sum w g (v ∷ vs) = let a = weigh_append w (g v) (all_from g vs) in let b = all_sum w g vs in omega arith

pub index_sum : (g : View → List IndexRun) (p : Path) (i : ℕ) (views : List View)
    → index_times p i (all_from g views) ≡ weigh (λ (v : View). index_times p i (g v)) views
index_sum g p i views = all_sum (λ (e : IndexRun). one_if (is_index_at p i e)) g views

pub elem_none : {A : Type 0} (xs : List A) (i : ℕ) → get_elem? xs i ≡ none → length xs ≤ i
elem_none [] i e = omega arith
elem_none (x ∷ xs) zero e = absurd (some-ne-none x e)
elem_none (x ∷ xs) (suc i) e = let h = elem_none xs i e in omega arith

pub elem_some : {A : Type 0} (xs : List A) (i : ℕ) (x : A) → get_elem? xs i ≡ some x → i < length xs
elem_some [] i x e = absurd (some-ne-none x (sym e))
elem_some (y ∷ xs) zero x e = omega arith
elem_some (y ∷ xs) (suc i) x e = let h = elem_some xs i x e in omega arith

pub elem_there : {A : Type 0} (xs : List A) (i : ℕ) → i < length xs → (x : A) × (get_elem? xs i ≡ some x)
elem_there [] i less = absurd (omega arith)
elem_there (y ∷ xs) zero less = (y, refl)
elem_there (y ∷ xs) (suc i) less = elem_there xs i (omega arith)

-- STAGES AND PHASES

-- a task that has not begun has not begun as a loop
pub idle_early : (x : Stage) → is_begun x ≡ 0 → is_early x ≡ true
idle_early Waits e = refl
idle_early (Promised k) e = refl
idle_early (Posted k) e = refl
idle_early (Given k) e = refl
idle_early (Runs k) e = refl
idle_early (Loops k) e = absurd (omega arith)
idle_early Done e = absurd (omega arith)
idle_early Gone e = absurd (omega arith)

pub begun_or : (x : Stage) → (is_begun x ≡ 0) ⊎ (is_begun x ≡ 1)
begun_or Waits = inl refl
begun_or (Promised k) = inl refl
begun_or (Posted k) = inl refl
begun_or (Given k) = inl refl
begun_or (Runs k) = inr refl
begun_or (Loops k) = inr refl
begun_or Done = inr refl
begun_or Gone = inr refl

pub begun_most : (x : Option Lie) → tally is_begun x ≤ 1
begun_most none = omega arith
begun_most (some t) = elim (begun_or t.stage) [ inl e ↦ (omega arith) | inr e ↦ (omega arith) ]

pub untouched : (ph : Phase) → is_taken ph ≡ 0 → is_retired ph ≡ 0 → ph ≢ Ended → ph ≡ Unclaimed
untouched Unclaimed t r n = refl
untouched Running t r n = absurd (omega arith)
untouched Ended t r n = absurd (n refl)
untouched Finished t r n = absurd (omega arith)

pub not_ended : (xs : List IndexLie) (i : ℕ) (x : IndexLie) → NoneEnded (map phase_in xs) → get_elem? xs i ≡ some x → x.phase ≢ Ended
not_ended [] i x n e = absurd (some-ne-none x (sym e))
not_ended (y ∷ xs) zero x n e = λ d. n.0 (ap (λ (z : IndexLie). z.phase) (some-injective y x e) ∙ d)
not_ended (y ∷ xs) (suc i) x n e = not_ended xs i x n.1 e

-- the lists of what a seat began, in one
begun_times : (p : Path) (v : View) → times p (map path_of (executions v)) ≡ begun_in v p
begun_times p v = ap (times p) (map-append path_of v.tasks.running (v.tasks.halted ++ v.tasks.ran)) ∙
    (times_append p (map path_of v.tasks.running) (map path_of (v.tasks.halted ++ v.tasks.ran)) ∙
    ap (λ (n : ℕ). times p (map path_of v.tasks.running) + n) (ap (times p) (map-append path_of v.tasks.halted v.tasks.ran)
    ∙ times_append p (map path_of v.tasks.halted) (map path_of v.tasks.ran)))

begun_same : (p : Path) (views : List View)
    → weigh (λ (v : View). times p (map path_of (executions v))) views ≡ weigh (λ (v : View). begun_in v p) views
begun_same p [] = refl
begun_same p (v ∷ vs) = let a = begun_times p v in let b = begun_same p vs in omega arith

-- WHERE THE RULE HOLDS

module _ (j : Setup) (lies : Lies) (s : State Slots View) (f : Facts j lies s) where
  -- what a seat began is a task that agrees
  pub agrees : (seat : ℕ) (v : View) → get_elem? s.views seat ≡ some v → (e : Execution) → In e (executions v)
      → (t : Lie) × (lies e.spot.path ≡ some t) × Agrees j e t
  agrees seat v at e i = elim (in_append v.tasks.running (v.tasks.halted ++ v.tasks.ran) e i) [
    | inl h ↦ (let a = (f.fits seat v at).running e h in (a.0, a.1, a.2))
    | inr h ↦ (elim (in_append v.tasks.halted v.tasks.ran e h) [
      | inl g ↦ (let a = (f.fits seat v at).halted e g in (a.0, a.1, a.2))
      | inr g ↦ (let a = (f.fits seat v at).ran e g in (a.0, a.1, a.2))
    ])
  ]

  pub begun_all : (p : Path) → times p (map path_of (all_from executions s.views)) ≡ tally is_begun (lies p)
  begun_all p = all_weigh executions path_of s.views p ∙ (begun_same p s.views ∙ f.counts.begun p)

  pub taken_is : (seat : ℕ) (v : View) → get_elem? s.views seat ≡ some v → (e : IndexRun) → In e v.loops.taken → IsIndex lies Running e
  taken_is seat v at e i = (f.looped.handles seat (hand_of v) (at_hand s.views seat v at)).taken e i

  pub retired_is : (seat : ℕ) (v : View) → get_elem? s.views seat ≡ some v → (e : IndexRun) → In e v.loops.retired
      → IsIndex lies Finished e
  retired_is seat v at e i = (f.looped.handles seat (hand_of v) (at_hand s.views seat v at)).retired e i

  pub taken_all : (p : Path) (i : ℕ)
      → weigh (λ (v : View). index_times p i v.loops.taken) s.views ≡ task_tally is_taken i (lies p)
  taken_all p i = sym (weigh_hands (λ h. index_times p i h.loops.taken) s.views) ∙ f.looped.taken p i

  pub retired_all : (p : Path) (i : ℕ)
      → weigh (λ (v : View). index_times p i v.loops.retired) s.views ≡ task_tally is_retired i (lies p)
  retired_all p i = sym (weigh_hands (λ h. index_times p i h.loops.retired) s.views) ∙ f.looped.retired p i

  -- where something is there it is a task, or an index of a loop
  pub there_as : (q : Path) → IsHere j lies q → ((t : Lie) × (lies q ≡ some t))
      ⊎ ((p : Path) × (i : ℕ) × (t : Lie) × (x : IndexLie) × (q ≡ child p i) × (lies p ≡ some t) × (get_elem? t.indexes i ≡ some x))
  there_as q h = elim (last_of q) [
    | inl e ↦ inl (f.root.0, ap lies e ∙ f.root.1)
    | inr (p, i, q_is) ↦ (elim (f.core.all q h) [
      | inl t ↦ inl t
      | inr (t, x, is, at) ↦ inr (
        p,
        i,
        t,
        x,
        q_is,
        ap lies (sym (parent_is p i) ∙ ap parent_of (sym q_is)) ∙ is,
        ap (get_elem? t.indexes) (sym (number_is p i) ∙ ap number_of (sym q_is)) ∙ at,
      )
    ])
  ]

  module _ (p : Path) (t : Lie) (i : ℕ) (x : IndexLie) (is : lies p ≡ some t) (at : get_elem? t.indexes i ≡ some x) where
    some_index : t.indexes ≢ []
    some_index e = some-ne-none x (sym at ∙ ap (λ (z : List IndexLie). get_elem? z i) e)

    -- no task lies where an index stands
    pub index_alone : lies (child p i) ≡ none
    index_alone = go (lies (child p i)) refl
      where
        go : (o : Option Lie) → lies (child p i) ≡ o → o ≡ none
        go none e = refl
        go (some u) e = absurd (some_index (f.looped.childless p i t u is e))

    pub index_is : get_of j lies (child p i) ≡ index_of j p t.berth.call i (some x)
    index_is = get_child j lies p i index_alone ∙ (ap (index_in j p i) is ∙ ap (index_of j p t.berth.call i) at)

    -- its loop has begun
    pub index_begun : is_begun t.stage ≡ 1
    index_begun = elim (begun_or t.stage) [
      | inl e ↦ absurd (some_index ((f.looped.booked p t is).early (idle_early t.stage e)).0)
      | inr e ↦ e
    ]

    pub tally_at : (g : Phase → ℕ) → task_tally g i (lies p) ≡ g x.phase
    tally_at g = ap (task_tally g i) is ∙ ap (index_tally g) at
