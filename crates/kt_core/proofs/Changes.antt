-- What a call of a core makes of its fields is what the event makes of its table, and leaves the core sound.
use Rattle.std.proofs.Common.{◌≡◌, ◌<◌, ◌≤◌, ℕ, suc, ◌+◌, List, [], ◌∷◌, ◌++◌, length, Some, None, Bool, true, false, cond, refl, sym, ap, ◌∙◌, subst, arith, append-nil, length-append, inl, inr}
use Rattle.std.specs.List.{slice_get, slice_set}
use Rattle.std.proofs.Math.Logic.{∥∥₁_elim}
use Rattle.std.specs.Coded.{Coded-set, coded_ℕ, le_prop}
use Rattle.std.proofs.lemmas.List.{length-map, map-append, set-append_left}
use Rattle.std.proofs.lemmas.Option.{slice_get_within}
use Rattle.kt_law.specs.declared.limits.TheConstants.{DEPTH}
use Rattle.kt_prog.specs.Calls.{CallTree, Whole}
use Rattle.kt_prog.specs.Fits.{Fits, is_main, is_call}
use Rattle.kt_prog.specs.Rights.{MayFork, rights_of}
use Rattle.kt_prog.specs.declared.programs.Program.{Program}
use Rattle.kt_prog.specs.declared.runs.Operation.{Operation}
use Rattle.kt_prog.specs.declared.runs.Operation.TheVariants as O
use Rattle.kt_store.specs.Stores.{StoreState}
use Rattle.kt_prog.specs.Next.{NextIsRightful, NextIsOnElement, IsOnElement}
use Rattle.kt_runs.specs.States.{most_tasks}
use Rattle.kt_tables.specs.Tables.{TaskRow, CoreState, fresh_row, is_child, is_finished, next_child, count_rows}
use Rattle.kt_tables.specs.TableEvents.{IsDue, added_by, in_phase, is_running, row_after, state_after, wants, went_on}
use Rattle.kt_tables.specs.TableLaws.{IsLawfulState}
use Rattle.kt_core.specs.Links.{AllFit, AreLinked, IsSound, LinkState, calls_of, numbers_of, paths_of, with_link}
use Rattle.kt_core.specs.Steps.{EventsKeepStatesLawful, Goes, IsNoFork, acted, rephased}
use Rattle.kt_tables.specs.declared.events.Event.TheVariants as E
use Rattle.kt_tables.specs.declared.events.Phase.{Phase}
use Rattle.kt_tables.specs.declared.events.Phase.TheVariants as P
use Rattle.kt_core.proofs.Searches.{numbers_counted}
use Rattle.kt_core.proofs.Linking.{OncePaths, child_no_root, get_either, get_front, get_there, linked_more, map_kept, mapped_at, mapped_from, parent_of_child}
use Rattle.kt_core.proofs.Settling.{settled_kept, settled_more}

-- a core with another store and another row for a task
abbrev pub changed : CoreState → List ℕ → ℕ → TaskRow → CoreState
changed c store t row = record { program = c.program; input = c.input; table = record { store = store; tasks = slice_set c.table.tasks t row } }

pub rephased_is : (c s : CoreState) (t : ℕ) (phase : Phase) (r row : TaskRow) → c ≡ s → slice_get c.table.tasks t ≡ Some r → row ≡ in_phase phase r
    → changed c c.table.store t row ≡ rephased t phase s
rephased_is c s t phase r row view at is = rw (← view, at, is) refl

pub changed_sound : (c : CoreState) (links : List LinkState) (store : List ℕ) (t : ℕ) (r row : TaskRow) → slice_get c.table.tasks t ≡ Some r → row.path ≡ r.path
    → row.call ≡ r.call → (is_finished r.phase ≡ true → is_finished row.phase ≡ true) → IsSound c links → IsLawfulState (changed c store t row)
    → IsSound (changed c store t row) links
changed_sound c links store t r row at path call stays sound lawful =
    let paths : paths_of (slice_set c.table.tasks t row) ≡ paths_of c.table.tasks = map_kept (λ (u : TaskRow). u.path) c.table.tasks t r row at path in
    let calls : calls_of (slice_set c.table.tasks t row) ≡ calls_of c.table.tasks = map_kept (λ (u : TaskRow). u.call) c.table.tasks t r row at call in
    let size = ap length paths in
    let new = length-map (slice_set c.table.tasks t row) (λ (u : TaskRow). u.path) in
    let old = length-map c.table.tasks (λ (u : TaskRow). u.path) in
    record {
      lawful = lawful;
      linked = subst (λ (ps : List (List ℕ)). AreLinked ps links) (sym paths) sound.linked;
      settled = settled_kept c.table.tasks links t r row at stays sound.settled;
      fit = subst (AllFit c.program) (sym calls) sound.fit;
      few = omega (arith, size, new, old, sound.few);
    }

-- the operation that goes is due

running_of : (phase : Phase) → wants is_running phase None ≡ None → phase ≡ P.Running
running_of P.Running e = refl
running_of P.Unclaimed e = absurd (cc e)
running_of P.Looping e = absurd (cc e)
running_of P.Ended e = absurd (cc e)
running_of P.Finished e = absurd (cc e)

never_finished : (old new : Phase) → old ≡ P.Running → is_finished old ≡ true → is_finished new ≡ true
never_finished old new is h = absurd (cc (sym (ap is_finished is) ∙ h))

pub due : (c : CoreState) (t : ℕ) (op : Operation) (r : TaskRow) → Goes (E.Body t op) c → slice_get c.table.tasks t ≡ Some r → IsDue c.program op r c.table
due c t op r goes at = goes.can.suits r at (running_of r.phase (rw at at goes.free))

pub on_element : NextIsOnElement → (c : CoreState) (links : List LinkState) (t : ℕ) (op : Operation) (r : TaskRow) → IsSound c links → Goes (E.Body t op) c
    → slice_get c.table.tasks t ≡ Some r → IsOnElement c.program.families op
on_element law c links t op r sound goes at =
    law c.program sound.lawful.accepted (Whole r.call) (sound.fit t r.call (mapped_at (λ (u : TaskRow). u.call) c.table.tasks t r at)) r.answers r.done op
    (due c t op r goes at).next

-- an operation that forks nothing

none_added : (op : Operation) (r : TaskRow) (tasks : List TaskRow) → IsNoFork op → added_by op r tasks ≡ []
none_added (O.Fork call) r tasks h = absurd h
none_added (O.Load object element a) r tasks h = refl
none_added (O.Store object element v) r tasks h = refl
none_added (O.Fold object element f v) r tasks h = refl
none_added O.End r tasks h = refl
none_added (O.Fault law line) r tasks h = refl

path_kept : (op : Operation) (r : TaskRow) → (row_after op r).path ≡ r.path
path_kept (O.Fork call) r = refl
path_kept (O.Load object element a) r = refl
path_kept (O.Store object element v) r = refl
path_kept (O.Fold object element f v) r = refl
path_kept O.End r = refl
path_kept (O.Fault law line) r = refl

call_kept : (op : Operation) (r : TaskRow) → (row_after op r).call ≡ r.call
call_kept (O.Fork call) r = refl
call_kept (O.Load object element a) r = refl
call_kept (O.Store object element v) r = refl
call_kept (O.Fold object element f v) r = refl
call_kept O.End r = refl
call_kept (O.Fault law line) r = refl

-- a core with this store and another row for a task
abbrev pub moved : CoreState → StoreState → ℕ → TaskRow → CoreState
moved c store t row =
    record { program = store.program; input = c.input; table = record { store = store.elements; tasks = slice_set c.table.tasks t row } }

abbrev pub store_of : CoreState → StoreState
store_of c = record { program = c.program; elements = c.table.store }

pub moved_is : (c s : CoreState) (t : ℕ) (op : Operation) (r row : TaskRow) (store : StoreState) → c ≡ s → slice_get c.table.tasks t ≡ Some r → IsNoFork op
    → row ≡ row_after op r → store ≡ acted op (store_of c) → moved c store t row ≡ state_after (E.Body t op) s
moved_is c s t op r row store view at plain is act =
    let none = none_added op r c.table.tasks plain in
    let all = append-nil (slice_set c.table.tasks t (row_after op r)) in
    rw (← view, at, is, act, none, all) refl

pub moved_sound : EventsKeepStatesLawful → (c : CoreState) (links : List LinkState) (t : ℕ) (op : Operation) (r row : TaskRow) (store : StoreState)
    → slice_get c.table.tasks t ≡ Some r → IsNoFork op → row ≡ row_after op r → store ≡ acted op (store_of c) → Goes (E.Body t op) c → IsSound c links
    → IsSound (moved c store t row) links
moved_sound law c links t op r row store at plain is act goes sound =
    let after = moved_is c c t op r row (acted op (store_of c)) refl at plain is refl in
    let lawful = subst IsLawfulState (sym after) (law (E.Body t op) c goes sound.lawful) in
    subst (λ (s : StoreState). IsSound (moved c s t row) links) (sym act)
    (changed_sound c links (acted op (store_of c)).elements t r row at (ap (λ (u : TaskRow). u.path) is ∙ path_kept op r) (ap (λ (u : TaskRow). u.call) is ∙ call_kept op r)
    (never_finished r.phase row.phase (running_of r.phase (rw at at goes.free))) sound lawful)

-- a fork

depth_fits : (p : Program) (call : CallTree) (n : ℕ) → Fits p call → call.depth ≡ suc n → n < DEPTH
depth_fits p call n (is_main e) d = let zero_depth : call.depth ≡ 0 = ap (λ (w : CallTree). w.depth) e in absurd (omega (arith, zero_depth, d))
depth_fits p call n (is_call t e fits) d = omega (arith, fits.deep, d)

pub handed : NextIsRightful → (c : CoreState) (links : List LinkState) (t : ℕ) (call : CallTree) (r : TaskRow) → IsSound c links → Goes (E.Body t (O.Fork call)) c
    → slice_get c.table.tasks t ≡ Some r → MayFork c.program (rights_of c.program r.call) r.call.depth call
handed law c links t call r sound goes at =
    law c.program sound.lawful.accepted (Whole r.call) (sound.fit t r.call (mapped_at (λ (u : TaskRow). u.call) c.table.tasks t r at)) r.answers r.done (O.Fork call)
    (due c t (O.Fork call) r goes at).next

pub path_short : NextIsRightful → (c : CoreState) (links : List LinkState) (t : ℕ) (call : CallTree) (r : TaskRow) → IsSound c links → Goes (E.Body t (O.Fork call)) c
    → slice_get c.table.tasks t ≡ Some r → length r.path < DEPTH
path_short law c links t call r sound goes at =
    let hands = handed law c links t call r sound goes at in
    let short = depth_fits c.program call r.call.depth hands.fits hands.deeper in
    ∥∥₁_elim sound.lawful.table le_prop (λ table. let deep = table.rows.deep t r at in omega (arith, deep, short))

-- a core with a task more, and its parent gone on
abbrev pub forked : CoreState → ℕ → TaskRow → TaskRow → CoreState
forked c t row child = record { program = c.program; input = c.input; table = record { store = c.table.store; tasks = slice_set (c.table.tasks ++ child ∷ []) t row } }

pub forked_is : (c s : CoreState) (t : ℕ) (call : CallTree) (r row child : TaskRow) → c ≡ s → slice_get c.table.tasks t ≡ Some r → row ≡ went_on [] r
    → child ≡ fresh_row (next_child r c.table.tasks) call → forked c t row child ≡ state_after (E.Body t (O.Fork call)) s
forked_is c s t call r row child view at is fresh =
    let within = slice_get_within c.table.tasks t r at in
    let front = set-append_left c.table.tasks (child ∷ []) t row within in
    rw (← view, at, front, is, fresh) refl

-- no two rows of a lawful table have one path
once_of : (c : CoreState) → IsLawfulState c → OncePaths (paths_of c.table.tasks)
once_of c lawful i j q ati atj =
    let r = mapped_from (λ (u : TaskRow). u.path) c.table.tasks i q ati in
    let s = mapped_from (λ (u : TaskRow). u.path) c.table.tasks j q atj in
    ∥∥₁_elim lawful.table (Coded-set coded_ℕ i j) (λ table. table.rows.once i j r.0 s.0 r.1 s.1 (r.2 ∙ sym s.2))

pub forked_sound : EventsKeepStatesLawful → NextIsRightful → (c : CoreState) (links : List LinkState) (t : ℕ) (call : CallTree) (r row child : TaskRow)
    → slice_get c.table.tasks t ≡ Some r → row ≡ went_on [] r → child ≡ fresh_row (next_child r c.table.tasks) call → Goes (E.Body t (O.Fork call)) c → IsSound c links
    → IsSound (forked c t row child) (with_link (length c.table.tasks) t links)
forked_sound law rights c links t call r row child at is fresh goes sound =
    let tasks = c.table.tasks in
    let path = next_child r tasks in
    let number = suc (count_rows (λ (u : TaskRow). is_child r.path u.path) tasks) in
    let lawful = subst IsLawfulState (sym (forked_is c c t call r row child refl at is fresh)) (law (E.Body t (O.Fork call)) c goes sound.lawful) in
    let within = slice_get_within tasks t r at in
    let front : slice_set (tasks ++ child ∷ []) t row ≡ slice_set tasks t row ++ child ∷ [] = set-append_left tasks (child ∷ []) t row within in
    let paths : paths_of (slice_set (tasks ++ child ∷ []) t row) ≡ paths_of tasks ++ path ∷ [] =
    ap paths_of front
    ∙ map-append (λ (u : TaskRow). u.path) (slice_set tasks t row) (child ∷ [])
    ∙ ap (λ (ps : List (List ℕ)). ps ++ child.path ∷ []) (map_kept (λ (u : TaskRow). u.path) tasks t r row at (ap (λ (u : TaskRow). u.path) is))
    ∙ ap (λ (q : List ℕ). paths_of tasks ++ q ∷ []) (ap (λ (u : TaskRow). u.path) fresh) in
    let calls : calls_of (slice_set (tasks ++ child ∷ []) t row) ≡ calls_of tasks ++ call ∷ [] =
    ap calls_of front
    ∙ map-append (λ (u : TaskRow). u.call) (slice_set tasks t row) (child ∷ [])
    ∙ ap (λ (cs : List CallTree). cs ++ child.call ∷ []) (map_kept (λ (u : TaskRow). u.call) tasks t r row at (ap (λ (u : TaskRow). u.call) is))
    ∙ ap (λ (w : CallTree). calls_of tasks ++ w ∷ []) (ap (λ (u : TaskRow). u.call) fresh) in
    let once : OncePaths (paths_of tasks ++ path ∷ []) = subst OncePaths paths (once_of (forked c t row child) lawful) in
    let size = length-map tasks (λ (u : TaskRow). u.path) in
    let linked = linked_more (paths_of tasks) links sound.linked t r.path (mapped_at (λ (u : TaskRow). u.path) tasks t r at) path (child_no_root r.path number)
    (parent_of_child r.path number) once in
    let tl = get_there links t (omega (arith, within, size, sound.linked.count)) in
    let stays = never_finished r.phase row.phase (running_of r.phase (rw at at goes.free)) in
    let settled = settled_kept (tasks ++ child ∷ []) (with_link (length tasks) t links) t r row (get_front tasks (child ∷ []) t within ∙ at) stays
    (settled_more tasks links sound.settled child (length tasks) t tl.0 tl.1) in
    let room = (due c t (O.Fork call) r goes at).room in
    let long = ap length paths in
    let new = length-map (slice_set (tasks ++ child ∷ []) t row) (λ (u : TaskRow). u.path) in
    let both = length-append (paths_of tasks) (path ∷ []) in
    record {
      lawful = lawful;
      linked = subst (λ (ps : List (List ℕ)). AreLinked ps (with_link (length tasks) t links)) (sym paths)
          (subst (λ (n : ℕ). AreLinked (paths_of tasks ++ path ∷ []) (with_link n t links)) size linked);
      settled = settled;
      fit = subst (AllFit c.program) (sym calls) (more_fit (handed rights c links t call r sound goes at).fits);
      few = omega (arith, room, long, new, both, size);
    }
  where
    more_fit : Fits c.program call → AllFit c.program (calls_of c.table.tasks ++ call ∷ [])
    more_fit fits u w e = elim (get_either (calls_of c.table.tasks) call u w e) [
      | inl old ↦ sound.fit u w old
      | inr (last, same) ↦ subst (Fits c.program) (sym same) fits
    ]

-- the same where the rows and the links are known by equations
abbrev pub grown : CoreState → List TaskRow → ℕ → TaskRow → CoreState
grown c more t row = record { program = c.program; input = c.input; table = record { store = c.table.store; tasks = slice_set more t row } }

pub grown_is : (c s : CoreState) (more : List TaskRow) (t : ℕ) (call : CallTree) (r row child : TaskRow) → more ≡ c.table.tasks ++ child ∷ [] → c ≡ s
    → slice_get c.table.tasks t ≡ Some r → row ≡ went_on [] r → child ≡ fresh_row (next_child r c.table.tasks) call → grown c more t row ≡ state_after (E.Body t (O.Fork call)) s
grown_is c s more t call r row child all view at is fresh =
    subst (λ (xs : List TaskRow). grown c xs t row ≡ state_after (E.Body t (O.Fork call)) s) (sym all) (forked_is c s t call r row child view at is fresh)

pub grown_sound : EventsKeepStatesLawful → NextIsRightful → (c : CoreState) (more : List TaskRow) (links after : List LinkState) (t : ℕ) (call : CallTree)
    (r row child : TaskRow) → more ≡ c.table.tasks ++ child ∷ [] → after ≡ with_link (length c.table.tasks) t links → slice_get c.table.tasks t ≡ Some r
    → row ≡ went_on [] r → child ≡ fresh_row (next_child r c.table.tasks) call → Goes (E.Body t (O.Fork call)) c → IsSound c links → IsSound (grown c more t row) after
grown_sound law rights c more links after t call r row child all linked at is fresh goes sound =
    subst (λ (xs : List TaskRow). IsSound (grown c xs t row) after) (sym all)
    (subst (IsSound (forked c t row child)) (sym linked) (forked_sound law rights c links t call r row child at is fresh goes sound))

-- the number of the next child
pub number_is : (c : CoreState) (r : TaskRow) (children : List ℕ) → children ≡ numbers_of (is_child r.path) (paths_of c.table.tasks)
    → r.path ++ (length children + 1) ∷ [] ≡ next_child r c.table.tasks
number_is c r children is =
    let counted = numbers_counted (is_child r.path) c.table.tasks in
    let e : length children + 1 ≡ suc (count_rows (λ (u : TaskRow). is_child r.path u.path) c.table.tasks) = omega (arith, ap length is, counted) in
    ap (λ (n : ℕ). r.path ++ n ∷ []) e

pub child_is : (c : CoreState) (r again row : TaskRow) (children path : List ℕ) (copied call : CallTree) → again ≡ r
    → children ≡ numbers_of (is_child r.path) (paths_of c.table.tasks) → path ≡ again.path ++ (length children + 1) ∷ [] → copied ≡ call → row ≡ fresh_row path copied
    → row ≡ fresh_row (next_child r c.table.tasks) call
child_is c r again row children path copied call same is path_is call_is row_is =
    let number = number_is c r children is in
    row_is
    ∙ ap (λ (w : CallTree). fresh_row path w) call_is
    ∙ ap (λ (q : List ℕ). fresh_row q call) (path_is ∙ ap (λ (u : TaskRow). u.path ++ (length children + 1) ∷ []) same ∙ number)

count_short : (test : TaskRow → Bool) (tasks : List TaskRow) → count_rows test tasks ≤ length tasks
count_short test [] = omega arith
count_short test (r ∷ tasks) = chosen (test r) (count_short test tasks)
  where
    chosen : (b : Bool) → count_rows test tasks ≤ length tasks → cond b (suc (count_rows test tasks)) (count_rows test tasks) ≤ suc (length tasks)
    chosen true h = omega (arith, h)
    chosen false h = omega (arith, h)

-- there are fewer children than tasks may be
pub few_children : (c : CoreState) (t : ℕ) (call : CallTree) (r : TaskRow) (children : List ℕ) → Goes (E.Body t (O.Fork call)) c → slice_get c.table.tasks t ≡ Some r
    → children ≡ numbers_of (is_child r.path) (paths_of c.table.tasks) → length children < most_tasks
few_children c t call r children goes at is =
    let counted = numbers_counted (is_child r.path) c.table.tasks in
    let short = count_short (λ (u : TaskRow). is_child r.path u.path) c.table.tasks in
    let room = (due c t (O.Fork call) r goes at).room in
    omega (arith, ap length is, counted, short, room)
