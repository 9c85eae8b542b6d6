-- Where an event of a table of tasks can be done.
use Rattle.std.specs.Prelude.{◌≡◌, ◌↔◌, ◌<◌, ◌≤◌, ℕ, List, true, false, None, Some, ◌⊎◌, slice_get}
use Rattle.kt_order.specs.Books.{CanTake}
use Rattle.kt_runs.specs.Clash.{calls_clash}
use Rattle.kt_runs.specs.CoreEvents.{HasInside}
use Rattle.kt_tables.specs.Tables.{IndexRow, TaskRow, TaskTable, is_child, are_siblings}
use Rattle.kt_tables.specs.TableEvents.{task_of, refusal}
use Rattle.kt_tables.specs.declared.events.Event.{Event}
use Rattle.kt_tables.specs.declared.events.Event.TheVariants as E
use Rattle.kt_tables.specs.declared.events.Phase.TheVariants as P
use Rattle.kt_tables.specs.declared.events.Stand.TheVariants as S

-- each task before number t in the frame of r has Q
abbrev pub EachEarlier : (TaskRow → Type 0) → ℕ → TaskRow → List TaskRow → Type 0
EachEarlier Q t r tasks = (u : ℕ) (s : TaskRow) → u < t → slice_get tasks u ≡ Some s → are_siblings s.path r.path ≡ true → Q s

abbrev pub EachChild : (TaskRow → Type 0) → TaskRow → List TaskRow → Type 0
EachChild Q r tasks = (u : ℕ) (s : TaskRow) → slice_get tasks u ≡ Some s → is_child r.path s.path ≡ true → Q s

-- A claim where all earlier tasks of the frame are finished, or where none of them that is not finished clashes with it; an operation of
-- a body that runs; of a loop that loops a split inside a piece, a take of the first indexes of a piece, an operation of an index that is
-- taken and has not ended, a retirement of indexes that have ended; a finish of a task that has ended, or of a loop with no index
-- unretired, whose children are finished.
abbrev pub CanHappen : Event → TaskRow → List TaskRow → Type 0
CanHappen (E.ClaimInOrder t) r tasks = (r.phase ≡ P.Unclaimed) × EachEarlier (λ s. s.phase ≡ P.Finished) t r tasks
CanHappen (E.ClaimReady t) r tasks = (r.phase ≡ P.Unclaimed) × EachEarlier (λ s. (s.phase ≡ P.Finished) ⊎ (calls_clash s.call r.call ≡ false)) t r tasks
CanHappen (E.Body t operation) r tasks = r.phase ≡ P.Running
CanHappen (E.Begin t) r tasks = r.phase ≡ P.Running
CanHappen (E.Split t at) r tasks = (r.phase ≡ P.Looping) × HasInside at r.loop.pieces
CanHappen (E.Take t at n) r tasks = (r.phase ≡ P.Looping) × (1 ≤ n) × CanTake at n r.loop.pieces
CanHappen (E.Index t i operation) r tasks = (r.phase ≡ P.Looping) × ((v : IndexRow) × (slice_get r.loop.indexes i ≡ Some v) × (v.stand ≡ S.Taken))
CanHappen (E.Retire t n) r tasks = (r.phase ≡ P.Looping) × (1 ≤ n) × (n ≤ r.loop.ended)
CanHappen (E.Finish t) r tasks = ((r.phase ≡ P.Ended) ⊎ (r.phase ≡ P.Looping)) × EachChild (λ s. s.phase ≡ P.Finished) r tasks × (r.loop.unretired ≡ 0)

-- nothing refuses an event just where it can be done
abbrev pub RefusedIsDisabled : Type 0
RefusedIsDisabled = (e : Event) (x : TaskTable) (r : TaskRow) → slice_get x.tasks (task_of e) ≡ Some r → (refusal e x ≡ None) ↔ CanHappen e r x.tasks
