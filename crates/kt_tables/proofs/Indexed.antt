-- The rows of the indexes of a loop, and the tasks that they show.
use Rattle.std.proofs.Common.{◌≡◌, ◌≢◌, ◌<◌, ◌≤◌, ◌+◌, ℕ, zero, suc, Bool, cond, List, [], ◌∷◌, length, replicate, Option, Some, ◌⊎◌, inl, inr, refl, sym, ap, subst, ◌∙◌, arith, slice_get}
use mathlib.Core.Path.{fun_ext}
use Rattle.kt_order.specs.Lists.{nth}
use Rattle.kt_order.specs.Forest as order
use Rattle.kt_order.specs.Forest.{Task, Forest, Nil, Node, calls}
use Rattle.kt_order.specs.Events as events
use Rattle.kt_order.specs.Events.{put, Now}
use Rattle.kt_order.specs.Books.{untaken, set_phase, set_running}
use Rattle.kt_order.specs.Loops.{phases}
use Rattle.kt_order.proofs.PathChanges.{eq_self, eq_other}
use Rattle.kt_prog.specs.Calls.{Index}
use Rattle.kt_prog.specs.Reference.{machine_of}
use Rattle.kt_prog.specs.declared.programs.Program.{Program}
use Rattle.kt_runs.specs.Loops.{index_calls}
use Rattle.kt_order.specs.Leaves.{leaves}
use Rattle.kt_tables.specs.Tables.{IndexRow, TaskRow, untaken_index}
use Rattle.kt_tables.specs.TableLaws.{phase_of_stand, index_phases, as_index, index_or_fresh}
use Rattle.kt_tables.specs.LoopRows.{update, taken_index, take_indexes}
use Rattle.kt_tables.specs.declared.events.Stand.{Stand}
use Rattle.kt_tables.specs.declared.events.Stand.TheVariants as S
use Rattle.kt_order.proofs.Leaf.{changed_at, taken_at, leaves_alike}
use Rattle.kt_tables.proofs.Beginning.{fresh_at}

eq_or : (i j : ℕ) → (i ≡ j) ⊎ (i ≢ j)
eq_or i j = grind arith

-- a row after an update
pub got_here : (i : ℕ) (f : IndexRow → IndexRow) (rows : List IndexRow) (v : IndexRow) → slice_get rows i ≡ Some v → slice_get (update i f rows) i ≡ Some (f v)
got_here i f [] v e = absurd (cc e)
got_here zero f (w ∷ rows) v e = ap (λ (x : IndexRow). Some (f x)) (the_some e)
  where
    the_some : {x y : IndexRow} → Some x ≡ Some y → x ≡ y
    the_some h = cc
got_here (suc i) f (w ∷ rows) v e = got_here i f rows v e

pub got_other : (i : ℕ) (f : IndexRow → IndexRow) (rows : List IndexRow) (j : ℕ) → j ≢ i → slice_get (update i f rows) j ≡ slice_get rows j
got_other i f [] j ne = refl
got_other zero f (w ∷ rows) zero ne = absurd (ne refl)
got_other zero f (w ∷ rows) (suc j) ne = refl
got_other (suc i) f (w ∷ rows) zero ne = refl
got_other (suc i) f (w ∷ rows) (suc j) ne = got_other i f rows j (λ e. ne (ap suc e))

pub length_update : (i : ℕ) (f : IndexRow → IndexRow) (rows : List IndexRow) → length (update i f rows) ≡ length rows
length_update i f [] = refl
length_update zero f (w ∷ rows) = refl
length_update (suc i) f (w ∷ rows) = ap suc (length_update i f rows)

pub length_taken : (n at : ℕ) (rows : List IndexRow) → length (take_indexes at n rows) ≡ length rows
length_taken zero at rows = refl
length_taken (suc n) at rows = length_taken n (suc at) (update at taken_index rows) ∙ length_update at taken_index rows

pub length_phases : (rows : List IndexRow) → length (index_phases rows) ≡ length rows
length_phases [] = refl
length_phases (v ∷ rows) = ap suc (length_phases rows)

-- their phases
pub phases_update : (i : ℕ) (f : IndexRow → IndexRow) (st : Stand) (rows : List IndexRow) → ((v : IndexRow) → (f v).stand ≡ st)
    → index_phases (update i f rows) ≡ set_phase i (phase_of_stand st) (index_phases rows)
phases_update i f st [] is = refl
phases_update zero f st (v ∷ rows) is = ap (λ x. phase_of_stand x ∷ index_phases rows) (is v)
phases_update (suc i) f st (v ∷ rows) is = ap (λ xs. phase_of_stand v.stand ∷ xs) (phases_update i f st rows is)

pub phases_kept : (i : ℕ) (f : IndexRow → IndexRow) (rows : List IndexRow) → ((v : IndexRow) → (f v).stand ≡ v.stand)
    → index_phases (update i f rows) ≡ index_phases rows
phases_kept i f [] is = refl
phases_kept zero f (v ∷ rows) is = ap (λ x. phase_of_stand x ∷ index_phases rows) (is v)
phases_kept (suc i) f (v ∷ rows) is = ap (λ xs. phase_of_stand v.stand ∷ xs) (phases_kept i f rows is)

pub phases_taken : (n at : ℕ) (rows : List IndexRow) → index_phases (take_indexes at n rows) ≡ set_running at n (index_phases rows)
phases_taken zero at rows = refl
phases_taken (suc n) at rows =
    phases_taken n (suc at) (update at taken_index rows) ∙ ap (set_running (suc at) n) (phases_update at taken_index S.Taken rows (λ v. refl))

pub nth_phase : (i : ℕ) (rows : List IndexRow) (v : IndexRow) → slice_get rows i ≡ Some v → nth (index_phases rows) i ≡ Some (phase_of_stand v.stand)
nth_phase i [] v e = absurd (cc e)
nth_phase zero (w ∷ rows) v e = ap (λ (x : IndexRow). Some (phase_of_stand x.stand)) (the_some e)
  where
    the_some : {x y : IndexRow} → Some x ≡ Some y → x ≡ y
    the_some h = cc
nth_phase (suc i) (w ∷ rows) v e = nth_phase i rows v e

pub untaken_small : (i : ℕ) (phs : List order.Phase) → untaken phs i ≡ 1 → i < length phs
untaken_small i [] e = absurd (omega (arith, e))
untaken_small zero (ph ∷ phs) e = omega arith
untaken_small (suc i) (ph ∷ phs) e = let lt = untaken_small i phs e in omega (arith, lt)

pub phases_untaken : (n : ℕ) → index_phases (replicate n untaken_index) ≡ replicate n order.Unclaimed
phases_untaken zero = refl
phases_untaken (suc n) = ap (λ xs. order.Unclaimed ∷ xs) (phases_untaken n)

pub got_row : (rows : List IndexRow) (i : ℕ) → i < length rows → (v : IndexRow) × (slice_get rows i ≡ Some v)
got_row [] i lt = absurd (omega (arith, lt))
got_row (v ∷ rows) zero lt = (v, refl)
got_row (v ∷ rows) (suc i) lt = got_row rows i (omega (arith, lt))

pub got_untaken : (n i : ℕ) → i < n → slice_get (replicate n untaken_index) i ≡ Some untaken_index
got_untaken zero i lt = absurd (omega (arith, lt))
got_untaken (suc n) zero lt = refl
got_untaken (suc n) (suc i) lt = got_untaken n i (omega (arith, lt))

module _ (p : Program) (r : TaskRow) where
  -- the tasks of these rows
  abbrev pub tasks_in : List IndexRow → ℕ → Task (machine_of p)
  tasks_in rows i = index_or_fresh p r i (slice_get rows i)

  pub tasks_updated : (i : ℕ) (f : IndexRow → IndexRow) (h : Task (machine_of p) → Now (machine_of p)) (rows : List IndexRow) (v : IndexRow) → slice_get rows i ≡ Some v
      → as_index p r i (f v) ≡ put (machine_of p) h (as_index p r i v)
      → tasks_in (update i f rows) ≡ changed_at (machine_of p) (put (machine_of p) h) i (tasks_in rows)
  tasks_updated i f h rows v e same = fun_ext (λ j. by j (eq_or j i))
    where
      by : (j : ℕ) → (j ≡ i) ⊎ (j ≢ i) → tasks_in (update i f rows) j ≡ changed_at (machine_of p) (put (machine_of p) h) i (tasks_in rows) j
      by j (inl is) =
          subst (λ (k : ℕ). tasks_in (update i f rows) k ≡ changed_at (machine_of p) (put (machine_of p) h) i (tasks_in rows) k) (sym is)
          (ap (index_or_fresh p r i) (got_here i f rows v e) ∙ (same ∙ (ap (λ (o : Option IndexRow). put (machine_of p) h (index_or_fresh p r i o)) (sym e)
          ∙ ap (λ (b : Bool). cond b (put (machine_of p) h (tasks_in rows i)) (tasks_in rows i)) (sym (eq_self i)))))
      by j (inr ne) =
          ap (index_or_fresh p r j) (got_other i f rows j ne) ∙ ap (λ (b : Bool). cond b (put (machine_of p) h (tasks_in rows j)) (tasks_in rows j)) (sym (eq_other j i ne))

  pub tasks_taken : (n at : ℕ) (rows : List IndexRow) → at + n ≤ length rows → tasks_in (take_indexes at n rows) ≡ taken_at (machine_of p) at n (tasks_in rows)
  tasks_taken zero at rows le = refl
  tasks_taken (suc n) at rows le =
      let got = got_row rows at (omega (arith, le)) in
      tasks_taken n (suc at) (update at taken_index rows) (let same = length_update at taken_index rows in omega (arith, le, same))
      ∙ ap (taken_at (machine_of p) (suc at) n) (tasks_updated at taken_index (events.in_phase (machine_of p) order.Running) rows got.0 got.1 refl)

  pub calls_in : (rows : List IndexRow) (f : ℕ → Task (machine_of p)) (k : ℕ) → ((i j : ℕ) → k + i ≡ j → f j ≡ index_or_fresh p r j (slice_get rows i))
      → calls (machine_of p) (leaves (machine_of p) f k (length rows)) ≡ index_calls r.path r.call k (length rows)
  calls_in [] f k is = refl
  calls_in (v ∷ rows) f k is =
      ap (λ (u : Task (machine_of p)). u.call ∷ calls (machine_of p) (leaves (machine_of p) f (suc k) (length rows))) (is 0 k (omega arith))
      ∙ ap (λ xs. record { path = r.path; job = Index r.call k } ∷ xs) (calls_in rows f (suc k) (λ i j e. is (suc i) j (omega (arith, e))))

  pub phases_in : (rows : List IndexRow) (f : ℕ → Task (machine_of p)) (k : ℕ) → ((i j : ℕ) → k + i ≡ j → f j ≡ index_or_fresh p r j (slice_get rows i))
      → phases (machine_of p) (leaves (machine_of p) f k (length rows)) ≡ index_phases rows
  phases_in [] f k is = refl
  phases_in (v ∷ rows) f k is =
      ap (λ (u : Task (machine_of p)). u.phase ∷ phases (machine_of p) (leaves (machine_of p) f (suc k) (length rows))) (is 0 k (omega arith))
      ∙ ap (λ xs. phase_of_stand v.stand ∷ xs) (phases_in rows f (suc k) (λ i j e. is (suc i) j (omega (arith, e))))

  pub tasks_fresh : (n : ℕ) → leaves (machine_of p) (fresh_at p r.path r.call) 0 n ≡ leaves (machine_of p) (tasks_in (replicate n untaken_index)) 0 n
  tasks_fresh n = leaves_alike (machine_of p) (fresh_at p r.path r.call) (tasks_in (replicate n untaken_index)) 0 n
      (λ j le lt. ap (index_or_fresh p r j) (sym (got_untaken n j (omega (arith, lt)))))
