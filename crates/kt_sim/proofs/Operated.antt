-- What an operation of a body makes of a simulated run.
use Rattle.std.proofs.Common.{◌≡◌, ◌≢◌, ◌≤◌, ◌<◌, ◌⊎◌, inl, inr, ℕ, zero, suc, ◌+◌, ◌-◌, ◌*◌, Bool, true, false, nat_lt, if◌then◌else◌, List, [], ◌∷◌, ◌++◌, length, Option, Some, None, refl, sym, ap, ◌∙◌, subst, arith, slice_get, slice_set, length-set, length-append}
use Rattle.std.proofs.lemmas.Bool.Decides.{nat_tests}
use Rattle.std.proofs.lemmas.Option.{slice_get_within}
use Rattle.kt_law.specs.Acts.{Act, Load}
use Rattle.kt_law.specs.declared.limits.TheConstants.{LENGTH, TASKS}
use Rattle.kt_prog.specs.Accepted.{IsAccepted}
use Rattle.kt_prog.specs.Calls.{CallTree, Job, Whole, Index}
use Rattle.kt_prog.specs.Fits.{Fits, is_main, is_call}
use Rattle.kt_prog.specs.Objects.{objects_of, width_of}
use Rattle.kt_prog.specs.Operations.{heard, IsNext}
use Rattle.kt_prog.specs.Rights.{Directly}
use Rattle.kt_prog.specs.declared.programs.Family.{Family}
use Rattle.kt_prog.specs.declared.programs.Program.{Program}
use Rattle.kt_prog.specs.declared.runs.Operation.{Operation}
use Rattle.kt_prog.specs.declared.runs.Operation.TheVariants as O
use Rattle.kt_body.specs.Doing.{CanDo}
use Rattle.kt_body.specs.Endings.{IsCalled}
use Rattle.kt_prog.proofs.Rightful.{next_is_rightful}
use Rattle.kt_tables.specs.Tables.{TaskRow, CoreState, fresh_row, next_child, count_indexes}
use Rattle.kt_tables.specs.TableEvents.{CanAsk, FindsRoom, IsDue, row_after, store_after, added_by, after_at, Finds, state_after}
use Rattle.kt_tables.specs.declared.events.Event.TheVariants as E
use Rattle.kt_sim.specs.declared.operations.Simulation.{Simulation}
use Rattle.kt_sim.specs.Left.{row_left, rows_left, room_left, fresh_left, left_in}
use Rattle.kt_sim.specs.Simulated.{EachRow, IsStill, AreQuiet, IsSound, IsFew, Follows, Goes, At, IsOut}
use Rattle.kt_sim.proofs.Rows.{get_same, get_more, each_set, each_more, left_set, left_more, count_set, count_more}

-- a call that fits is not longer than a loop may be
pub fits_short : (p : Program) (call : CallTree) → Fits p call → call.length ≤ LENGTH
fits_short p call (is_main same) = let none = ap (λ (k : CallTree). k.length) same in omega (arith, none)
fits_short p call (is_call t at fits) = fits.long

object_below : (families : List Family) (object element : ℕ) → element < width_of families object → object < objects_of families
object_below [] object element lt = absurd (omega arith)
object_below (f ∷ families) object element lt = chosen (nat_lt object f.members) refl lt (λ h. object_below families (object - f.members) element h)
  where
    chosen : (b : Bool) → nat_lt object f.members ≡ b → element < (if b then f.elements else width_of families (object - f.members))
        → (element < width_of families (object - f.members) → object - f.members < objects_of families)
        → object < f.members + objects_of families
    chosen true is h more = let less : object < f.members = grind (arith, nat_tests) in omega arith
    chosen false is h more =
        let past : f.members ≤ object = grind (arith, nat_tests) in
        let rest = more h in
        omega arith

direct_inside : (p : Program) (job : Job) (act : Act) → Directly p job act
    → (act.object < objects_of p.families) × (act.element < width_of p.families act.object)
direct_inside p (Whole call) act d = (object_below p.families act.object act.element d.0, d.0)
direct_inside p (Index call i) act d = (object_below p.families act.object act.element d.0, d.0)

-- the element of a load is there
pub load_inside : (s : Simulation) (object element : ℕ) → CanDo At IsOut s (λ a. O.Load object element a)
    → (object < objects_of s.core.program.families) × (element < width_of s.core.program.families object)
load_inside s object element h =
    rw h.stands.program (direct_inside h.program h.job (record { object = object; element = element; deed = Load })
    (next_is_rightful h.program h.accepted h.job h.fits h.answers h.count (O.Load object element 0) (h.next 0)))

-- what is next there is next in the body of its row
pub next_in : (c : CoreState) (t : ℕ) (p : Program) (job : Job) (answers : List ℕ) (count : ℕ) (op : Operation) → c.program ≡ p
    → (g : Goes c t job answers count) → IsNext p job answers count op → IsNext c.program (Whole g.row.call) g.row.answers g.row.done op
next_in c t p job answers count op same g next =
    subst (λ (q : Program). IsNext q (Whole g.row.call) g.row.answers g.row.done op) (sym same)
    (subst (λ (j : Job). IsNext p j g.row.answers g.row.done op) g.job_is
    (subst (λ (found : List ℕ). IsNext p job found g.row.done op) (sym g.answers_are)
    (subst (λ (n : ℕ). IsNext p job answers n op) (sym g.count_is) next)))

room_in : (tasks : List TaskRow) (op : Operation) → length tasks ≤ TASKS → FindsRoom tasks op
room_in tasks (O.Load object element a) few = tt
room_in tasks (O.Store object element v) few = tt
room_in tasks (O.Fold object element f v) few = tt
room_in tasks (O.Fork call) few = omega arith
room_in tasks O.End few = tt
room_in tasks (O.Fault law line) few = tt

-- so it may be asked of the core
pub ask_in : (c : CoreState) (t : ℕ) (p : Program) (job : Job) (answers : List ℕ) (count : ℕ) (op : Operation) → c.program ≡ p
    → Goes c t job answers count → IsNext p job answers count op → Finds c.program c.table.store op → CanAsk c.program (E.Body t op) c.table
ask_in c t p job answers count op same g next found =
    let due : IsDue c.program op g.row c.table = record { next = next_in c t p job answers count op same g next; finds = found; room = room_in c.table.tasks op g.few.tasks } in
    record {
      there = slice_get_within c.table.tasks t g.row g.there;
      suits = λ r e running. let is : g.row ≡ r = cc in subst (λ (u : TaskRow). IsDue c.program op u c.table) is due;
    }

-- what an operation that is a call leaves of the row of its task
record RowGoes (op : Operation) (r s : TaskRow) : Type 0 where
  pub call : s.call ≡ r.call
  pub phase : s.phase ≡ r.phase
  pub answers : s.answers ≡ r.answers ++ heard op
  pub done : s.done ≡ suc r.done
  pub left : row_left s ≡ row_left r

row_goes : (op : Operation) (r : TaskRow) → IsCalled op → RowGoes op r (row_after op r)
row_goes (O.Load object element a) r h = record { call = refl; phase = refl; answers = refl; done = refl; left = refl }
row_goes (O.Store object element v) r h = record { call = refl; phase = refl; answers = refl; done = refl; left = refl }
row_goes (O.Fold object element f v) r h = record { call = refl; phase = refl; answers = refl; done = refl; left = refl }
row_goes (O.Fork call) r h = record { call = refl; phase = refl; answers = refl; done = refl; left = refl }
row_goes O.End r h = absurd h
row_goes (O.Fault law line) r h = absurd h

pub store_long : (p : Program) (op : Operation) (store : List ℕ) → length (store_after p op store) ≡ length store
store_long p (O.Load object element a) store = refl
store_long p (O.Store object element v) store = length-set store _ _
store_long p (O.Fold object element f v) store = length-set store _ _
store_long p (O.Fork call) store = refl
store_long p O.End store = refl
store_long p (O.Fault law line) store = refl

-- the tasks that it adds
added_each : (Q : TaskRow → Type 0) (op : Operation) (r : TaskRow) (tasks : List TaskRow)
    → ((child : CallTree) → op ≡ O.Fork child → Q (fresh_row (next_child r tasks) child))
    → (n : ℕ) (u : TaskRow) → slice_get (added_by op r tasks) n ≡ Some u → Q u
added_each Q (O.Load object element a) r tasks h n u e = cc
added_each Q (O.Store object element v) r tasks h n u e = cc
added_each Q (O.Fold object element f v) r tasks h n u e = cc
added_each Q (O.Fork call) r tasks h zero u e = let same : fresh_row (next_child r tasks) call ≡ u = cc in subst Q same (h call refl)
added_each Q (O.Fork call) r tasks h (suc n) u e = cc
added_each Q O.End r tasks h n u e = cc
added_each Q (O.Fault law line) r tasks h n u e = cc

added_count : (op : Operation) (r : TaskRow) (tasks : List TaskRow) → count_indexes (added_by op r tasks) ≡ 0
added_count (O.Load object element a) r tasks = refl
added_count (O.Store object element v) r tasks = refl
added_count (O.Fold object element f v) r tasks = refl
added_count (O.Fork call) r tasks = refl
added_count O.End r tasks = refl
added_count (O.Fault law line) r tasks = refl

one_less : (n k : ℕ) → n ≤ TASKS → k ≤ LENGTH → room_left (n + 1) + (3 + 4 * k) ≤ room_left n
one_less n k few short = omega (arith, few, short)

same_room : (n : ℕ) → room_left (n + 0) ≡ room_left n
same_room n = let same : n + 0 ≡ n = omega arith in ap room_left same

no_room : (n : ℕ) → room_left (n + 0) + 0 ≤ room_left n
no_room n = let same = same_room n in small (room_left (n + 0)) (room_left n) same
  where
    small : (a b : ℕ) → a ≡ b → a + 0 ≤ b
    small a b e = omega (arith, e)

-- they have room
added_room : (n : ℕ) (op : Operation) (r : TaskRow) (tasks : List TaskRow) → n ≤ TASKS → ((child : CallTree) → op ≡ O.Fork child → child.length ≤ LENGTH)
    → room_left (n + length (added_by op r tasks)) + rows_left (added_by op r tasks) ≤ room_left n
added_room n (O.Load object element a) r tasks few short = no_room n
added_room n (O.Store object element v) r tasks few short = no_room n
added_room n (O.Fold object element f v) r tasks few short = no_room n
added_room n (O.Fork call) r tasks few short =
    let one = one_less n call.length few (short call refl) in
    plain (room_left (n + 1)) (room_left n) one
  where
    plain : (a b : ℕ) → a + (3 + 4 * call.length) ≤ b → a + rows_left (fresh_row (next_child r tasks) call ∷ []) ≤ b
    plain a b one = omega (arith, one)
added_room n O.End r tasks few short = no_room n
added_room n (O.Fault law line) r tasks few short = no_room n

abbrev pub after_op : CoreState → ℕ → TaskRow → Operation → CoreState
after_op c t r op = record {
  program = c.program;
  input = c.input;
  table = record {
    store = store_after c.program op c.table.store;
    tasks = slice_set c.table.tasks t (row_after op r) ++ added_by op r c.table.tasks;
  };
}

pub is_after : (c : CoreState) (t : ℕ) (r : TaskRow) (op : Operation) → slice_get c.table.tasks t ≡ Some r → state_after (E.Body t op) c ≡ after_op c t r op
is_after c t r op there = ap (λ (o : Option TaskRow). let x : CoreState = record { program = c.program; input = c.input; table = after_at c.program (E.Body t op) o c.table } in x) there

indexes_kept : (op : Operation) (r : TaskRow) → (row_after op r).loop.indexes ≡ r.loop.indexes
indexes_kept (O.Fork call) r = refl
indexes_kept (O.Load object element a) r = refl
indexes_kept (O.Store object element v) r = refl
indexes_kept (O.Fold object element f v) r = refl
indexes_kept O.End r = refl
indexes_kept (O.Fault law line) r = refl

module _ (c : CoreState) (t : ℕ) (r : TaskRow) (op : Operation) (there : slice_get c.table.tasks t ≡ Some r) where
  abbrev rows : List TaskRow
  rows = slice_set c.table.tasks t (row_after op r) ++ added_by op r c.table.tasks

  pub rows_long : length rows ≡ length c.table.tasks + length (added_by op r c.table.tasks)
  rows_long =
      let one = length-set c.table.tasks t (row_after op r) in
      let two = length-append (slice_set c.table.tasks t (row_after op r)) (added_by op r c.table.tasks) in
      omega (arith, one, two)

  pub rows_count : count_indexes rows ≡ count_indexes c.table.tasks
  rows_count =
      let one = count_set c.table.tasks t r (row_after op r) there in
      let two = count_more (slice_set c.table.tasks t (row_after op r)) (added_by op r c.table.tasks) in
      let three = added_count op r c.table.tasks in
      let four = ap length (indexes_kept op r) in
      omega (arith, one, two, three, four)

  -- a row by row law of all tasks
  pub each_row : (Q : ℕ → TaskRow → Type 0) → EachRow (λ k u. k ≢ t → Q k u) c.table.tasks → Q t (row_after op r)
      → ((child : CallTree) → op ≡ O.Fork child → (k : ℕ) → Q k (fresh_row (next_child r c.table.tasks) child)) → EachRow Q rows
  each_row Q h one fresh =
      each_more Q (slice_set c.table.tasks t (row_after op r)) (added_by op r c.table.tasks)
      (each_set Q c.table.tasks t (row_after op r) (λ k u d e. h k u e d) one)
      (λ n k u e. added_each (λ v. (j : ℕ) → Q j v) op r c.table.tasks fresh n u e k)

  pub op_left : length c.table.tasks ≤ TASKS → ((child : CallTree) → op ≡ O.Fork child → child.length ≤ LENGTH)
      → left_in (after_op c t r op) + row_left r ≤ left_in c + row_left (row_after op r)
  op_left few short =
      let one = left_set c.table.tasks t r (row_after op r) there in
      let two = left_more (slice_set c.table.tasks t (row_after op r)) (added_by op r c.table.tasks) in
      let three = added_room (length c.table.tasks) op r c.table.tasks few short in
      let four = ap room_left rows_long in
      sums (room_left (length rows)) (room_left (length c.table.tasks + length (added_by op r c.table.tasks))) (room_left (length c.table.tasks))
      (rows_left rows) (rows_left (slice_set c.table.tasks t (row_after op r))) (rows_left (added_by op r c.table.tasks)) (rows_left c.table.tasks) (row_left r) (row_left (row_after op r)) four three two one
    where
      sums : (a b d m n k l x y : ℕ) → a ≡ b → b + k ≤ d → m ≡ n + k → n + x ≡ l + y → (a + m) + x ≤ (d + l) + y
      sums a b d m n k l x y four three two one = omega (arith, four, three, two, one)

  pub sound_op : IsAccepted c.program → IsSound c → IsNext c.program (Whole r.call) r.answers r.done op → (row_after op r).call ≡ r.call
      → IsSound (after_op c t r op)
  sound_op ok sound next same = record {
    calls = each_row (λ k u. Fits c.program u.call) (λ k u e d. sound.calls k u e) (subst (Fits c.program) (sym same) (sound.calls t r there))
        (λ child e k. fork_fits ok sound next child e);
    full = store_long c.program op c.table.store ∙ sound.full;
  }
    where
      fork_fits : IsAccepted c.program → IsSound c → IsNext c.program (Whole r.call) r.answers r.done op → (child : CallTree) → op ≡ O.Fork child → Fits c.program child
      fork_fits ok sound next child e =
          (next_is_rightful c.program ok (Whole r.call) (sound.calls t r there) r.answers r.done (O.Fork child)
          (subst (IsNext c.program (Whole r.call) r.answers r.done) e next)).fits

  pub fork_short : IsAccepted c.program → IsSound c → IsNext c.program (Whole r.call) r.answers r.done op → (child : CallTree) → op ≡ O.Fork child → child.length ≤ LENGTH
  fork_short ok sound next child e =
      fits_short c.program child
      (next_is_rightful c.program ok (Whole r.call) (sound.calls t r there) r.answers r.done (O.Fork child)
      (subst (IsNext c.program (Whole r.call) r.answers r.done) e next)).fits

  pub quiet_op : EachRow (λ k u. AreQuiet u.loop.indexes) c.table.tasks → EachRow (λ k u. AreQuiet u.loop.indexes) rows
  quiet_op quiet =
      each_row (λ k u. AreQuiet u.loop.indexes) (λ k u e d. quiet k u e) (subst AreQuiet (sym (indexes_kept op r)) (quiet t r there)) (λ child e k i v f. cc)

module _ (c : CoreState) (t : ℕ) (p : Program) (job : Job) (answers : List ℕ) (count : ℕ) (op : Operation) (ok : IsAccepted c.program) (same : c.program ≡ p)
    (g : Goes c t job answers count) (next : IsNext p job answers count op) where
  abbrev here : IsNext c.program (Whole g.row.call) g.row.answers g.row.done op
  here = next_in c t p job answers count op same g next

  -- a state that is one operation further
  pub op_follows : row_left (row_after op g.row) ≤ row_left g.row → Follows c (after_op c t g.row op)
  op_follows le = record {
    program = refl;
    input = refl;
    more = let long = rows_long c t g.row op g.there in omega (arith, long);
    further = lower (left_in (after_op c t g.row op)) (left_in c) (row_left g.row) (row_left (row_after op g.row))
        (op_left c t g.row op g.there g.few.tasks (fork_short c t g.row op g.there ok g.sound here)) le;
  }
    where
      lower : (x y a b : ℕ) → x + a ≤ y + b → b ≤ a → x ≤ y
      lower x y a b sum le = omega (arith, sum, le)

  pub called_follows : IsCalled op → Follows c (after_op c t g.row op)
  called_follows called = let level = (row_goes op g.row called).left in op_follows (omega (arith, level))

  pub goes_called : IsCalled op → length (after_op c t g.row op).table.tasks ≤ TASKS → Goes (after_op c t g.row op) t job (answers ++ heard op) (count + 1)
  goes_called called few =
      let s = row_goes op g.row called in
      record {
        sound = sound_op c t g.row op g.there ok g.sound here s.call;
        still = each_row c t g.row op g.there (λ k u. k ≢ t → IsStill u) (λ k u e d d'. g.still k u e d) (λ d. absurd (d refl)) (λ child e k d h. (refl, refl));
        quiet = quiet_op c t g.row op g.there g.quiet;
        few = record { tasks = few; indexes = let count = rows_count c t g.row op g.there in let low = g.few.indexes in omega (arith, count, low) };
        row = row_after op g.row;
        there = get_more (slice_set c.table.tasks t (row_after op g.row)) (added_by op g.row c.table.tasks) t (row_after op g.row)
            (get_same c.table.tasks t g.row (row_after op g.row) g.there);
        running = s.phase ∙ g.running;
        job_is = g.job_is ∙ ap Whole (sym s.call);
        answers_are = s.answers ∙ ap (λ (found : List ℕ). found ++ heard op) g.answers_are;
        count_is = let one = s.done in let two = g.count_is in omega (arith, one, two);
      }
