-- A row that runs goes on by each operation that is called; which events of a loop may be asked for.
use Rattle.std.proofs.Common.{◌≡◌, ◌<◌, ◌∙◌, ℕ, ◌+◌, Bool, true, false, nat_lt, not, if◌then◌else◌, List, [], ◌∷◌, ◌++◌, length, append-nil, None, Some, refl, sym, ap, subst, arith}
use Rattle.std.specs.List.{slice_get, slice_set}
use Rattle.std.proofs.lemmas.List.{length-set}
use Rattle.std.proofs.lemmas.Option.{same_Some, slice_get_within}
use Rattle.kt_law.specs.declared.accesses.Access.{Access}
use Rattle.kt_law.specs.declared.limits.TheConstants.{DEFINITIONS}
use Rattle.kt_prog.specs.Calls.{CallTree, Job, Whole, main_call}
use Rattle.kt_prog.specs.Forms.{form_at}
use Rattle.kt_prog.specs.Objects.{width_of}
use Rattle.kt_prog.specs.Operations.{heard, is_loop_at, operations, trace, zeroing, IsNext}
use Rattle.kt_order.specs.Body.{Stop}
use Rattle.kt_prog.specs.Script.{give}
use Rattle.kt_prog.specs.Zeroes.{LoopIsZeroing}
use Rattle.kt_prog.specs.Zeroing.{zero_all}
use Rattle.kt_prog.specs.declared.form.Form.{Form}
use Rattle.kt_prog.specs.declared.form.Form.TheVariants as F
use Rattle.kt_prog.specs.declared.programs.Program.{Program}
use Rattle.kt_prog.specs.declared.runs.Operation.{Operation}
use Rattle.kt_prog.specs.declared.runs.Operation.TheVariants as O
use Rattle.kt_body.specs.Endings.{IsCalled, answers_of}
use Rattle.kt_trials.specs.Driven.{CanGo, IsPlain, StandsAt}
use Rattle.kt_tables.specs.LoopRows.{is_under_way}
use Rattle.kt_tables.specs.Tables.{IndexRow, TaskRow, CoreState, fresh_row, opening_state}
use Rattle.kt_tables.specs.TableEvents.{CanAsk, NothingIsNext, Finds, FindsRoom, IsDue, added_by, in_phase, row_after, state_after, task_of, went_on}
use Rattle.kt_tables.specs.declared.events.Event.{Event}
use Rattle.kt_tables.specs.declared.events.Event.TheVariants as E
use Rattle.kt_tables.specs.declared.events.Phase.TheVariants as P
use Rattle.kt_tables.specs.declared.events.Stand.TheVariants as S
use Rattle.kt_core.proofs.Linking.{get_front, get_last, get_set_same}

went_row : (op : Operation) → IsCalled op → (r : TaskRow) → row_after op r ≡ went_on (heard op) r
went_row (O.Load object element a) h r = refl
went_row (O.Store object element v) h r = refl
went_row (O.Fold object element f v) h r = refl
went_row (O.Fork call) h r = refl
went_row O.End h r = absurd h
went_row (O.Fault law line) h r = absurd h

row_there : (c : CoreState) (t : ℕ) (op : Operation) (r : TaskRow) → IsCalled op → slice_get c.table.tasks t ≡ Some r
    → slice_get (state_after (E.Body t op) c).table.tasks t ≡ Some (went_on (heard op) r)
row_there c t op r h at =
    let tasks = c.table.tasks in
    let within = slice_get_within tasks t r at in
    let long = length-set tasks t (row_after op r) in
    let front = get_front (slice_set tasks t (row_after op r)) (added_by op r tasks) t (omega (arith, within, long)) in
    rw at (front ∙ get_set_same tasks t (row_after op r) within ∙ ap Some (went_row op h r))

pub stands_after : (c : CoreState) (t : ℕ) (op : Operation) (p : Program) (job : Job) (answers : List ℕ) (count : ℕ) → IsCalled op → StandsAt c t p job answers count
    → StandsAt (state_after (E.Body t op) c) t p job (answers ++ heard op) (count + 1)
stands_after c t op p job answers count h s = record {
  program = s.program;
  row = went_on (heard op) s.row;
  there = row_there c t op s.row h s.there;
  running = s.running;
  whole = s.whole;
  found = ap (λ (xs : List ℕ). xs ++ heard op) s.found;
  gone = omega (arith, s.gone);
}

pub can_go : (c : CoreState) (t : ℕ) (op : Operation) (p : Program) (job : Job) (answers : List ℕ) (count : ℕ) → StandsAt c t p job answers count
    → IsNext p job answers count op → Finds c.program c.table.store op → FindsRoom c.table.tasks op → CanGo c t op
can_go c t op p job answers count s next finds room = record {
  row = s.row;
  there = s.there;
  running = s.running;
  due = record { next = next_there; finds = finds; room = room };
}
  where
    next_there : IsNext c.program (Whole s.row.call) s.row.answers s.row.done op
    next_there =
        let job_is = subst (λ (j : Job). IsNext p j answers count op) (sym s.whole) next in
        let answers_are = subst (λ (xs : List ℕ). IsNext p (Whole s.row.call) xs count op) (sym s.found) job_is in
        let count_is = subst (λ (n : ℕ). IsNext p (Whole s.row.call) s.row.answers n op) (sym s.gone) answers_are in
        subst (λ (q : Program). IsNext q (Whole s.row.call) s.row.answers s.row.done op) (sym s.program) count_is

pub can_ask_body : (c : CoreState) (t : ℕ) (op : Operation) → CanGo c t op → CanAsk c.program (E.Body t op) c.table
can_ask_body c t op can = record {
  there = slice_get_within c.table.tasks t can.row can.there;
  suits = λ r at running. subst (λ (u : TaskRow). IsDue c.program op u c.table) (same_Some can.row r (sym can.there ∙ at)) can.due;
}

pub can_ask_plain : (c : CoreState) (e : Event) → IsPlain e → task_of e < length c.table.tasks → CanAsk c.program e c.table
can_ask_plain c (E.Body t operation) h there = absurd h
can_ask_plain c (E.Begin t) h there = absurd h
can_ask_plain c (E.ClaimInOrder t) h there = record { there = there; suits = λ r at. tt }
can_ask_plain c (E.ClaimReady t) h there = record { there = there; suits = λ r at. tt }
can_ask_plain c (E.Split t at) h there = record { there = there; suits = λ r e. tt }
can_ask_plain c (E.Take t at n) h there = record { there = there; suits = λ r e. tt }
can_ask_plain c (E.Index t i operation) h there = absurd h
can_ask_plain c (E.Retire t n) h there = record { there = there; suits = λ r at. tt }
can_ask_plain c (E.Finish t) h there = record { there = there; suits = λ r at. tt }

-- main begins its body
pub main_stands : (p : Program) (c : CoreState) (call : CallTree) → c ≡ state_after (E.ClaimInOrder 0) (opening_state p []) → call ≡ main_call
    → StandsAt c 0 p (Whole call) [] 0
main_stands p c call is main =
    subst (λ (x : CoreState). StandsAt x 0 p (Whole call) [] 0) (sym is) (record {
      program = refl;
      row = in_phase P.Running (fresh_row [] main_call);
      there = refl;
      running = refl;
      whole = ap Whole (sym main);
      found = refl;
      gone = refl;
    })

-- behind all else of a body its end is due
pub end_due : (c : CoreState) (t : ℕ) (p : Program) (job : Job) (done : List Operation) → operations p job (answers_of done) ≡ done ++ O.End ∷ []
    → StandsAt c t p job (answers_of done) (length done) → CanGo c t O.End
end_due c t p job done all stands =
    let found : answers_of done ++ [] ≡ answers_of done = append-nil (answers_of done) in
    let next : IsNext p job (answers_of done) (length done) O.End =
    ap (λ (xs : List ℕ). slice_get (operations p job xs) (length done)) found ∙ ap (λ (ops : List Operation). slice_get ops (length done)) all ∙ get_last done O.End in
    can_go c t O.End p job (answers_of done) (length done) stands next tt tt

-- a call of the form of a loop is a loop's
loop_form : (p : Program) (n : ℕ) → form_at p n ≡ F.Loop → is_loop_at p n ≡ true
loop_form p n h = chosen (nat_lt DEFINITIONS n) (is_loop_at p n) h
  where
    chosen : (kernel loop : Bool) → (if kernel then F.Kernel else if loop then F.Loop else F.Task) ≡ F.Loop → loop ≡ true
    chosen kernel true h = refl
    chosen true false h = let no : F.Kernel ≡ F.Loop = h in cc
    chosen false false h = let no : F.Task ≡ F.Loop = h in cc

-- without objects there is nothing to zero
bare_zeroing : (p : Program) (call : CallTree) → call.accesses ≡ [] → zeroing p call ≡ []
unfolding give
bare_zeroing p call bare = ap (λ (accesses : List Access). trace [] (zero_all (width_of p.families) accesses (λ _. Stop None)) []) bare

-- so a loop without objects may begin once it was claimed
pub can_begin : (c : CoreState) (t : ℕ) (p : Program) (call : CallTree) (form : Form) → LoopIsZeroing → t < length c.table.tasks
    → ((r : TaskRow) → slice_get c.table.tasks t ≡ Some r → call ≡ r.call) → p ≡ c.program → form ≡ form_at p call.task → form ≡ F.Loop → call.accesses ≡ []
    → CanAsk c.program (E.Begin t) c.table
can_begin c t p call form law there same program formed loops bare = record {
  there = there;
  suits = λ r at. (ap (λ (k : CallTree). is_loop_at c.program k.task) (sym (same r at)) ∙ loop, λ running. nothing r (same r at));
}
  where
    loop : is_loop_at c.program call.task ≡ true
    loop = loop_form c.program call.task (ap (λ (q : Program). form_at q call.task) (sym program) ∙ sym formed ∙ loops)

    nothing : (r : TaskRow) → call ≡ r.call → NothingIsNext c.program r
    nothing r is op next =
        let here = subst (λ (k : CallTree). IsNext c.program (Whole k) r.answers r.done op) (sym is) next in
        let all : operations c.program (Whole call) (r.answers ++ heard op) ≡ [] = law c.program call loop (r.answers ++ heard op) ∙ bare_zeroing c.program call bare in
        let none : slice_get [] r.done ≡ Some op = sym (ap (λ (ops : List Operation). slice_get ops r.done) all) ∙ here in
        cc

-- an operation of an index that is not under way may be asked for
pub can_ask_idle : (c : CoreState) (t i : ℕ) (under_way : Bool) → t < length c.table.tasks
    → ((r : TaskRow) → slice_get c.table.tasks t ≡ Some r → under_way ≡ is_under_way (slice_get r.loop.indexes i)) → not under_way ≡ true → (op : Operation)
    → CanAsk c.program (E.Index t i op) c.table
can_ask_idle c t i under_way there same idle op = record { there = there; suits = λ r at looping v inside taken. absurd (not_taken under_way r v (same r at) idle inside taken) }
  where
    not_taken : (b : Bool) (r : TaskRow) (v : IndexRow) → b ≡ is_under_way (slice_get r.loop.indexes i) → not b ≡ true → slice_get r.loop.indexes i ≡ Some v → v.stand ≡ S.Taken → ⊥
    not_taken true r v same idle inside taken = let no : false ≡ true = idle in cc
    not_taken false r v same idle inside taken = let no : false ≡ true = same ∙ rw (inside, taken) refl in cc
