-- What the last state of a run says of the joined view: the record of a close.
use Rattle.std.proofs.Common.{◌≡◌, ℕ, zero, suc, ◌<◌, ◌^◌, ◌⊎◌, Bool, true, false, List, [], ◌∷◌, ◌++◌, map, length, refl, sym, ap, ◌∙◌, subst, inl, inr, arith, Some, nat_eq, slice_index}
use Rattle.std.proofs.lemmas.Bool.Decides.{nat_tests}
use mathlib.Core.Option as o
use mathlib.Core.Option.{none, some, some-injective, some-ne-none}
use lib.ListN.{get_elem?}
use Rattle.atomic_table.specs.Table.{State}
use Rattle.kt_law.specs.declared.limits.TheConstants.{TASKS, INDEXES}
use Rattle.kt_law.specs.declared.stands.Stand.TheVariants as S
use Rattle.kt_order.specs.Lists.{SomeOf, nth}
use Rattle.kt_order.specs.Forest.{Task, Running, Finished}
use Rattle.kt_order.specs.Machine.{Machine}
use Rattle.kt_order.specs.Sequential.{Run, Entry}
use Rattle.kt_order.specs.Shown.{Begins}
use Rattle.kt_order.proofs.PathBegins.{path_begins}
use Rattle.kt_order.proofs.PathDone.{done_there}
use Rattle.kt_prog.specs.Calls.{CallTree, Job, Whole}
use Rattle.kt_prog.specs.Entries.{task_in, tasks_of, indexes_of, faults_of}
use Rattle.kt_prog.specs.Reference.{Placed, machine_of, main_placed, opened_with}
use Rattle.kt_prog.specs.Runs.{TaskRun}
use Rattle.kt_runs.specs.Rights.{rights_in}
use Rattle.kt_runs.specs.ByPath.{Path, child, levels}
use Rattle.kt_words.specs.Places.{Place, place, record_word}
use Rattle.kt_words.specs.declared.layouts.Layout.{Layout}
use Rattle.kt_words.specs.Words.{packed_state, IsStateWord}
use Rattle.kt_words.specs.declared.states.StateWord.{StateWord}
use Rattle.kt_rule.specs.declared.seats.Seat.{Seat}
use Rattle.kt_rule.specs.declared.views.Setup.{Setup}
use Rattle.kt_rule.specs.declared.views.Berth.{Berth}
use Rattle.kt_rule.specs.declared.views.Execution.{Execution}
use Rattle.kt_rule.specs.declared.views.IndexRun.{IndexRun}
use Rattle.kt_rule.specs.declared.views.View.{View}
use Rattle.kt_rule.specs.Lists.{In}
use Rattle.kt_rule.specs.Lies.{Stage, Waits, Promised, Posted, Given, Runs, Loops, Done, Gone, Lie, Lies, phase_of, stand_of, get_of, core_of, IsHere}
use Rattle.kt_rule.specs.LoopWords.{Hand, hands_of}
use Rattle.kt_rule.specs.Records.{layout_of, word_at, elements, drawn_at, positions_at, stop_at, state_of}
use Rattle.kt_rule.specs.Views.{claimed_in}
use Rattle.kt_rule.specs.Facts.{is_claimed, tally, runs_as, IsUnderWay}
use Rattle.kt_rule.specs.Rule.{Slots, Facts, Holds}
use Rattle.kt_rule.specs.Close.{the_run, IsDone, AtClose}
use Rattle.kt_rule.proofs.Puts.{get_at}
use Rattle.kt_rule.proofs.Sums.{weigh_one}
use Rattle.kt_rule.proofs.Words.{state_one, says_state}
use Rattle.kt_steps.proofs.Closing.{closes}
use Rattle.kt_steps.proofs.Drawing.{weigh_less}
use Rattle.kt_steps.proofs.Indexed.{taken_is, index_is}
use Rattle.kt_steps.proofs.LoopSeats.{weigh_hands}
use Rattle.kt_steps.proofs.Steps.{inside}
use Rattle.kt_steps.proofs.Telling.{the_some}
use Rattle.kt_pool.specs.declared.closing.Closed.{Closed}
use Rattle.kt_pool.specs.Exact.{reference_of}
use Rattle.kt_pool.specs.Closing.{IsOfReference, Closes, KnowsMain, KnowsStop, Limits}
use Rattle.kt_pool.specs.Seats.{all_together}
use Rattle.kt_pool.proofs.AsReference.{run_is_reference, answered_many, is_reference}
use Rattle.kt_pool.proofs.Together.{all_know_main, all_know_stop}
use Rattle.kt_pool.proofs.Paths.{none_in}

-- ENTRIES

some_nth : {X : Type 0} → {P Q : X → Type 0} → (xs : List X) → SomeOf P xs → ((x : X) → P x → Q x) → (k : ℕ) × (x : X) × (nth xs k ≡ Some x) × Q x
some_nth [] h g = absurd h
some_nth (x ∷ xs) h g = elim h [ inl a ↦ (0, x, refl, g x a) | inr a ↦ (let r = some_nth xs a g in (suc r.0, r.1, r.2, r.3)) ]

some_right : {X : Type 0} (P : X → Type 0) (xs ys : List X) → SomeOf P ys → SomeOf P (xs ++ ys)
some_right P [] ys h = h
some_right P (x ∷ xs) ys h = inr (some_right P xs ys h)

-- the entry of a task is among the tasks
some_task : (j : Setup) (q : List ℕ) (P : Entry (machine_of j.program) → Type 0) (es : List (Entry (machine_of j.program))) → SomeOf P es
    → ((x : Entry (machine_of j.program)) → P x → (x.call.path ≡ q) × (call : CallTree) × (x.call.job ≡ Whole call))
    → SomeOf (λ (t : TaskRun). t.path ≡ q) (tasks_of j.program es)
some_task j q P [] h g = absurd h
some_task j q P (e ∷ es) (inl a) g = let w = g e a in
    subst (λ (job : Job). SomeOf (λ (t : TaskRun). t.path ≡ q) (task_in e.call.path job e.answers ++ tasks_of j.program es)) (sym w.2) (inl w.0)
some_task j q P (e ∷ es) (inr a) g = some_right (λ (t : TaskRun). t.path ≡ q) (task_in e.call.path e.call.job e.answers) (tasks_of j.program es) (some_task j q P es a g)

is_there : (x : o.Option Lie) → 0 < tally is_claimed x → (t : Lie) × (x ≡ some t)
is_there none some_times = absurd (omega arith)
is_there (some t) some_times = (t, refl)

phase_finished : (s : Stage) → stand_of s ≡ S.Finished → phase_of s ≡ Finished
phase_finished Waits e = absurd (cc e)
phase_finished (Promised k) e = absurd (cc e)
phase_finished (Posted k) e = absurd (cc e)
phase_finished (Given k) e = absurd (cc e)
phase_finished (Runs k) e = absurd (cc e)
phase_finished (Loops k) e = absurd (cc e)
phase_finished Done e = refl
phase_finished Gone e = refl

runs_not_finished : (looping : Bool) (k : ℕ) → phase_of (runs_as looping k) ≡ Finished → ⊥
runs_not_finished false k e = cc e
runs_not_finished true k e = cc e

-- THE LAST STATE

module _ (j : Setup) (lies : Lies) (s : State Slots View) (f : Facts j lies s) (id : ℕ) (v : View) (at : get_elem? s.views id ≡ some v)
    (live : 0 < v.parts) (parts : v.parts ≡ j.workers) where
  abbrev m : Machine
  m = machine_of j.program

  pub at_close : AtClose j s.words v
  at_close = closes j lies s f id v at live parts

  pub few_drawn : word_at (layout_of j) s.words drawn_at < 2 ^ 32
  few_drawn =
      let a = f.drawn.bound in let b = weigh_less (λ (x : View). x.draws.over) (λ (x : View). x.parts) s.views f.drawn.overs in
      let c = f.counts.parts in let d = f.crew in omega arith

  pub few_positions : word_at (layout_of j) s.words positions_at < 2 ^ 32
  few_positions =
      let a = f.looped.bound in
      let b = weigh_less (λ (h : Hand). h.loops.over) (λ (h : Hand). h.parts) (hands_of s.views) (λ k h at. (f.looped.handles k h at).overs) in
      let e = weigh_hands (λ (h : Hand). h.parts) s.views in
      let c = f.counts.parts in let d = f.crew in omega arith

  pub claimed_is : (p : Path) → 0 < claimed_in v p → IsOfReference j p
  claimed_is p some_times =
      let a = weigh_one (λ (x : View). claimed_in x p) s.views id v at in let b = f.counts.claimed p in
      let h = is_there (lies p) (omega arith) in
      let begun = path_begins m (rights_in j.program) levels main_placed (opened_with j.program.families j.input)
      (core_of j lies (elements (layout_of j) s.words)) f.core.lawful p (f.core.there p h.0 h.1) in
      subst (λ (r : Run m). (k : ℕ) × (x : TaskRun) × (nth (tasks_of j.program r.entries) k ≡ Some x) × (x.path ≡ map suc p)) (run_is_reference j)
      (some_nth (tasks_of j.program (the_run j).entries) (some_task j (map suc p) (Begins m (get_of j lies p)) (the_run j).entries begun (λ x b.
      let call = b.call ∙ ap (λ (u : Task m). u.call) (get_at j lies p h.0 h.1) in
      (ap (λ (c : Placed). c.path) call, h.0.berth.call, ap (λ (c : Placed). c.job) call))) (λ x e. e))

  main_word : packed_state (state_of f.root.0) ≡ word_at (layout_of j) s.words (record_word 0 0)
  main_word = sym (says_state (layout_of j) lies s.words f.words [] f.root.0 f.root.1 f.root.3) ∙ ap
      (λ (b : Berth). word_at (layout_of j) s.words (record_word b.at 0)) f.root.2

  main_done : IsDone j s.words → (get_of j lies []).phase ≡ Finished
  main_done fin =
      let fits : IsStateWord (record { frame = 0; fork = 0; stand = S.Finished }) = record
      { frame_fits = omega arith; fork_fits = omega arith; worker_fits = omega arith; blank_if_empty = tt } in
      let same = state_one (state_of f.root.0) (record { frame = 0; fork = 0; stand = S.Finished })
      (f.words.sound [] f.root.0 f.root.1).state fits (main_word ∙ fin) in
      ap (λ (z : Task m). z.phase) (get_at j lies [] f.root.0 f.root.1) ∙ phase_finished f.root.0.stage (ap (λ (z : StateWord). z.stand) same)

  -- then nothing is under way
  all_done : IsDone j s.words → (p : Path) → IsHere j lies p → (get_of j lies p).phase ≡ Finished
  all_done fin = done_there m (rights_in j.program) f.laws levels main_placed (opened_with j.program.families j.input)
      (core_of j lies (elements (layout_of j) s.words)) f.core.lawful (main_done fin)

  none_runs : IsDone j s.words → (e : Execution) → IsUnderWay j lies e → ⊥
  none_runs fin e (t, is, agrees, (k, runs)) = runs_not_finished e.looping k (ap phase_of (sym runs)
      ∙ (ap (λ (z : Task m). z.phase) (sym (get_at j lies e.spot.path t is)) ∙ all_done fin e.spot.path (f.core.there e.spot.path t is)))

  none_taken : IsDone j s.words → (e : IndexRun) → In e v.loops.taken → ⊥
  none_taken fin e i =
      let h = taken_is j lies s f id v at e i in
      let there = index_is j lies s f e.spot.path h.task e.index h.index h.is h.at in
      let phase : h.index.phase ≡ Finished = ap (λ (z : Task m). z.phase) (sym there)
      ∙ all_done fin (child e.spot.path e.index) (f.core.index_there e.spot.path h.task e.index h.index h.is h.at) in
      let both : Running ≡ Finished = sym h.phase_is ∙ phase in absurd (cc both)

  pub idle : IsDone j s.words → (v.tasks.running ≡ []) × (v.tasks.halted ≡ []) × (v.loops.taken ≡ [])
  idle fin = (
    none_in v.tasks.running (λ e i. none_runs fin e ((f.fits id v at).running e i)),
    none_in v.tasks.halted (λ e i. none_runs fin e ((f.fits id v at).halted e i)),
    none_in v.loops.taken (none_taken fin),
  )

-- THE CLOSE

pub closes_so : (j : Setup) (lies : Lies) (s : State Slots View) → Facts j lies s → (id : ℕ) (v : View) → get_elem? s.views id ≡ some v
    → 0 < v.parts → v.parts ≡ j.workers → (c : Closed) → c.rows.items ≡ elements (layout_of j) s.words
    → c.tasks ≡ word_at (layout_of j) s.words drawn_at → c.indexes ≡ word_at (layout_of j) s.words positions_at → c.limit ≡ nat_eq (word_at (layout_of j) s.words stop_at) 1 → Closes j c v
closes_so j lies s f id v at live parts c rows_are tasks_are indexes_are limit_is =
    let a = at_close j lies s f id v at live parts in
    let to : c.limit ≡ true → word_at (layout_of j) s.words stop_at ≡ 1 =
    (λ e. let h : nat_eq (word_at (layout_of j) s.words stop_at) 1 ≡ true = sym limit_is ∙ e in grind (arith, nat_tests)) in record {
      words = s.words;
      rows = rows_are;
      tasks = tasks_are;
      indexes = indexes_are;
      limit = (to, λ e. limit_is ∙ ap (λ (n : ℕ). nat_eq n 1) e);
      close = a;
      claimed = claimed_is j lies s f id v at live parts;
      whole = λ fin. let w = a.within fin in let x = a.positions_within fin in
          is_reference j (elements (layout_of j) s.words) v (a.whole fin) (idle j lies s f id v at live parts fin) c rows_are
          (tasks_are ∙ a.counted fin) (omega arith) (indexes_are ∙ a.positions_counted fin) (omega arith);
      unstopped = λ fin e. let w = a.within fin in let x = a.positions_within fin in
          elim (a.over (to e)) [ inl o ↦ absurd (omega arith) | inr o ↦ absurd (omega arith) ];
    }

pub limits_so : (j : Setup) (c : Closed) (v : View) (seats : List Seat) → v ≡ all_together seats → Closes j c v → Limits j c seats
limits_so j c v seats joined h = record {
  stopped = λ e. h.limit.1 (h.close.stopped (subst KnowsStop (sym joined) (all_know_stop seats e)));
  over = over;
  outcome = λ e. answered_many (length (tasks_of j.program (reference_of j).entries)) (length (indexes_of j.program (reference_of j).entries))
      (faults_of j.program (reference_of j).entries) (reference_of j).store (over e);
  unfinished = λ e k. h.unstopped (h.close.known (subst KnowsMain (sym joined) (all_know_main seats k))) e;
}
  where
    over : c.limit ≡ true
        → (TASKS < length (tasks_of j.program (reference_of j).entries)) ⊎ (INDEXES < length (indexes_of j.program (reference_of j).entries))
    over e =
        let same = ap (λ (x : Run (machine_of j.program)). length (tasks_of j.program x.entries)) (run_is_reference j) in
        let same_indexes = ap (λ (x : Run (machine_of j.program)). length (indexes_of j.program x.entries)) (run_is_reference j) in
        let b = h.close.drawn in let c = h.close.positions in elim (h.close.over (h.limit.0 e)) [
          | inl o ↦ inl (omega arith)
          | inr o ↦ inr (omega arith)
        ]

pub found_word : (ws : List ℕ) (i n : ℕ) → get_elem? ws i ≡ some n → slice_index ws i ≡ n
found_word [] i n e = absurd (some-ne-none n (sym e))
found_word (w ∷ ws) zero n e = some-injective w n e
found_word (w ∷ ws) (suc i) n e = found_word ws i n e

-- the same of a state that the rule allows, in which the seat was told the setup
module _ (opening : List ℕ) (j : Setup) (id : ℕ) (v : View) (s : State Slots View) (hold : Holds opening s) (at : get_elem? s.views id ≡ some v)
    (told : v.setup ≡ Some j) (parts : v.parts ≡ j.workers) (some_workers : 0 < j.workers) where
  pub seen_few : word_at (layout_of j) s.words drawn_at < 2 ^ 32
  seen_few = let y = inside opening s j id v hold at (omega arith) told in few_drawn j y.0 s y.1 id v at (omega arith) parts

  pub seen_few_positions : word_at (layout_of j) s.words positions_at < 2 ^ 32
  seen_few_positions = let y = inside opening s j id v hold at (omega arith) told in few_positions j y.0 s y.1 id v at (omega arith) parts

  -- a word that was read at a place
  read_at : (l : Layout) (ws : List ℕ) (p : Place) (a n : ℕ) → layout_of j ≡ l → s.words ≡ ws → slice_index ws a ≡ n → a ≡ place l p
      → word_at (layout_of j) s.words p ≡ n
  read_at l ws p a n layout words is a_is =
      (λ i. slice_index (words i) ((ap (λ (z : Layout). place z p) layout ∙ sym a_is) i)) ∙ is

  pub seen_closes : (c : Closed) (l : Layout) (ws : List ℕ) (a x b stop : ℕ) → layout_of j ≡ l → s.words ≡ ws → c.rows.items ≡ elements l ws
      → slice_index ws a ≡ c.tasks → a ≡ place l drawn_at → slice_index ws x ≡ c.indexes → x ≡ place l positions_at
      → slice_index ws b ≡ stop → b ≡ place l stop_at → c.limit ≡ nat_eq stop 1 → Closes j c v
  seen_closes c l ws a x b stop layout words rows tasks a_is indexes x_is stop_is b_is limit =
      let y = inside opening s j id v hold at (omega arith) told in
      closes_so j y.0 s y.1 id v at (omega arith) parts c (rows ∙ (λ i. elements (sym layout i) (sym words i)))
      (sym (read_at l ws drawn_at a c.tasks layout words tasks a_is)) (sym (read_at l ws positions_at x c.indexes layout words indexes x_is))
      (limit ∙ ap (λ (n : ℕ). nat_eq n 1) (sym (read_at l ws stop_at b stop layout words stop_is b_is)))
