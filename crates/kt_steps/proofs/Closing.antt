-- The close: what the last state says of the seat that stands for all.
use Rattle.std.proofs.Common.{◌≡◌, ℕ, zero, suc, ◌+◌, ◌*◌, ◌<◌, ◌≤◌, ◌⊎◌, List, [], ◌∷◌, ◌++◌, map, length, sym, refl, ap, ◌∙◌, inl, inr, arith, Some}
use mathlib.Core.Option as o
use mathlib.Core.Option.{none, some, some-injective, some-ne-none}
use lib.ListN.{get_elem?}
use Rattle.atomic_table.specs.Table.{State}
use Rattle.kt_law.specs.declared.limits.TheConstants.{TASKS}
use Rattle.kt_law.specs.declared.stands.Stand.TheVariants as S
use Rattle.kt_order.specs.Lists.{nth, SomeOf}
use Rattle.kt_order.specs.Forest.{Task, Finished}
use Rattle.kt_order.specs.Shown.{entry_of}
use Rattle.kt_order.specs.Sequential.{Entry}
use Rattle.kt_order.specs.Listed.{all_paths}
use Rattle.kt_order.proofs.PathDone.{done_there, run_is}
use Rattle.kt_order.proofs.PathBegins.{path_begins}
use Rattle.kt_prog.specs.Calls.{Index}
use Rattle.kt_prog.specs.Reference.{machine_of, main_placed, opened_with}
use Rattle.kt_runs.specs.Rights.{rights_in}
use Rattle.kt_runs.specs.Theorems.{whole_at}
use Rattle.kt_runs.specs.ByPath.{Path, child, levels}
use Rattle.kt_words.specs.Places.{record_word}
use Rattle.kt_words.specs.Words.{packed_state, IsStateWord}
use Rattle.kt_words.specs.declared.layouts.Layout.{Layout}
use Rattle.kt_words.specs.declared.states.StateWord.{StateWord}
use Rattle.kt_rule.specs.declared.views.Setup.{Setup}
use Rattle.kt_rule.specs.declared.views.Berth.{Berth}
use Rattle.kt_rule.specs.declared.views.Execution.{Execution}
use Rattle.kt_rule.specs.declared.views.IndexRun.{IndexRun}
use Rattle.kt_rule.specs.declared.views.View.{View}
use Rattle.kt_rule.specs.Lists.{weigh, times, In}
use Rattle.kt_rule.specs.Lies.{Stage, Waits, Promised, Posted, Given, Runs, Loops, Done, Gone, IndexLie, Lie, Lies, phase_of, stand_of, is_gone, get_of, core_of, counts_of, IsHere}
use Rattle.kt_rule.specs.Records.{layout_of, word_at, elements, drawn_at, state_of}
use Rattle.kt_rule.specs.Views.{claimed_in, begun_in, executions, spent}
use Rattle.kt_rule.specs.Weights.{is_task, is_index}
use Rattle.kt_rule.specs.Facts.{is_claimed, is_begun, tally, task_in, index_task, Fits}
use Rattle.kt_rule.specs.LoopFacts.{is_retired, task_tally, index_tally, index_times}
use Rattle.kt_rule.specs.Rule.{Slots, Facts}
use Rattle.kt_steps.specs.Laws.{CloseGives}
use Rattle.kt_rule.specs.Close.{the_run, BeginsEntry, BeginsBody, BeginsIndex, IsDone, AtClose}
use Rattle.kt_rule.proofs.Puts.{get_at}
use Rattle.kt_rule.proofs.Sums.{weigh_one, in_append}
use Rattle.kt_rule.proofs.Cores.{child_one}
use Rattle.kt_rule.proofs.Words.{state_one, says_state}
use Rattle.kt_steps.proofs.Listed.{stands}
use Rattle.kt_steps.proofs.Drawing.{weigh_less, drawn_within, counted}
use Rattle.kt_steps.proofs.DrawnPositions.{positions_within, positions_counted, positions_few}
use Rattle.kt_steps.proofs.Indexed.{agrees, taken_is, retired_is, retired_all, there_as, index_is}

none_of : (g : View → ℕ) (views : List View) → weigh (λ (x : View). x.parts) views ≡ 0
    → ((k : ℕ) (x : View) → get_elem? views k ≡ some x → x.parts ≡ 0 → g x ≡ 0) → weigh g views ≡ 0
none_of g [] e idle = refl
none_of g (x ∷ xs) e idle = let h = none_of g xs (omega arith) (λ k y. idle (suc k) y) in
    let k = idle 0 x refl (omega arith) in omega arith

-- who has all parts has all lists
has_all : (g : View → ℕ) (views : List View) (id : ℕ) (v : View) → get_elem? views id ≡ some v
    → weigh (λ (x : View). x.parts) views ≡ v.parts → ((k : ℕ) (x : View) → get_elem? views k ≡ some x → x.parts ≡ 0 → g x ≡ 0)
    → weigh g views ≡ g v
has_all g [] id v at e idle = absurd (some-ne-none v (sym at))
has_all g (x ∷ xs) zero v at e idle = let x_is = some-injective x v at in let a = ap (λ (z : View). z.parts) x_is in
    let b = ap g x_is in let h = none_of g xs (omega arith) (λ k y. idle (suc k) y) in omega arith
has_all g (x ∷ xs) (suc i) v at e idle = let a = weigh_one (λ (z : View). z.parts) xs i v at in
    let h = has_all g xs i v at (omega arith) (λ k y. idle (suc k) y) in let k = idle 0 x refl (omega arith) in omega arith

claimed_most : (s : Stage) → is_claimed s ≤ 1
claimed_most Waits = omega arith
claimed_most (Promised k) = omega arith
claimed_most (Posted k) = omega arith
claimed_most (Given k) = omega arith
claimed_most (Runs k) = omega arith
claimed_most (Loops k) = omega arith
claimed_most Done = omega arith
claimed_most Gone = omega arith

begun_most : (s : Stage) → is_begun s ≤ is_claimed s
begun_most Waits = omega arith
begun_most (Promised k) = omega arith
begun_most (Posted k) = omega arith
begun_most (Given k) = omega arith
begun_most (Runs k) = omega arith
begun_most (Loops k) = omega arith
begun_most Done = omega arith
begun_most Gone = omega arith

-- a finished task is claimed and begun
finished_counts : (s : Stage) → phase_of s ≡ Finished → (is_claimed s ≡ 1) × (is_begun s ≡ 1)
finished_counts Waits e = absurd (cc e)
finished_counts (Promised k) e = absurd (cc e)
finished_counts (Posted k) e = absurd (cc e)
finished_counts (Given k) e = absurd (cc e)
finished_counts (Runs k) e = absurd (cc e)
finished_counts (Loops k) e = absurd (cc e)
finished_counts Done e = (refl, refl)
finished_counts Gone e = (refl, refl)

-- and its state word says so
finished_stand : (s : Stage) → phase_of s ≡ Finished → stand_of s ≡ S.Finished
finished_stand Waits e = absurd (cc e)
finished_stand (Promised k) e = absurd (cc e)
finished_stand (Posted k) e = absurd (cc e)
finished_stand (Given k) e = absurd (cc e)
finished_stand (Runs k) e = absurd (cc e)
finished_stand (Loops k) e = absurd (cc e)
finished_stand Done e = refl
finished_stand Gone e = refl

phase_finished : (s : Stage) → stand_of s ≡ S.Finished → phase_of s ≡ Finished
phase_finished Waits e = absurd (cc e)
phase_finished (Promised k) e = absurd (cc e)
phase_finished (Posted k) e = absurd (cc e)
phase_finished (Given k) e = absurd (cc e)
phase_finished (Runs k) e = absurd (cc e)
phase_finished (Loops k) e = absurd (cc e)
phase_finished Done e = refl
phase_finished Gone e = refl

none_or : (x : o.Option Lie) → (x ≡ none) ⊎ ((t : Lie) × (x ≡ some t))
none_or none = inl refl
none_or (some t) = inr (t, refl)

weighs_none : (a n : ℕ) → (a ≡ 0) ⊎ (n ≡ 0) → 0 ≡ a * n
weighs_none a n (inl e) = sym (ap (λ (z : ℕ). z * n) e ∙ zero_by n)
  where
    zero_by : (n : ℕ) → 0 * n ≡ 0
    zero_by n = omega arith
weighs_none a n (inr e) = sym (ap (λ (z : ℕ). a * z) e ∙ by_zero a)
  where
    by_zero : (a : ℕ) → a * 0 ≡ 0
    by_zero a = omega arith

weighs_one : (a n : ℕ) → a ≡ 1 → n ≡ 1 → 1 ≡ a * n
weighs_one a n e d = sym (λ i. e i * d i)

pub closes : (j : Setup) (lies : Lies) (s : State Slots View) → Facts j lies s → (id : ℕ) (v : View) → get_elem? s.views id ≡ some v
    → 0 < v.parts → v.parts ≡ j.workers → AtClose j s.words v
closes j lies s f id v at live parts = record {
  claimed = λ p. let a = claimed p in let b = most (lies p) in omega arith;
  begun = λ p. let a = claimed p in let b = begun p in let d = less (lies p) in omega arith;
  begins = begins;
  begins_index = λ e i. elim (in_append v.loops.taken v.loops.retired e i) [
    | inl h ↦ (let k = taken_is j lies s f id v at e h in begins_at e k.task k.index k.is k.berth k.at k.answers k.count)
    | inr h ↦ (let k = retired_is j lies s f id v at e h in begins_at e k.task k.index k.is k.berth k.at k.answers k.count)
  ];
  whole = λ fin. record {
    rows = ap (λ r. r.store) (run_now fin);
    paths = paths;
    entry = entry;
    entries = ap (λ r. r.entries) (run_now fin);
    once = λ p. elim (stands levels (counts_of j lies) p) [ inl h ↦ (let a = h.1 in omega arith) | inr h ↦ (let a = h.1 in omega arith) ];
    claimed = λ p. claimed p ∙ in_paths is_claimed fin (λ s e. (finished_counts s e).0) p;
    begun = λ p. begun p ∙ in_paths is_begun fin (λ s e. (finished_counts s e).1) p;
    retired = λ p i. retired p i ∙ index_paths fin p i;
    each = λ e i. let h = agrees j lies s f id v at e i in
        (λ k. entry_of (machine_of j.program) (get_at j lies e.spot.path h.0 h.1 k)) ∙ (λ k. entry_of (machine_of j.program)
        (record {
          call = whole_at (map suc e.spot.path) (h.2.berth k).call;
          phase = phase_of h.0.stage;
          answers = h.2.answers k;
          done = h.2.count k;
        }));
    each_index = λ e i. let h = retired_is j lies s f id v at e i in
        (λ k. entry_of (machine_of j.program) (index_is j lies s f e.spot.path h.task e.index h.index h.is h.at k)) ∙
        (λ k. entry_of (machine_of j.program) (record {
          call = record { path = map suc e.spot.path; job = Index (h.berth k).call e.index };
          phase = h.index.phase;
          answers = h.answers k;
          done = h.count k;
        }));
  };
  known = λ i. let h = fit.known [] i in main_says (ap phase_of
      (ap (λ (z : Lie). z.stage) (some-injective f.root.0 h.0 (sym f.root.1 ∙ h.1))) ∙ h.2);
  drawn = drawn_within j lies s f;
  counted = λ fin. (counted j lies s f (ap (λ r. r.entries) (run_now fin))).0;
  within = within;
  positions = positions_within j lies s f;
  positions_counted = λ fin. positions_counted j lies s f (ap (λ r. r.entries) (run_now fin));
  positions_within = λ fin. positions_few j lies s f (ap (λ r. r.entries) (run_now fin));
  stop = elim f.stopped.word [ inl z ↦ (omega arith) | inr h ↦ (let a = h.0 in omega arith) ];
  stopped = fit.stop;
  over = λ e. elim f.stopped.word [ inl z ↦ absurd (omega arith) | inr h ↦ h.1 ];
}
  where
    l : Layout
    l = layout_of j

    fit : Fits j lies s.words id v
    fit = f.fits id v at

    sums : (g : View → ℕ) → g spent ≡ 0 → weigh g s.views ≡ g v
    sums g none_left = has_all g s.views id v at (f.counts.parts ∙ sym parts) (λ k x e idle. ap g (f.counts.idle k x e idle) ∙ none_left)

    claimed : (p : Path) → claimed_in v p ≡ tally is_claimed (lies p)
    claimed p = sym (sums (λ (x : View). claimed_in x p) refl) ∙ f.counts.claimed p

    begun : (p : Path) → begun_in v p ≡ tally is_begun (lies p)
    begun p = sym (sums (λ (x : View). begun_in x p) refl) ∙ f.counts.begun p

    retired : (p : Path) (i : ℕ) → index_times p i v.loops.retired ≡ task_tally is_retired i (lies p)
    retired p i = sym (sums (λ (x : View). index_times p i x.loops.retired) refl) ∙ retired_all j lies s f p i

    most : (x : o.Option Lie) → tally is_claimed x ≤ 1
    most none = omega arith
    most (some t) = claimed_most t.stage

    less : (x : o.Option Lie) → tally is_begun x ≤ tally is_claimed x
    less none = omega arith
    less (some t) = begun_most t.stage

    entry : Path → Entry (machine_of j.program)
    entry p = entry_of (machine_of j.program) (get_of j lies p)

    -- what the entry at a path begins, each that says the same begins too
    begins_so : (p : Path) (u : Task (machine_of j.program)) → (get_of j lies p).call ≡ u.call → (get_of j lies p).answers ≡ u.answers
        → (get_of j lies p).done ≡ u.done
        → IsHere j lies p → BeginsEntry j u
    begins_so p u call answers done here = some_more (the_run j).entries
        (path_begins (machine_of j.program) (rights_in j.program) levels main_placed
        (opened_with j.program.families j.input) (core_of j lies (elements l s.words)) f.core.lawful p here)
        (λ x b. record {
          call = b.call ∙ call;
          more = b.more;
          answers = b.answers ∙ ap (λ (z : List ℕ). z ++ b.more) answers;
          left = b.left;
          steps = b.steps ∙ ap (λ (n : ℕ). n + b.left) done;
        })
      where
        some_more : {X : Type 0} → {P Q : X → Type 0} → (xs : List X) → SomeOf P xs → ((x : X) → P x → Q x)
            → (k : ℕ) × (x : X) × (nth xs k ≡ Some x) × Q x
        some_more [] h g = absurd h
        some_more (x ∷ xs) h g = elim h [ inl a ↦ (0, x, refl, g x a) | inr a ↦ (let r = some_more xs a g in (suc r.0, r.1, r.2, r.3)) ]

    begins : (e : Execution) → In e (executions v) → BeginsBody j e
    begins e i =
        let h = agrees j lies s f id v at e i in
        let there = get_at j lies e.spot.path h.0 h.1 in
        begins_so e.spot.path (task_in j e)
        (ap (λ (u : Task (machine_of j.program)). u.call) there ∙ ap (λ (z : Berth). whole_at (map suc e.spot.path) z.call) h.2.berth)
        (ap (λ (u : Task (machine_of j.program)). u.answers) there ∙ h.2.answers)
        (ap (λ (u : Task (machine_of j.program)). u.done) there ∙ h.2.count)
        (f.core.there e.spot.path h.0 h.1)

    begins_at : (e : IndexRun) (t : Lie) (x : IndexLie) → lies e.spot.path ≡ some t → t.berth ≡ e.spot.berth
        → get_elem? t.indexes e.index ≡ some x → x.answers ≡ e.answers → x.count ≡ e.done → BeginsIndex j e
    begins_at e t x is berth at answers count =
        let there = index_is j lies s f e.spot.path t e.index x is at in
        begins_so (child e.spot.path e.index) (index_task j e)
        (ap (λ (u : Task (machine_of j.program)). u.call) there ∙ ap
        (λ (z : Berth). record { path = map suc e.spot.path; job = Index z.call e.index }) berth)
        (ap (λ (u : Task (machine_of j.program)). u.answers) there ∙ answers)
        (ap (λ (u : Task (machine_of j.program)). u.done) there ∙ count)
        (f.core.index_there e.spot.path t e.index x is at)

    paths : List Path
    paths = all_paths levels (counts_of j lies)

    main_word : packed_state (state_of f.root.0) ≡ word_at l s.words (record_word 0 0)
    main_word = sym (says_state l lies s.words f.words [] f.root.0 f.root.1 f.root.3) ∙ ap
        (λ (b : Berth). word_at l s.words (record_word b.at 0)) f.root.2

    main_done : IsDone j s.words → (get_of j lies []).phase ≡ Finished
    main_done fin =
        let fits : IsStateWord (record { frame = 0; fork = 0; stand = S.Finished }) = record
        { frame_fits = omega arith; fork_fits = omega arith; worker_fits = omega arith; blank_if_empty = tt } in
        let same = state_one (state_of f.root.0) (record { frame = 0; fork = 0; stand = S.Finished })
        (f.words.sound [] f.root.0 f.root.1).state fits (main_word ∙ fin) in
        ap (λ (z : Task (machine_of j.program)). z.phase) (get_at j lies [] f.root.0 f.root.1) ∙ phase_finished f.root.0.stage
        (ap (λ (z : StateWord). z.stand) same)

    main_says : phase_of f.root.0.stage ≡ Finished → IsDone j s.words
    main_says fin = sym main_word ∙ (λ i. packed_state
        (record { frame = (f.root.2 i).frame; fork = (f.root.2 i).fork; stand = finished_stand f.root.0.stage fin i }))

    run_now : IsDone j s.words → the_run j ≡ record {
      store = elements l s.words;
      entries = map
          (λ p. entry_of (machine_of j.program) (get_of j lies p)) paths;
    }
    run_now fin = run_is (machine_of j.program) (rights_in j.program) f.laws levels main_placed (opened_with j.program.families j.input)
        (core_of j lies (elements l s.words)) f.core.lawful (main_done fin)

    -- where main is finished all is
    all_done : IsDone j s.words → (p : Path) → IsHere j lies p → (get_of j lies p).phase ≡ Finished
    all_done fin p here = done_there (machine_of j.program) (rights_in j.program) f.laws levels main_placed
        (opened_with j.program.families j.input) (core_of j lies (elements l s.words)) f.core.lawful (main_done fin) p here

    done_at : IsDone j s.words → (p : Path) (t : Lie) → lies p ≡ some t → phase_of t.stage ≡ Finished
    done_at fin p t is = ap (λ (z : Task (machine_of j.program)). z.phase) (sym (get_at j lies p t is)) ∙ all_done fin p
        (f.core.there p t is)

    in_paths : (g : Stage → ℕ) → IsDone j s.words → ((s : Stage) → phase_of s ≡ Finished → g s ≡ 1) → (p : Path)
        → tally g (lies p) ≡ is_task (entry p).call * times p paths
    in_paths g fin one p = elim (none_or (lies p)) [
      | inl e ↦ (elim (stands levels (counts_of j lies) p) [
        | inl h ↦ (elim (there_as j lies s f p h.0) [
          | inl (t, is) ↦ absurd (some-ne-none t (sym is ∙ e))
          | inr (q, i, t, x, p_is, is, there) ↦ ap (tally g) e ∙ weighs_none (is_task (entry p).call) (times p paths)
              (inl (ap (λ (z : Path). is_task (entry z).call) p_is ∙ ap (λ (z : Task (machine_of j.program)). is_task z.call)
              (index_is j lies s f q t i x is there)))
        ])
        | inr h ↦ ap (tally g) e ∙ weighs_none (is_task (entry p).call) (times p paths) (inr h.1)
      ])
      | inr (t, is) ↦ (elim (stands levels (counts_of j lies) p) [
        | inl h ↦ ap (tally g) is ∙ (one t.stage (done_at fin p t is) ∙ weighs_one (is_task (entry p).call) (times p paths)
            (ap (λ (z : Task (machine_of j.program)). is_task z.call) (get_at j lies p t is)) h.1)
        | inr h ↦ absurd (h.0 (f.core.there p t is))
      ])
    ]

    index_paths : IsDone j s.words → (p : Path) (i : ℕ)
        → task_tally is_retired i (lies p) ≡ is_index (entry (child p i)).call * times (child p i) paths
    index_paths fin p i = go (lies p) refl
      where
        nothing : ((t : Lie) (x : IndexLie) → lies p ≡ some t → get_elem? t.indexes i ≡ some x → ⊥)
            → 0 ≡ is_index (entry (child p i)).call * times (child p i) paths
        nothing absent = weighs_none (is_index (entry (child p i)).call) (times (child p i) paths)
            (elim (stands levels (counts_of j lies) (child p i)) [
              | inr h ↦ inr h.1
              | inl h ↦ (elim (there_as j lies s f (child p i) h.0) [
                | inl (t, is) ↦ inl (ap (λ (z : Task (machine_of j.program)). is_index z.call) (get_at j lies (child p i) t is))
                | inr (q, k, t, x, p_is, is, there) ↦ (let same = child_one p q i k p_is in
                    absurd (absent t x (ap lies same.0 ∙ is) (ap (get_elem? t.indexes) same.1 ∙ there)))
              ])
            ])

        go : (o : o.Option Lie) → lies p ≡ o → task_tally is_retired i o ≡ is_index (entry (child p i)).call * times (child p i) paths
        go none e = nothing (λ t x is _. some-ne-none t (sym is ∙ e))
        go (some t) is = of_index (get_elem? t.indexes i) refl
          where
            of_index : (o : o.Option IndexLie) → get_elem? t.indexes i ≡ o
                → index_tally is_retired o ≡ is_index (entry (child p i)).call * times (child p i) paths
            of_index none e = nothing (λ u x u_is there. some-ne-none x (sym there ∙ (ap (λ (z : Lie). get_elem? z.indexes i)
                (some-injective u t (sym u_is ∙ is)) ∙ e)))
            of_index (some x) there =
                let here = f.core.index_there p t i x is there in
                let index = index_is j lies s f p t i x is there in
                let finished : x.phase ≡ Finished = ap (λ (z : Task (machine_of j.program)). z.phase) (sym index)
                ∙ all_done fin (child p i) here in
                elim (stands levels (counts_of j lies) (child p i)) [
                  | inl h ↦ ap is_retired finished ∙ weighs_one (is_index (entry (child p i)).call) (times (child p i) paths)
                      (ap (λ (z : Task (machine_of j.program)). is_index z.call) index) h.1
                  | inr h ↦ absurd (h.0 here)
                ]

    within : IsDone j s.words → word_at l s.words drawn_at ≤ TASKS
    within fin =
        let a = (counted j lies s f (ap (λ r. r.entries) (run_now fin))).1 in
        let b = weigh_less (λ (x : View). x.draws.over) (λ (x : View). length x.draws.hands) s.views f.drawn.held in
        let c = f.drawn.bound in omega arith

pub close_gives : CloseGives
close_gives j s (lies, f) id v (at, live) parts = closes j lies s f id v at live parts
