-- The core is the one that words and views show.
use Rattle.std.proofs.Common.{◌≡◌, ℕ, suc, ◌+◌, ◌<◌, ◌≤◌, ◌⊎◌, nat_eq, nat_lt, Bool, true, false, cond, List, [], ◌∷◌, map, length, sym, refl, ap, ◌∙◌, subst, inl, inr, arith}
use Rattle.std.proofs.lemmas.List.{map-append}
use Rattle.std.proofs.lemmas.Bool.Decides.{nat_tests}
use mathlib.Core.Option.{Option, none, some, some-injective}
use mathlib.Core.Path.{fun_ext}
use lib.ListN.{get_elem?}
use Rattle.atomic_table.specs.Table.{State}
use Rattle.kt_law.specs.declared.stands.Stand.{Stand}
use Rattle.kt_law.specs.declared.stands.Stand.TheVariants as S
use Rattle.kt_order.specs.Forest.{Phase, Unclaimed, Running, Ended, Finished, fresh}
use Rattle.kt_prog.specs.Reference.{machine_of}
use Rattle.kt_runs.specs.Theorems.{whole_at}
use Rattle.kt_runs.specs.ByPath.{Path}
use Rattle.kt_words.specs.Places.{record_word}
use Rattle.kt_words.specs.Words.{packed_state, IsStateWord}
use Rattle.kt_words.specs.declared.states.StateWord.{StateWord}
use Rattle.kt_rule.specs.declared.views.Setup.{Setup}
use Rattle.kt_rule.specs.declared.views.Berth.{Berth}
use Rattle.kt_rule.specs.declared.views.Execution.{Execution}
use Rattle.kt_rule.specs.declared.views.IndexRun.{IndexRun}
use Rattle.kt_rule.specs.declared.views.Spot.{Spot}
use Rattle.kt_rule.specs.declared.views.View.{View}
use Rattle.kt_rule.specs.Lists.{weigh, times}
use Rattle.kt_rule.specs.Paths.{parent_of, number_of}
use Rattle.kt_rule.specs.Lies.{Stage, Waits, Promised, Posted, Given, Runs, Loops, Done, Gone, IndexLie, Lie, Lies, phase_of, stand_of, is_gone, blank, index_of, index_in, get_of, core_of}
use Rattle.kt_rule.specs.Records.{layout_of, word_at, elements, state_of}
use Rattle.kt_rule.specs.Views.{spot_path, path_of, begun_in, executions, indexes_of}
use Rattle.kt_rule.specs.Facts.{is_there, is_begun, tally, runs_as, IsUnderWay}
use Rattle.kt_rule.specs.LoopFacts.{is_taken, is_retired, IsIndex}
use Rattle.kt_rule.specs.Rule.{Slots, Facts}
use Rattle.kt_rule.specs.Steps.{state_word, IsState}
use Rattle.kt_rule.specs.Shown.{find, all_from, under_way, phase_under, index_call, find_index, all_retired, all_taken, untaken, of_index, of_taken, of_retired, of_loop, of_above, of_spot, of_execution, of_ran, of_running, shown}
use Rattle.kt_rule.proofs.Puts.{no_index, get_at, get_none}
use Rattle.kt_rule.proofs.Sums.{in_append, times_append}
use Rattle.kt_rule.proofs.Words.{state_one, says_state}
use Rattle.kt_steps.proofs.Steps.{state_fits}
use Rattle.kt_steps.proofs.Claiming.{waits_of}
use Rattle.kt_steps.proofs.Indexed.{found_at, found_none, found_some, of_whom, all_weigh, index_found, index_none, index_sum, elem_none, elem_some, idle_early, begun_or, untouched, not_ended, agrees, begun_all, taken_is, retired_is, taken_all, retired_all, tally_at}

-- the begun tasks are those under way and those that ran
begun_split : (views : List View) (p : Path) → weigh (λ (v : View). begun_in v p) views ≡ weigh
    (λ (v : View). times p (map path_of (under_way v))) views + weigh (λ (v : View). times p (map path_of v.tasks.ran)) views
begun_split [] p = refl
begun_split (v ∷ vs) p = let a = begun_split vs p in let b = ap (times p) (map-append path_of v.tasks.running v.tasks.halted) in
    let c = times_append p (map path_of v.tasks.running) (map path_of v.tasks.halted) in omega arith

nat_is : (a b : ℕ) → nat_eq a b ≡ true → a ≡ b
nat_is a b e = grind arith

is_nat : (a b : ℕ) → a ≡ b → nat_eq a b ≡ true
is_nat a b h = grind (arith, h)

lt_is : (a b : ℕ) → nat_lt a b ≡ true → a < b
lt_is a b e = grind (arith, nat_tests)

not_lt : (a b : ℕ) → nat_lt a b ≡ false → b ≤ a
not_lt a b e = grind (arith, nat_tests)

module _ (j : Setup) (lies : Lies) (s : State Slots View) (f : Facts j lies s) where
  begun_count : (p : Path) → times p (map path_of (all_from under_way s.views)) + times p
      (map path_of (all_from (λ (v : View). v.tasks.ran) s.views)) ≡ tally is_begun (lies p)
  begun_count p = let a = all_weigh under_way path_of s.views p in let b = all_weigh (λ (v : View). v.tasks.ran) path_of s.views p in
      let c = begun_split s.views p in let d = f.counts.begun p in omega arith

  mine_count : (p : Path) → times p (map spot_path (all_from (λ (v : View). v.region.mine) s.views)) ≡ tally is_there (lies p)
  mine_count p = all_weigh (λ (v : View). v.region.mine) spot_path s.views p ∙ f.counts.mine p

  runs_phase : (b : Bool) (k : ℕ) → cond b Ended Running ≡ phase_of (runs_as b k)
  runs_phase true k = refl
  runs_phase false k = refl

  -- a task under way, as its entry has it
  running_is : (p : Path) (e : Execution) → find path_of p (all_from under_way s.views) ≡ some e
      → of_execution j s (phase_under e) p e ≡ get_of j lies p
  running_is p e d =
      let a = found_at path_of p (all_from under_way s.views) e d in
      let w = of_whom under_way s.views e a.0 in
      let h : IsUnderWay j lies e = elim (in_append w.1.tasks.running w.1.tasks.halted e w.3) [
        | inl i ↦
            (f.fits w.0 w.1 w.2).running e i
        | inr i ↦ (f.fits w.0 w.1 w.2).halted e i
      ] in
      of_under_way p e h (ap lies a.1 ∙ h.1)
    where
      of_under_way : (p : Path) (e : Execution) (h : IsUnderWay j lies e) → lies p ≡ some h.0
          → of_execution j s (phase_under e) p e ≡ get_of j lies p
      of_under_way p e h is = (λ i. record {
        call = whole_at (map suc p) (sym h.2.berth i).call;
        phase = (runs_phase e.looping h.3.0 ∙ ap phase_of (sym h.3.1)) i;
        answers = sym h.2.answers i;
        done = sym h.2.count i;
      }) ∙ sym (get_at j lies p h.0 is)

  -- and one that ran
  ran_is : (p : Path) (e : Execution) → find path_of p (all_from (λ (v : View). v.tasks.ran) s.views) ≡ some e
      → of_execution j s Finished p e ≡ get_of j lies p
  ran_is p e d =
      let a = found_at path_of p (all_from (λ (v : View). v.tasks.ran) s.views) e d in
      let w = of_whom (λ (v : View). v.tasks.ran) s.views e a.0 in
      let h = (f.fits w.0 w.1 w.2).ran e w.3 in
      (λ i. record {
        call = whole_at (map suc p)
            (sym h.2.berth i).call;
        phase = sym h.3 i;
        answers = sym h.2.answers i;
        done = sym h.2.count i;
      })
      ∙ sym (get_at j lies p h.0 (ap lies a.1 ∙ h.1))

  idle_live : (x : Stage) → is_begun x ≡ 0 → is_gone x ≡ false
  idle_live Waits e = refl
  idle_live (Promised k) e = refl
  idle_live (Posted k) e = refl
  idle_live (Given k) e = refl
  idle_live (Runs k) e = refl
  idle_live (Loops k) e = refl
  idle_live Done e = refl
  idle_live Gone e = absurd (omega arith)

  -- one that has not begun, as its record has it
  waiting_is : (p : Path) (t : Lie) → lies p ≡ some t → is_begun t.stage ≡ 0 → (m : Spot)
      → find spot_path p (all_from (λ (v : View). v.region.mine) s.views) ≡ some m → of_spot j s p (some m) ≡ get_of j lies p
  waiting_is p t is idle m d =
      let a = found_at spot_path p (all_from (λ (v : View). v.region.mine) s.views) m d in
      let w = of_whom (λ (v : View). v.region.mine) s.views m a.0 in
      let h = (f.fits w.0 w.1 w.2).mine m w.3 in
      let t_is : h.0 ≡ t = some-injective h.0 t (sym h.1 ∙ (ap lies (sym a.1) ∙ is)) in
      let berth : t.berth ≡ m.berth = ap (λ (z : Lie). z.berth) (sym t_is) ∙ h.2 in
      let none_done = (f.words.sound p t is).fresh idle in
      let word : word_at (layout_of j) s.words (record_word m.berth.at 0) ≡ packed_state (state_of t) = ap
      (λ (b : Berth). word_at (layout_of j) s.words (record_word b.at 0)) (sym berth) ∙ says_state
      (layout_of j) lies s.words f.words p t is (idle_live t.stage idle) in
      (λ i. record {
        call = whole_at (map suc p) (sym berth i).call;
        phase = phase
            (nat_eq (word_at (layout_of j) s.words (record_word m.berth.at 0))
            (state_word m.berth S.Unclaimed)) refl word berth i;
        answers = sym none_done.0 i;
        done = sym none_done.1 i;
      })
      ∙ sym (get_at j lies p t is)
    where
      one_stand : (x y : Stand) (b c : Berth) → IsState b x → IsState c y → state_word b x ≡ state_word c y → x ≡ y
      one_stand x y b c h k e = ap (λ (z : StateWord). z.stand)
          (state_one (record { frame = b.frame; fork = b.fork; stand = x }) (record { frame = c.frame; fork = c.fork; stand = y }) h k e)

      fits_t : IsStateWord (state_of t)
      fits_t = (f.words.sound p t is).state

      other : (b : Berth) (y : Stage) → is_begun y ≡ 0 → nat_eq (state_word b (stand_of y)) (state_word b S.Unclaimed) ≡ false
          → Running ≡ phase_of y
      other b Waits h e = absurd (let z = is_nat (state_word b S.Unclaimed) (state_word b S.Unclaimed) refl in cc (z, e))
      other b (Promised k) h e = refl
      other b (Posted k) h e = refl
      other b (Given k) h e = refl
      other b (Runs k) h e = absurd (omega arith)
      other b (Loops k) h e = absurd (omega arith)
      other b Done h e = absurd (omega arith)
      other b Gone h e = absurd (omega arith)

      phase : (b : Bool) → nat_eq (word_at (layout_of j) s.words (record_word m.berth.at 0)) (state_word m.berth S.Unclaimed) ≡ b
          → word_at (layout_of j) s.words (record_word m.berth.at 0) ≡ packed_state (state_of t) → t.berth ≡ m.berth
          → cond b Unclaimed Running ≡ phase_of t.stage
      phase true e word berth =
          let fits_m : IsState m.berth S.Unclaimed = subst (λ (b : Berth). IsState b S.Unclaimed) berth
          (state_fits t.berth (stand_of t.stage) S.Unclaimed fits_t (λ d. cc) (omega arith)) in
          ap phase_of (sym (waits_of t.stage (one_stand (stand_of t.stage) S.Unclaimed t.berth m.berth fits_t fits_m
          (sym word ∙ nat_is (word_at (layout_of j) s.words (record_word m.berth.at 0)) (state_word m.berth S.Unclaimed) e))))
      phase false e word berth = other m.berth t.stage idle (ap (λ (n : ℕ). nat_eq n (state_word m.berth S.Unclaimed))
          (ap (λ (b : Berth). state_word b (stand_of t.stage)) (sym berth) ∙ sym word) ∙ e)

  -- an index that is taken or retired, as its entry has it
  index_shows : (ph : Phase) (q : Path) (i : ℕ) (t : Lie) → lies q ≡ some t → (e : IndexRun) → IsIndex lies ph e → q ≡ e.spot.path
      → i ≡ e.index → of_index j s ph q i e ≡ index_of j q t.berth.call i (get_elem? t.indexes i)
  index_shows ph q i t is e h path number =
      (λ k. record {
        call = index_call q (berth k).call i;
        phase = sym h.phase_is k;
        answers = sym h.answers k;
        done = sym h.count k;
      })
      ∙ ap (index_of j q t.berth.call i) (sym at)
    where
      task_is : h.task ≡ t
      task_is = some-injective h.task t (sym h.is ∙ (ap lies (sym path) ∙ is))

      berth : e.spot.berth ≡ t.berth
      berth = sym h.berth ∙ ap (λ (z : Lie). z.berth) task_is

      at : get_elem? t.indexes i ≡ some h.index
      at = (λ k. get_elem? (sym task_is k).indexes (number k)) ∙ h.at

  -- and one that nobody has taken
  index_waits : (q : Path) (i : ℕ) (t : Lie) → lies q ≡ some t → (e : Execution) → t.berth ≡ e.spot.berth → length t.indexes ≡ indexes_of e
      → find_index q i (all_retired s.views) ≡ none → find_index q i (all_taken s.views) ≡ none
      → untaken j s q i e ≡ index_of j q t.berth.call i (get_elem? t.indexes i)
  index_waits q i t is e berth long none_retired none_taken = go (get_elem? t.indexes i) refl (nat_lt i (indexes_of e)) refl
    where
      go : (o : Option IndexLie) → get_elem? t.indexes i ≡ o → (b : Bool) → nat_lt i (indexes_of e) ≡ b
          → cond b (fresh (machine_of j.program) (index_call q e.spot.berth.call i)) (blank j) ≡ index_of j q t.berth.call i o
      go none at false b_is = refl
      go none at true b_is = absurd (let a = elem_none t.indexes i at in let h = lt_is i (indexes_of e) b_is in omega arith)
      go (some x) at false b_is = absurd (let a = elem_some t.indexes i x at in let h = not_lt i (indexes_of e) b_is in omega arith)
      go (some x) at true b_is =
          let taken = taken_all j lies s f q i in
          let taken_sum = index_sum (λ (v : View). v.loops.taken) q i s.views in
          let taken_zero = index_none q i (all_taken s.views) none_taken in
          let taken_at = tally_at j lies s f q t i x is at is_taken in
          let retired = retired_all j lies s f q i in
          let retired_sum = index_sum (λ (v : View). v.loops.retired) q i s.views in
          let retired_zero = index_none q i (all_retired s.views) none_retired in
          let retired_at = tally_at j lies s f q t i x is at is_retired in
          let book = f.looped.booked q t is in
          let phase = untouched x.phase (omega arith) (omega arith) (not_ended t.indexes i x book.book.none_ended at) in
          let nothing = book.fresh i x at phase in
          (λ k. record {
            call = index_call q (sym berth k).call i;
            phase = sym phase k;
            answers = sym nothing.0 k;
            done = sym nothing.1 k;
          })

  -- what is shown of a number of a loop, or of another task, is the index that it has
  above_is : (q : Path) (i : ℕ) → of_above j s q i ≡ index_in j q i (lies q)
  above_is q i = of_lie (lies q) refl (find path_of q (all_from executions s.views)) refl
    where
      of_lie : (x : Option Lie) → lies q ≡ x → (e : Option Execution) → find path_of q (all_from executions s.views) ≡ e
          → of_loop j s q i e ≡ index_in j q i x
      of_lie none x_is none e_is = refl
      of_lie none x_is (some e) e_is = absurd (let a = found_some path_of q (all_from executions s.views) e e_is in
          let b = begun_all j lies s f q in let k : tally is_begun (lies q) ≡ 0 = ap (tally is_begun) x_is in omega arith)
      of_lie (some t) x_is none e_is =
          let a = found_none path_of q (all_from executions s.views) e_is in let b = begun_all j lies s f q in
          let k : tally is_begun (lies q) ≡ is_begun t.stage = ap (tally is_begun) x_is in
          sym (no_index j q i t ((f.looped.booked q t x_is).early (idle_early t.stage (omega arith))).0)
      of_lie (some t) x_is (some e) e_is =
          let a = found_at path_of q (all_from executions s.views) e e_is in
          let w = of_whom executions s.views e a.0 in
          let h = agrees j lies s f w.0 w.1 w.2 e w.3 in
          let t_is : h.0 ≡ t = some-injective h.0 t (sym h.1 ∙ (ap lies (sym a.1) ∙ x_is)) in
          of_runs t x_is e (ap (λ (z : Lie). z.berth) (sym t_is) ∙ h.2.berth)
          (ap (λ (z : Lie). length z.indexes) (sym t_is) ∙ h.2.indexes)
          (find_index q i (all_retired s.views)) refl (find_index q i (all_taken s.views)) refl
        where
          of_runs : (t : Lie) → lies q ≡ some t → (e : Execution) → t.berth ≡ e.spot.berth → length t.indexes ≡ indexes_of e
              → (r : Option IndexRun) → find_index q i (all_retired s.views) ≡ r
              → (n : Option IndexRun) → find_index q i (all_taken s.views) ≡ n
              → of_retired j s q i e r ≡ index_in j q i (some t)
          of_runs t is e berth long (some r) r_is n n_is =
              let a = index_found q i (all_retired s.views) r r_is in
              let w = of_whom (λ (v : View). v.loops.retired) s.views r a.0 in
              index_shows Finished q i t is r (retired_is j lies s f w.0 w.1 w.2 r w.3) a.1 a.2
          of_runs t is e berth long none r_is (some n) n_is =
              let a = index_found q i (all_taken s.views) n n_is in
              let w = of_whom (λ (v : View). v.loops.taken) s.views n a.0 in
              ap (of_taken j s q i e) n_is ∙ index_shows Running q i t is n (taken_is j lies s f w.0 w.1 w.2 n w.3) a.1 a.2
          of_runs t is e berth long none r_is none n_is = ap (of_taken j s q i e) n_is ∙ index_waits q i t is e berth long r_is n_is

  at_path : (p : Path) (x : Option Lie) → lies p ≡ x → (e : Option Execution) → find path_of p (all_from under_way s.views) ≡ e
      → (r : Option Execution) → find path_of p (all_from (λ (v : View). v.tasks.ran) s.views) ≡ r
      → (m : Option Spot) → find spot_path p (all_from (λ (v : View). v.region.mine) s.views) ≡ m → of_running j s p e ≡ get_of j lies p
  at_path p x x_is (some e) e_is r r_is m m_is = running_is p e e_is
  at_path p x x_is none e_is (some r) r_is m m_is = ap (of_ran j s p) r_is ∙ ran_is p r r_is
  at_path p none x_is none e_is none r_is none m_is = ap (of_ran j s p) r_is ∙
      (ap (of_spot j s p) m_is ∙ (above_is (parent_of p) (number_of p) ∙ sym (get_none j lies p x_is)))
  at_path p none x_is none e_is none r_is (some m) m_is = absurd
      (let a = found_some spot_path p (all_from (λ (v : View). v.region.mine) s.views) m m_is in let b = mine_count p in
      let k : tally is_there (lies p) ≡ 0 = ap (tally is_there) x_is in omega arith)
  at_path p (some t) x_is none e_is none r_is none m_is = absurd
      (let a = found_none spot_path p (all_from (λ (v : View). v.region.mine) s.views) m_is in let b = mine_count p in
      let k : tally is_there (lies p) ≡ 1 = ap (tally is_there) x_is in omega arith)
  at_path p (some t) x_is none e_is none r_is (some m) m_is = elim (begun_or t.stage) [
    | inl idle ↦ ap (of_ran j s p) r_is ∙ (ap (of_spot j s p) m_is ∙ waiting_is p t x_is idle m m_is)
    | inr begun ↦ absurd (let a = found_none path_of p (all_from under_way s.views) e_is in
        let b = found_none path_of p (all_from (λ (v : View). v.tasks.ran) s.views) r_is in let c = begun_count p in
        let k : tally is_begun (lies p) ≡ 1 = ap (tally is_begun) x_is ∙ begun in omega arith)
  ]

  pub shown_is : shown j s ≡ core_of j lies (elements (layout_of j) s.words)
  shown_is = ap (λ g. record { get = g; store = elements (layout_of j) s.words })
      (fun_ext (λ p. at_path p (lies p) refl (find path_of p (all_from under_way s.views)) refl
      (find path_of p (all_from (λ (v : View). v.tasks.ran) s.views)) refl
      (find spot_path p (all_from (λ (v : View). v.region.mine) s.views)) refl))
