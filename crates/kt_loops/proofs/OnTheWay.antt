-- A loop some index of which is not finished has begun and runs: so its record is its own, and says its first position.
use Rattle.std.proofs.Common.{◌≡◌, ◌≢◌, ℕ, zero, suc, ◌+◌, ◌<◌, ◌≤◌, ◌⊎◌, true, List, [], ◌∷◌, ◌++◌, sym, refl, ap, ◌∙◌, subst, inl, inr, arith}
use mathlib.Core.Option.{some, some-ne-none}
use lib.ListN.{get_elem?}
use Rattle.atomic_table.specs.Table.{State}
use Rattle.kt_order.specs.Machine.{Machine}
use Rattle.kt_order.specs.Forest.{Phase, Finished, Task, Forest, AllTasks}
use Rattle.kt_order.specs.Events.{AllFinished}
use Rattle.kt_order.specs.Lawful.{PhaseOk}
use Rattle.kt_order.specs.Paths.{shift, HasRoom, Known, children_from, grown, children_at}
use Rattle.kt_order.proofs.PathKids.{at_kids}
use Rattle.kt_order.proofs.PathThere.{there_child}
use Rattle.kt_prog.specs.Reference.{machine_of, main_placed, opened_with}
use Rattle.kt_runs.specs.Rights.{rights_in}
use Rattle.kt_runs.specs.ByPath.{Path, child, levels}
use Rattle.kt_rule.specs.declared.views.Setup.{Setup}
use Rattle.kt_rule.specs.declared.views.View.{View}
use Rattle.kt_rule.specs.Lies.{Stage, Waits, Promised, Posted, Given, Runs, Loops, Done, Gone, IndexLie, Lie, Lies, phase_of, get_of, core_of, counts_of}
use Rattle.kt_rule.specs.Records.{layout_of, elements}
use Rattle.kt_rule.specs.LoopFacts.{is_early}
use Rattle.kt_rule.specs.Rule.{Slots, Facts}
use Rattle.kt_rule.proofs.Puts.{get_at}
use Rattle.kt_steps.proofs.Indexed.{index_is}

one_or : (k i : ℕ) → (k ≡ i) ⊎ (k ≢ i)
one_or k i = grind arith

module _ (m : Machine) (P : Task m → Type 0) where
  from_all : (sub : Known m → (List ℕ → ℕ) → Forest m) (get : Known m) (count : List ℕ → ℕ) (k n : ℕ)
      → AllTasks m P (children_from m sub get count k n) → (i : ℕ) → k ≤ i → i < k + n → P (get (i ∷ []))
  from_all sub get count k zero all i from less = absurd (omega (arith, from, less))
  from_all sub get count k (suc n) all i from less = elim (one_or k i) [
    | inl e ↦ subst (λ (z : ℕ). P (get (z ∷ []))) e all.0
    | inr ne ↦ from_all sub get count (suc k) n all.1 i (omega (arith, from, ne)) (omega (arith, less))
  ]

  -- what holds of a frame holds of each child
  by_below : (depth : ℕ) (p : List ℕ) (get : Known m) (count : List ℕ → ℕ) → HasRoom depth p
      → AllTasks m P (children_at m depth p get count) → (k : ℕ) → k < count p → P (get (p ++ k ∷ []))
  by_below zero [] get count room all k less = absurd room
  by_below (suc depth) [] get count room all k less = from_all (grown m depth) get count 0 (count []) all k (omega arith) (omega (arith, less))
  by_below zero (i ∷ p) get count room all k less = absurd room
  by_below (suc depth) (i ∷ p) get count room all k less = by_below depth p (shift i get) (shift i count) room all k less

module _ (j : Setup) (lies : Lies) (s : State Slots View) (f : Facts j lies s) (p : Path) (t : Lie) (is : lies p ≡ some t) where
  abbrev m2 : Machine
  m2 = machine_of j.program

  -- the indexes of a finished loop are finished
  all_finished : phase_of t.stage ≡ Finished → (i : ℕ) (x : IndexLie) → get_elem? t.indexes i ≡ some x → x.phase ≡ Finished
  all_finished over i x at =
      let x0 = core_of j lies (elements (layout_of j) s.words) in
      let up = there_child levels (counts_of j lies) p i (f.core.index_there p t i x is at) in
      ap (λ (z : Task (machine_of j.program)). z.phase) (sym (index_is j lies s f p t i x is at))
      ∙ at_kids m2 levels (rights_in j.program) main_placed (opened_with j.program.families j.input) x0 f.core.lawful
      ((get_of j lies (child p i)).phase ≡ Finished) p (f.core.there p t is) (λ kids here ok.
      let phase : (get_of j lies p).phase ≡ Finished = ap (λ (z : Task (machine_of j.program)). z.phase) (get_at j lies p t is) ∙ over in
      let done = subst (λ (ph : Phase). PhaseOk m2 ph (get_of j lies p) ok.st kids) phase ok.phase in
      by_below m2 (λ u. u.phase ≡ Finished) levels p (get_of j lies) (counts_of j lies) up.2
      (subst (λ (k : Forest m2). AllFinished m2 k) here done.1) i up.1)

  -- so one that has others runs
  pub loops_on : (i : ℕ) (x : IndexLie) → get_elem? t.indexes i ≡ some x → x.phase ≢ Finished → (k : ℕ) × (t.stage ≡ Loops k)
  loops_on i x at not_yet = go t.stage refl
    where
      early : is_early t.stage ≡ true → ⊥
      early e = some-ne-none x (sym at ∙ ap (λ (xs : List IndexLie). get_elem? xs i) ((f.looped.booked p t is).early e).0)

      go : (st : Stage) → t.stage ≡ st → (k : ℕ) × (t.stage ≡ Loops k)
      go Waits e = absurd (early (ap is_early e))
      go (Promised k) e = absurd (early (ap is_early e))
      go (Posted k) e = absurd (early (ap is_early e))
      go (Given k) e = absurd (early (ap is_early e))
      go (Runs k) e = absurd (early (ap is_early e))
      go (Loops k) e = (k, e)
      go Done e = absurd (not_yet (all_finished (ap phase_of e) i x at))
      go Gone e = absurd (not_yet (all_finished (ap phase_of e) i x at))
