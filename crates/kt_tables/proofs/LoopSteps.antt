-- The events of a loop's row that loops or begins: each keeps a table lawful, and the table afterwards shows the state of the theory after it.
use Rattle.std.proofs.Common.{◌≡◌, ◌≢◌, ◌<◌, ◌≤◌, ◌+◌, ℕ, zero, suc, true, List, [], ◌∷◌, length, replicate, Option, Some, None, ◌⊎◌, inl, inr, refl, sym, ap, subst, ◌∙◌, arith, slice_get, slice_set}
use Rattle.kt_order.specs.Books.{CanTake, untaken, is_done, done_in}
use Rattle.kt_order.specs.Laws.{Laws}
use Rattle.kt_order.specs.Paths.{place_of}
use Rattle.kt_order.proofs.Books.{can_untaken}
use Rattle.kt_order.proofs.Leaf.{take_run}
use Rattle.kt_prog.specs.Laws.{BodiesKeep, LoopsAreDirect}
use Rattle.kt_prog.specs.Operations.{is_loop_at}
use Rattle.kt_prog.specs.Accepted.{IsAccepted}
use Rattle.kt_prog.specs.Reference.{machine_of}
use Rattle.kt_prog.specs.declared.programs.Program.{Program}
use Rattle.kt_prog.specs.declared.runs.Operation.{Operation}
use Rattle.kt_runs.specs.Rights.{rights_in}
use Rattle.kt_runs.specs.States.{after_events}
use Rattle.kt_runs.specs.CoreEvents.{events_of}
use Rattle.kt_runs.proofs.LoopActs.{loop_no_fault}
use Rattle.kt_tables.specs.LoopRows.{update, taken_index, take_indexes, index_after, row_begun, row_split, row_taken, row_indexed, row_retired}
use Rattle.kt_tables.specs.Tables.{IndexRow, TaskRow, TaskTable, untaken_index}
use Rattle.kt_tables.specs.TableEvents.{IsIndexDue, NothingIsNext, in_phase, store_after, after_of}
use Rattle.kt_tables.specs.TableLaws.{phase_of_stand, index_phases, book_of, has_begun, as_task, shown, shown_fault, shown_index_fault, ShowsLawful, IsLawfulTable}
use Rattle.kt_tables.specs.TableTheory.{core_event}
use Rattle.kt_tables.specs.declared.events.Event.{Event}
use Rattle.kt_tables.specs.declared.events.Event.TheVariants as E
use Rattle.kt_tables.specs.declared.events.Phase.{Phase}
use Rattle.kt_tables.specs.declared.events.Phase.TheVariants as P
use Rattle.kt_tables.specs.declared.events.Stand.{Stand}
use Rattle.kt_tables.specs.declared.events.Stand.TheVariants as S
use Rattle.kt_tables.proofs.TableRows.{the_some, same_or}
use Rattle.kt_tables.proofs.TableChanges.{FaultsOk, stays}
use Rattle.kt_tables.proofs.Indexed.{got_here, got_other}
use Rattle.kt_tables.proofs.Full.{all_kept}
use Rattle.kt_tables.proofs.LoopKept as kept
use Rattle.kt_tables.proofs.LoopKept.{CanRetire, Pl}
use Rattle.kt_tables.proofs.NextOfLoop.{zeroed}

-- an index after an update of one
got_update : (i : ℕ) (f : IndexRow → IndexRow) (rows : List IndexRow) (j : ℕ) (w v : IndexRow) → slice_get rows i ≡ Some v → slice_get (update i f rows) j ≡ Some w
    → (j ≡ i) × (w ≡ f v) ⊎ (j ≢ i) × (slice_get rows j ≡ Some w)
got_update i f rows j w v at e = elim (same_or j i) [
  | inl is ↦ inl (is, the_some (sym e ∙ (ap (slice_get (update i f rows)) is ∙ got_here i f rows v at)))
  | inr ne ↦ inr (ne, sym (got_other i f rows j ne) ∙ e)
]

some_or_none : {X : Type 0} → (o : Option X) → ((v : X) × (o ≡ Some v)) ⊎ (o ≡ None)
some_or_none None = inr refl
some_or_none (Some v) = inl (v, refl)

update_none : (i : ℕ) (f : IndexRow → IndexRow) (rows : List IndexRow) → slice_get rows i ≡ None → update i f rows ≡ rows
update_none i f [] e = refl
update_none zero f (v ∷ rows) e = cc
update_none (suc i) f (v ∷ rows) e = ap (λ xs. v ∷ xs) (update_none i f rows e)

-- and after some were taken
got_taken : (n at : ℕ) (rows : List IndexRow) (j : ℕ) (w : IndexRow) → slice_get (take_indexes at n rows) j ≡ Some w
    → (slice_get rows j ≡ Some w) ⊎ ((v : IndexRow) × (slice_get rows j ≡ Some v) × (w ≡ taken_index v) × (at ≤ j) × (j < at + n))
got_taken zero at rows j w e = inl e
got_taken (suc n) at rows j w e = elim (some_or_none (slice_get rows at)) [
  | inr none ↦ elim (got_taken n (suc at) rows j w (subst (λ (xs : List IndexRow). slice_get (take_indexes (suc at) n xs) j ≡ Some w) (update_none at taken_index rows none) e)) [
    | inl was ↦ inl was
    | inr k ↦ (let low = k.3 in let high = k.4 in inr (k.0, k.1, k.2, omega (arith, low), omega (arith, high)))
  ]
  | inl some ↦ elim (got_taken n (suc at) (update at taken_index rows) j w e) [
    | inl was ↦ elim (got_update at taken_index rows j w some.0 some.1 was) [
      | inl now ↦ (let is = now.0 in inr (some.0, ap (slice_get rows) is ∙ some.1, now.1, omega (arith, is), omega (arith, is)))
      | inr other ↦ inl other.1
    ]
    | inr k ↦ (let low = k.3 in let high = k.4 in
        inr (k.0, sym (got_other at taken_index rows j (λ same. omega (arith, low, same))) ∙ k.1, k.2, omega (arith, low), omega (arith, high)))
  ]
]

untaken_stand : (rows : List IndexRow) (j : ℕ) (v : IndexRow) → untaken (index_phases rows) j ≡ 1 → slice_get rows j ≡ Some v → v.stand ≡ S.Untaken
untaken_stand [] j v one e = cc
untaken_stand (w ∷ rows) zero v one e = subst (λ (z : IndexRow). z.stand ≡ S.Untaken) (the_some e) (by w.stand one)
  where
    by : (s : Stand) → untaken (phase_of_stand s ∷ index_phases rows) 0 ≡ 1 → s ≡ S.Untaken
    by S.Untaken h = refl
    by S.Taken h = absurd (omega (arith, h))
    by S.Over h = absurd (omega (arith, h))
untaken_stand (w ∷ rows) (suc j) v one e = untaken_stand rows j v one e

fresh_is : (n i : ℕ) (v : IndexRow) → slice_get (replicate n untaken_index) i ≡ Some v → v ≡ untaken_index
fresh_is zero i v e = cc
fresh_is (suc n) zero v e = sym (the_some e)
fresh_is (suc n) (suc i) v e = fresh_is n i v e

module _ (p : Program) (input : List ℕ) (l : Laws (machine_of p) (rights_in p)) (bodies : BodiesKeep) (direct : LoopsAreDirect) (ok : IsAccepted p)
    (x : TaskTable) (h : IsLawfulTable p input x) (t : ℕ) (r : TaskRow) (at : slice_get x.tasks t ≡ Some r) where
  -- the event keeps the table lawful, and what it shows afterwards is what the event of the theory leaves
  pub record Follows (e : Event) : Type 0 where
    pub table : IsLawfulTable p input (after_of p e r x)
    pub shows : shown p (after_of p e r x) ≡ after_events p (events_of p (core_event e r (place_of (h.rows.there t r at).0)) (shown p x)) (shown p x)

  -- an index has a fault only where its body has ended
  pub none_yet : (i : ℕ) (v : IndexRow) → slice_get r.loop.indexes i ≡ Some v → (s : Stand) → v.stand ≡ s
      → v.fault ≡ shown_index_fault p r i (record { stand = s; answers = v.answers; done = v.done; fault = v.fault })
  none_yet i v got s e = subst (λ (s : Stand). v.fault ≡ shown_index_fault p r i (record { stand = s; answers = v.answers; done = v.done; fault = v.fault })) e (h.index_faults t r at i v got)

  module _ (loop : is_loop_at p r.call.task ≡ true) where
    table_of : (r' : TaskRow) (store : List ℕ) → r'.path ≡ r.path → has_begun p r' ≡ true → FaultsOk p r'
        → ShowsLawful p input (record { store = store; tasks = slice_set x.tasks t r' }) → IsLawfulTable p input (record { store = store; tasks = slice_set x.tasks t r' })
    table_of r' store path begun faults rows =
        stays p input x h t r r' at path store rows (all_kept p input l bodies direct ok x h.rows t r r' at loop path store rows begun h.all) (λ none. absurd (cc (begun, none))) faults

    module _ (looping : r.phase ≡ P.Looping) where
      no_fault : r.fault ≡ None
      no_fault = subst (λ (ph : Phase). r.fault ≡ shown_fault p (in_phase ph r)) looping (h.faults t r at)

      still : (s : TaskRow) → s.phase ≡ P.Looping → None ≡ shown_fault p s
      still s e = rw e refl

      is_begun : has_begun p r ≡ true
      is_begun = kept.is_begun p input l bodies direct ok x h.rows t r at loop looping

      pub splits : (n : ℕ) → Follows (E.Split t n)
      splits n =
          let b = kept.splits p input l bodies direct ok x h.rows t r at loop looping n in
          record { table = table_of (row_split n r) x.store refl is_begun (record { fault = no_fault ∙ still (row_split n r) looping; indexes = h.index_faults t r at }) b.rows; shows = b.shows }

      pub can_retire : (n : ℕ) → n ≤ r.loop.ended → CanRetire n r
      can_retire n enough = let count = kept.counted p input l bodies direct ok x h.rows t r at loop looping in omega (arith, enough, count)

      pub retire_can : (n : ℕ) → CanRetire n r → n ≤ r.loop.ended
      retire_can n can =
          let count = kept.counted p input l bodies direct ok x h.rows t r at loop looping in
          let enough : n + length r.loop.indexes ≤ r.loop.unretired + done_in (index_phases r.loop.indexes) = can in omega (arith, enough, count)

      pub retires : (n : ℕ) → n ≤ r.loop.ended → Follows (E.Retire t n)
      retires n enough =
          let b = kept.retires p input l bodies direct ok x h.rows t r at loop looping n (can_retire n enough) in
          record { table = table_of (row_retired n r) x.store refl is_begun (record { fault = no_fault ∙ still (row_retired n r) looping; indexes = h.index_faults t r at }) b.rows; shows = b.shows }

      pub takes : (n k : ℕ) → 1 ≤ k → CanTake n k r.loop.pieces → Follows (E.Take t n k)
      takes n k some can =
          let b = kept.takes-some p input l bodies direct ok x h.rows t r at loop looping n k some can in
          record {
            table = table_of (row_taken n k r) x.store refl is_begun (record { fault = no_fault ∙ still (row_taken n k r) looping; indexes = faults }) b.rows;
            shows = b.shows ∙ sym (take_run (machine_of p) k n (place_of (h.rows.there t r at).0) (shown p x));
          }
        where
          faults : (i : ℕ) (w : IndexRow) → slice_get (take_indexes n k r.loop.indexes) i ≡ Some w → w.fault ≡ shown_index_fault p r i w
          faults i w e = elim (got_taken k n r.loop.indexes i w e) [
            | inl was ↦ h.index_faults t r at i w was
            | inr now ↦
                (let one = can_untaken (book_of r) (index_phases r.loop.indexes) n k (kept.book p input l bodies direct ok x h.rows t r at loop looping) can i now.3 now.4 in
                let none = none_yet i now.0 now.1 S.Untaken (untaken_stand r.loop.indexes i now.0 one now.1) in
                subst (λ (z : IndexRow). z.fault ≡ shown_index_fault p r i z) (sym now.2) none)
          ]

      pub indexes : (i : ℕ) (v : IndexRow) → slice_get r.loop.indexes i ≡ Some v → v.stand ≡ S.Taken → (operation : Operation) → IsIndexDue p i operation v r x
          → Follows (E.Index t i operation)
      indexes i v got taken operation due =
          let b = kept.indexed p input l bodies direct ok x h.rows t r at loop looping i v got taken operation due in
          record {
            table = table_of (row_indexed i operation r) (store_after p operation x.store) refl is_begun (record { fault = no_fault ∙ still (row_indexed i operation r) looping; indexes = faults (b.fault (none_yet i v got S.Taken taken)) }) b.rows;
            shows = b.shows;
          }
        where
          faults : (index_after operation v).fault ≡ shown_index_fault p r i (index_after operation v)
              → (j : ℕ) (w : IndexRow) → slice_get (update i (index_after operation) r.loop.indexes) j ≡ Some w → w.fault ≡ shown_index_fault p r j w
          faults own j w e = elim (got_update i (index_after operation) r.loop.indexes j w v got e) [
            | inl now ↦ subst (λ (z : IndexRow). z.fault ≡ shown_index_fault p r j z) (sym now.1) (subst (λ (k : ℕ). (index_after operation v).fault ≡ shown_index_fault p r k (index_after operation v)) (sym now.0) own)
            | inr other ↦ h.index_faults t r at j w other.1
          ]

      pub finishes : r.loop.unretired ≡ 0 → Follows (E.Finish t)
      finishes none =
          let b = kept.finishes p input l bodies direct ok x h.rows t r at loop looping none in
          record {
            table = table_of (in_phase P.Finished r) x.store refl loop (record { fault = no_fault ∙ sym (loop_no_fault p r.call loop r.path r.answers (as_task p (in_phase P.Finished r)).done); indexes = h.index_faults t r at }) b.rows;
            shows = b.shows;
          }

    pub zeroed_now : r.phase ≡ P.Running → NothingIsNext p r → kept.IsZeroed p r
    zeroed_now = zeroed p input l bodies direct ok x h.rows t r at loop

    pub begins : r.phase ≡ P.Running → NothingIsNext p r → Follows (E.Begin t)
    begins running nothing =
        let done = zeroed p input l bodies direct ok x h.rows t r at loop running nothing in
        let b = kept.begins p input l bodies direct ok x h.rows t r at loop running done in
        record {
          table = table_of (row_begun r) x.store refl loop (record { fault = none_so running; indexes = λ i v e. fresh_fault i v e }) b.rows;
          shows = b.shows ∙ sym (kept.begins_by p input l bodies direct ok x h.rows t r at loop running done);
        }
      where
        none_so : r.phase ≡ P.Running → r.fault ≡ None
        none_so running = subst (λ (ph : Phase). r.fault ≡ shown_fault p (in_phase ph r)) running (h.faults t r at)

        fresh_fault : (i : ℕ) (v : IndexRow) → slice_get (replicate r.call.length untaken_index) i ≡ Some v → v.fault ≡ shown_index_fault p (row_begun r) i v
        fresh_fault i v e = subst (λ (z : IndexRow). z.fault ≡ shown_index_fault p (row_begun r) i z) (sym (fresh_is r.call.length i v e)) refl
