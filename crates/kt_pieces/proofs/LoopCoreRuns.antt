-- The indexes that a seat has in hand: their acts and their ends, said by what the seat knows of them.
use Rattle.std.proofs.Common.{◌≡◌, ℕ, suc, ◌+◌, ◌<◌, List, [], ◌∷◌, ◌++◌, map, sym, ap, ◌∙◌, inl, inr, arith}
use mathlib.Core.Option.{none, some, some-injective}
use lib.ListN.{get_elem?}
use Rattle.kt_law.specs.Acts.{Act}
use Rattle.kt_order.specs.Lists.{AllOf, SomeOf}
use Rattle.kt_order.specs.Body.{Do, Fork}
use Rattle.kt_order.specs.Machine.{Machine, Code}
use Rattle.kt_order.specs.Sequential.{keeps}
use Rattle.kt_order.specs.Laws.{Laws}
use Rattle.kt_order.specs.Forest.{Task, Running}
use Rattle.kt_order.specs.Rest.{left}
use Rattle.kt_prog.specs.Calls.{Index}
use Rattle.kt_prog.specs.Laws.{BodiesKeep}
use Rattle.kt_prog.specs.Accepted.{IsAccepted}
use Rattle.kt_prog.specs.Store.{place_of}
use Rattle.kt_prog.specs.Reference.{Placed, machine_of}
use Rattle.kt_runs.specs.Rights.{rights_in}
use Rattle.kt_runs.specs.ByPath.{Path, child, EndsNext, NoTwice}
use Rattle.kt_rule.specs.declared.views.Setup.{Setup}
use Rattle.kt_rule.specs.declared.views.Berth.{Berth}
use Rattle.kt_rule.specs.declared.views.IndexRun.{IndexRun}
use Rattle.kt_rule.specs.Paths.{put}
use Rattle.kt_rule.specs.Lists.{In, here, there}
use Rattle.kt_rule.specs.Lies.{IndexLie, Lie, Lies, index_of, Cored}
use Rattle.kt_rule.specs.Facts.{index_task}
use Rattle.kt_rule.specs.LoopFacts.{IsIndex}
use Rattle.kt_rule.specs.Records.{layout_of}
use Rattle.kt_pieces.specs.Changes.{change_index, hears, end_indexes}
use Rattle.kt_pieces.proofs.Indexes.{change_at, change_else}
use Rattle.kt_pieces.proofs.Ended.{one_here, index_some, Hold, hold_next}
use Rattle.kt_pieces.proofs.LoopCores.{TurnsIndex}
use Rattle.kt_pieces.proofs.LoopCoreIndexes.{index_fits}
use Rattle.kt_pieces.proofs.LoopCoreLeaves.{index_no_fork, index_inside}
use Rattle.kt_pieces.proofs.LoopCoreTakes.{SameTask, same_task}
use Rattle.kt_pieces.proofs.LoopCoreRetires.{index_number, ends_by_number, CanEnd, Acted, acts, Retired, retires}

pub turns_by : (t u : Lie) (i : ℕ) (f : IndexLie → IndexLie) (x : IndexLie) → SameTask t u → u.indexes ≡ change_index i f t.indexes
    → get_elem? t.indexes i ≡ some x → TurnsIndex t u i (f x)
turns_by t u i f x same indexes at = record {
  berth = same.berth;
  here = ap (λ (z : List IndexLie). get_elem? z i) indexes ∙ change_at f i x t.indexes at;
  others = λ k ne. ap (λ (z : List IndexLie). get_elem? z k) indexes ∙ change_else f i k t.indexes ne;
}

-- no index is in hand twice
numbers_once : (p : Path) (xs : List IndexLie) (es : List IndexRun) → Hold p xs es → NoTwice (map index_number es)
numbers_once p xs [] k = tt
numbers_once p xs (e ∷ es) k = (
  (λ h. let d = named es h in
      let a = k.once d.0.index in
      let b = one_here p d.0.index e (k.path e here) (sym d.2) in
      let c = index_some p es d.0 d.1 (k.path d.0 (there d.1)) in
      absurd (omega (arith, a, b, c))),
  numbers_once p (change_index e.index _ xs) es (hold_next p xs e es k),
)
  where
    named : (ds : List IndexRun) → SomeOf (λ i. e.index ≡ i) (map index_number ds) → (d : IndexRun) × In d ds × (e.index ≡ d.index)
    named [] h = absurd h
    named (d ∷ ds) (inl same) = (d, here, same)
    named (d ∷ ds) (inr h) = let r = named ds h in (r.0, there r.1, r.2)

module _ (j : Setup) (l : Laws (machine_of j.program) (rights_in j.program)) (lies : Lies) (store : List ℕ) (c : Cored j lies store)
    (p : Path) (t : Lie) (is : lies p ≡ some t) (bare : (i : ℕ) → lies (child p i) ≡ none) where
  abbrev m : Machine
  m = machine_of j.program

  abbrev T : Type 0
  T = Task (machine_of j.program)

  module _ (e : IndexRun) (path : e.spot.path ≡ p) (q : IsIndex lies Running e) where
    task_is : q.task ≡ t
    task_is = some-injective q.task t (sym q.is ∙ (ap lies path ∙ is))

    pub run_at : get_elem? t.indexes e.index ≡ some q.index
    run_at = ap (λ (z : Lie). get_elem? z.indexes e.index) (sym task_is) ∙ q.at

    -- the theory's task is as the seat knows it
    pub run_is : index_of j p t.berth.call e.index (some q.index) ≡ index_task j e
    run_is =
        let call = ap (λ (z : Lie). z.berth.call) (sym task_is) ∙ ap (λ (z : Berth). z.call) q.berth in
        λ k. record {
          call = record { path = map suc (sym path k); job = Index (call k) e.index };
          phase = q.phase_is k;
          answers = q.answers k;
          done = q.count k;
        }

    -- the element of its next act is there
    pub run_inside : BodiesKeep → IsAccepted j.program → (d : Act) (k : ℕ → Code (machine_of j.program)) → left m (index_task j e) ≡ Do d k
        → place_of j.program.families d < (layout_of j).elements
    run_inside bodies ok d k next = index_inside j bodies ok p t.berth.call e.index (index_fits j l lies store c p t is bare e.index q.index run_at)
        q.index d k (ap (left m) run_is ∙ next)

    pub run_no_fork : BodiesKeep → IsAccepted j.program → (b : Placed) (w : Code (machine_of j.program)) → left m (index_task j e) ≡ Fork b w → ⊥
    run_no_fork bodies ok b w next = index_no_fork j bodies ok p t.berth.call e.index (index_fits j l lies store c p t is bare e.index q.index run_at)
        q.index b w (ap (left m) run_is ∙ next)

    -- its next act
    module _ (u : Lie) (found : List ℕ) (same : SameTask t u) (indexes : u.indexes ≡ change_index e.index (hears found) t.indexes) where
      pub run_turn : TurnsIndex t u e.index (hears found q.index)
      run_turn = turns_by t u e.index (hears found) q.index same indexes run_at

      pub run_acts : (d : Act) (k : ℕ → Code (machine_of j.program)) → left m (index_task j e) ≡ Do d k → found ≡ keeps m d (m.answer d store)
          → Acted j p l store e.index lies c t is bare q.index run_at q.phase_is u (hears found q.index) run_turn (same_task j p t u same) d
      run_acts d k next found_is =
          acts j p l store e.index lies c t is bare q.index run_at q.phase_is u (hears found q.index) run_turn (same_task j p t u same) d k
          (ap (left m) run_is ∙ next)
          (let more : q.index.count + 1 ≡ suc q.index.count = omega arith in λ h. record {
            call = (index_of j p t.berth.call e.index (some q.index)).call;
            phase = q.index.phase;
            answers = q.index.answers ++ found_is h;
            done = more h;
          })

  -- those that a seat retires are each at its end
  all_can : (es : List IndexRun) → ((e : IndexRun) → In e es → (e.spot.path ≡ p) × IsIndex lies Running e × EndsNext j.program (index_task j e))
      → AllOf (CanEnd j p t t.indexes) (map index_number es)
  all_can [] all = tt
  all_can (e ∷ es) all =
      let h = all e here in
      ((h.1.index, run_at e h.0 h.1, h.1.phase_is, (h.2.0, ap (left m) (run_is e h.0 h.1) ∙ h.2.1)), all_can es (λ d i. all d (there i)))

  pub run_retires : BodiesKeep → IsAccepted j.program → (es : List IndexRun) → Hold p t.indexes es
      → ((e : IndexRun) → In e es → (e.spot.path ≡ p) × IsIndex lies Running e × EndsNext j.program (index_task j e))
      → (u : Lie) → SameTask t u → u.indexes ≡ end_indexes es t.indexes
      → Retired j p l store (map index_number es) lies (put lies p (some u))
  run_retires bodies ok es hold all u same indexes =
      retires j p l store bodies ok (map index_number es) lies c t is bare (numbers_once p t.indexes es hold) (all_can es all) u same
      (indexes ∙ ends_by_number es t.indexes)
