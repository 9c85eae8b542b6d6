-- Indexes of a loop end, one after another, and each is finished at once.
use Rattle.std.proofs.Common.{◌≡◌, ℕ, suc, ◌+◌, List, [], ◌∷◌, map, sym, refl, ap, ◌∙◌, subst, inl, inr, arith}
use mathlib.Core.Option.{none, some}
use lib.ListN.{get_elem?}
use Rattle.kt_law.specs.Acts.{Act}
use Rattle.kt_order.specs.Lists.{AllOf, SomeOf}
use Rattle.kt_order.specs.Body.{Do}
use Rattle.kt_order.specs.Machine.{Machine, Code}
use Rattle.kt_order.specs.Laws.{Laws}
use Rattle.kt_order.specs.Forest.{Task, Running, Finished}
use Rattle.kt_order.specs.Rest.{left}
use Rattle.kt_order.specs.Events as events
use Rattle.kt_order.specs.Events.{in_phase, did, ended}
use Rattle.kt_order.specs.Paths.{set_at}
use Rattle.kt_prog.specs.Laws.{BodiesKeep}
use Rattle.kt_prog.specs.Accepted.{IsAccepted}
use Rattle.kt_prog.specs.Reference.{machine_of}
use Rattle.kt_runs.specs.Rights.{rights_in}
use Rattle.kt_runs.specs.ByPath.{Path, child, IsTask, ActsNext, EndsNext, after_act, NoTwice}
use Rattle.kt_rule.specs.declared.views.Setup.{Setup}
use Rattle.kt_rule.specs.declared.views.IndexRun.{IndexRun}
use Rattle.kt_rule.specs.Paths.{put}
use Rattle.kt_rule.specs.Lies.{IndexLie, Lie, Lies, index_of, task_of, get_of, core_of, counts_of, forks_of, Cored}
use Rattle.kt_rule.proofs.Puts.{put_here}
use Rattle.kt_rule.proofs.Cores.{stays, set_self, set_here, set_twice}
use Rattle.kt_pieces.specs.Changes.{change_index, ends_now, end_indexes}
use Rattle.kt_pieces.specs.LoopMoves.{after_index_ends, after_retiring, CanRetireIndexes}
use Rattle.kt_pieces.proofs.Indexes.{change_at, change_else}
use Rattle.kt_pieces.proofs.LoopCores.{put_twice, TurnsIndex, bare_still, becomes, index_got}
use Rattle.kt_pieces.proofs.LoopCoreIndexes.{index_here, index_fits, index_does, index_ends}
use Rattle.kt_pieces.proofs.LoopCoreTasks.{task_becomes}
use Rattle.kt_pieces.proofs.LoopCoreLeaves.{index_leaf}
use Rattle.kt_pieces.proofs.LoopCoreTakes.{SameTask, same_task}

abbrev pub index_number : IndexRun → ℕ
index_number e = e.index

abbrev pub end_numbers : List ℕ → List IndexLie → List IndexLie
end_numbers [] xs = xs
end_numbers (i ∷ is) xs = end_numbers is (change_index i ends_now xs)

pub ends_by_number : (es : List IndexRun) (xs : List IndexLie) → end_indexes es xs ≡ end_numbers (map index_number es) xs
ends_by_number [] xs = refl
ends_by_number (e ∷ es) xs = ends_by_number es (change_index e.index ends_now xs)

module _ (j : Setup) (p : Path) where
  -- an index that is under way and has come to its end
  abbrev pub CanEnd : Lie → List IndexLie → ℕ → Type 0
  CanEnd t xs i = (x : IndexLie) × (get_elem? xs i ≡ some x) × (x.phase ≡ Running) × EndsNext j.program (index_of j p t.berth.call i (some x))

  others_can : (t : Lie) (xs : List IndexLie) (i : ℕ) (is : List ℕ) → (SomeOf (λ k. i ≡ k) is → ⊥) → AllOf (CanEnd t xs) is
      → AllOf (CanEnd t (change_index i ends_now xs)) is
  others_can t xs i [] other all = tt
  others_can t xs i (k ∷ is) other all =
      let y = all.0 in
      ((y.0, change_else ends_now i k xs (λ e. other (inl (sym e))) ∙ y.1, y.2, y.3), others_can t xs i is (λ h. other (inr h)) all.1)

  module _ (l : Laws (machine_of j.program) (rights_in j.program)) (store : List ℕ) where
    abbrev m : Machine
    m = machine_of j.program

    abbrev T : Type 0
    T = Task (machine_of j.program)

    -- the next operation of an index
    module _ (i : ℕ) (lies : Lies) (c : Cored j lies store) (t : Lie) (is : lies p ≡ some t) (bare : (i : ℕ) → lies (child p i) ≡ none)
        (x : IndexLie) (at : get_elem? t.indexes i ≡ some x) (runs : x.phase ≡ Running) where
      abbrev q : Path
      q = child p i

      got : get_of j lies q ≡ index_of j p t.berth.call i (some x)
      got = index_got j lies store c p t is t bare i x at

      module _ (u : Lie) (y : IndexLie) (turn : TurnsIndex t u i y) (same : task_of j p u ≡ task_of j p t) where
        pub record Acted (d : Act) : Type 0 where
          pub core : Cored j (put lies p (some u)) (m.after d store)
          pub after : core_of j (put lies p (some u)) (m.after d store) ≡ after_act j.program d q (core_of j lies store)
          pub enabled : IsTask j.program (core_of j lies store) q × ((get_of j lies q).phase ≡ Running) × ActsNext j.program d (get_of j lies q)

        pub acts : (d : Act) (k : ℕ → Code (machine_of j.program)) → left m (index_of j p t.berth.call i (some x)) ≡ Do d k
            → index_of j p t.berth.call i (some y) ≡ events.put m (did m d (m.answer d store)) (index_of j p t.berth.call i (some x))
            → Acted d
        acts d k next e = record {
          core = index_does j l lies store c p t is bare i x at runs d k next u y (turn, same) e;
          after = λ h. record {
            get = becomes j lies store c p t is u bare i y turn x at same (events.put m (did m d (m.answer d store))) e h;
            store = m.after d store;
          };
          enabled = (index_here j l lies store c p t is bare i x at, ap (λ (z : T). z.phase) got ∙ runs, (k, ap (left m) got ∙ next));
        }

        abbrev both : T → T
        both v = events.put m (in_phase m Finished) (events.put m (ended m) v)

        pub record Ended : Type 0 where
          pub core : Cored j (put lies p (some u)) store
          pub after : core_of j (put lies p (some u)) store ≡ after_index_ends j.program q (core_of j lies store)
          pub enabled : IsTask j.program (core_of j lies store) q × ((get_of j lies q).phase ≡ Running) × EndsNext j.program (get_of j lies q)
              × (counts_of j lies q ≡ 0)

        pub ends : BodiesKeep → IsAccepted j.program → EndsNext j.program (index_of j p t.berth.call i (some x))
            → index_of j p t.berth.call i (some y) ≡ both (index_of j p t.berth.call i (some x)) → Ended
        ends bodies ok next e = record {
          core = index_ends j l lies store c p t is bare i x at runs next.0 next.1 leaf u y (turn, same) e;
          after = λ h. record { get = (becomes j lies store c p t is u bare i y turn x at same both e ∙ sym twice) h; store = store };
          enabled = (
            index_here j l lies store c p t is bare i x at,
            ap (λ (z : T). z.phase) got ∙ runs,
            (next.0, ap (left m) got ∙ next.1),
            ap (forks_of j) got ∙ leaf,
          );
        }
          where
            leaf : forks_of j (index_of j p t.berth.call i (some x)) ≡ 0
            leaf = index_leaf j bodies ok p t.berth.call i (index_fits j l lies store c p t is bare i x at) x

            over : T
            over = events.put m (ended m) (get_of j lies q)

            twice : set_at q (events.put m (in_phase m Finished) (set_at q (events.put m (ended m) (get_of j lies q)) (get_of j lies) q))
                (set_at q (events.put m (ended m) (get_of j lies q)) (get_of j lies)) ≡ set_at q (both (get_of j lies q)) (get_of j lies)
            twice = ap (λ (z : T). set_at q (events.put m (in_phase m Finished) z)
                (set_at q (events.put m (ended m) (get_of j lies q)) (get_of j lies)))
                (set_here q (events.put m (ended m) (get_of j lies q)) (events.put m (ended m) (get_of j lies q)) (get_of j lies))
                ∙ set_twice q (events.put m (ended m) (get_of j lies q)) (both (get_of j lies q)) (get_of j lies)

    -- the core is that of the changed lies, and each event was enabled
    pub record Retired (numbers : List ℕ) (lies lies' : Lies) : Type 0 where
      pub core : Cored j lies' store
      pub after : core_of j lies' store ≡ after_retiring j.program numbers p (core_of j lies store)
      pub enabled : CanRetireIndexes j.program numbers p (core_of j lies store)

    module _ (bodies : BodiesKeep) (ok : IsAccepted j.program) where
      module _ (i : ℕ) (numbers : List ℕ) (lies : Lies) (c : Cored j lies store) (t : Lie) (is : lies p ≡ some t)
          (bare : (i : ℕ) → lies (child p i) ≡ none) (x : IndexLie) (at : get_elem? t.indexes i ≡ some x) (runs : x.phase ≡ Running)
          (next : EndsNext j.program (index_of j p t.berth.call i (some x))) where
        abbrev t1 : Lie
        t1 = record t { indexes = change_index i ends_now t.indexes }

        abbrev lies1 : Lies
        lies1 = put lies p (some t1)

        turn1 : TurnsIndex t t1 i (ends_now x)
        turn1 = record {
          berth = refl;
          here = change_at ends_now i x t.indexes at;
          others = λ k ne. change_else ends_now i k t.indexes ne;
        }

        first : Ended i lies c t is bare x at runs t1 (ends_now x) turn1 refl
        first = ends i lies c t is bare x at runs t1 (ends_now x) turn1 refl bodies ok next
            (let more : x.count + 1 ≡ suc x.count = omega arith in λ h. record {
              call = (index_of j p t.berth.call i (some x)).call;
              phase = Finished;
              answers = x.answers;
              done = more h;
            })

        bare1 : (k : ℕ) → lies1 (child p k) ≡ none
        bare1 = bare_still j lies store c p t is t1 bare

        joined : (u : Lie) → Retired numbers lies1 (put lies1 p (some u)) → Retired (i ∷ numbers) lies (put lies p (some u))
        joined u rest =
            let twice : put lies1 p (some u) ≡ put lies p (some u) = put_twice lies p (some t1) (some u) in
            record {
              core = subst (λ (z : Lies). Cored j z store) twice rest.core;
              after = ap (λ (z : Lies). core_of j z store) (sym twice) ∙ (rest.after ∙ ap (after_retiring j.program numbers p) first.after);
              enabled = (
                first.enabled.0,
                first.enabled.1,
                first.enabled.2,
                first.enabled.3,
                subst (CanRetireIndexes j.program numbers p) first.after rest.enabled,
              );
            }

      pub retires : (numbers : List ℕ) (lies : Lies) → Cored j lies store → (t : Lie) → lies p ≡ some t → ((k : ℕ) → lies (child p k) ≡ none)
          → NoTwice numbers → AllOf (CanEnd t t.indexes) numbers → (u : Lie) → SameTask t u → u.indexes ≡ end_numbers numbers t.indexes
          → Retired numbers lies (put lies p (some u))
      retires [] lies c t is bare once all u same indexes = record {
        core = stays j l lies store c p t is u same.berth indexes (same_task j p t u same);
        after = λ h. record {
          get = (task_becomes j l lies store c p t is u same.berth indexes (λ z. z) (same_task j p t u same) ∙ set_self p (get_of j lies)) h;
          store = store;
        };
        enabled = tt;
      }
      retires (i ∷ numbers) lies c t is bare once all u same indexes =
          let y = all.0 in
          joined i numbers lies c t is bare y.0 y.1 y.2 y.3 u
          (retires numbers (lies1 i numbers lies c t is bare y.0 y.1 y.2 y.3) (first i numbers lies c t is bare y.0 y.1 y.2 y.3).core
          (t1 i numbers lies c t is bare y.0 y.1 y.2 y.3) (put_here lies p (some (t1 i numbers lies c t is bare y.0 y.1 y.2 y.3)))
          (bare1 i numbers lies c t is bare y.0 y.1 y.2 y.3) once.1 (others_can t t.indexes i numbers once.0 all.1) u
          (record { berth = same.berth; phase = same.phase; answers = same.answers; count = same.count }) indexes)
