-- A loop that has begun has as many children as indexes; and it is finished behind them.
use Rattle.std.proofs.Common.{◌≡◌, ℕ, zero, suc, ◌<◌, List, [], ◌∷◌, length, sym, refl, ap, ◌∙◌, arith}
use mathlib.Core.Option.{none, some, some-ne-none}
use lib.ListN.{get_elem?}
use Rattle.kt_order.specs.Machine.{Machine}
use Rattle.kt_order.specs.Laws.{Laws}
use Rattle.kt_order.specs.Forest.{Task, Ended, Finished}
use Rattle.kt_order.specs.Events as events
use Rattle.kt_order.specs.Events.{in_phase}
use Rattle.kt_order.specs.Paths.{HasRoom}
use Rattle.kt_order.proofs.PathThere.{there_child, child_there}
use Rattle.kt_prog.specs.Reference.{machine_of}
use Rattle.kt_runs.specs.Rights.{rights_in}
use Rattle.kt_runs.specs.ByPath.{Path, child, levels, after_finish}
use Rattle.kt_rule.specs.declared.views.Setup.{Setup}
use Rattle.kt_rule.specs.Paths.{put}
use Rattle.kt_rule.specs.Lies.{IndexLie, Lie, Lies, phase_of, task_of, get_of, core_of, counts_of, forks_of, Cored}
use Rattle.kt_rule.proofs.Puts.{get_at}
use Rattle.kt_pieces.specs.LoopMoves.{CanFinishLoop}
use Rattle.kt_pieces.proofs.Indexes.{there_at}
use Rattle.kt_pieces.proofs.LoopCores.{index_got}
use Rattle.kt_pieces.proofs.LoopCoreIndexes.{index_here, index_known}
use Rattle.kt_pieces.proofs.LoopCoreTasks.{task_becomes, loop_finishes}

at_below : {A : Type 0} (xs : List A) (i : ℕ) (x : A) → get_elem? xs i ≡ some x → i < length xs
at_below [] i x e = absurd (some-ne-none x (sym e))
at_below (y ∷ xs) zero x e = omega arith
at_below (y ∷ xs) (suc i) x e = let h = at_below xs i x e in omega arith

-- numbers with the same ones below them
same_below : (a b : ℕ) → ((i : ℕ) → i < a → i < b) → ((i : ℕ) → i < b → i < a) → a ≡ b
same_below zero zero f g = refl
same_below zero (suc b) f g = absurd (let h = g 0 (omega arith) in omega arith)
same_below (suc a) zero f g = absurd (let h = f 0 (omega arith) in omega arith)
same_below (suc a) (suc b) f g = let h = f a (omega arith) in let k = g b (omega arith) in omega arith

module _ (j : Setup) (l : Laws (machine_of j.program) (rights_in j.program)) (lies : Lies) (store : List ℕ) (c : Cored j lies store)
    (p : Path) (t : Lie) (is : lies p ≡ some t) (bare : (i : ℕ) → lies (child p i) ≡ none) (room : HasRoom levels p) where
  abbrev m : Machine
  m = machine_of j.program

  abbrev T : Type 0
  T = Task (machine_of j.program)

  pub child_index : (i : ℕ) → i < counts_of j lies p → (x : IndexLie) × (get_elem? t.indexes i ≡ some x)
  child_index i less = index_known j l lies store c p t is bare i (child_there levels (counts_of j lies) p i (c.there p t is) less room)

  pub index_child : (i : ℕ) (x : IndexLie) → get_elem? t.indexes i ≡ some x → i < counts_of j lies p
  index_child i x at = (there_child levels (counts_of j lies) p i (index_here j l lies store c p t is bare i x at)).1

  pub children_counted : counts_of j lies p ≡ length t.indexes
  children_counted = same_below (counts_of j lies p) (length t.indexes)
      (λ i less. let x = child_index i less in at_below t.indexes i x.0 x.1)
      (λ i less. let x = there_at t.indexes i less in index_child i x.0 x.1)

  pub loop_forks_are : forks_of j (task_of j p t) ≡ length t.indexes
  loop_forks_are = ap (forks_of j) (sym (get_at j lies p t is)) ∙ children_counted

  -- each of its indexes is finished
  module _ (over : phase_of t.stage ≡ Ended) (all : (i : ℕ) (x : IndexLie) → get_elem? t.indexes i ≡ some x → x.phase ≡ Finished) where
    pub all_finished : (i : ℕ) → i < counts_of j lies p → (get_of j lies (child p i)).phase ≡ Finished
    all_finished i less =
        let x = child_index i less in
        ap (λ (z : T). z.phase) (index_got j lies store c p t is t bare i x.0 x.1) ∙ all i x.0 x.1

    pub record LoopFinished (lies' : Lies) : Type 0 where
      pub core : Cored j lies' store
      pub after : core_of j lies' store ≡ after_finish j.program p (core_of j lies store)
      pub enabled : CanFinishLoop j.program p (core_of j lies store)

    pub finishes : (u : Lie) → u.berth ≡ t.berth → u.indexes ≡ t.indexes → task_of j p u ≡ events.put m (in_phase m Finished) (task_of j p t)
        → LoopFinished (put lies p (some u))
    finishes u same_berth same_indexes e = record {
      core = loop_finishes j l lies store c p t is u same_berth same_indexes e over all_finished;
      after = λ h. record { get = task_becomes j l lies store c p t is u same_berth same_indexes (events.put m (in_phase m Finished)) e h; store = store };
      enabled = (c.there p t is, ap (λ (z : T). z.phase) (get_at j lies p t is) ∙ over, all_finished);
    }
