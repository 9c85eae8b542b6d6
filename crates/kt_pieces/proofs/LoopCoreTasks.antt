-- The task of a loop itself changed: it forks an index, its body ends, and it is finished.
use Rattle.std.proofs.Common.{◌≡◌, ℕ, suc, ◌<◌, Bool, cond, List, [], ◌∷◌, ◌++◌, length, sym, refl, ap, ◌∙◌, subst, inl, inr, arith, Option}
use mathlib.Core.Option.{none, some}
use lib.ListN.{get_elem?}
use Rattle.kt_order.specs.Body.{Fork, Stop}
use Rattle.kt_order.specs.Machine.{Machine, Code}
use Rattle.kt_order.specs.Laws.{Laws}
use Rattle.kt_order.specs.Lawful.{Lawful}
use Rattle.kt_order.specs.Forest.{Task, Running, Ended, Finished, fresh}
use Rattle.kt_order.specs.Rest.{standing, left}
use Rattle.kt_order.specs.Events as events
use Rattle.kt_order.specs.Events.{in_phase, forked, ended}
use Rattle.kt_order.specs.Paths.{set_at, bump, HasRoom, IsThere}
use Rattle.kt_order.specs.Named.{Named, named, count_of, forks_in}
use Rattle.kt_order.proofs.Squares.{count_kept, count_forked}
use Rattle.kt_order.proofs.Changes.{left_forked}
use Rattle.kt_order.proofs.ByPaths.{at_path, kept_finish, kept_end, kept_fork, forks_after_end, forks_after_fork}
use Rattle.kt_order.proofs.PathThere.{child_there, there_more, there_less, below_by}
use Rattle.kt_prog.specs.Script.{Fault}
use Rattle.kt_prog.specs.Reference.{Placed, machine_of, main_placed, opened_with}
use Rattle.kt_runs.specs.Rights.{rights_in}
use Rattle.kt_runs.specs.ByPath.{Path, child, levels}
use Rattle.kt_rule.specs.declared.views.Setup.{Setup}
use Rattle.kt_rule.specs.Paths.{parent_of, number_of, put}
use Rattle.kt_rule.specs.Lies.{IndexLie, Lie, Lies, index_of, index_in, task_of, get_of, core_of, counts_of, forks_of, IsHere, Cored}
use Rattle.kt_rule.proofs.Puts.{put_here, at_put, get_at, get_put, get_child, parent_is, number_is, same_self}
use Rattle.kt_pieces.proofs.Changed.{one_or}
use Rattle.kt_pieces.proofs.LoopCores.{TurnsIndex, still_there, parents_stay, index_stays, turned, index_get, has_on}

module _ (j : Setup) (l : Laws (machine_of j.program) (rights_in j.program)) (lies : Lies) (store : List ℕ) (c : Cored j lies store)
    (p : Path) (t : Lie) (is : lies p ≡ some t) where
  abbrev m : Machine
  m = machine_of j.program

  abbrev T : Type 0
  T = Task (machine_of j.program)

  abbrev root_store : List ℕ
  root_store = opened_with j.program.families j.input

  abbrev x0 : Named m
  x0 = core_of j lies store

  abbrev LawfulAt : (Path → Task (machine_of j.program)) → List ℕ → Type 0
  LawfulAt get s = Lawful m (rights_in j.program) main_placed root_store (named m levels (record { get = get; store = s }))

  abbrev kids : Task (machine_of j.program) → List Placed
  kids v = forks_in m (standing m v)

  got : get_of j lies p ≡ task_of j p t
  got = get_at j lies p t is

  here : IsHere j lies p
  here = c.there p t is

  -- its indexes are as they were
  module _ (u : Lie) (same_berth : u.berth ≡ t.berth) (same_indexes : u.indexes ≡ t.indexes) where
    pub task_becomes : (h : T → T) → task_of j p u ≡ h (task_of j p t)
        → get_of j (put lies p (some u)) ≡ set_at p (h (get_of j lies p)) (get_of j lies)
    task_becomes h e = get_put j lies p u (λ i. (λ k. index_of j p (same_berth k).call i (get_elem? (same_indexes k) i))
        ∙ sym (ap (index_in j p i) is)) ∙ ap (λ (z : T). set_at p z (get_of j lies)) (e ∙ ap h (sym got))

    pub task_turns : (h : T → T) (store' : List ℕ) → task_of j p u ≡ h (task_of j p t) → kids (h (get_of j lies p)) ≡ kids (get_of j lies p)
        → LawfulAt (set_at p (h (get_of j lies p)) (get_of j lies)) store' → Cored j (put lies p (some u)) store'
    task_turns h store' e same_kids lawful = turned j lies store c p t is u store'
        (ap (count_of m) (task_becomes h e) ∙ count_kept m (get_of j lies) p (h (get_of j lies p)) same_kids)
        (λ k w at. (w, ap (λ (z : List IndexLie). get_elem? z k) same_indexes ∙ at))
        (λ k w at. (w, ap (λ (z : List IndexLie). get_elem? z k) (sym same_indexes) ∙ at))
        (subst (λ (g : Path → T). LawfulAt g store') (sym (task_becomes h e)) lawful)

    -- a loop is finished behind its indexes
    pub loop_finishes : task_of j p u ≡ events.put m (in_phase m Finished) (task_of j p t) → (task_of j p t).phase ≡ Ended
        → ((k : ℕ) → k < counts_of j lies p → (get_of j lies (child p k)).phase ≡ Finished) → Cored j (put lies p (some u)) store
    loop_finishes e over children = task_turns (events.put m (in_phase m Finished)) store e refl
        (kept_finish m levels (rights_in j.program) l main_placed root_store p x0 here (ap (λ (z : T). z.phase) got ∙ over)
        (below_by m (λ v. v.phase ≡ Finished) levels p (get_of j lies) (counts_of j lies) children) c.lawful)

    -- the end of its body
    pub loop_ends : (f : Option Fault) → left m (task_of j p t) ≡ Stop f → (task_of j p t).phase ≡ Running
        → task_of j p u ≡ events.put m (ended m) (task_of j p t) → Cored j (put lies p (some u)) store
    loop_ends f next runs e =
        let next_there = ap (left m) got ∙ next in
        let runs_there = ap (λ (z : T). z.phase) got ∙ runs in
        task_turns (events.put m (ended m)) store e
        (forks_after_end m levels (rights_in j.program) l main_placed root_store f p x0 here runs_there next_there c.lawful)
        (kept_end m levels (rights_in j.program) l main_placed root_store f p x0 here runs_there next_there c.lawful)

  -- it forks the next index
  module _ (bare : (i : ℕ) → lies (child p i) ≡ none) (room : HasRoom levels p) (runs : (task_of j p t).phase ≡ Running)
      (k : ℕ) (counted : forks_of j (task_of j p t) ≡ k) (none_yet : get_elem? t.indexes k ≡ none)
      (b : Placed) (w : Code (machine_of j.program)) (next : left m (task_of j p t) ≡ Fork b w)
      (u : Lie) (y : IndexLie) (turn : TurnsIndex t u k y) (u_is : task_of j p u ≡ events.put m (forked m) (task_of j p t))
      (y_is : index_of j p t.berth.call k (some y) ≡ fresh m b) where
    runs_there : (get_of j lies p).phase ≡ Running
    runs_there = ap (λ (z : T). z.phase) got ∙ runs

    fork_there : left m (get_of j lies p) ≡ Fork b w
    fork_there = ap (left m) got ∙ next

    abbrev n : ℕ
    n = counts_of j lies p

    abbrev lies' : Lies
    lies' = put lies p (some u)

    number : n ≡ k
    number = ap (forks_of j) got ∙ counted

    absent : kids (get_of j lies (p ++ n ∷ [])) ≡ []
    absent = ap (λ (i : ℕ). kids (get_of j lies (child p i))) number
        ∙ ap kids (get_child j lies p k (bare k) ∙ (ap (index_in j p k) is ∙ ap (index_of j p t.berth.call k) none_yet))

    more : length (kids (events.put m (forked m) (get_of j lies p))) ≡ suc n
    more = forks_after_fork m levels (rights_in j.program) l main_placed root_store b w p x0 here runs_there fork_there c.lawful

    pub fork_forks : forks_of j (task_of j p u) ≡ suc k
    fork_forks = ap (forks_of j) (u_is ∙ ap (events.put m (forked m)) (sym got)) ∙ (more ∙ ap suc number)

    pub fork_left : left m (task_of j p u) ≡ w
    fork_left = ap (left m) (u_is ∙ ap (events.put m (forked m)) (sym got)) ∙
        at_path m levels (rights_in j.program) l main_placed root_store (left m (events.put m (forked m) (get_of j lies p)) ≡ w) p x0
        here c.lawful (λ below ok. left_forked m (rights_in j.program) l b w (get_of j lies p) below runs_there fork_there ok)

    pub fork_get : get_of j lies' ≡ set_at (child p n) (fresh m b) (set_at p (events.put m (forked m) (get_of j lies p)) (get_of j lies))
    fork_get = index_get j lies store c p t is u bare k y turn ∙ (λ h. set_at (child p (sym number h)) (y_is h)
        (set_at p ((u_is ∙ ap (events.put m (forked m)) (sym got)) h) (get_of j lies)))

    counts2 : counts_of j lies' ≡ bump p (counts_of j lies)
    counts2 = ap (count_of m) fork_get
        ∙ count_forked m (get_of j lies) p n (events.put m (forked m) (get_of j lies p)) (fresh m b) more refl absent

    abbrev MoreThere : Path → Type 0
    MoreThere q = IsThere levels (bump p (counts_of j lies)) q

    was_there : (q : Path) → IsHere j lies q → MoreThere q
    was_there q h = there_more levels (counts_of j lies) p q h

    bump_here : bump p (counts_of j lies) p ≡ suc n
    bump_here = ap (λ (a : Bool). cond a (suc n) n) (same_self p)

    new_there : MoreThere (child p k)
    new_there = child_there levels (bump p (counts_of j lies)) p k (was_there p here) (let a = bump_here in let e = number in omega arith) room

    index_now : (i : ℕ) (x : IndexLie) → get_elem? u.indexes i ≡ some x → MoreThere (child p i)
    index_now i x at = elim (one_or i k) [
      | inl e ↦ subst (λ (z : ℕ). MoreThere (child p z)) (sym e) new_there
      | inr ne ↦ was_there (child p i) (c.index_there p t i x is (sym (turn.others i ne) ∙ at))
    ]

    known_now : (q : Path) → q ≡ child p n → (z : Lie) × (x : IndexLie) × (lies' (parent_of q) ≡ some z) × (get_elem? z.indexes (number_of q) ≡ some x)
    known_now q e = (
      u,
      y,
      ap (λ (z : Path). lies' (parent_of z)) e ∙ (ap lies' (parent_is p n) ∙ put_here lies p (some u)),
      ap (get_elem? u.indexes) (ap number_of e ∙ (number_is p n ∙ number)) ∙ turn.here,
    )

    pub loop_forks : Cored j lies' store
    loop_forks = record {
      lawful = subst (λ (g : Path → T). LawfulAt g store) (sym fork_get)
          (kept_fork m levels (rights_in j.program) l main_placed root_store b w p x0 here room absent runs_there fork_there c.lawful);
      there = λ q z d. subst (λ (i : Path → ℕ). IsThere levels i q) (sym counts2) (was_there q
          (elim (at_put lies p q u z d) [ inl g ↦ c.there q t (ap lies (sym g.0) ∙ is) | inr g ↦ c.there q z g.1 ]));
      parents = parents_stay j lies store c p t is u;
      index_there = λ q z i x d at. subst (λ (a : Path → ℕ). IsThere levels a (child q i)) (sym counts2)
          (elim (at_put lies p q u z d) [
            | inl g ↦ subst (λ (r : Path). MoreThere (child r i)) g.0 (index_now i x (ap (λ (z : Lie). get_elem? z.indexes i) g.1 ∙ at))
            | inr g ↦ was_there (child q i) (c.index_there q z i x g.1 at)
          ]);
      all = λ q d. elim (there_less levels (counts_of j lies) p q (ap length absent) (subst (λ (a : Path → ℕ). IsThere levels a q) counts2 d)) [
        | inl h ↦ elim (c.all q h) [
          | inl old ↦ inl (still_there j lies store c p t is u q old)
          | inr (z, x, z_is, at) ↦ inr (index_stays j lies store c p t is u (has_on j lies store c p t is u bare k y turn) q z x z_is at)
        ]
        | inr h ↦ inr (known_now q h)
      ];
    }
