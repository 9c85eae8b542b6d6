-- Each kind of event on where the tasks lie: the laws of the theory, said of lies. Nothing above this file names a tree
-- or what is left of a run.
use Rattle.std.proofs.Common.{◌≡◌, ◌≢◌, ℕ, suc, ◌<◌, ◌⊎◌, Bool, true, false, cond, List, [], ◌∷◌, ◌++◌, length, sym, refl, ap, ◌∙◌, subst, inl, inr, arith, Option}
use mathlib.Core.Option as o
use mathlib.Core.Option.{none, some, some-injective, some-ne-none}
use lib.ListN.{get_elem?}
use mathlib.Core.Path.{fun_ext}
use Rattle.kt_law.specs.Acts.{Act}
use Rattle.kt_order.specs.Body.{Do, Fork, Stop}
use Rattle.kt_order.specs.Machine.{Machine, Code}
use Rattle.kt_order.specs.Laws.{Laws}
use Rattle.kt_order.specs.Forest.{Task, Unclaimed, Running, Finished, fresh}
use Rattle.kt_order.specs.Rest.{standing, left}
use Rattle.kt_order.specs.Events as events
use Rattle.kt_order.specs.Events.{in_phase, did, forked, ended, MayPass}
use Rattle.kt_order.specs.Lawful.{Lawful}
use Rattle.kt_order.specs.Paths.{same_path, set_at, bump, HasRoom, IsThere, Earlier}
use Rattle.kt_order.specs.Named.{Named, named, count_of, forks_in}
use Rattle.kt_order.proofs.Squares.{count_kept, count_forked}
use Rattle.kt_order.proofs.Changes.{left_forked}
use Rattle.kt_order.proofs.ByPaths.{at_path, kept_claim, kept_finish, kept_end, kept_do, kept_fork, forks_after_end, forks_after_do, forks_after_fork}
use Rattle.kt_order.proofs.PathThere.{there_child, child_there, there_more, there_less, below_by}
use Rattle.kt_prog.specs.Script.{Fault}
use Rattle.kt_prog.specs.Reference.{Placed, machine_of, main_placed, opened_with}
use Rattle.kt_runs.specs.Rights.{rights_in}
use Rattle.kt_runs.specs.ByPath.{Path, child, levels}
use Rattle.kt_rule.specs.declared.views.Setup.{Setup}
use Rattle.kt_rule.specs.Paths.{parent_of, number_of, put}
use Rattle.kt_rule.specs.Lies.{IndexLie, Lie, Lies, phase_of, index_of, index_in, task_of, get_of, core_of, counts_of, forks_of, IsHere, Cored}
use Rattle.kt_rule.proofs.Puts.{put_here, put_else, put_cases, at_put, no_index, get_put, get_at, get_child, parent_is, same_self, same_is, same_not}

pub child_one : (p q : Path) (k l : ℕ) → child p k ≡ child q l → (p ≡ q) × (k ≡ l)
child_one [] [] k l e = (refl, cc)
child_one [] (y ∷ []) k l e = cc
child_one [] (y ∷ z ∷ q) k l e = cc
child_one (x ∷ []) [] k l e = cc
child_one (x ∷ z ∷ p) [] k l e = cc
child_one (x ∷ p) (y ∷ q) k l e = let t : child p k ≡ child q l = cc in let h : x ≡ y = cc in let r = child_one p q k l t in
    ((λ i. h i ∷ r.0 i), r.1)

pub not_child : (p : Path) (k : ℕ) → p ≢ child p k
not_child [] k e = cc
not_child (x ∷ p) k e = let t : p ≡ child p k = cc in not_child p k t

-- a path is empty or a child's
pub last_of : (p : Path) → (p ≡ []) ⊎ ((q : Path) × (k : ℕ) × (p ≡ child q k))
last_of [] = inl refl
last_of (x ∷ []) = inr ([], x, refl)
last_of (x ∷ y ∷ p) = elim (last_of (y ∷ p)) [
  | inl e ↦ absurd (let z : y ∷ p ≡ [] = e in cc)
  | inr h ↦ inr
      (x ∷ h.0, h.1, ap (λ (z : Path). x ∷ z) h.2)
]

module _ {A : Type 0} (p : Path) (x y : A) (f : Path → A) where
  pub set_twice : set_at p y (set_at p x f) ≡ set_at p y f
  set_twice = fun_ext (λ q. go q (same_path q p))
    where
      go : (q : Path) (b : Bool) → cond b y (cond b x (f q)) ≡ cond b y (f q)
      go q true = refl
      go q false = refl

  pub set_here : set_at p x f p ≡ x
  set_here = ap (λ (b : Bool). cond b x (f p)) (same_self p)

  set_else : (q : Path) → q ≢ p → set_at p x f q ≡ f q
  set_else q n = ap (λ (b : Bool). cond b x (f q)) (same_not q p n)

pub set_self : {A : Type 0} (p : Path) (f : Path → A) → set_at p (f p) f ≡ f
set_self p f = fun_ext (λ q. go q (same_path q p) refl)
  where
    go : (q : Path) (b : Bool) → same_path q p ≡ b → cond b (f p) (f q) ≡ f q
    go q true e = ap f (sym (same_is q p e))
    go q false e = refl

bump_here : (p : Path) (count : Path → ℕ) → bump p count p ≡ suc (count p)
bump_here p count = ap (λ (b : Bool). cond b (suc (count p)) (count p)) (same_self p)

-- below a task that is no loop under way a task lies wherever one is there
pub task_there : (j : Setup) (lies : Lies) (store : List ℕ) → Cored j lies store → (p : Path) → IsHere j lies p
    → ((t : Lie) → lies (parent_of p) ≡ some t → t.indexes ≡ []) → (t : Lie) × (lies p ≡ some t)
task_there j lies store c p h unlooped = elim (c.all p h) [
  | inl t ↦ t
  | inr (t, x, is, at) ↦ absurd (some-ne-none x (sym at ∙ ap (λ z. get_elem? z (number_of p)) (unlooped t is)))
]

pub child_lies : (j : Setup) (lies : Lies) (store : List ℕ) → Cored j lies store → (p : Path) (t : Lie) → lies p ≡ some t → t.indexes ≡ []
    → (i : ℕ) → IsHere j lies (child p i) → (u : Lie) × (lies (child p i) ≡ some u)
child_lies j lies store c p t is no_indexes i h = task_there j lies store c (child p i) h
    (λ u d. ap (λ (z : Lie). z.indexes) (some-injective u t (sym d ∙ (ap lies (parent_is p i) ∙ is))) ∙ no_indexes)

module _ (j : Setup) (l : Laws (machine_of j.program) (rights_in j.program)) (lies : Lies) (store : List ℕ) (c : Cored j lies store)
    (p : Path) (t : Lie) (is : lies p ≡ some t) where
  abbrev m : Machine
  m = machine_of j.program

  abbrev root_store : List ℕ
  root_store = opened_with j.program.families j.input

  abbrev x : Named m
  x = core_of j lies store

  abbrev LawfulAt : (Path → Task (machine_of j.program)) → List ℕ → Type 0
  LawfulAt get s = Lawful m (rights_in j.program) main_placed root_store (named m levels (record { get = get; store = s }))

  abbrev kids : Task (machine_of j.program) → List Placed
  kids u = forks_in m (standing m u)

  got : get_of j lies p ≡ task_of j p t
  got = get_at j lies p t is

  -- the task that is there is another, with the same children
  turn_core : (u : Lie) (store' : List ℕ) → u.berth ≡ t.berth → u.indexes ≡ t.indexes → kids (task_of j p u) ≡ kids (get_of j lies p)
      → LawfulAt (set_at p (task_of j p u) (get_of j lies)) store' → Cored j (put lies p (some u)) store'
  turn_core u store' same_berth same_indexes same_kids h = record {
    lawful = subst (λ (g : Path → Task (machine_of j.program)). LawfulAt g store') (sym put_is) h;
    there = λ q y d. subst (λ (n : Path → ℕ). IsThere levels n q) (sym counts_same)
        (elim (at_put lies p q u y d) [ inl g ↦ c.there q t (ap lies (sym g.0) ∙ is) | inr g ↦ c.there q y g.1 ]);
    parents = λ q i y d. still_there q (elim (at_put lies p (child q i) u y d) [
      | inl g ↦ c.parents q i t (ap lies (sym g.0) ∙ is)
      | inr g ↦ c.parents q i y g.1
    ]);
    index_there = λ q y i x d there. subst (λ (n : Path → ℕ). IsThere levels n (child q i)) (sym counts_same)
        (elim (at_put lies p q u y d) [
          | inl g ↦ c.index_there q t i x (ap lies (sym g.0) ∙ is)
              (ap (λ (z : List IndexLie). get_elem? z i) (sym same_indexes ∙ ap (λ (z : Lie). z.indexes) g.1) ∙ there)
          | inr g ↦ c.index_there q y i x g.1 there
        ]);
    all = λ q d. elim (c.all q (subst (λ (n : Path → ℕ). IsThere levels n q) counts_same d)) [
      | inl old ↦ inl (elim (put_cases lies p (some u) q) [ inl g ↦ (u, g.1) | inr g ↦ (old.0, g.1 ∙ old.1) ])
      | inr (y, x, y_is, there) ↦ inr (elim (put_cases lies p (some u) (parent_of q)) [
        | inl g ↦ (
          u,
          x,
          g.1,
          ap (λ (z : List IndexLie). get_elem? z (number_of q)) (same_indexes
              ∙ ap (λ (z : Lie). z.indexes) (some-injective t y (sym is ∙ (ap lies g.0 ∙ y_is)))) ∙ there,
        )
        | inr g ↦ (y, x, g.1 ∙ y_is, there)
      ])
    ];
  }
    where
      still_there : (q : Path) → (y : Lie) × (lies q ≡ some y) → (y : Lie) × (put lies p (some u) q ≡ some y)
      still_there q old = elim (put_cases lies p (some u) q) [ inl g ↦ (u, g.1) | inr g ↦ (old.0, g.1 ∙ old.1) ]

      put_is : get_of j (put lies p (some u)) ≡ set_at p (task_of j p u) (get_of j lies)
      put_is = get_put j lies p u (λ i. (λ k. index_of j p (same_berth k).call i (get_elem? (same_indexes k) i))
          ∙ sym (ap (index_in j p i) is))

      counts_same : counts_of j (put lies p (some u)) ≡ counts_of j lies
      counts_same = ap (count_of m) put_is ∙ count_kept m (get_of j lies) p (task_of j p u) same_kids

  -- the core doesn't tell the two apart
  pub stays : (u : Lie) → u.berth ≡ t.berth → u.indexes ≡ t.indexes → task_of j p u ≡ task_of j p t → Cored j (put lies p (some u)) store
  stays u same_berth same_indexes u_is =
      let e : task_of j p u ≡ get_of j lies p = u_is ∙ sym got in
      turn_core u store same_berth same_indexes (ap kids e) (subst (λ (g : Path → Task (machine_of j.program)). LawfulAt g store)
      (sym (ap (λ (y : Task (machine_of j.program)). set_at p y (get_of j lies)) e ∙ set_self p (get_of j lies))) c.lawful)

  -- a claim
  pub claims : (u : Lie) → u.berth ≡ t.berth → u.indexes ≡ t.indexes → task_of j p u ≡ events.put m (in_phase m Running) (task_of j p t)
      → (task_of j p t).phase ≡ Unclaimed → Earlier m (MayPass m (rights_in j.program)) p (get_of j lies)
      → Cored j (put lies p (some u)) store
  claims u same_berth same_indexes u_is waits before =
      let e : task_of j p u ≡ events.put m (in_phase m Running) (get_of j lies p) = u_is ∙ ap (events.put m (in_phase m Running))
      (sym got) in
      turn_core u store same_berth same_indexes (ap kids e)
      (subst (λ (y : Task (machine_of j.program)). LawfulAt (set_at p y (get_of j lies)) store) (sym e)
      (kept_claim m levels (rights_in j.program) l main_placed root_store p x (c.there p t is)
      (ap (λ (y : Task (machine_of j.program)). y.phase) got ∙ waits) before c.lawful))

  module _ (runs : (task_of j p t).phase ≡ Running) where
    runs_there : (get_of j lies p).phase ≡ Running
    runs_there = ap (λ (y : Task (machine_of j.program)). y.phase) got ∙ runs

    -- a load, a store or a fold
    module _ (d : Act) (k : ℕ → Code (machine_of j.program)) (next : left m (task_of j p t) ≡ Do d k) where
      next_there : left m (get_of j lies p) ≡ Do d k
      next_there = ap (left m) got ∙ next

      pub does : (u : Lie) → u.berth ≡ t.berth → u.indexes ≡ t.indexes → task_of j p u ≡ events.put m (did m d (m.answer d store)) (task_of j p t)
          → Cored j (put lies p (some u)) (m.after d store)
      does u same_berth same_indexes u_is =
          let e : task_of j p u ≡ events.put m (did m d (m.answer d store)) (get_of j lies p) = u_is ∙ ap
          (events.put m (did m d (m.answer d store))) (sym got) in
          turn_core u (m.after d store) same_berth same_indexes (ap kids e ∙ forks_after_do m levels
          (rights_in j.program) l main_placed root_store d k p x (c.there p t is) runs_there next_there c.lawful)
          (subst (λ (y : Task (machine_of j.program)). LawfulAt (set_at p y (get_of j lies)) (m.after d store)) (sym e)
          (kept_do m levels (rights_in j.program) l main_placed root_store d k p x (c.there p t is) runs_there next_there c.lawful))

      pub does_forks : (u : Lie) → task_of j p u ≡ events.put m (did m d (m.answer d store)) (task_of j p t)
          → forks_of j (task_of j p u) ≡ forks_of j (task_of j p t)
      does_forks u u_is = ap (forks_of j) (u_is ∙ ap (events.put m (did m d (m.answer d store))) (sym got)) ∙
          (ap length (forks_after_do m levels (rights_in j.program) l main_placed root_store d k p x
          (c.there p t is) runs_there next_there c.lawful) ∙ ap (forks_of j) got)

    -- its end or fault, and then its finish
    module _ (f : Option Fault) (next : left m (task_of j p t) ≡ Stop f) where
      stop_there : left m (get_of j lies p) ≡ Stop f
      stop_there = ap (left m) got ∙ next

      abbrev over : Task (machine_of j.program)
      over = events.put m (ended m) (get_of j lies p)

      abbrev get1 : Path → Task (machine_of j.program)
      get1 = set_at p over (get_of j lies)

      kids_over : kids over ≡ kids (get_of j lies p)
      kids_over = forks_after_end m levels (rights_in j.program) l main_placed root_store f p x
          (c.there p t is) runs_there stop_there c.lawful

      counts1 : count_of m get1 ≡ counts_of j lies
      counts1 = count_kept m (get_of j lies) p over kids_over

      pub ends_forks : (u : Lie) → task_of j p u ≡ events.put m (in_phase m Finished) (events.put m (ended m) (task_of j p t))
          → forks_of j (task_of j p u) ≡ forks_of j (task_of j p t)
      ends_forks u u_is = ap (forks_of j) (u_is ∙ ap (λ (y : Task (machine_of j.program)). events.put m (in_phase m Finished)
          (events.put m (ended m) y)) (sym got)) ∙ (ap length kids_over ∙ ap (forks_of j) got)

      pub ends : (u : Lie) → u.berth ≡ t.berth → u.indexes ≡ t.indexes → task_of j p u ≡ events.put m (in_phase m Finished)
          (events.put m (ended m) (task_of j p t)) → ((k : ℕ) → k < forks_of j (task_of j p t)
          → (y : Lie) × (lies (child p k) ≡ some y) × (phase_of y.stage ≡ Finished)) → Cored j (put lies p (some u)) store
      ends u same_berth same_indexes u_is children =
          let e : task_of j p u ≡ events.put m (in_phase m Finished) over = u_is ∙ ap
          (λ (y : Task (machine_of j.program)). events.put m (in_phase m Finished) (events.put m (ended m) y)) (sym got) in
          let e1 : events.put m (in_phase m Finished) (get1 p) ≡ task_of j p u = ap (events.put m (in_phase m Finished))
          (set_here p over over (get_of j lies)) ∙ sym e in
          turn_core u store same_berth same_indexes (ap kids e ∙ kids_over)
          (subst (λ (g : Path → Task (machine_of j.program)). LawfulAt g store)
          (ap (λ (y : Task (machine_of j.program)). set_at p y get1) e1 ∙ set_twice p over (task_of j p u) (get_of j lies))
          (kept_finish m levels (rights_in j.program) l main_placed root_store p (record { get = get1; store = store })
          (subst (λ (n : Path → ℕ). IsThere levels n p) (sym counts1) (c.there p t is))
          (ap (λ (y : Task (machine_of j.program)). y.phase) (set_here p over over (get_of j lies)))
          (below_by m (λ v. v.phase ≡ Finished) levels p get1 (count_of m get1)
          (λ k less. finished_there k (subst (λ (n : Path → ℕ). k < n p) counts1 less)))
          (kept_end m levels (rights_in j.program) l main_placed root_store f p x (c.there p t is) runs_there stop_there c.lawful)))
        where
          finished_there : (k : ℕ) → k < counts_of j lies p → (get1 (p ++ k ∷ [])).phase ≡ Finished
          finished_there k less =
              let n : counts_of j lies p ≡ forks_of j (task_of j p t) = ap (forks_of j) got in
              let y = children k (omega arith) in
              ap (λ (z : Task (machine_of j.program)). z.phase)
              (set_else p over over (get_of j lies) (child p k) (λ s. not_child p k (sym s)) ∙ get_at j lies (child p k) y.0 y.1)
              ∙ y.2

    -- a fork
    module _ (b : Placed) (w : Code (machine_of j.program)) (next : left m (task_of j p t) ≡ Fork b w) (room : HasRoom levels p)
        (unlooped : t.indexes ≡ []) where
      fork_there : left m (get_of j lies p) ≡ Fork b w
      fork_there = ap (left m) got ∙ next

      abbrev n : ℕ
      n = counts_of j lies p

      pub no_child : lies (child p n) ≡ none
      no_child = go (lies (child p n)) refl
        where
          go : (o : o.Option Lie) → lies (child p n) ≡ o → o ≡ none
          go none e = refl
          go (some y) e = let h = there_child levels (counts_of j lies) p n (c.there (child p n) y e) in
              let less = h.1 in absurd (omega arith)

      absent : kids (get_of j lies (p ++ n ∷ [])) ≡ []
      absent = ap kids (get_child j lies p n no_child ∙ (ap (index_in j p n) is ∙ no_index j p n t unlooped))

      more : length (kids (events.put m (forked m) (get_of j lies p))) ≡ suc n
      more = forks_after_fork m levels (rights_in j.program) l main_placed root_store b w p x
          (c.there p t is) runs_there fork_there c.lawful

      pub forks_one : (u : Lie) → task_of j p u ≡ events.put m (forked m) (task_of j p t)
          → forks_of j (task_of j p u) ≡ suc (forks_of j (task_of j p t))
      forks_one u u_is = ap (forks_of j) (u_is ∙ ap (events.put m (forked m)) (sym got)) ∙
          (more ∙ ap (λ (y : Task (machine_of j.program)). suc (forks_of j y)) got)

      pub forks_left : (u : Lie) → task_of j p u ≡ events.put m (forked m) (task_of j p t) → left m (task_of j p u) ≡ w
      forks_left u u_is = ap (left m) (u_is ∙ ap (events.put m (forked m)) (sym got)) ∙
          at_path m levels (rights_in j.program) l main_placed root_store (left m (events.put m (forked m) (get_of j lies p)) ≡ w) p x
          (c.there p t is) c.lawful
          (λ below ok. left_forked m (rights_in j.program) l b w (get_of j lies p) below runs_there fork_there ok)

      -- the tasks after it
      module _ (u y : Lie) (same_indexes : u.indexes ≡ t.indexes) (none_yet : y.indexes ≡ [])
          (u_is : task_of j p u ≡ events.put m (forked m) (task_of j p t)) (y_is : task_of j (child p n) y ≡ fresh m b) where
        no_indexes : u.indexes ≡ []
        no_indexes = same_indexes ∙ unlooped

        put_parent : get_of j (put lies p (some u)) ≡ set_at p (task_of j p u) (get_of j lies)
        put_parent = get_put j lies p u (λ k. no_index j p k u no_indexes ∙ sym
            (ap (index_in j p k) is ∙ no_index j p k t unlooped))

        put_child : get_of j (put (put lies p (some u)) (child p n) (some y)) ≡ set_at (child p n) (task_of j (child p n) y)
            (get_of j (put lies p (some u)))
        put_child = get_put j (put lies p (some u)) (child p n) y
            (λ i. no_index j (child p n) i y none_yet ∙ sym (ap (index_in j (child p n) i)
            (put_else lies p (some u) (child p n) (not_child p n) ∙ no_child)))

        pub forked_tasks : get_of j (put (put lies p (some u)) (child p n) (some y)) ≡ set_at (child p n) (fresh m b)
            (set_at p (events.put m (forked m) (get_of j lies p)) (get_of j lies))
        forked_tasks = put_child ∙ (λ i. set_at (child p n) (y_is i)
            ((put_parent ∙ ap (λ (z : Task (machine_of j.program)). set_at p z (get_of j lies))
            (u_is ∙ ap (events.put m (forked m)) (sym got))) i))

      pub forks : (u y : Lie) → u.indexes ≡ t.indexes → y.indexes ≡ [] → task_of j p u ≡ events.put m (forked m) (task_of j p t)
          → task_of j (child p n) y ≡ fresh m b → Cored j (put (put lies p (some u)) (child p n) (some y)) store
      forks u y same_indexes none_yet u_is y_is = record {
        lawful = subst (λ (g : Path → Task (machine_of j.program)). LawfulAt g store) (sym get2)
            (kept_fork m levels (rights_in j.program) l main_placed root_store b w p x
            (c.there p t is) room absent runs_there fork_there c.lawful);
        there = λ q z d. subst (λ (k : Path → ℕ). IsThere levels k q) (sym counts2)
            (elim (at_put (put lies p (some u)) (child p n) q y z d) [
              | inl g ↦ subst (IsThere levels (bump p (counts_of j lies))) g.0
                  (child_there levels (bump p (counts_of j lies)) p n (there_more levels (counts_of j lies) p p (c.there p t is))
                  (let k = bump_here p (counts_of j lies) in omega arith) room)
              | inr g ↦ there_more levels (counts_of j lies) p q (elim
                  (at_put lies p q u z g.1) [ inl i ↦ c.there q t (ap lies (sym i.0) ∙ is) | inr i ↦ c.there q z i.1 ])
            ]);
        parents = λ q i z d. still_there q (elim (at_put (put lies p (some u)) (child p n) (child q i) y z d) [
          | inl g ↦ (t, ap lies (sym (child_one p q n i g.0).0) ∙ is)
          | inr g ↦ (elim (at_put lies p (child q i) u z g.1) [
            | inl k ↦ c.parents q i t (ap lies (sym k.0) ∙ is)
            | inr k ↦ c.parents q i z k.1
          ])
        ]);
        index_there = λ q z i x d there. subst (λ (k : Path → ℕ). IsThere levels k (child q i)) (sym counts2)
            (elim (at_put (put lies p (some u)) (child p n) q y z d) [
              | inl g ↦ absurd (some-ne-none x (sym there ∙ ap (λ (k : List IndexLie). get_elem? k i)
                  (ap (λ (k : Lie). k.indexes) (sym g.1) ∙ none_yet)))
              | inr g ↦ (elim (at_put lies p q u z g.1) [
                | inl k ↦ absurd (some-ne-none x (sym there ∙ ap (λ (w : List IndexLie). get_elem? w i)
                    (ap (λ (w : Lie). w.indexes) (sym k.1) ∙ (same_indexes ∙ unlooped))))
                | inr k ↦ there_more levels (counts_of j lies) p (child q i) (c.index_there q z i x k.1 there)
              ])
            ]);
        all = λ q d. elim (there_less levels (counts_of j lies) p q (ap length absent)
            (subst (λ (k : Path → ℕ). IsThere levels k q) counts2 d)) [
              | inl h ↦ elim (c.all q h) [
                | inl old ↦ inl (elim (put_cases (put lies p (some u)) (child p n) (some y) q) [
                  | inl g ↦ (y, g.1)
                  | inr g ↦ (elim (put_cases lies p (some u) q) [ inl i ↦ (u, g.1 ∙ i.1) | inr i ↦ (old.0, g.1 ∙ (i.1 ∙ old.1)) ])
                ])
                | inr (z, x, z_is, there) ↦ inr (z, x, index_stays q z x z_is there, there)
              ]
              | inr h ↦ inl (
                y,
                ap (put (put lies p (some u)) (child p n) (some y)) h ∙ put_here (put lies p (some u)) (child p n)
                    (some y),
              )
            ];
      }
        where
          still_there : (q : Path) → (z : Lie) × (lies q ≡ some z) → (z : Lie) × (put (put lies p (some u)) (child p n) (some y) q ≡ some z)
          still_there q old = elim (put_cases (put lies p (some u)) (child p n) (some y) q) [
            | inl g ↦ (y, g.1)
            | inr g ↦ (elim (put_cases lies p (some u) q) [ inl i ↦ (u, g.1 ∙ i.1) | inr i ↦ (old.0, g.1 ∙ (i.1 ∙ old.1)) ])
          ]

          -- the loop above an index is neither the task that forked nor its new child
          index_stays : (q : Path) (z : Lie) (x : IndexLie) → lies (parent_of q) ≡ some z → get_elem? z.indexes (number_of q) ≡ some x
              → put (put lies p (some u)) (child p n) (some y) (parent_of q) ≡ some z
          index_stays q z x z_is there = elim (put_cases (put lies p (some u)) (child p n) (some y) (parent_of q)) [
            | inl g ↦ absurd (some-ne-none z (sym z_is ∙ (ap lies (sym g.0) ∙ no_child)))
            | inr g ↦ (elim (put_cases lies p (some u) (parent_of q)) [
              | inl i ↦ absurd (some-ne-none x (sym there ∙ ap (λ (k : List IndexLie). get_elem? k (number_of q))
                  (ap (λ (k : Lie). k.indexes) (some-injective z t (sym z_is ∙ (ap lies (sym i.0) ∙ is))) ∙ unlooped)))
              | inr i ↦ g.1 ∙ (i.1 ∙ z_is)
            ])
          ]

          get2 : get_of j (put (put lies p (some u)) (child p n) (some y)) ≡ set_at (child p n) (fresh m b)
              (set_at p (events.put m (forked m) (get_of j lies p)) (get_of j lies))
          get2 = forked_tasks u y same_indexes none_yet u_is y_is

          counts2 : counts_of j (put (put lies p (some u)) (child p n) (some y)) ≡ bump p (counts_of j lies)
          counts2 = ap (count_of m) get2 ∙ count_forked m (get_of j lies) p n (events.put m (forked m) (get_of j lies p))
              (fresh m b) more refl absent
