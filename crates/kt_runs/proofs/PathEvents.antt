-- The events of a core by paths keep it lawful.
use Rattle.std.proofs.Common.{Bool, true, false, cond, ◌≡◌, ◌<◌, ◌≤◌, ℕ, zero, suc, List, [], ◌∷◌, length, map, Option, ◌⊎◌, inl, inr, refl, sym, ap, subst, ◌∙◌, arith}
use mathlib.Core.Path.{fun_ext}
use Rattle.kt_law.specs.Acts.{Act}
use Rattle.kt_order.specs.Body.{Stop, Do, Fork}
use Rattle.kt_order.specs.Machine.{Code}
use Rattle.kt_order.specs.Laws.{Laws}
use Rattle.kt_order.specs.Forest.{Unclaimed, Running, Ended, Finished, Task, Forest, Nil, Node, fresh}
use Rattle.kt_order.specs.Rest.{standing, left}
use Rattle.kt_order.specs.Events.{put, in_phase, did, forked, ended, IsFinished, MayPass}
use Rattle.kt_order.specs.Paths.{same_path, set_at, bump, IsThere, tree_of, Earlier}
use Rattle.kt_order.specs.Named.{forks_in}
use Rattle.kt_order.proofs.Kept.{opens}
use Rattle.kt_order.proofs.ByPaths.{kept_claim, kept_finish, kept_end, kept_do, kept_fork, forks_after_end, forks_after_do, forks_after_fork}
use Rattle.kt_order.proofs.PathThere.{earlier_by, below_by}
use Rattle.kt_order.proofs.PathChanges.{eq_self}
use Rattle.kt_order.proofs.PathKids.{at_kids}
use Rattle.kt_order.proofs.PathsAdd.{grown_none}
use Rattle.kt_order.proofs.Squares.{count_kept, count_forked}
use Rattle.kt_prog.specs.Calls.{CallTree, Job, Whole, Index}
use Rattle.kt_prog.specs.Laws.{BodiesKeep, LoopsAreDirect}
use Rattle.kt_prog.specs.Script.{Fault}
use Rattle.kt_prog.specs.Accepted.{IsAccepted}
use Rattle.kt_prog.specs.Fits.{Fits, is_main}
use Rattle.kt_prog.specs.Operations.{IsNext}
use Rattle.kt_prog.specs.Reference.{Placed, machine_of, main_placed, opened_with}
use Rattle.kt_prog.specs.declared.programs.Program.{Program}
use Rattle.kt_prog.specs.declared.runs.Operation.{Operation}
use Rattle.kt_prog.specs.declared.runs.Operation.TheVariants as O
use Rattle.kt_rights.specs.Rights.{Apart}
use Rattle.kt_runs.specs.Plans.{plan_of}
use Rattle.kt_runs.specs.Rights.{rights_in}
use Rattle.kt_runs.specs.Theorems.{whole_at}
use Rattle.kt_runs.specs.Bodies.{IsFirst}
use Rattle.kt_runs.specs.States.{IsLawful}
use Rattle.kt_runs.specs.ByPath.{Path, child, levels, ByPath, IsLawfulByPath, counts, IsTask, ActsNext, ForksNext, EndsNext, GoesOnBy, after_claim, after_act, after_end, after_fork, after_finish, after_end_and_finish, StaysLawful, NoClash, IsPlacedAt}
use Rattle.kt_runs.proofs.Next.{next_is_first}
use Rattle.kt_runs.proofs.Clashes.{apart_is_no_clash}
use Rattle.kt_runs.proofs.Indexes.{two_apart}
use Rattle.kt_runs.proofs.PathLists.{length_snoc, snoc_view, snoc_same}
use Rattle.kt_runs.proofs.PathCalls.{parent_there, kid_of_loop, calls_fit, fork_room, children_there}

none_of : {A : Type 0} → (xs : List A) → length xs ≡ 0 → xs ≡ []
none_of [] e = refl
none_of (x ∷ xs) e = absurd (omega (arith, e))

-- the only path with no children below it
only_root : (depth : ℕ) (count : List ℕ → ℕ) (q : List ℕ) → count [] ≡ 0 → IsThere depth count q → q ≡ []
only_root depth count [] none there = refl
only_root zero count (k ∷ q) none there = absurd there
only_root (suc depth) count (k ∷ q) none there = let less = there.0 in absurd (omega (arith, none, less))

module _ (p : Program) where
  -- what a body goes on by
  by_first : (op : Operation) (u : Task (machine_of p)) (w : Code (machine_of p)) → left (machine_of p) u ≡ w → IsFirst p op w → GoesOnBy p op u
  by_first (O.Load object element a) u (Do q next) e f = (next, e ∙ ap (λ (d : Act). Do d next) f)
  by_first (O.Load object element a) u (Stop g) e f = absurd f
  by_first (O.Load object element a) u (Fork c next) e f = absurd f
  by_first (O.Store object element v) u (Do q next) e f = (next, e ∙ ap (λ (d : Act). Do d next) f)
  by_first (O.Store object element v) u (Stop g) e f = absurd f
  by_first (O.Store object element v) u (Fork c next) e f = absurd f
  by_first (O.Fold object element op v) u (Do q next) e f = (next, e ∙ ap (λ (d : Act). Do d next) f)
  by_first (O.Fold object element op v) u (Stop g) e f = absurd f
  by_first (O.Fold object element op v) u (Fork c next) e f = absurd f
  by_first (O.Fork call) u (Fork c next) e f = (c, (next, e), f)
  by_first (O.Fork call) u (Stop g) e f = absurd f
  by_first (O.Fork call) u (Do q next) e f = absurd f
  by_first O.End u (Stop g) e f = e ∙ ap (λ (o : Option Fault). Stop o) f
  by_first O.End u (Do q next) e f = absurd f
  by_first O.End u (Fork c next) e f = absurd f
  by_first (O.Fault law line) u (Stop g) e f = e ∙ ap (λ (o : Option Fault). Stop o) f
  by_first (O.Fault law line) u (Do q next) e f = absurd f
  by_first (O.Fault law line) u (Fork c next) e f = absurd f

  pub goes_on : (input : List ℕ) (x : ByPath p) → IsLawfulByPath p input x → (q : Path) → IsTask p x q → (op : Operation) → IsNext p (x.get q).call.job (x.get q).answers (x.get q).done op → GoesOnBy p op (x.get q)
  goes_on input x h q there op next =
      at_kids (machine_of p) levels (rights_in p) main_placed (opened_with p.families input) x h (GoesOnBy p op (x.get q)) q there (λ kids is law.
      by_first op (x.get q) (left (machine_of p) (x.get q)) refl (next_is_first p (x.get q) law.st op law.stands next))

module _ (p : Program) (input : List ℕ) (l : Laws (machine_of p) (rights_in p)) where
  pub opens_lawful : (x : ByPath p) → x.get [] ≡ fresh (machine_of p) main_placed → x.store ≡ opened_with p.families input → IsLawfulByPath p input x
  opens_lawful x main store =
      let m = machine_of p in
      let alone : counts p x [] ≡ 0 = ap (λ (u : Task m). length (forks_in m (standing m u))) main in
      let forest : tree_of m levels x.get (counts p x) ≡ Node (fresh m main_placed) Nil Nil =
      (λ i. Node (main i) (grown_none m levels x.get (counts p x) alone i) Nil) in
      subst (λ (F : Forest m). IsLawful p input (record { forest = F; store = x.store })) (sym forest)
      (subst (λ (s : List ℕ). IsLawful p input (record { forest = Node (fresh m main_placed) Nil Nil; store = s })) (sym store)
      (opens m (rights_in p) l main_placed (opened_with p.families input) (is_main refl)))

  pub opens_alone : (x : ByPath p) → x.get [] ≡ fresh (machine_of p) main_placed → (q : Path) → IsTask p x q → q ≡ []
  opens_alone x main q there =
      only_root levels (counts p x) q (ap (λ (u : Task (machine_of p)). length (forks_in (machine_of p) (standing (machine_of p) u))) main) there

  module _ (x : ByPath p) (h : IsLawfulByPath p input x) where
    abbrev root_store : List ℕ
    root_store = opened_with p.families input

    -- where as many children stand
    stays : (q : Path) (u : Task (machine_of p)) (store : List ℕ) → forks_in (machine_of p) (standing (machine_of p) u) ≡ forks_in (machine_of p) (standing (machine_of p) (x.get q))
        → IsLawfulByPath p input (record { get = set_at q u x.get; store = store })
        → StaysLawful p input x (record { get = set_at q u x.get; store = store })
    stays q u store same lawful = record { lawful = lawful; same = count_kept (machine_of p) x.get q u same }

    -- what holds of each earlier child is what the theory asks
    earlier : (R : Task (machine_of p) → Task (machine_of p) → Type 0) (q : Path)
        → ((z : Path) (k : ℕ) → q ≡ child z k → (i : ℕ) → i < k → R (x.get (child z i)) (x.get q)) → Earlier (machine_of p) R q x.get
    earlier R q each = elim (snoc_view q) [
      | inl none ↦ subst (λ (y : Path). Earlier (machine_of p) R y x.get) (sym none) tt
      | inr v ↦ subst (λ (y : Path). Earlier (machine_of p) R y x.get) (sym v.2)
          (earlier_by (machine_of p) R v.0 v.1 x.get (λ i less. subst (λ (y : Path). R (x.get (child v.0 i)) (x.get y)) v.2 (each v.0 v.1 v.2 i less)))
    ]

    pub claims : (q : Path) → IsTask p x q → (x.get q).phase ≡ Unclaimed
        → ((z : Path) (k : ℕ) → q ≡ child z k → (i : ℕ) → i < k → MayPass (machine_of p) (rights_in p) (x.get (child z i)) (x.get q))
        → StaysLawful p input x (after_claim p q x)
    claims q there un each =
        stays q (put (machine_of p) (in_phase (machine_of p) Running) (x.get q)) x.store refl
        (kept_claim (machine_of p) levels (rights_in p) l main_placed root_store q x there un (earlier (MayPass (machine_of p) (rights_in p)) q each) h)

    pub acts : (q : Path) → IsTask p x q → (x.get q).phase ≡ Running → (a : Act) → ActsNext p a (x.get q) → StaysLawful p input x (after_act p a q x)
    acts q there run a next =
        stays q (put (machine_of p) (did (machine_of p) a ((machine_of p).answer a x.store)) (x.get q)) ((machine_of p).after a x.store)
        (forks_after_do (machine_of p) levels (rights_in p) l main_placed root_store a next.0 q x there run next.1 h)
        (kept_do (machine_of p) levels (rights_in p) l main_placed root_store a next.0 q x there run next.1 h)

    pub ends : (q : Path) → IsTask p x q → (x.get q).phase ≡ Running → EndsNext p (x.get q) → StaysLawful p input x (after_end p q x)
    ends q there run next =
        stays q (put (machine_of p) (ended (machine_of p)) (x.get q)) x.store
        (forks_after_end (machine_of p) levels (rights_in p) l main_placed root_store next.0 q x there run next.1 h)
        (kept_end (machine_of p) levels (rights_in p) l main_placed root_store next.0 q x there run next.1 h)

    pub finishes : (q : Path) → IsTask p x q → (x.get q).phase ≡ Ended → ((k : ℕ) → k < counts p x q → (x.get (child q k)).phase ≡ Finished)
        → StaysLawful p input x (after_finish p q x)
    finishes q there over kids =
        stays q (put (machine_of p) (in_phase (machine_of p) Finished) (x.get q)) x.store refl
        (kept_finish (machine_of p) levels (rights_in p) l main_placed root_store q x there over
        (below_by (machine_of p) (IsFinished (machine_of p)) levels q x.get (counts p x) kids) h)

    module _ (bodies : BodiesKeep) (ok : IsAccepted p) where
      -- the facts of a whole call at a path
      whole_fits : (q : Path) → IsTask p x q → (c : CallTree) → (x.get q).call.job ≡ Whole c → ((x.get q).call.path ≡ map suc q) × (c.depth ≡ length q) × Fits p c
      whole_fits q there c is =
          subst (λ (job : Job). IsPlacedAt p x q (record { path = (x.get q).call.path; job = job })) is (calls_fit p input l x h bodies ok q there)

      -- the earlier children are there
      earlier_there : (z : Path) (k i : ℕ) → i < k → IsTask p x (child z k) → IsTask p x (child z i)
      earlier_there z k i less there =
          let up = parent_there p input l x h z k there in
          let low = up.1 in
          children_there p input l x h bodies ok z i up.0 (omega (arith, low, less))

      pub passes : (q z : Path) (k : ℕ) → q ≡ child z k → IsTask p x q → (i : ℕ) → i < k
          → ((x.get (child z i)).phase ≡ Finished) ⊎ NoClash p (x.get (child z i)) (x.get q) → MayPass (machine_of p) (rights_in p) (x.get (child z i)) (x.get q)
      passes q z k is there i less (inl done) = inl done
      passes q z k is there i less (inr apart) =
          let c = apart.0 in
          let d = apart.1 in
          let one = whole_fits (child z i) (earlier_there z k i less (subst (IsTask p x) is there)) c apart.2 in
          let two = whole_fits q there d apart.3 in
          let low : 1 ≤ c.depth = let a = one.1 in let b = length_snoc z i in omega (arith, a, b) in
          let high : 1 ≤ d.depth = let a = two.1 ∙ ap length is in let b = length_snoc z k in omega (arith, a, b) in
          let free = (apart_is_no_clash p (x.get (child z i)).call.path (x.get q).call.path c d one.2 two.2 low high).1 apart.4 in
          inr (subst (λ (job : Job). Apart (plan_of p) (record { path = (x.get (child z i)).call.path; job = job }) (x.get q).call) (sym apart.2)
          (subst (λ (job : Job). Apart (plan_of p) (whole_at (x.get (child z i)).call.path c) (record { path = (x.get q).call.path; job = job })) (sym apart.3) free))

      pub forks_lawful : (q : Path) → IsTask p x q → (x.get q).phase ≡ Running → (c : Placed) → ForksNext p c (x.get q)
          → counts p x (child q (counts p x q)) ≡ 0 → IsLawfulByPath p input (after_fork p c q x)
      forks_lawful q there run c next absent =
          kept_fork (machine_of p) levels (rights_in p) l main_placed root_store c next.0 q x there (fork_room p input l x h bodies ok q there c next)
          (none_of (forks_in (machine_of p) (standing (machine_of p) (x.get (child q (counts p x q))))) absent) run next.1 h

      pub forks_counts : (q : Path) → IsTask p x q → (x.get q).phase ≡ Running → (c : Placed) → ForksNext p c (x.get q)
          → counts p x (child q (counts p x q)) ≡ 0 → counts p (after_fork p c q x) ≡ bump q (counts p x)
      forks_counts q there run c next absent =
          count_forked (machine_of p) x.get q (counts p x q) (put (machine_of p) (forked (machine_of p)) (x.get q)) (fresh (machine_of p) c)
          (forks_after_fork (machine_of p) levels (rights_in p) l main_placed root_store c next.0 q x there run next.1 h) refl
          (none_of (forks_in (machine_of p) (standing (machine_of p) (x.get (child q (counts p x q))))) absent)

      module _ (direct : LoopsAreDirect) where
        -- the earlier siblings of an index are indexes of the same loop
        pub index_passes : (q : Path) → IsTask p x q → (call : CallTree) (i : ℕ) → (x.get q).call.job ≡ Index call i
            → (z : Path) (k : ℕ) → q ≡ child z k → (n : ℕ) → n < k → MayPass (machine_of p) (rights_in p) (x.get (child z n)) (x.get q)
        index_passes q there call i job z k is n less =
            let fit = subst (λ (j : Job). IsPlacedAt p x q (record { path = (x.get q).call.path; job = j })) job (calls_fit p input l x h bodies ok q there) in
            let same = snoc_same z fit.0 k i (sym is ∙ fit.1) in
            let up : (x.get z).call ≡ whole_at (map suc z) call = subst (λ (y : Path). (x.get y).call ≡ whole_at (map suc y) call) (sym same.0) fit.3 in
            let up_job : (x.get z).call.job ≡ Whole call = ap (λ (c : Placed). c.job) up in
            let here = subst (IsTask p x) is there in
            let other = earlier_there z k n less here in
            let other_job = kid_of_loop p input l x h z n other call up_job fit.4 in
            let other_fit = subst (λ (j : Job). IsPlacedAt p x (child z n) (record { path = (x.get (child z n)).call.path; job = j })) other_job (calls_fit p input l x h bodies ok (child z n) other) in
            let other_path : (x.get (child z n)).call.path ≡ map suc z = other_fit.2 ∙ ap (map suc) (sym (snoc_same z other_fit.0 n n other_fit.1).0) in
            let path : (x.get q).call.path ≡ map suc z = fit.2 ∙ ap (map suc) (sym same.0) in
            let whole = whole_fits z (parent_there p input l x h z k here).0 call up_job in
            let number : k ≡ i = same.1 in
            let long = other_fit.5 in
            let apart = two_apart p bodies direct ok (map suc z) call n i whole.2 long (λ e. let a : n ≡ i = e in omega (arith, a, number, less)) in
            inr (subst (λ (c : Placed). Apart (plan_of p) c (x.get q).call) (sym (λ t. record { path = other_path t; job = other_job t }))
            (subst (λ (c : Placed). Apart (plan_of p) (record { path = map suc z; job = Index call n }) c) (sym (λ t. record { path = path t; job = job t })) apart))

  same_self : (q : Path) → same_path q q ≡ true
  same_self [] = refl
  same_self (k ∷ q) = rw (eq_self k) (same_self q)

  child_other : (q : Path) (k : ℕ) → same_path (child q k) q ≡ false
  child_other [] k = refl
  child_other (j ∷ q) k = rw (eq_self j) (child_other q k)

  module _ (x : ByPath p) (h : IsLawfulByPath p input x) where
    -- an end, and then a finish
    pub leaves : (q : Path) → IsTask p x q → (x.get q).phase ≡ Running → EndsNext p (x.get q)
        → ((k : ℕ) → k < counts p x q → (x.get (child q k)).phase ≡ Finished) → StaysLawful p input x (after_end_and_finish p q x)
    leaves q there run next kids =
        let over = put (machine_of p) (ended (machine_of p)) (x.get q) in
        let y = after_end p q x in
        let one = ends x h q there run next in
        let here : y.get q ≡ over = ap (λ (b : Bool). cond b over (x.get q)) (same_self q) in
        let two = finishes y one.lawful q (subst (λ (n : Path → ℕ). IsThere levels n q) (sym one.same) there) (ap (λ (u : Task (machine_of p)). u.phase) here)
        (λ k less. ap (λ (b : Bool). (cond b over (x.get (child q k))).phase) (child_other q k) ∙ kids k (subst (λ (n : Path → ℕ). k < n q) one.same less)) in
        subst (λ (get : Path → Task (machine_of p)). StaysLawful p input x (record { get = get; store = x.store })) (twice q over (y.get q) here)
        (record { lawful = two.lawful; same = two.same ∙ one.same })
      where
        last : Task (machine_of p) → Task (machine_of p)
        last u = put (machine_of p) (in_phase (machine_of p) Finished) u

        twice : (q : Path) (over u : Task (machine_of p)) → u ≡ over → set_at q (last u) (set_at q over x.get) ≡ set_at q (last over) x.get
        twice q over u e = fun_ext (λ r. one_of (same_path r q) r)
          where
            one_of : (b : Bool) (r : Path) → cond b (last u) (cond b over (x.get r)) ≡ cond b (last over) (x.get r)
            one_of true r = ap last e
            one_of false r = refl
