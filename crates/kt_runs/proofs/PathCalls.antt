-- The calls of a lawful core fit their paths.
use Rattle.std.proofs.Common.{◌≡◌, ◌<◌, ◌≤◌, ◌+◌, ℕ, zero, suc, Bool, true, false, List, [], ◌∷◌, ◌++◌, length, map, Option, Some, None, inl, inr, refl, sym, ap, subst, ◌∙◌, arith}
use Rattle.kt_law.specs.declared.limits.TheConstants.{DEPTH}
use Rattle.kt_order.specs.Body.{Keeps, Stop, Do, Fork}
use Rattle.kt_order.specs.Machine.{Code}
use Rattle.kt_order.specs.Laws.{Within, Laws}
use Rattle.kt_order.specs.Forest.{Forest}
use Rattle.kt_order.specs.Trace.{hearing}
use Rattle.kt_order.specs.Stand.{Standing, stand}
use Rattle.kt_order.proofs.Stands.{stand_none, some_is, fork_some}
use Rattle.kt_order.specs.Lawful.{TaskOk}
use Rattle.kt_order.specs.Paths.{HasRoom}
use Rattle.kt_order.specs.Named.{forks_in}
use Rattle.kt_order.proofs.PathThere.{there_child, child_there}
use Rattle.kt_order.proofs.PathKids.{EachFrom, ForksFrom, stand_from, at_kids, kid_call}
use Rattle.kt_order.proofs.Nodes.{node_is, left_is}
use Rattle.kt_prog.specs.Calls.{CallTree, Job, Whole, Index, index_of}
use Rattle.kt_prog.specs.Laws.{BodiesKeep}
use Rattle.kt_prog.specs.Script.{Script, Step, ◌>>=◌, give, fork}
use Rattle.kt_prog.specs.Bodies.{script_with, script_of, indexes, call_body}
use Rattle.kt_prog.specs.Operations.{is_loop_at}
use Rattle.kt_prog.specs.Accepted.{IsAccepted}
use Rattle.kt_prog.specs.Fits.{Fits, is_main, is_call, FitsJob}
use Rattle.kt_prog.specs.Rights as K
use Rattle.kt_prog.specs.Rights.{Forks}
use Rattle.kt_prog.specs.Reference.{Placed, placed, placed_fork, machine_of, main_placed, opened_with}
use Rattle.kt_prog.specs.declared.programs.Program.{Program}
use Rattle.kt_rights.specs.Rights.{Handed}
use Rattle.kt_runs.specs.Plans.{plan_of}
use Rattle.kt_runs.specs.Rights.{rights_in}
use Rattle.kt_runs.specs.Theorems.{whole_at}
use Rattle.kt_runs.specs.ByPath.{Path, child, levels, ByPath, IsLawfulByPath, counts, IsTask, ForksNext, IsPlacedAt}
use Rattle.kt_runs.proofs.Zeroes.{behind_zeroing}
use Rattle.kt_runs.proofs.Indexes.{loop_does}
use Rattle.kt_runs.proofs.Forked.{no_length}
use Rattle.kt_runs.proofs.PathLists.{map_snoc, length_snoc, snoc_view, no_snoc, room_in}

module _ (p : Program) where
  -- the k-th fork of a body, counted from 0
  abbrev IsFork : List ℕ → Job → ℕ → Placed → Type 0
  IsFork path job k d = Forks p job d.job × (d ≡ placed_fork path (suc k) d.job)

  fork_is : (path : List ℕ) (job next : Job) (k : ℕ) → Forks p job next → IsFork path job k (placed_fork path (suc k) next)
  fork_is path job (Whole call) k f = (f, refl)
  fork_is path job (Index call i) k f = (f, refl)

  forks_are : (path : List ℕ) (job : Job) (k : ℕ) (w : Script) → Keeps (K.Directly p job) (Forks p job) w
      → ForksFrom (machine_of p) (IsFork path job) k (placed path (suc k) w)
  forks_are path job k (Stop f) keeps = tt
  forks_are path job k (Do q next) keeps = λ a. forks_are path job k (next a) (keeps.1 a)
  forks_are path job k (Fork next w) keeps = (fork_is path job next k keeps.0, forks_are path job (suc k) w keeps.1)

  -- a loop forks its indexes in order
  abbrev IsIndexOf : CallTree → ℕ → Placed → Type 0
  IsIndexOf c k d = d.job ≡ Index c k

  indexes_from : (c : CallTree) (path : List ℕ) (j i n : ℕ) → ForksFrom (machine_of p) (IsIndexOf c) i (placed path j (indexes c i n (λ _. Stop None)))
  unfolding ◌>>=◌ fork give
  indexes_from c path j i zero = tt
  indexes_from c path j i (suc n) = (refl, indexes_from c path (suc j) (suc i) n)

  loop_forks : (c : CallTree) (path : List ℕ) → is_loop_at p c.task ≡ true
      → ForksFrom (machine_of p) (IsIndexOf c) 0 (placed path 1 (script_of p (Whole c)))
  unfolding script_with
  loop_forks c path loop =
      behind_zeroing p (λ w. ForksFrom (machine_of p) (IsIndexOf c) 0 (placed path 1 w)) (λ q next h. h) c.accesses (call_body (λ w. w) p c c.task)
      (subst (λ (s : Step (Unit {0})). ForksFrom (machine_of p) (IsIndexOf c) 0 (placed path 1 (s (λ _. Stop None)))) (sym (loop_does p c c.task loop)) (indexes_from c path 1 0 c.length))

  -- what keeps within rights hands its forks on
  within_forks : (D : _ → Type 0) (H : Placed → Type 0) (E : Placed → _ → Type 0) (k : ℕ) (w : Code (machine_of p)) → Within (machine_of p) D H E w
      → ForksFrom (machine_of p) (λ k d. H d) k w
  within_forks D H E k (Stop f) h = tt
  within_forks D H E k (Do q next) h = λ a. within_forks D H E k (next a) (h.1 a)
  within_forks D H E k (Fork c w) h = (h.0, within_forks D H E (suc k) w h.2)

  -- what is left to fork goes on with the next number
  left_from : (Q : ℕ → Placed → Type 0) (k : ℕ) (w : Code (machine_of p)) (answers : List ℕ) (n : ℕ) (st : Standing (machine_of p))
      → stand (machine_of p) w answers n ≡ Some st → ForksFrom (machine_of p) Q k w → ForksFrom (machine_of p) Q (k + length st.forks) st.left
  left_from Q k w answers zero st e h =
      let s = (stand_none (machine_of p) w answers st e).1 in
      let same : k ≡ k + length st.forks = let none : length st.forks ≡ 0 = ap (λ (y : Standing (machine_of p)). length y.forks) s in omega (arith, none) in
      subst (λ (i : ℕ). ForksFrom (machine_of p) Q i st.left) same (subst (λ (y : Standing (machine_of p)). ForksFrom (machine_of p) Q k y.left) (sym s) h)
  left_from Q k (Stop f) [] (suc zero) st e h =
      subst (λ (y : Standing (machine_of p)). ForksFrom (machine_of p) Q (k + length y.forks) y.left) (some_is (machine_of p) (record { left = Stop f; forks = []; over = true }) st e) tt
  left_from Q k (Stop f) [] (suc (suc n)) st e h = absurd (cc e)
  left_from Q k (Stop f) (a ∷ more) (suc n) st e h = absurd (cc e)
  left_from Q k (Do q next) answers (suc n) st e h = heard ((machine_of p).asks q) answers e (λ a more g. left_from Q k (next a) more n st g (h a))
    where
      heard : (asks : Bool) (answers : List ℕ) → hearing (machine_of p) asks None (λ a more. stand (machine_of p) (next a) more n) answers ≡ Some st
          → ((a : ℕ) (more : List ℕ) → stand (machine_of p) (next a) more n ≡ Some st → ForksFrom (machine_of p) Q (k + length st.forks) st.left)
          → ForksFrom (machine_of p) Q (k + length st.forks) st.left
      heard true [] g f = absurd (cc g)
      heard true (a ∷ more) g f = f a more g
      heard false answers g f = f 0 answers g
  left_from Q k (Fork c w) answers (suc n) st e h =
      let s = fork_some (machine_of p) c (stand (machine_of p) w answers n) st e in
      let same : suc k + length s.0.forks ≡ k + suc (length s.0.forks) = omega arith in
      subst (λ (y : Standing (machine_of p)). ForksFrom (machine_of p) Q (k + length y.forks) y.left) (sym s.2)
      (subst (λ (i : ℕ). ForksFrom (machine_of p) Q i s.0.left) same (left_from Q (suc k) w answers n s.0 s.1 h.1))

  pub fits_deep : (call : CallTree) → Fits p call → call.depth ≤ DEPTH
  fits_deep call (is_main e) = subst (λ (c : CallTree). c.depth ≤ DEPTH) (sym e) (omega arith)
  fits_deep call (is_call t at fits) = fits.deep

  -- what hands on is a call, and no index
  pub hands_on_whole : (c d : Placed) → Handed (plan_of p) c d → index_of c.job ≡ None
  hands_on_whole c d h = elim h.how [ inl how ↦ how.whole | inr how ↦ how.loop ]

  pub whole_of : (job : Job) → index_of job ≡ None → (call : CallTree) × (job ≡ Whole call)
  whole_of (Whole call) e = (call, refl)
  whole_of (Index call i) e = absurd (cc e)

  module _ (input : List ℕ) (l : Laws (machine_of p) (rights_in p)) (x : ByPath p) (h : IsLawfulByPath p input x) where
    -- the law of the task at a path
    pub task_law : (X : Type 0) (q : Path) → IsTask p x q → ((kids : Forest (machine_of p)) → TaskOk (machine_of p) (rights_in p) (x.get q) kids → X) → X
    task_law X q there f = at_kids (machine_of p) levels (rights_in p) main_placed (opened_with p.families input) x h X q there (λ kids is ok. f kids ok)

    pub fits_at : (q : Path) → IsTask p x q → FitsJob p (x.get q).call.job
    fits_at q there = task_law (FitsJob p (x.get q).call.job) q there (λ kids ok. ok.fits)

    fork_call : (Q : ℕ → Placed → Type 0) (z : Path) (k : ℕ) → IsTask p x (child z k) → ForksFrom (machine_of p) Q 0 ((machine_of p).tree (x.get z).call) → Q k (x.get (child z k)).call
    fork_call Q z k there forks = kid_call (machine_of p) levels (rights_in p) main_placed (opened_with p.families input) x h Q z k there forks

    pub parent_there : (z : Path) (k : ℕ) → IsTask p x (child z k) → IsTask p x z × (k < counts p x z)
    parent_there z k there = let a = there_child levels (counts p x) z k there in (a.0, a.1)

    -- a child is handed on by its parent
    pub kid_handed : (z : Path) (k : ℕ) → IsTask p x (child z k) → Handed (plan_of p) (x.get z).call (x.get (child z k)).call
    kid_handed z k there =
        let within = l.within (x.get z).call (fits_at z (parent_there z k there).0) in
        fork_call (λ k d. Handed (plan_of p) (x.get z).call d) z k there (within_forks _ (Handed (plan_of p) (x.get z).call) _ 0 ((machine_of p).tree (x.get z).call) within)

    -- the children of a loop are its indexes
    pub kid_of_loop : (z : Path) (k : ℕ) → IsTask p x (child z k) → (c : CallTree) → (x.get z).call.job ≡ Whole c → is_loop_at p c.task ≡ true
        → (x.get (child z k)).call.job ≡ Index c k
    kid_of_loop z k there c is loop =
        fork_call (IsIndexOf c) z k there (subst (λ (job : Job). ForksFrom (machine_of p) (IsIndexOf c) 0 (placed (x.get z).call.path 1 (script_of p job))) (sym is) (loop_forks c (x.get z).call.path loop))

    module _ (bodies : BodiesKeep) (ok : IsAccepted p) where
      kid_is : (z : Path) (k : ℕ) → IsTask p x (child z k) → IsFork (x.get z).call.path (x.get z).call.job k (x.get (child z k)).call
      kid_is z k there =
          let c = (x.get z).call in
          fork_call (IsFork c.path c.job) z k there (forks_are c.path c.job 0 (script_of p c.job) (bodies (λ w. w) p ok c.job (fits_at z (parent_there z k there).0)))

      -- a call that the loop or the task at z forks as its k-th
      module _ (z : Path) (k : ℕ) (c : CallTree) (is : (x.get z).call.job ≡ Whole c) (d : Placed) (f : Forks p (Whole c) d.job)
          (e : d ≡ placed_fork (x.get z).call.path (suc k) d.job) (of_loop : is_loop_at p c.task ≡ true → d.job ≡ Index c k) where
        forked_path : (job : Job) → d.job ≡ job → d.path ≡ (placed_fork (x.get z).call.path (suc k) job).path
        forked_path job is = ap (λ (y : Placed). y.path) e ∙ ap (λ (j : Job). (placed_fork (x.get z).call.path (suc k) j).path) is

        -- a call with a length is a loop's
        loop_is : Fits p c → (i : ℕ) → i < c.length → (b : Bool) → is_loop_at p c.task ≡ b → is_loop_at p c.task ≡ true
        loop_is fits i less true loop = loop
        loop_is fits i less false loop = let none = no_length p c fits loop in absurd (omega (arith, none, less))

        forked_placed : IsPlacedAt p x z (x.get z).call → IsPlacedAt p x (child z k) d
        forked_placed fit = by_job d.job refl f (subst (λ (job : Job). IsPlacedAt p x z (record { path = (x.get z).call.path; job = job })) is fit)
          where
            by_job : (job : Job) → d.job ≡ job → Forks p (Whole c) job → ((x.get z).call.path ≡ map suc z) × (c.depth ≡ length z) × Fits p c
                → IsPlacedAt p x (child z k) (record { path = d.path; job = job })
            by_job (Whole call) same g up = (
              forked_path (Whole call) same ∙ (ap (λ (y : List ℕ). y ++ suc k ∷ []) up.0 ∙ sym (map_snoc z k)),
              g.deeper ∙ (ap suc up.1 ∙ sym (length_snoc z k)),
              g.fits,
            )
            by_job (Index call i) same g up =
                let loop = loop_is up.2 i g.1 (is_loop_at p c.task) refl in
                let number : i ≡ k = index_one (sym same ∙ of_loop loop) in
                let calls : c ≡ call = sym g.0 in (
                  z,
                  ap (child z) (sym number),
                  forked_path (Index call i) same ∙ up.0,
                  (λ t. record { path = up.0 t; job = is t }) ∙ ap (λ (y : CallTree). whole_at (map suc z) y) calls,
                  subst (λ (y : CallTree). is_loop_at p y.task ≡ true) calls loop,
                  subst (λ (y : CallTree). i < y.length) calls g.1,
                )
              where
                index_one : Index call i ≡ Index c k → i ≡ k
                index_one a = cc

      no_index_forks : (z : Path) (k : ℕ) → IsTask p x (child z k) → (c : CallTree) (i : ℕ) → (x.get z).call.job ≡ Index c i → ⊥
      no_index_forks z k there c i is = subst (λ (job : Job). Forks p job (x.get (child z k)).call.job) is (kid_is z k there).0

      kid_fits : (z : Path) (k : ℕ) → IsTask p x (child z k) → (job : Job) → (x.get z).call.job ≡ job → IsPlacedAt p x z (x.get z).call → IsPlacedAt p x (child z k) (x.get (child z k)).call
      kid_fits z k there (Whole c) is up =
          let d = (x.get (child z k)).call in
          let fork = kid_is z k there in
          forked_placed z k c is d (subst (λ (job : Job). Forks p job d.job) is fork.0) fork.1 (λ loop. kid_of_loop z k there c is loop) up
      kid_fits z k there (Index c i) is up = absurd (no_index_forks z k there c i is)

      main_call_is : (x.get []).call ≡ main_placed
      main_call_is = one (h.alone)
        where
          one : {cs : List Placed} → (x.get []).call ∷ cs ≡ main_placed ∷ [] → (x.get []).call ≡ main_placed
          one e = cc

      main_fits : IsPlacedAt p x [] (x.get []).call
      main_fits = subst (IsPlacedAt p x []) (sym main_call_is) (refl, refl, is_main refl)

      fits_within : (n : ℕ) (q : Path) → length q ≤ n → IsTask p x q → IsPlacedAt p x q (x.get q).call
      fits_within n [] less there = main_fits
      fits_within zero (k ∷ q) less there = absurd (omega (arith, less))
      fits_within (suc n) (k ∷ q) less there = elim (snoc_view (k ∷ q)) [
        | inl e ↦ absurd (no_snoc [] k (let none : k ∷ q ≡ [] = e in absurd (cc none)))
        | inr v ↦
            let short : suc (length v.0) ≤ suc n = subst (λ (m : ℕ). m ≤ suc n) (ap length v.2 ∙ length_snoc v.0 v.1) less in
            let here = subst (IsTask p x) v.2 there in
            subst (λ (y : Path). IsPlacedAt p x y (x.get y).call) (sym v.2)
            (kid_fits v.0 v.1 here (x.get v.0).call.job refl (fits_within n v.0 (omega (arith, short)) (parent_there v.0 v.1 here).0))
      ]

      pub calls_fit : (q : Path) → IsTask p x q → IsPlacedAt p x q (x.get q).call
      calls_fit q there = fits_within (length q) q (omega arith) there

      -- a task that forks has room below its path
      whole_room : (q : Path) → IsTask p x q → (c : CallTree) → (x.get q).call.job ≡ Whole c → HasRoom levels q
      whole_room q there c is =
          let fit = subst (λ (job : Job). IsPlacedAt p x q (record { path = (x.get q).call.path; job = job })) is (calls_fit q there) in
          let deep = fits_deep c fit.2 in
          let long = fit.1 in
          room_in levels q (omega (arith, deep, long))

      pub fork_room : (q : Path) → IsTask p x q → (c : Placed) → ForksNext p c (x.get q) → HasRoom levels q
      fork_room q there c next =
          let handed = task_law (Handed (plan_of p) (x.get q).call c) q there (λ kids law. (subst (Within (machine_of p) _ (Handed (plan_of p) (x.get q).call) _) next.1 (node_is (machine_of p) (rights_in p) l (x.get q) kids law).within).0) in
          let w = whole_of (x.get q).call.job (hands_on_whole (x.get q).call c handed) in
          whole_room q there w.0 w.1

      none_left : (q : Path) (forks : List Placed) (c : CallTree) (i : ℕ) → (x.get q).call.job ≡ Index c i
          → EachFrom (machine_of p) (IsFork (x.get q).call.path (x.get q).call.job) 0 forks → length forks ≡ 0
      none_left q [] c i is all = refl
      none_left q (d ∷ forks) c i is all = absurd (subst (λ (job : Job). Forks p job d.job) is all.0.0)

      pub no_children : (q : Path) → IsTask p x q → (c : CallTree) (i : ℕ) → (x.get q).call.job ≡ Index c i → counts p x q ≡ 0
      no_children q there c i is =
          let u = (x.get q).call in
          task_law (counts p x q ≡ 0) q there (λ kids law.
          ap (λ (o : Option (Standing (machine_of p))). length (forks_in (machine_of p) o)) law.stands
          ∙ none_left q law.st.forks c i is (stand_from (machine_of p) (IsFork u.path u.job) 0 ((machine_of p).tree u) (x.get q).answers (x.get q).done law.st law.stands
          (forks_are u.path u.job 0 (script_of p u.job) (bodies (λ w. w) p ok u.job law.fits))))

      pub child_room : (q : Path) (k : ℕ) → IsTask p x q → k < counts p x q → HasRoom levels q
      child_room q k there less = by_job (x.get q).call.job refl
        where
          by_job : (job : Job) → (x.get q).call.job ≡ job → HasRoom levels q
          by_job (Whole c) is = whole_room q there c is
          by_job (Index c i) is = let none = no_children q there c i is in absurd (omega (arith, none, less))

      pub children_there : (q : Path) (k : ℕ) → IsTask p x q → k < counts p x q → IsTask p x (child q k)
      children_there q k there less = child_there levels (counts p x) q k there less (child_room q k there less)

      -- what the task at a path forks next
      next_fork : (Q : ℕ → Placed → Type 0) (q : Path) → IsTask p x q → (c : Placed) → ForksNext p c (x.get q)
          → ForksFrom (machine_of p) Q 0 ((machine_of p).tree (x.get q).call) → Q (counts p x q) c
      next_fork Q q there c next forks = task_law (Q (counts p x q) c) q there (λ kids law.
          let length_is : counts p x q ≡ length law.st.forks = ap (λ (o : Option (Standing (machine_of p))). length (forks_in (machine_of p) o)) law.stands in
          let many : counts p x q ≡ 0 + length law.st.forks = omega (arith, length_is) in
          let from = left_from Q 0 ((machine_of p).tree (x.get q).call) (x.get q).answers (x.get q).done law.st law.stands forks in
          let is : law.st.left ≡ Fork c next.0 = sym (left_is (machine_of p) (rights_in p) l (x.get q) kids law) ∙ next.1 in
          let first = subst (ForksFrom (machine_of p) Q (0 + length law.st.forks)) is from in
          subst (λ (i : ℕ). Q i c) (sym many) first.0)

      pub next_fits : (q : Path) → IsTask p x q → (c : Placed) → ForksNext p c (x.get q) → IsPlacedAt p x (child q (counts p x q)) c
      next_fits q there c next =
          let u = (x.get q).call in
          let fork = next_fork (IsFork u.path u.job) q there c next (forks_are u.path u.job 0 (script_of p u.job) (bodies (λ w. w) p ok u.job (fits_at q there))) in
          by_job u.job refl fork
        where
          by_job : (job : Job) → (x.get q).call.job ≡ job → IsFork (x.get q).call.path (x.get q).call.job (counts p x q) c → IsPlacedAt p x (child q (counts p x q)) c
          by_job (Whole call) is fork =
              forked_placed q (counts p x q) call is c (subst (λ (job : Job). Forks p job c.job) is fork.0) fork.1
              (λ loop. next_fork (IsIndexOf call) q there c next
              (subst (λ (job : Job). ForksFrom (machine_of p) (IsIndexOf call) 0 (placed (x.get q).call.path 1 (script_of p job))) (sym is) (loop_forks call (x.get q).call.path loop)))
              (calls_fit q there)
          by_job (Index call i) is fork = absurd (subst (λ (job : Job). Forks p job c.job) is fork.0)
