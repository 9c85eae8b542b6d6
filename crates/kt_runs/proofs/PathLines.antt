-- Of two tasks in one line the modes agree, by paths; and what a core with main finished has.
use Rattle.std.proofs.Common.{◌≡◌, ℕ, zero, suc, true, false, List, [], ◌∷◌, ◌++◌, map, Some, None, inl, inr, refl, sym, ap, subst, ◌∙◌}
use Rattle.kt_law.specs.Laws.{AgreementIsSymmetric, HandsOnLess}
use Rattle.kt_order.specs.Lists.{SomeOf}
use Rattle.kt_order.specs.Sequential.{Run}
use Rattle.kt_order.specs.Shown.{entry_of, Begins}
use Rattle.kt_order.proofs.PathBegins.{path_begins}
use Rattle.kt_order.specs.Laws.{Laws}
use Rattle.kt_order.specs.Forest.{Finished}
use Rattle.kt_order.specs.Places.{Stands}
use Rattle.kt_order.specs.Paths.{shift, IsThere, place_of}
use Rattle.kt_order.proofs.PathsAt.{tree_at}
use Rattle.kt_order.proofs.PathDone.{done_there, run_is}
use Rattle.kt_order.proofs.Prefixes.{above_place}
use Rattle.kt_order.proofs.Agree.{upper_goes_past}
use Rattle.kt_prog.specs.Calls.{CallTree, Job, Whole, Index, index_of}
use Rattle.kt_prog.specs.Laws.{BodiesKeep}
use Rattle.kt_prog.specs.Operations.{is_loop_at}
use Rattle.kt_prog.specs.Accepted.{IsAccepted}
use Rattle.kt_prog.specs.Entries.{tasks_of, indexes_of, faults_of}
use Rattle.kt_prog.specs.Reference.{Placed, machine_of, main_placed, opened_with, reference}
use Rattle.kt_prog.specs.declared.programs.Program.{Program}
use Rattle.kt_rights.specs.Rights.{HandsOn, Obeys}
use Rattle.kt_rights.specs.Theorems.{DirectModesAgree}
use Rattle.kt_runs.specs.Plans.{plan_of}
use Rattle.kt_runs.specs.Rights.{rights_in}
use Rattle.kt_runs.specs.Theorems.{whole_at}
use Rattle.kt_runs.specs.ByPath.{Path, child, levels, ByPath, core_of, IsLawfulByPath, counts, IsTask, paths_of, IsPlacedAt, GivesReferenceByPath}
use Rattle.kt_rights.proofs.Lines.{line_first, line_chain, direct_by}
use Rattle.kt_runs.proofs.PathsListed.{In, in_map, there_in}
use Rattle.kt_runs.proofs.PathLists.{snoc_same}
use Rattle.kt_runs.proofs.PathCalls.{fits_at, parent_there, kid_handed, calls_fit}

there_front : (depth : ℕ) (count : List ℕ → ℕ) (p q : List ℕ) → IsThere depth count (p ++ q) → IsThere depth count p
there_front depth count [] q there = tt
there_front zero count (k ∷ p) q there = absurd there
there_front (suc depth) count (k ∷ p) q there = (there.0, there_front depth (shift k count) p q there.1)

snoc_append : (a : List ℕ) (k : ℕ) (q : List ℕ) → (a ++ k ∷ []) ++ q ≡ a ++ k ∷ q
snoc_append [] k q = refl
snoc_append (j ∷ a) k q = ap (λ r. j ∷ r) (snoc_append a k q)

pub stands : (p : Program) (x : ByPath p) (q : Path) → IsTask p x q → Stands (machine_of p) (x.get q) (place_of q) (core_of p x).forest
stands p x q there = tree_at (machine_of p) (λ u kids. u ≡ x.get q) levels x.get (counts p x) q there refl

pub begins : (p : Program) (input : List ℕ) (x : ByPath p) → IsLawfulByPath p input x → (q : Path) → IsTask p x q
    → SomeOf (Begins (machine_of p) (x.get q)) (reference p input).entries
unfolding reference
begins p input x h q there = path_begins (machine_of p) (rights_in p) levels main_placed (opened_with p.families input) x h q there

module _ (p : Program) (input : List ℕ) (l : Laws (machine_of p) (rights_in p)) (x : ByPath p) (h : IsLawfulByPath p input x) where
  pub gives : (x.get []).phase ≡ Finished → GivesReferenceByPath p input x
  unfolding reference
  gives fin =
      let same = sym (run_is (machine_of p) (rights_in p) l levels main_placed (opened_with p.families input) x h fin) in
      record {
        store = ap (λ (r : Run (machine_of p)). r.store) same;
        entries = ap (λ (r : Run (machine_of p)). r.entries) same;
        tasks = ap (λ (r : Run (machine_of p)). tasks_of p r.entries) same;
        indexes = ap (λ (r : Run (machine_of p)). indexes_of p r.entries) same;
        faults = ap (λ (r : Run (machine_of p)). faults_of p r.entries) same;
        entry = λ q there. subst (In (entry_of (machine_of p) (x.get q))) (ap (λ (r : Run (machine_of p)). r.entries) same)
            (in_map (λ (y : Path). entry_of (machine_of p) (x.get y)) q (paths_of p x) (there_in levels (counts p x) q there));
        finished = λ q there. done_there (machine_of p) (rights_in p) l levels main_placed (opened_with p.families input) x h fin q there;
      }

  module _ (bodies : BodiesKeep) (ok : IsAccepted p) (symmetric : AgreementIsSymmetric) (less : HandsOnLess) (obeys : Obeys (plan_of p))
      (a : Path) (k : ℕ) (call : CallTree) (is : (x.get a).call.job ≡ Whole call) (none : is_loop_at p call.task ≡ false) where
    -- the child of a task that is no loop is a call
    kid_whole : IsTask p x (child a k) → (job : Job) → (x.get (child a k)).call.job ≡ job → index_of job ≡ None
    kid_whole there (Whole c) e = refl
    kid_whole there (Index c i) e =
        let fit = subst (λ (j : Job). IsPlacedAt p x (child a k) (record { path = (x.get (child a k)).call.path; job = j })) e (calls_fit p input l x h bodies ok (child a k) there) in
        let up : (x.get a).call ≡ whole_at (map suc a) c = subst (λ (y : Path). (x.get y).call ≡ whole_at (map suc y) c) (sym (snoc_same a fit.0 k i fit.1).0) fit.3 in
        let same : call ≡ c = one (sym is ∙ ap (λ (d : Placed). d.job) up) in
        absurd (true_false (sym (subst (λ (y : CallTree). is_loop_at p y.task ≡ true) (sym same) fit.4) ∙ none))
      where
        one : Whole call ≡ Whole c → call ≡ c
        one e = cc

        true_false : true ≡ false → ⊥
        true_false e = cc

    hands_on : IsTask p x (child a k) → HandsOn (plan_of p) (x.get a).call (x.get (child a k)).call
    hands_on there = elim (kid_handed p input l x h a k there).how [
      | inl how ↦ how
      | inr how ↦ absurd (some_none (sym (kid_whole there (x.get (child a k)).call.job refl) ∙ how.is))
    ]
      where
        some_none : {i : ℕ} → None ≡ Some i → ⊥
        some_none e = cc

    pub line_agrees : (q : Path) → IsTask p x (a ++ k ∷ q) → DirectModesAgree (plan_of p) (x.get a).call (x.get (a ++ k ∷ q)).call
    line_agrees q there = by_rest q there (there_front levels (counts p x) (child a k) q (subst (IsTask p x) (sym (snoc_append a k q)) there))
      where
        by_rest : (q : Path) → IsTask p x (a ++ k ∷ q) → IsTask p x (child a k) → DirectModesAgree (plan_of p) (x.get a).call (x.get (a ++ k ∷ q)).call
        by_rest [] there kid =
            let u = (x.get a).call in
            let d = (x.get (child a k)).call in
            direct_by symmetric less (plan_of p) obeys u d (line_first symmetric less (plan_of p) obeys u d (fits_at p input l x h a (parent_there p input l x h a k kid).0) (hands_on kid))
        by_rest (n ∷ q) there kid =
            let u = (x.get a).call in
            let d = (x.get (child a k)).call in
            let longer = snoc_append a k (n ∷ q) in
            let low = subst (IsTask p x) (sym longer) there in
            let chain = (upper_goes_past (machine_of p) (rights_in p) l (core_of p x).forest h.shape (place_of (child a k)) (place_of (child a k ++ n ∷ q))
            (x.get (child a k)) (x.get (child a k ++ n ∷ q)) (above_place (child a k) n q) (stands p x (child a k) kid) (stands p x (child a k ++ n ∷ q) low)).0 in
            subst (λ (y : Path). DirectModesAgree (plan_of p) u (x.get y).call) longer
            (direct_by symmetric less (plan_of p) obeys u (x.get (child a k ++ n ∷ q)).call
            (line_chain symmetric less (plan_of p) obeys chain.0 u d (x.get (child a k ++ n ∷ q)).call (line_first symmetric less (plan_of p) obeys u d (fits_at p input l x h a (parent_there p input l x h a k kid).0) (hands_on kid)) chain.1))
