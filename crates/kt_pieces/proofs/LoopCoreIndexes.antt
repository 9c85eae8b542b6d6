-- Each kind of event on an index of a loop: the laws of the theory, said of where the tasks lie.
use Rattle.std.proofs.Common.{◌≡◌, ℕ, suc, ◌<◌, List, map, sym, refl, ap, ◌∙◌, subst, inl, inr, arith, Option}
use mathlib.Core.Option.{none, some, some-injective, some-ne-none}
use lib.ListN.{get_elem?}
use Rattle.kt_law.specs.Acts.{Act}
use Rattle.kt_order.specs.Body.{Do, Stop}
use Rattle.kt_order.specs.Machine.{Machine, Code}
use Rattle.kt_order.specs.Laws.{Laws}
use Rattle.kt_order.specs.Forest.{Task, Unclaimed, Running, Finished}
use Rattle.kt_order.specs.Rest.{standing, left}
use Rattle.kt_order.specs.Events as events
use Rattle.kt_order.specs.Events.{in_phase, did, ended, MayPass}
use Rattle.kt_order.specs.Lawful.{Lawful}
use Rattle.kt_order.specs.Paths.{set_at, IsThere, Earlier}
use Rattle.kt_order.specs.Named.{Named, named, count_of, forks_in}
use Rattle.kt_order.proofs.Squares.{count_kept}
use Rattle.kt_order.proofs.ByPaths.{at_path, kept_claim, kept_finish, kept_end, kept_do, forks_after_end, forks_after_do}
use Rattle.kt_order.proofs.PathThere.{there_child, child_there, earlier_by, below_by}
use Rattle.kt_prog.specs.Calls.{Index}
use Rattle.kt_prog.specs.Script.{Fault}
use Rattle.kt_prog.specs.Laws.{BodiesKeep, LoopsAreDirect}
use Rattle.kt_prog.specs.Accepted.{IsAccepted}
use Rattle.kt_prog.specs.Fits.{FitsJob}
use Rattle.kt_prog.specs.Reference.{Placed, machine_of, main_placed, opened_with}
use Rattle.kt_runs.specs.Rights.{rights_in}
use Rattle.kt_runs.specs.ByPath.{Path, child, levels}
use Rattle.kt_runs.proofs.Indexes.{two_apart}
use Rattle.kt_rule.specs.declared.views.Setup.{Setup}
use Rattle.kt_rule.specs.Paths.{put}
use Rattle.kt_rule.specs.Lies.{IndexLie, Lie, Lies, index_of, task_of, get_of, core_of, counts_of, forks_of, IsHere, Cored}
use Rattle.kt_rule.proofs.Puts.{parent_is, number_is}
use Rattle.kt_rule.proofs.Cores.{set_here, set_twice}
use Rattle.kt_pieces.proofs.LoopCores.{TurnsIndex, index_got, index_turns}

module _ (j : Setup) (l : Laws (machine_of j.program) (rights_in j.program)) (lies : Lies) (store : List ℕ) (c : Cored j lies store)
    (p : Path) (t : Lie) (is : lies p ≡ some t) (bare : (i : ℕ) → lies (child p i) ≡ none) where
  abbrev m : Machine
  m = machine_of j.program

  abbrev T : Type 0
  T = Task (machine_of j.program)

  abbrev root_store : List ℕ
  root_store = opened_with j.program.families j.input

  abbrev x0 : Named m
  x0 = core_of j lies store

  abbrev LawfulAt : (Path → Task (machine_of j.program)) → List ℕ → Type 0
  LawfulAt get s = Lawful m (rights_in j.program) main_placed root_store (named m levels (record { get = get; store = s }))

  abbrev kids : Task (machine_of j.program) → List Placed
  kids v = forks_in m (standing m v)

  abbrev Passes : T → T → Type 0
  Passes = MayPass m (rights_in j.program)

  got_index : (i : ℕ) (x : IndexLie) → get_elem? t.indexes i ≡ some x → get_of j lies (child p i) ≡ index_of j p t.berth.call i (some x)
  got_index i x at = index_got j lies store c p t is t bare i x at

  pub index_here : (i : ℕ) (x : IndexLie) → get_elem? t.indexes i ≡ some x → IsHere j lies (child p i)
  index_here i x at = c.index_there p t i x is at

  -- what is there below the loop is an index
  pub index_known : (i : ℕ) → IsHere j lies (child p i) → (x : IndexLie) × (get_elem? t.indexes i ≡ some x)
  index_known i h = elim (c.all (child p i) h) [
    | inl (y, y_is) ↦ absurd (some-ne-none y (sym y_is ∙ bare i))
    | inr (y, x, y_is, at) ↦ (
      x,
      ap (λ (z : Lie). get_elem? z.indexes i) (some-injective t y (sym is ∙ (ap lies (sym (parent_is p i)) ∙ y_is)))
          ∙ (ap (get_elem? y.indexes) (sym (number_is p i)) ∙ at),
    )
  ]

  module _ (i : ℕ) (x : IndexLie) (at : get_elem? t.indexes i ≡ some x) where
    abbrev old : Task (machine_of j.program)
    old = index_of j p t.berth.call i (some x)

    abbrev q : Path
    q = child p i

    abbrev getq : Task (machine_of j.program)
    getq = get_of j lies q

    here : IsHere j lies q
    here = index_here i x at

    got : getq ≡ old
    got = got_index i x at

    -- the loop's call fits, and has such an index
    pub index_fits : FitsJob j.program (Index t.berth.call i)
    index_fits = at_path m levels (rights_in j.program) l main_placed root_store (FitsJob j.program (Index t.berth.call i)) q x0 here c.lawful
        (λ below ok. subst (λ (z : T). FitsJob j.program z.call.job) got ok.fits)

    abbrev Turns : Lie → IndexLie → Type 0
    Turns u y = TurnsIndex t u i y × (task_of j p u ≡ task_of j p t)

    -- no index stands in the way of another one
    pub index_passes : BodiesKeep → LoopsAreDirect → IsAccepted j.program → Earlier m Passes q (get_of j lies)
    index_passes bodies direct ok = earlier_by m Passes p i (get_of j lies) (λ k less. passes k less)
      where
        passes : (k : ℕ) → k < i → Passes (get_of j lies (child p k)) (get_of j lies (child p i))
        passes k less =
            let up = there_child levels (counts_of j lies) p i here in
            let number = up.1 in
            let known = index_known k (child_there levels (counts_of j lies) p k up.0 (omega arith) up.2) in
            let apart = two_apart j.program bodies direct ok (map suc p) t.berth.call k i index_fits.0
            (let in_call = index_fits.1 in omega arith) (λ e. omega arith) in
            inr (subst (λ (z : T). (rights_in j.program).Apart z.call getq.call) (sym (got_index k known.0 known.1))
            (subst (λ (z : T). (rights_in j.program).Apart (record { path = map suc p; job = Index t.berth.call k }) z.call) (sym got) apart))

    -- a claim
    pub index_claims : BodiesKeep → LoopsAreDirect → IsAccepted j.program → (u : Lie) (y : IndexLie) → Turns u y
        → index_of j p t.berth.call i (some y) ≡ events.put m (in_phase m Running) old → x.phase ≡ Unclaimed → Cored j (put lies p (some u)) store
    index_claims bodies direct ok u y turn e waits =
        index_turns j lies store c p t is u bare i y turn.0 x at turn.1 (events.put m (in_phase m Running)) store e refl
        (kept_claim m levels (rights_in j.program) l main_placed root_store q x0 here
        (ap (λ (z : T). z.phase) got ∙ waits) (index_passes bodies direct ok) c.lawful)

    module _ (runs : x.phase ≡ Running) where
      runs_there : getq.phase ≡ Running
      runs_there = ap (λ (z : T). z.phase) got ∙ runs

      -- a load, a store or a fold
      module _ (d : Act) (k : ℕ → Code (machine_of j.program)) (next : left m old ≡ Do d k) where
        next_there : left m getq ≡ Do d k
        next_there = ap (left m) got ∙ next

        pub index_does : (u : Lie) (y : IndexLie) → Turns u y
            → index_of j p t.berth.call i (some y) ≡ events.put m (did m d (m.answer d store)) old
            → Cored j (put lies p (some u)) (m.after d store)
        index_does u y turn e =
            index_turns j lies store c p t is u bare i y turn.0 x at turn.1 (events.put m (did m d (m.answer d store))) (m.after d store) e
            (forks_after_do m levels (rights_in j.program) l main_placed root_store d k q x0 here runs_there next_there c.lawful)
            (kept_do m levels (rights_in j.program) l main_placed root_store d k q x0 here runs_there next_there c.lawful)

      -- its end or fault, and then its finish
      module _ (f : Option Fault) (next : left m old ≡ Stop f) (leaf : forks_of j old ≡ 0) where
        stop_there : left m getq ≡ Stop f
        stop_there = ap (left m) got ∙ next

        abbrev both : T → T
        both v = events.put m (in_phase m Finished) (events.put m (ended m) v)

        abbrev over : Task (machine_of j.program)
        over = events.put m (ended m) getq

        abbrev get1 : Path → Task (machine_of j.program)
        get1 = set_at q over (get_of j lies)

        kids_over : kids over ≡ kids getq
        kids_over = forks_after_end m levels (rights_in j.program) l main_placed root_store f q x0 here runs_there stop_there c.lawful

        counts1 : count_of m get1 ≡ counts_of j lies
        counts1 = count_kept m (get_of j lies) q over kids_over

        none_below : counts_of j lies q ≡ 0
        none_below = ap (forks_of j) got ∙ leaf

        now_is : set_at q (events.put m (in_phase m Finished) (get1 q)) get1 ≡ set_at q (both getq) (get_of j lies)
        now_is = ap (λ (z : T). set_at q (events.put m (in_phase m Finished) z) get1) (set_here q over over (get_of j lies))
            ∙ set_twice q over (both getq) (get_of j lies)

        pub index_ends : (u : Lie) (y : IndexLie) → Turns u y → index_of j p t.berth.call i (some y) ≡ both old
            → Cored j (put lies p (some u)) store
        index_ends u y turn e =
            index_turns j lies store c p t is u bare i y turn.0 x at turn.1 both store e kids_over
            (subst (λ (g : Path → T). LawfulAt g store) now_is
            (kept_finish m levels (rights_in j.program) l main_placed root_store q (record { get = get1; store = store })
            (subst (λ (n : Path → ℕ). IsThere levels n q) (sym counts1) here)
            (ap (λ (z : T). z.phase) (set_here q over over (get_of j lies)))
            (below_by m (λ v. v.phase ≡ Finished) levels q get1 (count_of m get1)
            (λ k less. absurd (nothing k (subst (λ (n : Path → ℕ). k < n q) counts1 less))))
            (kept_end m levels (rights_in j.program) l main_placed root_store f q x0 here runs_there stop_there c.lawful)))
          where
            nothing : (k : ℕ) → k < counts_of j lies q → ⊥
            nothing k less = let none_left = none_below in omega arith
