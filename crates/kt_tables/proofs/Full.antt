-- Each path that leads to a task has a row or is that of an index, whatever event of a loop is done.
use Rattle.std.proofs.Common.{◌≡◌, ◌≢◌, ◌<◌, ◌≤◌, ℕ, zero, suc, Bool, true, false, List, [], ◌∷◌, ◌++◌, map, length, Some, None, ◌⊎◌, inl, inr, ◌&&◌, ◌||◌, refl, sym, ap, subst, ◌∙◌, arith, slice_get, slice_set}
use Rattle.kt_law.specs.declared.limits.TheConstants.{DEPTH}
use Rattle.kt_order.specs.Laws.{Laws}
use Rattle.kt_order.specs.Forest.{Task}
use Rattle.kt_order.specs.Rest.{standing}
use Rattle.kt_order.specs.Named.{count_of, forks_in}
use Rattle.kt_order.proofs.PathThere.{there_child, child_there}
use Rattle.kt_prog.specs.Laws.{BodiesKeep, LoopsAreDirect}
use Rattle.kt_prog.specs.Operations.{is_loop_at}
use Rattle.kt_prog.specs.Accepted.{IsAccepted}
use Rattle.kt_prog.specs.Reference.{machine_of}
use Rattle.kt_prog.specs.declared.programs.Program.{Program}
use Rattle.kt_runs.specs.Rights.{rights_in}
use Rattle.kt_tables.specs.Tables.{parent_of, is_child, is_finished}
use Rattle.kt_tables.specs.TableEvents.{is_looping}
use Rattle.kt_tables.specs.Tables.{IndexRow, LoopPart, TaskRow, TaskTable}
use Rattle.kt_tables.specs.TableLaws.{has_begun, tasks_by_path, Leads, ShowsLawful, Stands, as_row, as_child, AllStand}
use Rattle.kt_tables.proofs.TableRows.{the_some, get_set, get_set_other, got_set, mapped_is, map_snoc, snoc_view, parent_snoc, child_snoc, snoc_same, length_snoc}
use Rattle.kt_tables.proofs.Indexed.{got_row}
use Rattle.kt_tables.proofs.LoopShown.{index_forks, else_same}
use Rattle.kt_tables.proofs.LoopKept.{path_or, fits, none_below, here_was, child_was, begun_many}

both : (a b : Bool) → (a && b) ≡ true → (a ≡ true) × (b ≡ true)
both true b e = (refl, e)
both false b e = absurd (cc e)

number_or : (k j : ℕ) → (k ≡ j) ⊎ (k ≢ j)
number_or k j = grind arith

module _ (p : Program) (input : List ℕ) (l : Laws (machine_of p) (rights_in p)) (bodies : BodiesKeep) (direct : LoopsAreDirect) (ok : IsAccepted p) where
  module _ (x : TaskTable) (h : ShowsLawful p input x) where
    abbrev Count : List ℕ → ℕ
    Count = count_of (machine_of p) (tasks_by_path p x.tasks)

    -- the path of a row is the one that it was given
    path_is : (t : ℕ) (r : TaskRow) (at : slice_get x.tasks t ≡ Some r) (q : List ℕ) → r.path ≡ map suc q → (h.there t r at).0 ≡ q
    path_is t r at q e = mapped_is (h.there t r at).0 q (sym (h.there t r at).1 ∙ e)

    pub row_leads : (t : ℕ) (r : TaskRow) → slice_get x.tasks t ≡ Some r → (q : List ℕ) → r.path ≡ map suc q → Leads p x.tasks q
    row_leads t r at q e = subst (Leads p x.tasks) (path_is t r at q e) (h.there t r at).2

    -- a row that has indexes is a loop's that has begun
    pub begun_by : (t : ℕ) (r : TaskRow) → slice_get x.tasks t ≡ Some r → (i : ℕ) (v : IndexRow) → slice_get r.loop.indexes i ≡ Some v → has_begun p r ≡ true
    begun_by t r at i v got = by (has_begun p r) refl
      where
        by : (b : Bool) → has_begun p r ≡ b → b ≡ true
        by true e = refl
        by false e = absurd (nothing (sym (ap (λ (k : LoopPart). slice_get k.indexes i) ((h.loops t r at).other e)) ∙ got))
          where
            nothing : None ≡ Some v → ⊥
            nothing e = cc

    pub loop_of : (t : ℕ) (r : TaskRow) → has_begun p r ≡ true → is_loop_at p r.call.task ≡ true
    loop_of t r b = (both (is_looping r.phase || is_finished r.phase) (is_loop_at p r.call.task) b).1

    -- a loop that has begun has as many children as rows of indexes, and these have none
    pub count_row : (t : ℕ) (r : TaskRow) (at : slice_get x.tasks t ≡ Some r) → has_begun p r ≡ true → (q : List ℕ) → r.path ≡ map suc q → Count q ≡ length r.loop.indexes
    count_row t r at b q e =
        let loop = loop_of t r b in
        let many = begun_many p input l bodies direct ok x h t r at loop b in
        subst (λ (z : List ℕ). Count z ≡ length r.loop.indexes) (path_is t r at q e)
        (ap (λ (u : Task (machine_of p)). length (forks_in (machine_of p) (standing (machine_of p) u))) (here_was p input l bodies direct ok x h t r at loop)
        ∙ (many ∙ sym ((h.loops t r at).begun b).0))

    pub count_index : (t : ℕ) (r : TaskRow) (at : slice_get x.tasks t ≡ Some r) (i : ℕ) (v : IndexRow) → slice_get r.loop.indexes i ≡ Some v → (q : List ℕ) → r.path ≡ map suc q → Count (q ++ i ∷ []) ≡ 0
    count_index t r at i v got q e =
        let b = begun_by t r at i v got in
        let loop = loop_of t r b in
        subst (λ (z : List ℕ). Count (z ++ i ∷ []) ≡ 0) (path_is t r at q e)
        (ap (λ (u : Task (machine_of p)). length (forks_in (machine_of p) (standing (machine_of p) u))) (child_was p input l bodies direct ok x h t r at loop i)
        ∙ ap length (index_forks p bodies direct ok r (fits p input l bodies direct ok x h t r at loop) ((h.loops t r at).begun b).0 i))

  -- with another row for a loop that has begun then
  module _ (x : TaskTable) (h : ShowsLawful p input x) (t : ℕ) (r r' : TaskRow) (at : slice_get x.tasks t ≡ Some r) (loop : is_loop_at p r.call.task ≡ true)
      (path : r'.path ≡ r.path) (store : List ℕ) (h' : ShowsLawful p input (record { store = store; tasks = slice_set x.tasks t r' })) (begun : has_begun p r' ≡ true) (all : AllStand p x.tasks) where
    abbrev Q : List ℕ
    Q = (h.there t r at).0

    abbrev Tasks : List TaskRow
    Tasks = slice_set x.tasks t r'

    abbrev X' : TaskTable
    X' = record { store = store; tasks = Tasks }

    at' : slice_get Tasks t ≡ Some r'
    at' = get_set x.tasks t r r' at

    q_is : r.path ≡ map suc Q
    q_is = (h.there t r at).1

    -- what stood at another path than a child of the loop stands there
    carry : (q home : List ℕ) (k : ℕ) → q ≡ home ++ k ∷ [] → home ≢ Q → Stands p x.tasks q → Stands p Tasks q
    carry q home k e ne (as_row u s got is) = elim (number_or u t) [
      | inl same ↦ (let row : s ≡ r = the_some (sym got ∙ (ap (slice_get x.tasks) same ∙ at)) in as_row t r' at' (path ∙ (ap (λ (z : TaskRow). z.path) (sym row) ∙ is)))
      | inr differ ↦ as_row u s (get_set_other x.tasks t u r' differ ∙ got) is
    ]
    carry q home k e ne (as_child u s at_home i v got is child index) = elim (number_or u t) [
      | inl same ↦
          (let row : s ≡ r = the_some (sym got ∙ (ap (slice_get x.tasks) same ∙ at)) in
          let homes : at_home ≡ Q = mapped_is at_home Q (sym is ∙ (ap (λ (z : TaskRow). z.path) row ∙ q_is)) in
          absurd (ne ((snoc_same home at_home k i (sym e ∙ child)).0 ∙ homes)))
      | inr differ ↦ as_child u s at_home i v (get_set_other x.tasks t u r' differ ∙ got) is child index
    ]

    -- a row stands at no child of the loop
    not_below : (u : ℕ) (s : TaskRow) → slice_get x.tasks u ≡ Some s → (q : List ℕ) → s.path ≡ map suc q → q ≢ Q → Q ≢ parent_of q
    not_below u s got q is ne same = elim (snoc_view q) [
      | inl root ↦ ne (root ∙ sym (same ∙ ap parent_of root))
      | inr v ↦
          (let home : Q ≡ v.0 = same ∙ (ap parent_of v.2 ∙ parent_snoc v.0 v.1) in
          let child : is_child r.path s.path ≡ true =
          ap (is_child r.path) (is ∙ (ap (map suc) (v.2 ∙ ap (λ (z : List ℕ). z ++ v.1 ∷ []) (sym home)) ∙ map_snoc Q v.1))
          ∙ (ap (λ (z : List ℕ). is_child r.path (z ++ suc v.1 ∷ [])) (sym q_is) ∙ child_snoc r.path (suc v.1)) in
          absurd (cc (child, none_below p input l bodies direct ok x h t r at loop u s got)))
    ]

    -- the children of a path that stands
    below : (q : List ℕ) (k : ℕ) → Stands p Tasks q → Leads p Tasks (q ++ k ∷ []) → Stands p Tasks (q ++ k ∷ [])
    below q k (as_row u s got is) there =
        let parts = there_child (suc DEPTH) (Count X' h') q k there in
        elim (path_or q Q) [
          | inl home ↦
              (let less : k < Count X' h' q = parts.1 in
              let many : Count X' h' q ≡ length r'.loop.indexes = count_row X' h' t r' at' begun q (path ∙ (q_is ∙ ap (map suc) (sym home))) in
              let index = got_row r'.loop.indexes k (omega (arith, less, many)) in
              as_child t r' q k index.0 at' (path ∙ (q_is ∙ ap (map suc) (sym home))) refl index.1)
          | inr ne ↦ elim (got_set x.tasks t u r r' s at got) [
            | inl now ↦ absurd (ne (mapped_is q Q (sym is ∙ (ap (λ (z : TaskRow). z.path) now.1 ∙ (path ∙ q_is)))))
            | inr was ↦
                (let far = not_below u s was.1 q is ne in
                let same : Count X' h' q ≡ Count x h q = ap (λ (w : Task (machine_of p)). length (forks_in (machine_of p) (standing (machine_of p) w)))
                (else_same p bodies direct ok x.tasks h.once t r r' at path Q q_is (none_below p input l bodies direct ok x h t r at loop) q (λ e. ne (sym e)) far) in
                let less : k < Count X' h' q = parts.1 in
                let old = all (q ++ k ∷ []) (child_there (suc DEPTH) (Count x h) q k (row_leads x h u s was.1 q is) (omega (arith, less, same)) parts.2) in
                carry (q ++ k ∷ []) q k refl ne old)
          ]
        ]
    below q k (as_child u s home i v got is child index) there =
        let parts = there_child (suc DEPTH) (Count X' h') q k there in
        let less : k < Count X' h' q = parts.1 in
        let none : Count X' h' q ≡ 0 = ap (Count X' h') child ∙ count_index X' h' u s got i v index home is in
        absurd (omega (arith, less, none))

    root : Stands p Tasks []
    root = elim (all [] tt) as (λ _. Stands p Tasks []) [
      | as_row u s got is ↦ root_row u s got is (number_or u t)
      | as_child u s home i v got is child index ↦ absurd (no_end home i child)
    ]
      where
        no_end : (home : List ℕ) (i : ℕ) → [] ≡ home ++ i ∷ [] → ⊥
        no_end [] i e = cc
        no_end (k ∷ home) i e = cc

        root_row : (u : ℕ) (s : TaskRow) → slice_get x.tasks u ≡ Some s → s.path ≡ map suc [] → (u ≡ t) ⊎ (u ≢ t) → Stands p Tasks []
        root_row u s got is (inl same) = let row : s ≡ r = the_some (sym got ∙ (ap (slice_get x.tasks) same ∙ at)) in as_row t r' at' (path ∙ (ap (λ (z : TaskRow). z.path) (sym row) ∙ is))
        root_row u s got is (inr differ) = as_row u s (get_set_other x.tasks t u r' differ ∙ got) is

    go : (n : ℕ) (q : List ℕ) → length q ≤ n → Leads p Tasks q → Stands p Tasks q
    go zero q short there = elim (snoc_view q) [
      | inl e ↦ subst (Stands p Tasks) (sym e) root
      | inr v ↦ (let a = length_snoc v.0 v.1 in let b = ap length v.2 in absurd (omega (arith, short, a, b)))
    ]
    go (suc n) q short there = elim (snoc_view q) [
      | inl e ↦ subst (Stands p Tasks) (sym e) root
      | inr v ↦
          (let a = length_snoc v.0 v.1 in
          let b = ap length v.2 in
          let leads = subst (Leads p Tasks) v.2 there in
          let parent = go n v.0 (omega (arith, short, a, b)) (there_child (suc DEPTH) (Count X' h') v.0 v.1 leads).0 in
          subst (Stands p Tasks) (sym v.2) (below v.0 v.1 parent leads))
    ]

    pub all_kept : AllStand p Tasks
    all_kept q there = go (length q) q (omega arith) there
