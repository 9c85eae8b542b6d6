-- What a table owes beside the state that it shows, once a row has changed and kept its path and its call.
use Rattle.std.proofs.Common.{◌≡◌, ◌<◌, ℕ, List, [], ◌∷◌, ◌++◌, length, false, Some, inl, inr, refl, sym, ap, subst, ◌∙◌, slice_get, slice_set}
use Rattle.kt_order.specs.Rest.{standing}
use Rattle.kt_order.specs.Named.{forks_in}
use Rattle.kt_prog.specs.Reference.{machine_of}
use Rattle.kt_prog.specs.declared.programs.Program.{Program}
use Rattle.kt_tables.specs.Tables.{IndexRow, TaskRow, TaskTable, is_child, count_rows}
use Rattle.kt_tables.specs.TableLaws.{as_task, has_begun, shown_fault, shown_index_fault, AllStand, ShowsLawful, IsLawfulTable}
use Rattle.kt_tables.proofs.TableRows.{got_set, count_set}

module _ (p : Program) where
  -- its faults are those that the theory shows
  pub record FaultsOk (r : TaskRow) : Type 0 where
    pub fault : r.fault ≡ shown_fault p r
    pub indexes : (i : ℕ) (v : IndexRow) → slice_get r.loop.indexes i ≡ Some v → v.fault ≡ shown_index_fault p r i v

  pub faults_ok : (input : List ℕ) (x : TaskTable) → IsLawfulTable p input x → (t : ℕ) (r : TaskRow) → slice_get x.tasks t ≡ Some r → FaultsOk r
  faults_ok input x h t r at = record { fault = h.faults t r at; indexes = h.index_faults t r at }

  -- the row has forked as many as the other one, where it has not begun
  abbrev pub ForksAlike : TaskRow → TaskRow → Type 0
  ForksAlike r' r =
      has_begun p r' ≡ false → (has_begun p r ≡ false) × (length (forks_in (machine_of p) (standing (machine_of p) (as_task p r'))) ≡ length (forks_in (machine_of p) (standing (machine_of p) (as_task p r))))

  module _ (input : List ℕ) (x : TaskTable) (h : IsLawfulTable p input x) (t : ℕ) (r r' : TaskRow) (at : slice_get x.tasks t ≡ Some r) (path : r'.path ≡ r.path) where
    abbrev pub Rows : List TaskRow
    Rows = slice_set x.tasks t r'

    -- the row that stood there
    pub old_path : (u : ℕ) (s : TaskRow) → slice_get Rows u ≡ Some s → (v : TaskRow) × (slice_get x.tasks u ≡ Some v) × (s.path ≡ v.path)
    old_path u s ats = elim (got_set x.tasks t u r r' s at ats) [
      | inl e ↦ (r, ap (slice_get x.tasks) e.0 ∙ at, ap (λ (z : TaskRow). z.path) e.1 ∙ path)
      | inr e ↦ (s, e.1, refl)
    ]

    pub main_set : (s : TaskRow) → slice_get Rows 0 ≡ Some s → s.path ≡ []
    main_set s ats = let v = old_path 0 s ats in v.2 ∙ h.main v.0 v.1

    pub order_set : (u w : ℕ) (a b : TaskRow) → slice_get Rows u ≡ Some a → slice_get Rows w ≡ Some b
        → (z : List ℕ) (i j : ℕ) → a.path ≡ z ++ i ∷ [] → b.path ≡ z ++ j ∷ [] → i < j → u < w
    order_set u w a b ata atb z i j e f less =
        let c = old_path u a ata in
        let d = old_path w b atb in
        h.order u w c.0 d.0 c.1 d.1 z i j (sym c.2 ∙ e) (sym d.2 ∙ f) less

    -- as many children as before
    pub count_children : (z : List ℕ) → count_rows (λ (u : TaskRow). is_child z u.path) Rows ≡ count_rows (λ (u : TaskRow). is_child z u.path) x.tasks
    count_children z = count_set (λ (u : TaskRow). is_child z u.path) x.tasks t r r' at (ap (is_child z) path)

    pub faults_set : FaultsOk r' → (u : ℕ) (s : TaskRow) → slice_get Rows u ≡ Some s → FaultsOk s
    faults_set ok u s ats = elim (got_set x.tasks t u r r' s at ats) [
      | inl e ↦ subst FaultsOk (sym e.1) ok
      | inr e ↦ faults_ok input x h u s e.1
    ]

    counts_set : ForksAlike r' r → (u : ℕ) (s : TaskRow) → slice_get Rows u ≡ Some s → has_begun p s ≡ false
        → count_rows (λ (v : TaskRow). is_child s.path v.path) Rows ≡ length (forks_in (machine_of p) (standing (machine_of p) (as_task p s)))
    counts_set same u s ats = elim (got_set x.tasks t u r r' s at ats) [
      | inl e ↦ subst (λ (z : TaskRow). has_begun p z ≡ false → count_rows (λ (v : TaskRow). is_child z.path v.path) Rows ≡ length (forks_in (machine_of p) (standing (machine_of p) (as_task p z)))) (sym e.1)
          (λ none. let f = same none in count_children r'.path ∙ (ap (λ (z : List ℕ). count_rows (λ (v : TaskRow). is_child z v.path) x.tasks) path ∙ (h.counts t r at f.0 ∙ sym f.1)))
      | inr e ↦ (λ none. count_children s.path ∙ h.counts u s e.1 none)
    ]

    -- so it stays lawful where it shows a lawful state
    pub stays : (store : List ℕ) → ShowsLawful p input (record { store = store; tasks = Rows }) → AllStand p Rows → ForksAlike r' r → FaultsOk r'
        → IsLawfulTable p input (record { store = store; tasks = Rows })
    stays store rows all same faults = record {
      rows = rows;
      all = all;
      main = main_set;
      order = order_set;
      counts = counts_set same;
      faults = λ u s e. (faults_set faults u s e).fault;
      index_faults = λ u s e. (faults_set faults u s e).indexes;
    }
