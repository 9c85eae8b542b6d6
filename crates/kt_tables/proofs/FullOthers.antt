-- Each path that leads to a task has a row or is that of an index, after the events that are no loop's.
use Rattle.std.proofs.Common.{◌≡◌, ◌≢◌, ℕ, suc, List, [], ◌∷◌, ◌++◌, map, length, Some, ◌⊎◌, inl, inr, sym, ap, subst, ◌∙◌, arith, slice_get, slice_set}
use Rattle.kt_law.specs.declared.limits.TheConstants.{DEPTH}
use Rattle.kt_order.specs.Paths.{bump, IsThere}
use Rattle.kt_order.specs.Named.{count_of}
use Rattle.kt_order.proofs.PathThere.{there_less}
use Rattle.kt_prog.specs.Reference.{machine_of}
use Rattle.kt_prog.specs.declared.programs.Program.{Program}
use Rattle.kt_tables.specs.Tables.{LoopPart, TaskRow}
use Rattle.kt_tables.specs.TableLaws.{tasks_by_path, Stands, as_row, as_child, AllStand}
use Rattle.kt_tables.proofs.TableRows.{the_some, get_set, get_set_other, get_front, get_last}

number_or : (k j : ℕ) → (k ≡ j) ⊎ (k ≢ j)
number_or k j = grind arith

module _ (p : Program) (tasks : List TaskRow) (t : ℕ) (r r' : TaskRow) (at : slice_get tasks t ≡ Some r) (path : r'.path ≡ r.path) (part : r'.loop ≡ r.loop) where
  abbrev Rows : List TaskRow
  Rows = slice_set tasks t r'

  -- what stands in a table stands in one with a row changed
  pub carried : (q : List ℕ) → Stands p tasks q → Stands p Rows q
  carried q (as_row u s got is) = elim (number_or u t) [
    | inl same ↦ (let row : s ≡ r = the_some (sym got ∙ (ap (slice_get tasks) same ∙ at)) in as_row t r' (get_set tasks t r r' at) (path ∙ (ap (λ (z : TaskRow). z.path) (sym row) ∙ is)))
    | inr ne ↦ as_row u s (get_set_other tasks t u r' ne ∙ got) is
  ]
  carried q (as_child u s home i v got is child index) = elim (number_or u t) [
    | inl same ↦ (let row : s ≡ r = the_some (sym got ∙ (ap (slice_get tasks) same ∙ at)) in
        as_child t r' home i v (get_set tasks t r r' at) (path ∙ (ap (λ (z : TaskRow). z.path) (sym row) ∙ is)) child
        (ap (λ (k : LoopPart). slice_get k.indexes i) (part ∙ ap (λ (z : TaskRow). z.loop) (sym row)) ∙ index))
    | inr ne ↦ as_child u s home i v (get_set_other tasks t u r' ne ∙ got) is child index
  ]

  -- where the counts stay
  pub all_same : count_of (machine_of p) (tasks_by_path p Rows) ≡ count_of (machine_of p) (tasks_by_path p tasks) → AllStand p tasks → AllStand p Rows
  all_same counts all q there = carried q (all q (subst (λ f. IsThere (suc DEPTH) f q) counts there))

  -- and with one more row, of the next child
  pub all_more : (home : List ℕ) (y : TaskRow) → (let count = count_of (machine_of p) (tasks_by_path p tasks) in
      y.path ≡ map suc (home ++ count home ∷ []) → count (home ++ count home ∷ []) ≡ 0 → count_of (machine_of p) (tasks_by_path p (Rows ++ y ∷ [])) ≡ bump home count
      → AllStand p tasks → AllStand p (Rows ++ y ∷ []))
  all_more home y is none counts all q there =
      elim (there_less (suc DEPTH) (count_of (machine_of p) (tasks_by_path p tasks)) home q none (subst (λ f. IsThere (suc DEPTH) f q) counts there)) [
        | inl old ↦ longer (carried q (all q old))
        | inr new ↦ as_row (length Rows) y (get_last Rows y) (is ∙ ap (map suc) (sym new))
      ]
    where
      longer : Stands p Rows q → Stands p (Rows ++ y ∷ []) q
      longer (as_row u s got at_q) = as_row u s (get_front Rows y u s got) at_q
      longer (as_child u s at_home i v got at_q child index) = as_child u s at_home i v (get_front Rows y u s got) at_q child index
