use Rattle.std.proofs.Common.{◌≡◌, ℕ, ◌-◌, List, drop, map, nat_cmp}
use Rattle.std.specs.BTreeMap.{get_by}
use Rattle.std.specs.Cmp.Lexicographic.{slice_cmp}
use Rattle.kt_check.specs.Beyond.{first_from, name_of_task}
use Rattle.kt_check.proofs.beyond.map_tasks.Given as goal

abbrev pub invariant-loop-done : goal.invariant-loop-done
invariant-loop-done l = (name : List ℕ) → get_by (λ k. slice_cmp nat_cmp name k.now) l.places ≡ first_from (l.len - l.done) (map name_of_task (drop (l.len - l.done) l.tasks)) name
