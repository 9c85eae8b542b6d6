-- The searches of a core in the words of the table.
use Rattle.std.proofs.Common.{◌≡◌, ◌<◌, ◌∙◌, ℕ, ap, List, length, arith}
use Rattle.std.specs.List.{All}
use Rattle.std.proofs.lemmas.List.{take_all}
use Rattle.kt_tables.specs.Tables.{TaskRow, is_child, are_siblings, is_open, open_before, clash_before, open_child, first_from}
use Rattle.kt_core.specs.Links.{first_below, is_in_the_way, numbers_of, paths_of, siblings_of}
use Rattle.kt_core.proofs.Searches.{search_by_numbers, numbers_of_rows, both}

pub siblings_there : (r : TaskRow) (tasks : List TaskRow) → All (λ k. k < length tasks) (siblings_of r tasks)
siblings_there r tasks = numbers_of_rows (λ path. are_siblings path r.path) tasks

pub first_open_before : (t : ℕ) (r : TaskRow) (tasks : List TaskRow) → first_below t is_open tasks (siblings_of r tasks) ≡ open_before t r tasks
first_open_before t r tasks = search_by_numbers (λ path. are_siblings path r.path) is_open t tasks

pub first_clash_before : (t : ℕ) (r : TaskRow) (tasks : List TaskRow) → first_below t (is_in_the_way r.call) tasks (siblings_of r tasks) ≡ clash_before t r tasks
first_clash_before t r tasks = search_by_numbers (λ path. are_siblings path r.path) (is_in_the_way r.call) t tasks

pub first_open_child : (r : TaskRow) (tasks : List TaskRow)
    → first_below (length tasks) is_open tasks (numbers_of (is_child r.path) (paths_of tasks)) ≡ open_child r tasks
first_open_child r tasks =
    search_by_numbers (is_child r.path) is_open (length tasks) tasks
    ∙ ap (first_from 0 (both (is_child r.path) is_open (length tasks) tasks)) (take_all (length tasks) tasks (omega arith))
