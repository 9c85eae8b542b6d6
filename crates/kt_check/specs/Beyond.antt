-- Declarations out of reach: where the first of a name stands among them.
use Rattle.std.specs.Prelude.{◌≡◌, ◌<◌, ◌⊎◌, ℕ, suc, length, List, [], ◌∷◌, Option, Some, None, if◌then◌else◌}
use Rattle.std.specs.BTreeMap.{get_by}
use Rattle.std.specs.Cmp.Lexicographic.{slice_cmp}
use Rattle.std.specs.Ordering.{nat_cmp}
use Rattle.std.specs.Str.{bytes_eq}
use Rattle.kt_check.specs.declared.beyond.Beyond.{Beyond}
use Rattle.kt_check.specs.declared.beyond.Beyond.TheVariants.{Listed, Mapped}
use Rattle.kt_check.specs.declared.chains.TheConstants.{COVERED}
use Rattle.kt_prog.specs.declared.programs.Family.{Family}
use Rattle.kt_prog.specs.declared.programs.Program.{Program}
use Rattle.kt_prog.specs.declared.programs.Task.{Task}

-- a program with declarations out of reach
abbrev pub IsBeyond : Program → Type 0
IsBeyond p = (COVERED < length p.families) ⊎ (COVERED < length p.tasks)

abbrev pub name_of_family : Family → List ℕ
name_of_family f = f.name

abbrev pub name_of_task : Task → List ℕ
name_of_task t = t.name

-- where the first of these names that is this one stands, where they are counted from this number on
abbrev pub first_from : ℕ → List (List ℕ) → List ℕ → Option ℕ
first_from at [] name = None
first_from at (n ∷ names) name = if bytes_eq n name then Some at else first_from (suc at) names name

-- where it is looked up
abbrev pub found_in : Beyond → List (List ℕ) → List ℕ → Option ℕ
found_in Listed names name = first_from 0 names name
found_in (Mapped places) names name = get_by (λ k. slice_cmp nat_cmp name k.now) places

-- each name is found where the first that is the same stands
abbrev pub Tells : Beyond → List (List ℕ) → Type 0
Tells beyond names = (name : List ℕ) → found_in beyond names name ≡ first_from 0 names name
