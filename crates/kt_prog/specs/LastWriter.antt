-- What the loads of a run find.
use Rattle.std.specs.Prelude.{◌≡◌, ℕ, ◌+◌, List, [], ◌∷◌, ◌++◌, length, nat_eq, reverse, slice_index, if◌then◌else◌}
use Rattle.std.specs.List.{flat_map}
use Rattle.kt_law.specs.Acts.{Load}
use Rattle.kt_order.specs.Sequential.{Entry}
use Rattle.kt_order.specs.Trace.{Operation, Acted, Forked, Ended, trace}
use Rattle.kt_rights.specs.Acts.{effect}
use Rattle.kt_prog.specs.Objects.{first_element_of, inputs_of}
use Rattle.kt_prog.specs.Accepted.{IsAccepted}
use Rattle.kt_prog.specs.Store.{place_of}
use Rattle.kt_prog.specs.Reference.{machine_of, opened_with, reference}
use Rattle.kt_prog.specs.declared.programs.Program.{Program}

module _ (p : Program) where
  -- the operations of the bodies that a run has done, in order
  abbrev pub operations_in : List (Entry (machine_of p)) → List (Operation (machine_of p))
  operations_in = flat_map (λ e. trace (machine_of p) ((machine_of p).tree e.call) e.answers)

  -- What was written to element number e by these operations, of which the last comes first: the value of the last store, or the
  -- opening value where there is none, with the values folded in since.
  abbrev pub written : ℕ → ℕ → List (Operation (machine_of p)) → ℕ
  written e opening [] = opening
  written e opening (Acted act answer ∷ earlier) =
      if nat_eq (place_of p.families act) e then effect act.deed (written e opening earlier) else written e opening earlier
  written e opening (Forked child ∷ earlier) = written e opening earlier
  written e opening (Ended fault ∷ earlier) = written e opening earlier

-- each load of the reference run finds what was written last
abbrev pub LoadsFindLastWritten : Type 0
LoadsFindLastWritten = (p : Program) → IsAccepted p → (input : List ℕ) → length input ≡ inputs_of p.families
    → (before after : List (Operation (machine_of p))) (object element value : ℕ)
    → operations_in p (reference p input).entries
    ≡ before ++ Acted (record { object = object; element = element; deed = Load }) value ∷ after
    → let e = first_element_of p.families object + element in
    value ≡ written p e (slice_index (opened_with p.families input) e) (reverse before)
