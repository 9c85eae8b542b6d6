-- What an operation of an index does to the core that words and views show.
use Rattle.std.specs.Prelude.{◌≡◌, ℕ, ◌<◌, List, ◌∷◌, ◌++◌}
use Rattle.atomic_table.specs.Table.{State}
use Rattle.kt_law.specs.Acts.{Act}
use Rattle.kt_rights.specs.Acts.{effect}
use Rattle.kt_order.specs.Body.{Do}
use Rattle.kt_order.specs.Machine.{Code}
use Rattle.kt_order.specs.Rest.{left}
use Rattle.kt_prog.specs.Reference.{machine_of}
use Rattle.kt_prog.specs.Store.{place_of}
use Rattle.kt_runs.specs.ByPath.{child}
use Rattle.kt_words.specs.Places.{place, element_word}
use Rattle.kt_pieces.specs.Changes.{heard}
use Rattle.kt_rule.specs.declared.views.Setup.{Setup}
use Rattle.kt_rule.specs.declared.views.IndexRun.{IndexRun}
use Rattle.kt_rule.specs.declared.views.View.{View}
use Rattle.kt_rule.specs.Facts.{index_task}
use Rattle.kt_rule.specs.Records.{layout_of, word_at}
use Rattle.kt_rule.specs.Rule.{Slots, IsRuled}
use Rattle.kt_rule.specs.Steps.{heard as found_by}
use Rattle.kt_steps.specs.CoreMoves.{Acts}
use Rattle.kt_steps.specs.Laws.{IsSeat, after_step, Enters}
use Rattle.kt_loops.specs.Operations.{with_taken}

-- the load, store or fetch of an element for the next act of an index in hand
abbrev pub IndexActEnters : Type 0
IndexActEnters = (j : Setup) (s : State Slots View) → IsRuled j s → (id : ℕ) (v : View) → IsSeat s id v
    → (done : List IndexRun) (e : IndexRun) (rest : List IndexRun) → v.loops.taken ≡ done ++ e ∷ rest
    → (d : Act) (next : ℕ → Code (machine_of j.program)) → left (machine_of j.program) (index_task j e) ≡ Do d next
    → place_of j.program.families d < (layout_of j).elements
    → Enters j (Acts (child e.spot.path e.index) d) s
    (after_step s (place (layout_of j) (element_word (place_of j.program.families d)))
    (effect d.deed (word_at (layout_of j) s.words (element_word (place_of j.program.families d)))) id
    (with_taken v (done ++ heard (found_by d (word_at (layout_of j) s.words (element_word (place_of j.program.families d)))) e ∷ rest)))
