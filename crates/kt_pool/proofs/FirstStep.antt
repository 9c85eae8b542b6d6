-- The first step tells the one seat the setup, and the opening shows the core in which a run begins.
use Rattle.std.proofs.Common.{◌≡◌, ℕ, ◌<◌, ◌≤◌, List, [], ◌∷◌, refl, sym, ap, ◌∙◌, subst, inl, Option, Some}
use Rattle.atomic_table.specs.Table.{State, Me, step, Allows, opening}
use mathlib.Core.Option as o
use Rattle.kt_order.specs.Forest.{Node, Nil, fresh}
use Rattle.kt_order.specs.Laws.{Laws}
use Rattle.kt_order.specs.Named.{named}
use Rattle.kt_order.proofs.PathsAdd.{grown_none}
use Rattle.kt_prog.specs.Reference.{machine_of, main_placed}
use Rattle.kt_runs.specs.Rights.{rights_in}
use Rattle.kt_runs.specs.States.{opening_core}
use Rattle.kt_runs.specs.ByPath.{core_of, levels}
use Rattle.kt_rule.specs.declared.views.Setup.{Setup}
use Rattle.kt_rule.specs.declared.views.View.{View}
use Rattle.kt_rule.specs.Lies.{Lies, get_of, counts_of, forks_of}
use Rattle.kt_rule.specs.Records.{layout_of, elements}
use Rattle.kt_rule.specs.Views.{blank_view}
use Rattle.kt_rule.specs.Rule.{Slots, Holds}
use Rattle.kt_rule.specs.Shown.{shown}
use Rattle.kt_rule.specs.Steps.{Tells}
use Rattle.kt_rule.specs.Close.{IsOpening, first_view}
use Rattle.kt_rule.proofs.Puts.{put_here, get_at}
use Rattle.kt_steps.proofs.Seats as seats
use Rattle.kt_steps.proofs.Showing.{shown_is}
use Rattle.kt_steps.proofs.Telling.{the_some}
use Rattle.kt_prog.specs.Accepted.{IsAccepted}
use Rattle.kt_prog.specs.declared.programs.Program.{Program}
use Rattle.kt_pool.specs.Openings.{OpensWith}
use Rattle.kt_pool.specs.Seats.{setup_of}

-- a table as it is made, whose seat was told nothing
pub holds_blank : (ws : List ℕ) → Holds ws (opening ws [] blank_view)
unfolding Holds
holds_blank ws = inl (refl, refl)

pub tells_with : (ws : List ℕ) (slots id : ℕ) (me : Me Slots View) (picked : Option Setup) (j : Setup) → slots ≡ 0 → picked ≡ Some j
    → IsAccepted j.program → Laws (machine_of j.program) (rights_in j.program) → 0 < j.workers → j.workers ≤ 8 → IsOpening j ws → me.0 ≡ blank_view
    → Allows (Holds ws) slots id me 0 (λ n. n) (Tells (OpensWith picked) (step slots 0 0 0 o.none) me)
tells_with ws slots id me picked j none_out is accepted laws some_workers few op blank =
    subst (λ n. Allows (Holds ws) n id me 0 (λ n. n) (Tells (OpensWith picked) (step n 0 0 0 o.none) me)) (sym none_out) (λ s h out at word.
    let d = seats.tells ws id me j 0 accepted laws some_workers few op blank s h out at word in
    (d.0, d.1, d.2, d.3, ((λ k e. d.4.0 ∙ ap first_view (the_some (sym is ∙ e))), d.4.1)))

module _ (j : Setup) (accepted : IsAccepted j.program) (laws : Laws (machine_of j.program) (rights_in j.program)) (ws : List ℕ) (some_workers : 0 < j.workers)
    (few : j.workers ≤ 8) (op : IsOpening j ws) where
  abbrev begins : State Slots View
  begins = record { words = ws; homes = []; views = first_view j ∷ [] }

  abbrev lies : Lies
  lies = seats.lies j accepted laws ws some_workers few op

  root_is : get_of j lies [] ≡ fresh (machine_of j.program) main_placed
  root_is = get_at j lies [] (seats.main j accepted laws ws some_workers few op) (put_here (λ _. o.none) [] (o.some (seats.main j accepted laws ws some_workers few op)))

  forest_is : (named (machine_of j.program) levels (Rattle.kt_rule.specs.Lies.core_of j lies (elements (layout_of j) ws))).forest
      ≡ Node (fresh (machine_of j.program) main_placed) Nil Nil
  forest_is = λ i. Node (root_is i) (grown_none (machine_of j.program) levels (get_of j lies) (counts_of j lies) (ap (forks_of j) root_is) i) Nil

  pub shows_opening : core_of j.program (shown j (record { words = ws; homes = []; views = first_view j ∷ [] }))
      ≡ opening_core j.program j.input
  shows_opening =
      ap (core_of j.program) (shown_is j lies begins (seats.opens j accepted laws ws some_workers few op)) ∙ (λ i. record { forest = forest_is i; store = op.input i })

-- an opening of as many workers, in a key that has the words
pub moved_opening : (p : Program) (input : List ℕ) (w v : ℕ) (ws ks : List ℕ) → w ≡ v → ks ≡ ws → IsOpening (setup_of p input w) ws
    → IsOpening (setup_of p input v) ks
moved_opening p input w v ws ks same are op = subst (λ (z : ℕ × List ℕ). IsOpening (setup_of p input z.0) z.1) (λ i. (same i, sym are i)) op
