-- An operation of an index enters its act.
use Rattle.std.proofs.Common.{sym, ap, ◌∙◌, subst}
use Rattle.kt_runs.specs.ByPath.{child}
use Rattle.kt_rule.specs.Lies.{Lies, core_of}
use Rattle.kt_steps.specs.CoreMoves.{Move, Acts, after_move, CanMove}
use Rattle.kt_steps.proofs.Showing.{shown_is}
use Rattle.kt_pieces.proofs.LoopCoreElements.{word_left}
use Rattle.kt_loops.proofs.IndexSteps as steps
use Rattle.kt_cells.specs.Laws.{IndexActEnters}

pub index_act_enters : IndexActEnters
index_act_enters j s (lies, f) id v (at, live) done e rest taken d next next_is in_e =
    let move : Move = Acts (child e.spot.path e.index) d in
    let lies' : Lies = steps.lies' j lies s f id v at live done e rest taken d next next_is in_e in
    let g = steps.acts_now j lies s f id v at live done e rest taken d next next_is in_e in
    let core = steps.acted j lies s f id v at live done e rest taken d next next_is in_e in (
      (lies', g),
      record {
        enabled = subst (CanMove j.program move) (sym (shown_is j lies s f)) core.enabled;
        after = shown_is j lies' _ g ∙ (ap (core_of j lies') (word_left j s.words d in_e)
            ∙ (core.after ∙ ap (after_move j.program move) (sym (shown_is j lies s f))));
      },
    )
