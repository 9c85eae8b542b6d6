-- What can be done of a loop.
use Rattle.std.proofs.Common.{sym, ◌∙◌}
use Rattle.std.proofs.lemmas.Option.{slice_get_within}
use Rattle.kt_sim.proofs.Turning.{begins_piece, taken_in, runs_out}
use Rattle.kt_sim.proofs.loops.settle.Goals as goal

pub take_first-requires-clause-piece : goal.take_first-requires-clause-piece
take_first-requires-clause-piece c =
    let free = c.requires.free in
    begins_piece c.args.simulation.now.core c.args.task c.in-Some.span c.is_lawful.ensures free (sym (c.first_piece.ensures free.0 free.1) ∙ c.in-Some.is)

pub first_taken-requires : goal.first_taken-requires
first_taken-requires c = slice_get_within c.args.simulation.now.core.table.tasks c.args.task c.requires.free.0 c.requires.free.1

pub run_taken-requires-clause-taken : goal.run_taken-requires-clause-taken
run_taken-requires-clause-taken c =
    let free = c.requires.free in
    taken_in c.args.simulation.now.core c.args.task c.in-Some-first_taken.index free.0 free.1 free.2 (c.in-Some-first_taken.ensures.some free.0 free.1)

pub run_out-requires-clause-out : goal.run_out-requires-clause-out
run_out-requires-clause-out c =
    let free = c.requires.free in
    runs_out c.args.simulation.now.core c.args.task free (sym (c.first_piece.ensures free.0 free.1) ∙ c.in-None.is)
    (c.first_taken.ensures.none free.0 free.1 c.in-None-first_taken.is)
