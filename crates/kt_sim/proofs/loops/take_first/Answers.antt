use Rattle.kt_sim.proofs.Turning.{take_free}
use Rattle.kt_sim.proofs.loops.take_first.Goals as goal

pub do_event-requires-clause-free : goal.do_event-requires-clause-free
do_event-requires-clause-free c =
    take_free c.args.core.now c.args.task c.args.span c.chunk_of-count.result c.requires.piece c.chunk_of-count.ensures.some
    (c.chunk_of-count.ensures.few c.requires.piece.some)
