use Rattle.std.proofs.Common.{arith}
use Rattle.kt_intervals.proofs.Retiring.{chunk_got, crew_kept, found_empty, record_got, drains_none, run_got, stop_asked}
use Rattle.kt_intervals.proofs.intervals.run_interval.Goals as goal

pub loop-init : goal.loop-init
loop-init g c = (tt, tt, drains_none _ _ _ c.requires.none_taken)

pub chunk-requires-clause-crew : goal.chunk-requires-clause-crew
chunk-requires-clause-crew g c =
    let asked = stop_asked _ _ _ _ _ c.loop.invariant.2 _ _ c.stopped.ensures.known in
    crew_kept _ _ _ _ _ asked.0 c.requires.crew

pub returns-then-stopped : goal.returns-then-stopped
returns-then-stopped g c =
    let asked = stop_asked _ _ _ _ _ c.loop.invariant.2 _ _ c.stopped.ensures.known in
    let gone = c.let_go.ensures in
    rw (gone.0, gone.1, gone.2) (record { drained = asked.0; ends = asked.1 c.if-stopped.true })

pub returns-in-Empty : goal.returns-in-Empty
returns-in-Empty g c =
    let asked = stop_asked _ _ _ _ _ c.loop.invariant.2 _ _ c.stopped.ensures.known in
    let empty = found_empty _ _ _ _ _ asked.0 _ (c.in-Empty.ensures {u = tt}).taken in
    let gone = c.let_go-in-Empty.ensures in
    rw (gone.0, gone.1, gone.2) (record { drained = empty.0; ends = empty.1 })

pub run_taken-now-requires : goal.run_taken-now-requires
run_taken-now-requires g c =
    let asked = stop_asked _ _ _ _ _ c.loop.invariant.2 _ _ c.stopped.ensures.known in
    let got = chunk_got _ _ _ _ _ asked.0 c.requires.home _ (omega arith) _ _ (c.in-Got.ensures {u = tt}).taken in
    record {
      inside = record_got _ _ _ _ _ asked.0 _ (omega arith) _ _ (c.in-Got.ensures {u = tt}).taken c.requires.inside;
      program = run_got _ _ _ _ _ asked.0 _ (omega arith) _ _ (c.in-Got.ensures {u = tt}).taken _ c.requires.program;
      firsts = c.requires.firsts;
      taken = got.0;
    }

pub loop-preserved-in-Got : goal.loop-preserved-in-Got
loop-preserved-in-Got g c =
    let asked = stop_asked _ _ _ _ _ c.loop.invariant.2 _ _ c.stopped.ensures.known in
    let got = chunk_got _ _ _ _ _ asked.0 c.requires.home _ (omega arith) _ _ (c.in-Got.ensures {u = tt}).taken in
    (tt, tt, got.1 _ _ c.run_taken-now.ensures)
