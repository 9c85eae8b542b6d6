use Rattle.std.proofs.Common.{◌≡◌, ◌+◌, ◌-◌, ℕ, Option, ap, ◌∙◌, arith}
use Rattle.kt_faults.specs.First.{earlier}
use Rattle.kt_prog.specs.Runs.{FaultRun}
use Rattle.kt_intervals.proofs.Acts.{short_loop}
use Rattle.kt_intervals.proofs.Running.{begins_next, came_so, fits_next, held_then, index_small, record_then, within_then}
use Rattle.kt_intervals.proofs.chunks.run_next.Goals as goal

back : (from done : ℕ) → from + done - from ≡ done
back from done = omega arith

pub overflow_add-index : goal.overflow_add-index
overflow_add-index g c =
    let h = c.requires in
    let small = index_small h.0 _ _ _ _ h.2 _ _ h.1 _ _ h.3 _ (back c.args.chunk.from c.args.done) in
    let short = short_loop _ _ h.2.fits in
    omega (arith, small, short)

pub go-run-requires : goal.go-run-requires
go-run-requires g c =
    let h = c.requires in
    record {
      accepted = h.2.accepted;
      fits = fits_next h.0 _ _ _ _ h.2 _ _ h.1 _ _ h.3 _ (back c.args.chunk.from c.args.done);
      stands = begins_next h.0 _ _ _ _ h.2 _ _ h.1 _ _ h.3 _ (back c.args.chunk.from c.args.done);
    }

pub fault_of-met-requires : goal.fault_of-met-requires
fault_of-met-requires g c =
    let h = c.requires in
    let came = came_so _ _ c.go-run.result.ended c.go-run.ensures in
    record {
      inside = record_then h.0 _ _ _ _ h.2 _ _ h.1 _ _ h.3 _ (back c.args.chunk.from c.args.done) _ _ came;
      held = (h.0.spot, held_then h.0 _ _ _ _ h.2 _ _ h.1 _ _ h.3 _ (back c.args.chunk.from c.args.done) _ _ came);
    }

pub returns : goal.returns
returns g c o left with s =
    let came = came_so _ _ c.go-run.result.ended c.go-run.ensures in
    let held = held_then o _ _ _ _ with _ _ left _ _ s _ (back c.args.chunk.from c.args.done) _ _ came in
    within_then o _ _ _ _ with _ _ left _ _ s _ (back c.args.chunk.from c.args.done) _ _ came _ _ c.fault_of-met.ensures.climbed
    (c.earlier.ensures ∙ ap (λ (f : Option FaultRun). earlier c.args.seat.fault f) (c.fault_of-met.ensures.fault o.spot held))
