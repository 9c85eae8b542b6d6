use Rattle.std.proofs.Common.{sym, subst, arith}
use Rattle.kt_rule.specs.declared.views.View.{View}
use Rattle.kt_tasks.specs.Hands.{IsHeld}
use Rattle.kt_calls.specs.Ranges.{IsRecord}
use Rattle.kt_intervals.proofs.Retiring.{begun, first_is, held, inside_now, may_retire, origin, drains_now}
use Rattle.kt_intervals.proofs.chunks.run_taken.Goals as goal

pub first_of-first-requires : goal.first_of-first-requires
first_of-first-requires g c = record { inside = c.requires.inside }

pub call_of-call-requires : goal.call_of-call-requires
call_of-call-requires g c =
    let same = sym c.first_of-first.ensures.same in
    record {
      inside = subst (λ (v : View). IsRecord v c.args.at) same c.requires.inside;
      held = (c.requires.taken.spot, subst (λ (v : View). IsHeld v c.args.at c.requires.taken.spot) same (held _ _ _ c.requires.taken));
    }

pub overflow_sub-count : goal.overflow_sub-count
overflow_sub-count g c = let some = c.requires.taken.some_taken in omega (arith, some)

pub overflow_sub-chunk : goal.overflow_sub-chunk
overflow_sub-chunk g c =
    let from = c.requires.taken.from in
    let is = first_is _ _ _ c.requires.taken _ _ c.first_of-first.ensures.first.1 in
    omega (arith, from, is)

pub run_all-run-requires : goal.run_all-run-requires
run_all-run-requires g c =
    let t = c.requires.taken in
    let of = c.requires.program in
    let b = begun _ _ _ t c.args.program.now c.args.firsts.now of c.requires.firsts c.requires.inside _ _ c.first_of-first.ensures.same c.call_of-call.ensures.same _
    c.call_of-call.ensures.call _ _ c.first_of-first.ensures.first.1 c.args.seat.fault in
    (origin _ _ _ t of.setup of.told c.args.seat.fault, b.0, b.1)

pub retire-requires : goal.retire-requires
retire-requires g c =
    let t = c.requires.taken in
    let of = c.requires.program in
    let b = begun _ _ _ t c.args.program.now c.args.firsts.now of c.requires.firsts c.requires.inside _ _ c.first_of-first.ensures.same c.call_of-call.ensures.same _
    c.call_of-call.ensures.call _ _ c.first_of-first.ensures.first.1 c.args.seat.fault in
    let s = c.run_all-run.ensures _ b.0 b.1 in
    record {
      inside = inside_now _ _ _ _ _ b.0 _ _ _ _ s;
      may = may_retire _ _ _ _ _ b.0 _ _ _ _ s (let some = t.some_taken in omega (arith, some));
    }

pub returns : goal.returns
returns g c =
    let t = c.requires.taken in
    let of = c.requires.program in
    let b = begun _ _ _ t c.args.program.now c.args.firsts.now of c.requires.firsts c.requires.inside _ _ c.first_of-first.ensures.same c.call_of-call.ensures.same _
    c.call_of-call.ensures.call _ _ c.first_of-first.ensures.first.1 c.args.seat.fault in
    drains_now _ _ _ _ _ b.0 _ _ _ _ (c.run_all-run.ensures _ b.0 b.1) _ _ c.retire.ensures.retired
