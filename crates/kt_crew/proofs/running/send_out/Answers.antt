use Rattle.std.proofs.Common.{◌≡◌, suc, ◌-◌, arith, ap, refl, subst, length, slice_get, Some}
use denote.Param.Send.{sendable}
use Rattle.std.proofs.lemmas.List.{length-reverse}
use Rattle.std.proofs.lemmas.Option.{get_or_from_slice_get, slice_get_read}
use Rattle.kt_crew.specs.Crews.{IsDoneBy}
use Rattle.kt_crew.proofs.Crossing.{program, table}
use Rattle.kt_crew.proofs.Together.{at_reverse}
use Rattle.kt_crew.proofs.running.send_out.Goals as goal

pub map_vec-requires-sync-F : goal.map_vec-requires-sync-F
map_vec-requires-sync-F g c κs within = let r = c.type_bounds.sync-R in let k = c.type_bounds.sync-G in search (sendable, program, table) depth 30

pub map_vec-requires-after_bounds : goal.map_vec-requires-after_bounds
map_vec-requires-after_bounds g c κs within = λ i x less is.
    let q = c.requires in let jobs = c.args.jobs.items in
    let h = at_reverse jobs i x (subst (λ ys. slice_get ys i ≡ Some x) c.turned_round.ensures (slice_get_read c.turned_round.result.items (length c.turned_round.result.items) i x refl less is)) in
    (q.0, length jobs - suc i, q.1, q.2.each (length jobs - suc i) x h.1)

pub returns : goal.returns
returns g c = λ j jobs.
    let given = c.args.jobs.items in let out = c.in_ok-done.done.items in
    let turned = c.turned_round.ensures in let back = c.turned_round-2.ensures in
    let n = jobs.count in let long = c.in_ok-done.ensures.len in let ok = c.in_ok-done.done.ok.0 in let was = c.turned_round.result.ok.0 in
    let as_many = ap length turned in let as_many_back = ap length back in let all = length-reverse given in let all_back = length-reverse out in record {
      count = omega arith;
      each = λ k d at.
          let h = at_reverse out k d (subst (λ ys. slice_get ys k ≡ Some d) back at) in let i = length out - suc k in
          let r = (c.in_ok-done.ensures.each i d (omega arith)).1 in
          let there = at_reverse given i r.job (subst (λ ys. slice_get ys i ≡ Some r.job) turned (slice_get_read c.turned_round.result.items (length c.turned_round.result.items) i r.job refl (omega arith) r.job_read)) in
          let place : length given - suc i ≡ k = omega arith in
          let job = jobs.each k r.job (subst (λ m. slice_get given m ≡ Some r.job) place there.1) in
          subst (IsDoneBy j c.args.table.now c.args.program.now k) (get_or_from_slice_get out i d d h.1) (r.call.met j k job);
    }
