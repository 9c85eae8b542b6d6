use Rattle.std.proofs.Common.{arith, ◌<◌, ap, length, vec_len}
use Rattle.std.proofs.lemmas.Bool.Decides.{nat_tests}
use Rattle.kt_crew.proofs.Together.{headed, one_job, ready_push}
use Rattle.kt_crew.proofs.running.jobs_of.Goals as goal

pub loop-alloc-preserved : goal.loop-alloc-preserved
loop-alloc-preserved c =
    let i = c.loop-alloc.invariant in
    let some : 0 < vec_len c.loop-alloc.seats = grind (arith, nat_tests, c.is_empty.ensures, c.loop-alloc-test.true) in
    let ok = c.loop-alloc.seats.ok.0 in
    let e = headed c.loop-alloc.seats.items c.remove.new.self.items c.remove.result (omega arith) c.remove.ensures.value c.remove.ensures.items in
    let long = ap length e in let room = i.room in let more = c.push_reserved.ensures.len in let cap = c.push_reserved.ensures.capacity in
    let old = c.loop-alloc.jobs.ok.0 in let now = c.push_reserved.new.self.ok.0 in record {
      seats = one_job c.loop-alloc.jobs.items c.push_reserved.new.self.items (record { seat = c.remove.result; scratch = c.in_ok-scratch.scratch })
          c.loop-alloc.seats.items c.remove.new.self.items c.args.seats.items c.push_reserved.ensures.items e i.seats;
      ready = ready_push c.args.program.now c.loop-alloc.jobs.items c.push_reserved.new.self.items
          (record { seat = c.remove.result; scratch = c.in_ok-scratch.scratch }) c.push_reserved.ensures.items i.ready
          (record { empty = c.in_ok-scratch.ensures.stack; room = c.in_ok-scratch.ensures.room; firsts = c.in_ok-scratch.ensures.firsts });
      room = omega arith;
    }
