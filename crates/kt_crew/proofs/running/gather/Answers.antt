use Rattle.std.proofs.Common.{arith, ◌<◌, ◌∙◌, ap, sym, length, vec_len}
use Rattle.std.proofs.lemmas.Bool.Decides.{nat_tests}
use Rattle.kt_crew.specs.Ends.{first_with}
use Rattle.kt_crew.proofs.Together.{headed, one_back}
use Rattle.kt_crew.proofs.running.gather.Goals as goal

pub loop-all-preserved : goal.loop-all-preserved
loop-all-preserved c =
    let i = c.loop-all.invariant in
    let some : 0 < vec_len c.loop-all.all = grind (arith, nat_tests, c.is_empty.ensures, c.loop-all-test.true) in
    let ok = c.loop-all.all.ok.0 in
    let e = headed c.loop-all.all.items c.remove-seat.new.self.items c.remove-seat.result (omega arith) c.remove-seat.ensures.value c.remove-seat.ensures.items in
    let long = ap length e in let room = i.room in let more = c.push_reserved.ensures.len in let cap = c.push_reserved.ensures.capacity in
    let old = c.loop-all.seats.ok.0 in let now = c.push_reserved.new.self.ok.0 in record {
      back = one_back c.loop-all.seats.items c.push_reserved.new.self.items c.remove-seat.result c.loop-all.all.items c.remove-seat.new.self.items c.args.all.items
          c.push_reserved.ensures.items e i.back;
      least = ap (λ z. first_with z c.remove-seat.new.self.items) c.earlier-least.ensures ∙ (sym (ap (first_with c.loop-all.least) e) ∙ i.least);
      room = omega arith;
    }
