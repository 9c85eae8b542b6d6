use Rattle.std.proofs.Common.{sym, subst, IfSome}
use Rattle.std.specs.List.{All}
use Rattle.std.proofs.lemmas.List.Elements.{All-pop, All-push}
use Rattle.kt_calls_bench.specs.Asking.{IsAtStart, IsReady}
use Rattle.kt_calls_bench.specs.Together.{IsPlace}
use Rattle.kt_calls_bench.specs.declared.together.Place.{Place}
use Rattle.kt_calls_bench.proofs.together.places_of.Goals as goal

pub loop-seat-preserved : goal.loop-seat-preserved
loop-seat-preserved c = λ t start.
    let p = c.args.program.now in let i = c.loop-seat.invariant t start in
    let left = All-pop (IsAtStart t p) c.loop-seat.seats.items c.pop.new.self.items c.pop.result c.pop.ensures.items i.0 in
    let seat = subst (λ r. IfSome r (IsAtStart t p)) c.in-Some.is left.1 in
    let ready : IsReady p c.in_ok-scratch.scratch = record { empty = c.in_ok-scratch.ensures.stack; room = c.in_ok-scratch.ensures.room; firsts = c.in_ok-scratch.ensures.firsts } in
    let one : Place = record { seat = c.in-Some.seat; scratch = c.in_ok-scratch.scratch } in
    let is : IsPlace t p one = record { seat = seat; ready = ready } in
    (left.0, subst (All (IsPlace t p)) (sym c.in_ok-push.ensures.items) (All-push (IsPlace t p) c.loop-seat.places.items one i.1 is))
