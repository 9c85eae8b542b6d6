use Rattle.std.proofs.Common.{◌≡◌, ◌+◌, ◌++◌, List, [], ◌∷◌, All, length, ap, sym, subst, arith}
use Rattle.std.proofs.lemmas.List.{length-append}
use Rattle.std.proofs.lemmas.List.Elements.{All-append, All-cons, All-nil}
use Rattle.kt_worker.specs.declared.scratch.Tools.{Tools}
use Rattle.kt_pool_trials.specs.Driven.{IsRoomy}
use Rattle.kt_pool_trials.proofs.scenes.room_for.Goals as goal

pub loop-worker-preserved : goal.loop-worker-preserved
loop-worker-preserved c =
    let i = c.loop-worker.invariant in
    let made = c.in_ok-tools.ensures in
    let more = c.in_ok-push.ensures.items in
    let long = ap (λ (xs : List Tools). length xs) more in
    let count = i.count in
    record {
      each = subst (All (IsRoomy c.args.program.now)) (sym more)
          (All-append (IsRoomy c.args.program.now) _ _ i.each
          (All-cons (IsRoomy c.args.program.now) _ [] (record { room = made.room; none = made.stack }) (All-nil (IsRoomy c.args.program.now))));
      count = omega (arith, long, count, length-append {A = Tools});
    }
