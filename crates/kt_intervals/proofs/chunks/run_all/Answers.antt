use Rattle.std.proofs.Common.{◌≡◌, ◌<◌, ◌+◌, ◌-◌, ℕ, suc, subst, arith}
use Rattle.kt_intervals.specs.Chunks.{IsWithin}
use Rattle.kt_intervals.proofs.chunks.run_all.Goals as goal

none_gone : (count : ℕ) → count ≡ count - 0
none_gone count = omega arith

one_left : (done count : ℕ) → done < count → count - done ≡ suc (count - (done + 1))
one_left done count lt = omega (arith, lt)

pub loop-done-init : goal.loop-done-init
loop-done-init g c = (
  omega arith,
  λ o with s. subst (λ (n : ℕ). IsWithin o c.args.chunk.from 0 n (g.R.Run.view c.args.seat.run) c.args.seat.fault) (none_gone c.args.count) s,
)

pub run_next-now-requires : goal.run_next-now-requires
run_next-now-requires g c =
    let h = c.requires in (
      h.0,
      c.args.count - (c.loop-done.done + 1),
      h.1,
      subst (λ (n : ℕ). IsWithin h.0 c.args.chunk.from c.loop-done.done n (g.R.Run.view c.loop-done.now.run) c.loop-done.now.fault)
          (one_left c.loop-done.done c.args.count c.loop-done-test.true) (c.loop-done.invariant.1 h.0 h.1 h.2),
    )

pub loop-done-preserved : goal.loop-done-preserved
loop-done-preserved g c =
    let lt = c.loop-done-test.true in (
      omega (arith, lt),
      λ o with s. c.run_next-now.ensures o (c.args.count - (c.loop-done.done + 1)) with
          (subst (λ (n : ℕ). IsWithin o c.args.chunk.from c.loop-done.done n (g.R.Run.view c.loop-done.now.run) c.loop-done.now.fault)
          (one_left c.loop-done.done c.args.count lt) (c.loop-done.invariant.1 o with s)),
    )

pub returns : goal.returns
returns g c o with s =
    let past = c.loop-done-test.false in
    let le = c.loop-done.invariant.0 in
    let here : c.loop-done.done ≡ c.args.count = omega (arith, past, le) in
    let none : c.args.count - c.loop-done.done ≡ 0 = omega (arith, past, le) in
    subst (λ (n : ℕ). IsWithin o c.args.chunk.from n 0 (g.R.Run.view c.loop-done.now.run) c.loop-done.now.fault) here
    (subst (λ (n : ℕ). IsWithin o c.args.chunk.from c.loop-done.done n (g.R.Run.view c.loop-done.now.run) c.loop-done.now.fault) none
    (c.loop-done.invariant.1 o with s))
