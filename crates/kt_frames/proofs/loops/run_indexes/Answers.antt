use Rattle.std.proofs.Common.{◌≡◌, ℕ, refl, arith, ap, sym, ◌∙◌}
use Rattle.kt_prog.specs.Calls.{CallTree}
use Rattle.kt_frames.specs.Loops.{left_in}
use Rattle.kt_frames.proofs.loops.run_indexes.Goals as goal

pub loop-index-init : goal.loop-index-init
loop-index-init c = (omega arith, c.requires.looping, refl, refl)

pub loop-index-preserved : goal.loop-index-preserved
loop-index-preserved c =
    let i = c.loop-index.invariant in
    let long = ap (λ (k : CallTree). k.length) c.call.view_is in
    let below = c.loop-index-test.true in (
      omega (arith, long, below),
      c.run_one.ensures.looping,
      c.run_one.ensures.frames ∙ i.2,
      c.run_one.ensures.run ∙ i.3,
    )

pub returns-clause-run : goal.returns-clause-run
returns-clause-run c =
    let i = c.loop-index.invariant in
    let few = i.0 in
    let long = ap (λ (k : CallTree). k.length) c.call.view_is in
    let past = c.loop-index-test.false in
    let at : c.loop-index.index ≡ c.args.call.now.length = omega (arith, few, long, past) in
    ap (λ (n : ℕ). left_in c.args.program.now c.loop-index.owner c.args.call.now n c.loop-index.least) (sym at) ∙ i.3
