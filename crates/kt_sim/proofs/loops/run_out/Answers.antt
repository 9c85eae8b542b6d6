use Rattle.std.proofs.Common.{◌≡◌, sym, ◌∙◌, arith}
use Rattle.kt_sim.proofs.Turning.{retire_free, out_free}
use Rattle.kt_sim.proofs.loops.run_out.Goals as goal

pub finish-requires-clause-free : goal.finish-requires-clause-free
finish-requires-clause-free c =
    let out = c.requires.out in
    let none : c.ended-ended.result ≡ 0 = omega (arith, c.if-ended-gt0.false) in
    out_free c.args.core.now c.args.task c.is_lawful.ensures out (sym (c.ended-ended.ensures out.loop.0 out.loop.1) ∙ none)
