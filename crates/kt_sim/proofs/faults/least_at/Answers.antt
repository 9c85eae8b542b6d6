use Rattle.std.proofs.Common.{◌≡◌, ◌≤◌, ◌+◌, suc, length, refl, sym, ap, ◌∙◌, arith, drop}
use Rattle.kt_prog.specs.Calls.{CallTree}
use Rattle.kt_faults.specs.First.{earlier}
use Rattle.kt_sim.specs.Answering.{least_among}
use Rattle.kt_tables.specs.TableLaws.{index_faults_from}
use Rattle.kt_sim.proofs.Facts.{long}
use Rattle.kt_sim.proofs.LeastFaults.{least_task, least_index, least_past}
use Rattle.kt_sim.proofs.faults.least_at.Goals as goal

pub loop-index-init : goal.loop-index-init
loop-index-init c = λ r e.
    ap (λ o. least_among o (index_faults_from c.args.core.now.program r.path r.call 0 r.loop.indexes)) (c.earlier-least.ensures ∙ ap (earlier c.args.least) (c.fault.ensures r e))
    ∙ least_task c.args.core.now.program c.args.least r

pub loop-index-preserved : goal.loop-index-preserved
loop-index-preserved c = λ r e.
    let k = c.loop-index.index in
    let next : k + 1 ≡ suc k = omega arith in
    ap (λ o. least_among o (index_faults_from c.args.core.now.program r.path r.call (k + 1) (drop (k + 1) r.loop.indexes)))
    (c.earlier-least-in-loop-index.ensures ∙ ap (earlier c.loop-index.least) (c.index_fault.ensures r e))
    ∙ least_index c.args.core.now.program r.path r.call r.loop.indexes k (k + 1) c.loop-index.least next ∙ c.loop-index.invariant r e

pub returns : goal.returns
returns c = λ r e.
    let k = c.loop-index.index in
    let few = long c.args.core.now c.is_lawful.ensures c.args.task r e in
    let same = ap (λ (call : CallTree). call.length) (c.behind-core.view_is ∙ c.call.ensures r e) in
    let past : length r.loop.indexes ≤ k = omega (arith, few, same, c.loop-index-test.false) in
    sym (least_past c.args.core.now.program r.path r.call r.loop.indexes k k c.loop-index.least past) ∙ c.loop-index.invariant r e
