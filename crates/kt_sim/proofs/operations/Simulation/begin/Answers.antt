-- A loop begins where its zeroing is done.
use Rattle.std.proofs.Common.{◌≡◌, ◌≤◌, ◌<◌, ◌+◌, Ok, Err, sym, ap, ◌∙◌, subst, arith}
use Rattle.kt_law.specs.declared.limits.TheConstants.{INDEXES}
use Rattle.kt_tables.specs.Tables.{CoreState, count_indexes}
use Rattle.kt_sim.specs.declared.operations.Stop.TheVariants as S
use Rattle.kt_sim.specs.Simulated.{GoesOn}
use Rattle.kt_sim.proofs.Begun.{ask_begin, begin_free, begun, begun_is, begun_count, begun_on, begun_over}
use Rattle.kt_sim.proofs.operations.Simulation.begin.Goals as goal

pub enter-requires-clause-can : goal.enter-requires-clause-can
enter-requires-clause-can c = ask_begin c.args.self.now c.requires.zeroed.0

pub enter-requires-clause-free : goal.enter-requires-clause-free
enter-requires-clause-free c = begin_free c.args.self.now c.requires.zeroed.0

pub returns-then-self-gt-INDEXES-clause-goes : goal.returns-then-self-gt-INDEXES-clause-goes
returns-then-self-gt-INDEXES-clause-goes c =
    let s = c.args.self.now in
    let z = c.requires.zeroed.0 in
    let after : c.enter.new.core ≡ begun s z = (c.in_ok-enter.ensures {u = tt}).done ∙ begun_is s z in
    let count = begun_count s z c.is_lawful.ensures in
    let many : INDEXES < count_indexes (begun s z).table.tasks = omega (arith, count, c.requires.counted, c.requires.zeroed.1, c.if-self-gt-INDEXES.true) in
    subst (λ (y : CoreState). GoesOn s.core y (Err S.Over)) (sym after) (begun_over s z many)

pub returns-clause-goes : goal.returns-clause-goes
returns-clause-goes c =
    let s = c.args.self.now in
    let z = c.requires.zeroed.0 in
    let after : c.enter.new.core ≡ begun s z = (c.in_ok-enter.ensures {u = tt}).done ∙ begun_is s z in
    let count = begun_count s z c.is_lawful.ensures in
    let few : count_indexes (begun s z).table.tasks ≤ INDEXES = omega (arith, count, c.requires.counted, c.requires.zeroed.1, c.if-self-gt-INDEXES.false) in
    subst (λ (y : CoreState). GoesOn s.core y (Ok tt)) (sym after) (begun_on s z few)

pub returns-clause-counted : goal.returns-clause-counted
returns-clause-counted c =
    let s = c.args.self.now in
    let z = c.requires.zeroed.0 in
    let after : c.enter.new.core ≡ begun s z = (c.in_ok-enter.ensures {u = tt}).done ∙ begun_is s z in
    let same = ap (λ (y : CoreState). count_indexes y.table.tasks) after in
    let count = begun_count s z c.is_lawful.ensures in
    omega (arith, same, count, c.requires.counted, c.requires.zeroed.1)
