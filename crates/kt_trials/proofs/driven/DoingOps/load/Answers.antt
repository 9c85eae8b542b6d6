-- The element is there, and the load finds what the store has.
use Rattle.std.proofs.Common.{◌<◌, sym, subst}
use Rattle.kt_prog.specs.Objects.{objects_of, width_of}
use Rattle.kt_prog.specs.declared.programs.Program.{Program}
use Rattle.kt_prog.specs.declared.runs.Operation.TheVariants as O
use Rattle.kt_trials.proofs.Driving.{can_go}
use Rattle.kt_trials.proofs.driven.DoingOps.load.Goals as goal

pub value-value-requires-clause-object : goal.value-value-requires-clause-object
value-value-requires-clause-object c =
    let r = c.requires in
    let there = c.next_is_on_element.ensures r.program r.accepted r.job r.fits r.answers r.count (O.Load c.args.object c.args.element 0) (r.next 0) in
    subst (λ (p : Program). c.args.object < objects_of p.families) (sym r.stands.program) there.0

pub value-value-requires-clause-element : goal.value-value-requires-clause-element
value-value-requires-clause-element c =
    let r = c.requires in
    let there = c.next_is_on_element.ensures r.program r.accepted r.job r.fits r.answers r.count (O.Load c.args.object c.args.element 0) (r.next 0) in
    subst (λ (p : Program). c.args.element < width_of p.families c.args.object) (sym r.stands.program) there.1

pub go-requires-clause-can : goal.go-requires-clause-can
go-requires-clause-can c =
    let r = c.requires in
    can_go c.args.self.now.core c.args.self.now.task (O.Load c.args.object c.args.element c.value-value.result) r.program r.job r.answers r.count r.stands
    (r.next c.value-value.result) c.value-value.ensures tt
