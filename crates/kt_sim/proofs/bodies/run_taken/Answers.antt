-- The body of an index begins where its loop has it taken; what stopped it, or its end, tells the rest.
use Rattle.std.proofs.Common.{◌≡◌, None, Some, refl, sym, ◌∙◌, slice_get}
use Rattle.kt_tables.specs.Tables.{TaskRow}
use Rattle.kt_sim.specs.declared.operations.Simulation.{Simulation}
use Rattle.kt_sim.proofs.Ends.{begins_taken, stopped, ends_with, goes_on_after, ok_then}
use Rattle.kt_sim.proofs.bodies.run_taken.Goals as goal

pub run_index-ended-requires : goal.run_index-ended-requires
run_index-ended-requires c =
    let x = c.args.simulation.now in
    let s : Simulation = record { core = x.core; indexes = x.indexes; task = c.args.task; index = Some c.args.index; stop = None } in
    let same : (r : TaskRow) → slice_get x.core.table.tasks c.args.task ≡ Some r → c.copied-call.result ≡ r.call = λ r e. c.copied-call.ensures ∙ c.call.ensures r e in
    rw c.program-program.ensures (begins_taken s c.args.index c.copied-call.result c.is_lawful.ensures c.requires.calm c.requires.taken refl refl same)

pub end-requires-clause-ends : goal.end-requires-clause-ends
end-requires-clause-ends c = (ends_with _ _ _ c.run_index-ended.new.ops c.run_index-ended.result c.run_index-ended.ensures c.in-None.is).0

pub end-requires-clause-counted : goal.end-requires-clause-counted
end-requires-clause-counted c =
    (ends_with _ _ _ c.run_index-ended.new.ops c.run_index-ended.result c.run_index-ended.ensures c.in-None.is).1.counted c.requires.counted

pub returns-in-Some-clause-goes : goal.returns-in-Some-clause-goes
returns-in-Some-clause-goes c =
    stopped _ _ _ c.run_index-ended.new.ops c.run_index-ended.result c.in-Some.stop c.run_index-ended.ensures c.in-Some.is

pub returns-in-None-clause-goes : goal.returns-in-None-clause-goes
returns-in-None-clause-goes c =
    goes_on_after c.args.simulation.now.core c.run_index-ended.new.ops.core c.end.new.self.core c.end.result
    (ends_with _ _ _ c.run_index-ended.new.ops c.run_index-ended.result c.run_index-ended.ensures c.in-None.is).1.follows c.end.ensures.goes

pub returns-in-None-clause-long : goal.returns-in-None-clause-long
returns-in-None-clause-long c =
    let went = (ends_with _ _ _ c.run_index-ended.new.ops c.run_index-ended.result c.run_index-ended.ensures c.in-None.is).1 in
    ok_then c.end.result _ _ (c.end.ensures.long (λ none. let bad : Some c.args.index ≡ None = sym went.index ∙ none in cc)) (λ u same. same ∙ went.long (λ none. cc))
