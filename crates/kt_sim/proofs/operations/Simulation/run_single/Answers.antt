-- What stopped the body, or its end, tells the rest.
use Rattle.kt_sim.proofs.Ends.{stopped, ends_with, goes_on_after}
use Rattle.kt_sim.proofs.operations.Simulation.run_single.Goals as goal

pub end-requires-clause-ends : goal.end-requires-clause-ends
end-requires-clause-ends c = (ends_with _ _ _ c.run_form-ended.new.self c.run_form-ended.result c.run_form-ended.ensures c.in-None.is).0

pub end-requires-clause-counted : goal.end-requires-clause-counted
end-requires-clause-counted c =
    (ends_with _ _ _ c.run_form-ended.new.self c.run_form-ended.result c.run_form-ended.ensures c.in-None.is).1.counted c.requires.counted

pub returns-in-Some-clause-goes : goal.returns-in-Some-clause-goes
returns-in-Some-clause-goes c =
    stopped _ _ _ c.run_form-ended.new.self c.run_form-ended.result c.in-Some.stop c.run_form-ended.ensures c.in-Some.is

pub returns-in-None-clause-goes : goal.returns-in-None-clause-goes
returns-in-None-clause-goes c =
    goes_on_after c.args.self.now.core c.run_form-ended.new.self.core c.end.new.self.core c.end.result
    (ends_with _ _ _ c.run_form-ended.new.self c.run_form-ended.result c.run_form-ended.ensures c.in-None.is).1.follows c.end.ensures.goes
