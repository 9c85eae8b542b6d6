use Rattle.std.proofs.Common.{arith}
use Rattle.kt_prog.proofs.Plain.{few_objects}
use Rattle.kt_worker.proofs.scratch.Scratch.new.Goals as goal

pub objects-requires : goal.objects-requires
objects-requires c = let few = few_objects _ c.requires in let objects = few.0 in omega (arith, objects)

pub firsts_of-requires-clause-elements : goal.firsts_of-requires-clause-elements
firsts_of-requires-clause-elements c = let few = few_objects _ c.requires in let elements = few.1 in omega (arith, elements)
