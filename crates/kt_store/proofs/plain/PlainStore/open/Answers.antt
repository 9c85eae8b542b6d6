-- The opened store has all elements of an accepted program.
use Rattle.std.proofs.Common.{◌≡◌, ◌++◌, ℕ, List, length, ap, ◌∙◌, arith}
use Rattle.kt_prog.specs.Reference.{opened_with}
use Rattle.kt_prog.specs.declared.programs.Family.{Family}
use Rattle.kt_prog.proofs.LastWriter.{opened_length}
use Rattle.kt_prog.proofs.Plain.{few_objects}
use Rattle.kt_store.proofs.plain.PlainStore.open.Goals as goal

pub firsts_of-requires-clause-objects : goal.firsts_of-requires-clause-objects
firsts_of-requires-clause-objects c = let few = (few_objects c.args.program.now c.requires.accepted).0 in omega arith

pub firsts_of-requires-clause-elements : goal.firsts_of-requires-clause-elements
firsts_of-requires-clause-elements c = let few = (few_objects c.args.program.now c.requires.accepted).1 in omega arith

pub open_families-requires-clause-elements : goal.open_families-requires-clause-elements
open_families-requires-clause-elements c =
    let few = (few_objects c.args.program.now c.requires.accepted).1 in
    rw c.as_slice.ensures (omega arith)

pub invariant_of-result : goal.invariant_of-result
invariant_of-result c =
    let p = c.args.program.now in
    let same : c.open_families.new.elements.items ≡ opened_with p.families c.args.input.now =
    c.in_ok-open_families.ensures ∙ ap (λ (xs : List ℕ). xs ++ opened_with c.as_slice.result.now c.args.input.now) c.new-elements.ensures.items
    ∙ ap (λ (fs : List Family). opened_with fs c.args.input.now) c.as_slice.ensures in
    record { firsts = c.in_ok-firsts.ensures; full = ap length same ∙ opened_length p.families c.args.input.now c.requires.whole }
