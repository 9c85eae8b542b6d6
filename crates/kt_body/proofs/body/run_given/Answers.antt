use Rattle.std.proofs.Common.{◌≤◌, ap, arith, ◌∙◌}
use Rattle.kt_law.specs.declared.limits.TheConstants.{ELEMENTS}
use Rattle.kt_prog.specs.Calls.{CallTree}
use Rattle.kt_prog.specs.Objects.{elements_of}
use Rattle.kt_body.proofs.Starting.{fits_low}
use Rattle.kt_body.proofs.Steps.{can_small}
use Rattle.kt_body.proofs.body.run_given.Goals as goal

pub of-measured-requires : goal.of-measured-requires
of-measured-requires g c = let small : elements_of c.args.program.now.families ≤ ELEMENTS = (can_small _ c.requires.can).1 in omega arith

pub name_params-requires-clause-low : goal.name_params-requires-clause-low
name_params-requires-clause-low g c =
    let same = c.as_slice-accesses.ensures.value ∙ ap (λ (k : CallTree). k.accesses) c.call.view_is in
    rw same (fits_low _ _ c.requires.can.ready.accepted c.requires.fits)
