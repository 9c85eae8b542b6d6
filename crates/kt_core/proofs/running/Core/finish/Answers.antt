-- The body has ended, and the search among the children decides.
use Rattle.std.proofs.Common.{◌≡◌, ◌∙◌, ap, sym, refl, true, ◌||◌}
use Rattle.kt_tables.specs.TableEvents.{is_ended, is_looping}
use Rattle.kt_tables.specs.declared.events.Phase.{Phase}
use Rattle.kt_core.proofs.Linking.{get_there}
use Rattle.kt_core.proofs.Rephasing.{finish_refusal}
use Rattle.kt_core.proofs.running.Core.finish.Goals as goal

pub close-requires-clause-closed : goal.close-requires-clause-closed
close-requires-clause-closed c = λ r at.
    let phase : is_ended r.phase || is_looping r.phase ≡ true = ap (λ (ph : Phase). is_ended ph || is_looping ph) (sym (c.phase-phase.ensures r at)) ∙ sym c.has_ended.ensures ∙ c.if-not-has_ended.false in
    (phase, sym (c.open_child.ensures r at) ∙ c.in-None.is)

pub returns-in-Some : goal.returns-in-Some
returns-in-Some c =
    let s = c.args.self.now in
    let r = get_there s.table.tasks c.args.task c.requires.there in
    let phase : is_ended r.0.phase || is_looping r.0.phase ≡ true = ap (λ (ph : Phase). is_ended ph || is_looping ph) (sym (c.phase-phase.ensures r.0 r.1)) ∙ sym c.has_ended.ensures ∙ c.if-not-has_ended.false in
    record { reply = finish_refusal s c.args.task r.0 _ r.1 phase (sym (c.open_child.ensures r.0 r.1) ∙ c.in-Some.is); done = tt; same = refl }
