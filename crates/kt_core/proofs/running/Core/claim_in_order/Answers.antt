-- The task is unclaimed, and the search among its frame decides.
use Rattle.std.proofs.Common.{◌≡◌, ◌∙◌, ap, sym, refl, subst, true}
use Rattle.kt_tables.specs.TableEvents.{is_unclaimed}
use Rattle.kt_tables.specs.TableLaws.{IsLawfulState}
use Rattle.kt_tables.specs.declared.events.Event.TheVariants as E
use Rattle.kt_tables.specs.declared.events.Phase.TheVariants as P
use Rattle.kt_core.proofs.Linking.{get_there}
use Rattle.kt_core.proofs.Rephasing.{in_order_is, in_order_refusal, unclaimed_stays}
use Rattle.kt_core.proofs.running.Core.claim_in_order.Goals as goal

pub put_phase-requires-clause-lawful : goal.put_phase-requires-clause-lawful
put_phase-requires-clause-lawful c =
    let s = c.args.self.now in
    let r = get_there s.table.tasks c.args.task c.requires.there in
    let phase : is_unclaimed r.0.phase ≡ true = ap is_unclaimed (sym (c.phase-phase.ensures r.0 r.1)) ∙ sym c.is_unclaimed.ensures ∙ c.if-not-is_unclaimed.false in
    let free = in_order_refusal s c.args.task r.0 _ r.1 phase (sym (c.earlier.ensures r.0 r.1) ∙ c.in-None.is) in
    subst IsLawfulState (sym (in_order_is s c.args.task))
    (c.events_keep_states_lawful.ensures (E.ClaimInOrder c.args.task) s (record { can = c.requires; free = free }) c.is_lawful.ensures)

pub put_phase-requires-clause-stays : goal.put_phase-requires-clause-stays
put_phase-requires-clause-stays c = λ r at finished.
    let phase : is_unclaimed r.phase ≡ true = ap is_unclaimed (sym (c.phase-phase.ensures r at)) ∙ sym c.is_unclaimed.ensures ∙ c.if-not-is_unclaimed.false in
    unclaimed_stays r.phase P.Running phase finished

pub returns-in-Some : goal.returns-in-Some
returns-in-Some c =
    let s = c.args.self.now in
    let r = get_there s.table.tasks c.args.task c.requires.there in
    let phase : is_unclaimed r.0.phase ≡ true = ap is_unclaimed (sym (c.phase-phase.ensures r.0 r.1)) ∙ sym c.is_unclaimed.ensures ∙ c.if-not-is_unclaimed.false in
    record { reply = in_order_refusal s c.args.task r.0 _ r.1 phase (sym (c.earlier.ensures r.0 r.1) ∙ c.in-Some.is); done = tt; same = refl }

pub returns-in-None : goal.returns-in-None
returns-in-None c =
    let s = c.args.self.now in
    let r = get_there s.table.tasks c.args.task c.requires.there in
    let phase : is_unclaimed r.0.phase ≡ true = ap is_unclaimed (sym (c.phase-phase.ensures r.0 r.1)) ∙ sym c.is_unclaimed.ensures ∙ c.if-not-is_unclaimed.false in
    record {
      reply = in_order_refusal s c.args.task r.0 _ r.1 phase (sym (c.earlier.ensures r.0 r.1) ∙ c.in-None.is);
      done = c.put_phase.ensures ∙ in_order_is s c.args.task;
      same = tt;
    }
