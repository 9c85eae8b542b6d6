-- The element is there, since the operation is next in a body of an accepted program.
use Rattle.std.proofs.Common.{ℕ, ◌+◌, ap, arith}
use Rattle.kt_law.specs.Acts.{Store}
use Rattle.kt_prog.specs.declared.runs.Operation.TheVariants as O
use Rattle.kt_prog.proofs.OnElements.{next_is_on_element}
use Rattle.kt_intervals.proofs.Acts.{placed}
use Rattle.kt_worker.proofs.Stands.{next_on, element_inside, acted}
use Rattle.kt_worker.proofs.hands.HandsOps.store.Goals as goal

pub bounds-self-object : goal.bounds-self-object
bounds-self-object g c =
    let r = c.requires in
    let here = placed r.program c.args.self.now.firsts.now c.args.object c.args.element r.accepted r.stands.firsts (next_is_on_element r.program r.accepted r.job r.fits r.answers r.count (O.Store c.args.object c.args.element c.args.value) (r.next 0)) in
    here.there

pub overflow_add-number : goal.overflow_add-number
overflow_add-number g c =
    let r = c.requires in
    let here = placed r.program c.args.self.now.firsts.now c.args.object c.args.element r.accepted r.stands.firsts (next_is_on_element r.program r.accepted r.job r.fits r.answers r.count (O.Store c.args.object c.args.element c.args.value) (r.next 0)) in
    let few = here.elements in
    let number = here.number in
    let first = here.first in
    omega (arith, few, number, first)

pub store-requires : goal.store-requires
store-requires g c =
    let r = c.requires in
    let here = placed r.program c.args.self.now.firsts.now c.args.object c.args.element r.accepted r.stands.firsts (next_is_on_element r.program r.accepted r.job r.fits r.answers r.count (O.Store c.args.object c.args.element c.args.value) (r.next 0)) in
    let is = ap (λ (n : ℕ). n + c.args.element) here.first in
    record {
      inside = element_inside _ _ r.program r.job r.answers r.count r.stands _ (let number = here.number in omega (arith, number, is));
      next = next_on _ _ r.program r.job r.answers r.count r.stands _ c.args.object c.args.element (Store c.args.value) is (r.next 0);
    }

pub returns : goal.returns
returns g c = record {
  went = tt;
  stands = λ p job answers count s next. acted _ _ p job answers count s _ c.args.object c.args.element (Store c.args.value) c.args.value c.store.ensures.stored next;
  running = c.requires.running;
}
