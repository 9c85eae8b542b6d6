use Rattle.std.proofs.Common.{ap, arith}
use Rattle.kt_prog.specs.Statements.{State}
use Rattle.kt_body.proofs.Starting.{each_low, grown}
use Rattle.kt_body.proofs.start.give.Goals as goal

pub returns-then-used-ints-clause-part : goal.returns-then-used-ints-clause-part
returns-then-used-ints-clause-part c =
    record {
      counted = let more = grown _ _ _ _ (ap (λ (s : State). s.locals) c.give.ensures) c.requires.part.counted in omega (arith, more);
      ints_there = omega arith;
      accesses_there = c.requires.part.accesses_there;
    }

pub give-requires-then-used-accesses-clause-small : goal.give-requires-then-used-accesses-clause-small
give-requires-then-used-accesses-clause-small c = each_low _ _ _ c.requires.low c.if-used-accesses.true

pub returns-then-used-accesses-clause-part : goal.returns-then-used-accesses-clause-part
returns-then-used-accesses-clause-part c =
    record {
      counted = let more = grown _ _ _ _ (ap (λ (s : State). s.locals) c.give-then-used-accesses.ensures) c.requires.part.counted in omega (arith, more);
      ints_there = c.requires.part.ints_there;
      accesses_there = omega arith;
    }

pub returns-then-used-accesses-2-clause-part : goal.returns-then-used-accesses-2-clause-part
returns-then-used-accesses-2-clause-part c =
    record {
      counted = let more = grown _ _ _ _ (ap (λ (s : State). s.locals) c.give-then-used-accesses-2.ensures) c.requires.part.counted in omega (arith, more);
      ints_there = c.requires.part.ints_there;
      accesses_there = omega arith;
    }
