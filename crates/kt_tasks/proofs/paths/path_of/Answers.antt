use Rattle.std.proofs.Common.{arith, ◌+◌, refl, sym, ap, ◌∙◌, subst}
use Rattle.kt_tasks.specs.Climbs.{IsReachedAt}
use Rattle.kt_tasks.proofs.Trail.{Way, goes_up, ends_above, ends_full}
use Rattle.kt_tasks.proofs.paths.path_of.Goals as goal

pub fork_of-fork-requires-clause-reached : goal.fork_of-fork-requires-clause-reached
fork_of-fork-requires-clause-reached c = let q = c.requires.held in let o = c.loop.invariant.0.on q.0 q.1 in (o.0, o.1)

pub above-requires-clause-reached : goal.above-requires-clause-reached
above-requires-clause-reached c = let q = c.requires.held in let o = c.loop.invariant.0.on q.0 q.1 in
    (o.0, subst (λ z. IsReachedAt z.0 c.loop.record o.0) (sym c.fork_of-fork.ensures.seat.1) o.1)

pub returns-in-None-clause-moved : goal.returns-in-None-clause-moved
returns-in-None-clause-moved c = let q = c.requires.held in
    (ends_above c.args.s.now.token.me.0 c.fork_of-fork.new.s.token.me.0 c.above.new.s.token.me.0 c.args.at c.loop.record
    c.loop.counter c.loop.path.items
    (subst (λ z. Way c.args.s.now.token.me.0 z.0 c.args.at c.loop.record c.loop.counter c.loop.path.items)
    (sym c.fork_of-fork.ensures.seat.1) c.loop.invariant.0) q.0 q.1 c.in-None.ensures.above).0

pub returns-in-None-clause-path : goal.returns-in-None-clause-path
returns-in-None-clause-path c = let q = c.requires.held in
    (ends_above c.args.s.now.token.me.0 c.fork_of-fork.new.s.token.me.0 c.above.new.s.token.me.0 c.args.at c.loop.record
    c.loop.counter c.loop.path.items
    (subst (λ z. Way c.args.s.now.token.me.0 z.0 c.args.at c.loop.record c.loop.counter c.loop.path.items)
    (sym c.fork_of-fork.ensures.seat.1) c.loop.invariant.0) q.0 q.1 c.in-None.ensures.above).1

pub loop-preserved : goal.loop-preserved
loop-preserved c = let v = c.loop.invariant in let s = c.fork_of-fork.ensures.seat in let a = c.above.ensures.seat in
    let q = c.requires.held in (
      subst (Way c.args.s.now.token.me.0 c.above.new.s.token.me.0 c.args.at c.in-Some.parent (c.loop.counter + 1))
          (sym c.insert.ensures.items)
          (goes_up c.args.s.now.token.me.0 c.fork_of-fork.new.s.token.me.0 c.above.new.s.token.me.0 c.args.at c.loop.record
          c.loop.counter c.loop.path.items
          (subst (λ z. Way c.args.s.now.token.me.0 z.0 c.args.at c.loop.record c.loop.counter c.loop.path.items) (sym s.1) v.0)
          q.0 q.1 c.fork_of-fork.result c.in-Some.parent
          (λ o there. c.fork_of-fork.ensures.fork o (subst (λ z. IsReachedAt z.0 c.loop.record o) s.1 there))
          (λ o there. c.fork_of-fork.ensures.deep o (subst (λ z. IsReachedAt z.0 c.loop.record o) s.1 there))
          c.in-Some.ensures.above),
      c.in-Some.ensures.inside c.in-Some.parent refl,
      a.0 ∙ (s.0 ∙ v.2),
      a.1 ∙ (ap (λ z. z.1) s.1 ∙ v.3),
      a.2 ∙ (s.2 ∙ v.4),
      a.3 ∙ (s.3 ∙ v.5),
    )

pub returns-clause-path : goal.returns-clause-path
returns-clause-path c = let over = c.loop-test.false in let end = c.loop.auto.counter-end in
    ends_full c.args.s.now.token.me.0 c.loop.s.token.me.0 c.loop.s.token.me.0 c.args.at c.loop.record c.loop.counter
    c.loop.path.items c.loop.invariant.0 (omega arith)
