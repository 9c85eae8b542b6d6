use Rattle.std.proofs.Common.{◌≡◌, ◌<◌, ◌≤◌, ◌+◌, ◌*◌, ap, ◌∙◌, refl, sym, subst, arith, true}
use Rattle.kt_rule.specs.declared.views.View.{View}
use Rattle.kt_tasks.specs.Claims.{Claimed}
use Rattle.kt_tasks.specs.declared.states.Claim.{Claim}
use Rattle.kt_tasks.specs.declared.states.Claim.TheVariants as C
use Rattle.kt_worker.specs.Stacks.{Frames}
use Rattle.kt_worker.proofs.Turning.{below_few, begun_own, calm_crew, calm_lost, entry_inside, entry_small, may_claim}
use Rattle.kt_pool_trials.proofs.Driving.{equipped_with}
use Rattle.kt_pool_trials.proofs.entries.claims_next.Goals as goal

pub push-requires : goal.push-requires
push-requires g c = let few = below_few _ _ _ _ _ c.requires.calm in rw c.requires.equipped.room.stack few

pub overflow_add-at : goal.overflow_add-at
overflow_add-at g c =
    let small = entry_small _ _ _ _ _ c.requires.calm (omega (arith, c.if-level.false)) in let lt = small.0 in let few = small.1 in omega (arith, lt, few)

pub overflow_add-at-2 : goal.overflow_add-at-2
overflow_add-at-2 g c =
    let small = entry_small _ _ _ _ _ c.requires.calm (omega (arith, c.if-level.false)) in let lt = small.0 in let few = small.1 in omega (arith, lt, few)

pub claim_own-claim-requires-clause-inside : goal.claim_own-claim-requires-clause-inside
claim_own-claim-requires-clause-inside g c = entry_inside _ _ _ _ _ c.requires.calm (omega (arith, c.if-level.false)) _ refl

pub claim_own-claim-requires-clause-mine : goal.claim_own-claim-requires-clause-mine
claim_own-claim-requires-clause-mine g c = may_claim _ _ _ _ _ c.requires.calm (omega (arith, c.if-level.false)) _ refl

pub push-requires-2 : goal.push-requires-2
push-requires-2 g c = let few = below_few _ _ _ _ _ c.requires.calm in rw c.requires.equipped.room.stack few

pub stands-requires-in-Won : goal.stands-requires-in-Won
stands-requires-in-Won g c =
    let v = c.args.worker.run.hand.seat.token.me.0 in
    let w = c.claim_own-claim.new.self.hand.seat.token.me.0 in
    let at = c.args.worker.tally.base + c.args.level.first + c.args.level.next in
    let won : Claimed v at w C.Won = subst (λ (k : Claim). Claimed v at w k) c.in-Won.is c.claim_own-claim.ensures.claimed in
    let more : c.args.level.next < c.args.level.count = omega (arith, c.if-level.false) in
    let begun = (begun_own v _ _ _ _ c.requires.calm more w at refl won c.claim_own-claim.ensures.few).0 in
    record {
      equipped = equipped_with _ _ _ _ (ap (λ (f : Frames). f.room) c.push-2.ensures) refl refl c.requires.equipped;
      stands = rw (ap (λ (f : Frames). f.levels) c.push-2.ensures) begun;
    }

pub stands-requires-in-Stolen : goal.stands-requires-in-Stolen
stands-requires-in-Stolen g c =
    let v = c.args.worker.run.hand.seat.token.me.0 in
    let w = c.claim_own-claim.new.self.hand.seat.token.me.0 in
    let at = c.args.worker.tally.base + c.args.level.first + c.args.level.next in
    let lost = subst (λ (k : Claim). Claimed v at w k) c.in-Stolen.is c.claim_own-claim.ensures.claimed in
    let more : c.args.level.next < c.args.level.count = omega (arith, c.if-level.false) in
    let calm = (calm_lost v _ _ _ _ c.requires.calm more w _ at refl lost).0 in
    record {
      equipped = equipped_with _ _ _ _ (ap (λ (f : Frames). f.room) c.push-2.ensures) refl refl c.requires.equipped;
      stands = rw (ap (λ (f : Frames). f.levels) c.push-2.ensures) calm;
    }
