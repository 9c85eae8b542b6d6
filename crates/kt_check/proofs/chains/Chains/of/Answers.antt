use Rattle.std.proofs.Common.{◌≤◌, ℕ, length, rules, arith, ◌∙◌}
use Rattle.std.proofs.lemmas.List.{length-replicate, length-set, length-take-le}
use Rattle.kt_check.specs.declared.chains.TheConstants.{COVERED, HASHES}
use Rattle.kt_check.proofs.Chained.{link_step, none_linked}
use Rattle.kt_check.proofs.chains.Chains.of.Goals as goal

pub loop-done-init : goal.loop-done-init
loop-done-init c =
    let long : c.args.len ≤ length c.args.hashes = search rules in
    (length-replicate HASHES c.args.len, length-replicate {A = ℕ} COVERED 0, none_linked _ _ _ _ (length-take-le c.args.len c.args.hashes long) (omega arith))

pub loop-done-preserved : goal.loop-done-preserved
loop-done-preserved c =
    let long : c.args.len ≤ length c.args.hashes = search rules in
    let next : c.args.len ≤ length c.loop-done.next = omega arith in
    let few : HASHES ≤ length c.loop-done.heads = omega arith in (
      length-set _ _ _ ∙ c.loop-done.invariant.0,
      length-set _ _ _ ∙ c.loop-done.invariant.1,
      link_step _ _ _ _ _ _ long c.loop-done-test.true next few c.requires.small c.from-hash.ensures c.loop-done.invariant.2,
    )
