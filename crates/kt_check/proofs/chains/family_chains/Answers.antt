use Rattle.std.proofs.Common.{◌≡◌, ◌<◌, ◌≤◌, length, subst, arith, ◌∙◌, take, map}
use Rattle.std.proofs.lemmas.List.{length-set}
use Rattle.kt_check.specs.Chains.{hash_family}
use Rattle.kt_check.specs.declared.chains.TheConstants.{COVERED}
use Rattle.kt_check.proofs.Chained.{covered_of, filled, filled_more, family_few}
use Rattle.kt_check.proofs.chains.family_chains.Goals as goal

pub loop-i-preserved : goal.loop-i-preserved
loop-i-preserved c =
    let there : c.loop-i.i < length c.args.families.now = omega arith in
    let few : c.min-len.result ≤ COVERED = rw c.min-len.ensures (omega arith) in
    let room : c.loop-i.i < length c.loop-i.hashes = omega arith in
    (length-set _ _ _ ∙ c.loop-i.invariant.0, rw c.hash.ensures.exact (filled_more hash_family _ _ _ _ there room c.index-families-i.is c.loop-i.invariant.1))

pub of-requires-clause-small : goal.of-requires-clause-small
of-requires-clause-small c =
    let all : c.loop-i.i ≡ c.min-len.result = omega arith in
    family_few _ _ _ (subst (λ n. take n c.loop-i.hashes ≡ map hash_family (take n c.args.families.now)) all c.loop-i.invariant.1)

pub returns-clause-exact : goal.returns-clause-exact
returns-clause-exact c =
    let all : c.loop-i.i ≡ c.min-len.result = omega arith in
    c.of.ensures ∙ filled hash_family _ _ _ c.min-len.ensures (subst (λ n. take n c.loop-i.hashes ≡ map hash_family (take n c.args.families.now)) all c.loop-i.invariant.1)

pub returns-clause-few : goal.returns-clause-few
returns-clause-few c =
    let all : c.loop-i.i ≡ c.min-len.result = omega arith in
    covered_of hash_family _ _ (c.of.ensures ∙ filled hash_family _ _ _ c.min-len.ensures (subst (λ n. take n c.loop-i.hashes ≡ map hash_family (take n c.args.families.now)) all c.loop-i.invariant.1))
