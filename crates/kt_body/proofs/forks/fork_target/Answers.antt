use Rattle.std.proofs.Common.{◌≡◌, ◌≤◌, ◌<◌, ◌+◌, ap, arith, not, sym, ◌∙◌}
use Rattle.std.proofs.lemmas.Result.{err_from_is_err_and}
use Rattle.kt_law.specs.Accesses.{clashes}
use Rattle.kt_law.specs.declared.limits.TheConstants.{DEPTH}
use Rattle.kt_prog.specs.Calls.{CallTree, Whole}
use Rattle.kt_prog.specs.Forks.{Given}
use Rattle.kt_prog.specs.Script.{fork}
use Rattle.kt_prog.specs.Statements.{view}
use Rattle.kt_body.specs.Forking.{target_in}
use Rattle.kt_body.specs.Scenes.{site_in}
use Rattle.kt_body.proofs.Steps.{can_fork, ran_fork, still_can, still_err, still_here, still_is, still_next}
use Rattle.kt_body.proofs.Values.{at_most, not_at_most, ran_denied, ran_tested}
use Rattle.kt_body.proofs.Passing.{child_is}
use Rattle.kt_body.specs.declared.ops.Went.TheVariants as went
use Rattle.kt_body.proofs.forks.fork_target.Goals as goal

pub length_of-requires : goal.length_of-requires
length_of-requires g c =
    still_can _ _ _ (still_here _ c.requires.can)

pub returns-in_err-length : goal.returns-in_err-length
returns-in_err-length g c =
    let p = err_from_is_err_and c.from_residual.result c.from_residual.ensures.1 in
    rw (p.1, p.2) (still_err _ _ _ (still_here _ c.requires.can) c.in_err-length.ensures)

pub pass_all-requires-clause-can : goal.pass_all-requires-clause-can
pass_all-requires-clause-can g c =
    let s1 = still_next _ _ _ (still_here _ c.requires.can) c.in_ok-length.ensures in
    still_can _ _ _ s1

pub returns-in_err-passed : goal.returns-in_err-passed
returns-in_err-passed g c =
    let s1 = still_next _ _ _ (still_here _ c.requires.can) c.in_ok-length.ensures in
    let p = err_from_is_err_and c.from_residual-in_err-passed.result c.from_residual-in_err-passed.ensures.1 in
    rw (p.1, p.2) (still_err _ _ _ s1 c.in_err-passed.ensures)

pub returns-then-clash_among : goal.returns-then-clash_among
returns-then-clash_among g c =
    let s1 = still_next _ _ _ (still_here _ c.requires.can) c.in_ok-length.ensures in
    let s2 = still_next _ _ _ s1 c.in_ok-passed.ensures in
    let same : c.as_slice.result.now ≡ c.in_ok-passed.passed.accesses = c.as_slice.ensures.value ∙ ap (λ (g : Given). g.accesses) c.passed.view_is in
    let found : clashes c.in_ok-passed.passed.accesses ≡ c.clash_among.result = ap clashes (sym same) ∙ sym c.clash_among.ensures in
    still_err _ _ _ s2 (ran_denied _ _ _ _ (ap not (found ∙ c.if-clash_among.true)))

pub returns-then-scene-ge-DEPTH : goal.returns-then-scene-ge-DEPTH
returns-then-scene-ge-DEPTH g c =
    let s1 = still_next _ _ _ (still_here _ c.requires.can) c.in_ok-length.ensures in
    let s2 = still_next _ _ _ s1 c.in_ok-passed.ensures in
    let same : c.as_slice.result.now ≡ c.in_ok-passed.passed.accesses = c.as_slice.ensures.value ∙ ap (λ (g : Given). g.accesses) c.passed.view_is in
    let found : clashes c.in_ok-passed.passed.accesses ≡ c.clash_among.result = ap clashes (sym same) ∙ sym c.clash_among.ensures in
    let s3 = still_next _ _ _ s2 (ran_tested _ _ _ _ (ap not (found ∙ c.if-clash_among.false))) in
    let deep : DEPTH < c.args.scene.now.depth + 1 = omega (arith, c.if-scene-ge-DEPTH.true) in
    still_err _ _ _ s3 (ran_denied _ _ _ _ (not_at_most _ _ deep))

pub fork-requires : goal.fork-requires
fork-requires g c =
    let s1 = still_next _ _ _ (still_here _ c.requires.can) c.in_ok-length.ensures in
    let s2 = still_next _ _ _ s1 c.in_ok-passed.ensures in
    let same : c.as_slice.result.now ≡ c.in_ok-passed.passed.accesses = c.as_slice.ensures.value ∙ ap (λ (g : Given). g.accesses) c.passed.view_is in
    let found : clashes c.in_ok-passed.passed.accesses ≡ c.clash_among.result = ap clashes (sym same) ∙ sym c.clash_among.ensures in
    let s3 = still_next _ _ _ s2 (ran_tested _ _ _ _ (ap not (found ∙ c.if-clash_among.false))) in
    let fine : c.args.scene.now.depth + 1 ≤ DEPTH = omega (arith, c.if-scene-ge-DEPTH.false) in
    let s4 = still_next _ _ _ s3 (ran_tested _ _ _ _ (at_most _ _ fine)) in
    let s5 = still_is _ _ _ s4 (ap (λ (call : CallTree). fork (Whole call)) (child_is (view (site_in c.args.scene.now) c.args.walk.now c.args.line) (target_in c.args.target.now) c.in_ok-length.length c.in_ok-passed.passed (record { ints = c.passed.inside.ints.items; accesses = c.passed.inside.accesses.items }) c.number_of.result c.number_of.ensures c.passed.view_is)) in
    can_fork _ _ _ s5.can

pub returns-in-Went : goal.returns-in-Went
returns-in-Went g c =
    let s1 = still_next _ _ _ (still_here _ c.requires.can) c.in_ok-length.ensures in
    let s2 = still_next _ _ _ s1 c.in_ok-passed.ensures in
    let same : c.as_slice.result.now ≡ c.in_ok-passed.passed.accesses = c.as_slice.ensures.value ∙ ap (λ (g : Given). g.accesses) c.passed.view_is in
    let found : clashes c.in_ok-passed.passed.accesses ≡ c.clash_among.result = ap clashes (sym same) ∙ sym c.clash_among.ensures in
    let s3 = still_next _ _ _ s2 (ran_tested _ _ _ _ (ap not (found ∙ c.if-clash_among.false))) in
    let fine : c.args.scene.now.depth + 1 ≤ DEPTH = omega (arith, c.if-scene-ge-DEPTH.false) in
    let s4 = still_next _ _ _ s3 (ran_tested _ _ _ _ (at_most _ _ fine)) in
    let s5 = still_is _ _ _ s4 (ap (λ (call : CallTree). fork (Whole call)) (child_is (view (site_in c.args.scene.now) c.args.walk.now c.args.line) (target_in c.args.target.now) c.in_ok-length.length c.in_ok-passed.passed (record { ints = c.passed.inside.ints.items; accesses = c.passed.inside.accesses.items }) c.number_of.result c.number_of.ensures c.passed.view_is)) in
    s5.ends _ _ (ran_fork _ _ _ _ _ _ went.Went c.in-Went.ensures)

pub returns-in-Halt : goal.returns-in-Halt
returns-in-Halt g c =
    let s1 = still_next _ _ _ (still_here _ c.requires.can) c.in_ok-length.ensures in
    let s2 = still_next _ _ _ s1 c.in_ok-passed.ensures in
    let same : c.as_slice.result.now ≡ c.in_ok-passed.passed.accesses = c.as_slice.ensures.value ∙ ap (λ (g : Given). g.accesses) c.passed.view_is in
    let found : clashes c.in_ok-passed.passed.accesses ≡ c.clash_among.result = ap clashes (sym same) ∙ sym c.clash_among.ensures in
    let s3 = still_next _ _ _ s2 (ran_tested _ _ _ _ (ap not (found ∙ c.if-clash_among.false))) in
    let fine : c.args.scene.now.depth + 1 ≤ DEPTH = omega (arith, c.if-scene-ge-DEPTH.false) in
    let s4 = still_next _ _ _ s3 (ran_tested _ _ _ _ (at_most _ _ fine)) in
    let s5 = still_is _ _ _ s4 (ap (λ (call : CallTree). fork (Whole call)) (child_is (view (site_in c.args.scene.now) c.args.walk.now c.args.line) (target_in c.args.target.now) c.in_ok-length.length c.in_ok-passed.passed (record { ints = c.passed.inside.ints.items; accesses = c.passed.inside.accesses.items }) c.number_of.result c.number_of.ensures c.passed.view_is)) in
    s5.ends _ _ (ran_fork _ _ _ _ _ _ went.Halt c.in-Halt.ensures)
