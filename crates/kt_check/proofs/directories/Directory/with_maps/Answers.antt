use Rattle.std.proofs.Common.{◌≡◌, ◌≤◌, true, inl, inr, length, drop, map, take, subst, ◌∙◌}
use Rattle.kt_check.specs.Beyond.{name_of_family, name_of_task}
use Rattle.kt_check.specs.Chains.{hash_family, hash_task}
use Rattle.kt_check.specs.Late.{families_from, tasks_from}
use Rattle.kt_check.specs.declared.chains.TheConstants.{COVERED}
use Rattle.kt_prog.specs.declared.programs.Program.{Program}
use Rattle.kt_check.proofs.ByName.{on_err, some_beyond, told_beyond}
use Rattle.kt_check.proofs.directories.Directory.with_maps.Goals as goal

pub returns-in_err-families_beyond-clause-beyond : goal.returns-in_err-families_beyond-clause-beyond
returns-in_err-families_beyond-clause-beyond c =
    let same : c.listed.inside.program.now ≡ c.args.program.now = c.listed.view_is ∙ c.of-listed.ensures in
    let known = subst (λ (p : Program). c.listed.inside.families ≡ take COVERED (map hash_family p.families)) same c.listed.invariant.0 in
    on_err _ _ (inl (some_beyond hash_family c.args.program.now.families _ c.listed.inside.families c.len.result c.as_slice.ensures known c.len.ensures.exact c.in_err-families_beyond.ensures.some))

pub returns-in_err-tasks_beyond-clause-beyond : goal.returns-in_err-tasks_beyond-clause-beyond
returns-in_err-tasks_beyond-clause-beyond c =
    let same : c.listed.inside.program.now ≡ c.args.program.now = c.listed.view_is ∙ c.of-listed.ensures in
    let known = subst (λ (p : Program). c.listed.inside.tasks ≡ take COVERED (map hash_task p.tasks)) same c.listed.invariant.2 in
    on_err _ _ (inr (some_beyond hash_task c.args.program.now.tasks _ c.listed.inside.tasks c.len-2.result c.as_slice-2.ensures known c.len-2.ensures.exact c.in_err-tasks_beyond.ensures.some))

pub invariant_of-result : goal.invariant_of-result
invariant_of-result c =
    let same : c.listed.inside.program.now ≡ c.args.program.now = c.listed.view_is ∙ c.of-listed.ensures in
    let i = c.listed.inside in (
      subst (λ (p : Program). i.families ≡ take COVERED (map hash_family p.families)) same c.listed.invariant.0,
      subst (λ (p : Program). length i.families ≤ length p.families) same c.listed.invariant.1,
      subst (λ (p : Program). i.tasks ≡ take COVERED (map hash_task p.tasks)) same c.listed.invariant.2,
      subst (λ (p : Program). length i.tasks ≤ length p.tasks) same c.listed.invariant.3,
      subst (λ (p : Program). i.is_from ≡ true → families_from i.from (drop (length i.families) p.families) ≡ true) same c.listed.invariant.4,
      subst (λ (p : Program). i.is_from ≡ true → tasks_from i.from (drop (length i.tasks) p.tasks) ≡ true) same c.listed.invariant.5,
      told_beyond name_of_family c.in_ok-families_beyond.families_beyond c.args.program.now.families c.as_slice.result.now c.len.result (length i.families) c.as_slice.ensures c.len.ensures.exact c.in_ok-families_beyond.ensures.told,
      told_beyond name_of_task c.in_ok-tasks_beyond.tasks_beyond c.args.program.now.tasks c.as_slice-2.result.now c.len-2.result (length i.tasks) c.as_slice-2.ensures c.len-2.ensures.exact c.in_ok-tasks_beyond.ensures.told,
    )
