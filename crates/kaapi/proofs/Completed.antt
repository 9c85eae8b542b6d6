-- A generated job comes to rows, and its record is that of a run that was not stopped.
use Rattle.std.proofs.Common.{◌≡◌, ℕ, List, sym, ap, subst, ◌∙◌}
use Rattle.std.specs.Prelude.{◌↔◌}
use Rattle.kt_gen.specs.Jobs.{IsSize}
use Rattle.kt_gen.specs.Trees.{program_of}
use Rattle.kt_gen_runs.specs.Completes.{Completes, GeneratedJobsComplete}
use Rattle.kt_gen_runs.specs.Completes as T
use Rattle.kt_prog.specs.Outcome.{outcome_of}
use Rattle.kt_prog.specs.Reference.{reference}
use Rattle.kt_prog.specs.declared.programs.Program.{Program}
use Rattle.kt_prog.specs.declared.runs.Outcome.{Outcome}
use Rattle.kt_prog.specs.declared.runs.Outcome.TheVariants as O
use Rattle.kt_prog.specs.declared.runs.Ran.{Ran}
use Rattle.kt_text.specs.declared.commands.Kind.{Kind}
use Rattle.kaapi.specs.declared.exits.Exit.{Exit}
use Rattle.kaapi.specs.declared.exits.Exit.TheVariants as E

pub comes_to_rows : GeneratedJobsComplete → (kind : Kind) (size : ℕ) → IsSize kind size → (p : Program) → p ≡ program_of kind size → (input : List ℕ) (ran : Ran) →
    ran ≡ outcome_of p input → ran.outcome ≡ O.Rows (reference p input).store
comes_to_rows law kind size fits p is input ran same =
    let completes = subst (λ (p : Program). Completes p input (T.tasks_of kind size) (T.indexes_of kind size)) (sym is) ((law kind).0 size fits input) in
    ap (λ (r : Ran). r.outcome) (same ∙ completes)

pub rows_are_no_limit : (rows : List ℕ) (outcome : Outcome) → outcome ≡ O.Rows rows → outcome ≡ O.Limit → ⊥
rows_are_no_limit rows outcome came limit = let both : O.Rows rows ≡ O.Limit = sym came ∙ limit in cc

done_is_no_limit : (exit : Exit) → exit ≡ E.Done → exit ≡ E.Limit → ⊥
done_is_no_limit exit done limit = let both : E.Done ≡ E.Limit = sym done ∙ limit in cc

-- neither was it stopped, nor is that the answer
pub never_stopped : (Stopped : Type 0) (rows : List ℕ) (outcome : Outcome) (exit : Exit) → (Stopped ↔ (outcome ≡ O.Limit)) → outcome ≡ O.Rows rows → exit ≡ E.Done
    → (Stopped ↔ (exit ≡ E.Limit))
never_stopped Stopped rows outcome exit same came done =
    (λ s. absurd (rows_are_no_limit rows outcome came (same.0 s)), λ limit. absurd (done_is_no_limit exit done limit))
