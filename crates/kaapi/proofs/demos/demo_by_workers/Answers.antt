use Rattle.std.proofs.Common.{sym, subst, ap, ◌∙◌}
use Rattle.kt_io.specs.Ending.{Said}
use Rattle.kaapi.specs.Answers.{AnswersDemo, told}
use Rattle.kaapi.specs.Answers.{AnswersDemo as D}
use Rattle.kaapi.specs.Exits.{ends_run}
use Rattle.kaapi.specs.declared.exits.Exit.{Exit}
use Rattle.kaapi.specs.declared.exits.Exit.TheVariants as E
use Rattle.kaapi.proofs.Completed.{comes_to_rows, never_stopped, rows_are_no_limit}
use Rattle.kaapi.proofs.Counts.{as_many}
use Rattle.kaapi.proofs.demos.demo_by_workers.Goals as goal

pub run_all-requires-clause-whole : goal.run_all-requires-clause-whole
run_all-requires-clause-whole g c =
    let read = c.in_ok-program.ensures.read in
    λ places lives. rw c.deref.ensures.value (as_many _ read.from _ _ read.data_given)

pub totals-line-requires-clause-rows : goal.totals-line-requires-clause-rows
totals-line-requires-clause-rows g c =
    let ran = c.in_ok-ran.ensures in
    let same = rw c.deref.ensures.value at ran.ran in
    let rows = comes_to_rows c.generated_jobs_complete.ensures c.args.job.kind c.args.job.size c.args.job.sized _ c.in_ok-program.ensures.program _ c.in_ok-ran.ran same in
    (_, rows, ran.rows _ rows)

pub returns-clause-answers : goal.returns-clause-answers
returns-clause-answers g c =
    let made = c.in_ok-program.ensures in
    let same = rw c.deref.ensures.value at c.in_ok-ran.ensures.ran in
    let line = c.totals-line.ensures c.in_ok-program.input.items same in
    subst (AnswersDemo c.args.job.kind c.args.job.size c.args.job.number) (sym (c.in_ok-reply.ensures ∙ ap (told E.Done) line))
    (D.totals (record { tree = made.program; numbers = made.numbers; read = made.read }))

pub returns-clause-recorded : goal.returns-clause-recorded
returns-clause-recorded g c =
    let made = c.in_ok-program.ensures in
    let ran = rw c.deref.ensures.value at c.in_ok-ran.ensures in
    let came = comes_to_rows c.generated_jobs_complete.ensures c.args.job.kind c.args.job.size c.args.job.sized _ made.program _ c.in_ok-ran.ran ran.ran in
    let done = ap (λ (r : Said Exit). r.exit) c.in_ok-reply.ensures in (
      ap ends_run done,
      record {
        program = c.in_ok-program.program;
        input = c.in_ok-program.input.items;
        asked = record { tree = made.program; numbers = made.numbers; read = made.read };
        shared = ran.workers;
        stopped = never_stopped _ _ _ _ ran.limit came done;
        once = λ unstopped. ran.once (λ limit. rows_are_no_limit _ _ came limit);
      },
    )
