use Rattle.kaapi.specs.Answers.{AnswersJob, AnswersRun}
use Rattle.kaapi.specs.Answers.AnswersJob.{within}
use Rattle.kaapi.proofs.Endings.{ends, ends_no_run, ends_then, for_job_then, none_then}
use Rattle.kaapi.proofs.sources.run_source.Goals as goal

pub returns-in-Ok-clause-answers : goal.returns-in-Ok-clause-answers
returns-in-Ok-clause-answers g c =
    let few = c.in-Ok.ensures.within in
    record {
      job = c.in-Ok.job.items;
      told = c.in-Ok.ensures.told;
      holds = (
        ends (AnswersRun c.in-Ok.job.items) (AnswersJob AnswersRun c.in-Ok.job.items) _ _ _ (λ reply answers. within few answers)
            (rw (c.deref.ensures.value, c.in-Ok.ensures.unwritten) at c.run_job.ensures.sent),
        rw c.deref.ensures.value at c.run_job.ensures.recorded,
      );
    }

pub returns-in-Err-clause-answers : goal.returns-in-Err-clause-answers
returns-in-Err-clause-answers g c =
    for_job_then _ _ _
    (λ job h. (ends_then _ _ _ _ _ (λ reply none. none_then AnswersRun job reply none) h, ends_no_run job _ _ _ h)) c.in-Err.ensures.ends
