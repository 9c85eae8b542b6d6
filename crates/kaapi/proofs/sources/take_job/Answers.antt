use Rattle.std.proofs.Common.{◌≡◌, refl, subst, sym}
use Rattle.kt_io.specs.Ending.{Said}
use Rattle.kt_print.specs.declared.lines.Line.TheVariants as L
use Rattle.kaapi.specs.Answers.{AnswersJob, AnswersNone, told}
use Rattle.kaapi.specs.Answers.AnswersJob.{too_long}
use Rattle.kt_io.specs.Ending.EndsWith.{fails_to_read, lacks_memory}
use Rattle.kaapi.specs.declared.exits.Exit.{Exit}
use Rattle.kaapi.specs.declared.exits.Exit.TheVariants as E
use Rattle.kaapi.proofs.Endings.{ends, for_any_job, keeps_same}
use Rattle.kaapi.proofs.sources.take_job.Goals as goal

pub returns-in-Err-Failed-clause-ends : goal.returns-in-Err-Failed-clause-ends
returns-in-Err-Failed-clause-ends g c =
    for_any_job _ _ (λ job. fails_to_read refl (c.in-Err-Failed.ensures.failed (cc)) (keeps_same _))

pub returns-in-Err-TooLong-clause-ends : goal.returns-in-Err-TooLong-clause-ends
returns-in-Err-TooLong-clause-ends g c =
    let long = c.in-Err-TooLong.ensures.too_long (cc) in
    record {
      job = long.bytes;
      told = long.told;
      holds = ends (λ (reply : Said Exit). reply ≡ told E.TooLong L.TooLong) (AnswersJob AnswersNone long.bytes) _ _ _
          (λ reply same. subst (AnswersJob AnswersNone long.bytes) (sym same) (too_long long.more)) c.tell.ensures.sent;
    }

pub returns-in-Err-NoMemory-clause-ends : goal.returns-in-Err-NoMemory-clause-ends
returns-in-Err-NoMemory-clause-ends g c = for_any_job _ _ (λ job. lacks_memory refl (keeps_same _))
