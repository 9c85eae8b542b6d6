use Rattle.std.proofs.Common.{◌≡◌, refl, sym, ap, ◌∙◌, Some, None}
use Rattle.std.specs.Result.{result_ok}
use Rattle.kt_text.specs.Words.{texts_of}
use Rattle.kt_text.specs.declared.commands.Command.TheVariants as C
use Rattle.kaapi.specs.Answers.{AnswersDemo}
use Rattle.kaapi.proofs.FewWorkers.{few_in_crew, few_in_demo}
use Rattle.kaapi.proofs.FitSizes.{fit_demo}
use Rattle.kaapi.proofs.Endings.{ends, for_any_job, for_job_then, of_command}
use Rattle.kaapi.proofs.Records.{plain_headline, recorded_for}
use Rattle.kaapi.proofs.top.top.Goals as goal

pub run_source-requires-clause-some : goal.run_source-requires-clause-some
run_source-requires-clause-some g c =
    let same = sym (ap Some c.in-Ok-Run.field-0-is) ∙ sym (ap result_ok c.in-Ok-Run.is) ∙ c.read_words.ensures in
    λ places lives. (few_in_crew (texts_of c.args.words.now) c.in-Ok-Run.workers (sym same)).0

pub run_source-requires-clause-few : goal.run_source-requires-clause-few
run_source-requires-clause-few g c =
    let same = sym (ap Some c.in-Ok-Run.field-0-is) ∙ sym (ap result_ok c.in-Ok-Run.is) ∙ c.read_words.ensures in
    λ places lives. (few_in_crew (texts_of c.args.words.now) c.in-Ok-Run.workers (sym same)).1

pub returns-in-Ok-Run-clause-headline : goal.returns-in-Ok-Run-clause-headline
returns-in-Ok-Run-clause-headline g c =
    let same = sym (ap Some c.in-Ok-Run.field-0-is) ∙ sym (ap result_ok c.in-Ok-Run.is) ∙ c.read_words.ensures in
    for_job_then _ _ _
    (λ job h. record {
      answered = of_command (texts_of c.args.words.now) job _ _ _ (Some (C.Run c.in-Ok-Run.workers)) same h.0;
      recorded = recorded_for job c.run_source.result.0 c.run_source.result.1 (Some (C.Run c.in-Ok-Run.workers)) _ same h.1;
      found = c.loads_find_last_written.ensures;
    }) c.run_source.ensures.answers

pub invariant_of-job : goal.invariant_of-job
invariant_of-job g c =
    let same = sym (ap Some c.in-Ok-Demo.field-0-is) ∙ sym (ap result_ok c.in-Ok-Demo.is) ∙ c.read_words.ensures in
    record { sized = fit_demo (texts_of c.args.words.now) c.in-Ok-Demo.kind c.in-Ok-Demo.size c.in-Ok-Demo.number c.in-Ok-Demo.workers (sym same) }

pub run_generated-requires-clause-some : goal.run_generated-requires-clause-some
run_generated-requires-clause-some g c =
    let same = sym (ap Some c.in-Ok-Demo.field-0-is) ∙ sym (ap result_ok c.in-Ok-Demo.is) ∙ c.read_words.ensures in
    λ places lives. (few_in_demo (texts_of c.args.words.now) c.in-Ok-Demo.kind c.in-Ok-Demo.size c.in-Ok-Demo.number c.in-Ok-Demo.workers (sym same)).0

pub run_generated-requires-clause-few : goal.run_generated-requires-clause-few
run_generated-requires-clause-few g c =
    let same = sym (ap Some c.in-Ok-Demo.field-0-is) ∙ sym (ap result_ok c.in-Ok-Demo.is) ∙ c.read_words.ensures in
    λ places lives. (few_in_demo (texts_of c.args.words.now) c.in-Ok-Demo.kind c.in-Ok-Demo.size c.in-Ok-Demo.number c.in-Ok-Demo.workers (sym same)).1

pub returns-in-Ok-Demo-clause-headline : goal.returns-in-Ok-Demo-clause-headline
returns-in-Ok-Demo-clause-headline g c =
    let same = sym (ap Some c.in-Ok-Demo.field-0-is) ∙ sym (ap result_ok c.in-Ok-Demo.is) ∙ c.read_words.ensures in
    for_any_job _ _
    (λ job. record {
      answered = of_command (texts_of c.args.words.now) job _ _ _ _ same
          (ends (AnswersDemo c.in-Ok-Demo.kind c.in-Ok-Demo.size c.in-Ok-Demo.number) _ _ _ _ (λ reply is. is) c.run_generated.ensures.sent);
      recorded = recorded_for job c.run_generated.result.0 c.run_generated.result.1
          (Some (C.Demo c.in-Ok-Demo.kind c.in-Ok-Demo.size c.in-Ok-Demo.number c.in-Ok-Demo.workers)) _ same c.run_generated.ensures.recorded;
      found = c.loads_find_last_written.ensures;
    })

pub returns-in-Ok-Check-clause-headline : goal.returns-in-Ok-Check-clause-headline
returns-in-Ok-Check-clause-headline g c =
    let same = sym (ap Some c.in-Ok-Check.field-0-is) ∙ sym (ap result_ok c.in-Ok-Check.is) ∙ c.read_words.ensures in
    for_job_then _ _ _ (λ job h. plain_headline (texts_of c.args.words.now) job _ _ c.top_plain.result (Some C.Check) same refl (refl) c.loads_find_last_written.ensures h) c.top_plain.ensures.answers

pub returns-in-Ok-Seq-clause-headline : goal.returns-in-Ok-Seq-clause-headline
returns-in-Ok-Seq-clause-headline g c =
    let same = sym (ap Some c.in-Ok-Seq.field-0-is) ∙ sym (ap result_ok c.in-Ok-Seq.is) ∙ c.read_words.ensures in
    for_job_then _ _ _ (λ job h. plain_headline (texts_of c.args.words.now) job _ _ c.top_plain-in-Ok-Seq.result (Some C.Seq) same refl (refl) c.loads_find_last_written.ensures h) c.top_plain-in-Ok-Seq.ensures.answers

pub returns-in-Ok-Sim-clause-headline : goal.returns-in-Ok-Sim-clause-headline
returns-in-Ok-Sim-clause-headline g c =
    let same = sym (ap Some c.in-Ok-Sim.field-0-is) ∙ sym (ap result_ok c.in-Ok-Sim.is) ∙ c.read_words.ensures in
    for_job_then _ _ _ (λ job h. plain_headline (texts_of c.args.words.now) job _ _ c.top_plain-in-Ok-Sim.result (Some (C.Sim c.in-Ok-Sim.field-0-0 c.in-Ok-Sim.field-0-1)) same refl (refl) c.loads_find_last_written.ensures h) c.top_plain-in-Ok-Sim.ensures.answers

pub returns-in-Ok-Gen-clause-headline : goal.returns-in-Ok-Gen-clause-headline
returns-in-Ok-Gen-clause-headline g c =
    let same = sym (ap Some c.in-Ok-Gen.field-0-is) ∙ sym (ap result_ok c.in-Ok-Gen.is) ∙ c.read_words.ensures in
    for_job_then _ _ _ (λ job h. plain_headline (texts_of c.args.words.now) job _ _ c.top_plain-in-Ok-Gen.result (Some (C.Gen c.in-Ok-Gen.field-0-0 c.in-Ok-Gen.field-0-1 c.in-Ok-Gen.field-0-2)) same refl (refl) c.loads_find_last_written.ensures h) c.top_plain-in-Ok-Gen.ensures.answers

pub returns-in-Err-clause-headline : goal.returns-in-Err-clause-headline
returns-in-Err-clause-headline g c =
    let same = sym (ap result_ok c.in-Err.is) ∙ c.read_words.ensures in
    for_job_then _ _ _ (λ job h. plain_headline (texts_of c.args.words.now) job _ _ c.top_plain-in-Err.result None same refl (refl) c.loads_find_last_written.ensures h) c.top_plain-in-Err.ensures.answers
