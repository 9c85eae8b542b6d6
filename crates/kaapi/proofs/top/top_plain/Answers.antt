use Rattle.std.proofs.Common.{◌≡◌, sym, ap, ◌∙◌, Some, None}
use Rattle.std.specs.Result.{result_ok}
use Rattle.kt_io.specs.Ending.{Said}
use Rattle.kt_print.specs.declared.lines.Line.TheVariants as L
use Rattle.kt_text.specs.Words.{texts_of}
use Rattle.kt_text.specs.declared.commands.Command.TheVariants as C
use Rattle.kaapi.specs.Answers.{generated, told}
use Rattle.kaapi.specs.declared.exits.Exit.{Exit}
use Rattle.kaapi.specs.declared.exits.Exit.TheVariants as E
use Rattle.kaapi.proofs.FewWorkers.{few_workers}
use Rattle.kaapi.proofs.FitSizes.{fit_size}
use Rattle.kaapi.proofs.Endings.{ends, for_any_job, for_job_then, of_plain}
use Rattle.kaapi.proofs.top.top_plain.Goals as goal

pub returns-in-Ok-Check-clause-answers : goal.returns-in-Ok-Check-clause-answers
returns-in-Ok-Check-clause-answers g c =
    let same = sym (ap Some c.in-Ok-Check.field-0-is) ∙ sym (ap result_ok c.in-Ok-Check.is) ∙ c.read_words.ensures in
    for_job_then _ _ _ (λ job h. of_plain (texts_of c.args.words.now) job _ _ _ (Some C.Check) same h) c.answer_source.ensures.answers

pub returns-in-Ok-Seq-clause-answers : goal.returns-in-Ok-Seq-clause-answers
returns-in-Ok-Seq-clause-answers g c =
    let same = sym (ap Some c.in-Ok-Seq.field-0-is) ∙ sym (ap result_ok c.in-Ok-Seq.is) ∙ c.read_words.ensures in
    for_job_then _ _ _ (λ job h. of_plain (texts_of c.args.words.now) job _ _ _ (Some C.Seq) same h) c.answer_source-in-Ok-Seq.ensures.answers

pub invariant_of-answer_source : goal.invariant_of-answer_source
invariant_of-answer_source g c =
    let same = sym (ap Some c.in-Ok-Sim.field-0-is) ∙ sym (ap result_ok c.in-Ok-Sim.is) ∙ c.read_words.ensures in
    record { few = few_workers (texts_of c.args.words.now) c.in-Ok-Sim.workers c.in-Ok-Sim.number (sym same) }

pub returns-in-Ok-Sim-clause-answers : goal.returns-in-Ok-Sim-clause-answers
returns-in-Ok-Sim-clause-answers g c =
    let same = sym (ap Some c.in-Ok-Sim.field-0-is) ∙ sym (ap result_ok c.in-Ok-Sim.is) ∙ c.read_words.ensures in
    for_job_then _ _ _ (λ job h. of_plain (texts_of c.args.words.now) job _ _ _ (Some (C.Sim c.in-Ok-Sim.workers c.in-Ok-Sim.number)) same h) c.answer_source-in-Ok-Sim.ensures.answers

pub send_generated-requires : goal.send_generated-requires
send_generated-requires g c =
    let same = sym (ap Some c.in-Ok-Gen.field-0-is) ∙ sym (ap result_ok c.in-Ok-Gen.is) ∙ c.read_words.ensures in
    fit_size (texts_of c.args.words.now) c.in-Ok-Gen.kind c.in-Ok-Gen.size c.in-Ok-Gen.number (sym same)

pub returns-in-Ok-Gen-clause-answers : goal.returns-in-Ok-Gen-clause-answers
returns-in-Ok-Gen-clause-answers g c =
    let same = sym (ap Some c.in-Ok-Gen.field-0-is) ∙ sym (ap result_ok c.in-Ok-Gen.is) ∙ c.read_words.ensures in
    for_any_job _ _ (λ job. of_plain (texts_of c.args.words.now) job _ _ _ _ same
    (ends (λ (reply : Said Exit). reply ≡ generated c.in-Ok-Gen.kind c.in-Ok-Gen.size c.in-Ok-Gen.number) _ _ _ _ (λ reply is. is) c.send_generated.ensures.sent))

pub returns-in-Ok-Run-clause-answers : goal.returns-in-Ok-Run-clause-answers
returns-in-Ok-Run-clause-answers g c =
    let same = sym (ap Some c.in-Ok-Run.field-0-is) ∙ sym (ap result_ok c.in-Ok-Run.is) ∙ c.read_words.ensures in
    for_any_job _ _ (λ job. of_plain (texts_of c.args.words.now) job _ _ _ _ same
    (ends (λ (reply : Said Exit). reply ≡ told E.Usage L.Usage) _ _ _ _ (λ reply is. is) c.tell.ensures.sent))

pub returns-in-Ok-Demo-clause-answers : goal.returns-in-Ok-Demo-clause-answers
returns-in-Ok-Demo-clause-answers g c =
    let same = sym (ap Some c.in-Ok-Demo.field-0-is) ∙ sym (ap result_ok c.in-Ok-Demo.is) ∙ c.read_words.ensures in
    for_any_job _ _ (λ job. of_plain (texts_of c.args.words.now) job _ _ _ _ same
    (ends (λ (reply : Said Exit). reply ≡ told E.Usage L.Usage) _ _ _ _ (λ reply is. is) c.tell-in-Ok-Demo.ensures.sent))

pub returns-in-Err-clause-answers : goal.returns-in-Err-clause-answers
returns-in-Err-clause-answers g c =
    let same = sym (ap result_ok c.in-Err.is) ∙ c.read_words.ensures in
    for_any_job _ _ (λ job. of_plain (texts_of c.args.words.now) job _ _ _ None same
    (ends (λ (reply : Said Exit). reply ≡ told E.Usage L.Usage) _ _ _ _ (λ reply is. is) c.tell-in-Err.ensures.sent))
