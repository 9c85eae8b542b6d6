use Rattle.std.proofs.Common.{◌∙◌, ap, sym, subst, List, ℕ}
use Rattle.kt_print.specs.CanonicalText.{canonical_text}
use Rattle.kt_prog.specs.Accepted.{IsAccepted}
use Rattle.kt_prog.specs.declared.programs.Program.{Program}
use Rattle.kt_canon.specs.Laws.{IsWritten}
use Rattle.kt_gen.specs.Jobs.{IsReadAs, job_text}
use Rattle.kt_gen.specs.Trees.{program_of}
use Rattle.kt_gen.proofs.ReadBack.{generated_is_read}
use Rattle.kt_gen.proofs.Rules.{accepted}
use Rattle.kt_gen.proofs.TreeTexts.{text_is}
use Rattle.kt_gen.proofs.Written.{written}
use Rattle.kt_gen.proofs.making.make.Goals as goal

pub returns-clause-program : goal.returns-clause-program
returns-clause-program c = c.in_ok-program.ensures ∙ ap (program_of c.args.kind) c.from-size.ensures

pub returns-clause-text : goal.returns-clause-text
returns-clause-text c =
    let is = c.in_ok-program.ensures ∙ ap (program_of c.args.kind) c.from-size.ensures in
    ap canonical_text is ∙ text_is c.args.kind c.args.size

pub returns-clause-written : goal.returns-clause-written
returns-clause-written c =
    let is = c.in_ok-program.ensures ∙ ap (program_of c.args.kind) c.from-size.ensures in
    subst (λ (p : Program). IsWritten p) (sym is) (written c.args.kind c.args.size c.requires)

pub returns-clause-accepted : goal.returns-clause-accepted
returns-clause-accepted c =
    let is = c.in_ok-program.ensures ∙ ap (program_of c.args.kind) c.from-size.ensures in
    subst (λ (p : Program). IsAccepted p) (sym is) (accepted c.args.kind c.args.size c.requires)

pub returns-clause-read : goal.returns-clause-read
returns-clause-read c =
    let is = c.in_ok-program.ensures ∙ ap (program_of c.args.kind) c.from-size.ensures in
    let drawn = c.in_ok-numbers.ensures in
    subst (λ (p : Program). IsReadAs (job_text c.args.kind c.args.size c.args.number) p c.in_ok-numbers.numbers.items) (sym is)
    (subst (λ (input : List ℕ). IsReadAs (job_text c.args.kind c.args.size c.args.number) (program_of c.args.kind c.args.size) input)
    (sym (rw c.from-size.ensures at drawn)) (generated_is_read c.args.kind c.args.size c.args.number c.requires))
