-- What is left of a program, step by step.
use Rattle.std.proofs.Common.{◌≡◌, List, [], ◌∷◌, Some, refl, ap, sym, subst, ◌∙◌, append_assoc}
use Rattle.std.proofs.lemmas.List.{append-nil}
use Rattle.kt_law.specs.declared.places.Place.{Place}
use Rattle.kt_prog.specs.declared.programs.Family.{Family}
use Rattle.kt_prog.specs.declared.programs.Main.{Main}
use Rattle.kt_prog.specs.declared.programs.Program.{Program}
use Rattle.kt_prog.specs.declared.programs.Task.{Task}
use Rattle.kt_tokens.specs.declared.tokens.Mark.TheVariants as T
use Rattle.kt_tokens.specs.declared.tokens.Tok.{Tok}
use Rattle.kt_tokens.specs.Ahead.{Ahead, mark_of, next_of}
use Rattle.kt_tokens.specs.Reading.{any, Sign, sign}
use Rattle.kt_tokens.specs.Tokens.{◌·◌}
use Rattle.kt_read.specs.declared.reader.declarations.Declared.{Declared}
use Rattle.kt_read.specs.declared.reader.declarations.Declared.TheVariants as D
use Rattle.kt_read.specs.declared.reader.programs.Gathered.{Gathered}
use Rattle.kt_read.specs.DeclarationParts.{ReadsDeclaration, family, task, main}
use Rattle.kt_read.specs.ProgramParts.{added, joined, nothing, ProgramLeft}
use Rattle.kt_read.specs.Programs.{ReadsProgram, data_word, one_family, one_task, one_main}
use Rattle.kt_read.specs.Residuals.{Then, Done}
use Rattle.kt_read.proofs.DeclarationSteps.{family_no_data, main_no_data, task_no_data}
use Rattle.kt_read.proofs.OneTokens.{settled}
use Rattle.kt_read.proofs.Completing.{somewhere}
use Rattle.kt_read.proofs.Still.{Still, here, is, Completes}

pub program_here : (old : Ahead) → Still ReadsProgram any old old (ProgramLeft nothing)
program_here old = is (here old)
    (λ a more rest x. subst (λ a. ReadsProgram a more rest) (sym x.is) x.reads)
    (λ a more rest x h. record { after = a; reads = x; is = refl })

-- ---- a further declaration

abbrev with_families : Program → List Family → Program
with_families p fs = record { families = fs; tasks = p.tasks; mains = p.mains; end = p.end }

abbrev with_tasks : Program → List Task → Program
with_tasks p ts = record { families = p.families; tasks = ts; mains = p.mains; end = p.end }

abbrev with_mains : Program → List Main → Program
with_mains p ms = record { families = p.families; tasks = p.tasks; mains = ms; end = p.end }

family_joined : (g : Gathered) (f : Family) (p : Program) → joined (added g (D.Family f)) p ≡ joined g (with_families p (f ∷ p.families))
family_joined g f p = ap (λ fs. with_families (joined g p) fs) (append_assoc g.families (f ∷ []) p.families)

task_joined : (g : Gathered) (t : Task) (p : Program) → joined (added g (D.Task t)) p ≡ joined g (with_tasks p (t ∷ p.tasks))
task_joined g t p = ap (λ ts. with_tasks (joined g p) ts) (append_assoc g.tasks (t ∷ []) p.tasks)

main_joined : (g : Gathered) (m : Main) (p : Program) → joined (added g (D.Main m)) p ≡ joined g (with_mains p (m ∷ p.mains))
main_joined g m p = ap (λ ms. with_mains (joined g p) ms) (append_assoc g.mains (m ∷ []) p.mains)

further_less : {g : Gathered} {a : Program} {d : Declared} {ts us rest : List Tok} → ReadsDeclaration d ts us → ProgramLeft (added g d) a us rest → ProgramLeft g a ts rest
further_less {g = g} (family {f = f} r) l = record { after = with_families l.after (f ∷ l.after.families); reads = one_family r l.reads; is = l.is ∙ family_joined g f l.after }
further_less {g = g} (task {t = t} r) l = record { after = with_tasks l.after (t ∷ l.after.tasks); reads = one_task r l.reads; is = l.is ∙ task_joined g t l.after }
further_less {g = g} (main {m = m} r) l = record { after = with_mains l.after (m ∷ l.after.mains); reads = one_main r l.reads; is = l.is ∙ main_joined g m l.after }

further_more : {a after : Program} {t : Tok} {more rest : List Tok} (g : Gathered) → ReadsProgram after (t ∷ more) rest → a ≡ joined g after → (mark_of t.symbol ≡ Some T.Data → ⊥) →
    Then ReadsDeclaration (λ d. ProgramLeft (added g d)) a (t ∷ more) rest
further_more g data_word e f = absurd (f refl)
further_more g (one_family {f = x} {program = p} r s) e f = (_, _, family r, record { after = p; reads = s; is = e ∙ sym (family_joined g x p) })
further_more g (one_task {t = x} {program = p} r s) e f = (_, _, task r, record { after = p; reads = s; is = e ∙ sym (task_joined g x p) })
further_more g (one_main {m = x} {program = p} r s) e f = (_, _, main r, record { after = p; reads = s; is = e ∙ sym (main_joined g x p) })

pub further_here : {g : Gathered} {old cur : Ahead} → Still ReadsProgram any old cur (ProgramLeft g) → (mark_of (next_of cur).symbol ≡ Some T.Data → ⊥) →
    Still ReadsProgram any old cur (Then ReadsDeclaration (λ d. ProgramLeft (added g d)))
further_here {g = g} s f = is s (λ a more rest x. further_less x.2 x.3) (λ a more rest x h. further_more g x.reads x.is f)

-- ---- the word `data`

abbrev no_program : Place → Program
no_program place = record { families = []; tasks = []; mains = []; end = place }

pub program_completes : (g : Gathered) → Completes (ProgramLeft g)
program_completes g = (joined g (no_program somewhere), T.Data · somewhere ∷ [], λ rest. record { after = no_program somewhere; reads = data_word; is = refl })

abbrev pub finished : Gathered → Place → Program
finished g place = record { families = g.families; tasks = g.tasks; mains = g.mains; end = place }

finished_joined : (g : Gathered) (place : Place) → joined g (no_program place) ≡ finished g place
finished_joined g place = simp append-nil

end_less : {g : Gathered} {a : Program} {p : Place} {ts us rest : List Tok} → Sign T.Data p ts us → a ≡ finished g p → rest ≡ us → ProgramLeft g a ts rest
end_less {g = g} {p = p} sign e f = settled (ProgramLeft g) e f (record { after = no_program p; reads = data_word; is = sym (finished_joined g p) })

end_more : {a after : Program} {t : Tok} {more rest : List Tok} (g : Gathered) → ReadsProgram after (t ∷ more) rest → a ≡ joined g after → mark_of t.symbol ≡ Some T.Data →
    Then (Sign T.Data) (λ place. Done (finished g place)) a (t ∷ more) rest
end_more {t = t} g data_word e f = (_, _, sign, (e ∙ finished_joined g t.place, refl))
end_more g (one_family r s) e f = absurd (family_no_data r f)
end_more g (one_task r s) e f = absurd (task_no_data r f)
end_more g (one_main r s) e f = absurd (main_no_data r f)

pub end_here : {g : Gathered} {old cur : Ahead} → Still ReadsProgram any old cur (ProgramLeft g) → mark_of (next_of cur).symbol ≡ Some T.Data →
    Still ReadsProgram any old cur (Then (Sign T.Data) (λ place. Done (finished g place)))
end_here {g = g} s f = is s (λ a more rest x. end_less x.2 x.3.0 x.3.1) (λ a more rest x h. end_more g x.reads x.is f)
