-- From the parts of a body to the whole run.
use Rattle.std.proofs.Common.{◌≡◌, ℕ, List, [], ◌∷◌, ◌++◌, None, Ok, Err, refl, sym, ap, ◌∙◌, append-nil}
use Rattle.kt_law.specs.declared.faults.F.{F}
use Rattle.kt_order.specs.Body.{Stop}
use Rattle.kt_prog.specs.Bodies.{script_of}
use Rattle.kt_prog.specs.Calls.{Job}
use Rattle.kt_prog.specs.Operations.{trace, end_of, operations}
use Rattle.kt_prog.specs.Script.{Script, Step}
use Rattle.kt_prog.specs.declared.programs.Program.{Program}
use Rattle.kt_prog.specs.declared.runs.Operation.{Operation}
use Rattle.kt_prog.specs.declared.runs.Operation.TheVariants as O
use Rattle.kt_body.specs.Endings.{Begins, Came, Stuck, EndsSo, answers_of}
use Rattle.kt_body.specs.Moves.{Ready, Moves, Halts, Can, Ran, gave, faulted, halted_in}
use Rattle.kt_body.specs.declared.ops.Early.TheVariants as early
use Rattle.kt_body.specs.declared.ops.Ended.TheVariants as E

module _ {S : Type 0} {at : S → Program → Job → List ℕ → ℕ → Type 0} {goes : S → Operation → S → Type 0} {halted : S → Type 0} where
  ready_first : (p : Program) (job : Job) (x : S) → Begins at goes halted p job x → Ready at goes halted p job [] x (script_of p job)
  ready_first p job x b = record { accepted = b.accepted; fits = b.fits; left = λ more. refl; stands = b.stands; running = b.running }

  module _ (p : Program) (job : Job) (x y : S) (m : Step (Unit {0})) (go : Unit {0} → Script) (b : Begins at goes halted p job x)
      (is : script_of p job ≡ m go) where
    ready_body : Ready at goes halted p job [] x (m go)
    ready_body = rw (← is) (ready_first p job x b)

    pub can_begin : Can at goes halted p x m
    can_begin = record { go = go; job = job; done = []; ready = ready_body }

    -- behind what was done
    pub came : (t : Script) (done : List Operation) → Moves at goes halted x (m go) done y t → Came at goes halted p job x done y
    came t done q =
        let r = q.keeps p job [] ready_body in
        record { went = q.went; stands = r.stands; running = r.running }

    pub stuck : (done : List Operation) (refused : Operation) → Halts at goes halted x (m go) done refused y → Stuck at goes halted p job x done y
    stuck done refused q =
        let w = q.keeps p job [] ready_body in
        record { before = q.before; went = q.went; stands = w.stands; at_halt = q.at_halt }

    -- the trace up to where t is left
    whole_trace : (t : Script) (done : List Operation) → Moves at goes halted x (m go) done y t
        → operations p job (answers_of done) ≡ done ++ trace (end_of p job) t []
    whole_trace t done q =
        ap (λ (found : List ℕ). operations p job found) (sym (append-nil (answers_of done))) ∙ (q.keeps p job [] ready_body).left []

    pub ends_done : end_of p job ≡ O.End ∷ [] → go tt ≡ Stop None → Ran at goes halted x m y (Ok tt) → EndsSo at goes halted p job x y E.Done
    ends_done last stops (gave done f) =
        (done, whole_trace (go tt) done (f go) ∙ ap (λ (t : Script). done ++ trace (end_of p job) t []) stops ∙ ap (λ (ops : List Operation). done ++ ops) last, came (go tt) done (f go))

    pub ends_fault : (law : F) (line : ℕ) → Ran at goes halted x m y (Err (early.Fault law line)) → EndsSo at goes halted p job x y (E.Fault law line)
    ends_fault law line (faulted done f) = (done, whole_trace _ done (f go), came _ done (f go))

    pub ends_halted : Ran at goes halted x m y (Err early.Halted) → EndsSo at goes halted p job x y E.Halted
    ends_halted (halted_in done refused f) =
        let q = f go in
        let w = q.keeps p job [] ready_body in
        (done, w.more, refused, q.called, w.next, stuck done refused q)
