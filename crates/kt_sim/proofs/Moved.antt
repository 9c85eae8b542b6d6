-- An operation of the body that goes, of a task or of an index.
use Rattle.std.proofs.Common.{◌≡◌, ◌≢◌, ◌≤◌, ◌<◌, ◌⊎◌, inl, inr, ℕ, ◌+◌, List, ◌++◌, length, Option, Some, None, refl, sym, ap, ◌∙◌, subst, arith}
use Rattle.kt_law.specs.declared.limits.TheConstants.{TASKS}
use Rattle.kt_prog.specs.Accepted.{IsAccepted}
use Rattle.kt_prog.specs.Calls.{Job}
use Rattle.kt_prog.specs.Operations.{heard, IsNext}
use Rattle.kt_prog.specs.declared.programs.Program.{Program}
use Rattle.kt_prog.specs.declared.runs.Operation.{Operation}
use Rattle.kt_body.specs.Doing.{CanDo, Did}
use Rattle.kt_body.specs.Endings.{IsCalled}
use Rattle.kt_tables.specs.Tables.{CoreState, count_indexes}
use Rattle.kt_tables.specs.TableEvents.{CanAsk, Finds, state_after}
use Rattle.kt_sim.specs.declared.operations.Simulation.{Simulation}
use Rattle.kt_sim.specs.declared.operations.Stop.{Stop as Halt}
use Rattle.kt_sim.specs.declared.operations.Stop.TheVariants as S
use Rattle.kt_sim.specs.Simulated.{Follows, BodyGoes, GoesOrNot, At, Moves, IsCounted, IsOut, IsOver, IsFound, event_of}
use Rattle.kt_sim.proofs.Operated.{is_after, after_op, ask_in, called_follows, goes_called, rows_count}
use Rattle.kt_sim.proofs.IndexOperated.{is_after_index, after_index, index_ask_in, index_called_follows, index_goes_called, index_count, index_long}

-- the body that goes
pub goes_in : (s : Simulation) (job : Job) (answers : List ℕ) (count : ℕ) → s.stop ≡ None → GoesOrNot s.stop s.index s.core s.task job answers count
    → BodyGoes s.index s.core s.task job answers count
goes_in s job answers count none h = subst (λ (o : Option Halt). GoesOrNot o s.index s.core s.task job answers count) none h

pub body_ask : (o : Option ℕ) (c : CoreState) (t : ℕ) (p : Program) (job : Job) (answers : List ℕ) (count : ℕ) (op : Operation) → c.program ≡ p
    → BodyGoes o c t job answers count → IsNext p job answers count op → Finds c.program c.table.store op → CanAsk c.program (event_of o t op) c.table
body_ask None c t p job answers count op same g next found = ask_in c t p job answers count op same g next found
body_ask (Some i) c t p job answers count op same g next found = index_ask_in c t i p job answers count op same g next found

pub can_ask : (s : Simulation) (op : Operation) → CanDo At IsOut s (λ a. op) → IsFound s op → s.stop ≡ None
    → CanAsk s.core.program (event_of s.index s.task op) s.core.table
can_ask s op h found none =
    body_ask s.index s.core s.task h.program h.job h.answers h.count op h.stands.program (goes_in s h.job h.answers h.count none h.stands.stands) (h.next 0) found

-- what an operation that is a call makes of the core
record Went (o : Option ℕ) (x y : CoreState) : Type 0 where
  pub follows : Follows x y
  pub long : o ≢ None → length y.table.tasks ≡ length x.table.tasks
  pub indexes : count_indexes y.table.tasks ≡ count_indexes x.table.tasks

body_went : (o : Option ℕ) (c y : CoreState) (t : ℕ) (p : Program) (job : Job) (answers : List ℕ) (count : ℕ) (op : Operation) → IsAccepted c.program → c.program ≡ p
    → BodyGoes o c t job answers count → IsNext p job answers count op → IsCalled op → y ≡ state_after (event_of o t op) c → Went o c y
body_went None c y t p job answers count op ok same g next called core =
    subst (Went None c) (sym (core ∙ is_after c t g.row op g.there))
    (record { follows = called_follows c t p job answers count op ok same g next called; long = λ no. absurd (no refl); indexes = rows_count c t g.row op g.there })
body_went (Some i) c y t p job answers count op ok same g next called core =
    subst (Went (Some i) c) (sym (core ∙ is_after_index c t g.row i op g.there))
    (record { follows = index_called_follows c t i job answers count op g called; long = λ is. index_long c t i job answers count op g; indexes = index_count c t i job answers count op g })

body_stands : (o : Option ℕ) (c y : CoreState) (t : ℕ) (p : Program) (job : Job) (answers : List ℕ) (count : ℕ) (op : Operation) → IsAccepted c.program → c.program ≡ p
    → BodyGoes o c t job answers count → IsNext p job answers count op → IsCalled op → y ≡ state_after (event_of o t op) c → length y.table.tasks ≤ TASKS
    → BodyGoes o y t job (answers ++ heard op) (count + 1)
body_stands None c y t p job answers count op ok same g next called core few =
    let after : y ≡ after_op c t g.row op = core ∙ is_after c t g.row op g.there in
    subst (λ (z : CoreState). BodyGoes None z t job (answers ++ heard op) (count + 1)) (sym after)
    (goes_called c t p job answers count op ok same g next called (subst (λ (z : CoreState). length z.table.tasks ≤ TASKS) after few))
body_stands (Some i) c y t p job answers count op ok same g next called core few =
    let after : y ≡ after_index c t g.row i op = core ∙ is_after_index c t g.row i op g.there in
    subst (λ (z : CoreState). BodyGoes (Some i) z t job (answers ++ heard op) (count + 1)) (sym after)
    (index_goes_called c t i job answers count op g called)

-- what stops the run: nothing, or a task too many
abbrev pub Halts : Simulation → Type 0
Halts y = (y.stop ≡ None) × (length y.core.table.tasks ≤ TASKS) ⊎ (y.stop ≡ Some S.Over) × (TASKS < length y.core.table.tasks)

-- the operation was done
pub did : (x y : Simulation) (op : Operation) → CanDo At IsOut x (λ a. op) → IsCalled op → x.stop ≡ None
    → y.core ≡ state_after (event_of x.index x.task op) x.core → y.task ≡ x.task → y.index ≡ x.index → y.indexes ≡ x.indexes → Halts y → Did At Moves IsOut x op y
did x y op h called none core task index indexes stop =
    let ok : IsAccepted x.core.program = subst IsAccepted (sym h.stands.program) h.accepted in
    let went = body_went x.index x.core y.core x.task h.program h.job h.answers h.count op ok h.stands.program
    (goes_in x h.job h.answers h.count none h.stands.stands) (h.next 0) called core in
    record {
      went = record { index = index; follows = went.follows; counted = λ counted. went.indexes ∙ (counted ∙ sym indexes); long = went.long };
      stands = λ p job answers count at next. record { program = went.follows.program ∙ at.program; stands = stands_on ok p job answers count at next stop };
      running = λ out. out_not stop out;
    }
  where
    out_not : Halts y → y.stop ≡ Some S.NoMemory → ⊥
    out_not (inl (n, few)) out = cc
    out_not (inr (n, many)) out = cc

    stands_on : IsAccepted x.core.program → (p : Program) (job : Job) (answers : List ℕ) (count : ℕ) → At x p job answers count → IsNext p job answers count op → Halts y
        → GoesOrNot y.stop y.index y.core y.task job (answers ++ heard op) (count + 1)
    stands_on ok p job answers count at next (inl (n, few)) =
        subst (λ (o : Option Halt). GoesOrNot o y.index y.core y.task job (answers ++ heard op) (count + 1)) (sym n)
        (subst (λ (i : Option ℕ). BodyGoes i y.core y.task job (answers ++ heard op) (count + 1)) (sym index)
        (subst (λ (t : ℕ). BodyGoes x.index y.core t job (answers ++ heard op) (count + 1)) (sym task)
        (body_stands x.index x.core y.core x.task p job answers count op ok at.program (goes_in x job answers count none at.stands) next called core few)))
    stands_on ok p job answers count at next (inr (n, many)) =
        subst (λ (o : Option Halt). GoesOrNot o y.index y.core y.task job (answers ++ heard op) (count + 1)) (sym n) (inl many)
