-- The events of the core keep it lawful, so each run goes through lawful cores.
use Rattle.std.proofs.Common.{ℕ, List, [], ◌∷◌, refl}
use Rattle.kt_order.specs.Laws.{Laws}
use Rattle.kt_order.specs.Forest.{Place, Here, Down, Later}
use Rattle.kt_prog.specs.Laws.{BodiesKeep, LoopsAreDirect}
use Rattle.kt_prog.specs.Accepted.{IsAccepted}
use Rattle.kt_prog.specs.Reference.{machine_of}
use Rattle.kt_prog.specs.declared.programs.Program.{Program}
use Rattle.kt_runs.specs.Rights.{rights_in}
use Rattle.kt_runs.specs.States.{opening_core, IsDone, GivesReference}
use Rattle.kt_runs.specs.Loops.{LoopAt}
use Rattle.kt_runs.specs.CoreEvents.{CoreEvent, Booked, IsLooping, IsRunningLoop, BareAt, empty_book, TaskAt, CanDo, after_core, IsLawfulCore, opening_booked, IsCoreRun, after_core_events}
use Rattle.kt_runs.proofs.Runs.{opening_lawful, done_gives}
use Rattle.kt_runs.proofs.Booked.{IsBooked, keeps}
use Rattle.kt_runs.proofs.Bare.{bare_kept}
use Rattle.kt_runs.proofs.Emptied.{empty_kept}

module _ (p : Program) (input : List ℕ) (l : Laws (machine_of p) (rights_in p)) (bodies : BodiesKeep) (direct : LoopsAreDirect) (ok : IsAccepted p) where
  pub core_keeps : (e : CoreEvent) (y : Booked p) → CanDo p e y → IsLawfulCore p input y → IsLawfulCore p input (after_core p e y)
  core_keeps e y can h =
      let booked : IsBooked p input y = record { lawful = h.lawful; books = h.books } in
      let kept = keeps p input l bodies direct ok e y can booked in
      record {
        lawful = kept.lawful;
        books = kept.books;
        bare = bare_kept p input l bodies direct ok e y can booked h.bare;
        empty = empty_kept p input l bodies direct ok e y can booked h.empty;
      }

  opening_books : (q : Place) → TaskAt p (IsLooping p) q (opening_core p input) → LoopAt p empty_book q (opening_core p input)
  opening_books Here looping = absurd (cc (looping.1))
  opening_books (Down q) looping = looping
  opening_books (Later q) looping = looping

  opening_bare : (q : Place) → TaskAt p (IsRunningLoop p) q (opening_core p input) → BareAt p q (opening_core p input)
  opening_bare Here running = refl
  opening_bare (Down q) running = running
  opening_bare (Later q) running = running

  run_from : (es : List CoreEvent) (y : Booked p) → IsCoreRun p es y → IsLawfulCore p input y → IsLawfulCore p input (after_core_events p es y)
  run_from [] y can h = h
  run_from (e ∷ es) y can h = run_from es (after_core p e y) can.1 (core_keeps e y can.0 h)

  pub runs_lawful : (es : List CoreEvent) → IsCoreRun p es (opening_booked p input) → IsLawfulCore p input (after_core_events p es (opening_booked p input))
  runs_lawful es can = run_from es (opening_booked p input) can
      (record { lawful = opening_lawful p input l; books = opening_books; bare = opening_bare; empty = λ q none. refl })

  pub runs_give : (es : List CoreEvent) → IsCoreRun p es (opening_booked p input) → IsDone p (after_core_events p es (opening_booked p input)).core
      → GivesReference p input (after_core_events p es (opening_booked p input)).core
  runs_give es can done = done_gives p input l (after_core_events p es (opening_booked p input)).core (runs_lawful es can).lawful done
