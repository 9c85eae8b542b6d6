use Rattle.std.proofs.Common.{ap, ◌∙◌, sym, subst, List, true, Option}
use Rattle.kt_prog.specs.Runs.{FaultRun}
use Rattle.kt_prog.specs.declared.programs.Program.{Program}
use Rattle.kt_rule.specs.declared.views.View.{View}
use Rattle.kt_rule.specs.Lists.{In}
use Rattle.kt_faults.specs.First.{earlier}
use Rattle.kt_tasks.specs.Hands.{IsHeld}
use Rattle.kt_tasks.specs.Climbs.{HasClimbed}
use Rattle.kt_worker.specs.Levels.{Calm, Extends, IsThrough}
use Rattle.kt_worker.specs.Stacks.{Frames}
use Rattle.kt_worker.specs.declared.stacks.Level.{Level}
use Rattle.kt_worker.specs.declared.tallies.Tally.{Tally}
use Rattle.kt_worker.proofs.Turning.{calm_seen, finish_calm, may_finish, on_top, rises, top_held, top_held_now, top_inside, turns_after}
use Rattle.kt_worker.proofs.finishing.finish.Goals as goal

pub fault_of-fault-requires : goal.fault_of-fault-requires
fault_of-fault-requires g c = record { inside = top_inside _ _ _ _ _ c.requires.calm; held = top_held _ _ _ _ _ c.requires.calm }

-- a seat that has read up a line of tasks is between two turns as before
climbed : (v w : View) (p : Program) (t : Tally) (levels : List Level) → HasClimbed v w → Calm v p t levels → Calm w p t levels × Extends v w
climbed v w p t levels same c =
    calm_seen v w p t levels (record v.seen { line = w.seen.line }) same (λ q i. subst (λ (y : View). In q y.seen.known) (sym same) i) c

-- and what it knows of the entries or indexes of the topmost frame
through : (v w : View) (l : Level) → HasClimbed v w → IsThrough v l → IsThrough w l
through v w l same h = record {
  last = h.last;
  emptied = λ looping. let e = h.emptied looping in record {
    setup = e.setup;
    told = ap (λ (y : View). y.setup) same ∙ e.told;
    head = e.head;
    rest = e.rest;
    runs = ap (λ (y : View). y.tasks.running) same ∙ e.runs;
    lies = e.lies;
    loop = e.loop;
    looping = e.looping;
    none_left = subst (λ (y : View). In e.head.spot.path y.loops.emptied) (sym same) e.none_left;
  };
}

pub finish-requires : goal.finish-requires
finish-requires g c = let now = (climbed _ _ _ _ _ c.fault_of-fault.ensures.climbed c.requires.calm).0 in
    record { inside = top_inside _ _ _ _ _ now; ended = may_finish _ _ _ _ _ now (through _ _ _ c.fault_of-fault.ensures.climbed c.requires.through) }

pub raise-requires-clause-rises : goal.raise-requires-clause-rises
raise-requires-clause-rises g c = rises _ _ _ _ _ c.requires.calm

pub returns-clause-turns : goal.returns-clause-turns
returns-clause-turns g c =
    let same = c.fault_of-fault.ensures.climbed in
    let now = climbed _ _ _ _ _ same c.requires.calm in
    let top = on_top _ _ _ _ _ now.0 in
    let here : IsHeld (g.R.Run.view c.args.worker.run) c.args.level.at top.e.spot =
    subst (λ (y : View). IsHeld y c.args.level.at top.e.spot) same (top_held_now _ _ _ _ _ now.0) in
    let fault = c.earlier-tally.ensures ∙ ap (λ (f : Option FaultRun). earlier c.fault_of-fault.result f) c.take.ensures.value
    ∙ ap (λ (f : Option FaultRun). earlier f c.args.worker.tally.fault) (c.fault_of-fault.ensures.fault top.e.spot here) in
    rw (ap (λ (f : Frames). f.levels) c.raise.ensures)
    (turns_after _ _ _ _ _ _ true now.1 (finish_calm _ _ _ _ _ now.0 _ _ c.finish.ensures.finished fault))
