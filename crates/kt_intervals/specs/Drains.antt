-- What a seat's view is once its own interval was run.
use Rattle.std.specs.Prelude.{◌≡◌, ℕ, true, List, [], ◌++◌, Option, Some}
use Rattle.kt_faults.specs.First.{IsFirst}
use Rattle.kt_prog.specs.Runs.{FaultRun}
use Rattle.kt_runs.specs.ByPath.{Path}
use Rattle.kt_rule.specs.declared.views.IndexRun.{IndexRun}
use Rattle.kt_rule.specs.declared.views.Setup.{Setup}
use Rattle.kt_rule.specs.declared.views.View.{View}
use Rattle.kt_rule.specs.Lists.{In}
use Rattle.kt_intervals.specs.Faults.{index_faults}
use Rattle.kt_intervals.specs.Indexes.{IsIndexOver}

-- whatever faults this was the first one of, that is the first of them and of these
abbrev pub IsFirstWith : Option FaultRun → Option FaultRun → List FaultRun → Type 0
IsFirstWith before after more = (faults : List FaultRun) → IsFirst before faults → IsFirst after (more ++ faults)

-- indexes of the loop in the record `at` were run to their end and retired, and none is in hand; no other part of the view is otherwise than
-- before, but for whether the run stops, whether the interval is empty, and what was found on the way to main
pub record Drains (at : ℕ) (v w : View) (before after : Option FaultRun) : Type 0 where
  pub more : List IndexRun
  pub same : w ≡ record v {
    seen = record v.seen { stop = w.seen.stop; line = w.seen.line };
    loops = record v.loops { taken = []; retired = more ++ v.loops.retired; emptied = w.loops.emptied; free = w.loops.free };
  }
  pub stop : v.seen.stop ≡ true → w.seen.stop ≡ true
  pub emptied : (p : Path) → In p v.loops.emptied → In p w.loops.emptied
  pub lie : (e : IndexRun) → In e more → e.spot.berth.at ≡ at
  pub over : (j : Setup) → v.setup ≡ Some j → (e : IndexRun) → In e more → IsIndexOver j e
  pub least : (j : Setup) → v.setup ≡ Some j → IsFirstWith before after (index_faults j more)
