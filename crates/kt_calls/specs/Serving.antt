-- What a leader's view is after it has served.
use Rattle.std.specs.Prelude.{◌≡◌, ℕ, false, List}
use Rattle.kt_runs.specs.ByPath.{Path}
use Rattle.kt_rule.specs.declared.views.View.{View}
use Rattle.kt_rule.specs.Lists.{In}

-- It leads no more, and what it claimed and the pieces that it split off it has given away. Its notes are those of its scan; what it knew
-- it knows still. What it saw of an interval may be otherwise.
pub record Serves (v w : View) : Type 0 where
  pub same : w ≡ record v {
    tasks = record v.tasks { claimed = w.tasks.claimed };
    seen = record v.seen { known = w.seen.known; notes = w.seen.notes };
    desk = w.desk;
    loops = record v.loops { sight = w.loops.sight };
  }
  pub free : w.desk.free ≡ v.desk.free
  pub leads : w.desk.leads ≡ false
  pub known : (p : Path) → In p v.seen.known → In p w.seen.known
