-- What the lists of a view say of each path, and the views before the first step and after the last.
use Rattle.std.specs.Prelude.{ℕ, zero, suc, ◌+◌, cond, false, true, List, [], ◌∷◌, ◌++◌, map, None}
use Rattle.kt_order.specs.Paths.{same_path}
use Rattle.kt_prog.specs.Calls.{main_call}
use Rattle.kt_runs.specs.ByPath.{Path, child}
use Rattle.kt_rule.specs.declared.views.Berth.{Berth}
use Rattle.kt_rule.specs.declared.views.Spot.{Spot}
use Rattle.kt_rule.specs.declared.views.Execution.{Execution}
use Rattle.kt_rule.specs.declared.views.Promise.{Promise}
use Rattle.kt_rule.specs.declared.views.Region.{Region}
use Rattle.kt_rule.specs.declared.views.Tasks.{Tasks}
use Rattle.kt_rule.specs.declared.views.Seen.{Seen}
use Rattle.kt_rule.specs.declared.views.Draws.{Draws}
use Rattle.kt_rule.specs.declared.views.Desk.{Desk}
use Rattle.kt_rule.specs.declared.views.LoopHands.{LoopHands}
use Rattle.kt_rule.specs.declared.views.Share.{Share}
use Rattle.kt_rule.specs.declared.views.View.{View}
use Rattle.kt_rule.specs.Lists.{times, weigh}

abbrev pub spot_path : Spot → Path
spot_path m = m.path

abbrev pub path_of : Execution → Path
path_of e = e.spot.path

abbrev pub promise_path : Promise → Path
promise_path m = m.spot.path

-- how often a path stands in the lists of a seat
abbrev pub mine_in : View → Path → ℕ
mine_in v p = times p (map spot_path v.region.mine)

abbrev pub claimed_in : View → Path → ℕ
claimed_in v p = times p v.tasks.claimed

abbrev pub promised_in : View → Path → ℕ
promised_in v p = times p (map promise_path v.tasks.promised)

abbrev pub given_in : View → Path → ℕ
given_in v p = times p (map spot_path v.tasks.given)

-- among those that it runs, those that a joined seat left, and those that ran
abbrev pub begun_in : View → Path → ℕ
begun_in v p = times p (map path_of v.tasks.running) + (times p (map path_of v.tasks.halted) + times p (map path_of v.tasks.ran))

abbrev pub drawn_in : View → Path → ℕ
drawn_in v p = times p v.draws.hands

-- all tasks that the seat began
abbrev pub executions : View → List Execution
executions v = v.tasks.running ++ (v.tasks.halted ++ v.tasks.ran)

-- how many indexes the task has, as a loop that has begun
abbrev pub indexes_of : Execution → ℕ
indexes_of e = cond e.looping e.spot.berth.call.length 0

abbrev pub share_long : Share → ℕ
share_long x = x.spot.berth.call.length

-- how many positions the seat drew: for loops that it began, and for one that has not begun
abbrev pub positions_in : View → ℕ
positions_in v = weigh indexes_of (executions v) + weigh share_long v.loops.pending

-- how many of the latter are of the loop at a path
abbrev pub pending_in : View → Path → ℕ
pending_in v p = weigh (λ (x : Share). cond (same_path p x.spot.path) (share_long x) 0) v.loops.pending

-- the paths of the first n children
abbrev pub children : Path → ℕ → List Path
children p zero = []
children p (suc n) = children p n ++ child p n ∷ []

-- the entries of the frames of the tasks that run, the first begun at the bottom
abbrev pub frames : List Execution → List Path
frames [] = []
frames (e ∷ es) = frames es ++ children e.spot.path e.forks

-- main stands at the bottom of the region of worker 0
abbrev pub roots : ℕ → List Path
roots zero = [] ∷ []
roots (suc k) = []

-- where main lies
abbrev pub main_berth : Berth
main_berth = record { at = 0; frame = 0; fork = 0; number = 0; parent = 0; call = main_call }

abbrev pub main_spot : Spot
main_spot = record { berth = main_berth; path = [] }

abbrev pub empty_region : Region
empty_region = record { spots = []; mine = []; built = [] }

abbrev pub no_tasks : Tasks
no_tasks = record { claimed = []; promised = []; given = []; running = []; halted = []; ran = []; begun = 0 }

abbrev pub nothing_seen : Seen
nothing_seen = record { known = []; notes = []; stop = false; line = [] }

abbrev pub no_draws : Draws
no_draws = record { hands = []; over = 0 }

-- a post that is idle, and no lead
abbrev pub quiet_desk : Desk
quiet_desk = record {
  free = true;
  asked = 0;
  saw = false;
  word = 0;
  got = false;
  piece = 0;
  leads = false;
  victim = 0;
  held = [];
  found = [];
  wrote = [];
}

-- nothing of a loop in hand, and an interval that is empty
abbrev pub no_loops : LoopHands
no_loops = record {
  pending = [];
  placed = false;
  pieces = [];
  taken = [];
  retired = [];
  emptied = [];
  free = true;
  home = 0;
  sight = None;
  over = 0;
}

-- the one seat before it is told the setup
abbrev pub blank_view : View
blank_view = record {
  setup = None;
  worker = 0;
  parts = 1;
  made = 0;
  region = empty_region;
  tasks = no_tasks;
  seen = nothing_seen;
  draws = no_draws;
  desk = quiet_desk;
  loops = no_loops;
}

-- what is left of a seat that was joined to another
abbrev pub spent : View
spent = record blank_view { parts = 0 }
