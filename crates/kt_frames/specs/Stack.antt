-- A stack of frames as plain lists, and what the calls on it make of it.
use Rattle.std.specs.Prelude.{◌≢◌, ◌≤◌, ℕ, suc, ◌+◌, List, [], ◌∷◌, ◌++◌, length, Option, Some, None, nat_lt, slice_get, if◌then◌else◌}
use Rattle.kt_prog.specs.Calls.{CallTree, main_call}
use Rattle.kt_frames.specs.declared.frames.Pushed.{Pushed}
use Rattle.kt_frames.specs.declared.frames.Pushed.TheVariants as P

-- the calls that a task forked, in order, and how many of them, the first ones, are finished
pub record Frame : Type 0 where
  pub calls : List CallTree
  pub finished : ℕ

-- In each frame below the topmost the first unfinished entry runs, and the frame above has its children.
pub record Stack : Type 0 where
  pub top : Frame
  -- the frames below it, from above
  pub below : List Frame
  -- so many tasks there were so far, and there may be so many
  pub tasks : ℕ
  pub room : ℕ

-- the path of entry n, counted from 1, of the frame over these; main's is empty
abbrev pub entry_path : List Frame → ℕ → List ℕ
entry_path [] n = []
entry_path (f ∷ below) n = entry_path below (suc f.finished) ++ n ∷ []

-- the path of the task whose children the topmost frame has
abbrev pub path_over : List Frame → List ℕ
path_over [] = []
path_over (f ∷ below) = entry_path below (suc f.finished)

-- one frame with main alone
abbrev pub opened : ℕ → Stack
opened room = record { top = record { calls = main_call ∷ []; finished = 0 }; below = []; tasks = 1; room = room }

-- a task runs
abbrev pub IsRunning : Stack → Type 0
IsRunning s = s.below ≢ []

-- every entry of the topmost frame is finished
abbrev pub HasEnded : Stack → Type 0
HasEnded s = length s.top.calls ≤ s.top.finished

abbrev pub pushed_as : Stack → Pushed
pushed_as s = if nat_lt s.tasks s.room then P.Pushed s.tasks else P.Limit (s.tasks + 1)

abbrev pub with_child : Stack → CallTree → Stack
with_child s call = record {
  top = record { calls = s.top.calls ++ call ∷ []; finished = s.top.finished };
  below = s.below;
  tasks = s.tasks + 1;
  room = s.room;
}

-- a child more, where there is room for one
abbrev pub pushed : Stack → CallTree → Stack
pushed s call = if nat_lt s.tasks s.room then with_child s call else s

-- the first unfinished entry of the topmost frame
abbrev pub next_of : Stack → Option CallTree
next_of s = slice_get s.top.calls s.top.finished

abbrev pub begun_at : Option CallTree → Stack → Stack
begun_at None s = s
begun_at (Some call) s = record { top = record { calls = []; finished = 0 }; below = s.top ∷ s.below; tasks = s.tasks; room = s.room }

-- it runs, with a frame for its children
abbrev pub begun : Stack → Stack
begun s = begun_at (next_of s) s

abbrev pub finished_to : List Frame → Stack → Stack
finished_to [] s = s
finished_to (f ∷ below) s = record { top = record { calls = f.calls; finished = suc f.finished }; below = below; tasks = s.tasks; room = s.room }

-- the topmost frame is gone, and its task is finished
abbrev pub finished_top : Stack → Stack
finished_top s = finished_to s.below s
