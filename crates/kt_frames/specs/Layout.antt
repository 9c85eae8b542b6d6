-- How a stack of frames lies in one list of calls.
use Rattle.std.specs.Prelude.{◌≤◌, ◌<◌, ℕ, ◌-◌, List, [], ◌∷◌, length, take, drop, reverse, vec_capacity}
use Rattle.kt_prog.specs.Calls.{CallTree}
use Rattle.kt_frames.specs.Stack.{Frame}
use Rattle.kt_frames.specs.declared.frames.Span.{Span}
use Rattle.kt_frames.specs.declared.frames.Frames.TheInside.{Inside}

-- the frame that has the last calls
abbrev pub frame_from : ℕ → ℕ → List CallTree → Frame
frame_from start at calls = record { calls = drop start calls; finished = at - start }

-- the frames of these spans, from above; the first ends where the calls of the frame above it start
abbrev pub frames_below : ℕ → List Span → List CallTree → List Frame
frames_below end [] calls = []
frames_below end (s ∷ spans) calls = frame_from s.start s.at (take end calls) ∷ frames_below s.start spans calls

-- in each frame one of its calls runs
abbrev pub IsChain : ℕ → List Span → Type 0
IsChain end [] = Unit {0}
IsChain end (s ∷ spans) = (s.start ≤ s.at) × (s.at < end) × IsChain s.start spans

pub record IsLaidOut (f : Inside) : Type 0 where
  pub calls_fit : f.room ≤ vec_capacity f.calls
  pub frames_fit : f.room ≤ vec_capacity f.below
  pub small : f.room ≤ 4294967294
  pub tasks_fit : f.tasks ≤ f.room
  pub few : length f.calls.items ≤ f.tasks
  pub from : f.start ≤ f.at
  pub within : f.at ≤ length f.calls.items
  pub chain : IsChain f.start (reverse f.below.items)
