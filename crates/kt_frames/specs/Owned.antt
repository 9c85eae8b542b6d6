-- What an operation makes of the store and the frames of the owner's loop.
use Rattle.std.specs.Prelude.{◌≡◌, ℕ, List, Bool, ◌||◌, not, nat_lt}
use Rattle.kt_law.specs.Acts.{Load, Store, Fold}
use Rattle.kt_prog.specs.Calls.{Job}
use Rattle.kt_prog.specs.Store.{answer}
use Rattle.kt_prog.specs.declared.programs.Program.{Program}
use Rattle.kt_prog.specs.declared.runs.Operation.{Operation}
use Rattle.kt_prog.specs.declared.runs.Operation.TheVariants as O
use Rattle.kt_store.specs.Stores.{StoreState, after_act}
use Rattle.kt_frames.specs.Stack.{Stack, IsRunning, pushed}
use Rattle.kt_frames.specs.declared.owner.Owner.{Owner}

abbrev pub store_after : Operation → StoreState → StoreState
store_after (O.Load object element a) s = s
store_after (O.Store object element v) s = after_act (record { object = object; element = element; deed = Store v }) s
store_after (O.Fold object element op v) s = after_act (record { object = object; element = element; deed = Fold op v }) s
store_after (O.Fork call) s = s
store_after O.End s = s
store_after (O.Fault law line) s = s

-- a load finds what the store has
abbrev pub Finds : StoreState → Operation → Type 0
Finds s (O.Load object element a) = a ≡ answer s.program.families (record { object = object; element = element; deed = Load }) s.elements
Finds s (O.Store object element v) = Unit {0}
Finds s (O.Fold object element op v) = Unit {0}
Finds s (O.Fork call) = Unit {0}
Finds s O.End = Unit {0}
Finds s (O.Fault law line) = Unit {0}

abbrev pub frames_after : Operation → Stack → Stack
frames_after (O.Fork call) f = pushed f call
frames_after (O.Load object element a) f = f
frames_after (O.Store object element v) f = f
frames_after (O.Fold object element op v) f = f
frames_after O.End f = f
frames_after (O.Fault law line) f = f

-- a fork for which there is no room is one too many
abbrev pub over_after : Operation → Stack → Bool → Bool
over_after (O.Fork call) f over = over || not (nat_lt f.tasks f.room)
over_after (O.Load object element a) f over = over
over_after (O.Store object element v) f over = over
over_after (O.Fold object element op v) f over = over
over_after O.End f over = over
over_after (O.Fault law line) f over = over

pub record Moves (old : Owner) (operation : Operation) (new : Owner) : Type 0 where
  pub store : new.store ≡ store_after operation old.store
  pub found : Finds old.store operation
  pub frames : new.frames ≡ frames_after operation old.frames
  pub over : new.over ≡ over_after operation old.frames old.over
  pub indexes : new.indexes ≡ old.indexes

-- the store is one of this program, and a task runs
pub record Stands (owner : Owner) (p : Program) : Type 0 where
  pub program : owner.store.program ≡ p
  pub running : IsRunning owner.frames

abbrev pub stands_at : Owner → Program → Job → List ℕ → ℕ → Type 0
stands_at owner p job answers count = Stands owner p

-- the owner goes on to the end of each body
abbrev pub never : Owner → Type 0
never owner = ⊥
