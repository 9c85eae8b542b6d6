-- What a body may do itself, and what it may fork.
use Rattle.std.specs.Prelude.{◌≡◌, ◌<◌, ℕ, zero, suc, List, [], ◌∷◌}
use Rattle.kt_law.specs.Acts.{Act}
use Rattle.kt_law.specs.declared.accesses.Access.{Access}
use Rattle.kt_law.specs.declared.modes.Mode.TheVariants.{Xp}
use Rattle.kt_rights.specs.Rights.{AreCovered, Allowed}
use Rattle.kt_prog.specs.Calls.{CallTree, Job, Whole, Index, call_of, index_of}
use Rattle.kt_prog.specs.Objects.{width_of, objects_of}
use Rattle.kt_prog.specs.Fits.{Fits}
use Rattle.kt_prog.specs.declared.programs.Program.{Program}

-- main has xp on every object, all others have their accesses
abbrev pub rights_at : ℕ → List Access → ℕ → List Access
rights_at objects accesses zero = record { lo = 0; hi = objects; mode = Xp } ∷ []
rights_at objects accesses (suc k) = accesses

abbrev pub rights_of : Program → CallTree → List Access
rights_of p call = rights_at (objects_of p.families) call.accesses call.task

-- a call that a body with these rights and a path of this length may fork
pub record MayFork (p : Program) (rights : List Access) (depth : ℕ) (call : CallTree) : Type 0 where
  pub fits : Fits p call
  pub deeper : call.depth ≡ suc depth
  pub covered : AreCovered rights call.accesses

-- what a body may do itself, by the rights of its call; an index has its own element alone of a `w` or `x` object
abbrev pub Directly : Program → Job → Act → Type 0
Directly p job act = Allowed (width_of p.families) (rights_of p (call_of job)) (index_of job) act

-- what a body may fork: a call, or an index of its own; an index forks nothing
abbrev pub Forks : Program → Job → Job → Type 0
Forks p (Whole call) (Whole child) = MayFork p (rights_of p call) call.depth child
Forks p (Whole call) (Index loop i) = (loop ≡ call) × (i < call.length)
Forks p (Index call i) job = ⊥
