-- A seat that begins a loop, or runs its own interval.
use Rattle.std.specs.Prelude.{◌≡◌, ℕ, suc, Bool, true, false, List, ◌∷◌, MatchBool}
use Rattle.kt_prog.specs.declared.programs.Program.{Program}
use Rattle.kt_rule.specs.declared.views.View.{View}
use Rattle.kt_loops.specs.Calls.{MayBegin}
use Rattle.kt_loops.specs.Hands.{began, finds_empty}
use Rattle.kt_calls.specs.Ranges.{IsRecord}
use Rattle.kt_intervals.specs.Drains.{Drains}
use Rattle.kt_worker.specs.Levels.{Calm, Ends, Extends}
use Rattle.kt_worker.specs.declared.stacks.Level.{Level}
use Rattle.kt_worker.specs.declared.tallies.Tally.{Tally}

-- it would be between two turns if its own interval, of the loop in this record, were empty
pub record HasInterval (w : View) (p : Program) (t : Tally) (levels : List Level) (at : ℕ) : Type 0 where
  pub calm : Calm (finds_empty w) p t levels
  pub home : w.loops.home ≡ suc at
  pub inside : IsRecord w at

-- the loop in this record has begun, and its positions are the own interval (true), or the run stops
abbrev pub Opens : View → View → Program → Tally → List Level → ℕ → Bool → Type 0
Opens v w p t levels at true = HasInterval w p t levels at × Extends v w
Opens v w p t levels at false = Ends w t.fault × Extends v w

-- the zeroing of the running body's loop is done, and were it begun, the seat would be between two turns
pub record MayLoop (v : View) (p : Program) (t : Tally) (levels : List Level) (l : Level) : Type 0 where
  pub may : MayBegin v l.at
  pub calm : Calm (record v { tasks = record v.tasks { running = began may.head ∷ may.rest } }) p t (l ∷ levels)

-- it ran indexes of the loop in this record: until the own interval was empty (true), or the run stops
pub record RanOwn (at : ℕ) (v w : View) (t u : Tally) (more : Bool) : Type 0 where
  pub drained : Drains at v w t.fault u.fault
  pub same : u ≡ record t { fault = u.fault }
  pub ends : MatchBool more (w.loops.free ≡ true) (w.seen.stop ≡ true)
