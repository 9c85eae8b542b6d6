-- How far a seat is with the indexes of a chunk.
use Rattle.std.specs.Prelude.{◌≡◌, ◌≤◌, ◌<◌, ℕ, ◌+◌, ◌-◌, List, ◌++◌, length, map, Option, Some}
use Rattle.kt_prog.specs.Accepted.{IsAccepted}
use Rattle.kt_prog.specs.Calls.{CallTree}
use Rattle.kt_prog.specs.Fits.{Fits}
use Rattle.kt_prog.specs.Runs.{FaultRun}
use Rattle.kt_prog.specs.Script.{Fault}
use Rattle.kt_prog.specs.declared.programs.Program.{Program}
use Rattle.kt_words.specs.declared.pairs.Pair.{Pair}
use Rattle.kt_rule.specs.declared.views.IndexRun.{IndexRun}
use Rattle.kt_rule.specs.declared.views.Setup.{Setup}
use Rattle.kt_rule.specs.declared.views.Spot.{Spot}
use Rattle.kt_rule.specs.declared.views.View.{View}
use Rattle.kt_rule.specs.Lists.{In}
use Rattle.kt_pieces.specs.Changes.{chunk_of, ended}
use Rattle.kt_calls.specs.Ranges.{IsRecord}
use Rattle.kt_intervals.specs.Drains.{IsFirstWith}
use Rattle.kt_intervals.specs.Faults.{index_faults}
use Rattle.kt_intervals.specs.Indexes.{IsIndexAtEnd}
use Rattle.kt_intervals.specs.Programs.{HasFirsts}

-- a chunk before any of its indexes is run: the setup, the seat's view, the loop and its first position, and the first fault so far
pub record Origin : Type 0 where
  pub setup : Setup
  pub view : View
  pub spot : Spot
  pub first : ℕ
  pub before : Option FaultRun

-- it is of this loop in this record, and of a run of this program
pub record IsRunWith (o : Origin) (p : Program) (firsts : List ℕ) (call : CallTree) (at : ℕ) : Type 0 where
  pub told : o.view.setup ≡ Some o.setup
  pub program : o.setup.program ≡ p
  pub accepted : IsAccepted p
  pub table : HasFirsts p.families firsts
  pub inside : IsRecord o.view at
  pub lies : o.spot.berth.at ≡ at
  pub called : o.spot.berth.call ≡ call
  pub fits : Fits p call

-- so many of its indexes, the first of them this one, are at their end, and so many behind them have done nothing yet
pub record IsWithin (o : Origin) (from count left : ℕ) (w : View) (after : Option FaultRun) : Type 0 where
  pub done : List IndexRun
  pub same : w ≡ record o.view {
    seen = record o.view.seen { line = w.seen.line };
    loops = record o.view.loops { taken = done ++ chunk_of o.spot o.first (from + count) left };
  }
  pub many : length done ≡ count
  pub within : from + count + left ≤ o.spot.berth.call.length
  pub spots : (e : IndexRun) → In e done → e.spot ≡ o.spot
  pub ends : (e : IndexRun) → In e done → (fault : Option Fault) × IsIndexAtEnd o.setup e fault
  pub least : IsFirstWith o.before after (index_faults o.setup (map ended done))

-- nothing is in hand but these positions, as indexes of the loop in this record
pub record IsTaken (at : ℕ) (w : View) (pair : Pair) : Type 0 where
  pub spot : Spot
  pub first : ℕ
  pub taken : w.loops.taken ≡ chunk_of spot first (pair.low - first) (pair.high - pair.low)
  pub some_taken : pair.low < pair.high
  pub from : first ≤ pair.low
  pub within : pair.high ≤ first + spot.berth.call.length
  pub lies : spot.berth.at ≡ at
