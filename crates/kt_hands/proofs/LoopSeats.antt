-- The same of the calls on loops, and of the end of a task, which may be a loop.
use Rattle.std.proofs.Common.{◌≡◌, ◌==◌, ℕ, Bool, true, false, MatchBool, List, ◌∷◌, inl, inr, refl}
use Rattle.kt_words.specs.declared.pairs.Pair.{Pair}
use Rattle.kt_rule.specs.declared.views.View.{View}
use Rattle.kt_rule.specs.declared.views.Execution.{Execution}
use Rattle.kt_loops.specs.Operations.{MayFinish, finishes}
use Rattle.kt_loops.specs.Calls.{HasBegun, HasHeld, HasLeft, HasRetired, HasTaken, MayBegin, MayHold, MayRetire, RunsLoop}
use Rattle.kt_loops.specs.declared.loops.Begun.{Begun}
use Rattle.kt_loops.specs.declared.loops.Begun.TheVariants as B
use Rattle.kt_loops.specs.declared.pieces.Taken.{Taken}
use Rattle.kt_loops.specs.declared.pieces.Taken.TheVariants as T
use Rattle.kt_hands.proofs.Seats.{IsSame, same_as}

-- one of two views, both of the same seat
either_same : (b : Bool) (v w x y : View) → MatchBool b (w ≡ x) (w ≡ y) → IsSame v x → IsSame v y → IsSame v w
either_same true v w x y e s t = same_as v w x e s
either_same false v w x y e s t = same_as v w y e t

pub begun_same : (v w : View) (at : ℕ) (b : Begun) → MayBegin v at → HasBegun v at w b → IsSame v w
begun_same v w at (B.Begun first) may h =
    same_as v w _ (h may.head may.rest may.runs).0 (record { setup = refl; parts = refl; worker = refl })
begun_same v w at (B.Limit count) may h =
    same_as v w _ (h may.head may.rest may.runs).0.2 (record { setup = refl; parts = refl; worker = refl })

pub held_same : (v w : View) (at : ℕ) (piece : Pair) → MayHold v at piece → HasHeld v at piece w → IsSame v w
held_same v w at piece may h =
    same_as v w _ (h may.share may.is may.lies may.low may.high) (record { setup = refl; parts = refl; worker = refl })

pub taken_same : (v w : View) (grain : ℕ) (t : Taken) → HasTaken v grain w t → IsSame v w
taken_same v w grain (T.Got piece) h = same_as v w _ h.3.3 (record { setup = refl; parts = refl; worker = refl })
taken_same v w grain T.Empty h = same_as v w _ h (record { setup = refl; parts = refl; worker = refl })
taken_same v w grain (T.Moved word) h = same_as v w v h.0 (record { setup = refl; parts = refl; worker = refl })

pub retired_same : (v w : View) (at count left : ℕ) → MayRetire v at count → HasRetired v at count w left → IsSame v w
retired_same v w at count left may h =
    either_same (left == 0) v w _ _ (h may.spot may.done may.rest may.over may.lies may.many) (record { setup = refl; parts = refl; worker = refl })
    (record { setup = refl; parts = refl; worker = refl })

pub left_same : (v w : View) (at left : ℕ) → RunsLoop v at → HasLeft v w left → IsSame v w
left_same v w at left runs h =
    either_same (left == 0) v w _ _ (h runs.head runs.rest runs.runs) (record { setup = refl; parts = refl; worker = refl })
    (record { setup = refl; parts = refl; worker = refl })

pub finished_same : (v w : View) (at : ℕ) → MayFinish v at
    → ((e : Execution) (rest : List Execution) → v.tasks.running ≡ e ∷ rest → w ≡ finishes v e rest) → IsSame v w
finished_same v w at (inl q) h =
    same_as v w _ (h q.ended.head q.ended.rest q.ended.runs) (record { setup = refl; parts = refl; worker = refl })
finished_same v w at (inr q) h = same_as v w _ (h q.head q.rest q.runs) (record { setup = refl; parts = refl; worker = refl })
