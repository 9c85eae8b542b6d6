-- The loop of an interval that is not empty: where it lies, that it runs, and that nobody has taken its index at the interval's front.
use Rattle.std.proofs.Common.{◌≡◌, ◌≢◌, ℕ, suc, ◌+◌, ◌-◌, ◌<◌, ◌≤◌, ◌⊎◌, false, List, [], length, sym, refl, ap, ◌∙◌, inl, inr, arith}
use mathlib.Core.Option.{Option, none, some}
use lib.ListN.{get_elem?}
use Rattle.atomic_table.specs.Table.{State}
use Rattle.kt_order.specs.Forest.{Unclaimed, Finished}
use Rattle.kt_runs.specs.ByPath.{Path, child}
use Rattle.kt_words.specs.declared.layouts.Layout.{Layout}
use Rattle.kt_words.specs.declared.pairs.Pair.{Pair}
use Rattle.kt_rule.specs.declared.views.Setup.{Setup}
use Rattle.kt_rule.specs.declared.views.View.{View}
use Rattle.kt_rule.specs.Lies.{Loops, IndexLie, Lie, Lies, is_gone}
use Rattle.kt_rule.specs.Records.{layout_of}
use Rattle.kt_rule.specs.LoopWords.{LoopWords, Hand, loop_words, hands_of}
use Rattle.kt_rule.specs.LoopFacts.{IsPiece}
use Rattle.kt_rule.specs.Rule.{Slots, Facts}
use Rattle.kt_pieces.proofs.Indexes.{there_at}
use Rattle.kt_pieces.proofs.Chunks.{unclaimed}
use Rattle.kt_loops.proofs.OnTheWay.{loops_on}

none_or : (x : Option Lie) → (x ≡ none) ⊎ ((t : Lie) × (x ≡ some t))
none_or none = inl refl
none_or (some t) = inr (t, refl)

less_or : (a b : ℕ) → (a < b) ⊎ (b ≤ a)
less_or a b = grind arith

-- THE LOOP OF WORKER k's INTERVAL

module _ (j : Setup) (lies : Lies) (s : State Slots View) (f : Facts j lies s) (k : ℕ) (less : k < j.workers) where
  abbrev l : Layout
  l = layout_of j

  abbrev ws : LoopWords
  ws = loop_words l s.words

  abbrev own : Pair
  own = ws.interval k

  module _ (long : own.low < own.high) where
    abbrev found : (a : ℕ) × (ws.home k ≡ suc a) × IsPiece lies a own.low own.high
    found = f.looped.homes k less long

    abbrev pub p : Path
    p = found.2.path

    abbrev pub t : Lie
    t = found.2.task

    pub is : lies p ≡ some t
    is = found.2.is

    pub live : is_gone t.stage ≡ false
    live = found.2.live

    pub home : ws.home k ≡ suc t.berth.at
    home = let a = found.1 in let b = found.2.at in omega (arith, a, b)

    pub first : t.first ≤ own.low
    first = found.2.first

    pub last : own.high ≤ t.first + length t.indexes
    last = found.2.last

    pub alone : (q : Path) (y : Lie) → lies q ≡ some y → is_gone y.stage ≡ false → y.berth.at ≡ t.berth.at → q ≡ p
    alone q y e lives same = f.words.alone q p y t e is lives live same

    -- the index at the front
    abbrev pub from : ℕ
    from = own.low - t.first

    pub begins : own.low ≡ t.first + from
    begins = let a = first in omega (arith, a)

    some_indexes : t.indexes ≢ []
    some_indexes e = let a = ap (λ (xs : List IndexLie). length xs) e in let b = last in let c = first in
        absurd (omega (arith, a, b, c, long))

    -- it has no positions behind those of its loop
    pub within : own.high ≤ t.first + t.berth.call.length
    within = elim (f.looped.booked p t is).whole [
      | inl e ↦ absurd (some_indexes e)
      | inr e ↦ (let a = last in omega (arith, a, e))
    ]

    -- its worker has a seat
    hand : (h : Hand) × (get_elem? (hands_of s.views) k ≡ some h)
    hand = elim (less_or k (length (hands_of s.views))) [
      | inl low ↦ there_at (hands_of s.views) k low
      | inr none_there ↦ absurd (let a = (f.looped.unmade k none_there less).0 in omega (arith, a, long))
    ]

    -- nobody has taken these indexes
    pub waits : (n : ℕ) → 1 ≤ n → own.low + n ≤ own.high → (i : ℕ) → from ≤ i → i < from + n
        → (x : IndexLie) × (get_elem? t.indexes i ≡ some x) × (x.phase ≡ Unclaimed)
    waits n some_more fits = unclaimed j.workers lies ws (hands_of s.views) f.looped k hand.0 hand.1 less p t is live alone home from n begins some_more fits

    -- no task is below it
    pub bare : (i : ℕ) → lies (child p i) ≡ none
    bare i = elim (none_or (lies (child p i))) [
      | inl e ↦ e
      | inr (u, e) ↦ absurd (some_indexes (f.looped.childless p i t u is e))
    ]

    -- it runs
    pub runs : (w : ℕ) × (t.stage ≡ Loops w)
    runs = let x = waits 1 (omega arith) (omega (arith, long)) from (omega arith) (omega arith) in
        loops_on j lies s f p t is from x.0 x.1 (λ over. let z : Unclaimed ≡ Finished = sym x.2 ∙ over in cc)
