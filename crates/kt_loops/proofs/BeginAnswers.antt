-- What the steps of a beginning leave, one after another.
use Rattle.std.proofs.Common.{◌≡◌, ℕ, ◌+◌, ◌<◌, ◌≤◌, ◌⊎◌, inl, inr, sym, ap, ◌∙◌, arith}
use Rattle.kt_law.specs.declared.limits.TheConstants.{INDEXES}
use Rattle.kt_rule.specs.declared.views.Execution.{Execution}
use Rattle.kt_rule.specs.declared.views.View.{View}
use Rattle.kt_words.specs.declared.layouts.Layout.{Layout}
use Rattle.kt_rule.specs.Records.{layout_of}
use Rattle.kt_steps.specs.Told.{IsLiveOf}
use Rattle.kt_steps.proofs.Telling.{the_some}
use Rattle.kt_loops.specs.Hands.{draws_positions, places_first}
use Rattle.kt_loops.specs.Calls.{MayBegin}

-- either way of a draw
abbrev pub Drew : View → Execution → ℕ → ℕ → View → Type 0
Drew v e n count w = ((n + count ≤ INDEXES) × (w ≡ draws_positions v e n 0)) ⊎ ((INDEXES < n + count) × (w ≡ draws_positions v e n 1))

pub drawn_over : (v w : View) (e : Execution) (n count : ℕ) → INDEXES < n + count → Drew v e n count w → w ≡ draws_positions v e n 1
drawn_over v w e n count more (inl h) = let a = h.0 in absurd (omega (arith, a, more))
drawn_over v w e n count more (inr h) = h.1

pub drawn_within : (v w : View) (e : Execution) (n count : ℕ) → n + count ≤ INDEXES → Drew v e n count w → w ≡ draws_positions v e n 0
drawn_within v w e n count less (inl h) = h.1
drawn_within v w e n count less (inr h) = let a = h.0 in absurd (omega (arith, a, less))

-- the seat is live all the time
pub live_drawn : (l : Layout) (worker : ℕ) (v w : View) (e : Execution) (n over : ℕ) → IsLiveOf l worker v → w ≡ draws_positions v e n over → IsLiveOf l worker w
live_drawn l worker v w e n over h is = record {
  setup = h.setup;
  told = ap (λ (z : View). z.setup) is ∙ h.told;
  layout = h.layout;
  live = let a = ap (λ (z : View). z.parts) is in let b = h.live in omega (arith, a, b);
  own = h.own ∙ sym (ap (λ (z : View). z.worker) is);
}

pub live_placed : (l : Layout) (worker : ℕ) (v w : View) → IsLiveOf l worker v → w ≡ places_first v → IsLiveOf l worker w
live_placed l worker v w h is = record {
  setup = h.setup;
  told = ap (λ (z : View). z.setup) is ∙ h.told;
  layout = h.layout;
  live = let a = ap (λ (z : View). z.parts) is in let b = h.live in omega (arith, a, b);
  own = h.own ∙ sym (ap (λ (z : View). z.worker) is);
}

-- the setup is the one that the seat was told
pub one_layout : (l : Layout) (worker at : ℕ) (v : View) (h : IsLiveOf l worker v) (q : MayBegin v at) → layout_of q.setup ≡ l
one_layout l worker at v h q = ap layout_of (the_some (sym q.told ∙ h.told)) ∙ h.layout
