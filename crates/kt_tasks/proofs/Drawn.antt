-- From the draw of a number to the store that publishes.
use Rattle.std.proofs.Common.{◌≡◌, ℕ, suc, ◌<◌, ◌≤◌, ◌⊎◌, List, [], ◌∷◌, length, length-append, sym, refl, ap, ◌∙◌, subst, inl, inr, arith}
use Rattle.kt_law.specs.declared.limits.TheConstants.{TASKS, INTS, ACCESSES}
use Rattle.kt_prog.specs.Calls.{CallTree}
use Rattle.kt_words.specs.declared.layouts.TheConstants.{RECORDS}
use Rattle.kt_words.specs.declared.layouts.Layout.{Layout}
use Rattle.kt_rule.specs.declared.views.Berth.{Berth}
use Rattle.kt_rule.specs.declared.views.Stored.{Stored}
use Rattle.kt_rule.specs.declared.views.Execution.{Execution}
use Rattle.kt_rule.specs.declared.views.View.{View}
use Rattle.kt_rule.specs.Steps.{draws_one, published, IsBehind, IsBerth}
use Rattle.kt_tasks.specs.Fields.{HasFilled, HasWritten, IsWritable, MayAnnounce}
use Rattle.kt_tasks.specs.Publications.{AreCounted, MayPublish, berth_of}

-- what was drawn, by the count that was found
abbrev Drew : View → Execution → ℕ → View → Type 0
Drew v e n w = ((suc n ≤ TASKS) × (w ≡ draws_one v e 0)) ⊎ ((TASKS < suc n) × (w ≡ draws_one v e 1))

pub over_limit : (e : Execution) (v w : View) (n : ℕ) → Drew v e n w → TASKS ≤ n → w ≡ draws_one v e 1
over_limit e v w n (inl h) over = let a = h.0 in absurd (omega arith)
over_limit e v w n (inr h) over = h.1

pub within_limit : (e : Execution) (v w : View) (n : ℕ) → Drew v e n w → n < TASKS → w ≡ draws_one v e 0
within_limit e v w n (inl h) less = h.1
within_limit e v w n (inr h) less = let a = h.0 in absurd (omega arith)

-- the view before the state word is stored
abbrev pub filled_so : View → Execution → List Stored → View
filled_so v e built = record (draws_one v e 0) { region = record v.region { built = built } }

pub view_filled : (v w x : View) (e : Execution) → w ≡ draws_one v e 0 → HasFilled w x → x ≡ filled_so v e x.region.built
view_filled v w x e drew h = h.same ∙ ap (λ (z : View). record z { region = record z.region { built = x.region.built } }) drew

-- the numbers of the child fit its words
pub child_fits : (v : View) (parent at frame fork n : ℕ) (child : CallTree) (l : Layout) → MayPublish v parent at frame fork child
    → AreCounted v n → IsWritable l n child → (length child.ints ≤ INTS) × (length child.accesses ≤ ACCESSES)
    → IsBerth (berth_of parent at frame fork child n)
child_fits v parent at frame fork n child l q counted fits few = record {
  state = let a = q.framed in let b = q.topmost in let c = counted.frames in let d = q.numbered in
      let e = counted.forks q.head q.rest q.runs in record {
        frame_fits = omega arith;
        fork_fits = omega arith;
        worker_fits = omega arith;
        blank_if_empty = tt;
      };
  head = record {
    task_fits = fits.task;
    depth_fits = fits.depth;
    number_fits = fits.number_fits;
    ints_fit = few.0;
    accesses_fit = few.1;
  };
  accesses = λ k a is. (fits.accesses k a is).0;
}

pub may_announce : (v x : View) (parent at frame fork n : ℕ) (child : CallTree) (q : MayPublish v parent at frame fork child) (w : View)
    → x ≡ filled_so v q.head x.region.built → HasWritten w parent n child x → IsBerth (berth_of parent at frame fork child n)
    → MayAnnounce x (berth_of parent at frame fork child n)
may_announce v x parent at frame fork n child q w is written fits = record {
  setup = q.setup;
  told = ap (λ (z : View). z.setup) is ∙ q.told;
  head = q.head;
  rest = q.rest;
  runs = ap (λ (z : View). z.tasks.running) is ∙ q.runs;
  forks = q.forks;
  more = q.more;
  next = q.next;
  calls = q.calls;
  framed = q.framed;
  topmost = q.topmost ∙ sym (ap (λ (z : View). z.tasks.begun) is);
  numbered = q.numbered;
  parent = ap suc (sym q.lies);
  behind = subst (λ (z : View). IsBehind z q.head) (sym is) q.behind;
  fits = fits;
  built = written.built (berth_of parent at frame fork child n) refl refl refl;
  drawn = ap (λ (z : View). z.draws.hands) is;
  within = ap (λ (z : View). z.draws.over) is;
}

-- the fields and the number that were in hand are so no longer
pub published_so : (v x : View) (h e : Execution) (rest : List Execution) (b : Berth) → v.draws.over ≡ 0
    → x ≡ filled_so v h x.region.built → published x e rest b ≡ published v e rest b
published_so v x h e rest b none_over is = ap (λ (z : View). published z e rest b) is ∙
    (λ i. record (published v e rest b) { draws = record { hands = []; over = sym none_over i } })

pub room_after : (v w : View) (e : Execution) (rest : List Execution) (b : Berth) → w ≡ published v e rest b
    → length v.region.spots < RECORDS → length w.region.spots ≤ RECORDS
room_after v w e rest b is room =
    let spots = ap (λ (z : View). length z.region.spots) is in
    let long = length-append v.region.spots (record { berth = b; path = Rattle.kt_runs.specs.ByPath.child e.spot.path e.forks } ∷ []) in
    omega arith
