-- One index of a chunk after another.
use Rattle.std.proofs.Common.{◌≡◌, ◌<◌, ◌⊎◌, inl, inr, ℕ, suc, ◌+◌, List, [], ◌∷◌, ◌++◌, length, map, Option, Some, refl, sym, ap, ◌∙◌, subst, arith, length-append}
use Rattle.std.proofs.lemmas.List.{append_assoc}
use Rattle.kt_faults.specs.First.{earlier, IsFirst}
use Rattle.kt_prog.specs.Calls.{CallTree, Index}
use Rattle.kt_prog.specs.Fits.{FitsJob}
use Rattle.kt_prog.specs.Runs.{FaultRun}
use Rattle.kt_prog.specs.Script.{Fault}
use Rattle.kt_prog.specs.declared.programs.Program.{Program}
use Rattle.kt_rule.specs.declared.views.IndexRun.{IndexRun}
use Rattle.kt_rule.specs.declared.views.Spot.{Spot}
use Rattle.kt_rule.specs.declared.views.View.{View}
use Rattle.kt_rule.specs.Lists.{In, here}
use Rattle.kt_rule.proofs.Sums.{in_append, in_cons, in_right}
use Rattle.kt_pieces.specs.Changes.{chunk_of, ended}
use Rattle.kt_loops.specs.Operations.{with_taken}
use Rattle.kt_tasks.specs.Climbs.{HasClimbed}
use Rattle.kt_tasks.specs.Hands.{IsHeld}
use Rattle.kt_calls.specs.Ranges.{IsRecord}
use Rattle.kt_intervals.specs.Chunks.{IsRunWith, IsWithin, Origin}
use Rattle.kt_intervals.specs.Faults.{index_faults}
use Rattle.kt_body.specs.declared.ops.Ended.{Ended}
use Rattle.kt_body.specs.declared.ops.Ended.TheVariants as E
use Rattle.kt_intervals.specs.Indexes.{Came, GoneSo, IsIndexAtEnd, StandsIn, Start, index_fault, fault_with}
use Rattle.kt_intervals.proofs.Faults.{first_with_one}
use Rattle.kt_intervals.proofs.Stands.{end_left, way_begun}

-- a list is taken apart in one way at an entry with so many before it
pub split_once : {A : Type 0} (xs ys : List A) (a b : A) (us vs : List A) → xs ++ a ∷ us ≡ ys ++ b ∷ vs → length xs ≡ length ys
    → (xs ≡ ys) × (a ≡ b) × (us ≡ vs)
split_once [] [] a b us vs e n = (refl, cc, cc)
split_once [] (y ∷ ys) a b us vs e n = absurd (omega (arith, n))
split_once (x ∷ xs) [] a b us vs e n = absurd (omega (arith, n))
split_once {A} (x ∷ xs) (y ∷ ys) a b us vs e n =
    let less : length xs ≡ length ys = omega (arith, n) in
    let tail : xs ++ a ∷ us ≡ ys ++ b ∷ vs = cc in
    let head : x ≡ y = cc in
    let r = split_once xs ys a b us vs tail less in
    (ap (λ (z : A). z ∷ xs) head ∙ ap (λ (zs : List A). y ∷ zs) r.0, r.1, r.2)

-- no body was halted
pub came_so : (start : Start) (w : View) (ended : Ended) → GoneSo start w ended → Came start w (fault_with ended)
came_so start w E.Done h = h
came_so start w (E.Fault law line) h = h
came_so start w E.Halted h = absurd h

-- an index that has done nothing
abbrev fresh : Spot → ℕ → ℕ → IndexRun
fresh m first i = record { spot = m; index = i; position = first + i; answers = []; done = 0 }

module _ (o : Origin) (p : Program) (firsts : List ℕ) (call : CallTree) (at : ℕ) (r : IsRunWith o p firsts call at) where
  setup_is : (w : View) → w.setup ≡ o.view.setup → w.setup ≡ Some o.setup
  setup_is w e = e ∙ r.told

  pub record_now : (w : View) → w.setup ≡ o.view.setup → IsRecord w at
  record_now w e = record { setup = r.inside.setup; told = e ∙ r.inside.told; below = r.inside.below }

  module _ (from count left : ℕ) (w : View) (after : Option FaultRun) (s : IsWithin o from count (suc left) w after)
      (k : ℕ) (k_is : k ≡ count) where
    abbrev e0 : IndexRun
    e0 = fresh o.spot o.first (from + count)

    abbrev behind : List IndexRun
    behind = chunk_of o.spot o.first (suc (from + count)) left

    taken_now : w.loops.taken ≡ s.done ++ e0 ∷ behind
    taken_now = ap (λ (x : View). x.loops.taken) s.same

    same_setup : w.setup ≡ o.view.setup
    same_setup = ap (λ (x : View). x.setup) s.same

    pub index_small : from + count < call.length
    index_small = let h = s.within in let same = ap (λ (c : CallTree). c.length) r.called in omega (arith, h, same)

    pub fits_next : FitsJob p (Index call (from + count))
    fits_next = (r.fits, index_small)

    pub begins_next : StandsIn (record { view = w; count = k }) (record { view = w; program = p; firsts = firsts }) p (Index call (from + count)) [] 0
    begins_next = record {
      program = refl;
      setup = o.setup;
      told = setup_is w same_setup;
      same_program = r.program;
      firsts = r.table;
      e = e0;
      since = record {
        done = s.done;
        start = e0;
        rest = behind;
        was = taken_now;
        many = s.many ∙ sym k_is;
        went = refl;
        same = ap (λ (ts : List IndexRun). with_taken w ts) taken_now;
      };
      before = λ e i. let h = s.ends e i in (h.0, end_left o.setup e h.0 h.1);
      way = way_begun o.setup e0 refl refl;
      job_is = ap (λ (c : CallTree). Index c (from + count)) (sym r.called);
      answers_are = refl;
      count_is = refl;
    }

    -- behind the body of that index
    module _ (u : View) (fault : Option Fault) (c : Came (record { view = w; count = k }) u fault) where
      parts : (c.since.done ≡ s.done) × (c.since.start ≡ e0) × (c.since.rest ≡ behind)
      parts = split_once c.since.done s.done c.since.start e0 c.since.rest behind (sym c.since.was ∙ taken_now) (c.since.many ∙ k_is ∙ sym s.many)

      went : c.e ≡ record e0 { answers = c.e.answers; done = c.e.done }
      went = c.since.went ∙ ap (λ (x : IndexRun). record x { answers = c.e.answers; done = c.e.done }) parts.1

      spot_is : c.e.spot ≡ o.spot
      spot_is = ap (λ (x : IndexRun). x.spot) went

      index_is : c.e.index ≡ from + count
      index_is = ap (λ (x : IndexRun). x.index) went

      same_now : u ≡ with_taken w (s.done ++ c.e ∷ behind)
      same_now = c.since.same ∙ ap (λ (xs : List IndexRun). with_taken w (xs ++ c.e ∷ c.since.rest)) parts.0
          ∙ ap (λ (xs : List IndexRun). with_taken w (s.done ++ c.e ∷ xs)) parts.2

      at_end : IsIndexAtEnd o.setup c.e fault
      at_end = c.ends o.setup (setup_is w same_setup)

      pub record_then : IsRecord u at
      record_then = record_now u (ap (λ (x : View). x.setup) same_now ∙ same_setup)

      pub held_then : IsHeld u at o.spot
      held_then = (
        inr (inr (inr (c.e, subst (λ (ts : List IndexRun). In c.e ts) (sym (ap (λ (x : View). x.loops.taken) same_now)) (in_right s.done (c.e ∷ behind) c.e here), spot_is))),
        r.lies,
      )

      either : (x : IndexRun) → In x (s.done ++ c.e ∷ []) → In x s.done ⊎ (x ≡ c.e)
      either x i = by (in_append s.done (c.e ∷ []) x i)
        where
          last : (x ≡ c.e) ⊎ In x [] → In x s.done ⊎ (x ≡ c.e)
          last (inl is) = inr is
          last (inr none) = elim none [ ]

          by : In x s.done ⊎ In x (c.e ∷ []) → In x s.done ⊎ (x ≡ c.e)
          by (inl old) = inl old
          by (inr new) = last (in_cons x c.e [] new)

      spots_then : (x : IndexRun) → In x s.done ⊎ (x ≡ c.e) → x.spot ≡ o.spot
      spots_then x (inl old) = s.spots x old
      spots_then x (inr is) = ap (λ (y : IndexRun). y.spot) is ∙ spot_is

      ends_then : (x : IndexRun) → In x s.done ⊎ (x ≡ c.e) → (f : Option Fault) × IsIndexAtEnd o.setup x f
      ends_then x (inl old) = s.ends x old
      ends_then x (inr is) = subst (λ (y : IndexRun). (f : Option Fault) × IsIndexAtEnd o.setup y f) (sym is) (fault, at_end)

      list_then : s.done ++ c.e ∷ behind ≡ (s.done ++ c.e ∷ []) ++ chunk_of o.spot o.first (from + (count + 1)) left
      list_then =
          sym (append_assoc s.done (c.e ∷ []) behind)
          ∙ ap (λ (n : ℕ). (s.done ++ c.e ∷ []) ++ chunk_of o.spot o.first n left) (let n : suc (from + count) ≡ from + (count + 1) = omega arith in n)

      pub within_then : (z : View) (next : Option FaultRun) → HasClimbed u z → next ≡ earlier after (index_fault o.spot.path (from + count) fault)
          → IsWithin o from (count + 1) left z next
      within_then z next climbed first = record {
        done = s.done ++ c.e ∷ [];
        same = climbed ∙ ap (λ (x : View). record x { seen = record x.seen { line = z.seen.line } }) (same_now ∙ ap (λ (x : View). with_taken x (s.done ++ c.e ∷ behind)) s.same)
            ∙ ap (λ (ts : List IndexRun). record (o.view) { seen = record (o.view.seen) { line = z.seen.line }; loops = record (o.view.loops) { taken = ts } }) list_then;
        many = length-append s.done (c.e ∷ []) ∙ (let m = s.many in let n : length s.done + 1 ≡ count + 1 = omega (arith, m) in n);
        within = let h = s.within in omega (arith, h);
        spots = λ x i. spots_then x (either x i);
        ends = λ x i. ends_then x (either x i);
        least = λ faults h.
            subst (λ (one : Option FaultRun). IsFirst one (index_faults o.setup (map ended (s.done ++ c.e ∷ [])) ++ faults))
            (ap (λ (q : Spot). earlier after (index_fault q.path c.e.index fault)) spot_is ∙ ap (λ (n : ℕ). earlier after (index_fault o.spot.path n fault)) index_is ∙ sym first)
            (first_with_one o.setup s.done c.e fault o.before after faults at_end (s.least faults h));
      }
