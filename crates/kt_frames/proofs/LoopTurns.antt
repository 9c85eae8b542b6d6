-- How a run stands while a loop of it runs.
use Rattle.std.proofs.Common.{◌≡◌, ◌≤◌, ◌<◌, ℕ, zero, suc, ◌+◌, ◌-◌, true, List, [], ◌∷◌, ◌++◌, length, Option, Some, None, refl, sym, ap, ◌∙◌, subst, arith}
use Rattle.std.proofs.lemmas.List.{length-append}
use Rattle.std.proofs.lemmas.Grind.{flat_map-append}
use Rattle.std.proofs.lemmas.Option.{slice_get_within}
use Rattle.kt_law.specs.declared.limits.TheConstants.{DEPTH, INDEXES}
use Rattle.kt_order.specs.Machine.{Machine}
use Rattle.kt_order.specs.Sequential.{Alone, Entry, Run, alone, each, joined, noted, still_at, whole, whole_within}
use Rattle.kt_prog.specs.Accepted.{IsAccepted}
use Rattle.kt_prog.specs.Bodies.{script_of}
use Rattle.kt_prog.specs.Calls.{CallTree, Whole, Index}
use Rattle.kt_prog.specs.Entries.{index_in, indexes_of}
use Rattle.kt_prog.specs.Operations.{is_loop_at}
use Rattle.kt_prog.specs.Reference.{Placed, machine_of, placed}
use Rattle.kt_prog.specs.Runs.{FaultRun}
use Rattle.kt_prog.specs.Script.{Fault}
use Rattle.kt_prog.specs.declared.programs.Program.{Program}
use Rattle.kt_body.specs.Endings.{Begins, EndsSo, ZeroesSo}
use Rattle.kt_body.specs.declared.ops.Ended.{Ended}
use Rattle.kt_body.specs.declared.ops.Ended.TheVariants as E
use Rattle.kt_store.specs.Stores.{StoreState}
use Rattle.kt_frames.specs.Loops.{IsLooping, left_in, placed_indexes, rest_in}
use Rattle.kt_frames.specs.Owned.{Moves, never, stands_at}
use Rattle.kt_frames.specs.Rest.{EachCall, GoodStack, IsClaimed, IsLive, answered_from, fault_of, least_with, left, limit_ran, rest_below, rest_of, run_all, to_do, waiting, with_frames}
use Rattle.kt_frames.specs.Stack.{IsRunning, Stack, entry_path, path_over}
use Rattle.kt_frames.specs.declared.owner.Owner.{Owner}
use Rattle.kt_frames.proofs.Alike.{all_pushed, calls_of, numbered, over_all}
use Rattle.kt_frames.proofs.Rests.{answered_index, answered_long, answered_noted, fits_deep, rest_claimed}
use Rattle.kt_frames.proofs.Turns.{Body, Nothing, body_done, claimed_at, claimed_over, index_keeps, opened_over, waits_more}
use Rattle.kt_frames.proofs.Zeroed.{Looped, loop_alone, looped}

module _ (p : Program) where
  abbrev m : Machine
  m = machine_of p

  -- an index that forks nothing is done alone
  whole_leaf : (n : ℕ) (c : Placed) (s : List ℕ) → let a = alone m (m.tree c) s in a.forks ≡ []
      → whole_within m n c s ≡ noted m c a.answers a.fault a.steps (still_at m a.store)
  whole_leaf zero c s h = refl
  whole_leaf (suc n) c s h =
      let a = alone m (m.tree c) s in
      ap (λ (cs : List Placed). noted m c a.answers a.fault a.steps (each m (whole_within m n) cs a.store)) h

  -- the indexes of a loop at this depth are run as deep as its run goes
  indexes_deep : (path : List ℕ) (call : CallTree) (i n depth : ℕ) (s : List ℕ) → call.depth ≡ depth
      → each m (whole_within m (DEPTH - depth)) (placed_indexes path call i n) s ≡ run_all p (placed_indexes path call i n) s
  indexes_deep path call i zero depth s e = refl
  indexes_deep path call i (suc n) depth s e =
      let c : Placed = record { path = path; job = Index call i } in
      let x = whole_within m (DEPTH - depth) c s in
      let one : x ≡ whole m c s = ap (λ (d : ℕ). whole_within m (DEPTH - d) c s) (sym e) in
      ap (joined m x) (indexes_deep path call (suc i) n depth x.store e)
      ∙ ap (λ (y : Run m). joined m y (run_all p (placed_indexes path call (suc i) n) y.store)) one

  abbrev count : List (Entry m) → ℕ
  count entries = length (indexes_of p entries)

  count_append : (xs ys : List (Entry m)) → count (xs ++ ys) ≡ count xs + count ys
  count_append xs ys =
      ap length (flat_map-append (λ (e : Entry m). index_in e.call.path e.call.job e.answers) xs ys)
      ∙ length-append (indexes_of p xs) (indexes_of p ys)

  one_index : (n : ℕ) (path : List ℕ) (call : CallTree) (i : ℕ) (s : List ℕ)
      → 1 ≤ count (whole_within m n (record { path = path; job = Index call i }) s).entries
  one_index zero path call i s = omega arith
  one_index (suc n) path call i s = omega arith

  -- each index is one of the run
  indexes_count : (path : List ℕ) (call : CallTree) (i n depth : ℕ) (s : List ℕ)
      → n ≤ count (each m (whole_within m depth) (placed_indexes path call i n) s).entries
  indexes_count path call i zero depth s = omega arith
  indexes_count path call i (suc n) depth s =
      let x = whole_within m depth (record { path = path; job = Index call i }) s in
      let y = each m (whole_within m depth) (placed_indexes path call (suc i) n) x.store in
      let one = one_index depth path call i s in
      let more = indexes_count path call (suc i) n depth x.store in
      let both = count_append x.entries y.entries in
      omega (arith, one, more, both)

  -- an index, and then the others and what the frames have
  index_first : (st : Stack) (call : CallTree) (i : ℕ) (s : List ℕ) → i < call.length
      → let c : Placed = record { path = path_over st.below; job = Index call i } in
      let a = alone m (m.tree c) s in a.forks ≡ []
      → rest_in p st call i s ≡ noted m c a.answers a.fault a.steps (rest_in p st call (suc i) a.store)
  index_first st call i s lt none =
      let path = path_over st.below in
      let c : Placed = record { path = path; job = Index call i } in
      let a = alone m (m.tree c) s in
      let n = call.length - suc i in
      let some : call.length - i ≡ suc n = omega arith in
      let then_on : Run m → Run m = λ (x : Run m).
      let y = joined m x (run_all p (placed_indexes path call (suc i) n) x.store) in joined m y (rest_of p st y.store) in
      ap (λ (k : ℕ). let x : Run m = run_all p (placed_indexes path call i k) s in joined m x (rest_of p st x.store)) some
      ∙ ap then_on (whole_leaf (m.height c) c s none)

none_called : (cs : List CallTree) → EachCall (λ c. ⊥) cs → cs ≡ []
none_called [] h = refl
none_called (c ∷ cs) h = absurd h.0

live_same : (p : Program) (x y : Owner) → IsLive p x → y.store.program ≡ x.store.program → y.frames ≡ x.frames → y.over ≡ x.over → y.indexes ≤ INDEXES
    → IsLive p y
live_same p x y h program frames over few = record {
  program = program ∙ h.program;
  good = subst (GoodStack p) (sym frames) h.good;
  kept = over ∙ h.kept;
  room = ap (λ (t : Stack). t.room) frames ∙ h.room;
  few = subst (λ (t : Stack). t.tasks ≤ t.room) (sym frames) h.few;
  counted = subst (λ (t : Stack). waiting t ≤ t.tasks) (sym frames) h.counted;
  few_indexes = few;
}

running_below : (st : Stack) (n : ℕ) → length st.below ≡ suc n → IsRunning st
running_below st n h = λ e. let none : length st.below ≡ 0 = ap length e in omega (arith, h, none)

module _ (p : Program) (ok : IsAccepted p) where
  pub index_begins : (o : Owner) (call : CallTree) (i : ℕ) → IsLooping p o call → i < call.length → Begins stands_at Moves never p (Index call i) o
  index_begins o call i h lt = record {
    accepted = ok;
    fits = (h.fits, lt);
    stands = record { program = h.live.program; running = running_below o.frames call.depth h.depth };
    running = λ n. n;
  }

  pub index_short : (o : Owner) (call : CallTree) → IsLooping p o call → length o.frames.below ≤ DEPTH + 1
  index_short o call h = let deep = fits_deep p call h.fits in let at = h.depth in omega (arith, deep, at)

  -- an index was run
  module _ (o y : Owner) (call : CallTree) (i : ℕ) (least : Option FaultRun) (ended : Ended) (h : IsLooping p o call) (lt : i < call.length)
      (e : EndsSo stands_at Moves never p (Index call i) o y ended) where
    abbrev path : List ℕ
    path = path_over o.frames.below

    abbrev a : Alone (machine_of p)
    a = alone (machine_of p) (placed path 1 (script_of p (Index call i))) o.store.elements

    abbrev cs : List CallTree
    cs = calls_of a.forks

    body : Body p ok o y path (Index call i) (Nothing p ok) ended cs
    body = body_done p ok o y path (Index call i) (Nothing p ok) ended (index_keeps p ok call i h.fits lt) refl h.live.program e

    none : cs ≡ []
    none = none_called cs body.each

    pub index_frames : y.frames ≡ o.frames
    index_frames = body.alike.frames ∙ ap (all_pushed o.frames) none

    pub index_on : IsLooping p y call
    index_on =
        let over : y.over ≡ o.over = body.alike.over ∙ ap (over_all o.frames o.over) none in
        let few = h.live.few_indexes in
        let same = body.alike.indexes in
        record {
          live = live_same p o y h.live body.alike.program index_frames over (omega (arith, few, same));
          fits = h.fits;
          loops = h.loops;
          depth = ap (λ (t : Stack). length t.below) index_frames ∙ h.depth;
          counted = let more = h.counted in omega (arith, more, same);
        }

    pub index_left : left_in p y call (i + 1) (least_with least path (Some i) (fault_of ended)) ≡ left_in p o call i least
    index_left =
        let forks : a.forks ≡ [] = body.forks ∙ ap (numbered path 1) none in
        let tasks = o.frames.tasks - waiting o.frames in
        let done = o.indexes - (call.length - i) in
        let l = least_with least path (Some i) (fault_of ended) in
        let counted = h.counted in
        let same = body.alike.indexes in
        let one : y.indexes - (call.length - (i + 1)) ≡ suc done = omega (arith, counted, same, lt) in
        let next : i + 1 ≡ suc i = omega arith in
        ap (λ (t : Stack). answered_from p l (t.tasks - waiting t) (y.indexes - (call.length - (i + 1))) (rest_in p t call (i + 1) y.store.elements)) index_frames
        ∙ ap (λ (n : ℕ). answered_from p l tasks n (rest_in p o.frames call (i + 1) y.store.elements)) one
        ∙ ap (λ (n : ℕ). answered_from p l tasks (suc done) (rest_in p o.frames call n y.store.elements)) next
        ∙ ap (λ (s : List ℕ). answered_from p l tasks (suc done) (rest_in p o.frames call (suc i) s)) body.alike.store
        ∙ ap (λ (f : Option Fault). answered_from p (least_with least path (Some i) f) tasks (suc done) (rest_in p o.frames call (suc i) a.store)) (sym body.fault)
        ∙ sym (answered_index p least tasks done path call a.answers a.fault a.steps (rest_in p o.frames call (suc i) a.store) i)
        ∙ ap (answered_from p least tasks done) (sym (index_first p o.frames call i o.store.elements lt forks))

  -- a loop whose indexes are done
  pub indexes_done : (o : Owner) (call : CallTree) (least : Option FaultRun) → left_in p o call call.length least ≡ left p o least
  indexes_done o call least =
      let none : call.length - call.length ≡ 0 = omega arith in
      let all : o.indexes - 0 ≡ o.indexes = omega arith in
      let tasks = o.frames.tasks - waiting o.frames in
      ap (λ (n : ℕ). answered_from p least tasks (o.indexes - n)
      (let x = run_all p (placed_indexes (path_over o.frames.below) call call.length n) o.store.elements in joined (machine_of p) x (rest_of p o.frames x.store))) none
      ∙ ap (λ (n : ℕ). answered_from p least tasks n (rest_of p o.frames o.store.elements)) all

  -- a loop that was claimed
  module _ (x : Owner) (s : Stack) (call : CallTree) (least : Option FaultRun) (h : IsClaimed p x s call) (loops : is_loop_at p call.task ≡ true) where
    abbrev here : List ℕ
    here = entry_path s.below (suc s.top.finished)

    abbrev loop : Alone (machine_of p)
    loop = alone (machine_of p) (placed here 1 (script_of p (Whole call))) x.store.elements

    abbrev within : Run (machine_of p)
    within = each (machine_of p) (whole_within (machine_of p) (DEPTH - length s.below)) loop.forks loop.store

    abbrev ran : ℕ
    ran = s.tasks - waiting s

    claimed_left : (f : Option Fault) → loop.fault ≡ f
        → left p (with_frames x s) least
        ≡ answered_from p (least_with least here None f) (suc ran) x.indexes (joined (machine_of p) within (rest_below p (s.top ∷ s.below) within.store))
    claimed_left f same =
        let behind = joined (machine_of p) within (rest_below p (s.top ∷ s.below) within.store) in
        ap (answered_from p least ran x.indexes) (rest_claimed p s call x.store.elements h.live.good h.next)
        ∙ answered_noted p least ran x.indexes here call loop.answers loop.fault loop.steps behind
        ∙ ap (λ (g : Option Fault). answered_from p (least_with least here None g) (suc ran) x.indexes behind) same

    -- there would be too many indexes
    pub loop_long : INDEXES < x.indexes + call.length → left p (with_frames x s) least ≡ limit_ran
    loop_long more =
        let same = loop_alone p here call x.store.elements loops in
        let few = indexes_count p here call 0 call.length (DEPTH - length s.below) loop.store in
        let all : call.length ≤ length (indexes_of p within.entries) =
        subst (λ (cs : List Placed). call.length ≤ length (indexes_of p (each (machine_of p) (whole_within (machine_of p) (DEPTH - length s.below)) cs loop.store).entries)) (sym same.forks) few in
        let rest = rest_below p (s.top ∷ s.below) within.store in
        let both = count_append p within.entries rest.entries in
        claimed_left None same.fault
        ∙ answered_long p (least_with least here None None) (suc ran) x.indexes (joined (machine_of p) within rest) (omega (arith, more, all, both))

    -- it was zeroed, and its indexes counted
    module _ (z y : Owner) (e : ZeroesSo stands_at Moves never p call x z E.Done) (few : x.indexes + call.length ≤ INDEXES)
        (store : y.store ≡ z.store) (frames : y.frames ≡ z.frames) (over : y.over ≡ z.over) (counted : y.indexes ≡ x.indexes + call.length) where
      zeroing_done : Looped p x z here call
      zeroing_done = looped p x z here call loops h.live.program e.went

      pub loop_frames : y.frames ≡ opened_over p ok s []
      loop_frames = frames ∙ zeroing_done.owner.frames ∙ claimed_over p ok x s call h

      pub loop_on : IsLooping p y call
      loop_on =
          let good : GoodStack p (opened_over p ok s []) = record { top = tt; below = (h.live.good.top, slice_get_within s.top.calls s.top.finished call h.next, h.live.good.below) } in
          let waits = waits_more p ok s call [] h.next in
          let enough = h.live.few in
          let waiting_few = h.live.counted in
          let at = claimed_at p ok x s call h in
          record {
            live = record {
              program = ap (λ (t : StoreState). t.program) store ∙ zeroing_done.owner.program ∙ h.live.program;
              good = subst (GoodStack p) (sym loop_frames) good;
              kept = over ∙ zeroing_done.owner.over ∙ h.live.kept;
              room = ap (λ (t : Stack). t.room) loop_frames ∙ h.live.room;
              few = subst (λ (t : Stack). t.tasks ≤ t.room) (sym loop_frames) (omega (arith, enough));
              counted = subst (λ (t : Stack). waiting t ≤ t.tasks) (sym loop_frames) (omega (arith, waits.0, waits.1, waiting_few));
              few_indexes = omega (arith, counted, few);
            };
            fits = at.0;
            loops = loops;
            depth = ap (λ (t : Stack). length t.below) loop_frames ∙ ap suc (sym at.1);
            counted = omega (arith, counted);
          }

      pub loop_left : left_in p y call 0 least ≡ left p (with_frames x s) least
      loop_left =
          let at = claimed_at p ok x s call h in
          let waits = waits_more p ok s call [] h.next in
          let tasks : (s.tasks + 0) - waiting (opened_over p ok s []) ≡ suc ran = let le = h.live.counted in omega (arith, waits.0, waits.1, le) in
          let done : y.indexes - (call.length - 0) ≡ x.indexes = omega (arith, counted) in
          let elements : y.store.elements ≡ loop.store =
          ap (λ (t : StoreState). t.elements) store ∙ zeroing_done.owner.store ∙ sym zeroing_done.store in
          let whole_length : call.length ≡ call.length - 0 = omega arith in
          let all : within ≡ run_all p (placed_indexes here call 0 (call.length - 0)) loop.store =
          ap (λ (cs : List Placed). each (machine_of p) (whole_within (machine_of p) (DEPTH - length s.below)) cs loop.store) zeroing_done.forks
          ∙ indexes_deep p here call 0 call.length (length s.below) loop.store at.1
          ∙ ap (λ (n : ℕ). run_all p (placed_indexes here call 0 n) loop.store) whole_length in
          ap (λ (t : Stack). answered_from p least (t.tasks - waiting t) (y.indexes - (call.length - 0)) (rest_in p t call 0 y.store.elements)) loop_frames
          ∙ ap (λ (n : ℕ). answered_from p least n (y.indexes - (call.length - 0)) (rest_in p (opened_over p ok s []) call 0 y.store.elements)) tasks
          ∙ ap (λ (n : ℕ). answered_from p least (suc ran) n (rest_in p (opened_over p ok s []) call 0 y.store.elements)) done
          ∙ ap (λ (t : List ℕ). answered_from p least (suc ran) x.indexes (rest_in p (opened_over p ok s []) call 0 t)) elements
          ∙ ap (λ (r : Run (machine_of p)). answered_from p least (suc ran) x.indexes (joined (machine_of p) r (rest_below p (s.top ∷ s.below) r.store))) (sym all)
          ∙ sym (claimed_left None zeroing_done.fault)

      pub loop_less : (w : Owner) → w.frames ≡ y.frames → to_do w < to_do (with_frames x s)
      loop_less w same =
          let waits = waits_more p ok s call [] h.next in
          let less : (s.room - (s.tasks + 0)) + waiting (opened_over p ok s []) < (s.room - s.tasks) + waiting s = omega (arith, waits.0, waits.1) in
          subst (λ (t : Stack). (t.room - t.tasks) + waiting t < (s.room - s.tasks) + waiting s) (sym (same ∙ loop_frames)) less
