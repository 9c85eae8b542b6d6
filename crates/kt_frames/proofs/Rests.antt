-- What is left of a run where the frames stand so.
use Rattle.std.proofs.Common.{◌≡◌, ◌≤◌, ◌<◌, ℕ, zero, suc, ◌+◌, ◌-◌, Bool, true, false, not, ◌||◌, nat_lt, List, [], ◌∷◌, ◌++◌, length, drop, Option, Some, None, get_or, refl, sym, ap, ◌∙◌, subst, arith, append_assoc, append-nil, drop-cons, length-drop, if◌then◌else◌}
use Rattle.std.specs.List.{slice_get}
use Rattle.std.proofs.lemmas.Bool.Decides.{nat_tests}
use Rattle.std.proofs.lemmas.List.{drop_all, length-append}
use Rattle.std.proofs.lemmas.Option.{slice_get_within, get_or_from_slice_get}
use Rattle.std.proofs.lemmas.Grind.{flat_map-append}
use Rattle.kt_law.specs.declared.limits.TheConstants.{DEPTH, INDEXES, TASKS}
use Rattle.kt_order.specs.Machine.{Machine}
use Rattle.kt_order.specs.Sequential.{Entry, Run, alone, each, joined, noted, still_at, whole, whole_within}
use Rattle.kt_prog.specs.Calls.{CallTree, Whole, Index, index_of}
use Rattle.kt_prog.specs.Script.{Fault}
use Rattle.kt_prog.specs.Bodies.{script_of}
use Rattle.kt_prog.specs.Fits.{Fits, is_main, is_call}
use Rattle.kt_prog.specs.Entries.{tasks_of, indexes_of, faults_of, fault_in, task_in}
use Rattle.kt_prog.specs.Outcome.{fault_or_rows}
use Rattle.kt_prog.specs.Runs.{FaultRun}
use Rattle.kt_prog.specs.Reference.{Placed, placed, machine_of}
use Rattle.kt_prog.specs.declared.programs.Program.{Program}
use Rattle.kt_prog.specs.declared.runs.Ran.{Ran}
use Rattle.kt_prog.specs.declared.runs.Outcome.TheVariants as O
use Rattle.kt_frames.specs.Stack.{Frame, Stack, HasEnded, begun, begun_at, next_of, entry_path, pushed, with_child}
use Rattle.kt_frames.specs.Rest.{EachCall, placed_from, IsCallAt, GoodBelow, GoodStack, waiting_below, waiting, with_least, least_with}
use Rattle.kt_frames.specs.Rest as R
use Rattle.kt_frames.proofs.Alike.{all_pushed, over_all, numbered}

abbrev pub with_children : Stack → List CallTree → Stack
with_children s cs = record {
  top = record { calls = s.top.calls ++ cs; finished = s.top.finished };
  below = s.below;
  tasks = s.tasks + length cs;
  room = s.room;
}

children_more : (s : Stack) (c : CallTree) (cs : List CallTree) → with_children (with_child s c) cs ≡ with_children s (c ∷ cs)
children_more s c cs =
    let calls : (s.top.calls ++ c ∷ []) ++ cs ≡ s.top.calls ++ c ∷ cs = append_assoc s.top.calls (c ∷ []) cs in
    let count : (s.tasks + 1) + length cs ≡ s.tasks + suc (length cs) = omega arith in
    rw (calls, count) refl

children_none : (s : Stack) → s ≡ with_children s []
children_none s =
    let calls = append-nil s.top.calls in
    let count : s.tasks + 0 ≡ s.tasks = omega arith in
    rw (calls, count) refl

over_stays : (s : Stack) (cs : List CallTree) → over_all s true cs ≡ true
over_stays s [] = refl
over_stays s (c ∷ cs) = over_stays (pushed s c) cs

pub record Fitting (s : Stack) (cs : List CallTree) : Type 0 where
  pub frames : all_pushed s cs ≡ with_children s cs
  pub room : s.tasks + length cs ≤ s.room

pub pushed_fit : (s : Stack) (cs : List CallTree) → s.tasks ≤ s.room → over_all s false cs ≡ false → Fitting s cs
pushed_fit s [] le h = record { frames = children_none s; room = omega arith }
pushed_fit s (c ∷ cs) le h = chosen (nat_lt s.tasks s.room) refl h
    (λ lt. pushed_fit (with_child s c) cs (let less : s.tasks < s.room = grind (arith, nat_tests) in omega arith))
  where
    chosen : (b : Bool) → nat_lt s.tasks s.room ≡ b → over_all (if b then with_child s c else s) (false || not b) cs ≡ false
        → (nat_lt s.tasks s.room ≡ true → over_all (with_child s c) false cs ≡ false → Fitting (with_child s c) cs) → Fitting s (c ∷ cs)
    chosen true is h more =
        let r = more is h in
        let frames : all_pushed (if nat_lt s.tasks s.room then with_child s c else s) cs ≡ with_children s (c ∷ cs) =
        rw is (r.frames ∙ children_more s c cs) in
        let room = r.room in
        record { frames = frames; room = omega arith }
    chosen false is h more = let t : true ≡ false = sym (over_stays s cs) ∙ h in cc

pub pushed_over : (s : Stack) (cs : List CallTree) → s.tasks ≤ s.room → over_all s false cs ≡ true → s.room < s.tasks + length cs
pushed_over s [] le h = cc
pushed_over s (c ∷ cs) le h = chosen (nat_lt s.tasks s.room) refl h
    (λ lt. pushed_over (with_child s c) cs (let less : s.tasks < s.room = grind (arith, nat_tests) in omega arith))
  where
    chosen : (b : Bool) → nat_lt s.tasks s.room ≡ b → over_all (if b then with_child s c else s) (false || not b) cs ≡ true
        → (nat_lt s.tasks s.room ≡ true → over_all (with_child s c) false cs ≡ true → s.room < (s.tasks + 1) + length cs)
        → s.room < s.tasks + suc (length cs)
    chosen true is h more = let r = more is h in omega arith
    chosen false is h more = let past : s.room ≤ s.tasks = grind (arith, nat_tests) in omega arith

-- the children of the running task are the entries of the topmost frame
pub numbered_from : (below : List Frame) (f : Frame) (k : ℕ) (cs : List CallTree)
    → numbered (entry_path below (suc f.finished)) k cs ≡ placed_from (f ∷ below) k cs
numbered_from below f k [] = refl
numbered_from below f k (c ∷ cs) =
    ap (λ (xs : List Placed). record { path = entry_path below (suc f.finished) ++ k ∷ []; job = Whole c } ∷ xs) (numbered_from below f (suc k) cs)

pub good_at : (p : Program) (depth : ℕ) (calls : List CallTree) (k : ℕ) (c : CallTree) → EachCall (IsCallAt p depth) calls → slice_get calls k ≡ Some c
    → IsCallAt p depth c
good_at p depth [] k c h e = cc
good_at p depth (x ∷ calls) zero c h e = let same : x ≡ c = cc in subst (IsCallAt p depth) same h.0
good_at p depth (x ∷ calls) (suc k) c h e = good_at p depth calls k c h.1 e

or_true : (b : Bool) → (b || true) ≡ true
or_true true = refl
or_true false = refl

module _ (p : Program) where
  abbrev m : Machine
  m = machine_of p

  abbrev pub run_all : List Placed → List ℕ → Run m
  run_all = R.run_all p

  abbrev rest_at : List Frame → ℕ → List CallTree → List ℕ → Run m
  rest_at = R.rest_at p

  abbrev rest_below : List Frame → List ℕ → Run m
  rest_below = R.rest_below p

  abbrev pub rest_of : Stack → List ℕ → Run m
  rest_of = R.rest_of p

  pub fits_deep : (c : CallTree) → Fits p c → c.depth ≤ DEPTH
  fits_deep c (is_main e) = let zero_deep : c.depth ≡ 0 = ap (λ (x : CallTree). x.depth) e in omega arith
  fits_deep c (is_call t is fits) = fits.deep

  -- where the topmost frame has ended, nothing is left of it
  none_left : (below : List Frame) (f : Frame) (s : List ℕ) → length f.calls ≤ f.finished → rest_at below f.finished f.calls s ≡ still_at m s
  none_left below f s h = let none : drop f.finished f.calls ≡ [] = drop_all f.finished f.calls h in rw none refl

  pub rest_ended : (st : Stack) (s : List ℕ) → HasEnded st → rest_of st s ≡ rest_below st.below s
  rest_ended st s h = rw (none_left st.below st.top s h) refl

  -- calls whose paths are one longer than that of the body which forked them are run as deep as that body's run goes
  each_deep : (depth : ℕ) (below : List Frame) (n : ℕ) (cs : List CallTree) → EachCall (IsCallAt p (suc depth)) cs → (s : List ℕ)
      → each m (whole_within m (DEPTH - depth)) (placed_from below n cs) s ≡ run_all (placed_from below n cs) s
  each_deep depth below n [] h s = refl
  each_deep depth below n (c ∷ cs) h s =
      let deep : c.depth ≤ DEPTH = fits_deep c h.0.0 in
      let is : c.depth ≡ suc depth = h.0.1 in
      let same : suc (DEPTH - c.depth) ≡ DEPTH - depth = omega arith in
      let first : Placed = record { path = entry_path below n; job = Whole c } in
      let x = whole_within m (DEPTH - depth) first s in
      let rest = each_deep depth below (suc n) cs h.1 x.store in
      let one : x ≡ whole m first s = ap (λ (k : ℕ). whole_within m k first s) (sym same) in
      ap (joined m x) rest ∙ ap (λ (y : Run m). joined m y (run_all (placed_from below (suc n) cs) y.store)) one

  joined_assoc : (x y z : Run m) → joined m (joined m x y) z ≡ joined m x (joined m y z)
  joined_assoc x y z = ap (λ (es : List (Entry m)). let r : Run m = record { store = z.store; entries = es } in r) (append_assoc x.entries y.entries z.entries)

  -- the body of the first entry that waits, all that it forks, and then the frames below
  pub rest_claimed : (st : Stack) (c : CallTree) (s : List ℕ) → GoodStack p st → next_of st ≡ Some c
      → let path = entry_path st.below (suc st.top.finished) in
      let a = alone m (placed path 1 (script_of p (Whole c))) s in
      let k = each m (whole_within m (DEPTH - length st.below)) a.forks a.store in
      rest_of st s ≡ noted m (record { path = path; job = Whole c }) a.answers a.fault a.steps (joined m k (rest_below (st.top ∷ st.below) k.store))
  rest_claimed st c s good next =
      let path = entry_path st.below (suc st.top.finished) in
      let a = alone m (placed path 1 (script_of p (Whole c))) s in
      let first : Placed = record { path = path; job = Whole c } in
      let lt = slice_get_within st.top.calls st.top.finished c next in
      let item : get_or st.top.calls st.top.finished c ≡ c = get_or_from_slice_get st.top.calls st.top.finished c c next in
      let split : drop st.top.finished st.top.calls ≡ c ∷ drop (suc st.top.finished) st.top.calls =
      drop-cons st.top.calls st.top.finished c lt ∙ ap (λ (x : CallTree). x ∷ drop (suc st.top.finished) st.top.calls) item in
      let one = good_at p (length st.below) st.top.calls st.top.finished c good.top next in
      let height : suc (DEPTH - c.depth) ≡ suc (DEPTH - length st.below) = ap (λ (d : ℕ). suc (DEPTH - d)) one.1 in
      let k = each m (whole_within m (DEPTH - length st.below)) a.forks a.store in
      let with_body : Run m → Run m = λ (x : Run m). noted m first a.answers a.fault a.steps x in
      let body : whole m first s ≡ with_body k = ap (λ (n : ℕ). whole_within m n first s) height in
      let after : List ℕ → Run m = λ (t : List ℕ). run_all (placed_from st.below (suc (suc st.top.finished)) (drop (suc st.top.finished) st.top.calls)) t in
      let then_on : Run m → Run m = λ (x : Run m). joined m (joined m x (after x.store)) (rest_below st.below (after x.store).store) in
      let e1 : rest_of st s ≡ then_on (whole m first s) =
      ap (λ (xs : List CallTree). let x : Run m = run_all (placed_from st.below (suc st.top.finished) xs) s in joined m x (rest_below st.below x.store)) split in
      let e2 : then_on (whole m first s) ≡ then_on (with_body k) = ap then_on body in
      let e3 : then_on (with_body k) ≡ with_body (joined m k (joined m (after k.store) (rest_below st.below (after k.store).store))) =
      ap with_body (joined_assoc k (after k.store) (rest_below st.below (after k.store).store)) in
      e1 ∙ e2 ∙ e3

  -- the same where it forks calls alone, which then are the entries of a frame above
  pub rest_begun : (st : Stack) (c : CallTree) (s : List ℕ) (cs : List CallTree) → GoodStack p st → next_of st ≡ Some c
      → let path = entry_path st.below (suc st.top.finished) in
      let a = alone m (placed path 1 (script_of p (Whole c))) s in
      a.forks ≡ numbered path 1 cs → EachCall (IsCallAt p (suc (length st.below))) cs
      → rest_of st s ≡ noted m (record { path = path; job = Whole c }) a.answers a.fault a.steps (rest_of (with_children (begun st) cs) a.store)
  rest_begun st c s cs good next forks fit =
      let path = entry_path st.below (suc st.top.finished) in
      let a = alone m (placed path 1 (script_of p (Whole c))) s in
      let first : Placed = record { path = path; job = Whole c } in
      let children : each m (whole_within m (DEPTH - length st.below)) a.forks a.store ≡ run_all (placed_from (st.top ∷ st.below) 1 cs) a.store =
      ap (λ (xs : List Placed). each m (whole_within m (DEPTH - length st.below)) xs a.store) (forks ∙ numbered_from st.below st.top 1 cs)
      ∙ each_deep (length st.below) (st.top ∷ st.below) 1 cs fit a.store in
      let with_body : Run m → Run m = λ (x : Run m). noted m first a.answers a.fault a.steps x in
      let k = run_all (placed_from (st.top ∷ st.below) 1 cs) a.store in
      let last : joined m k (rest_below (st.top ∷ st.below) k.store) ≡ rest_of (with_children (begun st) cs) a.store =
      ap (λ (o : Option CallTree). rest_of (with_children (begun_at o st) cs) a.store) (sym next) in
      rest_claimed st c s good next
      ∙ ap (λ (x : Run m). with_body (joined m x (rest_below (st.top ∷ st.below) x.store))) children
      ∙ ap with_body last

  tasks_append : (xs ys : List (Entry m)) → tasks_of p (xs ++ ys) ≡ tasks_of p xs ++ tasks_of p ys
  tasks_append xs ys = flat_map-append (λ (e : Entry m). task_in e.call.path e.call.job e.answers) xs ys

  -- as many tasks as calls, at least
  tasks_joined : (x y : Run m) → length (tasks_of p (joined m x y).entries) ≡ length (tasks_of p x.entries) + length (tasks_of p y.entries)
  tasks_joined x y = ap length (tasks_append x.entries y.entries) ∙ length-append (tasks_of p x.entries) (tasks_of p y.entries)

  whole_some : (n : ℕ) (path : List ℕ) (c : CallTree) (s : List ℕ) → 1 ≤ length (tasks_of p (whole_within m n (record { path = path; job = Whole c }) s).entries)
  whole_some zero path c s = omega arith
  whole_some (suc n) path c s = omega arith

  run_count : (below : List Frame) (n : ℕ) (cs : List CallTree) (s : List ℕ) → length cs ≤ length (tasks_of p (run_all (placed_from below n cs) s).entries)
  run_count below n [] s = omega arith
  run_count below n (c ∷ cs) s =
      let first : Placed = record { path = entry_path below n; job = Whole c } in
      let x = whole m first s in
      let y = run_all (placed_from below (suc n) cs) x.store in
      let one = whole_some (suc (DEPTH - c.depth)) (entry_path below n) c s in
      let more = run_count below (suc n) cs x.store in
      let both = tasks_joined x y in
      omega arith

  below_count : (below : List Frame) (s : List ℕ) → waiting_below below ≤ length (tasks_of p (rest_below below s).entries)
  below_count [] s = omega arith
  below_count (f ∷ below) s =
      let x = rest_at below (suc f.finished) f.calls s in
      let one = run_count below (suc (suc f.finished)) (drop (suc f.finished) f.calls) s in
      let more = below_count below x.store in
      let both = tasks_joined x (rest_below below x.store) in
      let long = length-drop (suc f.finished) f.calls in
      omega arith

  -- each entry that waits is a task of what is left
  pub rest_count : (st : Stack) (s : List ℕ) → waiting st ≤ length (tasks_of p (rest_of st s).entries)
  rest_count st s =
      let x = rest_at st.below st.top.finished st.top.calls s in
      let one = run_count st.below (suc st.top.finished) (drop st.top.finished st.top.calls) s in
      let more = below_count st.below x.store in
      let both = tasks_joined x (rest_below st.below x.store) in
      let long = length-drop st.top.finished st.top.calls in
      omega arith

module _ (p : Program) where
  abbrev pub answered_from : Option FaultRun → ℕ → ℕ → Run (machine_of p) → Ran
  answered_from = R.answered_from p

  same_faults : (least : Option FaultRun) (c : Placed) (fault : Option Fault) (faults : List FaultRun) (store : List ℕ)
      → fault_or_rows store (with_least least (fault_in c fault ++ faults))
      ≡ fault_or_rows store (with_least (least_with least c.path (index_of c.job) fault) faults)
  same_faults None c None faults store = refl
  same_faults None c (Some f) faults store = refl
  same_faults (Some l) c None faults store = refl
  same_faults (Some l) c (Some f) faults store = refl

  module _ (least : Option FaultRun) (ran indexes : ℕ) where
    module _ (path : List ℕ) (c : CallTree) (answers : List ℕ) (fault : Option Fault) (steps : ℕ) (r : Run (machine_of p)) where
      -- one task more was run
      pub answered_noted : answered_from least ran indexes (noted (machine_of p) (record { path = path; job = Whole c }) answers fault steps r)
          ≡ answered_from (least_with least path None fault) (suc ran) indexes r
      answered_noted =
          let count : ran + suc (length (tasks_of p r.entries)) ≡ suc ran + length (tasks_of p r.entries) = omega arith in
          rw (count, same_faults least (record { path = path; job = Whole c }) fault (faults_of p r.entries) r.store) refl

      -- one index more
      pub answered_index : (i : ℕ)
          → answered_from least ran indexes (noted (machine_of p) (record { path = path; job = Index c i }) answers fault steps r)
          ≡ answered_from (least_with least path (Some i) fault) ran (suc indexes) r
      answered_index i =
          let count : indexes + suc (length (indexes_of p r.entries)) ≡ suc indexes + length (indexes_of p r.entries) = omega arith in
          rw (count, same_faults least (record { path = path; job = Index c i }) fault (faults_of p r.entries) r.store) refl

    -- more tasks than the limit allows
    pub answered_limit : (r : Run (machine_of p)) → TASKS < ran + length (tasks_of p r.entries)
        → answered_from least ran indexes r ≡ record { outcome = O.Limit; tasks = 0; indexes = 0 }
    answered_limit r h =
        let test : nat_lt TASKS (ran + length (tasks_of p r.entries)) ≡ true = grind (arith, nat_tests) in
        rw test refl

    -- more indexes than the limit allows
    pub answered_long : (r : Run (machine_of p)) → INDEXES < indexes + length (indexes_of p r.entries)
        → answered_from least ran indexes r ≡ record { outcome = O.Limit; tasks = 0; indexes = 0 }
    answered_long r h =
        let test : nat_lt INDEXES (indexes + length (indexes_of p r.entries)) ≡ true = grind (arith, nat_tests) in
        rw (test, or_true (nat_lt TASKS (ran + length (tasks_of p r.entries)))) refl

    -- nothing is left
    pub answered_still : (s : List ℕ) → ran ≤ TASKS → indexes ≤ INDEXES
        → answered_from least ran indexes (still_at (machine_of p) s)
        ≡ record { outcome = fault_or_rows s (with_least least []); tasks = ran; indexes = indexes }
    answered_still s h k =
        let none : ran + 0 ≡ ran = omega arith in
        let no_index : indexes + 0 ≡ indexes = omega arith in
        let few : nat_lt TASKS ran ≡ false = grind (arith, nat_tests) in
        let short : nat_lt INDEXES indexes ≡ false = grind (arith, nat_tests) in
        rw (none, no_index, few, short) refl
