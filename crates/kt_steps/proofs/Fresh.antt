-- The running body publishes a child in the next record of its seat: a record whose word is 0 or of an earlier frame.
use Rattle.std.proofs.Common.{◌≡◌, ◌≢◌, ℕ, zero, suc, ◌+◌, ◌*◌, ◌<◌, ◌≤◌, ◌⊎◌, Bool, true, false, cond, List, [], ◌∷◌, ◌++◌, set, map, length, length-append, sym, refl, ap, ◌∙◌, subst, inl, inr, arith, ⊎_elim, length-set, Some}
use Rattle.std.proofs.lemmas.List.{map-append}
use mathlib.Core.Option as o
use mathlib.Core.Option.{none, some, some-injective, some-ne-none}
use native.Mathlib.Decide.{ℕ_discrete}
use lib.ListN.{get_elem?}
use Rattle.atomic_table.specs.Table.{State, Me, keeps, step, Allows}
use Rattle.kt_law.specs.declared.limits.TheConstants.{DEPTH, TASKS}
use Rattle.kt_order.specs.Body.{Fork}
use Rattle.kt_order.specs.Machine.{Machine, Code}
use Rattle.kt_order.specs.Forest.{Task, Unclaimed, Running}
use Rattle.kt_order.specs.Rest.{left}
use Rattle.kt_order.specs.Paths.{same_path, HasRoom}
use Rattle.kt_order.specs.Named.{forks_in}
use Rattle.kt_order.proofs.ByPaths.{at_path}
use Rattle.kt_prog.specs.Calls.{Whole}
use Rattle.kt_prog.specs.Reference.{Placed, placed_fork, machine_of, main_placed, opened_with}
use Rattle.kt_runs.specs.Rights.{rights_in}
use Rattle.kt_runs.specs.Theorems.{whole_at}
use Rattle.kt_runs.proofs.ForkedCalls.{room_in, fork_path, fork_deep}
use Rattle.kt_law.specs.declared.stands.Stand.TheVariants as S
use Rattle.kt_runs.specs.ByPath.{Path, child, levels}
use Rattle.kt_words.specs.Places.{Place, place, IsWithin, record_word}
use Rattle.kt_words.specs.Words.{packed_state}
use Rattle.kt_words.specs.declared.layouts.TheConstants.{RECORDS, FIELDS}
use Rattle.kt_words.specs.declared.layouts.Layout.{Layout}
use Rattle.kt_rule.specs.declared.views.Setup.{Setup}
use Rattle.kt_rule.specs.declared.views.Berth.{Berth}
use Rattle.kt_rule.specs.declared.views.Spot.{Spot}
use Rattle.kt_rule.specs.declared.views.Execution.{Execution}
use Rattle.kt_rule.specs.declared.views.Promise.{Promise}
use Rattle.kt_rule.specs.declared.views.Region.{Region}
use Rattle.kt_rule.specs.declared.views.View.{View}
use Rattle.kt_rule.specs.Paths.{put}
use Rattle.kt_rule.specs.Lists.{times, one_if, In, here, there, weigh}
use Rattle.kt_rule.specs.Weights.{next_weight, is_task, one_if_whole, is_index, forks_ahead, one_if_index}
use Rattle.kt_rule.specs.Lies.{Stage, Waits, Runs, Lie, Lies, phase_of, is_gone, task_of, get_of, core_of, counts_of, forks_of, Cored}
use Rattle.kt_rule.specs.Records.{layout_of, word_at, elements, drawn_at, positions_at, stop_at, own_record, state_of, field_of, task_field, frame_floor}
use Rattle.kt_rule.specs.Views.{path_of, promise_path, mine_in, given_in, begun_in, drawn_in, frames, roots, children, indexes_of}
use Rattle.kt_rule.specs.Facts.{is_there, is_claimed, is_promised, is_given, is_begun, tally, Sound, IsHeadAt, IsAccessAt, IsLeft, Words, task_in, Agrees, IsUnderWay, IsOver, IsPublished, IsGiven, IsOwn, Owns, Fits, waiting, Drawn, waiting_indexes}
use Rattle.kt_rule.specs.Requests.{IsPromised}
use Rattle.kt_rule.specs.Rule.{Slots, Facts, Holds}
use Rattle.kt_rule.specs.Steps.{Tells, state_place, state_word, forked_one, next_of, published, IsBehind, Publishes, new_lie, IsBerth, IsBuilt}
use Rattle.kt_rule.proofs.Puts.{put_here, put_else, put_cases, at_put, get_at}
use Rattle.kt_rule.proofs.Shelf as shelf
use Rattle.kt_rule.proofs.Shelf.{elements_else}
use Rattle.kt_rule.proofs.Sums.{weigh_set, in_cons, among, not_among, one_self, one_other}
use Rattle.kt_rule.proofs.Cores as cores
use Rattle.kt_rule.proofs.Cores.{child_one, not_child}
use Rattle.kt_rule.proofs.Words.{Same, same_lie, same_at, same_frame, Keeps, note_keeps, berth_keeps, known_keeps, IsPlain, Quiet, above_floor, below_next}
use Rattle.kt_rule.specs.LoopFacts.{is_early}
use Rattle.kt_rule.proofs.LoopsStay.{SameLoop, same_loop, IsNewTask, LoopsStay, looped_keeps}
use Rattle.kt_rule.proofs.Moves.{at_below, each_view, SamePosted, quiet_own, asked_keeps, stopped_quiet, fits_keep, positive_not, assemble, positions_keeps}
use Rattle.kt_steps.proofs.Asides.{seat_in, main_lives}
use Rattle.kt_steps.proofs.Steps.{inside, holds_so, child_less, runs_unposted, waits_unposted, head_is, head_agrees, head_runs, head_task, head_live, head_sound, head_running, head_begun, head_alone, once_begun, was_begun, rest_keeps, halted_keeps, ran_keeps, promises_keep, given_keeps, at_head, plain_at_fork, head_single}

-- places of a list with one element more
pub snoc_at : {A : Type 0} (xs : List A) (y : A) (k : ℕ) (x : A) → get_elem? (xs ++ y ∷ []) k ≡ some x
    → (get_elem? xs k ≡ some x) ⊎ ((k ≡ length xs) × (y ≡ x))
snoc_at [] y zero x e = inr (refl, some-injective y x e)
snoc_at [] y (suc k) x e = absurd (some-ne-none x (sym e))
snoc_at (z ∷ xs) y zero x e = inl e
snoc_at (z ∷ xs) y (suc k) x e = elim (snoc_at xs y k x e) [ inl h ↦ inl h | inr h ↦ inr (ap suc h.0, h.1) ]

snoc_last : {A : Type 0} (xs : List A) (y : A) → get_elem? (xs ++ y ∷ []) (length xs) ≡ some y
snoc_last [] y = refl
snoc_last (x ∷ xs) y = snoc_last xs y

snoc_left : {A : Type 0} (xs : List A) (y : A) (k : ℕ) (x : A) → get_elem? xs k ≡ some x → get_elem? (xs ++ y ∷ []) k ≡ some x
snoc_left [] y k x e = absurd (some-ne-none x (sym e))
snoc_left (z ∷ xs) y zero x e = e
snoc_left (z ∷ xs) y (suc k) x e = snoc_left xs y k x e

module _ (j : Setup) (lies : Lies) (s : State Slots View) (f : Facts j lies s) (id : ℕ) (v : View) (at : get_elem? s.views id ≡ some v)
    (live : 0 < v.parts) (e : Execution) (rest : List Execution) (runs : v.tasks.running ≡ e ∷ rest)
    (c : Placed) (code : Code (machine_of j.program)) (next : left (machine_of j.program) (task_in j e) ≡ Fork c code) (b : Berth)
    (call_is : c.job ≡ Whole b.call)
    (at_is : b.at ≡ own_record id (length v.region.spots)) (frame_is : b.frame ≡ e.frame) (topmost : e.frame ≡ v.tasks.begun)
    (fork_is : b.fork ≡ suc e.forks) (parent_is : b.parent ≡ suc e.spot.berth.at)
    (fits_b : IsBerth b) (built : IsBuilt v.region.built b) (room : length v.region.spots < RECORDS) (behind : IsBehind v e)
    (draws : v.draws.hands ≡ e.spot.path ∷ []) (within_limit : v.draws.over ≡ 0) where
  abbrev l : Layout
  l = layout_of j

  abbrev m : Machine
  m = machine_of j.program

  abbrev p : Path
  p = e.spot.path

  abbrev fit : Fits j lies s.words id v
  fit = f.fits id v at

  pub plain : e.looping ≡ false
  plain = plain_at_fork j lies s f id v at e (at_head v e rest runs) c code next

  abbrev t : Lie
  t = (fit.running e (Rattle.kt_steps.proofs.Steps.head_in j lies s f id v at live e rest runs plain)).0

  is : lies p ≡ some t
  is = head_is j lies s f id v at live e rest runs plain

  agrees : Agrees j e t
  agrees = head_agrees j lies s f id v at live e rest runs plain

  stage_runs : (k : ℕ) × (t.stage ≡ Runs k)
  stage_runs = head_runs j lies s f id v at live e rest runs plain

  t_live : is_gone t.stage ≡ false
  t_live = ap is_gone stage_runs.1

  abbrev t2 : Lie
  t2 = record t { count = suc t.count }

  abbrev n : ℕ
  n = counts_of j lies p

  abbrev q : Path
  q = child p n

  abbrev x : Lie
  x = new_lie b

  abbrev lies1 : Lies
  lies1 = put lies p (some t2)

  abbrev lies2 : Lies
  lies2 = put lies1 q (some x)

  abbrev qs : Place
  qs = record_word b.at 0

  abbrev ws' : List ℕ
  ws' = set s.words (place l qs) (packed_state (state_of x))

  abbrev w : View
  w = published v e rest b

  runs_now : (task_of j p t).phase ≡ Running
  runs_now = ap phase_of stage_runs.1

  next_lie : left m (task_of j p t) ≡ Fork c code
  next_lie = ap (left m) (head_task j lies s f id v at live e rest runs plain) ∙ next

  n_is : n ≡ e.forks
  n_is = let a = ap (forks_of j) (get_at j lies p t is) in let b = agrees.forks in
      let d = head_single j lies s f id v at live e rest runs plain in omega arith

  pub unlooped : t.indexes ≡ []
  unlooped = ((f.looped.booked p t is).early (ap is_early stage_runs.1)).0

  sound_t : Sound p t
  sound_t = f.words.sound p t is

  owns : Owns l lies s.words id v.region v.tasks.running v.tasks.begun
  owns = fit.owns live

  -- the call's path is that of the child, and there is room for it
  child_is : (c ≡ placed_fork (map suc p) (suc n) c.job) × (b.call.depth ≡ suc t.berth.call.depth) × (t.berth.call.depth < DEPTH)
  child_is = at_path m levels (rights_in j.program) f.laws main_placed (opened_with j.program.families j.input)
      ((c ≡ placed_fork (map suc p) (suc n) c.job) × (b.call.depth ≡ suc t.berth.call.depth) × (t.berth.call.depth < DEPTH)) p
      (core_of j lies (elements l s.words)) (f.core.there p t is) f.core.lawful
      (λ kids ok.
      let there_t = get_at j lies p t is in
      let next_get : left m (get_of j lies p) ≡ Fork c code = ap (left m) there_t ∙ next_lie in
      let path = fork_path j.program f.laws (get_of j lies p) kids ok c code next_get in
      let deep = fork_deep j.program f.laws (get_of j lies p) kids ok c code next_get b.call t.berth.call call_is
      (ap (λ (z : Task (machine_of j.program)). z.call.job) there_t) in
      let many : 1 + length ok.st.forks ≡ suc n = (let e : length ok.st.forks ≡ n = sym
      (ap (λ z. length (forks_in m z)) ok.stands) in omega arith) in
      (path ∙ (λ i. placed_fork ((there_t i).call.path) (many i) c.job), deep.0, deep.1))

  path_is : c ≡ whole_at (map suc q) b.call
  path_is = child_is.0 ∙ (ap (placed_fork (map suc p) (suc n)) call_is ∙ ap (λ (z : Path). whole_at z b.call)
      (sym (map-append suc p (n ∷ []))))

  has_room : HasRoom levels p
  has_room = room_in levels p (let a = child_is.2 in let d = sound_t.deep in omega arith)

  few : id < j.workers
  few = seat_in j lies s f id v at

  in_b : b.at < RECORDS * j.workers
  in_b = let h = few in let e = at_is in omega arith

  within : (a g : ℕ) → a < RECORDS * j.workers → g < FIELDS → IsWithin l (record_word a g)
  within a g less lower = (less, lower)

  in_q : IsWithin l qs
  in_q = within b.at 0 in_b (omega arith)

  core_now : Cored j lies2 (elements l ws')
  core_now = subst (Cored j lies2) (sym (elements_else l s.words qs (packed_state (state_of x)) in_q tt))
      (cores.forks j f.laws lies (elements l s.words) f.core p t is runs_now c code next_lie has_room unlooped t2 x refl refl refl
      (λ i. record { call = sym path_is i; phase = Unclaimed; answers = []; done = 0 }))

  no_child : lies q ≡ none
  no_child = cores.no_child j f.laws lies (elements l s.words) f.core p t is runs_now c code next_lie has_room unlooped

  no_child1 : lies1 q ≡ none
  no_child1 = put_else lies p (some t2) q (not_child p n) ∙ no_child

  -- the word that the child's replaces is of an earlier frame
  found : word_at l s.words (record_word b.at 0) ≤ frame_floor b.frame
  found = subst (λ (z : ℕ × ℕ). word_at l s.words (record_word z.0 0) ≤ frame_floor z.1) (λ i. (sym at_is i, sym (frame_is ∙ topmost) i))
      (owns.low e rest runs topmost (length v.region.spots) (omega arith) room)

  now : word_at l ws' qs ≡ packed_state (state_of x)
  now = shelf.here l s.words qs (packed_state (state_of x)) in_q f.words.wide

  same_t : Same t t2
  same_t = record { berth = refl; gone = λ d. d; ends = λ d. d }

  loop_t : SameLoop t t2
  loop_t = record { berth = refl; first = refl; unretired = refl; indexes = refl; pieces = refl; gone = refl; early = λ d. d }

  fields_t : (g : ℕ) → field_of t2 g ≡ field_of t g
  fields_t g = ap (cond (is_gone t.stage) none) (go g)
    where
      go : (g : ℕ) → task_field t2 g ≡ task_field t g
      go zero = refl
      go (suc zero) = refl
      go (suc (suc zero)) = refl
      go (suc (suc (suc zero))) = refl
      go (suc (suc (suc (suc zero)))) = refl
      go (suc (suc (suc (suc (suc g))))) = refl

  -- a task of before that is there now
  pub record Old (o : Path) (y : Lie) : Type 0 where
    pub z : Lie
    pub is : lies o ≡ some z
    pub same : Same z y
    pub stage : y.stage ≡ z.stage
    pub loop : SameLoop z y
    pub fields : (g : ℕ) → field_of y g ≡ field_of z g

  old_there : (o : Path) (y : Lie) → lies o ≡ some y → Old o y
  old_there o y d = record { z = y; is = d; same = same_lie y y refl; stage = refl; loop = same_loop y y refl; fields = λ g. refl }

  old_parent : (o : Path) → p ≡ o → Old o t2
  old_parent o d = record { z = t; is = ap lies (sym d) ∙ is; same = same_t; stage = refl; loop = loop_t; fields = fields_t }

  -- an entry is the child's, or one of before
  at2 : (o : Path) (y : Lie) → lies2 o ≡ some y → ((q ≡ o) × (x ≡ y)) ⊎ Old o y
  at2 o y d = ⊎_elim (λ (h : (q ≡ o) × (x ≡ y)). inl h) (λ (h : (q ≢ o) × (lies1 o ≡ some y)). inr (⊎_elim
      (λ (g : (p ≡ o) × (t2 ≡ y)). subst (Old o) g.1 (old_parent o g.0))
      (λ (g : (p ≢ o) × (lies o ≡ some y)). old_there o y g.1) (at_put lies p o t2 y h.1))) (at_put lies1 q o x y d)

  still2 : (o : Path) (y : Lie) → lies1 o ≡ some y → lies2 o ≡ some y
  still2 o y d = put_else lies1 q (some x) o (λ g. some-ne-none y (sym d ∙ (ap lies1 (sym g) ∙ no_child1))) ∙ d

  kept2 : (o : Path) (z : Lie) → lies o ≡ some z → (y : Lie) × (lies2 o ≡ some y) × Same z y × (y.stage ≡ z.stage)
  kept2 o z d = ⊎_elim
      (λ (h : (p ≡ o) × (lies1 o ≡ some t2)). let z_is : t ≡ z = some-injective t z (sym is ∙ (ap lies h.0 ∙ d)) in
      (t2, still2 o t2 h.1, subst (λ (y : Lie). Same y t2) z_is same_t, ap (λ (y : Lie). y.stage) z_is))
      (λ (h : (p ≢ o) × (lies1 o ≡ lies o)). (z, still2 o z (h.1 ∙ d), same_lie z z refl, refl)) (put_cases lies p (some t2) o)

  -- a task that is there and not the parent stays just as it is
  stay2 : (o : Path) (z : Lie) → lies o ≡ some z → o ≢ p → lies2 o ≡ some z
  stay2 o z d ne = still2 o z (put_else lies p (some t2) o (λ g. ne (sym g)) ∙ d)

  not_here : (o : Path) (y : Lie) → lies o ≡ some y → is_gone y.stage ≡ false → y.berth.at ≢ b.at
  not_here o y d lives same = let k = owns.under o y (length v.region.spots) d lives room (same ∙ at_is) in
      let h = at_below v.region.spots (length v.region.spots) k.0 k.1 in absurd (omega arith)

  -- any other word of a record stays
  stays : (a g : ℕ) → a < RECORDS * j.workers → g < FIELDS → (a ≢ b.at) ⊎ (g ≢ 0)
      → word_at l ws' (record_word a g) ≡ word_at l s.words (record_word a g)
  stays a g less lower other = shelf.else l s.words qs (record_word a g) (packed_state (state_of x)) in_q (within a g less lower)
      (λ d. elim other [ inl k ↦ (let z : a ≡ b.at = cc in k z) | inr k ↦ (let z : g ≡ 0 = cc in k z) ])

  quiet2 : Quiet l s.words ws'
  quiet2 r plain in_r = shelf.else l s.words qs r (packed_state (state_of x)) in_q in_r (λ d. let z : ⊥ = subst IsPlain d plain in z)

  at_or : (a : ℕ) → (a ≡ b.at) ⊎ (a ≢ b.at)
  at_or a = elim (ℕ_discrete a b.at) [ yes d ↦ inl d | no d ↦ inr d ]

  keeps2 : Keeps l lies s.words lies2 ws'
  keeps2 = record {
    kept = λ o z d. let y = kept2 o z d in (y.0, y.1, y.2);
    back = λ o y d. elim (at2 o y d) [
      | inl h ↦ inr
          (subst (λ (z : Lie). word_at l s.words (record_word z.berth.at 0) ≤ frame_floor z.berth.frame) h.1 found)
      | inr h ↦ inl
          (h.z, h.is, h.same)
    ];
    used = λ a g less h. elim (at_or a) [
      | inl d ↦ (let z : word_at l ws' (record_word a 0) ≡ packed_state (state_of x) = ap (λ (k : ℕ). word_at l ws' (record_word k 0)) d
          ∙ now in
          let y : word_at l s.words (record_word a 0) ≡ word_at l s.words (record_word b.at 0) = ap
          (λ (k : ℕ). word_at l s.words (record_word k 0)) d in
          let k = above_floor (state_of x) (λ i. cc) in let g = found in omega arith)
      | inr d ↦ subst (λ (u : ℕ). frame_floor g < u) (sym (stays a 0 less (omega arith) (inl d))) h
    ];
  }

  -- the children that p has lie before the new one
  siblings : (k : ℕ) (y : Lie) → lies (child p k) ≡ some y → (is_gone y.stage ≡ false) × (y.berth.frame ≡ b.frame)
      × (y.berth.at + n ≡ b.at + k)
  siblings k y d = elim behind [
    | inl none_yet ↦ (let h = child_less j lies (elements l s.words) f.core p t y k is d in let g = agrees.forks in
        let single = head_single j lies s f id v at live e rest runs plain in absurd (omega arith))
    | inr (i, a, o, forks_is, long_is, last_is, path_o) ↦ (
        let own = owns.spots a o last_is in
        let there_o : lies (child p i) ≡ some own.1.0 = ap lies (sym path_o) ∙ own.1.1 in
        let bs = f.words.beside p k i y own.1.0 d there_o in
        let bs2 = bs.2 in let own0 = own.0 in let o_at : own.1.0.berth.at ≡ o.berth.at = ap (λ (z : Berth). z.at) own.1.2 in
        let d_n = n_is in let b_at = at_is in (
          bs.0 ∙ own.1.3,
          owns.framed e (Rattle.kt_steps.proofs.Steps.head_in j lies s f id v at live e rest runs plain) k y d
              ∙ sym frame_is,
          omega arith,
        ))
  ]

  sound_x : Sound q x
  sound_x = record {
    state = fits_b.state;
    head = fits_b.head;
    deep = let a = child_is.1 in let d = sound_t.deep in let k = length-append p (n ∷ []) in omega arith;
    accesses = fits_b.accesses;
    fresh = λ d. (refl, refl);
  }

  says2 : (o : Path) (y : Lie) → lies2 o ≡ some y → (g k : ℕ) → g < FIELDS → field_of y g ≡ some k
      → word_at l ws' (record_word y.berth.at g) ≡ k
  says2 o y d g k less is_k = elim (at2 o y d) [
    | inl h ↦ subst (λ (z : Lie). word_at l ws' (record_word z.berth.at g) ≡ k) h.1
        (of_new g k less (ap (λ (z : Lie). field_of z g) h.1 ∙ is_k))
    | inr h ↦ (let z_says : field_of h.z g ≡ some k = sym (h.fields g) ∙ is_k in
        ap (λ (a : ℕ). word_at l ws' (record_word a g)) (same_at h.z y h.same)
        ∙ (stays h.z.berth.at g (f.words.inside o h.z h.is) less
        (inl (not_here o h.z h.is (lives h.z g k (is_gone h.z.stage) refl z_says))) ∙ f.words.says o h.z h.is g k less z_says))
  ]
    where
      lives : (z : Lie) (g k : ℕ) (b : Bool) → is_gone z.stage ≡ b → field_of z g ≡ some k → is_gone z.stage ≡ false
      lives z g k true d i = absurd (some-ne-none k (sym i ∙ ap (λ (c : Bool). cond c none (task_field z g)) d))
      lives z g k false d i = d

      of_new : (g k : ℕ) → g < FIELDS → field_of x g ≡ some k → word_at l ws' (record_word b.at g) ≡ k
      of_new zero k less i = now ∙ some-injective (packed_state (state_of x)) k i
      of_new (suc g) k less i =
          let h = owns.built room (record { field = suc g; word = k }) (built g k less i) in
          stays b.at (suc g) in_b less (inr (omega arith)) ∙ (ap (λ (a : ℕ). word_at l s.words (record_word a (suc g))) at_is ∙ h.2)

  words2 : Words l lies2 ws'
  words2 = record {
    wide = let a = length-set s.words (place l qs) (packed_state (state_of x)) in let k = f.words.wide in omega arith;
    inside = λ o y d. elim (at2 o y d) [
      | inl h ↦ (let a = ap (λ (z : Lie). z.berth.at) h.1 in let k = in_b in omega arith)
      | inr h ↦
          (let a = same_at h.z y h.same in let k = f.words.inside o h.z h.is in omega arith)
    ];
    sound = λ o y d. ⊎_elim (λ (h : (q ≡ o) × (x ≡ y)). subst (λ (z : Path × Lie). Sound z.0 z.1) (λ i. (h.0 i, h.1 i)) sound_x)
        (λ (h : (q ≢ o) × (lies1 o ≡ some y)). ⊎_elim
        (λ (g : (p ≡ o) × (t2 ≡ y)). subst (λ (z : Path × Lie). Sound z.0 z.1) (λ i. (g.0 i, g.1 i))
        (record {
          state = sound_t.state;
          head = sound_t.head;
          deep = sound_t.deep;
          accesses = sound_t.accesses;
          fresh = λ k. let a =
              ap is_begun stage_runs.1 in absurd (omega arith);
        }))
        (λ (g : (p ≢ o) × (lies o ≡ some y)). f.words.sound o y g.1) (at_put lies p o t2 y h.1)) (at_put lies1 q o x y d);
    says = says2;
    alone = λ o d y z i g live_y live_z same. elim (at2 o y i) [
      | inl h ↦ (elim (at2 d z g) [
        | inl k ↦ sym h.0 ∙ k.0
        | inr k ↦ absurd (not_here d k.z k.is (ap is_gone (sym k.stage) ∙ live_z)
            (sym (same_at k.z z k.same) ∙ (sym same ∙ ap (λ (u : Lie). u.berth.at) (sym h.1))))
      ])
      | inr h ↦ (elim (at2 d z g) [
        | inl k ↦ absurd (not_here o h.z h.is (ap is_gone (sym h.stage) ∙ live_y)
            (sym (same_at h.z y h.same) ∙ (same ∙ ap (λ (u : Lie). u.berth.at) (sym k.1))))
        | inr k ↦ f.words.alone o d h.z k.z h.is k.is (ap is_gone (sym h.stage) ∙ live_y) (ap is_gone (sym k.stage) ∙ live_z)
            (sym (same_at h.z y h.same) ∙ (same ∙ same_at k.z z k.same))
      ])
    ];
    named = λ a less. elim (at_or a) [
      | inl a_is ↦ inr (inl (q, x, put_here lies1 q (some x), refl, sym a_is))
      | inr a_not ↦ (elim (f.words.named a less) [
        | inl h ↦ inl (stays a 0 less (omega arith) (inl a_not) ∙ h)
        | inr (inl h) ↦ (let k = kept2 h.0 h.1 h.2 in inr (inl (h.0, k.0, k.1, ap is_gone k.3 ∙ h.3, same_at h.1 k.0 k.2 ∙ h.4)))
        | inr (inr h) ↦ inr (inr (subst IsLeft (sym (stays a 0 less (omega arith) (inl a_not))) h))
      ])
    ];
    beside = λ o i k y z d g. elim (at2 (child o i) y d) [
      | inl h ↦ (elim (at2 (child o k) z g) [
        | inl u ↦ (let a1 = (child_one p o n i h.0).1 in let d1 = (child_one p o n k u.0).1 in let same = sym h.1 ∙ u.1 in
            let s_at = ap (λ (r : Lie). r.berth.at) same in
            (ap (λ (r : Lie). is_gone r.stage) same, ap (λ (r : Lie). r.berth.frame) same, omega arith))
        | inr u ↦ (let a = child_one p o n i h.0 in let a1 = a.1 in
            let sb = siblings k u.z (ap (λ (r : Path). lies (child r k)) a.0 ∙ u.is) in let sb2 = sb.2 in
            let ya = ap (λ (r : Lie). r.berth.at) h.1 in let za = same_at u.z z u.same in (
              ap (λ (r : Lie). is_gone r.stage) (sym h.1) ∙ (sym sb.0 ∙ ap is_gone (sym u.stage)),
              ap (λ (r : Lie). r.berth.frame)
                  (sym h.1) ∙ (sym sb.1 ∙ sym (same_frame u.z z u.same)),
              omega arith,
            ))
      ])
      | inr h ↦ (elim (at2 (child o k) z g) [
        | inl u ↦ (let a = child_one p o n k u.0 in let a1 = a.1 in
            let sb = siblings i h.z (ap (λ (r : Path). lies (child r i)) a.0 ∙ h.is) in let sb2 = sb.2 in
            let za = ap (λ (r : Lie). r.berth.at) u.1 in let ya = same_at h.z y h.same in (
              ap is_gone h.stage ∙ (sb.0 ∙ ap (λ (r : Lie). is_gone r.stage) u.1),
              same_frame h.z y h.same ∙
                  (sb.1 ∙ ap (λ (r : Lie). r.berth.frame) u.1),
              omega arith,
            ))
        | inr u ↦ (let bs = f.words.beside o i k h.z u.z h.is u.is in let bs2 = bs.2 in let ya = same_at h.z y h.same in
            let za = same_at u.z z u.same in (
              ap is_gone h.stage ∙ (bs.0 ∙ ap is_gone (sym u.stage)),
              same_frame h.z y h.same ∙
                  (bs.1 ∙ sym (same_frame u.z z u.same)),
              omega arith,
            ))
      ])
    ];
    numbered = λ o i y d. elim (at2 (child o i) y d) [
      | inl h ↦ (let a = child_one p o n i h.0 in let a1 = a.1 in let ya = ap (λ (z : Lie). z.berth.fork) h.1 in let k = n_is in
          let g = fork_is in omega arith)
      | inr h ↦ ap (λ (z : Berth). z.fork) h.same.berth ∙ f.words.numbered o i h.z h.is
    ];
    parents = λ o i y z d g. elim (at2 (child o i) y d) [
      | inl h ↦ (let a = child_one p o n i h.0 in elim (at2 o z g) [
        | inl u ↦ absurd (not_child p n (a.0 ∙ sym u.0))
        | inr u ↦ (let z_is : u.z ≡ t = some-injective u.z t (sym u.is ∙ (ap lies (sym a.0) ∙ is)) in
            ap (λ (r : Lie). r.berth.parent) (sym h.1) ∙ (parent_is ∙ ap suc
            (sym (ap (λ (r : Berth). r.at) u.same.berth ∙ (ap (λ (r : Lie). r.berth.at) z_is ∙ ap
            (λ (r : Berth). r.at) agrees.berth)))))
      ])
      | inr h ↦ (elim (at2 o z g) [
        | inl u ↦ absurd (none_below i h.z (ap (λ (r : Path). lies (child r i)) u.0 ∙ h.is))
        | inr u ↦ ap (λ (r : Berth). r.parent) h.same.berth ∙ (f.words.parents o i h.z u.z h.is u.is ∙ ap suc
            (sym (same_at u.z z u.same)))
      ])
    ];
    above = λ o i y z d g lives. elim (at2 (child o i) y d) [
      | inl h ↦ (let a = child_one p o n i h.0 in elim (at2 o z g) [
        | inl u ↦ absurd (not_child p n (a.0 ∙ sym u.0))
        | inr u ↦ (let z_is : u.z ≡ t = some-injective u.z t (sym u.is ∙ (ap lies (sym a.0) ∙ is)) in
            ap is_gone u.stage ∙ (ap (λ (r : Lie). is_gone r.stage) z_is ∙ t_live))
      ])
      | inr h ↦ (elim (at2 o z g) [
        | inl u ↦ absurd (none_below i h.z (ap (λ (r : Path). lies (child r i)) u.0 ∙ h.is))
        | inr u ↦ ap is_gone u.stage ∙ f.words.above o i h.z u.z h.is u.is (sym (ap is_gone h.stage) ∙ lives)
      ])
    ];
    heads = λ a less. subst IsHeadAt (sym (stays a 1 less (omega arith) (inr (omega arith)))) (f.words.heads a less);
    accesses = λ a k less lower. subst (IsAccessAt l.objects) (sym (stays a (13 + k) less (omega arith) (inr (omega arith))))
        (f.words.accesses a k less lower);
  }
    where
      -- nothing lies below a path at which nothing lies
      none_below : (i : ℕ) (z : Lie) → lies (child q i) ≡ some z → ⊥
      none_below i z d = let h = Rattle.kt_order.proofs.PathThere.there_child levels (counts_of j lies) q i
          (f.core.there (child q i) z d) in
          let y = cores.child_lies j lies (elements l s.words) f.core p t is unlooped n h.0 in some-ne-none y.0 (sym y.1 ∙ no_child)

  -- REGIONS

  owns_other : (k : ℕ) (region : Region) (running : List Execution) (begun : ℕ) → k ≢ id → k < j.workers
      → ((o : Execution) → In o running → o.spot.path ≢ p) → Owns l lies s.words k region running begun
      → Owns l lies2 ws' k region running begun
  owns_other k region running begun ne less away o = record {
    room = o.room;
    spots = λ a r d. let g = o.spots a r d in let y = kept2 r.path g.1.0 g.1.1 in
        (g.0, (y.0, y.1, y.2.berth ∙ g.1.2, ap is_gone y.3 ∙ g.1.3));
    under = λ r y a d lives lower y_at. elim (at2 r y d) [
      | inl h ↦ absurd (ne (let z = ap (λ (u : Lie). u.berth.at) h.1 in let d1 = room in let d2 = at_is in omega arith))
      | inr h ↦ o.under r h.z a h.is (ap is_gone (sym h.stage) ∙ lives) lower (sym (same_at h.z y h.same) ∙ y_at)
    ];
    built = λ lower r i. let g = o.built lower r i in (
      g.0,
      g.1,
      stays (own_record k (length region.spots)) r.field (omega arith) g.1
          (inl (λ d. ne (let d1 = room in let d2 = at_is in omega arith))) ∙ g.2,
    );
    stack = o.stack;
    framed = λ r i a u d. elim (at2 (child r.spot.path a) u d) [
      | inl h ↦ absurd (away r i (sym (child_one p r.spot.path n a h.0).0))
      | inr h ↦ same_frame h.z u h.same ∙ o.framed r i a h.z h.is
    ];
    falls = o.falls;
    old = λ a lower. subst (λ (z : ℕ). z ≤ frame_floor (suc begun)) (sym (elsewhere a lower)) (o.old a lower);
    low = λ r rs d top a from lower. subst (λ (z : ℕ). z ≤ frame_floor begun) (sym (elsewhere a lower)) (o.low r rs d top a from lower);
  }
    where
      elsewhere : (a : ℕ) → a < RECORDS → word_at l ws' (record_word (own_record k a) 0) ≡ word_at l s.words
          (record_word (own_record k a) 0)
      elsewhere a lower = stays (own_record k a) 0 (omega arith) (omega arith)
          (inl (λ d. ne (let d1 = room in let d2 = at_is in omega arith)))

  owns_own : Owns l lies2 ws' id w.region w.tasks.running w.tasks.begun
  owns_own = record {
    room = let a = length-append v.region.spots (spot_new ∷ []) in omega arith;
    spots = λ a r d. elim (snoc_at v.region.spots spot_new a r d) [
      | inl h ↦ (let g = owns.spots a r h in let y = kept2 r.path g.1.0 g.1.1 in
          (g.0, (y.0, y.1, y.2.berth ∙ g.1.2, ap is_gone y.3 ∙ g.1.3)))
      | inr h ↦ subst (IsOwn lies2 id a) h.1 (
        at_is ∙ ap (own_record id) (sym h.0),
        (x, ap (λ (k : ℕ). lies2 (child p k)) (sym n_is) ∙ put_here lies1 q (some x), refl, refl),
      )
    ];
    under = λ r y a d lives lower y_at. elim (at2 r y d) [
      | inl h ↦ (let a_is : a ≡ length v.region.spots = (let z = ap (λ (u : Lie). u.berth.at) h.1 in let k = at_is in omega arith) in (
        spot_new,
        ap (get_elem? (v.region.spots ++ spot_new ∷ [])) a_is ∙ snoc_last v.region.spots spot_new,
        ap (child p) (sym n_is)
            ∙ h.0,
      ))
      | inr h ↦ (let g = owns.under r h.z a h.is (ap is_gone (sym h.stage) ∙ lives) lower (sym (same_at h.z y h.same) ∙ y_at) in
          (g.0, snoc_left v.region.spots spot_new a g.0 g.1, g.2))
    ];
    built = λ lower r i. elim i [ ];
    stack = let a = subst (λ (z : List Execution). length (roots id ++ frames z) ≤ length v.region.spots) runs owns.stack in
        let l1 = length-append v.region.spots (spot_new ∷ []) in
        let l2 = length-append (roots id) (frames rest ++ children p e.forks) in
        let l3 = length-append (frames rest) (children p e.forks) in
        let l4 = length-append (roots id) (frames rest ++ (children p e.forks ++ child p e.forks ∷ [])) in
        let l5 = length-append (frames rest) (children p e.forks ++ child p e.forks ∷ []) in
        let l6 = length-append (children p e.forks) (child p e.forks ∷ []) in omega arith;
    framed = λ r i a u d. ⊎_elim
        (λ (g : r ≡ forked_one e). of_head a u (ap (λ (z : Execution). lies2 (child z.spot.path a)) (sym g) ∙ d) ∙ ap
        (λ (z : Execution). z.frame) (sym g))
        (λ (g : In r rest). elim (at2 (child r.spot.path a) u d) [
          | inl h ↦ absurd (not_among path_of rest p (let z = once_begun j lies s f id v at live e rest runs plain in omega arith) r g
              (sym (child_one p r.spot.path n a h.0).0))
          | inr h ↦ same_frame h.z u h.same ∙ owns.framed r (subst (In r) (sym runs) (there g)) a h.z h.is
        ]) (in_cons r (forked_one e) rest i);
    falls = subst (Rattle.kt_rule.specs.Facts.Falls (suc v.tasks.begun)) runs owns.falls;
    old = λ a lower. elim (at_or (own_record id a)) [
      | inl d ↦ (let z : word_at l ws' (record_word (own_record id a) 0) ≡ packed_state (state_of x) = ap
          (λ (k : ℕ). word_at l ws' (record_word k 0)) d ∙ now in
          let y = below_next (state_of x) sound_x.state in let g : frame_floor (suc b.frame) ≡ frame_floor (suc v.tasks.begun) = ap
          (λ (k : ℕ). frame_floor (suc k)) (frame_is ∙ topmost) in omega arith)
      | inr d ↦ subst (λ (z : ℕ). z ≤ frame_floor (suc v.tasks.begun))
          (sym (stays (own_record id a) 0 (let k = few in omega arith) (omega arith) (inl d))) (owns.old a lower)
    ];
    low = λ r rs d top a from lower. let long = length-append v.region.spots (spot_new ∷ []) in
        subst (λ (z : ℕ). z ≤ frame_floor v.tasks.begun)
        (sym (stays (own_record id a) 0 (let k = few in omega arith) (omega arith)
        (inl (λ g. let k = at_is in absurd (omega arith))))) (owns.low e rest runs topmost a (omega arith) lower);
  }
    where
      spot_new : Spot
      spot_new = record { berth = b; path = child p e.forks }

      of_head : (a : ℕ) (u : Lie) → lies2 (child p a) ≡ some u → u.berth.frame ≡ e.frame
      of_head a u d = elim (at2 (child p a) u d) [
        | inl h ↦ ap (λ (z : Lie). z.berth.frame) (sym h.1) ∙ frame_is
        | inr h ↦ same_frame h.z u h.same ∙ owns.framed e (subst (In e) (sym runs) here) a h.z h.is
      ]

  -- LISTS

  under2 : (o : Execution) → IsUnderWay j lies1 o → IsUnderWay j lies2 o
  under2 o h = (h.0, still2 o.spot.path h.0 h.1, h.2, h.3)

  over2 : (o : Execution) → IsOver j lies1 o → IsOver j lies2 o
  over2 o h = (h.0, still2 o.spot.path h.0 h.1, h.2, h.3)

  given2 : (o : Spot) → IsGiven lies1 o → IsGiven lies2 o
  given2 o h = (h.0, still2 o.path h.0 h.1, h.2, h.3)

  promised2 : (o : Promise) → IsPromised lies1 o → IsPromised lies2 o
  promised2 o h = (h.0, still2 o.spot.path h.0 h.1, h.2, h.3)

  forked_under : IsUnderWay j lies2 (forked_one e)
  forked_under = (
    t2,
    still2 p t2 (put_here lies p (some t2)),
    record {
      berth = agrees.berth;
      answers = agrees.answers;
      count = ap suc agrees.count;
      indexes = agrees.indexes;
      forks = cores.forks_one j f.laws lies (elements l s.words) f.core p t is runs_now c code next_lie has_room unlooped t2 refl
          ∙ (ap suc agrees.forks ∙ (let z : suc (e.forks + indexes_of e) ≡ suc e.forks + indexes_of e = omega arith in z));
    },
    (fit.running e (Rattle.kt_steps.proofs.Steps.head_in j lies s f id v at live e rest runs plain)).3,
  )

  fits_own : Fits j lies2 ws' id w
  fits_own = record {
    setup = fit.setup;
    own = fit.own;
    owns = λ h. owns_own;
    running = λ o i. ⊎_elim (λ (h : o ≡ forked_one e). subst (IsUnderWay j lies2) (sym h) forked_under)
        (λ (h : In o rest). under2 o (rest_keeps j lies s f id v at live e rest runs plain t2 o h)) (in_cons o (forked_one e) rest i);
    halted = λ o i. under2 o (halted_keeps j lies s f id v at live e rest runs plain t2 o i);
    ran = λ o i. over2 o (ran_keeps j lies s f id v at live e rest runs plain t2 o i);
    begun = let a = fit.begun in let k = ap (λ (z : List Execution). length z) runs in omega arith;
    mine = mine_now;
    given = λ o i. given2 o (given_keeps j lies s f id v at live e rest runs plain t2 o i);
    known = λ o i. known_keeps l lies s.words lies2 ws' keeps2 o (fit.known o i);
    notes = λ o i. note_keeps l lies s.words lies2 ws' keeps2 o (fit.notes o i);
    stop = λ i. quiet2 stop_at tt tt ∙ fit.stop i;
    line = λ o i. berth_keeps l lies s.words lies2 ws' keeps2 o.path o.berth (fit.line o i);
  }
    where
      mine_now : (o : Spot) → In o w.region.mine → IsPublished lies2 o
      mine_now o here = (x, ap (λ (k : ℕ). lies2 (child p k)) (sym n_is) ∙ put_here lies1 q (some x), refl)
      mine_now o (there i) = berth_keeps l lies s.words lies2 ws' keeps2 o.path o.berth (fit.mine o i)

  fits_other : (k : ℕ) (u : View) → k ≢ id → get_elem? s.views k ≡ some u → Fits j lies2 ws' k u
  fits_other k u ne d =
      let a = head_alone j lies s f id v at live e rest runs plain k u ne d in let a0 = a.0 in let a1 = a.1 in
      fits_keep j lies s.words lies2 ws' keeps2 k u (f.fits k u d)
      (owns_other k u.region u.tasks.running u.tasks.begun ne (seat_in j lies s f k u d)
      (not_among path_of u.tasks.running p (omega arith)))
      (λ h. quiet2 stop_at tt tt ∙ h)
      (λ r h. same_there r (λ z. positive_not (begun_in u p + given_in u p) (omega arith)
      (subst (λ (y : Path). 0 < begun_in u y + given_in u y) z h)) (there_or (lies r) refl) h)
    where
      there_or : {A : Type 0} (y : o.Option A) {r : o.Option A} → r ≡ y → (r ≡ none) ⊎ ((z : A) × (r ≡ some z))
      there_or none d = inl d
      there_or (some z) d = inr (z, d)

      -- whatever a seat has in hand lies there
      same_there : (r : Path) → r ≢ p → (lies r ≡ none) ⊎ ((z : Lie) × (lies r ≡ some z)) → 0 < begun_in u r + given_in u r
          → lies2 r ≡ lies r
      same_there r ne (inr h) some_there = stay2 r h.0 h.1 ne ∙ sym h.1
      same_there r ne (inl h) some_there =
          let a = Rattle.kt_rule.proofs.Sums.tally_own begun_in is_begun lies s.views k u f.counts.begun d r in
          let g = Rattle.kt_rule.proofs.Sums.tally_own given_in is_given lies s.views k u f.counts.given d r in
          let a0 : tally is_begun (lies r) ≡ 0 = ap (tally is_begun) h in
          let g0 : tally is_given (lies r) ≡ 0 = ap (tally is_given) h in absurd (omega arith)

  -- TALLIES

  tally_new : (g : Stage → ℕ) → g Waits ≡ 0 → (o : Path) → tally g (lies2 o) ≡ tally g (lies o)
  tally_new g none_yet o = elim (put_cases lies1 q (some x) o) [
    | inl h ↦ ap (tally g) h.1 ∙ (none_yet ∙ sym (ap (λ (z : Path). tally g (lies z)) (sym h.0) ∙ ap (tally g) no_child))
    | inr h ↦ ap (tally g) h.1 ∙ elim (put_cases lies p (some t2) o) [
      | inl k ↦ ap (tally g) k.1 ∙ sym (ap (λ (z : Path). tally g (lies z)) (sym k.0) ∙ ap (tally g) is)
      | inr k ↦ ap (tally g) k.1
    ]
  ]

  mine_more : (o : Path) → mine_in w o + tally is_there (lies o) ≡ mine_in v o + tally is_there (lies2 o)
  mine_more o =
      let k : mine_in w o ≡ one_if (same_path o q) + mine_in v o = ap (λ (i : ℕ). one_if (same_path o (child p i)) + mine_in v o)
      (sym n_is) in
      ⊎_elim
      (λ (h : (q ≡ o) × (lies2 o ≡ some x)). let a = one_self o q h.0 in
      let d : tally is_there (lies o) ≡ 0 = ap (λ (z : Path). tally is_there (lies z)) (sym h.0) ∙ ap (tally is_there) no_child in
      let g : tally is_there (lies2 o) ≡ 1 = ap (tally is_there) h.1 in omega arith)
      (λ (h : (q ≢ o) × (lies2 o ≡ lies1 o)). let a = one_other o q h.0 in
      let d : tally is_there (lies2 o) ≡ tally is_there (lies1 o) = ap (tally is_there) h.1 in
      let g : tally is_there (lies1 o) ≡ tally is_there (lies o) = elim
      (put_cases lies p (some t2) o) [
        | inl k ↦ ap (tally is_there) k.1 ∙ sym
            (ap (λ (z : Path). tally is_there (lies z)) (sym k.0) ∙ ap (tally is_there) is)
        | inr k ↦ ap
            (tally is_there) k.1
      ] in omega arith)
      (put_cases lies1 q (some x) o)

  new_task : IsNewTask lies q x
  new_task = record {
    none_there = no_child;
    no_indexes = refl;
    no_pieces = refl;
    unretired = refl;
    free = λ o z d lives same_at. let h = owns.under o z (length v.region.spots) d lives room (same_at ∙ at_is) in
        (let a = at_below v.region.spots (length v.region.spots) h.0 h.1 in omega arith);
    below = λ o i z child_is d. ((f.looped.booked o z d).early (ap (λ (y : Lie). is_early y.stage)
        (some-injective z t (sym d ∙ (ap lies (sym (child_one p o n i child_is).0) ∙ is))) ∙ ap is_early stage_runs.1)).0;
  }

  loops2 : LoopsStay lies lies2
  loops2 = record {
    forth = λ o z d. elim (put_cases lies p (some t2) o) [
      | inl h ↦ (t2, still2 o t2 h.1, subst (λ (y : Lie). SameLoop y t2) (some-injective t z (sym is ∙ (ap lies h.0 ∙ d))) loop_t)
      | inr h ↦ (z, still2 o z (h.1 ∙ d), same_loop z z refl)
    ];
    back = λ o y d. elim (at2 o y d) [
      | inl h ↦ inr (subst (λ (k : Path × Lie). IsNewTask lies k.0 k.1) (λ i. (h.0 i, h.1 i)) new_task)
      | inr h ↦ inl (h.z, h.is, h.loop)
    ];
  }

  nowhere : (o : Path) → In o [] → ⊥
  nowhere o i = elim i [ ]

  posted2 : SamePosted lies lies2
  posted2 = record {
    forth = λ o z k d h. stay2 o z d (λ g. runs_unposted stage_runs.0 k
        (sym stage_runs.1 ∙ (ap (λ (y : Lie). y.stage) (some-injective t z (sym is ∙ (ap lies (sym g) ∙ d))) ∙ h)));
    back = λ o y k d h. ⊎_elim (λ (g : (q ≡ o) × (x ≡ y)). absurd (waits_unposted k (ap (λ (z : Lie). z.stage) g.1 ∙ h)))
        (λ (g : (q ≢ o) × (lies1 o ≡ some y)). ⊎_elim
        (λ (i : (p ≡ o) × (t2 ≡ y)). absurd (runs_unposted stage_runs.0 k (sym stage_runs.1 ∙ (ap (λ (z : Lie). z.stage) i.1 ∙ h))))
        (λ (i : (p ≢ o) × (lies o ≡ some y)). i.1) (at_put lies p o t2 y g.1)) (at_put lies1 q o x y d);
  }

  drawn2 : Drawn j lies2 ws' (set s.views id w)
  drawn2 = let drawn_stays = quiet2 drawn_at tt tt in record {
    count = let h = weigh_set (λ (z : View). length z.region.mine + length z.draws.hands) s.views id v w at in let k = f.drawn.count in
        let a = ap (λ (z : List Path). length z) draws in omega arith;
    hands = λ o. let h = weigh_set (λ (z : View). drawn_in z o) s.views id v w at in let k = f.drawn.hands o in
        let a : times o v.draws.hands ≡ one_if (same_path o p) = ap (λ (z : List Path). times o z) draws ∙
        (let z : one_if (same_path o p) + 0 ≡ one_if (same_path o p) = omega arith in z) in
        elim (put_cases lies1 q (some x) o) [
          | inl g ↦ (let d : waiting j o (lies o) ≡ 0 = ap (waiting j o) (ap lies (sym g.0) ∙ no_child) in omega arith)
          | inr g ↦ (elim (put_cases lies p (some t2) o) [
            | inl i ↦ (let d : waiting j o (lies o) ≡ 1 = (λ k. waiting j (sym i.0 k) (lies (sym i.0 k))) ∙
                (ap (waiting j p) is ∙ (ap (next_weight m is_task) next_lie ∙ ap one_if_whole call_is)) in
                let e = one_self o p i.0 in omega arith)
            | inr i ↦ (let d : waiting j o (lies2 o) ≡ waiting j o (lies o) = ap (waiting j o) (g.1 ∙ i.1) in omega arith)
          ])
        ];
    begun = each_view (λ k y. (o : Path) → In o y.draws.hands → 0 < begun_in y o) s.views id w (λ o i. absurd (nowhere o i))
        (λ k y ne d. f.drawn.begun k y d);
    bound = let h = weigh_set (λ (z : View). z.draws.over) s.views id v w at in let k = f.drawn.bound in omega arith;
    overs = each_view (λ k y. y.draws.over ≤ y.parts) s.views id w (f.drawn.overs id v at) (λ k y ne d. f.drawn.overs k y d);
    held = each_view (λ k y. y.draws.over ≤ length y.draws.hands) s.views id w (let a = within_limit in omega arith)
        (λ k y ne d. f.drawn.held k y d);
    crossed = each_view (λ k y. 0 < y.draws.over → TASKS < word_at l ws' drawn_at) s.views id w
        (λ h. let d = f.drawn.crossed id v at h in omega arith) (λ k y ne d h. let g = f.drawn.crossed k y d h in omega arith);
  }

  -- what a body that forked tasks has still to fork of indexes
  more_waits : (o : Path) → waiting_indexes j o (lies o) ≤ waiting_indexes j o (lies2 o)
  more_waits o = elim (put_cases lies1 q (some x) o) [
    | inl g ↦ (let d : waiting_indexes j o (lies o) ≡ 0 = ap (waiting_indexes j o) (ap lies (sym g.0) ∙ no_child) in omega arith)
    | inr g ↦ (elim (put_cases lies p (some t2) o) [
      | inl i ↦ (let d : waiting_indexes j o (lies o) ≡ is_index c + forks_ahead m is_index code
          = (λ k. waiting_indexes j (sym i.0 k) (lies (sym i.0 k))) ∙ (ap (waiting_indexes j p) is ∙ ap (forks_ahead m is_index) next_lie) in
          let z : is_index c ≡ 0 = ap one_if_index call_is in
          let y : waiting_indexes j o (lies2 o) ≡ forks_ahead m is_index code = ap (waiting_indexes j o) (g.1 ∙ i.1)
          ∙ (ap (λ (k : Path). waiting_indexes j k (some t2)) (sym i.0) ∙ ap (forks_ahead m is_index)
          (cores.forks_left j f.laws lies (elements l s.words) f.core p t is runs_now c code next_lie has_room unlooped t2 refl)) in
          omega arith)
      | inr i ↦ (let d : waiting_indexes j o (lies2 o) ≡ waiting_indexes j o (lies o) = ap (waiting_indexes j o) (g.1 ∙ i.1) in omega arith)
    ])
  ]

  pub publish_now : Facts j lies2 record { words = ws'; homes = s.homes; views = set s.views id w }
  publish_now = assemble j lies lies2 s ws' id v w f at live (record {
    parts = refl;
    made = refl;
    keeps = keeps2;
    root = λ y d. elim (at2 [] y d) [
      | inl h ↦ ap (λ (z : Lie). is_gone z.stage) (sym h.1)
      | inr h ↦ ap is_gone h.stage
          ∙ main_lives j lies s f h.z h.is
    ];
    core = core_now;
    words = words2;
    mine = mine_more;
    claimed = λ o. let a = tally_new is_claimed refl o in omega arith;
    given = λ o. let a = tally_new is_given refl o in omega arith;
    begun = λ o. let a = tally_new is_begun refl o in let k = was_begun j lies s f id v at live e rest runs plain o in omega arith;
    asked = asked_keeps l lies lies2 s.words ws' s.views id v w f.asked f.counts.few at refl refl
        (quiet_own l s.words ws' quiet2) posted2 (λ o. let a = tally_new is_promised refl o in omega arith)
        (λ o i. promised2 o (promises_keep j lies s f id v at live e rest runs plain t2 o i))
        (λ k u ne d o i. let h = f.asked.promises k u d o i in let a = head_alone j lies s f id v at live e rest runs plain k u ne d in
        (h.0, stay2 o.spot.path h.0 h.1 (not_among promise_path u.tasks.promised p a.2 o i), h.2, h.3));
    drawn = drawn2;
    positions = positions_keeps j lies lies2 s.words ws' s.views id v w f.positions at
        (let a = ap (λ (z : List Execution). weigh indexes_of (z ++ (v.tasks.halted ++ v.tasks.ran))) runs in omega arith) refl
        (λ o h. let k = was_begun j lies s f id v at live e rest runs plain o in omega arith) (quiet2 positions_at tt tt) more_waits;
    stopped = stopped_quiet l s.words ws' quiet2 f.stopped;
    looped = looped_keeps l lies lies2 s.words ws' s.views id v w f.looped loops2 at refl (quiet2 positions_at tt tt)
        (quiet_own l s.words ws' quiet2);
    fits = fits_own;
    others = fits_other;
    unmade = λ a from less z. stays a 0 less (omega arith) (inl (λ d. let g = at_is in
        let h = at_below s.views id v at in absurd (omega arith))) ∙ z;
  })

  -- the core after it
  pub publish_after : core_of j lies2 (elements l ws') ≡ Rattle.kt_runs.specs.ByPath.after_fork j.program c p
      (core_of j lies (elements l s.words))
  publish_after = λ i. record {
    get = cores.forked_tasks j f.laws lies (elements l s.words) f.core p t is runs_now c code next_lie has_room unlooped t2 x refl refl refl
        (λ k. record { call = sym path_is k; phase = Unclaimed; answers = []; done = 0 }) i;
    store = elements_else l s.words qs (packed_state (state_of x)) in_q tt i;
  }

-- a publication: a store
pub publishes : (opening : List ℕ) (slots id : ℕ) (me : Me Slots View) (j : Setup) (e : Execution) (rest : List Execution) (c : Placed)
    (code : Code (machine_of j.program)) (b : Berth) (i new : ℕ) → me.0.setup ≡ Some j → 0 < me.0.parts → me.0.tasks.running ≡ e ∷ rest
    → left (machine_of j.program) (task_in j e) ≡ Fork c code → c.job ≡ Whole b.call
    → b.at ≡ next_of me.0 → b.frame ≡ e.frame → e.frame ≡ me.0.tasks.begun → b.fork ≡ suc e.forks → b.parent ≡ suc e.spot.berth.at
    → IsBerth b → IsBuilt me.0.region.built b → length me.0.region.spots < RECORDS → IsBehind me.0 e
    → me.0.draws.hands ≡ e.spot.path ∷ [] → me.0.draws.over ≡ 0
    → i ≡ state_place (layout_of j) b.at → new ≡ state_word b S.Unclaimed
    → Allows (Holds opening) slots id me i (λ _. new) (λ _. Tells (Publishes e rest b) (step slots i new 0 none) me new)
publishes opening slots id me j e rest c code b i new setup live runs next call_is at_is frame_is topmost fork_is parent_is fits_b built
    room behind draws within_limit i_is new_is s h _ at _ =
    let y = inside opening s j id me.0 h at live setup in let lies = y.0 in let f = y.1 in
    let own = (f.fits id me.0 at).own live in
    let at_own : b.at ≡ own_record id (length me.0.region.spots) = at_is ∙ ap (λ (k : ℕ). own_record k (length me.0.region.spots)) own in
    let after : Lies = lies2 j lies s f id me.0 at live e rest runs c code next b call_is at_own frame_is topmost fork_is parent_is
    fits_b built room behind draws within_limit in (
      published me.0 e rest b,
      keeps,
      tt,
      holds_so opening _ j after (subst (λ (z : ℕ × ℕ). Facts j after record
          { words = set s.words z.0 z.1; homes = s.homes; views = set s.views id (published me.0 e rest b) })
          (λ k. (sym i_is k, sym new_is k))
          (publish_now j lies s f id me.0 at live e rest runs c code next b call_is at_own frame_is topmost fork_is parent_is fits_b
          built room behind draws within_limit)),
      (refl, refl),
    )
