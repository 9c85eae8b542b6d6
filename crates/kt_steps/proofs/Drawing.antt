-- The drawn count: no more numbers are drawn than the reference run has tasks.
use Rattle.std.proofs.Common.{◌≡◌, ◌≢◌, ℕ, zero, suc, ◌+◌, ◌%◌, ◌^◌, ◌<◌, ◌≤◌, ◌⊎◌, Bool, true, false, List, [], ◌∷◌, ◌++◌, set, map, length, slice_index, sym, refl, ap, ◌∙◌, subst, inl, inr, arith, Some}
use Rattle.std.proofs.lemmas.List.{length-append}
use mathlib.Core.Option.{Option, none, some, some-injective, some-ne-none}
use lib.ListN.{get_elem?}
use Rattle.atomic_table.specs.Table.{State, Me, stepped, keeps, step, Allows}
use Rattle.kt_law.specs.declared.limits.TheConstants.{TASKS}
use Rattle.kt_order.specs.Body.{Fork}
use Rattle.kt_order.specs.Machine.{Code}
use Rattle.kt_order.specs.Sequential.{Entry}
use Rattle.kt_order.specs.Forest.{Task}
use Rattle.kt_order.specs.Rest.{left}
use Rattle.kt_order.specs.Shown.{entry_of}
use Rattle.kt_order.specs.Paths.{same_path}
use Rattle.kt_order.specs.Listed.{all_paths, sum_over}
use Rattle.kt_prog.specs.Calls.{CallTree, Job, Whole, Index}
use Rattle.kt_prog.specs.Entries.{tasks_of}
use Rattle.kt_prog.specs.Reference.{Placed, machine_of, main_placed, opened_with}
use Rattle.kt_runs.specs.Rights.{rights_in}
use Rattle.kt_runs.specs.ByPath.{Path, levels}
use Rattle.kt_rule.specs.Paths.{parent_of, number_of}
use Rattle.kt_words.specs.Places.{place}
use Rattle.kt_rule.specs.declared.views.Setup.{Setup}
use Rattle.kt_rule.specs.declared.views.Execution.{Execution}
use Rattle.kt_rule.specs.declared.views.View.{View}
use Rattle.kt_rule.specs.Lists.{weigh, times, one_if, In, here, there}
use Rattle.kt_rule.specs.Weights.{next_weight, weight_of, is_task, one_if_whole}
use Rattle.kt_rule.specs.Lies.{Stage, Waits, Promised, Posted, Given, Runs, Loops, Done, Gone, IndexLie, Lie, Lies, index_of, index_in, get_of, core_of, counts_of, IsKnown}
use Rattle.kt_rule.specs.Records.{layout_of, word_at, elements, drawn_at, positions_at, stop_at}
use Rattle.kt_rule.specs.Views.{spot_path, path_of, begun_in, drawn_in}
use Rattle.kt_rule.specs.Facts.{is_there, is_begun, tally, task_in, waiting, Drawn}
use Rattle.kt_rule.specs.Rule.{Slots, Facts, Holds}
use Rattle.kt_rule.specs.Steps.{Tells, draws_one, Draws}
use Rattle.kt_rule.specs.Close.{the_run}
use Rattle.kt_rule.proofs.Puts.{get_at, get_none, same_is, same_ne}
use Rattle.kt_rule.proofs.Shelf as shelf
use Rattle.kt_rule.proofs.Sums.{weigh_set, weigh_one, weigh_append, times_append, times_in, map_long, one_self, one_other, tally_alone}
use Rattle.kt_steps.proofs.Weights.{run_weighs, weight_mapped, tasks_weigh}
use Rattle.kt_steps.proofs.Listed as listed
use Rattle.kt_steps.proofs.Listed.{stands}
use Rattle.kt_rule.proofs.Moves.{each_view}
use Rattle.kt_steps.proofs.Asides.{aside}
use Rattle.kt_steps.proofs.Steps.{inside, holds_so, at_head, plain_at_fork, head_is, head_task, head_begun, one_begun}

pub weigh_less : {A : Type 0} (f g : A → ℕ) (xs : List A) → ((k : ℕ) (x : A) → get_elem? xs k ≡ some x → f x ≤ g x)
    → weigh f xs ≤ weigh g xs
weigh_less f g [] h = omega arith
weigh_less f g (x ∷ xs) h = let a = h 0 x refl in let b = weigh_less f g xs (λ k y. h (suc k) y) in omega arith

weigh_none : {A : Type 0} (f : A → ℕ) (xs : List A) → ((k : ℕ) (x : A) → get_elem? xs k ≡ some x → f x ≡ 0) → weigh f xs ≡ 0
weigh_none f [] h = refl
weigh_none f (x ∷ xs) h = let a = h 0 x refl in let b = weigh_none f xs (λ k y. h (suc k) y) in omega arith

pub weigh_both : {A : Type 0} (f g : A → ℕ) (xs : List A) → weigh (λ x. f x + g x) xs ≡ weigh f xs + weigh g xs
weigh_both f g [] = refl
weigh_both f g (x ∷ xs) = let a = weigh_both f g xs in omega arith

pub zero_or : (n : ℕ) → (n ≡ 0) ⊎ (0 < n)
zero_or n = grind arith

below_or : (k n : ℕ) → (k ≤ n) ⊎ (n < k)
below_or k n = grind arith

-- a path that stands in a list, taken out once
taken_out : (x : Path) (ys : List Path) → 0 < times x ys → (zs : List Path) × (length ys ≡ suc (length zs))
    × ((p : Path) → times p ys ≡ one_if (same_path p x) + times p zs)
taken_out x [] h = absurd (omega arith)
taken_out x (y ∷ ys) h = go (same_path x y) refl (taken_out x ys)
  where
    go : (b : Bool) → same_path x y ≡ b → (0 < times x ys → (zs : List Path) × (length ys ≡ suc (length zs))
        × ((p : Path) → times p ys ≡ one_if (same_path p x) + times p zs))
        → (zs : List Path) × (length (y ∷ ys) ≡ suc (length zs)) × ((p : Path) → times p (y ∷ ys) ≡ one_if (same_path p x) + times p zs)
    go true e rest = (ys, refl, λ p. ap (λ (z : Path). one_if (same_path p z) + times p ys) (sym (same_is x y e)))
    go false e rest = let o : one_if (same_path x y) ≡ 0 = ap one_if e in let k = rest (omega arith) in let len = k.1 in
        (y ∷ k.0, ap suc len, λ p. let n = k.2 p in omega arith)

-- what stands nowhere more often is no longer
pub as_long : (xs ys : List Path) → ((p : Path) → times p xs ≤ times p ys) → length xs ≤ length ys
as_long [] ys h = omega arith
as_long (x ∷ xs) ys h =
    let one = one_self x x refl in let here_too = h x in let k = taken_out x ys (omega arith) in let len = k.1 in
    let rest = as_long xs k.0 (λ p. let a = h p in let b = k.2 p in omega arith) in omega arith

-- the lists of all seats in one
abbrev pub all_of : (View → List Path) → List View → List Path
all_of paths [] = []
all_of paths (v ∷ vs) = paths v ++ all_of paths vs

pub all_times : (paths : View → List Path) (views : List View) (p : Path)
    → times p (all_of paths views) ≡ weigh (λ (v : View). times p (paths v)) views
all_times paths [] p = refl
all_times paths (v ∷ vs) p = let a = weigh_append (λ r. one_if (same_path p r)) (paths v) (all_of paths vs) in
    let b = all_times paths vs p in omega arith

pub all_long : (paths : View → List Path) (views : List View) → length (all_of paths views) ≡ weigh (λ (v : View). length (paths v)) views
all_long paths [] = refl
all_long paths (v ∷ vs) = let a = length-append (paths v) (all_of paths vs) in let b = all_long paths vs in omega arith

abbrev hands_list : View → List Path
hands_list v = v.draws.hands

abbrev mine_list : View → List Path
mine_list v = map spot_path v.region.mine

abbrev begun_list : View → List Path
begun_list v = map path_of v.tasks.running ++ (map path_of v.tasks.halted ++ map path_of v.tasks.ran)

begun_times : (p : Path) (v : View) → times p (begun_list v) ≡ begun_in v p
begun_times p v = let a = times_append p (map path_of v.tasks.running) (map path_of v.tasks.halted ++ map path_of v.tasks.ran) in
    let b = times_append p (map path_of v.tasks.halted) (map path_of v.tasks.ran) in omega arith

begun_long : (v : View) → length (begun_list v) ≡ length v.tasks.running + (length v.tasks.halted + length v.tasks.ran)
begun_long v =
    let a = length-append (map path_of v.tasks.running) (map path_of v.tasks.halted ++ map path_of v.tasks.ran) in
    let b = length-append (map path_of v.tasks.halted) (map path_of v.tasks.ran) in
    let c = map_long path_of v.tasks.running in let d = map_long path_of v.tasks.halted in
    let e = map_long path_of v.tasks.ran in omega arith

-- each path of the list as often as it weighs
abbrev pub copies : ℕ → Path → List Path → List Path
copies zero p ps = ps
copies (suc n) p ps = p ∷ copies n p ps

abbrev pub spread : (Path → ℕ) → List Path → List Path
spread f [] = []
spread f (p ∷ ps) = copies (f p) p (spread f ps)

pub copies_long : (n : ℕ) (p : Path) (ps : List Path) → length (copies n p ps) ≡ n + length ps
copies_long zero p ps = omega arith
copies_long (suc n) p ps = let a = copies_long n p ps in omega arith

copies_times : (n : ℕ) (p q : Path) (ps : List Path) → times q ps ≤ times q (copies n p ps)
copies_times zero p q ps = omega arith
copies_times (suc n) p q ps = let a = copies_times n p q ps in omega arith

pub copies_here : (n : ℕ) (p q : Path) (ps : List Path) → p ≡ q → n ≤ times q (copies n p ps)
copies_here zero p q ps e = omega arith
copies_here (suc n) p q ps e = let a = copies_here n p q ps e in let b = one_self q p e in omega arith

spread_long : (f : Path → ℕ) (ps : List Path) → length ps + length (spread f ps) ≡ sum_over (λ p. suc (f p)) ps
spread_long f [] = omega arith
spread_long f (p ∷ ps) = let a = spread_long f ps in let b = copies_long (f p) p (spread f ps) in omega arith

pub spread_times : (f : Path → ℕ) (q : Path) (ps : List Path) → 0 < times q ps → f q ≤ times q (spread f ps)
spread_times f q [] h = absurd (omega arith)
spread_times f q (p ∷ ps) h = go (same_path q p) refl (spread_times f q ps)
  where
    go : (b : Bool) → same_path q p ≡ b → (0 < times q ps → f q ≤ times q (spread f ps)) → f q ≤ times q (spread f (p ∷ ps))
    go true e rest = let is = same_is q p e in let a = copies_here (f p) p q (spread f ps) (sym is) in
        let b : f q ≡ f p = ap f is in omega arith
    go false e rest = let o : one_if (same_path q p) ≡ 0 = ap one_if e in let a = rest (omega arith) in
        let b = copies_times (f p) p q (spread f ps) in omega arith

pub spread_both : (f g : Path → ℕ) (ps : List Path) → length (spread f ps) + length (spread g ps) ≡ sum_over (λ p. f p + g p) ps
spread_both f g [] = omega arith
spread_both f g (p ∷ ps) = let a = spread_both f g ps in let b = copies_long (f p) p (spread f ps) in
    let c = copies_long (g p) p (spread g ps) in omega arith

pub spread_one : (f : Path → ℕ) (ps : List Path) → length (spread f ps) ≡ sum_over f ps
spread_one f [] = refl
spread_one f (p ∷ ps) = let a = spread_one f ps in let b = copies_long (f p) p (spread f ps) in omega arith

copies_most : (n : ℕ) (p q : Path) (ps : List Path) → n ≤ 1 → times q (copies n p ps) ≤ one_if (same_path q p) + times q ps
copies_most zero p q ps h = omega arith
copies_most (suc zero) p q ps h = omega arith
copies_most (suc (suc n)) p q ps h = absurd (omega arith)

pub spread_most : (f : Path → ℕ) (q : Path) (ps : List Path) → ((p : Path) → f p ≤ 1) → times q (spread f ps) ≤ times q ps
spread_most f q [] h = omega arith
spread_most f q (p ∷ ps) h = let a = spread_most f q ps h in let b = copies_most (f p) p q (spread f ps) (h p) in omega arith

copies_none : (n : ℕ) (p q : Path) (ps : List Path) → one_if (same_path q p) ≡ 0 → times q (copies n p ps) ≡ times q ps
copies_none zero p q ps e = refl
copies_none (suc n) p q ps e = let a = copies_none n p q ps e in omega arith

-- a path that weighs nothing is not there
pub spread_none : (f : Path → ℕ) (q : Path) (ps : List Path) → f q ≡ 0 → times q (spread f ps) ≡ 0
spread_none f q [] h = refl
spread_none f q (p ∷ ps) h = go (spread_none f q ps h) (same_path q p) refl
  where
    go : times q (spread f ps) ≡ 0 → (b : Bool) → same_path q p ≡ b → times q (spread f (p ∷ ps)) ≡ 0
    go none_there true e = ap (λ n. times q (copies n p (spread f ps))) (ap f (sym (same_is q p e)) ∙ h) ∙ none_there
    go none_there false e = copies_none (f p) p q (spread f ps) (ap one_if e) ∙ none_there

whole_most : (j : Job) → one_if_whole j ≤ 1
whole_most (Whole call) = omega arith
whole_most (Index call i) = omega arith

-- so many numbers were drawn as the reference run has tasks, at most
pub drawn_within : (j : Setup) (lies : Lies) (s : State Slots View) → Facts j lies s
    → word_at (layout_of j) s.words drawn_at ≤ length (tasks_of j.program (the_run j).entries)
drawn_within j lies s f =
    let a = as_long (all_of mine_list s.views) (spread one paths) published in
    let b = all_long mine_list s.views in
    let c = as_long (all_of hands_list s.views) (spread next paths) drawn in
    let d = all_long hands_list s.views in
    let e = spread_both one next paths in
    let t = tasks_weigh j.program (the_run j).entries in
    let g = run_weighs (machine_of j.program) is_task (rights_in j.program) levels main_placed (opened_with j.program.families j.input)
    (core_of j lies (elements (layout_of j) s.words)) f.core.lawful in
    let h = weigh_both (λ (v : View). length v.region.mine) (λ (v : View). length v.draws.hands) s.views in
    let i = same_mine s.views in
    let k = f.drawn.count in omega arith
  where
    paths : List Path
    paths = all_paths levels (counts_of j lies)

    one : Path → ℕ
    one p = is_task (get_of j lies p).call

    next : Path → ℕ
    next p = next_weight (machine_of j.program) is_task (left (machine_of j.program) (get_of j lies p))

    same_mine : (views : List View) → weigh (λ (v : View). length (mine_list v)) views ≡ weigh (λ (v : View). length v.region.mine) views
    same_mine [] = refl
    same_mine (v ∷ vs) = let a = map_long spot_path v.region.mine in let b = same_mine vs in omega arith

    none_or : (o : Option Lie) → (o ≡ none) ⊎ ((t : Lie) × (o ≡ some t))
    none_or none = inl refl
    none_or (some t) = inr (t, refl)

    once : (p : Path) (t : Lie) → lies p ≡ some t → times p paths ≡ 1
    once p t e = elim (stands levels (counts_of j lies) p) [ inl h ↦ h.1 | inr h ↦ absurd (h.0 (f.core.there p t e)) ]

    published : (p : Path) → times p (all_of mine_list s.views) ≤ times p (spread one paths)
    published p = elim (none_or (lies p)) [
      | inl e ↦ (let a = all_times mine_list s.views p in let b = f.counts.mine p in
          let c : tally is_there (lies p) ≡ 0 = ap (tally is_there) e in omega arith)
      | inr e ↦ (let a = all_times mine_list s.views p in let b = f.counts.mine p in
          let c : tally is_there (lies p) ≡ 1 = ap (tally is_there) e.1 in let d = once p e.0 e.1 in
          let k : one p ≡ 1 = ap (λ (z : Task (machine_of j.program)). is_task z.call) (get_at j lies p e.0 e.1) in
          let g = spread_times one p paths (omega arith) in omega arith)
    ]

    drawn : (p : Path) → times p (all_of hands_list s.views) ≤ times p (spread next paths)
    drawn p = elim (none_or (lies p)) [
      | inl e ↦ (let a = all_times hands_list s.views p in let b = f.drawn.hands p in
          let c : waiting j p (lies p) ≡ 0 = ap (waiting j p) e in omega arith)
      | inr e ↦ (let a = all_times hands_list s.views p in let b = f.drawn.hands p in
          let c : waiting j p (lies p) ≡ next p = ap (waiting j p) e.1 ∙ ap
          (λ (z : Task (machine_of j.program)). next_weight (machine_of j.program) is_task (left (machine_of j.program) z))
          (sym (get_at j lies p e.0 e.1)) in
          let d = once p e.0 e.1 in let g = spread_times next p paths (omega arith) in omega arith)
    ]

-- and with main finished just so many, and none of them in hand
pub counted : (j : Setup) (lies : Lies) (s : State Slots View) → Facts j lies s
    → (the_run j).entries ≡ map (λ p. entry_of (machine_of j.program) (get_of j lies p)) (all_paths levels (counts_of j lies))
    → (word_at (layout_of j) s.words drawn_at ≡ length (tasks_of j.program (the_run j).entries))
    × (weigh (λ (v : View). length v.draws.hands) s.views ≡ 0)
counted j lies s f run =
    let a = drawn_within j lies s f in
    let b = as_long (spread one paths) (all_of mine_list s.views) published in
    let c = all_long mine_list s.views in
    let d = same_mine s.views in
    let n = spread_one one paths in
    let h = weigh_both (λ (v : View). length v.region.mine) (λ (v : View). length v.draws.hands) s.views in
    let t = tasks_weigh j.program (the_run j).entries in
    let e = ap (λ (es : List (Entry (machine_of j.program))). weight_of (machine_of j.program) is_task es) run in
    let g = weight_mapped (machine_of j.program) is_task (λ p. entry_of (machine_of j.program) (get_of j lies p)) paths in
    let k = f.drawn.count in (omega arith, omega arith)
  where
    paths : List Path
    paths = all_paths levels (counts_of j lies)

    same_mine : (views : List View) → weigh (λ (v : View). length (mine_list v)) views ≡ weigh (λ (v : View). length v.region.mine) views
    same_mine [] = refl
    same_mine (v ∷ vs) = let a = map_long spot_path v.region.mine in let b = same_mine vs in omega arith

    one : Path → ℕ
    one p = is_task (get_of j lies p).call

    published : (p : Path) → times p (spread one paths) ≤ times p (all_of mine_list s.views)
    published p = let m = spread_most one p paths (λ z. whole_most (get_of j lies z).call.job) in elim
        (stands levels (counts_of j lies) p) [
          | inl h ↦ of_known (lies p) refl (f.core.all p h.0) (let d = h.1 in omega arith)
          | inr h ↦ (let d = h.1 in omega arith)
        ]
      where
        -- a task was published, and an index is none
        of_known : (o : Option Lie) → lies p ≡ o → IsKnown j lies p → times p (spread one paths) ≤ 1
            → times p (spread one paths) ≤ times p (all_of mine_list s.views)
        of_known (some t) e known once = let a = all_times mine_list s.views p in let b = f.counts.mine p in
            let c : tally is_there (lies p) ≡ 1 = ap (tally is_there) e in omega arith
        of_known none e (inl (t, is)) once = absurd (some-ne-none t (sym is ∙ e))
        of_known none e (inr (t, x, is, at_index)) once =
            let a : one p ≡ 0 = ap (λ (z : Task (machine_of j.program)). is_task z.call) (get_none j lies p e
            ∙ (ap (index_in j (parent_of p) (number_of p)) is ∙ ap (index_of j (parent_of p) t.berth.call (number_of p)) at_index)) in
            let b = spread_none one p paths a in omega arith

-- so a count over the limit shows that the reference run has more tasks
pub over_limit : (j : Setup) (lies : Lies) (s : State Slots View) → Facts j lies s → TASKS < word_at (layout_of j) s.words drawn_at
    → TASKS < length (tasks_of j.program (the_run j).entries)
over_limit j lies s f h = let a = drawn_within j lies s f in omega arith

-- all seats together began no more tasks than numbers were drawn: so each of them, and with it the numbers of its frames, has a bound
pub begun_few : (j : Setup) (lies : Lies) (s : State Slots View) → Facts j lies s → (id : ℕ) (v : View) → get_elem? s.views id ≡ some v
    → length v.tasks.running + (length v.tasks.halted + length v.tasks.ran) ≤ TASKS + j.workers
begun_few j lies s f id v at =
    let a = as_long (all_of begun_list s.views) (all_of mine_list s.views) (λ p. let x = all_times begun_list s.views p in
    let y = all_times mine_list s.views p in let z = same_begun p s.views in let c = f.counts.begun p in let d = f.counts.mine p in
    let e = begun_there (lies p) in omega arith) in
    let b = all_long begun_list s.views in
    let c = all_long mine_list s.views in
    let d = weigh_one (λ (x : View). length (begun_list x)) s.views id v at in
    let e = begun_long v in
    let g = weigh_less (λ (x : View). length (mine_list x)) (λ (x : View). length x.region.mine + length x.draws.hands) s.views
    (λ k x _. let m = map_long spot_path x.region.mine in omega arith) in
    let h = f.drawn.count in
    let k = f.drawn.bound in
    let m = weigh_less (λ (x : View). x.draws.over) (λ (x : View). x.parts) s.views f.drawn.overs in
    let n = f.counts.parts in omega arith
  where
    same_begun : (p : Path) (views : List View) → weigh (λ (x : View). times p (begun_list x)) views ≡ weigh
        (λ (x : View). begun_in x p) views
    same_begun p [] = refl
    same_begun p (x ∷ xs) = let a = begun_times p x in let b = same_begun p xs in omega arith

    begun_one : (x : Stage) → is_begun x ≤ 1
    begun_one Waits = omega arith
    begun_one (Promised k) = omega arith
    begun_one (Posted k) = omega arith
    begun_one (Given k) = omega arith
    begun_one (Runs k) = omega arith
    begun_one (Loops k) = omega arith
    begun_one Done = omega arith
    begun_one Gone = omega arith

    begun_there : (x : Option Lie) → tally is_begun x ≤ tally is_there x
    begun_there none = omega arith
    begun_there (some t) = begun_one t.stage

-- a draw for the next fork of a body that runs: a fetch
pub draws : (opening : List ℕ) (slots id : ℕ) (me : Me Slots View) (j : Setup) (e : Execution) (rest : List Execution) (c : Placed)
    (code : Code (machine_of j.program)) (i : ℕ) → me.0.setup ≡ Some j → 0 < me.0.parts → me.0.tasks.running ≡ e ∷ rest
    → left (machine_of j.program) (task_in j e) ≡ Fork c code → (call : CallTree) → c.job ≡ Whole call → me.0.draws.hands ≡ []
    → me.0.draws.over ≡ 0 → i ≡ place (layout_of j) drawn_at
    → Allows (Holds opening) slots id me i (λ n. (n + 1) % 2 ^ 64) (Tells (Draws e) (step slots i 1 0 none) me)
draws opening slots id me j e rest c code i setup live runs next call call_is no_hands none_over i_is s h _ at _ = go
    (below_or (suc n) TASKS)
  where
    v : View
    v = me.0

    there_is : (lies : Lies) × Facts j lies s
    there_is = inside opening s j id me.0 h at live setup

    lies : Lies
    lies = there_is.0

    f : Facts j lies s
    f = there_is.1

    n : ℕ
    n = slice_index s.words i

    n_is : word_at (layout_of j) s.words drawn_at ≡ n
    n_is = ap (slice_index s.words) (sym i_is)

    bounded : n ≤ TASKS + j.workers
    bounded = let a = f.drawn.bound in let d = weigh_less (λ (x : View). x.draws.over) (λ (x : View). x.parts) s.views f.drawn.overs in
        let e = f.counts.parts in let g = n_is in omega arith

    wraps_not : (n + 1) % 2 ^ 64 ≡ n + 1
    wraps_not = let a = bounded in let b = f.crew in omega arith

    ws' : List ℕ
    ws' = set s.words (place (layout_of j) drawn_at) (n + 1)

    now : word_at (layout_of j) ws' drawn_at ≡ n + 1
    now = shelf.here (layout_of j) s.words drawn_at (n + 1) tt f.words.wide

    plain : e.looping ≡ false
    plain = plain_at_fork j lies s f id v at e (at_head v e rest runs) c code next

    waits_one : waiting j e.spot.path (lies e.spot.path) ≡ 1
    waits_one = ap (waiting j e.spot.path) (head_is j lies s f id v at live e rest runs plain) ∙
        (ap (λ (z : Task (machine_of j.program)). next_weight (machine_of j.program) is_task (left (machine_of j.program) z))
        (head_task j lies s f id v at live e rest runs plain) ∙ (ap (next_weight (machine_of j.program) is_task) next
        ∙ ap one_if_whole call_is))

    -- no other seat drew for this body
    nobody : weigh (λ (x : View). drawn_in x e.spot.path) s.views ≡ 0
    nobody = weigh_none (λ (x : View). drawn_in x e.spot.path) s.views (λ k x d. elim (zero_or (drawn_in x e.spot.path)) [
      | inl z ↦ z
      | inr some_there ↦ (elim (listed.one_or k id) [
        | inl same_seat ↦ (let x_is : x ≡ v = some-injective x v (sym d ∙ (ap (get_elem? s.views) same_seat ∙ at)) in
            let a = ap (λ (z : View). drawn_in z e.spot.path) x_is in
            let g = ap (λ (z : List Path). times e.spot.path z) no_hands in absurd (omega arith))
        | inr other ↦ (let a = f.drawn.begun k x d e.spot.path (times_in e.spot.path x.draws.hands some_there) in
            let b = tally_alone begun_in is_begun lies s.views id v f.counts.begun at e.spot.path k x other d
            (let a = one_begun j lies s f id v at live e rest runs plain in omega arith)
            (head_begun j lies s f id v at live e rest runs plain) in absurd (omega arith))
      ])
    ])

    same_or : (p q : Path) → (p ≡ q) ⊎ (p ≢ q)
    same_or p q = pick (same_path p q) refl
      where
        pick : (b : Bool) → same_path p q ≡ b → (p ≡ q) ⊎ (p ≢ q)
        pick true e = inl (same_is p q e)
        pick false e = inr (same_ne p q e)

    drawn : (o : ℕ) → o ≤ 1 → n + 1 ≤ TASKS + weigh (λ (x : View). x.draws.over) s.views + o → (0 < o → TASKS < n + 1)
        → Drawn j lies ws' (set s.views id (draws_one v e o))
    drawn o most bound cross = let w : View = draws_one v e o in record {
      count = let h = weigh_set (λ (x : View). length x.region.mine + length x.draws.hands) s.views id v w at in
          let k = f.drawn.count in let d = ap (λ (z : List Path). length z) no_hands in let g = now in let u = n_is in omega arith;
      hands = λ p. let h = weigh_set (λ (x : View). drawn_in x p) s.views id v w at in
          let d = ap (λ (z : List Path). times p z) no_hands in let k = f.drawn.hands p in elim (same_or p e.spot.path) [
            | inl g ↦ (let a = one_self p e.spot.path (sym g) in let d : weigh (λ (x : View). drawn_in x p) s.views ≡ 0 = ap
                (λ (z : Path). weigh (λ (x : View). drawn_in x z) s.views) g ∙ nobody in
                let u : waiting j p (lies p) ≡ 1 = ap (λ (z : Path). waiting j z (lies z)) g ∙ waits_one in omega arith)
            | inr g ↦ (let a = one_other p e.spot.path (λ u. g (sym u)) in omega arith)
          ];
      begun = each_view (λ k x. (p : Path) → In p x.draws.hands → 0 < begun_in x p) s.views id w first_in
          (λ k x ne d. f.drawn.begun k x d);
      bound = let h = weigh_set (λ (x : View). x.draws.over) s.views id v w at in let g = now in omega arith;
      overs = each_view (λ k x. x.draws.over ≤ x.parts) s.views id w (omega arith) (λ k x ne d. f.drawn.overs k x d);
      held = each_view (λ k x. x.draws.over ≤ length x.draws.hands) s.views id w (omega arith) (λ k x ne d. f.drawn.held k x d);
      crossed = each_view (λ k x. 0 < x.draws.over → TASKS < word_at (layout_of j) ws' drawn_at) s.views id w
          (λ some_over. let a = now in let d = cross some_over in omega arith) (λ k x ne d some_over. let a = now in let g = n_is in
          let u = f.drawn.crossed k x d some_over in omega arith);
    }
      where
        first_in : (p : Path) → In p (e.spot.path ∷ []) → 0 < begun_in v p
        first_in p here = head_begun j lies s f id v at live e rest runs plain
        first_in p (there i) = elim i [ ]

    done : (o : ℕ) → o ≤ 1 → n + 1 ≤ TASKS + weigh (λ (x : View). x.draws.over) s.views + o → (0 < o → TASKS < n + 1)
        → Facts j lies record { words = ws'; homes = s.homes; views = set s.views id (draws_one v e o) }
    done o most bound cross = aside j lies s f drawn_at tt tt (n + 1) (λ k o e. cc) (λ e. cc) (λ d. stop_stays ∙ d) id v at live v.seen.stop
        (draws_one v e o).draws (drawn o most bound cross)
        (record {
          word = elim f.stopped.word [
            | inl z ↦ inl (stop_stays ∙ z)
            | inr u ↦ inr (
              stop_stays ∙ u.0,
              elim u.1 [
                | inl tasks ↦ inl (let b = now in let g = n_is in omega arith)
                | inr indexes ↦ inr (let b : word_at (layout_of j) ws' positions_at ≡ word_at (layout_of j) s.words positions_at
                    = shelf.else (layout_of j) s.words drawn_at positions_at (n + 1) tt tt (λ e. cc) in omega arith)
              ],
            )
          ];
        })
        (λ d. stop_stays ∙ (f.fits id v at).stop d)
      where
        stop_stays : word_at (layout_of j) ws' stop_at ≡ word_at (layout_of j) s.words stop_at
        stop_stays = shelf.else (layout_of j) s.words drawn_at stop_at (n + 1) tt tt (λ e. cc)

    Goal : Type 0
    Goal = (u : View) × (a : Rattle.atomic_table.specs.Table.Act Slots) × Rattle.atomic_table.specs.Table.Valid s.homes me.1 a
        × Holds opening (stepped s i ((n + 1) % 2 ^ 64) id me.1 u a)
        × Tells (Draws e) (step slots i 1 0 none) me n (u, Rattle.atomic_table.specs.Table.carried_after me.1 a)

    holds : (o : ℕ) → Facts j lies record { words = ws'; homes = s.homes; views = set s.views id (draws_one v e o) }
        → Holds opening (stepped s i ((n + 1) % 2 ^ 64) id me.1 (draws_one v e o) keeps)
    holds o g = holds_so opening _ j lies (subst
        (λ (z : ℕ × ℕ). Facts j lies record { words = set s.words z.0 z.1; homes = s.homes; views = set s.views id (draws_one v e o) })
        (λ k. (sym i_is k, sym wraps_not k)) g)

    go : (suc n ≤ TASKS) ⊎ (TASKS < suc n) → Goal
    go (inl less) = (
      draws_one v e 0,
      keeps,
      tt,
      holds 0 (done 0 (omega arith) (omega arith) (λ z. absurd (omega arith))),
      (inl (less, refl), refl),
    )
    go (inr more) = (
      draws_one v e 1,
      keeps,
      tt,
      holds 1 (done 1 (omega arith) (let a = f.drawn.bound in let e = n_is in omega arith)
          (λ z. omega arith)),
      (inr (more, refl), refl),
    )
