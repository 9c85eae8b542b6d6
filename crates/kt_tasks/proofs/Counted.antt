-- What a draw tells of its seat: how many numbers there are at most, and that a number below the limit has a record.
use Rattle.std.proofs.Common.{◌≡◌, ℕ, zero, suc, ◌+◌, ◌<◌, ◌≤◌, Bool, true, false, List, [], ◌∷◌, ◌++◌, map, length, sym, refl, ap, ◌∙◌, subst, inl, inr, arith, Some}
use Rattle.std.proofs.lemmas.List.{length-append}
use mathlib.Core.Option.{some, some-injective, some-ne-none}
use lib.ListN.{get_elem?}
use Rattle.atomic_table.specs.Table.{State}
use Rattle.kt_order.specs.Body.{Fork}
use Rattle.kt_order.specs.Machine.{Code}
use Rattle.kt_order.specs.Rest.{left}
use Rattle.kt_order.specs.Paths.{same_path}
use Rattle.kt_order.proofs.ByPaths.{at_path}
use Rattle.kt_order.proofs.Changes.{forked_fits}
use Rattle.kt_prog.specs.Calls.{CallTree, Whole}
use Rattle.kt_prog.specs.Fits.{Fits, FitsJob}
use Rattle.kt_prog.specs.Reference.{Placed, machine_of, main_placed, opened_with}
use Rattle.kt_runs.specs.Rights.{rights_in}
use Rattle.kt_runs.specs.ByPath.{Path, child, levels}
use Rattle.kt_words.specs.declared.layouts.TheConstants.{RECORDS}
use Rattle.kt_rule.specs.declared.views.Setup.{Setup}
use Rattle.kt_rule.specs.declared.views.Berth.{Berth}
use Rattle.kt_rule.specs.declared.views.Spot.{Spot}
use Rattle.kt_rule.specs.declared.views.Execution.{Execution}
use Rattle.kt_rule.specs.declared.views.View.{View}
use Rattle.kt_rule.specs.Lists.{weigh, times, one_if, In, here, there}
use Rattle.kt_rule.specs.Lies.{Lie, Lies, get_of, core_of}
use Rattle.kt_rule.specs.Records.{layout_of, word_at, elements, drawn_at}
use Rattle.kt_rule.specs.Views.{spot_path, mine_in, frames, roots, children}
use Rattle.kt_rule.specs.Facts.{is_there, tally, task_in, Owns}
use Rattle.kt_rule.specs.Rule.{Slots, Facts}
use Rattle.kt_rule.proofs.Moves.{at_below}
use Rattle.kt_rule.proofs.Puts.{get_at, same_is}
use Rattle.kt_rule.proofs.Sums.{weigh_one, times_append, times_in, map_long}
use Rattle.kt_steps.proofs.Drawing.{as_long, begun_few, weigh_less, zero_or}
use Rattle.kt_steps.proofs.Steps.{at_head, plain_at_fork, head_is, head_task}
use Rattle.kt_tasks.specs.Claims.{AreFew}
use Rattle.kt_tasks.specs.Publications.{AreCounted}

the_some : {X : Type 0} → {x y : X} → Some x ≡ Some y → x ≡ y
the_some h = cc

pub few_there : (j : Setup) (lies : Lies) (s : State Slots View) → Facts j lies s → (id : ℕ) (v : View) → get_elem? s.views id ≡ some v
    → AreFew v
few_there j lies s f id v at = let a = begun_few j lies s f id v at in let b = f.crew in omega arith

in_spots : (xs : List Spot) (p : Path) → In p (map spot_path xs) → (k : ℕ) × (m : Spot) × (get_elem? xs k ≡ some m) × (m.path ≡ p)
in_spots [] p h = elim h [ ]
in_spots (x ∷ xs) p here = (0, x, refl, refl)
in_spots (x ∷ xs) p (there h) = let r = in_spots xs p h in (suc r.0, r.1, r.2, r.3)

-- at one place there is so much to spare
weigh_less_at : {A : Type 0} (f g : A → ℕ) (xs : List A) (i : ℕ) (y : A) → ((k : ℕ) (x : A) → get_elem? xs k ≡ some x → f x ≤ g x)
    → get_elem? xs i ≡ some y → weigh f xs + g y ≤ weigh g xs + f y
weigh_less_at f g [] i y h e = absurd (some-ne-none y (sym e))
weigh_less_at f g (x ∷ xs) zero y h e =
    let a = weigh_less f g xs (λ k z. h (suc k) z) in let x_is = some-injective x y e in
    let b : f x ≡ f y = ap f x_is in let c : g x ≡ g y = ap g x_is in omega arith
weigh_less_at f g (x ∷ xs) (suc i) y h e = let a = weigh_less_at f g xs i y (λ k z. h (suc k) z) e in let b = h 0 x refl in omega arith

-- no two places of the list have one path
abbrev Differ : List Spot → Type 0
Differ xs = (a b : ℕ) (m n : Spot) → get_elem? xs a ≡ some m → get_elem? xs b ≡ some n → m.path ≡ n.path → a ≡ b

once_each : (xs : List Spot) → Differ xs → (p : Path) → times p (map spot_path xs) ≤ 1
once_each [] differ p = omega arith
once_each (x ∷ xs) differ p = go (same_path p x.path) refl
    (once_each xs (λ a b m n at_a at_b same. let r = differ (suc a) (suc b) m n at_a at_b same in omega arith) p)
  where
    none_later : p ≡ x.path → times p (map spot_path xs) ≡ 0
    none_later e = elim (zero_or (times p (map spot_path xs))) [
      | inl z ↦ z
      | inr some_there ↦ (let k = in_spots xs p (times_in p (map spot_path xs) some_there) in
          let r = differ 0 (suc k.0) x k.1 refl k.2 (sym e ∙ sym k.3) in absurd (omega arith))
    ]

    go : (b : Bool) → same_path p x.path ≡ b → times p (map spot_path xs) ≤ 1 → times p (map spot_path (x ∷ xs)) ≤ 1
    go true e rest = let a : one_if (same_path p x.path) ≡ 1 = ap one_if e in let z = none_later (same_is p x.path e) in omega arith
    go false e rest = let a : one_if (same_path p x.path) ≡ 0 = ap one_if e in omega arith

-- the tasks that all seats have published, in one list
abbrev gathered : List View → List Path
gathered [] = []
gathered (v ∷ vs) = map spot_path v.region.mine ++ gathered vs

gathered_times : (p : Path) (views : List View) → times p (gathered views) ≡ weigh (λ (v : View). mine_in v p) views
gathered_times p [] = refl
gathered_times p (v ∷ vs) = let a = times_append p (map spot_path v.region.mine) (gathered vs) in
    let b = gathered_times p vs in omega arith

gathered_long : (views : List View) → length (gathered views) ≡ weigh (λ (v : View). length v.region.mine) views
gathered_long [] = refl
gathered_long (v ∷ vs) = let a = length-append (map spot_path v.region.mine) (gathered vs) in
    let b = map_long spot_path v.region.mine in let c = gathered_long vs in omega arith

children_long : (p : Path) (n : ℕ) → length (children p n) ≡ n
children_long p zero = refl
children_long p (suc n) = let a = length-append (children p n) (child p n ∷ []) in let b = children_long p n in omega arith

module _ (j : Setup) (lies : Lies) (s : State Slots View) (f : Facts j lies s) (id : ℕ) (v : View) (at : get_elem? s.views id ≡ some v)
    (live : 0 < v.parts) where
  owns : Owns (layout_of j) lies s.words id v.region v.tasks.running v.tasks.begun
  owns = (f.fits id v at).owns live

  spots_differ : Differ v.region.spots
  spots_differ a b m n at_a at_b same =
      let x = owns.spots a m at_a in let y = owns.spots b n at_b in let t = x.1 in let u = y.1 in
      let one : t.0 ≡ u.0 = some-injective t.0 u.0 (sym t.1 ∙ (ap lies same ∙ u.1)) in
      let berths : m.berth ≡ n.berth = sym t.2 ∙ (ap (λ (z : Lie). z.berth) one ∙ u.2) in
      let places : m.berth.at ≡ n.berth.at = ap (λ (z : Berth). z.at) berths in
      let x0 = x.0 in let y0 = y.0 in omega arith

  mine_drawn : weigh (λ (x : View). length x.region.mine) s.views ≤ word_at (layout_of j) s.words drawn_at
  mine_drawn = let a = f.drawn.count in
      let b = weigh_less (λ (x : View). length x.region.mine) (λ (x : View). length x.region.mine + length x.draws.hands) s.views
      (λ k x d. omega arith) in omega arith

  -- each record of the region is a task's that was published
  spots_few : length v.region.spots ≤ word_at (layout_of j) s.words drawn_at
  spots_few =
      let a = as_long (map spot_path v.region.spots) (gathered s.views) covered in
      let b = map_long spot_path v.region.spots in let c = gathered_long s.views in let d = mine_drawn in omega arith
    where
      covered : (p : Path) → times p (map spot_path v.region.spots) ≤ times p (gathered s.views)
      covered p = elim (zero_or (times p (map spot_path v.region.spots))) [
        | inl z ↦ omega arith
        | inr some_there ↦ (let k = in_spots v.region.spots p (times_in p (map spot_path v.region.spots) some_there) in
            let own = (owns.spots k.0 k.1 k.2).1 in
            let is : tally is_there (lies p) ≡ 1 = ap (tally is_there) (ap lies (sym k.3) ∙ own.1) in
            let a = gathered_times p s.views in let b = f.counts.mine p in
            let c = once_each v.region.spots spots_differ p in omega arith)
      ]

  pub forks_few : (e : Execution) (rest : List Execution) → v.tasks.running ≡ e ∷ rest → e.forks ≤ RECORDS
  forks_few e rest runs =
      let a = owns.stack in let b = owns.room in
      let c : length (frames v.tasks.running) ≡ length (frames rest ++ children e.spot.path e.forks) = ap
      (λ (z : List Execution). length (frames z)) runs in
      let d = length-append (roots id) (frames v.tasks.running) in
      let g = length-append (frames rest) (children e.spot.path e.forks) in
      let h = children_long e.spot.path e.forks in omega arith

  -- what the running body forks next is a call that the program may make
  pub fits_next : (e : Execution) (rest : List Execution) → v.tasks.running ≡ e ∷ rest → (c : Placed) (more : Code (machine_of j.program))
      → left (machine_of j.program) (task_in j e) ≡ Fork c more → (call : CallTree) → c.job ≡ Whole call → Fits j.program call
  fits_next e rest runs c more next call call_is =
      let plain = plain_at_fork j lies s f id v at e (at_head v e rest runs) c more next in
      let is = head_is j lies s f id v at live e rest runs plain in
      at_path (machine_of j.program) levels (rights_in j.program) f.laws main_placed (opened_with j.program.families j.input)
      (Fits j.program call) e.spot.path (core_of j lies (elements (layout_of j) s.words)) (f.core.there e.spot.path _ is) f.core.lawful
      (λ kids ok. subst (FitsJob j.program) call_is
      (forked_fits (machine_of j.program) (rights_in j.program) f.laws c more (get_of j lies e.spot.path) kids
      (ap (left (machine_of j.program)) (get_at j lies e.spot.path _ is)
      ∙ (ap (left (machine_of j.program)) (head_task j lies s f id v at live e rest runs plain) ∙ next)) ok))

  pub counted : (n : ℕ) → n ≡ word_at (layout_of j) s.words drawn_at → v.setup ≡ Some j → AreCounted v n
  counted n n_is told = record {
    few = λ none_over. let a = f.drawn.bound in
        let b = weigh_less_at (λ (x : View). x.draws.over) (λ (x : View). x.parts) s.views id v f.drawn.overs at in
        let c = f.counts.parts in let d = f.crew in omega arith;
    mine = let a = weigh_one (λ (x : View). length x.region.mine) s.views id v at in let b = mine_drawn in omega arith;
    room = λ less. let a = spots_few in omega arith;
    frames = let a = (f.fits id v at).begun in let b = few_there j lies s f id v at in omega arith;
    forks = forks_few;
    crew = λ k k_told. let a : k ≡ j = the_some (sym k_told ∙ told) in
        let b : k.workers ≡ j.workers = ap (λ (z : Setup). z.workers) a in
        let c = (f.fits id v at).own live in let d = at_below s.views id v at in let e = f.counts.few in omega arith;
    fits = λ k k_told. subst (λ (z : Setup). (e : Execution) (rest : List Execution) → v.tasks.running ≡ e ∷ rest
        → (c : Placed) (more : Code (machine_of z.program)) → left (machine_of z.program) (task_in z e) ≡ Fork c more
        → (call : CallTree) → c.job ≡ Whole call → Fits z.program call) (the_some (sym told ∙ k_told)) fits_next;
  }
