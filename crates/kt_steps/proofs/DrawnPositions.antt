-- The count of positions: no more are drawn than the reference run has indexes.
use Rattle.std.proofs.Common.{◌≡◌, ◌≢◌, ℕ, zero, suc, ◌+◌, ◌<◌, ◌≤◌, ◌⊎◌, nat_eq, Bool, true, false, cond, List, [], ◌∷◌, ◌++◌, map, length, sym, refl, ap, ◌∙◌, subst, inl, inr, arith}
use Rattle.std.proofs.lemmas.List.{length-append}
use mathlib.Core.Option.{Option, none, some, some-injective, some-ne-none}
use lib.ListN.{get_elem?}
use Rattle.atomic_table.specs.Table.{State}
use Rattle.kt_law.specs.declared.limits.TheConstants.{INDEXES}
use Rattle.kt_order.specs.Sequential.{Entry}
use Rattle.kt_order.specs.Forest.{Task}
use Rattle.kt_order.specs.Rest.{left}
use Rattle.kt_order.specs.Shown.{entry_of}
use Rattle.kt_order.specs.Paths.{same_path}
use Rattle.kt_order.specs.Listed.{all_paths}
use Rattle.kt_prog.specs.Calls.{Job, Whole, Index}
use Rattle.kt_prog.specs.Entries.{indexes_of as indexes_in}
use Rattle.kt_prog.specs.Reference.{machine_of, main_placed, opened_with}
use Rattle.kt_runs.specs.Rights.{rights_in}
use Rattle.kt_runs.specs.ByPath.{Path, child, levels}
use Rattle.kt_rule.specs.declared.views.Setup.{Setup}
use Rattle.kt_rule.specs.declared.views.Execution.{Execution}
use Rattle.kt_rule.specs.declared.views.Share.{Share}
use Rattle.kt_rule.specs.declared.views.View.{View}
use Rattle.kt_rule.specs.Lists.{weigh, times, one_if, In, here, there}
use Rattle.kt_rule.specs.Weights.{forks_ahead, weight_of, is_index, one_if_index}
use Rattle.kt_rule.specs.Lies.{IndexLie, Lie, Lies, get_of, core_of, counts_of}
use Rattle.kt_rule.specs.Records.{layout_of, word_at, elements, positions_at}
use Rattle.kt_rule.specs.Views.{path_of, executions, indexes_of, share_long, pending_in, children}
use Rattle.kt_rule.specs.Facts.{is_begun, tally, waiting_indexes}
use Rattle.kt_rule.specs.LoopWords.{hand_of, hands_of}
use Rattle.kt_rule.specs.LoopFacts.{over_long}
use Rattle.kt_rule.specs.Rule.{Slots, Facts}
use Rattle.kt_rule.specs.Shown.{find, all_from}
use Rattle.kt_rule.specs.Close.{the_run}
use Rattle.kt_rule.proofs.Puts.{get_at, same_is}
use Rattle.kt_rule.proofs.Sums.{times_snoc, times_append, times_in, times_here, in_append, in_left, in_right, in_cons, one_self}
use Rattle.kt_rule.proofs.Cores.{child_one}
use Rattle.kt_steps.proofs.Weights.{run_weighs_all, weight_mapped, indexes_weigh}
use Rattle.kt_steps.proofs.Listed.{one_or, stands}
use Rattle.kt_steps.proofs.LoopSeats.{weigh_hands}
use Rattle.kt_steps.proofs.Drawing.{weigh_less, weigh_both, zero_or, as_long, copies, spread, copies_long, spread_none, spread_times, spread_both, spread_one, spread_most}
use Rattle.kt_steps.proofs.Indexed.{found_at, found_none, of_whom, all_sum, elem_some, elem_there, begun_most, agrees, begun_all, there_as, index_is, index_begun}

-- CHILDREN OF ONE PATH

children_long : (p : Path) (n : ℕ) → length (children p n) ≡ n
children_long p zero = refl
children_long p (suc n) = let a = length-append (children p n) (child p n ∷ []) in let b = children_long p n in omega arith

children_none : (p : Path) (n i : ℕ) → n ≤ i → times (child p i) (children p n) ≡ 0
children_none p zero i least = refl
children_none p (suc n) i least = let a = times_snoc (child p i) (child p n) (children p n) in
    let b = children_none p n i (omega arith) in let c = apart (same_path (child p i) (child p n)) refl in omega arith
  where
    apart : (b : Bool) → same_path (child p i) (child p n) ≡ b → one_if (same_path (child p i) (child p n)) ≡ 0
    apart true e = absurd (let h = (child_one p p i n (same_is (child p i) (child p n) e)).1 in omega arith)
    apart false e = ap one_if e

children_most : (p q : Path) (i n : ℕ) → times (child p i) (children q n) ≤ one_if (same_path p q)
children_most p q i zero = omega arith
children_most p q i (suc n) = let a = times_snoc (child p i) (child q n) (children q n) in
    go (same_path (child p i) (child q n)) refl a (children_most p q i n)
  where
    go : (b : Bool) → same_path (child p i) (child q n) ≡ b
        → times (child p i) (children q (suc n)) ≡ times (child p i) (children q n) + one_if (same_path (child p i) (child q n))
        → times (child p i) (children q n) ≤ one_if (same_path p q) → times (child p i) (children q (suc n)) ≤ one_if (same_path p q)
    go true e a rest =
        let h = child_one p q i n (same_is (child p i) (child q n) e) in
        let none_before : times (child p i) (children q n) ≡ 0 = ap (λ (z : Path). times (child z i) (children q n)) h.0
        ∙ children_none q n i (let k = h.1 in omega arith) in
        let one = one_self p q (sym h.0) in let b : one_if (same_path (child p i) (child q n)) ≡ 1 = ap one_if e in omega arith
    go false e a rest = let b : one_if (same_path (child p i) (child q n)) ≡ 0 = ap one_if e in omega arith

in_children : (r p : Path) (n : ℕ) → In r (children p n) → (i : ℕ) × (i < n) × (r ≡ child p i)
in_children r p zero h = elim h [ ]
in_children r p (suc n) h = elim (in_append (children p n) (child p n ∷ []) r h) [
  | inl k ↦ (let r = in_children r p n k in let less = r.1 in (r.0, omega arith, r.2))
  | inr k ↦ (elim (in_cons r (child p n) [] k) [ inl e ↦ (n, omega arith, e) | inr g ↦ (elim g [ ]) ])
]

children_here : (p : Path) (i n : ℕ) → i < n → In (child p i) (children p n)
children_here p i zero less = absurd (omega arith)
children_here p i (suc n) less = elim (one_or i n) [
  | inl e ↦ in_right (children p n) (child p n ∷ []) (child p i) (subst (λ (k : ℕ). In (child p i) (child p k ∷ [])) e here)
  | inr d ↦ in_left (children p n) (child p n ∷ []) (child p i) (children_here p i n (omega (arith, d)))
]

-- INDEXES OF ALL LOOPS THAT HAVE BEGUN

abbrev index_paths : List Execution → List Path
index_paths [] = []
index_paths (e ∷ es) = children e.spot.path (indexes_of e) ++ index_paths es

index_long : (es : List Execution) → length (index_paths es) ≡ weigh indexes_of es
index_long [] = refl
index_long (e ∷ es) = let a = length-append (children e.spot.path (indexes_of e)) (index_paths es) in
    let b = children_long e.spot.path (indexes_of e) in let c = index_long es in omega arith

index_most : (p : Path) (i : ℕ) (es : List Execution) → times (child p i) (index_paths es) ≤ times p (map path_of es)
index_most p i [] = omega arith
index_most p i (e ∷ es) = let a = times_append (child p i) (children e.spot.path (indexes_of e)) (index_paths es) in
    let b = children_most p e.spot.path i (indexes_of e) in let c = index_most p i es in omega arith

in_index : (r : Path) (es : List Execution) → In r (index_paths es)
    → (e : Execution) × In e es × ((i : ℕ) × (i < indexes_of e) × (r ≡ child e.spot.path i))
in_index r [] h = elim h [ ]
in_index r (e ∷ es) h = elim (in_append (children e.spot.path (indexes_of e)) (index_paths es) r h) [
  | inl k ↦ (e, here, in_children r e.spot.path (indexes_of e) k)
  | inr k ↦ (let r = in_index r es k in (r.0, there r.1, r.2))
]

index_here : (e : Execution) (i : ℕ) → i < indexes_of e → (es : List Execution) → In e es → In (child e.spot.path i) (index_paths es)
index_here e i less [] h = elim h [ ]
index_here e i less (x ∷ es) here = in_left (children e.spot.path (indexes_of e)) (index_paths es) (child e.spot.path i)
    (children_here e.spot.path i (indexes_of e) less)
index_here e i less (x ∷ es) (there h) = in_right (children x.spot.path (indexes_of x)) (index_paths es) (child e.spot.path i)
    (index_here e i less es h)

-- POSITIONS OF LOOPS THAT HAVE NOT BEGUN

abbrev pending_paths : List Share → List Path
pending_paths [] = []
pending_paths (x ∷ xs) = copies (share_long x) x.spot.path (pending_paths xs)

pending_long : (xs : List Share) → length (pending_paths xs) ≡ weigh share_long xs
pending_long [] = refl
pending_long (x ∷ xs) = let a = copies_long (share_long x) x.spot.path (pending_paths xs) in let b = pending_long xs in omega arith

abbrev long_at : Path → Share → ℕ
long_at q x = cond (same_path q x.spot.path) (share_long x) 0

copies_exact : (n : ℕ) (p q : Path) (ps : List Path) → times q (copies n p ps) ≡ cond (same_path q p) n 0 + times q ps
copies_exact zero p q ps = go (same_path q p)
  where
    go : (b : Bool) → times q ps ≡ cond b 0 0 + times q ps
    go true = omega arith
    go false = omega arith
copies_exact (suc n) p q ps = go (same_path q p) (copies_exact n p q ps)
  where
    go : (b : Bool) → times q (copies n p ps) ≡ cond b n 0 + times q ps
        → one_if b + times q (copies n p ps) ≡ cond b (suc n) 0 + times q ps
    go true e = omega arith
    go false e = omega arith

pending_times : (q : Path) (xs : List Share) → times q (pending_paths xs) ≡ weigh (long_at q) xs
pending_times q [] = refl
pending_times q (x ∷ xs) = let a = copies_exact (share_long x) x.spot.path q (pending_paths xs) in
    let b = pending_times q xs in omega arith

index_one : (j : Job) → one_if_index j ≤ 1
index_one (Whole call) = omega arith
index_one (Index call i) = omega arith

-- WHERE THE RULE HOLDS

module _ (j : Setup) (lies : Lies) (s : State Slots View) (f : Facts j lies s) where
  abbrev paths : List Path
  paths = all_paths levels (counts_of j lies)

  abbrev begun : List Execution
  begun = all_from executions s.views

  abbrev pending : List Share
  pending = all_from (λ (v : View). v.loops.pending) s.views

  abbrev one : Path → ℕ
  one p = is_index (get_of j lies p).call

  abbrev ahead : Path → ℕ
  ahead p = forks_ahead (machine_of j.program) is_index (left (machine_of j.program) (get_of j lies p))

  one_at : (p : Path) (t : Lie) (i : ℕ) (x : IndexLie) → lies p ≡ some t → get_elem? t.indexes i ≡ some x → one (child p i) ≡ 1
  one_at p t i x is at = ap (λ (z : Task (machine_of j.program)). is_index z.call) (index_is j lies s f p t i x is at)

  of_begun : (e : Execution) → In e begun → (t : Lie) × (lies e.spot.path ≡ some t) × (length t.indexes ≡ indexes_of e)
  of_begun e i = let w = of_whom executions s.views e i in let h = agrees j lies s f w.0 w.1 w.2 e w.3 in (h.0, h.1, h.2.indexes)

  begun_few : (p : Path) → times p (map path_of begun) ≤ 1
  begun_few p = let a = begun_all j lies s f p in let b = begun_most (lies p) in omega arith

  -- each index is a path of the run
  forked : (q : Path) → times q (index_paths begun) ≤ times q (spread one paths)
  forked q = elim (zero_or (times q (index_paths begun))) [
    | inl z ↦ (omega arith)
    | inr more ↦ (let k = in_index q begun (times_in q (index_paths begun) more) in
        let w = of_begun k.0 k.1 in
        let e = k.0 in let i = k.2.0 in
        let x = elem_there w.0.indexes i (let a = k.2.1 in let b = w.2 in omega arith) in
        at_child e.spot.path i w.0 x.0 w.1 x.1 q k.2.2)
  ]
    where
      at_child : (p : Path) (i : ℕ) (t : Lie) (x : IndexLie) → lies p ≡ some t → get_elem? t.indexes i ≡ some x → (q : Path) → q ≡ child p i
          → times q (index_paths begun) ≤ times q (spread one paths)
      at_child p i t x is at q q_is = subst (λ (z : Path). times z (index_paths begun) ≤ times z (spread one paths)) (sym q_is)
          (elim (stands levels (counts_of j lies) (child p i)) [
            | inl h ↦ (let a = h.1 in let b = one_at p t i x is at in
                let c = spread_times one (child p i) paths (omega arith) in let d = index_most p i begun in let e = begun_few p in omega arith)
            | inr h ↦ absurd (h.0 (f.core.index_there p t i x is at))
          ])

  -- and each path of an index is among those of loops that have begun
  listed : (q : Path) → times q (spread one paths) ≤ times q (index_paths begun)
  listed q = let most = spread_most one q paths (λ z. index_one (get_of j lies z).call.job) in
      elim (stands levels (counts_of j lies) q) [
        | inr h ↦ (let d = h.1 in omega arith)
        | inl h ↦ (elim (there_as j lies s f q h.0) [
          | inl (t, is) ↦ (let a : one q ≡ 0 = ap (λ (z : Task (machine_of j.program)). is_index z.call) (get_at j lies q t is) in
              let b = spread_none one q paths a in omega arith)
          | inr (p, i, t, x, q_is, is, at) ↦ (let a = among p i t x is at in
              let b = times_here q (index_paths begun) (subst (λ (z : Path). In z (index_paths begun)) (sym q_is) a) in
              let c = h.1 in omega arith)
        ])
      ]
    where
      among : (p : Path) (i : ℕ) (t : Lie) (x : IndexLie) → lies p ≡ some t → get_elem? t.indexes i ≡ some x
          → In (child p i) (index_paths begun)
      among p i t x is at = go (find path_of p begun) refl
        where
          go : (o : Option Execution) → find path_of p begun ≡ o → In (child p i) (index_paths begun)
          go none e = absurd (let a = found_none path_of p begun e in let b = begun_all j lies s f p in
              let c : tally is_begun (lies p) ≡ is_begun t.stage = ap (tally is_begun) is in
              let d = index_begun j lies s f p t i x is at in omega arith)
          go (some e) d = let a = found_at path_of p begun e d in
              let w = of_begun e a.0 in
              let t_is : w.0 ≡ t = some-injective w.0 t (sym w.1 ∙ (ap lies (sym a.1) ∙ is)) in
              let long : length t.indexes ≡ indexes_of e = ap (λ (z : Lie). length z.indexes) (sym t_is) ∙ w.2 in
              let less = elem_some t.indexes i x at in
              subst (λ (z : Path). In (child z i) (index_paths begun)) (sym a.1) (index_here e i (omega arith) begun a.0)

  none_or : (o : Option Lie) → (o ≡ none) ⊎ ((t : Lie) × (o ≡ some t))
  none_or none = inl refl
  none_or (some t) = inr (t, refl)

  -- what is pending is for forks that are next
  awaited : (q : Path) → times q (pending_paths pending) ≤ times q (spread ahead paths)
  awaited q =
      let a = pending_times q pending in let b = all_sum (long_at q) (λ (v : View). v.loops.pending) s.views in
      let c = f.positions.pending q in elim (none_or (lies q)) [
        | inl e ↦ (let d : waiting_indexes j q (lies q) ≡ 0 = ap (waiting_indexes j q) e in omega arith)
        | inr (t, is) ↦ (let d : waiting_indexes j q (lies q) ≡ ahead q = ap (waiting_indexes j q) is ∙ ap
            (λ (z : Task (machine_of j.program)). forks_ahead (machine_of j.program) is_index (left (machine_of j.program) z))
            (sym (get_at j lies q t is)) in elim (stands levels (counts_of j lies) q) [
              | inl h ↦ (let n = h.1 in let g = spread_times ahead q paths (omega arith) in omega arith)
              | inr h ↦ absurd (h.0 (f.core.there q t is))
            ])
      ]

  both : word_at (layout_of j) s.words positions_at ≡ length (index_paths begun) + length (pending_paths pending)
  both = let a = index_long begun in let b = pending_long pending in let c = all_sum indexes_of executions s.views in
      let d = all_sum share_long (λ (v : View). v.loops.pending) s.views in
      let e = weigh_both (λ (v : View). weigh indexes_of (executions v)) (λ (v : View). weigh share_long v.loops.pending) s.views in
      let g = f.positions.count in omega arith

  -- so many positions were drawn as the reference run has indexes, at most
  pub positions_within : word_at (layout_of j) s.words positions_at ≤ length (indexes_in j.program (the_run j).entries)
  positions_within =
      let a = as_long (index_paths begun) (spread one paths) forked in
      let b = as_long (pending_paths pending) (spread ahead paths) awaited in
      let c = both in
      let d = spread_both one ahead paths in
      let e = indexes_weigh j.program (the_run j).entries in
      let g = run_weighs_all (machine_of j.program) is_index (rights_in j.program) levels main_placed (opened_with j.program.families j.input)
      (core_of j lies (elements (layout_of j) s.words)) f.core.lawful in omega arith

  module _ (run : (the_run j).entries ≡ map (λ p. entry_of (machine_of j.program) (get_of j lies p)) (all_paths levels (counts_of j lies))) where
    settled : length (index_paths begun) ≡ length (indexes_in j.program (the_run j).entries)
    settled =
        let a = as_long (index_paths begun) (spread one paths) forked in
        let b = as_long (spread one paths) (index_paths begun) listed in
        let c = spread_one one paths in
        let d = indexes_weigh j.program (the_run j).entries in
        let e = ap (λ (es : List (Entry (machine_of j.program))). weight_of (machine_of j.program) is_index es) run in
        let g = weight_mapped (machine_of j.program) is_index (λ p. entry_of (machine_of j.program) (get_of j lies p)) paths in omega arith

    -- with main finished just so many
    pub positions_counted : word_at (layout_of j) s.words positions_at ≡ length (indexes_in j.program (the_run j).entries)
    positions_counted = let a = settled in let b = both in let c = positions_within in omega arith

    -- and none is pending: so no draw was over the limit
    pub positions_few : word_at (layout_of j) s.words positions_at ≤ INDEXES
    positions_few = let a = settled in let b = both in let c = positions_within in let d = pending_long pending in
        let e = all_sum share_long (λ (v : View). v.loops.pending) s.views in
        let g = weigh_less (λ (v : View). over_long (hand_of v)) (λ (v : View). weigh share_long v.loops.pending) s.views
        (λ k v _. over_less (nat_eq v.loops.over 0) (weigh share_long v.loops.pending)) in
        let h = weigh_hands over_long s.views in
        let k = f.looped.beyond in omega arith
      where
        over_less : (b : Bool) (n : ℕ) → cond b 0 n ≤ n
        over_less true n = omega arith
        over_less false n = omega arith
