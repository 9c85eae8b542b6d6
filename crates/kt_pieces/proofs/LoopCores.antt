-- A loop of which one index changes, and the core that this is.
use Rattle.std.proofs.Common.{◌≡◌, ◌≢◌, ℕ, ◌⊎◌, Bool, true, false, cond, List, sym, refl, ap, ◌∙◌, subst, inl, inr}
use mathlib.Core.Option as o
use mathlib.Core.Option.{none, some, some-injective, some-ne-none}
use lib.ListN.{get_elem?}
use mathlib.Core.Path.{fun_ext}
use Rattle.kt_order.specs.Machine.{Machine}
use Rattle.kt_order.specs.Forest.{Task}
use Rattle.kt_order.specs.Rest.{standing}
use Rattle.kt_order.specs.Lawful.{Lawful}
use Rattle.kt_order.specs.Paths.{same_path, set_at, IsThere}
use Rattle.kt_order.specs.Named.{named, count_of, forks_in}
use Rattle.kt_order.proofs.Squares.{count_kept}
use Rattle.kt_prog.specs.Reference.{Placed, machine_of, main_placed, opened_with}
use Rattle.kt_runs.specs.Rights.{rights_in}
use Rattle.kt_runs.specs.ByPath.{Path, child, levels}
use Rattle.kt_rule.specs.declared.views.Setup.{Setup}
use Rattle.kt_rule.specs.Paths.{parent_of, number_of, put}
use Rattle.kt_rule.specs.Lies.{IndexLie, Lie, Lies, index_of, index_in, task_of, get_of, counts_of, Cored}
use Rattle.kt_rule.proofs.Puts.{put_here, put_else, put_cases, at_put, get_at, get_none, get_child, parent_is, number_is, same_is, same_ne}
use Rattle.kt_rule.proofs.Cores.{not_child, last_of, set_self}
use Rattle.kt_pieces.proofs.Changed.{one_or}

pub put_twice : {A : Type 0} (f : Path → A) (p : Path) (x y : A) → put (put f p x) p y ≡ put f p y
unfolding put
put_twice f p x y = fun_ext (λ q. go q (same_path q p))
  where
    go : (q : Path) (b : Bool) → cond b y (cond b x (f q)) ≡ cond b y (f q)
    go q true = refl
    go q false = refl

-- a path right below another is one of its children
below_is : (p q : Path) → p ≡ parent_of q → q ≢ p → q ≡ child p (number_of q)
below_is p q e ne = elim (last_of q) [
  | inl none_left ↦ absurd (ne (none_left ∙ sym (e ∙ ap parent_of none_left)))
  | inr h ↦
      (let above : p ≡ h.0 = e ∙ (ap parent_of h.2 ∙ parent_is h.0 h.1) in
      let number : number_of q ≡ h.1 = ap number_of h.2 ∙ number_is h.0 h.1 in
      h.2 ∙ (λ k. child (sym above k) (sym number k)))
]

-- the task and its other indexes are as they were
pub record TurnsIndex (t u : Lie) (i : ℕ) (y : IndexLie) : Type 0 where
  pub berth : u.berth ≡ t.berth
  pub here : get_elem? u.indexes i ≡ some y
  pub others : (k : ℕ) → k ≢ i → get_elem? u.indexes k ≡ get_elem? t.indexes k

module _ (j : Setup) (lies : Lies) (store : List ℕ) (c : Cored j lies store) (p : Path) (t : Lie) (is : lies p ≡ some t) (u : Lie) where
  abbrev m : Machine
  m = machine_of j.program

  abbrev T : Type 0
  T = Task (machine_of j.program)

  abbrev lies' : Lies
  lies' = put lies p (some u)

  abbrev LawfulAt : (Path → Task (machine_of j.program)) → List ℕ → Type 0
  LawfulAt get s = Lawful m (rights_in j.program) main_placed (opened_with j.program.families j.input)
      (named m levels (record { get = get; store = s }))

  abbrev kids : Task (machine_of j.program) → List Placed
  kids v = forks_in m (standing m v)

  -- what is said of an index of the one task is said of an index of the other
  abbrev pub Has : Lie → Lie → Type 0
  Has a b = (k : ℕ) (w : IndexLie) → get_elem? a.indexes k ≡ some w → (v : IndexLie) × (get_elem? b.indexes k ≡ some v)

  pub still_there : (q : Path) → (y : Lie) × (lies q ≡ some y) → (y : Lie) × (lies' q ≡ some y)
  still_there q old = elim (put_cases lies p (some u) q) [ inl g ↦ (u, g.1) | inr g ↦ (old.0, g.1 ∙ old.1) ]

  pub parents_stay : (q : Path) (i : ℕ) (y : Lie) → lies' (child q i) ≡ some y → (z : Lie) × (lies' q ≡ some z)
  parents_stay q i y d = still_there q (elim (at_put lies p (child q i) u y d) [
    | inl g ↦ c.parents q i t (ap lies (sym g.0) ∙ is)
    | inr g ↦ c.parents q i y g.1
  ])

  -- an index that was there
  pub index_stays : Has t u → (q : Path) (y : Lie) (x : IndexLie) → lies (parent_of q) ≡ some y → get_elem? y.indexes (number_of q) ≡ some x
      → (z : Lie) × (w : IndexLie) × (lies' (parent_of q) ≡ some z) × (get_elem? z.indexes (number_of q) ≡ some w)
  index_stays on q y x y_is at = elim (put_cases lies p (some u) (parent_of q)) [
    | inl g ↦
        (let e : y ≡ t = some-injective y t (sym y_is ∙ (ap lies (sym g.0) ∙ is)) in
        let w = on (number_of q) x (ap (λ (z : Lie). get_elem? z.indexes (number_of q)) (sym e) ∙ at) in
        (u, w.0, g.1, w.1))
    | inr g ↦ (y, x, g.1 ∙ y_is, at)
  ]

  -- no child has come, and the indexes of the two have the same numbers
  pub turned : (store' : List ℕ) → counts_of j lies' ≡ counts_of j lies → Has t u → Has u t → LawfulAt (get_of j lies') store'
      → Cored j lies' store'
  turned store' counts_same on back h = record {
    lawful = h;
    there = λ q y d. subst (λ (n : Path → ℕ). IsThere levels n q) (sym counts_same)
        (elim (at_put lies p q u y d) [ inl g ↦ c.there q t (ap lies (sym g.0) ∙ is) | inr g ↦ c.there q y g.1 ]);
    parents = parents_stay;
    index_there = λ q y i x d at. subst (λ (n : Path → ℕ). IsThere levels n (child q i)) (sym counts_same)
        (elim (at_put lies p q u y d) [
          | inl g ↦ (let w = back i x (ap (λ (z : Lie). get_elem? z.indexes i) g.1 ∙ at) in
              c.index_there q t i w.0 (ap lies (sym g.0) ∙ is) w.1)
          | inr g ↦ c.index_there q y i x g.1 at
        ]);
    all = λ q d. elim (c.all q (subst (λ (n : Path → ℕ). IsThere levels n q) counts_same d)) [
      | inl old ↦ inl (still_there q old)
      | inr (y, x, y_is, at) ↦ inr (index_stays on q y x y_is at)
    ];
  }

  pub own_get : get_of j lies' p ≡ task_of j p u
  own_get = get_at j lies' p u (put_here lies p (some u))

  module _ (bare : (i : ℕ) → lies (child p i) ≡ none) where
    pub bare_still : (i : ℕ) → lies' (child p i) ≡ none
    bare_still i = put_else lies p (some u) (child p i) (not_child p i) ∙ bare i

    pub index_got : (i : ℕ) (x : IndexLie) → get_elem? t.indexes i ≡ some x
        → get_of j lies (child p i) ≡ index_of j p t.berth.call i (some x)
    index_got i x at = get_child j lies p i (bare i) ∙ (ap (index_in j p i) is ∙ ap (index_of j p t.berth.call i) at)

    module _ (i : ℕ) (y : IndexLie) (turn : TurnsIndex t u i y) where
      abbrev now : Task (machine_of j.program)
      now = index_of j p t.berth.call i (some y)

      new_index : get_of j lies' (child p i) ≡ now
      new_index = get_child j lies' p i (bare_still i) ∙ (ap (index_in j p i) (put_here lies p (some u))
          ∙ (λ k. index_of j p (turn.berth k).call i (turn.here k)))

      other_index : (q : Path) → p ≡ parent_of q → q ≢ p → q ≢ child p i
          → index_in j (parent_of q) (number_of q) (some u) ≡ index_in j (parent_of q) (number_of q) (some t)
      other_index q above ne other =
          let number : number_of q ≢ i = λ e. other (below_is p q above ne ∙ ap (child p) e) in
          λ k. index_of j (parent_of q) (turn.berth k).call (number_of q) (turn.others (number_of q) number k)

      other_get : (q : Path) → q ≢ child p i → q ≢ p → get_of j lies' q ≡ get_of j lies q
      other_get q other ne = go (lies q) refl
        where
          same : lies' q ≡ lies q
          same = put_else lies p (some u) q (λ e. ne (sym e))

          above : (h : (p ≡ parent_of q) × (lies' (parent_of q) ≡ some u) ⊎ (p ≢ parent_of q) × (lies' (parent_of q) ≡ lies (parent_of q)))
              → index_in j (parent_of q) (number_of q) (lies' (parent_of q)) ≡ index_in j (parent_of q) (number_of q) (lies (parent_of q))
          above (inl g) = ap (index_in j (parent_of q) (number_of q)) g.1 ∙ (other_index q g.0 ne other
              ∙ ap (index_in j (parent_of q) (number_of q)) (sym (ap lies (sym g.0) ∙ is)))
          above (inr g) = ap (index_in j (parent_of q) (number_of q)) g.1

          go : (z : o.Option Lie) → lies q ≡ z → get_of j lies' q ≡ get_of j lies q
          go (some z) e = get_at j lies' q z (same ∙ e) ∙ sym (get_at j lies q z e)
          go none e = get_none j lies' q (same ∙ e) ∙ (above (put_cases lies p (some u) (parent_of q)) ∙ sym (get_none j lies q e))

      -- the core of the changed lies is the core with the task and the index changed
      pub index_get : get_of j lies' ≡ set_at (child p i) now (set_at p (task_of j p u) (get_of j lies))
      index_get = fun_ext (λ q. go q (same_path q (child p i)) (same_path q p) refl refl)
        where
          go : (q : Path) (a b : Bool) → same_path q (child p i) ≡ a → same_path q p ≡ b
              → get_of j lies' q ≡ cond a now (cond b (task_of j p u) (get_of j lies q))
          go q true b ea eb = ap (get_of j lies') (same_is q (child p i) ea) ∙ new_index
          go q false true ea eb = ap (get_of j lies') (same_is q p eb) ∙ own_get
          go q false false ea eb = other_get q (same_ne q (child p i) ea) (same_ne q p eb)

      pub has_on : Has t u
      has_on k w at = elim (one_or k i) [
        | inl e ↦ (y, ap (get_elem? u.indexes) e ∙ turn.here)
        | inr ne ↦ (w, turn.others k ne ∙ at)
      ]

      module _ (x : IndexLie) (at : get_elem? t.indexes i ≡ some x) (task_same : task_of j p u ≡ task_of j p t) where
        pub has_back : Has u t
        has_back k w d = elim (one_or k i) [
          | inl e ↦ (x, ap (get_elem? t.indexes) e ∙ at)
          | inr ne ↦ (w, sym (turn.others k ne) ∙ d)
        ]

        pub one_get : get_of j lies' ≡ set_at (child p i) now (get_of j lies)
        one_get = index_get ∙ ap (set_at (child p i) now) (ap (λ (z : T). set_at p z (get_of j lies))
            (task_same ∙ sym (get_at j lies p t is)) ∙ set_self p (get_of j lies))

        -- the index becomes what an event makes of it
        pub becomes : (h : T → T) → now ≡ h (index_of j p t.berth.call i (some x))
            → get_of j lies' ≡ set_at (child p i) (h (get_of j lies (child p i))) (get_of j lies)
        becomes h e = one_get ∙ ap (λ (z : T). set_at (child p i) z (get_of j lies)) (e ∙ ap h (sym (index_got i x at)))

        -- its children are as they were
        pub index_turns : (h : T → T) (store' : List ℕ) → now ≡ h (index_of j p t.berth.call i (some x))
            → kids (h (get_of j lies (child p i))) ≡ kids (get_of j lies (child p i))
            → LawfulAt (set_at (child p i) (h (get_of j lies (child p i))) (get_of j lies)) store' → Cored j lies' store'
        index_turns h store' e same_kids lawful = turned store'
            (ap (count_of m) (becomes h e) ∙ count_kept m (get_of j lies) (child p i) (h (get_of j lies (child p i))) same_kids)
            has_on has_back (subst (λ (g : Path → T). LawfulAt g store') (sym (becomes h e)) lawful)
