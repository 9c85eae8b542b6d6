-- One task changed, as a loop: what the facts of loops say of tasks follows from what they say of this one.
use Rattle.std.proofs.Common.{◌≡◌, ◌≢◌, ℕ, ◌+◌, ◌<◌, ◌≤◌, ◌⊎◌, false, List, [], ◌∷◌, length, sym, refl, ap, ◌∙◌, subst, inl, inr, arith}
use mathlib.Core.Option.{some, some-injective, some-ne-none}
use lib.ListN.{get_elem?}
use Rattle.kt_order.specs.Forest.{Phase}
use Rattle.kt_runs.specs.ByPath.{Path, child}
use Rattle.kt_words.specs.declared.pairs.Pair.{Pair}
use Rattle.kt_rule.specs.declared.views.Berth.{Berth}
use Rattle.kt_rule.specs.declared.views.Share.{Share}
use Rattle.kt_rule.specs.declared.views.IndexRun.{IndexRun}
use Rattle.kt_rule.specs.Paths.{put}
use Rattle.kt_rule.specs.Lists.{weigh}
use Rattle.kt_rule.specs.Lies.{IndexLie, Lie, Lies, is_gone}
use Rattle.kt_rule.specs.LoopWords.{LoopWords, Hand}
use Rattle.kt_rule.specs.LoopFacts.{IsBooked, IsPending, IsPlaced, IsIndex, index_tally, task_tally, retired_of, shown_pieces, count_piece, Looped}
use Rattle.kt_rule.proofs.Puts.{put_cases, at_put}
use Rattle.kt_pieces.proofs.Turns.{Grows, grows_same, AllGrow, shares_with}

pub none_long : {A : Type 0} (xs : List A) → length xs ≡ 0 → xs ≡ []
none_long [] e = refl
none_long (x ∷ xs) e = absurd (omega (arith, e))

pub long_at : {A : Type 0} (xs : List A) (i : ℕ) (x : A) → get_elem? xs i ≡ some x → 0 < length xs
long_at [] i x e = absurd (some-ne-none x (sym e))
long_at (y ∷ xs) i x e = omega arith

module _ (lies : Lies) (p : Path) (t u : Lie) (is : lies p ≡ some t) where
  abbrev lies' : Lies
  lies' = put lies p (some u)

  pub task_is : (q : Path) (y : Lie) → p ≡ q → lies q ≡ some y → y ≡ t
  task_is q y same e = some-injective y t (sym e ∙ (ap lies (sym same) ∙ is))

  pub put_grows : Grows t u → AllGrow lies lies'
  put_grows g q y e = elim (put_cases lies p (some u) q) [
    | inl c ↦ (u, c.1, subst (λ (z : Lie). Grows z u) (sym (task_is q y c.0 e)) g)
    | inr c ↦ (y, c.1 ∙ e, grows_same y y refl)
  ]

  -- positions that are pending stay so
  pub pending_put : u.berth ≡ t.berth → (t.indexes ≡ [] → u.indexes ≡ []) → (owner : ℕ → Path) (drawn : ℕ) (x : Share)
      → IsPending lies owner drawn x → IsPending lies' owner drawn x
  pending_put berth none_yet owner drawn x h = elim (put_cases lies p (some u) x.spot.path) [
    | inl c ↦ (let e = task_is x.spot.path h.task c.0 h.is in record {
      task = u;
      is = c.1;
      berth = berth ∙ (ap (λ (z : Lie). z.berth) (sym e) ∙ h.berth);
      none_yet = none_yet (ap (λ (z : Lie). z.indexes) (sym e) ∙ h.none_yet);
      whole = h.whole;
      counted = h.counted;
      owned = h.owned;
    })
    | inr c ↦ record { task = h.task; is = c.1 ∙ h.is; berth = h.berth; none_yet = h.none_yet; whole = h.whole; counted = h.counted; owned = h.owned }
  ]

  pub placed_put : u.first ≡ t.first → (x : Share) → IsPlaced lies x → IsPlaced lies' x
  placed_put first x h = elim (put_cases lies p (some u) x.spot.path) [
    | inl c ↦ (u, c.1, first ∙ (ap (λ (z : Lie). z.first) (sym (task_is x.spot.path h.0 c.0 h.1)) ∙ h.2))
    | inr c ↦ (h.0, c.1 ∙ h.1, h.2)
  ]

  -- an index that stays as it is
  pub index_put : u.berth ≡ t.berth → (0 < length t.indexes → u.first ≡ t.first) → (phase : Phase) (e : IndexRun)
      → ((x : IndexLie) → p ≡ e.spot.path → get_elem? t.indexes e.index ≡ some x → x.phase ≡ phase → get_elem? u.indexes e.index ≡ some x)
      → IsIndex lies phase e → IsIndex lies' phase e
  index_put berth first phase e stays h = elim (put_cases lies p (some u) e.spot.path) [
    | inl c ↦ (let same = task_is e.spot.path h.task c.0 h.is in record {
      task = u;
      index = h.index;
      is = c.1;
      berth = berth ∙ (ap (λ (z : Lie). z.berth) (sym same) ∙ h.berth);
      at = stays h.index c.0 (ap (λ (z : Lie). get_elem? z.indexes e.index) (sym same) ∙ h.at) h.phase_is;
      position = h.position ∙ ap (λ n. n + e.index) (ap (λ (z : Lie). z.first) same
          ∙ sym (first (long_at t.indexes e.index h.index (ap (λ (z : Lie). get_elem? z.indexes e.index) (sym same) ∙ h.at))));
      phase_is = h.phase_is;
      answers = h.answers;
      count = h.count;
    })
    | inr c ↦ record {
      task = h.task;
      index = h.index;
      is = c.1 ∙ h.is;
      berth = h.berth;
      at = h.at;
      position = h.position;
      phase_is = h.phase_is;
      answers = h.answers;
      count = h.count;
    }
  ]

  pub tally_put : (g : Phase → ℕ) (q : Path) (i : ℕ)
      → ((p ≡ q) × (task_tally g i (lies q) ≡ index_tally g (get_elem? t.indexes i)) × (task_tally g i (lies' q) ≡ index_tally g (get_elem? u.indexes i)))
      ⊎ ((p ≢ q) × (task_tally g i (lies' q) ≡ task_tally g i (lies q)))
  tally_put g q i = elim (put_cases lies p (some u) q) [
    | inl c ↦ inl (c.0, ap (task_tally g i) (ap lies (sym c.0) ∙ is), ap (task_tally g i) c.1)
    | inr c ↦ inr (c.0, ap (task_tally g i) c.1)
  ]

  -- where an index stands as it did
  pub tally_same : (g : Phase → ℕ) → ((i : ℕ) → index_tally g (get_elem? u.indexes i) ≡ index_tally g (get_elem? t.indexes i))
      → (q : Path) (i : ℕ) → task_tally g i (lies' q) ≡ task_tally g i (lies q)
  tally_same g same q i = elim (tally_put g q i) [
    | inl c ↦ c.2 ∙ (same i ∙ sym c.1)
    | inr c ↦ c.1
  ]

  module _ (workers : ℕ) (s : LoopWords) (hands : List Hand) (f : Looped workers lies s hands) where
    pub booked_put : IsBooked u → (q : Path) (y : Lie) → lies' q ≡ some y → IsBooked y
    booked_put b q y e = elim (at_put lies p q u y e) [
      | inl c ↦ subst IsBooked c.1 b
      | inr c ↦ f.booked q y c.1
    ]

    -- other hands, that have retired no others
    pub left_put : u.unretired ≡ t.unretired → u.berth ≡ t.berth → (hands' : List Hand) → ((q : Path) → retired_of q hands' ≡ retired_of q hands)
        → (q : Path) (y : Lie) → lies' q ≡ some y → y.unretired + retired_of q hands' ≡ y.berth.call.length
    left_put unretired berth hands' same q y e = elim (at_put lies p q u y e) [
      | inl c ↦ subst (λ (w : Lie). w.unretired + retired_of q hands' ≡ w.berth.call.length) c.1
          (let a = f.left p t is in let b = same q in let d : retired_of p hands ≡ retired_of q hands = ap (λ r. retired_of r hands) c.0 in
          let g = ap (λ (z : Berth). z.call.length) berth in omega (arith, a, b, d, g, unretired))
      | inr c ↦ (let a = f.left q y c.1 in let b = same q in omega (arith, a, b))
    ]

    -- and have the same pieces, where the words and the pieces of the book stay
    pub shown_put : u.berth ≡ t.berth → is_gone u.stage ≡ is_gone t.stage → ((z : Pair) → count_piece z u.first u.pieces ≡ count_piece z t.first t.pieces)
        → (hands' : List Hand) → ((a : ℕ) (z : Pair) → weigh (shares_with a z) hands' ≡ weigh (shares_with a z) hands)
        → (q : Path) (y : Lie) (z : Pair) → lies' q ≡ some y → is_gone y.stage ≡ false
        → shown_pieces workers s hands' y.berth.at z ≡ count_piece z y.first y.pieces
    shown_put berth gone book hands' same q y z e live = elim (at_put lies p q u y e) [
      | inl c ↦ subst (λ (w : Lie). shown_pieces workers s hands' w.berth.at z ≡ count_piece z w.first w.pieces) c.1
          (let a = same t.berth.at z in
          let b = f.shown p t z is (sym gone ∙ (ap (λ (w : Lie). is_gone w.stage) c.1 ∙ live)) in
          let d = book z in
          ap (λ (w : Berth). shown_pieces workers s hands' w.at z) berth ∙ omega (arith, a, b, d))
      | inr c ↦ (let a = same y.berth.at z in let b = f.shown q y z c.1 live in omega (arith, a, b))
    ]

    module _ (long : length u.indexes ≡ length t.indexes) where
      pub owned_put : (0 < length t.indexes → u.first ≡ t.first) → (q : Path) (y : Lie) (x : ℕ) → lies' q ≡ some y → y.first ≤ x
          → x < y.first + length y.indexes → (f.owner x ≡ q) × (x < s.drawn)
      owned_put first q y x e low high = elim (at_put lies p q u y e) [
        | inl c ↦ (let a : u.first ≡ y.first = ap (λ (z : Lie). z.first) c.1 in
            let b : length u.indexes ≡ length y.indexes = ap (λ (z : Lie). length z.indexes) c.1 in
            let d = first (omega (arith, long, b, low, high)) in
            let o = f.owned p t x is (omega (arith, a, d, low)) (omega (arith, a, d, b, long, high)) in
            (o.0 ∙ c.0, o.1))
        | inr c ↦ f.owned q y x c.1 low high
      ]

      -- a task that is there after it was there before
      was : (q : Path) (y : Lie) → lies' q ≡ some y → (z : Lie) × (lies q ≡ some z) × (length y.indexes ≡ length z.indexes)
      was q y e = elim (at_put lies p q u y e) [
        | inl c ↦ (t, ap lies (sym c.0) ∙ is, ap (λ (z : Lie). length z.indexes) (sym c.1) ∙ long)
        | inr c ↦ (y, c.1, refl)
      ]

      pub childless_put : (q : Path) (i : ℕ) (y z : Lie) → lies' q ≡ some y → lies' (child q i) ≡ some z → y.indexes ≡ []
      childless_put q i y z e d =
          let a = was q y e in
          let b = was (child q i) z d in
          none_long y.indexes (a.2 ∙ ap (λ (xs : List IndexLie). length xs) (f.childless q i a.0 b.0 a.1 b.1))
