-- The facts of loops, where a step leaves loops as they are: their words, what seats have in hand of them, and what each task is as a loop.
use Rattle.std.proofs.Common.{◌≡◌, ◌≢◌, ℕ, zero, suc, ◌+◌, ◌*◌, ◌-◌, ◌<◌, ◌≤◌, ◌⊎◌, ◌&&◌, Bool, true, false, cond, nat_eq, nat_lt, List, [], ◌∷◌, length, set, map, sym, refl, ap, ◌∙◌, subst, inl, inr, arith, ⊎_elim}
use mathlib.Core.Option.{Option, none, some, some-injective, some-ne-none}
use lib.ListN.{get_elem?}
use mathlib.Core.Path.{fun_ext}
use Rattle.std.proofs.lemmas.Bool.{eqb-true}
use Rattle.std.proofs.lemmas.Bool.Decides.{nat_tests}
use Rattle.kt_order.specs.Books.{BookOk}
use Rattle.kt_order.specs.Forest.{Phase, Running, Finished}
use Rattle.kt_order.specs.Paths.{same_path}
use Rattle.kt_runs.specs.ByPath.{Path, child}
use Rattle.kt_words.specs.Places.{Own, worker_word, post, answer, interval, home}
use Rattle.kt_words.specs.declared.layouts.Layout.{Layout}
use Rattle.kt_words.specs.declared.pairs.Pair.{Pair}
use Rattle.kt_rule.specs.declared.views.Berth.{Berth}
use Rattle.kt_rule.specs.declared.views.Share.{Share}
use Rattle.kt_rule.specs.declared.views.IndexRun.{IndexRun}
use Rattle.kt_rule.specs.declared.views.View.{View}
use Rattle.kt_rule.specs.Paths.{put}
use Rattle.kt_rule.specs.Lists.{weigh, one_if, In, here, there}
use Rattle.kt_rule.specs.Lies.{Stage, IndexLie, Lie, Lies, is_gone}
use Rattle.kt_rule.specs.Records.{word_at, positions_at}
use Rattle.kt_rule.specs.LoopWords.{LoopWords, Hand, pair_in, piece_in, picked, piece_beside, own_word, loop_words, hand_of, hands_of, sum_below}
use Rattle.kt_rule.specs.LoopFacts.{is_early, IsBooked, IsPiece, IsShare, IsPending, IsPlaced, IsEmptied, IsIndex, index_times, index_tally, task_tally, retired_of, piece_is, shown_pieces, count_piece, Handles, Looped}
use Rattle.kt_rule.proofs.Puts.{put_here, put_else, put_cases, at_put}
use Rattle.kt_rule.proofs.Sums.{in_cons, one_other}

-- WORDS

less_so : (a b : ℕ) → nat_lt a b ≡ true → a < b
less_so a b e = grind (arith, nat_tests)

pub own_there : (l : Layout) (ws : List ℕ) (o : Own) (k : ℕ) → k < l.workers → own_word l ws o k ≡ word_at l ws (worker_word k o)
own_there l ws o k less = go (nat_lt k l.workers) refl
  where
    go : (b : Bool) → nat_lt k l.workers ≡ b → cond b (word_at l ws (worker_word k o)) 0 ≡ word_at l ws (worker_word k o)
    go true e = refl
    go false e = absurd (let h : nat_lt k l.workers ≡ true = grind (arith, less, nat_tests) in let z : true ≡ false = sym h ∙ e in cc)

-- a function of two words of one worker, for each number
own_pair : {A : Type 0} (g : ℕ → ℕ → A) (l : Layout) (ws ws' : List ℕ) (o p : Own)
    → ((k : ℕ) → k < l.workers → g (word_at l ws' (worker_word k o)) (word_at l ws' (worker_word k p))
    ≡ g (word_at l ws (worker_word k o)) (word_at l ws (worker_word k p))) → (k : ℕ)
    → g (own_word l ws' o k) (own_word l ws' p k) ≡ g (own_word l ws o k) (own_word l ws p k)
own_pair g l ws ws' o p stay k = go (nat_lt k l.workers) refl
  where
    go : (b : Bool) → nat_lt k l.workers ≡ b
        → g (cond b (word_at l ws' (worker_word k o)) 0) (cond b (word_at l ws' (worker_word k p)) 0)
        ≡ g (cond b (word_at l ws (worker_word k o)) 0) (cond b (word_at l ws (worker_word k p)) 0)
    go true e = stay k (less_so k l.workers e)
    go false e = refl

-- the words of loops stay where these do, and an answer word beside a post that gives no piece may be any
pub words_quiet : (l : Layout) (ws ws' : List ℕ) → word_at l ws' positions_at ≡ word_at l ws positions_at
    → ((k : ℕ) → k < l.workers → word_at l ws' (worker_word k interval) ≡ word_at l ws (worker_word k interval))
    → ((k : ℕ) → k < l.workers → word_at l ws' (worker_word k home) ≡ word_at l ws (worker_word k home))
    → ((k : ℕ) → k < l.workers → piece_in (word_at l ws' (worker_word k post)) ≡ piece_in (word_at l ws (worker_word k post)))
    → ((k : ℕ) → k < l.workers → (piece_in (word_at l ws (worker_word k post)) ≡ 0)
    ⊎ (word_at l ws' (worker_word k answer) ≡ word_at l ws (worker_word k answer)))
    → loop_words l ws' ≡ loop_words l ws
words_quiet l ws ws' drawn intervals_stay homes_stay posts_stay answers_stay =
    let intervals = fun_ext (own_pair (λ a b. pair_in a) l ws ws' interval interval (λ k less. ap pair_in (intervals_stay k less))) in
    let homes = fun_ext (own_pair (λ a b. a) l ws ws' home home homes_stay) in
    let posts = fun_ext (own_pair (λ a b. piece_in a) l ws ws' post post posts_stay) in
    let answers = fun_ext (own_pair piece_beside l ws ws' post answer (λ k less. elim (answers_stay k less) [
      | inl none_there ↦ ap (λ n. picked n (pair_in (word_at l ws' (worker_word k answer)))) (posts_stay k less ∙ none_there)
          ∙ sym (ap (λ n. picked n (pair_in (word_at l ws (worker_word k answer)))) none_there)
      | inr same ↦ (λ i. picked (posts_stay k less i) (pair_in (same i)))
    ])) in
    λ i. record { drawn = drawn i; interval = intervals i; home = homes i; given = posts i; piece = answers i }

pub words_same : (l : Layout) (ws ws' : List ℕ) → word_at l ws' positions_at ≡ word_at l ws positions_at
    → ((k : ℕ) (o : Own) → k < l.workers → word_at l ws' (worker_word k o) ≡ word_at l ws (worker_word k o))
    → loop_words l ws' ≡ loop_words l ws
words_same l ws ws' drawn stay = words_quiet l ws ws' drawn (λ k less. stay k interval less) (λ k less. stay k home less)
    (λ k less. ap piece_in (stay k post less)) (λ k less. inr (stay k answer less))

-- HANDS

pub hands_same : (views : List View) (id : ℕ) (v w : View) → get_elem? views id ≡ some v → hand_of w ≡ hand_of v
    → hands_of (set views id w) ≡ hands_of views
hands_same [] id v w at same = absurd (some-ne-none v (sym at))
hands_same (x ∷ views) zero v w at same = ap (λ h. h ∷ hands_of views) (same ∙ sym (ap hand_of (some-injective x v at)))
hands_same (x ∷ views) (suc id) v w at same = ap (λ hs. hand_of x ∷ hs) (hands_same views id v w at same)

-- TASKS

-- the same task as a loop
pub record SameLoop (t u : Lie) : Type 0 where
  pub berth : u.berth ≡ t.berth
  pub first : u.first ≡ t.first
  pub unretired : u.unretired ≡ t.unretired
  pub indexes : u.indexes ≡ t.indexes
  pub pieces : u.pieces ≡ t.pieces
  pub gone : is_gone u.stage ≡ is_gone t.stage
  pub early : is_early u.stage ≡ true → is_early t.stage ≡ true

pub same_loop : (t u : Lie) → t ≡ u → SameLoop t u
same_loop t u e = record {
  berth = ap (λ (z : Lie). z.berth) (sym e);
  first = ap (λ (z : Lie). z.first) (sym e);
  unretired = ap (λ (z : Lie). z.unretired) (sym e);
  indexes = ap (λ (z : Lie). z.indexes) (sym e);
  pieces = ap (λ (z : Lie). z.pieces) (sym e);
  gone = ap (λ (z : Lie). is_gone z.stage) (sym e);
  early = λ d. ap (λ (z : Lie). is_early z.stage) e ∙ d;
}

-- a new task, in a record where no other lies, below one that is no loop under way
pub record IsNewTask (lies : Lies) (p : Path) (u : Lie) : Type 0 where
  pub none_there : lies p ≡ none
  pub no_indexes : u.indexes ≡ []
  pub no_pieces : u.pieces ≡ []
  pub unretired : u.unretired ≡ u.berth.call.length
  pub free : (q : Path) (t : Lie) → lies q ≡ some t → is_gone t.stage ≡ false → t.berth.at ≢ u.berth.at
  pub below : (q : Path) (i : ℕ) (t : Lie) → p ≡ child q i → lies q ≡ some t → t.indexes ≡ []

pub record LoopsStay (lies lies' : Lies) : Type 0 where
  pub forth : (p : Path) (t : Lie) → lies p ≡ some t → (u : Lie) × (lies' p ≡ some u) × SameLoop t u
  pub back : (p : Path) (u : Lie) → lies' p ≡ some u → ((t : Lie) × (lies p ≡ some t) × SameLoop t u) ⊎ IsNewTask lies p u

pub loops_stay : (lies : Lies) → LoopsStay lies lies
loops_stay lies = record { forth = λ p t e. (t, e, same_loop t t refl); back = λ p u e. inl (u, e, same_loop u u refl) }

pub put_stay : (lies : Lies) (p : Path) (t u : Lie) → lies p ≡ some t → SameLoop t u → LoopsStay lies (put lies p (some u))
put_stay lies p t u is same = record {
  forth = λ q x e. elim (put_cases lies p (some u) q) [
    | inl h ↦ (u, h.1, subst (λ (z : Lie). SameLoop z u) (some-injective t x (sym is ∙ (ap lies h.0 ∙ e))) same)
    | inr h ↦ (x, h.1 ∙ e, same_loop x x refl)
  ];
  back = λ q y e. elim (at_put lies p q u y e) [
    | inl h ↦ inl (t, ap lies (sym h.0) ∙ is, subst (SameLoop t) h.1 same)
    | inr h ↦ inl (y, h.1, same_loop y y refl)
  ];
}

-- a task that lives, and whose loop stays
module _ (lies lies' : Lies) (stay : LoopsStay lies lies') where
  pub piece_stays : (a low high : ℕ) → IsPiece lies a low high → IsPiece lies' a low high
  piece_stays a low high x = let u = stay.forth x.path x.task x.is in let s = u.2 in record {
    path = x.path;
    task = u.0;
    is = u.1;
    live = s.gone ∙ x.live;
    at = ap (λ (z : Berth). z.at) s.berth ∙ x.at;
    some_left = x.some_left;
    first = let e = s.first in let h = x.first in omega arith;
    last = let e = s.first in let d = ap (λ (z : List IndexLie). length z) s.indexes in let h = x.last in omega arith;
  }

  pub share_stays : (x : Share) → IsShare lies x → IsShare lies' x
  share_stays x h = let u = stay.forth x.spot.path h.task h.is in let s = u.2 in record {
    task = u.0;
    is = u.1;
    berth = s.berth ∙ h.berth;
    live = s.gone ∙ h.live;
    some_left = h.some_left;
    first = let e = s.first in let k = h.first in omega arith;
    last = let e = s.first in let d = ap (λ (z : List IndexLie). length z) s.indexes in let k = h.last in omega arith;
  }

  pub pending_stays : (owner : ℕ → Path) (drawn : ℕ) (x : Share) → IsPending lies owner drawn x → IsPending lies' owner drawn x
  pending_stays owner drawn x h = let u = stay.forth x.spot.path h.task h.is in let s = u.2 in record {
    task = u.0;
    is = u.1;
    berth = s.berth ∙ h.berth;
    none_yet = s.indexes ∙ h.none_yet;
    whole = h.whole;
    counted = h.counted;
    owned = h.owned;
  }

  pub index_stays : (phase : Phase) (e : IndexRun) → IsIndex lies phase e → IsIndex lies' phase e
  index_stays phase e h = let u = stay.forth e.spot.path h.task h.is in let s = u.2 in record {
    task = u.0;
    index = h.index;
    is = u.1;
    berth = s.berth ∙ h.berth;
    at = ap (λ (xs : List IndexLie). get_elem? xs e.index) s.indexes ∙ h.at;
    position = h.position ∙ ap (λ n. n + e.index) (sym s.first);
    phase_is = h.phase_is;
    answers = h.answers;
    count = h.count;
  }

  pub placed_stays : (x : Share) → IsPlaced lies x → IsPlaced lies' x
  placed_stays x h = let u = stay.forth x.spot.path h.0 h.1 in (u.0, u.1, u.2.first ∙ h.2)

  pub emptied_stays : (p : Path) → IsEmptied lies p → IsEmptied lies' p
  emptied_stays p h = let u = stay.forth p h.0 h.1 in (u.0, u.1, not_early h.0.stage u.0.stage u.2.early h.2, u.2.unretired ∙ h.3)
    where
      not_early : (t u : Stage) → (is_early u ≡ true → is_early t ≡ true) → is_early t ≡ false → is_early u ≡ false
      not_early t u back late = go (is_early u) refl
        where
          go : (b : Bool) → is_early u ≡ b → is_early u ≡ false
          go true e = absurd (let z : true ≡ false = sym (back e) ∙ late in cc)
          go false e = e

booked_same : (t u : Lie) → SameLoop t u → IsBooked t → IsBooked u
booked_same t u s b = record {
  early = λ e. let h = b.early (s.early e) in
      (s.indexes ∙ h.0, s.unretired ∙ (h.1 ∙ ap (λ (z : Berth). z.call.length) (sym s.berth)));
  whole = elim b.whole [
    | inl h ↦ inl (s.indexes ∙ h)
    | inr h ↦ inr (ap (λ (z : List IndexLie). length z) s.indexes ∙ (h ∙ ap (λ (z : Berth). z.call.length) (sym s.berth)))
  ];
  rises = subst (λ z. Rattle.kt_rule.specs.LoopFacts.Rises 0 z) (sym s.pieces) b.rises;
  fresh = λ i x e. b.fresh i x (ap (λ (z : List IndexLie). get_elem? z i) (sym s.indexes) ∙ e);
  book = subst (λ (z : List Rattle.kt_order.specs.Books.Piece × ℕ × List IndexLie). BookOk (record { pieces = z.0; unretired = z.1 }) (map Rattle.kt_rule.specs.LoopFacts.phase_in z.2))
      (λ i. (sym s.pieces i, sym s.unretired i, sym s.indexes i)) b.book;
}

booked_new : (lies : Lies) (p : Path) (u : Lie) → IsNewTask lies p u → IsBooked u
booked_new lies p u new = record {
  early = λ e. (new.no_indexes, new.unretired);
  whole = inl new.no_indexes;
  rises = subst (λ z. Rattle.kt_rule.specs.LoopFacts.Rises 0 z) (sym new.no_pieces) tt;
  fresh = λ i x e. absurd (some-ne-none x (sym e ∙ ap (λ (z : List IndexLie). get_elem? z i) new.no_indexes));
  book = subst (λ (z : List Rattle.kt_order.specs.Books.Piece × List IndexLie). BookOk (record { pieces = z.0; unretired = u.unretired }) (map Rattle.kt_rule.specs.LoopFacts.phase_in z.1))
      (λ i. (sym new.no_pieces i, sym new.no_indexes i)) (record { pieces = tt; covers = λ i. refl; none_ended = tt; retired = omega arith });
}

-- NOTHING IS SHOWN OF A RECORD WHERE NO TASK LIES

pub sum_zero : (n : ℕ) (f : ℕ → ℕ) → ((k : ℕ) → k < n → f k ≡ 0) → sum_below n f ≡ 0
sum_zero zero f none_there = refl
sum_zero (suc n) f none_there =
    let a = none_there n (omega arith) in let b = sum_zero n f (λ k less. none_there k (omega arith)) in omega arith

pub weigh_zero : {A : Type 0} (f : A → ℕ) (xs : List A) → ((x : A) → In x xs → f x ≡ 0) → weigh f xs ≡ 0
weigh_zero f [] none_there = refl
weigh_zero f (x ∷ xs) none_there = let a = none_there x here in let b = weigh_zero f xs (λ y i. none_there y (there i)) in omega arith

pub place_of : {A : Type 0} (x : A) (xs : List A) → In x xs → (k : ℕ) × (get_elem? xs k ≡ some x)
place_of x [] i = elim i [ ]
place_of x (y ∷ xs) i = elim (in_cons x y xs i) [
  | inl e ↦ (0, ap some (sym e))
  | inr h ↦ (let k = place_of x xs h in (suc k.0, k.1))
]

pub no_piece : (word low high a : ℕ) (q : Pair) → (word ≡ suc a → low < high → ⊥) → piece_is word low high a q ≡ 0
no_piece word low high a q none_there = go (nat_eq word (suc a)) refl
  where
    inner : word ≡ suc a → (b : Bool) → nat_lt low high ≡ b → cond b (one_if (nat_eq low q.low && nat_eq high q.high)) 0 ≡ 0
    inner is true e = absurd (none_there is (less_so low high e))
    inner is false e = refl

    go : (b : Bool) → nat_eq word (suc a) ≡ b
        → cond b (cond (nat_lt low high) (one_if (nat_eq low q.low && nat_eq high q.high)) 0) 0 ≡ 0
    go true e = inner (eqb-true word (suc a) e) (nat_lt low high) refl
    go false e = refl

-- ALL OF IT

module _ (workers : ℕ) (lies lies' : Lies) (stay : LoopsStay lies lies') (s : LoopWords) (hands : List Hand)
    (f : Looped workers lies s hands) where
  -- nothing was retired of a loop that is not there
  retired_none : (p : Path) → lies p ≡ none → retired_of p hands ≡ 0
  retired_none p none_there = weigh_zero _ hands (λ h at. weigh_zero _ h.loops.retired (λ e i.
      let k = place_of h hands at in let x = (f.handles k.0 h k.1).retired e i in
      one_other p e.spot.path (λ same. some-ne-none x.task (sym x.is ∙ (ap lies same ∙ none_there)))))

  shown_none : (p : Path) (u : Lie) (q : Pair) → IsNewTask lies p u → shown_pieces workers s hands u.berth.at q ≡ 0
  shown_none p u q new =
      let a : ℕ = u.berth.at in
      let intervals = sum_zero workers (λ k. piece_is (s.home k) (s.interval k).low (s.interval k).high a q) (λ k less.
      no_piece (s.home k) (s.interval k).low (s.interval k).high a q (λ is long.
      let h = f.homes k less long in let x = h.2 in new.free x.path x.task x.is x.live (let e = x.at in let d = h.1 in omega arith))) in
      let answers = sum_zero workers (λ k. piece_is (s.given k) (s.piece k).low (s.piece k).high a q) (λ k less.
      no_piece (s.given k) (s.piece k).low (s.piece k).high a q (λ is long.
      let x = f.given k a less is in new.free x.path x.task x.is x.live x.at)) in
      let shares = weigh_zero (λ (h : Hand). weigh (λ (x : Share). piece_is (suc x.spot.berth.at) x.low x.high a q) h.loops.pieces) hands
      (λ h at. weigh_zero (λ (x : Share). piece_is (suc x.spot.berth.at) x.low x.high a q) h.loops.pieces (λ x i.
      no_piece (suc x.spot.berth.at) x.low x.high a q (λ is long.
      let k = place_of h hands at in let y = (f.handles k.0 h k.1).pieces x i in
      new.free x.spot.path y.task y.is y.live (ap (λ (z : Berth). z.at) y.berth ∙ (let d = is in omega arith))))) in
      omega arith

  tally_same : (g : Phase → ℕ) (p : Path) (i : ℕ) → task_tally g i (lies p) ≡ task_tally g i (lies' p)
  tally_same g p i = go (lies p) refl
    where
      none_new : lies p ≡ none → (o : Option Lie) → lies' p ≡ o → 0 ≡ task_tally g i o
      none_new e none d = refl
      none_new e (some u) d = elim (stay.back p u d) [
        | inl (t, is, same) ↦ absurd (some-ne-none t (sym is ∙ e))
        | inr new ↦ ap (λ (xs : List IndexLie). index_tally g (get_elem? xs i)) (sym new.no_indexes)
      ]

      go : (o : Option Lie) → lies p ≡ o → task_tally g i o ≡ task_tally g i (lies' p)
      go none e = none_new e (lies' p) refl
      go (some t) e = let u = stay.forth p t e in
          ap (λ (xs : List IndexLie). index_tally g (get_elem? xs i)) (sym u.2.indexes) ∙ ap (task_tally g i) (sym u.1)

  pub looped_stays : Looped workers lies' s hands
  looped_stays = record {
    owner = f.owner;
    positions = f.positions;
    owned = λ p u x is low high. elim (stay.back p u is) [
      | inl (t, t_is, same) ↦ (let e = same.first in let d = ap (λ (z : List IndexLie). length z) same.indexes in
          f.owned p t x t_is (omega arith) (omega arith))
      | inr new ↦ (let d = ap (λ (z : List IndexLie). length z) new.no_indexes in absurd (omega arith))
    ];
    homes = λ k less long. let h = f.homes k less long in (h.0, h.1, piece_stays lies lies' stay _ _ _ h.2);
    given = λ k a less is. piece_stays lies lies' stay _ _ _ (f.given k a less is);
    booked = λ p u is. elim (stay.back p u is) [
      | inl (t, t_is, same) ↦ booked_same t u same (f.booked p t t_is)
      | inr new ↦ booked_new lies p u new
    ];
    shown = λ p u q is live. elim (stay.back p u is) [
      | inl (t, t_is, same) ↦ ap (λ (z : Berth). shown_pieces workers s hands z.at q) same.berth
          ∙ (f.shown p t q t_is (sym same.gone ∙ live) ∙ (λ i. count_piece q (sym same.first i) (sym same.pieces i)))
      | inr new ↦ shown_none p u q new ∙ ap (count_piece q u.first) (sym new.no_pieces)
    ];
    taken = λ p i. f.taken p i ∙ tally_same _ p i;
    retired = λ p i. f.retired p i ∙ tally_same _ p i;
    left = λ p u is. elim (stay.back p u is) [
      | inl (t, t_is, same) ↦ (let h = f.left p t t_is in let e = same.unretired in
          let d = ap (λ (z : Berth). z.call.length) same.berth in omega arith)
      | inr new ↦ (let h = retired_none p new.none_there in let e = new.unretired in omega arith)
    ];
    childless = λ p i t u is child_is. elim (stay.back p t is) [
      | inl (t0, t_is, same) ↦ (elim (stay.back (child p i) u child_is) [
        | inl (u0, u_is, _) ↦ same.indexes ∙ f.childless p i t0 u0 t_is u_is
        | inr new ↦ same.indexes ∙ new.below p i t0 refl t_is
      ])
      | inr new ↦ new.no_indexes
    ];
    handles = λ seat h at. let k = f.handles seat h at in record {
      pending = λ x i. pending_stays lies lies' stay f.owner s.drawn x (k.pending x i);
      pieces = λ x i. share_stays lies lies' stay x (k.pieces x i);
      taken = λ e i. index_stays lies lies' stay Running e (k.taken e i);
      retired = λ e i. index_stays lies lies' stay Finished e (k.retired e i);
      placed = λ told x i. placed_stays lies lies' stay x (k.placed told x i);
      emptied = λ p i. emptied_stays lies lies' stay p (k.emptied p i);
      free = k.free;
      home = k.home;
      sight = k.sight;
      overs = k.overs;
      held = k.held;
      crossed = k.crossed;
    };
    unmade = f.unmade;
    bound = f.bound;
    beyond = f.beyond;
  }

-- where words and hands stay
pub looped_same : (l : Layout) (lies lies' : Lies) (ws ws' : List ℕ) (views : List View) (id : ℕ) (v w : View)
    → Looped l.workers lies (loop_words l ws) (hands_of views) → LoopsStay lies lies' → get_elem? views id ≡ some v
    → hand_of w ≡ hand_of v → loop_words l ws' ≡ loop_words l ws
    → Looped l.workers lies' (loop_words l ws') (hands_of (set views id w))
looped_same l lies lies' ws ws' views id v w f stay at hand quiet =
    subst (λ (z : LoopWords × List Hand). Looped l.workers lies' z.0 z.1)
    (λ i. (sym quiet i, sym (hands_same views id v w at hand) i))
    (looped_stays l.workers lies lies' stay (loop_words l ws) (hands_of views) f)

pub looped_keeps : (l : Layout) (lies lies' : Lies) (ws ws' : List ℕ) (views : List View) (id : ℕ) (v w : View)
    → Looped l.workers lies (loop_words l ws) (hands_of views) → LoopsStay lies lies' → get_elem? views id ≡ some v
    → hand_of w ≡ hand_of v → word_at l ws' positions_at ≡ word_at l ws positions_at
    → ((k : ℕ) (o : Own) → k < l.workers → word_at l ws' (worker_word k o) ≡ word_at l ws (worker_word k o))
    → Looped l.workers lies' (loop_words l ws') (hands_of (set views id w))
looped_keeps l lies lies' ws ws' views id v w f stay at hand drawn own =
    looped_same l lies lies' ws ws' views id v w f stay at hand (words_same l ws ws' drawn own)
