-- The opening, seats that are made and joined, and the close.
use Rattle.std.proofs.Common.{◌≡◌, ◌≢◌, ℕ, zero, suc, ◌+◌, ◌-◌, ◌*◌, ◌<◌, ◌≤◌, ◌⊎◌, ◌||◌, Bool, true, false, cond, nat_eq, nat_lt, List, [], ◌∷◌, ◌++◌, set, map, length, sym, refl, ap, ◌∙◌, subst, inl, inr, arith, ⊎_elim, length-set, Some, None}
use Rattle.std.proofs.lemmas.List.{map-append, length-append}
use mathlib.Core.Option as o
use mathlib.Core.Path.{fun_ext}
use Rattle.std.proofs.lemmas.Bool.Decides.{nat_tests}
use mathlib.Core.Option.{none, some, some-injective, some-ne-none}
use native.Mathlib.Decide.{ℕ_discrete}
use lib.ListN.{get_elem?}
use Rattle.std.proofs.lemmas.Bool.{eqb-true}
use Rattle.atomic_table.specs.Table.{State, Me, keeps, step, Allows, Splits, Joins}
use Rattle.atomic_table.proofs.Lists.{at_set}
use Rattle.kt_law.specs.declared.limits.TheConstants.{TASKS, INDEXES}
use Rattle.kt_order.specs.Machine.{Machine}
use Rattle.kt_order.specs.Laws.{Laws}
use Rattle.kt_order.specs.Forest.{Phase, Node, Nil, Forest, fresh}
use Rattle.kt_order.specs.Lawful.{Lawful}
use Rattle.kt_order.specs.Paths.{IsThere}
use Rattle.kt_order.specs.Named.{named}
use Rattle.kt_order.proofs.Kept as order
use Rattle.kt_order.proofs.PathsAdd.{grown_none}
use Rattle.kt_prog.specs.Fits.{is_main}
use Rattle.kt_prog.specs.Accepted.{IsAccepted}
use Rattle.kt_prog.specs.Reference.{machine_of, main_placed, opened_with}
use Rattle.kt_runs.specs.Rights.{rights_in}
use Rattle.kt_runs.specs.ByPath.{Path, child, levels}
use Rattle.kt_words.specs.Places.{Own, record_word, worker_word, request, post, answer, interval, home}
use Rattle.kt_words.specs.declared.pairs.Pair.{Pair}
use Rattle.kt_words.specs.Words.{packed_post, packed_state}
use Rattle.kt_words.specs.declared.layouts.Layout.{Layout}
use Rattle.kt_words.specs.declared.layouts.TheConstants.{RECORDS, FIELDS}
use Rattle.kt_words.specs.declared.posts.Post.TheVariants as P
use Rattle.kt_rule.specs.declared.views.Setup.{Setup}
use Rattle.kt_rule.specs.declared.views.Spot.{Spot}
use Rattle.kt_rule.specs.declared.views.Execution.{Execution}
use Rattle.kt_rule.specs.declared.views.Promise.{Promise}
use Rattle.kt_rule.specs.declared.views.Share.{Share}
use Rattle.kt_rule.specs.declared.views.IndexRun.{IndexRun}
use Rattle.kt_rule.specs.declared.views.View.{View}
use Rattle.kt_rule.specs.Paths.{put}
use Rattle.kt_rule.specs.Lists.{weigh, times, In, here, there}
use Rattle.kt_rule.specs.Lies.{Stage, Waits, Posted, IndexLie, Lie, Lies, is_gone, get_of, core_of, counts_of, forks_of, IsHere}
use Rattle.kt_rule.specs.Records.{layout_of, word_at, elements, drawn_at, positions_at, own_record, state_of, access_word, field_of, frame_floor}
use Rattle.kt_rule.specs.Views.{spot_path, path_of, promise_path, mine_in, claimed_in, promised_in, given_in, begun_in, drawn_in, indexes_of, share_long, positions_in, pending_in, main_berth, main_spot, blank_view, spent, quiet_desk, roots}
use Rattle.kt_rule.specs.Facts.{is_there, is_claimed, is_promised, is_given, is_begun, tally, Sound, IsPublished, IsUnderWay, IsOver, IsGiven, IsKnownFinished, IsSo, Owns, Fits, Words, Drawn, Counts}
use Rattle.kt_rule.specs.Requests.{IsPromised, Desked}
use Rattle.kt_rule.specs.LoopWords.{LoopWords, Hand, between, pair_in, piece_in, piece_beside, own_word, loop_words, hand_of, hands_of}
use Rattle.kt_rule.specs.LoopFacts.{in_hand, in_pair, in_given, index_times, is_taken, is_retired, task_tally, retired_of, piece_is, shown_pieces, count_piece, IsBooked, over_long, Handles, Looped}
use Rattle.kt_rule.specs.Rule.{Slots, Facts, Holds}
use Rattle.kt_rule.specs.Steps.{Tells, new_lie}
use Rattle.kt_rule.specs.Close.{first_view, IsOpening, keeps_most, newcomer, together, Opens}
use Rattle.kt_rule.proofs.Puts.{put_here, put_cases, at_put, get_at}
use Rattle.kt_rule.proofs.Sums.{weigh_set, weigh_snoc, weigh_append, times_append, in_append, one_self, one_other}
use Rattle.kt_rule.proofs.LoopsStay.{sum_zero, no_piece}
use Rattle.kt_rule.proofs.Moves.{each_view}
use Rattle.kt_steps.proofs.LoopSeats.{at_hand, From, from_self, from_none, SaysOwn, pieces_with, retired_with, rearranged}
use Rattle.kt_steps.proofs.Fresh.{snoc_at}
use Rattle.kt_steps.proofs.Steps.{set_word, inside, holds_so}

nowhere : {X : Type 0} {A : Type 0} (x : A) → In x [] → X
nowhere x i = elim i [ ]

pub zero_or : (n : ℕ) → (n ≡ 0) ⊎ (0 < n)
zero_or n = grind arith

-- a desk at which nothing happened
pub quiet_is : (l : Layout) (ws : List ℕ) (seat : ℕ) → word_at l ws (worker_word seat post) ≡ 0 → Desked l ws seat quiet_desk
quiet_is l ws seat e = record {
  free = λ d. e;
  busy = λ d. absurd (true_not_false d);
  asked = λ y d z. absurd
      (true_not_false d);
  lead = λ d. absurd (false_not_true d);
  held = λ k i. elim i [ ];
  saw = λ d. absurd
      (false_not_true d);
  wrote = λ x i. elim i [ ];
  got = λ d. absurd (false_not_true d);
}
  where
    true_not_false : true ≡ false → ⊥
    true_not_false d = cc

    false_not_true : false ≡ true → ⊥
    false_not_true d = cc

false_is : {X : Type 0} → false ≡ true → X
false_is d = absurd (go d)
  where
    go : false ≡ true → ⊥
    go d = cc

-- an empty region
owns_none : (j : Setup) (lies : Lies) (s : State Slots View) → Facts j lies s → (k : ℕ) → length s.views ≡ k → k < j.workers → 0 < k
    → Owns (layout_of j) lies s.words k (record { spots = []; mine = []; built = [] }) [] 0
owns_none j lies s f k k_is less some_seat = record {
  room = omega arith;
  spots = λ a m e. absurd (some-ne-none m (sym e));
  under = λ p t a is live lower at. absurd (occupied p t a is live lower at);
  built = λ lower b i. elim i [ ];
  stack = rootless k some_seat;
  framed = λ e i. elim i [ ];
  falls = tt;
  old = λ a lower. let z = zero_there a lower in omega arith;
  low = λ e es is. absurd (let z : [] ≡ e ∷ es = is in cc);
}
  where
    zero_there : (a : ℕ) → a < RECORDS → word_at (layout_of j) s.words (record_word (own_record k a) 0) ≡ 0
    zero_there a lower = f.unmade (own_record k a) (omega arith) (omega arith)

    occupied : (p : Path) (t : Lie) (a : ℕ) → lies p ≡ some t → is_gone t.stage ≡ false → a < RECORDS → t.berth.at ≡ own_record k a → ⊥
    occupied p t a is live lower at = let h = Rattle.kt_rule.proofs.Words.word_pos (layout_of j) lies s.words f.words p t is live in
        let z = zero_there a lower in
        let e : word_at (layout_of j) s.words (record_word t.berth.at 0) ≡ word_at (layout_of j) s.words
        (record_word (own_record k a) 0) = ap (λ (b : ℕ). word_at (layout_of j) s.words (record_word b 0)) at in absurd (omega arith)

    rootless : (k : ℕ) → 0 < k → length (roots k ++ []) ≤ 0
    rootless zero h = absurd (omega arith)
    rootless (suc k) h = omega arith

-- a seat is made for the next worker
pub splits : (opening : List ℕ) (j : Setup) (id : ℕ) (v : View) → v.setup ≡ Some j → 1 < v.parts → 0 < v.made → v.made < j.workers
    → v.draws.over ≡ 0 → v.loops.over ≡ 0 → Splits (Holds opening) id v (keeps_most v) (newcomer v)
splits opening j id v setup parts made room none_over none_drawn s hold at = holds_so opening _ j lies (record {
  crew = f.crew;
  accepted = f.accepted;
  laws = f.laws;
  core = f.core;
  words = f.words;
  root = f.root;
  counts = record {
    parts = let a = weigh_snoc (λ (x : View). x.parts) vs n in let b = weigh_set (λ (x : View). x.parts) s.views id v l at in
        let k = f.counts.parts in omega arith;
    mine = λ q. sums (λ (x : View). mine_in x q) refl refl ∙ f.counts.mine q;
    claimed = λ q. sums (λ (x : View). claimed_in x q) refl refl ∙ f.counts.claimed q;
    given = λ q. sums (λ (x : View). given_in x q) refl refl ∙ f.counts.given q;
    begun = λ q. sums (λ (x : View). begun_in x q) refl refl ∙ f.counts.begun q;
    few = let a = len2 in let b = seats in omega arith;
    made = each (λ k x. 0 < x.made → (k ≡ 0) × (length (vs ++ n ∷ []) ≡ x.made)) (λ some_made. let a = len2 in let b = seats in
        ((f.counts.made id v at made).0, omega arith))
        (λ k x e ne some_made. let o = f.counts.made k x e some_made in absurd (ne (o.0 ∙ sym (f.counts.made id v at made).0)))
        (λ some_made. absurd (omega arith));
    idle = each (λ k x. x.parts ≡ 0 → x ≡ spent) (λ none_left. absurd (omega arith)) (λ k x e ne. f.counts.idle k x e)
        (λ none_left. absurd (omega arith));
  };
  asked = record {
    posts = f.asked.posts;
    leads = f.asked.leads;
    tasks = f.asked.tasks;
    posted = f.asked.posted;
    promised = λ q. sums (λ (x : View). promised_in x q) refl refl ∙ f.asked.promised q;
    promises = each (λ k x. (m : Promise) → In m x.tasks.promised → IsPromised lies m) (f.asked.promises id v at)
        (λ k x e ne. f.asked.promises k x e) (λ m i. elim i [ ]);
    desks = each (λ k x. 0 < x.parts → Desked (layout_of j) s.words k x.desk) (λ live. f.asked.desks id v at (omega arith))
        (λ k x e ne. f.asked.desks k x e)
        (λ live. quiet_is (layout_of j) s.words (length vs) (f.asked.unasked (length vs) (let a = len in omega arith) (let a = len in
        let b = seats in omega arith)));
    unasked = λ k from less. f.asked.unasked k (let a = len2 in omega arith) less;
  };
  drawn = record {
    count = f.drawn.count ∙ sym (sums (λ (x : View). length x.region.mine + length x.draws.hands) refl refl);
    hands = λ q. let a = sums (λ (x : View). drawn_in x q) refl refl in let k = f.drawn.hands q in omega arith;
    begun = each (λ k x. (p : Path) → In p x.draws.hands → 0 < begun_in x p) (f.drawn.begun id v at) (λ k x e ne. f.drawn.begun k x e)
        (λ p i. elim i [ ]);
    bound = let a = sums (λ (x : View). x.draws.over) refl refl in let k = f.drawn.bound in omega arith;
    overs = each (λ k x. x.draws.over ≤ x.parts) (omega arith) (λ k x e ne. f.drawn.overs k x e) (omega arith);
    held = each (λ k x. x.draws.over ≤ length x.draws.hands) (f.drawn.held id v at) (λ k x e ne. f.drawn.held k x e) (omega arith);
    crossed = each (λ k x. 0 < x.draws.over → TASKS < word_at (layout_of j) s.words drawn_at) (f.drawn.crossed id v at)
        (λ k x e ne. f.drawn.crossed k x e) (λ some_over. absurd (omega arith));
  };
  positions = record {
    count = f.positions.count ∙ sym (sums positions_in refl refl);
    pending = λ q. let a = sums (λ (x : View). pending_in x q) refl refl in let k = f.positions.pending q in omega arith;
    begun = each (λ k x. (y : Share) → In y x.loops.pending → 0 < begun_in x y.spot.path) (f.positions.begun id v at)
        (λ k x e ne. f.positions.begun k x e) (λ y i. elim i [ ]);
  };
  stopped = f.stopped;
  looped = rearranged j.workers lies (loop_words (layout_of j) s.words) s.views (vs ++ n ∷ []) f.looped (record {
    positions = λ x. sums (λ (y : View). in_hand x (hand_of y)) refl refl;
    pieces = λ a q. sums (λ (y : View). pieces_with a q y) refl refl;
    taken = λ p i. sums (λ (y : View). index_times p i y.loops.taken) refl refl;
    retired = λ p i. sums (λ (y : View). index_times p i y.loops.retired) refl refl;
    left = λ p. sums (λ (y : View). retired_with p y) refl refl;
    over = sums (λ (y : View). y.loops.over) refl refl;
    beyond = let a = sums (λ (y : View). over_long (hand_of y)) refl refl in omega arith;
    placed = each (λ k x. x.loops.placed ≡ true
        → (y : View) × (get_elem? s.views k ≡ some y) × (y.loops.placed ≡ true) × (x.loops.pending ≡ y.loops.pending))
        (λ told. (v, at, told, refl)) (λ k x e ne told. (x, e, told, refl)) (λ told. false_is told);
    from = each (λ k x. From s.views x.loops) (from_self s.views id v at) (λ k x e ne. from_self s.views k x e) (from_none s.views);
    own = each (λ k x. SaysOwn j.workers s.views k x) (λ some_part. inl (v, at, omega arith, refl, refl, refl))
        (λ k x e ne some_part. inl (x, e, some_part, refl, refl, refl))
        (λ some_part. let a = len in let b = seats in inr (omega arith, omega arith, refl, refl));
    overs = each (λ k x. x.loops.over ≤ x.parts) (omega arith) (λ k x e ne. (hands k x e).overs) (omega arith);
    held = each (λ k x. x.loops.over ≤ length x.loops.pending) (hands id v at).held (λ k x e ne. (hands k x e).held) (omega arith);
    crossed = each (λ k x. 0 < x.loops.over → INDEXES < word_at (layout_of j) s.words positions_at) (hands id v at).crossed
        (λ k x e ne. (hands k x e).crossed) (λ some_over. absurd (omega arith));
    longer = let a = len2 in omega arith;
  });
  fits = each (Fits j lies s.words) (record {
    setup = λ live. fit.setup (omega arith);
    own = λ live. fit.own (omega arith);
    owns = λ live. fit.owns (omega arith);
    running = fit.running;
    halted = fit.halted;
    ran = fit.ran;
    begun = fit.begun;
    mine = fit.mine;
    given = fit.given;
    known = fit.known;
    notes = fit.notes;
    stop = fit.stop;
    line = fit.line;
  }) (λ k x e ne. f.fits k x e) (record {
    setup = λ live. setup;
    own = λ live. let a = len in let b = seats in omega arith;
    owns = λ live. owns_none j lies s f (length vs) (sym len) (let a = len in let b = seats in omega arith) (let a = len in
        let b = seats in omega arith);
    running = λ e i. elim i [ ];
    halted = λ e i. elim i [ ];
    ran = λ e i. elim i [ ];
    begun = omega arith;
    mine = λ m i. elim i [ ];
    given = λ m i. elim i [ ];
    known = λ p i. elim i [ ];
    notes = λ m i. elim i [ ];
    stop = λ e. false_is e;
    line = λ m i. elim i [ ];
  });
  unmade = λ a from below. f.unmade a (let b = len2 in omega arith) below;
})
  where
    there_is : (lies : Lies) × Facts j lies s
    there_is = inside opening s j id v hold at (omega arith) setup

    lies : Lies
    lies = there_is.0

    f : Facts j lies s
    f = there_is.1

    hands : (k : ℕ) (x : View) → get_elem? s.views k ≡ some x
        → Handles j.workers lies f.looped.owner (loop_words (layout_of j) s.words) (hands_of s.views) k (hand_of x)
    hands k x e = f.looped.handles k (hand_of x) (at_hand s.views k x e)

    fit : Fits j lies s.words id v
    fit = f.fits id v at

    l : View
    l = keeps_most v

    n : View
    n = newcomer v

    vs : List View
    vs = set s.views id l

    len : length vs ≡ length s.views
    len = length-set s.views id l

    seats : length s.views ≡ v.made
    seats = (f.counts.made id v at made).1

    len2 : length (vs ++ n ∷ []) ≡ length s.views + 1
    len2 = length-append vs (n ∷ []) ∙ ap (λ (k : ℕ). k + 1) len

    -- a sum that neither the split nor the newcomer changes
    sums : (g : View → ℕ) → g l ≡ g v → g n ≡ 0 → weigh g (vs ++ n ∷ []) ≡ weigh g s.views
    sums g same none_new = let a = weigh_snoc g vs n in let b = weigh_set g s.views id v l at in omega arith

    each : (P : ℕ → View → Type 0) → P id l → ((k : ℕ) (x : View) → get_elem? s.views k ≡ some x → k ≢ id → P k x) → P (length vs) n
        → (k : ℕ) (x : View) → get_elem? (vs ++ n ∷ []) k ≡ some x → P k x
    each P own old new k x e = elim (snoc_at vs n k x e) [
      | inl h ↦ each_view P s.views id l own (λ i y ne d. old i y d ne) k x h
      | inr h ↦ subst (λ (z : ℕ × View). P z.0 z.1) (λ i. (sym h.0 i, h.1 i)) new
    ]

-- what the two of a join know of the stop word
or_true : (a b : Bool) → (a || b) ≡ true → (a ≡ true) ⊎ (b ≡ true)
or_true true b e = inl refl
or_true false b e = inr e

-- one seat takes in another
pub joins : (opening : List ℕ) (j : Setup) (id : ℕ) (v : View) (other : ℕ) (w : View) → v.setup ≡ Some j → 0 < v.parts → w.made ≡ 0
    → Joins (Holds opening) id v other w (together v w) spent
joins opening j id v other w setup live unmaker s hold at apart at' = holds_so opening _ j lies (record {
  crew = f.crew;
  accepted = f.accepted;
  laws = f.laws;
  core = f.core;
  words = f.words;
  root = f.root;
  counts = record {
    parts = sums (λ (x : View). x.parts) refl refl ∙ f.counts.parts;
    mine = λ q. sums (λ (x : View). mine_in x q) (both spot_path v.region.mine w.region.mine q) refl ∙ f.counts.mine q;
    claimed = λ q. sums (λ (x : View). claimed_in x q) (times_append q v.tasks.claimed w.tasks.claimed) refl ∙ f.counts.claimed q;
    given = λ q. sums (λ (x : View). given_in x q) (both spot_path v.tasks.given w.tasks.given q) refl ∙ f.counts.given q;
    begun = λ q. sums (λ (x : View). begun_in x q) (begun_both q) refl ∙ f.counts.begun q;
    few = let k = f.counts.few in let a = len in let c = len2 in omega arith;
    made = each (λ k x. 0 < x.made → (k ≡ 0) × (length (set vs other spent) ≡ x.made))
        (λ some_made. let o = f.counts.made id v at some_made in (o.0, len2 ∙ (len ∙ o.1)))
        (λ k x e some_made. let o = f.counts.made k x e some_made in (o.0, len2 ∙ (len ∙ o.1)))
        (λ some_made. absurd (omega arith));
    idle = each (λ k x. x.parts ≡ 0 → x ≡ spent) (λ none_left. absurd (omega arith)) (λ k x e. f.counts.idle k x e) (λ none_left. refl);
  };
  asked = record {
    posts = f.asked.posts;
    leads = f.asked.leads;
    tasks = f.asked.tasks;
    posted = f.asked.posted;
    promised = λ q. sums (λ (x : View). promised_in x q) (both promise_path v.tasks.promised w.tasks.promised q) refl
        ∙ f.asked.promised q;
    promises = each (λ k x. (m : Promise) → In m x.tasks.promised → IsPromised lies m)
        (λ m i. elim (in_append v.tasks.promised w.tasks.promised m i)
        [ inl h ↦ f.asked.promises id v at m h | inr h ↦ f.asked.promises other w was m h ])
        (λ k x e. f.asked.promises k x e) (λ m i. elim i [ ]);
    desks = each (λ k x. 0 < x.parts → Desked (layout_of j) s.words k x.desk) (λ some_part. f.asked.desks id v at live)
        (λ k x e. f.asked.desks k x e) (λ some_part. absurd (omega arith));
    unasked = λ k from less. f.asked.unasked k (let a = len in let c = len2 in omega arith) less;
  };
  drawn = record {
    count = f.drawn.count ∙ sym (sums (λ (x : View). length x.region.mine + length x.draws.hands)
        (let a = length-append v.region.mine w.region.mine in let c = length-append v.draws.hands w.draws.hands in omega arith) refl);
    hands = λ q. let a = sums (λ (x : View). drawn_in x q) (times_append q v.draws.hands w.draws.hands) refl in
        let k = f.drawn.hands q in omega arith;
    begun = each (λ k x. (p : Path) → In p x.draws.hands → 0 < begun_in x p)
        (λ p i. let g = begun_both p in elim (in_append v.draws.hands w.draws.hands p i) [
          | inl h ↦
              (let a = f.drawn.begun id v at p h in omega arith)
          | inr h ↦ (let a = f.drawn.begun other w was p h in omega arith)
        ])
        (λ k x e. f.drawn.begun k x e) (λ p i. elim i [ ]);
    bound = let a = sums (λ (x : View). x.draws.over) refl refl in let k = f.drawn.bound in omega arith;
    overs = each (λ k x. x.draws.over ≤ x.parts) (let c = f.drawn.overs id v at in let d = f.drawn.overs other w was in omega arith)
        (λ k x e. f.drawn.overs k x e) (omega arith);
    held = each (λ k x. x.draws.over ≤ length x.draws.hands) (let a = length-append v.draws.hands w.draws.hands in
        let c = f.drawn.held id v at in let d = f.drawn.held other w was in omega arith) (λ k x e. f.drawn.held k x e) (omega arith);
    crossed = each (λ k x. 0 < x.draws.over → TASKS < word_at (layout_of j) s.words drawn_at)
        (λ some_over. elim (zero_or v.draws.over) [
          | inl z ↦ f.drawn.crossed other w was
              (omega arith)
          | inr z ↦ f.drawn.crossed id v at z
        ])
        (λ k x e. f.drawn.crossed k x e) (λ some_over. absurd (omega arith));
  };
  positions = record {
    count = f.positions.count ∙ sym (sums positions_in positions_both refl);
    pending = λ q. let a = sums (λ (x : View). pending_in x q) (weigh_append _ v.loops.pending w.loops.pending) refl in
        let k = f.positions.pending q in omega arith;
    begun = each (λ k x. (y : Share) → In y x.loops.pending → 0 < begun_in x y.spot.path)
        (λ y i. let g = begun_both y.spot.path in elim (in_append v.loops.pending w.loops.pending y i) [
          | inl h ↦ (let a = f.positions.begun id v at y h in omega arith)
          | inr h ↦ (let a = f.positions.begun other w was y h in omega arith)
        ])
        (λ k x e. f.positions.begun k x e) (λ y i. elim i [ ]);
  };
  stopped = f.stopped;
  looped = rearranged j.workers lies (loop_words (layout_of j) s.words) s.views (set vs other spent) f.looped (record {
    positions = λ x. sums (λ (y : View). in_hand x (hand_of y)) (hands_both x) refl;
    pieces = λ a q. sums (λ (y : View). pieces_with a q y) (weigh_append _ v.loops.pieces w.loops.pieces) refl;
    taken = λ p i. sums (λ (y : View). index_times p i y.loops.taken) (weigh_append _ v.loops.taken w.loops.taken) refl;
    retired = λ p i. sums (λ (y : View). index_times p i y.loops.retired) (weigh_append _ v.loops.retired w.loops.retired) refl;
    left = λ p. sums (λ (y : View). retired_with p y) (weigh_append _ v.loops.retired w.loops.retired) refl;
    over = sums (λ (y : View). y.loops.over) refl refl;
    beyond = over_joined;
    placed = each (λ k x. x.loops.placed ≡ true
        → (y : View) × (get_elem? s.views k ≡ some y) × (y.loops.placed ≡ true) × (x.loops.pending ≡ y.loops.pending))
        (λ told. false_is told) (λ k x e told. (x, e, told, refl)) (λ told. false_is told);
    from = each (λ k x. From s.views x.loops) (record {
      pending = λ x i. elim (in_append v.loops.pending w.loops.pending x i) [ inl h ↦ (id, v, at, h) | inr h ↦ (other, w, was, h) ];
      pieces = λ x i. elim (in_append v.loops.pieces w.loops.pieces x i) [ inl h ↦ (id, v, at, h) | inr h ↦ (other, w, was, h) ];
      taken = λ e i. elim (in_append v.loops.taken w.loops.taken e i) [ inl h ↦ (id, v, at, h) | inr h ↦ (other, w, was, h) ];
      retired = λ e i. elim (in_append v.loops.retired w.loops.retired e i) [ inl h ↦ (id, v, at, h) | inr h ↦ (other, w, was, h) ];
      emptied = λ p i. elim (in_append v.loops.emptied w.loops.emptied p i) [ inl h ↦ (id, v, at, h) | inr h ↦ (other, w, was, h) ];
    }) (λ k x e. from_self s.views k x e) (from_none s.views);
    own = each (λ k x. SaysOwn j.workers s.views k x) (λ some_part. inl (v, at, live, refl, refl, refl))
        (λ k x e some_part. inl (x, e, some_part, refl, refl, refl)) (λ some_part. absurd (omega arith));
    overs = each (λ k x. x.loops.over ≤ x.parts) (let c = (hands id v at).overs in let d = (hands other w was).overs in omega arith)
        (λ k x e. (hands k x e).overs) (omega arith);
    held = each (λ k x. x.loops.over ≤ length x.loops.pending) (let a = length-append v.loops.pending w.loops.pending in
        let c = (hands id v at).held in let d = (hands other w was).held in omega arith) (λ k x e. (hands k x e).held) (omega arith);
    crossed = each (λ k x. 0 < x.loops.over → INDEXES < word_at (layout_of j) s.words positions_at)
        (λ some_over. elim (zero_or v.loops.over) [
          | inl z ↦ (hands other w was).crossed (omega arith)
          | inr z ↦ (hands id v at).crossed z
        ])
        (λ k x e. (hands k x e).crossed) (λ some_over. absurd (omega arith));
    longer = let a = len in let c = len2 in omega arith;
  });
  fits = each (Fits j lies s.words) (record {
    setup = λ some_part. fit.setup live;
    own = λ some_part. fit.own live;
    owns = λ some_part. let o = fit.owns live in record {
      room = o.room;
      spots = o.spots;
      under = o.under;
      built = o.built;
      stack =
          o.stack;
      framed = o.framed;
      falls = o.falls;
      old = o.old;
      low = o.low;
    };
    running = fit.running;
    halted = λ e i. elim (in_append v.tasks.halted (w.tasks.running ++ w.tasks.halted) e i) [
      | inl h ↦ fit.halted e h
      | inr h ↦ (elim (in_append w.tasks.running w.tasks.halted e h) [ inl g ↦ fit2.running e g | inr g ↦ fit2.halted e g ])
    ];
    ran = λ e i. elim (in_append v.tasks.ran w.tasks.ran e i) [ inl h ↦ fit.ran e h | inr h ↦ fit2.ran e h ];
    begun = let a = fit.begun in let c = length-append v.tasks.halted (w.tasks.running ++ w.tasks.halted) in
        let d = length-append v.tasks.ran w.tasks.ran in omega arith;
    mine = λ m i. elim (in_append v.region.mine w.region.mine m i) [ inl h ↦ fit.mine m h | inr h ↦ fit2.mine m h ];
    given = λ m i. elim (in_append v.tasks.given w.tasks.given m i) [ inl h ↦ fit.given m h | inr h ↦ fit2.given m h ];
    known = λ p i. elim (in_append v.seen.known w.seen.known p i) [ inl h ↦ fit.known p h | inr h ↦ fit2.known p h ];
    notes = fit.notes;
    stop = λ e. elim (or_true v.seen.stop w.seen.stop e) [ inl h ↦ fit.stop h | inr h ↦ fit2.stop h ];
    line = fit.line;
  }) (λ k x e. f.fits k x e) (record {
    setup = λ some_part. absurd (omega arith);
    own = λ some_part. absurd (omega arith);
    owns = λ some_part. absurd (omega arith);
    running = λ e i. elim i [ ];
    halted = λ e i. elim i [ ];
    ran = λ e i. elim i [ ];
    begun = omega arith;
    mine = λ m i. elim i [ ];
    given = λ m i. elim i [ ];
    known = λ p i. elim i [ ];
    notes = λ m i. elim i [ ];
    stop = λ e. false_is e;
    line = λ m i. elim i [ ];
  });
  unmade = λ a from below. f.unmade a (let b = len in let c = len2 in omega arith) below;
})
  where
    there_is : (lies : Lies) × Facts j lies s
    there_is = inside opening s j id v hold at live setup

    lies : Lies
    lies = there_is.0

    f : Facts j lies s
    f = there_is.1

    b : View
    b = together v w

    vs : List View
    vs = set s.views id b

    len : length vs ≡ length s.views
    len = length-set s.views id b

    len2 : length (set vs other spent) ≡ length vs
    len2 = length-set vs other spent

    was : get_elem? s.views other ≡ some w
    was = ⊎_elim (λ (x : (other ≡ id) × (b ≡ w)). absurd (apart x.0)) (λ (x : (other ≢ id) × (get_elem? s.views other ≡ some w)). x.1)
        (at_set s.views id other b w at')

    fit : Fits j lies s.words id v
    fit = f.fits id v at

    hands : (k : ℕ) (x : View) → get_elem? s.views k ≡ some x
        → Handles j.workers lies f.looped.owner (loop_words (layout_of j) s.words) (hands_of s.views) k (hand_of x)
    hands k x e = f.looped.handles k (hand_of x) (at_hand s.views k x e)

    hands_both : (x : ℕ) → in_hand x (hand_of b) ≡ in_hand x (hand_of v) + in_hand x (hand_of w)
    hands_both x =
        let a = weigh_append (λ (y : Share). between y.low y.high x) v.loops.pending w.loops.pending in
        let c = weigh_append (λ (y : Share). between y.low y.high x) v.loops.pieces w.loops.pieces in
        let d = weigh_append (λ (e : IndexRun). between e.position (suc e.position) x) v.loops.taken w.loops.taken in
        let e = weigh_append (λ (e : IndexRun). between e.position (suc e.position) x) v.loops.retired w.loops.retired in omega arith

    fit2 : Fits j lies s.words other w
    fit2 = f.fits other w was

    sums : (g : View → ℕ) → g b ≡ g v + g w → g spent ≡ 0 → weigh g (set vs other spent) ≡ weigh g s.views
    sums g added none_left = let h = weigh_set g s.views id v b at in let k = weigh_set g vs other w spent at' in omega arith

    each : (P : ℕ → View → Type 0) → P id b → ((k : ℕ) (x : View) → get_elem? s.views k ≡ some x → P k x) → P other spent
        → (k : ℕ) (x : View) → get_elem? (set vs other spent) k ≡ some x → P k x
    each P own old gone = each_view P vs other spent gone (λ k x ne e. each_view P s.views id b own (λ i y _ d. old i y d) k x e)

    both : {A : Type 0} (g : A → Path) (xs ys : List A) (q : Path) → times q (map g (xs ++ ys)) ≡ times q (map g xs) + times q (map g ys)
    both g xs ys q = ap (times q) (map-append g xs ys) ∙ times_append q (map g xs) (map g ys)

    begun_both : (q : Path) → begun_in b q ≡ begun_in v q + begun_in w q
    begun_both q = let a = both path_of v.tasks.halted (w.tasks.running ++ w.tasks.halted) q in
        let c = both path_of w.tasks.running w.tasks.halted q in let d = both path_of v.tasks.ran w.tasks.ran q in omega arith

    positions_both : positions_in b ≡ positions_in v + positions_in w
    positions_both =
        let a = weigh_append indexes_of v.tasks.running ((v.tasks.halted ++ (w.tasks.running ++ w.tasks.halted)) ++ (v.tasks.ran ++ w.tasks.ran)) in
        let c = weigh_append indexes_of (v.tasks.halted ++ (w.tasks.running ++ w.tasks.halted)) (v.tasks.ran ++ w.tasks.ran) in
        let d = weigh_append indexes_of v.tasks.halted (w.tasks.running ++ w.tasks.halted) in
        let e = weigh_append indexes_of w.tasks.running w.tasks.halted in
        let g = weigh_append indexes_of v.tasks.ran w.tasks.ran in
        let h = weigh_append indexes_of v.tasks.running (v.tasks.halted ++ v.tasks.ran) in
        let i = weigh_append indexes_of v.tasks.halted v.tasks.ran in
        let k = weigh_append indexes_of w.tasks.running (w.tasks.halted ++ w.tasks.ran) in
        let n = weigh_append indexes_of w.tasks.halted w.tasks.ran in
        let o = weigh_append share_long v.loops.pending w.loops.pending in omega arith

    -- what was drawn over the limit by either is pending with the one
    over_joined : weigh (λ (y : View). over_long (hand_of y)) s.views ≤ weigh (λ (y : View). over_long (hand_of y)) (set vs other spent)
    over_joined =
        let a = weigh_set (λ (y : View). over_long (hand_of y)) s.views id v b at in
        let c = weigh_set (λ (y : View). over_long (hand_of y)) vs other w spent at' in
        let d : weigh share_long (v.loops.pending ++ w.loops.pending) ≡ weigh share_long v.loops.pending + weigh share_long w.loops.pending
        = weigh_append share_long v.loops.pending w.loops.pending in
        let e : over_long (hand_of v) + over_long (hand_of w) ≤ over_long (hand_of b)
        = subst (λ n. over_long (hand_of v) + over_long (hand_of w) ≤ cond (nat_eq (v.loops.over + w.loops.over) 0) 0 n) (sym d)
        (over_sum v.loops.over w.loops.over (weigh share_long v.loops.pending) (weigh share_long w.loops.pending)) in
        let z : over_long (hand_of spent) ≡ 0 = none_spent (nat_eq 0 0) in omega arith
      where
        none_spent : (b : Bool) → cond {A = ℕ} b 0 0 ≡ 0
        none_spent true = refl
        none_spent false = refl

        some_over : (n x : ℕ) → 0 < n → cond (nat_eq n 0) 0 x ≡ x
        some_over n x h = go (nat_eq n 0) refl
          where
            go : (b : Bool) → nat_eq n 0 ≡ b → cond b 0 x ≡ x
            go true e = absurd (let z = eqb-true n 0 e in omega arith)
            go false e = refl

        over_sum : (a c x y : ℕ) → cond (nat_eq a 0) 0 x + cond (nat_eq c 0) 0 y ≤ cond (nat_eq (a + c) 0) 0 (x + y)
        over_sum zero zero x y = omega arith
        over_sum zero (suc c) x y = let d = some_over (0 + suc c) (x + y) (omega arith) in let e = some_over (suc c) y (omega arith) in omega arith
        over_sum (suc a) zero x y = let d = some_over (suc a + 0) (x + y) (omega arith) in let e = some_over (suc a) x (omega arith) in omega arith
        over_sum (suc a) (suc c) x y = let d = some_over (suc a + suc c) (x + y) (omega arith) in
            let e = some_over (suc a) x (omega arith) in let g = some_over (suc c) y (omega arith) in omega arith

idle_post : (a : ℕ) → 0 ≡ packed_post (P.Task a) → ⊥
unfolding packed_post
idle_post a e = omega arith

idle_zero : packed_post P.Idle ≡ 0
unfolding packed_post
idle_zero = refl

abbrev no_pair : Pair
no_pair = record { low = 0; high = 0 }

pair_zero : pair_in 0 ≡ no_pair
unfolding pair_in
pair_zero = refl

piece_zero : piece_in 0 ≡ 0
unfolding piece_in
piece_zero = refl

beside_zero : piece_beside 0 0 ≡ no_pair
unfolding piece_in
beside_zero = refl

-- the table as it is made
module _ (j : Setup) (accepted : IsAccepted j.program) (laws : Laws (machine_of j.program) (rights_in j.program)) (ws : List ℕ) (some_workers : 0 < j.workers)
    (few_workers : j.workers ≤ 8) (op : IsOpening j ws) where
  abbrev pub main : Lie
  main = new_lie main_berth

  abbrev pub lies : Lies
  lies = put (λ _. none) [] (some main)

  abbrev m : Machine
  m = machine_of j.program

  main_there : lies [] ≡ some main
  main_there = put_here (λ _. none) [] (some main)

  root_is : get_of j lies [] ≡ fresh m main_placed
  root_is = get_at j lies [] main main_there

  no_kids : counts_of j lies [] ≡ 0
  no_kids = ap (forks_of j) root_is

  forest_is : (named m levels (core_of j lies (elements (layout_of j) ws))).forest ≡ Node (fresh m main_placed) Nil Nil
  forest_is = λ i. Node (root_is i) (grown_none m levels (get_of j lies) (counts_of j lies) no_kids i) Nil

  all_there : (p : Path) → IsHere j lies p → (t : Lie) × (lies p ≡ some t)
  all_there [] h = (main, main_there)
  all_there (k ∷ p) h = absurd (go levels h)
    where
      go : (depth : ℕ) → IsThere depth (counts_of j lies) (k ∷ p) → ⊥
      go zero h = h
      go (suc depth) h = let a = h.0 in let b = no_kids in omega arith

  nil_child : (p : Path) (k : ℕ) → [] ≡ child p k → ⊥
  nil_child [] k e = cc
  nil_child (x ∷ p) k e = cc

  only : (p : Path) (t : Lie) → lies p ≡ some t → ([] ≡ p) × (main ≡ t)
  only p t e = elim (at_put (λ _. none) [] p main t e) [ inl h ↦ h | inr h ↦ absurd (some-ne-none t (sym h.1)) ]

  -- a fact of main's lie is one of each
  each_lie : (P : Path → Lie → Type 0) → P [] main → (p : Path) (t : Lie) → lies p ≡ some t → P p t
  each_lie P h p t e = subst (λ (z : Path × Lie). P z.0 z.1) (λ i. ((only p t e).0 i, (only p t e).1 i)) h

  main_mine : (p : Path) → mine_in (first_view j) p + 0 ≡ tally is_there (lies p)
  main_mine p = elim (put_cases (λ _. none) [] (some main) p) [
    | inl h ↦ (let a = one_self p [] h.0 in let b : tally is_there (lies p) ≡ 1 = ap (tally is_there) h.1 in omega arith)
    | inr h ↦ (let a = one_other p [] h.0 in let b : tally is_there (lies p) ≡ 0 = ap (tally is_there) h.1 in omega arith)
  ]

  none_yet : (f : Stage → ℕ) (p : Path) → f Waits ≡ 0 → 0 ≡ tally f (lies p)
  none_yet f p zero_now = elim (put_cases (λ _. none) [] (some main) p) [
    | inl h ↦ sym (ap (tally f) h.1 ∙ zero_now)
    | inr h ↦ sym
        (ap (tally f) h.1)
  ]

  -- a fact of the first view is one of each
  each_first : (P : ℕ → View → Type 0) → P 0 (first_view j) → (seat : ℕ) (v : View) → get_elem? (first_view j ∷ []) seat ≡ some v
      → P seat v
  each_first P h zero v e = subst (P 0) (some-injective (first_view j) v e) h
  each_first P h (suc seat) v e = absurd (some-ne-none v (sym e))

  mine_first : (x : Spot) → In x (main_spot ∷ []) → IsPublished lies x
  mine_first x here = (main, main_there, refl)
  mine_first x (there i) = elim i [ ]

  says_main : (f n : ℕ) → f < FIELDS → field_of main f ≡ some n → word_at (layout_of j) ws (record_word 0 f) ≡ n
  says_main zero n less is = op.state ∙ some-injective _ n is
  says_main (suc zero) n less is = op.head ∙ some-injective _ n is
  says_main (suc (suc zero)) n less is = op.parent ∙ some-injective 0 n is
  says_main (suc (suc (suc zero))) n less is = op.extent ∙ some-injective _ n is
  says_main (suc (suc (suc (suc zero)))) n less is = op.unretired ∙ some-injective 0 n is
  says_main (suc (suc (suc (suc (suc k))))) n less is = absurd (no_argument (nat_lt k 8) is)
    where
      no_argument : (b : Bool) → cond b (get_elem? [] k) (access_word (get_elem? [] (k - 8))) ≡ some n → ⊥
      no_argument true e = some-ne-none n (sym e)
      no_argument false e = some-ne-none n (sym e)

  spot_first : (a : ℕ) (x : Spot) → get_elem? (main_spot ∷ []) a ≡ some x → (a ≡ 0) × (main_spot ≡ x)
  spot_first zero x e = (refl, some-injective main_spot x e)
  spot_first (suc a) x e = absurd (some-ne-none x (sym e))

  -- words of the first region are those of frame 0 or none
  first_low : (a : ℕ) → a < RECORDS → word_at (layout_of j) ws (record_word (own_record 0 a) 0) ≤ frame_floor 1
  first_low a less = elim (ℕ_discrete (own_record 0 a) 0) [
    | yes e ↦ (let h : word_at (layout_of j) ws (record_word (own_record 0 a) 0) ≡ packed_state (state_of main) = ap
        (λ (b : ℕ). word_at (layout_of j) ws (record_word b 0)) e ∙ op.state in
        let k = Rattle.kt_rule.proofs.Words.below_next (state_of main)
        (record { frame_fits = omega arith; fork_fits = omega arith; worker_fits = omega arith; blank_if_empty = tt }) in omega arith)
    | no n ↦ (let h = op.others (own_record 0 a) n (omega arith) in omega arith)
  ]

  -- no word of a worker says anything of loops
  no_word : (o : Own) (k : ℕ) → own_word (layout_of j) ws o k ≡ 0
  no_word o k = go (nat_lt k j.workers) refl
    where
      go : (b : Bool) → nat_lt k j.workers ≡ b → cond b (word_at (layout_of j) ws (worker_word k o)) 0 ≡ 0
      go true e = op.own k o (let h : k < j.workers = grind (arith, nat_tests) in h)
      go false e = refl

  abbrev no_words : LoopWords
  no_words = record { drawn = 0; interval = λ k. no_pair; home = λ k. 0; given = λ k. 0; piece = λ k. no_pair }

  words_are : loop_words (layout_of j) ws ≡ no_words
  words_are =
      let intervals = fun_ext (λ k. ap pair_in (no_word interval k) ∙ pair_zero) in
      let homes = fun_ext (λ k. no_word home k) in
      let posts = fun_ext (λ k. ap piece_in (no_word post k) ∙ piece_zero) in
      let answers = fun_ext (λ k. (λ i. piece_beside (no_word post k i) (no_word answer k i)) ∙ beside_zero) in
      λ i. record { drawn = op.positions i; interval = intervals i; home = homes i; given = posts i; piece = answers i }

  no_index : (g : Phase → ℕ) (p : Path) (i : ℕ) → 0 ≡ task_tally g i (lies p)
  no_index g p i = elim (put_cases (λ _. none) [] (some main) p) [
    | inl h ↦ sym (ap (task_tally g i) h.1)
    | inr h ↦ sym (ap (task_tally g i) h.1)
  ]

  opened : Looped j.workers lies no_words (hands_of (first_view j ∷ []))
  opened = record {
    owner = λ _. [];
    positions = λ x. let a = sum_zero j.workers (λ k. in_pair no_pair x) (λ k less. omega arith) in
        let b = sum_zero j.workers (λ k. in_given 0 no_pair x) (λ k less. refl) in omega arith;
    owned = λ p t x is low high. let a = ap (λ (z : Lie). z.first + length z.indexes) (only p t is).1 in absurd (omega arith);
    homes = λ k less long. absurd (omega arith);
    given = λ k a less is. absurd (omega arith);
    booked = each_lie (λ p t. IsBooked t) (record {
      early = λ _. (refl, refl);
      whole = inl refl;
      rises = tt;
      fresh = λ i x e. absurd (some-ne-none x (sym e));
      book = record { pieces = tt; covers = λ i. refl; none_ended = tt; retired = omega arith };
    });
    shown = λ p t q is live. each_lie
        (λ p t. shown_pieces j.workers no_words (hands_of (first_view j ∷ [])) t.berth.at q ≡ count_piece q t.first t.pieces)
        (let a = sum_zero j.workers (λ k. piece_is 0 0 0 0 q) (λ k less. no_piece 0 0 0 0 q (λ e long. absurd (omega arith))) in omega arith) p t is;
    taken = λ p i. no_index is_taken p i;
    retired = λ p i. no_index is_retired p i;
    left = each_lie (λ p t. t.unretired + retired_of p (hands_of (first_view j ∷ [])) ≡ t.berth.call.length) (omega arith);
    childless = λ p i t u is child_is. absurd (nil_child p i (only (child p i) u child_is).0);
    handles = first_hand;
    unmade = λ k from less. (omega arith, refl);
    bound = omega arith;
    beyond = omega arith;
  }
    where
      first_hand : (seat : ℕ) (h : Hand) → get_elem? (hands_of (first_view j ∷ [])) seat ≡ some h
          → Handles j.workers lies (λ _. []) no_words (hands_of (first_view j ∷ [])) seat h
      first_hand zero h e = subst (Handles j.workers lies (λ _. []) no_words (hands_of (first_view j ∷ [])) 0)
          (some-injective (hand_of (first_view j)) h e) (record {
            pending = λ x i. elim i [ ];
            pieces = λ x i. elim i [ ];
            taken = λ e i. elim i [ ];
            retired = λ e i. elim i [ ];
            placed = λ told x i. elim i [ ];
            emptied = λ p i. elim i [ ];
            free = λ live d. omega arith;
            home = λ live. refl;
            sight = λ live n d. absurd (let z : None ≡ Some n = d in cc);
            overs = omega arith;
            held = omega arith;
            crossed = λ some_over. absurd (omega arith);
          })
      first_hand (suc seat) h e = absurd (some-ne-none h (sym e))

  pub opens : Facts j lies record { words = ws; homes = []; views = first_view j ∷ [] }
  opens = record {
    crew = few_workers;
    accepted = accepted;
    laws = laws;
    core = record {
      lawful = subst (λ (z : Forest m × List ℕ). Lawful m (rights_in j.program) main_placed (opened_with j.program.families j.input)
          (record { forest = z.0; store = z.1 })) (λ i. (sym forest_is i, sym op.input i))
          (order.opens m (rights_in j.program) laws main_placed (opened_with j.program.families j.input) (is_main refl));
      there = each_lie (λ p t. IsHere j lies p) tt;
      parents = λ p i t is. absurd (nil_child p i (only (child p i) t is).0);
      index_there = λ p t i x is there. absurd (some-ne-none x (sym there ∙ ap (λ (z : List IndexLie). get_elem? z i)
          (ap (λ (z : Lie). z.indexes) (sym (only p t is).1))));
      all = λ p h. inl (all_there p h);
    };
    words = record {
      wide = op.wide;
      inside = each_lie (λ p t. t.berth.at < RECORDS * j.workers) (omega arith);
      sound = each_lie Sound (record {
        state = record { frame_fits = omega arith; fork_fits = omega arith; worker_fits = omega arith; blank_if_empty = tt };
        head = record {
          task_fits = omega arith;
          depth_fits = omega arith;
          number_fits = omega arith;
          ints_fit = omega arith;
          accesses_fit = omega arith;
        };
        deep = refl;
        accesses = λ k a is. absurd (some-ne-none a (sym is));
        fresh = λ d. (refl, refl);
      });
      says = each_lie (λ p t. (f n : ℕ) → f < FIELDS → field_of t f ≡ some n
          → word_at (layout_of j) ws (record_word t.berth.at f) ≡ n) says_main;
      alone = λ p q t u e d _ _ _. sym (only p t e).0 ∙ (only q u d).0;
      named = λ a less. elim (ℕ_discrete a 0) [
        | yes a_is ↦ inr (inl ([], main, main_there, refl, sym a_is))
        | no a_not ↦ inl
            (op.others a a_not less)
      ];
      beside = λ q i k t u e d. absurd (nil_child q i (only (child q i) t e).0);
      numbered = λ q i t e. absurd (nil_child q i (only (child q i) t e).0);
      parents = λ q i t u e d. absurd (nil_child q i (only (child q i) t e).0);
      above = λ q i t u e d live. absurd (nil_child q i (only (child q i) t e).0);
      heads = op.heads;
      accesses = op.accesses;
    };
    root = (main, main_there, refl, refl);
    counts = record {
      parts = omega arith;
      mine = main_mine;
      claimed = λ p. none_yet is_claimed p refl;
      given = λ p. none_yet is_given p refl;
      begun = λ p. none_yet is_begun p refl;
      few = omega arith;
      made = each_first (λ k x. 0 < x.made → (k ≡ 0) × (1 ≡ x.made)) (λ _. (refl, refl));
      idle = each_first (λ k x. x.parts ≡ 0 → x ≡ spent) (λ e. absurd (omega arith));
    };
    asked = record {
      posts = λ k less. (P.Idle, record { number_fits = omega arith }, op.own k post less ∙ sym idle_zero);
      leads = λ k less. let e = op.own k request less in omega arith;
      tasks = λ k a less e. absurd (idle_post a (sym (op.own k post less) ∙ e));
      posted = λ p t k e st. absurd (waits_not k (ap (λ (z : Lie). z.stage) (only p t e).1 ∙ st));
      promised = λ p. none_yet is_promised p refl;
      promises = each_first (λ k x. (y : Promise) → In y x.tasks.promised → IsPromised lies y) (λ y i. elim i [ ]);
      desks = each_first (λ k x. 0 < x.parts → Desked (layout_of j) ws k x.desk)
          (λ live. quiet_is (layout_of j) ws 0 (op.own 0 post some_workers));
      unasked = λ k from less. op.own k post less;
    };
    drawn = record {
      count = op.drawn;
      hands = λ p. omega arith;
      begun = each_first (λ k x. (p : Path) → In p x.draws.hands → 0 < begun_in x p) (λ p i. elim i [ ]);
      bound = let d = op.drawn in omega arith;
      overs = each_first (λ k x. x.draws.over ≤ x.parts) (omega arith);
      held = each_first (λ k x. x.draws.over ≤ length x.draws.hands) (omega arith);
      crossed = each_first (λ k x. 0 < x.draws.over → TASKS < word_at (layout_of j) ws drawn_at) (λ some_over. absurd (omega arith));
    };
    positions = record {
      count = op.positions;
      pending = λ p. omega arith;
      begun = each_first (λ k x. (y : Share) → In y x.loops.pending → 0 < begun_in x y.spot.path) (λ y i. elim i [ ]);
    };
    stopped = record { word = inl op.stop };
    looped = subst (λ (z : LoopWords). Looped j.workers lies z (hands_of (first_view j ∷ []))) (sym words_are) opened;
    fits = each_first (Fits j lies ws) (record {
      setup = λ live. refl;
      own = λ live. refl;
      owns = λ live. record {
        room = omega arith;
        spots = λ a x e. subst (λ (z : ℕ × Spot). Rattle.kt_rule.specs.Facts.IsOwn lies 0 z.0 z.1)
            (λ i. (sym (spot_first a x e).0 i, (spot_first a x e).1 i)) (refl, (main, main_there, refl, refl));
        under = λ p t a e t_live less at. let a_is : a ≡ 0 = (let h = ap (λ (z : Lie). z.berth.at) (only p t e).1 in omega arith) in
            (main_spot, ap (get_elem? (main_spot ∷ [])) a_is, (only p t e).0);
        built = λ less b i. elim i [ ];
        stack = omega arith;
        framed = λ e i. elim i [ ];
        falls = tt;
        old = first_low;
        low = λ e es is. absurd (none_runs is);
      };
      running = λ e i. elim i [ ];
      halted = λ e i. elim i [ ];
      ran = λ e i. elim i [ ];
      begun = omega arith;
      mine = mine_first;
      given = λ x i. elim i [ ];
      known = λ q i. elim i [ ];
      notes = λ x i. elim i [ ];
      stop = λ e. false_is e;
      line = λ x i. elim i [ ];
    });
    unmade = λ a from less. op.others a (λ e. omega arith) less;
  }
    where
      waits_not : (k : ℕ) → Waits ≡ Posted k → ⊥
      waits_not k e = cc

      none_runs : {e : Execution} → {es : List Execution} → [] ≡ e ∷ es → ⊥
      none_runs h = cc

one_view : (id : ℕ) (w : View) → get_elem? (blank_view ∷ []) id ≡ some blank_view → set (blank_view ∷ []) id w ≡ w ∷ []
one_view zero w e = refl
one_view (suc id) w e = absurd (some-ne-none blank_view (sym e))

no_homes : (hs : List (o.Option Slots)) → length hs ≡ 0 → hs ≡ []
no_homes [] e = refl
no_homes (h ∷ hs) e = absurd (omega arith)

-- the one seat is told the setup, by a load of any word
pub tells : (opening : List ℕ) (id : ℕ) (me : Me Slots View) (j : Setup) (i : ℕ) → IsAccepted j.program → Laws (machine_of j.program) (rights_in j.program)
    → 0 < j.workers → j.workers ≤ 8 → IsOpening j opening → me.0 ≡ blank_view
    → Allows (Holds opening) 0 id me i (λ n. n) (Tells (Opens j) (step 0 i 0 0 none) me)
unfolding Holds
tells opening id me j i accepted laws some_workers few_workers op blank s (inl (ws, vs)) none_out at _ = (
  first_view j,
  keeps,
  tt,
  inr (
    j,
    (
      lies j accepted laws opening some_workers few_workers op,
      subst (λ (z : List ℕ × List (o.Option Slots) × List View). Facts j
          (lies j accepted laws opening some_workers few_workers op) record { words = z.0; homes = z.1; views = z.2 })
          (λ k. (
            (sym ws ∙ sym (set_word s.words i)) k,
            sym (no_homes s.homes none_out) k,
            sym
                (ap (λ (z : List View). set z id (first_view j)) vs ∙ one_view id (first_view j)
                (subst (λ (z : List View). get_elem? z id ≡ some blank_view) vs (at ∙ ap some blank))) k,
          ))
          (opens j accepted laws opening some_workers few_workers op),
    ),
  ),
  (refl, refl),
)
tells opening id me j i accepted laws some_workers few_workers op blank s (inr (k, (l, f))) none_out at _ =
    let told = (f.fits id me.0 at).setup (let e = ap (λ (z : View). z.parts) blank in omega arith) in
    let e : None ≡ Some k = sym (ap (λ (z : View). z.setup) blank) ∙ told in absurd (cc e)
