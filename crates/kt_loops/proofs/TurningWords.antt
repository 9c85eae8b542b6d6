-- What a store of one word changes of the words of loops, and of the record of a running task that changes as a loop.
use Rattle.std.proofs.Common.{◌≡◌, ◌≢◌, ℕ, zero, suc, ◌+◌, ◌*◌, ◌/◌, ◌%◌, ◌^◌, ◌<◌, ◌≤◌, ◌⊎◌, nat_lt, Bool, true, false, cond, List, [], ◌∷◌, set, length, length-set, sym, refl, ap, ◌∙◌, subst, inl, inr, arith}
use Rattle.std.proofs.lemmas.Bool.Decides.{nat_tests}
use mathlib.Core.Option.{some}
use mathlib.Core.Path.{fun_ext}
use Rattle.kt_runs.specs.ByPath.{Path}
use Rattle.kt_words.specs.Places.{Place, place, total_of, IsWithin, record_word, worker_word, Own, request, post, answer, interval, home}
use Rattle.kt_words.specs.Words.{packed_pair, IsPair}
use Rattle.kt_words.specs.declared.layouts.Layout.{Layout}
use Rattle.kt_words.specs.declared.layouts.TheConstants.{RECORDS, FIELDS}
use Rattle.kt_words.specs.declared.pairs.Pair.{Pair}
use Rattle.kt_rule.specs.declared.views.View.{View}
use Rattle.kt_rule.specs.Lies.{Lie, Lies, is_gone}
use Rattle.kt_rule.specs.Records.{word_at, drawn_at, positions_at, stop_at}
use Rattle.kt_rule.specs.Facts.{Words, runs_as}
use Rattle.kt_rule.specs.LoopWords.{pair_in, piece_in, piece_beside, own_word, loop_words, hand_of, hands_of}
use Rattle.kt_rule.proofs.Shelf as shelf
use Rattle.kt_rule.proofs.LoopsStay.{own_there, words_same}
use Rattle.kt_rule.proofs.Words.{IsPlain, says_field}
use Rattle.kt_pieces.specs.Changes.{at_worker}
use Rattle.kt_pieces.proofs.Changed.{one_or, at_here, at_else}
use Rattle.kt_loops.proofs.Turning.{LoopTurn}
use Rattle.kt_loops.proofs.TurningHands.{IsLoopWord, desks_else}

pub hands_moved : (views : List View) (id : ℕ) (w : View) → hands_of (set views id w) ≡ set (hands_of views) id (hand_of w)
hands_moved [] id w = refl
hands_moved (x ∷ views) zero w = refl
hands_moved (x ∷ views) (suc id) w = ap (λ hs. hand_of x ∷ hs) (hands_moved views id w)

-- PAIRS

-- the halves of a word make the word
pub pair_back : (n : ℕ) → packed_pair (pair_in n) ≡ n
unfolding pair_in packed_pair
pair_back n = omega arith

pub pair_fits : (n : ℕ) → n < 2 ^ 64 → IsPair (pair_in n)
unfolding pair_in
pair_fits n less = record { low_fits = omega (arith, less); high_fits = omega (arith, less) }

-- where the lower one fits, the word tells both
pub pair_told : (p : Pair) → p.low < 2 ^ 32 → pair_in (packed_pair p) ≡ p
unfolding pair_in packed_pair
pair_told p a =
    let low : (p.low + 2 ^ 32 * (p.high + 2 ^ 32 * 0)) % 2 ^ 32 ≡ p.low = omega arith in
    let high : (p.low + 2 ^ 32 * (p.high + 2 ^ 32 * 0)) / 2 ^ 32 ≡ p.high = omega arith in
    λ i. record { low = low i; high = high i }

pub pair_there : (p : Pair) → IsPair p → pair_in (packed_pair p) ≡ p
pair_there p fits = pair_told p fits.low_fits

-- a word tells its pair
pub pair_same : (p q : Pair) → IsPair p → IsPair q → packed_pair p ≡ packed_pair q → p ≡ q
pair_same p q fits_p fits_q e = sym (pair_there p fits_p) ∙ (ap pair_in e ∙ pair_there q fits_q)

module _ (l : Layout) (ws : List ℕ) where
  -- a word of one worker that stays
  own_stays : (ws' : List ℕ) (o : Own) (i : ℕ) → (i < l.workers → word_at l ws' (worker_word i o) ≡ word_at l ws (worker_word i o))
      → own_word l ws' o i ≡ own_word l ws o i
  own_stays ws' o i same = go (nat_lt i l.workers) refl
    where
      go : (b : Bool) → nat_lt i l.workers ≡ b
          → cond b (word_at l ws' (worker_word i o)) 0 ≡ cond b (word_at l ws (worker_word i o)) 0
      go true e = same (grind (arith, nat_tests))
      go false e = refl

  module _ (k : ℕ) (o : Own) (less : k < l.workers) (n : ℕ) where
    abbrev ws' : List ℕ
    ws' = set ws (place l (worker_word k o)) n

    other_own : (i : ℕ) (p : Own) → p ≢ o → own_word l ws' p i ≡ own_word l ws p i
    other_own i p ne = own_stays ws' p i (λ low. shelf.else l ws (worker_word k o) (worker_word i p) n less low
        (λ e. let r : p ≡ o = cc in ne r))

    same_own : (i : ℕ) → i ≢ k → own_word l ws' o i ≡ own_word l ws o i
    same_own i ne = own_stays ws' o i (λ low. shelf.else l ws (worker_word k o) (worker_word i o) n less low
        (λ e. let r : i ≡ k = cc in ne r))

    own_now : total_of l ≤ length ws → own_word l ws' o k ≡ n
    own_now wide = own_there l ws' o k less ∙ shelf.here l ws (worker_word k o) n less wide

    own_drawn : word_at l ws' positions_at ≡ word_at l ws positions_at
    own_drawn = shelf.else l ws (worker_word k o) positions_at n less tt (λ e. cc)

  -- a home word
  pub home_set : (k : ℕ) → k < l.workers → total_of l ≤ length ws → (n : ℕ)
      → loop_words l (set ws (place l (worker_word k home)) n) ≡ record (loop_words l ws) { home = at_worker (loop_words l ws).home k n }
  home_set k less wide n =
      let intervals = fun_ext (λ (i : ℕ). ap pair_in (other_own k home less n i interval (λ e. cc))) in
      let homes : (λ (i : ℕ). own_word l (ws' k home less n) home i) ≡ at_worker (loop_words l ws).home k n = fun_ext (λ (i : ℕ). elim (one_or i k) [
        | inl e ↦ ap (own_word l (ws' k home less n) home) e ∙ (own_now k home less n wide ∙ (sym (at_here (loop_words l ws).home k n)
            ∙ ap (at_worker (loop_words l ws).home k n) (sym e)))
        | inr ne ↦ same_own k home less n i ne ∙ sym (at_else (loop_words l ws).home k n i ne)
      ]) in
      let givens = fun_ext (λ (i : ℕ). ap piece_in (other_own k home less n i post (λ e. cc))) in
      let pieces = fun_ext (λ (i : ℕ). (λ z. piece_beside (other_own k home less n i post (λ e. cc) z) (other_own k home less n i answer (λ e. cc) z))) in
      λ z. record { drawn = own_drawn k home less n z; interval = intervals z; home = homes z; given = givens z; piece = pieces z }

  -- an interval
  pub interval_set : (k : ℕ) → k < l.workers → total_of l ≤ length ws → (n : ℕ)
      → loop_words l (set ws (place l (worker_word k interval)) n)
      ≡ record (loop_words l ws) { interval = at_worker (loop_words l ws).interval k (pair_in n) }
  interval_set k less wide n =
      let intervals : (λ (i : ℕ). pair_in (own_word l (ws' k interval less n) interval i)) ≡ at_worker (loop_words l ws).interval k (pair_in n) = fun_ext (λ (i : ℕ). elim (one_or i k) [
        | inl e ↦ ap (λ (x : ℕ). pair_in (own_word l (ws' k interval less n) interval x)) e ∙ (ap pair_in (own_now k interval less n wide)
            ∙ (sym (at_here (loop_words l ws).interval k (pair_in n)) ∙ ap (at_worker (loop_words l ws).interval k (pair_in n)) (sym e)))
        | inr ne ↦ ap pair_in (same_own k interval less n i ne) ∙ sym (at_else (loop_words l ws).interval k (pair_in n) i ne)
      ]) in
      let homes = fun_ext (λ (i : ℕ). other_own k interval less n i home (λ e. cc)) in
      let givens = fun_ext (λ (i : ℕ). ap piece_in (other_own k interval less n i post (λ e. cc))) in
      let pieces = fun_ext (λ (i : ℕ). (λ z. piece_beside (other_own k interval less n i post (λ e. cc) z) (other_own k interval less n i answer (λ e. cc) z))) in
      λ z. record { drawn = own_drawn k interval less n z; interval = intervals z; home = homes z; given = givens z; piece = pieces z }

  -- a record's words are none of them
  pub record_set : (a f n : ℕ) → IsWithin l (record_word a f) → loop_words l (set ws (place l (record_word a f)) n) ≡ loop_words l ws
  record_set a f n within = words_same l ws (set ws (place l (record_word a f)) n)
      (shelf.else l ws (record_word a f) positions_at n within tt (λ e. cc))
      (λ k o less. shelf.else l ws (record_word a f) (worker_word k o) n within less (λ e. cc))

  -- the count of positions
  pub positions_set : total_of l ≤ length ws → (n : ℕ) → loop_words l (set ws (place l positions_at) n) ≡ record (loop_words l ws) { drawn = n }
  positions_set wide n =
      let now : word_at l (set ws (place l positions_at) n) positions_at ≡ n = shelf.here l ws positions_at n tt wide in
      let stay : (o : Own) (i : ℕ) → own_word l (set ws (place l positions_at) n) o i ≡ own_word l ws o i =
      (λ o i. own_stays (set ws (place l positions_at) n) o i (λ low. shelf.else l ws positions_at (worker_word i o) n tt low (λ e. cc))) in
      let intervals = fun_ext (λ (i : ℕ). ap pair_in (stay interval i)) in
      let homes = fun_ext (λ (i : ℕ). stay home i) in
      let givens = fun_ext (λ (i : ℕ). ap piece_in (stay post i)) in
      let pieces = fun_ext (λ (i : ℕ). (λ z. piece_beside (stay post i z) (stay answer i z))) in
      λ z. record { drawn = now z; interval = intervals z; home = homes z; given = givens z; piece = pieces z }

-- A RUNNING TASK CHANGES AS A LOOP, and one word with it

module _ (l : Layout) (lies : Lies) (ws : List ℕ) (p : Path) (t u : Lie) (wd : Words l lies ws) (is : lies p ≡ some t) (runner : ℕ) (was now : Bool)
    (runs : t.stage ≡ runs_as was runner) (runs_still : u.stage ≡ runs_as now runner) (berth : u.berth ≡ t.berth) where
  live : is_gone t.stage ≡ false
  live = ap is_gone runs ∙ go was
    where
      go : (b : Bool) → is_gone (runs_as b runner) ≡ false
      go true = refl
      go false = refl

  -- what its record says of it, where that is the same
  says_first : u.first ≡ t.first → word_at l ws (record_word t.berth.at 3) ≡ packed_pair (record { low = u.berth.call.length; high = u.first })
  says_first same = says_field l lies ws wd p t is live 3 (packed_pair (record { low = t.berth.call.length; high = t.first })) (omega arith) refl
      ∙ (λ i. packed_pair (record { low = (sym berth i).call.length; high = sym same i }))

  says_left : u.unretired ≡ t.unretired → word_at l ws (record_word t.berth.at 4) ≡ u.unretired
  says_left same = says_field l lies ws wd p t is live 4 t.unretired (omega arith) refl ∙ sym same

  in_table : t.berth.at < RECORDS * l.workers
  in_table = wd.inside p t is

  -- a word of loops that is no record's
  pub turn_at : (q : Place) → IsWithin l q → IsLoopWord q → (n : ℕ) → u.first ≡ t.first → u.unretired ≡ t.unretired
      → word_at l ws positions_at ≤ word_at l (set ws (place l q) n) positions_at → LoopTurn l lies ws p t u (set ws (place l q) n)
  turn_at q within of_loops n first left rises = record {
    is = is;
    runner = runner;
    was = was;
    now = now;
    runs = runs;
    runs_still = runs_still;
    berth = berth;
    long = length-set ws (place l q) n;
    states = λ a less. stays a 0 less (omega arith);
    apart = λ a f less few ne. stays a (suc f) less few;
    fields = λ a f less few x y. stays a (suc f) less few;
    first = stays t.berth.at 3 in_table (omega arith) ∙ says_first first;
    left = stays t.berth.at 4 in_table (omega arith) ∙ says_left left;
    desks = desks_else l ws q n within of_loops;
    drawn = shelf.else l ws q drawn_at n within tt of_loops.not_drawn;
    stop = shelf.else l ws q stop_at n within tt of_loops.not_stop;
    rises = rises;
  }
    where
      stays : (a g : ℕ) → a < RECORDS * l.workers → g < FIELDS → word_at l (set ws (place l q) n) (record_word a g) ≡ word_at l ws (record_word a g)
      stays a g less few = shelf.else l ws q (record_word a g) n within (less, few) (λ e. subst IsPlain (sym e) of_loops.plain)

  -- a later field of its record
  module _ (g : ℕ) (few : g < FIELDS) (later : (g ≡ 3) ⊎ (g ≡ 4)) (n : ℕ) where
    abbrev at_field : Place
    at_field = record_word t.berth.at g

    abbrev ws1 : List ℕ
    ws1 = set ws (place l at_field) n

    within : IsWithin l at_field
    within = (in_table, few)

    field_else : (a f : ℕ) → a < RECORDS * l.workers → f < FIELDS → (a ≢ t.berth.at) ⊎ (f ≢ g)
        → word_at l ws1 (record_word a f) ≡ word_at l ws (record_word a f)
    field_else a f less low ne = shelf.else l ws at_field (record_word a f) n within (less, low) (λ e. elim ne [
      | inl x ↦ (let r : a ≡ t.berth.at = cc in x r)
      | inr y ↦ (let r : f ≡ g = cc in y r)
    ])

    not_state : 0 ≢ g
    not_state e = elim later [ inl x ↦ omega (arith, x, e) | inr y ↦ omega (arith, y, e) ]

    pub turn_field : word_at l ws1 (record_word t.berth.at 3) ≡ packed_pair (record { low = u.berth.call.length; high = u.first })
        → word_at l ws1 (record_word t.berth.at 4) ≡ u.unretired → LoopTurn l lies ws p t u ws1
    turn_field first left = record {
      is = is;
      runner = runner;
      was = was;
      now = now;
      runs = runs;
      runs_still = runs_still;
      berth = berth;
      long = length-set ws (place l at_field) n;
      states = λ a less. field_else a 0 less (omega arith) (inr not_state);
      apart = λ a f less low ne. field_else a (suc f) less low (inl ne);
      fields = λ a f less low x y. field_else a (suc f) less low (inr (λ e. elim later [
        | inl z ↦ x (omega (arith, z, e))
        | inr z ↦ y (omega (arith, z, e))
      ]));
      first = first;
      left = left;
      desks = record {
        requests = λ k less. shelf.else l ws at_field (worker_word k request) n within less (λ e. cc);
        posts = λ k less. shelf.else l ws at_field (worker_word k post) n within less (λ e. cc);
        answers = λ k less. shelf.else l ws at_field (worker_word k answer) n within less (λ e. cc);
      };
      drawn = shelf.else l ws at_field drawn_at n within tt (λ e. cc);
      stop = shelf.else l ws at_field stop_at n within tt (λ e. cc);
      rises = let e : word_at l ws1 positions_at ≡ word_at l ws positions_at = shelf.else l ws at_field positions_at n within tt (λ e. cc) in omega (arith, e);
    }

  -- its first position is stored
  pub turn_first : u.unretired ≡ t.unretired
      → LoopTurn l lies ws p t u (set ws (place l (record_word t.berth.at 3)) (packed_pair (record { low = u.berth.call.length; high = u.first })))
  turn_first left = let n : ℕ = packed_pair (record { low = u.berth.call.length; high = u.first }) in
      turn_field 3 (omega arith) (inl refl) n (shelf.here l ws (record_word t.berth.at 3) n (in_table, omega arith) wd.wide)
      (field_else 3 (omega arith) (inl refl) n t.berth.at 4 in_table (omega arith) (inr (λ e. omega (arith, e))) ∙ says_left left)

  -- some of its indexes are retired
  pub turn_left : u.first ≡ t.first → LoopTurn l lies ws p t u (set ws (place l (record_word t.berth.at 4)) u.unretired)
  turn_left first = turn_field 4 (omega arith) (inr refl) u.unretired
      (field_else 4 (omega arith) (inr refl) u.unretired t.berth.at 3 in_table (omega arith) (inr (λ e. omega (arith, e))) ∙ says_first first)
      (shelf.here l ws (record_word t.berth.at 4) u.unretired (in_table, omega arith) wd.wide)
