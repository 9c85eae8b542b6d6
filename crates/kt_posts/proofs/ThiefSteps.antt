-- The steps of a thief keep the facts: it asks, looks, takes what it is answered, and withdraws.
use Rattle.std.proofs.Common.{◌≡◌, ◌≢◌, ℕ, suc, ◌+◌, ◌*◌, ◌<◌, true, false, Bool, List, ◌∷◌, set, sym, refl, ap, ◌∙◌, subst, inl, arith, ⊎_elim}
use mathlib.Core.Option.{some, some-injective}
use native.Mathlib.Decide.{ℕ_discrete}
use lib.ListN.{get_elem?}
use Rattle.atomic_table.specs.Table.{State}
use Rattle.kt_order.specs.Paths.{same_path}
use Rattle.kt_runs.specs.ByPath.{Path}
use Rattle.kt_words.specs.Places.{place, worker_word, post, answer}
use Rattle.kt_words.specs.Words.{packed_post, packed_pair, IsPost, IsPair}
use Rattle.kt_words.specs.declared.layouts.Layout.{Layout}
use Rattle.kt_words.specs.declared.posts.Post.{Post}
use Rattle.kt_words.specs.declared.posts.Post.TheVariants as P
use Rattle.kt_words.specs.declared.layouts.TheConstants.{RECORDS}
use Rattle.kt_rule.specs.declared.views.Setup.{Setup}
use Rattle.kt_rule.specs.declared.views.Spot.{Spot}
use Rattle.kt_rule.specs.declared.views.Promise.{Promise}
use Rattle.kt_rule.specs.declared.views.Desk.{Desk}
use Rattle.kt_rule.specs.declared.views.Share.{Share}
use Rattle.kt_rule.specs.declared.views.LoopHands.{LoopHands}
use Rattle.kt_rule.specs.declared.views.View.{View}
use Rattle.kt_rule.specs.Paths.{put}
use Rattle.kt_rule.specs.Lists.{one_if, In}
use Rattle.kt_rule.specs.Lies.{Posted, Given, Lie, Lies, phase_of, stand_of, is_gone, task_of}
use Rattle.kt_rule.specs.Records.{layout_of, word_at}
use Rattle.kt_rule.specs.Views.{spot_path, promise_path, promised_in, given_in}
use Rattle.kt_rule.specs.Facts.{is_claimed, is_promised, is_given, is_begun, IsGiven}
use Rattle.kt_rule.specs.Requests.{IsPromised, Desked, Asked}
use Rattle.kt_rule.specs.LoopWords.{LoopWords, Hand, piece_in, pair_in, picked, own_word, loop_words, hand_of, hands_of}
use Rattle.kt_rule.specs.LoopFacts.{IsPiece, Looped}
use Rattle.kt_rule.specs.Rule.{Slots, Facts}
use Rattle.kt_rule.proofs.Puts.{put_here, put_else, at_put}
use Rattle.kt_rule.proofs.Sums as sums
use Rattle.kt_rule.proofs.Sums.{in_cons, not_among, adds, tally_step}
use Rattle.kt_rule.proofs.LoopsStay.{own_there}
use Rattle.kt_rule.proofs.Moves.{each_view}
use Rattle.kt_steps.proofs.Steps.{none_given, none_promised, given_else, promised_else}
use Rattle.kt_steps.proofs.Asides.{seat_in}
use Rattle.kt_steps.proofs.LoopSeats.{at_hand}
use Rattle.kt_steps.proofs.Telling.{the_some}
use Rattle.kt_posts.specs.Told.{IsInRegion}
use Rattle.kt_posts.specs.Desks.{is_answer, posts, sees, gets_piece, freed, takes_task, pair_of, takes_piece}
use Rattle.kt_posts.proofs.PostWords.{post_same, idle_zero, not_idle_pos, idle_not, answer_is, posted_one, task_one}
use Rattle.kt_posts.proofs.Desking.{pair_fits, desk_step, pieces_step, desk_learned}
use Rattle.kt_posts.proofs.Asking.{post_here, post_else, post_there, request_else, answer_else, posts_now, leads_now, desks_now, unasked_now, asked_post}
use Rattle.kt_posts.proofs.PieceMoves.{piece_taken}
use Rattle.kt_posts.proofs.PieceWords.{piece_of, piece_some, pair_back, post_quiet, givens, pieces, givens_else, pieces_else, given_now, words_moved, hands_moved}
use Rattle.kt_posts.proofs.Handing.{same_task, handed}

module _ (j : Setup) (lies : Lies) (s : State Slots View) (f : Facts j lies s) (id : ℕ) (v : View) (at : get_elem? s.views id ≡ some v)
    (live : 0 < v.parts) where
  abbrev l : Layout
  l = layout_of j

  pub seat_less : id < j.workers
  seat_less = seat_in j lies s f id v at

  pub own_desk : Desked l s.words id v.desk
  own_desk = f.asked.desks id v at live

  abbrev own_post : ℕ
  own_post = word_at l s.words (worker_word id post)

  -- THE OWN POST CHANGES where nobody holds it
  module _ (o : Post) (free_to_go : (victim : ℕ) → own_post ≢ packed_post (P.Held victim)) where
    abbrev ws' : List ℕ
    ws' = set s.words (place l (worker_word id post)) (packed_post o)

    abbrev desk_then : Bool → ℕ → ℕ → Desk
    desk_then free asked word = record v.desk { free = free; asked = asked; saw = false; word = word; got = false }

    pub alone : (i : ℕ) (x : View) → i ≢ id → get_elem? s.views i ≡ some x → 0 < x.parts → In id x.desk.held → ⊥
    alone i x n e some_part g = free_to_go x.desk.victim ((f.asked.desks i x e some_part).held id g).2

    held_else : (k : ℕ) → In k v.desk.held → k ≢ id
    held_else k g d = free_to_go v.desk.victim (ap (λ (z : ℕ). word_at l s.words (worker_word z post)) (sym d) ∙ (own_desk.held k g).2)

    here_now : word_at l ws' (worker_word id post) ≡ packed_post o
    here_now = post_here l lies s.words s.views f.asked f.counts.few f.words.wide id v at id seat_less o (inl refl) alone

    pub own_desk_then : (free : Bool) (asked word : ℕ) → (free ≡ true → packed_post o ≡ 0) → (free ≡ false → 0 < packed_post o)
        → ((y : ℕ) → free ≡ false → packed_post o ≡ packed_post (P.Posted y) → y ≡ asked)
        → Desked l ws' id (desk_then free asked word)
    own_desk_then free asked word is_free busy is_asked = record {
      free = λ e. here_now ∙ is_free e;
      busy = λ e. let a = busy e in let b = here_now in omega arith;
      asked = λ y e p. is_asked y e (sym here_now ∙ p);
      lead = λ e. let c = own_desk.lead e in (
        c.0,
        request_else l lies s.words s.views f.asked f.counts.few f.words.wide id v at id seat_less o (inl refl) alone
            v.desk.victim c.0 ∙ c.1,
      );
      held = λ k g. let c = own_desk.held k g in (
        c.0,
        c.1,
        post_else l lies s.words s.views f.asked f.counts.few f.words.wide id v at id seat_less o (inl refl) alone
            k c.0 (held_else k g) ∙ c.2,
      );
      saw = λ e. cc;
      wrote = λ x g. let c = own_desk.wrote x g in (
        c.0,
        answer_else l lies s.words s.views f.asked f.counts.few f.words.wide id v at id seat_less o (inl refl) alone
            x.thief (own_desk.held x.thief c.0).0 ∙ c.1,
      );
      got = λ e. cc;
    }

    -- and it gives no task and no piece, before and after
    pub own_changes : IsPost o → (before : Post) → own_post ≡ packed_post before → ((b : ℕ) → before ≢ P.Task b) → piece_of before ≡ 0
        → ((b : ℕ) → o ≢ P.Task b) → piece_of o ≡ 0 → (d : Desk)
        → Desked l ws' id d → Facts j lies record { words = ws'; homes = s.homes; views = set s.views id (record v { desk = d }) }
    own_changes fits_o before there_is not_task none_before no_task no_piece d mine = desk_step j lies s f id post seat_less (packed_post o)
        (post_quiet l s.words f.words.wide id seat_less o before there_is none_before no_piece) id v at live d
        (asked_post l lies s.words s.views f.asked f.counts.few f.words.wide id v at id seat_less o (inl refl) alone fits_o
        (λ b e. not_task b (post_same before (P.Task b) (sym there_is ∙ e))) no_task d v.loops mine)

  -- a request is stored in an idle post
  pub posts_it : (victim : ℕ) → v.desk.free ≡ true → IsPost (P.Posted victim)
      → Facts j lies record {
        words = set s.words (place l (worker_word id post)) (packed_post (P.Posted victim));
        homes = s.homes;
        views = set s.views id (posts v victim);
      }
  posts_it victim free fits_o =
      let zero_there = own_desk.free free in
      let not_held : (y : ℕ) → own_post ≢ packed_post (P.Held y) = (λ y e. idle_not (P.Held y) (sym zero_there ∙ e) refl) in
      own_changes (P.Posted victim) not_held fits_o P.Idle (zero_there ∙ sym idle_zero) (λ b e. cc) refl (λ b e. cc) refl
      (posts v victim).desk
      (own_desk_then (P.Posted victim) not_held false victim v.desk.word (λ e. cc) (λ e. not_idle_pos (P.Posted victim) refl)
      (λ y e p. sym (posted_one victim y p)))

  -- the post becomes idle where nobody holds it and it gives neither a task nor a piece
  pub frees_it : (o : Post) → own_post ≡ packed_post o → ((y : ℕ) → o ≢ P.Held y) → ((b : ℕ) → o ≢ P.Task b) → piece_of o ≡ 0 → (word : ℕ)
      → Facts j lies record {
        words = set s.words (place l (worker_word id post)) (packed_post P.Idle);
        homes = s.homes;
        views = set s.views id (record v { desk = record v.desk { free = true; saw = false; word = word; got = false } });
      }
  frees_it o word_is not_held no_task no_piece word =
      let held_not : (y : ℕ) → own_post ≢ packed_post (P.Held y) = (λ y e. not_held y (post_same o (P.Held y) (sym word_is ∙ e))) in
      own_changes P.Idle held_not (record { number_fits = omega arith }) o word_is no_task no_piece
      (λ b e. cc) refl (record v.desk { free = true; saw = false; word = word; got = false })
      (own_desk_then P.Idle held_not true v.desk.asked word (λ e. idle_zero) (λ e. cc) (λ y e. cc))

  -- the post is seen
  pub sees_it : (o : Post) → own_post ≡ packed_post o
      → Facts j lies record { words = s.words; homes = s.homes; views = set s.views id (sees v (packed_post o) (is_answer o)) }
  sees_it o word_is = let h = own_desk in desk_learned j lies s f id v at live (sees v (packed_post o) (is_answer o)).desk (record {
    free = h.free;
    busy = h.busy;
    asked = h.asked;
    lead = h.lead;
    held = h.held;
    saw = λ e. (o, answer_is o e, refl, word_is);
    wrote = h.wrote;
    got = λ e. cc;
  })

  -- and so is the answer word, once an answer was seen
  pub gets_it : v.desk.saw ≡ true
      → Facts j lies record {
        words = s.words;
        homes = s.homes;
        views = set s.views id (gets_piece v (word_at l s.words (worker_word id answer)));
      }
  gets_it saw = let h = own_desk in
      desk_learned j lies s f id v at live (gets_piece v (word_at l s.words (worker_word id answer))).desk (record {
        free = h.free;
        busy = h.busy;
        asked = h.asked;
        lead = h.lead;
        held = h.held;
        saw = h.saw;
        wrote = h.wrote;
        got = λ e. (saw, refl);
      })

  -- A PIECE IS TAKEN: the post gives it, and the seat has it in hand from now on
  module _ (a : ℕ) (there_is : own_post ≡ packed_post (P.Piece a)) where
    abbrev looped : Looped j.workers lies (loop_words l s.words) (hands_of s.views)
    looped = f.looped

    given_is : piece_in (own_word l s.words post id) ≡ suc a
    given_is = ap piece_in (own_there l s.words post id seat_less ∙ there_is) ∙ piece_some a

    pub piece_is : IsPiece lies a ((loop_words l s.words).piece id).low ((loop_words l s.words).piece id).high
    piece_is = looped.given id a seat_less given_is

    -- the pair that the answer word tells
    pair_word : (loop_words l s.words).piece id ≡ pair_in (word_at l s.words (worker_word id answer))
    pair_word = λ i. picked (given_is i) (pair_in (own_there l s.words answer id seat_less i))

    abbrev pub taken_piece : Share
    taken_piece = record {
      spot = record { berth = piece_is.task.berth; path = piece_is.path };
      low = ((loop_words l s.words).piece id).low;
      high = ((loop_words l s.words).piece id).high;
    }

    pub piece_fits : IsPair (pair_of taken_piece)
    piece_fits = pair_fits j lies s f piece_is.path piece_is.task taken_piece.low taken_piece.high piece_is.is piece_is.first
        piece_is.some_left piece_is.last

    pub piece_got : v.desk.got ≡ true → packed_pair (pair_of taken_piece) ≡ v.desk.piece
    piece_got got = ap packed_pair pair_word ∙ (pair_back (word_at l s.words (worker_word id answer)) ∙ (own_desk.got got).1)

    pub piece_in_region : IsInRegion v a
    piece_in_region k told = subst (λ (z : Setup). a < RECORDS * z.workers) (the_some (sym ((f.fits id v at).setup live) ∙ told))
        (let less = f.words.inside piece_is.path piece_is.task piece_is.is in let at_a = piece_is.at in omega arith)

    abbrev then_words : List ℕ
    then_words = set s.words (place l (worker_word id post)) (packed_post P.Idle)

    abbrev hands : LoopHands
    hands = record v.loops { pieces = taken_piece ∷ v.loops.pieces }

    abbrev then_view : View
    then_view = freed (takes_piece v taken_piece)

    held_not : (y : ℕ) → own_post ≢ packed_post (P.Held y)
    held_not y e = let z : P.Piece a ≡ P.Held y = post_same (P.Piece a) (P.Held y) (sym there_is ∙ e) in cc

    looped_then : Looped j.workers lies (loop_words l then_words) (hands_of (set s.views id then_view))
    looped_then = subst (λ (z : LoopWords × List Hand). Looped j.workers lies z.0 z.1)
        (λ i. (sym (words_moved l s.words f.words.wide id seat_less P.Idle) i, sym (hands_moved s.views id then_view) i))
        (piece_taken j.workers lies (loop_words l s.words) (hands_of s.views) f.looped id seat_less
        (givens l s.words f.words.wide id seat_less P.Idle) (pieces l s.words f.words.wide id seat_less P.Idle)
        (givens_else l s.words f.words.wide id seat_less P.Idle) (pieces_else l s.words f.words.wide id seat_less P.Idle) id (hand_of v)
        (at_hand s.views id v at) a taken_piece given_is piece_is.at refl (record {
          task = piece_is.task;
          is = piece_is.is;
          berth = refl;
          live = piece_is.live;
          some_left = piece_is.some_left;
          first = piece_is.first;
          last = piece_is.last;
        }) (given_now l s.words f.words.wide id seat_less P.Idle))

    pub takes_piece_it : Facts j lies record { words = then_words; homes = s.homes; views = set s.views id then_view }
    takes_piece_it = pieces_step j lies s f id post seat_less (packed_post P.Idle) id v at live then_view.desk hands refl looped_then
        (asked_post l lies s.words s.views f.asked f.counts.few f.words.wide id v at id seat_less P.Idle (inl refl)
        (alone P.Idle held_not) (record { number_fits = omega arith })
        (λ b e. let z : P.Piece a ≡ P.Task b = post_same (P.Piece a) (P.Task b) (sym there_is ∙ e) in cc) (λ b e. cc) then_view.desk hands
        (own_desk_then P.Idle held_not true v.desk.asked v.desk.word (λ e. idle_zero) (λ e. cc) (λ y e. cc)))

  -- A TASK IS TAKEN: the post gives it, and the seat has it in hand from now on
  module _ (b : ℕ) (there_is : own_post ≡ packed_post (P.Task b)) where
    pub gave : (p : Path) × (t : Lie) × (lies p ≡ some t) × (t.berth.at ≡ b) × (t.stage ≡ Posted id)
    gave = f.asked.tasks id b seat_less there_is

    abbrev p : Path
    p = gave.0

    abbrev t : Lie
    t = gave.1

    pub is : lies p ≡ some t
    is = gave.2

    pub stage_is : t.stage ≡ Posted id
    stage_is = gave.4

    pub in_region : IsInRegion v b
    in_region k told = subst (λ (z : Setup). b < RECORDS * z.workers) (the_some (sym ((f.fits id v at).setup live) ∙ told))
        (let less = f.words.inside p t is in let at_b = gave.3 in omega arith)

    abbrev pub taken : Spot
    taken = record { berth = t.berth; path = p }

    abbrev u : Lie
    u = record t { stage = Given id }

    abbrev w : View
    w = freed (takes_task v taken)

    abbrev idle_words : List ℕ
    idle_words = set s.words (place l (worker_word id post)) (packed_post P.Idle)

    not_held : (y : ℕ) → own_post ≢ packed_post (P.Held y)
    not_held y e = let z : P.Task b ≡ P.Held y = post_same (P.Task b) (P.Held y) (sym there_is ∙ e) in cc

    posted_by : (i : ℕ) → Posted i ≡ Posted id → i ≡ id
    posted_by i e = cc

    asked_now : Asked l (put lies p (some u)) idle_words (set s.views id w)
    asked_now = let a = f.asked in record {
      posts = posts_now l lies s.words s.views a f.counts.few f.words.wide id v at id seat_less P.Idle (inl refl)
          (alone P.Idle not_held) (record { number_fits = omega arith });
      leads = leads_now l lies s.words s.views a f.counts.few f.words.wide id v at id seat_less P.Idle (inl refl)
          (alone P.Idle not_held);
      tasks = λ i c low e. elim (ℕ_discrete i id) [
        | yes d ↦ absurd (idle_not (P.Task c) (sym idle_zero ∙
            (sym (post_there l lies s.words s.views a f.counts.few f.words.wide id v at id seat_less P.Idle (inl refl)
            (alone P.Idle not_held) i d) ∙ e)) refl)
        | no n ↦ (let y = a.tasks i c low (sym (post_else l lies s.words s.views a f.counts.few f.words.wide id v at id seat_less
            P.Idle (inl refl) (alone P.Idle not_held) i low n) ∙ e) in (
              y.0,
              y.1,
              put_else lies p (some u) y.0 (λ d. n (posted_by i (sym y.4 ∙ (ap (λ (z : Lie). z.stage)
                  (some-injective y.1 t (sym y.2 ∙ (ap lies (sym d) ∙ is))) ∙ stage_is))))
                  ∙ y.2,
              y.3,
              y.4,
            ))
      ];
      posted = λ q y i e stage. ⊎_elim
          (λ (c : (p ≡ q) × (u ≡ y)). let z : Given id ≡ Posted i = ap (λ (z : Lie). z.stage) c.1 ∙ stage in absurd (cc z))
          (λ (c : (p ≢ q) × (lies q ≡ some y)). let g = a.posted q y i c.1 stage in (
            g.0,
            post_else l lies s.words s.views a f.counts.few f.words.wide id v at id seat_less P.Idle (inl refl)
                (alone P.Idle not_held) i g.0
                (λ d. c.0 (f.words.alone p q t y is c.1 (ap is_gone stage_is) (ap is_gone stage)
                (gave.3 ∙ sym (task_one y.berth.at b (sym g.1 ∙ (ap (λ (z : ℕ). word_at l s.words (worker_word z post)) d
                ∙ there_is))))))
                ∙ g.1,
          )) (at_put lies p q u y e);
      promised = tally_step promised_in is_promised lies s.views id v a.promised at w (put lies p (some u))
          (sums.stays promised_in is_promised lies v w p t u is (ap is_promised stage_is) (λ q. refl));
      promises = each_view (λ i x. (m : Promise) → In m x.tasks.promised → IsPromised (put lies p (some u)) m) s.views id w
          (λ m g. kept id v at m g) (λ i x n e m g. kept i x e m g);
      desks = desks_now l lies s.words s.views a f.counts.few f.words.wide id v at id seat_less P.Idle (inl refl)
          (alone P.Idle not_held) w
          (own_desk_then P.Idle not_held true v.desk.asked v.desk.word (λ e. idle_zero) (λ e. cc) (λ y e. cc));
      unasked = unasked_now l lies s.words s.views a f.counts.few f.words.wide id v at id seat_less P.Idle (inl refl)
          (alone P.Idle not_held) w;
    }
      where
        kept : (i : ℕ) (x : View) → get_elem? s.views i ≡ some x → (m : Promise) → In m x.tasks.promised
            → IsPromised (put lies p (some u)) m
        kept i x e m g = promised_else j lies p u m (f.asked.promises i x e m g)
            (not_among promise_path x.tasks.promised p (none_promised j lies s f p t is (ap is_promised stage_is) i x e) m g)

    pub task_same : task_of j p u ≡ task_of j p t
    task_same = same_task j lies s f id v at live id seat_less (packed_post P.Idle) p t is (Given id) (ap is_begun stage_is) refl
        (ap phase_of stage_is) refl (ap is_claimed stage_is) (ap stand_of stage_is)

    pub takes_it : Facts j (put lies p (some u)) record { words = idle_words; homes = s.homes; views = set s.views id w }
    takes_it = handed j lies s f id v at live id seat_less (packed_post P.Idle) p t is (Given id) (ap is_begun stage_is) refl
        (ap phase_of stage_is) refl (ap is_claimed stage_is)
        (ap stand_of stage_is) v.tasks.promised (taken ∷ v.tasks.given) w.desk (post_quiet l s.words f.words.wide id seat_less P.Idle (P.Task b) there_is refl refl) asked_now
        (adds given_in is_given lies v w p t u is (ap is_given stage_is) refl
        (λ q. let c : given_in w q ≡ given_in v q + one_if (same_path q p) = omega arith in c))
        (λ m i. ⊎_elim (λ (h : m ≡ taken). subst (IsGiven (put lies p (some u))) (sym h)
        (u, put_here lies p (some u), refl, (id, refl)))
        (λ (h : In m v.tasks.given). given_else j lies p u m ((f.fits id v at).given m h)
        (not_among spot_path v.tasks.given p (none_given j lies s f p t is (ap is_given stage_is) id v at) m h))
        (in_cons m taken v.tasks.given i))
        (λ i x n e. none_given j lies s f p t is (ap is_given stage_is) i x e)
