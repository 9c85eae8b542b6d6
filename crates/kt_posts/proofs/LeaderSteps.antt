-- The steps of a leader keep the facts: it leads, holds, answers, and releases.
use Rattle.std.proofs.Common.{◌≡◌, ◌≢◌, ℕ, suc, ◌<◌, ◌≤◌, ◌⊎◌, true, false, List, [], ◌∷◌, ◌++◌, set, length-set, sym, refl, ap, ◌∙◌, subst, inl, inr, arith, ⊎_elim}
use mathlib.Core.Option.{some, some-injective}
use native.Mathlib.Decide.{ℕ_discrete}
use lib.ListN.{get_elem?}
use Rattle.atomic_table.specs.Table.{State}
use Rattle.kt_runs.specs.ByPath.{Path}
use Rattle.kt_words.specs.Places.{place, worker_word, request, post, answer}
use Rattle.kt_words.specs.Words.{packed_post, packed_pair, IsPost, IsPair}
use Rattle.kt_words.specs.declared.layouts.Layout.{Layout}
use Rattle.kt_words.specs.declared.posts.Post.{Post}
use Rattle.kt_words.specs.declared.posts.Post.TheVariants as P
use Rattle.kt_rule.specs.declared.views.Setup.{Setup}
use Rattle.kt_rule.specs.declared.views.Berth.{Berth}
use Rattle.kt_rule.specs.declared.views.Promise.{Promise}
use Rattle.kt_rule.specs.declared.views.Found.{Found}
use Rattle.kt_rule.specs.declared.views.Wrote.{Wrote}
use Rattle.kt_rule.specs.declared.views.Desk.{Desk}
use Rattle.kt_rule.specs.declared.views.Share.{Share}
use Rattle.kt_rule.specs.declared.views.LoopHands.{LoopHands}
use Rattle.kt_rule.specs.declared.views.View.{View}
use Rattle.kt_rule.specs.Paths.{put}
use Rattle.kt_rule.specs.Lists.{In, here, there}
use Rattle.kt_rule.specs.Lies.{Promised, Posted, Lie, Lies, phase_of, stand_of, is_gone, task_of}
use Rattle.kt_rule.specs.Records.{layout_of, word_at}
use Rattle.kt_rule.specs.Views.{spot_path, promise_path, promised_in, given_in}
use Rattle.kt_rule.specs.Facts.{is_claimed, is_promised, is_given, is_begun, tally}
use Rattle.kt_rule.specs.Requests.{IsPromised, Desked, Asked}
use Rattle.kt_rule.specs.LoopWords.{LoopWords, Hand, piece_in, pair_in, own_word, loop_words, hand_of, hands_of}
use Rattle.kt_rule.specs.LoopFacts.{IsShare, Looped}
use Rattle.kt_rule.specs.Rule.{Slots, Facts}
use Rattle.kt_rule.proofs.Puts.{put_here, put_else, at_put}
use Rattle.kt_rule.proofs.Shelf as shelf
use Rattle.kt_rule.proofs.Sums as sums
use Rattle.kt_rule.proofs.Sums.{in_left, in_append, in_cons, not_among, among, drops, tally_step, tally_own, tally_alone}
use Rattle.kt_rule.proofs.LoopsStay.{own_there}
use Rattle.kt_rule.proofs.Moves.{each_view}
use Rattle.kt_steps.proofs.Steps.{none_given, given_else, promised_else}
use Rattle.kt_steps.proofs.Asides.{seat_in}
use Rattle.kt_steps.proofs.LoopSeats.{at_hand}
use Rattle.kt_posts.specs.Desks.{is_answer, is_idle, pair_of, without, unwritten, other_promises, other_pieces, leads_now, holds_one, writes_one, answers_one, gives_one, gives_piece, releases_now}
use Rattle.kt_posts.proofs.PieceMoves.{piece_given}
use Rattle.kt_posts.proofs.PieceWords.{piece_of, piece_none, pair_there, request_quiet, answer_quiet, post_quiet, givens, pieces, givens_else, pieces_else, given_now, pair_now, words_moved, hands_moved}
use Rattle.kt_posts.proofs.PostWords.{post_same, idle_zero, not_idle_pos, is_answered, held_one, task_one}
use Rattle.kt_posts.proofs.Without.{in_without, without_in, in_unwritten, kept_promises, in_kept, same_drop, kept_times}
use Rattle.kt_posts.proofs.Desking.{pair_fits, desk_step, pieces_step, desk_learned}
use Rattle.kt_posts.proofs.Asking as asking
use Rattle.kt_posts.proofs.Asking.{is_asking, is_onward, asking_no_answer}
use Rattle.kt_posts.proofs.Handing.{same_task, handed}

answer_onward : (o : Post) → is_answer o ≡ true → is_onward o ≡ true
answer_onward P.Idle h = cc
answer_onward (P.Posted v) h = cc
answer_onward (P.Held v) h = refl
answer_onward P.Failed h = refl
answer_onward (P.Task a) h = refl
answer_onward (P.Piece a) h = refl

asking_none : (o : Post) → is_asking o ≡ true → piece_of o ≡ 0
asking_none P.Idle h = refl
asking_none (P.Posted v) h = refl
asking_none (P.Held v) h = refl
asking_none P.Failed h = refl
asking_none (P.Task a) h = refl
asking_none (P.Piece a) h = cc

answer_busy : (o : Post) → is_answer o ≡ true → is_idle o ≡ false
answer_busy P.Idle h = cc
answer_busy (P.Posted v) h = refl
answer_busy (P.Held v) h = refl
answer_busy P.Failed h = refl
answer_busy (P.Task a) h = refl
answer_busy (P.Piece a) h = refl

in_last : (xs : List ℕ) (x y : ℕ) → In y (xs ++ x ∷ []) → In y xs ⊎ (y ≡ x)
in_last xs x y h = elim (in_append xs (x ∷ []) y h) [
  | inl g ↦ inl g
  | inr g ↦ ⊎_elim (λ (e : y ≡ x). inr e) (λ (e : In y []). elim e [ ]) (in_cons y x [] g)
]

module _ (j : Setup) (lies : Lies) (s : State Slots View) (f : Facts j lies s) (id : ℕ) (v : View) (at : get_elem? s.views id ≡ some v)
    (live : 0 < v.parts) where
  abbrev l : Layout
  l = layout_of j

  ours : Desked l s.words id v.desk
  ours = f.asked.desks id v at live

  seat_less : id < j.workers
  seat_less = seat_in j lies s f id v at

  few_fit : (o : Post) → Rattle.kt_words.specs.Words.post_number o < j.workers → IsPost o
  few_fit o low = record { number_fits = let a = f.crew in omega arith }

  pub victim_less : v.desk.leads ≡ true → v.desk.victim < j.workers
  victim_less leads = (ours.lead leads).0

  -- who leads the requests at the same victim is the same seat
  pub one_leads : v.desk.leads ≡ true → (i : ℕ) (u : View) → i ≢ id → get_elem? s.views i ≡ some u → 0 < u.parts
      → u.desk.leads ≡ true → u.desk.victim ≢ v.desk.victim
  one_leads leads i u n e some_part leads_too same_victim =
      let a = (ours.lead leads).1 in let b = ((f.asked.desks i u e some_part).lead leads_too).1 in
      let c : word_at l s.words (worker_word u.desk.victim request) ≡ word_at l s.words (worker_word v.desk.victim request) = ap
      (λ (z : ℕ). word_at l s.words (worker_word z request)) same_victim in
      n (let d : i ≡ id = omega arith in d)

  -- A LEAD, where nobody leads
  pub leads_it : (x : ℕ) → x < j.workers → word_at l s.words (worker_word x request) ≡ 0
      → Facts j lies record {
        words = set s.words (place l (worker_word x request)) (suc id);
        homes = s.homes;
        views = set s.views id (leads_now v x);
      }
  leads_it x less zero_there =
      let a = f.asked in let few = f.counts.few in let wide = f.words.wide in let own = seat_less in
      let small : suc id ≤ l.workers = omega arith in
      let alone : (i : ℕ) (u : View) → i ≢ id → get_elem? s.views i ≡ some u → 0 < u.parts → u.desk.leads ≡ true
      → u.desk.victim ≢ x = (λ i u n e some_part leads same_victim. let c = ((a.desks i u e some_part).lead leads).1 in
      let b : word_at l s.words (worker_word u.desk.victim request) ≡ word_at l s.words (worker_word x request) = ap
      (λ (z : ℕ). word_at l s.words (worker_word z request)) same_victim in absurd (omega arith)) in
      let d : Desk = (leads_now v x).desk in
      desk_step j lies s f x request less (suc id) (request_quiet l s.words x less (suc id)) id v at live d
      (asking.asked_request l lies s.words s.views a few wide id v at x (suc id) less small alone d
      (asking.desk_stays l lies s.words s.views a few wide id v at x (suc id) less small alone id own d v.desk ours
      refl refl refl refl refl refl
      (λ h. (less, asking.request_here l lies s.words s.views a few wide id v at x (suc id) less small alone))
      (λ y g. elim g [ ]) (λ y g. elim g [ ])))

  -- A RELEASE, once all held thieves are answered
  pub releases_it : v.desk.leads ≡ true → v.desk.held ≡ []
      → Facts j lies record {
        words = set s.words (place l (worker_word v.desk.victim request)) 0;
        homes = s.homes;
        views = set s.views id (releases_now v);
      }
  releases_it leads none_held =
      let a = f.asked in let few = f.counts.few in let wide = f.words.wide in let x : ℕ = v.desk.victim in
      let less = (ours.lead leads).0 in let small : 0 ≤ l.workers = omega arith in
      let d : Desk = (releases_now v).desk in
      desk_step j lies s f x request less 0 (request_quiet l s.words x less 0) id v at live d
      (asking.asked_request l lies s.words s.views a few wide id v at x 0 less small (one_leads leads) d
      (asking.desk_stays l lies s.words s.views a few wide id v at x 0 less small (one_leads leads) id seat_less d v.desk ours
      refl refl refl refl refl refl (λ h. cc) (λ y g. elim g [ ]) (λ y g. elim g [ ])))

  -- A WORD THAT WAS FOUND and left as it was
  pub finds_it : (found : List Found)
      → Facts j lies record {
        words = s.words;
        homes = s.homes;
        views = set s.views id (record v { desk = record v.desk { found = found } });
      }
  finds_it found = let h = ours in desk_learned j lies s f id v at live (record v.desk { found = found }) (record {
    free = h.free;
    busy = h.busy;
    asked = h.asked;
    lead = h.lead;
    held = h.held;
    saw = h.saw;
    wrote = h.wrote;
    got = h.got;
  })

  -- A POST THAT ASKS GOES ONWARD by this seat: what it knows of its own post stays
  module _ (k : ℕ) (less : k < j.workers) (before after : Post) (there_is : word_at l s.words (worker_word k post) ≡ packed_post before)
      (asks : is_asking before ≡ true) (goes : is_onward after ≡ true)
      (alone : (i : ℕ) (x : View) → i ≢ id → get_elem? s.views i ≡ some x → 0 < x.parts → In k x.desk.held → ⊥) where
    abbrev pub onward_words : List ℕ
    onward_words = set s.words (place l (worker_word k post)) (packed_post after)

    pub whose : (k ≡ id) ⊎ (((x : Post) × (word_at l s.words (worker_word k post) ≡ packed_post x) × (is_asking x ≡ true))
        × (is_onward after ≡ true))
    whose = inr ((before, there_is, asks), goes)

    there_now : (i : ℕ) → i ≡ k → word_at l onward_words (worker_word i post) ≡ packed_post after
    there_now = asking.post_there l lies s.words s.views f.asked f.counts.few f.words.wide id v at k less after whose alone

    else_now : (i : ℕ) → i < l.workers → i ≢ k → word_at l onward_words (worker_word i post) ≡ word_at l s.words (worker_word i post)
    else_now = asking.post_else l lies s.words s.views f.asked f.counts.few f.words.wide id v at k less after whose alone

    -- the own post is no such post, where it is none that asks
    own_other : (y : Post) → word_at l s.words (worker_word id post) ≡ packed_post y → is_asking y ≡ false → id ≢ k
    own_other y e quiet d = let z : true ≡ false = sym asks ∙ (ap is_asking (post_same before y (sym there_is ∙
        (ap (λ (x : ℕ). word_at l s.words (worker_word x post)) (sym d) ∙ e))) ∙ quiet) in cc

    answer_asks_not : (o : Post) → is_answer o ≡ true → is_asking o ≡ false
    answer_asks_not P.Idle h = cc
    answer_asks_not (P.Posted y) h = cc
    answer_asks_not (P.Held y) h = cc
    answer_asks_not P.Failed h = refl
    answer_asks_not (P.Task y) h = refl
    answer_asks_not (P.Piece y) h = refl

    onward_not_posted : (y : ℕ) → packed_post after ≡ packed_post (P.Posted y) → ⊥
    onward_not_posted y e = let z : true ≡ false = sym goes ∙ ap is_onward (post_same after (P.Posted y) e) in cc

    onward_pos : 0 < packed_post after
    onward_pos = not_idle_pos after (busy after goes)
      where
        busy : (o : Post) → is_onward o ≡ true → is_idle o ≡ false
        busy P.Idle h = cc
        busy (P.Posted y) h = refl
        busy (P.Held y) h = refl
        busy P.Failed h = refl
        busy (P.Task y) h = refl
        busy (P.Piece y) h = refl

    pub onward_desk : (held : List ℕ) (found : List Found) (wrote : List Wrote)
        → ((i : ℕ) → In i held → (i < l.workers) × (v.desk.leads ≡ true)
        × (word_at l onward_words (worker_word i post) ≡ packed_post (P.Held v.desk.victim)))
        → ((e : Wrote) → In e wrote → In e v.desk.wrote × In e.thief held)
        → Desked l onward_words id (record v.desk { held = held; found = found; wrote = wrote })
    onward_desk held found wrote held_so wrote_so = record {
      free = λ h. else_now id seat_less (own_other P.Idle (ours.free h ∙ sym idle_zero) refl) ∙ ours.free h;
      busy = λ h. elim (ℕ_discrete id k) [
        | yes d ↦ (let a = there_now id d in let b = onward_pos in omega arith)
        | no m ↦ (let b = ours.busy h in let c = else_now id seat_less m in omega arith)
      ];
      asked = λ y h e. elim (ℕ_discrete id k) [
        | yes d ↦ absurd (onward_not_posted y (sym (there_now id d) ∙ e))
        | no m ↦ ours.asked y h (sym (else_now id seat_less m) ∙ e)
      ];
      lead = λ h. let c = ours.lead h in (
        c.0,
        asking.request_else l lies s.words s.views f.asked f.counts.few f.words.wide id v at k less after whose alone
            v.desk.victim c.0 ∙ c.1,
      );
      held = held_so;
      saw = λ h. let c = ours.saw h in
          (c.0, c.1, c.2, else_now id seat_less (own_other c.0 (c.3 ∙ sym c.2) (answer_asks_not c.0 (is_answered c.0 c.1))) ∙ c.3);
      wrote = λ e g. let r = wrote_so e g in let c = ours.wrote e r.0 in (
        r.1,
        asking.answer_else l lies s.words s.views f.asked f.counts.few f.words.wide id v at k less after whose alone
            e.thief (ours.held e.thief c.0).0 ∙ c.1,
      );
      got = λ h. let c = ours.got h in (
        c.0,
        asking.answer_else l lies s.words s.views f.asked f.counts.few f.words.wide id v at k less after whose alone
            id seat_less ∙ c.1,
      );
    }

    -- and it gives no task, before and after
    pub onward_step : IsPost after → ((b : ℕ) → before ≢ P.Task b) → ((b : ℕ) → after ≢ P.Task b) → piece_of after ≡ 0 → (d : Desk)
        → Desked l onward_words id d
        → Facts j lies record { words = onward_words; homes = s.homes; views = set s.views id (record v { desk = d }) }
    onward_step fits_o not_task no_task no_piece d mine = desk_step j lies s f k post less (packed_post after)
        (post_quiet l s.words f.words.wide k less after before there_is (asking_none before asks) no_piece) id v at live d
        (asking.asked_post l lies s.words s.views f.asked f.counts.few f.words.wide id v at k less after whose alone fits_o
        (λ b e. not_task b (post_same before (P.Task b) (sym there_is ∙ e))) no_task d v.loops mine)

  -- A HOLD of a request that is posted to the victim whom the seat leads
  pub holds_it : (k : ℕ) → k < j.workers → v.desk.leads ≡ true
      → word_at l s.words (worker_word k post) ≡ packed_post (P.Posted v.desk.victim) → (n : ℕ)
      → Facts j lies record {
        words = set s.words (place l (worker_word k post)) (packed_post (P.Held v.desk.victim));
        homes = s.homes;
        views = set s.views id (holds_one v k n);
      }
  holds_it k less leads there_is n =
      let x : ℕ = v.desk.victim in
      let held_not : (y : ℕ) → word_at l s.words (worker_word k post) ≡ packed_post (P.Held y) → ⊥ =
      (λ y e. let z : P.Posted x ≡ P.Held y = post_same (P.Posted x) (P.Held y) (sym there_is ∙ e) in cc) in
      let alone : (i : ℕ) (u : View) → i ≢ id → get_elem? s.views i ≡ some u → 0 < u.parts → In k u.desk.held → ⊥ =
      (λ i u m e some_part g. held_not u.desk.victim ((f.asked.desks i u e some_part).held k g).2) in
      let other : (y : ℕ) → In y v.desk.held → y ≢ k = (λ y g d. held_not x
      (ap (λ (z : ℕ). word_at l s.words (worker_word z post)) (sym d) ∙ (ours.held y g).2)) in
      onward_step k less (P.Posted x) (P.Held x) there_is refl refl alone (few_fit (P.Held x) (ours.lead leads).0) (λ b e. cc) (λ b e. cc) refl
      (holds_one v k n).desk
      (onward_desk k less (P.Posted x) (P.Held x) there_is refl refl alone (v.desk.held ++ k ∷ []) (holds_one v k n).desk.found v.desk.wrote
      (λ y g. ⊎_elim
      (λ (h : In y v.desk.held). let c = ours.held y h in
      (c.0, c.1, else_now k less (P.Posted x) (P.Held x) there_is refl refl alone y c.0 (other y h) ∙ c.2))
      (λ (h : y ≡ k). (let a = less in omega arith, leads, there_now k less (P.Posted x) (P.Held x) there_is refl refl alone y h))
      (in_last v.desk.held k y g))
      (λ e g. (g, in_left v.desk.held (k ∷ []) e.thief (ours.wrote e g).0)))

  -- AN ANSWER to a held thief
  module _ (k : ℕ) (k_in : In k v.desk.held) where
    pub thief_less : k < j.workers
    thief_less = (ours.held k k_in).0

    held_there : word_at l s.words (worker_word k post) ≡ packed_post (P.Held v.desk.victim)
    held_there = (ours.held k k_in).2

    alone_holds : (i : ℕ) (u : View) → i ≢ id → get_elem? s.views i ≡ some u → 0 < u.parts → In k u.desk.held → ⊥
    alone_holds i u n e some_part g = let h = (f.asked.desks i u e some_part).held k g in
        one_leads (ours.held k k_in).1 i u n e some_part h.1 (held_one u.desk.victim v.desk.victim (sym h.2 ∙ held_there))

    module _ (o : Post) (answers : is_answer o ≡ true) where
      pub desk_after : Desked l (set s.words (place l (worker_word k post)) (packed_post o)) id (answers_one v k).desk
      desk_after = onward_desk k thief_less (P.Held v.desk.victim) o held_there refl (answer_onward o answers) alone_holds
          (without k v.desk.held) v.desk.found (unwritten k v.desk.wrote)
          (λ y g. let r = in_without k v.desk.held y g in let c = ours.held y r.0 in (
            c.0,
            c.1,
            else_now k thief_less (P.Held v.desk.victim) o held_there refl (answer_onward o answers) alone_holds y c.0 r.1
                ∙ c.2,
          ))
          (λ e g. let r = in_unwritten k v.desk.wrote e g in
          (r.0, without_in k v.desk.held e.thief (ours.wrote e r.0).0 r.1))

      -- with no task
      pub answers_it : IsPost o → ((b : ℕ) → o ≢ P.Task b) → piece_of o ≡ 0
          → Facts j lies record {
            words = set s.words (place l (worker_word k post)) (packed_post o);
            homes = s.homes;
            views = set s.views id (answers_one v k);
          }
      answers_it fits_o no_task no_piece = onward_step k thief_less (P.Held v.desk.victim) o held_there refl (answer_onward o answers) alone_holds
          fits_o (λ b e. cc) no_task no_piece (answers_one v k).desk desk_after

    -- A PIECE is written in its answer word
    module _ (y : ℕ) where
      abbrev ws4 : List ℕ
      ws4 = set s.words (place l (worker_word k answer)) y

      post_still : (i : ℕ) → i < l.workers → word_at l ws4 (worker_word i post) ≡ word_at l s.words (worker_word i post)
      post_still i low = shelf.else l s.words (worker_word k answer) (worker_word i post) y thief_less low (λ e. cc)

      request_still : (i : ℕ) → i < l.workers → word_at l ws4 (worker_word i request) ≡ word_at l s.words (worker_word i request)
      request_still i low = shelf.else l s.words (worker_word k answer) (worker_word i request) y thief_less low (λ e. cc)

      answer_other : (i : ℕ) → i < l.workers → i ≢ k → word_at l ws4 (worker_word i answer) ≡ word_at l s.words (worker_word i answer)
      answer_other i low n = shelf.else l s.words (worker_word k answer) (worker_word i answer) y thief_less low
          (λ e. let r : i ≡ k = cc in n r)

      -- who saw an answer in its own post is no held thief
      saw_not : (i : ℕ) (d : Desk) → Desked l s.words i d → d.saw ≡ true → i ≢ k
      saw_not i d h saw e = let c = h.saw saw in
          let z : c.0 ≡ P.Held v.desk.victim = post_same c.0 (P.Held v.desk.victim) (sym (c.3 ∙ sym c.2) ∙
          (ap (λ (q : ℕ). word_at l s.words (worker_word q post)) e ∙ held_there)) in
          asking_no_answer (P.Held v.desk.victim) refl (ap is_answer (sym z) ∙ is_answered c.0 c.1)

      -- what a seat knows but for pieces that it wrote
      still : (i : ℕ) (d : Desk) (wrote : List Wrote) → i < l.workers → Desked l s.words i d
          → ((e : Wrote) → In e wrote → In e.thief d.held × (word_at l ws4 (worker_word e.thief answer) ≡ e.piece))
          → Desked l ws4 i (record d { wrote = wrote })
      still i d wrote low h wrote_so = record {
        free = λ e. post_still i low ∙ h.free e;
        busy = λ e. let b = h.busy e in let c = post_still i low in omega arith;
        asked = λ x e p. h.asked x e (sym (post_still i low) ∙ p);
        lead = λ e. let c = h.lead e in (c.0, request_still d.victim c.0 ∙ c.1);
        held = λ x g. let c = h.held x g in (c.0, c.1, post_still x c.0 ∙ c.2);
        saw = λ e. let c = h.saw e in (c.0, c.1, c.2, post_still i low ∙ c.3);
        wrote = wrote_so;
        got = λ e. let c = h.got e in (c.0, answer_other i low (saw_not i d h c.0) ∙ c.1);
      }

      wrote_now : (e : Wrote) → In e (record { thief = k; piece = y } ∷ unwritten k v.desk.wrote)
          → In e.thief v.desk.held × (word_at l ws4 (worker_word e.thief answer) ≡ e.piece)
      wrote_now e here = (k_in, shelf.here l s.words (worker_word k answer) y thief_less f.words.wide)
      wrote_now e (there i) = let r = in_unwritten k v.desk.wrote e i in let c = ours.wrote e r.0 in
          (c.0, answer_other e.thief (ours.held e.thief c.0).0 r.1 ∙ c.1)

      theirs : (i : ℕ) (u : View) → i ≢ id → get_elem? s.views i ≡ some u → 0 < u.parts → Desked l ws4 i u.desk
      theirs i u n e some_part = let h = f.asked.desks i u e some_part in still i u.desk u.desk.wrote (seat_in j lies s f i u e) h
          (λ x g. let c = h.wrote x g in (
            c.0,
            answer_other x.thief (h.held x.thief c.0).0
                (λ d. alone_holds i u n e some_part (subst (λ (z : ℕ). In z u.desk.held) d c.0)) ∙ c.1,
          ))

      pub writes_it : Facts j lies record { words = ws4; homes = s.homes; views = set s.views id (writes_one v k y) }
      writes_it = let a = f.asked in let d : Desk = (writes_one v k y).desk in
          desk_step j lies s f k answer thief_less y (answer_quiet l s.words k thief_less (P.Held v.desk.victim) held_there refl y) id v at live d (record {
            posts = λ i low. let o = a.posts i low in (o.0, o.1, post_still i low ∙ o.2);
            leads = λ i low. let o = a.leads i low in let e = request_still i low in omega arith;
            tasks = λ i b low e. a.tasks i b low (sym (post_still i low) ∙ e);
            posted = λ q t i e stage. let h = a.posted q t i e stage in (h.0, post_still i h.0 ∙ h.1);
            promised = tally_step promised_in is_promised lies s.views id v a.promised at (writes_one v k y) lies (λ q. refl);
            promises = each_view (λ i x. (m : Promise) → In m x.tasks.promised → IsPromised lies m) s.views id (writes_one v k y)
                (a.promises id v at) (λ i x ne e. a.promises i x e);
            desks = each_view (λ i x. 0 < x.parts → Desked l ws4 i x.desk) s.views id (writes_one v k y)
                (λ some_part. still id v.desk d.wrote seat_less ours wrote_now) theirs;
            unasked = λ i from low. let n = length-set s.views id (writes_one v k y) in post_still i low ∙ a.unasked i (omega arith) low;
          })

    -- with a piece that the seat has in hand and wrote for it
    module _ (x : Share) (x_in : In x v.loops.pieces) (written : word_at l s.words (worker_word k answer) ≡ packed_pair (pair_of x))
        (fits_o : IsPost (P.Piece x.spot.berth.at)) where
      abbrev o5 : Post
      o5 = P.Piece x.spot.berth.at

      abbrev ws5 : List ℕ
      ws5 = set s.words (place l (worker_word k post)) (packed_post o5)

      abbrev loops5 : LoopHands
      loops5 = record v.loops { pieces = other_pieces x.spot.berth.at x.low v.loops.pieces }

      abbrev w5 : View
      w5 = record (answers_one v k) { loops = loops5 }

      share_is : IsShare lies x
      share_is = (f.looped.handles id (hand_of v) (at_hand s.views id v at)).pieces x x_in

      pub piece_fits : IsPair (pair_of x)
      piece_fits = pair_fits j lies s f x.spot.path share_is.task x.low x.high share_is.is share_is.first share_is.some_left share_is.last

      none_before : piece_in (own_word l s.words post k) ≡ 0
      none_before = ap piece_in (own_there l s.words post k thief_less ∙ held_there) ∙ piece_none (P.Held v.desk.victim) refl

      looped5 : Looped j.workers lies (loop_words l ws5) (hands_of (set s.views id w5))
      looped5 = subst (λ (z : LoopWords × List Hand). Looped j.workers lies z.0 z.1)
          (λ i. (sym (words_moved l s.words f.words.wide k thief_less o5) i, sym (hands_moved s.views id w5) i))
          (piece_given j.workers lies (loop_words l s.words) (hands_of s.views) f.looped k thief_less
          (givens l s.words f.words.wide k thief_less o5) (pieces l s.words f.words.wide k thief_less o5)
          (givens_else l s.words f.words.wide k thief_less o5) (pieces_else l s.words f.words.wide k thief_less o5) id (hand_of v)
          (at_hand s.views id v at) x x_in none_before (given_now l s.words f.words.wide k thief_less o5)
          (pair_now l s.words f.words.wide k thief_less o5 x.spot.berth.at refl ∙ (ap pair_in written ∙ pair_there (pair_of x) piece_fits)))

      pub gives_piece_it : Facts j lies record { words = ws5; homes = s.homes; views = set s.views id (gives_piece v k x) }
      gives_piece_it = pieces_step j lies s f k post thief_less (packed_post o5) id v at live (answers_one v k).desk loops5 refl looped5
          (asking.asked_post l lies s.words s.views f.asked f.counts.few f.words.wide id v at k thief_less o5
          (whose k thief_less (P.Held v.desk.victim) o5 held_there refl refl alone_holds) alone_holds fits_o
          (λ b e. let z : P.Held v.desk.victim ≡ P.Task b = post_same (P.Held v.desk.victim) (P.Task b) (sym held_there ∙ e) in cc)
          (λ b e. cc) (answers_one v k).desk loops5 (desk_after o5 refl))

    -- with the task that was claimed for it
    module _ (m : Promise) (m_in : In m v.tasks.promised) (thief : m.thief ≡ k) where
      pub promise_is : IsPromised lies m
      promise_is = f.asked.promises id v at m m_in

      abbrev p : Path
      p = m.spot.path

      abbrev t : Lie
      t = promise_is.0

      pub is : lies p ≡ some t
      is = promise_is.1

      pub berth_is : t.berth ≡ m.spot.berth
      berth_is = promise_is.2

      pub stage_is : t.stage ≡ Promised k
      stage_is = promise_is.3 ∙ ap Promised thief

      abbrev u : Lie
      u = record t { stage = Posted k }

      abbrev o3 : Post
      o3 = P.Task t.berth.at

      abbrev ws3 : List ℕ
      ws3 = set s.words (place l (worker_word k post)) (packed_post o3)

      abbrev w3 : View
      w3 = record (answers_one v k) { tasks = record v.tasks { promised = kept_promises p v.tasks.promised } }

      fits_o3 : IsPost o3
      fits_o3 = record { number_fits = let a = f.words.inside p t is in let b = f.crew in omega arith }

      whose3 : (k ≡ id) ⊎ (((x : Post) × (word_at l s.words (worker_word k post) ≡ packed_post x) × (is_asking x ≡ true))
          × (is_onward o3 ≡ true))
      whose3 = whose k thief_less (P.Held v.desk.victim) o3 held_there refl refl alone_holds

      one_promised : tally is_promised (lies p) ≡ 1
      one_promised = ap (tally is_promised) is ∙ ap is_promised stage_is

      mine_once : promised_in v p ≡ 1
      mine_once = let a = tally_own promised_in is_promised lies s.views id v f.asked.promised at p in let b = one_promised in
          let c = among promise_path v.tasks.promised m m_in in omega arith

      posted_by : (i : ℕ) → Posted k ≡ Posted i → k ≡ i
      posted_by i e = cc

      not_promised : (y : Lie) (i : ℕ) → y.stage ≡ Posted i → y ≡ t → ⊥
      not_promised y i stage e = let z : Posted i ≡ Promised k = sym stage ∙ (ap (λ (z : Lie). z.stage) e ∙ stage_is) in cc

      asked3 : Asked l (put lies p (some u)) ws3 (set s.views id w3)
      asked3 = let a = f.asked in record {
        posts = asking.posts_now l lies s.words s.views a f.counts.few f.words.wide id v at k thief_less o3 whose3 alone_holds fits_o3;
        leads = asking.leads_now l lies s.words s.views a f.counts.few f.words.wide id v at k thief_less o3 whose3 alone_holds;
        tasks = λ i c low e. elim (ℕ_discrete i k) [
          | yes d ↦ (
            p,
            u,
            put_here lies p (some u),
            task_one t.berth.at c
                (sym (asking.post_there l lies s.words s.views a f.counts.few f.words.wide id v at k thief_less o3 whose3 alone_holds i d)
                ∙ e),
            ap Posted (sym d),
          )
          | no n ↦ (let y = a.tasks i c low (sym (asking.post_else l lies s.words s.views a f.counts.few f.words.wide id v at k
              thief_less o3 whose3 alone_holds i low n) ∙ e) in (
                y.0,
                y.1,
                put_else lies p (some u) y.0 (λ d. not_promised y.1 i y.4 (some-injective y.1 t (sym y.2 ∙ (ap lies (sym d) ∙ is)))) ∙ y.2,
                y.3,
                y.4,
              ))
        ];
        posted = λ q y i e stage. ⊎_elim
            (λ (c : (p ≡ q) × (u ≡ y)). let i_is : k ≡ i = posted_by i (ap (λ (z : Lie). z.stage) c.1 ∙ stage) in (
              (let b = thief_less in omega arith),
              asking.post_there l lies s.words s.views a f.counts.few f.words.wide id v at k thief_less o3 whose3 alone_holds i (sym i_is)
                  ∙ ap (λ (z : Lie). packed_post (P.Task z.berth.at)) c.1,
            ))
            (λ (c : (p ≢ q) × (lies q ≡ some y)). let g = a.posted q y i c.1 stage in (
              g.0,
              asking.post_else l lies s.words s.views a f.counts.few f.words.wide id v at k thief_less o3 whose3 alone_holds i g.0
                  (λ d. let z : P.Held v.desk.victim ≡ P.Task y.berth.at = post_same (P.Held v.desk.victim) (P.Task y.berth.at)
                  (sym held_there ∙ (ap (λ (z : ℕ). word_at l s.words (worker_word z post)) (sym d) ∙ g.1)) in cc)
                  ∙ g.1,
            )) (at_put lies p q u y e);
        promised = tally_step promised_in is_promised lies s.views id v a.promised at w3 (put lies p (some u))
            (drops promised_in is_promised lies v w3 p t u is (ap is_promised stage_is) refl
            (kept_times p v.tasks.promised mine_once));
        promises = each_view (λ i x. (y : Promise) → In y x.tasks.promised → IsPromised (put lies p (some u)) y) s.views id w3
            (λ y g. let r = in_kept p v.tasks.promised y g in promised_else j lies p u y (a.promises id v at y r.0) r.1)
            (λ i x n e y g. promised_else j lies p u y (a.promises i x e y g)
            (not_among promise_path x.tasks.promised p (tally_alone promised_in is_promised lies s.views id v a.promised at p i x n e
            (let b = one_promised in omega arith) (let b = mine_once in omega arith)) y g));
        desks = asking.desks_now l lies s.words s.views a f.counts.few f.words.wide id v at k thief_less o3 whose3 alone_holds w3
            (desk_after o3 refl);
        unasked = asking.unasked_now l lies s.words s.views a f.counts.few f.words.wide id v at k thief_less o3 whose3 alone_holds w3;
      }

      given_none : (i : ℕ) (x : View) → get_elem? s.views i ≡ some x → given_in x p ≡ 0
      given_none i x e = none_given j lies s f p t is (ap is_given stage_is) i x e

      posts_task : Facts j (put lies p (some u)) record { words = ws3; homes = s.homes; views = set s.views id w3 }
      posts_task = handed j lies s f id v at live k thief_less (packed_post o3) p t is (Posted k) (ap is_begun stage_is) refl
          (ap phase_of stage_is) refl (ap is_claimed stage_is) (ap stand_of stage_is)
          (kept_promises p v.tasks.promised) v.tasks.given (answers_one v k).desk (post_quiet l s.words f.words.wide k thief_less o3 (P.Held v.desk.victim) held_there refl refl) asked3
          (sums.stays given_in is_given lies v w3 p t u is (ap is_given stage_is) (λ q. refl))
          (λ y i. given_else j lies p u y ((f.fits id v at).given y i)
          (not_among spot_path v.tasks.given p (given_none id v at) y i))
          (λ i x n e. given_none i x e)

      pub task_same : task_of j p u ≡ task_of j p t
      task_same = same_task j lies s f id v at live k thief_less (packed_post o3) p t is (Posted k) (ap is_begun stage_is) refl
          (ap phase_of stage_is) refl (ap is_claimed stage_is) (ap stand_of stage_is)

      -- the promises of the record are those of its task
      dropped : kept_promises p v.tasks.promised ≡ other_promises m.spot.berth.at v.tasks.promised
      dropped = same_drop p m.spot.berth.at v.tasks.promised (λ x x_in. let y = f.asked.promises id v at x x_in in (
        (λ e. f.words.alone p x.spot.path t y.0 is y.1 (ap is_gone stage_is) (ap is_gone y.3)
            (ap (λ (b : Berth). b.at) berth_is ∙ (e ∙ ap (λ (b : Berth). b.at) (sym y.2)))),
        (λ e. ap (λ (b : Berth). b.at) (sym berth_is) ∙ (ap (λ (z : Lie). z.berth.at)
            (some-injective t y.0 (sym is ∙ (ap lies e ∙ y.1))) ∙ ap (λ (b : Berth). b.at) y.2)),
      ))

      pub gives_it : Facts j (put lies p (some u)) record {
        words = set s.words (place l (worker_word k post)) (packed_post (P.Task m.spot.berth.at));
        homes = s.homes;
        views = set s.views id (gives_one v k m.spot.berth.at);
      }
      gives_it = subst (λ (z : ℕ × List Promise). Facts j (put lies p (some u)) record {
        words = set s.words (place l (worker_word k post)) (packed_post (P.Task z.0));
        homes = s.homes;
        views = set s.views id (record (answers_one v k) { tasks = record v.tasks { promised = z.1 } });
      }) (λ i. ((berth_is i).at, dropped i)) posts_task
