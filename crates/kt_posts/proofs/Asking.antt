-- What a step on a post or a request word does to the facts of requests. The others of whom these facts speak change a
-- post only onward: from a request or a held one to a held one or an answer. So whoever asks keeps what it knows of its
-- own post.
use Rattle.std.proofs.Common.{◌≡◌, ◌≢◌, ℕ, suc, ◌<◌, ◌≤◌, ◌⊎◌, Bool, true, false, List, length, set, length-set, sym, refl, ap, ◌∙◌, subst, inl, inr, arith}
use mathlib.Core.Option.{some}
use native.Mathlib.Decide.{ℕ_discrete}
use lib.ListN.{get_elem?}
use Rattle.kt_words.specs.Places.{place, total_of, worker_word, request, post, answer}
use Rattle.kt_words.specs.Words.{packed_post, IsPost}
use Rattle.kt_words.specs.declared.layouts.Layout.{Layout}
use Rattle.kt_words.specs.declared.posts.Post.{Post}
use Rattle.kt_words.specs.declared.posts.Post.TheVariants as P
use Rattle.kt_rule.specs.declared.views.Promise.{Promise}
use Rattle.kt_rule.specs.declared.views.Wrote.{Wrote}
use Rattle.kt_rule.specs.declared.views.Desk.{Desk}
use Rattle.kt_rule.specs.declared.views.LoopHands.{LoopHands}
use Rattle.kt_rule.specs.declared.views.View.{View}
use Rattle.kt_rule.specs.Lists.{In}
use Rattle.kt_rule.specs.Lies.{Lies}
use Rattle.kt_rule.specs.Records.{word_at}
use Rattle.kt_rule.specs.Views.{promised_in}
use Rattle.kt_rule.specs.Facts.{is_promised}
use Rattle.kt_rule.specs.Requests.{IsPromised, Desked, Asked}
use Rattle.kt_rule.proofs.Shelf as shelf
use Rattle.kt_rule.proofs.Sums.{tally_step}
use Rattle.kt_rule.proofs.Moves.{at_below, each_view}
use Rattle.kt_posts.specs.Desks.{is_answer, is_idle}
use Rattle.kt_posts.proofs.PostWords.{post_same, not_idle_pos, idle_not, is_answered}

-- a post that others may change, and what they make of it
abbrev pub is_asking : Post → Bool
is_asking P.Idle = false
is_asking (P.Posted victim) = true
is_asking (P.Held victim) = true
is_asking P.Failed = false
is_asking (P.Task at) = false
is_asking (P.Piece at) = false

abbrev pub is_onward : Post → Bool
is_onward P.Idle = false
is_onward (P.Posted victim) = false
is_onward (P.Held victim) = true
is_onward P.Failed = true
is_onward (P.Task at) = true
is_onward (P.Piece at) = true

asking_busy : (o : Post) → is_asking o ≡ true → is_idle o ≡ false
asking_busy P.Idle h = cc
asking_busy (P.Posted v) h = refl
asking_busy (P.Held v) h = refl
asking_busy P.Failed h = refl
asking_busy (P.Task a) h = refl
asking_busy (P.Piece a) h = refl

onward_busy : (o : Post) → is_onward o ≡ true → is_idle o ≡ false
onward_busy P.Idle h = cc
onward_busy (P.Posted v) h = refl
onward_busy (P.Held v) h = refl
onward_busy P.Failed h = refl
onward_busy (P.Task a) h = refl
onward_busy (P.Piece a) h = refl

pub asking_no_answer : (o : Post) → is_asking o ≡ true → is_answer o ≡ true → ⊥
asking_no_answer P.Idle h i = cc
asking_no_answer (P.Posted v) h i = cc
asking_no_answer (P.Held v) h i = cc
asking_no_answer P.Failed h i = cc
asking_no_answer (P.Task a) h i = cc
asking_no_answer (P.Piece a) h i = cc

module _ (l : Layout) (lies : Lies) (ws : List ℕ) (views : List View) (a : Asked l lies ws views) (few : length views ≤ l.workers)
    (wide : total_of l ≤ length ws) (id : ℕ) (v : View) (at : get_elem? views id ≡ some v) where
  seat_below : (i : ℕ) (x : View) → get_elem? views i ≡ some x → i < l.workers
  seat_below i x e = let b = at_below views i x e in omega arith

  -- THE POST of worker k becomes o: it is the seat's own, or it goes onward and no other seat holds it
  module _ (k : ℕ) (less : k < l.workers) (o : Post)
      (whose : (k ≡ id) ⊎ (((x : Post) × (word_at l ws (worker_word k post) ≡ packed_post x) × (is_asking x ≡ true))
      × (is_onward o ≡ true)))
      (alone : (i : ℕ) (x : View) → i ≢ id → get_elem? views i ≡ some x → 0 < x.parts → In k x.desk.held → ⊥) where
    abbrev ws' : List ℕ
    ws' = set ws (place l (worker_word k post)) (packed_post o)

    pub post_here : word_at l ws' (worker_word k post) ≡ packed_post o
    post_here = shelf.here l ws (worker_word k post) (packed_post o) less wide

    pub post_there : (i : ℕ) → i ≡ k → word_at l ws' (worker_word i post) ≡ packed_post o
    post_there i d = ap (λ (z : ℕ). word_at l ws' (worker_word z post)) d ∙ post_here

    pub post_else : (i : ℕ) → i < l.workers → i ≢ k → word_at l ws' (worker_word i post) ≡ word_at l ws (worker_word i post)
    post_else i low n = shelf.else l ws (worker_word k post) (worker_word i post) (packed_post o) less low
        (λ e. let r : i ≡ k = cc in n r)

    pub request_else : (i : ℕ) → i < l.workers → word_at l ws' (worker_word i request) ≡ word_at l ws (worker_word i request)
    request_else i low = shelf.else l ws (worker_word k post) (worker_word i request) (packed_post o) less low (λ e. cc)

    pub answer_else : (i : ℕ) → i < l.workers → word_at l ws' (worker_word i answer) ≡ word_at l ws (worker_word i answer)
    answer_else i low = shelf.else l ws (worker_word k post) (worker_word i answer) (packed_post o) less low (λ e. cc)

    -- what the post was, said of a worker that is k
    pub was_there : (i : ℕ) (n : ℕ) → i ≡ k → word_at l ws (worker_word i post) ≡ n → word_at l ws (worker_word k post) ≡ n
    was_there i n d e = ap (λ (z : ℕ). word_at l ws (worker_word z post)) (sym d) ∙ e

    -- a live seat whose post it is knows what it knew
    theirs : (i : ℕ) (x : View) → i ≢ id → get_elem? views i ≡ some x → 0 < x.parts → Desked l ws' i x.desk
    theirs i x n e live = let h = a.desks i x e live in let low = seat_below i x e in record {
      free = λ f. elim (ℕ_discrete i k) [
        | yes d ↦ absurd (busy_there d (was_there i 0 d (h.free f)))
        | no m ↦ post_else i low m ∙ h.free f
      ];
      busy = λ f. elim (ℕ_discrete i k) [
        | yes d ↦ (let c = new_there d in let z = post_there i d in omega arith)
        | no m ↦ (let c = h.busy f in let z = post_else i low m in omega arith)
      ];
      asked = λ y f p. elim (ℕ_discrete i k) [
        | yes d ↦ absurd (onward_there d y (sym (post_there i d) ∙ p))
        | no m ↦ h.asked y f (sym (post_else i low m) ∙ p)
      ];
      lead = λ f. let c = h.lead f in (c.0, request_else x.desk.victim c.0 ∙ c.1);
      held = λ y g. let c = h.held y g in
          (c.0, c.1, post_else y c.0 (λ d. alone i x n e live (subst (λ (z : ℕ). In z x.desk.held) d g)) ∙ c.2);
      saw = λ f. let c = h.saw f in elim (ℕ_discrete i k) [
        | yes d ↦ absurd (answer_there d c.0 (is_answered c.0 c.1)
            (was_there i (packed_post c.0) d (c.3 ∙ sym c.2)))
        | no m ↦ (c.0, c.1, c.2, post_else i low m ∙ c.3)
      ];
      wrote = λ y g. let c = h.wrote y g in (c.0, answer_else y.thief (h.held y.thief c.0).0 ∙ c.1);
      got = λ f. let c = h.got f in (c.0, answer_else i low ∙ c.1);
    }
      where
        busy_there : i ≡ k → word_at l ws (worker_word k post) ≡ 0 → ⊥
        busy_there d z = elim whose [
          | inl own ↦ n (d ∙ own)
          | inr h ↦ idle_not h.0.0 (sym z ∙ h.0.1) (asking_busy h.0.0 h.0.2)
        ]

        onward_there : i ≡ k → (y : ℕ) → packed_post o ≡ packed_post (P.Posted y) → ⊥
        onward_there d y e = elim whose [
          | inl own ↦ n (d ∙ own)
          | inr h ↦ (let z : true ≡ false = sym h.1 ∙ ap is_onward (post_same o (P.Posted y) e) in cc)
        ]

        new_there : i ≡ k → 0 < packed_post o
        new_there d = elim whose [
          | inl own ↦ absurd (n (d ∙ own))
          | inr h ↦ not_idle_pos o (onward_busy o h.1)
        ]

        answer_there : i ≡ k → (y : Post) → is_answer y ≡ true → word_at l ws (worker_word k post) ≡ packed_post y → ⊥
        answer_there d y is e = elim whose [
          | inl own ↦ n (d ∙ own)
          | inr h ↦ asking_no_answer h.0.0 h.0.2 (ap is_answer (post_same h.0.0 y (sym h.0.1 ∙ e)) ∙ is)
        ]

    pub posts_now : IsPost o → (i : ℕ) → i < l.workers → (x : Post) × IsPost x × (word_at l ws' (worker_word i post) ≡ packed_post x)
    posts_now fits_o i low = elim (ℕ_discrete i k) [
      | yes d ↦ (o, fits_o, post_there i d)
      | no n ↦ (let x = a.posts i low in (x.0, x.1, post_else i low n ∙ x.2))
    ]

    pub leads_now : (i : ℕ) → i < l.workers → word_at l ws' (worker_word i request) ≤ l.workers
    leads_now i low = let x = a.leads i low in let e = request_else i low in omega arith

    pub desks_now : (w : View) → Desked l ws' id w.desk → (i : ℕ) (x : View) → get_elem? (set views id w) i ≡ some x → 0 < x.parts
        → Desked l ws' i x.desk
    desks_now w mine = each_view (λ i x. 0 < x.parts → Desked l ws' i x.desk) views id w (λ some_part. mine) theirs

    pub unasked_now : (w : View) (i : ℕ) → length (set views id w) ≤ i → i < l.workers → word_at l ws' (worker_word i post) ≡ 0
    unasked_now w i from low = let n = length-set views id w in let b = at_below views id v at in elim (ℕ_discrete i k) [
      | yes d ↦ (elim whose [
        | inl own ↦ absurd (omega arith)
        | inr h ↦ absurd (idle_not h.0.0
            (sym (was_there i 0 d (a.unasked i (omega arith) low)) ∙ h.0.1) (asking_busy h.0.0 h.0.2))
      ])
      | no m ↦ post_else i low m ∙ a.unasked i (omega arith) low
    ]

    -- where neither the old post nor the new one gives a task, and only what the seat knows of requests and has of loops changes
    pub asked_post : IsPost o → ((b : ℕ) → word_at l ws (worker_word k post) ≢ packed_post (P.Task b)) → ((b : ℕ) → o ≢ P.Task b)
        → (d : Desk) (hands : LoopHands) → Desked l ws' id d → Asked l lies ws' (set views id (record v { desk = d; loops = hands }))
    asked_post fits_o not_task no_task d hands mine = record {
      posts = posts_now fits_o;
      leads = leads_now;
      tasks = λ i b low e. elim (ℕ_discrete i k) [
        | yes c ↦ absurd (no_task b (post_same o (P.Task b) (sym (post_there i c) ∙ e)))
        | no m ↦ a.tasks i b low (sym (post_else i low m) ∙ e)
      ];
      posted = λ p t i e stage. let h = a.posted p t i e stage in
          (h.0, post_else i h.0 (λ c. not_task t.berth.at (was_there i (packed_post (P.Task t.berth.at)) c h.1)) ∙ h.1);
      promised = tally_step promised_in is_promised lies views id v a.promised at (record v { desk = d; loops = hands }) lies (λ p. refl);
      promises = each_view (λ i x. (m : Promise) → In m x.tasks.promised → IsPromised lies m) views id (record v { desk = d; loops = hands })
          (a.promises id v at) (λ i x ne e. a.promises i x e);
      desks = desks_now (record v { desk = d; loops = hands }) mine;
      unasked = unasked_now (record v { desk = d; loops = hands });
    }

  -- THE REQUEST WORD of a worker becomes n, where no other seat leads the requests at it
  module _ (x n : ℕ) (less : x < l.workers) (small : n ≤ l.workers)
      (alone : (i : ℕ) (u : View) → i ≢ id → get_elem? views i ≡ some u → 0 < u.parts → u.desk.leads ≡ true → u.desk.victim ≢ x) where
    abbrev ws2 : List ℕ
    ws2 = set ws (place l (worker_word x request)) n

    pub request_here : word_at l ws2 (worker_word x request) ≡ n
    request_here = shelf.here l ws (worker_word x request) n less wide

    request_other : (i : ℕ) → i < l.workers → i ≢ x → word_at l ws2 (worker_word i request) ≡ word_at l ws (worker_word i request)
    request_other i low m = shelf.else l ws (worker_word x request) (worker_word i request) n less low
        (λ e. let r : i ≡ x = cc in m r)

    pub post_stays : (i : ℕ) → i < l.workers → word_at l ws2 (worker_word i post) ≡ word_at l ws (worker_word i post)
    post_stays i low = shelf.else l ws (worker_word x request) (worker_word i post) n less low (λ e. cc)

    pub answer_stays : (i : ℕ) → i < l.workers → word_at l ws2 (worker_word i answer) ≡ word_at l ws (worker_word i answer)
    answer_stays i low = shelf.else l ws (worker_word x request) (worker_word i answer) n less low (λ e. cc)

    -- what a seat knows but whom it leads
    pub desk_stays : (i : ℕ) → i < l.workers → (d c : Desk) → Desked l ws i c → d.free ≡ c.free → d.asked ≡ c.asked → d.saw ≡ c.saw
        → d.word ≡ c.word → d.got ≡ c.got → d.piece ≡ c.piece
        → (d.leads ≡ true → (d.victim < l.workers) × (word_at l ws2 (worker_word d.victim request) ≡ suc i))
        → ((y : ℕ) → In y d.held → In y c.held × (d.leads ≡ true) × (d.victim ≡ c.victim))
        → ((y : Wrote) → In y d.wrote → In y c.wrote × In y.thief d.held)
        → Desked l ws2 i d
    desk_stays i low d c h free asked saw word got piece lead held wrote = record {
      free = λ f. post_stays i low ∙ h.free (sym free ∙ f);
      busy = λ f. let b = h.busy (sym free ∙ f) in let z = post_stays i low in omega arith;
      asked = λ y f p. h.asked y (sym free ∙ f) (sym (post_stays i low) ∙ p) ∙ sym asked;
      lead = lead;
      held = λ y g. let r = held y g in let b = h.held y r.0 in
          (b.0, r.1, post_stays y b.0 ∙ (b.2 ∙ ap (λ (z : ℕ). packed_post (P.Held z)) (sym r.2)));
      saw = λ f. let b = h.saw (sym saw ∙ f) in (b.0, b.1, b.2 ∙ sym word, post_stays i low ∙ (b.3 ∙ sym word));
      wrote = λ y g. let r = wrote y g in let b = h.wrote y r.0 in (r.1, answer_stays y.thief (h.held y.thief b.0).0 ∙ b.1);
      got = λ f. let b = h.got (sym got ∙ f) in (saw ∙ b.0, answer_stays i low ∙ (b.1 ∙ sym piece));
    }

    theirs2 : (i : ℕ) (u : View) → i ≢ id → get_elem? views i ≡ some u → 0 < u.parts → Desked l ws2 i u.desk
    theirs2 i u m e live = let h = a.desks i u e live in
        desk_stays i (seat_below i u e) u.desk u.desk h refl refl refl refl refl refl
        (λ f. let c = h.lead f in (c.0, request_other u.desk.victim c.0 (alone i u m e live f) ∙ c.1))
        (λ y g. (g, (h.held y g).1, refl)) (λ y g. (g, (h.wrote y g).0))

    pub asked_request : (d : Desk) → Desked l ws2 id d → Asked l lies ws2 (set views id (record v { desk = d }))
    asked_request d mine = record {
      posts = λ i low. let o = a.posts i low in (o.0, o.1, post_stays i low ∙ o.2);
      leads = λ i low. elim (ℕ_discrete i x) [
        | yes e ↦ (let h : word_at l ws2 (worker_word i request) ≡ n = ap (λ (z : ℕ). word_at l ws2 (worker_word z request)) e
            ∙ request_here in omega arith)
        | no m ↦ (let h = request_other i low m in let c = a.leads i low in omega arith)
      ];
      tasks = λ i b low e. a.tasks i b low (sym (post_stays i low) ∙ e);
      posted = λ p t i e stage. let h = a.posted p t i e stage in (h.0, post_stays i h.0 ∙ h.1);
      promised = tally_step promised_in is_promised lies views id v a.promised at (record v { desk = d }) lies (λ p. refl);
      promises = each_view (λ i u. (m : Promise) → In m u.tasks.promised → IsPromised lies m) views id (record v { desk = d })
          (a.promises id v at) (λ i u ne e. a.promises i u e);
      desks = each_view (λ i u. 0 < u.parts → Desked l ws2 i u.desk) views id (record v { desk = d }) (λ some_part. mine) theirs2;
      unasked = λ i from low. let m = length-set views id (record v { desk = d }) in post_stays i low ∙ a.unasked i (omega arith) low;
    }
