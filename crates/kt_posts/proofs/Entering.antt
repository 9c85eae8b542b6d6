-- No step on a request, a post or an answer word changes the core that words and views show.
use Rattle.std.proofs.Common.{◌≡◌, ◌≢◌, ℕ, suc, ◌<◌, true, false, [], set, sym, refl, ap, ◌∙◌, subst}
use mathlib.Core.Option.{some}
use lib.ListN.{get_elem?}
use Rattle.atomic_table.specs.Table.{State}
use Rattle.kt_words.specs.Places.{worker_word, request, post, answer}
use Rattle.kt_words.specs.Words.{packed_post}
use Rattle.kt_words.specs.declared.posts.Post.{Post}
use Rattle.kt_words.specs.declared.posts.Post.TheVariants as P
use Rattle.kt_rule.specs.declared.views.Setup.{Setup}
use Rattle.kt_rule.specs.declared.views.Spot.{Spot}
use Rattle.kt_rule.specs.declared.views.Share.{Share}
use Rattle.kt_rule.specs.declared.views.View.{View}
use Rattle.kt_rule.specs.Lies.{Lie, Lies, Given, Posted}
use Rattle.kt_rule.specs.Records.{layout_of, word_at}
use Rattle.kt_rule.specs.Rule.{Slots, Facts}
use Rattle.kt_steps.specs.CoreMoves.{Stays}
use Rattle.kt_steps.specs.Laws.{Enters}
use Rattle.kt_steps.proofs.Entering.{nothing_moves, stays_still}
use Rattle.kt_posts.specs.Desks.{is_answer, posts, sees, gets_piece, freed, takes_task, takes_piece, leads_now, holds_one}
use Rattle.kt_posts.specs.Told.{Took}
use Rattle.kt_posts.specs.Laws.{after_post, after_request, after_look, PostStays, LeadStays, BusyStays, PostLoadStays, AnswerLoadStays, HoldStays, LookStays, FailedStays, TaskStays, WriteStays, PieceStays, TakeStays, WithdrawStays, ReleaseStays}
use Rattle.kt_posts.proofs.PieceWords.{piece_of}
use Rattle.kt_posts.proofs.PostWords.{is_answered}
use Rattle.kt_posts.proofs.Desking.{elements_stay}
use Rattle.kt_posts.proofs.ThiefSteps as thief
use Rattle.kt_posts.proofs.LeaderSteps as leader

-- a step on a post, on a request word, and on no word, where the tasks stay where they are
module _ (j : Setup) (lies : Lies) (s : State Slots View) (f : Facts j lies s) (id : ℕ) (w : View) where
  post_enters : (k : ℕ) → k < j.workers → (o : Post) → Facts j lies (after_post j s k o id w) → Enters j Stays s (after_post j s k o id w)
  post_enters k less o g = ((lies, g), nothing_moves j lies s _ f g (elements_stay j lies s f k post less (packed_post o)))

  request_enters : (k : ℕ) → k < j.workers → (n : ℕ) → Facts j lies (after_request j s k n id w)
      → Enters j Stays s (after_request j s k n id w)
  request_enters k less n g = ((lies, g), nothing_moves j lies s _ f g (elements_stay j lies s f k request less n))

  look_enters : Facts j lies (after_look s id w) → Enters j Stays s (after_look s id w)
  look_enters g = ((lies, g), nothing_moves j lies s _ f g refl)

-- the seat's worker is its number
module _ (j : Setup) (lies : Lies) (s : State Slots View) (f : Facts j lies s) (id : ℕ) (v : View) (at : get_elem? s.views id ≡ some v)
    (live : 0 < v.parts) where
  own : v.worker ≡ id
  own = (f.fits id v at).own live

  own_word : (n : ℕ) → word_at (layout_of j) s.words (worker_word v.worker post) ≡ n
      → word_at (layout_of j) s.words (worker_word id post) ≡ n
  own_word n e = ap (λ (k : ℕ). word_at (layout_of j) s.words (worker_word k post)) (sym own) ∙ e

  at_own : (o : Post) (w : View) → Enters j Stays s (after_post j s id o id w) → Enters j Stays s (after_post j s v.worker o id w)
  at_own o w h = subst (λ (k : ℕ). Enters j Stays s (after_post j s k o id w)) (sym own) h

pub post_stays : PostStays
post_stays j s (lies, f) id v (at, live) victim free fits_o = at_own j lies s f id v at live (P.Posted victim) (posts v victim)
    (post_enters j lies s f id (posts v victim) id (thief.seat_less j lies s f id v at live) (P.Posted victim)
    (thief.posts_it j lies s f id v at live victim free fits_o))

pub lead_stays : LeadStays
lead_stays j s (lies, f) id v (at, live) victim leads_none less zero_there =
    subst (λ (k : ℕ). Enters j Stays s (after_request j s victim (suc k) id (leads_now v victim))) (sym (own j lies s f id v at live))
    (request_enters j lies s f id (leads_now v victim) victim less (suc id)
    (leader.leads_it j lies s f id v at live victim less zero_there))

pub post_load_stays : PostLoadStays
post_load_stays j s (lies, f) id v (at, live) o word = look_enters j lies s f id (sees v (packed_post o) (is_answer o))
    (thief.sees_it j lies s f id v at live o (own_word j lies s f id v at live (packed_post o) word))

pub answer_load_stays : AnswerLoadStays
answer_load_stays j s (lies, f) id v (at, live) saw =
    subst (λ (k : ℕ). Enters j Stays s (after_look s id (gets_piece v (word_at (layout_of j) s.words (worker_word k answer)))))
    (sym (own j lies s f id v at live))
    (look_enters j lies s f id (gets_piece v (word_at (layout_of j) s.words (worker_word id answer)))
    (thief.gets_it j lies s f id v at live saw))

pub hold_stays : HoldStays
hold_stays j s (lies, f) id v (at, live) k leads less word =
    post_enters j lies s f id (holds_one v k (packed_post (P.Posted v.desk.victim))) k less (P.Held v.desk.victim)
    (leader.holds_it j lies s f id v at live k less leads word (packed_post (P.Posted v.desk.victim)))

pub busy_stays : BusyStays
busy_stays j s (lies, f) id v (at, live) victim = look_enters j lies s f id _ (leader.finds_it j lies s f id v at live _)

pub look_stays : LookStays
look_stays j s (lies, f) id v (at, live) k = look_enters j lies s f id _ (leader.finds_it j lies s f id v at live _)

pub failed_stays : FailedStays
failed_stays j s (lies, f) id v (at, live) k k_in = post_enters j lies s f id _ k
    (leader.thief_less j lies s f id v at live k k_in) P.Failed
    (leader.answers_it j lies s f id v at live k k_in P.Failed refl (record { number_fits = omega Rattle.std.proofs.Common.arith })
    (λ b e. cc) refl)

pub task_stays : TaskStays
task_stays j s (lies, f) id v (at, live) m m_in k_in =
    let g = leader.gives_it j lies s f id v at live m.thief k_in m m_in refl in
    let t : Lie = (leader.promise_is j lies s f id v at live m.thief k_in m m_in refl).0 in (
      (_, g),
      stays_still j lies s _ f m.spot.path t (leader.is j lies s f id v at live m.thief k_in m m_in refl)
          (record t { stage = Posted m.thief })
          refl refl g (leader.task_same j lies s f id v at live m.thief k_in m m_in refl)
          (elements_stay j lies s f m.thief post (leader.thief_less j lies s f id v at live m.thief k_in)
          (packed_post (P.Task m.spot.berth.at))),
    )

pub write_stays : WriteStays
write_stays j s (lies, f) id v (at, live) k word k_in =
    let g = leader.writes_it j lies s f id v at live k k_in word in (
      (lies, g),
      nothing_moves j lies s _ f g (elements_stay j lies s f k answer (leader.thief_less j lies s f id v at live k k_in) word),
    )

pub piece_stays : PieceStays
piece_stays j s (lies, f) id v (at, live) e x e_in x_in is fits_o =
    let w = (f.asked.desks id v at live).wrote e e_in in
    post_enters j lies s f id _ e.thief (leader.thief_less j lies s f id v at live e.thief w.0) (P.Piece x.spot.berth.at)
    (leader.gives_piece_it j lies s f id v at live e.thief w.0 x x_in (w.1 ∙ is) fits_o)

pub take_stays : TakeStays
take_stays j s (lies, f) id v (at, live) saw =
    let h = (thief.own_desk j lies s f id v at live).saw saw in
    let there_is = h.3 ∙ sym h.2 in (
      h.0,
      is_answered h.0 h.1,
      sym h.2,
      ap (λ (k : ℕ). word_at (layout_of j) s.words (worker_word k post)) (own j lies s f id v at live)
          ∙ there_is,
      go h.0 (is_answered h.0 h.1) there_is,
    )
  where
    frees : (o : Post) → word_at (layout_of j) s.words (worker_word id post) ≡ packed_post o → ((y : ℕ) → o ≢ P.Held y)
        → ((b : ℕ) → o ≢ P.Task b) → piece_of o ≡ 0 → Enters j Stays s (after_post j s v.worker P.Idle id (freed v))
    frees o there_is not_held no_task no_piece = at_own j lies s f id v at live P.Idle (freed v)
        (post_enters j lies s f id (freed v) id (thief.seat_less j lies s f id v at live) P.Idle
        (thief.frees_it j lies s f id v at live o there_is not_held no_task no_piece v.desk.word))

    go : (o : Post) → is_answer o ≡ true → word_at (layout_of j) s.words (worker_word id post) ≡ packed_post o
        → (w : View) × Took o v w × Enters j Stays s (after_post j s v.worker P.Idle id w)
    go P.Idle is there_is = absurd (cc is)
    go (P.Posted x) is there_is = absurd (cc is)
    go (P.Held x) is there_is = absurd (cc is)
    go P.Failed is there_is = (freed v, refl, frees P.Failed there_is (λ y e. cc) (λ b e. cc) refl)
    go (P.Piece a) is there_is =
        let x : Share = thief.taken_piece j lies s f id v at live a there_is in (
          freed (takes_piece v x),
          (
            x,
            (thief.piece_is j lies s f id v at live a there_is).at,
            thief.piece_fits j lies s f id v at live a there_is,
            thief.piece_got j lies s f id v at live a there_is,
            refl,
            thief.piece_in_region j lies s f id v at live a there_is,
          ),
          at_own j lies s f id v at live P.Idle (freed (takes_piece v x))
              (post_enters j lies s f id (freed (takes_piece v x)) id (thief.seat_less j lies s f id v at live) P.Idle
              (thief.takes_piece_it j lies s f id v at live a there_is)),
        )
    go (P.Task b) is there_is =
        let g = thief.takes_it j lies s f id v at live b there_is in
        let m : Spot = thief.taken j lies s f id v at live b there_is in
        let t : Lie = (thief.gave j lies s f id v at live b there_is).1 in (
          freed (takes_task v m),
          (m, (thief.gave j lies s f id v at live b there_is).3, refl, thief.in_region j lies s f id v at live b there_is),
          at_own j lies s f id v at live P.Idle (freed (takes_task v m)) (
            (_, g),
            stays_still j lies s _ f m.path t (thief.is j lies s f id v at live b there_is) (record t { stage = Given id })
                refl refl g (thief.task_same j lies s f id v at live b there_is)
                (elements_stay j lies s f id post (thief.seat_less j lies s f id v at live) (packed_post P.Idle)),
          ),
        )

pub withdraw_stays : WithdrawStays
withdraw_stays j s (lies, f) id v (at, live) victim word =
    at_own j lies s f id v at live P.Idle (freed (sees v (packed_post (P.Posted victim)) false))
    (post_enters j lies s f id _ id (thief.seat_less j lies s f id v at live) P.Idle
    (thief.frees_it j lies s f id v at live (P.Posted victim) (own_word j lies s f id v at live (packed_post (P.Posted victim)) word)
    (λ y e. cc) (λ b e. cc) refl (packed_post (P.Posted victim))))

pub release_stays : ReleaseStays
release_stays j s (lies, f) id v (at, live) leads answered = request_enters j lies s f id _ v.desk.victim
    (leader.victim_less j lies s f id v at live leads) 0 (leader.releases_it j lies s f id v at live leads answered)
