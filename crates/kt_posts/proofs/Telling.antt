-- The kinds of step as the table asks for them, and what each tells.
use Rattle.std.proofs.Common.{◌≡◌, ℕ, suc, ◌<◌, ◌≤◌, ◌==◌, eqb, ne_eqb, true, false, [], List, set, get_or, slice_index, sym, refl, ap, ◌∙◌, subst, arith, MatchBool, Some}
use mathlib.Core.Option.{none, some}
use mathlib.Core.Logic.{dite}
use native.Mathlib.Decide.{ℕ_discrete}
use prog.Atomic.{either}
use lib.ListN.{get_elem?}
use Rattle.atomic_table.specs.Table.{State, Me, Act, Valid, carried_after, stepped, keeps, step, Allows}
use Rattle.atomic_table.proofs.Lists.{set_again}
use Rattle.kt_words.specs.Places.{place, worker_word, Own, request, post, answer}
use Rattle.kt_words.specs.Words.{packed_post, packed_pair, IsPost}
use Rattle.kt_words.specs.declared.posts.Post.{Post}
use Rattle.kt_words.specs.declared.posts.Post.TheVariants as P
use Rattle.kt_rule.specs.declared.views.Setup.{Setup}
use Rattle.kt_rule.specs.declared.views.Spot.{Spot}
use Rattle.kt_rule.specs.declared.views.Share.{Share}
use Rattle.kt_rule.specs.declared.views.Promise.{Promise}
use Rattle.kt_rule.specs.declared.views.View.{View}
use Rattle.kt_rule.specs.Lists.{In}
use Rattle.kt_rule.specs.Lies.{Lies}
use Rattle.kt_rule.specs.Records.{layout_of, word_at}
use Rattle.kt_rule.specs.Rule.{Slots, Facts, Holds}
use Rattle.kt_rule.specs.Steps.{Tells}
use Rattle.kt_steps.proofs.Steps.{set_word, inside, holds_so, holds_at, won, told_won, told_lost}
use Rattle.kt_steps.proofs.Telling.{the_some}
use Rattle.kt_posts.specs.Desks.{is_answer, posts, sees, gets_piece, freed, takes_task, takes_piece, finds_busy, leads_now, looks_at, holds_one, pair_of, writes_one, answers_one, gives_one, deals_one, gives_piece, releases_now}
use Rattle.kt_posts.specs.Told.{IsOf, IsPostWord, PostsAt, Peeks, GetsPiece, TakesBack, Withdraws, LeadsAt, HoldsAt, FailsAt, GivesAt, WritesAt, DealsAt, Releases}
use Rattle.kt_posts.proofs.PieceWords.{pair_same}
use Rattle.kt_posts.proofs.PostWords.{post_same, pos_not_idle, is_answered, posted_one, task_one, piece_one, worker_one}
use Rattle.kt_posts.proofs.ThiefSteps as thief
use Rattle.kt_posts.proofs.LeaderSteps as leader

-- after a step that changes no word
load_holds : (opening : List ℕ) (j : Setup) (lies : Lies) (s : State Slots View) (i id : ℕ) (c : List (ℕ × Slots)) (w : View)
    → Facts j lies record { words = s.words; homes = s.homes; views = set s.views id w }
    → Holds opening (stepped s i (get_or s.words i 0) id c w keeps)
load_holds opening j lies s i id c w f = holds_so opening _ j lies
    (subst (λ (ws : List ℕ). Facts j lies record { words = ws; homes = s.homes; views = set s.views id w }) (sym (set_word s.words i)) f)

same_views : (opening : List ℕ) (s : State Slots View) (id : ℕ) (v : View) → get_elem? s.views id ≡ some v → Holds opening s
    → Holds opening record { words = s.words; homes = s.homes; views = set s.views id v }
same_views opening s id v at h = subst (Holds opening)
    (λ k. record { words = s.words; homes = s.homes; views = sym (set_again s.views id v at) k }) h

module _ (opening : List ℕ) (slots id : ℕ) (me : Me Slots View) (j : Setup) (setup : me.0.setup ≡ Some j) (live : 0 < me.0.parts) where
  abbrev place_of : ℕ → Own → ℕ
  place_of k o = place (layout_of j) (worker_word k o)

  -- whatever setup the seat was told is this one
  any_setup : (P : Setup → Type 0) → P j → (k : Setup) → me.0.setup ≡ Some k → P k
  any_setup P h k told = subst P (the_some (sym setup ∙ told)) h

  -- and whichever worker's word stands there, it is this worker's
  one_worker : (k x : ℕ) (o : Own) (i : ℕ) → k < j.workers → i ≡ place_of k o → IsOf j x o i → k ≡ x
  one_worker k x o i less i_is of = worker_one (layout_of j) k x o less of.0 (sym i_is ∙ of.1)

  own_worker : (lies : Lies) (s : State Slots View) → Facts j lies s → get_elem? s.views id ≡ some me.0 → me.0.worker ≡ id
  own_worker lies s f at = (f.fits id me.0 at).own live

  -- THE THIEF

  pub posts_told : (victim i new : ℕ) → me.0.desk.free ≡ true → IsPost (P.Posted victim) → i ≡ place_of me.0.worker post
      → new ≡ packed_post (P.Posted victim)
      → Allows (Holds opening) slots id me i (λ _. new) (λ _. Tells PostsAt (step slots i new 0 none) me new)
  posts_told victim i new free fits_o i_is new_is s h out at word =
      let x = inside opening s j id me.0 h at live setup in let lies = x.0 in let f = x.1 in let w : View = posts me.0 victim in (
        w,
        keeps,
        tt,
        holds_at opening j lies s id (place_of id post) i (packed_post (P.Posted victim)) new w w
            (ap (λ (k : ℕ). place_of k post) (sym (own_worker lies s f at)) ∙ sym i_is) (sym new_is) refl
            (thief.posts_it j lies s f id me.0 at live victim free fits_o),
        ((λ y fits_y e. ap (posts me.0) (posted_one victim y (sym new_is ∙ e))), refl),
      )

  -- what a look at the own post shows
  peeked : (lies : Lies) (s : State Slots View) (f : Facts j lies s) (at : get_elem? s.views id ≡ some me.0) → me.0.desk.free ≡ false
      → (i : ℕ) → i ≡ place_of id post → (c : List (ℕ × Slots)) (first second : ℕ)
      → (w : View) × Holds opening (stepped s i (get_or s.words i 0) id c w keeps)
      × Peeks (step slots i first second none) me.0 (get_or s.words i 0) w
  peeked lies s f at busy i i_is c first second =
      let n : ℕ = get_or s.words i 0 in
      let less = thief.seat_less j lies s f id me.0 at live in let desk = thief.own_desk j lies s f id me.0 at live in
      let n_is : n ≡ word_at (layout_of j) s.words (worker_word id post) = ap (slice_index s.words) i_is in
      let o = f.asked.posts id less in let word : n ≡ packed_post o.0 = n_is ∙ o.2 in
      let w : View = sees me.0 (packed_post o.0) (is_answer o.0) in
      let not_idle = pos_not_idle o.0 (let b = desk.busy busy in let e = o.2 in omega arith) in (
        w,
        load_holds opening j lies s i id c w (thief.sees_it j lies s f id me.0 at live o.0 o.2),
        (
          o.0,
          o.1,
          word,
          not_idle,
          (λ y e. desk.asked y busy (o.2 ∙ ap packed_post e)),
          ap (λ (z : ℕ). sees me.0 z (is_answer o.0)) (sym word),
        ),
      )

  pub peeks_told : (i : ℕ) → me.0.desk.free ≡ false → i ≡ place_of me.0.worker post
      → Allows (Holds opening) slots id me i (λ n. n) (Tells Peeks (step slots i 0 0 none) me)
  peeks_told i busy i_is s h out at word =
      let x = inside opening s j id me.0 h at live setup in
      let p = peeked x.0 s x.1 at busy i (i_is ∙ ap (λ (k : ℕ). place_of k post) (own_worker x.0 s x.1 at)) me.1 0 0 in
      (p.0, keeps, tt, p.1, (p.2, refl))

  pub gets_told : (i : ℕ) → me.0.desk.saw ≡ true → i ≡ place_of me.0.worker answer
      → Allows (Holds opening) slots id me i (λ n. n) (Tells GetsPiece (step slots i 0 0 none) me)
  gets_told i saw i_is s h out at word =
      let x = inside opening s j id me.0 h at live setup in let lies = x.0 in let f = x.1 in
      let n_is : get_or s.words i 0 ≡ word_at (layout_of j) s.words (worker_word id answer) = ap (slice_index s.words)
      (i_is ∙ ap (λ (k : ℕ). place_of k answer) (own_worker lies s f at)) in
      let w : View = gets_piece me.0 (word_at (layout_of j) s.words (worker_word id answer)) in (
        w,
        keeps,
        tt,
        load_holds opening j lies s i id me.1 w (thief.gets_it j lies s f id me.0 at live saw),
        (ap (gets_piece me.0) (sym n_is), refl),
      )

  pub takes_told : (i old new : ℕ) → me.0.desk.saw ≡ true → i ≡ place_of me.0.worker post → old ≡ me.0.desk.word
      → new ≡ packed_post P.Idle
      → Allows (Holds opening) slots id me i (λ n. either (n == old) new n) (Tells TakesBack (step slots i old new none) me)
  takes_told i old new saw i_is old_is new_is s h out at word =
      let x = inside opening s j id me.0 h at live setup in let lies = x.0 in let f = x.1 in
      let d = (thief.own_desk j lies s f id me.0 at live).saw saw in
      let fits_o = f.asked.posts id (thief.seat_less j lies s f id me.0 at live) in
      let i_at : place_of id post ≡ i = ap (λ (k : ℕ). place_of k post) (sym (own_worker lies s f at)) ∙ sym i_is in
      let hit : get_or s.words i 0 ≡ old = ap (slice_index s.words) (sym i_at) ∙ (d.3 ∙ sym old_is) in
      let there_is : word_at (layout_of j) s.words (worker_word id post) ≡ packed_post d.0 = d.3 ∙ sym d.2 in
      go lies f i_at hit d.0 (subst IsPost (post_same fits_o.0 d.0 (sym fits_o.2 ∙ there_is)) fits_o.1) (is_answered d.0 d.1) there_is
      (d.2 ∙ (sym old_is ∙ sym hit))
    where
      n : ℕ
      n = get_or s.words i 0

      Taken : Type 0
      Taken = (w : View) × (a : Act Slots) × Valid s.homes me.1 a × Holds opening (stepped s i (either (eqb n old) new n) id me.1 w a)
          × Tells TakesBack (step slots i old new none) me n (w, carried_after me.1 a)

      go : (lies : Lies) (f : Facts j lies s) → place_of id post ≡ i → n ≡ old → (o : Post) → IsPost o → is_answer o ≡ true
          → word_at (layout_of j) s.words (worker_word id post) ≡ packed_post o → packed_post o ≡ n → Taken
      go lies f i_at hit P.Idle fits_o is there_is word_is = absurd (cc is)
      go lies f i_at hit (P.Posted x) fits_o is there_is word_is = absurd (cc is)
      go lies f i_at hit (P.Held x) fits_o is there_is word_is = absurd (cc is)
      go lies f i_at hit P.Failed fits_o is there_is word_is = (
        freed me.0,
        keeps,
        tt,
        won opening s i old new id me.1 (freed me.0) hit
            (holds_at opening j lies s id (place_of id post) i (packed_post P.Idle) new (freed me.0) (freed me.0) i_at (sym new_is) refl
            (thief.frees_it j lies s f id me.0 at live P.Failed there_is (λ y e. cc) (λ b e. cc) refl me.0.desk.word)),
        ((hit, (P.Failed, fits_o, refl, word_is, refl)), refl),
      )
      go lies f i_at hit (P.Piece a) fits_o is there_is word_is =
          let x : Share = thief.taken_piece j lies s f id me.0 at live a there_is in let w : View = freed (takes_piece me.0 x) in (
            w,
            keeps,
            tt,
            won opening s i old new id me.1 w hit
                (holds_at opening j lies s id (place_of id post) i (packed_post P.Idle) new w w i_at (sym new_is) refl
                (thief.takes_piece_it j lies s f id me.0 at live a there_is)),
            (
              (
                hit,
                (
                  P.Piece a,
                  fits_o,
                  refl,
                  word_is,
                  (
                    x,
                    (thief.piece_is j lies s f id me.0 at live a there_is).at,
                    thief.piece_fits j lies s f id me.0 at live a there_is,
                    thief.piece_got j lies s f id me.0 at live a there_is,
                    refl,
                    thief.piece_in_region j lies s f id me.0 at live a there_is,
                  ),
                ),
              ),
              refl,
            ),
          )
      go lies f i_at hit (P.Task b) fits_o is there_is word_is =
          let m : Spot = thief.taken j lies s f id me.0 at live b there_is in let w : View = freed (takes_task me.0 m) in (
            w,
            keeps,
            tt,
            won opening s i old new id me.1 w hit
                (holds_at opening j _ s id (place_of id post) i (packed_post P.Idle) new w w i_at (sym new_is) refl
                (thief.takes_it j lies s f id me.0 at live b there_is)),
            ((hit, (P.Task b, fits_o, refl, word_is, (m, (thief.gave j lies s f id me.0 at live b there_is).3, refl, thief.in_region j lies s f id me.0 at live b there_is))), refl),
          )

  pub withdraws_told : (victim i old new : ℕ) → me.0.desk.free ≡ false → i ≡ place_of me.0.worker post
      → old ≡ packed_post (P.Posted victim) → new ≡ packed_post P.Idle
      → Allows (Holds opening) slots id me i (λ n. either (n == old) new n) (Tells Withdraws (step slots i old new none) me)
  withdraws_told victim i old new busy i_is old_is new_is s h out at word =
      let x = inside opening s j id me.0 h at live setup in let lies = x.0 in let f = x.1 in let n : ℕ = get_or s.words i 0 in
      let i_at : place_of id post ≡ i = ap (λ (k : ℕ). place_of k post) (sym (own_worker lies s f at)) ∙ sym i_is in
      let st = step slots i old new none in
      dite (ℕ_discrete n old)
      (λ hit. let w : View = freed (sees me.0 n false) in (
        w,
        keeps,
        tt,
        won opening s i old new id me.1 w hit
            (holds_at opening j lies s id (place_of id post) i (packed_post P.Idle) new w w i_at (sym new_is) refl
            (thief.frees_it j lies s f id me.0 at live (P.Posted victim) (ap (slice_index s.words) i_at ∙ (hit ∙ old_is)) (λ y e. cc)
            (λ b e. cc) refl n)),
        (told_won opening s i old new id me.1 (w ≡ freed (sees me.0 n false)) (Peeks st me.0 n w) hit refl, refl),
      ))
      (λ miss. let p = peeked lies s f at busy i (sym i_at) me.1 old new in (
        p.0,
        keeps,
        tt,
        subst (λ b. Holds opening (stepped s i (either b new n) id me.1 p.0 keeps)) (sym (ne_eqb n old miss)) p.1,
        (told_lost opening s i old new id me.1 (p.0 ≡ freed (sees me.0 n false)) (Peeks st me.0 n p.0) miss p.2, refl),
      ))

  -- THE LEADER

  pub leads_told : (victim i old new : ℕ) → me.0.desk.leads ≡ false → victim < j.workers → i ≡ place_of victim request → old ≡ 0
      → new ≡ suc me.0.worker
      → Allows (Holds opening) slots id me i (λ n. either (n == old) new n) (Tells LeadsAt (step slots i old new none) me)
  leads_told victim i old new leads_none less i_is old_is new_is s h out at word =
      let x = inside opening s j id me.0 h at live setup in let lies = x.0 in let f = x.1 in let v : View = me.0 in
      let n : ℕ = get_or s.words i 0 in let n_is : n ≡ word_at (layout_of j) s.words (worker_word victim request) = ap (slice_index s.words)
      i_is in let n_small : n ≤ j.workers = (let a = f.asked.leads victim less in omega arith) in
      dite (ℕ_discrete n old)
      (λ hit. let w : View = leads_now v victim in (
        w,
        keeps,
        tt,
        won opening s i old new id me.1 w hit
            (holds_at opening j lies s id (place_of victim request) i (suc id) new w w (sym i_is)
            (ap suc (sym (own_worker lies s f at)) ∙ sym new_is) refl
            (leader.leads_it j lies s f id v at live victim less (sym n_is ∙ (hit ∙ old_is)))),
        (
          any_setup
              (λ k. (y : ℕ) → IsOf k y request i → (n ≤ k.workers) × (k.workers ≤ 8)
              × MatchBool (n == old) (w ≡ leads_now v y) (w ≡ finds_busy v y n))
              (λ y of. (
                n_small,
                f.crew,
                told_won opening s i old new id me.1 (w ≡ leads_now v y) (w ≡ finds_busy v y n) hit
                    (ap (leads_now v) (one_worker victim y request i less i_is of)),
              )),
          refl,
        ),
      ))
      (λ miss. let w : View = finds_busy v victim n in (
        w,
        keeps,
        tt,
        subst (λ b. Holds opening (stepped s i (either b new n) id me.1 w keeps)) (sym (ne_eqb n old miss))
            (load_holds opening j lies s i id me.1 w (leader.finds_it j lies s f id v at live w.desk.found)),
        (
          any_setup
              (λ k. (y : ℕ) → IsOf k y request i → (n ≤ k.workers) × (k.workers ≤ 8)
              × MatchBool (n == old) (w ≡ leads_now v y) (w ≡ finds_busy v y n))
              (λ y of. (
                n_small,
                f.crew,
                told_lost opening s i old new id me.1 (w ≡ leads_now v y) (w ≡ finds_busy v y n) miss
                    (ap (λ (z : ℕ). finds_busy v z n) (one_worker victim y request i less i_is of)),
              )),
          refl,
        ),
      ))

  pub holds_told : (k i old new : ℕ) → me.0.desk.leads ≡ true → k < j.workers → i ≡ place_of k post
      → old ≡ packed_post (P.Posted me.0.desk.victim) → new ≡ packed_post (P.Held me.0.desk.victim)
      → Allows (Holds opening) slots id me i (λ n. either (n == old) new n) (Tells HoldsAt (step slots i old new none) me)
  holds_told k i old new leads less i_is old_is new_is s h out at word =
      let x = inside opening s j id me.0 h at live setup in let lies = x.0 in let f = x.1 in let v : View = me.0 in
      let n : ℕ = get_or s.words i 0 in
      let n_is : n ≡ word_at (layout_of j) s.words (worker_word k post) = ap (slice_index s.words) i_is in
      let o = f.asked.posts k less in let found : IsPostWord n = (o.0, o.1, n_is ∙ o.2) in
      dite (ℕ_discrete n old)
      (λ hit. let w : View = holds_one v k n in (
        w,
        keeps,
        tt,
        won opening s i old new id me.1 w hit
            (holds_at opening j lies s id (place_of k post) i (packed_post (P.Held v.desk.victim)) new w w (sym i_is) (sym new_is) refl
            (leader.holds_it j lies s f id v at live k less leads (sym n_is ∙ (hit ∙ old_is)) n)),
        (
          any_setup (λ z. (y : ℕ) → IsOf z y post i → IsPostWord n × MatchBool (n == old) (w ≡ holds_one v y n) (w ≡ looks_at v y n))
              (λ y of. (
                found,
                told_won opening s i old new id me.1 (w ≡ holds_one v y n) (w ≡ looks_at v y n) hit
                    (ap (λ (z : ℕ). holds_one v z n) (one_worker k y post i less i_is of)),
              )),
          refl,
        ),
      ))
      (λ miss. let w : View = looks_at v k n in (
        w,
        keeps,
        tt,
        subst (λ b. Holds opening (stepped s i (either b new n) id me.1 w keeps)) (sym (ne_eqb n old miss))
            (load_holds opening j lies s i id me.1 w (leader.finds_it j lies s f id v at live w.desk.found)),
        (
          any_setup (λ z. (y : ℕ) → IsOf z y post i → IsPostWord n × MatchBool (n == old) (w ≡ holds_one v y n) (w ≡ looks_at v y n))
              (λ y of. (
                found,
                told_lost opening s i old new id me.1 (w ≡ holds_one v y n) (w ≡ looks_at v y n) miss
                    (ap (λ (z : ℕ). looks_at v z n) (one_worker k y post i less i_is of)),
              )),
          refl,
        ),
      ))

  pub fails_told : (k i new : ℕ) → In k me.0.desk.held → i ≡ place_of k post → new ≡ packed_post P.Failed
      → Allows (Holds opening) slots id me i (λ _. new) (λ _. Tells FailsAt (step slots i new 0 none) me new)
  fails_told k i new k_in i_is new_is s h out at word =
      let x = inside opening s j id me.0 h at live setup in let lies = x.0 in let f = x.1 in let v : View = me.0 in
      let w : View = answers_one v k in let less = leader.thief_less j lies s f id v at live k k_in in (
        w,
        keeps,
        tt,
        holds_at opening j lies s id (place_of k post) i (packed_post P.Failed) new w w (sym i_is) (sym new_is) refl
            (leader.answers_it j lies s f id v at live k k_in P.Failed refl (record { number_fits = omega arith }) (λ b e. cc) refl),
        (
          any_setup (λ z. (y : ℕ) → IsOf z y post i → w ≡ answers_one v y)
              (λ y of. ap (answers_one v) (one_worker k y post i less i_is of)),
          refl,
        ),
      )

  pub gives_told : (k : ℕ) (m : Promise) (i new : ℕ) → In k me.0.desk.held → In m me.0.tasks.promised → m.thief ≡ k
      → i ≡ place_of k post → new ≡ packed_post (P.Task m.spot.berth.at)
      → Allows (Holds opening) slots id me i (λ _. new) (λ _. Tells GivesAt (step slots i new 0 none) me new)
  gives_told k m i new k_in m_in for_it i_is new_is s h out at word =
      let x = inside opening s j id me.0 h at live setup in let lies = x.0 in let f = x.1 in let v : View = me.0 in
      let a : ℕ = m.spot.berth.at in
      let w : View = gives_one v k a in let less = leader.thief_less j lies s f id v at live k k_in in (
        w,
        keeps,
        tt,
        holds_at opening j _ s id (place_of k post) i (packed_post (P.Task a)) new w w (sym i_is) (sym new_is) refl
            (leader.gives_it j lies s f id v at live k k_in m m_in for_it),
        (
          any_setup (λ z. (y : ℕ) → IsOf z y post i → (b : ℕ) → IsPost (P.Task b) → new ≡ packed_post (P.Task b) → w ≡ gives_one v y b)
              (λ y of b fits_b e. (λ q. gives_one v (one_worker k y post i less i_is of q) (task_one a b (sym new_is ∙ e) q))),
          refl,
        ),
      )

  pub writes_told : (k i new : ℕ) → In k me.0.desk.held → i ≡ place_of k answer
      → Allows (Holds opening) slots id me i (λ _. new) (λ _. Tells WritesAt (step slots i new 0 none) me new)
  writes_told k i new k_in i_is s h out at word =
      let x = inside opening s j id me.0 h at live setup in let lies = x.0 in let f = x.1 in let v : View = me.0 in
      let w : View = writes_one v k new in let less = leader.thief_less j lies s f id v at live k k_in in (
        w,
        keeps,
        tt,
        holds_at opening j lies s id (place_of k answer) i new new w w (sym i_is) refl refl
            (leader.writes_it j lies s f id v at live k k_in new),
        (
          any_setup (λ z. (y : ℕ) → IsOf z y answer i → w ≡ writes_one v y new)
              (λ y of. ap (λ (z : ℕ). writes_one v z new) (one_worker k y answer i less i_is of)),
          refl,
        ),
      )

  pub deals_told : (k : ℕ) (x : Share) (i new : ℕ) → In x me.0.loops.pieces
      → In (record { thief = k; piece = packed_pair (pair_of x) }) me.0.desk.wrote → IsPost (P.Piece x.spot.berth.at)
      → i ≡ place_of k post → new ≡ packed_post (P.Piece x.spot.berth.at)
      → Allows (Holds opening) slots id me i (λ _. new) (λ _. Tells DealsAt (step slots i new 0 none) me new)
  deals_told k x i new x_in x_wrote fits_o i_is new_is s h out at word =
      let f = inside opening s j id me.0 h at live setup in
      let desk = f.1.asked.desks id me.0 at live in let wrote = desk.wrote _ x_wrote in
      let w : View = gives_piece me.0 k x in
      let less = leader.thief_less j f.0 s f.1 id me.0 at live k wrote.0 in (
        w,
        keeps,
        tt,
        holds_at opening j f.0 s id (place_of k post) i (packed_post (P.Piece x.spot.berth.at)) new w w (sym i_is) (sym new_is) refl
            (leader.gives_piece_it j f.0 s f.1 id me.0 at live k wrote.0 x x_in wrote.1 fits_o),
        (
          any_setup
              (λ z. (y : ℕ) → IsOf z y post i → (u : Share) → In u me.0.loops.pieces
              → In (record { thief = y; piece = packed_pair (pair_of u) }) me.0.desk.wrote
              → new ≡ packed_post (P.Piece u.spot.berth.at) → w ≡ gives_piece me.0 y u)
              (λ y of u u_in u_wrote e. one_piece f.0 f.1 u u_in (one_worker k y post i less i_is of) wrote.0 wrote.1 (desk.wrote _ u_wrote).1
              (piece_one x.spot.berth.at u.spot.berth.at (sym new_is ∙ e))),
          refl,
        ),
      )
    where
      answer_word : ℕ → ℕ
      answer_word y = word_at (layout_of j) s.words (worker_word y answer)

      -- what is written for this thief tells the piece
      one_piece : (lies : Lies) (f : Facts j lies s) (u : Share) → In u me.0.loops.pieces → {y : ℕ} → k ≡ y → In k me.0.desk.held
          → answer_word k ≡ packed_pair (pair_of x) → answer_word y ≡ packed_pair (pair_of u) → x.spot.berth.at ≡ u.spot.berth.at
          → gives_piece me.0 k x ≡ gives_piece me.0 y u
      one_piece lies f u u_in {y} same k_in x_is u_is record_same =
          let u_here : answer_word k ≡ packed_pair (pair_of u) = ap answer_word same ∙ u_is in
          let p = pair_same (pair_of x) (pair_of u) (leader.piece_fits j lies s f id me.0 at live k k_in x x_in x_is fits_o)
          (leader.piece_fits j lies s f id me.0 at live k k_in u u_in u_here (subst (λ (z : ℕ). IsPost (P.Piece z)) record_same fits_o))
          (sym x_is ∙ u_here) in λ q. deals_one me.0 (same q) (record_same q) (p q).low

  pub releases_told : (i new : ℕ) → me.0.desk.leads ≡ true → me.0.desk.held ≡ [] → i ≡ place_of me.0.desk.victim request → new ≡ 0
      → Allows (Holds opening) slots id me i (λ _. new) (λ _. Tells Releases (step slots i new 0 none) me new)
  releases_told i new leads answered i_is new_is s h out at word =
      let x = inside opening s j id me.0 h at live setup in let lies = x.0 in let f = x.1 in let w : View = releases_now me.0 in (
        w,
        keeps,
        tt,
        holds_at opening j lies s id (place_of me.0.desk.victim request) i 0 new w w (sym i_is) (sym new_is) refl
            (leader.releases_it j lies s f id me.0 at live leads answered),
        (refl, refl),
      )
