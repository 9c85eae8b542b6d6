-- A loop of which nothing is left is finished: its worker stores Finished in its state word. Its own end was done as its indexes began.
use Rattle.std.proofs.Common.{◌≡◌, ◌≢◌, ℕ, zero, suc, ◌+◌, ◌<◌, ◌⊎◌, true, false, cond, List, ◌∷◌, ◌++◌, map, set, length, sym, refl, ap, ◌∙◌, subst, inl, inr, arith, ⊎_elim}
use mathlib.Core.Option.{none, some, some-injective}
use lib.ListN.{get_elem?}
use Rattle.atomic_table.specs.Table.{State}
use Rattle.kt_law.specs.declared.stands.Stand.TheVariants as S
use Rattle.kt_order.specs.Forest.{Finished}
use Rattle.kt_order.specs.Paths.{same_path}
use Rattle.kt_prog.specs.Operations.{is_loop_at}
use Rattle.kt_runs.specs.ByPath.{Path, child}
use Rattle.kt_words.specs.Places.{place, record_word}
use Rattle.kt_words.specs.Words.{packed_state}
use Rattle.kt_words.specs.declared.layouts.Layout.{Layout}
use Rattle.kt_rule.specs.declared.views.Setup.{Setup}
use Rattle.kt_rule.specs.declared.views.Berth.{Berth}
use Rattle.kt_rule.specs.declared.views.Spot.{Spot}
use Rattle.kt_rule.specs.declared.views.Execution.{Execution}
use Rattle.kt_rule.specs.declared.views.Promise.{Promise}
use Rattle.kt_rule.specs.declared.views.View.{View}
use Rattle.kt_rule.specs.Paths.{put}
use Rattle.kt_rule.specs.Lists.{weigh, times, one_if, In, here, there}
use Rattle.kt_rule.specs.Lies.{Loops, Done, Posted, IndexLie, Lie, Lies, phase_of, stand_of, is_gone, Cored}
use Rattle.kt_rule.specs.Records.{layout_of, elements, state_of, later_field}
use Rattle.kt_rule.specs.Views.{spot_path, path_of, promise_path, claimed_in, promised_in, given_in, begun_in, indexes_of, executions}
use Rattle.kt_rule.specs.Facts.{is_claimed, is_promised, is_given, is_begun, tally, Sound, Agrees, runs_as, IsUnderWay, IsOver, IsGiven, Owns, Fits}
use Rattle.kt_rule.specs.Requests.{IsPromised}
use Rattle.kt_rule.specs.LoopWords.{loop_words, hands_of}
use Rattle.kt_rule.specs.LoopFacts.{IsEmptied}
use Rattle.kt_rule.specs.Rule.{Slots, Facts}
use Rattle.kt_rule.specs.Steps.{over, state_word}
use Rattle.kt_rule.proofs.Puts.{put_here}
use Rattle.kt_rule.proofs.Shelf.{elements_else}
use Rattle.kt_rule.proofs.Sums as sums
use Rattle.kt_rule.proofs.Sums.{weigh_append, in_cons, not_among, one_self, tally_own, tally_alone}
use Rattle.kt_rule.proofs.Words.{Turn}
use Rattle.kt_rule.proofs.Moves.{turned}
use Rattle.kt_steps.proofs.Steps.{turn_state, state_fits, owns_ended, done_unposted, none_given, none_promised, under_way_else, over_else, given_else, promised_else, at_head}
use Rattle.kt_pieces.proofs.Lasts.{none_left, same_finished}
use Rattle.kt_pieces.proofs.LoopCoreCounts as counted
use Rattle.kt_pieces.proofs.LoopCoreZeroed.{loop_bare}
use Rattle.kt_loops.specs.Operations.{finishes}
use Rattle.kt_loops.proofs.LoopCalls.{room_below}
use Rattle.kt_loops.proofs.RetireSteps.{own_hands}

loops_unposted : (worker k : ℕ) → Loops worker ≢ Posted k
loops_unposted worker k e = cc

-- THE RUNNING BODY IS A LOOP THAT HAS BEGUN

module _ (j : Setup) (lies : Lies) (s : State Slots View) (f : Facts j lies s) (id : ℕ) (v : View) (at : get_elem? s.views id ≡ some v)
    (live : 0 < v.parts) (e : Execution) (rest : List Execution) (runs : v.tasks.running ≡ e ∷ rest) (looping : e.looping ≡ true) where
  abbrev l : Layout
  l = layout_of j

  abbrev q : Path
  q = e.spot.path

  abbrev fit : Fits j lies s.words id v
  fit = f.fits id v at

  abbrev loop_way : IsUnderWay j lies e
  loop_way = fit.running e (at_head v e rest runs)

  abbrev t : Lie
  t = loop_way.0

  pub loop_is : lies q ≡ some t
  loop_is = loop_way.1

  pub loop_agrees : Agrees j e t
  loop_agrees = loop_way.2

  abbrev worker : ℕ
  worker = loop_way.3.0

  pub stage_is : t.stage ≡ Loops worker
  stage_is = loop_way.3.1 ∙ ap (λ b. runs_as b worker) looping

  lives : is_gone t.stage ≡ false
  lives = ap is_gone stage_is

  sound : Sound q t
  sound = f.words.sound q t loop_is

  -- nobody else has it

  one_begun : tally is_begun (lies q) ≡ 1
  one_begun = ap (tally is_begun) loop_is ∙ ap is_begun stage_is

  was_begun : (p : Path) → begun_in v p ≡ one_if (same_path p q)
      + (times p (map path_of rest) + (times p (map path_of v.tasks.halted) + times p (map path_of v.tasks.ran)))
  was_begun p = let a = ap (λ (z : List Execution). times p (map path_of z)) runs in omega (arith, a)

  loop_begun : 0 < begun_in v q
  loop_begun = let a = was_begun q in let b = one_self q q refl in omega (arith, a, b)

  once_begun : times q (map path_of rest) + (times q (map path_of v.tasks.halted) + times q (map path_of v.tasks.ran)) ≡ 0
  once_begun = let a = was_begun q in let b = one_self q q refl in
      let c = tally_own begun_in is_begun lies s.views id v f.counts.begun at q in let d = one_begun in omega (arith, a, b, c, d)

  loop_alone : (k : ℕ) (x : View) → k ≢ id → get_elem? s.views k ≡ some x
      → (begun_in x q ≡ 0) × (given_in x q ≡ 0) × (promised_in x q ≡ 0)
  loop_alone k x n d = (
    tally_alone begun_in is_begun lies s.views id v f.counts.begun at q k x n d (let a = one_begun in omega (arith, a)) loop_begun,
    none_given j lies s f q t loop_is (ap is_given stage_is) k x d,
    none_promised j lies s f q t loop_is (ap is_promised stage_is) k x d,
  )

  -- NOTHING OF IT IS LEFT

  module _ (loop : is_loop_at j.program e.spot.berth.call.task ≡ true) (emptied : In q v.loops.emptied) where
    abbrev pub u : Lie
    u = record t { stage = Done }

    abbrev pub lies' : Lies
    lies' = put lies q (some u)

    abbrev pub ws' : List ℕ
    ws' = set s.words (place l (record_word t.berth.at 0)) (packed_state (state_of u))

    -- its execution goes to those that ran as it is
    abbrev w : View
    w = record v {
      tasks = record v.tasks { running = rest; ran = e ∷ v.tasks.ran };
      seen = record v.seen { known = q ∷ v.seen.known };
    }

    known_empty : IsEmptied lies q
    known_empty = (own_hands j lies s f id v at live).emptied q emptied

    none_unretired : t.unretired ≡ 0
    none_unretired = ap (λ (z : Lie). z.unretired) (some-injective t known_empty.0 (sym loop_is ∙ known_empty.1)) ∙ known_empty.3

    pub all_finished : (i : ℕ) (x : IndexLie) → get_elem? t.indexes i ≡ some x → x.phase ≡ Finished
    all_finished = (none_left j.workers lies (loop_words l s.words) (hands_of s.views) f.looped q t loop_is none_unretired).0

    pub bare : (i : ℕ) → lies (child q i) ≡ none
    bare = loop_bare j f.laws lies (elements l s.words) f.core q t loop_is
        (ap (λ (b : Berth). is_loop_at j.program b.call.task) loop_agrees.berth ∙ loop)

    -- it is finished behind them
    pub core_goes : counted.LoopFinished j f.laws lies (elements l s.words) f.core q t loop_is bare (room_below j lies s f q t loop_is) (ap phase_of stage_is)
        all_finished lies'
    core_goes = counted.finishes j f.laws lies (elements l s.words) f.core q t loop_is bare (room_below j lies s f q t loop_is) (ap phase_of stage_is)
        all_finished u refl refl refl

    core_now : Cored j lies' (elements l s.words)
    core_now = core_goes.core

    pub same_elements : elements l ws' ≡ elements l s.words
    same_elements = elements_else l s.words (record_word t.berth.at 0) (packed_state (state_of u)) (f.words.inside q t loop_is, omega arith) tt

    same_fields : (g : ℕ) → later_field u g ≡ later_field t g
    same_fields zero = refl
    same_fields (suc zero) = refl
    same_fields (suc (suc zero)) = refl
    same_fields (suc (suc (suc zero))) = refl
    same_fields (suc (suc (suc (suc g)))) = refl

    turn : Turn l lies s.words q t u ws'
    turn = turn_state l lies s.words q t u f.words loop_is lives refl refl (λ x. refl) same_fields (record {
      state = state_fits t.berth (stand_of t.stage) S.Finished sound.state (λ x. cc) (omega arith);
      head = sound.head;
      deep = sound.deep;
      accesses = sound.accesses;
      fresh = λ z. let a : is_begun Done ≡ 1 = refl in absurd (omega (arith, z, a));
    })

    over_agrees : Agrees j e u
    over_agrees = record {
      berth = loop_agrees.berth;
      answers = loop_agrees.answers;
      count = loop_agrees.count;
      indexes = loop_agrees.indexes;
      forks = loop_agrees.forks;
    }

    knows : (p : Path) → In p (q ∷ v.seen.known) → (In p v.seen.known) ⊎ ((q ≡ p) × (Finished ≡ Finished))
    knows p here = inr (refl, refl)
    knows p (there h) = inl h

    rest_keeps : (x : Execution) → In x rest → IsUnderWay j lies' x
    rest_keeps x i = under_way_else j lies q u x (fit.running x (subst (In x) (sym runs) (there i)))
        (not_among path_of rest q (let a = once_begun in omega (arith, a)) x i)

    halted_keeps : (x : Execution) → In x v.tasks.halted → IsUnderWay j lies' x
    halted_keeps x i = under_way_else j lies q u x (fit.halted x i)
        (not_among path_of v.tasks.halted q (let a = once_begun in omega (arith, a)) x i)

    ran_keeps : (x : Execution) → In x v.tasks.ran → IsOver j lies' x
    ran_keeps x i = over_else j lies q u x (fit.ran x i) (not_among path_of v.tasks.ran q (let a = once_begun in omega (arith, a)) x i)

    promises_keep : (m : Promise) → In m v.tasks.promised → IsPromised lies' m
    promises_keep m i = promised_else j lies q u m (f.asked.promises id v at m i)
        (not_among promise_path v.tasks.promised q (none_promised j lies s f q t loop_is (ap is_promised stage_is) id v at) m i)

    given_keeps : (m : Spot) → In m v.tasks.given → IsGiven lies' m
    given_keeps m i = given_else j lies q u m (fit.given m i)
        (not_among spot_path v.tasks.given q (none_given j lies s f q t loop_is (ap is_given stage_is) id v at) m i)

    same_positions : weigh indexes_of (executions w) ≡ weigh indexes_of (executions v)
    same_positions = let a = ap (λ (z : List Execution). weigh indexes_of (z ++ (v.tasks.halted ++ v.tasks.ran))) runs in
        let b = weigh_append indexes_of rest (v.tasks.halted ++ (e ∷ v.tasks.ran)) in
        let c = weigh_append indexes_of v.tasks.halted (e ∷ v.tasks.ran) in
        let d = weigh_append indexes_of rest (v.tasks.halted ++ v.tasks.ran) in
        let g = weigh_append indexes_of v.tasks.halted v.tasks.ran in omega (arith, a, b, c, d, g)

    pub ends_lie : Facts j lies' record { words = ws'; homes = s.homes; views = set s.views id w }
    ends_lie = turned j lies s q t u ws' id v w.tasks w.seen.known f at live (record {
      turn = turn;
      loop = same_finished j.workers lies (loop_words l s.words) (hands_of s.views) f.looped q t loop_is worker stage_is t.answers t.count;
      core = subst (Cored j lies') (sym same_elements) core_now;
      unposted = λ x z. loops_unposted worker x (sym stage_is ∙ z);
      unposted_now = done_unposted;
      waits = omega arith;
      waits_indexes = omega arith;
      positions = same_positions;
      claimed = sums.stays claimed_in is_claimed lies v w q t u loop_is (ap is_claimed stage_is) (λ x. refl);
      promised = sums.stays promised_in is_promised lies v w q t u loop_is (ap is_promised stage_is) (λ x. refl);
      given = sums.stays given_in is_given lies v w q t u loop_is (ap is_given stage_is) (λ x. refl);
      begun = sums.stays begun_in is_begun lies v w q t u loop_is (ap is_begun stage_is) (λ x. let a = was_begun x in omega (arith, a));
      more = λ x h. let a = was_begun x in omega (arith, a, h);
      owns = λ o. owns_ended l lies' ws' id v.region v.tasks.begun e rest
          (subst (λ (z : List Execution). Owns l lies' ws' id v.region z v.tasks.begun) runs o);
      running = rest_keeps;
      halted = halted_keeps;
      ran = λ x i. ⊎_elim (λ (h : x ≡ e). subst (IsOver j lies') (sym h) (u, put_here lies q (some u), over_agrees, refl)) (ran_keeps x)
          (in_cons x e v.tasks.ran i);
      bound = let a = fit.begun in let b = ap (λ (z : List Execution). length z) runs in omega (arith, a, b);
      promises = promises_keep;
      gives = given_keeps;
      knows = knows;
      alone = loop_alone;
    })

    -- said of what the entry tells
    pub same_view : w ≡ finishes v e rest
    same_view = λ i. record v {
      tasks = record v.tasks { running = rest; ran = cond (sym looping i) e (over e) ∷ v.tasks.ran };
      seen = record v.seen { known = q ∷ v.seen.known };
    }

    pub ends_it : Facts j lies' record {
      words = set s.words (place l (record_word e.spot.berth.at 0)) (state_word e.spot.berth S.Finished);
      homes = s.homes;
      views = set s.views id (finishes v e rest);
    }
    ends_it = subst (λ (z : Berth × View). Facts j lies' record {
      words = set s.words (place l (record_word z.0.at 0)) (state_word z.0 S.Finished);
      homes = s.homes;
      views = set s.views id z.1;
    }) (λ i. (loop_agrees.berth i, same_view i)) ends_lie
