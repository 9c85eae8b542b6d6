-- A claimed task goes from one hand to the next by a step on a post word. Its record's words stay, and so does the core,
-- for which it runs.
use Rattle.std.proofs.Common.{◌≡◌, ◌≢◌, ℕ, zero, suc, ◌+◌, ◌<◌, true, false, List, [], map, set, sym, refl, ap, ◌∙◌, subst, inl, inr, arith}
use mathlib.Core.Option.{some}
use lib.ListN.{get_elem?}
use Rattle.atomic_table.specs.Table.{State}
use Rattle.kt_order.specs.Forest.{Task, Running, Finished}
use Rattle.kt_order.specs.Rest.{left}
use Rattle.kt_prog.specs.Reference.{machine_of}
use Rattle.kt_runs.specs.Theorems.{whole_at}
use Rattle.kt_runs.specs.ByPath.{Path}
use Rattle.kt_words.specs.Places.{Place, place, worker_word, post}
use Rattle.kt_words.specs.Words.{packed_state, IsStateWord}
use Rattle.kt_words.specs.declared.layouts.Layout.{Layout}
use Rattle.kt_rule.specs.declared.views.Setup.{Setup}
use Rattle.kt_rule.specs.declared.views.Spot.{Spot}
use Rattle.kt_rule.specs.declared.views.Promise.{Promise}
use Rattle.kt_rule.specs.declared.views.Desk.{Desk}
use Rattle.kt_rule.specs.declared.views.View.{View}
use Rattle.kt_rule.specs.Paths.{put}
use Rattle.kt_rule.specs.Lists.{In}
use Rattle.kt_rule.specs.Weights.{next_weight, is_task, forks_ahead, is_index}
use Rattle.kt_rule.specs.Lies.{Stage, Waits, Promised, Posted, Given, Runs, Loops, Done, Gone, Lie, Lies, phase_of, stand_of, is_gone, task_of, Cored}
use Rattle.kt_rule.specs.Records.{layout_of, elements, later_field}
use Rattle.kt_rule.specs.Views.{path_of, mine_in, claimed_in, given_in, begun_in}
use Rattle.kt_rule.specs.Facts.{is_there, is_claimed, is_given, is_begun, tally, Sound, Words, IsGiven, Owns, Fits, waiting, waiting_indexes}
use Rattle.kt_rule.specs.Requests.{Asked}
use Rattle.kt_rule.specs.LoopWords.{loop_words}
use Rattle.kt_rule.specs.LoopFacts.{is_early}
use Rattle.kt_rule.specs.Rule.{Slots, Facts}
use Rattle.kt_rule.proofs.Puts.{put_else, put_cases}
use Rattle.kt_rule.proofs.Sums as sums
use Rattle.kt_rule.proofs.Sums.{not_among}
use Rattle.kt_rule.proofs.Cores as cores
use Rattle.kt_rule.proofs.Words.{Keeps, berth_keeps, known_keeps, note_keeps, says_state, Turn, turn_back, turn_keeps, turn_words}
use Rattle.kt_rule.proofs.LoopsStay.{put_stay, looped_same}
use Rattle.kt_rule.proofs.Moves.{drawn_keeps, assemble, fits_keep, turn_owns, positive_not, positions_keeps}
use Rattle.kt_steps.proofs.Steps.{none_begun, under_way_else, over_else}
use Rattle.kt_steps.proofs.Asides.{seat_in, main_lives, record_stays, plain_keeps, plain_words, plain_fits}
use Rattle.kt_posts.proofs.Desking.{drawn_stays, stop_stays, elements_stay, positions_stay}

not_gone : (x : Stage) → is_begun x ≡ 0 → is_gone x ≡ false
not_gone Waits a = refl
not_gone (Promised k) a = refl
not_gone (Posted k) a = refl
not_gone (Given k) a = refl
not_gone (Runs k) a = refl
not_gone (Loops k) a = refl
not_gone Done a = refl
not_gone Gone a = absurd (omega arith)

not_looped : (x : Stage) → is_begun x ≡ 0 → is_early x ≡ true
not_looped Waits a = refl
not_looped (Promised k) a = refl
not_looped (Posted k) a = refl
not_looped (Given k) a = refl
not_looped (Runs k) a = refl
not_looped (Loops k) a = absurd (omega arith)
not_looped Done a = absurd (omega arith)
not_looped Gone a = absurd (omega arith)

not_over : Running ≡ Finished → ⊥
not_over e = cc

-- the post of worker k becomes n, and the task at p comes into the next hand
module _ (j : Setup) (lies : Lies) (s : State Slots View) (f : Facts j lies s) (id : ℕ) (v : View) (at : get_elem? s.views id ≡ some v)
    (live : 0 < v.parts) (k : ℕ) (less : k < j.workers) (n : ℕ) (p : Path) (t : Lie) (is : lies p ≡ some t) (to : Stage)
    (idle : is_begun t.stage ≡ 0) (idle_to : is_begun to ≡ 0) (runs : phase_of t.stage ≡ Running) (runs_to : phase_of to ≡ Running)
    (claimed : is_claimed t.stage ≡ is_claimed to) (stand : stand_of t.stage ≡ stand_of to) where
  abbrev l : Layout
  l = layout_of j

  abbrev q : Place
  q = worker_word k post

  abbrev ws' : List ℕ
  ws' = set s.words (place l q) n

  abbrev u : Lie
  u = record t { stage = to }

  abbrev lies' : Lies
  lies' = put lies p (some u)

  words1 : Words l lies ws'
  words1 = plain_words j lies s f q less tt n

  sound_t : Sound p t
  sound_t = f.words.sound p t is

  turn : Turn l lies ws' p t u ws'
  turn = record {
    is = is;
    live = not_gone t.stage idle;
    still = not_gone to idle_to;
    berth = refl;
    ends = λ e. absurd (not_over (sym runs ∙ e));
    fields = same_fields;
    sound = record {
      state = subst (λ z. IsStateWord (record { frame = t.berth.frame; fork = t.berth.fork; stand = z }))
          stand sound_t.state;
      head = sound_t.head;
      deep = sound_t.deep;
      accesses = sound_t.accesses;
      fresh = λ e. sound_t.fresh idle;
    };
    long = refl;
    state = says_state l lies ws' words1 p t is (not_gone t.stage idle)
        ∙ ap (λ z. packed_state (record { frame = t.berth.frame; fork = t.berth.fork; stand = z })) stand;
    apart = λ a low other. refl;
    later = λ a g low big. refl;
    quiet = λ r plain in_r. refl;
  }
    where
      same_fields : (g : ℕ) → later_field u g ≡ later_field t g
      same_fields zero = refl
      same_fields (suc zero) = refl
      same_fields (suc (suc zero)) = refl
      same_fields (suc (suc (suc zero))) = refl
      same_fields (suc (suc (suc (suc g)))) = refl

  pub same_task : task_of j p u ≡ task_of j p t
  same_task = λ i. record {
    call = whole_at (map suc p) t.berth.call;
    phase = (runs_to ∙ sym runs) i;
    answers = t.answers;
    done = t.count;
  }

  core : Cored j lies' (elements l ws')
  core = subst (Cored j lies') (sym (elements_stay j lies s f k post less n))
      (cores.stays j f.laws lies (elements l s.words) f.core p t is u refl refl same_task)

  still_keeps : Keeps l lies ws' lies' ws'
  still_keeps = turn_keeps l lies ws' p t u ws' turn words1

  keeps_all : Keeps l lies s.words lies' ws'
  keeps_all = record {
    kept = still_keeps.kept;
    back = λ r y e. let x = turn_back l lies ws' p t u ws' turn words1 r y e in inl (x.x, x.is, x.same);
    used = λ a g low h. still_keeps.used a g low ((plain_keeps j lies s f q less tt n).used a g low h);
  }

  fits_before : (i : ℕ) (x : View) → get_elem? s.views i ≡ some x → Fits j lies ws' i x
  fits_before i x e = plain_fits j lies s f q less tt n (λ h. stop_stays j lies s f k post less n ∙ h) i x (seat_in j lies s f i x e)
      (f.fits i x e)

  owns_now : (i : ℕ) (x : View) → i < j.workers → Owns l lies ws' i x.region x.tasks.running x.tasks.begun
      → Owns l lies' ws' i x.region x.tasks.running x.tasks.begun
  owns_now i x low = turn_owns l lies ws' p t u ws' turn words1 i x.region x.tasks.running x.tasks.begun low

  waits : waiting j p (some t) ≡ waiting j p (some u)
  waits = ap (λ (z : Task (machine_of j.program)). next_weight (machine_of j.program) is_task (left (machine_of j.program) z))
      (sym same_task)

  waits_indexes : waiting_indexes j p (some t) ≡ waiting_indexes j p (some u)
  waits_indexes = ap (λ (z : Task (machine_of j.program)). forks_ahead (machine_of j.program) is_index (left (machine_of j.program) z))
      (sym same_task)

  module _ (promised : List Promise) (given : List Spot) (d : Desk) where
    abbrev w : View
    w = record v { tasks = record v.tasks { promised = promised; given = given }; desk = d }

    pub handed : loop_words l ws' ≡ loop_words l s.words → Asked l lies' ws' (set s.views id w)
        → ((r : Path) → given_in w r + tally is_given (lies r) ≡ given_in v r + tally is_given (lies' r))
        → ((m : Spot) → In m given → IsGiven lies' m)
        → ((i : ℕ) (x : View) → i ≢ id → get_elem? s.views i ≡ some x → given_in x p ≡ 0)
        → Facts j lies' record { words = ws'; homes = s.homes; views = set s.views id w }
    handed quiet asked given_so gives alone = assemble j lies lies' s ws' id v w f at live (record {
      parts = refl;
      made = refl;
      keeps = keeps_all;
      root = λ y e. let x = turn_back l lies ws' p t u ws' turn words1 [] y e in x.gone ∙ main_lives j lies s f x.x x.is;
      core = core;
      words = turn_words l lies ws' p t u ws' turn words1;
      mine = sums.stays mine_in is_there lies v w p t u is refl (λ r. refl);
      claimed = sums.stays claimed_in is_claimed lies v w p t u is claimed (λ r. refl);
      given = given_so;
      begun = sums.stays begun_in is_begun lies v w p t u is (idle ∙ sym idle_to) (λ r. refl);
      asked = asked;
      drawn = drawn_keeps j lies lies' s.words ws' s.views id v w f.drawn at refl refl refl (λ r h. h)
          (drawn_stays j lies s f k post less n)
          (λ r. elim (put_cases lies p (some u) r) [
            | inl h ↦ (let a : waiting j r (lies r) ≡ waiting j p (some t) = (λ i. waiting j (sym h.0 i) (lies (sym h.0 i)))
                ∙ ap (waiting j p) is in
                let b : waiting j r (lies' r) ≡ waiting j p (some u) = ap (waiting j r) h.1 ∙ ap (λ (z : Path). waiting j z (some u))
                (sym h.0) in let c = waits in omega arith)
            | inr h ↦ (let b : waiting j r (lies' r) ≡ waiting j r (lies r) = ap (waiting j r) h.1 in omega arith)
          ]);
      positions = positions_keeps j lies lies' s.words ws' s.views id v w f.positions at refl refl (λ r h. h)
          (positions_stay j lies s f k post less n)
          (λ r. elim (put_cases lies p (some u) r) [
            | inl h ↦ (let a : waiting_indexes j r (lies r) ≡ waiting_indexes j p (some t)
                = (λ i. waiting_indexes j (sym h.0 i) (lies (sym h.0 i))) ∙ ap (waiting_indexes j p) is in
                let b : waiting_indexes j r (lies' r) ≡ waiting_indexes j p (some u) = ap (waiting_indexes j r) h.1
                ∙ ap (λ (z : Path). waiting_indexes j z (some u)) (sym h.0) in let c = waits_indexes in omega arith)
            | inr h ↦ (let b : waiting_indexes j r (lies' r) ≡ waiting_indexes j r (lies r) = ap (waiting_indexes j r) h.1 in omega arith)
          ]);
      stopped = record {
        word = elim f.stopped.word [
          | inl z ↦ inl (stop_stays j lies s f k post less n ∙ z)
          | inr h ↦ inr (
            stop_stays j lies s f k post less n ∙ h.0,
            elim h.1 [
              | inl tasks ↦ inl (let a = drawn_stays j lies s f k post less n in omega arith)
              | inr indexes ↦ inr (let a = positions_stay j lies s f k post less n in omega arith)
            ],
          )
        ];
      };
      looped = looped_same l lies lies' s.words ws' s.views id v w f.looped (put_stay lies p t u is (record {
        berth = refl;
        first = refl;
        unretired = refl;
        indexes = refl;
        pieces = refl;
        gone = not_gone to idle_to ∙ sym (not_gone t.stage idle);
        early = λ e. not_looped t.stage idle;
      })) at refl quiet;
      fits = fits_own;
      others = λ i x ne e. let g = alone i x ne e in let b = none_begun j lies s f p t is idle i x e in
          fits_keep j lies ws' lies' ws' still_keeps i x (fits_before i x e) (owns_now i x (seat_in j lies s f i x e)) (λ h. h)
          (λ r h. put_else lies p (some u) r (λ c. positive_not (begun_in x p + given_in x p) (omega arith)
          (subst (λ (z : Path). 0 < begun_in x z + given_in x z) (sym c) h)));
      unmade = λ a from low z. record_stays j lies s f q less tt n a 0 low (omega arith) ∙ z;
    })
      where
        fit : Fits j lies ws' id v
        fit = fits_before id v at

        none_here : begun_in v p ≡ 0
        none_here = none_begun j lies s f p t is idle id v at

        fits_own : Fits j lies' ws' id w
        fits_own = record {
          setup = fit.setup;
          own = fit.own;
          owns = λ some_part. owns_now id v (seat_in j lies s f id v at) (fit.owns some_part);
          running = λ e i. under_way_else j lies p u e (fit.running e i)
              (not_among path_of v.tasks.running p (let a = none_here in omega arith) e i);
          halted = λ e i. under_way_else j lies p u e (fit.halted e i)
              (not_among path_of v.tasks.halted p (let a = none_here in omega arith) e i);
          ran = λ e i. over_else j lies p u e (fit.ran e i) (not_among path_of v.tasks.ran p (let a = none_here in omega arith) e i);
          begun = fit.begun;
          mine = λ m i. berth_keeps l lies ws' lies' ws' still_keeps m.path m.berth (fit.mine m i);
          given = gives;
          known = λ r i. known_keeps l lies ws' lies' ws' still_keeps r (fit.known r i);
          notes = λ m i. note_keeps l lies ws' lies' ws' still_keeps m (fit.notes m i);
          stop = fit.stop;
          line = λ m i. berth_keeps l lies ws' lies' ws' still_keeps m.path m.berth (fit.line m i);
        }
