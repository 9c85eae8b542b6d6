-- What each kind of step does to the core that words and views show: which event it enters, that this is enabled there,
-- and that the core after it is the one that the event makes.
use Rattle.std.proofs.Common.{◌≡◌, ℕ, suc, ◌*◌, ◌<◌, false, List, set, map, length, sym, refl, ap, ◌∙◌, subst, inl, inr, arith, Option, ◌+◌}
use lib.ListN.{get_elem?}
use mathlib.Core.Option.{some}
use Rattle.atomic_table.specs.Table.{State}
use Rattle.kt_law.specs.Acts.{Act}
use Rattle.kt_law.specs.declared.stands.Stand.TheVariants as S
use Rattle.kt_order.specs.Body.{Do, Stop}
use Rattle.kt_order.specs.Machine.{Code}
use Rattle.kt_order.specs.Forest.{Task, Unclaimed, Running, Finished}
use Rattle.kt_order.specs.Rest.{left}
use Rattle.kt_order.specs.Events as events
use Rattle.kt_order.specs.Events.{in_phase, did, ended, forked, MayPass}
use Rattle.kt_order.specs.Paths.{Earlier, set_at}
use Rattle.kt_prog.specs.Script.{Fault}
use Rattle.kt_prog.specs.Reference.{machine_of}
use Rattle.kt_runs.specs.Rights.{rights_in}
use Rattle.kt_runs.specs.Theorems.{whole_at}
use Rattle.kt_runs.specs.ByPath.{Path, child, IsLawfulByPath}
use Rattle.kt_words.specs.Places.{place, record_word}
use Rattle.kt_words.specs.Words.{packed_state, IsStateWord}
use Rattle.kt_words.specs.declared.layouts.Layout.{Layout}
use Rattle.kt_words.specs.declared.layouts.TheConstants.{RECORDS}
use Rattle.kt_words.specs.declared.states.StateWord.{StateWord}
use Rattle.kt_rule.specs.declared.views.Setup.{Setup}
use Rattle.kt_rule.specs.declared.views.Berth.{Berth}
use Rattle.kt_rule.specs.declared.views.Spot.{Spot}
use Rattle.kt_rule.specs.declared.views.View.{View}
use Rattle.kt_rule.specs.Lists.{In, here}
use Rattle.kt_rule.specs.Paths.{put}
use Rattle.kt_rule.specs.Lies.{Waits, Promised, Runs, Lie, Lies, phase_of, is_gone, stand_of, index_in, task_of, get_of, core_of, counts_of, forks_of, index_of}
use Rattle.kt_rule.specs.Records.{layout_of, word_at, elements, own_record, state_of, fork_in, frame_in}
use Rattle.kt_rule.specs.Views.{indexes_of}
use Rattle.kt_rule.specs.Facts.{IsSo, Fits}
use Rattle.kt_rule.specs.Rule.{Slots, Facts}
use Rattle.kt_steps.specs.CoreMoves.{Move, Stays, Claims, Acts, Forks, Finishes, after_move, CanMove, MovesBy}
use Rattle.kt_rule.specs.Steps.{state_place, state_word, IsState, won_own, won_for, starts, ends}
use Rattle.kt_steps.specs.Laws.{ShowsLawfulCore, after_step, Enters, ClaimOwnEnters, ClaimForEnters, StartEnters, ActEnters, FinishEnters, PublishEnters}
use Rattle.kt_rule.proofs.Puts.{no_index, get_put, get_at}
use Rattle.kt_rule.proofs.Shelf.{elements_else}
use Rattle.kt_rule.proofs.Words.{state_one, state_pos, word_parts}
use Rattle.kt_steps.proofs.Claiming.{waits_of, state_there, worker_below}
use Rattle.kt_steps.proofs.Steps.{state_fits, take_all, in_order, by_notes, won_run, won_promise, start_given, head_in, head_is, head_agrees, head_task, head_running, u5_is, after_is, does_now, ends_now, at_head, plain_at_act, plain_at_fork, head_single}
use Rattle.kt_steps.proofs.Fresh.{publish_after, publish_now}
use Rattle.kt_steps.proofs.Showing.{shown_is}

-- said of where the tasks lie
moves : (j : Setup) (m : Move) (lies lies' : Lies) (s s' : State Slots View) → Facts j lies s → Facts j lies' s'
    → CanMove j.program m (core_of j lies (elements (layout_of j) s.words))
    → core_of j lies' (elements (layout_of j) s'.words) ≡ after_move j.program m (core_of j lies (elements (layout_of j) s.words))
    → MovesBy j m s s'
moves j m lies lies' s s' f g can after = record {
  enabled = subst (CanMove j.program m) (sym (shown_is j lies s f)) can;
  after = shown_is j lies' s' g ∙ (after ∙ ap (after_move j.program m) (sym (shown_is j lies s f)));
}

-- a step that leaves the tasks and the elements alone
pub nothing_moves : (j : Setup) (lies : Lies) (s s' : State Slots View) → Facts j lies s → Facts j lies s'
    → elements (layout_of j) s'.words ≡ elements (layout_of j) s.words → MovesBy j Stays s s'
nothing_moves j lies s s' f g same = moves j Stays lies lies s s' f g tt (ap (core_of j lies) same)

module _ (j : Setup) (lies : Lies) (s s' : State Slots View) (f : Facts j lies s) (p : Path) (t : Lie) (is : lies p ≡ some t) (u : Lie)
    (same_berth : u.berth ≡ t.berth) (same_indexes : u.indexes ≡ t.indexes) (g : Facts j (put lies p (some u)) s') where
  abbrev T : Type 0
  T = Task (machine_of j.program)

  got : get_of j lies p ≡ task_of j p t
  got = get_at j lies p t is

  changed : get_of j (put lies p (some u)) ≡ set_at p (task_of j p u) (get_of j lies)
  changed = get_put j lies p u (λ i. (λ k. index_of j p (same_berth k).call i (get_elem? (same_indexes k) i)) ∙ sym (ap (index_in j p i) is))

  -- the task becomes what an event makes of it
  becomes : (h : T → T) → task_of j p u ≡ h (task_of j p t) → get_of j (put lies p (some u)) ≡ set_at p (h (get_of j lies p))
      (get_of j lies)
  becomes h e = changed ∙ ap (λ (y : T). set_at p y (get_of j lies)) (e ∙ ap h (sym got))

  phase_is : (get_of j lies p).phase ≡ (task_of j p t).phase
  phase_is = ap (λ (y : T). y.phase) got

  -- the core does not tell the task from what it was
  pub stays_still : task_of j p u ≡ task_of j p t → elements (layout_of j) s'.words ≡ elements (layout_of j) s.words
      → MovesBy j Stays s s'
  stays_still e same = moves j Stays lies (put lies p (some u)) s s' f g tt
      (λ i. record {
        get = (changed ∙ (ap (λ (y : T). set_at p y (get_of j lies)) (e ∙ sym got) ∙ Rattle.kt_rule.proofs.Cores.set_self p
            (get_of j lies))) i;
        store = same i;
      })

  pub claims_it : task_of j p u ≡ events.put (machine_of j.program) (in_phase (machine_of j.program) Running) (task_of j p t)
      → (task_of j p t).phase ≡ Unclaimed
      → Earlier (machine_of j.program) (MayPass (machine_of j.program) (rights_in j.program)) p (get_of j lies)
      → elements (layout_of j) s'.words ≡ elements (layout_of j) s.words → MovesBy j (Claims p) s s'
  claims_it e waits before same = moves j (Claims p) lies (put lies p (some u)) s s' f g (f.core.there p t is, phase_is ∙ waits, before)
      (λ i. record { get = becomes (events.put (machine_of j.program) (in_phase (machine_of j.program) Running)) e i; store = same i })

  module _ (runs : (task_of j p t).phase ≡ Running) where
    pub acts_on : (d : Act) (k : ℕ → Code (machine_of j.program)) → left (machine_of j.program) (task_of j p t) ≡ Do d k
        → task_of j p u ≡ events.put (machine_of j.program) (did (machine_of j.program) d
        ((machine_of j.program).answer d (elements (layout_of j) s.words))) (task_of j p t)
        → elements (layout_of j) s'.words ≡ (machine_of j.program).after d (elements (layout_of j) s.words) → MovesBy j (Acts p d) s s'
    acts_on d k next e store = moves j (Acts p d) lies (put lies p (some u)) s s' f g
        (f.core.there p t is, phase_is ∙ runs, (k, ap (left (machine_of j.program)) got ∙ next))
        (λ i. record {
          get = becomes (events.put (machine_of j.program)
              (did (machine_of j.program) d ((machine_of j.program).answer d (elements (layout_of j) s.words)))) e i;
          store = store i;
        })

    pub finishes_it : (fault : Option Fault) → left (machine_of j.program) (task_of j p t) ≡ Stop fault
        → task_of j p u ≡ events.put (machine_of j.program) (in_phase (machine_of j.program) Finished)
        (events.put (machine_of j.program) (ended (machine_of j.program)) (task_of j p t))
        → ((k : ℕ) → k < counts_of j lies p → (get_of j lies (child p k)).phase ≡ Finished)
        → elements (layout_of j) s'.words ≡ elements (layout_of j) s.words → MovesBy j (Finishes p) s s'
    finishes_it fault next e children same = moves j (Finishes p) lies (put lies p (some u)) s s' f g
        (f.core.there p t is, phase_is ∙ runs, (fault, ap (left (machine_of j.program)) got ∙ next), children)
        (λ i. record { get = (becomes both e ∙ twice) i; store = same i })
      where
        end : T → T
        end y = events.put (machine_of j.program) (ended (machine_of j.program)) y

        both : T → T
        both y = events.put (machine_of j.program) (in_phase (machine_of j.program) Finished) (end y)

        here_is : set_at p (end (get_of j lies p)) (get_of j lies) p ≡ end (get_of j lies p)
        here_is = Rattle.kt_rule.proofs.Cores.set_here p (end (get_of j lies p)) (end (get_of j lies p)) (get_of j lies)

        twice : set_at p (both (get_of j lies p)) (get_of j lies) ≡ set_at p
            (events.put (machine_of j.program) (in_phase (machine_of j.program) Finished)
            (set_at p (end (get_of j lies p)) (get_of j lies) p)) (set_at p (end (get_of j lies p)) (get_of j lies))
        twice = sym (Rattle.kt_rule.proofs.Cores.set_twice p (end (get_of j lies p)) (both (get_of j lies p)) (get_of j lies))
            ∙ ap (λ (y : T). set_at p (events.put (machine_of j.program) (in_phase (machine_of j.program) Finished) y)
            (set_at p (end (get_of j lies p)) (get_of j lies))) (sym here_is)

-- THE KINDS

elements_at_record : (l : Layout) (ws : List ℕ) (a n : ℕ) → a < RECORDS * l.workers
    → elements l (set ws (place l (record_word a 0)) n) ≡ elements l ws
elements_at_record l ws a n in_a = elements_else l ws (record_word a 0) n (in_a, omega arith) tt

-- the same step, at numbers and a view that are the same
entered_at : (j : Setup) (m m' : Move) (s : State Slots View) (id i i' n n' : ℕ) (w w' : View) → i ≡ i' → n ≡ n' → w ≡ w' → m ≡ m'
    → Enters j m s (after_step s i n id w) → Enters j m' s (after_step s i' n' id w')
entered_at j m m' s id i i' n n' w w' a b c d h = subst (λ (z : ℕ × ℕ × View × Move). Enters j z.3 s (after_step s z.0 z.1 id z.2))
    (λ k. (a k, b k, c k, d k)) h

pub shows_lawful : ShowsLawfulCore
shows_lawful j s (lies, f) = subst (IsLawfulByPath j.program j.input) (sym (shown_is j lies s f)) f.core.lawful

pub claim_own_enters : ClaimOwnEnters
claim_own_enters j s (lies, f) id v (at, live) a m at_a before word =
    let l = layout_of j in let fit = f.fits id v at in let it = ((fit.owns live).spots a m at_a).1 in let t : Lie = it.0 in
    let sound = f.words.sound m.path t it.1 in
    let fits_m : IsState m.berth S.Unclaimed = subst (λ (z : Berth). IsState z S.Unclaimed) it.2
    (state_fits t.berth (stand_of t.stage) S.Unclaimed sound.state (λ e. cc) (omega arith)) in
    let there_is = state_there l lies s.words f.words m.path t it.1 it.3
    (record { frame = m.berth.frame; fork = m.berth.fork; stand = S.Unclaimed }) fits_m
    (ap (λ (b : Berth). word_at l s.words (record_word b.at 0)) it.2 ∙ word) in
    let waits : t.stage ≡ Waits = waits_of t.stage (ap (λ (z : StateWord). z.stand) there_is) in
    let earlier = in_order j lies s f id v fit m.path t it.1 before in
    let u : Lie = record t { stage = Runs v.worker } in
    let g = won_run j lies s f id v at live m.path t it.1 waits earlier v.worker (worker_below j lies s f id v at live) in
    entered_at j (Claims m.path) (Claims m.path) s id (state_place l t.berth.at) (state_place l m.berth.at)
    (state_word t.berth (S.Running v.worker)) (state_word m.berth (S.Running v.worker))
    (won_own v (record { berth = t.berth; path = m.path })) (won_own v m)
    (ap (λ (b : Berth). state_place l b.at) it.2) (ap (λ (b : Berth). state_word b (S.Running v.worker)) it.2)
    (ap (λ (b : Berth). won_own v (record { berth = b; path = m.path })) it.2) refl (
      (put lies m.path (some u), g),
      claims_it j lies s _ f m.path t it.1 u refl refl g refl (ap phase_of waits) earlier
          (elements_at_record l s.words t.berth.at _ (f.words.inside m.path t it.1)),
    )

pub claim_for_enters : ClaimForEnters
claim_for_enters j s (lies, f) id v (at, live) own ns notes_are own_found ready thief small frame fork fits word_is hit = elim
    (f.words.named own.at own_is.inside) [
      | inl zero_there ↦ (let b = pos in let a : word_at l s.words (record_word own.at 0) ≡ own.word = hit in absurd (omega arith))
      | inr (inr (y, y_fits, fin, y_is)) ↦ absurd (not_left y y_fits fin (sym y_is ∙ (hit ∙ word_is)))
      | inr (inl (p, t, is, t_live, at_is)) ↦ takes p t is t_live at_is
    ]
  where
    l : Layout
    l = layout_of j

    fit : Fits j lies s.words id v
    fit = f.fits id v at

    own_is : IsSo l lies s.words own
    own_is = fit.notes own (subst (In own) (sym notes_are) here)

    waiting_word : StateWord
    waiting_word = record { frame = frame; fork = fork; stand = S.Unclaimed }

    pos : 0 < own.word
    pos = let a = state_pos waiting_word (λ e. cc) in let b = word_is in omega arith

    not_left : (y : StateWord) → IsStateWord y → y.stand ≡ S.Finished → packed_state y ≡ packed_state waiting_word → ⊥
    not_left y y_fits fin e = let same = ap (λ (z : StateWord). z.stand) (state_one y waiting_word y_fits fits e) in
        let z : S.Finished ≡ S.Unclaimed = sym fin ∙ same in cc

    takes : (p : Path) (t : Lie) → lies p ≡ some t → is_gone t.stage ≡ false → t.berth.at ≡ own.at
        → (g : Spot) × (g.berth.at ≡ own.at) × (state_word g.berth S.Unclaimed ≡ own.word)
        × Enters j (Claims g.path) s (after_step s (state_place l own.at)
        (packed_state (record { frame = frame; fork = fork; stand = S.Given thief })) id
        (won_for v (record { spot = g; thief = thief })))
    takes p t is t_live at_is =
        let there_is : state_of t ≡ waiting_word = state_there l lies s.words f.words p t is t_live waiting_word fits
        (ap (λ (b : ℕ). word_at l s.words (record_word b 0)) at_is ∙ (hit ∙ word_is)) in
        let waits : t.stage ≡ Waits = waits_of t.stage (ap (λ (z : StateWord). z.stand) there_is) in
        let frame_is : t.berth.frame ≡ frame = ap (λ (z : StateWord). z.frame) there_is in
        let fork_is : t.berth.fork ≡ fork = ap (λ (z : StateWord). z.fork) there_is in
        let parts = word_parts waiting_word fits in
        let frame_own : t.berth.frame ≡ frame_in own.word = frame_is ∙ sym (ap frame_in word_is ∙ parts.2) in
        let fork_own : t.berth.fork ≡ fork_in own.word = fork_is ∙ sym (ap fork_in word_is ∙ parts.1) in
        let says = own_is.says pos p t is t_live at_is frame_own in
        let counted = says.counted own_found.headed in let all = own_found.all in
        let same : own.accesses ≡ t.berth.call.accesses = says.accesses ∙ take_all (length own.accesses) t.berth.call.accesses
        (omega arith) in
        let earlier = by_notes j lies s f id v fit p t is own t_live at_is frame_own fork_own same ready in
        let u : Lie = record t { stage = Promised thief } in let g : Spot = record { berth = t.berth; path = p } in
        let w : View = won_for v (record { spot = g; thief = thief }) in
        let won = won_promise j lies s f id v at live p t is waits earlier thief (let a = f.crew in omega arith) in (
          g,
          at_is,
          (λ i. packed_state (record { frame = frame_is i; fork = fork_is i; stand = S.Unclaimed })) ∙ sym word_is,
          entered_at j (Claims p) (Claims p) s id (state_place l t.berth.at) (state_place l own.at) (state_word t.berth (S.Given thief))
              (packed_state (record { frame = frame; fork = fork; stand = S.Given thief })) w w
              (ap (state_place l) at_is) (λ i. packed_state (record { frame = frame_is i; fork = fork_is i; stand = S.Given thief }))
              refl refl (
                (put lies p (some u), won),
                claims_it j lies s _ f p t is u refl refl won refl (ap phase_of waits) earlier
                    (elements_at_record l s.words t.berth.at _ (f.words.inside p t is)),
              ),
        )

pub start_enters : StartEnters
start_enters j s (lies, f) id v (at, live) m rest given_is =
    let l = layout_of j in let h = (f.fits id v at).given m (subst (In m) (sym given_is) here) in let t : Lie = h.0 in
    let u : Lie = record t { stage = Runs v.worker } in
    let g = start_given j lies s f id v at live m v.worker (worker_below j lies s f id v at live) t h.1 h.2 rest given_is h.3.0 h.3.1 in
    entered_at j Stays Stays s id (state_place l t.berth.at) (state_place l m.berth.at) (state_word t.berth (S.Running v.worker))
    (state_word m.berth (S.Running v.worker)) (starts v m rest) (starts v m rest)
    (ap (λ (b : Berth). state_place l b.at) h.2) (ap (λ (b : Berth). state_word b (S.Running v.worker)) h.2) refl refl (
      (put lies m.path (some u), g),
      stays_still j lies s _ f m.path t h.1 u refl refl g
          (λ i. record {
            call = whole_at (map suc m.path) t.berth.call;
            phase = phase_of
                (sym h.3.1 i);
            answers = t.answers;
            done = t.count;
          }) (elements_at_record l s.words t.berth.at _ (f.words.inside m.path t h.1)),
    )

pub act_enters : ActEnters
act_enters j s (lies, f) id v (at, live) e rest runs d next next_is in_e =
    let l = layout_of j in let plain = plain_at_act j lies s f id v at e (at_head v e rest runs) d next next_is in
    let g = does_now j lies s f id v at live e rest runs plain d next next_is in_e in (
      (_, g),
      acts_on j lies s _ f e.spot.path _ (head_is j lies s f id v at live e rest runs plain) _ refl refl g
          (head_running j lies s f id v at live e rest runs plain) d next
          (ap (left (machine_of j.program)) (head_task j lies s f id v at live e rest runs plain) ∙ next_is)
          (u5_is j lies s f id v at live e rest runs plain d next next_is in_e)
          (after_is j lies s f id v at live e rest runs plain d next next_is in_e),
    )

pub finish_enters : FinishEnters
finish_enters j s (lies, f) id v (at, live) e rest runs plain fault next children =
    let l = layout_of j in let g = ends_now j lies s f id v at live e rest runs plain fault next children in
    let agrees = head_agrees j lies s f id v at live e rest runs plain in
    let t : Lie = ((f.fits id v at).running e (head_in j lies s f id v at live e rest runs plain)).0 in
    let is = head_is j lies s f id v at live e rest runs plain in
    entered_at j (Finishes e.spot.path) (Finishes e.spot.path) s id (state_place l t.berth.at) (state_place l e.spot.berth.at)
    (state_word t.berth S.Finished) (state_word e.spot.berth S.Finished) (ends v e rest) (ends v e rest)
    (ap (λ (b : Berth). state_place l b.at) agrees.berth) (ap (λ (b : Berth). state_word b S.Finished) agrees.berth) refl refl (
      (_, g),
      finishes_it j lies s _ f e.spot.path t is _ refl refl g (head_running j lies s f id v at live e rest runs plain) fault
          (ap (left (machine_of j.program)) (head_task j lies s f id v at live e rest runs plain) ∙ next) refl
          (λ k less. let n : counts_of j lies e.spot.path ≡ e.forks + indexes_of e = ap (forks_of j) (get_at j lies e.spot.path t is)
          ∙ agrees.forks in
          let single = head_single j lies s f id v at live e rest runs plain in
          let h = (f.fits id v at).known (child e.spot.path k) (children k (omega arith)) in
          ap (λ (z : Task (machine_of j.program)). z.phase) (get_at j lies (child e.spot.path k) h.0 h.1) ∙ h.2)
          (elements_at_record l s.words t.berth.at _ (f.words.inside e.spot.path t is)),
    )

pub publish_enters : PublishEnters
publish_enters j s (lies, f) id v (at, live) e rest runs c code next b call_is at_is frame_is topmost fork_is parent_is fits_b built room
    behind draws within_limit =
    let l = layout_of j in let own = (f.fits id v at).own live in
    let plain = plain_at_fork j lies s f id v at e (at_head v e rest runs) c code next in
    let at_own : b.at ≡ own_record id (length v.region.spots) = at_is ∙ ap (λ (k : ℕ). own_record k (length v.region.spots)) own in
    let g = publish_now j lies s f id v at live e rest runs c code next b call_is at_own frame_is topmost fork_is parent_is fits_b built
    room behind draws within_limit in
    let after = publish_after j lies s f id v at live e rest runs c code next b call_is at_own frame_is topmost fork_is parent_is fits_b
    built room behind draws within_limit in (
      (_, g),
      moves j (Forks e.spot.path c) lies _ s _ f g (
        f.core.there e.spot.path _ (head_is j lies s f id v at live e rest runs plain),
        ap (λ (z : Task (machine_of j.program)). z.phase)
            (get_at j lies e.spot.path _ (head_is j lies s f id v at live e rest runs plain))
            ∙ head_running j lies s f id v at live e rest runs plain,
        (
          code,
          ap (left (machine_of j.program)) (get_at j lies e.spot.path _ (head_is j lies s f id v at live e rest runs plain)
              ∙ head_task j lies s f id v at live e rest runs plain) ∙ next,
        ),
      )
          after,
    )
