-- The kinds of step on a task that is there, as the table asks for them: each is allowed, and this is what it tells.
use Rattle.std.proofs.Common.{◌≡◌, ◌≢◌, ℕ, ◌<◌, ◌==◌, true, false, List, ◌∷◌, set, get_or, length, slice_index, sym, refl, ap, ◌∙◌, subst, inl, inr, arith, ⊎_elim, Option, Some}
use mathlib.Core.Option.{none, some}
use mathlib.Core.Logic.{dite}
use native.Mathlib.Decide.{ℕ_discrete}
use prog.Atomic.{either}
use lib.ListN.{get_elem?}
use Rattle.atomic_table.specs.Table.{State, Me, stepped, keeps, step, Allows}
use Rattle.kt_law.specs.Acts.{Act}
use Rattle.kt_law.specs.declared.stands.Stand.{Stand}
use Rattle.kt_law.specs.declared.stands.Stand.TheVariants as S
use Rattle.kt_order.specs.Body.{Do, Stop}
use Rattle.kt_order.specs.Machine.{Code}
use Rattle.kt_order.specs.Rest.{left, standing}
use Rattle.kt_prog.specs.Script.{Fault}
use Rattle.kt_rights.specs.Acts.{effect}
use Rattle.kt_prog.specs.Store.{place_of}
use Rattle.kt_prog.specs.Reference.{machine_of}
use Rattle.kt_runs.specs.ByPath.{Path, child}
use Rattle.kt_words.specs.Places.{place, record_word, element_word}
use Rattle.kt_words.specs.Words.{packed_state, IsStateWord}
use Rattle.kt_words.specs.declared.layouts.Layout.{Layout}
use Rattle.kt_words.specs.declared.states.StateWord.{StateWord}
use Rattle.kt_rule.specs.declared.views.Setup.{Setup}
use Rattle.kt_rule.specs.declared.views.Berth.{Berth}
use Rattle.kt_rule.specs.declared.views.Spot.{Spot}
use Rattle.kt_rule.specs.declared.views.Execution.{Execution}
use Rattle.kt_rule.specs.declared.views.Promise.{Promise}
use Rattle.kt_rule.specs.declared.views.Note.{Note}
use Rattle.kt_rule.specs.declared.views.View.{View}
use Rattle.kt_rule.specs.Paths.{put}
use Rattle.kt_rule.specs.Lists.{In, here, there}
use Rattle.kt_rule.specs.Lies.{Stage, Waits, Promised, Posted, Given, Runs, Loops, Done, Gone, Lie, Lies, stand_of, is_gone}
use Rattle.kt_rule.specs.Records.{layout_of, word_at, state_of, fork_in, frame_in}
use Rattle.kt_rule.specs.Facts.{Words, IsSo, task_in, Fits}
use Rattle.kt_rule.specs.Rule.{Slots, Facts, Holds}
use Rattle.kt_rule.specs.Steps.{Tells, state_place, state_word, IsState, won_own, won_for, BeforeKnown, ClaimsOwn, IsFound, IsReady, lost_one, ClaimsFor, starts_own, StartsOwn, starts, Starts, ends, Ends, does_one, Does}
use Rattle.kt_rule.proofs.Sums.{in_cons}
use Rattle.kt_rule.proofs.Words.{state_one, state_pos, word_parts, says_state, never_empty}
use Rattle.kt_rule.proofs.Moves.{at_below, learned}
use Rattle.kt_steps.proofs.Steps.{inside, holds_so, holds_at, won, lost, told_won, told_lost, state_fits, take_all, in_order, by_notes, won_run, won_promise, start_given, start_promised, head_in, head_agrees, does_now, ends_now, at_head, plain_at_act, plain_still}
use Rattle.kt_order.specs.Stand.{Standing}

-- the task that waits is the one whose state word says so
pub waits_of : (s : Stage) → stand_of s ≡ S.Unclaimed → s ≡ Waits
waits_of Waits e = refl
waits_of (Promised k) e = absurd (cc e)
waits_of (Posted k) e = absurd (cc e)
waits_of (Given k) e = absurd (cc e)
waits_of (Runs k) e = absurd (cc e)
waits_of (Loops k) e = absurd (cc e)
waits_of Done e = absurd (cc e)
waits_of Gone e = absurd (cc e)

module _ (l : Layout) (lies : Lies) (ws : List ℕ) (wd : Words l lies ws) (p : Path) (t : Lie) (is : lies p ≡ some t)
    (live : is_gone t.stage ≡ false) where
  -- the state of a task whose word was found
  pub state_there : (x : StateWord) → IsStateWord x → word_at l ws (record_word t.berth.at 0) ≡ packed_state x → state_of t ≡ x
  state_there x fits word = state_one (state_of t) x (wd.sound p t is).state fits (sym (says_state l lies ws wd p t is live) ∙ word)

-- a live seat's worker is one of at most eight
pub worker_below : (j : Setup) (lies : Lies) (s : State Slots View) → Facts j lies s → (id : ℕ) (v : View)
    → get_elem? s.views id ≡ some v → 0 < v.parts → v.worker < 8
worker_below j lies s f id v at live = let a = at_below s.views id v at in let b = f.counts.few in let c = f.crew in
    let d = (f.fits id v at).own live in omega arith

-- a claim of a record of the seat's own region, in order
pub claims_own : (opening : List ℕ) (slots id : ℕ) (me : Me Slots View) (j : Setup) (m : Spot) (a i old new : ℕ) → me.0.setup ≡ Some j
    → get_elem? me.0.region.spots a ≡ some m → BeforeKnown me.0 m.path → 0 < me.0.parts
    → i ≡ state_place (layout_of j) m.berth.at → old ≡ state_word m.berth S.Unclaimed → new ≡ state_word m.berth (S.Running me.0.worker)
    → Allows (Holds opening) slots id me i (λ n. either (n == old) new n) (Tells (ClaimsOwn m) (step slots i old new none) me)
claims_own opening slots id me j m a i old new setup at_a before live i_is old_is new_is s h _ at _ =
    let v : View = me.0 in let x = inside opening s j id v h at live setup in let lies = x.0 in let f = x.1 in let l = layout_of j in
    let worker = v.worker in let small = worker_below j lies s f id v at live in
    let fit = f.fits id v at in let it = ((fit.owns live).spots a m at_a).1 in let t : Lie = it.0 in let n : ℕ = get_or s.words i 0 in
    let w : View = won_own v m in
    let sound = f.words.sound m.path t it.1 in
    let n_is : n ≡ state_word m.berth (stand_of t.stage) = ap (slice_index s.words) i_is ∙
    (ap (λ (b : Berth). word_at l s.words (record_word b.at 0)) (sym it.2) ∙
    (says_state l lies s.words f.words m.path t it.1 it.3 ∙ ap (λ (b : Berth). state_word b (stand_of t.stage)) it.2)) in
    let fits : (b : Stand) → b ≢ S.Empty → Rattle.kt_words.specs.Words.worker_number b < 8
    → IsState m.berth b = (λ b taken low. subst (λ (z : Berth). IsState z b) it.2
    (state_fits t.berth (stand_of t.stage) b sound.state taken low)) in
    let Lost : View → Type 0 = (λ (w : View). ((b : Stand) × IsState m.berth b × (b ≢ S.Empty) × (n ≡ state_word m.berth b)) × (w ≡ v)) in
    dite (ℕ_discrete n old)
    (λ hit.
    let there_is = state_one (record { frame = m.berth.frame; fork = m.berth.fork; stand = stand_of t.stage })
    (record { frame = m.berth.frame; fork = m.berth.fork; stand = S.Unclaimed })
    (subst (λ (z : Berth). IsState z (stand_of t.stage)) it.2 sound.state) (fits S.Unclaimed (λ e. cc) (omega arith))
    (sym n_is ∙ (hit ∙ old_is)) in
    let waits : t.stage ≡ Waits = waits_of t.stage (ap (λ (z : StateWord). z.stand) there_is) in (
      w,
      keeps,
      tt,
      won opening s i old new id me.1 w hit
          (holds_at opening j (put lies m.path (some (record t { stage = Runs worker }))) s id (state_place l t.berth.at) i
          (state_word t.berth (S.Running worker)) new (won_own v (record { berth = t.berth; path = m.path })) w
          (ap (λ (b : Berth). state_place l b.at) it.2 ∙ sym i_is)
          (ap (λ (b : Berth). state_word b (S.Running worker)) it.2 ∙ sym new_is)
          (ap (λ (b : Berth). won_own v (record { berth = b; path = m.path })) it.2)
          (won_run j lies s f id v at live m.path t it.1 waits (in_order j lies s f id v fit m.path t it.1 before) worker small)),
      (told_won opening s i old new id me.1 (w ≡ won_own v m) (Lost w) hit refl, refl),
    ))
    (λ miss. (
      v,
      keeps,
      tt,
      lost opening s i old new id me.1 v miss (subst (Holds opening) (sym (same_views s id v at)) h),
      (
        told_lost opening s i old new id me.1 (v ≡ won_own v m) (Lost v) miss
            ((stand_of t.stage, subst (λ (z : Berth). IsState z (stand_of t.stage)) it.2 sound.state, never_empty t.stage, n_is), refl),
        refl,
      ),
    ))
  where
    same_views : (s : State Slots View) (id : ℕ) (v : View) → get_elem? s.views id ≡ some v
        → record { words = s.words; homes = s.homes; views = set s.views id v } ≡ s
    same_views s id v at = λ k. record {
      words = s.words;
      homes = s.homes;
      views = Rattle.atomic_table.proofs.Lists.set_again s.views id
          v at k;
    }

-- a note of which a claim was lost says what it said
note_lost : (l : Layout) (lies : Lies) (ws : List ℕ) (own : Note) (n : ℕ) → IsSo l lies ws own
    → IsSo l lies ws (record own { lost = true; other = n })
note_lost l lies ws own n h = record {
  inside = h.inside;
  used = h.used;
  says = λ pos p t e live at frame. let o = h.says pos p t e live at frame in record
      { fork = o.fork; finished = o.finished; counted = o.counted; accesses = o.accesses };
}

-- a claim for a thief of the entry that was noted last, by its very word, where the notes say that it is ready
pub claims_for : (opening : List ℕ) (slots id : ℕ) (me : Me Slots View) (j : Setup) (own : Note) (ns : List Note)
    (thief frame fork i old new : ℕ) → me.0.setup ≡ Some j → me.0.seen.notes ≡ own ∷ ns → IsFound own → IsReady me.0 own
    → 0 < me.0.parts → thief < j.workers → IsStateWord (record { frame = frame; fork = fork; stand = S.Unclaimed })
    → own.word ≡ packed_state (record { frame = frame; fork = fork; stand = S.Unclaimed })
    → i ≡ state_place (layout_of j) own.at → old ≡ own.word → new ≡ packed_state
    (record { frame = frame; fork = fork; stand = S.Given thief })
    → Allows (Holds opening) slots id me i (λ n. either (n == old) new n) (Tells (ClaimsFor own ns thief) (step slots i old new none) me)
claims_for opening slots id me j own ns thief frame fork i old new setup notes_are own_found ready live small fits word_is i_is old_is
    new_is s h _ at _ =
    dite (ℕ_discrete n old) hits (λ miss. (
      lost_one v own ns n,
      keeps,
      tt,
      lost opening s i old new id me.1 (lost_one v own ns n) miss
          (holds_so opening _ j lies (learned j lies s f id v at live
          (record v.seen { notes = record own { lost = true; other = n } ∷ ns }) fit.known
          (λ o k. ⊎_elim (λ (e : o ≡ record own { lost = true; other = n }). subst (IsSo l lies s.words) (sym e)
          (note_lost l lies s.words own n own_is)) (λ (g : In o ns). fit.notes o (subst (In o) (sym notes_are) (there g)))
          (in_cons o (record own { lost = true; other = n }) ns k)) fit.stop fit.line)),
      (told_lost opening s i old new id me.1 (Won (lost_one v own ns n)) (lost_one v own ns n ≡ lost_one v own ns n) miss refl, refl),
    ))
  where
    v : View
    v = me.0

    x : (lies : Lies) × Facts j lies s
    x = inside opening s j id v h at live setup

    lies : Lies
    lies = x.0

    f : Facts j lies s
    f = x.1

    l : Layout
    l = layout_of j

    n : ℕ
    n = get_or s.words i 0

    fit : Fits j lies s.words id v
    fit = f.fits id v at

    own_in : In own v.seen.notes
    own_in = subst (In own) (sym notes_are) here

    own_is : IsSo l lies s.words own
    own_is = fit.notes own own_in

    waiting_word : StateWord
    waiting_word = record { frame = frame; fork = fork; stand = S.Unclaimed }

    Won : View → Type 0
    Won w = (g : Spot) × (g.berth.at ≡ own.at) × IsState g.berth S.Unclaimed × (state_word g.berth S.Unclaimed ≡ own.word)
        × (w ≡ won_for v (record { spot = g; thief = thief }))

    Goal : Type 0
    Goal = (w : View) × (a : Rattle.atomic_table.specs.Table.Act Slots) × Rattle.atomic_table.specs.Table.Valid s.homes me.1 a
        × Holds opening (stepped s i (either (n == old) new n) id me.1 w a)
        × Tells (ClaimsFor own ns thief) (step slots i old new none) me n (w, Rattle.atomic_table.specs.Table.carried_after me.1 a)

    pos : 0 < own.word
    pos = let a = state_pos waiting_word (λ e. cc) in let b = word_is in omega arith

    not_left : (y : StateWord) → IsStateWord y → y.stand ≡ S.Finished → packed_state y ≡ packed_state waiting_word → ⊥
    not_left y y_fits fin e = let same = ap (λ (z : StateWord). z.stand) (state_one y waiting_word y_fits fits e) in
        let z : S.Finished ≡ S.Unclaimed = sym fin ∙ same in cc

    hits : n ≡ old → Goal
    hits hit = elim (f.words.named own.at own_is.inside) [
      | inl zero_there ↦ (let a : word_at l s.words (record_word own.at 0) ≡ own.word = word in let b = pos in absurd (omega arith))
      | inr (inr (y, y_fits, fin, y_is)) ↦ absurd (not_left y y_fits fin (sym y_is ∙ (word ∙ word_is)))
      | inr (inl (p, t, is, t_live, at_is)) ↦ takes p t is t_live at_is
    ]
      where
        word : word_at l s.words (record_word own.at 0) ≡ own.word
        word = ap (slice_index s.words) (sym i_is) ∙ (hit ∙ old_is)

        takes : (p : Path) (t : Lie) → lies p ≡ some t → is_gone t.stage ≡ false → t.berth.at ≡ own.at → Goal
        takes p t is t_live at_is =
            let there_is : state_of t ≡ waiting_word = state_there l lies s.words f.words p t is t_live waiting_word fits
            (ap (λ (b : ℕ). word_at l s.words (record_word b 0)) at_is ∙ (word ∙ word_is)) in
            let waits : t.stage ≡ Waits = waits_of t.stage (ap (λ (z : StateWord). z.stand) there_is) in
            let frame_is : t.berth.frame ≡ frame = ap (λ (z : StateWord). z.frame) there_is in
            let fork_is : t.berth.fork ≡ fork = ap (λ (z : StateWord). z.fork) there_is in
            let parts = word_parts waiting_word fits in
            let frame_own : t.berth.frame ≡ frame_in own.word = frame_is ∙ sym (ap frame_in word_is ∙ parts.2) in
            let fork_own : t.berth.fork ≡ fork_in own.word = fork_is ∙ sym (ap fork_in word_is ∙ parts.1) in
            let says = own_is.says pos p t is t_live at_is frame_own in
            let counted = says.counted own_found.headed in let all = own_found.all in
            let same : own.accesses ≡ t.berth.call.accesses = says.accesses ∙ take_all (length own.accesses) t.berth.call.accesses
            (omega arith) in
            let g : Spot = record { berth = t.berth; path = p } in let w : View = won_for v (record { spot = g; thief = thief }) in (
              w,
              keeps,
              tt,
              won opening s i old new id me.1 w hit
                  (holds_at opening j (put lies p (some (record t { stage = Promised thief }))) s id (state_place l t.berth.at) i
                  (state_word t.berth (S.Given thief)) new w w (ap (state_place l) at_is ∙ sym i_is)
                  ((λ q. packed_state (record { frame = frame_is q; fork = fork_is q; stand = S.Given thief })) ∙ sym new_is) refl
                  (won_promise j lies s f id v at live p t is waits
                  (by_notes j lies s f id v fit p t is own t_live at_is frame_own fork_own same ready) thief
                  (let a = f.crew in omega arith))),
              (
                told_won opening s i old new id me.1 (Won w) (w ≡ lost_one v own ns n) hit (
                  g,
                  at_is,
                  state_fits t.berth (stand_of t.stage) S.Unclaimed (f.words.sound p t is).state (λ e. cc) (omega arith),
                  (λ q. packed_state (record { frame = frame_is q; fork = fork_is q; stand = S.Unclaimed })) ∙ sym word_is,
                  refl,
                ),
                refl,
              ),
            )

-- the start of the first task that the seat was given: a store
pub starts_given : (opening : List ℕ) (slots id : ℕ) (me : Me Slots View) (j : Setup) (m : Spot) (rest : List Spot) (i new : ℕ)
    → me.0.setup ≡ Some j → 0 < me.0.parts → me.0.tasks.given ≡ m ∷ rest
    → i ≡ state_place (layout_of j) m.berth.at → new ≡ state_word m.berth (S.Running me.0.worker)
    → Allows (Holds opening) slots id me i (λ _. new) (λ _. Tells (Starts m rest) (step slots i new 0 none) me new)
starts_given opening slots id me j m rest i new setup live given_is i_is new_is s h _ at _ =
    let x = inside opening s j id me.0 h at live setup in let lies = x.0 in let f = x.1 in let l = layout_of j in
    let worker = me.0.worker in let small = worker_below j lies s f id me.0 at live in
    let g = (f.fits id me.0 at).given m (subst (In m) (sym given_is) here) in let t : Lie = g.0 in (
      starts me.0 m rest,
      keeps,
      tt,
      holds_at opening j (put lies m.path (some (record t { stage = Runs worker }))) s id (state_place l t.berth.at) i
          (state_word t.berth (S.Running worker)) new (starts me.0 m rest) (starts me.0 m rest)
          (ap (λ (b : Berth). state_place l b.at) g.2 ∙ sym i_is)
          (ap (λ (b : Berth). state_word b (S.Running worker)) g.2 ∙ sym new_is) refl
          (start_given j lies s f id me.0 at live m worker small t g.1 g.2 rest given_is g.3.0 g.3.1),
      (refl, refl),
    )

-- the start of the first task that the seat claimed for a thief, where it is the thief itself
pub starts_promised : (opening : List ℕ) (slots id : ℕ) (me : Me Slots View) (j : Setup) (m : Spot) (rest : List Promise) (i new : ℕ)
    → me.0.setup ≡ Some j → 0 < me.0.parts → me.0.tasks.promised ≡ record { spot = m; thief = me.0.worker } ∷ rest
    → i ≡ state_place (layout_of j) m.berth.at → new ≡ state_word m.berth (S.Running me.0.worker)
    → Allows (Holds opening) slots id me i (λ _. new) (λ _. Tells (StartsOwn m rest) (step slots i new 0 none) me new)
starts_promised opening slots id me j m rest i new setup live promised_is i_is new_is s h _ at _ =
    let x = inside opening s j id me.0 h at live setup in let lies = x.0 in let f = x.1 in let l = layout_of j in
    let worker = me.0.worker in let small = worker_below j lies s f id me.0 at live in
    let g = f.asked.promises id me.0 at (record { spot = m; thief = worker })
    (subst (In (record { spot = m; thief = worker })) (sym promised_is) here) in let t : Lie = g.0 in (
      starts_own me.0 m rest,
      keeps,
      tt,
      holds_at opening j (put lies m.path (some (record t { stage = Runs worker }))) s id (state_place l t.berth.at) i
          (state_word t.berth (S.Running worker)) new (starts_own me.0 m rest) (starts_own me.0 m rest)
          (ap (λ (b : Berth). state_place l b.at) g.2 ∙ sym i_is)
          (ap (λ (b : Berth). state_word b (S.Running worker)) g.2 ∙ sym new_is) refl
          (start_promised j lies s f id me.0 at live m worker small t g.1 g.2 rest worker promised_is g.3),
      (refl, refl),
    )

-- the end of the running body and the finish of its task, entered with one store
pub finishes : (opening : List ℕ) (slots id : ℕ) (me : Me Slots View) (j : Setup) (e : Execution) (rest : List Execution) (i new : ℕ)
    (fault : Option Fault) → me.0.setup ≡ Some j → 0 < me.0.parts → me.0.tasks.running ≡ e ∷ rest
    → (st : Standing (machine_of j.program)) → standing (machine_of j.program) (task_in j e) ≡ Some st → st.over ≡ false
    → left (machine_of j.program) (task_in j e) ≡ Stop fault
    → ((k : ℕ) → k < e.forks → In (child e.spot.path k) me.0.seen.known)
    → i ≡ state_place (layout_of j) e.spot.berth.at → new ≡ state_word e.spot.berth S.Finished
    → Allows (Holds opening) slots id me i (λ _. new) (λ _. Tells (Ends e rest) (step slots i new 0 none) me new)
finishes opening slots id me j e rest i new fault setup live runs st stands still next children i_is new_is s h _ at _ =
    let x = inside opening s j id me.0 h at live setup in let lies = x.0 in let f = x.1 in let l = layout_of j in
    let plain = plain_still j lies s f id me.0 at e (at_head me.0 e rest runs) st stands still in
    let t = ((f.fits id me.0 at).running e (head_in j lies s f id me.0 at live e rest runs plain)).0 in
    let b = (head_agrees j lies s f id me.0 at live e rest runs plain).berth in (
      ends me.0 e rest,
      keeps,
      tt,
      holds_at opening j _ s id (state_place l t.berth.at) i (state_word t.berth S.Finished) new (ends me.0 e rest) (ends me.0 e rest)
          (ap (λ (b : Berth). state_place l b.at) b ∙ sym i_is) (ap (λ (b : Berth). state_word b S.Finished) b ∙ sym new_is) refl
          (ends_now j lies s f id me.0 at live e rest runs plain fault next children),
      (refl, refl),
    )

-- a load, a store or a fold of one element by the running body
pub does : (opening : List ℕ) (slots id : ℕ) (me : Me Slots View) (j : Setup) (e : Execution) (rest : List Execution) (d : Act) (k : ℕ
    → Code (machine_of j.program)) (i first second : ℕ) → me.0.setup ≡ Some j → 0 < me.0.parts → me.0.tasks.running ≡ e ∷ rest
    → left (machine_of j.program) (task_in j e) ≡ Do d k
    → place_of j.program.families d < (layout_of j).elements → i ≡ place (layout_of j) (element_word (place_of j.program.families d))
    → Allows (Holds opening) slots id me i (effect d.deed) (Tells (Does d e rest) (step slots i first second none) me)
does opening slots id me j e rest d k i first second setup live runs next in_e i_is s h _ at _ =
    let x = inside opening s j id me.0 h at live setup in let lies = x.0 in let f = x.1 in let l = layout_of j in
    let q = place l (element_word (place_of j.program.families d)) in let n : ℕ = slice_index s.words i in
    let n_is : slice_index s.words q ≡ n = ap (slice_index s.words) (sym i_is) in (
      does_one me.0 d n e rest,
      keeps,
      tt,
      holds_at opening j _ s id q i (effect d.deed (slice_index s.words q)) (effect d.deed n)
          (does_one me.0 d (slice_index s.words q) e rest) (does_one me.0 d n e rest)
          (sym i_is) (ap (effect d.deed) n_is) (ap (λ (z : ℕ). does_one me.0 d z e rest) n_is)
          (does_now j lies s f id me.0 at live e rest runs (plain_at_act j lies s f id me.0 at e (at_head me.0 e rest runs) d k next) d k next in_e),
      (refl, refl),
    )
