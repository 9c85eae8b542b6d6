-- The kinds of step as the calls tell them.
use Rattle.std.proofs.Common.{◌≡◌, ◌≢◌, ℕ, suc, ◌*◌, ◌<◌, ◌==◌, cond, List, [], ◌∷◌, ◌++◌, get_or, slice_index, sym, ap, ◌∙◌, subst, arith, Option, Some, false}
use mathlib.Core.Option.{none, some, some-injective}
use prog.Atomic.{either}
use lib.ListN.{get_elem?}
use Rattle.atomic_table.specs.Table.{State, Me, stepped, step, Allows}
use Rattle.kt_law.specs.Acts as Acts
use Rattle.kt_law.specs.Operators.{fold_of}
use Rattle.kt_law.specs.declared.operators.Op.{Op}
use Rattle.kt_law.specs.declared.stands.Stand.{Stand}
use Rattle.kt_law.specs.declared.stands.Stand.TheVariants as S
use Rattle.kt_order.specs.Body.{Do, Stop}
use Rattle.kt_order.specs.Machine.{Code}
use Rattle.kt_order.specs.Rest.{left, standing}
use Rattle.kt_prog.specs.Script.{Fault}
use Rattle.kt_rights.specs.Acts.{is_load, effect}
use Rattle.kt_prog.specs.Store.{place_of}
use Rattle.kt_prog.specs.Reference.{machine_of}
use Rattle.kt_runs.specs.ByPath.{child}
use Rattle.kt_words.specs.Places.{place, record_word, element_word}
use Rattle.kt_words.specs.declared.layouts.TheConstants.{RECORDS}
use Rattle.kt_words.specs.declared.layouts.Layout.{Layout}
use Rattle.kt_words.specs.declared.states.StateWord.{StateWord}
use Rattle.kt_words.specs.Words.{IsStateWord, packed_state}
use Rattle.kt_words.proofs.PlaceLaws.{places_differ}
use Rattle.kt_rule.specs.declared.views.Setup.{Setup}
use Rattle.kt_rule.specs.declared.views.Spot.{Spot}
use Rattle.kt_rule.specs.declared.views.Execution.{Execution}
use Rattle.kt_rule.specs.declared.views.Promise.{Promise}
use Rattle.kt_rule.specs.declared.views.Note.{Note}
use Rattle.kt_rule.specs.declared.views.View.{View}
use Rattle.kt_rule.specs.Lists.{In, here}
use Rattle.kt_rule.specs.Lies.{Lies}
use Rattle.kt_rule.specs.Records.{layout_of, stop_at}
use Rattle.kt_rule.specs.Facts.{task_in}
use Rattle.kt_rule.specs.Rule.{Slots, Facts, Holds}
use Rattle.kt_rule.specs.Steps.{Tells, state_place, state_word, IsState, BeforeKnown, ClaimsOwn, ClaimsFor, IsFound, IsReady, starts_own, starts, ends, heard, does_one, Stands, LoadsStop}
use Rattle.kt_steps.specs.Told.{IsOwnAt, ShowsOwn, ClaimsOwnAt, ClaimsForAt, ShowsPromised, StartsOwnAt, ShowsGiven, StartsGivenAt, ShowsRunning, EndsAt, DidNext, DoesNext, StandsAt}
use Rattle.kt_rule.proofs.Moves.{at_below}
use Rattle.kt_rule.proofs.Words.{state_one}
use Rattle.kt_steps.proofs.Steps.{inside}
use Rattle.kt_steps.proofs.Asides.{loads_stop}
use Rattle.kt_steps.proofs.Claiming.{claims_own, claims_for, starts_given, starts_promised, finishes, does}
use Rattle.kt_steps.proofs.Looks.{looks_own_state, looks_given_state, looks_promised_state, looks_running_state, stands_at}
use Rattle.kt_order.specs.Stand.{Standing}

pub the_some : {X : Type 0} → {x y : X} → Some x ≡ Some y → x ≡ y
the_some h = cc

pub place_one : (l : Layout) (a b : ℕ) → a < RECORDS * l.workers → b < RECORDS * l.workers → state_place l a ≡ state_place l b → a ≡ b
place_one l a b in_a in_b e = let h = places_differ l (record_word a 0) (record_word b 0) (in_a, omega arith) (in_b, omega arith) e in
    let r : a ≡ b = cc in r

-- two of the seat's records at one place are one
one_own : (j : Setup) (lies : Lies) (s : State Slots View) → Facts j lies s → (id : ℕ) (v : View) → get_elem? s.views id ≡ some v
    → 0 < v.parts
    → (a b : ℕ) (m n : Spot) → get_elem? v.region.spots a ≡ some m → get_elem? v.region.spots b ≡ some n
    → state_place (layout_of j) m.berth.at ≡ state_place (layout_of j) n.berth.at → m ≡ n
one_own j lies s f id v at live a b m n at_a at_b e =
    let o = (f.fits id v at).owns live in let x = o.spots a m at_a in let y = o.spots b n at_b in let x0 = x.0 in let y0 = y.0 in
    let seat = at_below s.views id v at in let few = f.counts.few in
    let la = at_below v.region.spots a m at_a in let lb = at_below v.region.spots b n at_b in let r = o.room in
    let same = place_one (layout_of j) m.berth.at n.berth.at (omega arith) (omega arith) e in
    let ab : a ≡ b = omega arith in some-injective m n (sym at_a ∙ (ap (get_elem? v.region.spots) ab ∙ at_b))

module _ (opening : List ℕ) (slots id : ℕ) (me : Me Slots View) (j : Setup) (setup : me.0.setup ≡ Some j) (live : 0 < me.0.parts) where
  -- whichever own record stands at the word is this one
  which_own : (s : State Slots View) → Holds opening s → get_elem? s.views id ≡ some me.0 → (a i first second : ℕ) (m : Spot)
      → get_elem? me.0.region.spots a ≡ some m
      → i ≡ state_place (layout_of j) m.berth.at → (o : Spot) → IsOwnAt (step slots i first second none) me.0 o → m ≡ o
  which_own s h at a i first second m at_a i_is o (k, told, (b, at_b), place_is) =
      let y = inside opening s j id me.0 h at live setup in
      one_own j y.0 s y.1 id me.0 at live a b m o at_a at_b (sym i_is ∙
      (place_is ∙ ap (λ (z : Setup). state_place (layout_of z) o.berth.at) (the_some (sym told ∙ setup))))

  pub shows_own : (m : Spot) (a i : ℕ) → get_elem? me.0.region.spots a ≡ some m → i ≡ state_place (layout_of j) m.berth.at
      → Allows (Holds opening) slots id me i (λ n. n) (Tells ShowsOwn (step slots i 0 0 none) me)
  shows_own m a i at_a i_is s h out at word =
      let d = looks_own_state opening slots id me j m a i setup live at_a i_is s h out at word in (
        d.0,
        d.1,
        d.2,
        d.3,
        (
          (
            (λ o at_word. subst (λ (z : Spot). (b : Stand) × IsState z.berth b × (b ≢ S.Empty)
                × (get_or s.words i 0 ≡ state_word z.berth b)) (which_own s h at a i 0 0 m at_a i_is o at_word) d.4.0.0),
            d.4.0.1,
          ),
          d.4.1,
        ),
      )

  pub claims_own_at : (m : Spot) (a i old new : ℕ) → get_elem? me.0.region.spots a ≡ some m → BeforeKnown me.0 m.path
      → i ≡ state_place (layout_of j) m.berth.at → old ≡ state_word m.berth S.Unclaimed → new ≡ state_word m.berth (S.Running me.0.worker)
      → Allows (Holds opening) slots id me i (λ n. either (n == old) new n) (Tells ClaimsOwnAt (step slots i old new none) me)
  claims_own_at m a i old new at_a before i_is old_is new_is s h out at word =
      let d = claims_own opening slots id me j m a i old new setup at_a before live i_is old_is new_is s h out at word in (
        d.0,
        d.1,
        d.2,
        d.3,
        (
          (λ o at_word. subst (λ (z : Spot). ClaimsOwn z (step slots i old new none) me.0 (get_or s.words i 0) d.0)
              (which_own s h at a i old new m at_a i_is o at_word) d.4.0),
          d.4.1,
        ),
      )

  pub claims_for_at : (own : Note) (ns : List Note) (x : StateWord) (thief i old new : ℕ) → me.0.seen.notes ≡ own ∷ ns → IsFound own
      → IsReady me.0 own → IsStateWord x → x.stand ≡ S.Unclaimed → own.word ≡ packed_state x → thief < j.workers → thief < 8
      → i ≡ state_place (layout_of j) own.at → old ≡ packed_state x
      → new ≡ packed_state (record { frame = x.frame; fork = x.fork; stand = S.Given thief })
      → Allows (Holds opening) slots id me i (λ n. either (n == old) new n) (Tells ClaimsForAt (step slots i old new none) me)
  claims_for_at own ns x thief i old new notes found ready fits waits word_is below small i_is old_is new_is s h out at word =
      let plain : x ≡ record { frame = x.frame; fork = x.fork; stand = S.Unclaimed } =
      λ q. record { frame = x.frame; fork = x.fork; stand = waits q } in
      let d = claims_for opening slots id me j own ns thief x.frame x.fork i old new setup notes found ready live below
      (subst IsStateWord plain fits) (word_is ∙ ap packed_state plain) i_is (old_is ∙ sym word_is) new_is s h out at word in (
        d.0,
        d.1,
        d.2,
        d.3,
        (
          (λ own' ns' notes' y y_fits y_is thief' y_given.
              let same = state_one (record { frame = x.frame; fork = x.fork; stand = S.Given thief }) y (given_fits x thief fits small) y_fits
              (sym new_is ∙ y_is) in
              let thieves = given_one thief thief' (ap (λ (z : StateWord). z.stand) same ∙ y_given) in
              let both = firsts own own' ns ns' (sym notes ∙ notes') in
              subst (λ z. ClaimsFor z ns' thief' (step slots i old new none) me.0 (get_or s.words i 0) d.0) both.0
              (subst (λ z. ClaimsFor own z thief' (step slots i old new none) me.0 (get_or s.words i 0) d.0) both.1
              (subst (λ z. ClaimsFor own ns z (step slots i old new none) me.0 (get_or s.words i 0) d.0) thieves d.4.0))),
          d.4.1,
        ),
      )
    where
      firsts : (a b : Note) (xs ys : List Note) → a ∷ xs ≡ b ∷ ys → (a ≡ b) × (xs ≡ ys)
      firsts a b xs ys e = (cc, cc)

      given_one : (a b : ℕ) → S.Given a ≡ S.Given b → a ≡ b
      given_one a b e = cc

      given_fits : (x : StateWord) (k : ℕ) → IsStateWord x → k < 8
          → IsStateWord (record { frame = x.frame; fork = x.fork; stand = S.Given k })
      given_fits x k h small = record { frame_fits = h.frame_fits; fork_fits = h.fork_fits; worker_fits = small; blank_if_empty = tt }

  pub shows_promised : (m : Promise) (rest : List Promise) (i : ℕ) → me.0.tasks.promised ≡ m ∷ rest
      → i ≡ state_place (layout_of j) m.spot.berth.at → Allows (Holds opening) slots id me i (λ n. n)
      (Tells ShowsPromised (step slots i 0 0 none) me)
  shows_promised m rest i promised i_is s h out at word =
      let d = looks_promised_state opening slots id me j m i setup live (subst (In m) (sym promised) here) i_is s h out at word in (
        d.0,
        d.1,
        d.2,
        d.3,
        (
          (
            (λ o others too. subst (λ (z : Promise). (b : Stand) × IsState z.spot.berth b × (b ≢ S.Empty)
                × (get_or s.words i 0 ≡ state_word z.spot.berth b)) (first (sym promised ∙ too)) d.4.0.0),
            d.4.0.1,
          ),
          d.4.1,
        ),
      )
    where
      first : {x y : Promise} → {xs ys : List Promise} → x ∷ xs ≡ y ∷ ys → x ≡ y
      first e = cc

  pub starts_own_at : (m : Spot) (rest : List Promise) (i new : ℕ)
      → me.0.tasks.promised ≡ record { spot = m; thief = me.0.worker } ∷ rest → i ≡ state_place (layout_of j) m.berth.at
      → new ≡ state_word m.berth (S.Running me.0.worker)
      → Allows (Holds opening) slots id me i (λ _. new) (λ _. Tells StartsOwnAt (step slots i new 0 none) me new)
  starts_own_at m rest i new promised i_is new_is s h out at word =
      let d = starts_promised opening slots id me j m rest i new setup live promised i_is new_is s h out at word in
      (d.0, d.1, d.2, d.3, ((λ o others too. d.4.0 ∙ both (sym promised ∙ too)), d.4.1))
    where
      both : {y : Promise} → {ys : List Promise} → record { spot = m; thief = me.0.worker } ∷ rest ≡ y ∷ ys
          → starts_own me.0 m rest ≡ starts_own me.0 y.spot ys
      both {y} {ys} e = let x : record { spot = m; thief = me.0.worker } ≡ y = cc in
          let xs : rest ≡ ys = cc in λ i. starts_own me.0 (x i).spot (xs i)

  pub shows_given : (m : Spot) (rest : List Spot) (i : ℕ) → me.0.tasks.given ≡ m ∷ rest
      → i ≡ state_place (layout_of j) m.berth.at → Allows (Holds opening) slots id me i (λ n. n)
      (Tells ShowsGiven (step slots i 0 0 none) me)
  shows_given m rest i given i_is s h out at word =
      let d = looks_given_state opening slots id me j m i setup live (subst (In m) (sym given) here) i_is s h out at word in (
        d.0,
        d.1,
        d.2,
        d.3,
        (
          (
            (λ o others too. subst (λ (z : Spot). (b : Stand) × IsState z.berth b × (b ≢ S.Empty)
                × (get_or s.words i 0 ≡ state_word z.berth b)) (first (sym given ∙ too)) d.4.0.0),
            d.4.0.1,
          ),
          d.4.1,
        ),
      )
    where
      first : {x y : Spot} → {xs ys : List Spot} → x ∷ xs ≡ y ∷ ys → x ≡ y
      first e = cc

  pub starts_given_at : (m : Spot) (rest : List Spot) (i new : ℕ) → me.0.tasks.given ≡ m ∷ rest
      → i ≡ state_place (layout_of j) m.berth.at → new ≡ state_word m.berth (S.Running me.0.worker)
      → Allows (Holds opening) slots id me i (λ _. new) (λ _. Tells StartsGivenAt (step slots i new 0 none) me new)
  starts_given_at m rest i new given i_is new_is s h out at word =
      let d = starts_given opening slots id me j m rest i new setup live given i_is new_is s h out at word in
      (d.0, d.1, d.2, d.3, ((λ o others too. d.4.0 ∙ both (sym given ∙ too)), d.4.1))
    where
      both : {y : Spot} → {ys : List Spot} → m ∷ rest ≡ y ∷ ys → starts me.0 m rest ≡ starts me.0 y ys
      both {y} {ys} e = let x : m ≡ y = cc in let xs : rest ≡ ys = cc in λ i. starts me.0 (x i) (xs i)

  pub shows_running : (e : Execution) (rest : List Execution) (i : ℕ) → me.0.tasks.running ≡ e ∷ rest
      → i ≡ state_place (layout_of j) e.spot.berth.at → Allows (Holds opening) slots id me i (λ n. n)
      (Tells ShowsRunning (step slots i 0 0 none) me)
  shows_running e rest i runs i_is s h out at word =
      let d = looks_running_state opening slots id me j e i setup live (subst (In e) (sym runs) here) i_is s h out at word in (
        d.0,
        d.1,
        d.2,
        d.3,
        (
          (
            (λ o others too. subst (λ (z : Execution). (b : Stand) × IsState z.spot.berth b × (b ≢ S.Empty)
                × (get_or s.words i 0 ≡ state_word z.spot.berth b)) (first (sym runs ∙ too)) d.4.0.0),
            d.4.0.1,
          ),
          d.4.1,
        ),
      )
    where
      first : {x y : Execution} → {xs ys : List Execution} → x ∷ xs ≡ y ∷ ys → x ≡ y
      first e = cc

  pub finishes_at : (e : Execution) (rest : List Execution) (i new : ℕ) (fault : Option Fault) → me.0.tasks.running ≡ e ∷ rest
      → (st : Standing (machine_of j.program)) → standing (machine_of j.program) (task_in j e) ≡ Some st → st.over ≡ false
      → left (machine_of j.program) (task_in j e) ≡ Stop fault → ((k : ℕ) → k < e.forks → In (child e.spot.path k) me.0.seen.known)
      → i ≡ state_place (layout_of j) e.spot.berth.at → new ≡ state_word e.spot.berth S.Finished
      → Allows (Holds opening) slots id me i (λ _. new) (λ _. Tells EndsAt (step slots i new 0 none) me new)
  finishes_at e rest i new fault runs st stands still next children i_is new_is s h out at word =
      let d = finishes opening slots id me j e rest i new fault setup live runs st stands still next children i_is new_is s h out at word in
      (d.0, d.1, d.2, d.3, ((λ o others too. d.4.0 ∙ both (sym runs ∙ too)), d.4.1))
    where
      both : {y : Execution} → {ys : List Execution} → e ∷ rest ≡ y ∷ ys → ends me.0 e rest ≡ ends me.0 y ys
      both {y} {ys} d = let x : e ≡ y = cc in let xs : rest ≡ ys = cc in λ i. ends me.0 (x i) (xs i)

  pub stands_told : (a i : ℕ) → a < RECORDS * j.workers → i ≡ state_place (layout_of j) a
      → Allows (Holds opening) slots id me i (λ n. n) (Tells StandsAt (step slots i 0 0 none) me)
  stands_told a i in_a i_is s h out at word =
      let d = stands_at opening slots id me j a i setup live in_a i_is s h out at word in
      (d.0, d.1, d.2, d.3, ((λ k told b in_b at_word. same k told b in_b at_word d.0 (get_or s.words i 0) d.4.0), d.4.1))
    where
      same : (k : Setup) → me.0.setup ≡ Some k → (b : ℕ) → b < RECORDS * k.workers → i ≡ state_place (layout_of k) b → (w : View) (n : ℕ)
          → Stands a (step slots i 0 0 none) me.0 n w → Stands b (step slots i 0 0 none) me.0 n w
      same k told b in_b at_word w n h = let k_is : k ≡ j = the_some (sym told ∙ setup) in
          subst (λ (z : ℕ). Stands z (step slots i 0 0 none) me.0 n w)
          (place_one (layout_of j) a b in_a (subst (λ (z : Setup). b < RECORDS * z.workers) k_is in_b)
          (sym i_is ∙ (at_word ∙ ap (λ (z : Setup). state_place (layout_of z) b) k_is))) h

  -- the act of the running body is the one that it is left with first
  did_next : (w : View) (n : ℕ) (e : Execution) (rest : List Execution) (d : Acts.Act) (k : ℕ → Code (machine_of j.program))
      → me.0.tasks.running ≡ e ∷ rest → left (machine_of j.program) (task_in j e) ≡ Do d k → w ≡ does_one me.0 d n e rest
      → DidNext me.0 n w
  did_next w n e rest d k runs next w_is i told o others too b l next_too =
      w_is ∙ subst (λ (z : Setup). (x : ℕ → Code (machine_of z.program)) → left (machine_of z.program) (task_in z o) ≡ Do b x
      → does_one me.0 d n e rest ≡ does_one me.0 b n o others) (the_some (sym setup ∙ told)) same l next_too
    where
      first : {x y : Execution} → {xs ys : List Execution} → x ∷ xs ≡ y ∷ ys → x ≡ y
      first e = cc

      later : {x y : Execution} → {xs ys : List Execution} → x ∷ xs ≡ y ∷ ys → xs ≡ ys
      later e = cc

      act_is : {x y : Acts.Act} → {f g : ℕ → Code (machine_of j.program)} → Do x f ≡ Do y g → x ≡ y
      act_is e = cc

      same : (x : ℕ → Code (machine_of j.program)) → left (machine_of j.program) (task_in j o) ≡ Do b x
          → does_one me.0 d n e rest ≡ does_one me.0 b n o others
      same x at_o = let one = first (sym runs ∙ too) in let more = later (sym runs ∙ too) in
          let act : d ≡ b = act_is (sym next ∙ (ap (λ (z : Execution). left (machine_of j.program) (task_in j z)) one ∙ at_o)) in λ i.
          does_one me.0 (act i) n (one i) (more i)

  module _ (e : Execution) (rest : List Execution) (d : Acts.Act) (k : ℕ → Code (machine_of j.program)) (i : ℕ)
      (runs : me.0.tasks.running ≡ e ∷ rest) (next : left (machine_of j.program) (task_in j e) ≡ Do d k)
      (in_e : place_of j.program.families d < (layout_of j).elements)
      (i_is : i ≡ place (layout_of j) (element_word (place_of j.program.families d))) where
    pub does_load : d.deed ≡ Acts.Load → Allows (Holds opening) slots id me i (λ n. n) (Tells DoesNext (step slots i 0 0 none) me)
    does_load deed s h out at word =
        let r = does opening slots id me j e rest d k i 0 0 setup live runs next in_e i_is s h out at word in (
          r.0,
          r.1,
          r.2,
          subst (λ (z : Acts.Deed). Holds opening
              (stepped s i (effect z (slice_index s.words i)) id me.1 r.0 r.1)) deed r.3,
          (did_next r.0 (slice_index s.words i) e rest d k runs next r.4.0, r.4.1),
        )

    pub does_store : (n : ℕ) → d.deed ≡ Acts.Store n → Allows (Holds opening) slots id me i (λ _. n)
        (λ _. Tells DoesNext (step slots i n 0 none) me n)
    does_store n deed s h out at word =
        let r = does opening slots id me j e rest d k i n 0 setup live runs next in_e i_is s h out at word in (
          r.0,
          r.1,
          r.2,
          subst (λ (z : Acts.Deed). Holds opening
              (stepped s i (effect z (slice_index s.words i)) id me.1 r.0 r.1)) deed r.3,
          (did_next r.0 n e rest d k runs next (r.4.0 ∙ same_heard (slice_index s.words i)), r.4.1),
        )
      where
        silent : (x : ℕ) → heard d x ≡ []
        silent x = ap (λ (z : Acts.Deed). cond (is_load z) (x ∷ []) []) deed

        same_heard : (x : ℕ) → does_one me.0 d x e rest ≡ does_one me.0 d n e rest
        same_heard x = ap (λ (z : List ℕ). record me.0 {
          tasks = record me.0.tasks
              { running = record e { answers = e.answers ++ z; done = suc e.done } ∷ rest };
        }) (silent x ∙ sym (silent n))

    pub does_fold : (n : ℕ) (op : Op) → d.deed ≡ Acts.Fold op n
        → Allows (Holds opening) slots id me i (λ x. fold_of op x n) (Tells DoesNext (step slots i n 0 none) me)
    does_fold n op deed s h out at word =
        let r = does opening slots id me j e rest d k i n 0 setup live runs next in_e i_is s h out at word in (
          r.0,
          r.1,
          r.2,
          subst (λ (z : Acts.Deed). Holds opening
              (stepped s i (effect z (slice_index s.words i)) id me.1 r.0 r.1)) deed r.3,
          (did_next r.0 (slice_index s.words i) e rest d k runs next r.4.0, r.4.1),
        )

  pub stop_told : (i : ℕ) → i ≡ place (layout_of j) stop_at → Allows (Holds opening) slots id me i (λ n. n)
      (Tells LoadsStop (step slots i 0 0 none) me)
  stop_told i i_is = loads_stop opening slots id me j i setup live i_is
