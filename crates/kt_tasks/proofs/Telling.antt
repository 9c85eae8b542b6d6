-- The kinds of step as these calls tell them.
use Rattle.std.proofs.Common.{◌≡◌, ◌≢◌, ℕ, suc, ◌+◌, ◌*◌, ◌%◌, ◌^◌, ◌<◌, ◌==◌, Bool, true, false, List, [], ◌∷◌, length, set, slice_index, sym, refl, ap, ◌∙◌, subst, inl, inr, arith, MatchBool, eq-eqb, ne_eqb, Some}
use mathlib.Core.Option.{none, some}
use mathlib.Core.Logic.{dite}
use native.Mathlib.Decide.{ℕ_discrete}
use prog.Atomic.{either}
use lib.ListN.{get_elem?}
use Rattle.atomic_table.specs.Table.{State, Me, Act, keeps, stepped, step, Allows}
use Rattle.atomic_table.proofs.Lists.{set_here}
use Rattle.kt_law.specs.declared.stands.Stand.TheVariants as S
use Rattle.kt_order.specs.Body.{Fork}
use Rattle.kt_order.specs.Forest.{Phase, Running, Finished}
use Rattle.kt_order.specs.Machine.{Code}
use Rattle.kt_order.specs.Rest.{left}
use Rattle.kt_order.proofs.ByPaths.{at_path}
use Rattle.kt_prog.specs.Calls.{CallTree, Whole}
use Rattle.kt_prog.specs.Fits.{Fits, FitsJob}
use Rattle.kt_prog.specs.Reference.{Placed, machine_of, main_placed, opened_with}
use Rattle.kt_runs.specs.Rights.{rights_in}
use Rattle.kt_runs.specs.ByPath.{levels}
use Rattle.kt_words.specs.Places.{place, record_word}
use Rattle.kt_words.specs.declared.layouts.TheConstants.{RECORDS, FIELDS}
use Rattle.kt_words.proofs.PlaceLaws.{places_differ}
use Rattle.kt_rule.specs.declared.views.Setup.{Setup}
use Rattle.kt_rule.specs.declared.views.Berth.{Berth}
use Rattle.kt_rule.specs.declared.views.Spot.{Spot}
use Rattle.kt_rule.specs.declared.views.Execution.{Execution}
use Rattle.kt_rule.specs.declared.views.Stored.{Stored}
use Rattle.kt_rule.specs.declared.views.View.{View}
use Rattle.kt_rule.specs.Lists.{In}
use Rattle.kt_rule.specs.Lies.{Lie, Lies, is_gone, core_of}
use Rattle.kt_rule.specs.Records.{layout_of, word_at, elements, drawn_at}
use Rattle.kt_rule.specs.Facts.{task_in}
use Rattle.kt_rule.specs.LoopWords.{loop_words, hand_of, hands_of}
use Rattle.kt_rule.specs.LoopFacts.{Handles}
use Rattle.kt_rule.specs.Rule.{Slots, Facts, Holds}
use Rattle.kt_rule.specs.Steps.{Tells, state_place, state_word, BeforeKnown, won_own, Draws, MaySet, next_of, builds, published, IsBehind, IsBerth, IsBuilt}
use Rattle.kt_rule.proofs.Moves.{at_below}
use Rattle.kt_rule.proofs.Puts.{get_at}
use Rattle.kt_rule.proofs.Words.{says_field}
use Rattle.kt_steps.proofs.Steps.{inside, same_state, runs_live}
use Rattle.kt_steps.proofs.Asides.{builds_one}
use Rattle.kt_steps.proofs.Drawing.{draws}
use Rattle.kt_steps.proofs.LoopSeats.{at_hand}
use Rattle.kt_steps.proofs.Fresh.{publishes}
use Rattle.kt_steps.proofs.Telling.{the_some, claims_own_at, stands_told, starts_given_at}
use Rattle.kt_tasks.specs.Claims.{AreFew, ClaimsOwnFew, StartsFew}
use Rattle.kt_tasks.specs.Fields.{SetsField, PublishesAs}
use Rattle.kt_loops.proofs.OnTheWay.{loops_on}
use Rattle.kt_tasks.specs.Hands.{IsLoopInHand, IsInHand, IsHeld, IsFieldOf, HasFields, LooksHeld}
use Rattle.kt_tasks.specs.Publications.{DrawsNext}
use Rattle.kt_tasks.proofs.Counted.{few_there, counted}
use Rattle.kt_tasks.proofs.Found.{won_is}

-- the view after a step is of a seat with few tasks
few_after : (opening : List ℕ) (j : Setup) (s : State Slots View) (i n id : ℕ) (c : List (ℕ × Slots)) (v w : View) (a : Act Slots)
    → get_elem? s.views id ≡ some v → Holds opening (stepped s i n id c w a) → 0 < w.parts → w.setup ≡ Some j → AreFew w
few_after opening j s i n id c v w a at h live setup =
    let now : get_elem? (set s.views id w) id ≡ some w = set_here s.views id w (at_below s.views id v at) in
    let y = inside opening (stepped s i n id c w a) j id w h now live setup in few_there j y.0 (stepped s i n id c w a) y.1 id w now

-- where an exchange finds another word, it changes nothing
untouched : (n old new : ℕ) → n ≢ old → n ≡ either (n == old) new n
untouched n old new miss = sym (ap (λ (b : Bool). either b new n) (ne_eqb n old miss))

-- what is told of a claim that was won, and of one that was lost: then the exchange was a look
won_told : (b : Bool) (A B C : Type 0) → b ≡ true → MatchBool b A B → MatchBool b A C
won_told true A B C e h = h
won_told false A B C e h = absurd (cc e)

looked_told : (b : Bool) (W V B C X : Type 0) → b ≡ false → MatchBool b W (B × X) → C → MatchBool b V (B × C)
looked_told true W V B C X e h look = absurd (cc e)
looked_told false W V B C X e h look = (h.0, look)

running_not : {x : Phase} → x ≡ Running → x ≢ Finished
running_not e d = let z : Running ≡ Finished = sym e ∙ d in cc

module _ (opening : List ℕ) (slots id : ℕ) (me : Me Slots View) (j : Setup) (setup : me.0.setup ≡ Some j) (live : 0 < me.0.parts) where
  pub claims_own_few : (m : Spot) (a i old new : ℕ) → get_elem? me.0.region.spots a ≡ some m → BeforeKnown me.0 m.path
      → m.berth.at < RECORDS * j.workers
      → i ≡ state_place (layout_of j) m.berth.at → old ≡ state_word m.berth S.Unclaimed → new ≡ state_word m.berth (S.Running me.0.worker)
      → Allows (Holds opening) slots id me i (λ n. either (n == old) new n) (Tells ClaimsOwnFew (step slots i old new none) me)
  claims_own_few m a i old new at_a before in_a i_is old_is new_is s h out at word =
      let n : ℕ = slice_index s.words i in
      let d = claims_own_at opening slots id me j setup live m a i old new at_a before i_is old_is new_is s h out at word in
      let look = stands_told opening slots id me j setup live m.berth.at i in_a i_is s h out at word in
      dite (ℕ_discrete n old)
      (λ hit.
      let same = won_is n old (d.0 ≡ won_own me.0 m) _ hit (d.4.0 m (j, setup, (a, at_a), i_is)) in
      let parts = ap (λ (z : View). z.parts) same in (
        d.0,
        d.1,
        d.2,
        d.3,
        (
          (
            (λ o here. won_told (n == old) _ _ _ (eq-eqb n old hit) (d.4.0 o here)),
            few_after opening j s i _ id me.1 me.0 d.0 d.1 at d.3 (omega arith) (ap (λ (z : View). z.setup) same ∙ setup),
          ),
          d.4.1,
        ),
      ))
      (λ miss.
      let same = (look.4.0 j setup m.berth.at in_a i_is).1 in let parts = ap (λ (z : View). z.parts) same in
      let holds = subst (λ (k : ℕ). Holds opening (stepped s i k id me.1 look.0 look.1)) (untouched n old new miss) look.3 in (
        look.0,
        look.1,
        look.2,
        holds,
        (
          (
            (λ o here. looked_told (n == old) _ _ _ _ _ (ne_eqb n old miss) (d.4.0 o here) look.4.0),
            few_after opening j s i _ id me.1 me.0 look.0 look.1 at holds (omega arith) (ap (λ (z : View). z.setup) same ∙ setup),
          ),
          look.4.1,
        ),
      ))

  pub starts_few : (m : Spot) (rest : List Spot) (i new : ℕ) → me.0.tasks.given ≡ m ∷ rest
      → i ≡ state_place (layout_of j) m.berth.at → new ≡ state_word m.berth (S.Running me.0.worker)
      → Allows (Holds opening) slots id me i (λ _. new) (λ _. Tells StartsFew (step slots i new 0 none) me new)
  starts_few m rest i new given i_is new_is s h out at word =
      let d = starts_given_at opening slots id me j setup live m rest i new given i_is new_is s h out at word in
      let is = d.4.0 m rest given in let parts = ap (λ (z : View). z.parts) is in (
        d.0,
        d.1,
        d.2,
        d.3,
        ((d.4.0, few_after opening j s i _ id me.1 me.0 d.0 d.1 at d.3 (omega arith) (ap (λ (z : View). z.setup) is ∙ setup)), d.4.1),
      )

  pub draws_next : (e : Execution) (rest : List Execution) (c : Placed) (code : Code (machine_of j.program)) (call : CallTree) (i : ℕ)
      → me.0.tasks.running ≡ e ∷ rest → left (machine_of j.program) (task_in j e) ≡ Fork c code → c.job ≡ Whole call
      → me.0.draws.hands ≡ [] → me.0.draws.over ≡ 0 → i ≡ place (layout_of j) drawn_at
      → Allows (Holds opening) slots id me i (λ n. (n + 1) % 2 ^ 64) (Tells DrawsNext (step slots i 1 0 none) me)
  draws_next e rest c code call i runs next call_is no_hands none_over i_is s h out at word =
      let d = draws opening slots id me j e rest c code i setup live runs next call call_is no_hands none_over i_is s h out at word in
      let y = inside opening s j id me.0 h at live setup in (
        d.0,
        d.1,
        d.2,
        d.3,
        (
          (
            (λ o others too. subst (λ (z : Execution). Draws z (step slots i 1 0 none) me.0 (slice_index s.words i) d.0)
                (first (sym runs ∙ too)) d.4.0),
            counted j y.0 s y.1 id me.0 at live (slice_index s.words i) (ap (slice_index s.words) i_is) setup,
          ),
          d.4.1,
        ),
      )
    where
      first : {x y : Execution} → {xs ys : List Execution} → x ∷ xs ≡ y ∷ ys → x ≡ y
      first e = cc

  pub sets_field : (g n i : ℕ) → length me.0.region.spots < RECORDS → 0 < g → g < FIELDS → MaySet (layout_of j) g n
      → ((b : Stored) → In b me.0.region.built → b.field ≢ g) → i ≡ place (layout_of j) (record_word (next_of me.0) g)
      → Allows (Holds opening) slots id me i (λ _. n) (λ x. Tells SetsField (step slots i n 0 none) me x)
  sets_field g n i room pos big may new i_is s h out at word =
      let d = builds_one opening slots id me j g n i setup live room pos big may new i_is s h out at word in
      let y = inside opening s j id me.0 h at live setup in
      let own = (y.1.fits id me.0 at).own live in let seat = at_below s.views id me.0 at in let few = y.1.counts.few in
      let inside_it : next_of me.0 < RECORDS * j.workers = omega arith in
      (d.0, d.1, d.2, d.3, ((λ k told f less at_word. d.4.0 ∙ ap (λ (z : ℕ). builds me.0 z n) (same inside_it k told f less at_word)), d.4.1))
    where
      same : next_of me.0 < RECORDS * j.workers → (k : Setup) → me.0.setup ≡ Some k → (f : ℕ) → f < FIELDS
          → i ≡ place (layout_of k) (record_word (next_of me.0) f) → g ≡ f
      same inside_it k told f less at_word =
          let one : record_word (next_of me.0) g ≡ record_word (next_of me.0) f = places_differ (layout_of j)
          (record_word (next_of me.0) g) (record_word (next_of me.0) f) (inside_it, big) (inside_it, less)
          (sym i_is ∙ (at_word ∙ ap (λ (z : Setup). place (layout_of z) (record_word (next_of me.0) f)) (the_some (sym told ∙ setup)))) in
          let r : g ≡ f = cc in r

  pub publishes_as : (e : Execution) (rest : List Execution) (c : Placed) (code : Code (machine_of j.program)) (b named : Berth) (i new : ℕ)
      → named ≡ b → me.0.tasks.running ≡ e ∷ rest → left (machine_of j.program) (task_in j e) ≡ Fork c code → c.job ≡ Whole b.call
      → b.at ≡ next_of me.0 → b.frame ≡ e.frame → e.frame ≡ me.0.tasks.begun → b.fork ≡ suc e.forks → b.parent ≡ suc e.spot.berth.at
      → IsBerth b → IsBuilt me.0.region.built b → length me.0.region.spots < RECORDS → IsBehind me.0 e
      → me.0.draws.hands ≡ e.spot.path ∷ [] → me.0.draws.over ≡ 0 → i ≡ state_place (layout_of j) b.at → new ≡ state_word b S.Unclaimed
      → Allows (Holds opening) slots id me i (λ _. new) (λ _. Tells (PublishesAs named) (step slots i new 0 none) me new)
  publishes_as e rest c code b named i new named_is runs next call_is at_is frame_is topmost fork_is parent_is fits_b built room behind draws_is within
      i_is new_is s h out at word =
      let d = publishes opening slots id me j e rest c code b i new setup live runs next call_is at_is frame_is topmost fork_is parent_is
      fits_b built room behind draws_is within i_is new_is s h out at word in
      (d.0, d.1, d.2, d.3, ((λ o others too. d.4.0 ∙ (both (sym runs ∙ too) ∙ ap (published me.0 o others) (sym named_is))), d.4.1))
    where
      both : {y : Execution} → {ys : List Execution} → e ∷ rest ≡ y ∷ ys → published me.0 e rest b ≡ published me.0 y ys b
      both {y} {ys} d = let x : e ≡ y = cc in let xs : rest ≡ ys = cc in λ k. published me.0 (x k) (xs k) b

  module _ (s : State Slots View) (lies : Lies) (f : Facts j lies s) (at : get_elem? s.views id ≡ some me.0) where
    hands : Handles j.workers lies f.looped.owner (loop_words (layout_of j) s.words) (hands_of s.views) id (hand_of me.0)
    hands = f.looped.handles id (hand_of me.0) (at_hand s.views id me.0 at)

    -- a loop of which the seat has positions lives: some of its indexes are not finished
    loop_in_hand : (m : Spot) → IsLoopInHand me.0 m → (t : Lie) × (lies m.path ≡ some t) × (is_gone t.stage ≡ false) × (t.berth ≡ m.berth)
    loop_in_hand m (inl (x, is, x_is)) = let h = hands.pieces x is in (
      h.task,
      ap (λ (z : Spot). lies z.path) (sym x_is) ∙ h.is,
      h.live,
      h.berth ∙ ap (λ (z : Spot). z.berth) x_is,
    )
    loop_in_hand m (inr (e, is, e_is)) = let h = hands.taken e is in (
      h.task,
      ap (λ (z : Spot). lies z.path) (sym e_is) ∙ h.is,
      ap is_gone (loops_on j lies s f e.spot.path h.task h.is e.index h.index h.at (running_not h.phase_is)).1,
      h.berth ∙ ap (λ (z : Spot). z.berth) e_is,
    )

    -- a task in hand lies in its record
    pub in_hand : (m : Spot) → IsInHand me.0 m → (t : Lie) × (lies m.path ≡ some t) × (is_gone t.stage ≡ false) × (t.berth ≡ m.berth)
    in_hand m (inl given) = let g = (f.fits id me.0 at).given m given in (g.0, g.1, ap is_gone g.3.1, g.2)
    in_hand m (inr (inl (e, runs, e_is))) = let g = (f.fits id me.0 at).running e runs in (
      g.0,
      ap (λ (z : Spot). lies z.path) (sym e_is) ∙ g.1,
      ap is_gone g.3.1 ∙ runs_live e.looping g.3.0,
      g.2.berth ∙ ap (λ (z : Spot). z.berth) e_is,
    )
    in_hand m (inr (inr loop)) = loop_in_hand m loop

    pub in_hand_fits : (m : Spot) → IsInHand me.0 m → Fits j.program m.berth.call
    in_hand_fits m hand = let y = in_hand m hand in subst (λ (z : Berth). Fits j.program z.call) y.3
        (at_path (machine_of j.program) levels (rights_in j.program) f.laws main_placed (opened_with j.program.families j.input)
        (Fits j.program y.0.berth.call) m.path (core_of j lies (elements (layout_of j) s.words)) (f.core.there m.path y.0 y.1)
        f.core.lawful (λ kids ok. subst (λ z. FitsJob j.program z.call.job) (get_at j lies m.path y.0 y.1) ok.fits))

    field_found : (a field n : ℕ) → field < FIELDS → n ≡ word_at (layout_of j) s.words (record_word a field) → (m : Spot) → IsHeld me.0 a m
        → IsFieldOf m.berth field n
    field_found a field n less n_is m (hand, lies_at) = let y = in_hand m hand in record {
      task = y.0;
      berth = y.3;
      says = λ x said. n_is ∙ (ap (λ (z : ℕ). word_at (layout_of j) s.words (record_word z field))
          (sym lies_at ∙ ap (λ (z : Berth). z.at) (sym y.3))
          ∙ says_field (layout_of j) lies s.words f.words m.path y.0 y.1 y.2 field x less said);
      head = (f.words.sound m.path y.0 y.1).head;
      accesses = λ k b e. (f.words.sound m.path y.0 y.1).accesses k b (ap (λ (z : Berth). get_elem? z.call.accesses k) y.3 ∙ e);
    }

    fields_found : (i : ℕ) (k : Setup) → me.0.setup ≡ Some k → (a field : ℕ) → field < FIELDS
        → i ≡ place (layout_of k) (record_word a field) → HasFields me.0 a field (slice_index s.words i)
    fields_found i k told a field less at_word = let same : k ≡ j = the_some (sym told ∙ setup) in record {
      says = field_found a field (slice_index s.words i) less
          (ap (slice_index s.words) (at_word ∙ ap (λ (z : Setup). place (layout_of z) (record_word a field)) same));
      fits = λ m hand l l_told. subst (λ (z : Setup). Fits z.program m.berth.call) (the_some (sym setup ∙ l_told)) (in_hand_fits m hand);
    }

  -- a load of whatever word
  pub looks_held : (i : ℕ) → Allows (Holds opening) slots id me i (λ n. n) (Tells LooksHeld (step slots i 0 0 none) me)
  looks_held i s h out at word = let y = inside opening s j id me.0 h at live setup in (
    me.0,
    keeps,
    tt,
    subst (Holds opening) (sym (same_state s i id me.0 me.1 at)) h,
    (((λ k told a field in_a less at_word. fields_found s y.0 y.1 at i k told a field less at_word), refl), refl),
  )
