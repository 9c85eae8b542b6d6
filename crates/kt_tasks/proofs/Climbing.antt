-- The loads on the way from a task in hand up to main, as the table asks for them. A task in hand lives, and so do all
-- above it.
use Rattle.std.proofs.Common.{◌≡◌, ◌≢◌, ℕ, zero, suc, ◌*◌, ◌<◌, ◌≤◌, false, List, [], ◌∷◌, ◌++◌, append-nil, length, set, get_or, slice_index, sym, refl, ap, ◌∙◌, subst, inl, inr, arith, ⊎_elim, length-append, Some}
use mathlib.Core.Option.{none, some, some-injective}
use lib.ListN.{get_elem?}
use Rattle.atomic_table.specs.Table.{State, Me, stepped, keeps, step, Allows}
use Rattle.kt_law.specs.declared.limits.TheConstants.{DEPTH, WORKERS}
use Rattle.kt_law.specs.declared.stands.Stand.{Stand}
use Rattle.kt_law.specs.declared.stands.Stand.TheVariants as S
use Rattle.kt_order.specs.Paths.{shift, IsThere}
use Rattle.kt_prog.specs.Calls.{CallTree}
use Rattle.kt_prog.specs.Fits.{Fits, is_main, is_call}
use Rattle.kt_prog.specs.declared.programs.Program.{Program}
use Rattle.kt_runs.specs.ByPath.{Path, child, levels}
use Rattle.kt_words.specs.Places.{place, record_word}
use Rattle.kt_words.specs.declared.layouts.TheConstants.{RECORDS, FIELDS}
use Rattle.kt_words.specs.declared.layouts.Layout.{Layout}
use Rattle.kt_words.proofs.PlaceLaws.{places_differ}
use Rattle.kt_rule.specs.declared.views.Setup.{Setup}
use Rattle.kt_rule.specs.declared.views.Berth.{Berth}
use Rattle.kt_rule.specs.declared.views.Spot.{Spot}
use Rattle.kt_rule.specs.declared.views.View.{View}
use Rattle.kt_rule.specs.Lists.{In}
use Rattle.kt_rule.specs.Lies.{Lie, Lies, stand_of, is_gone, counts_of}
use Rattle.kt_rule.specs.Records.{layout_of, word_at, elements}
use Rattle.kt_rule.specs.Facts.{IsPublished}
use Rattle.kt_rule.specs.Rule.{Slots, Facts, Holds}
use Rattle.kt_rule.specs.Steps.{Tells, state_place, state_word, IsState}
use Rattle.kt_rule.proofs.Cores.{last_of}
use Rattle.kt_rule.proofs.Moves.{learned}
use Rattle.kt_rule.proofs.Sums.{in_cons}
use Rattle.kt_rule.proofs.Words.{never_empty, says_state, says_field}
use Rattle.kt_steps.proofs.Steps.{inside, same_state, set_word, holds_so}
use Rattle.kt_steps.proofs.Telling.{the_some}
use Rattle.kt_tasks.specs.Climbs.{IsReached, IsForkOf, climbed, Climbed, ShowsReached, Climbs}
use Rattle.kt_tasks.specs.Hands.{IsInHand}
use Rattle.kt_tasks.proofs.Telling.{in_hand, in_hand_fits}

-- PATHS

-- what leads on from a child leads on from its parent
pub further : (p : Path) (k : ℕ) (rest : Path) → child p k ++ rest ≡ p ++ (k ∷ rest)
further [] k rest = refl
further (x ∷ p) k rest = ap (λ (z : Path). x ∷ z) (further p k rest)

call_deep : (p : Program) (call : CallTree) → Fits p call → call.depth ≤ DEPTH
call_deep p call (is_main e) = subst (λ (c : CallTree). c.depth ≤ DEPTH) (sym e) (omega arith)
call_deep p call (is_call t at fits) = fits.deep

-- THE TASKS ABOVE ONE THAT LIVES

module _ (j : Setup) (lies : Lies) (s : State Slots View) (f : Facts j lies s) where
  -- a task lies at each path above
  lies_above : (p rest : Path) (t : Lie) → lies (p ++ rest) ≡ some t → (u : Lie) × (lies p ≡ some u)
  lies_above p [] t is = (t, ap lies (sym (append-nil p)) ∙ is)
  lies_above p (k ∷ rest) t is = let c = lies_above (child p k) rest t (ap lies (further p k rest) ∙ is) in f.core.parents p k c.0 c.1

  -- and it lives
  lives_above : (rest p : Path) (t u : Lie) → lies p ≡ some t → lies (p ++ rest) ≡ some u → is_gone u.stage ≡ false
      → is_gone t.stage ≡ false
  lives_above [] p t u is u_is live = ap (λ (z : Lie). is_gone z.stage)
      (some-injective t u (sym is ∙ (ap lies (sym (append-nil p)) ∙ u_is))) ∙ live
  lives_above (k ∷ rest) p t u is u_is live =
      let u_there : lies (child p k ++ rest) ≡ some u = ap lies (further p k rest) ∙ u_is in
      let x = lies_above (child p k) rest u u_there in
      f.words.above p k x.0 t x.1 is (lives_above rest (child p k) x.0 u x.1 u_there live)

load_holds : (opening : List ℕ) (j : Setup) (lies : Lies) (s : State Slots View) (i id : ℕ) (c : List (ℕ × Slots)) (w : View)
    → Facts j lies record { words = s.words; homes = s.homes; views = set s.views id w }
    → Holds opening (stepped s i (get_or s.words i 0) id c w keeps)
load_holds opening j lies s i id c w f = holds_so opening _ j lies
    (subst (λ (ws : List ℕ). Facts j lies record { words = ws; homes = s.homes; views = set s.views id w }) (sym (set_word s.words i)) f)

module _ (opening : List ℕ) (slots id : ℕ) (me : Me Slots View) (j : Setup) (setup : me.0.setup ≡ Some j) (live : 0 < me.0.parts) where
  abbrev l : Layout
  l = layout_of j

  module _ (s : State Slots View) (lies : Lies) (f : Facts j lies s) (at : get_elem? s.views id ≡ some me.0) where
    -- a task that is reached lies in its record, no longer a path than there may be
    abbrev IsLiving : Spot → Type 0
    IsLiving m = (t : Lie) × (lies m.path ≡ some t) × (is_gone t.stage ≡ false) × (t.berth ≡ m.berth)

    hand_deep : (h : Spot) → IsInHand me.0 h → length h.path ≤ DEPTH
    hand_deep h hand =
        let y = in_hand opening slots id me j setup live s lies f at h hand in
        let deep = call_deep j.program h.berth.call (in_hand_fits opening slots id me j setup live s lies f at h hand) in
        let same : y.0.berth.call.depth ≡ h.berth.call.depth = ap (λ (z : Berth). z.call.depth) y.3 in
        let sound : y.0.berth.call.depth ≡ length h.path = (f.words.sound h.path y.0 y.1).deep in omega arith

    reached : (m : Spot) → IsReached me.0 m → IsLiving m
    reached m (inl hand) = in_hand opening slots id me j setup live s lies f at m hand
    reached m (inr (found, (h, rest, hand, on))) =
        let t = (f.fits id me.0 at).line m found in
        let y = in_hand opening slots id me j setup live s lies f at h hand in
        (t.0, t.1, lives_above j lies s f rest m.path t.0 y.0 t.1 (ap lies on ∙ y.1) y.2, t.2)

    reached_deep : (m : Spot) → IsReached me.0 m → length m.path ≤ DEPTH
    reached_deep m (inl hand) = hand_deep m hand
    reached_deep m (inr (found, (h, rest, hand, on))) =
        let deep = hand_deep h hand in let a = length-append m.path rest in
        let b : length (m.path ++ rest) ≡ length h.path = ap length on in omega arith

    -- two that are reached at one place are one
    one_reached : (m o : Spot) (g : ℕ) → g < FIELDS → IsReached me.0 m → IsReached me.0 o
        → place l (record_word m.berth.at g) ≡ place l (record_word o.berth.at g) → m ≡ o
    one_reached m o g less m_there o_there e =
        let x = reached m m_there in let y = reached o o_there in
        let x_at = ap (λ (z : Berth). z.at) x.3 in let y_at = ap (λ (z : Berth). z.at) y.3 in
        let in_x = f.words.inside m.path x.0 x.1 in let in_y = f.words.inside o.path y.0 y.1 in
        let at_one : record_word m.berth.at g ≡ record_word o.berth.at g = places_differ l (record_word m.berth.at g)
        (record_word o.berth.at g) (omega arith, less) (omega arith, less) e in
        let one : m.berth.at ≡ o.berth.at = cc in
        let path : m.path ≡ o.path = f.words.alone m.path o.path x.0 y.0 x.1 y.1 x.2 y.2 (omega arith) in
        let berth : m.berth ≡ o.berth = sym x.3 ∙ (ap (λ (z : Lie). z.berth)
        (some-injective x.0 y.0 (sym x.1 ∙ (ap lies path ∙ y.1))) ∙ y.3) in
        λ i. record { berth = berth i; path = path i }

    state_found : (m : Spot) → IsReached me.0 m
        → (b : Stand) × IsState m.berth b × (b ≢ S.Empty) × (word_at l s.words (record_word m.berth.at 0) ≡ state_word m.berth b)
    state_found m there_is = let t = reached m there_is in (
      stand_of t.0.stage,
      subst (λ (z : Berth). IsState z (stand_of t.0.stage)) t.3 (f.words.sound m.path t.0 t.1).state,
      never_empty t.0.stage,
      ap (λ (z : Berth). word_at l s.words (record_word z.at 0)) (sym t.3) ∙
          (says_state l lies s.words f.words m.path t.0 t.1 t.2 ∙ ap (λ (z : Berth). state_word z (stand_of t.0.stage)) t.3),
    )

    parent_word : (m : Spot) → IsReached me.0 m → word_at l s.words (record_word m.berth.at 2) ≡ m.berth.parent
    parent_word m there_is = let t = reached m there_is in
        ap (λ (z : Berth). word_at l s.words (record_word z.at 2)) (sym t.3) ∙
        (says_field l lies s.words f.words m.path t.0 t.1 t.2 2 t.0.berth.parent (omega arith) refl ∙ ap (λ (z : Berth). z.parent) t.3)

    root_parent : (m : Spot) → IsReached me.0 m → m.path ≡ [] → m.berth.parent ≡ 0
    root_parent m there_is top = let t = reached m there_is in let r = f.root in
        let same : t.0 ≡ r.0 = some-injective t.0 r.0 (sym t.1 ∙ (ap lies top ∙ r.1)) in
        ap (λ (z : Berth). z.parent) (sym t.3 ∙ (ap (λ (z : Lie). z.berth) same ∙ r.2))

    -- the parent lies where the record says, and the task is the fork that it says
    parent_of : (m : Spot) → IsReached me.0 m → (q : Path) (k : ℕ) → m.path ≡ child q k
        → (o : Spot) × IsForkOf o m × (m.berth.parent ≡ suc o.berth.at) × IsPublished lies o × (o.berth.at < RECORDS * j.workers)
    parent_of m there_is q k below =
        let t = reached m there_is in
        let t_is : lies (child q k) ≡ some t.0 = ap lies (sym below) ∙ t.1 in
        let u = lies_above j lies s f q (k ∷ []) t.0 t_is in (
          record { berth = u.0.berth; path = q },
          (k, below, ap (λ (z : Berth). z.fork) (sym t.3) ∙ f.words.numbered q k t.0 t_is),
          ap (λ (z : Berth). z.parent) (sym t.3) ∙ f.words.parents q k t.0 u.0 t_is u.1,
          (u.0, u.1, refl),
          f.words.inside q u.0 u.1,
        )

    climbs_now : (o : Spot) → IsPublished lies o
        → Facts j lies record { words = s.words; homes = s.homes; views = set s.views id (climbed me.0 o) }
    climbs_now o is = let fit = f.fits id me.0 at in
        learned j lies s f id me.0 at live (record me.0.seen { line = o ∷ me.0.seen.line }) fit.known fit.notes fit.stop
        (λ m i. ⊎_elim (λ (e : m ≡ o). subst (IsPublished lies) (sym e) is) (λ (h : In m me.0.seen.line). fit.line m h)
        (in_cons m o me.0.seen.line i))

  -- a load of whatever word
  pub looks_up : (i : ℕ) → Allows (Holds opening) slots id me i (λ n. n) (Tells ShowsReached (step slots i 0 0 none) me)
  looks_up i s h out at word = let y = inside opening s j id me.0 h at live setup in (
    me.0,
    keeps,
    tt,
    subst (Holds opening) (sym (same_state s i id me.0 me.1 at)) h,
    (((λ k told o o_there at_word. (found s y.0 y.1 at k told o o_there at_word, reached_deep s y.0 y.1 at o o_there)), refl), refl),
  )
    where
      found : (s : State Slots View) (lies : Lies) (f : Facts j lies s) (at : get_elem? s.views id ≡ some me.0) (k : Setup)
          → me.0.setup ≡ Some k → (o : Spot) → IsReached me.0 o → i ≡ state_place (layout_of k) o.berth.at
          → (b : Stand) × IsState o.berth b × (b ≢ S.Empty) × (slice_index s.words i ≡ state_word o.berth b)
      found s lies f at k told o o_there at_word =
          let x = state_found s lies f at o o_there in (
            x.0,
            x.1,
            x.2,
            ap (slice_index s.words) (at_word ∙ ap (λ (z : Setup). state_place (layout_of z) o.berth.at) (the_some (sym told ∙ setup)))
                ∙ x.3,
          )

  module _ (m : Spot) (i : ℕ) (there_is : IsReached me.0 m) (i_is : i ≡ place l (record_word m.berth.at 2)) where
    climbs_told : (s : State Slots View) (lies : Lies) (f : Facts j lies s) (at : get_elem? s.views id ≡ some me.0) (n : ℕ) (w : View)
        → Climbed me.0 m n w → n ≤ RECORDS * j.workers → Climbs (step slots i 0 0 none) me.0 n w
    climbs_told s lies f at n w told few k k_told o o_there at_word =
        let same : k ≡ j = the_some (sym k_told ∙ setup) in let crew = f.crew in
        let bounds = subst (λ (z : Setup). (n ≤ RECORDS * z.workers) × (z.workers ≤ WORKERS)) (sym same) (few, omega arith) in
        let one : m ≡ o = one_reached s lies f at m o 2 (omega arith) there_is o_there
        (sym i_is ∙ (at_word ∙ ap (λ (z : Setup). place (layout_of z) (record_word o.berth.at 2)) same)) in (
          subst (λ (z : Spot). Climbed me.0 z n w) one told,
          bounds.0,
          bounds.1,
        )

    pub climbs : Allows (Holds opening) slots id me i (λ n. n) (Tells Climbs (step slots i 0 0 none) me)
    climbs s h out at word =
        let y = inside opening s j id me.0 h at live setup in let lies = y.0 in let f = y.1 in
        let n : ℕ = slice_index s.words i in
        let n_is : n ≡ m.berth.parent = ap (slice_index s.words) i_is ∙ parent_word s lies f at m there_is in
        elim (last_of m.path) [
          | inl top ↦ (let none_above = n_is ∙ root_parent s lies f at m there_is top in (
            me.0,
            keeps,
            tt,
            subst (Holds opening) (sym (same_state s i id me.0 me.1 at)) h,
            (climbs_told s lies f at n me.0 (inl (top, none_above, refl)) (omega arith), refl),
          ))
          | inr (q, k, below) ↦ (let o = parent_of s lies f at m there_is q k below in
              let n_at = n_is ∙ o.2 in let less = o.4 in (
                climbed me.0 o.0,
                keeps,
                tt,
                load_holds opening j lies s i id me.1 (climbed me.0 o.0) (climbs_now s lies f at o.0 o.3),
                (climbs_told s lies f at n (climbed me.0 o.0) (inr (o.0, o.1, n_at, refl)) (omega arith), refl),
              ))
        ]
