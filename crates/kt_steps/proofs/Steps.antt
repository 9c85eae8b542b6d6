-- Steps on a task that is there: a claim, a start, an operation on an element, a finish. Each turns one task and one
-- word, and ends in `turned`.
use Rattle.std.proofs.Common.{true, ◌≡◌, ◌≢◌, ℕ, zero, suc, ◌+◌, ◌*◌, ◌<◌, ◌≤◌, ◌⊎◌, eqb, Bool, false, cond, List, [], ◌∷◌, ◌++◌, append-nil, set, map, take, get_or, length, slice_index, sym, refl, ap, ◌∙◌, subst, inl, inr, arith, ⊎_elim, MatchBool, eq-eqb, ne_eqb, length-set, length-append, Option, Some, None}
use mathlib.Core.Option.{some, some-injective, some-ne-none}
use prog.Atomic.{either}
use lib.ListN.{get_elem?}
use Rattle.atomic_table.specs.Table.{State, stepped, keeps}
use Rattle.atomic_table.proofs.Lists.{set_again}
use Rattle.kt_law.specs.Acts.{Act, Deed, Load, Store, Fold}
use Rattle.kt_law.specs.Accesses.{clash_between}
use Rattle.kt_law.specs.declared.accesses.Access.{Access}
use Rattle.kt_law.specs.declared.stands.Stand.{Stand}
use Rattle.kt_law.specs.declared.stands.Stand.TheVariants as S
use Rattle.kt_order.specs.Body.{Do, Fork, Stop}
use Rattle.kt_order.specs.Machine.{Machine, Code}
use Rattle.kt_order.specs.Forest.{Phase, Task, Unclaimed, Running, Ended, Finished}
use Rattle.kt_order.specs.Rest.{standing, left_of, left}
use Rattle.kt_order.specs.Stand.{Standing, stand}
use Rattle.kt_order.specs.Lawful.{PhaseOk}
use Rattle.kt_order.specs.Events as events
use Rattle.kt_order.specs.Events.{in_phase, did, ended, MayPass}
use Rattle.kt_order.specs.Paths.{same_path, Earlier}
use Rattle.kt_order.proofs.ByPaths.{at_path}
use Rattle.kt_order.proofs.Bounds.{IsStop, bounded}
use Rattle.kt_order.proofs.PathThere.{there_child, child_there, earlier_by}
use Rattle.kt_prog.specs.Script.{Fault}
use Rattle.kt_prog.specs.Fits as program
use Rattle.kt_rights.specs.Acts.{is_load, effect, found}
use Rattle.kt_prog.specs.Store.{place_of}
use Rattle.kt_prog.specs.Reference.{Placed, machine_of, main_placed, opened_with}
use Rattle.kt_runs.specs.Rights.{rights_in}
use Rattle.kt_runs.specs.Theorems.{whole_at}
use Rattle.kt_runs.proofs.Clashes.{apart_is_no_clash}
use Rattle.kt_runs.specs.ByPath.{Path, child, levels}
use Rattle.kt_words.specs.Places.{Place, place, IsWithin, record_word, element_word}
use Rattle.kt_words.specs.Words.{packed_state, IsStateWord, IsBlankIfEmpty, worker_number}
use Rattle.kt_words.specs.declared.layouts.TheConstants.{RECORDS, FIELDS}
use Rattle.kt_words.specs.declared.layouts.Layout.{Layout}
use Rattle.kt_rule.specs.declared.views.Setup.{Setup}
use Rattle.kt_rule.specs.declared.views.Berth.{Berth}
use Rattle.kt_rule.specs.declared.views.Spot.{Spot}
use Rattle.kt_rule.specs.declared.views.Execution.{Execution}
use Rattle.kt_rule.specs.declared.views.Promise.{Promise}
use Rattle.kt_rule.specs.declared.views.Note.{Note}
use Rattle.kt_rule.specs.declared.views.Region.{Region}
use Rattle.kt_rule.specs.declared.views.Tasks.{Tasks}
use Rattle.kt_rule.specs.declared.views.View.{View}
use Rattle.kt_rule.specs.Paths.{put}
use Rattle.kt_rule.specs.Lists.{weigh, times, one_if, In, here, there}
use Rattle.kt_rule.specs.Weights.{next_weight, forks_ahead, is_task, is_index}
use Rattle.kt_rule.specs.Lies.{Stage, Waits, Promised, Posted, Given, Runs, Loops, Done, Gone, IndexLie, Lie, Lies, phase_of, stand_of, is_gone, task_of, get_of, core_of, counts_of, forks_of, Cored}
use Rattle.kt_rule.specs.Records.{layout_of, word_at, elements, state_of, later_field, fork_in, frame_in}
use Rattle.kt_rule.specs.Views.{spot_path, path_of, promise_path, claimed_in, promised_in, given_in, begun_in, indexes_of, frames, roots, children, blank_view}
use Rattle.kt_rule.specs.Facts.{is_claimed, is_promised, is_given, is_begun, tally, Sound, Words, task_in, Agrees, runs_as, IsUnderWay, IsOver, IsGiven, Falls, Owns, Fits, waiting, waiting_indexes}
use Rattle.kt_rule.specs.Requests.{IsPromised}
use Rattle.kt_rule.specs.LoopFacts.{is_early}
use Rattle.kt_rule.specs.Rule.{Slots, Facts, Holds}
use Rattle.kt_rule.specs.Steps.{begun_by, with_begun, won_own, won_for, BeforeKnown, IsReady, starts_own, starts, over, ends, heard, did_one, does_one}
use Rattle.kt_rule.proofs.Puts.{put_here, put_else, get_at, parent_is}
use Rattle.kt_rule.proofs.Shelf as shelf
use Rattle.kt_rule.proofs.Shelf.{elements_else, elements_set, elements_at}
use Rattle.kt_rule.proofs.Sums as sums
use Rattle.kt_rule.proofs.Sums.{weigh_append, in_cons, times_snoc, not_among, among, one_self, adds, drops, tally_own, tally_alone}
use Rattle.kt_rule.proofs.Cores as cores
use Rattle.kt_rule.proofs.Cores.{last_of, child_one, task_there}
use Rattle.kt_rule.proofs.Words.{Turn, IsPlain, says_state, floors}
use Rattle.kt_rule.proofs.Moves.{with_tasks, turned}

pub set_word : (ws : List ℕ) (i : ℕ) → set ws i (get_or ws i 0) ≡ ws
set_word [] i = refl
set_word (x ∷ ws) zero = refl
set_word (x ∷ ws) (suc i) = λ k. x ∷ set_word ws i k

-- a step that changes neither a word nor a view
pub same_state : (s : State Slots View) (i id : ℕ) (v : View) (c : List (ℕ × Slots)) → get_elem? s.views id ≡ some v
    → stepped s i (get_or s.words i 0) id c v keeps ≡ s
same_state s i id v c at = λ k. record { words = set_word s.words i k; homes = s.homes; views = set_again s.views id v at k }

-- a seat that was told the setup has the facts
pub only_blank : (id : ℕ) (v : View) → get_elem? (blank_view ∷ []) id ≡ some v → v ≡ blank_view
only_blank zero v e = sym (some-injective blank_view v e)
only_blank (suc id) v e = absurd (some-ne-none v (sym e))

the_some : {X : Type 0} → {x y : X} → Some x ≡ Some y → x ≡ y
the_some h = cc

pub inside : (opening : List ℕ) (s : State Slots View) (j : Setup) (id : ℕ) (v : View) → Holds opening s → get_elem? s.views id ≡ some v
    → 0 < v.parts → v.setup ≡ Some j → (lies : Lies) × Facts j lies s
unfolding Holds
inside opening s j id v (inl (ws, vs)) at live told = let b = only_blank id v
    (subst (λ (z : List View). get_elem? z id ≡ some v) vs at) in
    let e : None ≡ Some j = sym (ap (λ (z : View). z.setup) b) ∙ told in absurd (cc e)
inside opening s j id v (inr (i, (lies, f))) at live told = let e : i ≡ j = the_some (sym ((f.fits id v at).setup live) ∙ told) in
    (lies, subst (λ (z : Setup). Facts z lies s) e f)

pub holds_so : (opening : List ℕ) (s : State Slots View) (j : Setup) (lies : Lies) → Facts j lies s → Holds opening s
unfolding Holds
holds_so opening s j lies f = inr (j, (lies, f))

-- facts of a state, at other numbers and another view that are the same
pub holds_at : (opening : List ℕ) (j : Setup) (lies : Lies) (s : State Slots View) (id i i' new new' : ℕ) (w w' : View) → i ≡ i'
    → new ≡ new' → w ≡ w' → Facts j lies record { words = set s.words i new; homes = s.homes; views = set s.views id w }
    → Holds opening record { words = set s.words i' new'; homes = s.homes; views = set s.views id w' }
holds_at opening j lies s id i i' new new' w w' a b c f = holds_so opening _ j lies
    (subst (λ (z : ℕ × ℕ × View). Facts j lies record { words = set s.words z.0 z.1; homes = s.homes; views = set s.views id z.2 })
    (λ k. (a k, b k, c k)) f)

-- the two ends of a compare-exchange
module _ (opening : List ℕ) (s : State Slots View) (i old new id : ℕ) (c : List (ℕ × Slots)) where
  abbrev word : ℕ
  word = get_or s.words i 0

  abbrev Done_with : View → Type 0
  Done_with w = Holds opening (stepped s i (either (eqb word old) new word) id c w keeps)

  pub won : (w : View) → word ≡ old → Holds opening record { words = set s.words i new; homes = s.homes; views = set s.views id w }
      → Done_with w
  won w hit h = subst (λ b. Holds opening (stepped s i (either b new word) id c w keeps)) (sym (eq-eqb word old hit)) h

  pub lost : (w : View) → word ≢ old → Holds opening record { words = s.words; homes = s.homes; views = set s.views id w } → Done_with w
  lost w miss h = subst (λ b. Holds opening (stepped s i (either b new word) id c w keeps)) (sym (ne_eqb word old miss))
      (subst (λ (ws : List ℕ). Holds opening record { words = ws; homes = s.homes; views = set s.views id w })
      (sym (set_word s.words i)) h)

  pub told_won : (P Q : Type 0) → word ≡ old → P → MatchBool (eqb word old) P Q
  told_won P Q hit p = subst (λ b. MatchBool b P Q) (sym (eq-eqb word old hit)) p

  pub told_lost : (P Q : Type 0) → word ≢ old → Q → MatchBool (eqb word old) P Q
  told_lost P Q miss q = subst (λ b. MatchBool b P Q) (sym (ne_eqb word old miss)) q

-- TURNS OF A WORD

module _ (l : Layout) (lies : Lies) (ws : List ℕ) (p : Path) (t u : Lie) (wd : Words l lies ws) (is : lies p ≡ some t)
    (live : is_gone t.stage ≡ false) (still : is_gone u.stage ≡ false)
    (berth : u.berth ≡ t.berth) (ends : phase_of t.stage ≡ Finished → phase_of u.stage ≡ Finished) (fields : (f : ℕ)
    → later_field u f ≡ later_field t f) (sound : Sound p u) where
  within : (a f : ℕ) → a < RECORDS * l.workers → f < FIELDS → IsWithin l (record_word a f)
  within a f less big = (less, big)

  no_record : (q : Place) (a f : ℕ) → IsPlain q → q ≢ record_word a f
  no_record q a f plain e = let x : ⊥ = subst IsPlain e plain in x

  no_element : (q : Place) (n : ℕ) → IsPlain q → q ≢ element_word n
  no_element q n plain e = let x : ⊥ = subst IsPlain e plain in x

  -- the turn of a state word
  pub turn_state : Turn l lies ws p t u (set ws (place l (record_word t.berth.at 0)) (packed_state (state_of u)))
  turn_state =
      let q = record_word t.berth.at 0 in let n = packed_state (state_of u) in
      let in_q : IsWithin l q = within t.berth.at 0 (wd.inside p t is) (omega arith) in record {
        is = is;
        live = live;
        still = still;
        berth = berth;
        ends = ends;
        fields = fields;
        sound = sound;
        long = length-set ws (place l q) n;
        state = shelf.here l ws q n in_q wd.wide;
        apart = λ a less other. shelf.else l ws q (record_word a 0) n in_q (within a 0 less (omega arith))
            (λ e. let z : a ≡ t.berth.at = cc in other z);
        later = λ a f less big. shelf.else l ws q (record_word a (suc f)) n in_q (within a (suc f) less big)
            (λ e. let z : suc f ≡ 0 = cc in absurd (omega arith));
        quiet = λ r plain in_r. shelf.else l ws q r n in_q in_r (no_record r t.berth.at 0 plain);
      }

  -- and of an element, which leaves all records alone
  pub turn_element : (e n : ℕ) → e < l.elements → packed_state (state_of t) ≡ packed_state (state_of u)
      → Turn l lies ws p t u (set ws (place l (element_word e)) n)
  turn_element e n in_e words = let q = element_word e in record {
    is = is;
    live = live;
    still = still;
    berth = berth;
    ends = ends;
    fields = fields;
    sound = sound;
    long = length-set ws (place l q) n;
    state = shelf.else l ws q (record_word t.berth.at 0) n in_e (within t.berth.at 0 (wd.inside p t is) (omega arith)) (λ e. cc) ∙
        (says_state l lies ws wd p t is live ∙ words);
    apart = λ a less other. shelf.else l ws q (record_word a 0) n in_e (within a 0 less (omega arith)) (λ e. cc);
    later = λ a f less big. shelf.else l ws q (record_word a (suc f)) n in_e (within a (suc f) less big) (λ e. cc);
    quiet = λ r plain in_r. shelf.else l ws q r n in_e in_r (no_element r e plain);
  }

pub take_all : (n : ℕ) (xs : List Access) → n ≡ length xs → take n xs ≡ xs
take_all zero [] e = refl
take_all zero (x ∷ xs) e = absurd (omega arith)
take_all (suc n) [] e = refl
take_all (suc n) (x ∷ xs) e = ap (λ (z : List Access). x ∷ z) (take_all n xs (omega arith))

-- WHAT THE THEORY WANTS of the earlier siblings of a claimed task

module _ (j : Setup) (lies : Lies) (s : State Slots View) (f : Facts j lies s) (id : ℕ) (v : View) (fit : Fits j lies s.words id v)
    (p : Path) (t : Lie) (is : lies p ≡ some t) where
  abbrev May : Task (machine_of j.program) → Task (machine_of j.program) → Type 0
  May = MayPass (machine_of j.program) (rights_in j.program)

  abbrev Wanted : Path → Type 0
  Wanted q = Earlier (machine_of j.program) May q (get_of j lies)

  phase_at : (q : Path) (y : Lie) → lies q ≡ some y → phase_of y.stage ≡ Finished → (get_of j lies q).phase ≡ Finished
  phase_at q y e fin = ap (λ (z : Task (machine_of j.program)). z.phase) (get_at j lies q y e) ∙ fin

  -- in order: the seat knows them all finished
  pub in_order : BeforeKnown v p → Wanted p
  in_order before = go (last_of p)
    where
      go : (p ≡ []) ⊎ ((q : Path) × (k : ℕ) × (p ≡ child q k)) → Wanted p
      go (inl e) = subst Wanted (sym e) tt
      go (inr (q, k, e)) = subst Wanted (sym e) (earlier_by (machine_of j.program) May q k (get_of j lies)
          (λ i less. let h = fit.known (child q i) (before q k e i less) in inl (phase_at (child q i) h.0 h.1 h.2)))

  -- the call of a task that is there fits the program
  pub fits_at : (q : Path) (y : Lie) → lies q ≡ some y → program.Fits j.program y.berth.call
  fits_at q y e = at_path (machine_of j.program) levels (rights_in j.program) f.laws main_placed (opened_with j.program.families j.input)
      (program.Fits j.program y.berth.call) q (core_of j lies (elements (layout_of j) s.words)) (f.core.there q y e) f.core.lawful
      (λ kids ok. subst (λ (z : Task (machine_of j.program)). program.FitsJob j.program z.call.job) (get_at j lies q y e) ok.fits)

  -- ready: the seat's notes of the frame say so, whenever they were made
  pub by_notes : (own : Note) → is_gone t.stage ≡ false → t.berth.at ≡ own.at → t.berth.frame ≡ frame_in own.word
      → t.berth.fork ≡ fork_in own.word → own.accesses ≡ t.berth.call.accesses → IsReady v own → Wanted p
  by_notes own live at_is frame_is fork_is accesses_are ready = go (last_of p)
    where
      go : (p ≡ []) ⊎ ((q : Path) × (k : ℕ) × (p ≡ child q k)) → Wanted p
      go (inl e) = subst Wanted (sym e) tt
      go (inr (q, n, e)) = subst Wanted (sym e) (earlier_by (machine_of j.program) May q n (get_of j lies) each)
        where
          is_child : lies (child q n) ≡ some t
          is_child = ap lies (sym e) ∙ is

          fork_n : fork_in own.word ≡ suc n
          fork_n = sym fork_is ∙ f.words.numbered q n t is_child

          below : (i : ℕ) (y : Lie) → lies (child q i) ≡ some y → 1 ≤ y.berth.call.depth
          below i y d = let a = (f.words.sound (child q i) y d).deep in let b = length-append q (i ∷ []) in omega arith

          each : (i : ℕ) → i < n → May (get_of j lies (child q i)) (get_of j lies (child q n))
          each i less =
              let up = there_child levels (counts_of j lies) q n (f.core.there (child q n) t is_child) in let up1 = up.1 in
              let y = task_there j lies (elements (layout_of j) s.words) f.core (child q i)
              (child_there levels (counts_of j lies) q i up.0 (omega arith) up.2)
              (λ z z_is. f.looped.childless q n z t (ap lies (sym (parent_is q i)) ∙ z_is) is_child) in
              let b = f.words.beside q i n y.0 t y.1 is_child in let b2 = b.2 in let fn = fork_n in
              let o = ready i (omega arith) in let o2 = o.2 in
              let same_at : y.0.berth.at ≡ o.0.at = omega arith in
              let says = (fit.notes o.0 o.1).says o.3 (child q i) y.0 y.1 (b.0 ∙ live) same_at (b.1 ∙ (frame_is ∙ sym o.4)) in
              elim o.5 [
                | inl fin ↦ inl (phase_at (child q i) y.0 y.1 (says.finished fin))
                | inr h ↦ (
                    let many = says.counted h.0.headed in let all = h.0.all in
                    let same : o.0.accesses ≡ y.0.berth.call.accesses = says.accesses ∙ take_all
                    (length o.0.accesses) y.0.berth.call.accesses (omega arith) in
                    let quiet : clash_between y.0.berth.call.accesses t.berth.call.accesses ≡ false =
                    (λ a. clash_between (sym same a) (sym accesses_are a)) ∙ h.1 in
                    inr (subst (λ (z : Task (machine_of j.program) × Task (machine_of j.program)).
                    (rights_in j.program).Apart z.0.call z.1.call)
                    (λ a. (sym (get_at j lies (child q i) y.0 y.1) a, sym (get_at j lies (child q n) t is_child) a))
                    ((apart_is_no_clash j.program (map suc (child q i)) (map suc (child q n)) y.0.berth.call t.berth.call
                    (fits_at (child q i) y.0 y.1) (fits_at (child q n) t is_child) (below i y.0 y.1) (below n t is_child)).1 quiet)))
              ]

blank_of : (stand : Stand) → stand ≢ S.Empty → (frame fork : ℕ) → IsBlankIfEmpty stand frame fork
blank_of S.Empty taken frame fork = absurd (taken refl)
blank_of S.Unclaimed taken frame fork = tt
blank_of (S.Given worker) taken frame fork = tt
blank_of (S.Running worker) taken frame fork = tt
blank_of S.Finished taken frame fork = tt

-- another stand in the same record
pub state_fits : (b : Berth) (stand to : Stand) → IsStateWord (record { frame = b.frame; fork = b.fork; stand = stand }) → to ≢ S.Empty
    → worker_number to < 8 → IsStateWord (record { frame = b.frame; fork = b.fork; stand = to })
state_fits b stand to h taken small = record {
  frame_fits = h.frame_fits;
  fork_fits = h.fork_fits;
  worker_fits = omega arith;
  blank_if_empty = blank_of to taken b.frame b.fork;
}

-- a child that is there was forked
pub child_less : (j : Setup) (lies : Lies) (store : List ℕ) → Cored j lies store → (p : Path) (t u : Lie) (i : ℕ) → lies p ≡ some t
    → lies (child p i) ≡ some u → i < forks_of j (task_of j p t)
child_less j lies store c p t u i is e = let h = there_child levels (counts_of j lies) p i (c.there (child p i) u e) in
    let less = h.1 in let n : counts_of j lies p ≡ forks_of j (task_of j p t) = ap (forks_of j) (get_at j lies p t is) in omega arith

-- REGIONS when a body begins, goes on and ends

pub falls_less : (f g : ℕ) (es : List Execution) → f ≤ g → Falls f es → Falls g es
falls_less f g [] h falls = tt
falls_less f g (e ∷ es) h falls = let a = falls.0 in (omega arith, falls.1)

module _ (l : Layout) (lies : Lies) (ws : List ℕ) (seat : ℕ) (region : Region) (begun : ℕ) where
  pub owns_begun : (tasks : Tasks) (m : Spot) → tasks.begun ≡ begun → Owns l lies ws seat region tasks.running begun
      → ((i : ℕ) (u : Lie) → lies (child m.path i) ≡ some u → ⊥)
      → Owns l lies ws seat region (begun_by tasks m ∷ tasks.running) (suc begun)
  owns_begun tasks m begun_is o childless = record {
    room = o.room;
    spots = o.spots;
    under = o.under;
    built = o.built;
    stack = let a = o.stack in let e = ap (λ (z : List Path). length (roots seat ++ z))
        (append-nil (frames tasks.running)) in omega arith;
    framed = λ e i k u d. ⊎_elim (λ (h : e ≡ begun_by tasks m). absurd
        (childless k u (ap (λ (z : Execution). lies (child z.spot.path k)) (sym h) ∙ d)))
        (λ (h : In e tasks.running). o.framed e h k u d) (in_cons e (begun_by tasks m) tasks.running i);
    falls = (let a = begun_is in omega arith, subst (λ (n : ℕ). Falls n tasks.running) (ap suc (sym begun_is)) o.falls);
    old = λ a less. let h = o.old a less in let n = floors (suc begun) (suc (suc begun)) (omega arith) in omega arith;
    low = λ e es is topmost a from less. o.old a less;
  }

  pub owns_same : (e e2 : Execution) (rest : List Execution) → e2.spot ≡ e.spot → e2.frame ≡ e.frame → e2.forks ≡ e.forks
      → Owns l lies ws seat region (e ∷ rest) begun → Owns l lies ws seat region (e2 ∷ rest) begun
  owns_same e e2 rest spot frame forks o = record {
    room = o.room;
    spots = o.spots;
    under = o.under;
    built = o.built;
    stack = subst (λ (z : Spot × ℕ). length (roots seat ++ (frames rest ++ children z.0.path z.1)) ≤ length region.spots)
        (λ i. (sym spot i, sym forks i)) o.stack;
    framed = λ x i k u d. ⊎_elim (λ (h : x ≡ e2). o.framed e here k u
        (ap (λ (z : Spot). lies (child z.path k)) (sym spot ∙ ap (λ (z : Execution). z.spot) (sym h)) ∙ d) ∙
        (sym frame ∙ ap (λ (z : Execution). z.frame) (sym h)))
        (λ (h : In x rest). o.framed x (there h) k u d) (in_cons x e2 rest i);
    falls = subst (λ (n : ℕ). (n < suc begun) × Falls n rest) (sym frame) o.falls;
    old = o.old;
    low = λ x xs is topmost a from less. o.low e rest refl (sym frame ∙
        (ap (λ (z : Execution). z.frame) (first is) ∙ topmost)) a from less;
  }
    where
      first : {x : Execution} → {xs : List Execution} → e2 ∷ rest ≡ x ∷ xs → e2 ≡ x
      first h = cc

  pub owns_ended : (e : Execution) (rest : List Execution) → Owns l lies ws seat region (e ∷ rest) begun
      → Owns l lies ws seat region rest begun
  owns_ended e rest o = record {
    room = o.room;
    spots = o.spots;
    under = o.under;
    built = o.built;
    stack = let a = o.stack in let b = length-append (roots seat) (frames rest) in
        let c = length-append (roots seat) (frames rest ++ children e.spot.path e.forks) in
        let d = length-append (frames rest) (children e.spot.path e.forks) in omega arith;
    framed = λ x i k u d. o.framed x (there i) k u d;
    falls = let a = o.falls.0 in falls_less e.frame (suc begun) rest (omega arith) o.falls.1;
    old = o.old;
    low = λ x xs is topmost a from less. let h = subst (Falls e.frame) is o.falls.1 in let h0 = h.0 in
        let g = o.falls.0 in absurd (omega arith);
  }

pub runs_unposted : (worker k : ℕ) → Runs worker ≢ Posted k
runs_unposted worker k e = cc

pub waits_unposted : (k : ℕ) → Waits ≢ Posted k
waits_unposted k e = cc

pub promised_unposted : (thief k : ℕ) → Promised thief ≢ Posted k
promised_unposted thief k e = cc

pub given_unposted : (thief k : ℕ) → Given thief ≢ Posted k
given_unposted thief k e = cc

pub done_unposted : (k : ℕ) → Done ≢ Posted k
done_unposted k e = cc

-- WHO HAS A TASK IN HAND

module _ (j : Setup) (lies : Lies) (s : State Slots View) (f : Facts j lies s) (p : Path) (t : Lie) (is : lies p ≡ some t) where
  -- nobody has one that stands otherwise
  pub none_begun : is_begun t.stage ≡ 0 → (k : ℕ) (x : View) → get_elem? s.views k ≡ some x → begun_in x p ≡ 0
  none_begun e k x at = let a = tally_own begun_in is_begun lies s.views k x f.counts.begun at p in
      let b : tally is_begun (lies p) ≡ 0 = ap (tally is_begun) is ∙ e in omega arith

  pub none_given : is_given t.stage ≡ 0 → (k : ℕ) (x : View) → get_elem? s.views k ≡ some x → given_in x p ≡ 0
  none_given e k x at = let a = tally_own given_in is_given lies s.views k x f.counts.given at p in
      let b : tally is_given (lies p) ≡ 0 = ap (tally is_given) is ∙ e in omega arith

  pub none_promised : is_promised t.stage ≡ 0 → (k : ℕ) (x : View) → get_elem? s.views k ≡ some x → promised_in x p ≡ 0
  none_promised e k x at = let a = tally_own promised_in is_promised lies s.views k x f.asked.promised at p in
      let b : tally is_promised (lies p) ≡ 0 = ap (tally is_promised) is ∙ e in omega arith

-- what stays of the lists of a seat where one task turns
module _ (j : Setup) (lies : Lies) (p : Path) (u : Lie) where
  pub under_way_else : (e : Execution) → IsUnderWay j lies e → e.spot.path ≢ p → IsUnderWay j (put lies p (some u)) e
  under_way_else e h n = (h.0, put_else lies p (some u) e.spot.path (λ d. n (sym d)) ∙ h.1, h.2, h.3)

  pub over_else : (e : Execution) → IsOver j lies e → e.spot.path ≢ p → IsOver j (put lies p (some u)) e
  over_else e h n = (h.0, put_else lies p (some u) e.spot.path (λ d. n (sym d)) ∙ h.1, h.2, h.3)

  pub given_else : (m : Spot) → IsGiven lies m → m.path ≢ p → IsGiven (put lies p (some u)) m
  given_else m h n = (h.0, put_else lies p (some u) m.path (λ d. n (sym d)) ∙ h.1, h.2, h.3)

  pub promised_else : (m : Promise) → IsPromised lies m → m.spot.path ≢ p → IsPromised (put lies p (some u)) m
  promised_else m h n = (h.0, put_else lies p (some u) m.spot.path (λ d. n (sym d)) ∙ h.1, h.2, h.3)

-- A BODY BEGINS

-- a task that has not begun, and that the seat has now in hand for itself: by a claim, or from one of its lists
module _ (j : Setup) (lies : Lies) (s : State Slots View) (f : Facts j lies s) (id : ℕ) (v : View) (at : get_elem? s.views id ≡ some v)
    (live : 0 < v.parts) (p : Path) (t : Lie) (is : lies p ≡ some t)
    (idle : is_begun t.stage ≡ 0) (unposted : (k : ℕ) → t.stage ≢ Posted k) (worker : ℕ) (small : worker < 8) where
  abbrev l : Layout
  l = layout_of j

  abbrev u : Lie
  u = record t { stage = Runs worker }

  abbrev spot : Spot
  spot = record { berth = t.berth; path = p }

  abbrev ws' : List ℕ
  ws' = set s.words (place l (record_word t.berth.at 0)) (packed_state (state_of u))

  sound_t : Sound p t
  sound_t = f.words.sound p t is

  nothing : (t.answers ≡ []) × (t.count ≡ 0)
  nothing = sound_t.fresh idle

  not_finished : (x : Stage) → is_begun x ≡ 0 → phase_of x ≡ Finished → ⊥
  not_finished Waits a b = cc
  not_finished (Promised k) a b = cc
  not_finished (Posted k) a b = cc
  not_finished (Given k) a b = cc
  not_finished (Runs k) a b = cc
  not_finished (Loops k) a b = cc
  not_finished Done a b = absurd (omega arith)
  not_finished Gone a b = absurd (omega arith)

  not_gone : (x : Stage) → is_begun x ≡ 0 → is_gone x ≡ false
  not_gone Waits a = refl
  not_gone (Promised k) a = refl
  not_gone (Posted k) a = refl
  not_gone (Given k) a = refl
  not_gone (Runs k) a = refl
  not_gone (Loops k) a = refl
  not_gone Done a = refl
  not_gone Gone a = absurd (omega arith)

  not_looped : (x : Stage) → is_begun x ≡ 0 → is_early x ≡ true
  not_looped Waits a = refl
  not_looped (Promised k) a = refl
  not_looped (Posted k) a = refl
  not_looped (Given k) a = refl
  not_looped (Runs k) a = refl
  not_looped (Loops k) a = absurd (omega arith)
  not_looped Done a = absurd (omega arith)
  not_looped Gone a = absurd (omega arith)

  turn : Turn l lies s.words p t u ws'
  turn = turn_state l lies s.words p t u f.words is (not_gone t.stage idle) refl refl (λ e. absurd (not_finished t.stage idle e))
      (λ g. same_fields g)
      (record {
        state = state_fits t.berth (stand_of t.stage) (S.Running worker) sound_t.state
            (λ e. cc) small;
        head = sound_t.head;
        deep = sound_t.deep;
        accesses = sound_t.accesses;
        fresh = λ e. nothing;
      })
    where
      same_fields : (g : ℕ) → later_field u g ≡ later_field t g
      same_fields zero = refl
      same_fields (suc zero) = refl
      same_fields (suc (suc zero)) = refl
      same_fields (suc (suc (suc zero))) = refl
      same_fields (suc (suc (suc (suc g)))) = refl

  no_forks : forks_of j (task_of j p u) ≡ 0
  no_forks = λ i. forks_of j (record {
    call = whole_at
        (map suc p) t.berth.call;
    phase = Running;
    answers = nothing.0 i;
    done = nothing.1 i;
  })

  -- the core after it, and the lists that the seat has then
  module _ (core : Cored j (put lies p (some u)) (elements l ws')) (claimed : List Path) (promised : List Promise)
      (given : List Spot) where
    abbrev tasks0 : Tasks
    tasks0 = record v.tasks { claimed = claimed; promised = promised; given = given }

    abbrev tasks : Tasks
    tasks = with_begun tasks0 spot

    abbrev w : View
    w = with_tasks v tasks v.seen.known

    pub begin_now : ((q : Path) → claimed_in w q + tally is_claimed (lies q) ≡ claimed_in v q + tally is_claimed (put lies p (some u) q))
        → ((q : Path) → promised_in w q + tally is_promised (lies q) ≡ promised_in v q + tally is_promised (put lies p (some u) q))
        → ((q : Path) → given_in w q + tally is_given (lies q) ≡ given_in v q + tally is_given (put lies p (some u) q))
        → ((m : Promise) → In m promised → IsPromised (put lies p (some u)) m)
        → ((m : Spot) → In m given → IsGiven (put lies p (some u)) m)
        → ((k : ℕ) (x : View) → k ≢ id → get_elem? s.views k ≡ some x → (given_in x p ≡ 0) × (promised_in x p ≡ 0))
        → Facts j (put lies p (some u)) record { words = ws'; homes = s.homes; views = set s.views id w }
    begin_now tc tp tg promises gives others = turned j lies s p t u ws' id v tasks v.seen.known f at live (record {
      turn = turn;
      loop = record { berth = refl; first = refl; unretired = refl; indexes = refl; pieces = refl; gone = sym (not_gone t.stage idle); early = λ e. not_looped t.stage idle };
      core = core;
      unposted = unposted;
      unposted_now = runs_unposted worker;
      waits = waits_same;
      waits_indexes = omega arith;
      positions = omega arith;
      claimed = tc;
      promised = tp;
      given = tg;
      begun = adds begun_in is_begun lies v w p t u is idle refl
          (λ q. let c : begun_in w q ≡ begun_in v q + one_if (same_path q p) = omega arith in c);
      more = λ q h. omega arith;
      owns = λ o. owns_begun l (put lies p (some u)) ws' id v.region v.tasks.begun tasks0 spot refl o childless;
      running = λ e i. ⊎_elim (λ (h : e ≡ begun_by tasks0 spot). subst (IsUnderWay j (put lies p (some u))) (sym h) begins)
          (λ (h : In e v.tasks.running). under_way_else j lies p u e (fit.running e h)
          (not_among path_of v.tasks.running p (let a = mine_none in omega arith) e h))
          (in_cons e (begun_by tasks0 spot) v.tasks.running i);
      halted = λ e i. under_way_else j lies p u e (fit.halted e i)
          (not_among path_of v.tasks.halted p (let a = mine_none in omega arith) e i);
      ran = λ e i. over_else j lies p u e (fit.ran e i) (not_among path_of v.tasks.ran p (let a = mine_none in omega arith) e i);
      bound = let a = fit.begun in omega arith;
      promises = promises;
      gives = gives;
      knows = λ q i. inl i;
      alone = λ k x n e. let o = others k x n e in (none_begun j lies s f p t is idle k x e, o.0, o.1);
    })
      where
        fit : Fits j lies s.words id v
        fit = f.fits id v at

        mine_none : begun_in v p ≡ 0
        mine_none = none_begun j lies s f p t is idle id v at

        waits_same : waiting j p (some t) ≤ waiting j p (some u)
        waits_same = omega arith

        childless : (i : ℕ) (y : Lie) → put lies p (some u) (child p i) ≡ some y → ⊥
        childless i y e = let a = child_less j (put lies p (some u)) (elements l ws') core p u y i (put_here lies p (some u)) e in
            let b = no_forks in absurd (omega arith)

        begins : IsUnderWay j (put lies p (some u)) (begun_by tasks0 spot)
        begins = (
          u,
          put_here lies p (some u),
          record {
            berth = refl;
            answers = nothing.0;
            count = nothing.1;
            indexes = ap (λ (z : List IndexLie). length z) ((f.looped.booked p t is).early (not_looped t.stage idle)).0;
            forks = no_forks;
          },
          (worker, refl),
        )

-- A CLAIM

-- of a task that waits
module _ (j : Setup) (lies : Lies) (s : State Slots View) (f : Facts j lies s) (id : ℕ) (v : View) (at : get_elem? s.views id ≡ some v)
    (live : 0 < v.parts) (p : Path) (t : Lie) (is : lies p ≡ some t) (waits : t.stage ≡ Waits)
    (before : Earlier (machine_of j.program) (MayPass (machine_of j.program) (rights_in j.program)) p (get_of j lies)) where
  abbrev spot2 : Spot
  spot2 = record { berth = t.berth; path = p }

  abbrev after : Stage → Lie
  after to = record t { stage = to }

  abbrev words_after : Stage → List ℕ
  words_after to = set s.words (place (layout_of j) (record_word t.berth.at 0)) (packed_state (state_of (after to)))

  claimed_core : (to : Stage) → phase_of to ≡ Running → Cored j (put lies p (some (after to))) (elements (layout_of j) (words_after to))
  claimed_core to runs_now = subst (Cored j (put lies p (some (after to))))
      (sym (elements_else (layout_of j) s.words (record_word t.berth.at 0) (packed_state (state_of (after to)))
      (f.words.inside p t is, omega arith) tt))
      (cores.claims j f.laws lies (elements (layout_of j) s.words) f.core p t is (after to) refl refl
      (λ i. record { call = whole_at (map suc p) t.berth.call; phase = runs_now i; answers = t.answers; done = t.count })
      (ap phase_of waits) before)

  unposted2 : (k : ℕ) → t.stage ≢ Posted k
  unposted2 k e = waits_unposted k (sym waits ∙ e)

  -- the seat runs it
  pub won_run : (worker : ℕ) → worker < 8
      → Facts j (put lies p (some (after (Runs worker)))) record {
        words = words_after
            (Runs worker);
        homes = s.homes;
        views = set s.views id (won_own v spot2);
      }
  won_run worker small = let w : View = won_own v spot2 in let u2 : Lie = after (Runs worker) in
      begin_now j lies s f id v at live p t is (ap is_begun waits) unposted2 worker small (claimed_core (Runs worker) refl)
      (v.tasks.claimed ++ p ∷ []) v.tasks.promised v.tasks.given
      (adds claimed_in is_claimed lies v w p t u2 is (ap is_claimed waits) refl (λ q. times_snoc q p v.tasks.claimed))
      (sums.stays promised_in is_promised lies v w p t u2 is (ap is_promised waits) (λ q. refl))
      (sums.stays given_in is_given lies v w p t u2 is (ap is_given waits) (λ q. refl))
      (λ m i. promised_else j lies p u2 m (f.asked.promises id v at m i)
      (not_among promise_path v.tasks.promised p (none_promised j lies s f p t is (ap is_promised waits) id v at) m i))
      (λ m i. given_else j lies p u2 m ((f.fits id v at).given m i)
      (not_among spot_path v.tasks.given p (none_given j lies s f p t is (ap is_given waits) id v at) m i))
      (λ k x n e. (none_given j lies s f p t is (ap is_given waits) k x e, none_promised j lies s f p t is (ap is_promised waits) k x e))

  -- the seat has it in hand for a thief
  pub won_promise : (thief : ℕ) → thief < 8
      → Facts j (put lies p (some (after (Promised thief)))) record {
        words = words_after
            (Promised thief);
        homes = s.homes;
        views = set s.views id (won_for v (record { spot = spot2; thief = thief }));
      }
  won_promise thief small = let w : View = won_for v (record { spot = spot2; thief = thief }) in
      let u2 : Lie = after (Promised thief) in let fit = f.fits id v at in
      let here_not : begun_in v p ≡ 0 = none_begun j lies s f p t is (ap is_begun waits) id v at in
      turned j lies s p t u2 (words_after (Promised thief)) id v w.tasks v.seen.known f at live (record {
        turn = turn_state (layout_of j) lies s.words p t u2 f.words is (ap is_gone waits) refl refl
            (λ e. absurd (waits_open (sym (ap phase_of waits) ∙ e))) same_fields2
            (record {
              state = state_fits t.berth (stand_of t.stage) (S.Given thief) sound2.state
                  (λ e. cc) small;
              head = sound2.head;
              deep = sound2.deep;
              accesses = sound2.accesses;
              fresh = λ e. sound2.fresh
                  (ap is_begun waits);
            });
        loop = record { berth = refl; first = refl; unretired = refl; indexes = refl; pieces = refl; gone = sym (ap is_gone waits); early = λ e. ap is_early waits };
        core = claimed_core (Promised thief) refl;
        unposted = unposted2;
        unposted_now = promised_unposted thief;
        waits = same_wait thief;
        waits_indexes = omega arith;
        positions = refl;
        claimed = adds claimed_in is_claimed lies v w p t u2 is (ap is_claimed waits) refl (λ q. times_snoc q p v.tasks.claimed);
        promised = adds promised_in is_promised lies v w p t u2 is (ap is_promised waits) refl
            (λ q. let c : promised_in w q ≡ promised_in v q + one_if (same_path q p) = omega arith in c);
        given = sums.stays given_in is_given lies v w p t u2 is (ap is_given waits) (λ q. refl);
        begun = sums.stays begun_in is_begun lies v w p t u2 is (ap is_begun waits) (λ q. refl);
        more = λ q h. h;
        owns = λ o. o;
        running = λ e i. under_way_else j lies p u2 e (fit.running e i)
            (not_among path_of v.tasks.running p (let a = here_not in omega arith) e i);
        halted = λ e i. under_way_else j lies p u2 e (fit.halted e i)
            (not_among path_of v.tasks.halted p (let a = here_not in omega arith) e i);
        ran = λ e i. over_else j lies p u2 e (fit.ran e i) (not_among path_of v.tasks.ran p (let a = here_not in omega arith) e i);
        bound = fit.begun;
        promises = λ m i. ⊎_elim (λ (h : m ≡ record { spot = spot2; thief = thief }). subst (IsPromised (put lies p (some u2))) (sym h)
            (u2, put_here lies p (some u2), refl, refl))
            (λ (h : In m v.tasks.promised). promised_else j lies p u2 m (f.asked.promises id v at m h)
            (not_among promise_path v.tasks.promised p (none_promised j lies s f p t is (ap is_promised waits) id v at) m h))
            (in_cons m (record { spot = spot2; thief = thief }) v.tasks.promised i);
        gives = λ m i. given_else j lies p u2 m (fit.given m i)
            (not_among spot_path v.tasks.given p (none_given j lies s f p t is (ap is_given waits) id v at) m i);
        knows = λ q i. inl i;
        alone = λ k x n e. (
          none_begun j lies s f p t is (ap is_begun waits) k x e,
          none_given j lies s f p t is
              (ap is_given waits) k x e,
          none_promised j lies s f p t is (ap is_promised waits) k x e,
        );
      })
    where
      sound2 : Sound p t
      sound2 = f.words.sound p t is

      waits_open : Unclaimed ≡ Finished → ⊥
      waits_open e = cc

      same_wait : (k : ℕ) → waiting j p (some t) ≤ waiting j p (some (after (Promised k)))
      same_wait k = omega arith

      same_fields2 : (g : ℕ) → later_field (after (Promised thief)) g ≡ later_field t g
      same_fields2 zero = refl
      same_fields2 (suc zero) = refl
      same_fields2 (suc (suc zero)) = refl
      same_fields2 (suc (suc (suc zero))) = refl
      same_fields2 (suc (suc (suc (suc g)))) = refl

-- A START of the first task in a list of the seat's

module _ (j : Setup) (lies : Lies) (s : State Slots View) (f : Facts j lies s) (id : ℕ) (v : View) (at : get_elem? s.views id ≡ some v)
    (live : 0 < v.parts) (m : Spot) (worker : ℕ) (small : worker < 8)
    (t : Lie) (is : lies m.path ≡ some t) (berth_is : t.berth ≡ m.berth) where
  abbrev u3 : Lie
  u3 = record t { stage = Runs worker }

  abbrev ws3 : List ℕ
  ws3 = set s.words (place (layout_of j) (record_word t.berth.at 0)) (packed_state (state_of u3))

  started_core : phase_of t.stage ≡ Running → Cored j (put lies m.path (some u3)) (elements (layout_of j) ws3)
  started_core runs = subst (Cored j (put lies m.path (some u3)))
      (sym (elements_else (layout_of j) s.words (record_word t.berth.at 0) (packed_state (state_of u3))
      (f.words.inside m.path t is, omega arith) tt))
      (cores.stays j f.laws lies (elements (layout_of j) s.words) f.core m.path t is u3 refl refl
      (λ i. record { call = whole_at (map suc m.path) t.berth.call; phase = sym runs i; answers = t.answers; done = t.count }))

  spot_is : record { berth = t.berth; path = m.path } ≡ m
  spot_is = λ i. record { berth = berth_is i; path = m.path }

  -- of those that it was given
  pub start_given : (rest : List Spot) → v.tasks.given ≡ m ∷ rest → (thief : ℕ) → t.stage ≡ Given thief
      → Facts j (put lies m.path (some u3)) record { words = ws3; homes = s.homes; views = set s.views id (starts v m rest) }
  start_given rest given_is thief stage_is =
      let w : View = starts v (record { berth = t.berth; path = m.path }) rest in
      let was : (q : Path) → given_in v q ≡ one_if (same_path q m.path) + times q (map spot_path rest) =
      (λ q. ap (λ (z : List Spot). times q (map spot_path z)) given_is) in
      let mine_one : given_in v m.path ≤ 1 = (let a = tally_own given_in is_given lies s.views id v f.counts.given at m.path in
      let b : tally is_given (lies m.path) ≡ 1 = ap (tally is_given) is ∙ ap is_given stage_is in omega arith) in
      let rest_none : times m.path (map spot_path rest) ≡ 0 = (let a = was m.path in
      let b = one_self m.path m.path refl in omega arith) in
      subst (λ (z : Spot). Facts j (put lies m.path (some u3)) record {
        words = ws3;
        homes = s.homes;
        views = set s.views id
            (starts v z rest);
      }) spot_is
      (begin_now j lies s f id v at live m.path t is (ap is_begun stage_is)
      (λ k e. given_unposted thief k (sym stage_is ∙ e)) worker small
      (started_core (ap phase_of stage_is)) v.tasks.claimed v.tasks.promised rest
      (sums.stays claimed_in is_claimed lies v w m.path t u3 is (ap is_claimed stage_is) (λ q. refl))
      (sums.stays promised_in is_promised lies v w m.path t u3 is (ap is_promised stage_is) (λ q. refl))
      (drops given_in is_given lies v w m.path t u3 is (ap is_given stage_is) refl was)
      (λ o i. promised_else j lies m.path u3 o (f.asked.promises id v at o i)
      (not_among promise_path v.tasks.promised m.path (none_promised j lies s f m.path t is (ap is_promised stage_is) id v at) o i))
      (λ o i. given_else j lies m.path u3 o ((f.fits id v at).given o (subst (In o) (sym given_is) (there i)))
      (not_among spot_path rest m.path rest_none o i))
      (λ k x n e. (
        tally_alone given_in is_given lies s.views id v f.counts.given at m.path k x n e
            (let b : tally is_given (lies m.path) ≡ 1 = ap (tally is_given) is ∙ ap is_given stage_is in omega arith)
            (let a = was m.path in let b = one_self m.path m.path refl in omega arith),
        none_promised j lies s f m.path t is (ap is_promised stage_is) k x e,
      )))

  -- of those that it claimed, for itself
  pub start_promised : (rest : List Promise) (thief : ℕ) → v.tasks.promised ≡ record { spot = m; thief = thief } ∷ rest
      → t.stage ≡ Promised thief → Facts j (put lies m.path (some u3)) record {
        words = ws3;
        homes = s.homes;
        views = set s.views id
            (starts_own v m rest);
      }
  start_promised rest thief promised_is stage_is =
      let w : View = starts_own v (record { berth = t.berth; path = m.path }) rest in
      let was : (q : Path) → promised_in v q ≡ one_if (same_path q m.path) + times q (map promise_path rest) =
      (λ q. ap (λ (z : List Promise). times q (map promise_path z)) promised_is) in
      let mine_one : promised_in v m.path ≤ 1 =
      (let a = tally_own promised_in is_promised lies s.views id v f.asked.promised at m.path in
      let b : tally is_promised (lies m.path) ≡ 1 = ap (tally is_promised) is ∙ ap is_promised stage_is in omega arith) in
      let rest_none : times m.path (map promise_path rest) ≡ 0 = (let a = was m.path in
      let b = one_self m.path m.path refl in omega arith) in
      subst (λ (z : Spot). Facts j (put lies m.path (some u3)) record {
        words = ws3;
        homes = s.homes;
        views = set s.views id
            (starts_own v z rest);
      }) spot_is
      (begin_now j lies s f id v at live m.path t is (ap is_begun stage_is)
      (λ k e. promised_unposted thief k (sym stage_is ∙ e)) worker small
      (started_core (ap phase_of stage_is)) v.tasks.claimed rest v.tasks.given
      (sums.stays claimed_in is_claimed lies v w m.path t u3 is (ap is_claimed stage_is) (λ q. refl))
      (drops promised_in is_promised lies v w m.path t u3 is (ap is_promised stage_is) refl was)
      (sums.stays given_in is_given lies v w m.path t u3 is (ap is_given stage_is) (λ q. refl))
      (λ o i. promised_else j lies m.path u3 o (f.asked.promises id v at o (subst (In o) (sym promised_is) (there i)))
      (not_among promise_path rest m.path rest_none o i))
      (λ o i. given_else j lies m.path u3 o ((f.fits id v at).given o i)
      (not_among spot_path v.tasks.given m.path (none_given j lies s f m.path t is (ap is_given stage_is) id v at) o i))
      (λ k x n e. (
        none_given j lies s f m.path t is (ap is_given stage_is) k x e,
        tally_alone promised_in is_promised lies s.views id v f.asked.promised at m.path k x n e
            (let b : tally is_promised (lies m.path) ≡ 1 = ap (tally is_promised) is ∙ ap is_promised stage_is in omega arith)
            (let a = was m.path in let b = one_self m.path m.path refl in omega arith),
      )))

-- a task that runs lives
pub runs_live : (looping : Bool) (k : ℕ) → is_gone (runs_as looping k) ≡ false
runs_live false k = refl
runs_live true k = refl

pub at_head : (v : View) (e : Execution) (rest : List Execution) → v.tasks.running ≡ e ∷ rest → In e v.tasks.running
at_head v e rest runs = subst (In e) (sym runs) here

-- A LOOP THAT HAS BEGUN has done its body, so that a body with an operation to do is none

module _ (j : Setup) (lies : Lies) (s : State Slots View) (f : Facts j lies s) (id : ℕ) (v : View) (at : get_elem? s.views id ≡ some v)
    (e : Execution) (runs : In e v.tasks.running) where
  abbrev m0 : Machine
  m0 = machine_of j.program

  -- where it stands in the core
  looping_stands : e.looping ≡ true → (st : Standing m0) × (standing m0 (task_in j e) ≡ Some st) × (st.over ≡ true) × IsStop m0 st.left
  looping_stands loops =
      let h = (f.fits id v at).running e runs in
      let t = h.0 in
      let got = get_at j lies e.spot.path t h.1 in
      at_path m0 levels (rights_in j.program) f.laws main_placed (opened_with j.program.families j.input)
      ((st : Standing m0) × (standing m0 (task_in j e) ≡ Some st) × (st.over ≡ true) × IsStop m0 st.left) e.spot.path (core_of j lies (elements (layout_of j) s.words)) (f.core.there e.spot.path t h.1)
      f.core.lawful (λ kids ok.
      let phase : (get_of j lies e.spot.path).phase ≡ Ended = ap (λ (z : Task m0). z.phase) got
      ∙ ap phase_of (h.3.1 ∙ ap (λ b. runs_as b h.3.0) loops) in
      let done_all : ok.st.over ≡ true = subst (λ (z : Phase). PhaseOk m0 z (get_of j lies e.spot.path) ok.st kids) phase ok.phase in
      let same : standing m0 (task_in j e) ≡ Some ok.st = (λ i. stand m0 (m0.tree (whole_at (map suc e.spot.path) (sym h.2.berth i).call))
      (sym h.2.answers i) (sym h.2.count i)) ∙ (ap (standing m0) (sym got) ∙ ok.stands) in (
        ok.st,
        same,
        done_all,
        (bounded m0 _ _ _ (m0.tree (get_of j lies e.spot.path).call) (get_of j lies e.spot.path).answers
            (get_of j lies e.spot.path).done ok.st (f.laws.within (get_of j lies e.spot.path).call ok.fits) ok.stands).stops done_all,
      ))

  looping_stops : e.looping ≡ true → IsStop m0 (left m0 (task_in j e))
  looping_stops loops = let h = looping_stands loops in subst (λ z. IsStop m0 (left_of m0 z)) (sym h.1) h.3

  plain_unless : (IsStop m0 (left m0 (task_in j e)) → ⊥) → e.looping ≡ false
  plain_unless busy = go e.looping refl
    where
      go : (b : Bool) → e.looping ≡ b → e.looping ≡ false
      go true loops = absurd (busy (looping_stops loops))
      go false none_begun = none_begun

  -- nor is one that has its end still to do
  pub plain_still : (st : Standing m0) → standing m0 (task_in j e) ≡ Some st → st.over ≡ false → e.looping ≡ false
  plain_still st stands still = go e.looping refl
    where
      go : (b : Bool) → e.looping ≡ b → e.looping ≡ false
      go true loops = let h = looping_stands loops in
          let same : h.0 ≡ st = the_some (sym h.1 ∙ stands) in
          let z : true ≡ false = sym h.2 ∙ (ap (λ (y : Standing m0). y.over) same ∙ still) in absurd (cc z)
      go false none_begun = none_begun

  pub plain_at_act : (d : Act) (k : ℕ → Code (machine_of j.program)) → left (machine_of j.program) (task_in j e) ≡ Do d k → e.looping ≡ false
  plain_at_act d k next = plain_unless (λ h. let z : ⊥ = subst (IsStop m0) next h in z)

  pub plain_at_fork : (c : Placed) (w : Code (machine_of j.program)) → left (machine_of j.program) (task_in j e) ≡ Fork c w → e.looping ≡ false
  plain_at_fork c w next = plain_unless (λ h. let z : ⊥ = subst (IsStop m0) next h in z)

-- THE RUNNING BODY GOES ON

module _ (j : Setup) (lies : Lies) (s : State Slots View) (f : Facts j lies s) (id : ℕ) (v : View) (at : get_elem? s.views id ≡ some v)
    (live : 0 < v.parts) (e : Execution) (rest : List Execution) (runs : v.tasks.running ≡ e ∷ rest) (plain : e.looping ≡ false) where
  abbrev q : Path
  q = e.spot.path

  abbrev fit2 : Fits j lies s.words id v
  fit2 = f.fits id v at

  pub head_in : In e v.tasks.running
  head_in = at_head v e rest runs

  abbrev lie : Lie
  lie = (fit2.running e head_in).0

  pub head_is : lies q ≡ some lie
  head_is = (fit2.running e head_in).1

  pub head_agrees : Agrees j e lie
  head_agrees = (fit2.running e head_in).2

  pub head_runs : (k : ℕ) × (lie.stage ≡ Runs k)
  head_runs = let h = (fit2.running e head_in).3 in (h.0, h.1 ∙ ap (λ b. runs_as b h.0) plain)

  -- it has no indexes
  pub head_single : indexes_of e ≡ 0
  head_single = ap (λ b. cond b e.spot.berth.call.length 0) plain

  -- its task is the one of the entry
  pub head_task : task_of j q lie ≡ task_in j e
  head_task = λ i. record {
    call = whole_at (map suc q)
        (head_agrees.berth i).call;
    phase = ap phase_of head_runs.1 i;
    answers = head_agrees.answers i;
    done = head_agrees.count i;
  }

  pub head_live : is_gone lie.stage ≡ false
  head_live = ap is_gone head_runs.1

  pub head_sound : Sound q lie
  head_sound = f.words.sound q lie head_is

  pub head_running : (task_of j q lie).phase ≡ Running
  head_running = ap phase_of head_runs.1

  pub one_begun : tally is_begun (lies q) ≡ 1
  one_begun = ap (tally is_begun) head_is ∙ ap is_begun head_runs.1

  pub was_begun : (p : Path) → begun_in v p ≡ one_if (same_path p q) +
      (times p (map path_of rest) + (times p (map path_of v.tasks.halted) + times p (map path_of v.tasks.ran)))
  was_begun p = let a = ap (λ (z : List Execution). times p (map path_of z)) runs in omega arith

  pub head_begun : 0 < begun_in v q
  head_begun = let a = was_begun q in let b = one_self q q refl in omega arith

  -- the seat has no other entry of it
  pub once_begun : times q (map path_of rest) + (times q (map path_of v.tasks.halted) + times q (map path_of v.tasks.ran)) ≡ 0
  once_begun = let a = was_begun q in let b = one_self q q refl in
      let c = tally_own begun_in is_begun lies s.views id v f.counts.begun at q in let d = one_begun in omega arith

  pub head_alone : (k : ℕ) (x : View) → k ≢ id → get_elem? s.views k ≡ some x
      → (begun_in x q ≡ 0) × (given_in x q ≡ 0) × (promised_in x q ≡ 0)
  head_alone k x n d = (
    tally_alone begun_in is_begun lies s.views id v f.counts.begun at q k x n d (let a = one_begun in omega arith) head_begun,
    none_given j lies s f q lie head_is (ap is_given head_runs.1) k x d,
    none_promised j lies s f q lie head_is (ap is_promised head_runs.1) k x d,
  )

  module _ (u4 : Lie) where
    pub rest_keeps : (x : Execution) → In x rest → IsUnderWay j (put lies q (some u4)) x
    rest_keeps x i = under_way_else j lies q u4 x (fit2.running x (subst (In x) (sym runs) (there i)))
        (not_among path_of rest q (let a = once_begun in omega arith) x i)

    pub halted_keeps : (x : Execution) → In x v.tasks.halted → IsUnderWay j (put lies q (some u4)) x
    halted_keeps x i = under_way_else j lies q u4 x (fit2.halted x i)
        (not_among path_of v.tasks.halted q (let a = once_begun in omega arith) x i)

    pub ran_keeps : (x : Execution) → In x v.tasks.ran → IsOver j (put lies q (some u4)) x
    ran_keeps x i = over_else j lies q u4 x (fit2.ran x i) (not_among path_of v.tasks.ran q (let a = once_begun in omega arith) x i)

    pub promises_keep : (m : Promise) → In m v.tasks.promised → IsPromised (put lies q (some u4)) m
    promises_keep m i = promised_else j lies q u4 m (f.asked.promises id v at m i)
        (not_among promise_path v.tasks.promised q (none_promised j lies s f q lie head_is (ap is_promised head_runs.1) id v at) m i)

    pub given_keeps : (m : Spot) → In m v.tasks.given → IsGiven (put lies q (some u4)) m
    given_keeps m i = given_else j lies q u4 m (fit2.given m i)
        (not_among spot_path v.tasks.given q (none_given j lies s f q lie head_is (ap is_given head_runs.1) id v at) m i)

  abbrev l2 : Layout
  l2 = layout_of j

  abbrev m2 : Machine
  m2 = machine_of j.program

  -- a load, a store or a fold of one element
  module _ (d : Act) (k : ℕ → Code (machine_of j.program)) (next : left (machine_of j.program) (task_in j e) ≡ Do d k)
      (in_e : place_of j.program.families d < (layout_of j).elements) where
    abbrev e2 : ℕ
    e2 = place_of j.program.families d

    abbrev n : ℕ
    n = word_at l2 s.words (element_word e2)

    abbrev w2 : View
    w2 = does_one v d n e rest

    abbrev u5 : Lie
    u5 = record lie { answers = lie.answers ++ heard d n; count = suc lie.count }

    abbrev ws5 : List ℕ
    ws5 = set s.words (place l2 (element_word e2)) (effect d.deed n)

    -- what a body hears is the word
    hears : (b : Deed) (x : ℕ) → x ≡ n → cond (is_load b) (n ∷ []) [] ≡ cond (is_load b) (found b x ∷ []) []
    hears Load x h = λ i. sym h i ∷ []
    hears (Store y) x h = refl
    hears (Fold op y) x h = refl

    pub u5_is : task_of j q u5 ≡ events.put m2 (did m2 d (m2.answer d (elements l2 s.words))) (task_of j q lie)
    u5_is = λ i. record {
      call = whole_at (map suc q) lie.berth.call;
      phase = phase_of lie.stage;
      answers = lie.answers ++ hears d.deed
          (slice_index (elements l2 s.words) e2) (elements_at l2 s.words e2 in_e) i;
      done = suc lie.count;
    }

    next_lie : left m2 (task_of j q lie) ≡ Do d k
    next_lie = ap (left m2) head_task ∙ next

    pub after_is : elements l2 ws5 ≡ m2.after d (elements l2 s.words)
    after_is = elements_set l2 s.words e2 (effect d.deed n) in_e ∙ ap (λ (x : ℕ). set (elements l2 s.words) e2 (effect d.deed x))
        (sym (elements_at l2 s.words e2 in_e))

    pub does_now : Facts j (put lies q (some u5)) record { words = ws5; homes = s.homes; views = set s.views id w2 }
    does_now = turned j lies s q lie u5 ws5 id v w2.tasks v.seen.known f at live (record {
      turn = turn_element l2 lies s.words q lie u5 f.words head_is head_live head_live refl (λ x. x) (λ g. fields_same g)
          (record {
            state = head_sound.state;
            head = head_sound.head;
            deep = head_sound.deep;
            accesses = head_sound.accesses;
            fresh = λ
                z. let a = ap is_begun head_runs.1 in absurd (omega arith);
          }) e2 (effect d.deed n) in_e refl;
      loop = record { berth = refl; first = refl; unretired = refl; indexes = refl; pieces = refl; gone = refl; early = λ x. x };
      core = subst (Cored j (put lies q (some u5))) (sym after_is)
          (cores.does j f.laws lies (elements l2 s.words) f.core q lie head_is head_running d k next_lie u5 refl refl u5_is);
      unposted = λ x z. runs_unposted head_runs.0 x (sym head_runs.1 ∙ z);
      unposted_now = λ x z. runs_unposted head_runs.0 x (sym head_runs.1 ∙ z);
      waits = let a : next_weight m2 is_task (left m2 (task_of j q lie)) ≡ 0 = ap (next_weight m2 is_task) next_lie in omega arith;
      waits_indexes = let a : forks_ahead m2 is_index (left m2 (task_of j q lie)) ≡ 0 = ap (forks_ahead m2 is_index) next_lie in omega arith;
      positions = let a = ap (λ (z : List Execution). weigh indexes_of (z ++ (v.tasks.halted ++ v.tasks.ran))) runs in omega arith;
      claimed = sums.stays claimed_in is_claimed lies v w2 q lie u5 head_is refl (λ x. refl);
      promised = sums.stays promised_in is_promised lies v w2 q lie u5 head_is refl (λ x. refl);
      given = sums.stays given_in is_given lies v w2 q lie u5 head_is refl (λ x. refl);
      begun = sums.stays begun_in is_begun lies v w2 q lie u5 head_is refl (λ x. let a = was_begun x in omega arith);
      more = λ x h. let a = was_begun x in omega arith;
      owns = λ o. owns_same l2 (put lies q (some u5)) ws5 id v.region v.tasks.begun e (did_one d n e) rest refl refl refl
          (subst (λ (z : List Execution). Owns l2 (put lies q (some u5)) ws5 id v.region z v.tasks.begun) runs o);
      running = λ x i. ⊎_elim (λ (h : x ≡ did_one d n e). subst (IsUnderWay j (put lies q (some u5))) (sym h)
          (u5, put_here lies q (some u5), now_agrees, (fit2.running e head_in).3)) (rest_keeps u5 x) (in_cons x (did_one d n e) rest i);
      halted = halted_keeps u5;
      ran = ran_keeps u5;
      bound = let a = fit2.begun in let b = ap (λ (z : List Execution). length z) runs in omega arith;
      promises = promises_keep u5;
      gives = given_keeps u5;
      knows = λ x i. inl i;
      alone = head_alone;
    })
      where
        fields_same : (g : ℕ) → later_field u5 g ≡ later_field lie g
        fields_same zero = refl
        fields_same (suc zero) = refl
        fields_same (suc (suc zero)) = refl
        fields_same (suc (suc (suc zero))) = refl
        fields_same (suc (suc (suc (suc g)))) = refl

        now_agrees : Agrees j (did_one d n e) u5
        now_agrees = record {
          berth = head_agrees.berth;
          answers = ap (λ (xs : List ℕ). xs ++ heard d n) head_agrees.answers;
          count = ap suc head_agrees.count;
          indexes = head_agrees.indexes;
          forks = cores.does_forks j f.laws lies (elements l2 s.words) f.core q lie head_is head_running d k next_lie u5 u5_is
              ∙ head_agrees.forks;
        }

  -- the last operation of its body, and its finish
  module _ (fault : Option Fault) (next : left (machine_of j.program) (task_in j e) ≡ Stop fault) (children : (k : ℕ) → k < e.forks
      → In (child e.spot.path k) v.seen.known) where
    abbrev u6 : Lie
    u6 = record lie { stage = Done; count = suc lie.count }

    abbrev w6 : View
    w6 = ends v e rest

    abbrev ws6 : List ℕ
    ws6 = set s.words (place l2 (record_word lie.berth.at 0)) (packed_state (state_of u6))

    stop_lie : left m2 (task_of j q lie) ≡ Stop fault
    stop_lie = ap (left m2) head_task ∙ next

    pub ends_now : Facts j (put lies q (some u6)) record { words = ws6; homes = s.homes; views = set s.views id w6 }
    ends_now = turned j lies s q lie u6 ws6 id v w6.tasks w6.seen.known f at live (record {
      turn = turn_state l2 lies s.words q lie u6 f.words head_is head_live refl refl (λ x. refl) (λ g. fields_same g)
          (record {
            state = state_fits lie.berth (stand_of lie.stage) S.Finished head_sound.state (λ x. cc)
                (omega arith);
            head = head_sound.head;
            deep = head_sound.deep;
            accesses = head_sound.accesses;
            fresh = λ z. let a :
                is_begun Done ≡ 1 = refl in absurd (omega arith);
          });
      loop = record { berth = refl; first = refl; unretired = refl; indexes = refl; pieces = refl; gone = sym head_live; early = λ x. cc };
      core = subst (Cored j (put lies q (some u6)))
          (sym (elements_else l2 s.words (record_word lie.berth.at 0) (packed_state (state_of u6))
          (f.words.inside q lie head_is, omega arith) tt))
          (cores.ends j f.laws lies (elements l2 s.words) f.core q lie head_is head_running fault stop_lie u6 refl refl refl
          (λ k less. fit2.known (child q k) (children k (let a = head_agrees.forks in let b = head_single in omega arith))));
      unposted = λ x z. runs_unposted head_runs.0 x (sym head_runs.1 ∙ z);
      unposted_now = done_unposted;
      waits = let a : next_weight m2 is_task (left m2 (task_of j q lie)) ≡ 0 = ap (next_weight m2 is_task) stop_lie in omega arith;
      waits_indexes = let a : forks_ahead m2 is_index (left m2 (task_of j q lie)) ≡ 0 = ap (forks_ahead m2 is_index) stop_lie in omega arith;
      positions = let a = ap (λ (z : List Execution). weigh indexes_of (z ++ (v.tasks.halted ++ v.tasks.ran))) runs in
          let b = weigh_append indexes_of rest (v.tasks.halted ++ (over e ∷ v.tasks.ran)) in
          let c = weigh_append indexes_of v.tasks.halted (over e ∷ v.tasks.ran) in
          let d = weigh_append indexes_of rest (v.tasks.halted ++ v.tasks.ran) in
          let g = weigh_append indexes_of v.tasks.halted v.tasks.ran in omega arith;
      claimed = sums.stays claimed_in is_claimed lies v w6 q lie u6 head_is (ap is_claimed head_runs.1) (λ x. refl);
      promised = sums.stays promised_in is_promised lies v w6 q lie u6 head_is (ap is_promised head_runs.1) (λ x. refl);
      given = sums.stays given_in is_given lies v w6 q lie u6 head_is (ap is_given head_runs.1) (λ x. refl);
      begun = sums.stays begun_in is_begun lies v w6 q lie u6 head_is (ap is_begun head_runs.1) (λ x. let a = was_begun x in omega arith);
      more = λ x h. let a = was_begun x in omega arith;
      owns = λ o. owns_ended l2 (put lies q (some u6)) ws6 id v.region v.tasks.begun e rest
          (subst (λ (z : List Execution). Owns l2 (put lies q (some u6)) ws6 id v.region z v.tasks.begun) runs o);
      running = rest_keeps u6;
      halted = halted_keeps u6;
      ran = λ x i. ⊎_elim (λ (h : x ≡ over e). subst (IsOver j (put lies q (some u6))) (sym h)
          (u6, put_here lies q (some u6), now_agrees, refl)) (ran_keeps u6 x) (in_cons x (over e) v.tasks.ran i);
      bound = let a = fit2.begun in let b = ap (λ (z : List Execution). length z) runs in omega arith;
      promises = promises_keep u6;
      gives = given_keeps u6;
      knows = known_more;
      alone = head_alone;
    })
      where
        fields_same : (g : ℕ) → later_field u6 g ≡ later_field lie g
        fields_same zero = refl
        fields_same (suc zero) = refl
        fields_same (suc (suc zero)) = refl
        fields_same (suc (suc (suc zero))) = refl
        fields_same (suc (suc (suc (suc g)))) = refl

        now_agrees : Agrees j (over e) u6
        now_agrees = record {
          berth = head_agrees.berth;
          answers = head_agrees.answers;
          count = ap suc head_agrees.count;
          indexes = head_agrees.indexes;
          forks = cores.ends_forks j f.laws lies (elements l2 s.words) f.core q lie head_is head_running fault stop_lie u6 refl
              ∙ head_agrees.forks;
        }

        known_more : (x : Path) → In x (q ∷ v.seen.known) → (In x v.seen.known) ⊎ ((q ≡ x) × (Finished ≡ Finished))
        known_more x here = inr (refl, refl)
        known_more x (there h) = inl h
