-- The loads, as the table asks for them: of a scan, and of the records of tasks that a seat has in hand.
use Rattle.std.proofs.Common.{◌≡◌, ◌≢◌, ℕ, zero, suc, ◌+◌, ◌-◌, ◌*◌, ◌%◌, ◌<◌, ◌≤◌, ◌⊎◌, ◌==◌, ◌&&◌, not, nat_lt, Bool, true, false, cond, List, [], ◌∷◌, ◌++◌, set, take, get_or, length, slice_index, sym, refl, ap, ◌∙◌, subst, inl, inr, arith, ⊎_elim, Some}
use mathlib.Core.Option.{none, some, some-injective, some-ne-none}
use lib.ListN.{get_elem?}
use Rattle.atomic_table.specs.Table.{State, Me, stepped, keeps, step, Allows}
use Rattle.kt_law.specs.declared.accesses.Access.{Access}
use Rattle.kt_law.specs.declared.stands.Stand.TheVariants as S
use Rattle.kt_order.specs.Forest.{Finished}
use Rattle.kt_runs.specs.ByPath.{Path}
use Rattle.kt_words.specs.Places.{place, record_word}
use Rattle.kt_words.specs.Words.{stand_number, packed_state, packed_head, packed_access, IsStateWord}
use Rattle.kt_words.specs.declared.layouts.TheConstants.{RECORDS, FIELDS}
use Rattle.kt_words.specs.declared.layouts.Layout.{Layout}
use Rattle.kt_words.specs.declared.states.StateWord.{StateWord}
use Rattle.kt_words.specs.declared.heads.HeadWord.{HeadWord}
use Rattle.kt_words.proofs.HeadLaws.{head_words}
use Rattle.kt_words.proofs.AccessLaws.{access_words}
use Rattle.kt_rule.specs.declared.views.Setup.{Setup}
use Rattle.kt_rule.specs.declared.views.Berth.{Berth}
use Rattle.kt_rule.specs.declared.views.Spot.{Spot}
use Rattle.kt_rule.specs.declared.views.Execution.{Execution}
use Rattle.kt_rule.specs.declared.views.Note.{Note}
use Rattle.kt_rule.specs.declared.views.Promise.{Promise}
use Rattle.kt_rule.specs.declared.views.View.{View}
use Rattle.kt_rule.specs.Lists.{In, here, there}
use Rattle.kt_rule.specs.Lies.{Stage, Waits, Promised, Posted, Given, Runs, Loops, Done, Gone, Lie, Lies, phase_of, stand_of, is_gone}
use Rattle.kt_rule.specs.Records.{layout_of, word_at, state_of, head_of, access_word, later_field, task_field, stand_in, fork_in, frame_in, frame_floor}
use Rattle.kt_rule.specs.Facts.{IsSo, IsKnownFinished, Fits}
use Rattle.kt_rule.specs.Rule.{Slots, Facts, Holds}
use Rattle.kt_rule.specs.Steps.{Tells, state_place, going, note_of, paths_at, learnt, stands, Stands, headed_so, with_note, ScansHead, found_so, ScansAccess, Shows, state_word, IsState, ShowsState}
use Rattle.kt_rule.proofs.Sums.{in_cons, in_append}
use Rattle.kt_rule.proofs.Words.{word_parts, above_floor, never_empty, says_state, says_field}
use Rattle.kt_rule.proofs.Moves.{learned}
use Rattle.kt_steps.proofs.Steps.{set_word, same_state, inside, holds_so, runs_live}

load_holds : (opening : List ℕ) (j : Setup) (lies : Lies) (s : State Slots View) (i id : ℕ) (c : List (ℕ × Slots)) (w : View)
    → Facts j lies record { words = s.words; homes = s.homes; views = set s.views id w }
    → Holds opening (stepped s i (get_or s.words i 0) id c w keeps)
load_holds opening j lies s i id c w f = holds_so opening _ j lies
    (subst (λ (ws : List ℕ). Facts j lies record { words = ws; homes = s.homes; views = set s.views id w }) (sym (set_word s.words i)) f)

-- the notes, with one in front
notes_more : {P : Note → Type 0} → (o : Note) (ns : List Note) → P o → ((n : Note) → In n ns → P n) → (m : Note) → In m (o ∷ ns) → P m
notes_more o ns new old m here = new
notes_more o ns new old m (there h) = old m h

eq_is : (a b : ℕ) → (a == b) ≡ true → a ≡ b
eq_is a b e = grind arith

-- which stands have the number of Finished
finished_of : (s : Stage) → stand_number (stand_of s) ≡ 4 → phase_of s ≡ Finished
finished_of Waits e = absurd (omega arith)
finished_of (Promised k) e = absurd (omega arith)
finished_of (Posted k) e = absurd (omega arith)
finished_of (Given k) e = absurd (omega arith)
finished_of (Runs k) e = absurd (omega arith)
finished_of (Loops k) e = absurd (omega arith)
finished_of Done e = refl
finished_of Gone e = refl

in_going : (a : ℕ) (ns : List Note) (n : Note) → In n (going a ns) → In n ns
in_going a [] n i = i
in_going a (m ∷ ms) n i = go (not (a % RECORDS == 0) && (suc m.at == a)) i
  where
    go : (b : Bool) → In n (cond b (m ∷ ms) []) → In n (m ∷ ms)
    go true i = i
    go false i = elim i [ ]

in_paths_at : (a : ℕ) (ms : List Spot) (p : Path) → In p (paths_at a ms)
    → (k : ℕ) × (m : Spot) × (get_elem? ms k ≡ some m) × (m.berth.at ≡ a) × (m.path ≡ p)
in_paths_at a [] p i = elim i [ ]
in_paths_at a (m ∷ ms) p i = go (m.berth.at == a) refl i (in_paths_at a ms p)
  where
    Found : List Spot → Type 0
    Found ms = (k : ℕ) × (o : Spot) × (get_elem? ms k ≡ some o) × (o.berth.at ≡ a) × (o.path ≡ p)

    more : Found ms → Found (m ∷ ms)
    more h = (suc h.0, h.1, h.2, h.3, h.4)

    go : (b : Bool) → (m.berth.at == a) ≡ b → In p (cond b (m.path ∷ paths_at a ms) (paths_at a ms)) → (In p (paths_at a ms) → Found ms)
        → Found (m ∷ ms)
    go true e i rest = ⊎_elim (λ (d : p ≡ m.path). (0, m, refl, eq_is m.berth.at a e, sym d))
        (λ (h : In p (paths_at a ms)). more (rest h)) (in_cons p m.path (paths_at a ms) i)
    go false e i rest = more (rest i)

module _ (j : Setup) (lies : Lies) (s : State Slots View) (f : Facts j lies s) (id : ℕ) (v : View) (at : get_elem? s.views id ≡ some v)
    (live : 0 < v.parts) (a n : ℕ) (in_a : a < RECORDS * j.workers) (n_is : n ≡ word_at (layout_of j) s.words (record_word a 0)) where
  abbrev l : Layout
  l = layout_of j

  fit : Fits j lies s.words id v
  fit = f.fits id v at

  -- the word is 0 or a state that is not Empty
  pub packed_there : (n ≡ 0) ⊎ ((x : StateWord) × IsStateWord x × (x.stand ≢ S.Empty) × (n ≡ packed_state x))
  packed_there = elim (f.words.named a in_a) [
    | inl z ↦ inl (n_is ∙ z)
    | inr (inl (p, t, is, t_live, at_is)) ↦ inr (
      state_of t,
      (f.words.sound p t is).state,
      never_empty t.stage,
      n_is ∙
          (ap (λ (b : ℕ). word_at l s.words (record_word b 0)) (sym at_is) ∙ says_state l lies s.words f.words p t is t_live),
    )
    | inr (inr (x, fits, fin, x_is)) ↦ inr (x, fits, (λ e. (let z : S.Finished ≡ S.Empty = sym fin ∙ e in cc)), n_is ∙ x_is)
  ]

  -- of a task that lies there it is the state
  state_is : (p : Path) (t : Lie) → lies p ≡ some t → is_gone t.stage ≡ false → t.berth.at ≡ a → n ≡ packed_state (state_of t)
  state_is p t is t_live at_is = n_is ∙ (ap (λ (b : ℕ). word_at l s.words (record_word b 0)) (sym at_is)
      ∙ says_state l lies s.words f.words p t is t_live)

  finished_there : (p : Path) (t : Lie) → lies p ≡ some t → is_gone t.stage ≡ false → t.berth.at ≡ a → stand_in n ≡ 4
      → phase_of t.stage ≡ Finished
  finished_there p t is t_live at_is four = finished_of t.stage
      (sym (word_parts (state_of t) (f.words.sound p t is).state).0 ∙ (ap stand_in (sym (state_is p t is t_live at_is)) ∙ four))

  pub note_is : IsSo l lies s.words (note_of a n)
  note_is = record {
    inside = in_a;
    used = λ pos. elim packed_there [
      | inl z ↦ absurd (omega arith)
      | inr (x, fits, taken, x_is) ↦ subst (λ (k : ℕ). frame_floor (frame_in n) < k) n_is
          (let e : frame_in n ≡ x.frame = ap frame_in x_is ∙ (word_parts x fits).2 in
          let g : frame_floor (frame_in n) ≡ frame_floor x.frame = ap frame_floor e in let h = above_floor x taken in omega arith)
    ];
    says = λ pos p t is t_live at_is frame_is. record {
      fork = sym (ap fork_in (state_is p t is t_live at_is) ∙ (word_parts (state_of t) (f.words.sound p t is).state).1);
      finished = finished_there p t is t_live at_is;
      counted = λ d. absurd (cc d);
      accesses = refl;
    };
  }

  learnt_is : (p : Path) → stand_in n ≡ 4 → In p (learnt v a) → IsKnownFinished lies p
  learnt_is p four i = elim (in_append (cond (a == 0) ([] ∷ []) []) (paths_at a v.region.spots) p i) [
    | inl h ↦ of_main (a == 0) refl h
    | inr h ↦ (let m = in_paths_at a v.region.spots p h in let o = (fit.owns live).spots m.0 m.1 m.2 in let t = o.1 in
        (t.0, ap lies (sym m.4) ∙ t.1, finished_there m.1.path t.0 t.1 t.3 (ap (λ (b : Berth). b.at) t.2 ∙ m.3) four))
  ]
    where
      of_main : (b : Bool) → (a == 0) ≡ b → In p (cond b ([] ∷ []) []) → IsKnownFinished lies p
      of_main false e i = elim i [ ]
      of_main true e i = ⊎_elim (λ (d : p ≡ []). let r = f.root in
          (r.0, ap lies d ∙ r.1, finished_there [] r.0 r.1 r.3 (ap (λ (b : Berth). b.at) r.2 ∙ sym (eq_is a 0 e)) four))
          (λ (h : In p []). elim h [ ]) (in_cons p [] [] i)

  pub known_is : (p : Path) → In p (cond (stand_in n == 4) (learnt v a) [] ++ v.seen.known) → IsKnownFinished lies p
  known_is p i = elim (in_append (cond (stand_in n == 4) (learnt v a) []) v.seen.known p i) [
    | inl h ↦ go
        (stand_in n == 4) refl h
    | inr h ↦ fit.known p h
  ]
    where
      go : (b : Bool) → (stand_in n == 4) ≡ b → In p (cond b (learnt v a) []) → IsKnownFinished lies p
      go true e h = learnt_is p (eq_is (stand_in n) 4 e) h
      go false e h = elim h [ ]

  pub stands_now : Facts j lies record { words = s.words; homes = s.homes; views = set s.views id (stands v a n) }
  stands_now = learned j lies s f id v at live
      (record {
        known = cond (stand_in n == 4)
            (learnt v a) [] ++ v.seen.known;
        notes = note_of a n ∷ going a v.seen.notes;
        stop = v.seen.stop;
        line = v.seen.line;
      })
      known_is (λ m i. notes_more (note_of a n) (going a v.seen.notes) note_is
      (λ o g. fit.notes o (in_going a v.seen.notes o g)) m i) fit.stop fit.line

-- a load of a state word
pub stands_at : (opening : List ℕ) (slots id : ℕ) (me : Me Slots View) (j : Setup) (a i : ℕ) → me.0.setup ≡ Some j → 0 < me.0.parts
    → a < RECORDS * j.workers → i ≡ state_place (layout_of j) a
    → Allows (Holds opening) slots id me i (λ n. n) (Tells (Stands a) (step slots i 0 0 none) me)
stands_at opening slots id me j a i setup live in_a i_is s h _ at _ =
    let x = inside opening s j id me.0 h at live setup in let lies = x.0 in let f = x.1 in let n : ℕ = get_or s.words i 0 in
    let n_is : n ≡ word_at (layout_of j) s.words (record_word a 0) = ap (slice_index s.words) i_is in (
      stands me.0 a n,
      keeps,
      tt,
      load_holds opening j lies s i id me.1 (stands me.0 a n) (stands_now j lies s f id me.0 at live a n in_a n_is),
      ((packed_there j lies s f id me.0 at live a n in_a n_is, refl), refl),
    )

-- and then the head there: by now the record may be another task's, and then the note says nothing
pub scans_head : (opening : List ℕ) (slots id : ℕ) (me : Me Slots View) (j : Setup) (o : Note) (ns : List Note) (i : ℕ)
    → me.0.setup ≡ Some j → 0 < me.0.parts → me.0.seen.notes ≡ o ∷ ns → i ≡ place (layout_of j) (record_word o.at 1)
    → Allows (Holds opening) slots id me i (λ n. n) (Tells (ScansHead o ns) (step slots i 0 0 none) me)
scans_head opening slots id me j o ns i setup live notes_are i_is s h _ at _ =
    let v : View = me.0 in let x = inside opening s j id v h at live setup in let lies = x.0 in let f = x.1 in let l = layout_of j in
    let n : ℕ = get_or s.words i 0 in
    let fit = f.fits id v at in let old = fit.notes o (subst (In o) (sym notes_are) here) in
    let n_is : n ≡ word_at l s.words (record_word o.at 1) = ap (slice_index s.words) i_is in
    let b = f.words.heads o.at old.inside in
    let m : Note = headed_so o b.0 in
    let new : IsSo l lies s.words m = record {
      inside = old.inside;
      used = old.used;
      says = λ pos q y e y_live here_too frame_too. let k = old.says pos q y e y_live here_too frame_too in record {
        fork = k.fork;
        finished = k.finished;
        counted = λ d. ap (λ (z : HeadWord). z.accesses) (head_words.apart (head_of y) b.0 (f.words.sound q y e).head b.1
            (sym (says_field l lies s.words f.words q y e y_live 1 (packed_head (head_of y)) (omega arith) refl) ∙
            (ap (λ (a : ℕ). word_at l s.words (record_word a 1)) here_too ∙ b.2)));
        accesses = k.accesses;
      };
    } in (
      with_note v m ns,
      keeps,
      tt,
      load_holds opening j lies s i id me.1 (with_note v m ns)
          (learned j lies s f id v at live (record v.seen { notes = m ∷ ns }) fit.known
          (λ c g. notes_more m ns new (λ c g. fit.notes c (subst (In c) (sym notes_are) (there g))) c g) fit.stop fit.line),
      ((b.0, b.1, n_is ∙ b.2, refl), refl),
    )

get_below : {A : Type 0} (xs : List A) (i : ℕ) → i < length xs → (x : A) × (get_elem? xs i ≡ some x)
get_below [] i h = absurd (omega arith)
get_below (x ∷ xs) zero h = (x, refl)
get_below (x ∷ xs) (suc i) h = get_below xs i (omega arith)

take_more : (xs ys : List Access) (a : Access) → xs ≡ take (length xs) ys → get_elem? ys (length xs) ≡ some a
    → xs ++ a ∷ [] ≡ take (length (xs ++ a ∷ [])) ys
take_more [] [] a e h = absurd (some-ne-none a (sym h))
take_more [] (y ∷ ys) a e h = ap (λ (z : Access). z ∷ []) (sym (some-injective y a h))
take_more (x ∷ xs) [] a e h = absurd (cc e)
take_more (x ∷ xs) (y ∷ ys) a e h = let first : x ≡ y = cc in let rest : xs ≡ take
    (length xs) ys = cc in λ i. first i ∷ take_more xs ys a rest h i

-- the field of an access
pub access_field : (t : Lie) (k : ℕ) → task_field t (13 + k) ≡ access_word (get_elem? t.berth.call.accesses k)
access_field t k = ap (task_field t) e ∙
    (ap (λ (b : Bool). cond b (get_elem? t.berth.call.ints (8 + k)) (access_word (get_elem? t.berth.call.accesses (8 + k - 8)))) behind
    ∙ ap (λ (i : ℕ). access_word (get_elem? t.berth.call.accesses i)) d)
  where
    e : 13 + k ≡ suc (suc (suc (suc (suc (8 + k)))))
    e = omega arith

    d : 8 + k - 8 ≡ k
    d = omega arith

    behind : nat_lt (8 + k) 8 ≡ false
    behind = grind arith

-- its next access
pub scans_access : (opening : List ℕ) (slots id : ℕ) (me : Me Slots View) (j : Setup) (o : Note) (ns : List Note) (i : ℕ)
    → me.0.setup ≡ Some j → 0 < me.0.parts → me.0.seen.notes ≡ o ∷ ns → o.headed ≡ true → length o.accesses < o.count → o.count ≤ 8
    → i ≡ place (layout_of j) (record_word o.at (13 + length o.accesses))
    → Allows (Holds opening) slots id me i (λ n. n) (Tells (ScansAccess (layout_of j) o ns) (step slots i 0 0 none) me)
scans_access opening slots id me j o ns i setup live notes_are headed less few i_is s h _ at _ =
    let v : View = me.0 in let x = inside opening s j id v h at live setup in let lies = x.0 in let f = x.1 in let l = layout_of j in
    let n : ℕ = get_or s.words i 0 in
    let fit = f.fits id v at in let old = fit.notes o (subst (In o) (sym notes_are) here) in let k = length o.accesses in
    let n_is : n ≡ word_at l s.words (record_word o.at (13 + k)) = ap (slice_index s.words) i_is in
    let b = f.words.accesses o.at k old.inside (omega arith) in
    let m : Note = found_so o b.0 in
    let new : IsSo l lies s.words m = record {
      inside = old.inside;
      used = old.used;
      says = λ pos q y e y_live here_too frame_too. let g = old.says pos q y e y_live here_too frame_too in record {
        fork = g.fork;
        finished = g.finished;
        counted = g.counted;
        accesses =
            let many = g.counted headed in let c = get_below y.berth.call.accesses k (omega arith) in
            let word : word_at l s.words (record_word y.berth.at
            (13 + k)) ≡ packed_access c.0 = says_field l lies s.words f.words q y e y_live (13 + k) (packed_access c.0) (omega arith)
            (access_field y k ∙ ap access_word c.1) in
            let same : c.0 ≡ b.0 = access_words.apart c.0 b.0 ((f.words.sound q y e).accesses k c.0 c.1) b.1
            (sym word ∙ (ap (λ (a : ℕ). word_at l s.words (record_word a (13 + k))) here_too ∙ b.3)) in
            take_more o.accesses y.berth.call.accesses b.0 g.accesses (c.1 ∙ ap some same);
      };
    } in (
      with_note v m ns,
      keeps,
      tt,
      load_holds opening j lies s i id me.1 (with_note v m ns)
          (learned j lies s f id v at live (record v.seen { notes = m ∷ ns }) fit.known
          (λ c g. notes_more m ns new (λ c g. fit.notes c (subst (In c) (sym notes_are) (there g))) c g) fit.stop fit.line),
      ((b.0, b.1, b.2, n_is ∙ b.3, refl), refl),
    )

-- WHAT THE RECORD OF A TASK IN HAND SAYS, for good

-- a field that is the same in whatever task with this berth
abbrev pub IsField : Berth → ℕ → ℕ → Type 0
IsField b f x = (suc f < FIELDS) × ((t : Lie) → t.berth ≡ b → later_field t f ≡ some x)

shows : (opening : List ℕ) (slots id : ℕ) (me : Me Slots View) (s : State Slots View) (i x : ℕ) → Holds opening s
    → get_elem? s.views id ≡ some me.0 → slice_index s.words i ≡ x
    → (w : View) × (a : Rattle.atomic_table.specs.Table.Act Slots) × Rattle.atomic_table.specs.Table.Valid s.homes me.1 a
    × Holds opening (stepped s i (get_or s.words i 0) id me.1 w a)
    × Tells (Shows x) (step slots i 0 0 none) me (get_or s.words i 0) (w, Rattle.atomic_table.specs.Table.carried_after me.1 a)
shows opening slots id me s i x h at found = (
  me.0,
  keeps,
  tt,
  subst (Holds opening) (sym (same_state s i id me.0 me.1 at)) h,
  ((found, refl), refl),
)

field_there : (j : Setup) (lies : Lies) (s : State Slots View) → Facts j lies s → (b : Berth) (p : Path) (t : Lie) → lies p ≡ some t
    → is_gone t.stage ≡ false → t.berth ≡ b → (f x : ℕ) → IsField b f x → word_at (layout_of j) s.words (record_word b.at (suc f)) ≡ x
field_there j lies s facts b p t is t_live berth f x field = ap (λ (z : Berth). word_at (layout_of j) s.words (record_word z.at (suc f)))
    (sym berth) ∙ says_field (layout_of j) lies s.words facts.words p t is t_live (suc f) x field.0 (field.1 t berth)

pub looks_given : (opening : List ℕ) (slots id : ℕ) (me : Me Slots View) (j : Setup) (m : Spot) (f x i : ℕ) → me.0.setup ≡ Some j
    → 0 < me.0.parts → In m me.0.tasks.given → IsField m.berth f x → i ≡ place (layout_of j) (record_word m.berth.at (suc f))
    → Allows (Holds opening) slots id me i (λ n. n) (Tells (Shows x) (step slots i 0 0 none) me)
looks_given opening slots id me j m f x i setup live given field i_is s h _ at _ =
    let y = inside opening s j id me.0 h at live setup in let g = (y.1.fits id me.0 at).given m given in
    shows opening slots id me s i x h at (ap (slice_index s.words) i_is ∙ field_there j y.0 s y.1 m.berth m.path g.0 g.1
    (ap is_gone g.3.1) g.2 f x field)

pub looks_running : (opening : List ℕ) (slots id : ℕ) (me : Me Slots View) (j : Setup) (e : Execution) (f x i : ℕ) → me.0.setup ≡ Some j
    → 0 < me.0.parts → In e me.0.tasks.running → IsField e.spot.berth f x → i ≡ place (layout_of j) (record_word e.spot.berth.at (suc f))
    → Allows (Holds opening) slots id me i (λ n. n) (Tells (Shows x) (step slots i 0 0 none) me)
looks_running opening slots id me j e f x i setup live runs field i_is s h _ at _ =
    let y = inside opening s j id me.0 h at live setup in let g = (y.1.fits id me.0 at).running e runs in
    shows opening slots id me s i x h at (ap (slice_index s.words) i_is ∙ field_there j y.0 s y.1 e.spot.berth e.spot.path g.0 g.1
    (ap is_gone g.3.1 ∙ runs_live e.looping g.3.0) g.2.berth f x field)

-- and the state word of a task that lies there
state_shown : (opening : List ℕ) (slots id : ℕ) (me : Me Slots View) (s : State Slots View) (i : ℕ) (j : Setup) (lies : Lies)
    → Holds opening s → Facts j lies s → get_elem? s.views id ≡ some me.0 → (b : Berth) (p : Path) (t : Lie) → lies p ≡ some t
    → is_gone t.stage ≡ false → t.berth ≡ b → i ≡ state_place (layout_of j) b.at
    → (w : View) × (a : Rattle.atomic_table.specs.Table.Act Slots) × Rattle.atomic_table.specs.Table.Valid s.homes me.1 a
    × Holds opening (stepped s i (get_or s.words i 0) id me.1 w a)
    × Tells (ShowsState b) (step slots i 0 0 none) me (get_or s.words i 0) (w, Rattle.atomic_table.specs.Table.carried_after me.1 a)
state_shown opening slots id me s i j lies h f at b p t is t_live berth i_is = (
  me.0,
  keeps,
  tt,
  subst (Holds opening) (sym (same_state s i id me.0 me.1 at)) h,
  (
    (
      (
        stand_of t.stage,
        subst (λ (z : Berth). IsState z (stand_of t.stage)) berth (f.words.sound p t is).state,
        never_empty t.stage,
        ap (slice_index s.words) i_is ∙ (ap (λ (z : Berth). word_at (layout_of j) s.words (record_word z.at 0)) (sym berth) ∙
            (says_state (layout_of j) lies s.words f.words p t is t_live ∙ ap (λ (z : Berth). state_word z (stand_of t.stage)) berth)),
      ),
      refl,
    ),
    refl,
  ),
)

pub looks_own_state : (opening : List ℕ) (slots id : ℕ) (me : Me Slots View) (j : Setup) (m : Spot) (a i : ℕ) → me.0.setup ≡ Some j
    → 0 < me.0.parts → get_elem? me.0.region.spots a ≡ some m → i ≡ state_place (layout_of j) m.berth.at
    → Allows (Holds opening) slots id me i (λ n. n) (Tells (ShowsState m.berth) (step slots i 0 0 none) me)
looks_own_state opening slots id me j m a i setup live at_a i_is s h _ at _ =
    let y = inside opening s j id me.0 h at live setup in let g = (((y.1.fits id me.0 at).owns live).spots a m at_a).1 in
    state_shown opening slots id me s i j y.0 h y.1 at m.berth m.path g.0 g.1 g.3 g.2 i_is

pub looks_given_state : (opening : List ℕ) (slots id : ℕ) (me : Me Slots View) (j : Setup) (m : Spot) (i : ℕ) → me.0.setup ≡ Some j
    → 0 < me.0.parts → In m me.0.tasks.given → i ≡ state_place (layout_of j) m.berth.at
    → Allows (Holds opening) slots id me i (λ n. n) (Tells (ShowsState m.berth) (step slots i 0 0 none) me)
looks_given_state opening slots id me j m i setup live given i_is s h _ at _ =
    let y = inside opening s j id me.0 h at live setup in let g = (y.1.fits id me.0 at).given m given in
    state_shown opening slots id me s i j y.0 h y.1 at m.berth m.path g.0 g.1 (ap is_gone g.3.1) g.2 i_is

pub looks_promised_state : (opening : List ℕ) (slots id : ℕ) (me : Me Slots View) (j : Setup) (m : Promise) (i : ℕ) → me.0.setup ≡ Some j
    → 0 < me.0.parts → In m me.0.tasks.promised → i ≡ state_place (layout_of j) m.spot.berth.at
    → Allows (Holds opening) slots id me i (λ n. n) (Tells (ShowsState m.spot.berth) (step slots i 0 0 none) me)
looks_promised_state opening slots id me j m i setup live promised i_is s h _ at _ =
    let y = inside opening s j id me.0 h at live setup in let g = y.1.asked.promises id me.0 at m promised in
    state_shown opening slots id me s i j y.0 h y.1 at m.spot.berth m.spot.path g.0 g.1 (ap is_gone g.3) g.2 i_is

pub looks_running_state : (opening : List ℕ) (slots id : ℕ) (me : Me Slots View) (j : Setup) (e : Execution) (i : ℕ)
    → me.0.setup ≡ Some j → 0 < me.0.parts → In e me.0.tasks.running → i ≡ state_place (layout_of j) e.spot.berth.at
    → Allows (Holds opening) slots id me i (λ n. n) (Tells (ShowsState e.spot.berth) (step slots i 0 0 none) me)
looks_running_state opening slots id me j e i setup live runs i_is s h _ at _ =
    let y = inside opening s j id me.0 h at live setup in let g = (y.1.fits id me.0 at).running e runs in
    state_shown opening slots id me s i j y.0 h y.1 at e.spot.berth e.spot.path g.0 g.1 (ap is_gone g.3.1 ∙ runs_live e.looping g.3.0) g.2.berth i_is
