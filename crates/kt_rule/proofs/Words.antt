-- The words of records: what a state word shows of its task, and what stays when one task and the words change.
use Rattle.std.proofs.Common.{◌≡◌, ◌≢◌, ℕ, zero, suc, ◌+◌, ◌*◌, ◌<◌, ◌≤◌, ◌⊎◌, Bool, true, false, cond, List, length, take, sym, refl, ap, ◌∙◌, subst, inl, inr, arith, ⊎_elim}
use mathlib.Core.Option.{none, some, some-injective, some-ne-none}
use native.Mathlib.Decide.{ℕ_discrete}
use Rattle.kt_law.specs.declared.stands.Stand.{Stand}
use Rattle.kt_law.specs.declared.stands.Stand.TheVariants as S
use Rattle.kt_order.specs.Forest.{Finished}
use Rattle.kt_runs.specs.ByPath.{Path, child}
use Rattle.kt_words.specs.Places.{Place, IsWithin, record_word, shared_word, worker_word, element_word, version_word}
use Rattle.kt_words.specs.Words.{stand_number, packed_state, IsStateWord}
use Rattle.kt_words.specs.declared.layouts.TheConstants.{RECORDS, FIELDS}
use Rattle.kt_words.specs.declared.layouts.Layout.{Layout}
use Rattle.kt_words.specs.declared.states.StateWord.{StateWord}
use Rattle.kt_words.proofs.StateLaws.{state_words}
use Rattle.kt_rule.specs.declared.views.Berth.{Berth}
use Rattle.kt_rule.specs.declared.views.Note.{Note}
use Rattle.kt_rule.specs.Paths.{put}
use Rattle.kt_rule.specs.Lies.{Stage, Waits, Promised, Posted, Given, Runs, Loops, Done, Gone, Lie, Lies, phase_of, stand_of, is_gone}
use Rattle.kt_rule.specs.Records.{word_at, state_of, later_field, task_field, field_of, stand_in, fork_in, frame_in, frame_floor}
use Rattle.kt_rule.specs.Facts.{Sound, IsHeadAt, IsAccessAt, IsLeft, Words, IsSo, IsKnownFinished}
use Rattle.kt_rule.proofs.Puts.{put_here, put_cases, at_put}

-- the state that a word is packed from
pub state_one : (v w : StateWord) → IsStateWord v → IsStateWord w → packed_state v ≡ packed_state w → v ≡ w
state_one v w h k e = state_words.apart v w h k e

number_pos : (s : Stand) → s ≢ S.Empty → 0 < stand_number s
number_pos S.Empty n = absurd (n refl)
number_pos S.Unclaimed n = omega arith
number_pos (S.Given k) n = omega arith
number_pos (S.Running k) n = omega arith
number_pos S.Finished n = omega arith

pub number_below : (s : Stand) → stand_number s < 8
number_below S.Empty = omega arith
number_below S.Unclaimed = omega arith
number_below (S.Given k) = omega arith
number_below (S.Running k) = omega arith
number_below S.Finished = omega arith

-- the record of a task is never empty
pub never_empty : (s : Stage) → stand_of s ≢ S.Empty
never_empty Waits e = cc
never_empty (Promised k) e = cc
never_empty (Posted k) e = cc
never_empty (Given k) e = cc
never_empty (Runs k) e = cc
never_empty (Loops k) e = cc
never_empty Done e = cc
never_empty Gone e = cc

-- the parts of a word
pub word_parts : (v : StateWord) → IsStateWord v
    → (stand_in (packed_state v) ≡ stand_number v.stand) × (fork_in (packed_state v) ≡ v.fork) × (frame_in (packed_state v) ≡ v.frame)
unfolding stand_in fork_in frame_in packed_state
word_parts v h = let a = h.fork_fits in let b = h.worker_fits in let c = number_below v.stand in (omega arith, omega arith, omega arith)

-- the state word of a task is above the floor of its frame, however it stands, and not above the next frame's
pub above_floor : (v : StateWord) → v.stand ≢ S.Empty → frame_floor v.frame < packed_state v
unfolding frame_floor packed_state
above_floor v n = let h = number_pos v.stand n in omega arith

pub below_next : (v : StateWord) → IsStateWord v → packed_state v ≤ frame_floor (suc v.frame)
unfolding frame_floor packed_state
below_next v fits = let a = fits.fork_fits in let b = fits.worker_fits in let c = number_below v.stand in omega arith

pub floors : (f g : ℕ) → f ≤ g → frame_floor f ≤ frame_floor g
unfolding frame_floor
floors f g h = omega arith

pub same_floor : (g : ℕ) (v w : StateWord) → IsStateWord v → w.frame ≡ v.frame → w.stand ≢ S.Empty → frame_floor g < packed_state v
    → frame_floor g < packed_state w
unfolding frame_floor packed_state
same_floor g v w fits frame n h = let a = fits.fork_fits in let b = fits.worker_fits in let c = number_below v.stand in
    let d = number_pos w.stand n in omega arith

pub not_above : (g : ℕ) (v w : StateWord) → IsStateWord w → w.frame ≡ v.frame → v.stand ≢ S.Empty → packed_state v ≤ frame_floor g
    → packed_state w ≤ frame_floor g
unfolding frame_floor packed_state
not_above g v w fits frame n h = let a = fits.fork_fits in let b = fits.worker_fits in let c = number_below w.stand in
    let d = number_pos v.stand n in omega arith

pub state_pos : (v : StateWord) → v.stand ≢ S.Empty → 0 < packed_state v
unfolding packed_state
state_pos v n = let h = number_pos v.stand n in omega arith

true_or_false : (b : Bool) → (b ≡ true) ⊎ (b ≡ false)
true_or_false true = inl refl
true_or_false false = inr refl

-- THE WORDS OF A LIVE TASK

module _ (l : Layout) (lies : Lies) (ws : List ℕ) (wd : Words l lies ws) (p : Path) (t : Lie) (is : lies p ≡ some t)
    (live : is_gone t.stage ≡ false) where
  pub says_field : (f n : ℕ) → f < FIELDS → task_field t f ≡ some n → word_at l ws (record_word t.berth.at f) ≡ n
  says_field f n less e = wd.says p t is f n less (ap (λ (b : Bool). cond b none (task_field t f)) live ∙ e)

  pub says_state : word_at l ws (record_word t.berth.at 0) ≡ packed_state (state_of t)
  says_state = says_field 0 (packed_state (state_of t)) (omega arith) refl

  pub word_pos : 0 < word_at l ws (record_word t.berth.at 0)
  word_pos = let s = says_state in let h = state_pos (state_of t) (never_empty t.stage) in omega arith

-- WHAT STAYS OF A TASK

-- the same task in the same record
pub record Same (x y : Lie) : Type 0 where
  pub berth : y.berth ≡ x.berth
  pub gone : is_gone x.stage ≡ true → is_gone y.stage ≡ true
  pub ends : phase_of x.stage ≡ Finished → phase_of y.stage ≡ Finished

pub same_lie : (x y : Lie) → x ≡ y → Same x y
same_lie x y e = record {
  berth = ap (λ (z : Lie). z.berth) (sym e);
  gone = λ d. ap (λ (z : Lie). is_gone z.stage) (sym e) ∙ d;
  ends = λ d. ap (λ (z : Lie). phase_of z.stage) (sym e) ∙ d;
}

module _ (x y : Lie) (s : Same x y) where
  pub same_at : y.berth.at ≡ x.berth.at
  same_at = ap (λ (z : Berth). z.at) s.berth

  pub same_frame : y.berth.frame ≡ x.berth.frame
  same_frame = ap (λ (z : Berth). z.frame) s.berth

  -- a task that lives did so before
  pub lived : is_gone y.stage ≡ false → is_gone x.stage ≡ false
  lived e = elim (true_or_false (is_gone x.stage)) [ inl t ↦ (let z : true ≡ false = sym (s.gone t) ∙ e in cc) | inr f ↦ f ]

-- tasks stay where they lie, a new one lies where the word was of no later frame, and no word goes back to an earlier frame
pub record Keeps (l : Layout) (lies : Lies) (ws : List ℕ) (lies' : Lies) (ws' : List ℕ) : Type 0 where
  pub kept : (q : Path) (x : Lie) → lies q ≡ some x → (y : Lie) × (lies' q ≡ some y) × Same x y
  pub back : (q : Path) (y : Lie) → lies' q ≡ some y → ((x : Lie) × (lies q ≡ some x) × Same x y) ⊎
      (word_at l ws (record_word y.berth.at 0) ≤ frame_floor y.berth.frame)
  pub used : (a g : ℕ) → a < RECORDS * l.workers → frame_floor g < word_at l ws (record_word a 0)
      → frame_floor g < word_at l ws' (record_word a 0)

pub nothing_changes : (l : Layout) (lies : Lies) (ws : List ℕ) → Keeps l lies ws lies ws
nothing_changes l lies ws = record {
  kept = λ q x e. (x, e, same_lie x x refl);
  back = λ q y e. inl
      (y, e, same_lie y y refl);
  used = λ a g less h. h;
}

module _ (l : Layout) (lies : Lies) (ws : List ℕ) (lies' : Lies) (ws' : List ℕ) (k : Keeps l lies ws lies' ws') where
  pub berth_keeps : (p : Path) (b : Berth) → (x : Lie) × (lies p ≡ some x) × (x.berth ≡ b)
      → (y : Lie) × (lies' p ≡ some y) × (y.berth ≡ b)
  berth_keeps p b h = let y = k.kept p h.0 h.1 in (y.0, y.1, y.2.berth ∙ h.2)

  pub known_keeps : (p : Path) → IsKnownFinished lies p → IsKnownFinished lies' p
  known_keeps p h = let y = k.kept p h.0 h.1 in (y.0, y.1, y.2.ends h.2)

  -- a note stays so
  pub note_keeps : (n : Note) → IsSo l lies ws n → IsSo l lies' ws' n
  note_keeps n h = record {
    inside = h.inside;
    used = λ pos. k.used n.at (frame_in n.word) h.inside (h.used pos);
    says = λ pos p y e live at frame. elim (k.back p y e) [
      | inl (x, is, s) ↦ (let o = h.says pos p x is (lived x y s live) (sym (same_at x y s) ∙ at)
          (sym (same_frame x y s) ∙ frame) in record {
            fork = ap (λ (b : Berth). b.fork) s.berth ∙ o.fork;
            finished = λ f. s.ends (o.finished f);
            counted = λ f. ap (λ (b : Berth). length b.call.accesses) s.berth ∙ o.counted f;
            accesses = o.accesses ∙ ap (λ (b : Berth). take (length n.accesses) b.call.accesses) (sym s.berth);
          })
      | inr z ↦ (let u = h.used pos in
          let w : word_at l ws (record_word n.at 0) ≡ word_at l ws (record_word y.berth.at 0) = ap
          (λ (a : ℕ). word_at l ws (record_word a 0)) (sym at) in
          let x : frame_floor (frame_in n.word) ≡ frame_floor y.berth.frame = ap frame_floor (sym frame) in absurd (omega arith))
    ];
  }

-- a word of no record and no element
abbrev pub IsPlain : Place → Type 0
IsPlain (shared_word w) = Unit {0}
IsPlain (worker_word k w) = Unit {0}
IsPlain (record_word a f) = ⊥
IsPlain (element_word e) = ⊥
IsPlain (version_word o) = Unit {0}

-- the words that are of no record and no element stay
abbrev pub Quiet : Layout → List ℕ → List ℕ → Type 0
Quiet l ws ws' = (q : Place) → IsPlain q → IsWithin l q → word_at l ws' q ≡ word_at l ws q

-- one live task takes another stage or goes on, and the words with it
pub record Turn (l : Layout) (lies : Lies) (ws : List ℕ) (p : Path) (t u : Lie) (ws' : List ℕ) : Type 0 where
  pub is : lies p ≡ some t
  pub live : is_gone t.stage ≡ false
  pub still : is_gone u.stage ≡ false
  pub berth : u.berth ≡ t.berth
  pub ends : phase_of t.stage ≡ Finished → phase_of u.stage ≡ Finished
  pub fields : (f : ℕ) → later_field u f ≡ later_field t f
  pub sound : Sound p u
  pub long : length ws' ≡ length ws
  pub state : word_at l ws' (record_word t.berth.at 0) ≡ packed_state (state_of u)
  pub apart : (a : ℕ) → a < RECORDS * l.workers → a ≢ t.berth.at → word_at l ws' (record_word a 0) ≡ word_at l ws (record_word a 0)
  pub later : (a f : ℕ) → a < RECORDS * l.workers → suc f < FIELDS
      → word_at l ws' (record_word a (suc f)) ≡ word_at l ws (record_word a (suc f))
  pub quiet : Quiet l ws ws'

module _ (l : Layout) (lies : Lies) (ws : List ℕ) (p : Path) (t u : Lie) (ws' : List ℕ) (it : Turn l lies ws p t u ws')
    (wd : Words l lies ws) where
  abbrev lies' : Lies
  lies' = put lies p (some u)

  same_tu : Same t u
  same_tu = record { berth = it.berth; gone = λ e. (let z : true ≡ false = sym e ∙ it.live in cc); ends = it.ends }

  -- a task of after, and what it was before
  pub record Was (q : Path) (y : Lie) : Type 0 where
    pub x : Lie
    pub is : lies q ≡ some x
    pub same : Same x y
    pub gone : is_gone y.stage ≡ is_gone x.stage
    pub fields : (f : ℕ) → later_field y f ≡ later_field x f

  was_there : (q : Path) (y : Lie) → lies q ≡ some y → Was q y
  was_there q y e = record { x = y; is = e; same = same_lie y y refl; gone = refl; fields = λ f. refl }

  was_turned : (q : Path) → p ≡ q → Was q u
  was_turned q e = record { x = t; is = ap lies (sym e) ∙ it.is; same = same_tu; gone = it.still ∙ sym it.live; fields = it.fields }

  pub turn_back : (q : Path) (y : Lie) → lies' q ≡ some y → Was q y
  turn_back q y e = ⊎_elim (λ (h : (p ≡ q) × (u ≡ y)). subst (Was q) h.1 (was_turned q h.0))
      (λ (h : (p ≢ q) × (lies q ≡ some y)). was_there q y h.1) (at_put lies p q u y e)

  -- and a task of before, and what it is now
  pub turn_kept : (q : Path) (x : Lie) → lies q ≡ some x → (y : Lie) × (lies' q ≡ some y) × Same x y × (is_gone y.stage ≡ is_gone x.stage)
  turn_kept q x e = elim (put_cases lies p (some u) q) [
    | inl h ↦ (let x_is : t ≡ x = some-injective t x (sym it.is ∙ (ap lies h.0 ∙ e)) in
        (u, h.1, subst (λ (z : Lie). Same z u) x_is same_tu, it.still ∙ (sym it.live ∙ ap (λ (z : Lie). is_gone z.stage) x_is)))
    | inr h ↦ (x, h.1 ∙ e, same_lie x x refl, refl)
  ]

  said : word_at l ws (record_word t.berth.at 0) ≡ packed_state (state_of t)
  said = says_state l lies ws wd p t it.is it.live

  same_state_frame : (state_of u).frame ≡ (state_of t).frame
  same_state_frame = ap (λ (b : Berth). b.frame) it.berth

  at_or : (a : ℕ) → (a ≡ t.berth.at) ⊎ (a ≢ t.berth.at)
  at_or a = elim (ℕ_discrete a t.berth.at) [ yes e ↦ inl e | no n ↦ inr n ]

  word_then : (a : ℕ) → a ≡ t.berth.at → word_at l ws (record_word a 0) ≡ packed_state (state_of t)
  word_then a e = ap (λ (b : ℕ). word_at l ws (record_word b 0)) e ∙ said

  word_now : (a : ℕ) → a ≡ t.berth.at → word_at l ws' (record_word a 0) ≡ packed_state (state_of u)
  word_now a e = ap (λ (b : ℕ). word_at l ws' (record_word b 0)) e ∙ it.state

  pub turn_zeros : (a : ℕ) → a < RECORDS * l.workers → word_at l ws (record_word a 0) ≡ 0 → word_at l ws' (record_word a 0) ≡ 0
  turn_zeros a less z = it.apart a less (λ e. let n = state_pos (state_of t) (never_empty t.stage) in
      let s = word_then a e in omega arith) ∙ z

  -- no word comes to a later frame
  pub turn_low : (a g : ℕ) → a < RECORDS * l.workers → word_at l ws (record_word a 0) ≤ frame_floor g
      → word_at l ws' (record_word a 0) ≤ frame_floor g
  turn_low a g less h = elim (at_or a) [
    | inl e ↦ (let w = word_then a e in let n = word_now a e in
        let m = not_above g (state_of t) (state_of u) it.sound.state same_state_frame (never_empty t.stage)
        (subst (λ (x : ℕ). x ≤ frame_floor g) w h) in omega arith)
    | inr n ↦ subst (λ (x : ℕ). x ≤ frame_floor g) (sym (it.apart a less n)) h
  ]

  pub turn_keeps : Keeps l lies ws lies' ws'
  turn_keeps = record {
    kept = λ q x e. let y = turn_kept q x e in (y.0, y.1, y.2);
    back = λ q y e. let x = turn_back q y e in inl (x.x, x.is, x.same);
    used = λ a g less h. elim (at_or a) [
      | inl e ↦ (let w = word_then a e in let n = word_now a e in
          let m = same_floor g (state_of t) (state_of u) (wd.sound p t it.is).state same_state_frame (never_empty u.stage)
          (subst (λ (x : ℕ). frame_floor g < x) w h) in omega arith)
      | inr n ↦ subst (λ (x : ℕ). frame_floor g < x) (sym (it.apart a less n)) h
    ];
  }

  pub turn_words : Words l lies' ws'
  turn_words = record {
    wide = let a = it.long in let w = wd.wide in omega arith;
    inside = λ q y e. let x = turn_back q y e in let a = same_at x.x y x.same in let i = wd.inside q x.x x.is in omega arith;
    sound = λ q y e. ⊎_elim (λ (h : (p ≡ q) × (u ≡ y)). subst (λ (z : Path × Lie). Sound z.0 z.1) (λ i. (h.0 i, h.1 i)) it.sound)
        (λ (h : (p ≢ q) × (lies q ≡ some y)). wd.sound q y h.1) (at_put lies p q u y e);
    says = says_at;
    alone = λ q r y z e d live_y live_z at. let x = turn_back q y e in
        let o = turn_back r z d in wd.alone q r x.x o.x x.is o.is (sym x.gone ∙ live_y) (sym o.gone ∙ live_z)
        (sym (same_at x.x y x.same) ∙ (at ∙ same_at o.x z o.same));
    named = λ a less. elim (at_or a) [
      | inl e ↦ inr (inl (p, u, put_here lies p (some u), it.still, ap (λ (b : Berth). b.at) it.berth ∙ sym e))
      | inr n ↦ (elim (wd.named a less) [
        | inl z ↦ inl (it.apart a less n ∙ z)
        | inr (inl h) ↦ inr (inl (let y = turn_kept h.0 h.1 h.2 in (h.0, y.0, y.1, y.3 ∙ h.3, same_at h.1 y.0 y.2 ∙ h.4)))
        | inr (inr h) ↦ inr (inr (subst IsLeft (sym (it.apart a less n)) h))
      ])
    ];
    beside = λ q i k y z e d. let x = turn_back (child q i) y e in let o = turn_back (child q k) z d in
        let b = wd.beside q i k x.x o.x x.is o.is in
        let b2 = b.2 in let a = same_at x.x y x.same in let c = same_at o.x z o.same in
        (x.gone ∙ (b.0 ∙ sym o.gone), same_frame x.x y x.same ∙ (b.1 ∙ sym (same_frame o.x z o.same)), omega arith);
    numbered = λ q i y e. let x = turn_back (child q i) y e in ap (λ (b : Berth). b.fork) x.same.berth ∙ wd.numbered q i x.x x.is;
    parents = λ q i y z e d. let x = turn_back (child q i) y e in
        let o = turn_back q z d in ap (λ (b : Berth). b.parent) x.same.berth ∙
        (wd.parents q i x.x o.x x.is o.is ∙ ap suc (sym (same_at o.x z o.same)));
    above = λ q i y z e d live. let x = turn_back (child q i) y e in let o = turn_back q z d in
        o.gone ∙ wd.above q i x.x o.x x.is o.is (sym x.gone ∙ live);
    heads = λ a less. subst IsHeadAt (sym (it.later a 0 less (omega arith))) (wd.heads a less);
    accesses = λ a k less few. let e : suc (12 + k) ≡ 13 + k = omega arith in
        subst (λ (g : ℕ). IsAccessAt l.objects (word_at l ws' (record_word a g))) e
        (subst (IsAccessAt l.objects) (sym (it.later a (12 + k) less (omega arith)))
        (subst (λ (g : ℕ). IsAccessAt l.objects (word_at l ws (record_word a g))) (sym e) (wd.accesses a k less few)));
  }
    where
      says_at : (q : Path) (y : Lie) → lies' q ≡ some y → (f n : ℕ) → f < FIELDS → field_of y f ≡ some n
          → word_at l ws' (record_word y.berth.at f) ≡ n
      says_at q y e zero n less is = ⊎_elim
          (λ (h : (p ≡ q) × (u ≡ y)). let y_is : field_of u 0 ≡ some n = ap (λ (z : Lie). field_of z 0) h.1 ∙ is in
          let n_is : some (packed_state (state_of u)) ≡ some n = sym (ap (λ (b : Bool). cond b none (task_field u 0)) it.still) ∙ y_is in
          ap (λ (z : Lie). word_at l ws' (record_word z.berth.at 0)) (sym h.1) ∙
          (word_now u.berth.at (ap (λ (b : Berth). b.at) it.berth) ∙ some-injective (packed_state (state_of u)) n n_is))
          (λ (h : (p ≢ q) × (lies q ≡ some y)). it.apart y.berth.at (wd.inside q y h.1)
          (λ d. h.0 (wd.alone p q t y it.is h.1 it.live (lives y n is) (sym d))) ∙ wd.says q y h.1 0 n less is)
          (at_put lies p q u y e)
        where
          lives : (y : Lie) (n : ℕ) → field_of y 0 ≡ some n → is_gone y.stage ≡ false
          lives y n e = elim (true_or_false (is_gone y.stage)) [
            | inl g ↦ absurd
                (some-ne-none n (sym e ∙ ap (λ (b : Bool). cond b none (task_field y 0)) g))
            | inr f ↦ f
          ]
      says_at q y e (suc f) n less is =
          let x = turn_back q y e in
          ap (λ (a : ℕ). word_at l ws' (record_word a (suc f))) (same_at x.x y x.same)
          ∙ (it.later x.x.berth.at f (wd.inside q x.x x.is) less ∙ wd.says q x.x x.is (suc f) n less
          ((λ i. cond (sym x.gone i) none (sym (x.fields f) i)) ∙ is))
