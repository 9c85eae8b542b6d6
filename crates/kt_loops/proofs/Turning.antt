-- The words of records where a running task changes as a loop: its book, its first position, or that it begins. The state words stay, and of its
-- record at most the first position and the count of what is left change.
use Rattle.std.proofs.Common.{◌≡◌, ◌≢◌, ℕ, zero, suc, ◌+◌, ◌*◌, ◌<◌, ◌≤◌, ◌⊎◌, Bool, true, false, cond, List, length, sym, refl, ap, ◌∙◌, subst, inl, inr, arith, ⊎_elim}
use mathlib.Core.Option.{none, some, some-injective, some-ne-none}
use native.Mathlib.Decide.{ℕ_discrete}
use lib.ListN.{get_elem?}
use Rattle.kt_order.specs.Forest.{Finished}
use Rattle.kt_runs.specs.ByPath.{Path, child}
use Rattle.kt_words.specs.Places.{record_word, worker_word, request, post, answer}
use Rattle.kt_words.specs.Words.{packed_state, packed_pair, IsStateWord, IsHeadWord}
use Rattle.kt_words.specs.declared.layouts.Layout.{Layout}
use Rattle.kt_words.specs.declared.layouts.TheConstants.{RECORDS, FIELDS}
use Rattle.kt_words.specs.declared.states.StateWord.{StateWord}
use Rattle.kt_rule.specs.declared.views.Berth.{Berth}
use Rattle.kt_rule.specs.declared.views.Execution.{Execution}
use Rattle.kt_rule.specs.declared.views.Region.{Region}
use Rattle.kt_rule.specs.Paths.{put}
use Rattle.kt_rule.specs.Lies.{Lie, Lies, phase_of, stand_of, is_gone}
use Rattle.kt_rule.specs.Records.{word_at, state_of, head_of, later_field, field_of, task_field, argument_of, own_record, drawn_at, positions_at, stop_at, frame_floor}
use Rattle.kt_rule.specs.Facts.{is_begun, Sound, Words, IsHeadAt, IsAccessAt, IsLeft, Owns, runs_as}
use Rattle.kt_rule.proofs.Puts.{put_cases, at_put}
use Rattle.kt_rule.proofs.Words.{Same, same_lie, same_at, same_frame, Keeps, says_state}
use Rattle.kt_rule.proofs.Moves.{at_below}

-- the words of requests stay
pub record DesksStay (l : Layout) (ws ws' : List ℕ) : Type 0 where
  pub requests : (k : ℕ) → k < l.workers → word_at l ws' (worker_word k request) ≡ word_at l ws (worker_word k request)
  pub posts : (k : ℕ) → k < l.workers → word_at l ws' (worker_word k post) ≡ word_at l ws (worker_word k post)
  pub answers : (k : ℕ) → k < l.workers → word_at l ws' (worker_word k answer) ≡ word_at l ws (worker_word k answer)

pub record LoopTurn (l : Layout) (lies : Lies) (ws : List ℕ) (p : Path) (t u : Lie) (ws' : List ℕ) : Type 0 where
  pub is : lies p ≡ some t
  -- whoever runs it does so on
  pub runner : ℕ
  pub was : Bool
  pub now : Bool
  pub runs : t.stage ≡ runs_as was runner
  pub runs_still : u.stage ≡ runs_as now runner
  pub berth : u.berth ≡ t.berth
  pub long : length ws' ≡ length ws
  pub states : (a : ℕ) → a < RECORDS * l.workers → word_at l ws' (record_word a 0) ≡ word_at l ws (record_word a 0)
  pub apart : (a f : ℕ) → a < RECORDS * l.workers → suc f < FIELDS → a ≢ t.berth.at
      → word_at l ws' (record_word a (suc f)) ≡ word_at l ws (record_word a (suc f))
  pub fields : (a f : ℕ) → a < RECORDS * l.workers → suc f < FIELDS → f ≢ 2 → f ≢ 3
      → word_at l ws' (record_word a (suc f)) ≡ word_at l ws (record_word a (suc f))
  pub first : word_at l ws' (record_word t.berth.at 3) ≡ packed_pair (record { low = u.berth.call.length; high = u.first })
  pub left : word_at l ws' (record_word t.berth.at 4) ≡ u.unretired
  pub desks : DesksStay l ws ws'
  pub drawn : word_at l ws' drawn_at ≡ word_at l ws drawn_at
  pub stop : word_at l ws' stop_at ≡ word_at l ws stop_at
  pub rises : word_at l ws positions_at ≤ word_at l ws' positions_at

runs_live : (b : Bool) (k : ℕ) → is_gone (runs_as b k) ≡ false
runs_live false k = refl
runs_live true k = refl

runs_begun : (b : Bool) (k : ℕ) → is_begun (runs_as b k) ≡ 1
runs_begun false k = refl
runs_begun true k = refl

runs_stand : (a b : Bool) (k : ℕ) → stand_of (runs_as a k) ≡ stand_of (runs_as b k)
runs_stand false false k = refl
runs_stand false true k = refl
runs_stand true false k = refl
runs_stand true true k = refl

not_finished : (b : Bool) (k : ℕ) → phase_of (runs_as b k) ≡ Finished → ⊥
not_finished false k e = cc
not_finished true k e = cc

at_or : (a b : ℕ) → (a ≡ b) ⊎ (a ≢ b)
at_or a b = elim (ℕ_discrete a b) [ yes e ↦ inl e | no n ↦ inr n ]

true_or_false : (b : Bool) → (b ≡ true) ⊎ (b ≡ false)
true_or_false true = inl refl
true_or_false false = inr refl

module _ (l : Layout) (lies : Lies) (ws : List ℕ) (p : Path) (t u : Lie) (ws' : List ℕ) (it : LoopTurn l lies ws p t u ws')
    (wd : Words l lies ws) where
  abbrev lies' : Lies
  lies' = put lies p (some u)

  pub live : is_gone t.stage ≡ false
  live = ap is_gone it.runs ∙ runs_live it.was it.runner

  pub still : is_gone u.stage ≡ false
  still = ap is_gone it.runs_still ∙ runs_live it.now it.runner

  same_tu : Same t u
  same_tu = record {
    berth = it.berth;
    gone = λ e. (let z : true ≡ false = sym e ∙ live in cc);
    ends = λ e. absurd (not_finished it.was it.runner (ap phase_of (sym it.runs) ∙ e));
  }

  -- a task of after, and what it was before
  pub record Was (q : Path) (y : Lie) : Type 0 where
    pub x : Lie
    pub is : lies q ≡ some x
    pub same : Same x y
    pub gone : is_gone y.stage ≡ is_gone x.stage

  was_there : (q : Path) (y : Lie) → lies q ≡ some y → Was q y
  was_there q y e = record { x = y; is = e; same = same_lie y y refl; gone = refl }

  was_turned : (q : Path) → p ≡ q → Was q u
  was_turned q e = record { x = t; is = ap lies (sym e) ∙ it.is; same = same_tu; gone = still ∙ sym live }

  pub turn_back : (q : Path) (y : Lie) → lies' q ≡ some y → Was q y
  turn_back q y e = ⊎_elim (λ (h : (p ≡ q) × (u ≡ y)). subst (Was q) h.1 (was_turned q h.0))
      (λ (h : (p ≢ q) × (lies q ≡ some y)). was_there q y h.1) (at_put lies p q u y e)

  -- and a task of before, and what it is now
  pub turn_kept : (q : Path) (x : Lie) → lies q ≡ some x → (y : Lie) × (lies' q ≡ some y) × Same x y × (is_gone y.stage ≡ is_gone x.stage)
  turn_kept q x e = elim (put_cases lies p (some u) q) [
    | inl h ↦ (let x_is : t ≡ x = some-injective t x (sym it.is ∙ (ap lies h.0 ∙ e)) in
        (u, h.1, subst (λ (z : Lie). Same z u) x_is same_tu, still ∙ (sym live ∙ ap (λ (z : Lie). is_gone z.stage) x_is)))
    | inr h ↦ (x, h.1 ∙ e, same_lie x x refl, refl)
  ]

  pub turn_keeps : Keeps l lies ws lies' ws'
  turn_keeps = record {
    kept = λ q x e. let y = turn_kept q x e in (y.0, y.1, y.2);
    back = λ q y e. let x = turn_back q y e in inl (x.x, x.is, x.same);
    used = λ a g less h. subst (λ (x : ℕ). frame_floor g < x) (sym (it.states a less)) h;
  }

  -- its state word says what it said
  same_state : state_of u ≡ state_of t
  same_state = λ i. record {
    frame = (it.berth i).frame;
    fork = (it.berth i).fork;
    stand = (ap stand_of it.runs_still ∙ (runs_stand it.now it.was it.runner ∙ ap stand_of (sym it.runs))) i;
  }

  turn_sound : Sound p u
  turn_sound = let s = wd.sound p t it.is in record {
    state = subst (λ (z : StateWord). IsStateWord z) (sym same_state) s.state;
    head = subst (λ (b : Berth). IsHeadWord (head_of (record t { berth = b }))) (sym it.berth) s.head;
    deep = ap (λ (b : Berth). b.call.depth) it.berth ∙ s.deep;
    accesses = λ k a e. s.accesses k a (ap (λ (b : Berth). get_elem? b.call.accesses k) (sym it.berth) ∙ e);
    fresh = λ none_begun. absurd (let z : 1 ≡ 0 = sym (runs_begun it.now it.runner) ∙ (ap is_begun (sym it.runs_still) ∙ none_begun) in cc);
  }

  -- a later field that is neither of the two
  same_field : (f : ℕ) → f ≢ 2 → f ≢ 3 → later_field u f ≡ later_field t f
  same_field zero a b = ap (λ (z : Berth). later_field (record t { berth = z }) 0) it.berth
  same_field (suc zero) a b = ap (λ (z : Berth). some z.parent) it.berth
  same_field (suc (suc zero)) a b = absurd (a refl)
  same_field (suc (suc (suc zero))) a b = absurd (b refl)
  same_field (suc (suc (suc (suc k)))) a b = ap (λ (z : Berth). argument_of z.call k) it.berth

  said_t : (f n : ℕ) → suc f < FIELDS → later_field t f ≡ some n → word_at l ws (record_word t.berth.at (suc f)) ≡ n
  said_t f n less e = wd.says p t it.is (suc f) n less (ap (λ (b : Bool). cond b none (later_field t f)) live ∙ e)

  says_else : (f n : ℕ) → suc f < FIELDS → f ≢ 2 → f ≢ 3 → later_field u f ≡ some n → word_at l ws' (record_word t.berth.at (suc f)) ≡ n
  says_else f n less a b e = it.fields t.berth.at f (wd.inside p t it.is) less a b ∙ said_t f n less (sym (same_field f a b) ∙ e)

  says_u : (f n : ℕ) → suc f < FIELDS → later_field u f ≡ some n → word_at l ws' (record_word t.berth.at (suc f)) ≡ n
  says_u zero n less e = says_else 0 n less (λ d. cc) (λ d. cc) e
  says_u (suc zero) n less e = says_else 1 n less (λ d. omega (arith, d)) (λ d. omega (arith, d)) e
  says_u (suc (suc zero)) n less e = it.first ∙ some-injective _ n e
  says_u (suc (suc (suc zero))) n less e = it.left ∙ some-injective _ n e
  says_u (suc (suc (suc (suc k)))) n less e = says_else (suc (suc (suc (suc k)))) n less (λ d. omega (arith, d)) (λ d. omega (arith, d)) e

  lives : (y : Lie) (f n : ℕ) → field_of y f ≡ some n → is_gone y.stage ≡ false
  lives y f n e = elim (true_or_false (is_gone y.stage)) [
    | inl g ↦ absurd (some-ne-none n (sym e ∙ ap (λ (b : Bool). cond b none (task_field y f)) g))
    | inr h ↦ h
  ]

  says_at : (q : Path) (y : Lie) → lies' q ≡ some y → (f n : ℕ) → f < FIELDS → field_of y f ≡ some n
      → word_at l ws' (record_word y.berth.at f) ≡ n
  says_at q y e zero n less is = ⊎_elim
      (λ (h : (p ≡ q) × (u ≡ y)). let y_is : field_of u 0 ≡ some n = ap (λ (z : Lie). field_of z 0) h.1 ∙ is in
      let n_is : some (packed_state (state_of u)) ≡ some n = sym (ap (λ (b : Bool). cond b none (task_field u 0)) still) ∙ y_is in
      ap (λ (z : Lie). word_at l ws' (record_word z.berth.at 0)) (sym h.1) ∙
      (ap (λ (b : Berth). word_at l ws' (record_word b.at 0)) it.berth ∙ (it.states t.berth.at (wd.inside p t it.is)
      ∙ (says_state l lies ws wd p t it.is live ∙ (ap packed_state (sym same_state) ∙ some-injective (packed_state (state_of u)) n n_is)))))
      (λ (h : (p ≢ q) × (lies q ≡ some y)). it.states y.berth.at (wd.inside q y h.1) ∙ wd.says q y h.1 0 n less is)
      (at_put lies p q u y e)
  says_at q y e (suc f) n less is = ⊎_elim
      (λ (h : (p ≡ q) × (u ≡ y)). let y_is : field_of u (suc f) ≡ some n = ap (λ (z : Lie). field_of z (suc f)) h.1 ∙ is in
      let n_is : later_field u f ≡ some n = sym (ap (λ (b : Bool). cond b none (later_field u f)) still) ∙ y_is in
      ap (λ (z : Lie). word_at l ws' (record_word z.berth.at (suc f))) (sym h.1) ∙
      (ap (λ (b : Berth). word_at l ws' (record_word b.at (suc f))) it.berth ∙ says_u f n less n_is))
      (λ (h : (p ≢ q) × (lies q ≡ some y)). it.apart y.berth.at f (wd.inside q y h.1) less
      (λ d. h.0 (wd.alone p q t y it.is h.1 live (lives y (suc f) n is) (sym d))) ∙ wd.says q y h.1 (suc f) n less is)
      (at_put lies p q u y e)

  pub turn_words : Words l lies' ws'
  turn_words = record {
    wide = let a = it.long in let w = wd.wide in omega (arith, a, w);
    inside = λ q y e. let x = turn_back q y e in let a = same_at x.x y x.same in let i = wd.inside q x.x x.is in omega (arith, a, i);
    sound = λ q y e. ⊎_elim (λ (h : (p ≡ q) × (u ≡ y)). subst (λ (z : Path × Lie). Sound z.0 z.1) (λ i. (h.0 i, h.1 i)) turn_sound)
        (λ (h : (p ≢ q) × (lies q ≡ some y)). wd.sound q y h.1) (at_put lies p q u y e);
    says = says_at;
    alone = λ q r y z e d live_y live_z at. let x = turn_back q y e in
        let o = turn_back r z d in wd.alone q r x.x o.x x.is o.is (sym x.gone ∙ live_y) (sym o.gone ∙ live_z)
        (sym (same_at x.x y x.same) ∙ (at ∙ same_at o.x z o.same));
    named = λ a less. elim (wd.named a less) [
      | inl z ↦ inl (it.states a less ∙ z)
      | inr (inl h) ↦ inr (inl (let y = turn_kept h.0 h.1 h.2 in (h.0, y.0, y.1, y.3 ∙ h.3, same_at h.1 y.0 y.2 ∙ h.4)))
      | inr (inr h) ↦ inr (inr (subst IsLeft (sym (it.states a less)) h))
    ];
    beside = λ q i k y z e d. let x = turn_back (child q i) y e in let o = turn_back (child q k) z d in
        let b = wd.beside q i k x.x o.x x.is o.is in
        let b2 = b.2 in let a = same_at x.x y x.same in let c = same_at o.x z o.same in
        (x.gone ∙ (b.0 ∙ sym o.gone), same_frame x.x y x.same ∙ (b.1 ∙ sym (same_frame o.x z o.same)), omega (arith, b2, a, c));
    numbered = λ q i y e. let x = turn_back (child q i) y e in ap (λ (b : Berth). b.fork) x.same.berth ∙ wd.numbered q i x.x x.is;
    parents = λ q i y z e d. let x = turn_back (child q i) y e in
        let o = turn_back q z d in ap (λ (b : Berth). b.parent) x.same.berth ∙
        (wd.parents q i x.x o.x x.is o.is ∙ ap suc (sym (same_at o.x z o.same)));
    above = λ q i y z e d alive. let x = turn_back (child q i) y e in let o = turn_back q z d in
        o.gone ∙ wd.above q i x.x o.x x.is o.is (sym x.gone ∙ alive);
    heads = λ a less. subst IsHeadAt (sym (it.fields a 0 less (omega arith) (λ d. cc) (λ d. cc))) (wd.heads a less);
    accesses = λ a k less few. let e : suc (12 + k) ≡ 13 + k = omega arith in
        subst (λ (g : ℕ). IsAccessAt l.objects (word_at l ws' (record_word a g))) e
        (subst (IsAccessAt l.objects) (sym (it.fields a (12 + k) less (omega (arith, few)) (λ d. omega (arith, d)) (λ d. omega (arith, d))))
        (subst (λ (g : ℕ). IsAccessAt l.objects (word_at l ws (record_word a g))) (sym e) (wd.accesses a k less few)));
  }

  -- of every seat's region
  pub turn_owns : (seat : ℕ) (region : Region) (running : List Execution) (begun : ℕ) → seat < l.workers
      → Owns l lies ws seat region running begun → Owns l lies' ws' seat region running begun
  turn_owns seat region running begun few o = record {
    room = o.room;
    spots = λ a m e. let x = o.spots a m e in let y = turn_kept m.path x.1.0 x.1.1 in
        (x.0, (y.0, y.1, y.2.berth ∙ x.1.2, y.3 ∙ x.1.3));
    under = λ q y a e alive less at. let x = turn_back q y e in o.under q x.x a x.is (sym x.gone ∙ alive) less
        (sym (same_at x.x y x.same) ∙ at);
    built = λ less b i. let h = o.built less b i in (h.0, h.1, built_of less b.field h.0 h.1 ∙ h.2);
    stack = o.stack;
    framed = λ e i k y d. let x = turn_back (child e.spot.path k) y d in same_frame x.x y x.same ∙ o.framed e i k x.x x.is;
    falls = o.falls;
    old = λ a less. subst (λ (n : ℕ). n ≤ frame_floor (suc begun)) (sym (it.states (own_record seat a) (omega (arith, few, less)))) (o.old a less);
    low = λ e es is topmost a from less. subst (λ (n : ℕ). n ≤ frame_floor begun) (sym (it.states (own_record seat a) (omega (arith, few, less))))
        (o.low e es is topmost a from less);
  }
    where
      -- the next record is not that of a task
      built_of : length region.spots < RECORDS → (g : ℕ) → 0 < g → g < FIELDS
          → word_at l ws' (record_word (own_record seat (length region.spots)) g) ≡ word_at l ws (record_word (own_record seat (length region.spots)) g)
      built_of less zero pos big = absurd (omega (arith, pos))
      built_of less (suc g) pos big = it.apart (own_record seat (length region.spots)) g (omega (arith, few, less)) big
          (λ d. let m = o.under p t (length region.spots) it.is live less (sym d) in
          let b = at_below region.spots (length region.spots) m.0 m.1 in omega (arith, b))
