-- The operations of a seat on elements as the table asks for them, and what each tells: that of the index which the seat runs, or that of the
-- running body.
use Rattle.std.proofs.Common.{◌≡◌, ℕ, ◌<◌, List, [], ◌∷◌, ◌++◌, slice_index, sym, refl, ap, ◌∙◌, subst, inl, inr, cond, Option, Some}
use mathlib.Core.Option.{none}
use Rattle.atomic_table.specs.Table.{Me, keeps, step, stepped, Allows}
use Rattle.kt_law.specs.Acts.{Act, Deed, Load, Store, Fold}
use Rattle.kt_law.specs.Operators.{fold_of}
use Rattle.kt_law.specs.declared.operators.Op.{Op}
use Rattle.kt_rights.specs.Acts.{is_load, effect}
use Rattle.kt_order.specs.Body.{Do, Stop}
use Rattle.kt_order.specs.Machine.{Machine, Code}
use Rattle.kt_order.specs.Rest.{left}
use Rattle.kt_prog.specs.Script.{Fault}
use Rattle.kt_prog.specs.Reference.{machine_of}
use Rattle.kt_prog.specs.Store.{place_of}
use Rattle.kt_words.specs.Places.{place, element_word}
use Rattle.kt_words.specs.declared.layouts.Layout.{Layout}
use Rattle.kt_rule.specs.declared.views.Setup.{Setup}
use Rattle.kt_rule.specs.declared.views.IndexRun.{IndexRun}
use Rattle.kt_rule.specs.declared.views.View.{View}
use Rattle.kt_rule.specs.Lists.{In, here, there}
use Rattle.kt_rule.specs.Records.{layout_of}
use Rattle.kt_rule.specs.Facts.{index_task}
use Rattle.kt_rule.specs.Rule.{Slots, Holds}
use Rattle.kt_rule.specs.Steps.{Tells, heard as found_by}
use Rattle.kt_steps.specs.Told.{IsLiveOf, DidNext}
use Rattle.kt_steps.proofs.Steps.{inside, holds_at}
use Rattle.kt_steps.proofs.Telling.{the_some, does_load, does_store, does_fold}
use Rattle.kt_pieces.specs.Changes.{heard}
use Rattle.kt_loops.specs.Operations.{AreAtEnd, RunsNoIndex, with_taken, IsNextOn, DidOne, DoesOne}
use Rattle.kt_loops.proofs.IndexSteps as steps

-- WHICH INDEX RUNS

list_one : {A : Type 0} {x y : A} {xs ys : List A} → x ∷ xs ≡ y ∷ ys → (x ≡ y) × (xs ≡ ys)
list_one e = (cc, cc)

-- an entry behind others is among them all
in_middle : {A : Type 0} (xs : List A) (y : A) (ys : List A) → In y (xs ++ y ∷ ys)
in_middle [] y ys = here
in_middle (x ∷ xs) y ys = there (in_middle xs y ys)

module _ (j : Setup) where
  abbrev m : Machine
  m = machine_of j.program

  -- the next operation is an act
  abbrev IsAtAct : IndexRun → Type 0
  IsAtAct e = (d : Act) × (k : ℕ → Code (machine_of j.program)) × (left (machine_of j.program) (index_task j e) ≡ Do d k)

  -- then it is no end
  not_at_end : (e : IndexRun) → IsAtAct e → (fault : Option Fault) → left (machine_of j.program) (index_task j e) ≡ Stop fault → ⊥
  not_at_end e (d, k, acts) fault stops = let z : Do d k ≡ Stop fault = sym acts ∙ stops in cc

  fewer : (x : IndexRun) (xs : List IndexRun) → AreAtEnd j (x ∷ xs) → AreAtEnd j xs
  fewer x xs over e i = over e (there i)

  -- so the first of them that is at an act is one
  same_first : (xs ys : List IndexRun) (a b : IndexRun) (cs ds : List IndexRun) → AreAtEnd j xs → AreAtEnd j ys → IsAtAct a → IsAtAct b
      → xs ++ a ∷ cs ≡ ys ++ b ∷ ds → (xs ≡ ys) × (a ≡ b) × (cs ≡ ds)
  same_first [] [] a b cs ds over_x over_y act_a act_b e = let h = list_one e in (refl, h.0, h.1)
  same_first [] (y ∷ ys) a b cs ds over_x over_y act_a act_b e = let h = list_one e in let stops = over_y y here in
      absurd (not_at_end y (subst IsAtAct h.0 act_a) stops.0 stops.1)
  same_first (x ∷ xs) [] a b cs ds over_x over_y act_a act_b e = let h = list_one e in let stops = over_x x here in
      absurd (not_at_end x (subst IsAtAct (sym h.0) act_b) stops.0 stops.1)
  same_first (x ∷ xs) (y ∷ ys) a b cs ds over_x over_y act_a act_b e = let h = list_one e in
      let r = same_first xs ys a b cs ds (fewer x xs over_x) (fewer y ys over_y) act_a act_b h.1 in
      ((λ i. h.0 i ∷ r.0 i), r.1, r.2)

-- WHAT IS TOLD

module _ (v : View) (j : Setup) (setup : v.setup ≡ Some j) where
  same_setup : (i : Setup) → v.setup ≡ Some i → j ≡ i
  same_setup i told = the_some (sym setup ∙ told)

  -- of an index
  module _ (done : List IndexRun) (e : IndexRun) (rest : List IndexRun) (taken : v.loops.taken ≡ done ++ e ∷ rest) (over : AreAtEnd j done)
      (d : Act) (k : ℕ → Code (machine_of j.program)) (next : left (machine_of j.program) (index_task j e) ≡ Do d k) where
    -- where an index is at an act, some index runs
    runs_one : (i : Setup) → j ≡ i → AreAtEnd i v.loops.taken → ⊥
    runs_one i same all = let stops = subst (λ (z : Setup). AreAtEnd z v.loops.taken) (sym same) all e (subst (In e) (sym taken) (in_middle done e rest)) in
        not_at_end j e (d, k, next) stops.0 stops.1

    -- whichever it is said to be
    same_now : (n : ℕ) (done2 : List IndexRun) (e2 : IndexRun) (rest2 : List IndexRun) → v.loops.taken ≡ done2 ++ e2 ∷ rest2 → AreAtEnd j done2
        → (b : Act) (k2 : ℕ → Code (machine_of j.program)) → left (machine_of j.program) (index_task j e2) ≡ Do b k2
        → with_taken v (done ++ heard (found_by d n) e ∷ rest) ≡ with_taken v (done2 ++ heard (found_by b n) e2 ∷ rest2)
    same_now n done2 e2 rest2 taken2 over2 b k2 next2 =
        let r = same_first j done done2 e e2 rest rest2 over over2 (d, k, next) (b, k2, next2) (sym taken ∙ taken2) in
        let act_is : d ≡ b = one_act (sym next ∙ (ap (λ (z : IndexRun). left (machine_of j.program) (index_task j z)) r.1 ∙ next2)) in
        λ i. with_taken v (r.0 i ++ heard (found_by (act_is i) n) (r.1 i) ∷ r.2 i)
      where
        one_act : {x y : Act} → {f g : ℕ → Code (machine_of j.program)} → Do x f ≡ Do y g → x ≡ y
        one_act h = cc

    pub did_index : (w : View) (n : ℕ) → w ≡ with_taken v (done ++ heard (found_by d n) e ∷ rest) → DidOne v n w
    did_index w n w_is = (
      λ i told. subst (λ (z : Setup). (done2 : List IndexRun) (e2 : IndexRun) (rest2 : List IndexRun) → v.loops.taken ≡ done2 ++ e2 ∷ rest2
          → AreAtEnd z done2 → (b : Act) (k2 : ℕ → Code (machine_of z.program)) → left (machine_of z.program) (index_task z e2) ≡ Do b k2
          → w ≡ with_taken v (done2 ++ heard (found_by b n) e2 ∷ rest2)) (same_setup i told)
          (λ done2 e2 rest2 taken2 over2 b k2 next2. w_is ∙ same_now n done2 e2 rest2 taken2 over2 b k2 next2),
      λ none_runs. absurd (runs_one j refl (none_runs j setup)),
    )

-- of the running body
did_body : (v : View) → RunsNoIndex v → (w : View) (n : ℕ) → DidNext v n w → DidOne v n w
did_body v none_runs w n did = (
  λ i told done e rest taken over d k next. (let stops = none_runs i told e (subst (In e) (sym taken) (in_middle done e rest)) in
      absurd (not_at_end i e (d, k, next) stops.0 stops.1)),
  λ h. did,
)

-- THE STEPS OF AN INDEX

module _ (opening : List ℕ) (slots id : ℕ) (me : Me Slots View) (j : Setup) (setup : me.0.setup ≡ Some j) (live : 0 < me.0.parts)
    (done : List IndexRun) (e : IndexRun) (rest : List IndexRun) (taken : me.0.loops.taken ≡ done ++ e ∷ rest) (over : AreAtEnd j done)
    (d : Act) (k : ℕ → Code (machine_of j.program)) (next : left (machine_of j.program) (index_task j e) ≡ Do d k) (i : ℕ)
    (in_e : place_of j.program.families d < (layout_of j).elements)
    (i_is : i ≡ place (layout_of j) (element_word (place_of j.program.families d))) where
  abbrev after : ℕ → View
  after n = with_taken me.0 (done ++ heard (found_by d n) e ∷ rest)

  -- a load, a store or a fold
  pub index_acts : (first : ℕ) → Allows (Holds opening) slots id me i (effect d.deed) (λ n me'. (me'.0 ≡ after n) × (me'.1 ≡ me.1))
  index_acts first s h out at word =
      let there_is = inside opening s j id me.0 h at live setup in
      let q = place (layout_of j) (element_word (place_of j.program.families d)) in
      let n_is : slice_index s.words q ≡ slice_index s.words i = ap (slice_index s.words) (sym i_is) in (
        after (slice_index s.words i),
        keeps,
        tt,
        holds_at opening j _ s id q i (effect d.deed (slice_index s.words q)) (effect d.deed (slice_index s.words i))
            (after (slice_index s.words q)) (after (slice_index s.words i)) (sym i_is) (ap (effect d.deed) n_is) (ap after n_is)
            (steps.acts_now j there_is.0 s there_is.1 id me.0 at live done e rest taken d k next in_e),
        (refl, refl),
      )

  pub index_loads : d.deed ≡ Load → Allows (Holds opening) slots id me i (λ n. n) (Tells DoesOne (step slots i 0 0 none) me)
  index_loads deed s h out at word = let r = index_acts 0 s h out at word in (
    r.0,
    r.1,
    r.2,
    subst (λ (z : Deed). Holds opening (stepped s i (effect z (slice_index s.words i)) id me.1 r.0 r.1)) deed r.3,
    (did_index me.0 j setup done e rest taken over d k next r.0 (slice_index s.words i) r.4.0, r.4.1),
  )

  pub index_stores : (n : ℕ) → d.deed ≡ Store n → Allows (Holds opening) slots id me i (λ _. n) (λ _. Tells DoesOne (step slots i n 0 none) me n)
  index_stores n deed s h out at word = let r = index_acts n s h out at word in (
    r.0,
    r.1,
    r.2,
    subst (λ (z : Deed). Holds opening (stepped s i (effect z (slice_index s.words i)) id me.1 r.0 r.1)) deed r.3,
    (did_index me.0 j setup done e rest taken over d k next r.0 n (r.4.0 ∙ same_after (slice_index s.words i)), r.4.1),
  )
    where
      silent : (x : ℕ) → found_by d x ≡ []
      silent x = ap (λ (z : Deed). cond (is_load z) (x ∷ []) []) deed

      -- a store finds nothing
      same_after : (x : ℕ) → after x ≡ after n
      same_after x = ap (λ (z : List ℕ). with_taken me.0 (done ++ heard z e ∷ rest)) (silent x ∙ sym (silent n))

  pub index_folds : (n : ℕ) (op : Op) → d.deed ≡ Fold op n
      → Allows (Holds opening) slots id me i (λ x. fold_of op x n) (Tells DoesOne (step slots i n 0 none) me)
  index_folds n op deed s h out at word = let r = index_acts n s h out at word in (
    r.0,
    r.1,
    r.2,
    subst (λ (z : Deed). Holds opening (stepped s i (effect z (slice_index s.words i)) id me.1 r.0 r.1)) deed r.3,
    (did_index me.0 j setup done e rest taken over d k next r.0 (slice_index s.words i) r.4.0, r.4.1),
  )

-- THE STEPS OF A SEAT

-- where it runs no index, the running body's are its own
by_body : (opening : List ℕ) (slots id : ℕ) (me : Me Slots View) (i : ℕ) → RunsNoIndex me.0 → (f told : ℕ → ℕ)
    → Allows (Holds opening) slots id me i f (λ n me'. DidNext me.0 (told n) me'.0 × (me'.1 ≡ me.1))
    → Allows (Holds opening) slots id me i f (λ n me'. DidOne me.0 (told n) me'.0 × (me'.1 ≡ me.1))
by_body opening slots id me i none_runs f told allows s h out at word = let r = allows s h out at word in
    (r.0, r.1, r.2, r.3, (did_body me.0 none_runs r.0 (told (slice_index s.words i)) r.4.0, r.4.1))

module _ (opening : List ℕ) (slots id : ℕ) (me : Me Slots View) (l : Layout) (worker : ℕ) (live : IsLiveOf l worker me.0)
    (element i : ℕ) (in_e : element < l.elements) (i_is : i ≡ place l (element_word element)) where
  layout_is : (j : Setup) → me.0.setup ≡ Some j → layout_of j ≡ l
  layout_is j told = ap layout_of (the_some (sym told ∙ live.told)) ∙ live.layout

  within : (j : Setup) → me.0.setup ≡ Some j → (z : ℕ) → z ≡ element → z < (layout_of j).elements
  within j told z is = subst (λ (y : ℕ). y < (layout_of j).elements) (sym is)
      (subst (λ (y : Layout). element < y.elements) (sym (layout_is j told)) in_e)

  placed : (j : Setup) → me.0.setup ≡ Some j → (z : ℕ) → z ≡ element → i ≡ place (layout_of j) (element_word z)
  placed j told z is = i_is ∙ (λ h. place (sym (layout_is j told) h) (element_word (sym is h)))

  pub one_loads : IsNextOn me.0 element Load → Allows (Holds opening) slots id me i (λ n. n) (Tells DoesOne (step slots i 0 0 none) me)
  one_loads (inl x) = let e : ℕ = place_of x.setup.program.families x.act in
      index_loads opening slots id me x.setup x.told live.live x.done x.head x.rest x.taken x.over x.act x.more x.next i
      (within x.setup x.told e x.place) (placed x.setup x.told e x.place) x.does
  one_loads (inr (none_runs, x)) = let e : ℕ = place_of x.setup.program.families x.act in
      by_body opening slots id me i none_runs (λ n. n) (λ n. n)
      (does_load opening slots id me x.setup x.told live.live x.head x.rest x.act x.more i x.runs x.next
      (within x.setup x.told e x.place) (placed x.setup x.told e x.place) x.does)

  pub one_stores : (n : ℕ) → IsNextOn me.0 element (Store n)
      → Allows (Holds opening) slots id me i (λ _. n) (λ _. Tells DoesOne (step slots i n 0 none) me n)
  one_stores n (inl x) = let e : ℕ = place_of x.setup.program.families x.act in
      index_stores opening slots id me x.setup x.told live.live x.done x.head x.rest x.taken x.over x.act x.more x.next i
      (within x.setup x.told e x.place) (placed x.setup x.told e x.place) n x.does
  one_stores n (inr (none_runs, x)) = let e : ℕ = place_of x.setup.program.families x.act in
      by_body opening slots id me i none_runs (λ _. n) (λ _. n)
      (does_store opening slots id me x.setup x.told live.live x.head x.rest x.act x.more i x.runs x.next
      (within x.setup x.told e x.place) (placed x.setup x.told e x.place) n x.does)

  pub one_folds : (n : ℕ) (op : Op) → IsNextOn me.0 element (Fold op n)
      → Allows (Holds opening) slots id me i (λ x. fold_of op x n) (Tells DoesOne (step slots i n 0 none) me)
  one_folds n op (inl x) = let e : ℕ = place_of x.setup.program.families x.act in
      index_folds opening slots id me x.setup x.told live.live x.done x.head x.rest x.taken x.over x.act x.more x.next i
      (within x.setup x.told e x.place) (placed x.setup x.told e x.place) n op x.does
  one_folds n op (inr (none_runs, x)) = let e : ℕ = place_of x.setup.program.families x.act in
      by_body opening slots id me i none_runs (λ y. fold_of op y n) (λ y. y)
      (does_fold opening slots id me x.setup x.told live.live x.head x.rest x.act x.more i x.runs x.next
      (within x.setup x.told e x.place) (placed x.setup x.told e x.place) n op x.does)
