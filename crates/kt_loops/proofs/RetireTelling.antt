-- A retirement and the count of what is left, as the table asks for them, and what each tells.
use Rattle.std.proofs.Common.{◌≡◌, ℕ, ◌+◌, ◌-◌, ◌%◌, ◌^◌, ◌<◌, ◌≤◌, ◌==◌, true, List, [], ◌∷◌, ◌++◌, length, MatchBool, eq-eqb, ne_eqb, set, get_or, slice_index, sym, refl, ap, ◌∙◌, subst, arith, Option, Some}
use mathlib.Core.Option.{none}
use native.Mathlib.Decide.{ℕ_discrete}
use Rattle.atomic_table.specs.Table.{State, Me, Act, Valid, carried_after, stepped, keeps, step, Allows}
use Rattle.kt_law.specs.declared.limits.TheConstants.{LENGTH}
use Rattle.kt_order.specs.Body.{Stop}
use Rattle.kt_order.specs.Rest.{left}
use Rattle.kt_prog.specs.Script.{Fault}
use Rattle.kt_prog.specs.Reference.{machine_of}
use Rattle.kt_words.specs.Places.{place, record_word}
use Rattle.kt_rule.specs.declared.views.Setup.{Setup}
use Rattle.kt_rule.specs.declared.views.Berth.{Berth}
use Rattle.kt_rule.specs.declared.views.Spot.{Spot}
use Rattle.kt_rule.specs.declared.views.IndexRun.{IndexRun}
use Rattle.kt_rule.specs.declared.views.Execution.{Execution}
use Rattle.kt_rule.specs.declared.views.View.{View}
use Rattle.kt_rule.specs.Lists.{In}
use Rattle.kt_rule.specs.Lies.{Lie, Lies}
use Rattle.kt_rule.specs.Records.{layout_of}
use Rattle.kt_rule.specs.Facts.{index_task}
use Rattle.kt_rule.specs.Rule.{Slots, Facts, Holds}
use Rattle.kt_rule.specs.Steps.{Tells}
use Rattle.kt_steps.proofs.Steps.{set_word, inside, holds_so, holds_at, same_state}
use Rattle.kt_steps.proofs.Telling.{the_some}
use Rattle.kt_loops.specs.Hands.{retires_some, finds_none_left}
use Rattle.kt_loops.specs.Told.{AreOver, RetiresSome, CountsLeft}
use Rattle.kt_loops.proofs.RetireSteps as retire

list_one : {A : Type 0} {x y : A} {xs ys : List A} → x ∷ xs ≡ y ∷ ys → (x ≡ y) × (xs ≡ ys)
list_one e = (cc, cc)

-- a list's front of one length is one list
same_front : {A : Type 0} (xs ys cs ds : List A) → xs ++ cs ≡ ys ++ ds → length xs ≡ length ys → (xs ≡ ys) × (cs ≡ ds)
same_front [] [] cs ds e n = (refl, e)
same_front [] (y ∷ ys) cs ds e n = absurd (omega (arith, n))
same_front (x ∷ xs) [] cs ds e n = absurd (omega (arith, n))
same_front (x ∷ xs) (y ∷ ys) cs ds e n = let h = list_one e in let r = same_front xs ys cs ds h.1 (omega (arith, n)) in
    (λ i. h.0 i ∷ r.0 i, r.1)

module _ (opening : List ℕ) (slots id : ℕ) (me : Me Slots View) (j : Setup) (setup : me.0.setup ≡ Some j) (live : 0 < me.0.parts) where
  load_holds : (lies : Lies) (s : State Slots View) (i : ℕ) (w : View) → Facts j lies record { words = s.words; homes = s.homes; views = set s.views id w }
      → Holds opening (stepped s i (get_or s.words i 0) id me.1 w keeps)
  load_holds lies s i w f = holds_so opening _ j lies
      (subst (λ (ws : List ℕ). Facts j lies record { words = ws; homes = s.homes; views = set s.views id w }) (sym (set_word s.words i)) f)

  -- how many indexes of the running loop are left
  pub left_told : (e : Execution) (rest : List Execution) (i : ℕ) → me.0.tasks.running ≡ e ∷ rest → e.looping ≡ true
      → i ≡ place (layout_of j) (record_word e.spot.berth.at 4) → Allows (Holds opening) slots id me i (λ n. n)
      (Tells CountsLeft (step slots i 0 0 none) me)
  left_told e rest i runs looping i_is s h out at word = go (ℕ_discrete n 0)
    where
      there_is : (lies : Lies) × Facts j lies s
      there_is = inside opening s j id me.0 h at live setup

      n : ℕ
      n = slice_index s.words i

      x : retire.Left j there_is.0 s e
      x = retire.left_there j there_is.0 s there_is.1 id me.0 at e rest runs looping

      n_is : n ≡ x.task.unretired
      n_is = ap (slice_index s.words) i_is ∙ x.counts

      few : n ≤ LENGTH
      few = let a = n_is in let b = x.most in omega (arith, a, b)

      same_path : (y : Execution) (ys : List Execution) → me.0.tasks.running ≡ y ∷ ys → finds_none_left me.0 e.spot.path ≡ finds_none_left me.0 y.spot.path
      same_path y ys is = ap (λ (z : Execution). finds_none_left me.0 z.spot.path) (list_one (sym runs ∙ is)).0

      Goal : Type 0
      Goal = (u : View) × (a : Act Slots) × Valid s.homes me.1 a × Holds opening (stepped s i n id me.1 u a)
          × Tells CountsLeft (step slots i 0 0 none) me n (u, carried_after me.1 a)

      go : Dec (n ≡ 0) → Goal
      go (yes z) = (
        finds_none_left me.0 e.spot.path,
        keeps,
        tt,
        load_holds there_is.0 s i (finds_none_left me.0 e.spot.path)
            (retire.none_left_it j there_is.0 s there_is.1 id me.0 at live e.spot.path x.task x.is x.late (let a = n_is in omega (arith, a, z))),
        (
          (λ y ys is on. (
            few,
            subst (λ b. MatchBool b (finds_none_left me.0 e.spot.path ≡ finds_none_left me.0 y.spot.path)
                (finds_none_left me.0 e.spot.path ≡ me.0)) (sym (eq-eqb n 0 z)) (same_path y ys is),
          )),
          refl,
        ),
      )
      go (no z) = (
        me.0,
        keeps,
        tt,
        subst (Holds opening) (sym (same_state s i id me.0 me.1 at)) h,
        ((λ y ys is on. (few, subst (λ b. MatchBool b (me.0 ≡ finds_none_left me.0 y.spot.path) (me.0 ≡ me.0)) (sym (ne_eqb n 0 z)) refl)), refl),
      )

  -- indexes in hand are retired
  pub retires_told : (m : Spot) (done rest : List IndexRun) (over : AreOver me.0 m done rest) (count i : ℕ)
      → 1 ≤ length done → length done ≡ count → i ≡ place (layout_of j) (record_word m.berth.at 4)
      → Allows (Holds opening) slots id me i (λ n. (n + (2 ^ 64 - count)) % 2 ^ 64) (Tells RetiresSome (step slots i count 0 none) me)
  retires_told m done rest over count i some_done many_is i_is s h out at word = go (ℕ_discrete n count)
    where
      there_is : (lies : Lies) × Facts j lies s
      there_is = inside opening s j id me.0 h at live setup

      same_setup : over.setup ≡ j
      same_setup = the_some (sym over.told ∙ setup)

      at_end : (e : IndexRun) → In e done → (fault : Option Fault) × (left (machine_of j.program) (index_task j e) ≡ Stop fault)
      at_end e k = subst (λ (z : Setup). (fault : Option Fault) × (left (machine_of z.program) (index_task z e) ≡ Stop fault)) same_setup (over.over e k)

      n : ℕ
      n = slice_index s.words i

      task : Lie
      task = retire.t j there_is.0 s there_is.1 id me.0 at live m done rest over.first over.same at_end some_done there_is.1.accepted

      berth_is : task.berth ≡ m.berth
      berth_is = retire.lies_there j there_is.0 s there_is.1 id me.0 at live m done rest over.first over.same at_end some_done there_is.1.accepted

      i_at : place (layout_of j) (record_word task.berth.at 4) ≡ i
      i_at = ap (λ (b : Berth). place (layout_of j) (record_word b.at 4)) berth_is ∙ sym i_is

      n_is : n ≡ task.unretired
      n_is = ap (slice_index s.words) (sym i_at) ∙ retire.counts j there_is.0 s there_is.1 id me.0 at live m done rest over.first over.same at_end some_done there_is.1.accepted

      enough : length done ≤ task.unretired
      enough = retire.many j there_is.0 s there_is.1 id me.0 at live m done rest over.first over.same at_end some_done there_is.1.accepted

      few : task.unretired ≤ LENGTH
      few = retire.most j there_is.0 s there_is.1 id me.0 at live m done rest over.first over.same at_end some_done there_is.1.accepted

      bounds : (count ≤ n) × (n ≤ LENGTH)
      bounds = let a = n_is in let b = enough in let c = few in let d = many_is in (omega (arith, a, b, d), omega (arith, a, c))

      new_is : task.unretired - length done ≡ (n + (2 ^ 64 - count)) % 2 ^ 64
      new_is = let a = n_is in let b = enough in let c = few in let d = many_is in omega (arith, a, b, c, d)

      -- whichever indexes they are said to be
      same_view : (m2 : Spot) (done2 rest2 : List IndexRun) → AreOver me.0 m2 done2 rest2 → length done2 ≡ count
          → (retires_some me.0 done rest ≡ retires_some me.0 done2 rest2) × (m ≡ m2)
      same_view m2 done2 rest2 over2 many2 =
          let r = same_front done done2 rest rest2 (sym over.first ∙ over2.first) (many_is ∙ sym many2) in
          let e = retire.some_of done some_done in
          ((λ k. retires_some me.0 (r.0 k) (r.1 k)), sym (over.same e.0 e.1) ∙ over2.same e.0 (subst (In e.0) r.0 e.1))

      Goal : Type 0
      Goal = (u : View) × (a : Act Slots) × Valid s.homes me.1 a × Holds opening (stepped s i ((n + (2 ^ 64 - count)) % 2 ^ 64) id me.1 u a)
          × Tells RetiresSome (step slots i count 0 none) me n (u, carried_after me.1 a)

      go : Dec (n ≡ count) → Goal
      go (yes z) = let w : View = finds_none_left (retires_some me.0 done rest) m.path in (
        w,
        keeps,
        tt,
        holds_at opening j _ s id (place (layout_of j) (record_word task.berth.at 4)) i (task.unretired - length done) ((n + (2 ^ 64 - count)) % 2 ^ 64) w w
            i_at new_is refl
            (retire.last_lie j there_is.0 s there_is.1 id me.0 at live m done rest over.first over.same at_end some_done there_is.1.accepted
            (sym n_is ∙ (z ∙ sym many_is))),
        (
          (λ m2 done2 rest2 over2 many2. let r = same_view m2 done2 rest2 over2 many2 in (
            bounds.0,
            bounds.1,
            subst (λ b. MatchBool b (w ≡ finds_none_left (retires_some me.0 done2 rest2) m2.path) (w ≡ retires_some me.0 done2 rest2))
                (sym (eq-eqb n count z)) (λ k. finds_none_left (r.0 k) (r.1 k).path),
          )),
          refl,
        ),
      )
      go (no z) = let w : View = retires_some me.0 done rest in (
        w,
        keeps,
        tt,
        holds_at opening j _ s id (place (layout_of j) (record_word task.berth.at 4)) i (task.unretired - length done) ((n + (2 ^ 64 - count)) % 2 ^ 64) w w
            i_at new_is refl
            (retire.retires_lie j there_is.0 s there_is.1 id me.0 at live m done rest over.first over.same at_end some_done there_is.1.accepted),
        (
          (λ m2 done2 rest2 over2 many2. let r = same_view m2 done2 rest2 over2 many2 in (
            bounds.0,
            bounds.1,
            subst (λ b. MatchBool b (w ≡ finds_none_left (retires_some me.0 done2 rest2) m2.path) (w ≡ retires_some me.0 done2 rest2))
                (sym (ne_eqb n count z)) r.0,
          )),
          refl,
        ),
      )

-- none are left where as many were found as were retired
pub none_over : (A B : Type 0) (n k r : ℕ) → k ≤ n → r ≡ n - k → MatchBool (n == k) A B → MatchBool (r == 0) A B
none_over A B n k r least is h = go (ℕ_discrete n k)
  where
    go : Dec (n ≡ k) → MatchBool (r == 0) A B
    go (yes e) = subst (λ b. MatchBool b A B) (sym (eq-eqb r 0 (omega (arith, is, e)))) (subst (λ b. MatchBool b A B) (eq-eqb n k e) h)
    go (no e) = subst (λ b. MatchBool b A B) (sym (ne_eqb r 0 (λ z. e (omega (arith, is, z, least))))) (subst (λ b. MatchBool b A B) (ne_eqb n k e) h)
