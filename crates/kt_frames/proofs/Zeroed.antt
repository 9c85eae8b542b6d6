-- What the zeroing of a loop's call makes of a store, and what follows it.
use Rattle.std.proofs.Common.{◌≡◌, ℕ, zero, suc, ◌-◌, Bool, true, false, List, [], ◌∷◌, ◌++◌, Option, Some, None, refl, sym, ap, ◌∙◌, append-nil, append_assoc, is_some, nat_lt, if◌then◌else◌}
use Rattle.kt_law.specs.Acts.{Act, Store}
use Rattle.kt_law.specs.declared.accesses.Access.{Access}
use Rattle.kt_law.specs.declared.limits.TheConstants.{DEFINITIONS}
use Rattle.kt_law.specs.declared.modes.Mode.{Mode}
use Rattle.kt_law.specs.declared.modes.Mode.TheVariants as M
use Rattle.kt_order.specs.Body.{Stop}
use Rattle.kt_order.specs.Machine.{Machine}
use Rattle.kt_order.specs.Sequential.{Alone, alone}
use Rattle.kt_prog.specs.Bodies.{call_body, index_in, indexes, script_of, script_with, task_at, task_or_loop}
use Rattle.kt_prog.specs.Calls.{CallTree, Whole, Index}
use Rattle.kt_prog.specs.Objects.{width_of}
use Rattle.kt_prog.specs.Operations.{is_loop_at, trace, zeroing}
use Rattle.kt_prog.specs.Reference.{Placed, placed, machine_of}
use Rattle.kt_prog.specs.Script.{Script, Step, ◌>>=◌, fork, give, perform}
use Rattle.kt_prog.specs.Zeroing.{zero_access, zero_all, zero_elements, zero_objects}
use Rattle.kt_prog.specs.declared.programs.Index as I
use Rattle.kt_prog.specs.declared.programs.Program.{Program}
use Rattle.kt_prog.specs.declared.programs.Task.{Task}
use Rattle.kt_prog.specs.declared.runs.Operation.{Operation}
use Rattle.kt_prog.specs.declared.runs.Operation.TheVariants as O
use Rattle.kt_store.specs.Stores.{StoreState}
use Rattle.kt_frames.specs.Loops.{placed_indexes}
use Rattle.kt_frames.specs.declared.owner.Owner.{Owner}
use Rattle.kt_frames.proofs.Alike.{Went}

-- an element that is stored 0
pub record Cell : Type 0 where
  pub object : ℕ
  pub element : ℕ

abbrev act_of : Cell → Act
act_of c = record { object = c.object; element = c.element; deed = Store 0 }

abbrev pub stores : List Cell → List Operation
stores [] = []
stores (c ∷ cells) = O.Store c.object c.element 0 ∷ stores cells

stores_append : (xs ys : List Cell) → stores (xs ++ ys) ≡ stores xs ++ stores ys
stores_append [] ys = refl
stores_append (c ∷ xs) ys = ap (λ (l : List Operation). O.Store c.object c.element 0 ∷ l) (stores_append xs ys)

module _ (p : Program) where
  abbrev m : Machine
  m = machine_of p

  abbrev pub zeroed : List Cell → List ℕ → List ℕ
  zeroed [] s = s
  zeroed (c ∷ cells) s = zeroed cells (m.after (act_of c) s)

  zeroed_append : (xs ys : List Cell) (s : List ℕ) → zeroed (xs ++ ys) s ≡ zeroed ys (zeroed xs s)
  zeroed_append [] ys s = refl
  zeroed_append (c ∷ xs) ys s = zeroed_append xs ys (m.after (act_of c) s)

  -- the one does to the store and forks what the other does, and ends so
  pub record Same (a b : Alone m) : Type 0 where
    pub store : a.store ≡ b.store
    pub forks : a.forks ≡ b.forks
    pub fault : a.fault ≡ b.fault

  same_trans : (a b c : Alone m) → Same a b → Same b c → Same a c
  same_trans a b c x y = record { store = x.store ∙ y.store; forks = x.forks ∙ y.forks; fault = x.fault ∙ y.fault }

  -- the steps store 0 to these elements, and then whatever follows goes on
  pub record Zeroes (s : Step (Unit {0})) (cells : List Cell) : Type 0 where
    pub traced : (end : List Operation) (go : Unit {0} → Script) (answers : List ℕ) → trace end (s go) answers ≡ stores cells ++ trace end (go tt) answers
    pub behind : (path : List ℕ) (k : ℕ) (go : Unit {0} → Script) (store : List ℕ)
        → Same (alone m (placed path k (s go)) store) (alone m (placed path k (go tt)) (zeroed cells store))

  zeroes_give : Zeroes (give tt) []
  unfolding give
  zeroes_give = record { traced = λ end go answers. refl; behind = λ path k go store. record { store = refl; forks = refl; fault = refl } }

  zeroes_one : (object element : ℕ) → Zeroes (perform object element (Store 0)) (record { object = object; element = element } ∷ [])
  unfolding perform
  zeroes_one object element =
      record { traced = λ end go answers. refl; behind = λ path k go store. record { store = refl; forks = refl; fault = refl } }

  zeroes_then : (s t : Step (Unit {0})) (xs ys : List Cell) → Zeroes s xs → Zeroes t ys → Zeroes (s >>= (λ u. t)) (xs ++ ys)
  unfolding ◌>>=◌
  zeroes_then s t xs ys f g = record {
    traced = λ end go answers.
        f.traced end (λ u. t go) answers
        ∙ ap (λ (l : List Operation). stores xs ++ l) (g.traced end go answers)
        ∙ sym (append_assoc (stores xs) (stores ys) (trace end (go tt) answers))
        ∙ ap (λ (l : List Operation). l ++ trace end (go tt) answers) (sym (stores_append xs ys));
    behind = λ path k go store.
        same_trans (alone m (placed path k (s (λ u. t go))) store) (alone m (placed path k (t go)) (zeroed xs store))
        (alone m (placed path k (go tt)) (zeroed (xs ++ ys) store)) (f.behind path k (λ u. t go) store)
        (rw (zeroed_append xs ys store) (g.behind path k go (zeroed xs store)));
  }

  abbrev pub Some_zeroes : Step (Unit {0}) → Type 0
  Some_zeroes s = (cells : List Cell) × Zeroes s cells

  nothing : Some_zeroes (give tt)
  nothing = ([], zeroes_give)

  elements : (object from n : ℕ) → Some_zeroes (zero_elements object from n)
  elements object from zero = nothing
  elements object from (suc n) =
      let more = elements object (suc from) n in
      let one = record { object = object; element = from } ∷ [] in
      (one ++ more.0, zeroes_then (perform object from (Store 0)) (zero_elements object (suc from) n) one more.0 (zeroes_one object from) more.1)

  module _ (widths : ℕ → ℕ) where
    objects : (object n : ℕ) → Some_zeroes (zero_objects widths object n)
    objects object zero = nothing
    objects object (suc n) =
        let first = elements object 0 (widths object) in
        let more = objects (suc object) n in
        (first.0 ++ more.0, zeroes_then (zero_elements object 0 (widths object)) (zero_objects widths (suc object) n) first.0 more.0 first.1 more.1)

    access : (a : Access) (mode : Mode) → Some_zeroes (zero_access widths a mode)
    access a M.W = objects a.lo (a.hi - a.lo)
    access a M.R = nothing
    access a M.X = nothing
    access a M.Rp = nothing
    access a M.Wp = nothing
    access a M.Xp = nothing
    access a (M.Cw op) = nothing
    access a (M.Cwp op) = nothing

    pub all_zeroes : (accesses : List Access) → Some_zeroes (zero_all widths accesses)
    all_zeroes [] = nothing
    all_zeroes (a ∷ accesses) =
        let first = access a a.mode in
        let more = all_zeroes accesses in
        (first.0 ++ more.0, zeroes_then (zero_access widths a a.mode) (zero_all widths accesses) first.0 more.0 first.1 more.1)

  -- the owner that stored them
  pub record Stored (x y : Owner) (cells : List Cell) : Type 0 where
    pub store : y.store.elements ≡ zeroed cells x.store.elements
    pub program : y.store.program ≡ x.store.program
    pub frames : y.frames ≡ x.frames
    pub over : y.over ≡ x.over
    pub indexes : y.indexes ≡ x.indexes

  stored : (cells : List Cell) (x y : Owner) → x.store.program ≡ p → Went x (stores cells) y → Stored x y cells
  stored [] x y is w = record {
    store = ap (λ (o : Owner). o.store.elements) (sym w);
    program = ap (λ (o : Owner). o.store.program) (sym w);
    frames = ap (λ (o : Owner). o.frames) (sym w);
    over = ap (λ (o : Owner). o.over) (sym w);
    indexes = ap (λ (o : Owner). o.indexes) (sym w);
  }
  stored (c ∷ cells) x y is (z, g, w) =
      let same : z.store.program ≡ x.store.program = ap (λ (s : StoreState). s.program) g.store in
      let more = stored cells z y (same ∙ is) w in
      let first : z.store.elements ≡ m.after (act_of c) x.store.elements =
      ap (λ (s : StoreState). s.elements) g.store
      ∙ ap (λ (q : Program). (machine_of q).after (act_of c) x.store.elements) is in
      record {
        store = more.store ∙ ap (zeroed cells) first;
        program = more.program ∙ same;
        frames = more.frames ∙ g.frames;
        over = more.over ∙ g.over;
        indexes = more.indexes ∙ g.indexes;
      }

  -- the indexes of a loop, which it forks one after another
  forks_indexes : (path : List ℕ) (k : ℕ) (call : CallTree) (i n : ℕ) (s : List ℕ)
      → Same (alone m (placed path k (indexes call i n (λ u. Stop None))) s) (record { store = s; answers = []; forks = placed_indexes path call i n; fault = None; steps = 1 })
  unfolding ◌>>=◌ fork give
  forks_indexes path k call i zero s = record { store = refl; forks = refl; fault = refl }
  forks_indexes path k call i (suc n) s =
      let more = forks_indexes path (suc k) call (suc i) n s in
      record {
        store = more.store;
        forks = ap (λ (cs : List Placed). record { path = path; job = Index call i } ∷ cs) more.forks;
        fault = more.fault;
      }

  either_loop : (call : CallTree) (b : Bool) (index : Option I.Index) (t : Option Task) (other : Step (Unit {0}))
      → (if b then is_some index else false) ≡ true
      → (if b then task_or_loop (λ w. w) p call t index else other) ≡ indexes call 0 call.length
  either_loop call true (Some index) t other h = refl
  either_loop call true None t other h = cc
  either_loop call false index t other h = cc

  loop_body : (call : CallTree) (n : ℕ) → is_loop_at p n ≡ true → call_body (λ w. w) p call n ≡ indexes call 0 call.length
  loop_body call zero h = cc
  loop_body call (suc k) h = either_loop call (nat_lt k DEFINITIONS) (index_in (task_at p.tasks k)) (task_at p.tasks k) _ h

  -- a loop's call stores 0 to some elements, and forks its indexes
  pub record Looped (x y : Owner) (path : List ℕ) (call : CallTree) : Type 0 where
    pub cells : List Cell
    pub owner : Stored x y cells
    pub store : (alone m (placed path 1 (script_of p (Whole call))) x.store.elements).store ≡ zeroed cells x.store.elements
    pub forks : (alone m (placed path 1 (script_of p (Whole call))) x.store.elements).forks ≡ placed_indexes path call 0 call.length
    pub fault : (alone m (placed path 1 (script_of p (Whole call))) x.store.elements).fault ≡ None

  -- what a loop's call forks and ends with, whatever the store
  pub loop_alone : (path : List ℕ) (call : CallTree) (s : List ℕ) → is_loop_at p call.task ≡ true
      → let cells = (all_zeroes (width_of p.families) call.accesses).0 in
      Same (alone m (placed path 1 (script_of p (Whole call))) s)
      (record { store = zeroed cells s; answers = []; forks = placed_indexes path call 0 call.length; fault = None; steps = 1 })
  unfolding script_with ◌>>=◌
  loop_alone path call s h =
      let z = all_zeroes (width_of p.families) call.accesses in
      same_trans _ (alone m (placed path 1 (call_body (λ w. w) p call call.task (λ u. Stop None))) (zeroed z.0 s)) _
      (z.1.behind path 1 (λ u. call_body (λ w. w) p call call.task (λ u. Stop None)) s)
      (rw (loop_body call call.task h) (forks_indexes path 1 call 0 call.length (zeroed z.0 s)))

  pub looped : (x y : Owner) (path : List ℕ) (call : CallTree) → is_loop_at p call.task ≡ true → x.store.program ≡ p → Went x (zeroing p call) y
      → Looped x y path call
  looped x y path call h is w =
      let z = all_zeroes (width_of p.families) call.accesses in
      let ops : zeroing p call ≡ stores z.0 = z.1.traced [] (λ u. Stop None) [] ∙ append-nil (stores z.0) in
      let same = loop_alone path call x.store.elements h in
      record {
        cells = z.0;
        owner = stored z.0 x y is (rw ops at w);
        store = same.store;
        forks = same.forks;
        fault = same.fault;
      }
