-- What a body did on the owner is what it does alone.
use Rattle.std.proofs.Common.{◌≡◌, ℕ, suc, Bool, not, ◌||◌, nat_lt, List, [], ◌∷◌, ◌++◌, map, Option, Some, None, refl, sym, ap, ◌∙◌, subst}
use Rattle.std.proofs.lemmas.List.{set-get_or}
use Rattle.kt_law.specs.Acts.{Act, Deed, Load, Store, Fold}
use Rattle.kt_order.specs.Body.{Stop, Do, Fork, Keeps}
use Rattle.kt_order.specs.Machine.{Machine}
use Rattle.kt_order.specs.Sequential.{Alone, alone}
use Rattle.kt_prog.specs.Calls.{CallTree, Job, Whole, Index, call_of}
use Rattle.kt_prog.specs.Script.{Fault, Script}
use Rattle.kt_prog.specs.Operations.{trace}
use Rattle.kt_prog.specs.Reference.{Placed, placed, machine_of}
use Rattle.kt_prog.specs.Store.{after, answer, place_of}
use Rattle.kt_prog.specs.declared.programs.Program.{Program}
use Rattle.kt_prog.specs.declared.runs.Operation.{Operation}
use Rattle.kt_prog.specs.declared.runs.Operation.TheVariants as O
use Rattle.kt_body.specs.Endings.{WentThrough}
use Rattle.kt_frames.specs.Stack.{Stack, pushed}
use Rattle.kt_frames.specs.Rest.{EachCall}
use Rattle.kt_store.specs.Stores.{StoreState, after_act}
use Rattle.kt_frames.specs.Owned.{Moves, stands_at, never}
use Rattle.kt_frames.specs.declared.owner.Owner.{Owner}

abbrev pub Went : Owner → List Operation → Owner → Type 0
Went = WentThrough stands_at Moves never

-- a call of which G holds, and no index
abbrev pub OfCall : (CallTree → Type 0) → Job → Type 0
OfCall G (Whole call) = G call
OfCall G (Index call i) = ⊥

abbrev pub calls_of : List Placed → List CallTree
calls_of = map (λ c. call_of c.job)

abbrev pub all_pushed : Stack → List CallTree → Stack
all_pushed f [] = f
all_pushed f (c ∷ cs) = all_pushed (pushed f c) cs

abbrev pub over_all : Stack → Bool → List CallTree → Bool
over_all f over [] = over
over_all f over (c ∷ cs) = over_all (pushed f c) (over || not (nat_lt f.tasks f.room)) cs

abbrev pub last_of : Option Fault → Operation
last_of None = O.End
last_of (Some f) = O.Fault f.law f.line

abbrev pub IsLast : Operation → Type 0
IsLast (O.Load object element a) = ⊥
IsLast (O.Store object element v) = ⊥
IsLast (O.Fold object element op v) = ⊥
IsLast (O.Fork call) = ⊥
IsLast O.End = Unit {0}
IsLast (O.Fault law line) = Unit {0}

-- calls with their paths, the first one the k-th of its parent's
abbrev pub numbered : List ℕ → ℕ → List CallTree → List Placed
numbered path k [] = []
numbered path k (c ∷ cs) = record { path = path ++ k ∷ []; job = Whole c } ∷ numbered path (suc k) cs

not_snoc : (xs : List Operation) (x : Operation) → [] ≡ xs ++ x ∷ [] → ⊥
not_snoc [] x h = cc
not_snoc (y ∷ xs) x h = cc

not_last : (x last : Operation) → x ≡ last → IsLast last → IsLast x
not_last x last e h = subst IsLast (sym e) h

module _ (p : Program) where
  abbrev m : Machine
  m = machine_of p

  -- the owner came from x to y as the body does alone
  pub record Alike (x y : Owner) (a : Alone m) (last : Operation) : Type 0 where
    pub store : y.store.elements ≡ a.store
    pub frames : y.frames ≡ all_pushed x.frames (calls_of a.forks)
    pub over : y.over ≡ over_all x.frames x.over (calls_of a.forks)
    pub program : y.store.program ≡ x.store.program
    pub indexes : y.indexes ≡ x.indexes
    pub ends : last ≡ last_of a.fault

  alike_stop : (f : Option Fault) (path : List ℕ) (k : ℕ) (heard : List ℕ) (done : List Operation) (last : Operation) (x y : Owner)
      → last_of f ∷ [] ≡ done ++ last ∷ [] → Went x done y → Alike x y (alone m (placed path k (Stop f)) x.store.elements) last
  alike_stop f path k heard [] last x y e w =
      let same : last_of f ≡ last = cc in
      record {
        store = ap (λ (o : Owner). o.store.elements) (sym w);
        frames = ap (λ (o : Owner). o.frames) (sym w);
        over = ap (λ (o : Owner). o.over) (sym w);
        program = ap (λ (o : Owner). o.store.program) (sym w);
        indexes = ap (λ (o : Owner). o.indexes) (sym w);
        ends = sym same;
      }
  alike_stop f path k heard (d ∷ done) last x y e w = let none : [] ≡ done ++ last ∷ [] = cc in absurd (not_snoc done last none)

  -- an act took the owner from x to z, and the rest of the body from there to y
  alike_do : (x z y : Owner) (act : Act) (next : ℕ → Script) (path : List ℕ) (k found : ℕ) (last : Operation) → m.answer act x.store.elements ≡ found
      → z.store ≡ after_act act x.store → x.store.program ≡ p → z.frames ≡ x.frames → z.over ≡ x.over → z.indexes ≡ x.indexes
      → Alike z y (alone m (placed path k (next found)) z.store.elements) last → Alike x y (alone m (placed path k (Do act next)) x.store.elements) last
  alike_do x z y act next path k found last answers store is frames over indexes ih =
      let stores : m.after act x.store.elements ≡ z.store.elements =
      ap (λ (q : Program). after q.families act x.store.elements) (sym is) ∙ ap (λ (s : StoreState). s.elements) (sym store) in
      let run : ℕ → List ℕ → Alone m = λ a s. alone m (placed path k (next a)) s in
      let moved : Alike z y (run (m.answer act x.store.elements) (m.after act x.store.elements)) last =
      subst (λ (s : List ℕ). Alike z y (run (m.answer act x.store.elements) s) last) (sym stores)
      (subst (λ (a : ℕ). Alike z y (run a z.store.elements) last) (sym answers) ih) in
      let cs = calls_of (run (m.answer act x.store.elements) (m.after act x.store.elements)).forks in
      record {
        store = moved.store;
        frames = moved.frames ∙ ap (λ (f : Stack). all_pushed f cs) frames;
        over = moved.over ∙ ap (λ (f : Stack). over_all f z.over cs) frames ∙ ap (λ (b : Bool). over_all x.frames b cs) over;
        program = moved.program ∙ ap (λ (s : StoreState). s.program) store;
        indexes = moved.indexes ∙ indexes;
        ends = moved.ends;
      }

  alike_fork : (x z y : Owner) (c : CallTree) (next : Script) (path : List ℕ) (k : ℕ) (last : Operation) → Moves x (O.Fork c) z
      → Alike z y (alone m (placed path (suc k) next) z.store.elements) last
      → Alike x y (alone m (placed path k (Fork (Whole c) next)) x.store.elements) last
  alike_fork x z y c next path k last g ih =
      let same : z.store.elements ≡ x.store.elements = ap (λ (s : StoreState). s.elements) g.store in
      let moved = subst (λ (s : List ℕ). Alike z y (alone m (placed path (suc k) next) s) last) same ih in
      let cs = calls_of (alone m (placed path (suc k) next) x.store.elements).forks in
      record {
        store = moved.store;
        frames = moved.frames ∙ ap (λ (f : Stack). all_pushed f cs) g.frames;
        over = moved.over ∙ ap (λ (f : Stack). over_all f z.over cs) g.frames ∙ ap (λ (b : Bool). over_all (pushed x.frames c) b cs) g.over;
        program = moved.program ∙ ap (λ (s : StoreState). s.program) g.store;
        indexes = moved.indexes ∙ g.indexes;
        ends = moved.ends;
      }

  -- a load leaves the store as it is
  loaded : (s : StoreState) (act : Act) → act.deed ≡ Load → s ≡ after_act act s
  loaded s act is =
      let at = place_of s.program.families act in
      let same : s.elements ≡ after s.program.families act s.elements =
      rw is (sym (set-get_or s.elements at 0)) in
      ap (λ (xs : List ℕ). let t : StoreState = record { program = s.program; elements = xs } in t) same

  module _ (D : Act → Type 0) (G : CallTree → Type 0) (last : Operation) (is_last : IsLast last) where
    abbrev Kept : Script → Type 0
    Kept = Keeps D (OfCall G)

    abbrev Goal : Script → Type 0
    Goal s = (path : List ℕ) (k : ℕ) (heard : List ℕ) (done : List Operation) (x y : Owner) → x.store.program ≡ p
        → trace (O.End ∷ []) s heard ≡ done ++ last ∷ [] → Went x done y → Alike x y (alone m (placed path k s) x.store.elements) last

    act_alike : (object element : ℕ) (deed : Deed) (next : ℕ → Script) → ((a : ℕ) → Goal (next a))
        → Goal (Do (record { object = object; element = element; deed = deed }) next)
    act_alike object element Load next more path k [] done x y is e w = absurd (not_snoc done last e)
    act_alike object element Load next more path k (a ∷ heard) [] x y is e w =
        let same : O.Load object element a ≡ last = cc in absurd (not_last (O.Load object element a) last same is_last)
    act_alike object element Load next more path k (a ∷ heard) (d ∷ done) x y is e w =
        let same : O.Load object element a ≡ d = cc in
        let rest : trace (O.End ∷ []) (next a) heard ≡ done ++ last ∷ [] = cc in
        let g : Moves x (O.Load object element a) w.0 = subst (λ (op : Operation). Moves x op w.0) (sym same) w.1 in
        let act : Act = record { object = object; element = element; deed = Load } in
        let answers : answer p.families act x.store.elements ≡ a = ap (λ (q : Program). answer q.families act x.store.elements) (sym is) ∙ sym g.found in
        let on = ap (λ (s : StoreState). s.program) g.store ∙ is in
        alike_do x w.0 y act next path k a last answers (g.store ∙ loaded x.store act refl) is g.frames g.over g.indexes
        (more a path k heard done w.0 y on rest w.2)
    act_alike object element (Store v) next more path k heard [] x y is e w =
        let same : O.Store object element v ≡ last = cc in absurd (not_last (O.Store object element v) last same is_last)
    act_alike object element (Store v) next more path k heard (d ∷ done) x y is e w =
        let same : O.Store object element v ≡ d = cc in
        let rest : trace (O.End ∷ []) (next 0) heard ≡ done ++ last ∷ [] = cc in
        let g : Moves x (O.Store object element v) w.0 = subst (λ (op : Operation). Moves x op w.0) (sym same) w.1 in
        let on = ap (λ (s : StoreState). s.program) g.store ∙ is in
        alike_do x w.0 y (record { object = object; element = element; deed = Store v }) next path k 0 last refl g.store is g.frames g.over g.indexes
        (more 0 path k heard done w.0 y on rest w.2)
    act_alike object element (Fold op v) next more path k heard [] x y is e w =
        let same : O.Fold object element op v ≡ last = cc in absurd (not_last (O.Fold object element op v) last same is_last)
    act_alike object element (Fold op v) next more path k heard (d ∷ done) x y is e w =
        let same : O.Fold object element op v ≡ d = cc in
        let rest : trace (O.End ∷ []) (next 0) heard ≡ done ++ last ∷ [] = cc in
        let g : Moves x (O.Fold object element op v) w.0 = subst (λ (o : Operation). Moves x o w.0) (sym same) w.1 in
        let on = ap (λ (s : StoreState). s.program) g.store ∙ is in
        alike_do x w.0 y (record { object = object; element = element; deed = Fold op v }) next path k 0 last refl g.store is g.frames g.over g.indexes
        (more 0 path k heard done w.0 y on rest w.2)

    pub goes_alike : (s : Script) → Kept s → Goal s
    goes_alike (Stop None) h path k heard done x y is e w = alike_stop None path k heard done last x y e w
    goes_alike (Stop (Some f)) h path k heard done x y is e w = alike_stop (Some f) path k heard done last x y e w
    goes_alike (Do act next) h path k heard done x y is e w =
        act_alike act.object act.element act.deed next (λ a. goes_alike (next a) (h.1 a)) path k heard done x y is e w
    goes_alike (Fork (Index c i) next) h path k heard done x y is e w = absurd h.0
    goes_alike (Fork (Whole c) next) h path k heard [] x y is e w =
        let same : O.Fork c ≡ last = cc in absurd (not_last (O.Fork c) last same is_last)
    goes_alike (Fork (Whole c) next) h path k heard (d ∷ done) x y is e w =
        let same : O.Fork c ≡ d = cc in
        let rest : trace (O.End ∷ []) next heard ≡ done ++ last ∷ [] = cc in
        let g : Moves x (O.Fork c) w.0 = subst (λ (o : Operation). Moves x o w.0) (sym same) w.1 in
        let on = ap (λ (s : StoreState). s.program) g.store ∙ is in
        alike_fork x w.0 y c next path k last g (goes_alike next h.1 path (suc k) heard done w.0 y on rest w.2)

  -- what a body forks alone
  module _ (D : Act → Type 0) (G : CallTree → Type 0) where
    pub forks_numbered : (s : Script) → Keeps D (OfCall G) s → (path : List ℕ) (k : ℕ) (store : List ℕ)
        → (alone m (placed path k s) store).forks ≡ numbered path k (calls_of (alone m (placed path k s) store).forks)
    forks_numbered (Stop f) h path k store = refl
    forks_numbered (Do act next) h path k store = forks_numbered (next (m.answer act store)) (h.1 (m.answer act store)) path k (m.after act store)
    forks_numbered (Fork (Index c i) next) h path k store = absurd h.0
    forks_numbered (Fork (Whole c) next) h path k store =
        ap (λ (cs : List Placed). record { path = path ++ k ∷ []; job = Whole c } ∷ cs) (forks_numbered next h.1 path (suc k) store)

    pub forks_each : (s : Script) → Keeps D (OfCall G) s → (path : List ℕ) (k : ℕ) (store : List ℕ)
        → EachCall G (calls_of (alone m (placed path k s) store).forks)
    forks_each (Stop f) h path k store = tt
    forks_each (Do act next) h path k store = forks_each (next (m.answer act store)) (h.1 (m.answer act store)) path k (m.after act store)
    forks_each (Fork (Index c i) next) h path k store = absurd h.0
    forks_each (Fork (Whole c) next) h path k store = (h.0, forks_each next h.1 path (suc k) store)

-- what a body keeps to, said otherwise of what it forks
pub keeps_as : (D : Act → Type 0) (H K : Job → Type 0) → ((job : Job) → H job → K job) → (s : Script) → Keeps D H s → Keeps D K s
keeps_as D H K f (Stop x) h = tt
keeps_as D H K f (Do act next) h = (h.0, λ a. keeps_as D H K f (next a) (h.1 a))
keeps_as D H K f (Fork job next) h = (f job h.0, keeps_as D H K f next h.1)
