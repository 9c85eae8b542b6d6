-- The sequential run: each body is done whole, and after it the calls that it forked, in order.
use Rattle.std.specs.Prelude.{ℕ, zero, suc, cond, List, [], ◌∷◌, ◌++◌, Option}
use Rattle.kt_order.specs.Body.{Stop, Do, Fork}
use Rattle.kt_order.specs.Machine.{Machine, Code}

module _ (m : Machine) where
  -- what comes of one body
  pub record Alone : Type 0 where
    pub store : m.Store
    pub answers : List m.Answer
    pub forks : List m.Call
    pub fault : Option m.Fault
    -- how many operations
    pub steps : ℕ

  -- one body that was done
  pub record Entry : Type 0 where
    pub call : m.Call
    pub answers : List m.Answer
    pub fault : Option m.Fault
    pub steps : ℕ

  -- the store, and the bodies done in the order of the sequential run
  pub record Run : Type 0 where
    pub store : m.Store
    pub entries : List Entry

  -- what a body keeps of the answer of an act
  abbrev pub keeps : m.Act → m.Answer → List m.Answer
  keeps p a = cond (m.asks p) (a ∷ []) []

  -- the operations of a body one after another
  abbrev pub alone : Code m → m.Store → Alone
  alone (Stop f) s = record { store = s; answers = []; forks = []; fault = f; steps = 1 }
  alone (Do p k) s =
      let a = alone (k (m.answer p s)) (m.after p s) in
      record { store = a.store; answers = keeps p (m.answer p s) ++ a.answers; forks = a.forks; fault = a.fault; steps = suc a.steps }
  alone (Fork c w) s =
      let a = alone w s in
      record { store = a.store; answers = a.answers; forks = c ∷ a.forks; fault = a.fault; steps = suc a.steps }

  -- a run in which nothing is done
  abbrev pub still_at : m.Store → Run
  still_at s = record { store = s; entries = [] }

  -- one run and then another, which began with the store of the first
  abbrev pub joined : Run → Run → Run
  joined x y = record { store = y.store; entries = x.entries ++ y.entries }

  -- the run of each call, one after another
  abbrev pub each : (m.Call → m.Store → Run) → List m.Call → m.Store → Run
  each f [] s = still_at s
  each f (c ∷ cs) s =
      let x = f c s in
      joined x (each f cs x.store)

  -- an entry, and then a run
  abbrev pub noted : m.Call → List m.Answer → Option m.Fault → ℕ → Run → Run
  noted c answers fault steps x = record { store = x.store; entries = record { call = c; answers = answers; fault = fault; steps = steps } ∷ x.entries }

  -- a call with all that it forks, down to a depth
  abbrev pub whole_within : ℕ → m.Call → m.Store → Run
  whole_within zero c s =
      let a = alone (m.tree c) s in
      noted c a.answers a.fault a.steps (still_at a.store)
  whole_within (suc n) c s =
      let a = alone (m.tree c) s in
      noted c a.answers a.fault a.steps (each (whole_within n) a.forks a.store)

  -- a call with all that it forks
  abbrev pub whole : m.Call → m.Store → Run
  whole c s = whole_within (m.height c) c s
