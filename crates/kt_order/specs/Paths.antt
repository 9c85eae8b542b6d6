-- Tasks named by path: the numbers of the forks that lead to them, counted from 0.
use Rattle.std.specs.Prelude.{◌<◌, ℕ, zero, suc, Bool, true, false, cond, List, [], ◌∷◌, nat_eq, ◌&&◌}
use Rattle.kt_order.specs.Machine.{Machine}
use Rattle.kt_order.specs.Forest.{Place, Here, Down, Later, Task, Forest, Nil, Node}

abbrev pub same_path : List ℕ → List ℕ → Bool
same_path [] [] = true
same_path [] (k ∷ q) = false
same_path (k ∷ p) [] = false
same_path (k ∷ p) (j ∷ q) = nat_eq k j && same_path p q

-- f with the value x at the path q
abbrev pub set_at : {A : Type 0} → List ℕ → A → (List ℕ → A) → List ℕ → A
set_at q x f = λ p. cond (same_path p q) x (f p)

-- f below the number k
abbrev pub shift : {A : Type 0} → ℕ → (List ℕ → A) → List ℕ → A
shift k f = λ p. f (k ∷ p)

-- one more child at the path p
abbrev pub bump : List ℕ → (List ℕ → ℕ) → List ℕ → ℕ
bump p count = λ q. cond (same_path q p) (suc (count q)) (count q)

-- no path is longer than the depth; count has the number of children at each path
-- there is room for a child of the task at the path
abbrev pub HasRoom : ℕ → List ℕ → Type 0
HasRoom zero p = ⊥
HasRoom (suc depth) [] = Unit {0}
HasRoom (suc depth) (k ∷ p) = HasRoom depth p

-- the path leads to a task
abbrev pub IsThere : ℕ → (List ℕ → ℕ) → List ℕ → Type 0
IsThere depth count [] = Unit {0}
IsThere zero count (k ∷ p) = ⊥
IsThere (suc depth) count (k ∷ p) = (k < count []) × IsThere depth (shift k count) p

-- the place n tasks further on in its frame
abbrev pub skip : ℕ → Place → Place
skip zero q = q
skip (suc n) q = Later (skip n q)

abbrev pub place_below : ℕ → List ℕ → Place
place_below k [] = skip k Here
place_below k (j ∷ p) = skip k (Down (place_below j p))

-- the place of a path in the forest
abbrev pub place_of : List ℕ → Place
place_of [] = Here
place_of (k ∷ p) = Down (place_below k p)

module _ (m : Machine) where
  -- the task at each path
  abbrev pub Known : Type 0
  Known = List ℕ → Task m

  -- n children of one task, the first of them number k, each with what sub makes of the paths below it
  abbrev pub children_from : (Known → (List ℕ → ℕ) → Forest m) → Known → (List ℕ → ℕ) → ℕ → ℕ → Forest m
  children_from sub get count k zero = Nil
  children_from sub get count k (suc n) = Node (get (k ∷ [])) (sub (shift k get) (shift k count)) (children_from sub get count (suc k) n)

  -- the children of the root
  abbrev pub grown : ℕ → Known → (List ℕ → ℕ) → Forest m
  grown zero get count = Nil
  grown (suc depth) get count = children_from (grown depth) get count 0 (count [])

  -- the forest
  abbrev pub tree_of : ℕ → Known → (List ℕ → ℕ) → Forest m
  tree_of depth get count = Node (get []) (grown depth get count) Nil

  -- the children of the task at a path
  abbrev pub children_at : ℕ → List ℕ → Known → (List ℕ → ℕ) → Forest m
  children_at depth [] get count = grown depth get count
  children_at zero (k ∷ p) get count = Nil
  children_at (suc depth) (k ∷ p) get count = children_at depth p (shift k get) (shift k count)

  -- each earlier task of its frame has R with the task at the path
  abbrev pub Earlier : (Task m → Task m → Type 0) → List ℕ → Known → Type 0
  Earlier R [] get = Unit {0}
  Earlier R (k ∷ []) get = (i : ℕ) → i < k → R (get (i ∷ [])) (get (k ∷ []))
  Earlier R (k ∷ (j ∷ p)) get = Earlier R (j ∷ p) (shift k get)
