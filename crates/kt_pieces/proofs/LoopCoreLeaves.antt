-- What an index may do next: an act on an element that is there, or its end. It forks nothing.
use Rattle.std.proofs.Common.{◌≡◌, ℕ, zero, suc, ◌<◌, true, List, [], ◌∷◌, length, Option, Some, None, sym, refl, ap, subst}
use mathlib.Core.Option as o
use Rattle.kt_law.specs.Acts.{Act}
use Rattle.kt_order.specs.Body.{Keeps, Stop, Do, Fork}
use Rattle.kt_order.specs.Machine.{Machine, Code}
use Rattle.kt_order.specs.Stand.{Standing, stand}
use Rattle.kt_order.specs.Rest.{left, left_of}
use Rattle.kt_order.specs.Named.{forks_in}
use Rattle.kt_order.proofs.Stands.{stand_none, some_is}
use Rattle.kt_order.proofs.Bounds.{hearing_bound}
use Rattle.kt_prog.specs.Calls.{CallTree, Index}
use Rattle.kt_prog.specs.Script.{Script}
use Rattle.kt_prog.specs.Bodies.{script_of}
use Rattle.kt_prog.specs.Laws.{BodiesKeep}
use Rattle.kt_prog.specs.Accepted.{IsAccepted}
use Rattle.kt_prog.specs.Fits.{FitsJob}
use Rattle.kt_prog.specs.Rights.{Directly, Forks}
use Rattle.kt_prog.specs.Store.{place_of}
use Rattle.kt_prog.specs.Reference.{Placed, placed, machine_of}
use Rattle.kt_prog.specs.declared.programs.Program.{Program}
use Rattle.kt_prog.proofs.LastWriter.{place_below}
use Rattle.kt_runs.specs.ByPath.{Path}
use Rattle.kt_rule.specs.declared.views.Setup.{Setup}
use Rattle.kt_rule.specs.Lies.{IndexLie, index_of, forks_of}
use Rattle.kt_rule.specs.Records.{layout_of}

module _ (m : Machine) (D : m.Act → Type 0) where
  -- acts of D alone, and no fork
  abbrev pub IsLeaf : Code m → Type 0
  IsLeaf w = Keeps D (λ c. ⊥) w

  pub record LeftLeaf (st : Standing m) : Type 0 where
    pub left : IsLeaf st.left
    pub forks : st.forks ≡ []

  pub leaf_stands : (w : Code m) (answers : List m.Answer) (n : ℕ) (st : Standing m) → IsLeaf w → stand m w answers n ≡ Some st → LeftLeaf st
  leaf_stands w answers zero st leaf e = subst LeftLeaf (sym (stand_none m w answers st e).1) (record { left = leaf; forks = refl })
  leaf_stands (Stop f) [] (suc zero) st leaf e =
      subst LeftLeaf (some_is m (record { left = Stop f; forks = []; over = true }) st e) (record { left = tt; forks = refl })
  leaf_stands (Stop f) [] (suc (suc n)) st leaf e = cc
  leaf_stands (Stop f) (a ∷ more) (suc n) st leaf e = cc
  leaf_stands (Do q k) answers (suc n) st leaf e =
      hearing_bound m LeftLeaf (λ a more. stand m (k a) more n) st (m.asks q) answers (λ a more h. leaf_stands (k a) more n st (leaf.1 a) h) e
  leaf_stands (Fork c w) answers (suc n) st leaf e = absurd leaf.0

  -- wherever the body stands
  pub leaf_left : (w : Code m) (answers : List m.Answer) (n : ℕ) → IsLeaf w → IsLeaf (left_of m (stand m w answers n))
  leaf_left w answers n leaf = go (stand m w answers n) refl
    where
      go : (z : Option (Standing m)) → stand m w answers n ≡ z → IsLeaf (left_of m z)
      go None e = tt
      go (Some st) e = (leaf_stands w answers n st leaf e).left

  pub leaf_forks : (w : Code m) (answers : List m.Answer) (n : ℕ) → IsLeaf w → forks_in m (stand m w answers n) ≡ []
  leaf_forks w answers n leaf = go (stand m w answers n) refl
    where
      go : (z : Option (Standing m)) → stand m w answers n ≡ z → forks_in m z ≡ []
      go None e = refl
      go (Some st) e = (leaf_stands w answers n st leaf e).forks

placed_leaf : (p : Program) (c : CallTree) (i : ℕ) (path : List ℕ) (k : ℕ) (w : Script) → Keeps (Directly p (Index c i)) (Forks p (Index c i)) w
    → IsLeaf (machine_of p) (Directly p (Index c i)) (placed path k w)
placed_leaf p c i path k (Stop f) keeps = tt
placed_leaf p c i path k (Do q next) keeps = (keeps.0, λ a. placed_leaf p c i path k (next a) (keeps.1 a))
placed_leaf p c i path k (Fork child w) keeps = absurd keeps.0

module _ (j : Setup) (bodies : BodiesKeep) (ok : IsAccepted j.program) (p : Path) (call : CallTree) (i : ℕ)
    (fits : FitsJob j.program (Index call i)) (x : IndexLie) where
  abbrev m1 : Machine
  m1 = machine_of j.program

  leaf : (path : List ℕ) → IsLeaf m1 (Directly j.program (Index call i)) (placed path 1 (script_of j.program (Index call i)))
  leaf path = placed_leaf j.program call i path 1 (script_of j.program (Index call i)) (bodies (λ w. w) j.program ok (Index call i) fits)

  next_leaf : IsLeaf m1 (Directly j.program (Index call i)) (left m1 (index_of j p call i (o.some x)))
  next_leaf = leaf_left m1 (Directly j.program (Index call i)) (m1.tree (index_of j p call i (o.some x)).call) x.answers x.count
      (leaf (index_of j p call i (o.some x)).call.path)

  -- an index has forked nothing
  pub index_leaf : forks_of j (index_of j p call i (o.some x)) ≡ 0
  index_leaf = ap (λ (z : List Placed). length z)
      (leaf_forks m1 (Directly j.program (Index call i)) (m1.tree (index_of j p call i (o.some x)).call) x.answers x.count
      (leaf (index_of j p call i (o.some x)).call.path))

  -- and forks nothing
  pub index_no_fork : (b : Placed) (w : Code (machine_of j.program)) → left m1 (index_of j p call i (o.some x)) ≡ Fork b w → ⊥
  index_no_fork b w next = (subst (IsLeaf m1 (Directly j.program (Index call i))) next next_leaf).0

  -- its next act is one that its call has a right to
  pub index_directly : (d : Act) (k : ℕ → Code (machine_of j.program)) → left m1 (index_of j p call i (o.some x)) ≡ Do d k
      → Directly j.program (Index call i) d
  index_directly d k next = (subst (IsLeaf m1 (Directly j.program (Index call i))) next next_leaf).0

  -- so its element is there
  pub index_inside : (d : Act) (k : ℕ → Code (machine_of j.program)) → left m1 (index_of j p call i (o.some x)) ≡ Do d k
      → place_of j.program.families d < (layout_of j).elements
  index_inside d k next = place_below j.program.families d.object d.element (index_directly d k next).0
