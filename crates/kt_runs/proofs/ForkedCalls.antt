-- The call that a body forks next, and its path.
use Rattle.std.proofs.Common.{◌≡◌, ◌<◌, ◌≤◌, ◌+◌, ◌-◌, ℕ, zero, suc, Bool, true, false, List, [], ◌∷◌, length, Some, None, refl, sym, ap, subst, ◌∙◌, arith}
use Rattle.kt_law.specs.declared.limits.TheConstants.{DEPTH}
use Rattle.kt_order.specs.Body.{Stop, Do, Fork}
use Rattle.kt_order.specs.Machine.{Code}
use Rattle.kt_order.specs.Laws.{Within, Past, Laws}
use Rattle.kt_order.specs.Forest.{Forest, Task}
use Rattle.kt_order.specs.Rest.{left}
use Rattle.kt_order.specs.Stand.{Standing, stand}
use Rattle.kt_order.specs.Trace.{hearing}
use Rattle.kt_order.specs.Lawful.{TaskOk}
use Rattle.kt_order.specs.Paths.{HasRoom}
use Rattle.kt_order.proofs.Stands.{stand_none, fork_some}
use Rattle.kt_order.proofs.Nodes.{node_is, left_is}
use Rattle.kt_prog.specs.Calls.{CallTree, Job, Whole}
use Rattle.kt_prog.specs.Script.{Script}
use Rattle.kt_prog.specs.Bodies.{script_of}
use Rattle.kt_prog.specs.Fits.{Fits, FitsJob, is_main, is_call}
use Rattle.kt_prog.specs.Reference.{Placed, placed, placed_fork, height_of, machine_of}
use Rattle.kt_prog.specs.declared.programs.Program.{Program}
use Rattle.kt_runs.specs.Rights.{rights_in}
use Rattle.kt_runs.proofs.Numbers.{placed_again}

pub room_in : (depth : ℕ) (q : List ℕ) → length q < depth → HasRoom depth q
room_in zero q less = absurd (omega arith)
room_in (suc depth) [] less = tt
room_in (suc depth) (k ∷ q) less = room_in depth q (omega arith)

module _ (p : Program) where
  -- what is left of a body whose forks are numbered is so numbered from its next one on
  abbrev LeftPlaced : List ℕ → ℕ → Standing (machine_of p) → Type 0
  LeftPlaced path k st = (v : Script) × (st.left ≡ placed path (k + length st.forks) v)

  none_forked : (path : List ℕ) (k : ℕ) (w : Script) → placed path k w ≡ placed path (k + 0) w
  none_forked path k w = ap (λ (j : ℕ). placed path j w) (omega arith)

  one_forked : (path : List ℕ) (k : ℕ) (d : Placed) (s st : Standing (machine_of p))
      → st ≡ record { left = s.left; forks = d ∷ s.forks; over = s.over } → LeftPlaced path (suc k) s → LeftPlaced path k st
  one_forked path k d s st e f =
      subst (LeftPlaced path k) (sym e) (f.0, f.1 ∙ ap (λ (j : ℕ). placed path j f.0) (omega arith))

  left_placed : (w : Script) (path : List ℕ) (k : ℕ) (answers : List ℕ) (n : ℕ) (st : Standing (machine_of p))
      → stand (machine_of p) (placed path k w) answers n ≡ Some st → LeftPlaced path k st
  left_placed w path k answers zero st e = subst (LeftPlaced path k) (sym (stand_none (machine_of p) (placed path k w) answers st e).1) (w, none_forked path k w)
  left_placed (Stop f) path k [] (suc zero) st e = subst (LeftPlaced path k) (the_some e) (Stop f, refl)
    where
      the_some : {X : Type 0} → {x y : X} → Some x ≡ Some y → x ≡ y
      the_some h = cc
  left_placed (Stop f) path k [] (suc (suc n)) st e = absurd (cc e)
  left_placed (Stop f) path k (a ∷ more) (suc n) st e = absurd (cc e)
  left_placed (Do q next) path k answers (suc n) st e =
      heard ((machine_of p).asks q) answers e (λ a more. left_placed (next a) path k more n st)
    where
      heard : (asks : Bool) (answers : List ℕ) → hearing (machine_of p) asks None (λ a more. stand (machine_of p) (placed path k (next a)) more n) answers ≡ Some st
          → ((a : ℕ) (more : List ℕ) → stand (machine_of p) (placed path k (next a)) more n ≡ Some st → LeftPlaced path k st) → LeftPlaced path k st
      heard true [] h f = absurd (cc h)
      heard true (a ∷ more) h f = f a more h
      heard false answers h f = f 0 answers h
  left_placed (Fork job w) path k answers (suc n) st e =
      let s = fork_some (machine_of p) (placed_fork path k job) (stand (machine_of p) (placed path (suc k) w) answers n) st e in
      one_forked path k (placed_fork path k job) s.0 st s.2 (left_placed w path (suc k) answers n s.0 s.1)

  fork_placed : (path : List ℕ) (k : ℕ) (v : Script) (c : Placed) (w : Code (machine_of p)) → placed path k v ≡ Fork c w → c ≡ placed_fork path k c.job
  fork_placed path k (Stop f) c w e = absurd (cc e)
  fork_placed path k (Do q next) c w e = absurd (cc e)
  fork_placed path k (Fork job v) c w e =
      let is : placed_fork path k job ≡ c = same e in
      subst (λ (d : Placed). d ≡ placed_fork path k d.job) is (placed_again path k job)
    where
      same : {a b : Placed} → {u z : Code (machine_of p)} → Fork a u ≡ Fork b z → a ≡ b
      same h = cc

  -- the depth of a call is no more than the deepest
  fits_deep : (call : CallTree) → Fits p call → call.depth ≤ DEPTH
  fits_deep call (is_main e) = subst (λ (c : CallTree). c.depth ≤ DEPTH) (sym e) (omega arith)
  fits_deep call (is_call t at fits) = fits.deep

  module _ (l : Laws (machine_of p) (rights_in p)) (u : Task (machine_of p)) (kids : Forest (machine_of p)) (ok : TaskOk (machine_of p) (rights_in p) u kids)
      (c : Placed) (w : Code (machine_of p)) (e : left (machine_of p) u ≡ Fork c w) where
    -- the call has the path of its number, counted from 1
    pub fork_path : c ≡ placed_fork u.call.path (1 + length ok.st.forks) c.job
    fork_path =
        let v = left_placed (script_of p u.call.job) u.call.path 1 u.answers u.done ok.st ok.stands in
        fork_placed u.call.path (1 + length ok.st.forks) v.0 c w (sym v.1 ∙ (sym (left_is (machine_of p) (rights_in p) l u kids ok) ∙ e))

    -- it is one deeper than that of its parent, and so there is room for it
    pub fork_deep : (call of : CallTree) → c.job ≡ Whole call → u.call.job ≡ Whole of → (call.depth ≡ suc of.depth) × (of.depth < DEPTH)
    fork_deep call of is whose =
        let within = subst (Within (machine_of p) _ _ (Past (machine_of p) (rights_in p))) e (node_is (machine_of p) (rights_in p) l u kids ok).within in
        let fits : Fits p call = subst (FitsJob p) is (l.fits u.call c within.0) in
        let lower = l.lower u.call c within.0 in
        let low : suc (DEPTH - of.depth) ≡ suc (suc (DEPTH - call.depth)) = ap height_of (sym whose) ∙ (lower ∙ ap (λ (j : Job). suc (height_of j)) is) in
        let deep = fits_deep call fits in
        (omega arith, omega arith)
