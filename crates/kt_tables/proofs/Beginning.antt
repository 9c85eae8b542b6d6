-- The state once a loop has begun.
use Rattle.std.proofs.Common.{◌≡◌, ◌+◌, ℕ, zero, suc, List, [], ◌∷◌, length, Option, sym, ap, ◌∙◌, arith}
use Rattle.kt_order.specs.Body.{Fork}
use Rattle.kt_order.specs.Machine.{Machine, Code}
use Rattle.kt_order.specs.Laws.{Rights, Laws}
use Rattle.kt_order.specs.Forest.{Place, Task, Forest, At, change, add_last, fresh}
use Rattle.kt_order.specs.Rest.{left}
use Rattle.kt_order.specs.Events.{State, put, forked, left_at, operate, run}
use Rattle.kt_order.specs.Lawful.{TaskOk, Lawful}
use Rattle.kt_order.specs.Loops.{begin_events, forks_then}
use Rattle.kt_order.proofs.Ats.{Doing, at_more, at_left, at_says, at_shape, change_twice}
use Rattle.kt_order.proofs.Changes.{left_forked}
use Rattle.kt_order.proofs.Kept.{kept_operate}
use Rattle.kt_order.proofs.Children.{at_change}
use Rattle.kt_prog.specs.Calls.{CallTree, Index}
use Rattle.kt_prog.specs.Reference.{machine_of}
use Rattle.kt_prog.specs.declared.programs.Program.{Program}
use Rattle.kt_runs.specs.Loops.{index_calls}
use Rattle.kt_order.specs.Leaves.{leaves}
use Rattle.kt_order.proofs.Leaf.{leaves_last, add_all, begun}

module _ (m : Machine) (rights : Rights m) (l : Laws m rights) (root : m.Call) (s : m.Store) where
  abbrev At-left : List m.Call → Option m.Fault → Place → Forest m → Type 0
  At-left cs f q F = At m (Doing m (forks_then m cs f)) q F

  left_is_at : (cs : List m.Call) (f : Option m.Fault) (q : Place) (F : Forest m) → At-left cs f q F → left_at m q F ≡ forks_then m cs f
  left_is_at cs f q F at =
      at_says m (left_at m q F ≡ forks_then m cs f) q F (at_more m (λ u kids. Doing m (forks_then m cs f) u kids × (left m u ≡ left_at m q F)) (λ u kids. left_at m q F ≡ forks_then m cs f) (λ u kids h. sym h.1 ∙ h.0.1) q F
      (at_left m (Doing m (forks_then m cs f)) q F at))

  fork_one : (c : m.Call) (cs : List m.Call) (f : Option m.Fault) (q : Place) (x : State m) → Lawful m rights root s x → At-left (c ∷ cs) f q x.forest
      → At-left cs f q (operate m (Fork c (forks_then m cs f)) q x).forest
  fork_one c cs f q x h at =
      at_change m (Doing m (forks_then m cs f)) (put m (forked m)) (add_last m (fresh m c)) q x.forest
      (at_more m (λ u kids. Doing m (forks_then m (c ∷ cs) f) u kids × TaskOk m rights u kids) (λ u kids. Doing m (forks_then m cs f) (put m (forked m) u) (add_last m (fresh m c) kids))
      (λ u kids k. (k.0.0, left_forked m rights l c (forks_then m cs f) u kids k.0.0 k.0.1 k.1)) q x.forest
      (at_shape m rights (Doing m (forks_then m (c ∷ cs) f)) q x.forest h.shape at))

  pub begins_run : (cs : List m.Call) (f : Option m.Fault) (q : Place) (x : State m) → Lawful m rights root s x → At-left cs f q x.forest
      → run m (begin_events q (length cs)) x ≡ record { forest = change m (begun m (length cs)) (add_all m cs) q x.forest; store = x.store }
  begins_run [] f q x h at = ap (λ (w : Code m). operate m w q x) (left_is_at [] f q x.forest at)
  begins_run (c ∷ cs) f q x h at =
      let w = forks_then m cs f in
      ap (λ (v : Code m). run m (begin_events q (length cs)) (operate m v q x)) (left_is_at (c ∷ cs) f q x.forest at)
      ∙ (begins_run cs f q (operate m (Fork c w) q x) (kept_operate m rights l root s (Fork c w) q x at h) (fork_one c cs f q x h at)
      ∙ ap (λ F. record { forest = F; store = x.store }) (change_twice m (put m (forked m)) (begun m (length cs)) (add_last m (fresh m c)) (add_all m cs) q x.forest))

module _ (p : Program) where
  abbrev pub fresh_at : List ℕ → CallTree → ℕ → Task (machine_of p)
  fresh_at path call i = fresh (machine_of p) (record { path = path; job = Index call i })

  pub add_leaves : (path : List ℕ) (call : CallTree) (n k : ℕ) → add_all (machine_of p) (index_calls path call k n) (leaves (machine_of p) (fresh_at path call) 0 k) ≡ leaves (machine_of p) (fresh_at path call) 0 (k + n)
  add_leaves path call zero k = ap (leaves (machine_of p) (fresh_at path call) 0) (omega arith)
  add_leaves path call (suc n) k =
      ap (add_all (machine_of p) (index_calls path call (suc k) n)) (ap (λ i. add_last (machine_of p) (fresh_at path call i) (leaves (machine_of p) (fresh_at path call) 0 k)) (omega arith) ∙ leaves_last (machine_of p) (fresh_at path call) k 0)
      ∙ (add_leaves path call n (suc k) ∙ ap (leaves (machine_of p) (fresh_at path call) 0) (omega arith))
