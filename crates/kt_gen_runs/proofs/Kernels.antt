-- Zeroing and kernels have no fault where their objects are wide enough.
use Rattle.std.proofs.Common.{◌≡◌, ℕ, zero, suc, ◌-◌, ◌*◌, List, [], ◌∷◌, ◌&&◌, true, None, nat_lt, refl}
use Rattle.kt_law.specs.Acts.{Deed, Store}
use Rattle.kt_law.specs.PlainKernels.{stencil_of, scan_of}
use Rattle.kt_law.specs.declared.accesses.Access.{Access}
use Rattle.kt_law.specs.declared.faults.F.TheVariants.{F2}
use Rattle.kt_law.specs.declared.modes.Mode.{Mode}
use Rattle.kt_law.specs.declared.modes.Mode.TheVariants as M
use Rattle.kt_order.specs.Body.{Stop}
use Rattle.kt_prog.specs.Bodies.{call_body, script_of, script_with}
use Rattle.kt_prog.specs.Calls.{CallTree, Job, Whole}
use Rattle.kt_prog.specs.Kernels.{has, is_side, load_all, perform_all, product, scan_body, smooth, stencil_body}
use Rattle.kt_prog.specs.Objects.{width_of}
use Rattle.kt_prog.specs.Script.{Step, ◌>>=◌}
use Rattle.kt_prog.specs.Zeroing.{zero_access, zero_all, zero_elements, zero_objects}
use Rattle.kt_prog.specs.declared.programs.Program.{Program}
use Rattle.kt_gen_runs.proofs.Quiet.{Calm, Quiet, calm_give, calm_load, calm_perform, calm_test, calm_then}

module _ (Q : Job → Type 0) (widths : ℕ → ℕ) where
  abbrev Done : Step (Unit {0}) → Type 0
  Done m = Calm Q (λ _. Unit {0}) m

  abbrev Listed : Step (List ℕ) → Type 0
  Listed m = Calm Q (λ _. Unit {0}) m

  after : (m : Step (Unit {0})) (f : Unit {0} → Step (Unit {0})) → Done m → ((x : Unit {0}) → Done (f x)) → Done (m >>= f)
  after m f h k = calm_then Q (λ _. Unit {0}) (λ _. Unit {0}) m f h (λ x p. k x)

  loads_calm : (o from n : ℕ) → Listed (load_all o from n)
  loads_calm o from zero = calm_give Q (λ _. Unit {0}) [] tt
  loads_calm o from (suc n) =
      calm_then Q (λ _. Unit {0}) (λ _. Unit {0}) _ _ (calm_load Q o from) (λ x p.
      calm_then Q (λ _. Unit {0}) (λ _. Unit {0}) _ _ (loads_calm o (suc from) n) (λ xs q. calm_give Q (λ _. Unit {0}) (x ∷ xs) tt))

  performs_calm : (f : ℕ → Deed) (o from : ℕ) (xs : List ℕ) → Done (perform_all f o from xs)
  performs_calm f o from [] = calm_give Q (λ _. Unit {0}) tt tt
  performs_calm f o from (x ∷ xs) = after _ _ (calm_perform Q o from (f x)) (λ u. performs_calm f o (suc from) xs)

  zeros_calm : (o from n : ℕ) → Done (zero_elements o from n)
  zeros_calm o from zero = calm_give Q (λ _. Unit {0}) tt tt
  zeros_calm o from (suc n) = after _ _ (calm_perform Q o from (Store 0)) (λ u. zeros_calm o (suc from) n)

  objects_calm : (o n : ℕ) → Done (zero_objects widths o n)
  objects_calm o zero = calm_give Q (λ _. Unit {0}) tt tt
  objects_calm o (suc n) = after _ _ (zeros_calm o 0 (widths o)) (λ u. objects_calm (suc o) n)

  access_calm : (a : Access) (mode : Mode) → Done (zero_access widths a mode)
  access_calm a M.W = objects_calm a.lo (a.hi - a.lo)
  access_calm a M.R = calm_give Q (λ _. Unit {0}) tt tt
  access_calm a M.X = calm_give Q (λ _. Unit {0}) tt tt
  access_calm a (M.Cw op) = calm_give Q (λ _. Unit {0}) tt tt
  access_calm a M.Rp = calm_give Q (λ _. Unit {0}) tt tt
  access_calm a M.Wp = calm_give Q (λ _. Unit {0}) tt tt
  access_calm a M.Xp = calm_give Q (λ _. Unit {0}) tt tt
  access_calm a (M.Cwp op) = calm_give Q (λ _. Unit {0}) tt tt

  pub zeroing_calm : (accesses : List Access) → Done (zero_all widths accesses)
  zeroing_calm [] = calm_give Q (λ _. Unit {0}) tt tt
  zeroing_calm (a ∷ accesses) = after _ _ (access_calm a a.mode) (λ u. zeroing_calm accesses)

  pub product_calm : (f : ℕ → ℕ → ℕ → List ℕ → List ℕ → List ℕ) (deed : ℕ → Deed) (n p q a b c : ℕ)
      → (is_side n && is_side p && is_side q && has widths a (n * p) && has widths b (p * q) && has widths c (n * q)) ≡ true
      → Done (product widths f deed n p q a b c)
  product_calm f deed n p q a b c e =
      after _ _ (calm_test Q _ F2 0 e) (λ u.
      calm_then Q (λ _. Unit {0}) (λ _. Unit {0}) _ _ (loads_calm a 0 (n * p)) (λ xs r.
      calm_then Q (λ _. Unit {0}) (λ _. Unit {0}) _ _ (loads_calm b 0 (p * q)) (λ ys s. performs_calm deed c 0 (f n p q xs ys))))

  smooth_calm : (n l a r b : ℕ) → Done (smooth widths n l a r b)
  smooth_calm zero l a r b = calm_give Q (λ _. Unit {0}) tt tt
  smooth_calm (suc n) l a r b =
      calm_then Q (λ _. Unit {0}) (λ _. Unit {0}) _ _ (calm_load Q l n) (λ left s.
      calm_then Q (λ _. Unit {0}) (λ _. Unit {0}) _ _ (loads_calm a 0 (suc n)) (λ row t.
      calm_then Q (λ _. Unit {0}) (λ _. Unit {0}) _ _ (calm_load Q r 0) (λ right u. performs_calm Store b 0 (stencil_of left row right))))

  pub stencil_calm : (n l a r b : ℕ) → (is_side n && has widths l n && has widths a n && has widths r n && has widths b n) ≡ true
      → Done (stencil_body widths n l a r b)
  stencil_calm n l a r b e = after _ _ (calm_test Q _ F2 0 e) (λ u. smooth_calm n l a r b)

  pub scan_calm : (n t s a : ℕ) → (is_side n && has widths a n && nat_lt t (widths s)) ≡ true → Done (scan_body widths n t s a)
  scan_calm n t s a e =
      after _ _ (calm_test Q _ F2 0 e) (λ u.
      calm_then Q (λ _. Unit {0}) (λ _. Unit {0}) _ _ (calm_load Q s t) (λ start p.
      calm_then Q (λ _. Unit {0}) (λ _. Unit {0}) _ _ (loads_calm a 0 n) (λ row q. performs_calm Store a 0 (scan_of start row))))

-- a call whose body is calm behind its zeroing
pub call_quiet : (Q : Job → Type 0) (p : Program) (call : CallTree) → Calm Q (λ (_ : Unit {0}). Unit {0}) (call_body (λ w. w) p call call.task)
    → Quiet Q 0 0 (script_of p (Whole call))
unfolding script_with ◌>>=◌
call_quiet Q p call h =
    (zeroing_calm Q (width_of p.families) call.accesses).rest 0 0 (λ _. call_body (λ w. w) p call call.task (λ _. Stop None)) (λ _ _.
    h.rest 0 0 (λ _. Stop None) (λ _ _. (refl, refl, refl)))
