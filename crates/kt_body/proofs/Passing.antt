-- The equations of forks, at what a `match` finds, and the room for what is passed.
use Rattle.std.proofs.Common.{◌≡◌, ◌≤◌, ◌<◌, ℕ, zero, suc, ◌+◌, List, [], ◌∷◌, length, drop, get_or, Option, Some, None, refl, ap, arith, add-one}
use Rattle.std.specs.List.{slice_get}
use Rattle.kt_prog.specs.Forks.{Given, argument, arguments, child, fork_named, length_step, number_of, object_of, range_of}
use Rattle.kt_prog.specs.Script.{◌>>=◌, give}
use Rattle.kt_prog.specs.Targets as T
use Rattle.kt_prog.specs.Values.{View}
use Rattle.kt_prog.specs.declared.programs.Arg.{Arg}
use Rattle.kt_prog.specs.declared.programs.ArgWhat.{ArgWhat}
use Rattle.kt_prog.specs.declared.programs.Expr.{Expr}
use Rattle.kt_prog.specs.declared.programs.Sort.{Sort}
use Rattle.kt_prog.specs.declared.programs.Sort.TheVariants as S
use Rattle.kt_body.specs.Forking.{Grows, HasRoom}
use Rattle.kt_body.proofs.Astray.{astray_is}

module _ (v : View) where
  pub at_length : (l l' : Option Expr) → l ≡ l' → length_step (λ w. w) l v ≡ length_step (λ w. w) l' v
  at_length l l' e = ap (λ (k : Option Expr). length_step (λ w. w) k v) e

  pub at_number : (a b : ArgWhat) → a ≡ b → number_of (λ w. w) a v ≡ number_of (λ w. w) b v
  at_number a b e = ap (λ (k : ArgWhat). number_of (λ w. w) k v) e

  pub at_object : (a b : ArgWhat) → a ≡ b → object_of (λ w. w) a v ≡ object_of (λ w. w) b v
  at_object a b e = ap (λ (k : ArgWhat). object_of (λ w. w) k v) e

  pub at_range : (a b : ArgWhat) → a ≡ b → range_of (λ w. w) a v ≡ range_of (λ w. w) b v
  at_range a b e = ap (λ (k : ArgWhat). range_of (λ w. w) k v) e

  pub at_argument : (a : Arg) (g : Given) (s s' : Sort) → s ≡ s' → argument (λ w. w) s a v g ≡ argument (λ w. w) s' a v g
  at_argument a g s s' e = ap (λ (k : Sort). argument (λ w. w) k a v g) e

  pub at_fork : (len : Option Expr) (args : List Arg) (t t' : Option T.Target) → t ≡ t' → fork_named (λ w. w) t len args v ≡ fork_named (λ w. w) t' len args v
  at_fork len args t t' e = ap (λ (k : Option T.Target). fork_named (λ w. w) k len args v) e

  pub no_sorts : (args : List Arg) (g : Given) → arguments (λ w. w) [] args v g ≡ give g
  no_sorts [] g = refl
  no_sorts (a ∷ args) g = astray_is g

  pub no_args : (sorts : List Sort) (g : Given) → arguments (λ w. w) sorts [] v g ≡ give g
  no_args [] g = refl
  no_args (s ∷ sorts) g = astray_is g

  next_argument : (sorts : List Sort) (args : List Arg) (i : ℕ) (s : Sort) (a : Arg) (g : Given) → slice_get sorts i ≡ Some s → i < length args → a ≡ get_or args i a
      → arguments (λ w. w) (drop i sorts) (drop i args) v g ≡ (do
        g' ← argument (λ w. w) s a v g
        arguments (λ w. w) (drop (suc i) sorts) (drop (suc i) args) v g')
  next_argument [] args i s a g e h is = cc
  next_argument (x ∷ sorts) [] i s a g e h is = absurd (omega arith)
  next_argument (x ∷ sorts) (y ∷ args) zero s a g e h is = let same : x ≡ s = cc in rw (same, is) refl
  next_argument (x ∷ sorts) (y ∷ args) (suc i) s a g e h is = next_argument sorts args i s a g e (omega arith) is

  pub more_arguments : (sorts : List Sort) (args : List Arg) (i : ℕ) (s : Sort) (a : Arg) (g : Given) → slice_get sorts i ≡ Some s → i < length args → a ≡ get_or args i a
      → arguments (λ w. w) (drop i sorts) (drop i args) v g ≡ (do
        g' ← argument (λ w. w) s a v g
        arguments (λ w. w) (drop (i + 1) sorts) (drop (i + 1) args) v g')
  more_arguments sorts args i s a g e h is = rw add-one (next_argument sorts args i s a g e h is)

  drop_none : (sorts : List Sort) (i : ℕ) → slice_get sorts i ≡ None → drop i sorts ≡ []
  drop_none [] zero e = refl
  drop_none [] (suc i) e = refl
  drop_none (x ∷ sorts) zero e = cc
  drop_none (x ∷ sorts) (suc i) e = drop_none sorts i e

  pub sorts_end : (sorts : List Sort) (args : List Arg) (i : ℕ) (g : Given) → slice_get sorts i ≡ None → arguments (λ w. w) (drop i sorts) args v g ≡ give g
  sorts_end sorts args i g e = rw (drop_none sorts i e) (no_sorts args g)

  args_end_at : (args : List Arg) (i : ℕ) → length args ≤ i → drop i args ≡ []
  args_end_at [] zero h = refl
  args_end_at [] (suc i) h = refl
  args_end_at (a ∷ args) zero h = absurd (omega arith)
  args_end_at (a ∷ args) (suc i) h = args_end_at args i (omega arith)

  pub args_end : (sorts : List Sort) (args : List Arg) (i : ℕ) (g : Given) → length args ≤ i → arguments (λ w. w) sorts (drop i args) v g ≡ give g
  args_end sorts args i g h = rw (args_end_at args i h) (no_args sorts g)

  pub child_is : (t : T.Target) (n : ℕ) (g g' : Given) (number : ℕ) → number ≡ t.number → g' ≡ g
      → child t v n g ≡ record { task = number; depth = v.site.depth + 1; length = n; ints = g'.ints; accesses = g'.accesses }
  child_is t n g g' number e f = rw (e, f) refl

drop_some : (sorts : List Sort) (i : ℕ) (s : Sort) → slice_get sorts i ≡ Some s → drop i sorts ≡ s ∷ drop (suc i) sorts
drop_some [] i s e = cc
drop_some (x ∷ sorts) zero s e = let same : x ≡ s = cc in rw same refl
drop_some (x ∷ sorts) (suc i) s e = drop_some sorts i s e

room_one : (g : Given) (s : Sort) (rest : List Sort) → HasRoom g (s ∷ rest) → HasRoom g (s ∷ [])
room_one g S.Int rest h = let a = h.ints in let b = h.accesses in record { ints = omega arith; accesses = omega arith }
room_one g (S.One mode) rest h = let a = h.ints in let b = h.accesses in record { ints = omega arith; accesses = omega arith }
room_one g (S.Many mode) rest h = let a = h.ints in let b = h.accesses in record { ints = omega arith; accesses = omega arith }

room_rest : (g g' : Given) (s : Sort) (rest : List Sort) → HasRoom g (s ∷ rest) → Grows s g g' → HasRoom g' rest
room_rest g g' S.Int rest h k = let a = h.ints in let b = h.accesses in record { ints = omega (arith, k.0); accesses = omega (arith, k.1) }
room_rest g g' (S.One mode) rest h k = let a = h.ints in let b = h.accesses in record { ints = omega (arith, k.0); accesses = omega (arith, k.1) }
room_rest g g' (S.Many mode) rest h k = let a = h.ints in let b = h.accesses in record { ints = omega (arith, k.0); accesses = omega (arith, k.1) }

pub room_here : (g : Given) (sorts : List Sort) (i : ℕ) (s : Sort) → slice_get sorts i ≡ Some s → HasRoom g (drop i sorts) → HasRoom g (s ∷ [])
room_here g sorts i s e h = room_one g s (drop (suc i) sorts) (rw (← drop_some sorts i s e) h)

pub room_next : (g g' : Given) (sorts : List Sort) (i : ℕ) (s : Sort) → slice_get sorts i ≡ Some s → HasRoom g (drop i sorts) → Grows s g g' → HasRoom g' (drop (i + 1) sorts)
room_next g g' sorts i s e h k = rw add-one (room_rest g g' s (drop (suc i) sorts) (rw (← drop_some sorts i s e) h) k)
