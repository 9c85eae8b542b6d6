-- The names of a body: lists of locals as they grow, shrink and change.
use Rattle.std.proofs.Common.{◌≡◌, ◌≢◌, ◌≤◌, ◌<◌, ℕ, zero, suc, ◌+◌, ◌-◌, Bool, true, false, List, [], ◌∷◌, ◌++◌, length, take, Option, Some, refl, ap, arith, sub-one, nat_lt, is_some, if◌then◌else◌}
use Rattle.std.proofs.lemmas.Bool.Decides.{nat_tests}
use Rattle.std.specs.List.{refill}
use Rattle.std.specs.Str.{bytes_eq}
use Rattle.kt_law.specs.declared.faults.F.TheVariants.{F6}
use Rattle.kt_law.specs.declared.limits.TheConstants.{OBJECTS}
use Rattle.kt_prog.specs.Locals.{local_of, family_of, bound_family}
use Rattle.kt_prog.specs.Lookups.{assign, where_fine}
use Rattle.kt_prog.specs.Objects.{objects_of}
use Rattle.kt_prog.specs.Script.{Step, ◌>>=◌, astray, give, stop}
use Rattle.kt_prog.specs.Statements.{State, at_locals, step_at}
use Rattle.kt_prog.specs.declared.programs.Family.{Family}
use Rattle.kt_prog.specs.declared.scope.TheConstants.{NAMES}
use Rattle.kt_prog.specs.declared.scope.Bound.{Bound}
use Rattle.kt_prog.specs.declared.scope.Bound.TheVariants.{Number}
use Rattle.kt_prog.specs.declared.scope.Local.{Local}
use Rattle.kt_body.specs.Scenes.{IsSmall, IsSmallIn, AllSmall, named, renamed}

pub small_snoc : (ls : List Local) (l : Local) → AllSmall ls → IsSmall l.bound → AllSmall (ls ++ l ∷ [])
small_snoc [] l h k = (k, tt)
small_snoc (x ∷ ls) l (a, b) k = (a, small_snoc ls l b k)

pub small_take : (n : ℕ) (ls : List Local) → AllSmall ls → AllSmall (take n ls)
small_take zero ls h = tt
small_take (suc n) [] h = tt
small_take (suc n) (l ∷ ls) (a, b) = (a, small_take n ls b)

pub small_assign : (ls : List Local) (name : List ℕ) (n : ℕ) → AllSmall ls → AllSmall (assign ls name n)
small_assign [] name n h = tt
small_assign (l ∷ ls) name n (a, b) = pick l ls (assign ls name n) n a b (small_assign ls name n b) (bytes_eq l.name name)
  where
    pick : (l : Local) (ls after : List Local) (n : ℕ) → IsSmall l.bound → AllSmall ls → AllSmall after → (t : Bool)
        → AllSmall (if t then record { name = l.name; bound = Number n } ∷ ls else l ∷ after)
    pick l ls after n a b more true = (tt, b)
    pick l ls after n a b more false = (a, more)

pick_small : (x : Bound) (y : Option Bound) → IsSmall x → IsSmallIn y → (t : Bool) → IsSmallIn (if t then Some x else y)
pick_small x y a b true = a
pick_small x y a b false = b

pub local_small : (ls : List Local) (name : List ℕ) → AllSmall ls → IsSmallIn (local_of ls name)
local_small [] name h = tt
local_small (l ∷ ls) name (a, b) = pick_small l.bound (local_of ls name) a (local_small ls name b) (bytes_eq l.name name)

family_one_small : (many : Bool) (first members : ℕ) → first ≤ OBJECTS → IsSmall (bound_family many first members)
family_one_small true first members h = tt
family_one_small false first members h = h

pub family_small : (families : List Family) (first : ℕ) (name : List ℕ) → first + objects_of families ≤ OBJECTS → IsSmallIn (family_of first families name)
family_small [] first name h = tt
family_small (f ∷ families) first name h =
    let here : first ≤ OBJECTS = omega arith in
    let rest : first + f.members + objects_of families ≤ OBJECTS = omega arith in
    pick_small (bound_family f.many first f.members) (family_of (first + f.members) families name)
    (family_one_small f.many first f.members here) (family_small families (first + f.members) name rest) (bytes_eq f.name name)

pub named_room : (s : State) (name : List ℕ) (n : ℕ) → length s.locals < NAMES
    → named s name n ≡ give (at_locals s (s.locals ++ record { name = name; bound = Number n } ∷ []))
unfolding give ◌>>=◌
named_room s name n h = let e : nat_lt (length s.locals) NAMES ≡ true = grind (arith, nat_tests) in rw e refl

pub named_full : (s : State) (name : List ℕ) (n : ℕ) → NAMES ≤ length s.locals → named s name n ≡ give s
unfolding give astray ◌>>=◌
named_full s name n h = let e : nat_lt (length s.locals) NAMES ≡ false = grind (arith, nat_tests) in rw e refl

assign_none : (ls : List Local) (name : List ℕ) (n : ℕ) → is_some (local_of ls name) ≡ false → ls ≡ assign ls name n
assign_none [] name n h = refl
assign_none (l ∷ ls) name n h = pick l ls (assign ls name n) (local_of ls name) n (assign_none ls name n) (bytes_eq l.name name) h
  where
    pick : (l : Local) (ls after : List Local) (more : Option Bound) (n : ℕ) → (is_some more ≡ false → ls ≡ after) → (t : Bool)
        → is_some (if t then Some l.bound else more) ≡ false
        → l ∷ ls ≡ (if t then record { name = l.name; bound = Number n } ∷ ls else l ∷ after)
    pick l ls after more n f true e = cc
    pick l ls after more n f false e = ap (λ (r : List Local). l ∷ r) (f e)

fine_is : (b : Bool) (ls after : List Local) → (b ≡ false → ls ≡ after) → where_fine (λ w. w) b ls after ≡ give after
unfolding give astray
fine_is true ls after h = refl
fine_is false ls after h = rw (h refl) refl

pub renamed_is : (s : State) (name : List ℕ) (n : ℕ) → renamed s name n ≡ give (at_locals s (assign s.locals name n))
unfolding give ◌>>=◌
renamed_is s name n =
    ap (λ (m : Step (List Local)). m >>= (λ locals. give (at_locals s locals)))
    (fine_is (is_some (local_of s.locals name)) s.locals (assign s.locals name n) (assign_none s.locals name n))

pub none_left : (n line : ℕ) (s : State) → n ≡ 0 → step_at n line s ≡ stop F6 line
none_left zero line s h = refl
none_left (suc n) line s h = absurd (omega arith)

pub some_left : (n line : ℕ) (s : State) → n ≢ 0 → step_at n line s ≡ give (record { locals = s.locals; steps = n - 1 })
some_left zero line s h = absurd (h refl)
some_left (suc n) line s h = rw sub-one

pub length_assign : (ls : List Local) (name : List ℕ) (n : ℕ) → length (assign ls name n) ≡ length ls
length_assign [] name n = refl
length_assign (l ∷ ls) name n = pick l ls (assign ls name n) n (length_assign ls name n) (bytes_eq l.name name)
  where
    pick : (l : Local) (ls after : List Local) (n : ℕ) → length after ≡ length ls → (t : Bool)
        → length (if t then record { name = l.name; bound = Number n } ∷ ls else l ∷ after) ≡ suc (length ls)
    pick l ls after n e true = refl
    pick l ls after n e false = ap suc e

pub refill_same : (xs ws : List Local) → length ws ≡ length xs → refill (length xs) xs ws ≡ ws
refill_same [] [] e = refl
refill_same [] (w ∷ ws) e = cc
refill_same (x ∷ xs) [] e = cc
refill_same (x ∷ xs) (w ∷ ws) e = ap (λ (r : List Local). w ∷ r) (refill_same xs ws (omega (arith, e)))
