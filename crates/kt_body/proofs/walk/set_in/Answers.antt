use Rattle.std.proofs.Common.{◌≡◌, ℕ, zero, suc, ◌<◌, true, List, [], ◌∷◌, ◌++◌, length, take, drop, set, get_or, refl, ap, ◌∙◌, sym, arith, append-nil}
use Rattle.std.proofs.lemmas.Grind.{common_steps}
use Rattle.std.specs.Str.{bytes_eq}
use Rattle.kt_prog.specs.Lookups.{assign}
use Rattle.kt_prog.specs.declared.scope.Local.{Local}
use Rattle.kt_prog.specs.declared.scope.Bound.TheVariants.{Number}
use Rattle.kt_body.proofs.walk.set_in.Goals as goal

-- where x stands at i, and has the name, the list with x bound there is the list that `assign` gives from i on
assign_here : (xs : List Local) (i : ℕ) (x : Local) (name : List ℕ) (n : ℕ) → i < length xs → x ≡ get_or xs i x → bytes_eq x.name name ≡ true → set xs i (record { name = x.name; bound = Number n }) ≡ take i xs ++ assign (drop i xs) name n
assign_here [] i x name n h is e = absurd (omega arith)
assign_here (y ∷ xs) zero x name n h is e = rw (← is, e) refl
assign_here (y ∷ xs) (suc i) x name n h is e = ap (λ zs. y ∷ zs) (assign_here xs i x name n (omega arith) is e)

-- the same of what stands there then
assign_as : (xs : List Local) (i : ℕ) (x z : Local) (name : List ℕ) (n : ℕ) → i < length xs → x ≡ get_or xs i x → bytes_eq x.name name ≡ true
    → z ≡ record { name = x.name; bound = Number n } → set xs i z ≡ take i xs ++ assign (drop i xs) name n
assign_as xs i x z name n h is e same = ap (set xs i) same ∙ assign_here xs i x name n h is e

pub returns-then-is : goal.returns-then-is
returns-then-is c =
    let lt : c.loop-i.i < length c.loop-i.locals = omega arith in
    let same = rw (← c.index-locals-i.is) at (ap (λ (l : Local). let m : Local = record { name = l.name; bound = Number c.args.n } in m) c.local.view_is) in
    let has = rw (← c.index-locals-i.is) at (sym c.if-is.ensures) in
    rw c.loop-i.invariant (assign_as _ _ _ _ _ _ lt c.index-locals-i.is has same)

pub returns : goal.returns
returns c = rw c.loop-i.invariant (let t : take c.loop-i.i c.loop-i.locals ≡ c.loop-i.locals = grind (arith, common_steps) in let d : drop c.loop-i.i c.loop-i.locals ≡ [] = grind (arith, common_steps) in rw (t, d) (sym (append-nil _)))
