-- The faults of indexes, and the first of more and more of them.
use Rattle.std.proofs.Common.{◌≡◌, ℕ, suc, false, List, [], ◌∷◌, ◌++◌, map, Option, Some, None, ◌⊎◌, inl, inr, nat_lt, refl, sym, ap, ◌∙◌, subst, arith}
use Rattle.std.proofs.lemmas.Bool.Decides.{nat_tests}
use Rattle.std.proofs.lemmas.Grind.{flat_map-append}
use Rattle.std.proofs.lemmas.List.{map-append}
use Rattle.kt_order.specs.Lists.{AllOf}
use Rattle.kt_order.specs.Machine.{Code}
use Rattle.kt_order.specs.Sequential.{Entry}
use Rattle.kt_order.specs.Shown.{fault_of}
use Rattle.kt_faults.specs.First.{earlier, IsAmong, IsFirst}
use Rattle.kt_faults.proofs.Firsts.{all_at, among_left, among_right, earlier_first}
use Rattle.kt_faults.proofs.Order.{irreflexive}
use Rattle.kt_prog.specs.Calls.{Index}
use Rattle.kt_prog.specs.Entries.{fault_in, faults_of}
use Rattle.kt_prog.specs.Outcome.{fault_before}
use Rattle.kt_prog.specs.Reference.{machine_of}
use Rattle.kt_prog.specs.Runs.{FaultRun}
use Rattle.kt_prog.specs.Script.{Fault}
use Rattle.kt_runs.specs.ByPath.{Path}
use Rattle.kt_rule.specs.Close.{index_entry}
use Rattle.kt_rule.specs.declared.views.IndexRun.{IndexRun}
use Rattle.kt_rule.specs.declared.views.Setup.{Setup}
use Rattle.kt_pieces.specs.Changes.{ended}
use Rattle.kt_intervals.specs.Faults.{index_faults}
use Rattle.kt_intervals.specs.Indexes.{IsIndexAtEnd, index_fault}
use Rattle.kt_intervals.proofs.Stands.{over_left}

-- MEMBERS

pub among_either : (f : FaultRun) (fs gs : List FaultRun) → IsAmong f (fs ++ gs) → IsAmong f fs ⊎ IsAmong f gs
among_either f [] gs h = inr h
among_either f (x ∷ fs) gs (inl e) = inl (inl e)
among_either f (x ∷ fs) gs (inr h) = elim (among_either f fs gs h) [ inl k ↦ inl (inr k) | inr k ↦ inr k ]

all_from : (P : FaultRun → Type 0) (fs : List FaultRun) → ((f : FaultRun) → IsAmong f fs → P f) → AllOf P fs
all_from P [] h = tt
all_from P (x ∷ fs) h = (h x (inl refl), all_from P fs (λ f i. h f (inr i)))

-- the first of some faults is that of the same in another order
pub first_same : (one : Option FaultRun) (fs gs : List FaultRun) → ((f : FaultRun) → IsAmong f fs → IsAmong f gs) → ((f : FaultRun) → IsAmong f gs → IsAmong f fs)
    → IsFirst one fs → IsFirst one gs
first_same None fs [] there back h = refl
first_same None fs (g ∷ gs) there back h = absurd (subst (IsAmong g) h (back g (inl refl)))
first_same (Some f) fs gs there back h =
    (there f h.0, all_from (λ g. fault_before g f ≡ false) gs (λ g i. all_at (λ g. fault_before g f ≡ false) g fs h.1 (back g i)))

swapped : (f : FaultRun) (xs ys zs : List FaultRun) → IsAmong f ((xs ++ ys) ++ zs) → IsAmong f ((xs ++ zs) ++ ys)
swapped f xs ys zs h = by (among_either f (xs ++ ys) zs h)
  where
    front : IsAmong f xs ⊎ IsAmong f ys → IsAmong f ((xs ++ zs) ++ ys)
    front (inl a) = among_left f (xs ++ zs) ys (among_left f xs zs a)
    front (inr b) = among_right f (xs ++ zs) ys b

    by : IsAmong f (xs ++ ys) ⊎ IsAmong f zs → IsAmong f ((xs ++ zs) ++ ys)
    by (inl x) = front (among_either f xs ys x)
    by (inr c) = among_left f (xs ++ zs) ys (among_right f xs zs c)

pub first_swapped : (one : Option FaultRun) (xs ys zs : List FaultRun) → IsFirst one ((xs ++ ys) ++ zs) → IsFirst one ((xs ++ zs) ++ ys)
first_swapped one xs ys zs h =
    first_same one ((xs ++ ys) ++ zs) ((xs ++ zs) ++ ys) (λ f. swapped f xs ys zs) (λ f. swapped f xs zs ys) h

moved : (f : FaultRun) (xs ys zs : List FaultRun) → IsAmong f (xs ++ (ys ++ zs)) → IsAmong f (ys ++ (xs ++ zs))
moved f xs ys zs h = by (among_either f xs (ys ++ zs) h)
  where
    rest : IsAmong f ys ⊎ IsAmong f zs → IsAmong f (ys ++ (xs ++ zs))
    rest (inl b) = among_left f ys (xs ++ zs) b
    rest (inr c) = among_right f ys (xs ++ zs) (among_right f xs zs c)

    by : IsAmong f xs ⊎ IsAmong f (ys ++ zs) → IsAmong f (ys ++ (xs ++ zs))
    by (inl a) = among_right f ys (xs ++ zs) (among_left f xs zs a)
    by (inr x) = rest (among_either f ys zs x)

pub first_moved : (one : Option FaultRun) (xs ys zs : List FaultRun) → IsFirst one (xs ++ (ys ++ zs)) → IsFirst one (ys ++ (xs ++ zs))
first_moved one xs ys zs h =
    first_same one (xs ++ (ys ++ zs)) (ys ++ (xs ++ zs)) (λ f. moved f xs ys zs) (λ f. moved f ys xs zs) h

-- INDEXES

entry_faults : (j : Setup) → Entry (machine_of j.program) → List FaultRun
entry_faults j e = fault_in e.call e.fault

pub index_faults_join : (j : Setup) (xs ys : List IndexRun) → index_faults j (xs ++ ys) ≡ index_faults j xs ++ index_faults j ys
index_faults_join j xs ys =
    ap (λ (es : List (Entry (machine_of j.program))). faults_of j.program es) (map-append (index_entry j) xs ys)
    ∙ flat_map-append (λ (e : Entry (machine_of j.program)). fault_in e.call e.fault) (map (index_entry j) xs) (map (index_entry j) ys)

not_before_itself : (path : Path) (i : ℕ) (f : Fault) (g : FaultRun)
    → g ≡ record { path = path; index = Some i; fault = f.law; line = f.line } → fault_before g g ≡ false
not_before_itself path i f g is =
    let less : nat_lt i i ≡ false = grind (arith, nat_tests) in
    rw is (rw (irreflexive path, less) refl)

-- the fault with which an index ended is the first, and only one, of that index
pub first_of_one : (j : Setup) (e : IndexRun) (fault : Option Fault) → IsIndexAtEnd j e fault
    → IsFirst (index_fault e.spot.path e.index fault) (index_faults j (ended e ∷ []))
first_of_one j e fault h =
    subst (λ (c : Code (machine_of j.program)). IsFirst (index_fault e.spot.path e.index fault)
    (fault_in (record { path = map suc e.spot.path; job = Index e.spot.berth.call e.index }) (fault_of (machine_of j.program) c) ++ []))
    (sym (over_left j e fault h)) (here fault)
  where
    here : (f : Option Fault) → IsFirst (index_fault e.spot.path e.index f)
        (fault_in (record { path = map suc e.spot.path; job = Index e.spot.berth.call e.index }) f ++ [])
    here None = refl
    here (Some f) = (inl refl, (not_before_itself (map suc e.spot.path) e.index f _ refl, tt))

-- one index more
pub first_with_one : (j : Setup) (done : List IndexRun) (e : IndexRun) (fault : Option Fault) (before after : Option FaultRun) (faults : List FaultRun)
    → IsIndexAtEnd j e fault → IsFirst after (index_faults j (map ended done) ++ faults)
    → IsFirst (earlier after (index_fault e.spot.path e.index fault)) (index_faults j (map ended (done ++ e ∷ [])) ++ faults)
first_with_one j done e fault before after faults h first =
    let met = index_fault e.spot.path e.index fault in
    let all = map-append ended done (e ∷ []) in
    let joined : index_faults j (map ended (done ++ e ∷ [])) ≡ index_faults j (map ended done) ++ index_faults j (ended e ∷ []) =
    ap (index_faults j) all ∙ index_faults_join j (map ended done) (ended e ∷ []) in
    subst (λ (xs : List FaultRun). IsFirst (earlier after met) (xs ++ faults)) (sym joined)
    (first_swapped (earlier after met) (index_faults j (map ended done)) faults (index_faults j (ended e ∷ []))
    (earlier_first after met (index_faults j (map ended done) ++ faults) (index_faults j (ended e ∷ [])) first (first_of_one j e fault h)))
