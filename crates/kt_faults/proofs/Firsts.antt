-- The first fault of two lists, and of the same faults in another order.
use Rattle.std.proofs.Common.{◌≡◌, ℕ, Bool, true, false, List, [], ◌∷◌, ◌++◌, Option, Some, None, ◌⊎◌, inl, inr, refl, sym, ap, subst, ◌∙◌, if◌then◌else◌}
use Rattle.std.proofs.lemmas.List.{append-nil}
use Rattle.kt_order.specs.Lists.{AllOf}
use Rattle.kt_prog.specs.Runs.{FaultRun}
use Rattle.kt_prog.specs.Outcome.{fault_before, first_fault, fault_or_rows}
use Rattle.kt_prog.specs.declared.runs.Outcome.TheVariants as O
use Rattle.kt_faults.specs.First.{earlier, IsAmong, IsFirst, AtMostOne, AreSame, fault_else_rows}
use Rattle.kt_faults.specs.Laws.{EarlierIsFirst, FirstIsAnswer, SameFaultsSameAnswer}
use Rattle.kt_faults.proofs.Order.{not_later, not_through, first_in, first_least, neither_fault}

pub among_left : (f : FaultRun) (fs gs : List FaultRun) → IsAmong f fs → IsAmong f (fs ++ gs)
among_left f [] gs h = absurd h
among_left f (x ∷ fs) gs (inl e) = inl e
among_left f (x ∷ fs) gs (inr h) = inr (among_left f fs gs h)

pub among_right : (f : FaultRun) (fs gs : List FaultRun) → IsAmong f gs → IsAmong f (fs ++ gs)
among_right f [] gs h = h
among_right f (x ∷ fs) gs h = inr (among_right f fs gs h)

all_both : (P : FaultRun → Type 0) (fs gs : List FaultRun) → AllOf P fs → AllOf P gs → AllOf P (fs ++ gs)
all_both P [] gs a b = b
all_both P (x ∷ fs) gs a b = (a.0, all_both P fs gs a.1 b)

all_each : (P Q : FaultRun → Type 0) (fs : List FaultRun) → ((f : FaultRun) → P f → Q f) → AllOf P fs → AllOf Q fs
all_each P Q [] h a = a
all_each P Q (x ∷ fs) h a = (h x a.0, all_each P Q fs h a.1)

pub all_at : (P : FaultRun → Type 0) (f : FaultRun) (fs : List FaultRun) → AllOf P fs → IsAmong f fs → P f
all_at P f [] a h = absurd h
all_at P f (x ∷ fs) a (inl e) = subst P (sym e) a.0
all_at P f (x ∷ fs) a (inr h) = all_at P f fs a.1 h

pub earlier_first : EarlierIsFirst
earlier_first None None fs gs one other = ap (λ xs. xs ++ gs) one ∙ other
earlier_first None (Some g) fs gs one other = subst (λ xs. IsFirst (Some g) (xs ++ gs)) (sym one) other
earlier_first (Some f) None fs gs one other =
    subst (λ xs. IsFirst (Some f) (fs ++ xs)) (sym other) (subst (IsFirst (Some f)) (sym (append-nil fs)) one)
earlier_first (Some f) (Some g) fs gs one other = by (fault_before g f) refl
  where
    by : (b : Bool) → fault_before g f ≡ b → IsFirst (Some (if b then g else f)) (fs ++ gs)
    by true less = (
      among_right g fs gs other.0,
      all_both (λ h. fault_before h g ≡ false) fs gs
          (all_each (λ h. fault_before h f ≡ false) (λ h. fault_before h g ≡ false) fs (λ h none. not_later h g f none less) one.1)
          other.1,
    )
    by false none = (
      among_left f fs gs one.0,
      all_both (λ h. fault_before h f ≡ false) fs gs one.1
          (all_each (λ h. fault_before h g ≡ false) (λ h. fault_before h f ≡ false) gs (λ h later. not_through h g f later none) other.1),
    )

pub first_answers : FirstIsAnswer
first_answers None fs [] one most same store = refl
first_answers None fs (g ∷ gs) one most same store =
    absurd (subst (IsAmong g) one ((same g).1 (inl refl)))
first_answers (Some f) fs [] one most same store = absurd ((same f).0 one.0)
first_answers (Some f) fs (g ∷ gs) one most same store =
    let there = (same (first_fault g gs)).1 (first_in g gs) in
    let places = neither_fault (first_fault g gs) f (all_at (λ h. fault_before h f ≡ false) (first_fault g gs) fs one.1 there)
    (first_least g gs f ((same f).0 one.0)) in
    ap O.Fault (most (first_fault g gs) f there one.0 places.0 places.1)

-- the first of a list is its first fault
the_first : (f : FaultRun) (fs : List FaultRun) → IsFirst (Some (first_fault f fs)) (f ∷ fs)
the_first f fs = (first_in f fs, each (f ∷ fs) (first_least f fs))
  where
    each : (gs : List FaultRun) → ((g : FaultRun) → IsAmong g gs → fault_before g (first_fault f fs) ≡ false)
        → AllOf (λ g. fault_before g (first_fault f fs) ≡ false) gs
    each [] h = tt
    each (g ∷ gs) h = (h g (inl refl), each gs (λ k i. h k (inr i)))

pub same_answers : SameFaultsSameAnswer
same_answers [] gs most same store = sym (first_answers None [] gs refl most same store)
same_answers (f ∷ fs) gs most same store = sym (first_answers (Some (first_fault f fs)) (f ∷ fs) gs (the_first f fs) most same store)
