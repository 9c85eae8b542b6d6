-- The faults that workers met, and the least of them.
use Rattle.std.proofs.Common.{◌≡◌, ◌<◌, ◌≤◌, ℕ, zero, suc, List, [], ◌∷◌, ◌++◌, append-nil, map, length, Option, Some, None, ◌⊎◌, inl, inr, append_assoc, slice_index_or, refl, sym, ap, ◌∙◌, subst, arith}
use Rattle.std.specs.List.{flat_map}
use Rattle.std.specs.List.Sorted.{IsPermutation}
use Rattle.std.proofs.lemmas.List.Sorted.{All-permutation, IsPermutation-sym}
use Rattle.kt_order.specs.Sequential.{Entry}
use Rattle.kt_prog.specs.Calls.{index_of}
use Rattle.kt_prog.specs.Entries.{faults_of, fault_in}
use Rattle.kt_prog.specs.Reference.{Placed, machine_of}
use Rattle.kt_prog.specs.Runs.{FaultRun}
use Rattle.kt_prog.specs.Script.{Fault}
use Rattle.kt_faults.specs.First.{earlier, IsAmong, IsFirst, AtMostOne, AreSame}
use Rattle.kt_faults.specs.Laws.{EarlierIsFirst}
use Rattle.kt_faults.proofs.Firsts.{among_left, among_right}
use Rattle.kt_runs.specs.ByPath.{Path}
use Rattle.kt_rule.specs.declared.views.Setup.{Setup}
use Rattle.kt_rule.specs.declared.views.Execution.{Execution}
use Rattle.kt_rule.specs.declared.views.IndexRun.{IndexRun}
use Rattle.kt_rule.specs.Close.{run_entry, index_entry}
use Rattle.kt_rule.specs.Lists.{times, In, here, there}
use Rattle.kt_rule.specs.LoopFacts.{index_times}
use Rattle.kt_rule.specs.Views.{path_of}
use Rattle.kt_rule.proofs.Sums.{among, in_append, in_left, in_map, in_right, one_self}
use Rattle.kt_steps.proofs.Telling.{the_some}
use Rattle.kt_pieces.proofs.Ended.{index_some, one_here}
use Rattle.kt_intervals.specs.Faults.{task_faults, index_faults, faults_met}
use Rattle.kt_intervals.proofs.Faults.{among_either}
use Rattle.kt_crew.specs.declared.jobs.Done.{Done}
use Rattle.kt_crew.specs.Ends.{first_with}

-- those of all workers
abbrev pub met_by : Setup → List Done → List FaultRun
met_by j [] = []
met_by j (d ∷ done) = faults_met j d.seat.token.me.0 ++ met_by j done

-- each worker kept the least fault of its own, so the first of these is that of all
pub first_of_all : EarlierIsFirst → (j : Setup) (done : List Done) (least : Option FaultRun) (fs : List FaultRun) → IsFirst least fs
    → ((d : Done) → In d done → IsFirst d.fault (faults_met j d.seat.token.me.0)) → IsFirst (first_with least done) (fs ++ met_by j done)
first_of_all law j [] least fs first each = subst (IsFirst least) (sym (append-nil fs)) first
first_of_all law j (d ∷ done) least fs first each =
    let own = faults_met j d.seat.token.me.0 in
    subst (IsFirst (first_with (earlier least d.fault) done)) (append_assoc fs own (met_by j done))
    (first_of_all law j done (earlier least d.fault) (fs ++ own) (law least d.fault fs own first (each d here)) (λ x i. each x (there i)))

-- MEMBERS

of_map : {A B : Type 0} (f : A → B) (y : B) (xs : List A) → In y (map f xs) → (x : A) × In x xs × (y ≡ f x)
of_map f y [] i = elim i [ ]
of_map f y (z ∷ xs) here = (z, here, refl)
of_map f y (z ∷ xs) (there i) = let r = of_map f y xs i in (r.0, there r.1, r.2)

-- THE FAULTS OF ENTRIES

abbrev Entries : Setup → Type 0
Entries j = List (Entry (machine_of j.program))

-- one of these entries met it
abbrev IsMetIn : (j : Setup) → FaultRun → Entries j → Type 0
IsMetIn j f es = (e : Entry (machine_of j.program)) × In e es × IsAmong f (fault_in e.call e.fault)

met_in : (j : Setup) (f : FaultRun) (es : Entries j) → IsAmong f (faults_of j.program es) → IsMetIn j f es
met_in j f [] h = absurd h
met_in j f (e ∷ es) h = elim (among_either f (fault_in e.call e.fault) (faults_of j.program es) h) [
  | inl a ↦ (e, here, a)
  | inr b ↦ (let r = met_in j f es b in (r.0, there r.1, r.2))
]

among_met : (j : Setup) (f : FaultRun) (es : Entries j) (e : Entry (machine_of j.program)) → In e es → IsAmong f (fault_in e.call e.fault)
    → IsAmong f (faults_of j.program es)
among_met j f [] e i h = elim i [ ]
among_met j f (x ∷ es) e here h = among_left f (fault_in e.call e.fault) (faults_of j.program es) h
among_met j f (x ∷ es) e (there i) h = among_right f (fault_in x.call x.fault) (faults_of j.program es) (among_met j f es e i h)

-- WHAT ALL WORKERS RAN

abbrev pub ran_by : List Done → List Execution
ran_by = flat_map (λ (d : Done). d.seat.token.me.0.tasks.ran)

abbrev pub retired_by : List Done → List IndexRun
retired_by = flat_map (λ (d : Done). d.seat.token.me.0.loops.retired)

-- one of the tasks met it, or one of the indexes did
abbrev IsMet : (j : Setup) → FaultRun → List Execution → List IndexRun → Type 0
IsMet j f ran retired = ((e : Execution) × In e ran × IsAmong f (fault_in (run_entry j e).call (run_entry j e).fault))
    ⊎ ((e : IndexRun) × In e retired × IsAmong f (fault_in (index_entry j e).call (index_entry j e).fault))

met_by_one : (j : Setup) (f : FaultRun) (ran : List Execution) (retired : List IndexRun) → IsAmong f (task_faults j ran ++ index_faults j retired)
    → IsMet j f ran retired
met_by_one j f ran retired h = elim (among_either f (task_faults j ran) (index_faults j retired) h) [
  | inl a ↦ (let r = met_in j f (map (run_entry j) ran) a in let o = of_map (run_entry j) r.0 ran r.1 in
      inl (o.0, o.1, subst (λ (x : Entry (machine_of j.program)). IsAmong f (fault_in x.call x.fault)) o.2 r.2))
  | inr b ↦ (let r = met_in j f (map (index_entry j) retired) b in let o = of_map (index_entry j) r.0 retired r.1 in
      inr (o.0, o.1, subst (λ (x : Entry (machine_of j.program)). IsAmong f (fault_in x.call x.fault)) o.2 r.2))
]

one_met : (j : Setup) (f : FaultRun) (ran : List Execution) (retired : List IndexRun) → IsMet j f ran retired
    → IsAmong f (task_faults j ran ++ index_faults j retired)
one_met j f ran retired (inl (e, i, h)) = among_left f (task_faults j ran) (index_faults j retired)
    (among_met j f (map (run_entry j) ran) (run_entry j e) (in_map (run_entry j) ran e i) h)
one_met j f ran retired (inr (e, i, h)) = among_right f (task_faults j ran) (index_faults j retired)
    (among_met j f (map (index_entry j) retired) (index_entry j e) (in_map (index_entry j) retired e i) h)

among_met_by : (j : Setup) (done : List Done) (f : FaultRun) → IsAmong f (met_by j done) → IsMet j f (ran_by done) (retired_by done)
among_met_by j [] f h = absurd h
among_met_by j (d ∷ done) f h = elim (among_either f (faults_met j d.seat.token.me.0) (met_by j done) h) [
  | inl a ↦ widen (met_by_one j f d.seat.token.me.0.tasks.ran d.seat.token.me.0.loops.retired a)
  | inr b ↦ behind (among_met_by j done f b)
]
  where
    widen : IsMet j f d.seat.token.me.0.tasks.ran d.seat.token.me.0.loops.retired → IsMet j f (ran_by (d ∷ done)) (retired_by (d ∷ done))
    widen (inl (e, i, k)) = inl (e, in_left d.seat.token.me.0.tasks.ran (ran_by done) e i, k)
    widen (inr (e, i, k)) = inr (e, in_left d.seat.token.me.0.loops.retired (retired_by done) e i, k)

    behind : IsMet j f (ran_by done) (retired_by done) → IsMet j f (ran_by (d ∷ done)) (retired_by (d ∷ done))
    behind (inl (e, i, k)) = inl (e, in_right d.seat.token.me.0.tasks.ran (ran_by done) e i, k)
    behind (inr (e, i, k)) = inr (e, in_right d.seat.token.me.0.loops.retired (retired_by done) e i, k)

met_by_among : (j : Setup) (done : List Done) (f : FaultRun) → IsMet j f (ran_by done) (retired_by done) → IsAmong f (met_by j done)
met_by_among j [] f (inl (e, i, k)) = elim i [ ]
met_by_among j [] f (inr (e, i, k)) = elim i [ ]
met_by_among j (d ∷ done) f (inl (e, i, k)) = elim (in_append d.seat.token.me.0.tasks.ran (ran_by done) e i) [
  | inl a ↦ among_left f (faults_met j d.seat.token.me.0) (met_by j done)
      (one_met j f d.seat.token.me.0.tasks.ran d.seat.token.me.0.loops.retired (inl (e, a, k)))
  | inr b ↦ among_right f (faults_met j d.seat.token.me.0) (met_by j done) (met_by_among j done f (inl (e, b, k)))
]
met_by_among j (d ∷ done) f (inr (e, i, k)) = elim (in_append d.seat.token.me.0.loops.retired (retired_by done) e i) [
  | inl a ↦ among_left f (faults_met j d.seat.token.me.0) (met_by j done)
      (one_met j f d.seat.token.me.0.tasks.ran d.seat.token.me.0.loops.retired (inr (e, a, k)))
  | inr b ↦ among_right f (faults_met j d.seat.token.me.0) (met_by j done) (met_by_among j done f (inr (e, b, k)))
]

-- LISTS OF THE SAME FAULTS

at_among : (xs : List FaultRun) (k : ℕ) (d : FaultRun) → k < length xs → IsAmong (slice_index_or xs k d) xs
at_among [] k d less = absurd (omega arith)
at_among (x ∷ xs) zero d less = inl refl
at_among (x ∷ xs) (suc k) d less = inr (at_among xs k d (omega arith))

all_among : (P : FaultRun → Type 0) (xs : List FaultRun) → ((k : ℕ) (d : FaultRun) → k < length xs → P (slice_index_or xs k d))
    → (f : FaultRun) → IsAmong f xs → P f
all_among P [] h f i = absurd i
all_among P (x ∷ xs) h f (inl e) = subst P (sym e) (h 0 x (omega arith))
all_among P (x ∷ xs) h f (inr i) = all_among P xs (λ k d less. h (suc k) d (omega arith)) f i

among_permuted : (xs ys : List FaultRun) → IsPermutation xs ys → (f : FaultRun) → IsAmong f xs → IsAmong f ys
among_permuted xs ys same = all_among (λ g. IsAmong g ys) xs
    (All-permutation (λ g. IsAmong g ys) ys xs (IsPermutation-sym xs ys same) (at_among ys))

-- the faults of two lists of entries are those of both
split_faults : (j : Setup) (f : FaultRun) (xs ys : Entries j) → IsAmong f (faults_of j.program (xs ++ ys))
    → IsAmong f (faults_of j.program xs ++ faults_of j.program ys)
split_faults j f xs ys h = let r = met_in j f (xs ++ ys) h in elim (in_append xs ys r.0 r.1) [
  | inl a ↦ among_left f (faults_of j.program xs) (faults_of j.program ys) (among_met j f xs r.0 a r.2)
  | inr b ↦ among_right f (faults_of j.program xs) (faults_of j.program ys) (among_met j f ys r.0 b r.2)
]

joined_faults : (j : Setup) (f : FaultRun) (xs ys : Entries j) → IsAmong f (faults_of j.program xs ++ faults_of j.program ys)
    → IsAmong f (faults_of j.program (xs ++ ys))
joined_faults j f xs ys h = elim (among_either f (faults_of j.program xs) (faults_of j.program ys) h) [
  | inl a ↦ (let r = met_in j f xs a in among_met j f (xs ++ ys) r.0 (in_left xs ys r.0 r.1) r.2)
  | inr b ↦ (let r = met_in j f ys b in among_met j f (xs ++ ys) r.0 (in_right xs ys r.0 r.1) r.2)
]

abbrev faults_in : Setup → List Execution → List IndexRun → List FaultRun
faults_in j ran retired = faults_of j.program (map (run_entry j) ran ++ map (index_entry j) retired)

-- what the workers met is what the reference run meets
pub same_faults : (j : Setup) (done : List Done) (ran : List Execution) (retired : List IndexRun) (faults : List FaultRun)
    → ran ≡ ran_by done → retired ≡ retired_by done
    → IsPermutation faults (faults_of j.program (map (run_entry j) ran ++ map (index_entry j) retired)) → AreSame (met_by j done) faults
same_faults j done ran retired faults tasks indexes same f = (
  (λ i. among_permuted (faults_in j ran retired) faults (IsPermutation-sym faults (faults_in j ran retired) same) f
      (joined_faults j f (map (run_entry j) ran) (map (index_entry j) retired)
      (one_met j f ran retired (subst (λ es. IsMet j f es retired) (sym tasks)
      (subst (λ es. IsMet j f (ran_by done) es) (sym indexes) (among_met_by j done f i)))))),
  (λ i. met_by_among j done f (subst (λ es. IsMet j f es (retired_by done)) tasks (subst (λ es. IsMet j f ran es) indexes
      (met_by_one j f ran retired (split_faults j f (map (run_entry j) ran) (map (index_entry j) retired) (among_permuted faults (faults_in j ran retired) same f i)))))),
)

-- ONE AT EACH PATH AND INDEX

some_there : (p : Path) (es : List Execution) (e : Execution) → In e es → path_of e ≡ p → 0 < times p (map path_of es)
some_there p es e i h = subst (λ (q : Path). 0 < times q (map path_of es)) h (among path_of es e i)

once_in : (p : Path) (es : List Execution) → times p (map path_of es) ≤ 1 → (e f : Execution) → In e es → In f es → path_of e ≡ p → path_of f ≡ p → e ≡ f
once_in p [] few e f i k g h = elim i [ ]
once_in p (x ∷ es) few e f here here g h = refl
once_in p (x ∷ es) few e f here (there k) g h =
    let a = one_self p (path_of e) g in let b = some_there p es f k h in absurd (omega arith)
once_in p (x ∷ es) few e f (there i) here g h =
    let a = one_self p (path_of f) h in let b = some_there p es e i g in absurd (omega arith)
once_in p (x ∷ es) few e f (there i) (there k) g h = once_in p es (omega arith) e f i k g h

index_there : (p : Path) (i : ℕ) (es : List IndexRun) (e : IndexRun) → In e es → e.spot.path ≡ p → e.index ≡ i → 1 ≤ index_times p i es
index_there p i es e is path index = subst (λ (n : ℕ). 1 ≤ index_times p n es) index (index_some p es e is path)

index_once : (p : Path) (i : ℕ) (es : List IndexRun) → index_times p i es ≤ 1 → (e f : IndexRun) → In e es → In f es
    → e.spot.path ≡ p → e.index ≡ i → f.spot.path ≡ p → f.index ≡ i → e ≡ f
index_once p i [] few e f is ks a b c d = elim is [ ]
index_once p i (x ∷ es) few e f here here a b c d = refl
index_once p i (x ∷ es) few e f here (there ks) a b c d =
    let n = one_here p i e a (sym b) in let m = index_there p i es f ks c d in absurd (omega arith)
index_once p i (x ∷ es) few e f (there is) here a b c d =
    let n = one_here p i f c (sym d) in let m = index_there p i es e is a b in absurd (omega arith)
index_once p i (x ∷ es) few e f (there is) (there ks) a b c d = index_once p i es (omega arith) e f is ks a b c d

suc_is : (m n : ℕ) → suc m ≡ suc n → m ≡ n
suc_is m n e = omega arith

paths_are : (p q : Path) → map suc p ≡ map suc q → p ≡ q
paths_are [] [] e = refl
paths_are [] (y ∷ q) e = absurd (cc e)
paths_are (x ∷ p) [] e = absurd (cc e)
paths_are (x ∷ p) (y ∷ q) e = let h = parts e in λ i. suc_is x y h.0 i ∷ paths_are p q h.1 i
  where
    parts : {a b : ℕ} → {xs ys : List ℕ} → a ∷ xs ≡ b ∷ ys → (a ≡ b) × (xs ≡ ys)
    parts h = (cc, cc)

-- where a fault is met, and that there is one at most
fault_there : (c : Placed) (o : Option Fault) (f : FaultRun) → IsAmong f (fault_in c o) → (f.path ≡ c.path) × (f.index ≡ index_of c.job)
fault_there c None f h = absurd h
fault_there c (Some g) f (inl e) = (ap (λ (z : FaultRun). z.path) e, ap (λ (z : FaultRun). z.index) e)
fault_there c (Some g) f (inr h) = absurd h

one_fault : (c : Placed) (o : Option Fault) (f g : FaultRun) → IsAmong f (fault_in c o) → IsAmong g (fault_in c o) → f ≡ g
one_fault c None f g h k = absurd h
one_fault c (Some x) f g (inl e) (inl d) = e ∙ sym d
one_fault c (Some x) f g (inl e) (inr k) = absurd k
one_fault c (Some x) f g (inr h) k = absurd h

no_index : {o : Option ℕ} {n : ℕ} → o ≡ None → o ≡ Some n → ⊥
no_index h k = cc

pub one_at_each : (j : Setup) (done : List Done) (ran : List Execution) (retired : List IndexRun) → ran ≡ ran_by done → retired ≡ retired_by done
    → ((q : Path) → times q (map path_of ran) ≤ 1) → ((q : Path) (i : ℕ) → index_times q i retired ≤ 1) → AtMostOne (met_by j done)
one_at_each j done ran retired tasks indexes once each f g i k paths same =
    one (among_met_by j done f i) (among_met_by j done g k)
  where
    one : IsMet j f (ran_by done) (retired_by done) → IsMet j g (ran_by done) (retired_by done) → f ≡ g
    one (inl (e, a, h)) (inl (d, b, l)) =
        let x = fault_there (run_entry j e).call (run_entry j e).fault f h in let y = fault_there (run_entry j d).call (run_entry j d).fault g l in
        let at = paths_are e.spot.path d.spot.path (sym x.0 ∙ (paths ∙ y.0)) in
        let is = once_in d.spot.path ran (once d.spot.path) e d (subst (In e) (sym tasks) a) (subst (In d) (sym tasks) b) at refl in
        one_fault (run_entry j d).call (run_entry j d).fault f g
        (subst (λ (z : Execution). IsAmong f (fault_in (run_entry j z).call (run_entry j z).fault)) is h) l
    one (inl (e, a, h)) (inr (d, b, l)) =
        let x = fault_there (run_entry j e).call (run_entry j e).fault f h in let y = fault_there (index_entry j d).call (index_entry j d).fault g l in
        absurd (no_index x.1 (same ∙ y.1))
    one (inr (e, a, h)) (inl (d, b, l)) =
        let x = fault_there (index_entry j e).call (index_entry j e).fault f h in let y = fault_there (run_entry j d).call (run_entry j d).fault g l in
        absurd (no_index (same ∙ y.1) x.1)
    one (inr (e, a, h)) (inr (d, b, l)) =
        let x = fault_there (index_entry j e).call (index_entry j e).fault f h in let y = fault_there (index_entry j d).call (index_entry j d).fault g l in
        let at = paths_are e.spot.path d.spot.path (sym x.0 ∙ (paths ∙ y.0)) in
        let number = the_some (sym x.1 ∙ (same ∙ y.1)) in
        let is = index_once d.spot.path d.index retired (each d.spot.path d.index) e d (subst (In e) (sym indexes) a) (subst (In d) (sym indexes) b)
        at number refl refl in
        one_fault (index_entry j d).call (index_entry j d).fault f g
        (subst (λ (z : IndexRun). IsAmong f (fault_in (index_entry j z).call (index_entry j z).fault)) is h) l
