-- Indexes of one loop that end, all at once.
use Rattle.std.proofs.Common.{◌≡◌, ◌≢◌, ℕ, zero, suc, ◌+◌, ◌≤◌, ◌⊎◌, ◌&&◌, Bool, true, false, cond, nat_eq, List, [], ◌∷◌, length, map, sym, refl, ap, ◌∙◌, subst, inl, inr, arith, Some}
use Rattle.std.proofs.lemmas.Bool.{eqb-true}
use Rattle.std.proofs.lemmas.Bool.Decides.{nat_tests}
use mathlib.Core.Option.{some, some-injective, some-ne-none}
use lib.ListN.{get_elem?}
use Rattle.kt_order.specs.Books.{Piece, BookOk, done_in}
use Rattle.kt_order.specs.Forest.{Phase, Running, Finished}
use Rattle.kt_order.specs.Lists.{nth}
use Rattle.kt_order.specs.Paths.{same_path}
use Rattle.kt_order.proofs.Books.{book_ends}
use Rattle.kt_order.proofs.Phases.{ended_done}
use Rattle.kt_runs.specs.ByPath.{Path}
use Rattle.kt_rule.specs.declared.views.IndexRun.{IndexRun}
use Rattle.kt_rule.specs.Lists.{weigh, one_if, In, here, there}
use Rattle.kt_rule.specs.Lies.{IndexLie}
use Rattle.kt_rule.specs.LoopFacts.{in_indexes, index_times, index_tally, is_taken, is_retired, phase_in}
use Rattle.kt_rule.proofs.Puts.{same_self, same_is}
use Rattle.kt_rule.proofs.Sums.{in_cons}
use Rattle.kt_pieces.specs.Changes.{change_index, ends_now, end_indexes, ended}
use Rattle.kt_pieces.proofs.Indexes.{change_at, change_else, change_long, change_phases}

-- HOW OFTEN AN INDEX STANDS IN A LIST

pub one_here : (p : Path) (i : ℕ) (e : IndexRun) → e.spot.path ≡ p → i ≡ e.index → one_if (same_path p e.spot.path && nat_eq i e.index) ≡ 1
one_here p i e path is =
    let a : same_path p e.spot.path ≡ true = ap (same_path p) path ∙ same_self p in
    let b : nat_eq i e.index ≡ true = grind (arith, nat_tests) in
    rw (a, b) refl

pub one_there : (p : Path) (i : ℕ) (e : IndexRun) → ((e.spot.path ≡ p) × (e.index ≡ i)) ⊎ (one_if (same_path p e.spot.path && nat_eq i e.index) ≡ 0)
one_there p i e = go (same_path p e.spot.path) refl (nat_eq i e.index) refl
  where
    go : (b : Bool) → same_path p e.spot.path ≡ b → (c : Bool) → nat_eq i e.index ≡ c
        → ((e.spot.path ≡ p) × (e.index ≡ i)) ⊎ (one_if (same_path p e.spot.path && nat_eq i e.index) ≡ 0)
    go true a true b = inl (sym (same_is p e.spot.path a), sym (eqb-true i e.index b))
    go true a false b = inr (rw (a, b) refl)
    go false a c b = inr (rw a refl)

pub index_some : (p : Path) (es : List IndexRun) (e : IndexRun) → In e es → e.spot.path ≡ p → 1 ≤ index_times p e.index es
index_some p [] e i path = elim i [ ]
index_some p (d ∷ es) e i path = elim (in_cons e d es i) [
  | inl same ↦ (let a = one_here p e.index d (ap (λ (z : IndexRun). z.spot.path) (sym same) ∙ path) (ap (λ (z : IndexRun). z.index) same) in omega (arith, a))
  | inr rest ↦ (let a = index_some p es e rest path in omega (arith, a))
]

pub index_find : (p : Path) (i : ℕ) (es : List IndexRun) → 1 ≤ index_times p i es → (e : IndexRun) × In e es × (e.spot.path ≡ p) × (e.index ≡ i)
index_find p i [] some_there = absurd (omega (arith, some_there))
index_find p i (d ∷ es) some_there = elim (one_there p i d) [
  | inl h ↦ (d, here, h.0, h.1)
  | inr h ↦ (let r = index_find p i es (omega (arith, some_there, h)) in (r.0, there r.1, r.2, r.3))
]

pub zero_or : (n : ℕ) → (n ≡ 0) ⊎ (1 ≤ n)
zero_or n = grind arith

-- ENTRIES OF ONE LOOP THAT ARE UNDER WAY, EACH OF ANOTHER INDEX

pub record Hold (p : Path) (xs : List IndexLie) (es : List IndexRun) : Type 0 where
  pub path : (e : IndexRun) → In e es → e.spot.path ≡ p
  pub there_is : (e : IndexRun) → In e es → (x : IndexLie) × (get_elem? xs e.index ≡ some x) × (x.phase ≡ Running)
  pub once : (i : ℕ) → index_times p i es ≤ 1

other_index : (p : Path) (xs : List IndexLie) (e : IndexRun) (es : List IndexRun) → Hold p xs (e ∷ es) → (d : IndexRun) → In d es → d.index ≢ e.index
other_index p xs e es k d i same =
    let a = k.once d.index in
    let b = one_here p d.index e (k.path e here) same in
    let c = index_some p es d i (k.path d (there i)) in
    omega (arith, a, b, c)

pub hold_next : (p : Path) (xs : List IndexLie) (e : IndexRun) (es : List IndexRun) → Hold p xs (e ∷ es) → Hold p (change_index e.index ends_now xs) es
hold_next p xs e es k = record {
  path = λ d i. k.path d (there i);
  there_is = λ d i. (let x = k.there_is d (there i) in
      (x.0, change_else ends_now e.index d.index xs (other_index p xs e es k d i) ∙ x.1, x.2));
  once = λ i. let a = k.once i in omega (arith, a);
}

pub end_long : (es : List IndexRun) (xs : List IndexLie) → length (end_indexes es xs) ≡ length xs
end_long [] xs = refl
end_long (e ∷ es) xs = end_long es (change_index e.index ends_now xs) ∙ change_long ends_now e.index xs

pub end_else : (p : Path) (es : List IndexRun) (xs : List IndexLie) (j : ℕ) → Hold p xs es → index_times p j es ≡ 0
    → get_elem? (end_indexes es xs) j ≡ get_elem? xs j
end_else p [] xs j k none_there = refl
end_else p (e ∷ es) xs j k none_there =
    end_else p es (change_index e.index ends_now xs) j (hold_next p xs e es k) (omega (arith, none_there))
    ∙ change_else ends_now e.index j xs (λ same. let a = one_here p j e (k.path e here) same in omega (arith, none_there, a))

pub end_at : (p : Path) (es : List IndexRun) (xs : List IndexLie) (e : IndexRun) (x : IndexLie) → Hold p xs es → In e es → get_elem? xs e.index ≡ some x
    → get_elem? (end_indexes es xs) e.index ≡ some (ends_now x)
end_at p [] xs e x k i is = elim i [ ]
end_at p (d ∷ es) xs e x k i is = elim (in_cons e d es i) [
  | inl same ↦ (let index : e.index ≡ d.index = ap (λ (z : IndexRun). z.index) same in
      let a = k.once d.index in
      let b = one_here p d.index d (k.path d here) refl in
      ap (get_elem? (end_indexes (d ∷ es) xs)) index
      ∙ (end_else p es (change_index d.index ends_now xs) d.index (hold_next p xs d es k) (omega (arith, a, b))
      ∙ change_at ends_now d.index x xs (ap (get_elem? xs) (sym index) ∙ is)))
  | inr rest ↦ end_at p es (change_index d.index ends_now xs) e x (hold_next p xs d es k) rest
      (change_else ends_now d.index e.index xs (other_index p xs d es k e rest) ∙ is)
]

-- THE BOOK

nth_phase : (xs : List IndexLie) (i : ℕ) (x : IndexLie) → get_elem? xs i ≡ some x → nth (map phase_in xs) i ≡ Some x.phase
nth_phase [] i x e = absurd (some-ne-none x (sym e))
nth_phase (y ∷ xs) zero x e = ap (λ (z : IndexLie). Some z.phase) (some-injective y x e)
nth_phase (y ∷ xs) (suc i) x e = nth_phase xs i x e

pub record EndsBook (pieces : List Piece) (k : ℕ) (xs ys : List IndexLie) (n : ℕ) : Type 0 where
  pub book : BookOk (record { pieces = pieces; unretired = k }) (map phase_in ys)
  pub done : done_in (map phase_in ys) ≡ done_in (map phase_in xs) + n

pub end_book : (p : Path) (pieces : List Piece) (k : ℕ) (es : List IndexRun) (xs : List IndexLie) → Hold p xs es
    → BookOk (record { pieces = pieces; unretired = k }) (map phase_in xs) → EndsBook pieces k xs (end_indexes es xs) (length es)
end_book p pieces k [] xs hold ok = record { book = ok; done = omega arith }
end_book p pieces k (e ∷ es) xs hold ok =
    let x = hold.there_is e here in
    let runs : nth (map phase_in xs) e.index ≡ Some Running = nth_phase xs e.index x.0 x.1 ∙ ap (λ z. Some z) x.2 in
    let same = change_phases ends_now Finished (λ y. refl) e.index xs in
    let one = subst (λ (z : List Phase). BookOk (record { pieces = pieces; unretired = k }) z) (sym same)
    (book_ends (record { pieces = pieces; unretired = k }) (map phase_in xs) e.index ok runs) in
    let rest = end_book p pieces k es (change_index e.index ends_now xs) (hold_next p xs e es hold) one in
    let a = rest.done in
    let b : done_in (map phase_in (change_index e.index ends_now xs)) ≡ suc (done_in (map phase_in xs)) =
    ap done_in same ∙ ended_done e.index (map phase_in xs) runs in
    record { book = rest.book; done = omega (arith, a, b) }

-- TALLIES

pub end_tally : (p : Path) (es : List IndexRun) (xs : List IndexLie) (i : ℕ) → Hold p xs es
    → (index_tally is_taken (get_elem? (end_indexes es xs) i) + index_times p i es ≡ index_tally is_taken (get_elem? xs i))
    × (index_tally is_retired (get_elem? (end_indexes es xs) i) ≡ index_tally is_retired (get_elem? xs i) + index_times p i es)
end_tally p es xs i hold = elim (zero_or (index_times p i es)) [
  | inl none_there ↦ (let a = end_else p es xs i hold none_there in
      let b = ap (index_tally is_taken) a in let c = ap (index_tally is_retired) a in
      (omega (arith, none_there, b), omega (arith, none_there, c)))
  | inr some_there ↦ (let e = index_find p i es some_there in
      let x = hold.there_is e.0 e.1 in
      let one = hold.once i in
      let was : get_elem? xs i ≡ some x.0 = ap (get_elem? xs) (sym e.3) ∙ x.1 in
      let now : get_elem? (end_indexes es xs) i ≡ some (ends_now x.0) = ap (get_elem? (end_indexes es xs)) (sym e.3) ∙ end_at p es xs e.0 x.0 hold e.1 x.1 in
      let a : index_tally is_taken (get_elem? xs i) ≡ 1 = ap (index_tally is_taken) was ∙ ap is_taken x.2 in
      let b : index_tally is_taken (get_elem? (end_indexes es xs) i) ≡ 0 = ap (index_tally is_taken) now in
      let c : index_tally is_retired (get_elem? xs i) ≡ 0 = ap (index_tally is_retired) was ∙ ap is_retired x.2 in
      let d : index_tally is_retired (get_elem? (end_indexes es xs) i) ≡ 1 = ap (index_tally is_retired) now in
      (omega (arith, a, b, one, some_there), omega (arith, c, d, one, some_there)))
]

-- AMONG THE RETIRED

pub ended_times : (q : Path) (i : ℕ) (es : List IndexRun) → index_times q i (map ended es) ≡ index_times q i es
ended_times q i [] = refl
ended_times q i (e ∷ es) = let r = ended_times q i es in omega (arith, r)

pub ended_positions : (x : ℕ) (es : List IndexRun) → in_indexes x (map ended es) ≡ in_indexes x es
ended_positions x [] = refl
ended_positions x (e ∷ es) = let r = ended_positions x es in omega (arith, r)

pub ended_count : (q p : Path) (es : List IndexRun) → ((e : IndexRun) → In e es → e.spot.path ≡ p)
    → weigh (λ (e : IndexRun). one_if (same_path q e.spot.path)) (map ended es) ≡ cond (same_path q p) (length es) 0
ended_count q p es all = go (same_path q p) refl es all
  where
    go : (b : Bool) → same_path q p ≡ b → (es : List IndexRun) → ((e : IndexRun) → In e es → e.spot.path ≡ p)
        → weigh (λ (e : IndexRun). one_if (same_path q e.spot.path)) (map ended es) ≡ cond b (length es) 0
    go true d [] all = refl
    go false d [] all = refl
    go true d (e ∷ es) all =
        let a : one_if (same_path q e.spot.path) ≡ 1 = ap (λ r. one_if (same_path q r)) (all e here) ∙ ap one_if d in
        let r = go true d es (λ x i. all x (there i)) in omega (arith, a, r)
    go false d (e ∷ es) all =
        let a : one_if (same_path q e.spot.path) ≡ 0 = ap (λ r. one_if (same_path q r)) (all e here) ∙ ap one_if d in
        let r = go false d es (λ x i. all x (there i)) in omega (arith, a, r)

pub in_ended : (es : List IndexRun) (e : IndexRun) → In e (map ended es) → (d : IndexRun) × In d es × (e ≡ ended d)
in_ended [] e i = elim i [ ]
in_ended (d ∷ es) e i = elim (in_cons e (ended d) (map ended es) i) [
  | inl same ↦ (d, here, same)
  | inr rest ↦ (let r = in_ended es e rest in (r.0, there r.1, r.2))
]
