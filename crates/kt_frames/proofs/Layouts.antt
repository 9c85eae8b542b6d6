-- What the calls on a stack of frames make of its layout.
use Rattle.std.proofs.Common.{◌≡◌, ◌≤◌, ◌<◌, ℕ, zero, suc, ◌+◌, ◌-◌, List, [], ◌∷◌, ◌++◌, length, take, drop, map, reverse, get_or, Some, None, length-drop, length-take, refl, sym, ap, ◌∙◌, subst, arith, nat_lt, true, false, Bool, not, IsTrue, ◌==◌}
use Rattle.std.specs.Prelude.{slice_get}
use Rattle.std.proofs.lemmas.Bool.Decides.{nat_tests}
use Rattle.std.proofs.lemmas.Option.{slice_get_read, slice_get_past}
use Rattle.std.proofs.lemmas.List.{drop_all, get_or-drop, take-append-le, take-append-drop, drop-append-le, length-take-le, take_all, reverse-append, reverse-reverse, map-append, length-map, take_more}
use Rattle.kt_prog.specs.Calls.{CallTree}
use Rattle.kt_frames.specs.Stack.{Frame, Stack, entry_path, path_over, pushed, begun, finished_top}
use Rattle.kt_frames.specs.Layout.{frame_from, frames_below, IsChain}
use Rattle.kt_frames.specs.declared.frames.Span.{Span}

-- the frames of a chain lie below its end, and each has a call
pub chain_short : (end : ℕ) (spans : List Span) → IsChain end spans → length spans ≤ end
chain_short end [] h = omega arith
chain_short end (s ∷ spans) h = let less = chain_short s.start spans h.2 in omega (arith, h.0, h.1)

-- calls behind their end are no part of them
pub frames_same : (end : ℕ) (spans : List Span) (xs ys : List CallTree) → IsChain end spans → end ≤ length xs
    → frames_below end spans (xs ++ ys) ≡ frames_below end spans xs
frames_same end [] xs ys h le = refl
frames_same end (s ∷ spans) xs ys h le =
    let less : s.start ≤ length xs = omega (arith, h.0, h.1) in
    let rest : frames_below s.start spans (xs ++ ys) ≡ frames_below s.start spans xs = frames_same s.start spans xs ys h.2 less in
    rw (take-append-le end xs ys le, rest) refl

pub frames_cut : (end start : ℕ) (spans : List Span) (xs : List CallTree) → IsChain start spans → start ≤ end → end ≤ length xs
    → frames_below start spans (take end xs) ≡ frames_below start spans xs
frames_cut end start spans xs h le within =
    let long : start ≤ length (take end xs) = omega (arith, length-take-le end xs within) in
    sym (frames_same start spans (take end xs) (drop end xs) h long) ∙ ap (frames_below start spans) (take-append-drop end xs)

-- the stack of a layout
abbrev pub shape : List CallTree → ℕ → ℕ → List Span → ℕ → ℕ → Stack
shape calls start at spans tasks room =
    record { top = frame_from start at calls; below = frames_below start spans calls; tasks = tasks; room = room }

pub push_shape : (calls : List CallTree) (start at : ℕ) (spans : List Span) (tasks room : ℕ) (call : CallTree) → start ≤ length calls
    → IsChain start spans → tasks < room
    → shape (calls ++ call ∷ []) start at spans (tasks + 1) room ≡ pushed (shape calls start at spans tasks room) call
push_shape calls start at spans tasks room call le h lt =
    let test : nat_lt tasks room ≡ true = grind (arith, nat_tests) in
    let same = frames_same start spans calls (call ∷ []) h le in
    rw (test, drop-append-le start calls (call ∷ []) le, same) refl

pub next_get : (calls : List CallTree) (start at : ℕ) (x : CallTree) → start ≤ at → at < length calls → x ≡ get_or calls at x
    → slice_get (drop start calls) (at - start) ≡ Some x
next_get calls start at x le lt is =
    let e : start + (at - start) ≡ at = omega arith in
    let long = length-drop start calls in
    slice_get_read (drop start calls) (length (drop start calls)) (at - start) x refl (omega arith)
    (is ∙ ap (λ i. get_or calls i x) (sym e) ∙ sym (get_or-drop start calls (at - start) x))

pub next_none : (calls : List CallTree) (start at : ℕ) → at ≡ length calls → slice_get (drop start calls) (at - start) ≡ None
next_none calls start at e = let long = length-drop start calls in slice_get_past (drop start calls) (at - start) (omega arith)

pub begin_shape : (calls : List CallTree) (start at end : ℕ) (s : Span) (spans : List Span) (tasks room : ℕ) (x : CallTree) (st : Stack)
    → start ≤ at → at < length calls → x ≡ get_or calls at x → end ≡ length calls → s.start ≡ start → s.at ≡ at
    → shape calls start at spans tasks room ≡ st → shape calls end end (s ∷ spans) tasks room ≡ begun st
begin_shape calls start at end s spans tasks room x st le lt is e from to view =
    let none : drop end calls ≡ [] = drop_all end calls (omega arith) in
    let same : take end calls ≡ calls = take_all end calls (omega arith) in
    let zero_left : end - end ≡ 0 = omega arith in
    rw (← view, next_get calls start at x le lt is, none, same, zero_left, from, to) refl

pub below_length : (end : ℕ) (spans : List Span) (calls : List CallTree) → length (frames_below end spans calls) ≡ length spans
below_length end [] calls = refl
below_length end (s ∷ spans) calls = ap suc (below_length s.start spans calls)

pub finish_shape : (calls : List CallTree) (start at : ℕ) (s : Span) (spans : List Span) (tasks room : ℕ) → start ≤ length calls
    → IsChain start (s ∷ spans)
    → shape (take start calls) s.start (s.at + 1) spans tasks room ≡ finished_top (shape calls start at (s ∷ spans) tasks room)
finish_shape calls start at s spans tasks room le h =
    let less : s.start ≤ start = omega (arith, h.0, h.1) in
    let more : (s.at + 1) - s.start ≡ suc (s.at - s.start) = omega (arith, h.0) in
    let same = frames_cut start s.start spans calls h.2 less le in
    rw (more, same) refl

cons_none : (f : Frame) (below : List Frame) → f ∷ below ≡ [] → ⊥
cons_none f below e = cc

-- the numbers of the entries that run, from below
abbrev pub number_of : Span → ℕ
number_of s = (s.at - s.start) + 1

drop_one : (xs : List ℕ) (a n : ℕ) → drop 1 ((xs ++ a ∷ []) ++ n ∷ []) ≡ drop 1 (xs ++ a ∷ []) ++ n ∷ []
drop_one [] a n = refl
drop_one (x ∷ xs) a n = refl

entry_drops : (end : ℕ) (spans : List Span) (calls : List CallTree) (n : ℕ)
    → entry_path (frames_below end spans calls) n ≡ drop 1 (map number_of (reverse spans) ++ n ∷ [])
entry_drops end [] calls n = refl
entry_drops end (s ∷ spans) calls n =
    let below = entry_drops s.start spans calls (suc (s.at - s.start)) in
    let number : suc (s.at - s.start) ≡ number_of s = omega arith in
    let turned : reverse (s ∷ spans) ≡ reverse spans ++ s ∷ [] = reverse-append (s ∷ []) spans in
    let mapped : map number_of (reverse spans ++ s ∷ []) ≡ map number_of (reverse spans) ++ number_of s ∷ [] =
    map-append number_of (reverse spans) (s ∷ []) in
    ap (λ (xs : List ℕ). xs ++ n ∷ []) (below ∙ ap (λ (k : ℕ). drop 1 (map number_of (reverse spans) ++ k ∷ [])) number)
    ∙ sym (drop_one (map number_of (reverse spans)) (number_of s) n)
    ∙ ap (λ (xs : List ℕ). drop 1 (xs ++ n ∷ [])) (sym mapped ∙ ap (map number_of) (sym turned))

-- the path is that of the numbers behind the first
pub path_drops : (end : ℕ) (items : List Span) (calls : List CallTree)
    → path_over (frames_below end (reverse items) calls) ≡ drop 1 (map number_of items)
path_drops end items calls = of_turned (reverse items) ∙ ap (λ (xs : List Span). drop 1 (map number_of xs)) (reverse-reverse items)
  where
    of_turned : (spans : List Span) → path_over (frames_below end spans calls) ≡ drop 1 (map number_of (reverse spans))
    of_turned [] = refl
    of_turned (s ∷ spans) =
        let number : suc (s.at - s.start) ≡ number_of s = omega arith in
        let turned : reverse (s ∷ spans) ≡ reverse spans ++ s ∷ [] = reverse-append (s ∷ []) spans in
        entry_drops s.start spans calls (suc (s.at - s.start))
        ∙ ap (λ (k : ℕ). drop 1 (map number_of (reverse spans) ++ k ∷ [])) number
        ∙ ap (drop 1) (sym (map-append number_of (reverse spans) (s ∷ [])) ∙ ap (map number_of) (sym turned))

drop_snoc : (xs : List ℕ) (a : ℕ) → 1 ≤ length xs → drop 1 (xs ++ a ∷ []) ≡ drop 1 xs ++ a ∷ []
drop_snoc [] a h = absurd (omega arith)
drop_snoc (x ∷ xs) a h = refl

pub path_more : (items : List Span) (i : ℕ) (s : Span) → 1 ≤ i → i < length items → s ≡ get_or items i s
    → drop 1 (map number_of (take (i + 1) items)) ≡ drop 1 (map number_of (take i items)) ++ number_of s ∷ []
path_more items i s some lt is =
    let snoc : take (i + 1) items ≡ take i items ++ s ∷ [] = take_more items i s lt ∙ ap (λ (y : Span). take i items ++ y ∷ []) (sym is) in
    let long : 1 ≤ length (map number_of (take i items)) = omega (arith, length-map (take i items) number_of, length-take-le i items (omega arith)) in
    rw (snoc, map-append number_of (take i items) (s ∷ [])) (drop_snoc (map number_of (take i items)) (number_of s) long)

pub runs_where : (below : List Frame) (r : Bool) (n : ℕ) → length below ≡ n → r ≡ (n == 0)
    → (IsTrue (not r) → below ≡ [] → ⊥) × ((below ≡ [] → ⊥) → IsTrue (not r))
runs_where [] true n e h = (λ t. let bad : ⊥ = cc in absurd bad, λ k. absurd (k refl))
runs_where [] false n e h = let none : (0 == 0) ≡ false = subst (λ (k : ℕ). (k == 0) ≡ false) (sym e) (sym h) in let bad : ⊥ = cc in absurd bad
runs_where (f ∷ below) true n e h =
    let test : (n == 0) ≡ true = sym h in
    let none : n ≡ 0 = grind (arith, nat_tests) in
    absurd (omega arith)
runs_where (f ∷ below) false n e h = (λ t. λ g. cc, λ k. refl)

pub path_short : (items : List Span) (i : ℕ) → length (drop 1 (map number_of (take i items))) ≤ i - 1
path_short items i =
    let a = length-drop 1 (map number_of (take i items)) in
    let b = length-map (take i items) number_of in
    let c = length-take i items in
    omega arith

-- where the topmost frame has no entry that waits, it has ended
pub ended_none : (xs : List CallTree) (k : ℕ) → slice_get xs k ≡ None → length xs ≤ k
ended_none [] k e = omega arith
ended_none (x ∷ xs) zero e = cc
ended_none (x ∷ xs) (suc k) e = let le = ended_none xs k e in omega arith

pub not_running : (below : List Frame) (r : Bool) → ((below ≡ [] → ⊥) → IsTrue r) → r ≡ false → below ≡ []
not_running [] r h e = refl
not_running (f ∷ below) r h e = let t : r ≡ true = h (λ g. cons_none f below g) in cc
