-- Declarations in reach by the numbers of their names.
use Rattle.std.proofs.Common.{◌≡◌, ◌≢◌, ℕ, zero, suc, ◌+◌, ◌-◌, ◌<◌, ◌≤◌, List, [], ◌∷◌, ◌++◌, Option, ◌*◌, ◌%◌, Bool, true, false, ◌&&◌, length, map, drop, take, set, replicate, min, get_or, inl, inr, ◌⊎◌, refl, ap, sym, subst, ◌∙◌, arith, add-one, drop-cons}
use Rattle.std.proofs.lemmas.Bool.{cases_eq}
use Rattle.std.proofs.lemmas.Slice.Eq.{bytes_eq-Decides}
use Rattle.std.proofs.lemmas.List.{drop-drop, get_or-drop, get_or-replicate, get_or-set_other, get_or-set_same, get_or-take, length-drop, length-map, length-take, length-take-le, map_more, take_min, take_more_set}
use Rattle.std.specs.List.{drop-map, take-map}
use Rattle.std.specs.Str.{bytes_eq}
use Rattle.kt_check.specs.Chains.{IsLinked, IsNext, hash_family, hash_from, hash_of, hash_task}
use Rattle.kt_prog.specs.Declarations.{Declared, is_earlier, place_before}
use Rattle.kt_prog.specs.Scope.{family_known}
use Rattle.kt_check.specs.Sights.{declared_family, declared_task}
use Rattle.kt_prog.specs.Targets.{Target, task_named}
use Rattle.kt_prog.specs.declared.sight.Kind.{Kind}
use Rattle.kt_prog.specs.declared.programs.Family.{Family}
use Rattle.kt_prog.specs.declared.programs.Task.{Task}
use Rattle.kt_check.specs.declared.chains.TheConstants.{COVERED, HASHES}

-- one entry more is linked before the others
module _ (hashes heads next : List ℕ) (at : ℕ) (here : at < length hashes) (room : at < length next) (few : HASHES ≤ length heads) (small : get_or hashes at 0 < HASHES) (old : IsLinked hashes heads next (at + 1)) where
  is_first : (hash x : ℕ) → hash ≡ get_or hashes at 0 → x ≡ at → IsNext hashes hash at x
  is_first hash x same e = record {
    behind = omega arith;
    within = omega arith;
    passed = λ k le lt. absurd (omega arith);
    same = λ lt. ap (λ i. get_or hashes i 0) e ∙ sym same;
  }

  is_onward : (hash x y : ℕ) → (hash ≡ get_or hashes at 0 → ⊥) → x ≡ y → IsNext hashes hash (at + 1) y → IsNext hashes hash at x
  is_onward hash x y other e known =
      let after : at + 1 ≤ y = known.behind in
      let inside : y ≤ length hashes = known.within in
      record {
        behind = omega arith;
        within = omega arith;
        passed = λ k le lt. by_place k le lt (cases_eq k at);
        same = λ lt. ap (λ i. get_or hashes i 0) e ∙ known.same (omega arith);
      }
    where
      by_place : (k : ℕ) → at ≤ k → k < x → (k ≡ at) ⊎ (k ≡ at → ⊥) → get_or hashes k 0 ≢ hash
      by_place k le lt (inl is) = λ same. other (sym same ∙ ap (λ i. get_or hashes i 0) is)
      by_place k le lt (inr isnt) = known.passed k (omega arith) (omega arith)

  first_linked : (hash : ℕ) → hash < HASHES → (hash ≡ get_or hashes at 0) ⊎ (hash ≡ get_or hashes at 0 → ⊥) → IsNext hashes hash at (get_or (set heads (get_or hashes at 0) at) hash 0)
  first_linked hash lt (inl is) = is_first hash _ is (ap (λ i. get_or (set heads (get_or hashes at 0) at) i 0) is ∙ get_or-set_same heads (get_or hashes at 0) at 0 (omega arith))
  first_linked hash lt (inr isnt) = is_onward hash _ _ isnt (get_or-set_other heads (get_or hashes at 0) hash at 0 isnt) (old.first hash lt)

  later_linked : (k : ℕ) → at ≤ k → k < length hashes → (k ≡ at) ⊎ (k ≡ at → ⊥) → IsNext hashes (get_or hashes k 0) (k + 1) (get_or (set next at (get_or heads (get_or hashes at 0) 0)) k 0)
  later_linked k le lt (inl is) =
      subst (λ j. IsNext hashes (get_or hashes j 0) (j + 1) (get_or (set next at (get_or heads (get_or hashes at 0) 0)) j 0)) (sym is)
      (subst (λ x. IsNext hashes (get_or hashes at 0) (at + 1) x) (sym (get_or-set_same next at (get_or heads (get_or hashes at 0) 0) 0 room)) (old.first (get_or hashes at 0) small))
  later_linked k le lt (inr isnt) =
      subst (λ x. IsNext hashes (get_or hashes k 0) (k + 1) x) (sym (get_or-set_other next at k (get_or heads (get_or hashes at 0) 0) 0 isnt)) (old.later k (omega arith) lt)

  pub linked : IsLinked hashes (set heads (get_or hashes at 0) at) (set next at (get_or heads (get_or hashes at 0) 0)) at
  linked = record {
    first = λ hash lt. first_linked hash lt (cases_eq hash (get_or hashes at 0));
    later = λ k le lt. later_linked k le lt (cases_eq k at);
  }

pub link_step : (all heads next : List ℕ) (len done h : ℕ) → len ≤ length all → done < len → len ≤ length next → HASHES ≤ length heads → ((k : ℕ) → k < len → get_or all k 0 < HASHES) → h ≡ get_or all (len - 1 - done) 0
    → IsLinked (take len all) heads next (len - done) → IsLinked (take len all) (set heads h (len - 1 - done)) (set next (len - 1 - done) (get_or heads h 0)) (len - (done + 1))
link_step all heads next len done h room lt long few small is old =
    let length_is : length (take len all) ≡ len = length-take-le len all room in
    let number : get_or (take len all) (len - 1 - done) 0 ≡ h = get_or-take len all (len - 1 - done) 0 (omega arith) ∙ sym is in
    let behind : len - 1 - done + 1 ≡ len - done = omega arith in
    let last : len - (done + 1) ≡ len - 1 - done = omega arith in
    let few_at : get_or (take len all) (len - 1 - done) 0 < HASHES = subst (λ n. n < HASHES) (sym is ∙ sym number) (small (len - 1 - done) (omega arith)) in
    let here : len - 1 - done < length (take len all) = omega arith in
    let room_at : len - 1 - done < length next = omega arith in
    subst (λ n. IsLinked (take len all) (set heads h (len - 1 - done)) (set next (len - 1 - done) (get_or heads h 0)) n) (sym last)
    (subst (λ n. IsLinked (take len all) (set heads n (len - 1 - done)) (set next (len - 1 - done) (get_or heads n 0)) (len - 1 - done)) number
    (linked (take len all) heads next (len - 1 - done) here room_at few few_at (subst (λ n. IsLinked (take len all) heads next n) (sym behind) old)))

-- none is linked
pub none_linked : (hashes next : List ℕ) (len from : ℕ) → length hashes ≡ len → from ≡ len → IsLinked hashes (replicate HASHES len) next from
none_linked hashes next len from is all = record {
  first = λ hash lt. no_next hash (get_or (replicate HASHES len) hash 0) (get_or-replicate HASHES hash len 0 lt);
  later = λ k le lt. absurd (omega arith);
} where
  no_next : (hash x : ℕ) → x ≡ len → IsNext hashes hash from x
  no_next hash x e = record {
    behind = omega arith;
    within = omega arith;
    passed = λ k le lt. absurd (omega arith);
    same = λ lt. absurd (omega arith);
  }

-- the numbers of names are small
hash_few : (bytes : List ℕ) (hash : ℕ) → hash < HASHES → hash_from hash bytes < HASHES
hash_few [] hash h = h
hash_few (byte ∷ bytes) hash h = hash_few bytes ((hash * 263 + byte) % HASHES) (omega arith)

families_few : (xs : List Family) (k : ℕ) → get_or (map hash_family xs) k 0 < HASHES
families_few [] k = omega arith
families_few (f ∷ xs) zero = hash_few f.name 0 (omega arith)
families_few (f ∷ xs) (suc k) = families_few xs k

tasks_few : (xs : List Task) (k : ℕ) → get_or (map hash_task xs) k 0 < HASHES
tasks_few [] k = omega arith
tasks_few (t ∷ xs) zero = hash_few t.name 0 (omega arith)
tasks_few (t ∷ xs) (suc k) = tasks_few xs k

pub family_few : (xs : List Family) (hashes : List ℕ) (len : ℕ) → take len hashes ≡ map hash_family (take len xs) → (k : ℕ) → k < len → get_or hashes k 0 < HASHES
family_few xs hashes len is k lt =
    let e : get_or hashes k 0 ≡ get_or (map hash_family (take len xs)) k 0 = sym (get_or-take len hashes k 0 lt) ∙ ap (λ l. get_or l k 0) is in
    subst (λ n. n < HASHES) (sym e) (families_few (take len xs) k)

pub task_few : (xs : List Task) (hashes : List ℕ) (len : ℕ) → take len hashes ≡ map hash_task (take len xs) → (k : ℕ) → k < len → get_or hashes k 0 < HASHES
task_few xs hashes len is k lt =
    let e : get_or hashes k 0 ≡ get_or (map hash_task (take len xs)) k 0 = sym (get_or-take len hashes k 0 lt) ∙ ap (λ l. get_or l k 0) is in
    subst (λ n. n < HASHES) (sym e) (tasks_few (take len xs) k)

-- a list filled with numbers, one more
pub filled_more : {A : Type 0} (f : A → ℕ) (xs : List A) (hashes : List ℕ) (i : ℕ) (x : A) → i < length xs → i < length hashes → x ≡ get_or xs i x → take i hashes ≡ map f (take i xs)
    → take (i + 1) (set hashes i (f x)) ≡ map f (take (i + 1) xs)
filled_more f xs hashes i x hx hh is known =
    take_more_set hashes i (f x) hh
    ∙ ap (λ l. l ++ f x ∷ []) known
    ∙ ap (λ y. map f (take i xs) ++ f y ∷ []) is
    ∙ sym (map_more f xs i x hx)

pub filled : {A : Type 0} (f : A → ℕ) (xs : List A) (hashes : List ℕ) (len : ℕ) → len ≡ min COVERED (length xs) → take len hashes ≡ map f (take len xs) → take len hashes ≡ take COVERED (map f xs)
filled f xs hashes len is known = known ∙ ap (λ n. map f (take n xs)) is ∙ ap (map f) (take_min COVERED xs) ∙ sym (take-map f COVERED xs)

pub covered_of : {A : Type 0} (f : A → ℕ) (xs : List A) (hashes : List ℕ) → hashes ≡ take COVERED (map f xs) → length hashes ≤ length xs
covered_of f xs hashes known =
    let len : length hashes ≡ min COVERED (length (map f xs)) = ap length known ∙ length-take COVERED (map f xs) in
    let same : length (map f xs) ≡ length xs = length-map xs f in
    omega arith

-- what is looked up by name passes each item of another name
module _ {A B : Type 0} (name_of : A → List ℕ) (look : ℕ → List A → B) (name : List ℕ) (pass : (i : ℕ) (x : A) (xs : List A) → bytes_eq (name_of x) name ≡ false → look i (x ∷ xs) ≡ look (i + 1) xs) where
  abbrev number : A → ℕ
  number x = hash_of (name_of x)

  other_name : (x : A) (b : Bool) → b ≡ bytes_eq (name_of x) name → number x ≢ hash_of name → b ≡ false
  other_name x false e h = refl
  other_name x true e h = absurd (h (ap hash_of ((bytes_eq-Decides (name_of x) name).0 (sym e))))

  run : (xs : List A) (i t : ℕ) → t ≤ length xs → ((k : ℕ) → k < t → get_or (map number xs) k 0 ≢ hash_of name) → look i xs ≡ look (i + t) (drop t xs)
  run xs i zero h p = ap (λ j. look j xs) (omega arith)
  run [] i (suc t) h p = absurd (omega arith)
  run (x ∷ xs) i (suc t) h p =
      pass i x xs (other_name x (bytes_eq (name_of x) name) refl (p 0 (omega arith)))
      ∙ run xs (i + 1) t (omega arith) (λ k lt. p (suc k) (omega arith))
      ∙ ap (λ j. look j (drop t xs)) (omega arith)

  skip : (xs : List A) (from to : ℕ) → from ≤ to → to ≤ length xs → ((k : ℕ) → from ≤ k → k < to → get_or (map number xs) k 0 ≢ hash_of name) → look from (drop from xs) ≡ look to (drop to xs)
  skip xs from to le h p =
      let few : to - from ≤ length (drop from xs) = subst (λ n. to - from ≤ n) (sym (length-drop from xs)) (omega arith) in
      let there : from + (to - from) ≡ to = omega arith in
      run (drop from xs) from (to - from) few
      (λ k lt. subst (λ n. n ≢ hash_of name) (sym (ap (λ l. get_or l k 0) (sym (drop-map number from xs)) ∙ get_or-drop from (map number xs) k 0)) (p (from + k) (omega arith) (omega arith)))
      ∙ ap (look (from + (to - from))) (drop-drop (to - from) from xs)
      ∙ ap (λ j. look j (drop j xs)) there

  module _ (xs : List A) (hashes : List ℕ) (known : hashes ≡ take COVERED (map number xs)) where
    number_at : (k : ℕ) → k < length hashes → get_or hashes k 0 ≡ get_or (map number xs) k 0
    number_at k lt =
        let len : length hashes ≡ min COVERED (length (map number xs)) = ap length known ∙ length-take COVERED (map number xs) in
        ap (λ l. get_or l k 0) known ∙ get_or-take COVERED (map number xs) k 0 (omega arith)

    jumped : (from to : ℕ) → IsNext hashes (hash_of name) from to → look from (drop from xs) ≡ look to (drop to xs)
    jumped from to next =
        let within : to ≤ length hashes = next.within in
        let few : length hashes ≤ length xs = covered_of number xs hashes known in
        skip xs from to next.behind (omega arith) (λ k le lt. subst (λ n. n ≢ hash_of name) (number_at k (omega arith)) (next.passed k le lt))

    pub begun : (to hash : ℕ) → hash ≡ hash_of name → IsNext hashes hash 0 to → look 0 xs ≡ look to (drop to xs)
    begun to hash is next = jumped 0 to (subst (λ n. IsNext hashes n 0 to) is next)

    -- from an entry whose turn was passed to the next
    pub chained : (at to : ℕ) (x : A) → at < length xs → x ≡ get_or xs at x → get_or hashes at 0 ≡ hash_of name → IsNext hashes (get_or hashes at 0) (at + 1) to
        → look at (x ∷ drop (at + 1) xs) ≡ look (at + 1) (drop (at + 1) xs) → look 0 xs ≡ look at (drop at xs) → look 0 xs ≡ look to (drop to xs)
    chained at to x lt is same next passed so_far =
        let front : drop at xs ≡ x ∷ drop (at + 1) xs = rw (add-one, drop-cons xs at x, ← is) refl in
        so_far ∙ ap (look at) front ∙ passed ∙ jumped (at + 1) to (subst (λ n. IsNext hashes n (at + 1) to) same next)

-- the three lookups
abbrev pub family_look : List ℕ → ℕ → List Family → Option Kind
family_look name i xs = family_known xs name

abbrev pub task_look : List ℕ → ℕ → List Task → Option Target
task_look name i xs = task_named (suc i) xs name

abbrev pub family_earlier : Declared → ℕ → List Family → Bool
family_earlier d i xs = is_earlier (map declared_family xs) d

abbrev pub task_earlier : Declared → ℕ → List Task → Bool
task_earlier d i xs = is_earlier (map declared_task xs) d

pub family_passed : (name : List ℕ) (i : ℕ) (x : Family) (xs : List Family) → bytes_eq x.name name ≡ false → family_look name i (x ∷ xs) ≡ family_look name (i + 1) xs
family_passed name i x xs other = rw other refl

pub task_passed : (name : List ℕ) (i : ℕ) (x : Task) (xs : List Task) → bytes_eq x.name name ≡ false → task_look name i (x ∷ xs) ≡ task_look name (i + 1) xs
task_passed name i x xs other = rw other (ap (λ j. task_named (suc j) xs name) (omega arith))

pub family_earlier_passed : (d : Declared) (i : ℕ) (x : Family) (xs : List Family) → bytes_eq x.name d.name ≡ false → family_earlier d i (x ∷ xs) ≡ family_earlier d (i + 1) xs
family_earlier_passed d i x xs other = rw other refl

pub task_earlier_passed : (d : Declared) (i : ℕ) (x : Task) (xs : List Task) → bytes_eq x.name d.name ≡ false → task_earlier d i (x ∷ xs) ≡ task_earlier d (i + 1) xs
task_earlier_passed d i x xs other = rw other refl

pub family_not_before : (d : Declared) (i : ℕ) (x : Family) (xs : List Family) → (bytes_eq x.name d.name && place_before x.place d.place) ≡ false → family_earlier d i (x ∷ xs) ≡ family_earlier d (i + 1) xs
family_not_before d i x xs other = rw other refl

pub task_not_before : (d : Declared) (i : ℕ) (x : Task) (xs : List Task) → (bytes_eq x.name d.name && place_before x.place d.place) ≡ false → task_earlier d i (x ∷ xs) ≡ task_earlier d (i + 1) xs
task_not_before d i x xs other = rw other refl
