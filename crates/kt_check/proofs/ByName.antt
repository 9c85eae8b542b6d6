-- Declarations out of reach, by their names.
use Rattle.std.proofs.Common.{◌≡◌, ℕ, suc, ◌+◌, ◌-◌, ◌<◌, ◌≤◌, List, [], ◌∷◌, Bool, true, false, cond, Option, Some, None, inl, inr, ◌⊎◌, Result, Ok, Err, OnErr, length, map, min, take, drop, get_or, nat_cmp, refl, ap, sym, subst, ◌∙◌, arith, drop-cons}
use Rattle.std.proofs.lemmas.List.{drop-drop, get_or-drop, length-drop, length-map, length-take, take_rest}
use Rattle.std.proofs.lemmas.Map.Text.{btree_map_updates_str}
use Rattle.std.specs.BTreeMap.{BTreeMap, UpdatesBy, get_by}
use Rattle.std.specs.Cmp.Lexicographic.{slice_cmp}
use Rattle.std.specs.Str.{bytes_eq}
use denote.Ref.{Bor}
use Rattle.kt_law.specs.declared.limits.TheConstants.{DEFINITIONS, OBJECTS}
use Rattle.kt_prog.specs.Accepted.{IsAccepted}
use Rattle.kt_check.specs.Beyond.{IsBeyond, Tells, first_from, found_in, name_of_family, name_of_task}
use Rattle.kt_prog.specs.Objects.{objects_of}
use Rattle.kt_prog.specs.Scope.{family_known, kind_family}
use Rattle.kt_prog.specs.Targets.{task_named}
use Rattle.kt_check.specs.declared.beyond.Beyond.{Beyond}
use Rattle.kt_check.specs.declared.beyond.Beyond.TheVariants.{Mapped}
use Rattle.kt_check.specs.declared.chains.TheConstants.{COVERED}
use Rattle.kt_prog.specs.declared.programs.Family.{Family}
use Rattle.kt_prog.specs.declared.programs.Program.{Program}
use Rattle.kt_prog.specs.declared.programs.Task.{Task}
use Rattle.kt_check.proofs.Chained.{family_look, family_passed, task_look, task_passed}
use Rattle.kt_prog.proofs.Families.{AllThere}
use Rattle.kt_prog.proofs.Plain.{parts}

-- where the names from one on are found, so are those from the one before it on, once that is mapped too
pub one_before : {A : Type 0} (name_of : A → List ℕ) (xs : List A) (len done : ℕ) (x : A) (key : Bor (List ℕ)) (old new : BTreeMap (Bor (List ℕ)) ℕ) → done < len → len ≡ length xs → x ≡ get_or xs (len - 1 - done) x → key.now ≡ name_of x
    → ((name : List ℕ) → get_by (λ k. slice_cmp nat_cmp name k.now) old ≡ first_from (len - done) (map name_of (drop (len - done) xs)) name)
    → UpdatesBy (λ x y. slice_cmp nat_cmp x.now y.now) (λ k. slice_cmp nat_cmp key.now k.now) old new (Some (len - 1 - done))
    → (name : List ℕ) → get_by (λ k. slice_cmp nat_cmp name k.now) new ≡ first_from (len - (done + 1)) (map name_of (drop (len - (done + 1)) xs)) name
one_before name_of xs len done x key old new lt all is same known updates name =
    let there : len - 1 - done < length xs = omega arith in
    let behind : len - done ≡ suc (len - 1 - done) = omega arith in
    let last : len - (done + 1) ≡ len - 1 - done = omega arith in
    let front : drop (len - 1 - done) xs ≡ x ∷ drop (suc (len - 1 - done)) xs = rw (drop-cons xs (len - 1 - done) x, ← is) refl in
    btree_map_updates_str key.now old new (Some (len - 1 - done)) updates name
    ∙ ap (λ n. cond (bytes_eq n name) (Some (len - 1 - done)) (get_by (λ k. slice_cmp nat_cmp name k.now) old)) same
    ∙ ap (λ o. cond (bytes_eq (name_of x) name) (Some (len - 1 - done)) o) (known name)
    ∙ ap (λ n. cond (bytes_eq (name_of x) name) (Some (len - 1 - done)) (first_from n (map name_of (drop n xs)) name)) behind
    ∙ ap (λ l. first_from (len - 1 - done) (map name_of l) name) (sym front)
    ∙ ap (λ n. first_from n (map name_of (drop n xs)) name) (sym last)

-- what a map tells of a name, by whatever bytes it was asked
pub told : (beyond : Beyond) (places : BTreeMap (Bor (List ℕ)) ℕ) (names : List (List ℕ)) (key name : List ℕ) (found : Option ℕ) → beyond ≡ Mapped places → Tells beyond names → key ≡ name
    → found ≡ get_by (λ k. slice_cmp nat_cmp key k.now) places → first_from 0 names name ≡ found
told beyond places names key name found is tells same known =
    sym (subst (λ b. found_in b names name ≡ first_from 0 names name) is (tells name))
    ∙ ap (λ n. get_by (λ k. slice_cmp nat_cmp n k.now) places) (sym same)
    ∙ sym known

not_first : (b : Bool) (at : ℕ) (rest : Option ℕ) → cond b (Some at) rest ≡ None → (b ≡ false) × (rest ≡ None)
not_first true at rest h = cc
not_first false at rest h = (refl, h)

first_or : (b : Bool) (at found : ℕ) (rest : Option ℕ) → cond b (Some at) rest ≡ Some found → ((b ≡ true) × (found ≡ at)) ⊎ ((b ≡ false) × (rest ≡ Some found))
first_or true at found rest h = inl (refl, cc)
first_or false at found rest h = inr (refl, h)

-- none has the name
pub none_family : (xs : List Family) (from : ℕ) (name : List ℕ) → first_from from (map name_of_family xs) name ≡ None → family_known xs name ≡ None
none_family [] from name h = refl
none_family (f ∷ xs) from name h =
    let s = not_first (bytes_eq f.name name) from (first_from (suc from) (map name_of_family xs) name) h in
    rw s.0 (none_family xs (suc from) name s.1)

pub none_task : (xs : List Task) (from number : ℕ) (name : List ℕ) → first_from from (map name_of_task xs) name ≡ None → task_named number xs name ≡ None
none_task [] from number name h = refl
none_task (t ∷ xs) from number name h =
    let s = not_first (bytes_eq t.name name) from (first_from (suc from) (map name_of_task xs) name) h in
    rw s.0 (none_task xs (suc from) (suc number) name s.1)

-- what is looked up by name passes each item in front of the first one that has it
module _ {A B : Type 0} (name_of : A → List ℕ) (look : ℕ → List A → B) (name : List ℕ) (pass : (i : ℕ) (x : A) (xs : List A) → bytes_eq (name_of x) name ≡ false → look i (x ∷ xs) ≡ look (i + 1) xs) where
  pub record IsFirst (xs : List A) (from at i : ℕ) : Type 0 where
    pub count : ℕ
    pub place : at ≡ from + count
    pub within : count < length xs
    pub passed : look i xs ≡ look (i + count) (drop count xs)
    pub same : (d : A) → bytes_eq (name_of (get_or xs count d)) name ≡ true

  pub first : (xs : List A) (from at i : ℕ) → first_from from (map name_of xs) name ≡ Some at → IsFirst xs from at i
  first [] from at i h = absurd (no_first h)
    where
      no_first : None ≡ Some at → ⊥
      no_first h = cc
  first (x ∷ xs) from at i h = by (first xs (suc from) at (i + 1)) (first_or (bytes_eq (name_of x) name) from at (first_from (suc from) (map name_of xs) name) h)
    where
      by : (first_from (suc from) (map name_of xs) name ≡ Some at → IsFirst xs (suc from) at (i + 1)) → ((bytes_eq (name_of x) name ≡ true) × (at ≡ from)) ⊎ ((bytes_eq (name_of x) name ≡ false) × (first_from (suc from) (map name_of xs) name ≡ Some at)) → IsFirst (x ∷ xs) from at i
      by later (inl (same, here)) = record {
        count = 0;
        place = omega arith;
        within = omega arith;
        passed = ap (λ j. look j (x ∷ xs)) (omega arith);
        same = λ d. same;
      }
      by later (inr (other, h)) =
          let r = later h in
          let place : at ≡ suc from + r.count = r.place in
          let within : r.count < length xs = r.within in
          record {
            count = suc r.count;
            place = omega arith;
            within = omega arith;
            passed = pass i x xs other ∙ r.passed ∙ ap (λ j. look j (drop r.count xs)) (omega arith);
            same = r.same;
          }

-- the first family of the name
pub family_found : (xs : List Family) (name : List ℕ) (at : ℕ) → first_from 0 (map name_of_family xs) name ≡ Some at
    → (at < length xs) × ((x : Family) → x ≡ get_or xs at x → family_known xs name ≡ Some (kind_family x.many))
family_found xs name at h =
    let f = first name_of_family (family_look name) name (family_passed name) xs 0 at 0 h in
    let from_none : at ≡ 0 + f.count = f.place in
    let place : at ≡ f.count = omega arith in
    let within : f.count < length xs = f.within in (
      omega arith,
      λ x is.
          let here : get_or xs f.count x ≡ x = ap (λ n. get_or xs n x) (sym place) ∙ sym is in
          f.passed
          ∙ ap (λ l. family_known l name) (drop-cons xs f.count x within)
          ∙ ap (λ b. cond b (Some (kind_family (get_or xs f.count x).many)) (family_known (drop (suc f.count) xs) name)) (f.same x)
          ∙ ap (λ y. Some (kind_family y.many)) here,
    )

-- the first task or loop of the name, of those from a place on
pub task_found : (xs : List Task) (from : ℕ) (name : List ℕ) (at : ℕ) → from ≤ length xs → first_from 0 (map name_of_task (drop from xs)) name ≡ Some at
    → (from + at < length xs) × (task_named (suc from) (drop from xs) name ≡ task_named (suc (from + at)) (drop (from + at) xs) name)
    × ((t : Task) → t ≡ get_or xs (from + at) t → bytes_eq t.name name ≡ true)
task_found xs from name at le h =
    let f = first name_of_task (task_look name) name (task_passed name) (drop from xs) 0 at from h in
    let from_none : at ≡ 0 + f.count = f.place in
    let place : f.count ≡ at = omega arith in
    let within : f.count < length (drop from xs) = f.within in
    let long : length (drop from xs) ≡ length xs - from = length-drop from xs in (
      omega arith,
      f.passed
          ∙ ap (λ l. task_named (suc (from + f.count)) l name) (drop-drop f.count from xs)
          ∙ ap (λ n. task_named (suc (from + n)) (drop (from + n) xs) name) place,
      λ t is.
          let here : get_or (drop from xs) f.count t ≡ t = get_or-drop from xs f.count t ∙ ap (λ n. get_or xs (from + n) t) place ∙ sym is in
          ap (λ (y : Task). bytes_eq y.name name) (sym here) ∙ f.same t,
    )

-- and where there is none
none_behind : (xs : List Task) (number : ℕ) (name : List ℕ) → task_named number (drop (length xs) xs) name ≡ None
none_behind [] number name = refl
none_behind (t ∷ xs) number name = none_behind xs number name

pub task_missing : (xs : List Task) (from : ℕ) (name : List ℕ) → first_from 0 (map name_of_task (drop from xs)) name ≡ None
    → task_named (suc from) (drop from xs) name ≡ task_named (suc (length xs)) (drop (length xs) xs) name
task_missing xs from name h = none_task (drop from xs) 0 (suc from) name h ∙ sym (none_behind xs (suc (length xs)) name)

-- some are out of reach where those in reach are not all
pub some_beyond : {A : Type 0} (f : A → ℕ) (xs ys : List A) (hashes : List ℕ) (n : ℕ) → ys ≡ xs → hashes ≡ take COVERED (map f xs) → n ≡ length hashes → 0 < length (take (length ys - n) (drop n ys)) → COVERED < length xs
some_beyond f xs ys hashes n whole known is more =
    let all : length ys ≡ length xs = ap length whole in
    let reached : length hashes ≡ min COVERED (length (map f xs)) = ap length known ∙ length-take COVERED (map f xs) in
    let same : length (map f xs) ≡ length xs = length-map xs f in
    let left : length (take (length ys - n) (drop n ys)) ≡ length ys - n = ap length (take_rest ys n) ∙ length-drop n ys in
    omega arith

pub told_beyond : {A : Type 0} (name_of : A → List ℕ) (beyond : Beyond) (xs ys : List A) (n m : ℕ) → ys ≡ xs → n ≡ m → Tells beyond (map name_of (take (length ys - n) (drop n ys))) → Tells beyond (map name_of (drop m xs))
told_beyond name_of beyond xs ys n m whole is tells =
    subst (λ k. Tells beyond (map name_of (drop k xs))) is (subst (λ l. Tells beyond (map name_of (drop n l))) whole (subst (λ l. Tells beyond (map name_of l)) (take_rest ys n) tells))

pub on_err : {T E : Type 0} (r : Result T E) (P : Type 0) → P → OnErr r P
on_err (Ok x) P p = tt
on_err (Err e) P p = p

-- an accepted program is in reach
families_few : (xs : List Family) → AllThere xs → length xs ≤ objects_of xs
families_few [] there = omega arith
families_few (f ∷ xs) there =
    let one : 1 ≤ f.members = there.0 in
    let rest : length xs ≤ objects_of xs = families_few xs there.1 in
    omega arith

pub all_reached : (p : Program) → IsAccepted p → IsBeyond p → ⊥
all_reached p h beyond = by beyond
  where
    by : (COVERED < length p.families) ⊎ (COVERED < length p.tasks) → ⊥
    by (inl many) =
        let few : length p.families ≤ objects_of p.families = families_few p.families (parts p h).families in
        let small : objects_of p.families ≤ OBJECTS = (parts p h).small.0 in
        absurd (omega arith)
    by (inr many) =
        let few : length p.tasks ≤ DEFINITIONS = (parts p h).few in
        absurd (omega arith)
