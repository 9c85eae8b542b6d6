-- What the links of the tasks say of their paths, and how they grow.
use Rattle.std.proofs.Common.{◌≡◌, ◌<◌, ℕ, zero, suc, ◌+◌, Bool, true, false, cond, ◌&&◌, not, List, [], ◌∷◌, ◌++◌, length, map, Option, Some, None, refl, sym, ap, ◌∙◌, subst, arith, length-append, append-nil, inl, inr, ◌⊎◌, nat_eq}
use Rattle.std.specs.List.{slice_get, slice_set}
use Rattle.std.proofs.lemmas.List.{length-set, length-map}
use Rattle.std.proofs.lemmas.Option.{slice_get_within, same_Some}
use Rattle.std.proofs.lemmas.Bool.Decides.{nat_tests}
use Rattle.kt_order.specs.Paths.{same_path}
use Rattle.kt_order.proofs.Squares.{same_is}
use Rattle.kt_tables.specs.Tables.{TaskRow, is_root, is_child, are_siblings, parent_of}
use Rattle.kt_core.specs.Links.{LinkState, AreLinked, IsParent, numbers_from, numbers_of, paths_of, siblings_of, with_child, with_link, fresh_links}
use Rattle.kt_core.proofs.Searches.{numbers_alike, numbers_none}

-- lists

pub get_there : {X : Type 0} → (xs : List X) (i : ℕ) → i < length xs → (x : X) × (slice_get xs i ≡ Some x)
get_there [] i lt = absurd (omega arith)
get_there (x ∷ xs) zero lt = (x, refl)
get_there (x ∷ xs) (suc i) lt = get_there xs i (omega (arith, lt))

pub get_front : {X : Type 0} → (xs ys : List X) (i : ℕ) → i < length xs → slice_get (xs ++ ys) i ≡ slice_get xs i
get_front [] ys i lt = absurd (omega arith)
get_front (x ∷ xs) ys zero lt = refl
get_front (x ∷ xs) ys (suc i) lt = get_front xs ys i (omega (arith, lt))

pub get_last : {X : Type 0} → (xs : List X) (y : X) → slice_get (xs ++ y ∷ []) (length xs) ≡ Some y
get_last [] y = refl
get_last (x ∷ xs) y = get_last xs y

-- an entry of a longer list is one of the shorter or the last
pub get_either : {X : Type 0} → (xs : List X) (y : X) (i : ℕ) (z : X) → slice_get (xs ++ y ∷ []) i ≡ Some z
    → (slice_get xs i ≡ Some z) ⊎ ((i ≡ length xs) × (z ≡ y))
get_either [] y zero z e = inr (refl, sym (same_Some y z e))
get_either [] y (suc i) z e = absurd (cc e)
get_either (x ∷ xs) y zero z e = inl e
get_either (x ∷ xs) y (suc i) z e = elim (get_either xs y i z e) [ inl h ↦ inl h | inr h ↦ inr (ap suc h.0, h.1) ]

pub get_set_same : {X : Type 0} → (xs : List X) (i : ℕ) (y : X) → i < length xs → slice_get (slice_set xs i y) i ≡ Some y
get_set_same [] i y lt = absurd (omega arith)
get_set_same (x ∷ xs) zero y lt = refl
get_set_same (x ∷ xs) (suc i) y lt = get_set_same xs i y (omega (arith, lt))

pub get_set_other : {X : Type 0} → (xs : List X) (i j : ℕ) (y : X) → (i ≡ j → ⊥) → slice_get (slice_set xs i y) j ≡ slice_get xs j
get_set_other [] i j y ne = refl
get_set_other (x ∷ xs) zero zero y ne = absurd (ne refl)
get_set_other (x ∷ xs) zero (suc j) y ne = refl
get_set_other (x ∷ xs) (suc i) zero y ne = refl
get_set_other (x ∷ xs) (suc i) (suc j) y ne = get_set_other xs i j y (λ e. ne (ap suc e))

-- a change of one entry that keeps what is seen of it
pub map_kept : {Y : Type 0} → (f : TaskRow → Y) (rows : List TaskRow) (t : ℕ) (r s : TaskRow) → slice_get rows t ≡ Some r → f s ≡ f r
    → map f (slice_set rows t s) ≡ map f rows
map_kept f [] t r s e same = refl
map_kept f (x ∷ rows) zero r s e same = let is : x ≡ r = same_Some x r e in rw (is, same) refl
map_kept f (x ∷ rows) (suc t) r s e same = ap (λ ys. f x ∷ ys) (map_kept f rows t r s e same)

pub mapped_at : {Y : Type 0} → (f : TaskRow → Y) (rows : List TaskRow) (t : ℕ) (r : TaskRow) → slice_get rows t ≡ Some r → slice_get (map f rows) t ≡ Some (f r)
mapped_at f [] t r e = absurd (cc e)
mapped_at f (x ∷ rows) zero r e = ap (λ y. Some (f y)) (same_Some x r e)
mapped_at f (x ∷ rows) (suc t) r e = mapped_at f rows t r e

pub mapped_from : {Y : Type 0} → (f : TaskRow → Y) (rows : List TaskRow) (t : ℕ) (y : Y) → slice_get (map f rows) t ≡ Some y
    → (r : TaskRow) × (slice_get rows t ≡ Some r) × (f r ≡ y)
mapped_from f [] t y e = absurd (cc e)
mapped_from f (x ∷ rows) zero y e = (x, refl, same_Some (f x) y e)
mapped_from f (x ∷ rows) (suc t) y e = mapped_from f rows t y e

-- paths

pub parent_of_child : (path : List ℕ) (n : ℕ) → parent_of (path ++ n ∷ []) ≡ path
parent_of_child [] n = refl
parent_of_child (k ∷ []) n = refl
parent_of_child (k ∷ (j ∷ path)) n = ap (λ rest. k ∷ rest) (parent_of_child (j ∷ path) n)

pub child_no_root : (path : List ℕ) (n : ℕ) → is_root (path ++ n ∷ []) ≡ false
child_no_root [] n = refl
child_no_root (k ∷ path) n = refl

nat_self : (k : ℕ) → nat_eq k k ≡ true
nat_self k = grind (arith, nat_tests)

same_self : (path : List ℕ) → same_path path path ≡ true
same_self [] = refl
same_self (k ∷ path) = rw (nat_self k) (same_self path)

pub decided : (i j : ℕ) → (i ≡ j) ⊎ (i ≡ j → ⊥)
decided i j = chosen (nat_eq i j) refl
  where
    chosen : (b : Bool) → nat_eq i j ≡ b → (i ≡ j) ⊎ (i ≡ j → ⊥)
    chosen true h = let e : i ≡ j = grind (arith, nat_tests) in inl e
    chosen false h = inr (λ e. let bad : nat_eq i j ≡ true = subst (λ (k : ℕ). nat_eq i k ≡ true) e (nat_self i) in absurd (cc (sym h ∙ bad)))

-- what a child is
child_is : (parent path : List ℕ) → is_child parent path ≡ true → (is_root path ≡ false) × (parent_of path ≡ parent)
child_is parent path e = split (is_root path) (same_path (parent_of path) parent) refl refl e
  where
    split : (a b : Bool) → is_root path ≡ a → same_path (parent_of path) parent ≡ b → not a && b ≡ true → (is_root path ≡ false) × (parent_of path ≡ parent)
    split true b ea eb h = absurd (cc h)
    split false true ea eb h = (ea, same_is (parent_of path) parent eb)
    split false false ea eb h = absurd (cc h)

is_child_of : (parent path : List ℕ) → is_root path ≡ false → parent_of path ≡ parent → is_child parent path ≡ true
is_child_of parent path no_root is = rw (no_root, is) (same_self parent)

either : (b : Bool) → (b ≡ true) ⊎ (b ≡ false)
either true = inl refl
either false = inr refl

no_child : (parent path : List ℕ) → (is_child parent path ≡ true → ⊥) → is_child parent path ≡ false
no_child parent path never = elim (either (is_child parent path)) [ inl h ↦ absurd (never h) | inr h ↦ h ]

-- the numbers of the frame of a task

root_alone : (q : List ℕ) → is_root q ≡ true → (path : List ℕ) → are_siblings path q ≡ false
root_alone q root path = split (is_root path)
  where
    split : (a : Bool) → not a && (not (is_root q) && same_path (parent_of path) (parent_of q)) ≡ false
    split true = refl
    split false = rw root refl

siblings_alike : (q : List ℕ) → is_root q ≡ false → (path : List ℕ) → is_child (parent_of q) path ≡ are_siblings path q
siblings_alike q no_root path = rw no_root refl

pub siblings_none : (paths : List (List ℕ)) (q : List ℕ) → is_root q ≡ true → [] ≡ numbers_of (λ path. are_siblings path q) paths
siblings_none paths q root = sym (numbers_none (λ path. are_siblings path q) (root_alone q root) 0 paths)

pub siblings_some : (paths : List (List ℕ)) (q : List ℕ) → is_root q ≡ false
    → numbers_of (is_child (parent_of q)) paths ≡ numbers_of (λ path. are_siblings path q) paths
siblings_some paths q no_root = numbers_alike (is_child (parent_of q)) (λ path. are_siblings path q) (siblings_alike q no_root) 0 paths

pub parent_there : (paths : List (List ℕ)) (links : List LinkState) → AreLinked paths links → (t k : ℕ) (q : List ℕ) (l : LinkState)
    → slice_get paths t ≡ Some q → slice_get links t ≡ Some l → l.parent ≡ Some k → (is_root q ≡ false) × (slice_get paths k ≡ Some (parent_of q))
parent_there paths links linked t k q l at lat is = subst (IsParent paths q) is (linked.parent t q l at lat)

pub no_parent_root : (paths : List (List ℕ)) (links : List LinkState) → AreLinked paths links → (t : ℕ) (q : List ℕ) (l : LinkState)
    → slice_get paths t ≡ Some q → slice_get links t ≡ Some l → l.parent ≡ None → is_root q ≡ true
no_parent_root paths links linked t q l at lat is = subst (IsParent paths q) is (linked.parent t q l at lat)

-- no two tasks have one path
abbrev pub OncePaths : List (List ℕ) → Type 0
OncePaths paths = (i j : ℕ) (q : List ℕ) → slice_get paths i ≡ Some q → slice_get paths j ≡ Some q → i ≡ j

numbers_append : (A : List ℕ → Bool) (n : ℕ) (paths : List (List ℕ)) (path : List ℕ)
    → numbers_from n A (paths ++ path ∷ []) ≡ numbers_from n A paths ++ cond (A path) ((n + length paths) ∷ []) []
numbers_append A n [] path = chosen (A path)
  where
    chosen : (a : Bool) → cond a (n ∷ []) (let xs : List ℕ = [] in xs) ≡ cond a ((n + 0) ∷ []) (let xs : List ℕ = [] in xs)
    chosen true = let e : n ≡ n + 0 = omega arith in ap (λ (k : ℕ). k ∷ []) e
    chosen false = refl
numbers_append A n (q ∷ paths) path =
    let e : suc n + length paths ≡ n + suc (length paths) = omega arith in
    chosen (A q) (numbers_append A (suc n) paths path ∙ ap (λ (k : ℕ). numbers_from (suc n) A paths ++ cond (A path) (k ∷ []) []) e)
  where
    chosen : (a : Bool) → numbers_from (suc n) A (paths ++ path ∷ []) ≡ numbers_from (suc n) A paths ++ cond (A path) ((n + suc (length paths)) ∷ []) []
        → cond a (n ∷ numbers_from (suc n) A (paths ++ path ∷ [])) (numbers_from (suc n) A (paths ++ path ∷ []))
        ≡ cond a (n ∷ numbers_from (suc n) A paths) (numbers_from (suc n) A paths) ++ cond (A path) ((n + suc (length paths)) ∷ []) []
    chosen true h = ap (λ (xs : List ℕ). n ∷ xs) h
    chosen false h = h

none_passes : (A : List ℕ → Bool) (n : ℕ) (paths : List (List ℕ)) → ((i : ℕ) (q : List ℕ) → slice_get paths i ≡ Some q → A q ≡ false) → numbers_from n A paths ≡ []
none_passes A n [] h = refl
none_passes A n (q ∷ paths) h = rw (h 0 q refl) (none_passes A (suc n) paths (λ i. h (suc i)))

module _ (paths : List (List ℕ)) (links : List LinkState) (linked : AreLinked paths links) (t : ℕ) (q : List ℕ) (at : slice_get paths t ≡ Some q) (path : List ℕ)
    (no_root : is_root path ≡ false) (child : parent_of path ≡ q) (once : OncePaths (paths ++ path ∷ [])) where
  abbrev more : List (List ℕ)
  more = paths ++ path ∷ []

  within : t < length paths
  within = slice_get_within paths t q at

  in_front : (i : ℕ) (w : List ℕ) → slice_get paths i ≡ Some w → slice_get more i ≡ Some w
  in_front i w e = get_front paths (path ∷ []) i (slice_get_within paths i w e) ∙ e

  -- a task before has the new one as its child just where it is its parent
  child_of_old : (u : ℕ) (w : List ℕ) → slice_get paths u ≡ Some w → (u ≡ t → ⊥) → is_child w path ≡ false
  child_of_old u w e ne =
      no_child w path (λ h. let is : q ≡ w = sym child ∙ (child_is w path h).1 in
      ne (once u t w (in_front u w e) (in_front t w (at ∙ ap Some is))))

  -- and the new one has no children
  of_old : (i : ℕ) (v : List ℕ) → slice_get paths i ≡ Some v → (is_root v ≡ false) × (parent_of v ≡ path) → ⊥
  of_old i v old h =
      let short : i < length links = omega (arith, slice_get_within paths i v old, linked.count) in
      let l = get_there links i short in
      from (l.0.parent) (linked.parent i v l.0 old l.1)
    where
      from : (parent : Option ℕ) → IsParent paths v parent → ⊥
      from None root = absurd (cc (sym root ∙ h.0))
      from (Some k) is =
          let there : slice_get paths k ≡ Some path = is.1 ∙ ap Some h.1 in
          let lt = slice_get_within paths k path there in
          let same = once k (length paths) path (in_front k path there) (get_last paths path) in
          absurd (omega (arith, lt, same))

  of_new : parent_of path ≡ path → ⊥
  of_new is =
      let there : slice_get paths t ≡ Some path = at ∙ ap Some (sym child ∙ is) in
      let same = once t (length paths) path (in_front t path there) (get_last paths path) in
      absurd (omega (arith, within, same))

  none_of_new : (i : ℕ) (v : List ℕ) → slice_get more i ≡ Some v → is_child path v ≡ false
  none_of_new i v e =
      no_child path v (λ h. let is = child_is path v h in
      elim (get_either paths path i v e) [ inl old ↦ of_old i v old is | inr new ↦ of_new (subst (λ (w : List ℕ). parent_of w ≡ path) new.1 is.1) ])

  abbrev long : ℕ
  long = length paths

  -- what the links of a task that was there are now
  abbrev Grown : ℕ → LinkState → LinkState → Type 0
  Grown u l new = ((u ≡ t) × (new ≡ with_child long l)) ⊎ ((u ≡ t → ⊥) × (new ≡ l))

  grown : (u : ℕ) (lt l new : LinkState) → slice_get links t ≡ Some lt → slice_get links u ≡ Some l → slice_get (slice_set links t (with_child long lt)) u ≡ Some new → Grown u l new
  grown u lt l new att atu e = elim (decided u t) [
    | inl same ↦ inl (same, is_same same)
    | inr other ↦ inr (other, sym (same_Some l new (sym atu ∙ sym (get_set_other links t u (with_child long lt) (λ h. other (sym h))) ∙ e)))
  ]
    where
      is_same : u ≡ t → new ≡ with_child long l
      is_same same =
          let lu : lt ≡ l = same_Some lt l (sym att ∙ ap (slice_get links) (sym same) ∙ atu) in
          let short = slice_get_within links t lt att in
          let now : slice_get (slice_set links t (with_child long lt)) u ≡ Some (with_child long lt) =
          ap (slice_get (slice_set links t (with_child long lt))) same ∙ get_set_same links t (with_child long lt) short in
          sym (same_Some (with_child long lt) new (sym now ∙ e)) ∙ ap (with_child long) lu

  abbrev HasChildren : List ℕ → LinkState → Type 0
  HasChildren w l = l.children ≡ numbers_of (is_child w) more

  old_children : (u : ℕ) (w : List ℕ) (l new : LinkState) → slice_get paths u ≡ Some w → slice_get links u ≡ Some l → Grown u l new → HasChildren w new
  old_children u w l new atw atl (inl (same, is)) =
      let wq : q ≡ w = same_Some q w (sym at ∙ ap (slice_get paths) (sym same) ∙ atw) in
      let test = is_child_of w path no_root (child ∙ wq) in
      let all = numbers_append (is_child w) 0 paths path in
      let e : 0 + long ≡ long = omega arith in
      rw is (rw (all, test, e) (ap (λ (ks : List ℕ). ks ++ long ∷ []) (linked.children u w l atw atl)))
  old_children u w l new atw atl (inr (other, is)) =
      let test = child_of_old u w atw other in
      let all = numbers_append (is_child w) 0 paths path in
      rw is (rw (all, test, append-nil) (linked.children u w l atw atl))

  old_parent : (u : ℕ) (w : List ℕ) (l new : LinkState) → slice_get paths u ≡ Some w → slice_get links u ≡ Some l → Grown u l new → IsParent more w new.parent
  old_parent u w l new atw atl g = moved (new.parent) (subst (λ (o : Option ℕ). IsParent paths w o) (sym (same_parent g)) (linked.parent u w l atw atl))
    where
      same_parent : Grown u l new → new.parent ≡ l.parent
      same_parent (inl h) = rw h.1 refl
      same_parent (inr h) = rw h.1 refl

      moved : (o : Option ℕ) → IsParent paths w o → IsParent more w o
      moved None h = h
      moved (Some k) h = (h.0, in_front k (parent_of w) h.1)

  -- an entry of the links is that of a task before, as it has grown, or the new one
  abbrev AtLinks : ℕ → LinkState → Type 0
  AtLinks u new = ((l : LinkState) × (slice_get links u ≡ Some l) × Grown u l new) ⊎ ((u ≡ long) × (new ≡ fresh_links (Some t)))

  at_links : (lt : LinkState) → slice_get links t ≡ Some lt → (u : ℕ) (new : LinkState) → slice_get (with_link long t links) u ≡ Some new → AtLinks u new
  at_links lt att u new e =
      let set_links = slice_set links t (with_child long lt) in
      let is : with_link long t links ≡ set_links ++ fresh_links (Some t) ∷ [] = rw att refl in
      let size : length set_links ≡ long = length-set links t (with_child long lt) ∙ linked.count in
      elim (get_either set_links (fresh_links (Some t)) u new (ap (λ (ls : List LinkState). slice_get ls u) (sym is) ∙ e)) [
        | inl h ↦ inl (of_front h)
        | inr h ↦ inr (h.0 ∙ size, h.1)
      ]
    where
      of_front : slice_get (slice_set links t (with_child long lt)) u ≡ Some new → (l : LinkState) × (slice_get links u ≡ Some l) × Grown u l new
      of_front h =
          let size = length-set links t (with_child long lt) in
          let short : u < length links = omega (arith, size, slice_get_within (slice_set links t (with_child long lt)) u new h) in
          let l = get_there links u short in
          (l.0, l.1, grown u lt l.0 new att l.1 h)

  -- the path of a number, for a number before the last and for the last
  old_path : (u : ℕ) (w : List ℕ) (l : LinkState) → slice_get more u ≡ Some w → slice_get links u ≡ Some l → slice_get paths u ≡ Some w
  old_path u w l atw atl =
      let short : u < length paths = omega (arith, slice_get_within links u l atl, linked.count) in
      sym (get_front paths (path ∷ []) u short) ∙ atw

  new_path : (u : ℕ) (w : List ℕ) → slice_get more u ≡ Some w → u ≡ long → w ≡ path
  new_path u w atw e = sym (same_Some path w (sym (get_last paths path) ∙ ap (slice_get more) (sym e) ∙ atw))

  pub linked_more : AreLinked more (with_link long t links)
  linked_more =
      let tl = get_there links t (omega (arith, within, linked.count)) in
      record {
        count = counts tl.0 tl.1;
        children = λ u w new atw atn. elim (at_links tl.0 tl.1 u new atn) [
          | inl (l, atl, g) ↦ old_children u w l new (old_path u w l atw atl) atl g
          | inr (e, is) ↦ fresh_children u w new (new_path u w atw e) is
        ];
        parent = λ u w new atw atn. elim (at_links tl.0 tl.1 u new atn) [
          | inl (l, atl, g) ↦ old_parent u w l new (old_path u w l atw atl) atl g
          | inr (e, is) ↦ fresh_parent u w new (new_path u w atw e) is
        ];
      }
    where
      counts : (lt : LinkState) → slice_get links t ≡ Some lt → length (with_link long t links) ≡ length more
      counts lt att =
          let is : with_link long t links ≡ slice_set links t (with_child long lt) ++ fresh_links (Some t) ∷ [] = rw att refl in
          let size = length-set links t (with_child long lt) in
          let a = length-append (slice_set links t (with_child long lt)) (fresh_links (Some t) ∷ []) in
          let b = length-append paths (path ∷ []) in
          rw is (omega (arith, size, a, b, linked.count))

      fresh_children : (u : ℕ) (w : List ℕ) (new : LinkState) → w ≡ path → new ≡ fresh_links (Some t) → HasChildren w new
      fresh_children u w new is_path is_fresh = rw (is_path, is_fresh) (sym (none_passes (is_child path) 0 more none_of_new))

      fresh_parent : (u : ℕ) (w : List ℕ) (new : LinkState) → w ≡ path → new ≡ fresh_links (Some t) → IsParent more w new.parent
      fresh_parent u w new is_path is_fresh = rw (is_path, is_fresh) (no_root, in_front t (parent_of path) (at ∙ ap Some (sym child)))

-- the numbers of a frame, by the links of one of its tasks
pub siblings_by_parent : (rows : List TaskRow) (links : List LinkState) → AreLinked (paths_of rows) links → (t k : ℕ) (l above : LinkState)
    → slice_get links t ≡ Some l → l.parent ≡ Some k → slice_get links k ≡ Some above → (r : TaskRow) → slice_get rows t ≡ Some r → above.children ≡ siblings_of r rows
siblings_by_parent rows links linked t k l above atl is atk r at =
    let path = mapped_at (λ (u : TaskRow). u.path) rows t r at in
    let parent = parent_there (paths_of rows) links linked t k r.path l path atl is in
    linked.children k (parent_of r.path) above parent.1 atk ∙ siblings_some (paths_of rows) r.path parent.0

pub siblings_of_root : (rows : List TaskRow) (links : List LinkState) → AreLinked (paths_of rows) links → (t : ℕ) (l : LinkState)
    → slice_get links t ≡ Some l → l.parent ≡ None → (r : TaskRow) → slice_get rows t ≡ Some r → [] ≡ siblings_of r rows
siblings_of_root rows links linked t l atl is r at =
    let path = mapped_at (λ (u : TaskRow). u.path) rows t r at in
    siblings_none (paths_of rows) r.path (no_parent_root (paths_of rows) links linked t r.path l path atl is)

pub parent_within : (rows : List TaskRow) (links : List LinkState) → AreLinked (paths_of rows) links → (t k : ℕ) (l : LinkState)
    → slice_get links t ≡ Some l → l.parent ≡ Some k → k < length links
parent_within rows links linked t k l atl is =
    let short = slice_get_within links t l atl in
    let q = get_there (paths_of rows) t (omega (arith, short, linked.count)) in
    let parent = parent_there (paths_of rows) links linked t k q.0 l q.1 atl is in
    let within = slice_get_within (paths_of rows) k (parent_of q.0) parent.1 in
    omega (arith, within, linked.count)

pub links_as_rows : (rows : List TaskRow) (links : List LinkState) → AreLinked (paths_of rows) links → length links ≡ length rows
links_as_rows rows links linked = linked.count ∙ length-map rows (λ (r : TaskRow). r.path)

-- the links of a task give the numbers of its children
pub children_by_links : (rows : List TaskRow) (links : List LinkState) → AreLinked (paths_of rows) links → (t : ℕ) (l : LinkState) → slice_get links t ≡ Some l
    → (r : TaskRow) → slice_get rows t ≡ Some r → l.children ≡ numbers_of (is_child r.path) (paths_of rows)
children_by_links rows links linked t l atl r at = linked.children t r.path l (mapped_at (λ (u : TaskRow). u.path) rows t r at) atl
