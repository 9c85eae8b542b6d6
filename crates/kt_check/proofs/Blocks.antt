-- Blocks: what is in sight behind the first of their statements.
use Rattle.std.proofs.Common.{◌≡◌, ℕ, ◌+◌, ◌<◌, ◌≤◌, List, [], ◌∷◌, ◌++◌, length, map, drop, take, get_or, Option, refl, ap, sym, ◌∙◌, arith, drop-cons, add-one}
use Rattle.std.proofs.lemmas.List.{take_more}
use Rattle.std.proofs.lemmas.Grind.{common_steps}
use Rattle.kt_law.specs.declared.places.Place.{Place}
use Rattle.kt_prog.specs.Scope.{Scope}
use Rattle.kt_prog.specs.StatementRules.{Ruled, StmtRules, block_rules, rules_of_stmt, rules_of_what, stmt_rules, what_rules}
use Rattle.kt_check.specs.Lets.{first_let, let_name, let_names, lets_at, place_of_let}
use Rattle.kt_check.specs.Sights.{behind}
use Rattle.kt_prog.specs.declared.programs.Stmt.{Stmt}
use Rattle.kt_prog.specs.declared.programs.What.{What, What-F, map-What, out-What, fold_out-What}
use Rattle.kt_prog.specs.declared.programs.What.TheOpen as W
use Rattle.kt_prog.specs.declared.sight.Known.{Known}
use Rattle.kt_law.specs.declared.places.Refusal.{Refusal}
use Rattle.kt_prog.specs.Rules.{Breaches}
use Rattle.kt_prog.specs.Refusals.{noted}
use Rattle.kt_prog.proofs.Lists.{append_more}
use Rattle.kt_check.proofs.Noted.{noted_append}
use Rattle.kt_check.proofs.Equations.{stmt_is}

abbrev pub with_names : Scope → List Known → Scope
with_names s names = record s { names = s.names ++ names; lets = s.lets + length names }

append_none : {A : Type 0} (xs : List A) → xs ++ [] ≡ xs
append_none [] = refl
append_none (x ∷ xs) = ap (λ ys. x ∷ ys) (append_none xs)

length_more : {A : Type 0} (xs ys : List A) → length (xs ++ ys) ≡ length xs + length ys
length_more [] ys = omega arith
length_more (x ∷ xs) ys = let e : length (xs ++ ys) ≡ length xs + length ys = length_more xs ys in omega arith

pub with_none : (s : Scope) → with_names s [] ≡ s
with_none s = let e : s.lets + 0 ≡ s.lets = omega arith in rw (append_none s.names, e) refl

pub with_more : (s : Scope) (xs ys : List Known) → with_names (with_names s xs) ys ≡ with_names s (xs ++ ys)
with_more s xs ys = let e : s.lets + length xs + length ys ≡ s.lets + (length xs + length ys) = omega arith in rw (length_more xs ys, append_more s.names xs ys, e) refl

lets_more : (xs ys : List Stmt) → let_names (xs ++ ys) ≡ let_names xs ++ let_names ys
lets_more [] ys = refl
lets_more (x ∷ xs) ys = ap (λ l. let_name (out-What x.what) ++ l) (lets_more xs ys) ∙ append_more (let_name (out-What x.what)) (let_names xs) (let_names ys)

pub behind_none : (s : Scope) → behind s [] ≡ s
behind_none s = with_none s

after_layer : (at : Place) (s : Scope) (x : What-F What Stmt) → (what_rules (map-What _ _ _ _ rules_of_what rules_of_stmt x) at s).after ≡ with_names s (let_name x)
after_layer at s (W.Let name place e) = refl
after_layer at s (W.Set name place e) = sym (with_none s)
after_layer at s (W.Store name place i e) = sym (with_none s)
after_layer at s (W.Fold name place i op e) = sym (with_none s)
after_layer at s (W.If e xs ys) = sym (with_none s)
after_layer at s (W.For name place a b body) = sym (with_none s)
after_layer at s (W.Fork name place len args) = sym (with_none s)

after_what : (at : Place) (s : Scope) (w : What) → (rules_of_what w at s).after ≡ with_names s (let_name (out-What w))
after_what at s w = ap (λ (m : Place → StmtRules). (m at s).after) (fold_out-What (Place → StmtRules) StmtRules what_rules stmt_rules w) ∙ after_layer at s (out-What w)

module _ (s : Scope) (xs : List Stmt) (i : ℕ) (x : Stmt) where
  pub block_more : i < length xs → x ≡ get_or xs i x → block_rules (map rules_of_stmt (drop i xs)) (behind s (take i xs))
      ≡ (rules_of_what x.what x.place (behind s (take i xs))).breaches ++ block_rules (map rules_of_stmt (drop (i + 1) xs)) (behind s (take (i + 1) xs))
  block_more h is =
      let seen = behind s (take i xs) in
      let later : Scope = behind s (take (i + 1) xs) in
      let rest : List StmtRules = map rules_of_stmt (drop (i + 1) xs) in
      let d : drop i xs ≡ x ∷ drop (i + 1) xs = rw (add-one, drop-cons xs i x, ← is) refl in
      let t : take (i + 1) xs ≡ take i xs ++ x ∷ [] = rw (take_more xs i x, ← is) refl in
      let one : let_names (take (i + 1) xs) ≡ let_names (take i xs) ++ let_name (out-What x.what) = ap let_names t ∙ lets_more (take i xs) (x ∷ []) ∙ ap (λ l. let_names (take i xs) ++ l) (append_none (let_name (out-What x.what))) in
      let after : (rules_of_stmt x seen).after ≡ later = ap (λ (r : Ruled). r.after) (stmt_is seen x) ∙ after_what x.place seen x.what ∙ with_more s (let_names (take i xs)) (let_name (out-What x.what)) ∙ ap (λ ns. with_names s ns) (sym one) in
      ap (λ l. block_rules (map rules_of_stmt l) seen) d
      ∙ ap (λ z. (rules_of_stmt x seen).breaches ++ block_rules rest z) after
      ∙ ap (λ (r : Ruled). r.breaches ++ block_rules rest later) (stmt_is seen x)

pub block_none : (s : Scope) (xs : List Stmt) (i : ℕ) → length xs ≤ i → block_rules (map rules_of_stmt (drop i xs)) s ≡ []
block_none s xs i h = let e : drop i xs ≡ [] = grind (arith, common_steps) in rw e refl

pub noted_at : (b : Option Refusal) (rules : List StmtRules) (s t : Scope) → s ≡ t → noted b (block_rules rules s) ≡ noted b (block_rules rules t)
noted_at b rules s t is = ap (λ r. noted b (block_rules rules r)) is

pub block_step : (s : Scope) (xs : List Stmt) (i : ℕ) (x : Stmt) (seen : Scope) (b new : Option Refusal) → i < length xs → x ≡ get_or xs i x → seen ≡ behind s (take i xs)
    → new ≡ noted b (rules_of_what x.what x.place seen).breaches
    → noted b (block_rules (map rules_of_stmt (drop i xs)) (behind s (take i xs))) ≡ noted new (block_rules (map rules_of_stmt (drop (i + 1) xs)) (behind s (take (i + 1) xs)))
block_step s xs i x seen b new h is scope note =
    let rest : Breaches = block_rules (map rules_of_stmt (drop (i + 1) xs)) (behind s (take (i + 1) xs)) in
    ap (noted b) (block_more s xs i x h is)
    ∙ noted_append (rules_of_what x.what x.place (behind s (take i xs))).breaches rest b
    ∙ ap (λ r. noted (noted b (rules_of_what x.what x.place r).breaches) rest) (sym scope)
    ∙ ap (λ f. noted f rest) (sym note)

-- the names of one statement more
pub lets_next : (xs : List Stmt) (i : ℕ) (x : Stmt) → i < length xs → x ≡ get_or xs i x → let_names (take (i + 1) xs) ≡ let_names (take i xs) ++ let_name (out-What x.what)
lets_next xs i x h is =
    let t : take (i + 1) xs ≡ take i xs ++ x ∷ [] = rw (take_more xs i x, ← is) refl in
    ap let_names t ∙ lets_more (take i xs) (x ∷ []) ∙ ap (λ l. let_names (take i xs) ++ l) (append_none (let_name (out-What x.what)))

places_more : (xs : List Stmt) (ps qs : List ℕ) → lets_at xs (ps ++ qs) ≡ lets_at xs ps ++ lets_at xs qs
places_more xs [] qs = refl
places_more xs (p ∷ ps) qs = ap (λ l. first_let (drop p xs) ++ l) (places_more xs ps qs) ∙ append_more (first_let (drop p xs)) (lets_at xs ps) (lets_at xs qs)

place_one : (xs : List Stmt) (i : ℕ) (x : Stmt) → i < length xs → x ≡ get_or xs i x → (w : What-F What Stmt) → out-What x.what ≡ w → lets_at xs (place_of_let i w) ≡ let_name w
place_one xs i x h is (W.Let name place e) out =
    let d : drop i xs ≡ x ∷ drop (i + 1) xs = rw (add-one, drop-cons xs i x, ← is) refl in
    append_none (first_let (drop i xs)) ∙ ap first_let d ∙ ap let_name out
place_one xs i x h is (W.Set name place e) out = refl
place_one xs i x h is (W.Store name place j e) out = refl
place_one xs i x h is (W.Fold name place j op e) out = refl
place_one xs i x h is (W.If e ys zs) out = refl
place_one xs i x h is (W.For name place a b body) out = refl
place_one xs i x h is (W.Fork name place len args) out = refl

one_each : (i : ℕ) (w : What-F What Stmt) → length (place_of_let i w) ≡ length (let_name w)
one_each i (W.Let name place e) = refl
one_each i (W.Set name place e) = refl
one_each i (W.Store name place j e) = refl
one_each i (W.Fold name place j op e) = refl
one_each i (W.If e ys zs) = refl
one_each i (W.For name place a b body) = refl
one_each i (W.Fork name place len args) = refl

-- what is kept of the names while there is room for them
module _ (xs : List Stmt) (i : ℕ) (x : Stmt) (room : ℕ) (old new : List ℕ) (h : i < length xs) (is : x ≡ get_or xs i x) (more : length new < room → new ≡ old ++ place_of_let i (out-What x.what)) where
  still_room : length new < room → length old < room
  still_room few =
      let longer : length new ≡ length old + length (place_of_let i (out-What x.what)) = ap length (more few) ∙ length_more old (place_of_let i (out-What x.what)) in
      omega arith

  pub kept_next : (length old < room → lets_at xs old ≡ let_names (take i xs)) → length new < room → lets_at xs new ≡ let_names (take (i + 1) xs)
  kept_next kept few =
      let w = out-What x.what in
      ap (lets_at xs) (more few)
      ∙ places_more xs old (place_of_let i w)
      ∙ ap (λ l. lets_at xs old ++ l) (place_one xs i x h is w refl)
      ∙ ap (λ l. l ++ let_name w) (kept (still_room few))
      ∙ sym (lets_next xs i x h is)

  pub all_next : (length old < room → length old ≡ length (let_names (take i xs))) → length new < room → length new ≡ length (let_names (take (i + 1) xs))
  all_next all few =
      let w = out-What x.what in
      ap length (more few)
      ∙ length_more old (place_of_let i w)
      ∙ ap (λ n. n + length (place_of_let i w)) (all (still_room few))
      ∙ ap (λ n. length (let_names (take i xs)) + n) (one_each i w)
      ∙ sym (length_more (let_names (take i xs)) (let_name w))
      ∙ ap length (sym (lets_next xs i x h is))
