-- Statements keep to the rights.
use Rattle.std.proofs.Common.{◌≡◌, ℕ, zero, suc, ◌+◌, ◌-◌, Bool, true, false, List, [], ◌∷◌, ◌++◌, length, take, map, Option, Some, None, refl, sym, ap, subst, nat_lt, append-nil, is_some}
use Rattle.kt_law.specs.Modes.{may_fold}
use Rattle.kt_law.specs.Acts.{Store, Fold}
use Rattle.kt_law.specs.declared.faults.F.TheVariants.{F2, F6}
use Rattle.kt_law.specs.declared.places.P.TheVariants.{P10, P11}
use Rattle.kt_law.specs.declared.operators.Op.{Op}
use Rattle.kt_law.specs.declared.modes.Mode.{Mode}
use Rattle.kt_law.specs.declared.modes.Mode.TheVariants as M
use Rattle.kt_law.specs.declared.places.Place.{Place}
use Rattle.kt_law.specs.declared.accesses.Access.{Access}
use Rattle.kt_prog.specs.Calls.{CallTree, Job, Whole}
use Rattle.kt_prog.specs.Script.{Script, Step}
use Rattle.kt_prog.specs.Locals.{Site, bound_of, local_of}
use Rattle.kt_prog.specs.Lookups.{assign, assigned, with_local, where_fine}
use Rattle.kt_prog.specs.Values.{value_of}
use Rattle.kt_prog.specs.Targets.{Target, target_of}
use Rattle.kt_prog.specs.Statements.{State, StmtMeaning, block, at_locals, scoped, step_at, turns, either, what_step, stmt_step, what_of, stmt_of}
use Rattle.kt_prog.specs.Scope.{Scope, kind_of, with_name}
use Rattle.kt_prog.specs.declared.sight.Known.{Known}
use Rattle.kt_prog.specs.declared.sight.Kind.TheVariants.{Number, Variable}
use Rattle.kt_prog.specs.declared.sight.Kind.{Kind}
use Rattle.kt_prog.specs.Rules.{breaches_in, rules_of, denied, new_name, set_rule, element_rule, store_rule, fold_rule}
use Rattle.kt_prog.specs.ForkRules.{fork_rule}
use Rattle.kt_prog.specs.StatementRules.{StmtRules, block_rules, what_rules, stmt_rules, rules_of_what, rules_of_stmt}
use Rattle.kt_rights.specs.Rights.{SomeOf, EachOf, Covers, Owns}
use Rattle.kt_prog.specs.Fits.{Inside, FitsTarget}
use Rattle.kt_prog.specs.declared.scope.TheConstants.{NAMES}
use Rattle.kt_prog.specs.declared.scope.Local.{Local}
use Rattle.kt_prog.specs.declared.scope.Bound.TheVariants as B
use Rattle.kt_prog.specs.declared.programs.Expr.{Expr}
use Rattle.kt_prog.specs.declared.programs.Task.{Task}
use Rattle.kt_prog.specs.declared.programs.What.{What, What-F, roll-What, map-What, fold-roll-What}
use Rattle.kt_prog.specs.declared.programs.What.TheOpen as W
use Rattle.kt_prog.specs.declared.programs.Stmt.{Stmt, Stmt-F, roll-Stmt, map-Stmt, fold-roll-Stmt, ind-Stmt}
use Rattle.kt_prog.proofs.Good.{Good, good_give, good_then, good_stop, good_test, good_perform}
use Rattle.kt_prog.proofs.Lists.{left_none, right_none, not_denied, not_false}
use Rattle.kt_prog.proofs.Matches.{Suits, Matches, LoopOk, FamiliesMatch, Agrees, looked, same_length}
use Rattle.kt_prog.proofs.Values.{D, OwnAt, IsObject, view_of, expr_keeps, element_found, allowed, owned}
use Rattle.kt_prog.proofs.Forks.{fork_good}
use Rattle.kt_prog.proofs.Scopes.{Begins, begins_all, begins_fewer, agrees_again, agrees_taken, agrees_new, agrees_set, room_left, set_there}

loop_none : (site : Site) (rights : List Access) (o : Option ℕ) (b : Bool) → LoopOk site rights o o b → b ≡ false → o ≡ None
loop_none site rights None b l e = refl
loop_none site rights (Some i) b l e = cc

fold_owns : (o : Option ℕ) (op : Op) (mode : Mode) (i : ℕ) → may_fold op mode ≡ true → Owns o mode i
fold_owns None op mode i h = tt
fold_owns (Some j) op M.R i h = cc
fold_owns (Some j) op M.W i h = cc
fold_owns (Some j) op M.X i h = cc
fold_owns (Some j) op (M.Cw o) i h = λ w. cc
fold_owns (Some j) op M.Rp i h = cc
fold_owns (Some j) op M.Wp i h = cc
fold_owns (Some j) op M.Xp i h = cc
fold_owns (Some j) op (M.Cwp o) i h = cc

module _ (lost : Script → Script) (site : Site) (rights : List Access) (own : Option ℕ) (H : Job → Type 0)
    (fam : site.in_main ≡ true → FamiliesMatch site rights own)
    (objects : ℕ) (room : EachOf (Inside objects) rights)
    (hands : own ≡ None → (name : List ℕ) (t : Target) → target_of site.tasks name ≡ Some t → (call : CallTree)
    → FitsTarget objects call t → call.depth ≡ suc site.depth → EachOf (λ b. SomeOf (Covers b) rights) call.accesses → H (Whole call)) where
  abbrev GoodAt : {X : Type 0} → (X → Type 0) → Step X → Type 0
  GoodAt = Good (D lost site rights own H fam) H

  abbrev Agree : Scope → List Local → Type 0
  Agree = Agrees site rights own

  abbrev pub After : Scope → State → Type 0
  After s st = Agree s st.locals

  -- what is in sight after a block begins with what was in sight before it
  abbrev pub Ends : Scope → State → Type 0
  Ends s st = Begins site rights own s.names st.locals

  pub record KeepsStmt (r : StmtRules) (m : StmtMeaning) : Type 0 where
    pub good : (s : Scope) (st : State) → Agree s st.locals → (r s).breaches ≡ [] → GoodAt (After (r s).after) (m site st)
    pub grows : (s : Scope) → (more : List Known) × ((r s).after.names ≡ s.names ++ more)

  pub record KeepsWhat (r : Place → StmtRules) (m : ℕ → StmtMeaning) : Type 0 where
    pub at : (place : Place) (line : ℕ) → KeepsStmt (r place) (m line)

  number_good : (s : Scope) (locals : List Local) (line : ℕ) (e : Expr) → Agree s locals → breaches_in e s ≡ []
      → GoodAt (λ (n : ℕ). Unit {0}) (value_of lost e (view_of lost site rights own H fam locals line))
  number_good s locals line e a h = record { keeps = λ go k. ((expr_keeps lost site rights own H fam e).good s locals line a h).keeps go (λ x o. k x tt) }

  pub block_good : (xs : List ((x : Stmt) × KeepsStmt (rules_of_stmt x) (stmt_of lost x))) (s : Scope) (st : State) → Agree s st.locals
      → block_rules (map rules_of_stmt (map (λ e. e.0) xs)) s ≡ []
      → GoodAt (Ends s) (block (map (stmt_of lost) (map (λ e. e.0) xs)) site st)
  block_good [] s st a h = good_give _ H (Ends s) st (begins_all site rights own s.names st.locals a.names)
  block_good (x ∷ xs) s st a h =
      let r = rules_of_stmt x.0 s in
      let g = x.1.grows s in
      good_then _ H (After r.after) (Ends s) _ _
      (x.1.good s st a (left_none r.breaches (block_rules (map rules_of_stmt (map (λ e. e.0) xs)) r.after) h)) (λ st' a'.
      let rest = block_good xs r.after st' a' (right_none r.breaches (block_rules (map rules_of_stmt (map (λ e. e.0) xs)) r.after) h) in
      record {
        keeps = λ go k. rest.keeps go (λ st'' b. k st''
            (begins_fewer site rights own s.names g.0 st''.locals (subst (λ (names : List Known). Begins site rights own names st''.locals) g.1 b)));
      })

  step_good : (steps line : ℕ) (st : State) (s : Scope) → Agree s st.locals → GoodAt (After s) (step_at steps line st)
  step_good zero line st s a = good_stop _ H (After s) F6 line
  step_good (suc left) line st s a = good_give _ H (After s) (record { locals = st.locals; steps = left }) a

  either_good : (n : ℕ) (P : State → Type 0) (x y : StmtMeaning) (st : State) → GoodAt P (x site st) → GoodAt P (y site st)
      → GoodAt P (either n x y site st)
  either_good zero P x y st g h = h
  either_good (suc n) P x y st g h = g

  -- where there is room, no local is lost
  room_good : (b : Bool) (P : List Local → Type 0) (locals more : List Local) → b ≡ true → P more → GoodAt P (where_fine lost b locals more)
  room_good true P locals more e p = good_give _ H P more p
  room_good false P locals more e p = cc

  new_good : (s : Scope) (locals : List Local) (name : List ℕ) (place : Place) (kind : Kind) (n : ℕ) → Agree s locals
      → new_name s name place ≡ [] → Suits site rights own kind (B.Number n)
      → GoodAt (λ after. Agree (with_name s name kind) after) (with_local lost locals name n)
  new_good s locals name place kind n a h suits = room_good (nat_lt (length locals) NAMES)
      (λ after. Agree (with_name s name kind) after) locals _ (room_left site rights own s locals name place a h)
      (agrees_new site rights own s locals name kind n a suits)

  set_good : (s : Scope) (locals : List Local) (name : List ℕ) (place : Place) (n : ℕ) → Agree s locals
      → set_rule (kind_of s name) place ≡ [] → GoodAt (λ after. Agree s after) (assigned lost locals name n)
  set_good s locals name place n a h = room_good (is_some (local_of locals name)) (λ after. Agree s after) locals (assign locals name n)
      (set_there site rights own s locals name place a h) (agrees_set site rights own s locals name place n a h)

  turns_good : (n line : ℕ) (name : List ℕ) (place : Place) (value : ℕ) (body : StmtMeaning) (s : Scope) (len : ℕ) → len ≡ length s.names
      → new_name s name place ≡ []
      → ((st : State) → Agree (with_name s name Number) st.locals → GoodAt (Ends (with_name s name Number)) (body site st))
      → (st : State) → Agree s st.locals → GoodAt (After s) (turns lost n len line name value body site st)
  turns_good zero line name place value body s len e fresh each st a = good_give _ H (After s) st a
  turns_good (suc n) line name place value body s len e fresh each st a =
      good_then _ H (After s) (After s) _ _ (step_good st.steps line st s a) (λ st' a'.
      good_then _ H (λ locals. Agree (with_name s name Number) locals) (After s) _ _ (new_good s st'.locals name place Number value a' fresh tt) (λ locals new.
      good_then _ H (Ends (with_name s name Number)) (After s) _ _ (each (at_locals st' locals) new) (λ st'' b.
      turns_good n line name place (value + 1) body s len e fresh each (scoped len st'')
      (agrees_again site rights own s st'.locals _ a'
      (subst (λ k. Matches site rights own s.names (take k st''.locals)) (sym e) (begins_fewer site rights own s.names _ st''.locals b))))))

  same_names : (s : Scope) → (more : List Known) × (s.names ≡ s.names ++ more)
  same_names s = ([], sym (append-nil s.names))

  abbrev Kept : Type 0
  Kept = (x : Stmt) × KeepsStmt (rules_of_stmt x) (stmt_of lost x)

  abbrev firsts : List Kept → List Stmt
  firsts xs = map (λ e. e.0) xs

  what_layer : (y : What-F ((w : What) × KeepsWhat (rules_of_what w) (what_of lost w)) Kept)
      → KeepsWhat (what_rules (map-What _ _ _ _ rules_of_what rules_of_stmt (map-What _ _ _ _ (λ e. e.0) (λ e. e.0) y)))
      (what_step lost (map-What _ _ _ _ (what_of lost) (stmt_of lost) (map-What _ _ _ _ (λ e. e.0) (λ e. e.0) y)))
  what_layer (W.Let name place e) = record {
    at = λ at line. record {
      good = λ s st a h.
          let first = left_none (new_name s name place) (breaches_in e s) h in
          good_then _ H (λ (n : ℕ). Unit {0}) (After (with_name s name Variable)) _ _
          (number_good s st.locals line e a (right_none (new_name s name place) (breaches_in e s) h)) (λ n _.
          good_then _ H (λ locals. Agree (with_name s name Variable) locals) (After (with_name s name Variable)) _ _
          (new_good s st.locals name place Variable n a first tt) (λ locals new.
          good_give _ H (After (with_name s name Variable)) (at_locals st locals) new));
      grows = λ s. (record { name = name; kind = Variable } ∷ [], refl);
    };
  }
  what_layer (W.Set name place e) = record {
    at = λ at line. record {
      good = λ s st a h.
          let first = left_none (set_rule (kind_of s name) place) (breaches_in e s) h in
          good_then _ H (λ (n : ℕ). Unit {0}) (After s) _ _
          (number_good s st.locals line e a (right_none (set_rule (kind_of s name) place) (breaches_in e s) h)) (λ n _.
          good_then _ H (λ locals. Agree s locals) (After s) _ _ (set_good s st.locals name place n a first) (λ locals set.
          good_give _ H (After s) (at_locals st locals) set));
      grows = same_names;
    };
  }
  what_layer (W.Store name place i e) = record {
    at = λ at line. record {
      good = λ s st a h.
          let rule = store_rule s (rules_of i).bare place in
          let one = element_rule rule (kind_of s name) place in
          let first = left_none (one ++ breaches_in i s) (breaches_in e s) h in
          good_then _ H (IsObject lost site rights own H fam rule) (After s) _ _
          (element_found lost site rights own H fam rule (kind_of s name) (bound_of site st.locals name) place
          (left_none one (breaches_in i s) first) (looked site rights own fam s st.locals name a)) (λ x f.
          good_then _ H (OwnAt lost site rights own H fam s (rules_of i).bare) (After s) _ _
          ((expr_keeps lost site rights own H fam i).good s st.locals line a (right_none one (breaches_in i s) first)) (λ k o.
          good_then _ H (λ (n : ℕ). Unit {0}) (After s) _ _ (number_good s st.locals line e a (right_none (one ++ breaches_in i s) (breaches_in e s) h)) (λ n _.
          good_then _ H (λ _. nat_lt k (site.widths x) ≡ true) (After s) _ _ (good_test _ H _ F2 line) (λ _ lt.
          good_then _ H (λ _. Unit {0}) (After s) _ _ (good_perform _ H x k (Store n)
          (allowed lost site rights own H fam f.0 x k (Store n) lt (not_false _ (not_denied place P10 _ (left_none _ _ f.1)))
          (owned lost site rights own H fam s st.locals (rules_of i).bare place f.0 k a (right_none _ _ f.1) o) f.2)) (λ _ _.
          good_give _ H (After s) st a)))));
      grows = same_names;
    };
  }
  what_layer (W.Fold name place i op e) = record {
    at = λ at line. record {
      good = λ s st a h.
          let rule = fold_rule op place in
          let one = element_rule rule (kind_of s name) place in
          let first = left_none (one ++ breaches_in i s) (breaches_in e s) h in
          good_then _ H (IsObject lost site rights own H fam rule) (After s) _ _
          (element_found lost site rights own H fam rule (kind_of s name) (bound_of site st.locals name) place
          (left_none one (breaches_in i s) first) (looked site rights own fam s st.locals name a)) (λ x f.
          let may = not_false (may_fold op f.0) (not_denied place P10 _ f.1) in
          good_then _ H (λ (n : ℕ). Unit {0}) (After s) _ _ (number_good s st.locals line i a (right_none one (breaches_in i s) first)) (λ k _.
          good_then _ H (λ (n : ℕ). Unit {0}) (After s) _ _ (number_good s st.locals line e a (right_none (one ++ breaches_in i s) (breaches_in e s) h)) (λ n _.
          good_then _ H (λ _. nat_lt k (site.widths x) ≡ true) (After s) _ _ (good_test _ H _ F2 line) (λ _ lt.
          good_then _ H (λ _. Unit {0}) (After s) _ _ (good_perform _ H x k (Fold op n)
          (allowed lost site rights own H fam f.0 x k (Fold op n) lt may (fold_owns own op f.0 k may) f.2)) (λ _ _.
          good_give _ H (After s) st a)))));
      grows = same_names;
    };
  }
  what_layer (W.If test xs ys) = record {
    at = λ at line. record {
      good = λ s st a h.
          let then_rules = block_rules (map rules_of_stmt (firsts xs)) s in
          let else_rules = block_rules (map rules_of_stmt (firsts ys)) s in
          let first = left_none (breaches_in test s ++ then_rules) else_rules h in
          good_then _ H (λ (n : ℕ). Unit {0}) (After s) _ _ (number_good s st.locals line test a (left_none (breaches_in test s) then_rules first)) (λ n _.
          good_then _ H (Ends s) (After s) _ _
          (either_good n (Ends s) (block (map (stmt_of lost) (firsts xs))) (block (map (stmt_of lost) (firsts ys))) st
          (block_good xs s st a (right_none (breaches_in test s) then_rules first))
          (block_good ys s st a (right_none (breaches_in test s ++ then_rules) else_rules h))) (λ st' b.
          good_give _ H (After s) (scoped (length st.locals) st') (agrees_taken site rights own s st.locals st'.locals a b)));
      grows = same_names;
    };
  }
  what_layer (W.For name place x y body) = record {
    at = λ at line. record {
      good = λ s st a h.
          let new = new_name s name place in
          let rules = block_rules (map rules_of_stmt (firsts body)) (with_name s name Number) in
          let first = left_none (new ++ breaches_in x s ++ breaches_in y s) rules h in
          let second = left_none (new ++ breaches_in x s) (breaches_in y s) first in
          good_then _ H (λ (n : ℕ). Unit {0}) (After s) _ _ (number_good s st.locals line x a (right_none new (breaches_in x s) second)) (λ from _.
          good_then _ H (λ (n : ℕ). Unit {0}) (After s) _ _
          (number_good s st.locals line y a (right_none (new ++ breaches_in x s) (breaches_in y s) first)) (λ to _.
          turns_good (to - from) line name place from (block (map (stmt_of lost) (firsts body))) s (length st.locals)
          (sym (same_length site rights own s.names st.locals a.names)) (left_none new (breaches_in x s) second)
          (λ st' a'. block_good body (with_name s name Number) st' a' (right_none (new ++ breaches_in x s ++ breaches_in y s) rules h)) st a));
      grows = same_names;
    };
  }
  what_layer (W.Fork name place len args) = record {
    at = λ at line. record {
      good = λ s st a h.
          let here = denied at P11 s.in_loop in
          let rule = fork_rule (target_of s.tasks name) place s len args in
          let none = loop_none site rights own s.in_loop a.loop (not_denied at P11 s.in_loop (left_none here rule h)) in
          let fine = subst (λ (tasks : List Task). fork_rule (target_of tasks name) place s len args ≡ []) a.tasks (right_none here rule h) in
          good_then _ H (λ _. Unit {0}) (After s) _ _
          (fork_good lost site rights own H fam s st.locals line a objects room hands name
          (target_of site.tasks name) place len args none refl fine) (λ _ _.
          good_give _ H (After s) st a);
      grows = same_names;
    };
  }

  stmt_layer : (y : Stmt-F ((w : What) × KeepsWhat (rules_of_what w) (what_of lost w)) Kept)
      → KeepsStmt (stmt_rules (map-Stmt _ _ _ _ rules_of_what rules_of_stmt (map-Stmt _ _ _ _ (λ e. e.0) (λ e. e.0) y)))
      (stmt_step lost (map-Stmt _ _ _ _ (what_of lost) (stmt_of lost) (map-Stmt _ _ _ _ (λ e. e.0) (λ e. e.0) y)))
  stmt_layer y =
      let w = y.what.1.at y.place y.place.line in
      record {
        good = λ s st a h. good_then _ H (After s) (After (rules_of_what y.what.0 y.place s).after) _ _
            (step_good st.steps y.place.line st s a) (λ st' a'. w.good s st' a' h);
        grows = w.grows;
      }

  pub stmt_keeps : (x : Stmt) → KeepsStmt (rules_of_stmt x) (stmt_of lost x)
  stmt_keeps = ind-Stmt (λ w. KeepsWhat (rules_of_what w) (what_of lost w)) (λ x. KeepsStmt (rules_of_stmt x) (stmt_of lost x))
      (λ x y is. subst (λ (z : What-F What Stmt). KeepsWhat (rules_of_what (roll-What z)) (what_of lost (roll-What z))) is
      (rw (
        fold-roll-What (Place → StmtRules) StmtRules what_rules stmt_rules (map-What _ _ _ _ (λ e. e.0) (λ e. e.0) y),
        fold-roll-What
            (ℕ → StmtMeaning) StmtMeaning (what_step lost) (stmt_step lost) (map-What _ _ _ _ (λ e. e.0) (λ e. e.0) y),
      ) (what_layer y)))
      (λ x y is. subst (λ (z : Stmt-F What Stmt). KeepsStmt (rules_of_stmt (roll-Stmt z)) (stmt_of lost (roll-Stmt z))) is
      (rw (
        fold-roll-Stmt (Place → StmtRules) StmtRules what_rules stmt_rules (map-Stmt _ _ _ _ (λ e. e.0) (λ e. e.0) y),
        fold-roll-Stmt
            (ℕ → StmtMeaning) StmtMeaning (what_step lost) (stmt_step lost) (map-Stmt _ _ _ _ (λ e. e.0) (λ e. e.0) y),
      ) (stmt_layer y)))

  with_proofs : List Stmt → List Kept
  with_proofs xs = map (λ x. (x, stmt_keeps x)) xs

  same_stmts : (xs : List Stmt) → firsts (map (λ x. (x, stmt_keeps x)) xs) ≡ xs
  same_stmts [] = refl
  same_stmts (x ∷ xs) = ap (λ ys. x ∷ ys) (same_stmts xs)

  -- the statements of a body keep to its rights
  pub body_keeps : (xs : List Stmt) (s : Scope) (st : State) → Agree s st.locals → block_rules (map rules_of_stmt xs) s ≡ []
      → GoodAt (Ends s) (block (map (stmt_of lost) xs) site st)
  body_keeps xs s st a h =
      subst (λ (ys : List Stmt). GoodAt (Ends s) (block (map (stmt_of lost) ys) site st)) (same_stmts xs)
      (block_good (map (λ x. (x, stmt_keeps x)) xs) s st a (subst (λ (ys : List Stmt). block_rules (map rules_of_stmt ys) s ≡ []) (sym (same_stmts xs)) h))
