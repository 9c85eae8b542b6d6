-- Statements without a fault: how many steps they make, and what they fork.
use Rattle.std.proofs.Common.{◌≡◌, ◌<◌, ◌≤◌, ℕ, zero, suc, ◌+◌, ◌-◌, true, List, [], ◌∷◌, ◌++◌, Option, length, map, take, nat_lt, refl, sym, ap, subst, ◌∙◌, arith}
use Rattle.kt_law.specs.Acts.{Deed, Store, Fold}
use Rattle.kt_law.specs.declared.faults.F.TheVariants.{F2}
use Rattle.kt_law.specs.declared.limits.TheConstants.{STEPS}
use Rattle.kt_law.specs.declared.operators.Op.{Op}
use Rattle.kt_law.specs.declared.places.Place.{Place}
use Rattle.kt_prog.specs.Bodies.{statements}
use Rattle.kt_prog.specs.Calls.{CallTree, Job, Whole}
use Rattle.kt_prog.specs.Forks.{fork_named}
use Rattle.kt_prog.specs.Locals.{Site}
use Rattle.kt_prog.specs.Lookups.{where_fine, with_local}
use Rattle.kt_prog.specs.Script.{Script, Step, ◌>>=◌, fork, give, perform}
use Rattle.kt_prog.specs.Statements.{State, StmtMeaning, at_locals, block, scoped, step_at, stmt_of, stmt_step, turns, what_of, what_step}
use Rattle.kt_prog.specs.Targets.{target_of}
use Rattle.kt_prog.specs.Values.{ExprMeaning, View, element_within, object_at, value_of}
use Rattle.kt_prog.specs.declared.programs.Arg.{Arg}
use Rattle.kt_prog.specs.declared.programs.Expr.{Expr, Elem}
use Rattle.kt_prog.specs.declared.programs.Stmt.{Stmt, fold_out-Stmt}
use Rattle.kt_prog.specs.declared.programs.What as What
use Rattle.kt_prog.specs.declared.programs.What.{fold-roll-What}
use Rattle.kt_prog.specs.declared.programs.What.TheVariants as W
use Rattle.kt_prog.specs.declared.programs.What.TheOpen as F
use Rattle.kt_prog.specs.declared.scope.Bound.TheVariants.{Number}
use Rattle.kt_prog.specs.declared.scope.Local.{Local}
use Rattle.kt_prog.specs.declared.scope.TheConstants.{NAMES}
use Rattle.kt_gen.specs.Trees as trees
use Rattle.kt_gen_runs.proofs.Quiet.{Quiet, Calm, calm_give, calm_load, calm_perform, calm_test, calm_then, quiet_as}
use Rattle.kt_gen_runs.proofs.Values.{elem_meaning}

-- so many times a number
abbrev pub times : ℕ → ℕ → ℕ
times zero k = 0
times (suc n) k = k + times n k

abbrev pub numbered : List ℕ → ℕ → Local
numbered name v = record { name = name; bound = Number v }

module _ (Q : Job → Type 0) (lost : Script → Script) (site : Site) where
  abbrev pub seen_at : List Local → ℕ → View
  seen_at L line = record { site = site; locals = L; line = line }

  -- with these locals it makes so many steps and forks so much, and leaves the locals
  pub record Passes (L : List Local) (cost t i : ℕ) (m : StmtMeaning) : Type 0 where
    pub rest : (steps left n j T I : ℕ) (go : State → Script) → steps ≡ cost + left → T ≡ t + n → I ≡ i + j
        → Quiet Q n j (go (record { locals = L; steps = left })) → Quiet Q T I (m site (record { locals = L; steps = steps }) go)

  same : (L : List Local) (steps left n j T I : ℕ) (go : State → Script) → steps ≡ left → T ≡ n → I ≡ j
      → Quiet Q n j (go (record { locals = L; steps = left })) → Quiet Q T I (go (record { locals = L; steps = steps }))
  same L steps left n j T I go e f g h =
      subst (λ (k : ℕ). Quiet Q T I (go (record { locals = L; steps = k }))) (sym e) (quiet_as Q n j T I (go (record { locals = L; steps = left })) f g h)

  pub passes_none : (L : List Local) → Passes L 0 0 0 (block [])
  unfolding give
  passes_none L = record { rest = λ steps left n j T I go e f g h. same L steps left n j T I go (omega (arith, e)) (omega (arith, f)) (omega (arith, g)) h }

  pub passes_more : (L : List Local) (c d t n i j : ℕ) (m : StmtMeaning) (ms : List StmtMeaning) → Passes L c t i m → Passes L d n j (block ms)
      → Passes L (c + d) (t + n) (i + j) (block (m ∷ ms))
  unfolding ◌>>=◌
  passes_more L c d t n i j m ms x y = record {
    rest = λ steps left n' j' T I go e f g h.
        x.rest steps (d + left) (n + n') (j + j') T I (λ s. block ms site s go) (omega (arith, e)) (omega (arith, f)) (omega (arith, g))
        (y.rest (d + left) left n' j' (n + n') (j + j') go refl refl refl h);
  }

  pub passes_one : (L : List Local) (c t i : ℕ) (m : StmtMeaning) → Passes L c t i m → Passes L c t i (block (m ∷ []))
  unfolding ◌>>=◌ give
  passes_one L c t i m x = record { rest = λ steps left n j T I go e f g h. x.rest steps left n j T I go e f g h }

  stepped : (steps c left line T I : ℕ) (L : List Local) (k : State → Script) → steps ≡ suc c + left
      → ((less : ℕ) → less ≡ c + left → Quiet Q T I (k (record { locals = L; steps = less })))
      → Quiet Q T I (step_at steps line (record { locals = L; steps = steps }) k)
  unfolding give
  stepped zero c left line T I L k e h = absurd (omega (arith, e))
  stepped (suc less) c left line T I L k e h = h less (omega (arith, e))

  -- ---- statements

  stmt_is : (x : Stmt) (s : State) (go : State → Script)
      → stmt_of lost x site s go ≡ step_at s.steps x.place.line s (λ s'. what_of lost x.what x.place.line site s' go)
  unfolding ◌>>=◌
  stmt_is x s go = ap (λ (m : StmtMeaning). m site s go) (fold_out-Stmt (ℕ → StmtMeaning) StmtMeaning (what_step lost) (stmt_step lost) x)

  pub passes_stmt : (x : Stmt) (L : List Local) (c t i : ℕ) → Passes L c t i (what_of lost x.what x.place.line) → Passes L (suc c) t i (stmt_of lost x)
  passes_stmt x L c t i w = record {
    rest = λ steps left n j T I go e f g h.
        subst (λ w. Quiet Q T I w) (sym (stmt_is x (record { locals = L; steps = steps }) go))
        (stepped steps c left x.place.line T I L (λ s'. what_of lost x.what x.place.line site s' go) e (λ less is. w.rest less left n j T I go is f g h));
  }

  room : (L : List Local) (name : List ℕ) (v : ℕ) → nat_lt (length L) NAMES ≡ true → with_local lost L name v ≡ give (L ++ numbered name v ∷ [])
  room L name v e = ap (λ b. where_fine lost b L (L ++ numbered name v ∷ [])) e

  pub passes_turns : (N value : ℕ) (L : List Local) (name : List ℕ) (line c t i : ℕ) (body : StmtMeaning) → nat_lt (length L) NAMES ≡ true
      → ((v : ℕ) → take (length L) (L ++ numbered name v ∷ []) ≡ L)
      → ((v : ℕ) → value ≤ v → v < value + N → Passes (L ++ numbered name v ∷ []) c t i body)
      → Passes L (times N (suc c)) (times N t) (times N i) (turns lost N (length L) line name value body)
  unfolding ◌>>=◌ give
  passes_turns zero value L name line c t i body fits taken all =
      record { rest = λ steps left n j T I go e f g h. same L steps left n j T I go (omega (arith, e)) (omega (arith, f)) (omega (arith, g)) h }
  passes_turns (suc N) value L name line c t i body fits taken all = record {
    rest = λ steps left n j T I go e f g h.
        let more = times N (suc c) in
        let next = passes_turns N (value + 1) L name line c t i body fits taken (λ v le lt. all v (omega (arith, le)) (omega (arith, lt))) in
        let turned : State → Script = λ s. turns lost N (length L) line name (value + 1) body site s go in
        stepped steps (c + more) left line T I L
        (λ s'. with_local lost s'.locals name value (λ locals. body site (at_locals s' locals) (λ s''. turned (scoped (length L) s'')))) (omega (arith, e)) (λ less is.
        subst (λ (m : Step (List Local)). Quiet Q T I (m (λ locals. body site (record { locals = locals; steps = less }) (λ s''. turned (scoped (length L) s'')))))
        (sym (room L name value fits))
        ((all value (omega arith) (omega arith)).rest less (more + left) (times N t + n) (times N i + j) T I (λ s''. turned (scoped (length L) s''))
        (omega (arith, is)) (omega (arith, f)) (omega (arith, g))
        (subst (λ (K : List Local). Quiet Q (times N t + n) (times N i + j) (turned (record { locals = K; steps = more + left }))) (sym (taken value))
        (next.rest (more + left) left n j (times N t + n) (times N i + j) go refl refl refl h))));
  }

  for_is : (name : List ℕ) (p : Place) (a b : Expr) (body : List Stmt) (line : ℕ)
      → what_of lost (What.For name p a b body) line ≡ what_step lost (F.For name p a b (map (stmt_of lost) body)) line
  for_is name p a b body line =
      ap (λ w. what_of lost w line) (sym (W.rolls-For name p a b body))
      ∙ ap (λ (m : ℕ → StmtMeaning). m line) (fold-roll-What (ℕ → StmtMeaning) StmtMeaning (what_step lost) (stmt_step lost) (F.For name p a b body))

  as_is : (L : List Local) (c t i : ℕ) (x y : StmtMeaning) → x ≡ y → Passes L c t i y → Passes L c t i x
  as_is L c t i x y e h = subst (λ m. Passes L c t i m) (sym e) h

  pub passes_each : (at : Place) (name : List ℕ) (from to : Expr) (body : List Stmt) (L : List Local) (a b c t i : ℕ)
      → value_of lost from (seen_at L at.line) ≡ give a → value_of lost to (seen_at L at.line) ≡ give b
      → nat_lt (length L) NAMES ≡ true → ((v : ℕ) → take (length L) (L ++ numbered name v ∷ []) ≡ L)
      → ((v : ℕ) → a ≤ v → v < b → Passes (L ++ numbered name v ∷ []) c t i (block (map (stmt_of lost) body)))
      → Passes L (suc (times (b - a) (suc c))) (times (b - a) t) (times (b - a) i) (stmt_of lost (trees.each at name from to body))
  unfolding ◌>>=◌ give
  passes_each at name from to body L a b c t i ha hb fits taken all =
      let meaning = block (map (stmt_of lost) body) in
      let inner = passes_turns (b - a) a L name at.line c t i meaning fits taken (λ v le lt. all v le (omega arith)) in
      passes_stmt (trees.each at name from to body) L (times (b - a) (suc c)) (times (b - a) t) (times (b - a) i)
      (as_is L _ _ _ _ _ (for_is name at from to body at.line) (record {
        rest = λ steps left n j T I go e f g h.
            subst (λ (m : Step ℕ). Quiet Q T I (m (λ from. value_of lost to (seen_at L at.line) (λ to.
            turns lost (to - from) (length L) at.line name from meaning site (record { locals = L; steps = steps }) go)))) (sym ha)
            (subst (λ (m : Step ℕ). Quiet Q T I (m (λ to.
            turns lost (to - a) (length L) at.line name a meaning site (record { locals = L; steps = steps }) go))) (sym hb)
            (inner.rest steps left n j T I go e f g h));
      }))

  fork_is : (name : List ℕ) (p : Place) (len : Option Expr) (args : List Arg) (line : ℕ)
      → what_of lost (What.Fork name p len args) line ≡ what_step lost (F.Fork name p len args) line
  fork_is name p len args line =
      ap (λ w. what_of lost w line) (sym (W.rolls-Fork name p len args))
      ∙ ap (λ (m : ℕ → StmtMeaning). m line) (fold-roll-What (ℕ → StmtMeaning) StmtMeaning (what_step lost) (stmt_step lost) (F.Fork name p len args))

  pub passes_fork : (at : Place) (name : List ℕ) (len : Option Expr) (args : List Arg) (L : List Local) (call : CallTree)
      → fork_named lost (target_of site.tasks name) len args (seen_at L at.line) ≡ fork (Whole call) → Q (Whole call)
      → Passes L 1 1 call.length (stmt_of lost (trees.fork at name len args))
  unfolding ◌>>=◌ give fork
  passes_fork at name len args L call e q =
      passes_stmt (trees.fork at name len args) L 0 1 call.length (as_is L _ _ _ _ _ (fork_is name at len args at.line) (record {
        rest = λ steps left n j T I go is f g h.
            subst (λ (m : Step (Unit {0})). Quiet Q T I (m (λ _. go (record { locals = L; steps = steps })))) (sym e)
            (n, j, f, g, q, same L steps left n j n j go (omega (arith, is)) refl refl h);
      }))

  -- ---- reads and writes

  pub calm_is : {A : Type 0} (m : Step A) (x : A) → m ≡ give x → Calm Q (λ y. y ≡ x) m
  calm_is m x e = subst (λ m. Calm Q (λ y. y ≡ x) m) (sym e) (calm_give Q (λ y. y ≡ x) x refl)

  pub elem_calm : (name : List ℕ) (p : Place) (index : Expr) (o k : ℕ) (v : View) → object_at lost v name ≡ give o → value_of lost index v ≡ give k
      → nat_lt k (v.site.widths o) ≡ true → Calm Q (λ _. Unit {0}) (value_of lost (Elem name p index) v)
  elem_calm name p index o k v eo ek lt =
      subst (λ (m : ExprMeaning). Calm Q (λ _. Unit {0}) (m v)) (sym (elem_meaning lost name p index))
      (calm_then Q (λ y. y ≡ o) (λ _. Unit {0}) _ _ (calm_is _ o eo) (λ o' fo.
      calm_then Q (λ y. y ≡ k) (λ _. Unit {0}) _ _ (calm_is _ k ek) (λ k' fk.
      calm_then Q (λ _. Unit {0}) (λ _. Unit {0}) _ _ (calm_test Q (nat_lt k' (v.site.widths o')) F2 v.line (rw (fo, fk) lt)) (λ _ _. calm_load Q o' k'))))

  passes_calm : (L : List Local) (m : StmtMeaning)
      → ((steps : ℕ) → Calm Q (λ s. s ≡ record { locals = L; steps = steps }) (m site (record { locals = L; steps = steps }))) → Passes L 0 0 0 m
  passes_calm L m c = record {
    rest = λ steps left n j T I go e f g h.
        quiet_as Q n j T I _ (omega (arith, f)) (omega (arith, g)) ((c steps).rest n j go (λ s is.
        subst (λ (s : State). Quiet Q n j (go s)) (sym is) (same L steps left n j n j go (omega (arith, e)) refl refl h)));
  }

  change_calm : (s : State) (name : List ℕ) (index e : Expr) (deed : ℕ → Deed) (o k : ℕ) (v : View) → object_at lost v name ≡ give o
      → value_of lost index v ≡ give k → Calm Q (λ _. Unit {0}) (value_of lost e v) → nat_lt k (v.site.widths o) ≡ true
      → Calm Q (λ s'. s' ≡ s) (object_at lost v name >>= (λ o. value_of lost index v >>= (λ i. value_of lost e v >>= (λ n. element_within v o i >>= (λ _.
      perform o i (deed n) >>= (λ _. give s))))))
  change_calm s name index e deed o k v eo ek calm lt =
      calm_then Q (λ y. y ≡ o) (λ s'. s' ≡ s) _ _ (calm_is _ o eo) (λ o' fo.
      calm_then Q (λ y. y ≡ k) (λ s'. s' ≡ s) _ _ (calm_is _ k ek) (λ k' fk.
      calm_then Q (λ _. Unit {0}) (λ s'. s' ≡ s) _ _ calm (λ n _.
      calm_then Q (λ _. Unit {0}) (λ s'. s' ≡ s) _ _ (calm_test Q (nat_lt k' (v.site.widths o')) F2 v.line (rw (fo, fk) lt)) (λ _ _.
      calm_then Q (λ _. Unit {0}) (λ s'. s' ≡ s) _ _ (calm_perform Q o' k' (deed n)) (λ _ _. calm_give Q (λ s'. s' ≡ s) s refl)))))

  store_is : (name : List ℕ) (p : Place) (index e : Expr) (line : ℕ)
      → what_of lost (What.Store name p index e) line ≡ what_step lost (F.Store name p index e) line
  store_is name p index e line =
      ap (λ w. what_of lost w line) (sym (W.rolls-Store name p index e))
      ∙ ap (λ (m : ℕ → StmtMeaning). m line) (fold-roll-What (ℕ → StmtMeaning) StmtMeaning (what_step lost) (stmt_step lost) (F.Store name p index e))

  fold_is : (name : List ℕ) (p : Place) (index : Expr) (op : Op) (e : Expr) (line : ℕ)
      → what_of lost (What.Fold name p index op e) line ≡ what_step lost (F.Fold name p index op e) line
  fold_is name p index op e line =
      ap (λ w. what_of lost w line) (sym (W.rolls-Fold name p index op e))
      ∙ ap (λ (m : ℕ → StmtMeaning). m line) (fold-roll-What (ℕ → StmtMeaning) StmtMeaning (what_step lost) (stmt_step lost) (F.Fold name p index op e))

  pub passes_store : (at : Place) (name : List ℕ) (index e : Expr) (L : List Local) (o k : ℕ) → object_at lost (seen_at L at.line) name ≡ give o
      → value_of lost index (seen_at L at.line) ≡ give k → Calm Q (λ _. Unit {0}) (value_of lost e (seen_at L at.line))
      → nat_lt k (site.widths o) ≡ true → Passes L 1 0 0 (stmt_of lost (record { place = at; what = What.Store name at index e }))
  passes_store at name index e L o k eo ek calm lt =
      passes_stmt (record { place = at; what = What.Store name at index e }) L 0 0 0 (as_is L _ _ _ _ _ (store_is name at index e at.line)
      (passes_calm L _ (λ steps. change_calm (record { locals = L; steps = steps }) name index e Store o k (seen_at L at.line) eo ek calm lt)))

  pub passes_fold : (at : Place) (name : List ℕ) (index : Expr) (op : Op) (e : Expr) (L : List Local) (o k : ℕ)
      → object_at lost (seen_at L at.line) name ≡ give o → value_of lost index (seen_at L at.line) ≡ give k
      → Calm Q (λ _. Unit {0}) (value_of lost e (seen_at L at.line)) → nat_lt k (site.widths o) ≡ true
      → Passes L 1 0 0 (stmt_of lost (record { place = at; what = What.Fold name at index op e }))
  passes_fold at name index op e L o k eo ek calm lt =
      passes_stmt (record { place = at; what = What.Fold name at index op e }) L 0 0 0 (as_is L _ _ _ _ _ (fold_is name at index op e at.line)
      (passes_calm L _ (λ steps. change_calm (record { locals = L; steps = steps }) name index e (λ n. Fold op n) o k (seen_at L at.line) eo ek calm lt)))

  -- statements that fork nothing, as a body
  pub statements_calm : (L : List Local) (body : List Stmt) (c t i : ℕ) → Passes L c t i (block (map (stmt_of lost) body)) → c ≤ STEPS → t ≡ 0 → i ≡ 0
      → Calm Q (λ _. Unit {0}) (statements lost site L body)
  unfolding ◌>>=◌ give
  statements_calm L body c t i p few none never = record {
    rest = λ n j go k. p.rest STEPS (STEPS - c) n j n j (λ s. go tt) (omega (arith, few)) (omega (arith, none)) (omega (arith, never)) (k tt tt);
  }
