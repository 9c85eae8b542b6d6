-- The printed text of statements is read as they, but for places.
use Rattle.kt_canon.proofs.Regrouped.{one_text, three_of, three_parts}
use Rattle.std.proofs.Common.{◌≡◌, ℕ, ◌+◌, List, [], ◌∷◌, ◌++◌, codes, map, Option, Some, None, refl, ap, sym, subst, ◌∙◌, append_assoc, Bool, true, false, arith, suc, ◌≤◌, max}
use Rattle.kt_law.specs.declared.operators.Op.{Op}
use Rattle.kt_law.specs.declared.places.Place.{Place}
use Rattle.kt_prog.specs.declared.programs.Arg.{Arg}
use Rattle.kt_prog.specs.declared.programs.ArgWhat.TheVariants.{Value, Span}
use Rattle.kt_prog.specs.declared.programs.Expr.{Expr}
use Rattle.kt_prog.specs.declared.programs.Stmt.{Stmt, fold_out-Stmt}
use Rattle.kt_prog.specs.declared.programs.What.{What, Let, Set, Store, Fold, If, For, Fork, fold-roll-What}
use Rattle.kt_prog.specs.declared.programs.What.TheVariants as W
use Rattle.kt_prog.specs.declared.programs.What.TheOpen as F
use Rattle.kt_print.proofs.Forms.{fold_text, for_text, fork_text, if_text, let_text, set_text, stmt_text, store_text}
use Rattle.kt_print.specs.CanonicalExpressions.{expr_text}
use Rattle.kt_print.specs.CanonicalStatements.{argument_text, arguments_text, block_text, forked_text, text_of_stmt, text_of_what}
use Rattle.kt_print.specs.CanonicalWords.{blanks, line, op_word as op_text}
use Rattle.kt_tokens.specs.declared.tokens.Mark.TheVariants as T
use Rattle.kt_tokens.specs.declared.tokens.Tok.{Tok}
use Rattle.kt_tokens.specs.Tokens.{◌·◌, named}
use Rattle.kt_tokens.specs.Words.{punctuation}
use Rattle.kt_canon.specs.Placeless.{nowhere, placeless_arg, placeless_expr, placeless_length, placeless_stmt, placeless_what, stmt_layer, what_layer}
use Rattle.kt_read.specs.Statements.{op_word, ReadsArg, value, span, ReadsArgs, one_arg, more_args, no_args, some_args, ReadsForked, without_length, with_length, block, ReadsStmts, no_stmt, one_stmt, ReadsElse, no_else, else_block, ReadsStmt, let_stmt, set_stmt, store_stmt, fold_stmt, if_stmt, for_stmt, fork_stmt}
use Rattle.kt_canon.proofs.Scanned.{Scans, blank, where_at}
use Rattle.kt_canon.proofs.FineTokens.{AreFine, IsFreeWord}
use Rattle.kt_canon.proofs.Scanning.{a_name, brace_close, brace_open, comma, dots, else_word, for_word, fork_word, if_word, in_word, indented, let_word, op_free, op_is, paren_close, paren_open, semicolon, sign_and_blank, square_close, square_open}
use Rattle.kt_print.specs.declared.printing.operators.Level.TheVariants.{Comparison}
use Rattle.kt_read.specs.Expressions.{ReadsExpr}
use Rattle.kt_read.proofs.Spans.{apart, within}
use Rattle.kt_canon.proofs.Fits.{Calm, Fits, Goes, MayOpen, goes, leaves, closed_one, dots_one, inner_plain, left, may_open, opened_one, span_slots}
use Rattle.kt_canon.proofs.PrintedExpressions.{ExprFine, mapped, plain_name, IsPrinted, Prints, PrintsLines, as_expr, at_text, expr_fine}

pub becomes : {bytes text rest : List ℕ} {t : Tok} {ts : List Tok} → Scans bytes text (t ∷ ts) rest →
    Scans bytes (codes "= " ++ text) (T.Becomes · where_at bytes (codes "= " ++ text) ∷ t ∷ ts) rest
unfolding punctuation
becomes s = sign_and_blank (codes "=") T.Becomes refl refl refl s

module _ (B E : ℕ) where
  -- ---- arguments

  -- an outermost expression, where n brackets are open, that belongs to a fork or not
  pub record OuterPrinted (f : Bool) (n : ℕ) (e : Expr) : Type 0 where
    prints : Prints (λ y ts us. ReadsExpr y ts us × Goes B E f n ts us) placeless_expr e (expr_text e)

  pub outer_printed : (f : Bool) (n : ℕ) (e : Expr) (p : IsPrinted B E e) → p.size ≤ E → n + p.depth ≤ B → OuterPrinted f n e
  outer_printed f n e p few deep = record {
    prints = λ bytes after rest u us ends s. mapped (λ y ts r. (r.0, goes B E f n r.1 few deep)) (as_expr B E e p bytes after rest u us ends s);
  }

  as_outer : (f : Bool) (n : ℕ) (e : Expr) (us : List Tok) → ExprFine B E Comparison e f n 0 n us → OuterPrinted f n e
  as_outer f n e us x = outer_printed f n e x.printed_so (omega (arith, x.least, x.few)) (omega (arith, x.deep))

  pub record ArgPrinted (n : ℕ) (a : Arg) : Type 0 where
    prints : Prints (λ y ts us. ReadsArg y ts us × Goes B E true n ts us) placeless_arg a (argument_text a.what)

  pub record ArgsPrinted (n : ℕ) (args : List Arg) : Type 0 where
    prints : Prints (λ y ts us. ReadsArgs y ts us × Goes B E true n ts us) (map placeless_arg) args (arguments_text [] args)

  pub value_prints : (n : ℕ) (e : Expr) (p : Place) → OuterPrinted true n e → ArgPrinted n (record { place = p; what = Value e })
  value_prints n e p pe = record {
    prints = λ bytes after rest u us ends s.
        let b = pe.prints bytes after rest u us ends s in
        record {
          first = b.first;
          more = b.more;
          thing = record { place = b.first.place; what = Value b.thing };
          scans = b.scans;
          reads = (value b.reads.0, b.reads.1);
          same = λ i. record { place = nowhere; what = Value (b.same i) };
        };
  }

  six : (a b c d e f z : List ℕ) → a ++ (b ++ (c ++ (d ++ (e ++ (f ++ z))))) ≡ (a ++ (b ++ ((c ++ (d ++ e)) ++ f))) ++ z
  six a b c d e f z = simp append_assoc refl

  span_prints : (m : ℕ) (n : List ℕ) (p q : Place) (a b : Expr) → IsFreeWord n → (pa : IsPrinted B E a) (pb : IsPrinted B E b) → (pa.size + pb.size) + 4 ≤ E →
      suc m + max pa.depth pb.depth ≤ B → ArgPrinted m (record { place = p; what = Span n q a b })
  span_prints m n p q a b w pa pb few deep = record {
    prints = λ bytes after rest u us ends s.
        let y = as_expr B E b pb bytes (codes "]" ++ after) rest _ (u ∷ us) refl (square_close s) in
        let x = as_expr B E a pa bytes (codes ".." ++ (expr_text b ++ (codes "]" ++ after))) rest _ (y.first ∷ y.more) refl (dots y.scans) in
        at_text (six n (codes "[") (expr_text a) (codes "..") (expr_text b) (codes "]") after)
        (record {
          first = _;
          more = _ ∷ x.first ∷ x.more;
          thing = record { place = _; what = Span n _ x.thing y.thing };
          scans = a_name n w refl (square_open x.scans);
          reads = (
            span x.reads.0 y.reads.0,
            goes B E true m (span_slots B E x.reads.1 y.reads.1) few (omega (arith, deep)),
          );
          same = λ i. record { place = nowhere; what = Span n nowhere (x.same i) (y.same i) };
        });
  }

  -- what stands behind a part within the brackets of a fork
  record ArgsBehind (n : ℕ) (us : List Tok) : Type 0 where
    fine : AreFine us
    count : ℕ
    fits : Fits B E (within true n count n) us

  arg_fine : (m : ℕ) → m ≤ B → {a : Arg} {ts us : List Tok} → ReadsArg a ts us → AreFine ts → Fits B E (within true m 0 m) ts → ArgsBehind m us × ArgPrinted m a
  arg_fine m bounded (value {t} {e} {us} r) f fits =
      let x = expr_fine B E true m 0 m (omega arith) bounded r f fits in
      (record { fine = x.fine; count = 0 + x.count; fits = x.fits }, value_prints m e t.place (as_outer true m e us x))
  arg_fine m bounded (span {n} {p} {q} {r = between} {s = end} {a} {b} {ts} {us} {vs} r s) f fits =
      let one = inner_plain B E true m 0 m (named n p) (T.SquareOpen · q ∷ ts) plain_name fits in
      let two = opened_one B E true m (0 + 1) m (T.SquareOpen · q) ts refl (λ k. refl) refl one.1 in
      let x = expr_fine B E true m (0 + 1 + 1) (suc m) (omega arith) two.0 r f.1.1 two.2 in
      let middle = dots_one B E true m (0 + 1 + 1 + x.count) m between us (omega arith) x.fits in
      let y = expr_fine B E true m (0 + 1 + 1 + x.count + 1) (suc m) (omega arith) two.0 s x.fine.1 middle.1 in
      let last = closed_one B E true m (0 + 1 + 1 + x.count + 1 + y.count) m (T.SquareClose · end) vs (omega arith) refl (λ k. refl) y.fits in (
        record { fine = y.fine.1; count = 0 + 1 + 1 + x.count + 1 + y.count + 1; fits = last.1 },
        span_prints m n p p a b f.0 x.printed_so y.printed_so (omega (arith, last.0, x.least, y.least)) (omega (arith, x.deep, y.deep)),
      )

  pub led : {args : List Arg} {ts us : List Tok} (lead : List ℕ) → ReadsArgs args ts us → arguments_text lead args ≡ lead ++ arguments_text [] args
  led lead (one_arg r) = refl
  led lead (more_args r rs) = refl

  pub one_printed : (n : ℕ) (a : Arg) → ArgPrinted n a → ArgsPrinted n (a ∷ [])
  one_printed n a p = record {
    prints = λ bytes after rest u us ends s.
        let b = p.prints bytes after rest u us ends s in
        at_text (one_text (argument_text a.what) after)
        (record { first = b.first; more = b.more; thing = b.thing ∷ []; scans = b.scans; reads = (one_arg b.reads.0, b.reads.1); same = ap (λ (x : Arg). x ∷ []) b.same });
  }

  pub more_printed : (n : ℕ) (a : Arg) (args : List Arg) → arguments_text (codes ", ") args ≡ codes ", " ++ arguments_text [] args → ArgPrinted n a → ArgsPrinted n args → ArgsPrinted n (a ∷ args)
  more_printed n a args lead p ps = record {
    prints = λ bytes after rest u us ends s.
        let y = ps.prints bytes after rest u us ends s in
        let x = p.prints bytes (codes ", " ++ (arguments_text [] args ++ after)) rest _ (y.first ∷ y.more) refl (comma (blank refl refl y.scans)) in
        at_text (three_of (argument_text a.what) (codes ", ") (arguments_text [] args) (arguments_text (codes ", ") args) after lead)
        (record { first = x.first; more = x.more; thing = x.thing ∷ y.thing; scans = x.scans; reads = (more_args x.reads.0 y.reads.0, record { steps = λ h. x.reads.1.steps (λ k. leaves B E refl refl (y.reads.1.steps h)) }); same = λ i. x.same i ∷ y.same i });
  }

  args_fine : (m : ℕ) → m ≤ B → {args : List Arg} {ts us : List Tok} → ReadsArgs args ts us → AreFine ts → Fits B E (within true m 0 m) ts → ArgsBehind m us × ArgsPrinted m args
  args_fine m bounded (one_arg {a} r) f fits = let x = arg_fine m bounded r f fits in (x.0, one_printed m a x.1)
  args_fine m bounded (more_args {a} {args} {p} {us} r rs) f fits =
      let x = arg_fine m bounded r f fits in
      let y = args_fine m bounded rs x.0.fine.1 (left B E true x.0.count m (T.Comma · p) us refl x.0.fits).1 in
      (y.0, more_printed m a args (led (codes ", ") rs) x.1 y.1)

  -- ---- what stands in the brackets of a fork

  abbrev Forked : Type 0
  Forked = Option Expr × List Arg

  abbrev reads_forked : Forked → List Tok → List Tok → Type 0
  reads_forked x ts us = ReadsForked x.0 x.1 ts us

  abbrev bare_forked : Forked → Forked
  bare_forked x = (placeless_length x.0, map placeless_arg x.1)

  pub record ForkedPrinted (n : ℕ) (count : Option Expr) (args : List Arg) : Type 0 where
    prints : Prints (λ y ts us. reads_forked y ts us × Goes B E true n ts us) bare_forked (count, args) (forked_text count args)

  nothing_printed : (n : ℕ) → ForkedPrinted n None []
  nothing_printed n = record {
    prints = λ bytes after rest u us ends s.
        record { first = u; more = us; thing = (None, []); scans = s; reads = (without_length no_args, record { steps = λ h. (h 0).fits }); same = refl };
  }

  pub plain_printed : (n : ℕ) (args : List Arg) → ArgsPrinted n args → ForkedPrinted n None args
  plain_printed n args p = record {
    prints = λ bytes after rest u us ends s.
        let b = p.prints bytes after rest u us ends s in
        record { first = b.first; more = b.more; thing = (None, b.thing); scans = b.scans; reads = (without_length (some_args b.reads.0), b.reads.1); same = λ i. (None, b.same i) };
  }

  length_alone : (n : ℕ) (e : Expr) → OuterPrinted true n e → ForkedPrinted n (Some e) []
  length_alone n e pe = record {
    prints = λ bytes after rest u us ends s.
        let b = pe.prints bytes (codes ";" ++ after) rest _ (u ∷ us) refl (semicolon s) in
        at_text (sym (append_assoc (expr_text e) (codes ";") after))
        (record { first = b.first; more = b.more; thing = (Some b.thing, []); scans = b.scans; reads = (with_length b.reads.0 no_args, record { steps = λ h. b.reads.1.steps (λ k. leaves B E refl refl (h 0).fits) }); same = λ i. (Some (b.same i), []) });
  }

  pub length_printed : (n : ℕ) (e : Expr) (args : List Arg) → arguments_text (codes " ") args ≡ codes " " ++ arguments_text [] args → OuterPrinted true n e → ArgsPrinted n args → ForkedPrinted n (Some e) args
  length_printed n e args lead pe p = record {
    prints = λ bytes after rest u us ends s.
        let y = p.prints bytes after rest u us ends s in
        let x = pe.prints bytes (codes "; " ++ (arguments_text [] args ++ after)) rest _ (y.first ∷ y.more) refl (semicolon (blank refl refl y.scans)) in
        at_text (three_of (expr_text e) (codes "; ") (arguments_text [] args) (codes ";" ++ arguments_text (codes " ") args) after (ap (λ (l : List ℕ). codes ";" ++ l) lead))
        (record { first = x.first; more = x.more; thing = (Some x.thing, y.thing); scans = x.scans; reads = (with_length x.reads.0 (some_args y.reads.0), record { steps = λ h. x.reads.1.steps (λ k. leaves B E refl refl (y.reads.1.steps h)) }); same = λ i. (Some (x.same i), y.same i) });
  }

  forked_fine : (m : ℕ) → m ≤ B → {count : Option Expr} {args : List Arg} {ts us : List Tok} → ReadsForked count args ts us → AreFine ts → Fits B E (within true m 0 m) ts →
      ArgsBehind m us × ForkedPrinted m count args
  forked_fine m bounded (without_length no_args) f fits = (record { fine = f; count = 0; fits = fits }, nothing_printed m)
  forked_fine m bounded (without_length {args} (some_args r)) f fits = let x = args_fine m bounded r f fits in (x.0, plain_printed m args x.1)
  forked_fine m bounded (with_length {e} {p} {us} r no_args) f fits =
      let x = expr_fine B E true m 0 m (omega arith) bounded r f fits in
      (record { fine = x.fine.1; count = 0; fits = (left B E true (0 + x.count) m (T.Semicolon · p) us refl x.fits).1 }, length_alone m e (as_outer true m e (T.Semicolon · p ∷ us) x))
  forked_fine m bounded (with_length {e} {args} {p} {us} r (some_args rs)) f fits =
      let x = expr_fine B E true m 0 m (omega arith) bounded r f fits in
      let y = args_fine m bounded rs x.fine.1 (left B E true (0 + x.count) m (T.Semicolon · p) us refl x.fits).1 in
      (y.0, length_printed m e args (led (codes " ") rs) (as_outer true m e (T.Semicolon · p ∷ us) x) y.1)

  -- ---- statements

  abbrev reads_stmt : ℕ → Stmt → List Tok → List Tok → Type 0
  reads_stmt m y ts us = ReadsStmt y ts us × Calm B E m ts us

  abbrev pub reads_stmts : ℕ → List Stmt → List Tok → List Tok → Type 0
  reads_stmts m y ts us = ReadsStmts y ts us × Calm B E m ts us

  -- where m brackets are open
  pub record StmtPrinted (m : ℕ) (s : Stmt) : Type 0 where
    prints : (n : ℕ) → PrintsLines (reads_stmt m) placeless_stmt s (text_of_stmt s n)

  pub record BlockPrinted (m : ℕ) (stmts : List Stmt) : Type 0 where
    pub prints : (n : ℕ) → PrintsLines (reads_stmts m) (map placeless_stmt) stmts (block_text (map text_of_stmt stmts) n)

  bare_stmt : (s t : Stmt) → placeless_what s.what ≡ placeless_what t.what → placeless_stmt s ≡ placeless_stmt t
  bare_stmt s t h =
      let is = λ (s : Stmt). fold_out-Stmt What Stmt what_layer stmt_layer s in
      let same : (let x : Stmt = record { place = nowhere; what = placeless_what s.what } in x) ≡ record { place = nowhere; what = placeless_what t.what } =
      λ i. record { place = nowhere; what = h i } in
      is s ∙ same ∙ sym (is t)

  -- one line
  on_line : (m : ℕ) (s : Stmt) (n : ℕ) (text : List ℕ) → Prints (reads_stmt m) placeless_stmt s text → PrintsLines (reads_stmt m) placeless_stmt s (line n text)
  on_line m s n text h bytes after rest u us scans =
      let b = h bytes (codes "\n" ++ after) rest u us refl (blank refl refl scans) in
      at_text (three_parts (blanks n) text (codes "\n") after)
      (record { first = b.first; more = b.more; thing = b.thing; scans = indented n b.scans; reads = b.reads; same = b.same })

  one_line : (m : ℕ) (s : Stmt) (text : List ℕ) → ((n : ℕ) → text_of_what s.what n ≡ line n text) → Prints (reads_stmt m) placeless_stmt s text → StmtPrinted m s
  one_line m s text is h = record {
    prints = λ n. subst (λ (text : List ℕ). PrintsLines (reads_stmt m) placeless_stmt s text) (sym (stmt_text s n ∙ is n)) (on_line m s n text h);
  }

  -- ---- `let`

  bare_let : (name : List ℕ) (p q : Place) (a b : Expr) → placeless_expr a ≡ placeless_expr b → placeless_what (Let name p a) ≡ placeless_what (Let name q b)
  bare_let name p q a b h =
      let is = λ (p : Place) (e : Expr). ap placeless_what (sym (W.rolls-Let name p e)) ∙ fold-roll-What What Stmt what_layer stmt_layer (F.Let name p e) in
      is p a ∙ ap (λ (e : Expr). Let name nowhere e) h ∙ sym (is q b)

  let_parts : (a b c d e z : List ℕ) → a ++ (b ++ (c ++ (d ++ (e ++ z)))) ≡ (a ++ (b ++ (c ++ (d ++ e)))) ++ z
  let_parts a b c d e z = simp append_assoc refl

  let_printed : (m : ℕ) (name : List ℕ) (p q : Place) (e : Expr) → IsFreeWord name → OuterPrinted false m e →
      StmtPrinted m (record { place = p; what = Let name q e })
  let_printed m name p q e w pe = one_line m (record { place = p; what = Let name q e }) (codes "let " ++ (name ++ (codes " = " ++ (expr_text e ++ codes ";")))) (let_text name q e)
      (λ bytes after rest u us ends s.
      let v = pe.prints bytes (codes ";" ++ after) rest _ (u ∷ us) refl (semicolon s) in
      at_text (let_parts (codes "let ") name (codes " = ") (expr_text e) (codes ";") after)
      (record {
        first = _;
        more = _ ∷ _ ∷ v.first ∷ v.more;
        thing = record { place = _; what = Let name _ v.thing };
        scans = let_word refl (blank refl refl (a_name name w refl (blank refl refl (becomes v.scans))));
        reads = (let_stmt v.reads.0, record { steps = λ h. (refl, (refl, (refl, v.reads.1.steps (λ k. leaves B E refl refl h)))) });
        same = bare_stmt _ _ (bare_let name q _ e v.thing v.same);
      }))

  -- ---- an assignment

  bare_set : (name : List ℕ) (p q : Place) (a b : Expr) → placeless_expr a ≡ placeless_expr b → placeless_what (Set name p a) ≡ placeless_what (Set name q b)
  bare_set name p q a b h =
      let is = λ (p : Place) (e : Expr). ap placeless_what (sym (W.rolls-Set name p e)) ∙ fold-roll-What What Stmt what_layer stmt_layer (F.Set name p e) in
      is p a ∙ ap (λ (e : Expr). Set name nowhere e) h ∙ sym (is q b)

  set_parts : (b c d e z : List ℕ) → b ++ (c ++ (d ++ (e ++ z))) ≡ (b ++ (c ++ (d ++ e))) ++ z
  set_parts b c d e z = simp append_assoc refl

  set_printed : (m : ℕ) (name : List ℕ) (p q : Place) (e : Expr) → IsFreeWord name → OuterPrinted false m e →
      StmtPrinted m (record { place = p; what = Set name q e })
  set_printed m name p q e w pe = one_line m (record { place = p; what = Set name q e }) _ (set_text name q e)
      (λ bytes after rest u us ends s.
      let v = pe.prints bytes (codes ";" ++ after) rest _ (u ∷ us) refl (semicolon s) in
      at_text (set_parts name (codes " = ") (expr_text e) (codes ";") after)
      (record {
        first = _;
        more = _ ∷ v.first ∷ v.more;
        thing = record { place = _; what = Set name _ v.thing };
        scans = a_name name w refl (blank refl refl (becomes v.scans));
        reads = (set_stmt v.reads.0, record { steps = λ h. (refl, (refl, v.reads.1.steps (λ k. leaves B E refl refl h))) });
        same = bare_stmt _ _ (bare_set name q _ e v.thing v.same);
      }))

  -- ---- a write

  bare_store : (name : List ℕ) (p q : Place) (i j a b : Expr) → placeless_expr i ≡ placeless_expr j → placeless_expr a ≡ placeless_expr b →
      placeless_what (Store name p i a) ≡ placeless_what (Store name q j b)
  bare_store name p q i j a b g h =
      let is = λ (p : Place) (i e : Expr). ap placeless_what (sym (W.rolls-Store name p i e)) ∙ fold-roll-What What Stmt what_layer stmt_layer (F.Store name p i e) in
      is p i a ∙ (λ k. Store name nowhere (g k) (h k)) ∙ sym (is q j b)

  store_parts : (a b c d e f g z : List ℕ) → a ++ (b ++ (c ++ (d ++ (e ++ (f ++ (g ++ z)))))) ≡ ((a ++ (b ++ (c ++ d))) ++ (e ++ (f ++ g))) ++ z
  store_parts a b c d e f g z = simp append_assoc refl

  pub store_printed : (m : ℕ) (name : List ℕ) (p q : Place) (i e : Expr) → IsFreeWord name → MayOpen B E m → OuterPrinted false (suc m) i → OuterPrinted false m e →
      StmtPrinted m (record { place = p; what = Store name q i e })
  store_printed m name p q i e w o pi pe = one_line m (record { place = p; what = Store name q i e }) _ (store_text name q i e)
      (λ bytes after rest u us ends s.
      let v = pe.prints bytes (codes ";" ++ after) rest _ (u ∷ us) refl (semicolon s) in
      let x = pi.prints bytes (codes "] = " ++ (expr_text e ++ (codes ";" ++ after))) rest _ _ refl (square_close (blank refl refl (becomes v.scans))) in
      at_text (store_parts name (codes "[") (expr_text i) (codes "]") (codes " = ") (expr_text e) (codes ";") after)
      (record {
        first = _;
        more = _ ∷ x.first ∷ x.more;
        thing = record { place = _; what = Store name _ x.thing v.thing };
        scans = a_name name w refl (square_open x.scans);
        reads = (store_stmt x.reads.0 v.reads.0, record { steps = λ h. (refl, (o, x.reads.1.steps (λ k. leaves B E refl refl (refl, v.reads.1.steps (λ k. leaves B E refl refl h))))) });
        same = bare_stmt _ _ (bare_store name q _ i x.thing e v.thing x.same v.same);
      }))

  -- ---- a cumulation

  bare_fold : (name : List ℕ) (p q : Place) (i j : Expr) (op : Op) (a b : Expr) → placeless_expr i ≡ placeless_expr j → placeless_expr a ≡ placeless_expr b →
      placeless_what (Fold name p i op a) ≡ placeless_what (Fold name q j op b)
  bare_fold name p q i j op a b g h =
      let is = λ (p : Place) (i e : Expr). ap placeless_what (sym (W.rolls-Fold name p i op e)) ∙ fold-roll-What What Stmt what_layer stmt_layer (F.Fold name p i op e) in
      is p i a ∙ (λ k. Fold name nowhere (g k) op (h k)) ∙ sym (is q j b)

  fold_parts : (a b c d e f g h k z : List ℕ) → a ++ (b ++ (c ++ (d ++ (e ++ (f ++ (g ++ (h ++ (k ++ z)))))))) ≡ ((a ++ (b ++ (c ++ d))) ++ (e ++ (f ++ (g ++ (h ++ k))))) ++ z
  fold_parts a b c d e f g h k z = simp append_assoc refl

  pub fold_printed : (m : ℕ) (name : List ℕ) (p q : Place) (i : Expr) (op : Op) (e : Expr) → IsFreeWord name → MayOpen B E m → OuterPrinted false (suc m) i →
      OuterPrinted false m e → StmtPrinted m (record { place = p; what = Fold name q i op e })
  fold_printed m name p q i op e w may pi pe = one_line m (record { place = p; what = Fold name q i op e }) _ (fold_text name q i op e)
      (λ bytes after rest u us ends s.
      let v = pe.prints bytes (codes ";" ++ after) rest _ (u ∷ us) refl (semicolon s) in
      let o = a_name (op_text op) (op_free op) refl (becomes v.scans) in
      let x = pi.prints bytes (codes "] " ++ (op_text op ++ (codes "= " ++ (expr_text e ++ (codes ";" ++ after))))) rest _ _ refl (square_close (blank refl refl o)) in
      at_text (fold_parts name (codes "[") (expr_text i) (codes "]") (codes " ") (op_text op) (codes "= ") (expr_text e) (codes ";") after)
      (record {
        first = _;
        more = _ ∷ x.first ∷ x.more;
        thing = record { place = _; what = Fold name _ x.thing op v.thing };
        scans = a_name name w refl (square_open x.scans);
        reads = (fold_stmt x.reads.0 (op_word (op_is op)) v.reads.0, record { steps = λ h. (refl, (may, x.reads.1.steps (λ k. leaves B E refl refl (refl, (refl, v.reads.1.steps (λ k. leaves B E refl refl h)))))) });
        same = bare_stmt _ _ (bare_fold name q _ i x.thing op e v.thing x.same v.same);
      }))

  -- ---- a fork

  bare_fork : (name : List ℕ) (p q : Place) (x y : Forked) → bare_forked x ≡ bare_forked y → placeless_what (Fork name p x.0 x.1) ≡ placeless_what (Fork name q y.0 y.1)
  bare_fork name p q x y h =
      let is = λ (p : Place) (x : Forked). ap placeless_what (sym (W.rolls-Fork name p x.0 x.1)) ∙ fold-roll-What What Stmt what_layer stmt_layer (F.Fork name p x.0 x.1) in
      is p x ∙ ap (λ (x : Forked). Fork name nowhere x.0 x.1) h ∙ sym (is q y)

  pub fork_printed : (m : ℕ) (name : List ℕ) (p q : Place) (count : Option Expr) (args : List Arg) → IsFreeWord name → MayOpen B E m → ForkedPrinted (suc m) count args →
      StmtPrinted m (record { place = p; what = Fork name q count args })
  fork_printed m name p q count args w o pf = one_line m (record { place = p; what = Fork name q count args }) (codes "fork " ++ (name ++ (codes "(" ++ (forked_text count args ++ codes ");")))) (fork_text name q count args)
      (λ bytes after rest u us ends s.
      let x = pf.prints bytes (codes ");" ++ after) rest _ _ refl (paren_close (semicolon s)) in
      at_text (let_parts (codes "fork ") name (codes "(") (forked_text count args) (codes ");") after)
      (record {
        first = _;
        more = _ ∷ _ ∷ x.first ∷ x.more;
        thing = record { place = _; what = Fork name _ x.thing.0 x.thing.1 };
        scans = fork_word refl (blank refl refl (a_name name w refl (paren_open x.scans)));
        reads = (fork_stmt x.reads.0, record { steps = λ h. (refl, (refl, (o, x.reads.1.steps (λ k. leaves B E refl refl (refl, h))))) });
        same = bare_stmt _ _ (bare_fork name q _ (count, args) x.thing x.same);
      }))

  -- ---- blocks

  pub no_stmts : (m : ℕ) → BlockPrinted m []
  no_stmts m = record { prints = λ n bytes after rest u us s. record { first = u; more = us; thing = []; scans = s; reads = (no_stmt, record { steps = λ h. h }); same = refl } }

  pub more_stmts : (m : ℕ) (s : Stmt) (stmts : List Stmt) → StmtPrinted m s → BlockPrinted m stmts → BlockPrinted m (s ∷ stmts)
  more_stmts m s stmts p ps = record {
    prints = λ n bytes after rest u us scans.
        let y = ps.prints n bytes after rest u us scans in
        let x = p.prints (n + 2) bytes (block_text (map text_of_stmt stmts) n ++ after) rest y.first y.more y.scans in
        at_text (sym (append_assoc (text_of_stmt s (n + 2)) (block_text (map text_of_stmt stmts) n) after))
        (record { first = x.first; more = x.more; thing = x.thing ∷ y.thing; scans = x.scans; reads = (one_stmt x.reads.0 y.reads.0, record { steps = λ h. x.reads.1.steps (y.reads.1.steps h) }); same = λ i. x.same i ∷ y.same i });
  }

  -- the line that ends a block
  pub closed : {bytes after rest : List ℕ} {u : Tok} {us : List Tok} (n : ℕ) → Scans bytes after (u ∷ us) rest →
      Scans bytes (blanks n ++ (codes "}\n" ++ after)) (T.BraceClose · where_at bytes (codes "}\n" ++ after) ∷ u ∷ us) rest
  closed n s = indented n (brace_close (blank refl refl s))

  -- ---- `for`

  bare_for : (name : List ℕ) (p q : Place) (a b c d : Expr) (xs ys : List Stmt) → placeless_expr a ≡ placeless_expr c → placeless_expr b ≡ placeless_expr d →
      map placeless_stmt xs ≡ map placeless_stmt ys → placeless_what (For name p a b xs) ≡ placeless_what (For name q c d ys)
  bare_for name p q a b c d xs ys g h k =
      let is = λ (p : Place) (a b : Expr) (body : List Stmt). ap placeless_what (sym (W.rolls-For name p a b body)) ∙ fold-roll-What What Stmt what_layer stmt_layer (F.For name p a b body) in
      is p a b xs ∙ (λ i. For name nowhere (g i) (h i) (k i)) ∙ sym (is q c d ys)

  for_parts : (i a b c d e f g h k l m z : List ℕ) →
      i ++ (a ++ (b ++ (c ++ (d ++ (e ++ (f ++ (g ++ (h ++ (k ++ (l ++ (m ++ z))))))))))) ≡ ((i ++ ((a ++ (b ++ (c ++ ((d ++ (e ++ f)) ++ g)))) ++ h)) ++ (k ++ (l ++ m))) ++ z
  for_parts i a b c d e f g h k l m z = simp append_assoc refl

  -- what stands behind the line of a `for` or an `if`
  abbrev behind_head : List ℕ → ℕ → List ℕ → List ℕ
  behind_head body n after = body ++ (blanks n ++ (codes "}\n" ++ after))

  pub for_printed : (m : ℕ) (name : List ℕ) (p q : Place) (a b : Expr) (body : List Stmt) → IsFreeWord name → MayOpen B E m → OuterPrinted false m a →
      OuterPrinted false m b → BlockPrinted (suc m) body → StmtPrinted m (record { place = p; what = For name q a b body })
  for_printed m name p q a b body w o pa pb pbody = record {
    prints = λ n bytes after rest u us s.
        let inner : List ℕ = block_text (map text_of_stmt body) n in
        let z = pbody.prints n bytes (blanks n ++ (codes "}\n" ++ after)) rest _ (u ∷ us) (closed n s) in
        let y = pb.prints bytes (codes " {\n" ++ behind_head inner n after) rest _ _ refl (blank refl refl (brace_open (blank refl refl z.scans))) in
        let x = pa.prints bytes (codes ".." ++ (expr_text b ++ (codes " {\n" ++ behind_head inner n after))) rest _ _ refl (dots y.scans) in
        at_text (for_parts (blanks n) (codes "for ") name (codes " in ") (expr_text a) (codes "..") (expr_text b) (codes " {") (codes "\n") inner (blanks n) (codes "}\n") after
        ∙ ap (λ (text : List ℕ). text ++ after) (sym (stmt_text (record { place = p; what = For name q a b body }) n ∙ for_text name q a b body n)))
        (record {
          first = _;
          more = _ ∷ _ ∷ x.first ∷ x.more;
          thing = record { place = _; what = For name _ x.thing y.thing z.thing };
          scans = indented n (for_word refl (blank refl refl (a_name name w refl (blank refl refl (in_word refl (blank refl refl x.scans))))));
          reads = (
            for_stmt x.reads.0 y.reads.0 (block z.reads.0),
            record { steps = λ h. (refl, (refl, (refl, x.reads.1.steps (λ k. leaves B E refl refl (y.reads.1.steps (λ j. leaves B E refl o (z.reads.1.steps (refl, h)))))))) },
          );
          same = bare_stmt _ _ (bare_for name q _ a b x.thing y.thing body z.thing x.same y.same z.same);
        });
  }

  -- ---- `if`

  bare_if : (a b : Expr) (us vs xs ys : List Stmt) → placeless_expr a ≡ placeless_expr b → map placeless_stmt us ≡ map placeless_stmt xs →
      map placeless_stmt vs ≡ map placeless_stmt ys → placeless_what (If a us vs) ≡ placeless_what (If b xs ys)
  bare_if a b us vs xs ys g h k =
      let is = λ (e : Expr) (xs ys : List Stmt). ap placeless_what (sym (W.rolls-If e xs ys)) ∙ fold-roll-What What Stmt what_layer stmt_layer (F.If e xs ys) in
      is a us vs ∙ (λ i. If (g i) (h i) (k i)) ∙ sym (is b xs ys)

  short_parts : (i a b c h k l m z : List ℕ) →
      i ++ (a ++ (b ++ (c ++ (h ++ (k ++ (l ++ (m ++ z))))))) ≡ ((i ++ ((a ++ (b ++ c)) ++ h)) ++ (k ++ (l ++ m))) ++ z
  short_parts i a b c h k l m z = simp append_assoc refl

  short_if : (m : ℕ) (e : Expr) (xs : List Stmt) (p : Place) → MayOpen B E m → OuterPrinted false m e → BlockPrinted (suc m) xs → StmtPrinted m (record { place = p; what = If e xs [] })
  short_if m e xs p o pe pxs = record {
    prints = λ n bytes after rest u us s.
        let inner : List ℕ = block_text (map text_of_stmt xs) n in
        let z = pxs.prints n bytes (blanks n ++ (codes "}\n" ++ after)) rest _ (u ∷ us) (closed n s) in
        let y = pe.prints bytes (codes " {\n" ++ behind_head inner n after) rest _ _ refl (blank refl refl (brace_open (blank refl refl z.scans))) in
        at_text (short_parts (blanks n) (codes "if ") (expr_text e) (codes " {") (codes "\n") inner (blanks n) (codes "}\n") after
        ∙ ap (λ (text : List ℕ). text ++ after) (sym (stmt_text (record { place = p; what = If e xs [] }) n ∙ if_text e xs [] n)))
        (record {
          first = _;
          more = y.first ∷ y.more;
          thing = record { place = _; what = If y.thing z.thing [] };
          scans = indented n (if_word refl (blank refl refl y.scans));
          reads = (if_stmt y.reads.0 (block z.reads.0) no_else, record { steps = λ h. (refl, y.reads.1.steps (λ k. leaves B E refl o (z.reads.1.steps (refl, h)))) });
          same = bare_stmt _ _ (bare_if e y.thing xs [] z.thing [] y.same z.same refl);
        });
  }

  long_parts : (i a b c h k j d g f l m z : List ℕ) →
      i ++ (a ++ (b ++ (c ++ (h ++ (k ++ (j ++ (d ++ (g ++ (f ++ (l ++ (m ++ z)))))))))))
      ≡ ((i ++ ((a ++ (b ++ c)) ++ h)) ++ (k ++ (((j ++ (d ++ g)) ++ f) ++ (l ++ m)))) ++ z
  long_parts i a b c h k j d g f l m z = simp append_assoc refl

  long_if : (m : ℕ) (e : Expr) (xs : List Stmt) (t : Stmt) (ys : List Stmt) (p : Place) → MayOpen B E m → OuterPrinted false m e → BlockPrinted (suc m) xs →
      BlockPrinted (suc m) (t ∷ ys) → StmtPrinted m (record { place = p; what = If e xs (t ∷ ys) })
  long_if m e xs t ys p o pe pxs pys = record {
    prints = λ n bytes after rest u us s.
        let inner : List ℕ = block_text (map text_of_stmt xs) n in
        let other : List ℕ = block_text (map text_of_stmt (t ∷ ys)) n in
        let x = pys.prints n bytes (blanks n ++ (codes "}\n" ++ after)) rest _ (u ∷ us) (closed n s) in
        let turned = brace_close (blank refl refl (else_word refl (blank refl refl (brace_open (blank refl refl x.scans))))) in
        let z = pxs.prints n bytes (blanks n ++ (codes "} else {\n" ++ behind_head other n after)) rest _ _ (indented n turned) in
        let y = pe.prints bytes (codes " {\n" ++ (inner ++ (blanks n ++ (codes "} else {\n" ++ behind_head other n after)))) rest _ _ refl (blank refl refl (brace_open (blank refl refl z.scans))) in
        at_text (long_parts (blanks n) (codes "if ") (expr_text e) (codes " {") (codes "\n") inner (blanks n) (codes "} else {") (codes "\n") other (blanks n) (codes "}\n") after
        ∙ ap (λ (text : List ℕ). text ++ after) (sym (stmt_text (record { place = p; what = If e xs (t ∷ ys) }) n ∙ if_text e xs (t ∷ ys) n)))
        (record {
          first = _;
          more = y.first ∷ y.more;
          thing = record { place = _; what = If y.thing z.thing x.thing };
          scans = indented n (if_word refl (blank refl refl y.scans));
          reads = (
            if_stmt y.reads.0 (block z.reads.0) (else_block (block x.reads.0)),
            record { steps = λ h. (refl, y.reads.1.steps (λ k. leaves B E refl o (z.reads.1.steps (refl, (refl, (o, x.reads.1.steps (refl, h))))))) },
          );
          same = bare_stmt _ _ (bare_if e y.thing xs (t ∷ ys) z.thing x.thing y.same z.same x.same);
        });
  }

  if_printed : (m : ℕ) (e : Expr) (xs ys : List Stmt) (p : Place) → MayOpen B E m → OuterPrinted false m e → BlockPrinted (suc m) xs → BlockPrinted (suc m) ys →
      StmtPrinted m (record { place = p; what = If e xs ys })
  if_printed m e xs [] p o pe pxs pys = short_if m e xs p o pe pxs
  if_printed m e xs (t ∷ ys) p o pe pxs pys = long_if m e xs t ys p o pe pxs pys

  -- ---- each statement that was read

  -- what stands behind statements, where m brackets are open
  pub record Behind (m : ℕ) (us : List Tok) : Type 0 where
    pub fine : AreFine us
    pub fits : Fits B E (apart m) us

  mutual
    -- behind the bracket of a block
    pub stmts_fine : (m : ℕ) → m ≤ B → {stmts : List Stmt} {ts us : List Tok} → ReadsStmts stmts ts us → AreFine ts → Fits B E (apart m) ts → Behind m us × BlockPrinted m stmts
    stmts_fine m bounded no_stmt f fits = (record { fine = f; fits = fits }, no_stmts m)
    stmts_fine m bounded (one_stmt {s} {stmts} r rs) f fits =
        let x = stmt_fine m bounded r f fits in let y = stmts_fine m bounded rs x.0.fine x.0.fits in (y.0, more_stmts m s stmts x.1 y.1)

    else_fine : (m : ℕ) → suc m ≤ B → {stmts : List Stmt} {ts us : List Tok} → ReadsElse stmts ts us → AreFine ts → Fits B E (apart m) ts → Behind m us × BlockPrinted (suc m) stmts
    else_fine m bounded no_else f fits = (record { fine = f; fits = fits }, no_stmts (suc m))
    else_fine m bounded (else_block (block r)) f fits =
        let x = stmts_fine (suc m) bounded r f.1.1 fits.1.1 in (record { fine = x.0.fine.1; fits = x.0.fits.1 }, x.1)

    stmt_fine : (m : ℕ) → m ≤ B → {s : Stmt} {ts us : List Tok} → ReadsStmt s ts us → AreFine ts → Fits B E (apart m) ts → Behind m us × StmtPrinted m s
    stmt_fine m bounded (let_stmt {n} {p} {q} {s = end} {e} {us} r) f fits =
        let x = expr_fine B E false m 0 m (omega arith) bounded r f.1.1.1 fits.1.1.1 in
        let last = left B E false (0 + x.count) m (T.Semicolon · end) us refl x.fits in
        (record { fine = x.fine.1; fits = last.1 }, let_printed m n p q e f.1.0 (as_outer false m e _ x))
    stmt_fine m bounded (set_stmt {n} {p} {r = end} {e} {us} r) f fits =
        let x = expr_fine B E false m 0 m (omega arith) bounded r f.1.1 fits.1.1 in
        let last = left B E false (0 + x.count) m (T.Semicolon · end) us refl x.fits in
        (record { fine = x.fine.1; fits = last.1 }, set_printed m n p p e f.0 (as_outer false m e _ x))
    stmt_fine m bounded (store_stmt {n} {p} {r = close} {s = sign} {t = end} {i} {e} {us} {vs} r s) f fits =
        let x = expr_fine B E false (suc m) 0 (suc m) (omega arith) (may_open B E m fits.1.0) r f.1.1 fits.1.1 in
        let next = left B E false (0 + x.count) (suc m) (T.SquareClose · close) (T.Becomes · sign ∷ us) refl x.fits in
        let y = expr_fine B E false m 0 m (omega arith) bounded s x.fine.1.1 next.1.1 in
        let last = left B E false (0 + y.count) m (T.Semicolon · end) vs refl y.fits in
        (record { fine = y.fine.1; fits = last.1 }, store_printed m n p p i e f.0 fits.1.0 (as_outer false (suc m) i _ x) (as_outer false m e _ y))
    stmt_fine m bounded (fold_stmt {n} {p} {r = close} {s = sign} {t = end} {op} {i} {e} {vs} {ws} r (op_word {n = word} {p = at} h) s) f fits =
        let x = expr_fine B E false (suc m) 0 (suc m) (omega arith) (may_open B E m fits.1.0) r f.1.1 fits.1.1 in
        let next = left B E false (0 + x.count) (suc m) (T.SquareClose · close) (named word at ∷ T.Becomes · sign ∷ vs) refl x.fits in
        let y = expr_fine B E false m 0 m (omega arith) bounded s x.fine.1.1.1 next.1.1.1 in
        let last = left B E false (0 + y.count) m (T.Semicolon · end) ws refl y.fits in
        (record { fine = y.fine.1; fits = last.1 }, fold_printed m n p p i op e f.0 fits.1.0 (as_outer false (suc m) i _ x) (as_outer false m e _ y))
    stmt_fine m bounded (if_stmt {p} {e} {thens} {elses} r (block {p = first} {ts = inner} a) b) f fits =
        let x = expr_fine B E false m 0 m (omega arith) bounded r f.1 fits.1 in
        let next = left B E false (0 + x.count) m (T.BraceOpen · first) inner refl x.fits in
        let deeper = may_open B E m next.0 in
        let y = stmts_fine (suc m) deeper a x.fine.1 next.1 in
        let z = else_fine m deeper b y.0.fine.1 y.0.fits.1 in
        (z.0, if_printed m e thens elses p next.0 (as_outer false m e _ x) y.1 z.1)
    stmt_fine m bounded (for_stmt {n} {p} {q} {s = between} {a} {b} {stmts} {us} r s (block {p = first} {ts = inner} d)) f fits =
        let x = expr_fine B E false m 0 m (omega arith) bounded r f.1.1.1 fits.1.1.1 in
        let next = left B E false (0 + x.count) m (T.Dots · between) us refl x.fits in
        let y = expr_fine B E false m 0 m (omega arith) bounded s x.fine.1 next.1 in
        let last = left B E false (0 + y.count) m (T.BraceOpen · first) inner refl y.fits in
        let z = stmts_fine (suc m) (may_open B E m last.0) d y.fine.1 last.1 in
        (record { fine = z.0.fine.1; fits = z.0.fits.1 }, for_printed m n p q a b stmts f.1.0 last.0 (as_outer false m a _ x) (as_outer false m b _ y) z.1)
    stmt_fine m bounded (fork_stmt {n} {p} {q} {s = close} {t = end} {count} {args} {us} r) f fits =
        let x = forked_fine (suc m) (may_open B E m fits.1.1.0) r f.1.1.1 fits.1.1.1 in
        let last = left B E true x.0.count (suc m) (T.ParenClose · close) (T.Semicolon · end ∷ us) refl x.0.fits in
        (record { fine = x.0.fine.1.1; fits = last.1.1 }, fork_printed m n p q count args f.1.0 fits.1.1.0 x.1)
