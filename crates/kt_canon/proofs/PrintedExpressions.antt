-- The printed text of an expression is read as it, but for places.
use Rattle.kt_canon.proofs.Regrouped.{three_parts, four_parts}
use Rattle.std.proofs.Common.{◌≡◌, ℕ, suc, ◌+◌, ◌≤◌, max, cond, if◌then◌else◌, ◌<◌, ◌^◌, List, ◌∷◌, ◌++◌, length, codes, refl, ap, sym, subst, ◌∙◌, append_assoc, Some, Ok, Bool, true, false, [], arith, Option}
use Rattle.std.specs.Fmt.{decimal}
use Rattle.kt_law.specs.declared.operators.BinOp.{BinOp}
use Rattle.kt_law.specs.declared.operators.BinOp.TheVariants as O
use Rattle.kt_law.specs.declared.places.Place.{Place}
use Rattle.kt_print.proofs.Forms.{printed_bin, printed_elem, printed_num, printed_var}
use Rattle.kt_prog.specs.declared.programs.Expr.{Expr, Num, Var, Elem, Bin, fold-roll-Expr}
use Rattle.kt_prog.specs.declared.programs.Expr.TheVariants.{rolls-Var, rolls-Elem, rolls-Bin}
use Rattle.kt_prog.specs.declared.programs.Expr.TheOpen as E
use Rattle.kt_text.specs.declared.tokens.TokenKind.TheVariants as K
use Rattle.kt_text.specs.Gaps.{BeginsNoGap}
use Rattle.kt_text.specs.Lexemes.{lexeme_of}
use Rattle.kt_print.specs.declared.printing.operators.Level.{Level}
use Rattle.kt_print.specs.declared.printing.operators.Level.TheVariants.{Comparison, Sum, Product, Atom}
use Rattle.kt_print.specs.CanonicalExpressions.{Printed, applied_text, expr_text, left_grouped, level_of, operand_text, printed, right_grouped, sign_of}
use Rattle.kt_tokens.specs.declared.tokens.Mark.{Mark}
use Rattle.kt_tokens.specs.declared.tokens.Mark.TheVariants as T
use Rattle.kt_tokens.specs.declared.tokens.Symbol.{Symbol}
use Rattle.kt_tokens.specs.declared.tokens.Symbol.TheVariants as S
use Rattle.kt_tokens.specs.declared.tokens.Tok.{Tok}
use Rattle.kt_tokens.specs.Tokens.{◌·◌, named, numbered}
use Rattle.kt_tokens.specs.Words.{operators, punctuation, reserved, symbol_of}
use Rattle.kt_read.specs.Expressions.{ReadsExpr, alone, compared, ReadsSum, sum_of, ReadsTerms, no_term, one_term, ReadsProduct, product_of, ReadsFactors, no_factor, one_factor, ReadsAtom, number, name, element, function, group}
use Rattle.kt_read.specs.Operators.{additive_of, comparison_of, entry_of, function_of, multiplicative_of}
use Rattle.kt_canon.specs.Placeless.{expr_layer, nowhere, placeless_expr}
use Rattle.kt_canon.proofs.Scanned.{Scans, blank}
use Rattle.std.specs.Str.{bytes_eq}
use Rattle.kt_read.proofs.Spans.{within}
use Rattle.kt_canon.proofs.Fits.{Fits, IsPlain, Slots, at_count, call_slots, closed_one, comma_one, element_slots, inner_plain, join_slots, one_slot, opened_one, paren_slots, plain_additive, plain_comparison, plain_multiplicative}
use Rattle.kt_canon.proofs.Spelled.{NoWord}
use Rattle.kt_canon.proofs.FineTokens.{AreFine, IsFreeWord}
use Rattle.kt_canon.proofs.Scanning.{a_name, a_number, comma, free_word, paren_close, paren_open, sign_and_blank, square_close, square_open}

-- ---- in general

-- the text before `after` is tokens before `us` that are read as the same thing but for places
pub record Back {A : Type 0} (Reads : A → List Tok → List Tok → Type 0) (bare : A → A) (x : A) (bytes text rest : List ℕ) (us : List Tok) : Type 0 where
  pub first : Tok
  pub more : List Tok
  pub thing : A
  pub scans : Scans bytes text (first ∷ more) rest
  pub reads : Reads thing (first ∷ more) us
  pub same : bare x ≡ bare thing

-- whatever follows, if it goes on with no word
abbrev pub Prints : {A : Type 0} → (A → List Tok → List Tok → Type 0) → (A → A) → A → List ℕ → Type 0
Prints Reads bare x text =
    (bytes after rest : List ℕ) (u : Tok) (us : List Tok) → NoWord after → Scans bytes after (u ∷ us) rest → Back Reads bare x bytes (text ++ after) rest (u ∷ us)

-- whatever follows
abbrev pub PrintsLines : {A : Type 0} → (A → List Tok → List Tok → Type 0) → (A → A) → A → List ℕ → Type 0
PrintsLines Reads bare x text =
    (bytes after rest : List ℕ) (u : Tok) (us : List Tok) → Scans bytes after (u ∷ us) rest → Back Reads bare x bytes (text ++ after) rest (u ∷ us)

pub mapped : {A : Type 0} {R S : A → List Tok → List Tok → Type 0} {bare : A → A} {x : A} {bytes text rest : List ℕ} {us : List Tok} →
    ((y : A) (ts : List Tok) → R y ts us → S y ts us) → Back R bare x bytes text rest us → Back S bare x bytes text rest us
mapped f b = record { first = b.first; more = b.more; thing = b.thing; scans = b.scans; reads = f b.thing (b.first ∷ b.more) b.reads; same = b.same }

pub at_text : {A : Type 0} {R : A → List Tok → List Tok → Type 0} {bare : A → A} {x : A} {bytes one other rest : List ℕ} {us : List Tok} →
    one ≡ other → Back R bare x bytes one rest us → Back R bare x bytes other rest us
at_text {R} {bare} {x} {bytes} {rest} {us} e b = subst (λ (text : List ℕ). Back R bare x bytes text rest us) e b

-- ---- what equations say of expressions

bare_var : (n : List ℕ) (p q : Place) → placeless_expr (Var n p) ≡ placeless_expr (Var n q)
bare_var n p q =
    let is = λ (p : Place). ap placeless_expr (sym (rolls-Var n p)) ∙ fold-roll-Expr Expr expr_layer (E.Var n p) in is p ∙ sym (is q)

bare_elem : (n : List ℕ) (p q : Place) (a b : Expr) → placeless_expr a ≡ placeless_expr b → placeless_expr (Elem n p a) ≡ placeless_expr (Elem n q b)
bare_elem n p q a b h =
    let is = λ (p : Place) (a : Expr). ap placeless_expr (sym (rolls-Elem n p a)) ∙ fold-roll-Expr Expr expr_layer (E.Elem n p a) in
    is p a ∙ ap (λ (e : Expr). Elem n nowhere e) h ∙ sym (is q b)

bare_bin : (op : BinOp) (a b c d : Expr) → placeless_expr a ≡ placeless_expr c → placeless_expr b ≡ placeless_expr d → placeless_expr (Bin op a b) ≡ placeless_expr (Bin op c d)
bare_bin op a b c d h k =
    let is = λ (a b : Expr). ap placeless_expr (sym (rolls-Bin op a b)) ∙ fold-roll-Expr Expr expr_layer (E.Bin op a b) in
    is a b ∙ (λ i. Bin op (h i) (k i)) ∙ sym (is c d)

-- ---- levels

abbrev reads_at : Level → Expr → List Tok → List Tok → Type 0
reads_at Comparison = ReadsExpr
reads_at Sum = ReadsSum
reads_at Product = ReadsProduct
reads_at Atom = ReadsAtom

product_from_atom : (e : Expr) (ts us : List Tok) → ReadsAtom e ts us → ReadsProduct e ts us
product_from_atom e ts us r = product_of r no_factor

sum_from_product : (e : Expr) (ts us : List Tok) → ReadsProduct e ts us → ReadsSum e ts us
sum_from_product e ts us r = sum_of r no_term

sum_from_atom : (e : Expr) (ts us : List Tok) → ReadsAtom e ts us → ReadsSum e ts us
sum_from_atom e ts us r = sum_of (product_of r no_factor) no_term

expr_from : (l : Level) (e : Expr) (ts us : List Tok) → reads_at l e ts us → ReadsExpr e ts us
expr_from Comparison e ts us r = r
expr_from Sum e ts us r = alone r
expr_from Product e ts us r = alone (sum_of r no_term)
expr_from Atom e ts us r = alone (sum_of (product_of r no_factor) no_term)

abbrev in_signs : List ℕ → List ℕ
in_signs text = codes "(" ++ (text ++ codes ")")

-- what an operand of an infix operator of this level is read as
abbrev left_at : Level → Level
left_at Product = Product
left_at Sum = Sum
left_at Comparison = Sum
left_at Atom = Comparison

abbrev right_at : Level → Level
right_at Product = Atom
right_at Sum = Product
right_at Comparison = Sum
right_at Atom = Comparison

-- the sign of an operator, before a blank
record IsInfix (op : BinOp) : Type 0 where
  mark : Mark
  begins : (text : List ℕ) → BeginsNoGap (sign_of op ++ 32 ∷ text)
  lexed : (text : List ℕ) → lexeme_of (sign_of op ++ 32 ∷ text) ≡ Ok (K.Sign, length (sign_of op))
  symbol : symbol_of K.Sign (sign_of op) ≡ S.Mark mark
  plain : IsPlain (S.Mark mark)

abbrev infix_at : Level → BinOp → Expr → Expr → List ℕ
infix_at level op a b =
    operand_text (left_grouped level (printed a).level) (expr_text a) ++
    (codes " " ++ (sign_of op ++ (codes " " ++ operand_text (right_grouped level (printed b).level) (expr_text b))))

infix_parts : (a sign b z : List ℕ) → a ++ (codes " " ++ (sign ++ (codes " " ++ (b ++ z)))) ≡ (a ++ (codes " " ++ (sign ++ (codes " " ++ b)))) ++ z
infix_parts a sign b z = simp append_assoc refl

-- how a level joins its operands
abbrev Joins : Level → BinOp → Mark → Type 0
Joins level op mark =
    (a b : Expr) (p : Place) (ts us vs : List Tok) → reads_at (left_at level) a ts (mark · p ∷ us) → reads_at (right_at level) b us vs → reads_at level (Bin op a b) ts vs

terms_more : {a b e : Expr} {op : BinOp} {t : Tok} {us vs ws : List Tok} → ReadsTerms a e us (t ∷ vs) → additive_of t.symbol ≡ Some op → ReadsProduct b vs ws →
    ReadsTerms a (Bin op e b) us ws
terms_more no_term o r = one_term o r no_term
terms_more (one_term o2 r2 rs) o r = one_term o2 r2 (terms_more rs o r)

factors_more : {a b e : Expr} {op : BinOp} {t : Tok} {us vs ws : List Tok} → ReadsFactors a e us (t ∷ vs) → multiplicative_of t.symbol ≡ Some op → ReadsAtom b vs ws →
    ReadsFactors a (Bin op e b) us ws
factors_more no_factor o r = one_factor o r no_factor
factors_more (one_factor o2 r2 rs) o r = one_factor o2 r2 (factors_more rs o r)

sum_more : {a b : Expr} {op : BinOp} {t : Tok} {ts us vs : List Tok} → ReadsSum a ts (t ∷ us) → additive_of t.symbol ≡ Some op → ReadsProduct b us vs → ReadsSum (Bin op a b) ts vs
sum_more (sum_of r rs) o s = sum_of r (terms_more rs o s)

product_more : {a b : Expr} {op : BinOp} {t : Tok} {ts us vs : List Tok} → ReadsProduct a ts (t ∷ us) → multiplicative_of t.symbol ≡ Some op → ReadsAtom b us vs →
    ReadsProduct (Bin op a b) ts vs
product_more (product_of r rs) o s = product_of r (factors_more rs o s)

compares : (op : BinOp) (mark : Mark) → comparison_of (S.Mark mark) ≡ Some op → Joins Comparison op mark
compares op mark o a b p ts us vs r s = compared r o s

adds : (op : BinOp) (mark : Mark) → additive_of (S.Mark mark) ≡ Some op → Joins Sum op mark
adds op mark o a b p ts us vs r s = sum_more r o s

multiplies : (op : BinOp) (mark : Mark) → multiplicative_of (S.Mark mark) ≡ Some op → Joins Product op mark
multiplies op mark o a b p ts us vs r s = product_more r o s

five_parts : (a b c d e f z : List ℕ) → a ++ (b ++ (c ++ (d ++ (e ++ (f ++ z))))) ≡ (a ++ (b ++ (c ++ (d ++ (e ++ f))))) ++ z
five_parts a b c d e f z = simp append_assoc refl

abbrev pub Each : {A : Type 0} → (A → Type 0) → List A → Type 0
Each P [] = Unit {0}
Each P (x ∷ xs) = P x × Each P xs

entry_step : {A : Type 0} (P : A → Type 0) (b : Bool) (x y : A) (more : Option A) → P x → (more ≡ Some y → P y) → (cond b (Some x) more) ≡ Some y → P y
entry_step P true x y more p ps e = let same : x ≡ y = cc in subst P same p
entry_step P false x y more p ps e = ps e

-- what a table has for a word is one of its entries
pub entry_each : {A : Type 0} (P : A → Type 0) (rows : List (List ℕ × A)) (word : List ℕ) (y : A) → Each (λ (row : List ℕ × A). P row.1) rows → entry_of rows word ≡ Some y → P y
entry_each P [] word y ps e = absurd cc
entry_each P (row ∷ rows) word y ps e =
    entry_step P (bytes_eq word row.0) row.1 y (entry_of rows word) ps.0 (λ e. entry_each P rows word y ps.1 e) e

abbrev pub plus_if : Bool → ℕ → ℕ → ℕ
plus_if more k s = if more then s + k else s

pub plus_most : (b : Bool) (k s : ℕ) → plus_if b k s ≤ s + k
plus_most true k s = omega arith
plus_most false k s = omega arith

-- whether an expression of the second level needs parentheses where one of the first is read
abbrev grouped_at : Level → Level → Bool
grouped_at Sum Comparison = true
grouped_at Product Comparison = true
grouped_at Product Sum = true
grouped_at Atom Comparison = true
grouped_at Atom Sum = true
grouped_at Atom Product = true
grouped_at _ _ = false

-- the tokens of an operator's text, and how deep it nests
abbrev pub bin_size : Level → Level → Level → ℕ → ℕ → ℕ
bin_size Atom la lb sa sb = (sa + sb) + 4
bin_size l la lb sa sb = plus_if (left_grouped l la) 2 sa + (1 + plus_if (right_grouped l lb) 2 sb)

abbrev pub bin_depth : Level → Level → Level → ℕ → ℕ → ℕ
bin_depth Atom la lb da db = max da db + 1
bin_depth l la lb da db = max (plus_if (left_grouped l la) 1 da) (max 0 (plus_if (right_grouped l lb) 1 db))

abbrev IsInfixLevel : Level → Type 0
IsInfixLevel Atom = ⊥
IsInfixLevel _ = Unit {0}

left_same : (l k : Level) → IsInfixLevel l → left_grouped l k ≡ grouped_at (left_at l) k
left_same Comparison Comparison h = refl
left_same Comparison Sum h = refl
left_same Comparison Product h = refl
left_same Comparison Atom h = refl
left_same Sum Comparison h = refl
left_same Sum Sum h = refl
left_same Sum Product h = refl
left_same Sum Atom h = refl
left_same Product Comparison h = refl
left_same Product Sum h = refl
left_same Product Product h = refl
left_same Product Atom h = refl
left_same Atom k h = absurd h

right_same : (l k : Level) → IsInfixLevel l → right_grouped l k ≡ grouped_at (right_at l) k
right_same Comparison Comparison h = refl
right_same Comparison Sum h = refl
right_same Comparison Product h = refl
right_same Comparison Atom h = refl
right_same Sum Comparison h = refl
right_same Sum Sum h = refl
right_same Sum Product h = refl
right_same Sum Atom h = refl
right_same Product Comparison h = refl
right_same Product Sum h = refl
right_same Product Product h = refl
right_same Product Atom h = refl
right_same Atom k h = absurd h

sizes : (l la lb : Level) (sa sb ca cb : ℕ) → IsInfixLevel l → plus_if (grouped_at (left_at l) la) 2 sa ≤ ca → plus_if (grouped_at (right_at l) lb) 2 sb ≤ cb →
    plus_if (grouped_at l l) 2 (bin_size l la lb sa sb) ≤ ca + (1 + cb)
sizes Comparison la lb sa sb ca cb h p q = rw (left_same Comparison la tt, right_same Comparison lb tt) (omega (arith, p, q))
sizes Sum la lb sa sb ca cb h p q = rw (left_same Sum la tt, right_same Sum lb tt) (omega (arith, p, q))
sizes Product la lb sa sb ca cb h p q = rw (left_same Product la tt, right_same Product lb tt) (omega (arith, p, q))
sizes Atom la lb sa sb ca cb h p q = absurd h

depths : (l la lb : Level) (da db n most : ℕ) → IsInfixLevel l → n ≤ most → n + plus_if (grouped_at (left_at l) la) 1 da ≤ most → n + plus_if (grouped_at (right_at l) lb) 1 db ≤ most →
    n + plus_if (grouped_at l l) 1 (bin_depth l la lb da db) ≤ most
depths Comparison la lb da db n most h k p q = rw (left_same Comparison la tt, right_same Comparison lb tt) (omega (arith, p, q))
depths Sum la lb da db n most h k p q = rw (left_same Sum la tt, right_same Sum lb tt) (omega (arith, p, q))
depths Product la lb da db n most h k p q = rw (left_same Product la tt, right_same Product lb tt) (omega (arith, p, q))
depths Atom la lb da db n most h k p q = absurd h

bin_least : (l level of_op la lb : Level) (sa sb ca cb : ℕ) → level ≡ l → of_op ≡ l → plus_if (grouped_at l l) 2 (bin_size l la lb sa sb) ≤ ca + (1 + cb) →
    plus_if (grouped_at l level) 2 (bin_size of_op la lb sa sb) ≤ ca + (1 + cb)
bin_least l level of_op la lb sa sb ca cb h k p = rw (h, k) p

bin_deep : (l level of_op la lb : Level) (da db n most : ℕ) → level ≡ l → of_op ≡ l → n + plus_if (grouped_at l l) 1 (bin_depth l la lb da db) ≤ most →
    n + plus_if (grouped_at l level) 1 (bin_depth of_op la lb da db) ≤ most
bin_deep l level of_op la lb da db n most h k p = rw (h, k) p

call_least : (level of_op la lb : Level) (sa sb ca cb : ℕ) → level ≡ Atom → of_op ≡ Atom → sa ≤ ca → sb ≤ cb →
    plus_if (grouped_at Atom level) 2 (bin_size of_op la lb sa sb) ≤ (ca + cb) + 4
call_least level of_op la lb sa sb ca cb h k p q = rw (h, k) (omega (arith, p, q))

call_deep : (level of_op la lb : Level) (da db n most : ℕ) → level ≡ Atom → of_op ≡ Atom → suc n + da ≤ most → suc n + db ≤ most →
    n + plus_if (grouped_at Atom level) 1 (bin_depth of_op la lb da db) ≤ most
call_deep level of_op la lb da db n most h k p q = rw (h, k) (omega (arith, p, q))

wide_sum : (k : Level) (j s : ℕ) → plus_if (grouped_at Comparison k) j s ≤ plus_if (grouped_at Sum k) j s
wide_sum Comparison j s = omega arith
wide_sum Sum j s = omega arith
wide_sum Product j s = omega arith
wide_sum Atom j s = omega arith

wide_product : (k : Level) (j s : ℕ) → plus_if (grouped_at Sum k) j s ≤ plus_if (grouped_at Product k) j s
wide_product Comparison j s = omega arith
wide_product Sum j s = omega arith
wide_product Product j s = omega arith
wide_product Atom j s = omega arith

wide_atom : (k : Level) (j s : ℕ) → plus_if (grouped_at Product k) j s ≤ plus_if (grouped_at Atom k) j s
wide_atom Comparison j s = omega arith
wide_atom Sum j s = omega arith
wide_atom Product j s = omega arith
wide_atom Atom j s = omega arith

level_is : {op : BinOp} {l : Level} (own : BinOp) → (let x : Option BinOp = Some own in x ≡ Some op) → level_of own ≡ l → level_of op ≡ l
level_is {op} {l} own h e = let same : own ≡ op = cc in subst (λ (op : BinOp). level_of op ≡ l) same e

comparison_level : (s : Symbol) {op : BinOp} → comparison_of s ≡ Some op → level_of op ≡ Comparison
comparison_level (S.Mark T.Eq) h = level_is O.Eq h refl
comparison_level (S.Mark T.Ne) h = level_is O.Ne h refl
comparison_level (S.Mark T.Lt) h = level_is O.Lt h refl
comparison_level (S.Mark T.Le) h = level_is O.Le h refl
comparison_level (S.Mark T.Gt) h = level_is O.Gt h refl
comparison_level (S.Mark T.Ge) h = level_is O.Ge h refl
comparison_level _ h = absurd cc

additive_level : (s : Symbol) {op : BinOp} → additive_of s ≡ Some op → level_of op ≡ Sum
additive_level (S.Mark T.Plus) h = level_is O.Add h refl
additive_level (S.Mark T.Minus) h = level_is O.Sub h refl
additive_level _ h = absurd cc

multiplicative_level : (s : Symbol) {op : BinOp} → multiplicative_of s ≡ Some op → level_of op ≡ Product
multiplicative_level (S.Mark T.Star) h = level_is O.Mul h refl
multiplicative_level (S.Mark T.Slash) h = level_is O.Div h refl
multiplicative_level (S.Mark T.Percent) h = level_is O.Rem h refl
multiplicative_level _ h = absurd cc

function_level : (word : List ℕ) {op : BinOp} → function_of word ≡ Some op → level_of op ≡ Atom
unfolding function_of
function_level word {op} h = entry_each (λ (op : BinOp). level_of op ≡ Atom)
    ((codes "satadd", O.SatAdd) ∷ (codes "min", O.Min) ∷ (codes "max", O.Max) ∷ (codes "and", O.And) ∷ (codes "or", O.Or) ∷ (codes "xor", O.Xor) ∷ []) word op (refl, (refl, (refl, (refl, (refl, (refl, tt)))))) h

pub plain_name : {word : List ℕ} → IsPlain (S.Name word)
plain_name = record { no_end = refl; no_open = refl; stays = λ n. refl }

plain_number : {n : ℕ} → IsPlain (S.Number n)
plain_number = record { no_end = refl; no_open = refl; stays = λ n. refl }

module _ (B E : ℕ) where
  -- read at this level, as so many tokens and so deep
  abbrev PrintsAt : Level → ℕ → ℕ → Expr → List ℕ → Type 0
  PrintsAt level size depth e text = Prints (λ y ts us. reads_at level y ts us × Slots B E size depth ts us) placeless_expr e text

  -- an expression whose text is read at the level of what made it
  pub record IsPrinted (e : Expr) : Type 0 where
    pub size : ℕ
    pub depth : ℕ
    pub prints : PrintsAt (printed e).level size depth e (expr_text e)

  prints_expr : (l : Level) (s d : ℕ) (e : Expr) (text : List ℕ) → PrintsAt l s d e text → PrintsAt Comparison s d e text
  prints_expr l s d e text h bytes after rest u us ends scans = mapped (λ y ts r. (expr_from l y ts (u ∷ us) r.0, r.1)) (h bytes after rest u us ends scans)

  pub as_expr : (e : Expr) (p : IsPrinted e) → PrintsAt Comparison p.size p.depth e (expr_text e)
  as_expr e p = prints_expr (printed e).level p.size p.depth e (expr_text e) p.prints

  in_parens : (s d : ℕ) (e : Expr) (text : List ℕ) → PrintsAt Comparison s d e text → PrintsAt Atom (s + 2) (d + 1) e (in_signs text)
  in_parens s d e text h bytes after rest u us ends scans =
      let inner = h bytes (codes ")" ++ after) rest _ (u ∷ us) refl (paren_close scans) in
      at_text (three_parts (codes "(") text (codes ")") after)
      (record { first = _; more = inner.first ∷ inner.more; thing = inner.thing; scans = paren_open inner.scans; reads = (group inner.reads.0, paren_slots B E inner.reads.1); same = inner.same })

  wider : (l m : Level) (s d : ℕ) (e : Expr) (text : List ℕ) → ((ts us : List Tok) (y : Expr) → reads_at l y ts us → reads_at m y ts us) → PrintsAt l s d e text →
      PrintsAt m s d e text
  wider l m s d e text f h bytes after rest u us ends scans = mapped (λ y ts r. (f ts (u ∷ us) y r.0, r.1)) (h bytes after rest u us ends scans)

  left_prints : (l k : Level) (s d : ℕ) (e : Expr) (text : List ℕ) → PrintsAt k s d e text →
      PrintsAt (left_at l) (plus_if (left_grouped l k) 2 s) (plus_if (left_grouped l k) 1 d) e (operand_text (left_grouped l k) text)
  left_prints Comparison Comparison s d e text h = wider Atom Sum (s + 2) (d + 1) e (in_signs text) (λ ts us y r. sum_from_atom y ts us r) (in_parens s d e text (prints_expr Comparison s d e text h))
  left_prints Comparison Sum s d e text h = h
  left_prints Comparison Product s d e text h = wider Product Sum s d e text (λ ts us y r. sum_from_product y ts us r) h
  left_prints Comparison Atom s d e text h = wider Atom Sum s d e text (λ ts us y r. sum_from_atom y ts us r) h
  left_prints Sum Comparison s d e text h = wider Atom Sum (s + 2) (d + 1) e (in_signs text) (λ ts us y r. sum_from_atom y ts us r) (in_parens s d e text (prints_expr Comparison s d e text h))
  left_prints Sum Sum s d e text h = h
  left_prints Sum Product s d e text h = wider Product Sum s d e text (λ ts us y r. sum_from_product y ts us r) h
  left_prints Sum Atom s d e text h = wider Atom Sum s d e text (λ ts us y r. sum_from_atom y ts us r) h
  left_prints Product Comparison s d e text h = wider Atom Product (s + 2) (d + 1) e (in_signs text) (λ ts us y r. product_from_atom y ts us r) (in_parens s d e text (prints_expr Comparison s d e text h))
  left_prints Product Sum s d e text h = wider Atom Product (s + 2) (d + 1) e (in_signs text) (λ ts us y r. product_from_atom y ts us r) (in_parens s d e text (prints_expr Sum s d e text h))
  left_prints Product Product s d e text h = h
  left_prints Product Atom s d e text h = wider Atom Product s d e text (λ ts us y r. product_from_atom y ts us r) h
  left_prints Atom Comparison s d e text h = wider Atom Comparison (s + 2) (d + 1) e (in_signs text) (λ ts us y r. expr_from Atom y ts us r) (in_parens s d e text (prints_expr Comparison s d e text h))
  left_prints Atom Sum s d e text h = prints_expr Sum s d e text h
  left_prints Atom Product s d e text h = prints_expr Product s d e text h
  left_prints Atom Atom s d e text h = prints_expr Atom s d e text h

  right_prints : (l k : Level) (s d : ℕ) (e : Expr) (text : List ℕ) → PrintsAt k s d e text →
      PrintsAt (right_at l) (plus_if (right_grouped l k) 2 s) (plus_if (right_grouped l k) 1 d) e (operand_text (right_grouped l k) text)
  right_prints Comparison Comparison s d e text h = wider Atom Sum (s + 2) (d + 1) e (in_signs text) (λ ts us y r. sum_from_atom y ts us r) (in_parens s d e text (prints_expr Comparison s d e text h))
  right_prints Comparison Sum s d e text h = h
  right_prints Comparison Product s d e text h = wider Product Sum s d e text (λ ts us y r. sum_from_product y ts us r) h
  right_prints Comparison Atom s d e text h = wider Atom Sum s d e text (λ ts us y r. sum_from_atom y ts us r) h
  right_prints Sum Comparison s d e text h = wider Atom Product (s + 2) (d + 1) e (in_signs text) (λ ts us y r. product_from_atom y ts us r) (in_parens s d e text (prints_expr Comparison s d e text h))
  right_prints Sum Sum s d e text h = wider Atom Product (s + 2) (d + 1) e (in_signs text) (λ ts us y r. product_from_atom y ts us r) (in_parens s d e text (prints_expr Sum s d e text h))
  right_prints Sum Product s d e text h = h
  right_prints Sum Atom s d e text h = wider Atom Product s d e text (λ ts us y r. product_from_atom y ts us r) h
  right_prints Product Comparison s d e text h = in_parens s d e text (prints_expr Comparison s d e text h)
  right_prints Product Sum s d e text h = in_parens s d e text (prints_expr Sum s d e text h)
  right_prints Product Product s d e text h = in_parens s d e text (prints_expr Product s d e text h)
  right_prints Product Atom s d e text h = h
  right_prints Atom Comparison s d e text h = wider Atom Comparison (s + 2) (d + 1) e (in_signs text) (λ ts us y r. expr_from Atom y ts us r) (in_parens s d e text (prints_expr Comparison s d e text h))
  right_prints Atom Sum s d e text h = prints_expr Sum s d e text h
  right_prints Atom Product s d e text h = prints_expr Product s d e text h
  right_prints Atom Atom s d e text h = prints_expr Atom s d e text h

  -- ---- infix operators

  infix_prints : (level : Level) (op : BinOp) (a b : Expr) (i : IsInfix op) → Joins level op i.mark → (pa : IsPrinted a) (pb : IsPrinted b) →
      PrintsAt level
      (plus_if (left_grouped level (printed a).level) 2 pa.size + (1 + plus_if (right_grouped level (printed b).level) 2 pb.size))
      (max (plus_if (left_grouped level (printed a).level) 1 pa.depth) (max 0 (plus_if (right_grouped level (printed b).level) 1 pb.depth)))
      (Bin op a b) (infix_at level op a b)
  infix_prints level op a b i joins pa pb bytes after rest u us ends s =
      let left : List ℕ = operand_text (left_grouped level (printed a).level) (expr_text a) in
      let right : List ℕ = operand_text (right_grouped level (printed b).level) (expr_text b) in
      let r = right_prints level (printed b).level pb.size pb.depth b (expr_text b) pb.prints bytes after rest u us ends s in
      let signed = sign_and_blank (sign_of op) i.mark (i.begins (right ++ after)) (i.lexed (right ++ after)) i.symbol r.scans in
      let l = left_prints level (printed a).level pa.size pa.depth a (expr_text a) pa.prints bytes (codes " " ++ (sign_of op ++ (codes " " ++ (right ++ after)))) rest _ (r.first ∷ r.more) refl
      (blank refl refl signed) in
      at_text (infix_parts left (sign_of op) right after)
      (record {
        first = l.first;
        more = l.more;
        thing = Bin op l.thing r.thing;
        scans = l.scans;
        reads = (joins l.thing r.thing _ _ _ _ l.reads.0 r.reads.0, join_slots B E l.reads.1 (join_slots B E (one_slot B E _ (r.first ∷ r.more) i.plain) r.reads.1));
        same = bare_bin op a b l.thing r.thing l.same r.same;
      })

  -- ---- functions and atoms

  call_prints : (op : BinOp) (a b : Expr) → IsFreeWord (sign_of op) → function_of (sign_of op) ≡ Some op → (pa : IsPrinted a) (pb : IsPrinted b) →
      PrintsAt Atom ((pa.size + pb.size) + 4) (max pa.depth pb.depth + 1) (Bin op a b) (sign_of op ++ (codes "(" ++ (expr_text a ++ (codes ", " ++ (expr_text b ++ codes ")")))))
  call_prints op a b w is pa pb bytes after rest u us ends s =
      let second = as_expr b pb bytes (codes ")" ++ after) rest _ (u ∷ us) refl (paren_close s) in
      let first = as_expr a pa bytes (codes ", " ++ (expr_text b ++ (codes ")" ++ after))) rest _ (second.first ∷ second.more) refl (comma (blank refl refl second.scans)) in
      at_text (five_parts (sign_of op) (codes "(") (expr_text a) (codes ", ") (expr_text b) (codes ")") after)
      (record {
        first = _;
        more = _ ∷ first.first ∷ first.more;
        thing = Bin op first.thing second.thing;
        scans = a_name (sign_of op) w refl (paren_open first.scans);
        reads = (function is first.reads.0 second.reads.0, call_slots B E first.reads.1 second.reads.1);
        same = bare_bin op a b first.thing second.thing first.same second.same;
      })

  pub elem_prints : (n : List ℕ) (p : Place) (e : Expr) → IsFreeWord n → (pe : IsPrinted e) → PrintsAt Atom (pe.size + 3) (pe.depth + 1) (Elem n p e) (n ++ (codes "[" ++ (expr_text e ++ codes "]")))
  elem_prints n p e w pe bytes after rest u us ends s =
      let inner = as_expr e pe bytes (codes "]" ++ after) rest _ (u ∷ us) refl (square_close s) in
      at_text (four_parts n (codes "[") (expr_text e) (codes "]") after)
      (record {
        first = _;
        more = _ ∷ inner.first ∷ inner.more;
        thing = Elem n _ inner.thing;
        scans = a_name n w refl (square_open inner.scans);
        reads = (element inner.reads.0, element_slots B E inner.reads.1);
        same = bare_elem n p _ e inner.thing inner.same;
      })

  pub var_prints : (n : List ℕ) (p : Place) → IsFreeWord n → PrintsAt Atom 1 0 (Var n p) n
  var_prints n p w bytes after rest u us ends s = record { first = _; more = u ∷ us; thing = Var n _; scans = a_name n w ends s; reads = (name, one_slot B E _ (u ∷ us) plain_name); same = bare_var n p _ }

  pub num_prints : (n : ℕ) → n < 2 ^ 64 → PrintsAt Atom 1 0 (Num n) (decimal n)
  num_prints n small bytes after rest u us ends s = record { first = _; more = u ∷ us; thing = Num n; scans = a_number n small ends s; reads = (number, one_slot B E _ (u ∷ us) plain_number); same = refl }

  abbrev as_printed : (e : Expr) (level : Level) (text : List ℕ) (s d : ℕ) → (let p : Printed = record { level = level; text = text } in printed e ≡ p) → PrintsAt level s d e text → IsPrinted e
  as_printed e level text s d is h = record { size = s; depth = d; prints = subst (λ (p : Printed). PrintsAt p.level s d e p.text) (sym is) h }

  abbrev pub num_printed : (n : ℕ) → n < 2 ^ 64 → IsPrinted (Num n)
  num_printed n small = as_printed (Num n) Atom (decimal n) 1 0 (printed_num n) (num_prints n small)

  abbrev pub var_printed : (n : List ℕ) (p : Place) → IsFreeWord n → IsPrinted (Var n p)
  var_printed n p w = as_printed (Var n p) Atom n 1 0 (printed_var n p) (var_prints n p w)

  abbrev pub elem_printed : (n : List ℕ) (p : Place) (e : Expr) → IsFreeWord n → IsPrinted e → IsPrinted (Elem n p e)
  elem_printed n p e w pe = as_printed (Elem n p e) Atom (n ++ (codes "[" ++ (expr_text e ++ codes "]"))) (pe.size + 3) (pe.depth + 1) (printed_elem n p e) (elem_prints n p e w pe)

  pub bin_prints : (op : BinOp) (a b : Expr) (pa : IsPrinted a) (pb : IsPrinted b) →
      PrintsAt (level_of op) (bin_size (level_of op) (printed a).level (printed b).level pa.size pb.size) (bin_depth (level_of op) (printed a).level (printed b).level pa.depth pb.depth) (Bin op a b) (applied_text (level_of op) (sign_of op) (printed a) (printed b))
  unfolding reserved punctuation operators function_of
  bin_prints O.Eq a b pa pb = infix_prints Comparison O.Eq a b (record { mark = T.Eq; begins = λ text. refl; lexed = λ text. refl; symbol = refl; plain = record { no_end = refl; no_open = refl; stays = λ n. refl } }) (compares O.Eq T.Eq refl) pa pb
  bin_prints O.Ne a b pa pb = infix_prints Comparison O.Ne a b (record { mark = T.Ne; begins = λ text. refl; lexed = λ text. refl; symbol = refl; plain = record { no_end = refl; no_open = refl; stays = λ n. refl } }) (compares O.Ne T.Ne refl) pa pb
  bin_prints O.Lt a b pa pb = infix_prints Comparison O.Lt a b (record { mark = T.Lt; begins = λ text. refl; lexed = λ text. refl; symbol = refl; plain = record { no_end = refl; no_open = refl; stays = λ n. refl } }) (compares O.Lt T.Lt refl) pa pb
  bin_prints O.Le a b pa pb = infix_prints Comparison O.Le a b (record { mark = T.Le; begins = λ text. refl; lexed = λ text. refl; symbol = refl; plain = record { no_end = refl; no_open = refl; stays = λ n. refl } }) (compares O.Le T.Le refl) pa pb
  bin_prints O.Gt a b pa pb = infix_prints Comparison O.Gt a b (record { mark = T.Gt; begins = λ text. refl; lexed = λ text. refl; symbol = refl; plain = record { no_end = refl; no_open = refl; stays = λ n. refl } }) (compares O.Gt T.Gt refl) pa pb
  bin_prints O.Ge a b pa pb = infix_prints Comparison O.Ge a b (record { mark = T.Ge; begins = λ text. refl; lexed = λ text. refl; symbol = refl; plain = record { no_end = refl; no_open = refl; stays = λ n. refl } }) (compares O.Ge T.Ge refl) pa pb
  bin_prints O.Add a b pa pb = infix_prints Sum O.Add a b (record { mark = T.Plus; begins = λ text. refl; lexed = λ text. refl; symbol = refl; plain = record { no_end = refl; no_open = refl; stays = λ n. refl } }) (adds O.Add T.Plus refl) pa pb
  bin_prints O.Sub a b pa pb = infix_prints Sum O.Sub a b (record { mark = T.Minus; begins = λ text. refl; lexed = λ text. refl; symbol = refl; plain = record { no_end = refl; no_open = refl; stays = λ n. refl } }) (adds O.Sub T.Minus refl) pa pb
  bin_prints O.Mul a b pa pb = infix_prints Product O.Mul a b (record { mark = T.Star; begins = λ text. refl; lexed = λ text. refl; symbol = refl; plain = record { no_end = refl; no_open = refl; stays = λ n. refl } }) (multiplies O.Mul T.Star refl) pa pb
  bin_prints O.Div a b pa pb = infix_prints Product O.Div a b (record { mark = T.Slash; begins = λ text. refl; lexed = λ text. refl; symbol = refl; plain = record { no_end = refl; no_open = refl; stays = λ n. refl } }) (multiplies O.Div T.Slash refl) pa pb
  bin_prints O.Rem a b pa pb = infix_prints Product O.Rem a b (record { mark = T.Percent; begins = λ text. refl; lexed = λ text. refl; symbol = refl; plain = record { no_end = refl; no_open = refl; stays = λ n. refl } }) (multiplies O.Rem T.Percent refl) pa pb
  bin_prints O.SatAdd a b pa pb = call_prints O.SatAdd a b (free_word (codes "satadd") refl refl) refl pa pb
  bin_prints O.Min a b pa pb = call_prints O.Min a b (free_word (codes "min") refl refl) refl pa pb
  bin_prints O.Max a b pa pb = call_prints O.Max a b (free_word (codes "max") refl refl) refl pa pb
  bin_prints O.And a b pa pb = call_prints O.And a b (free_word (codes "and") refl refl) refl pa pb
  bin_prints O.Or a b pa pb = call_prints O.Or a b (free_word (codes "or") refl refl) refl pa pb
  bin_prints O.Xor a b pa pb = call_prints O.Xor a b (free_word (codes "xor") refl refl) refl pa pb

  abbrev pub bin_printed : (op : BinOp) (a b : Expr) → IsPrinted a → IsPrinted b → IsPrinted (Bin op a b)
  bin_printed op a b pa pb =
      as_printed (Bin op a b) (level_of op) (applied_text (level_of op) (sign_of op) (printed a) (printed b))
      (bin_size (level_of op) (printed a).level (printed b).level pa.size pb.size) (bin_depth (level_of op) (printed a).level (printed b).level pa.depth pb.depth)
      (printed_bin op a b) (bin_prints op a b pa pb)

  -- ---- each expression that was read

  -- where an expression was read at a level, n brackets open, behind c tokens: how it is printed, and that this is no longer and no deeper
  pub record ExprFine (level : Level) (e : Expr) (f : Bool) (b c n : ℕ) (us : List Tok) : Type 0 where
    pub fine : AreFine us
    pub printed_so : IsPrinted e
    pub count : ℕ
    pub fits : Fits B E (within f b (c + count) n) us
    pub least : plus_if (grouped_at level (printed e).level) 2 printed_so.size ≤ count
    pub deep : n + plus_if (grouped_at level (printed e).level) 1 printed_so.depth ≤ B
    pub few : c + count ≤ E

  relaxed : (l m : Level) {e : Expr} {f : Bool} {b c n : ℕ} {us : List Tok} → ((k : Level) (j s : ℕ) → plus_if (grouped_at m k) j s ≤ plus_if (grouped_at l k) j s) →
      ExprFine l e f b c n us → ExprFine m e f b c n us
  relaxed l m {e} le x = record {
    fine = x.fine;
    printed_so = x.printed_so;
    count = x.count;
    fits = x.fits;
    least = omega (arith, x.least, le (printed e).level 2 x.printed_so.size);
    deep = omega (arith, x.deep, le (printed e).level 1 x.printed_so.depth);
    few = x.few;
  }

  bin_fine : (l : Level) (op : BinOp) → level_of op ≡ l → IsInfixLevel l → {a b : Expr} {f : Bool} {base c n : ℕ} {t : Tok} {us vs : List Tok} → n ≤ B →
      (x : ExprFine (left_at l) a f base c n (t ∷ us)) → ExprFine (right_at l) b f base (c + x.count + 1) n vs → ExprFine l (Bin op a b) f base c n vs
  bin_fine l op level has_sign {a} {b} {f} {base} {c} {n} {vs = vs} bounded x y =
      let is : (printed (Bin op a b)).level ≡ l = ap (λ (p : Printed). p.level) (printed_bin op a b) ∙ level in
      let size = sizes l (printed a).level (printed b).level x.printed_so.size y.printed_so.size x.count y.count has_sign x.least y.least in
      let depth = depths l (printed a).level (printed b).level x.printed_so.depth y.printed_so.depth n B has_sign bounded x.deep y.deep in
      record {
        fine = y.fine;
        printed_so = bin_printed op a b x.printed_so y.printed_so;
        count = x.count + (1 + y.count);
        fits = at_count B E f base n vs ((c + x.count + 1) + y.count) (c + (x.count + (1 + y.count))) (omega arith) y.fits;
        least = rw (is, level) size;
        deep = rw (is, level) depth;
        few = omega (arith, y.few);
      }

  atom_least : (l : Level) (s c : ℕ) → l ≡ Atom → s ≤ c → plus_if (grouped_at Atom l) 2 s ≤ c
  atom_least l s c is h = rw is h

  atom_deep : (l : Level) (d n : ℕ) → l ≡ Atom → n + d ≤ B → n + plus_if (grouped_at Atom l) 1 d ≤ B
  atom_deep l d n is h = rw is h

  mutual
    pub expr_fine : (f : Bool) (b c n : ℕ) → b ≤ n → n ≤ B → {e : Expr} {ts us : List Tok} → ReadsExpr e ts us → AreFine ts → Fits B E (within f b c n) ts → ExprFine Comparison e f b c n us
    expr_fine f b c n le bounded (alone r) fine fits = relaxed Sum Comparison wide_sum (sum_fine f b c n le bounded r fine fits)
    expr_fine f b c n le bounded (compared {op} {t} {us} r o s) fine fits =
        let x = sum_fine f b c n le bounded r fine fits in
        let step = inner_plain B E f b (c + x.count) n t us (plain_comparison t.symbol o) x.fits in
        bin_fine Comparison op (comparison_level t.symbol o) tt bounded x (sum_fine f b (c + x.count + 1) n le bounded s x.fine.1 step.1)

    sum_fine : (f : Bool) (b c n : ℕ) → b ≤ n → n ≤ B → {e : Expr} {ts us : List Tok} → ReadsSum e ts us → AreFine ts → Fits B E (within f b c n) ts → ExprFine Sum e f b c n us
    sum_fine f b c n le bounded (sum_of r rs) fine fits =
        terms_fine f b c n le bounded rs (relaxed Product Sum wide_product (product_fine f b c n le bounded r fine fits))

    terms_fine : (f : Bool) (b c n : ℕ) → b ≤ n → n ≤ B → {a e : Expr} {us vs : List Tok} → ReadsTerms a e us vs → ExprFine Sum a f b c n us → ExprFine Sum e f b c n vs
    terms_fine f b c n le bounded no_term x = x
    terms_fine f b c n le bounded (one_term {op} {t} {us} o r rs) x =
        let step = inner_plain B E f b (c + x.count) n t us (plain_additive t.symbol o) x.fits in
        terms_fine f b c n le bounded rs (bin_fine Sum op (additive_level t.symbol o) tt bounded x (product_fine f b (c + x.count + 1) n le bounded r x.fine.1 step.1))

    product_fine : (f : Bool) (b c n : ℕ) → b ≤ n → n ≤ B → {e : Expr} {ts us : List Tok} → ReadsProduct e ts us → AreFine ts → Fits B E (within f b c n) ts → ExprFine Product e f b c n us
    product_fine f b c n le bounded (product_of r rs) fine fits =
        factors_fine f b c n le bounded rs (relaxed Atom Product wide_atom (atom_fine f b c n le bounded r fine fits))

    factors_fine : (f : Bool) (b c n : ℕ) → b ≤ n → n ≤ B → {a e : Expr} {us vs : List Tok} → ReadsFactors a e us vs → ExprFine Product a f b c n us → ExprFine Product e f b c n vs
    factors_fine f b c n le bounded no_factor x = x
    factors_fine f b c n le bounded (one_factor {op} {t} {us} o r rs) x =
        let step = inner_plain B E f b (c + x.count) n t us (plain_multiplicative t.symbol o) x.fits in
        factors_fine f b c n le bounded rs (bin_fine Product op (multiplicative_level t.symbol o) tt bounded x (atom_fine f b (c + x.count + 1) n le bounded r x.fine.1 step.1))

    atom_fine : (f : Bool) (b c n : ℕ) → b ≤ n → n ≤ B → {e : Expr} {ts us : List Tok} → ReadsAtom e ts us → AreFine ts → Fits B E (within f b c n) ts → ExprFine Atom e f b c n us
    atom_fine f b c n le bounded (number {k} {p} {us}) fine fits =
        let step = inner_plain B E f b c n (numbered k p) us plain_number fits in
        record {
          fine = fine.1;
          printed_so = num_printed k fine.0;
          count = 1;
          fits = step.1;
          least = atom_least (printed (Num k)).level 1 1 (ap (λ (p : Printed). p.level) (printed_num k)) (omega arith);
          deep = atom_deep (printed (Num k)).level 0 n (ap (λ (p : Printed). p.level) (printed_num k)) (omega arith);
          few = omega (arith, step.0);
        }
    atom_fine f b c n le bounded (name {n = word} {p} {us}) fine fits =
        let step = inner_plain B E f b c n (named word p) us plain_name fits in
        record {
          fine = fine.1;
          printed_so = var_printed word p fine.0;
          count = 1;
          fits = step.1;
          least = atom_least (printed (Var word p)).level 1 1 (ap (λ (p : Printed). p.level) (printed_var word p)) (omega arith);
          deep = atom_deep (printed (Var word p)).level 0 n (ap (λ (p : Printed). p.level) (printed_var word p)) (omega arith);
          few = omega (arith, step.0);
        }
    atom_fine f b c n le bounded (element {n = word} {p} {q} {r = place} {e} {us} {vs} r) fine fits =
        let one = inner_plain B E f b c n (named word p) (T.SquareOpen · q ∷ us) plain_name fits in
        let two = opened_one B E f b (c + 1) n (T.SquareOpen · q) us refl (λ m. refl) refl one.1 in
        let x = expr_fine f b (c + 1 + 1) (suc n) (omega arith) two.0 r fine.1.1 two.2 in
        let last = closed_one B E f b (c + 1 + 1 + x.count) n (T.SquareClose · place) vs le refl (λ m. refl) x.fits in
        record {
          fine = x.fine.1;
          printed_so = elem_printed word p e fine.0 x.printed_so;
          count = x.count + 3;
          fits = at_count B E f b n vs (c + 1 + 1 + x.count + 1) (c + (x.count + 3)) (omega arith) last.1;
          least = atom_least (printed (Elem word p e)).level (x.printed_so.size + 3) (x.count + 3) (ap (λ (p : Printed). p.level) (printed_elem word p e)) (omega (arith, x.least));
          deep = atom_deep (printed (Elem word p e)).level (x.printed_so.depth + 1) n (ap (λ (p : Printed). p.level) (printed_elem word p e)) (omega (arith, x.deep));
          few = omega (arith, last.0);
        }
    atom_fine f b c n le bounded (function {n = word} {op} {p} {q} {r = place} {s = end} {a} {b = other} {us} {vs} {ws} w r s) fine fits =
        let one = inner_plain B E f b c n (named word p) (T.ParenOpen · q ∷ us) plain_name fits in
        let two = opened_one B E f b (c + 1) n (T.ParenOpen · q) us refl (λ m. refl) refl one.1 in
        let x = expr_fine f b (c + 1 + 1) (suc n) (omega arith) two.0 r fine.1.1 two.2 in
        let between = comma_one B E f b (c + 1 + 1 + x.count) n place vs le x.fits in
        let y = expr_fine f b (c + 1 + 1 + x.count + 1) (suc n) (omega arith) two.0 s x.fine.1 between.1 in
        let last = closed_one B E f b (c + 1 + 1 + x.count + 1 + y.count) n (T.ParenClose · end) ws le refl (λ m. refl) y.fits in
        let level : level_of op ≡ Atom = function_level word w in
        let is : (printed (Bin op a other)).level ≡ Atom = ap (λ (p : Printed). p.level) (printed_bin op a other) ∙ level in
        record {
          fine = y.fine.1;
          printed_so = bin_printed op a other x.printed_so y.printed_so;
          count = (x.count + y.count) + 4;
          fits = at_count B E f b n ws (c + 1 + 1 + x.count + 1 + y.count + 1) (c + ((x.count + y.count) + 4)) (omega arith) last.1;
          least = rw (is, level) (omega (arith, x.least, y.least));
          deep = rw (is, level) (omega (arith, x.deep, y.deep));
          few = omega (arith, last.0);
        }
    atom_fine f b c n le bounded (group {p} {q} {e} {us} {vs} r) fine fits =
        let one = opened_one B E f b c n (T.ParenOpen · p) us refl (λ m. refl) refl fits in
        let x = expr_fine f b (c + 1) (suc n) (omega arith) one.0 r fine.1 one.2 in
        let last = closed_one B E f b (c + 1 + x.count) n (T.ParenClose · q) vs le refl (λ m. refl) x.fits in
        record {
          fine = x.fine.1;
          printed_so = x.printed_so;
          count = x.count + 2;
          fits = at_count B E f b n vs (c + 1 + x.count + 1) (c + (x.count + 2)) (omega arith) last.1;
          least = omega (arith, x.least, plus_most (grouped_at Atom (printed e).level) 2 x.printed_so.size);
          deep = omega (arith, x.deep, plus_most (grouped_at Atom (printed e).level) 1 x.printed_so.depth);
          few = omega (arith, last.0);
        }
