-- What is left of an expression, step by step.
use Rattle.std.proofs.Common.{◌≡◌, ℕ, Bool, true, false, List, [], ◌∷◌, refl, ap, sym, subst, ◌∙◌, Some, None}
use Rattle.kt_law.specs.declared.places.Place.{Place}
use Rattle.kt_law.specs.declared.operators.BinOp.{BinOp}
use Rattle.kt_prog.specs.declared.programs.Expr.{Expr, Num, Var, Elem, Bin}
use Rattle.kt_tokens.specs.declared.tokens.Mark.{Mark}
use Rattle.kt_tokens.specs.declared.tokens.Mark.TheVariants as T
use Rattle.kt_tokens.specs.declared.tokens.Symbol.{Symbol}
use Rattle.kt_tokens.specs.declared.tokens.Symbol.TheVariants as S
use Rattle.kt_tokens.specs.declared.tokens.Tok.{Tok}
use Rattle.kt_tokens.specs.Ahead.{Ahead, next_of, mark_of}
use Rattle.kt_tokens.specs.Reading.{Follows, Reads, Sign, sign, AName, a_name, ANumber, a_number}
use Rattle.kt_tokens.specs.Tokens.{◌·◌, numbered}
use Rattle.kt_tokens.proofs.Signs.{mark_at}
use Rattle.kt_tokens.proofs.Moves.{Advanced}
use Rattle.kt_read.specs.Expressions.{ReadsExpr, alone, compared, ReadsSum, sum_of, ReadsTerms, no_term, one_term, ReadsProduct, product_of, ReadsFactors, no_factor, one_factor, ReadsAtom, number, name, element, function, group}
use Rattle.kt_read.specs.Follows.{after_atom, after_product, after_sum, after_expression}
use Rattle.kt_read.specs.Operators.{comparison_of, additive_of, multiplicative_of, function_of}
use Rattle.kt_read.specs.Residuals.{Then, Done, Closing, ExprThen, AfterAtom, AfterName, bare, square, call, AfterSum, no_comparison, comparison}
use Rattle.kt_read.proofs.Operators.{NoOperator, no_operator, additive_may, multiplicative_may, comparison_may, product_to_atom, sum_to_product, expression_to_sum, additive_ends, multiplicative_ends, comparison_ends}
use Rattle.kt_read.proofs.Completing.{somewhere, done_completes, sign_completes}
use Rattle.kt_read.proofs.Still.{Still, Completes, GoesOnWith, here, is, step, done, then_completes}

abbrev Allowed : Bool → Type 0
Allowed b = elim b [ true ↦ Unit {0} | false ↦ ⊥ ]

it_may : (b : Bool) → b ≡ true → Allowed b
it_may true e = tt
it_may false e = cc

it_may_not : (b : Bool) → b ≡ false → Allowed b → ⊥
it_may_not true e h = cc
it_may_not false e h = h

-- what a sign allows before it
pub sign_follows : (may : Symbol → Bool) (m : Mark) → may (S.Mark m) ≡ true → (p : Place) (vs us : List Tok) → Sign m p vs us → Follows may vs
sign_follows may m e p vs us sign = it_may (may (S.Mark m)) e

-- what a sign does not allow before it
pub may_not : (may : Symbol → Bool) (m : Mark) → may (S.Mark m) ≡ false → (t : Tok) (more : List Tok) → mark_of t.symbol ≡ Some m → Follows may (t ∷ more) → ⊥
may_not may m e t more g h =
    let k : Follows may (m · t.place ∷ more) = subst (λ x. Follows may (x ∷ more)) (mark_at t m g) h in
    it_may_not (may (S.Mark m)) e k

pub closing_follows : {A : Type 0} (may : Symbol → Bool) (m : Mark) → may (S.Mark m) ≡ true → (b a : A) (vs us : List Tok) → Closing m b a vs us → Follows may vs
closing_follows may m e b a vs us k = sign_follows may m e k.0 vs k.1 k.2

pub closing_completes : {A : Type 0} (m : Mark) (a : A) → Completes (Closing m a)
closing_completes m a = sign_completes m (λ _. Done a) (done_completes a)

-- the shortest expression
pub zero_reads : (rest : List Tok) → ReadsExpr (Num 0) (numbered 0 somewhere ∷ rest) rest
zero_reads rest = alone (sum_of (product_of number no_factor) no_term)

pub expression_completes : {A : Type 0} (K : Expr → A → List Tok → List Tok → Type 0) → Completes (K (Num 0)) → Completes (Then ReadsExpr K)
expression_completes K k = then_completes ReadsExpr K (Num 0) (numbered 0 somewhere ∷ []) zero_reads k

pub expression_then_completes : {A : Type 0} (m : Mark) (K : Expr → A → List Tok → List Tok → Type 0) → Completes (K (Num 0)) → Completes (Then (ExprThen m) K)
expression_then_completes m K k =
    then_completes (ExprThen m) K (Num 0) (numbered 0 somewhere ∷ m · somewhere ∷ [])
    (λ rest. (Num 0, m · somewhere ∷ rest, zero_reads (m · somewhere ∷ rest), (somewhere, rest, sign, (refl, refl)))) k

-- ---- sums

from_terms : (e : Expr) (ts us : List Tok) → Then ReadsProduct ReadsTerms e ts us → ReadsSum e ts us
from_terms e ts us q = sum_of q.2 q.3

to_terms : (e : Expr) (ts us : List Tok) → ReadsSum e ts us → Then ReadsProduct ReadsTerms e ts us
to_terms e ts us (sum_of p t) = (_, _, p, t)

pub terms_follow : (a e : Expr) (vs us : List Tok) → ReadsTerms a e vs us → Follows after_sum us → Follows after_product vs
terms_follow a e vs us no_term h = sum_to_product us h
terms_follow a e vs us (one_term {op = op} {t = t} o p r) h = additive_may t.symbol op o

pub sum_here : (old : Ahead) → Still ReadsSum after_sum old old (Then ReadsProduct ReadsTerms)
sum_here old = is (here old) from_terms (λ a more rest r h. to_terms a _ rest r)

terms_more : (a : Expr) (t : Tok) (op : BinOp) → additive_of t.symbol ≡ Some op → (e : Expr) (more rest : List Tok) →
    ReadsTerms a e (t ∷ more) rest → Follows after_sum rest → Then ReadsProduct (λ b. ReadsTerms (Bin op a b)) e more rest
terms_more a t op o e more rest no_term h = absurd (additive_ends t.symbol op o h)
terms_more a t op o e more rest (one_term {b = b} {op = op'} {vs = vs} o' p r) h =
    let f : op' ≡ op = cc in (b, vs, p, subst (λ x. ReadsTerms (Bin x a b) e vs rest) f r)

pub terms_step : {first : Expr} {old cur new : Ahead} (a : Expr) (op : BinOp) → additive_of (next_of cur).symbol ≡ Some op →
    Still (ReadsTerms first) after_sum old cur (ReadsTerms a) → Advanced cur new →
    Still (ReadsTerms first) after_sum old new (Then ReadsProduct (λ b. ReadsTerms (Bin op a b)))
terms_step {cur = cur} a op o s p = step s p
    (λ e more rest q. one_term o q.2 q.3)
    (λ e more rest r h. terms_more a (next_of cur) op o e more rest r h)

terms_none : (a : Expr) (t : Tok) → additive_of t.symbol ≡ None → (e : Expr) (more rest : List Tok) → ReadsTerms a e (t ∷ more) rest → Done a e (t ∷ more) rest
terms_none a t o e more rest no_term = (refl, refl)
terms_none a t o e more rest (one_term o' p r) = cc

pub terms_end : {first : Expr} {old cur : Ahead} (a : Expr) → additive_of (next_of cur).symbol ≡ None →
    Still (ReadsTerms first) after_sum old cur (ReadsTerms a) → Reads (ReadsTerms first) after_sum old cur a
terms_end {cur = cur} a o s = done (is s
    (λ e more rest d. subst (λ x. ReadsTerms a x more rest) (sym d.0) (subst (λ us. ReadsTerms a a more us) (sym d.1) no_term))
    (λ e more rest r h. terms_none a (next_of cur) o e more rest r))

pub terms_go_on : (a : Expr) (t : Tok) (op : BinOp) → additive_of t.symbol ≡ Some op → GoesOnWith t (ReadsTerms a)
terms_go_on a t op o = (Bin op a (Num 0), numbered 0 somewhere ∷ [], λ rest. one_term o (product_of number no_factor) no_term)

pub terms_complete : (a : Expr) → Completes (ReadsTerms a)
terms_complete a = (a, [], λ rest. no_term)

-- ---- products

from_factors : (e : Expr) (ts us : List Tok) → Then ReadsAtom ReadsFactors e ts us → ReadsProduct e ts us
from_factors e ts us q = product_of q.2 q.3

to_factors : (e : Expr) (ts us : List Tok) → ReadsProduct e ts us → Then ReadsAtom ReadsFactors e ts us
to_factors e ts us (product_of p t) = (_, _, p, t)

pub factors_follow : (a e : Expr) (vs us : List Tok) → ReadsFactors a e vs us → Follows after_product us → Follows after_atom vs
factors_follow a e vs us no_factor h = product_to_atom us h
factors_follow a e vs us (one_factor {op = op} {t = t} o p r) h = multiplicative_may t.symbol op o

pub product_here : (old : Ahead) → Still ReadsProduct after_product old old (Then ReadsAtom ReadsFactors)
product_here old = is (here old) from_factors (λ a more rest r h. to_factors a _ rest r)

factors_more : (a : Expr) (t : Tok) (op : BinOp) → multiplicative_of t.symbol ≡ Some op → (e : Expr) (more rest : List Tok) →
    ReadsFactors a e (t ∷ more) rest → Follows after_product rest → Then ReadsAtom (λ b. ReadsFactors (Bin op a b)) e more rest
factors_more a t op o e more rest no_factor h = absurd (multiplicative_ends t.symbol op o h)
factors_more a t op o e more rest (one_factor {b = b} {op = op'} {vs = vs} o' p r) h =
    let f : op' ≡ op = cc in (b, vs, p, subst (λ x. ReadsFactors (Bin x a b) e vs rest) f r)

pub factors_step : {first : Expr} {old cur new : Ahead} (a : Expr) (op : BinOp) → multiplicative_of (next_of cur).symbol ≡ Some op →
    Still (ReadsFactors first) after_product old cur (ReadsFactors a) → Advanced cur new →
    Still (ReadsFactors first) after_product old new (Then ReadsAtom (λ b. ReadsFactors (Bin op a b)))
factors_step {cur = cur} a op o s p = step s p
    (λ e more rest q. one_factor o q.2 q.3)
    (λ e more rest r h. factors_more a (next_of cur) op o e more rest r h)

factors_none : (a : Expr) (t : Tok) → multiplicative_of t.symbol ≡ None → (e : Expr) (more rest : List Tok) → ReadsFactors a e (t ∷ more) rest → Done a e (t ∷ more) rest
factors_none a t o e more rest no_factor = (refl, refl)
factors_none a t o e more rest (one_factor o' p r) = cc

pub factors_end : {first : Expr} {old cur : Ahead} (a : Expr) → multiplicative_of (next_of cur).symbol ≡ None →
    Still (ReadsFactors first) after_product old cur (ReadsFactors a) → Reads (ReadsFactors first) after_product old cur a
factors_end {cur = cur} a o s = done (is s
    (λ e more rest d. subst (λ x. ReadsFactors a x more rest) (sym d.0) (subst (λ us. ReadsFactors a a more us) (sym d.1) no_factor))
    (λ e more rest r h. factors_none a (next_of cur) o e more rest r))

pub factors_go_on : (a : Expr) (t : Tok) (op : BinOp) → multiplicative_of t.symbol ≡ Some op → GoesOnWith t (ReadsFactors a)
factors_go_on a t op o = (Bin op a (Num 0), numbered 0 somewhere ∷ [], λ rest. one_factor o number no_factor)

pub factors_complete : (a : Expr) → Completes (ReadsFactors a)
factors_complete a = (a, [], λ rest. no_factor)

-- ---- comparisons

pub from_after : (a e : Expr) (ts vs us : List Tok) → ReadsSum a ts vs → AfterSum a e vs us → ReadsExpr e ts us
from_after a e ts vs us s no_comparison = alone s
from_after a e ts vs us s (comparison o b) = compared s o b

pub after_sum_follow : (a e : Expr) (vs us : List Tok) → AfterSum a e vs us → Follows after_expression us → Follows after_sum vs
after_sum_follow a e vs us no_comparison h = expression_to_sum us h
after_sum_follow a e vs us (comparison {op = op} {t = t} o b) h = comparison_may t.symbol op o

comparison_more : (a : Expr) (t : Tok) (op : BinOp) → comparison_of t.symbol ≡ Some op → (e : Expr) (more rest : List Tok) →
    AfterSum a e (t ∷ more) rest → Follows after_expression rest → Then ReadsSum (λ b. Done (Bin op a b)) e more rest
comparison_more a t op o e more rest no_comparison h = absurd (comparison_ends t.symbol op o h)
comparison_more a t op o e more rest (comparison {b = b} {op = op'} o' r) h =
    let f : op' ≡ op = cc in (b, rest, r, (ap (λ x. Bin x a b) f, refl))

comparison_less : (a : Expr) (t : Tok) (op : BinOp) → comparison_of t.symbol ≡ Some op → (e : Expr) (more rest : List Tok) →
    Then ReadsSum (λ b. Done (Bin op a b)) e more rest → AfterSum a e (t ∷ more) rest
comparison_less a t op o e more rest q =
    subst (λ x. AfterSum a x (t ∷ more) rest) (sym q.3.0) (comparison o (subst (λ us. ReadsSum q.0 more us) (sym q.3.1) q.2))

pub comparison_step : {old new : Ahead} (a : Expr) (op : BinOp) → comparison_of (next_of old).symbol ≡ Some op → Advanced old new →
    Still (AfterSum a) after_expression old new (Then ReadsSum (λ b. Done (Bin op a b)))
comparison_step {old = old} a op o p = step (here old) p
    (λ e more rest q. comparison_less a (next_of old) op o e more rest q)
    (λ e more rest r h. comparison_more a (next_of old) op o e more rest r h)

comparison_none : (a : Expr) (t : Tok) → comparison_of t.symbol ≡ None → (e : Expr) (more rest : List Tok) → AfterSum a e (t ∷ more) rest → Done a e (t ∷ more) rest
comparison_none a t o e more rest no_comparison = (refl, refl)
comparison_none a t o e more rest (comparison o' r) = cc

pub comparison_end : (old : Ahead) (a : Expr) → comparison_of (next_of old).symbol ≡ None → Reads (AfterSum a) after_expression old old a
comparison_end old a o = done (is (here old)
    (λ e more rest d. subst (λ x. AfterSum a x more rest) (sym d.0) (subst (λ us. AfterSum a a more us) (sym d.1) no_comparison))
    (λ e more rest r h. comparison_none a (next_of old) o e more rest r))

pub comparison_goes_on : (a : Expr) (t : Tok) (op : BinOp) → comparison_of t.symbol ≡ Some op → GoesOnWith t (AfterSum a)
comparison_goes_on a t op o = (Bin op a (Num 0), numbered 0 somewhere ∷ [], λ rest. comparison o (sum_of (product_of number no_factor) no_term))

pub after_sum_completes : (a : Expr) → Completes (AfterSum a)
after_sum_completes a = (a, [], λ rest. no_comparison)

pub compared_follows : (a e : Expr) (vs us : List Tok) → Done a e vs us → Follows after_expression us → Follows after_sum vs
compared_follows a e vs us d h = expression_to_sum vs (subst (λ ts. Follows after_expression ts) d.1 h)

-- ---- atoms

number_less : (a : Expr) (ts us : List Tok) → Then ANumber (λ k. Done (Num k)) a ts us → ReadsAtom a ts us
number_less a ts us (k, vs, a_number, (e, f)) = subst (λ x. ReadsAtom x ts us) (sym e) (subst (λ xs. ReadsAtom (Num k) ts xs) (sym f) number)

number_more : (a : Expr) (t : Tok) (k : ℕ) → t.symbol ≡ S.Number k → (more rest : List Tok) → ReadsAtom a (t ∷ more) rest → Then ANumber (λ k. Done (Num k)) a (t ∷ more) rest
number_more a t k e more rest number = (_, rest, a_number, (refl, refl))
number_more a t k e more rest name = cc
number_more a t k e more rest (element r) = cc
number_more a t k e more rest (function o r s) = cc
number_more a t k e more rest (group r) = cc

pub number_here : (old : Ahead) (k : ℕ) → (next_of old).symbol ≡ S.Number k → Still ReadsAtom after_atom old old (Then ANumber (λ k. Done (Num k)))
number_here old k e = is (here old) number_less (λ a more rest r h. number_more a (next_of old) k e more rest r)

pub name_less : (a : Expr) (ts us : List Tok) → Then AName (λ n. AfterName n.0 n.1) a ts us → ReadsAtom a ts us
name_less a ts us ((n, p), vs, a_name, bare) = name
name_less a ts us ((n, p), vs, a_name, square r) = element r
name_less a ts us ((n, p), vs, a_name, call o r s) = function o r s

pub name_more : (a : Expr) (t : Tok) (n : List ℕ) → t.symbol ≡ S.Name n → (more rest : List Tok) → ReadsAtom a (t ∷ more) rest → Then AName (λ n. AfterName n.0 n.1) a (t ∷ more) rest
name_more a t n e more rest number = cc
name_more a t n e more rest name = (_, _, a_name, bare)
name_more a t n e more rest (element r) = (_, _, a_name, square r)
name_more a t n e more rest (function o r s) = (_, _, a_name, call o r s)
name_more a t n e more rest (group r) = cc

pub name_here : (old : Ahead) (n : List ℕ) → (next_of old).symbol ≡ S.Name n → Still ReadsAtom after_atom old old (Then AName (λ n. AfterName n.0 n.1))
name_here old n e = is (here old) name_less (λ a more rest r h. name_more a (next_of old) n e more rest r)

abbrev pub Group : Expr → List Tok → List Tok → Type 0
Group = Then (Sign T.ParenOpen) (λ _. ExprThen T.ParenClose)

group_less : (a : Expr) (ts us : List Tok) → Group a ts us → ReadsAtom a ts us
group_less a ts us (p, vs, sign, (e, ws, r, (q, xs, sign, (f, g)))) = subst (λ x. ReadsAtom x ts us) (sym f) (subst (λ xs. ReadsAtom e ts xs) (sym g) (group r))

group_more : (a : Expr) (t : Tok) → ((k : ℕ) → t.symbol ≡ S.Number k → ⊥) → ((n : List ℕ) → t.symbol ≡ S.Name n → ⊥) → (more rest : List Tok) →
    ReadsAtom a (t ∷ more) rest → Group a (t ∷ more) rest
group_more a t f g more rest number = absurd (f _ refl)
group_more a t f g more rest name = absurd (g _ refl)
group_more a t f g more rest (element r) = absurd (g _ refl)
group_more a t f g more rest (function o r s) = absurd (g _ refl)
group_more a t f g more rest (group r) = (_, _, sign, (a, _, r, (_, rest, sign, (refl, refl))))

pub group_here : (old : Ahead) → ((k : ℕ) → (next_of old).symbol ≡ S.Number k → ⊥) → ((n : List ℕ) → (next_of old).symbol ≡ S.Name n → ⊥) →
    Still ReadsAtom after_atom old old Group
group_here old f g = is (here old) group_less (λ a more rest r h. group_more a (next_of old) f g more rest r)

-- ---- behind a name

pub after_name_completes : (n : List ℕ) (p : Place) → Completes (AfterName n p)
after_name_completes n p = (Var n p, [], λ rest. bare)

abbrev pub InSquare : List ℕ → Place → Expr → List Tok → List Tok → Type 0
InSquare n p = Then (Sign T.SquareOpen) (λ _. Then (ExprThen T.SquareClose) (λ e. Done (Elem n p e)))

square_less : (n : List ℕ) (p : Place) (a : Expr) (ts us : List Tok) → InSquare n p a ts us → AfterName n p a ts us
square_less n p a ts us (q, vs, sign, (i, ws, (e, xs, r, (s, ys, sign, (f, g))), (h, k))) =
    subst (λ x. AfterName n p x ts us) (sym (h ∙ ap (Elem n p) f)) (subst (λ zs. AfterName n p (Elem n p e) ts zs) (sym (k ∙ g)) (square r))

square_more : (n : List ℕ) (p : Place) (a : Expr) (t : Tok) → mark_of t.symbol ≡ Some T.SquareOpen → (more rest : List Tok) →
    AfterName n p a (t ∷ more) rest → Follows after_atom rest → InSquare n p a (t ∷ more) rest
square_more n p a t m more rest bare h = absurd (may_not after_atom T.SquareOpen refl t more m h)
square_more n p a t m more rest (square r) h = (_, _, sign, (_, rest, (_, _, r, (_, rest, sign, (refl, refl))), (refl, refl)))
square_more n p a t m more rest (call o r s) h = cc

pub square_here : (n : List ℕ) (p : Place) (old : Ahead) → mark_of (next_of old).symbol ≡ Some T.SquareOpen → Still (AfterName n p) after_atom old old (InSquare n p)
square_here n p old m = is (here old) (square_less n p) (λ a more rest r h. square_more n p a (next_of old) m more rest r h)

-- the two arguments of a function
abbrev pub InCall : BinOp → Expr → List Tok → List Tok → Type 0
InCall op = Then (Sign T.ParenOpen) (λ _. Then (ExprThen T.Comma) (λ a. Then (ExprThen T.ParenClose) (λ b. Done (Bin op a b))))

call_less : (n : List ℕ) (p : Place) (op : BinOp) → function_of n ≡ Some op → (e : Expr) (ts us : List Tok) → InCall op e ts us → AfterName n p e ts us
call_less n p op o e ts us (q, vs, sign, (i, ws, (a, xs, r, (s, ys, sign, (f, g))), (j, zs, (b, ms, l, (t, ns, sign, (h, k))), (u, v)))) =
    let ri : ReadsExpr i vs (T.Comma · s ∷ ws) = subst (λ x. ReadsExpr x vs (T.Comma · s ∷ ws)) (sym f) (subst (λ x. ReadsExpr a vs (T.Comma · s ∷ x)) (sym g) r) in
    let rj : ReadsExpr j ws (T.ParenClose · t ∷ zs) = subst (λ x. ReadsExpr x ws (T.ParenClose · t ∷ zs)) (sym h) (subst (λ x. ReadsExpr b ws (T.ParenClose · t ∷ x)) (sym k) l) in
    subst (λ x. AfterName n p x ts us) (sym u) (subst (λ x. AfterName n p (Bin op i j) ts x) (sym v) (call o ri rj))

call_more : (n : List ℕ) (p : Place) (op : BinOp) → function_of n ≡ Some op → (e : Expr) (t : Tok) → mark_of t.symbol ≡ Some T.ParenOpen → (more rest : List Tok) →
    AfterName n p e (t ∷ more) rest → Follows after_atom rest → InCall op e (t ∷ more) rest
call_more n p op o e t m more rest bare h = absurd (may_not after_atom T.ParenOpen refl t more m h)
call_more n p op o e t m more rest (square r) h = cc
call_more n p op o e t m more rest (call {op = op'} {a = a} {b = b} o' r s) h =
    let f : op' ≡ op = cc in
    (_, _, sign, (a, _, (a, _, r, (_, _, sign, (refl, refl))), (b, rest, (b, _, s, (_, rest, sign, (refl, refl))), (ap (λ x. Bin x a b) f, refl))))

pub call_here : (n : List ℕ) (p : Place) (op : BinOp) (old : Ahead) → function_of n ≡ Some op → mark_of (next_of old).symbol ≡ Some T.ParenOpen →
    Still (AfterName n p) after_atom old old (InCall op)
call_here n p op old o m = is (here old) (call_less n p op o) (λ a more rest r h. call_more n p op o a (next_of old) m more rest r h)

bare_more : (n : List ℕ) (p : Place) (a : Expr) (t : Tok) → (mark_of t.symbol ≡ Some T.SquareOpen → ⊥) → (mark_of t.symbol ≡ Some T.ParenOpen → function_of n ≡ None) →
    (more rest : List Tok) → AfterName n p a (t ∷ more) rest → Done (Var n p) a (t ∷ more) rest
bare_more n p a t f g more rest bare = (refl, refl)
bare_more n p a t f g more rest (square r) = absurd (f refl)
bare_more n p a t f g more rest (call o r s) = let h = g refl in cc

pub bare_reads : (n : List ℕ) (p : Place) (old : Ahead) → (mark_of (next_of old).symbol ≡ Some T.SquareOpen → ⊥) →
    (mark_of (next_of old).symbol ≡ Some T.ParenOpen → function_of n ≡ None) → Reads (AfterName n p) after_atom old old (Var n p)
bare_reads n p old f g = done (is (here old)
    (λ a more rest d. subst (λ x. AfterName n p x more rest) (sym d.0) (subst (λ us. AfterName n p (Var n p) more us) (sym d.1) bare))
    (λ a more rest r h. bare_more n p a (next_of old) f g more rest r))

-- the arguments of a function complete
pub in_call_completes : (op : BinOp) → Completes (Then (ExprThen T.Comma) (λ a. Then (ExprThen T.ParenClose) (λ b. Done (Bin op a b))))
in_call_completes op =
    expression_then_completes T.Comma (λ a. Then (ExprThen T.ParenClose) (λ b. Done (Bin op a b)))
    (expression_then_completes T.ParenClose (λ b. Done (Bin op (Num 0) b)) (done_completes (Bin op (Num 0) (Num 0))))

-- ---- behind an atom

pub sums_follow : (b e : Expr) (vs us : List Tok) → Then (ReadsTerms b) AfterSum e vs us → Follows after_expression us → Follows after_product vs
sums_follow b e vs us k h = terms_follow b k.0 vs k.1 k.2 (after_sum_follow k.0 e k.1 us k.3 h)

pub sums_complete : (b : Expr) → Completes (Then (ReadsTerms b) AfterSum)
sums_complete b = then_completes (ReadsTerms b) AfterSum b [] (λ rest. no_term) (after_sum_completes b)

-- ---- an expression is its first atom and what is behind it

pub expr_split : {e : Expr} {ts us : List Tok} → ReadsExpr e ts us → Then ReadsAtom AfterAtom e ts us
expr_split (alone (sum_of (product_of a f) t)) = (_, _, a, (_, _, f, (_, _, t, no_comparison)))
expr_split (compared (sum_of (product_of a f) t) o b) = (_, _, a, (_, _, f, (_, _, t, comparison o b)))

pub expr_join : {a e : Expr} {ts us vs : List Tok} → ReadsAtom a ts us → AfterAtom a e us vs → ReadsExpr e ts vs
expr_join {e = e} {ts = ts} {vs = vs} r (b, ws, f, (c, xs, t, k)) = from_after c e ts xs vs (sum_of (product_of r f) t) k

pub after_atom_follows : (a e : Expr) (us vs : List Tok) → AfterAtom a e us vs → Follows after_expression vs → Follows after_atom us
after_atom_follows a e us vs k h = factors_follow a k.0 us k.1 k.2 (sums_follow k.0 e k.1 vs k.3 h)

pub after_atom_ends : (a : Expr) (rest : List Tok) → AfterAtom a a rest rest
after_atom_ends a rest = (a, rest, no_factor, (a, rest, no_term, no_comparison))

pub after_atom_completes : (a : Expr) → Completes (AfterAtom a)
after_atom_completes a = (a, [], after_atom_ends a)

pub expression_here : (old : Ahead) → Still ReadsExpr after_expression old old (Then ReadsAtom AfterAtom)
expression_here old = is (here old) (λ e more rest q. expr_join q.2 q.3) (λ e more rest r h. expr_split r)

after_atom_none : (a : Expr) (t : Tok) → NoOperator t.symbol → (e : Expr) (more rest : List Tok) → AfterAtom a e (t ∷ more) rest → Done a e (t ∷ more) rest
after_atom_none a t n e more rest (b, us, no_factor, (c, vs, no_term, no_comparison)) = (refl, refl)
after_atom_none a t n e more rest (b, us, one_factor o p r, k) = let f = n.no_multiplicative in cc
after_atom_none a t n e more rest (b, us, no_factor, (c, vs, one_term o p r, k)) = let f = n.no_additive in cc
after_atom_none a t n e more rest (b, us, no_factor, (c, vs, no_term, comparison o r)) = let f = n.no_comparison in cc

pub atom_end : (old : Ahead) (a : Expr) → after_expression (next_of old).symbol ≡ true → Reads (AfterAtom a) after_expression old old a
atom_end old a m = done (is (here old)
    (λ e more rest d. subst (λ x. AfterAtom a x more rest) (sym d.0) (subst (λ us. AfterAtom a a more us) (sym d.1) (after_atom_ends a more)))
    (λ e more rest r h. after_atom_none a (next_of old) (no_operator (next_of old).symbol m) e more rest r))
