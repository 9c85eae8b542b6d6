-- What is left of the arguments of a fork, step by step.
use Rattle.std.proofs.Common.{◌≡◌, ℕ, Bool, List, [], ◌∷◌, ◌++◌, refl, ap, sym, subst, ◌∙◌, append_assoc, Option, Some, None, Err}
use Rattle.kt_law.specs.declared.places.Place.{Place}
use Rattle.kt_prog.specs.declared.programs.Arg.{Arg}
use Rattle.kt_prog.specs.declared.programs.ArgWhat.TheVariants.{Value, Span}
use Rattle.kt_prog.specs.declared.programs.Expr.{Expr, Num, Var, Elem}
use Rattle.kt_tokens.specs.declared.source.Unread.{Unread}
use Rattle.kt_tokens.specs.declared.source.Unread.TheVariants as U
use Rattle.kt_tokens.specs.declared.tokens.Mark.TheVariants as T
use Rattle.kt_tokens.specs.declared.tokens.Symbol.{Symbol}
use Rattle.kt_tokens.specs.declared.tokens.Symbol.TheVariants as S
use Rattle.kt_tokens.specs.declared.tokens.Tok.{Tok}
use Rattle.kt_tokens.specs.Ahead.{Ahead, next_of, mark_of}
use Rattle.kt_tokens.specs.Reading.{Follows, Reads, Refuses, Deep, Answers, Sign, sign, AName, a_name}
use Rattle.kt_tokens.specs.Tokens.{◌·◌, named}
use Rattle.kt_tokens.proofs.Moves.{heads, first_is}
use Rattle.kt_read.specs.ArgumentResiduals.{AfterArgName, in_square, in_value, AfterIndex, ranged, indexed, AfterSquare, after_arguments, MoreArgs, no_more, one_more, Forked, AfterFirst, argued, lengthy}
use Rattle.kt_read.specs.Expressions.{ReadsExpr, alone, sum_of, no_term, product_of, no_factor, ReadsAtom, number, name, element, function, group}
use Rattle.kt_read.specs.Follows.{after_atom, after_expression}
use Rattle.kt_read.specs.Residuals.{Then, Done, ExprThen, AfterName, bare, square, call, AfterAtom}
use Rattle.kt_read.specs.Statements.{ReadsArg, value, span, ReadsArgs, one_arg, more_args, ReadsMaybeArgs, no_args, some_args, ReadsForked, without_length, with_length}
use Rattle.kt_read.proofs.ExpressionSteps.{may_not, name_less, name_more, expr_split, expr_join, after_atom_follows, after_atom_ends, after_atom_completes, expression_completes, expression_then_completes}
use Rattle.kt_read.proofs.Operators.{May}
use Rattle.kt_read.proofs.Completing.{somewhere, done_completes}
use Rattle.kt_read.proofs.Still.{Still, Completes, here, is, done, stuck, then_completes}

abbrev pub valued : Place → Expr → Arg
valued p e = record { place = p; what = Value e }

no_atom : {a : Expr} {us : List Tok} → ReadsAtom a [] us → ⊥
no_atom r = elim r [ ]

no_expr : {e : Expr} {us : List Tok} → ReadsExpr e [] us → ⊥
no_expr r = let q = expr_split r in no_atom q.2

-- a bracket that closes begins no expression
closed_atom : (t : Tok) → mark_of t.symbol ≡ Some T.ParenClose → {a : Expr} {more us : List Tok} → ReadsAtom a (t ∷ more) us → ⊥
closed_atom t m number = cc
closed_atom t m name = cc
closed_atom t m (element r) = cc
closed_atom t m (function o r s) = cc
closed_atom t m (group r) = cc

closed_expr : (t : Tok) → mark_of t.symbol ≡ Some T.ParenClose → {e : Expr} {more us : List Tok} → ReadsExpr e (t ∷ more) us → ⊥
closed_expr t m r = let q = expr_split r in closed_atom t m q.2

closed_arg : (t : Tok) → mark_of t.symbol ≡ Some T.ParenClose → {a : Arg} {more us : List Tok} → ReadsArg a (t ∷ more) us → ⊥
closed_arg t m (value r) = closed_expr t m r
closed_arg t m (span r s) = cc

-- ---- an argument that begins with no name

arg_of : (e : Expr) (xs : List Tok) → ((rest : List Tok) → ReadsExpr e (xs ++ rest) rest) → (a : Arg) × ((rest : List Tok) → ReadsArg a (xs ++ rest) rest)
arg_of e [] h = absurd (no_expr (h []))
arg_of e (t ∷ ts) h = (valued t.place e, λ rest. value (h rest))

arg_value : (t : Tok) → ((n : List ℕ) → t.symbol ≡ S.Name n → ⊥) → {b : Arg} {more rest : List Tok} → ReadsArg b (t ∷ more) rest →
    Then ReadsExpr (λ e. Done (valued t.place e)) b (t ∷ more) rest
arg_value t f {rest = rest} (value {e = e} r) = (e, rest, r, (refl, refl))
arg_value t f (span r s) = absurd (f _ refl)

pub arg_reads : {may : Symbol → Bool} {old new : Ahead} {e : Expr} → ((n : List ℕ) → (next_of old).symbol ≡ S.Name n → ⊥) → Reads ReadsExpr may old new e →
    Reads ReadsArg may old new (valued (next_of old).place e)
arg_reads {may = may} {old = old} {new = new} {e = e} f r = record {
  toks = r.toks;
  moved = r.moved;
  reads = λ more.
      let q = first_is r.moved (λ none. no_expr (subst (λ ts. ReadsExpr e (ts ++ []) []) none (r.reads []))) in
      subst (λ ts. ReadsArg (valued (next_of old).place e) (ts ++ more) more) (sym q.1) (value (subst (λ ts. ReadsExpr e (ts ++ more) more) q.1 (r.reads more)));
  only = λ b more rest n h.
      let t = heads old new r.toks more r.moved in
      let q = arg_value (next_of old) f (subst (λ ts. ReadsArg b ts rest) t.1 n) in
      let o = r.only q.0 more q.1 (subst (λ ts. ReadsExpr q.0 ts q.1) (sym t.1) q.2) (subst (λ us. Follows may us) q.3.1 h) in
      (q.3.0 ∙ ap (valued (next_of old).place) o.0, q.3.1 ∙ o.1);
}

arg_refuses : {may : Symbol → Bool} {old new : Ahead} → ((n : List ℕ) → (next_of old).symbol ≡ S.Name n → ⊥) → Refuses ReadsExpr may old new → Refuses ReadsArg may old new
arg_refuses {may = may} {old = old} {new = new} f r =
    let x = arg_of r.value (r.toks ++ r.end) (λ rest. subst (λ ts. ReadsExpr r.value ts rest) (sym (append_assoc r.toks r.end rest)) (r.begins rest)) in
    record {
      toks = r.toks;
      moved = r.moved;
      value = x.0;
      end = r.end;
      begins = λ rest. subst (λ ts. ReadsArg x.0 ts rest) (append_assoc r.toks r.end rest) (x.1 rest);
      ends = λ b more rest n h.
          let t = heads old new r.toks more r.moved in
          let q = arg_value (next_of old) f (subst (λ ts. ReadsArg b ts rest) t.1 n) in
          r.ends q.0 more q.1 (subst (λ ts. ReadsExpr q.0 ts q.1) (sym t.1) q.2) (subst (λ us. Follows may us) q.3.1 h);
    }

arg_deep : {old new : Ahead} → Deep ReadsExpr old new → Deep ReadsArg old new
arg_deep {new = new} r =
    let x = arg_of r.value (r.toks ++ next_of new ∷ r.end) (λ rest. subst (λ ts. ReadsExpr r.value ts rest) (sym (append_assoc r.toks (next_of new ∷ r.end) rest)) (r.begins rest)) in
    record {
      toks = r.toks;
      moved = r.moved;
      value = x.0;
      end = r.end;
      begins = λ rest. subst (λ ts. ReadsArg x.0 ts rest) (append_assoc r.toks (next_of new ∷ r.end) rest) (x.1 rest);
      is_token = r.is_token;
      over = r.over;
    }

pub arg_fails : (may : Symbol → Bool) (old new : Ahead) (why : Unread) → ((n : List ℕ) → (next_of old).symbol ≡ S.Name n → ⊥) →
    Answers ReadsExpr may old new (Err why) → Answers ReadsArg may old new (Err why)
arg_fails may old new U.Refused f r = arg_refuses f r
arg_fails may old new U.TooDeep f r = arg_deep r
arg_fails may old new U.NoMemory f r = tt

-- ---- an argument that begins with a name

named_less : (a : Arg) (ts us : List Tok) → Then AName (λ n. AfterArgName n.0 n.1) a ts us → ReadsArg a ts us
named_less a ts us ((n, p), vs, a_name, in_square (i, ws, r, ranged s)) = span r s
named_less a ts us ((n, p), vs, a_name, in_square (i, ws, r, indexed k)) = value (expr_join (element r) k)
named_less a ts us ((n, p), vs, a_name, in_value {a = b} {us = xs} x k) = value (expr_join (name_less b ts xs ((n, p), vs, a_name, x)) k)

named_value : (t : Tok) (b e : Expr) (more us rest : List Tok) → Then AName (λ n. AfterName n.0 n.1) b (t ∷ more) us → AfterAtom b e us rest →
    Then AName (λ n. AfterArgName n.0 n.1) (valued t.place e) (t ∷ more) rest
named_value t b e more us rest ((n, p), vs, a_name, x) k = ((n, p), vs, a_name, in_value x k)

named_more : (a : Arg) (t : Tok) (n : List ℕ) → t.symbol ≡ S.Name n → (more rest : List Tok) → ReadsArg a (t ∷ more) rest →
    Then AName (λ n. AfterArgName n.0 n.1) a (t ∷ more) rest
named_more a t n e more rest (value {e = x} r) =
    let q = expr_split r in named_value t q.0 x more q.1 rest (name_more q.0 t n e more q.1 q.2) q.3
named_more a t n e more rest (span r s) = (_, _, a_name, in_square (_, _, r, ranged s))

pub arg_here : (old : Ahead) (n : List ℕ) → (next_of old).symbol ≡ S.Name n → Still ReadsArg after_expression old old (Then AName (λ n. AfterArgName n.0 n.1))
arg_here old n e = is (here old) named_less (λ a more rest r h. named_more a (next_of old) n e more rest r)

pub arg_name_completes : (n : List ℕ) (p : Place) → Completes (AfterArgName n p)
arg_name_completes n p = (valued p (Var n p), [], λ rest. in_value bare (after_atom_ends (Var n p) rest))

-- behind the name

open_less : (n : List ℕ) (p : Place) (a : Arg) (ts us : List Tok) → Then (Sign T.SquareOpen) (λ _. AfterSquare n p) a ts us → AfterArgName n p a ts us
open_less n p a ts us (q, vs, sign, k) = in_square k

open_more : (n : List ℕ) (p : Place) (a : Arg) (t : Tok) → mark_of t.symbol ≡ Some T.SquareOpen → (more rest : List Tok) →
    AfterArgName n p a (t ∷ more) rest → Follows after_expression rest → Then (Sign T.SquareOpen) (λ _. AfterSquare n p) a (t ∷ more) rest
open_more n p a t m more rest (in_square k) h = (_, _, sign, k)
open_more n p a t m more rest (in_value {e = e} bare k) h =
    absurd (may_not after_atom T.SquareOpen refl t more m (after_atom_follows (Var n p) e (t ∷ more) rest k h))
open_more n p a t m more rest (in_value (square r) k) h = (_, _, sign, (_, _, r, indexed k))
open_more n p a t m more rest (in_value (call o r s) k) h = cc

pub open_here : (n : List ℕ) (p : Place) (old : Ahead) → mark_of (next_of old).symbol ≡ Some T.SquareOpen →
    Still (AfterArgName n p) after_expression old old (Then (Sign T.SquareOpen) (λ _. AfterSquare n p))
open_here n p old m = is (here old) (open_less n p) (λ a more rest r h. open_more n p a (next_of old) m more rest r h)

abbrev pub InValue : List ℕ → Place → Arg → List Tok → List Tok → Type 0
InValue n p = Then (AfterName n p) (λ a. Then (AfterAtom a) (λ e. Done (valued p e)))

in_value_less : (n : List ℕ) (p : Place) (a : Arg) (ts us : List Tok) → InValue n p a ts us → AfterArgName n p a ts us
in_value_less n p a ts us (b, vs, x, (e, ws, k, (f, g))) =
    subst (λ y. AfterArgName n p y ts us) (sym f) (subst (λ zs. AfterArgName n p (valued p e) ts zs) (sym g) (in_value x k))

in_value_more : (n : List ℕ) (p : Place) (a : Arg) (t : Tok) → (mark_of t.symbol ≡ Some T.SquareOpen → ⊥) → (more rest : List Tok) →
    AfterArgName n p a (t ∷ more) rest → InValue n p a (t ∷ more) rest
in_value_more n p a t m more rest (in_square k) = absurd (m refl)
in_value_more n p a t m more rest (in_value {a = b} {e = e} {us = us} x k) = (b, us, x, (e, rest, k, (refl, refl)))

pub in_value_here : (n : List ℕ) (p : Place) (old : Ahead) → (mark_of (next_of old).symbol ≡ Some T.SquareOpen → ⊥) →
    Still (AfterArgName n p) after_expression old old (InValue n p)
in_value_here n p old m = is (here old) (in_value_less n p) (λ a more rest r h. in_value_more n p a (next_of old) m more rest r)

pub in_value_follow : (p : Place) (b : Expr) (a : Arg) (vs us : List Tok) → Then (AfterAtom b) (λ e. Done (valued p e)) a vs us →
    Follows after_expression us → Follows after_atom vs
in_value_follow p b a vs us k h = after_atom_follows b k.0 vs k.1 k.2 (subst (λ us. Follows after_expression us) k.3.1 h)

pub valued_follow : (p : Place) (e : Expr) (a : Arg) (vs us : List Tok) → Done (valued p e) a vs us → Follows after_expression us → Follows after_expression vs
valued_follow p e a vs us k h = subst (λ us. Follows after_expression us) k.1 h

pub valued_completes : (p : Place) (b : Expr) → Completes (Then (AfterAtom b) (λ e. Done (valued p e)))
valued_completes p b =
    let c = after_atom_completes b in then_completes (AfterAtom b) (λ e. Done (valued p e)) c.0 c.1 c.2 (done_completes (valued p c.0))

-- behind the name and the bracket

pub index_follow : (n : List ℕ) (p : Place) (i : Expr) (a : Arg) (vs us : List Tok) → AfterIndex n p i a vs us → Follows after_expression vs
index_follow n p i a vs us (ranged s) = tt
index_follow n p i a vs us (indexed k) = tt

pub index_completes : (n : List ℕ) (p : Place) (i : Expr) → Completes (AfterIndex n p i)
index_completes n p i = (valued p (Elem n p i), T.SquareClose · somewhere ∷ [], λ rest. indexed (after_atom_ends (Elem n p i) rest))

pub square_completes : (n : List ℕ) (p : Place) → Completes (AfterSquare n p)
square_completes n p = expression_completes (AfterIndex n p) (index_completes n p (Num 0))

abbrev pub spanned : List ℕ → Place → Expr → Expr → Arg
spanned n p i b = record { place = p; what = Span n p i b }

pub span_completes : (n : List ℕ) (p : Place) (i : Expr) → Completes (Then (ExprThen T.SquareClose) (λ b. Done (spanned n p i b)))
span_completes n p i = expression_then_completes T.SquareClose (λ b. Done (spanned n p i b)) (done_completes (spanned n p i (Num 0)))

abbrev pub InSpan : List ℕ → Place → Expr → Arg → List Tok → List Tok → Type 0
InSpan n p i = Then (Sign T.Dots) (λ _. Then (ExprThen T.SquareClose) (λ b. Done (spanned n p i b)))

span_less : (n : List ℕ) (p : Place) (i : Expr) (a : Arg) (ts us : List Tok) → InSpan n p i a ts us → AfterIndex n p i a ts us
span_less n p i a ts us (q, vs, sign, (j, ws, (b, xs, r, (s, ys, sign, (f, g))), (h, k))) =
    subst (λ x. AfterIndex n p i x ts us) (sym (h ∙ ap (spanned n p i) f))
    (subst (λ zs. AfterIndex n p i (spanned n p i b) ts zs) (sym (k ∙ g)) (ranged r))

span_more : (n : List ℕ) (p : Place) (i : Expr) (a : Arg) (t : Tok) → mark_of t.symbol ≡ Some T.Dots → (more rest : List Tok) →
    AfterIndex n p i a (t ∷ more) rest → InSpan n p i a (t ∷ more) rest
span_more n p i a t m more rest (ranged r) = (_, _, sign, (_, rest, (_, _, r, (_, rest, sign, (refl, refl))), (refl, refl)))
span_more n p i a t m more rest (indexed k) = cc

pub span_left : {n : List ℕ} {p : Place} {old cur : Ahead} (i : Expr) → Still (AfterSquare n p) after_expression old cur (AfterIndex n p i) →
    mark_of (next_of cur).symbol ≡ Some T.Dots → Still (AfterSquare n p) after_expression old cur (InSpan n p i)
span_left {n = n} {p = p} {cur = cur} i s m = is s (span_less n p i) (λ a more rest r h. span_more n p i a (next_of cur) m more rest r)

abbrev pub InElement : List ℕ → Place → Expr → Arg → List Tok → List Tok → Type 0
InElement n p i = Then (Sign T.SquareClose) (λ _. Then (AfterAtom (Elem n p i)) (λ e. Done (valued p e)))

element_less : (n : List ℕ) (p : Place) (i : Expr) (a : Arg) (ts us : List Tok) → InElement n p i a ts us → AfterIndex n p i a ts us
element_less n p i a ts us (q, vs, sign, (e, ws, k, (f, g))) =
    subst (λ x. AfterIndex n p i x ts us) (sym f) (subst (λ zs. AfterIndex n p i (valued p e) ts zs) (sym g) (indexed k))

element_more : (n : List ℕ) (p : Place) (i : Expr) (a : Arg) (t : Tok) → (mark_of t.symbol ≡ Some T.Dots → ⊥) → (more rest : List Tok) →
    AfterIndex n p i a (t ∷ more) rest → InElement n p i a (t ∷ more) rest
element_more n p i a t m more rest (ranged r) = absurd (m refl)
element_more n p i a t m more rest (indexed {e = e} k) = (_, _, sign, (e, rest, k, (refl, refl)))

pub element_left : {n : List ℕ} {p : Place} {old cur : Ahead} (i : Expr) → Still (AfterSquare n p) after_expression old cur (AfterIndex n p i) →
    (mark_of (next_of cur).symbol ≡ Some T.Dots → ⊥) → Still (AfterSquare n p) after_expression old cur (InElement n p i)
element_left {n = n} {p = p} {cur = cur} i s m = is s (element_less n p i) (λ a more rest r h. element_more n p i a (next_of cur) m more rest r)

-- ---- several arguments

abbrev pub CommaArg : List Arg → List Arg → List Tok → List Tok → Type 0
CommaArg read = Then (Sign T.Comma) (λ _. Then ReadsArg (λ a. MoreArgs (read ++ a ∷ [])))

comma_less : (read all : List Arg) (ts us : List Tok) → CommaArg read all ts us → MoreArgs read all ts us
comma_less read all ts us (p, vs, sign, (a, ws, r, k)) = one_more r k

comma_more : (read all : List Arg) (t : Tok) → mark_of t.symbol ≡ Some T.Comma → (more rest : List Tok) → MoreArgs read all (t ∷ more) rest →
    Follows after_arguments rest → CommaArg read all (t ∷ more) rest
comma_more read all t m more rest no_more h = absurd (may_not after_arguments T.Comma refl t more m h)
comma_more read all t m more rest (one_more {a = a} {us = us} r k) h = (_, _, sign, (a, us, r, k))

pub comma_left : {first : List Arg} {old cur : Ahead} (read : List Arg) → Still (MoreArgs first) after_arguments old cur (MoreArgs read) →
    mark_of (next_of cur).symbol ≡ Some T.Comma → Still (MoreArgs first) after_arguments old cur (CommaArg read)
comma_left {cur = cur} read s m = is s (comma_less read) (λ a more rest r h. comma_more read a (next_of cur) m more rest r h)

no_comma : (read all : List Arg) (t : Tok) → (mark_of t.symbol ≡ Some T.Comma → ⊥) → (more rest : List Tok) → MoreArgs read all (t ∷ more) rest → Done read all (t ∷ more) rest
no_comma read all t m more rest no_more = (refl, refl)
no_comma read all t m more rest (one_more r k) = absurd (m refl)

pub args_end : {first : List Arg} {old cur : Ahead} (read : List Arg) → Still (MoreArgs first) after_arguments old cur (MoreArgs read) →
    (mark_of (next_of cur).symbol ≡ Some T.Comma → ⊥) → Reads (MoreArgs first) after_arguments old cur read
args_end {cur = cur} read s m = done (is s
    (λ all more rest d. subst (λ x. MoreArgs read x more rest) (sym d.0) (subst (λ us. MoreArgs read read more us) (sym d.1) no_more))
    (λ all more rest r h. no_comma read all (next_of cur) m more rest r))

closes_may : (s : Symbol) → May after_arguments s → May after_expression s
closes_may (S.Mark T.ParenClose) h = tt
closes_may _ h = absurd h

arguments_to_expression : (us : List Tok) → Follows after_arguments us → Follows after_expression us
arguments_to_expression [] h = tt
arguments_to_expression (t ∷ us) h = closes_may t.symbol h

pub more_args_follow : (read all : List Arg) (vs us : List Tok) → MoreArgs read all vs us → Follows after_arguments us → Follows after_expression vs
more_args_follow read all vs us no_more h = arguments_to_expression us h
more_args_follow read all vs us (one_more r k) h = tt

pub more_args_complete : (read : List Arg) → Completes (MoreArgs read)
more_args_complete read = (read, [], λ rest. no_more)

-- the shortest argument
pub arg_completes : {A : Type 0} (K : Arg → A → List Tok → List Tok → Type 0) → Completes (K (valued somewhere (Var [] somewhere))) → Completes (Then ReadsArg K)
arg_completes K k =
    then_completes ReadsArg K (valued somewhere (Var [] somewhere)) (named [] somewhere ∷ [])
    (λ rest. value (alone (sum_of (product_of name no_factor) no_term))) k

-- the arguments as the grammar has them
to_more : (read : List Arg) {args : List Arg} {ts us : List Tok} → ReadsArgs args ts us → Then ReadsArg (λ a. MoreArgs (read ++ a ∷ [])) (read ++ args) ts us
to_more read {us = us} (one_arg {a = a} r) = (a, us, r, no_more)
to_more read {us = vs} (more_args {a = a} {args = args} {p = p} {us = us} r rs) =
    let m = to_more (read ++ a ∷ []) rs in
    (a, T.Comma · p ∷ us, r, subst (λ all. MoreArgs (read ++ a ∷ []) all (T.Comma · p ∷ us) vs) (append_assoc read (a ∷ []) args) (one_more m.2 m.3))

from_more : {read all : List Arg} {vs us : List Tok} → MoreArgs read all vs us → (before : List Arg) (a : Arg) → read ≡ before ++ a ∷ [] → {ts : List Tok} → ReadsArg a ts vs →
    (args : List Arg) × (all ≡ before ++ args) × ReadsArgs args ts us
from_more no_more before a e r = (a ∷ [], e, one_arg r)
from_more (one_more {a = b} r' k) before a e r =
    let q = from_more k (before ++ a ∷ []) b (ap (λ x. x ++ b ∷ []) e) r' in
    (a ∷ q.0, q.1 ∙ append_assoc before (a ∷ []) q.0, more_args r q.2)

args_from : {a : Arg} {all : List Arg} {ts vs us : List Tok} → ReadsArg a ts vs → MoreArgs (a ∷ []) all vs us → ReadsArgs all ts us
args_from {a = a} {ts = ts} {us = us} r k = let q = from_more k [] a refl r in subst (λ x. ReadsArgs x ts us) (sym q.1) q.2

closed_args : (t : Tok) → mark_of t.symbol ≡ Some T.ParenClose → {args : List Arg} {more us : List Tok} → ReadsArgs args (t ∷ more) us → ⊥
closed_args t m (one_arg r) = closed_arg t m r
closed_args t m (more_args r rs) = closed_arg t m r

-- only that bracket may follow the arguments
is_close : (s : Symbol) → (mark_of s ≡ Some T.ParenClose → ⊥) → May after_arguments s → ⊥
is_close (S.Mark T.ParenClose) m h = m refl
is_close _ m h = h

closes_only : (t : Tok) (more : List Tok) → (mark_of t.symbol ≡ Some T.ParenClose → ⊥) → Follows after_arguments (t ∷ more) → ⊥
closes_only t more m h = is_close t.symbol m h

-- [ args ]

no_args_more : (args : List Arg) (t : Tok) → mark_of t.symbol ≡ Some T.ParenClose → (more rest : List Tok) → ReadsMaybeArgs args (t ∷ more) rest → Done [] args (t ∷ more) rest
no_args_more args t m more rest no_args = (refl, refl)
no_args_more args t m more rest (some_args r) = absurd (closed_args t m r)

pub no_args_read : (old : Ahead) → mark_of (next_of old).symbol ≡ Some T.ParenClose → Reads ReadsMaybeArgs after_arguments old old []
no_args_read old m = done (is (here old)
    (λ all more rest d. subst (λ x. ReadsMaybeArgs x more rest) (sym d.0) (subst (λ us. ReadsMaybeArgs [] more us) (sym d.1) no_args))
    (λ all more rest r h. no_args_more all (next_of old) m more rest r))

some_args_more : (args : List Arg) (t : Tok) → (mark_of t.symbol ≡ Some T.ParenClose → ⊥) → (more rest : List Tok) → ReadsMaybeArgs args (t ∷ more) rest →
    Follows after_arguments rest → Then ReadsArg (λ a. MoreArgs (a ∷ [])) args (t ∷ more) rest
some_args_more args t m more rest no_args h = absurd (closes_only t more m h)
some_args_more args t m more rest (some_args r) h = to_more [] r

pub args_here : (old : Ahead) → (mark_of (next_of old).symbol ≡ Some T.ParenClose → ⊥) →
    Still ReadsMaybeArgs after_arguments old old (Then ReadsArg (λ a. MoreArgs (a ∷ [])))
args_here old m = is (here old)
    (λ all more rest q. some_args (args_from q.2 q.3))
    (λ all more rest r h. some_args_more all (next_of old) m more rest r h)

-- ---- what stands in the brackets of a fork

abbrev pub forked_of : Option Expr → List Arg → Option Expr × List Arg
forked_of l args = (l, args)

nothing_more : (l : Option Expr) (args : List Arg) (t : Tok) → mark_of t.symbol ≡ Some T.ParenClose → (more rest : List Tok) → ReadsForked l args (t ∷ more) rest →
    Done (forked_of None []) (forked_of l args) (t ∷ more) rest
nothing_more l args t m more rest (without_length no_args) = (refl, refl)
nothing_more l args t m more rest (without_length (some_args r)) = absurd (closed_args t m r)
nothing_more l args t m more rest (with_length r k) = absurd (closed_expr t m r)

pub nothing_read : (old : Ahead) → mark_of (next_of old).symbol ≡ Some T.ParenClose → Reads Forked after_arguments old old (forked_of None [])
nothing_read old m = done (is (here old)
    (λ x more rest d. subst (λ y. Forked y more rest) (sym d.0) (subst (λ us. Forked (forked_of None []) more us) (sym d.1) (without_length no_args)))
    (λ x more rest r h. nothing_more x.0 x.1 (next_of old) m more rest r))

first_less : {first : Arg} {x : Option Expr × List Arg} {ts vs us : List Tok} → ReadsArg first ts vs → AfterFirst first x vs us → Forked x ts us
first_less r (argued k) = without_length (some_args (args_from r k))
first_less {ts = ts} (value {e = e'} r) (lengthy {e = e} {p = p} {ts = xs} w k) =
    let f : e' ≡ e = cc in with_length {p = p} (subst (λ x. ReadsExpr x ts (T.Semicolon · p ∷ xs)) f r) k
first_less (span r s) (lengthy w k) = cc

first_more : (l : Option Expr) (args : List Arg) (t : Tok) → (mark_of t.symbol ≡ Some T.ParenClose → ⊥) → (more rest : List Tok) → ReadsForked l args (t ∷ more) rest →
    Follows after_arguments rest → Then ReadsArg AfterFirst (forked_of l args) (t ∷ more) rest
first_more l args t m more rest (without_length no_args) h = absurd (closes_only t more m h)
first_more l args t m more rest (without_length (some_args r)) h = let q = to_more [] r in (q.0, q.1, q.2, argued q.3)
first_more l args t m more rest (with_length {e = e} {p = p} {us = us} r k) h = (valued t.place e, T.Semicolon · p ∷ us, value r, lengthy refl k)

pub forked_here : (old : Ahead) → (mark_of (next_of old).symbol ≡ Some T.ParenClose → ⊥) → Still Forked after_arguments old old (Then ReadsArg AfterFirst)
forked_here old m = is (here old)
    (λ x more rest q. first_less q.2 q.3)
    (λ x more rest r h. first_more x.0 x.1 (next_of old) m more rest r h)

pub first_follow : (first : Arg) (x : Option Expr × List Arg) (vs us : List Tok) → AfterFirst first x vs us → Follows after_arguments us → Follows after_expression vs
first_follow first x vs us (argued {args = args} k) h = more_args_follow (first ∷ []) args vs us k h
first_follow first x vs us (lengthy w k) h = tt

pub first_completes : (first : Arg) → Completes (AfterFirst first)
first_completes first = (forked_of None (first ∷ []), [], λ rest. argued no_more)

-- behind the first argument

abbrev pub AllArgs : Arg → Option Expr × List Arg → List Tok → List Tok → Type 0
AllArgs first = Then (MoreArgs (first ∷ [])) (λ args. Done (forked_of None args))

all_less : (first : Arg) (x : Option Expr × List Arg) (ts us : List Tok) → AllArgs first x ts us → AfterFirst first x ts us
all_less first x ts us (args, vs, k, (f, g)) = subst (λ y. AfterFirst first y ts us) (sym f) (subst (λ zs. AfterFirst first (forked_of None args) ts zs) (sym g) (argued k))

all_more : (first : Arg) (x : Option Expr × List Arg) (t : Tok) → (mark_of t.symbol ≡ Some T.Semicolon → ⊥) → (more rest : List Tok) →
    AfterFirst first x (t ∷ more) rest → AllArgs first x (t ∷ more) rest
all_more first x t m more rest (argued {args = args} k) = (args, rest, k, (refl, refl))
all_more first x t m more rest (lengthy w k) = absurd (m refl)

pub all_here : (first : Arg) (old : Ahead) → (mark_of (next_of old).symbol ≡ Some T.Semicolon → ⊥) → Still (AfterFirst first) after_arguments old old (AllArgs first)
all_here first old m = is (here old) (all_less first) (λ x more rest r h. all_more first x (next_of old) m more rest r)

pub args_follow : (x : Option Expr × List Arg) (y : Option Expr × List Arg) (vs us : List Tok) → Done x y vs us → Follows after_arguments us → Follows after_arguments vs
args_follow x y vs us d h = subst (λ us. Follows after_arguments us) d.1 h

-- a `;` ends no arguments
no_semicolon : (read all : List Arg) (t : Tok) → mark_of t.symbol ≡ Some T.Semicolon → (more rest : List Tok) → MoreArgs read all (t ∷ more) rest → Follows after_arguments rest → ⊥
no_semicolon read all t m more rest no_more h = may_not after_arguments T.Semicolon refl t more m h
no_semicolon read all t m more rest (one_more r k) h = cc

abbrev pub LengthArgs : Expr → Option Expr × List Arg → List Tok → List Tok → Type 0
LengthArgs e = Then (Sign T.Semicolon) (λ _. Then ReadsMaybeArgs (λ args. Done (forked_of (Some e) args)))

length_less : (first : Arg) (e : Expr) → first.what ≡ Value e → (x : Option Expr × List Arg) (ts us : List Tok) → LengthArgs e x ts us → AfterFirst first x ts us
length_less first e w x ts us (p, vs, sign, (args, ws, k, (f, g))) =
    subst (λ y. AfterFirst first y ts us) (sym f) (subst (λ zs. AfterFirst first (forked_of (Some e) args) ts zs) (sym g) (lengthy w k))

length_more : (first : Arg) (e : Expr) → first.what ≡ Value e → (x : Option Expr × List Arg) (t : Tok) → mark_of t.symbol ≡ Some T.Semicolon → (more rest : List Tok) →
    AfterFirst first x (t ∷ more) rest → Follows after_arguments rest → LengthArgs e x (t ∷ more) rest
length_more first e w x t m more rest (argued {args = args} k) h = absurd (no_semicolon (first ∷ []) args t m more rest k h)
length_more first e w x t m more rest (lengthy {e = e'} {args = args} w' k) h =
    let f : e' ≡ e = cc in (_, _, sign, (args, rest, k, (ap (λ y. forked_of (Some y) args) f, refl)))

pub length_here : (first : Arg) (e : Expr) (old : Ahead) → first.what ≡ Value e → mark_of (next_of old).symbol ≡ Some T.Semicolon →
    Still (AfterFirst first) after_arguments old old (LengthArgs e)
length_here first e old w m = is (here old) (length_less first e w) (λ x more rest r h. length_more first e w x (next_of old) m more rest r h)

pub length_completes : (e : Expr) → Completes (Then ReadsMaybeArgs (λ args. Done (forked_of (Some e) args)))
length_completes e = then_completes ReadsMaybeArgs (λ args. Done (forked_of (Some e) args)) [] [] (λ rest. no_args) (done_completes (forked_of (Some e) []))

span_stuck : (first : Arg) (x : Option Expr × List Arg) (t : Tok) → mark_of t.symbol ≡ Some T.Semicolon → ((e : Expr) → first.what ≡ Value e → ⊥) → (more rest : List Tok) →
    AfterFirst first x (t ∷ more) rest → Follows after_arguments rest → ⊥
span_stuck first x t m f more rest (argued {args = args} k) h = no_semicolon (first ∷ []) args t m more rest k h
span_stuck first x t m f more rest (lengthy {e = e} w k) h = f e w

-- a span is no length
pub span_refused : (first : Arg) (old : Ahead) → mark_of (next_of old).symbol ≡ Some T.Semicolon → ((e : Expr) → first.what ≡ Value e → ⊥) → Refuses (AfterFirst first) after_arguments old old
span_refused first old m f = stuck (here old) (λ x more rest r h. span_stuck first x (next_of old) m f more rest r h) (first_completes first)
