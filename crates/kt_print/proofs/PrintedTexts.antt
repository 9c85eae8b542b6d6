-- The text of an infix operator, and texts one after another.
use Rattle.std.proofs.Common.{◌≡◌, ℕ, suc, ◌+◌, ◌<◌, List, ◌∷◌, ◌++◌, length, get_or, drop, map, Bool, Result, OnOk, codes, ap, sym, ◌∙◌, refl, append_assoc, add-one, drop-cons}
use Rattle.std.proofs.lemmas.Result.{on_ok_weaker}
use Rattle.kt_law.specs.declared.operators.BinOp.{BinOp}
use Rattle.kt_prog.specs.declared.programs.Expr.{Expr, Bin, fold-roll-Expr}
use Rattle.kt_prog.specs.declared.programs.Expr.TheVariants.{rolls-Bin}
use Rattle.kt_prog.specs.declared.programs.Expr.TheOpen as E
use Rattle.kt_print.specs.declared.printing.operators.Level.{Level}
use Rattle.kt_print.specs.declared.printing.operators.Level.TheVariants.{Comparison, Sum, Product, Atom}
use Rattle.kt_print.specs.CanonicalWords.{listed}
use Rattle.kt_print.specs.CanonicalExpressions.{Printed, applied_text, expr_text, left_grouped, level_of, operand_text, print_layer, printed, right_grouped, sign_of}

-- an operator that makes no atom is infix
abbrev pub infix_text : Level → List ℕ → Printed → Printed → List ℕ
infix_text level sign a b =
    operand_text (left_grouped level a.level) a.text ++
    (codes " " ++ (sign ++ (codes " " ++ operand_text (right_grouped level b.level) b.text)))

applied_infix : (level : Level) (sign : List ℕ) (a b : Printed) → (level ≡ Atom → ⊥) → applied_text level sign a b ≡ infix_text level sign a b
applied_infix Comparison sign a b other = refl
applied_infix Sum sign a b other = refl
applied_infix Product sign a b other = refl
applied_infix Atom sign a b other = absurd (other refl)

pub infix_is : (op : BinOp) (a b : Expr) → (level_of op ≡ Atom → ⊥) → expr_text (Bin op a b) ≡ infix_text (level_of op) (sign_of op) (printed a) (printed b)
infix_is op a b other =
    ap expr_text (sym (rolls-Bin op a b)) ∙ ap (λ (p : Printed). p.text) (fold-roll-Expr Printed print_layer (E.Bin op a b))
    ∙ applied_infix (level_of op) (sign_of op) (printed a) (printed b) other

joins : (old left sign right one two : List ℕ) → one ≡ old ++ left → two ≡ one ++ (codes " " ++ (sign ++ codes " ")) →
    two ++ right ≡ old ++ (left ++ (codes " " ++ (sign ++ (codes " " ++ right))))
joins old left sign right one two o t = rw (t, o) (simp append_assoc refl)

-- the same of any e that it is, with the tests and the operands as a call finds them
pub infix_joined : {T E : Type 0} (r : Result T E) (e a b x y : Expr) (op : BinOp) (level lx ly : Level) (gx gy : Bool) (old one two new : List ℕ) →
    e ≡ Bin op a b → (level ≡ Atom → ⊥) → level ≡ level_of op → x ≡ a → y ≡ b → lx ≡ (printed x).level → ly ≡ (printed y).level →
    gx ≡ left_grouped level lx → gy ≡ right_grouped level ly → one ≡ old ++ operand_text gx (expr_text x) →
    two ≡ one ++ (codes " " ++ (sign_of op ++ codes " ")) → OnOk r (new ≡ two ++ operand_text gy (expr_text y)) → OnOk r (new ≡ old ++ expr_text e)
infix_joined r e a b x y op level lx ly gx gy old one two new is other of_op xa yb lxa lyb gxa gyb o t n =
    let whole : expr_text e ≡ infix_text (level_of op) (sign_of op) (printed a) (printed b) = ap expr_text is ∙ infix_is op a b (λ h. other (of_op ∙ h)) in
    let left : List ℕ = operand_text (left_grouped (level_of op) (printed a).level) (expr_text a) in
    let right : List ℕ = operand_text (right_grouped (level_of op) (printed b).level) (expr_text b) in
    let l : operand_text gx (expr_text x) ≡ left = rw (gxa, lxa, of_op, xa) refl in
    let k : operand_text gy (expr_text y) ≡ right = rw (gyb, lyb, of_op, yb) refl in
    let joined : two ++ right ≡ old ++ infix_text (level_of op) (sign_of op) (printed a) (printed b) = joins old left (sign_of op) right one two (o ∙ ap (λ xs. old ++ xs) l) t in
    on_ok_weaker r (λ h. h ∙ ap (λ xs. two ++ xs) k ∙ joined ∙ ap (λ xs. old ++ xs) (sym whole)) n

-- one more text of a list
pub listed_more : {A : Type 0} (f : A → List ℕ) (xs : List A) (x : A) (i : ℕ) (lead text one two whole : List ℕ) → i < length xs → x ≡ get_or xs i x →
    one ≡ text ++ lead → two ≡ one ++ f x → text ++ listed lead (map f (drop i xs)) ≡ whole →
    two ++ listed (codes ", ") (map f (drop (i + 1) xs)) ≡ whole
listed_more f xs x i lead text one two whole within is o t so_far =
    let rest : List ℕ = listed (codes ", ") (map f (drop (i + 1) xs)) in
    let next : drop i xs ≡ x ∷ drop (i + 1) xs = rw (add-one, drop-cons xs i x) (ap (λ y. y ∷ drop (suc i) xs) (sym is)) in
    let joined : two ++ rest ≡ text ++ (lead ++ (f x ++ rest)) = rw (t, o) (simp append_assoc refl) in
    joined ∙ ap (λ ys. text ++ listed lead (map f ys)) (sym next) ∙ so_far
