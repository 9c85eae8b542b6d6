-- The same tokens are read as one expression, which ends in one place.
use Rattle.std.proofs.Common.{◌≡◌, List, refl, ap, sym}
use Rattle.kt_law.specs.declared.operators.BinOp.{BinOp}
use Rattle.kt_prog.specs.declared.programs.Expr.{Expr, Elem, Bin}
use Rattle.kt_tokens.specs.declared.tokens.Tok.{Tok}
use Rattle.kt_read.specs.Operators.{comparison_of}
use Rattle.kt_read.specs.Expressions.{ReadsExpr, alone, compared, ReadsSum, sum_of, ReadsTerms, no_term, one_term, ReadsProduct, product_of, ReadsFactors, no_factor, one_factor, ReadsAtom, number, name, element, function, group}
use Rattle.kt_read.proofs.Fronts.{at_front}
use Rattle.kt_read.proofs.Endings.{EndsAtom, EndsProduct, EndsSum, EndsExpr, same_tail, one_entry, no_entry, one_operator, not_carried, factor_ends, term_ends, comparison_ends, at_square, at_paren, at_comma}

bin_same : {x y : BinOp} {a b c d : Expr} → x ≡ y → a ≡ c → b ≡ d → Bin x a b ≡ Bin y c d
bin_same h k l = cc

pub terms_end : {a e : Expr} {us vs : List Tok} → ReadsTerms a e us vs → EndsSum vs → EndsProduct us
terms_end no_term ends = ends.product
terms_end (one_term o r rs) ends = term_ends o

pub factors_end : {a e : Expr} {us vs : List Tok} → ReadsFactors a e us vs → EndsProduct vs → EndsAtom us
factors_end no_factor ends = ends.atom
factors_end (one_factor o r rs) ends = factor_ends o

mutual
  pub expr_is : {a b : Expr} {ts us vs : List Tok} → ReadsExpr a ts us → ReadsExpr b ts vs → EndsExpr us → EndsExpr vs → (a ≡ b) × (us ≡ vs)
  expr_is (alone r) (alone s) e f = sum_is r s e.sum f.sum
  expr_is (alone r) (compared s o s2) e f = absurd (not_carried comparison_of e.no_comparison (sum_is r s e.sum (comparison_ends o)).1 o)
  expr_is (compared r o r2) (alone s) e f = absurd (not_carried comparison_of f.no_comparison (sym (sum_is r s (comparison_ends o) f.sum).1) o)
  expr_is (compared r o r2) (compared s o2 s2) e f =
      let h = sum_is r s (comparison_ends o) (comparison_ends o2) in
      let k = sum_is r2 (at_front ReadsSum (same_tail h.1) s2) e.sum f.sum in
      (bin_same (one_operator comparison_of h.1 o o2) h.0 k.0, k.1)

  pub sum_is : {a b : Expr} {ts us vs : List Tok} → ReadsSum a ts us → ReadsSum b ts vs → EndsSum us → EndsSum vs → (a ≡ b) × (us ≡ vs)
  sum_is (sum_of r rs) (sum_of s ss) e f =
      let h = product_is r s (terms_end rs e) (terms_end ss f) in
      terms_are rs (at_front (ReadsTerms _) h.1 ss) h.0 e f

  terms_are : {a b c d : Expr} {ts us vs : List Tok} → ReadsTerms a c ts us → ReadsTerms b d ts vs → a ≡ b → EndsSum us → EndsSum vs → (c ≡ d) × (us ≡ vs)
  terms_are no_term no_term h e f = (h, refl)
  terms_are no_term (one_term o s ss) h e f = absurd (no_entry e.no_term o)
  terms_are (one_term o r rs) no_term h e f = absurd (no_entry f.no_term o)
  terms_are (one_term o r rs) (one_term o2 s ss) h e f =
      let k = product_is r s (terms_end rs e) (terms_end ss f) in
      terms_are rs (at_front (ReadsTerms _) k.1 ss) (bin_same (one_entry o o2) h k.0) e f

  product_is : {a b : Expr} {ts us vs : List Tok} → ReadsProduct a ts us → ReadsProduct b ts vs → EndsProduct us → EndsProduct vs → (a ≡ b) × (us ≡ vs)
  product_is (product_of r rs) (product_of s ss) e f =
      let h = atom_is r s (factors_end rs e) (factors_end ss f) in
      factors_are rs (at_front (ReadsFactors _) h.1 ss) h.0 e f

  factors_are : {a b c d : Expr} {ts us vs : List Tok} → ReadsFactors a c ts us → ReadsFactors b d ts vs → a ≡ b → EndsProduct us → EndsProduct vs → (c ≡ d) × (us ≡ vs)
  factors_are no_factor no_factor h e f = (h, refl)
  factors_are no_factor (one_factor o s ss) h e f = absurd (no_entry e.no_factor o)
  factors_are (one_factor o r rs) no_factor h e f = absurd (no_entry f.no_factor o)
  factors_are (one_factor o r rs) (one_factor o2 s ss) h e f =
      let k = atom_is r s (factors_end rs e) (factors_end ss f) in
      factors_are rs (at_front (ReadsFactors _) k.1 ss) (bin_same (one_entry o o2) h k.0) e f

  atom_is : {a b : Expr} {ts us vs : List Tok} → ReadsAtom a ts us → ReadsAtom b ts vs → EndsAtom us → EndsAtom vs → (a ≡ b) × (us ≡ vs)
  atom_is number number e f = (refl, refl)
  atom_is name name e f = (refl, refl)
  atom_is name (element s) e f = absurd e.no_bracket
  atom_is name (function w s s2) e f = absurd e.no_bracket
  atom_is (element r) name e f = absurd f.no_bracket
  atom_is (element {n} {p} r) (element s) e f =
      let h = expr_is r s at_square at_square in (ap (λ e. Elem n p e) h.0, same_tail h.1)
  atom_is (function w r r2) name e f = absurd f.no_bracket
  atom_is (function w r r2) (function w2 s s2) e f =
      let h = expr_is r s at_comma at_comma in
      let k = expr_is r2 (at_front ReadsExpr (same_tail h.1) s2) at_paren at_paren in
      (bin_same (one_entry w w2) h.0 k.0, same_tail k.1)
  atom_is (group r) (group s) e f =
      let h = expr_is r s at_paren at_paren in (h.0, same_tail h.1)
