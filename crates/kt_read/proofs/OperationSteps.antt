-- Words of operations and modes.
use Rattle.std.proofs.Common.{◌≡◌, List, [], ◌∷◌, Some, None, codes, refl, ap, sym, ◌∙◌}
use Rattle.kt_law.specs.declared.modes.Mode.{Mode}
use Rattle.kt_law.specs.declared.modes.Mode.TheVariants.{Cw, Cwp}
use Rattle.kt_law.specs.declared.operators.Op.{Op}
use Rattle.kt_law.specs.declared.operators.Op.TheVariants as O
use Rattle.kt_law.specs.declared.places.Place.{Place}
use Rattle.kt_tokens.specs.declared.tokens.Mark.TheVariants as T
use Rattle.kt_tokens.specs.declared.tokens.Symbol.{Symbol}
use Rattle.kt_tokens.specs.declared.tokens.Symbol.TheVariants as S
use Rattle.kt_tokens.specs.declared.tokens.Tok.{Tok}
use Rattle.kt_tokens.specs.Ahead.{Ahead, next_of}
use Rattle.kt_tokens.specs.Reading.{any, Sign, sign, AWord, a_word}
use Rattle.kt_tokens.specs.Tokens.{named}
use Rattle.kt_read.specs.DeclarationParts.{Bracketed, Placed, named_in}
use Rattle.kt_read.specs.Operators.{direct_of, op_of, postponed_of}
use Rattle.kt_read.specs.Programs.{ReadsDirect, direct, cumulative, ReadsPostponed, postponed, postponed_cumulative}
use Rattle.kt_read.specs.Residuals.{Then, Done}
use Rattle.kt_read.specs.Statements.{ReadsOp, op_word}
use Rattle.kt_read.proofs.Endings.{one_entry, no_entry}
use Rattle.kt_read.proofs.OneProgram.{cw_apart, cwp_apart}
use Rattle.kt_read.proofs.OneTokens.{settled}
use Rattle.kt_read.proofs.Completing.{somewhere, done_completes, sign_completes}
use Rattle.kt_read.proofs.Still.{Still, here, is, Completes, then_completes}

-- ---- operations

op_at : (s : Symbol) (p : Place) (op : Op) → named_in op_of s ≡ Some op → (rest : List Tok) → ReadsOp op ((let t : Tok = record { symbol = s; place = p } in t) ∷ rest) rest
op_at (S.Mark m) p op e rest = absurd cc
op_at (S.Name n) p op e rest = op_word e
op_at (S.Number k) p op e rest = absurd cc
op_at S.End p op e rest = absurd cc

pub op_there : (t : Tok) (op : Op) → named_in op_of t.symbol ≡ Some op → (rest : List Tok) → ReadsOp op (t ∷ rest) rest
op_there t op e rest = op_at t.symbol t.place op e rest

pub op_only : {op b : Op} {t : Tok} {more rest : List Tok} → ReadsOp b (t ∷ more) rest → named_in op_of t.symbol ≡ Some op → (b ≡ op) × (rest ≡ more)
op_only (op_word h) e = (one_entry h e, refl)

pub op_none : {b : Op} {t : Tok} {more rest : List Tok} → ReadsOp b (t ∷ more) rest → named_in op_of t.symbol ≡ None → ⊥
op_none (op_word h) e = no_entry e h

-- the word `add`
pub add_word : Tok
add_word = named (codes "add") somewhere

pub add_there : (rest : List Tok) → ReadsOp O.Add (add_word ∷ rest) rest
unfolding add_word op_of
add_there rest = op_word refl

-- ---- "(" op ")"

abbrev pub OpThen : Op → List Tok → List Tok → Type 0
OpThen = Then ReadsOp (λ op. Then (Sign T.ParenClose) (λ _. Done op))

pub close_completes : {A : Type 0} (a : A) → Completes (Then (Sign T.ParenClose) (λ _. Done a))
close_completes a = sign_completes T.ParenClose (λ _. Done a) (done_completes a)

pub op_completes : Completes OpThen
op_completes = then_completes ReadsOp (λ op. Then (Sign T.ParenClose) (λ _. Done op)) O.Add (add_word ∷ []) (λ rest. add_there rest) (close_completes O.Add)

pub bracketed_completes : Completes Bracketed
bracketed_completes = sign_completes T.ParenOpen (λ _. OpThen) op_completes

-- ---- direct modes

direct_at : (s : Symbol) (p : Place) (mode : Mode) → named_in direct_of s ≡ Some mode → (rest : List Tok) →
    ReadsDirect mode ((let t : Tok = record { symbol = s; place = p } in t) ∷ rest) rest
direct_at (S.Mark m) p mode e rest = absurd cc
direct_at (S.Name n) p mode e rest = direct e
direct_at (S.Number k) p mode e rest = absurd cc
direct_at S.End p mode e rest = absurd cc

pub direct_there : (t : Tok) (mode : Mode) → named_in direct_of t.symbol ≡ Some mode → (rest : List Tok) → Placed ReadsDirect (mode, t.place) (t ∷ rest) rest
direct_there t mode e rest = record { reads = direct_at t.symbol t.place mode e rest; stands = refl }

pair_is : {m n : Mode} {p q : Place} → m ≡ n → p ≡ q → (let x : Mode × Place = (m, p) in x) ≡ (n, q)
pair_is e f = cc

direct_same : {mode m : Mode} {t : Tok} {more rest : List Tok} → ReadsDirect m (t ∷ more) rest → named_in direct_of t.symbol ≡ Some mode → (m ≡ mode) × (rest ≡ more)
direct_same (direct h) e = (one_entry h e, refl)
direct_same (cumulative o) e = absurd (no_entry cw_apart e)

pub direct_only : (mode : Mode) (b : Mode × Place) (t : Tok) (more rest : List Tok) → Placed ReadsDirect b (t ∷ more) rest → named_in direct_of t.symbol ≡ Some mode →
    (b ≡ (mode, t.place)) × (rest ≡ more)
direct_only mode b t more rest d e = let s = direct_same d.reads e in (pair_is s.0 (sym d.stands), s.1)

abbrev pub CwOf : Mode × Place → List Tok → List Tok → Type 0
CwOf = Then (AWord (codes "cw")) (λ place. Then Bracketed (λ op. Done (Cw op, place)))

pub cw_end : (place : Place) (op : Op) → Completes (Done {A = Mode × Place} (Cw op, place))
cw_end place op = done_completes (Cw op, place)

pub cw_op_end : (place : Place) → Completes (Then Bracketed (λ op. Done {A = Mode × Place} (Cw op, place)))
cw_op_end place = then_completes Bracketed (λ op. Done (Cw op, place)) bracketed_completes.0 bracketed_completes.1 bracketed_completes.2 (cw_end place bracketed_completes.0)

cw_less : {b : Mode × Place} {op o : Op} {p q r : Place} {ts us vs ws xs ys rest : List Tok} → AWord (codes "cw") p ts us → Sign T.ParenOpen q us vs → ReadsOp o vs ws → Sign T.ParenClose r ws xs →
    op ≡ o → ys ≡ xs → b ≡ (Cw op, p) → rest ≡ ys → Placed ReadsDirect b ts rest
cw_less {o = o} {p = p} a_word sign r sign e f g h =
    settled (Placed ReadsDirect) (g ∙ ap (λ op. (let x : Mode × Place = (Cw op, p) in x)) e) (h ∙ f) (record { reads = cumulative r; stands = refl })

cw_more : {m : Mode} {p : Place} {t : Tok} {more rest : List Tok} → ReadsDirect m (t ∷ more) rest → t.place ≡ p → named_in direct_of t.symbol ≡ None → CwOf (m, p) (t ∷ more) rest
cw_more (direct h) s e = absurd (no_entry e h)
cw_more {t = t} {rest = rest} (cumulative {op = op} o) s e = (t.place, _, a_word, (op, rest, (_, _, sign, (op, _, o, (_, _, sign, (refl, refl)))), (pair_is refl (sym s), refl)))

pub cw_here : (old : Ahead) → named_in direct_of (next_of old).symbol ≡ None → Still (Placed ReadsDirect) any old old CwOf
cw_here old e = is (here old)
    (λ a more rest x. let y = x.3.2 in let z = y.3 in let w = z.3 in cw_less x.2 y.2 z.2 w.2 w.3.0 w.3.1 x.3.3.0 x.3.3.1)
    (λ a more rest d h. cw_more d.reads d.stands e)

-- ---- postponed modes

postponed_at : (s : Symbol) (p : Place) (mode : Mode) → named_in postponed_of s ≡ Some mode → (rest : List Tok) →
    ReadsPostponed mode ((let t : Tok = record { symbol = s; place = p } in t) ∷ rest) rest
postponed_at (S.Mark m) p mode e rest = absurd cc
postponed_at (S.Name n) p mode e rest = postponed e
postponed_at (S.Number k) p mode e rest = absurd cc
postponed_at S.End p mode e rest = absurd cc

pub postponed_there : (t : Tok) (mode : Mode) → named_in postponed_of t.symbol ≡ Some mode → (rest : List Tok) → Placed ReadsPostponed (mode, t.place) (t ∷ rest) rest
postponed_there t mode e rest = record { reads = postponed_at t.symbol t.place mode e rest; stands = refl }

postponed_same : {mode m : Mode} {t : Tok} {more rest : List Tok} → ReadsPostponed m (t ∷ more) rest → named_in postponed_of t.symbol ≡ Some mode → (m ≡ mode) × (rest ≡ more)
postponed_same (postponed h) e = (one_entry h e, refl)
postponed_same (postponed_cumulative o) e = absurd (no_entry cwp_apart e)

pub postponed_only : (mode : Mode) (b : Mode × Place) (t : Tok) (more rest : List Tok) → Placed ReadsPostponed b (t ∷ more) rest → named_in postponed_of t.symbol ≡ Some mode →
    (b ≡ (mode, t.place)) × (rest ≡ more)
postponed_only mode b t more rest d e = let s = postponed_same d.reads e in (pair_is s.0 (sym d.stands), s.1)

abbrev pub CwpOf : Mode × Place → List Tok → List Tok → Type 0
CwpOf = Then (AWord (codes "cwp")) (λ place. Then Bracketed (λ op. Done (Cwp op, place)))

pub cwp_end : (place : Place) (op : Op) → Completes (Done {A = Mode × Place} (Cwp op, place))
cwp_end place op = done_completes (Cwp op, place)

pub cwp_op_end : (place : Place) → Completes (Then Bracketed (λ op. Done {A = Mode × Place} (Cwp op, place)))
cwp_op_end place = then_completes Bracketed (λ op. Done (Cwp op, place)) bracketed_completes.0 bracketed_completes.1 bracketed_completes.2 (cwp_end place bracketed_completes.0)

cwp_less : {b : Mode × Place} {op o : Op} {p q r : Place} {ts us vs ws xs ys rest : List Tok} → AWord (codes "cwp") p ts us → Sign T.ParenOpen q us vs → ReadsOp o vs ws → Sign T.ParenClose r ws xs →
    op ≡ o → ys ≡ xs → b ≡ (Cwp op, p) → rest ≡ ys → Placed ReadsPostponed b ts rest
cwp_less {o = o} {p = p} a_word sign r sign e f g h =
    settled (Placed ReadsPostponed) (g ∙ ap (λ op. (let x : Mode × Place = (Cwp op, p) in x)) e) (h ∙ f) (record { reads = postponed_cumulative r; stands = refl })

cwp_more : {m : Mode} {p : Place} {t : Tok} {more rest : List Tok} → ReadsPostponed m (t ∷ more) rest → t.place ≡ p → named_in postponed_of t.symbol ≡ None → CwpOf (m, p) (t ∷ more) rest
cwp_more (postponed h) s e = absurd (no_entry e h)
cwp_more {t = t} {rest = rest} (postponed_cumulative {op = op} o) s e = (t.place, _, a_word, (op, rest, (_, _, sign, (op, _, o, (_, _, sign, (refl, refl)))), (pair_is refl (sym s), refl)))

pub cwp_here : (old : Ahead) → named_in postponed_of (next_of old).symbol ≡ None → Still (Placed ReadsPostponed) any old old CwpOf
cwp_here old e = is (here old)
    (λ a more rest x. let y = x.3.2 in let z = y.3 in let w = z.3 in cwp_less x.2 y.2 z.2 w.2 w.3.0 w.3.1 x.3.3.0 x.3.3.1)
    (λ a more rest d h. cwp_more d.reads d.stands e)
