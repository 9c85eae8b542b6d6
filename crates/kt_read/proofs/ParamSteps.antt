-- What is left of parameters, step by step.
use Rattle.std.proofs.Common.{◌≡◌, ℕ, Bool, true, false, List, [], ◌∷◌, ◌++◌, Option, Some, None, codes, refl, ap, sym, subst, ◌∙◌, append_assoc}
use Rattle.std.specs.Str.{bytes_eq}
use Rattle.kt_law.specs.declared.modes.Mode.{Mode}
use Rattle.kt_law.specs.declared.places.Place.{Place}
use Rattle.kt_prog.specs.declared.programs.Param.{Param}
use Rattle.kt_prog.specs.declared.programs.Sort.{Sort}
use Rattle.kt_prog.specs.declared.programs.Sort.TheVariants.{Int, One, Many}
use Rattle.kt_tokens.specs.declared.tokens.Mark.TheVariants as T
use Rattle.kt_tokens.specs.declared.tokens.Symbol.{Symbol}
use Rattle.kt_tokens.specs.declared.tokens.Symbol.TheVariants as S
use Rattle.kt_tokens.specs.declared.tokens.Tok.{Tok}
use Rattle.kt_tokens.specs.Ahead.{Ahead, mark_of, next_of}
use Rattle.kt_tokens.specs.Reading.{Follows, Reads, Sign, sign, AName, a_name, AWord, a_word}
use Rattle.kt_tokens.specs.Tokens.{named}
use Rattle.kt_read.specs.DeclarationParts.{DirectParam, IntParam, ParamsLeft, ended, goes_on, PostponedParam, Squares, no_squares, squares, StandsAt, begins_direct, closing, not_square, one_or_many, param_at}
use Rattle.kt_read.specs.Operators.{direct_modes, direct_of, postponed_modes, postponed_of}
use Rattle.kt_read.specs.Programs.{ReadsDirect, direct, cumulative, ReadsPostponed, postponed, postponed_cumulative, ReadsParam, int, one_direct, one_postponed, many_postponed, one_param, more_params, ReadsMaybeParams, no_params, some_params}
use Rattle.kt_read.specs.Residuals.{Then, Done}
use Rattle.kt_read.proofs.OneProgram.{entry_case}
use Rattle.kt_read.proofs.OneTokens.{bars, settled}
use Rattle.kt_read.proofs.Completing.{done_completes, name_completes, sign_completes, somewhere}
use Rattle.kt_read.proofs.Still.{Still, here, is, done, Completes, then_completes}

-- ---- "[" "]"

abbrev pub SquaresOf : Bool → List Tok → List Tok → Type 0
SquaresOf = Then (Sign T.SquareOpen) (λ _. Then (Sign T.SquareClose) (λ _. Done true))

squares_less : {b : Bool} {p q : Place} {ts us vs rest : List Tok} → Sign T.SquareOpen p ts us → Sign T.SquareClose q us vs → b ≡ true → rest ≡ vs → Squares b ts rest
squares_less sign sign e f = settled Squares e f squares

squares_more : {b : Bool} {t : Tok} {more rest : List Tok} → Squares b (t ∷ more) rest → mark_of t.symbol ≡ Some T.SquareOpen → Follows not_square rest → SquaresOf b (t ∷ more) rest
squares_more {t = t} {more = more} no_squares e h = absurd (bars not_square t more T.SquareOpen e refl h)
squares_more squares e h = (_, _, sign, (_, _, sign, (refl, refl)))

pub squares_here : (old : Ahead) → mark_of (next_of old).symbol ≡ Some T.SquareOpen → Still Squares not_square old old SquaresOf
squares_here old e = is (here old)
    (λ a more rest x. squares_less x.2 x.3.2 x.3.3.0 x.3.3.1)
    (λ a more rest x h. squares_more x e h)

no_square : {b : Bool} {t : Tok} {more rest : List Tok} → Squares b (t ∷ more) rest → (mark_of t.symbol ≡ Some T.SquareOpen → ⊥) → Done false b (t ∷ more) rest
no_square no_squares f = (refl, refl)
no_square squares f = absurd (f refl)

pub no_squares_read : (old : Ahead) → (mark_of (next_of old).symbol ≡ Some T.SquareOpen → ⊥) → Reads Squares not_square old old false
no_squares_read old f = done (is (here old) (λ a more rest d. settled Squares d.0 d.1 no_squares) (λ a more rest x h. no_square x f))

pub square_end : Completes (Then (Sign T.SquareClose) (λ _. Done true))
square_end = sign_completes T.SquareClose (λ _. Done true) (done_completes true)

pub squares_end : Completes SquaresOf
squares_end = sign_completes T.SquareOpen (λ _. Then (Sign T.SquareClose) (λ _. Done true)) square_end

-- ---- the ends of a parameter

pub int_end : (place : Place) (name : List ℕ × Place) → Completes (Done (param_at place name Int))
int_end place name = done_completes (param_at place name Int)

pub int_name_end : (place : Place) → Completes (Then AName (λ name. Done (param_at place name Int)))
int_name_end place = name_completes (λ name. Done (param_at place name Int)) (int_end place ([], somewhere))

pub direct_name_end : (mode : Mode × Place) → Completes (Then AName (λ name. Done (param_at mode.1 name (One mode.0))))
direct_name_end mode = name_completes (λ name. Done (param_at mode.1 name (One mode.0))) (done_completes (param_at mode.1 ([], somewhere) (One mode.0)))

pub many_end : (mode : Mode × Place) (name : List ℕ × Place) (many : Bool) → Completes (Done (param_at mode.1 name (one_or_many many mode.0)))
many_end mode name many = done_completes (param_at mode.1 name (one_or_many many mode.0))

pub postponed_squares_end : (mode : Mode × Place) (name : List ℕ × Place) → Completes (Then Squares (λ many. Done (param_at mode.1 name (one_or_many many mode.0))))
postponed_squares_end mode name = then_completes Squares (λ many. Done (param_at mode.1 name (one_or_many many mode.0))) false [] (λ rest. no_squares) (many_end mode name false)

pub postponed_name_end : (mode : Mode × Place) → Completes (Then AName (λ name. Then Squares (λ many. Done (param_at mode.1 name (one_or_many many mode.0)))))
postponed_name_end mode = name_completes (λ name. Then Squares (λ many. Done (param_at mode.1 name (one_or_many many mode.0)))) (postponed_squares_end mode ([], somewhere))

-- ---- which parameter begins so

pub direct_begins : {m : Mode} {t : Tok} {ts us : List Tok} → ReadsDirect m (t ∷ ts) us → begins_direct t.symbol ≡ true
unfolding direct_of
direct_begins (direct {n} h) = entry_case (λ n. begins_direct (S.Name n) ≡ true) direct_modes n (refl, (refl, (refl, tt))) h
direct_begins (cumulative o) = refl

pub postponed_begins : {m : Mode} {t : Tok} {ts us : List Tok} → ReadsPostponed m (t ∷ ts) us → begins_direct t.symbol ≡ false
unfolding direct_of postponed_of
postponed_begins (postponed {n} h) = entry_case (λ n. begins_direct (S.Name n) ≡ false) postponed_modes n (refl, (refl, (refl, tt))) h
postponed_begins (postponed_cumulative o) = refl

int_begins : begins_direct (S.Name (codes "int")) ≡ false
unfolding direct_of
int_begins = refl

not_both : {b : Bool} → b ≡ true → b ≡ false → ⊥
not_both t f = cc

int_not_direct : (t : Tok) → t.symbol ≡ S.Name (codes "int") → begins_direct t.symbol ≡ false
int_not_direct t e = ap begins_direct e ∙ int_begins

postponed_int : postponed_of (codes "int") ≡ None
unfolding postponed_of
postponed_int = refl

abbrev is_int : Symbol → Bool
is_int (S.Name n) = bytes_eq n (codes "int")
is_int _ = false

int_apart : S.Name (codes "cwp") ≡ S.Name (codes "int") → ⊥
int_apart h = let e : false ≡ true = ap is_int h in absurd cc

postponed_not_int : {m : Mode} {t : Tok} {ts us : List Tok} → ReadsPostponed m (t ∷ ts) us → t.symbol ≡ S.Name (codes "int") → ⊥
postponed_not_int (postponed {n} h) e = let f : n ≡ codes "int" = cc in absurd (let g : None ≡ postponed_of n = sym (ap postponed_of f ∙ postponed_int) in let k = g ∙ h in cc)
postponed_not_int (postponed_cumulative o) e = int_apart e

-- ---- "int" NAME

int_less : {a : Param} {p : Place} {n : List ℕ × Place} {ts us vs rest : List Tok} → AWord (codes "int") p ts us → AName n us vs → a ≡ param_at p n Int → rest ≡ vs → ReadsParam a ts rest
int_less a_word a_name e f = settled ReadsParam e f int

int_more : {a : Param} {t : Tok} {more rest : List Tok} → ReadsParam a (t ∷ more) rest → t.symbol ≡ S.Name (codes "int") → IntParam a (t ∷ more) rest
int_more int e = (_, _, a_word, ((_, _), _, a_name, (refl, refl)))
int_more {t = t} (one_direct d) e = absurd (not_both (direct_begins d) (int_not_direct t e))
int_more (one_postponed d) e = absurd (postponed_not_int d e)
int_more (many_postponed d) e = absurd (postponed_not_int d e)

pub int_here : (old : Ahead) → (next_of old).symbol ≡ S.Name (codes "int") → Still ReadsParam not_square old old IntParam
int_here old e = is (here old) (λ a more rest x. int_less x.2 x.3.2 x.3.3.0 x.3.3.1) (λ a more rest x h. int_more x e)

-- ---- direct NAME

placed_at : (s : Sort) (n : List ℕ × Place) {a : Param} {p q : Place} → a ≡ param_at p n s → q ≡ p → a ≡ param_at q n s
placed_at s n e f = e ∙ ap (λ p. param_at p n s) (sym f)

direct_less : {a : Param} {m : Mode} {p : Place} {n : List ℕ × Place} (ts : List Tok) {us vs rest : List Tok} → ReadsDirect m ts us → StandsAt p ts → AName n us vs →
    a ≡ param_at p n (One m) → rest ≡ vs → ReadsParam a ts rest
direct_less [] d s n e f = absurd s
direct_less {m = m} (t ∷ ts) d s (a_name {n} {p = q}) e f = settled ReadsParam (placed_at (One m) (n, q) e s) f (one_direct d)

direct_more : {a : Param} {t : Tok} {more rest : List Tok} → ReadsParam a (t ∷ more) rest → begins_direct t.symbol ≡ true → DirectParam a (t ∷ more) rest
direct_more int e = absurd (not_both e int_begins)
direct_more {t = t} (one_direct {mode = mode} d) e = ((mode, t.place), _, record { reads = d; stands = refl }, ((_, _), _, a_name, (refl, refl)))
direct_more (one_postponed d) e = absurd (not_both e (postponed_begins d))
direct_more (many_postponed d) e = absurd (not_both e (postponed_begins d))

pub direct_here : (old : Ahead) → begins_direct (next_of old).symbol ≡ true → Still ReadsParam not_square old old DirectParam
direct_here old e = is (here old)
    (λ a more rest x. direct_less more x.2.reads x.2.stands x.3.2 x.3.3.0 x.3.3.1)
    (λ a more rest x h. direct_more x e)

-- ---- postponed NAME [ "[" "]" ]

postponed_less : {a : Param} {m : Mode} {p : Place} {n : List ℕ × Place} {b : Bool} (ts : List Tok) {us vs ws rest : List Tok} → ReadsPostponed m ts us → StandsAt p ts → AName n us vs → Squares b vs ws →
    a ≡ param_at p n (one_or_many b m) → rest ≡ ws → ReadsParam a ts rest
postponed_less [] d s n b e f = absurd s
postponed_less {m = m} (t ∷ ts) d s (a_name {n} {p = q}) no_squares e f = settled ReadsParam (placed_at (One m) (n, q) e s) f (one_postponed d)
postponed_less {m = m} (t ∷ ts) d s (a_name {n} {p = q}) squares e f = settled ReadsParam (placed_at (Many m) (n, q) e s) f (many_postponed d)

postponed_more : {a : Param} {t : Tok} {more rest : List Tok} → ReadsParam a (t ∷ more) rest → (t.symbol ≡ S.Name (codes "int") → ⊥) → begins_direct t.symbol ≡ false → PostponedParam a (t ∷ more) rest
postponed_more int f e = absurd (f refl)
postponed_more (one_direct d) f e = absurd (not_both (direct_begins d) e)
postponed_more {t = t} (one_postponed {mode = mode} d) f e = ((mode, t.place), _, record { reads = d; stands = refl }, ((_, _), _, a_name, (false, _, no_squares, (refl, refl))))
postponed_more {t = t} (many_postponed {mode = mode} d) f e = ((mode, t.place), _, record { reads = d; stands = refl }, ((_, _), _, a_name, (true, _, squares, (refl, refl))))

pub postponed_here : (old : Ahead) → ((next_of old).symbol ≡ S.Name (codes "int") → ⊥) → begins_direct (next_of old).symbol ≡ false → Still ReadsParam not_square old old PostponedParam
postponed_here old f e = is (here old)
    (λ a more rest x. let y = x.3.3 in postponed_less more x.2.reads x.2.stands x.3.2 y.2 y.3.0 y.3.1)
    (λ a more rest x h. postponed_more x f e)

-- ---- params

abbrev Passes : Bool → Type 0
Passes b = elim b [ true ↦ Unit {0} | false ↦ ⊥ ]

closing_square : (s : Symbol) → Passes (closing s) → Passes (not_square s)
closing_square (S.Mark T.SquareOpen) h = h
closing_square _ h = tt

closes : (s : Symbol) → Passes (closing s) → mark_of s ≡ Some T.ParenClose
closes (S.Mark T.ParenClose) h = refl
closes _ h = absurd h

pub closing_param : (us : List Tok) → Follows closing us → Follows not_square us
closing_param [] h = tt
closing_param (t ∷ us) h = closing_square t.symbol h

pub left_follows : {read all : List Param} {vs us : List Tok} → ParamsLeft read all vs us → Follows closing us → Follows not_square vs
left_follows {us = us} ended h = closing_param us h
left_follows (goes_on m e) h = tt

pub left_completes : (read : List Param) → Completes (ParamsLeft read)
left_completes read = (read, [], λ rest. ended)

-- the first parameter
first_less : {a : List Param} {x : Param} {ts us rest : List Tok} → ReadsParam x ts us → ParamsLeft (x ∷ []) a us rest → ReadsMaybeParams a ts rest
first_less r ended = some_params (one_param r)
first_less {x = x} {ts = ts} {rest = rest} r (goes_on m e) = subst (λ a. ReadsMaybeParams a ts rest) (sym e) (some_params (more_params r m))

first_more : {a : List Param} {t : Tok} {more rest : List Tok} → ReadsMaybeParams a (t ∷ more) rest → (mark_of t.symbol ≡ Some T.ParenClose → ⊥) → Follows closing rest →
    Then ReadsParam (λ x. ParamsLeft (x ∷ [])) a (t ∷ more) rest
first_more {t = t} no_params f h = absurd (f (closes t.symbol h))
first_more (some_params (one_param r)) f h = (_, _, r, ended)
first_more (some_params (more_params r m)) f h = (_, _, r, goes_on m refl)

pub first_here : (old : Ahead) → (mark_of (next_of old).symbol ≡ Some T.ParenClose → ⊥) → Still ReadsMaybeParams closing old old (Then ReadsParam (λ x. ParamsLeft (x ∷ [])))
first_here old f = is (here old) (λ a more rest x. first_less x.2 x.3) (λ a more rest x h. first_more x f h)

-- none
param_first : {a : Param} {t : Tok} {more rest : List Tok} → ReadsParam a (t ∷ more) rest → mark_of t.symbol ≡ None
param_first int = refl
param_first (one_direct (direct h)) = refl
param_first (one_direct (cumulative o)) = refl
param_first (one_postponed (postponed h)) = refl
param_first (one_postponed (postponed_cumulative o)) = refl
param_first (many_postponed (postponed h)) = refl
param_first (many_postponed (postponed_cumulative o)) = refl

no_mark : {A : Type 0} {m : Option A} {x : A} → m ≡ None → m ≡ Some x → ⊥
no_mark e f = cc

none_more : {a : List Param} {t : Tok} {more rest : List Tok} → ReadsMaybeParams a (t ∷ more) rest → mark_of t.symbol ≡ Some T.ParenClose → Done [] a (t ∷ more) rest
none_more no_params e = (refl, refl)
none_more (some_params (one_param r)) e = absurd (no_mark (param_first r) e)
none_more (some_params (more_params r m)) e = absurd (no_mark (param_first r) e)

pub no_params_read : (old : Ahead) → mark_of (next_of old).symbol ≡ Some T.ParenClose → Reads ReadsMaybeParams closing old old []
no_params_read old e = done (is (here old) (λ a more rest d. settled ReadsMaybeParams d.0 d.1 no_params) (λ a more rest x h. none_more x e))

-- a further one
abbrev pub FurtherParam : List Param → List Param → List Tok → List Tok → Type 0
FurtherParam read = Then ReadsParam (λ x. ParamsLeft (read ++ x ∷ []))

further_less : {read a : List Param} {p : Place} {x : Param} {ts us vs rest : List Tok} → Sign T.Comma p ts us → ReadsParam x us vs → ParamsLeft (read ++ x ∷ []) a vs rest → ParamsLeft read a ts rest
further_less sign r ended = goes_on (one_param r) refl
further_less {read = read} {x = x} sign r (goes_on {more = more} m e) = goes_on (more_params r m) (e ∙ append_assoc read (x ∷ []) more)

further_more : {read a : List Param} {t : Tok} {more rest : List Tok} → ParamsLeft read a (t ∷ more) rest → mark_of t.symbol ≡ Some T.Comma → Follows closing rest →
    Then (Sign T.Comma) (λ _. FurtherParam read) a (t ∷ more) rest
further_more {t = t} {more = more} ended e h = absurd (bars closing t more T.Comma e refl h)
further_more {read = read} (goes_on (one_param {a = x} {us = us} r) e) f h = (_, _, sign, (x, us, r, subst (λ a. ParamsLeft (read ++ x ∷ []) a us us) (sym e) ended))
further_more {read = read} (goes_on (more_params {a = x} {params = params} r m) e) f h = (_, _, sign, (x, _, r, goes_on m (e ∙ sym (append_assoc read (x ∷ []) params))))

pub further_here : {read : List Param} {old cur : Ahead} → Still ReadsMaybeParams closing old cur (ParamsLeft read) → mark_of (next_of cur).symbol ≡ Some T.Comma →
    Still ReadsMaybeParams closing old cur (Then (Sign T.Comma) (λ _. FurtherParam read))
further_here s e = is s (λ a more rest x. further_less x.2 x.3.2 x.3.3) (λ a more rest x h. further_more x e h)

any_int : (rest : List Tok) → ReadsParam (param_at somewhere ([], somewhere) Int) (named (codes "int") somewhere ∷ named [] somewhere ∷ rest) rest
any_int rest = int

pub further_completes : (read : List Param) → Completes (FurtherParam read)
further_completes read = then_completes ReadsParam (λ x. ParamsLeft (read ++ x ∷ [])) (param_at somewhere ([], somewhere) Int) (named (codes "int") somewhere ∷ named [] somewhere ∷ []) any_int
    (left_completes (read ++ param_at somewhere ([], somewhere) Int ∷ []))

-- the end
end_more : {read a : List Param} {t : Tok} {more rest : List Tok} → ParamsLeft read a (t ∷ more) rest → (mark_of t.symbol ≡ Some T.Comma → ⊥) → Done read a (t ∷ more) rest
end_more ended f = (refl, refl)
end_more (goes_on m e) f = absurd (f refl)

pub params_end : {read : List Param} {old cur : Ahead} → Still ReadsMaybeParams closing old cur (ParamsLeft read) → (mark_of (next_of cur).symbol ≡ Some T.Comma → ⊥) →
    Reads ReadsMaybeParams closing old cur read
params_end {read = read} s f = done (is s (λ a more rest d. settled (ParamsLeft read) d.0 d.1 ended) (λ a more rest x h. end_more x f))
