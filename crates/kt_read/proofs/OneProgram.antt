-- The same tokens are read as one program.
use Rattle.std.proofs.Common.{◌≡◌, ℕ, Bool, true, false, List, [], ◌∷◌, Option, Some, None, codes, refl, ap, sym, subst, ◌∙◌, cond}
use Rattle.std.specs.Str.{bytes_eq}
use Rattle.std.proofs.lemmas.Slice.Eq.{bytes_eq-Decides}
use Rattle.kt_law.specs.declared.places.Place.{Place}
use Rattle.kt_law.specs.declared.modes.Mode.{Mode}
use Rattle.kt_law.specs.declared.modes.Mode.TheVariants.{Cw, Cwp}
use Rattle.kt_prog.specs.declared.programs.Family.{Family}
use Rattle.kt_prog.specs.declared.programs.Index.{Index}
use Rattle.kt_prog.specs.declared.programs.Main.{Main}
use Rattle.kt_prog.specs.declared.programs.Param.{Param}
use Rattle.kt_prog.specs.declared.programs.Program.{Program}
use Rattle.kt_prog.specs.declared.programs.Sort.{Sort}
use Rattle.kt_prog.specs.declared.programs.Sort.TheVariants.{One, Many}
use Rattle.kt_prog.specs.declared.programs.Stmt.{Stmt}
use Rattle.kt_prog.specs.declared.programs.Task.{Task}
use Rattle.kt_tokens.specs.declared.tokens.Mark.{Mark}
use Rattle.kt_tokens.specs.declared.tokens.Mark.TheVariants as T
use Rattle.kt_tokens.specs.declared.tokens.Symbol.{Symbol}
use Rattle.kt_tokens.specs.declared.tokens.Symbol.TheVariants as S
use Rattle.kt_tokens.specs.declared.tokens.Tok.{Tok}
use Rattle.kt_tokens.specs.Tokens.{◌·◌, named, numbered}
use Rattle.kt_read.specs.Operators.{entry_of, direct_modes, direct_of, postponed_modes, postponed_of}
use Rattle.kt_read.specs.Statements.{ReadsOp, ReadsBlock}
use Rattle.kt_read.specs.Programs.{ReadsSize, single, range, ReadsFamily, family, ReadsDirect, direct, cumulative, ReadsPostponed, postponed, postponed_cumulative, ReadsParam, int, one_direct, one_postponed, many_postponed, ReadsParams, one_param, more_params, ReadsMaybeParams, no_params, some_params, ReadsTask, task, loop, ReadsMain, main, ReadsProgram, data_word, one_family, one_task, one_main, ReadsMaybe, left_out, written}
use Rattle.kt_read.proofs.Fronts.{at_front}
use Rattle.kt_read.proofs.Endings.{IsNotAt, elsewhere, same_head, same_tail, one_entry, no_entry}
use Rattle.kt_read.proofs.OneStatement.{op_is, cons_same, block_is}

-- ---- words

name_in : {n m : List ℕ} → S.Name n ≡ S.Name m → n ≡ m
name_in h = cc

number_in : {j k : ℕ} → S.Number j ≡ S.Number k → j ≡ k
number_in h = cc

name_of : {n m : List ℕ} {p q : Place} {ts us : List Tok} → named n p ∷ ts ≡ named m q ∷ us → n ≡ m
name_of h = name_in (ap (λ (t : Tok). t.symbol) (same_head h))

number_of : {j k : ℕ} {p q : Place} {ts us : List Tok} → numbered j p ∷ ts ≡ numbered k q ∷ us → j ≡ k
number_of h = number_in (ap (λ (t : Tok). t.symbol) (same_head h))

place_of : {t u : Tok} {ts us : List Tok} → t ∷ ts ≡ u ∷ us → t.place ≡ u.place
place_of h = ap (λ (t : Tok). t.place) (same_head h)

maybe_is : {w : List ℕ} {a b : Bool} {ts us xs vs : List Tok} → ReadsMaybe w a ts us → ReadsMaybe w b xs vs → ts ≡ xs → IsNotAt (S.Name w) us → IsNotAt (S.Name w) vs →
    (a ≡ b) × (us ≡ vs)
maybe_is left_out left_out h e f = (refl, h)
maybe_is left_out written h e f = absurd (e.never h)
maybe_is written left_out h e f = absurd (f.never (sym h))
maybe_is written written h e f = (refl, same_tail h)

-- the words `output` and `input` are two
input_symbol : Symbol → Bool
input_symbol (S.Name n) = bytes_eq n (codes "input")
input_symbol _ = false

others_differ : S.Name (codes "output") ≡ S.Name (codes "input") → ⊥
unfolding input_symbol
others_differ h = let e : false ≡ true = ap input_symbol h in cc

-- ---- families

size_is : {a b : Bool} {j k : ℕ} {ts us vs : List Tok} → ReadsSize a j ts us → ReadsSize b k ts vs → IsNotAt (S.Mark T.SquareOpen) us → IsNotAt (S.Mark T.SquareOpen) vs →
    (a ≡ b) × (j ≡ k) × (us ≡ vs)
size_is single single e f = (refl, refl, refl)
size_is single range e f = absurd (e.never refl)
size_is range single e f = absurd (f.never refl)
size_is range range e f = (refl, refl, refl)

no_input : {b : Bool} {t : Place} {ts us : List Tok} → ReadsMaybe (codes "output") b ts (T.Semicolon · t ∷ us) → IsNotAt (S.Name (codes "input")) ts
no_input left_out = elsewhere (λ h. cc)
no_input written = elsewhere others_differ

family_same : {n : List ℕ} {q : Place} {a b c d e f : Bool} {i j k l : ℕ} → a ≡ b → i ≡ j → k ≡ l → c ≡ d → e ≡ f →
    (let x : Family = record { name = n; place = q; many = a; members = i; elements = k; input = c; output = e } in x) ≡
    record { name = n; place = q; many = b; members = j; elements = l; input = d; output = f }
family_same h i j k l = cc

family_is : {a b : Family} {ts us vs : List Tok} → ReadsFamily a ts us → ReadsFamily b ts vs → (a ≡ b) × (us ≡ vs)
family_is (family r i o) (family s j q) =
    let h = size_is r s (elsewhere (λ h. cc)) (elsewhere (λ h. cc)) in
    let k = maybe_is i j (same_tail (same_tail h.2)) (no_input o) (no_input q) in
    let l = maybe_is o q k.1 (elsewhere (λ h. cc)) (elsewhere (λ h. cc)) in
    (family_same h.0 h.1 (number_of (same_tail h.2)) k.0 l.0, same_tail l.1)

-- ---- modes

abbrev pub AtEach : {A : Type 0} → (List ℕ → Type 0) → List (List ℕ × A) → Type 0
AtEach P [] = Unit {0}
AtEach P (row ∷ rows) = P row.0 × AtEach P rows

row_case : {A : Type 0} (P : List ℕ → Type 0) (row : List ℕ × A) (word : List ℕ) (b : Bool) {x : A} (other : Option A) → bytes_eq word row.0 ≡ b → P row.0 →
    (other ≡ Some x → P word) → cond b (Some row.1) other ≡ Some x → P word
row_case P row word true other e here there h = subst P (sym ((bytes_eq-Decides word row.0).0 e)) here
row_case P row word false other e here there h = there h

-- a word that a table has is one of the table's words
pub entry_case : {A : Type 0} (P : List ℕ → Type 0) (rows : List (List ℕ × A)) (word : List ℕ) {x : A} → AtEach P rows → entry_of rows word ≡ Some x → P word
entry_case P [] word all h = absurd (no_entry refl h)
entry_case P (row ∷ rows) word all h =
    row_case P row word (bytes_eq word row.0) (entry_of rows word) refl all.0 (λ k. entry_case P rows word all.1 k) h

-- the productions of a parameter, by its first word
data Class : Type 0 where
  IsInt : Class
  IsDirect : Class
  IsPostponed : Class

class_of : List ℕ → Option Class
class_of word =
    entry_of
    ((codes "int", IsInt) ∷ (codes "r", IsDirect) ∷ (codes "w", IsDirect) ∷ (codes "x", IsDirect) ∷ (codes "cw", IsDirect) ∷
    (codes "rp", IsPostponed) ∷ (codes "wp", IsPostponed) ∷ (codes "xp", IsPostponed) ∷ (codes "cwp", IsPostponed) ∷ []) word

abbrev class_in : Symbol → Option Class
class_in (S.Name n) = class_of n
class_in _ = None

abbrev class_at : List Tok → Option Class
class_at [] = None
class_at (t ∷ ts) = class_in t.symbol

int_class : class_of (codes "int") ≡ Some IsInt
unfolding class_of
int_class = refl

direct_class : {m : Mode} {ts us : List Tok} → ReadsDirect m ts us → class_at ts ≡ Some IsDirect
unfolding class_of direct_of
direct_class (direct {n} h) = entry_case (λ n. class_of n ≡ Some IsDirect) direct_modes n (refl, (refl, (refl, tt))) h
direct_class (cumulative o) = refl

postponed_class : {m : Mode} {ts us : List Tok} → ReadsPostponed m ts us → class_at ts ≡ Some IsPostponed
unfolding class_of postponed_of
postponed_class (postponed {n} h) = entry_case (λ n. class_of n ≡ Some IsPostponed) postponed_modes n (refl, (refl, (refl, tt))) h
postponed_class (postponed_cumulative o) = refl

pub cw_apart : direct_of (codes "cw") ≡ None
unfolding direct_of
cw_apart = refl

pub cwp_apart : postponed_of (codes "cwp") ≡ None
unfolding postponed_of
cwp_apart = refl

direct_is : {a b : Mode} {ts us xs vs : List Tok} → ReadsDirect a ts us → ReadsDirect b xs vs → ts ≡ xs → (a ≡ b) × (us ≡ vs)
direct_is (direct h) (direct k) e = (one_entry (sym (ap direct_of (name_of e)) ∙ h) k, same_tail e)
direct_is (direct h) (cumulative o) e = absurd (no_entry cw_apart (sym (ap direct_of (name_of e)) ∙ h))
direct_is (cumulative o) (direct h) e = absurd (no_entry cw_apart (ap direct_of (name_of e) ∙ h))
direct_is (cumulative o) (cumulative o2) e =
    let h = op_is o (at_front ReadsOp (same_tail (same_tail e)) o2) in (ap (λ op. Cw op) h.0, same_tail h.1)

postponed_is : {a b : Mode} {ts us xs vs : List Tok} → ReadsPostponed a ts us → ReadsPostponed b xs vs → ts ≡ xs → (a ≡ b) × (us ≡ vs)
postponed_is (postponed h) (postponed k) e = (one_entry (sym (ap postponed_of (name_of e)) ∙ h) k, same_tail e)
postponed_is (postponed h) (postponed_cumulative o) e = absurd (no_entry cwp_apart (sym (ap postponed_of (name_of e)) ∙ h))
postponed_is (postponed_cumulative o) (postponed h) e = absurd (no_entry cwp_apart (ap postponed_of (name_of e) ∙ h))
postponed_is (postponed_cumulative o) (postponed_cumulative o2) e =
    let h = op_is o (at_front ReadsOp (same_tail (same_tail e)) o2) in (ap (λ op. Cwp op) h.0, same_tail h.1)

-- ---- parameters

param_same : {p q x y : Place} {n m : List ℕ} {s t : Sort} → p ≡ q → n ≡ m → x ≡ y → s ≡ t →
    (let a : Param = record { place = p; name = n; name_place = x; sort = s } in a) ≡ record { place = q; name = m; name_place = y; sort = t }
param_same h i j k = cc

-- two words of two productions
classes : {j k : Class} {ts us : List Tok} → ts ≡ us → class_at ts ≡ Some j → class_at us ≡ Some k → Some j ≡ Some k
classes h j k = sym j ∙ ap class_at h ∙ k

int_direct : Some IsInt ≡ Some IsDirect → ⊥
int_direct h = cc

int_postponed : Some IsInt ≡ Some IsPostponed → ⊥
int_postponed h = cc

direct_postponed : Some IsDirect ≡ Some IsPostponed → ⊥
direct_postponed h = cc

param_is : {a b : Param} {ts us xs vs : List Tok} → ReadsParam a ts us → ReadsParam b xs vs → ts ≡ xs → IsNotAt (S.Mark T.SquareOpen) us → IsNotAt (S.Mark T.SquareOpen) vs →
    (a ≡ b) × (us ≡ vs)
param_is int int h e f = (param_same (place_of h) (name_of (same_tail h)) (place_of (same_tail h)) refl, same_tail (same_tail h))
param_is int (one_direct s) h e f = absurd (int_direct (classes h int_class (direct_class s)))
param_is int (one_postponed s) h e f = absurd (int_postponed (classes h int_class (postponed_class s)))
param_is int (many_postponed s) h e f = absurd (int_postponed (classes h int_class (postponed_class s)))
param_is (one_direct r) int h e f = absurd (int_direct (classes (sym h) int_class (direct_class r)))
param_is (one_direct r) (one_direct s) h e f =
    let k = direct_is r s h in (param_same (place_of h) (name_of k.1) (place_of k.1) (ap (λ m. One m) k.0), same_tail k.1)
param_is (one_direct r) (one_postponed s) h e f = absurd (direct_postponed (classes h (direct_class r) (postponed_class s)))
param_is (one_direct r) (many_postponed s) h e f = absurd (direct_postponed (classes h (direct_class r) (postponed_class s)))
param_is (one_postponed r) int h e f = absurd (int_postponed (classes (sym h) int_class (postponed_class r)))
param_is (one_postponed r) (one_direct s) h e f = absurd (direct_postponed (classes (sym h) (direct_class s) (postponed_class r)))
param_is (one_postponed r) (one_postponed s) h e f =
    let k = postponed_is r s h in (param_same (place_of h) (name_of k.1) (place_of k.1) (ap (λ m. One m) k.0), same_tail k.1)
param_is (one_postponed r) (many_postponed s) h e f = absurd (e.never (same_tail (postponed_is r s h).1))
param_is (many_postponed r) int h e f = absurd (int_postponed (classes (sym h) int_class (postponed_class r)))
param_is (many_postponed r) (one_direct s) h e f = absurd (direct_postponed (classes (sym h) (direct_class s) (postponed_class r)))
param_is (many_postponed r) (one_postponed s) h e f = absurd (f.never (sym (same_tail (postponed_is r s h).1)))
param_is (many_postponed r) (many_postponed s) h e f =
    let k = postponed_is r s h in
    (param_same (place_of h) (name_of k.1) (place_of k.1) (ap (λ m. Many m) k.0), same_tail (same_tail (same_tail k.1)))

record EndsParams (ts : List Tok) : Type 0 where
  no_square : IsNotAt (S.Mark T.SquareOpen) ts
  no_comma : IsNotAt (S.Mark T.Comma) ts

at_comma : {p : Place} {us : List Tok} → IsNotAt (S.Mark T.SquareOpen) (T.Comma · p ∷ us)
at_comma = elsewhere (λ h. cc)

params_are : {a b : List Param} {ts us vs : List Tok} → ReadsParams a ts us → ReadsParams b ts vs → EndsParams us → EndsParams vs → (a ≡ b) × (us ≡ vs)
params_are (one_param r) (one_param s) e f =
    let h = param_is r s refl e.no_square f.no_square in (cons_same h.0 refl, h.1)
params_are (one_param r) (more_params s ss) e f = absurd (e.no_comma.never (param_is r s refl e.no_square at_comma).1)
params_are (more_params r rs) (one_param s) e f = absurd (f.no_comma.never (sym (param_is r s refl at_comma f.no_square).1))
params_are (more_params r rs) (more_params s ss) e f =
    let h = param_is r s refl at_comma at_comma in
    let k = params_are rs (at_front ReadsParams (same_tail h.1) ss) e f in
    (cons_same h.0 k.0, k.1)

param_word : {a : Param} {ts us : List Tok} → ReadsParam a ts us → class_at ts ≡ None → ⊥
param_word int h = no_entry h int_class
param_word (one_direct r) h = no_entry h (direct_class r)
param_word (one_postponed r) h = no_entry h (postponed_class r)
param_word (many_postponed r) h = no_entry h (postponed_class r)

params_word : {a : List Param} {ts us : List Tok} → ReadsParams a ts us → class_at ts ≡ None → ⊥
params_word (one_param r) h = param_word r h
params_word (more_params r rs) h = param_word r h

params_end : {p : Place} {us : List Tok} → EndsParams (T.ParenClose · p ∷ us)
params_end = record { no_square = elsewhere (λ h. cc); no_comma = elsewhere (λ h. cc) }

maybe_params_are : {p q : Place} {a b : List Param} {ts us vs : List Tok} → ReadsMaybeParams a ts (T.ParenClose · p ∷ us) → ReadsMaybeParams b ts (T.ParenClose · q ∷ vs) →
    (a ≡ b) × (T.ParenClose · p ∷ us ≡ T.ParenClose · q ∷ vs)
maybe_params_are no_params no_params = (refl, refl)
maybe_params_are no_params (some_params s) = absurd (params_word s refl)
maybe_params_are (some_params r) no_params = absurd (params_word r refl)
maybe_params_are (some_params r) (some_params s) = params_are r s params_end params_end

-- ---- tasks and loops

task_same : {n : List ℕ} {q : Place} {i : Option Index} {a b : List Param} {s t : List Stmt} → a ≡ b → s ≡ t →
    (let x : Task = record { name = n; place = q; index = i; params = a; body = s } in x) ≡ record { name = n; place = q; index = i; params = b; body = t }
task_same h k = cc

task_is : {a b : Task} {ts us vs : List Tok} → ReadsTask a ts us → ReadsTask b ts vs → (a ≡ b) × (us ≡ vs)
task_is (task r b) (task s c) =
    let h = maybe_params_are r s in
    let k = block_is b (at_front ReadsBlock (same_tail h.1) c) in
    (task_same h.0 k.0, k.1)
task_is (loop r b) (loop s c) =
    let h = maybe_params_are r s in
    let k = block_is b (at_front ReadsBlock (same_tail h.1) c) in
    (task_same h.0 k.0, k.1)

-- ---- programs

abbrev main_at : Place → List Stmt → Main
main_at p stmts = record { place = p; body = stmts }

main_is : {a b : Main} {ts us vs : List Tok} → ReadsMain a ts us → ReadsMain b ts vs → (a ≡ b) × (us ≡ vs)
main_is (main {p} r) (main s) =
    let h = block_is r s in (ap (λ stmts. main_at p stmts) h.0, h.1)

-- what the next token declares
abbrev declared_in : Symbol → Mark
declared_in (S.Mark T.Object) = T.Object
declared_in (S.Mark T.Task) = T.Task
declared_in (S.Mark T.Loop) = T.Task
declared_in (S.Mark T.Main) = T.Main
declared_in _ = T.Data

abbrev declared : List Tok → Mark
declared [] = T.Data
declared (t ∷ ts) = declared_in t.symbol

family_declared : {f : Family} {ts us : List Tok} → ReadsFamily f ts us → declared ts ≡ T.Object
family_declared (family r i o) = refl

task_declared : {t : Task} {ts us : List Tok} → ReadsTask t ts us → declared ts ≡ T.Task
task_declared (task r b) = refl
task_declared (loop r b) = refl

main_declared : {m : Main} {ts us : List Tok} → ReadsMain m ts us → declared ts ≡ T.Main
main_declared (main b) = refl

data_object : T.Data ≡ T.Object → ⊥
data_object h = cc

data_task : T.Data ≡ T.Task → ⊥
data_task h = cc

data_main : T.Data ≡ T.Main → ⊥
data_main h = cc

object_task : T.Object ≡ T.Task → ⊥
object_task h = cc

object_main : T.Object ≡ T.Main → ⊥
object_main h = cc

task_main : T.Task ≡ T.Main → ⊥
task_main h = cc

add_family : {x y : Family} {p q : Program} → x ≡ y → p ≡ q → (record p { families = x ∷ p.families }) ≡ record q { families = y ∷ q.families }
add_family h k = cc

add_task : {x y : Task} {p q : Program} → x ≡ y → p ≡ q → (record p { tasks = x ∷ p.tasks }) ≡ record q { tasks = y ∷ q.tasks }
add_task h k = cc

add_main : {x y : Main} {p q : Program} → x ≡ y → p ≡ q → (record p { mains = x ∷ p.mains }) ≡ record q { mains = y ∷ q.mains }
add_main h k = cc

pub program_is : {a b : Program} {ts us vs : List Tok} → ReadsProgram a ts us → ReadsProgram b ts vs → (a ≡ b) × (us ≡ vs)
program_is data_word data_word = (refl, refl)
program_is data_word (one_family s ss) = absurd (data_object (family_declared s))
program_is data_word (one_task s ss) = absurd (data_task (task_declared s))
program_is data_word (one_main s ss) = absurd (data_main (main_declared s))
program_is (one_family r rs) data_word = absurd (data_object (family_declared r))
program_is (one_family r rs) (one_family s ss) =
    let h = family_is r s in
    let k = program_is rs (at_front ReadsProgram h.1 ss) in
    (add_family h.0 k.0, k.1)
program_is (one_family r rs) (one_task s ss) = absurd (object_task (sym (family_declared r) ∙ task_declared s))
program_is (one_family r rs) (one_main s ss) = absurd (object_main (sym (family_declared r) ∙ main_declared s))
program_is (one_task r rs) data_word = absurd (data_task (task_declared r))
program_is (one_task r rs) (one_family s ss) = absurd (object_task (sym (family_declared s) ∙ task_declared r))
program_is (one_task r rs) (one_task s ss) =
    let h = task_is r s in
    let k = program_is rs (at_front ReadsProgram h.1 ss) in
    (add_task h.0 k.0, k.1)
program_is (one_task r rs) (one_main s ss) = absurd (task_main (sym (task_declared r) ∙ main_declared s))
program_is (one_main r rs) data_word = absurd (data_main (main_declared r))
program_is (one_main r rs) (one_family s ss) = absurd (object_main (sym (family_declared s) ∙ main_declared r))
program_is (one_main r rs) (one_task s ss) = absurd (task_main (sym (task_declared s) ∙ main_declared r))
program_is (one_main r rs) (one_main s ss) =
    let h = main_is r s in
    let k = program_is rs (at_front ReadsProgram h.1 ss) in
    (add_main h.0 k.0, k.1)
