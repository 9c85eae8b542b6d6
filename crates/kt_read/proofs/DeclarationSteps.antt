-- What is left of a declaration, step by step.
use Rattle.std.proofs.Common.{◌≡◌, ℕ, Bool, true, false, List, [], ◌∷◌, Option, Some, None, codes, refl, ap, not}
use Rattle.std.proofs.lemmas.Slice.Eq.{bytes_eq-Decides}
use Rattle.kt_law.specs.declared.places.Place.{Place}
use Rattle.kt_prog.specs.declared.programs.Family.{Family}
use Rattle.kt_prog.specs.declared.programs.Index.{Index}
use Rattle.kt_prog.specs.declared.programs.Main.{Main}
use Rattle.kt_prog.specs.declared.programs.Param.{Param}
use Rattle.kt_prog.specs.declared.programs.Stmt.{Stmt}
use Rattle.kt_prog.specs.declared.programs.Task.{Task}
use Rattle.kt_tokens.specs.declared.tokens.Mark.TheVariants as T
use Rattle.kt_tokens.specs.declared.tokens.Symbol.TheVariants as S
use Rattle.kt_tokens.specs.declared.tokens.Tok.{Tok}
use Rattle.kt_tokens.specs.Ahead.{Ahead, mark_of, next_of}
use Rattle.kt_tokens.specs.Reading.{Follows, any, Reads, Sign, sign, AName, a_name, AWord, a_word, ANumber, a_number}
use Rattle.kt_tokens.specs.Tokens.{◌·◌}
use Rattle.kt_read.specs.declared.reader.declarations.Declared.{Declared}
use Rattle.kt_read.specs.declared.reader.declarations.Declared.TheVariants as D
use Rattle.kt_read.specs.DeclarationParts.{LoopOf, Outset, ReadsDeclaration, family, task, main, Sized, TaskOf, closing, not_square, not_word}
use Rattle.kt_read.specs.Programs as P
use Rattle.kt_read.specs.Programs.{ReadsSize, single, range, ReadsFamily, ReadsMaybeParams, no_params, ReadsTask, ReadsMain, ReadsMaybe, left_out, written}
use Rattle.kt_read.specs.Residuals.{Then, Done}
use Rattle.kt_read.specs.Statements.{ReadsBlock, block, no_stmt}
use Rattle.kt_read.proofs.OneTokens.{bars, bars_word, settled}
use Rattle.kt_read.proofs.Completing.{done_completes, name_completes, sign_completes, somewhere, number_completes, word_completes}
use Rattle.kt_read.proofs.Still.{Still, here, is, done, Completes, then_completes}

-- ---- [ "[" NUMBER "]" ]

abbrev pub sized : ℕ → Bool × ℕ
sized members = (true, members)

abbrev pub SizeOf : Bool × ℕ → List Tok → List Tok → Type 0
SizeOf = Then (Sign T.SquareOpen) (λ _. Then ANumber (λ members. Then (Sign T.SquareClose) (λ _. Done (sized members))))

pub size_close_end : (members : ℕ) → Completes (Then (Sign T.SquareClose) (λ _. Done (sized members)))
size_close_end members = sign_completes T.SquareClose (λ _. Done (sized members)) (done_completes (sized members))

pub size_number_end : Completes (Then ANumber (λ members. Then (Sign T.SquareClose) (λ _. Done (sized members))))
size_number_end = number_completes (λ members. Then (Sign T.SquareClose) (λ _. Done (sized members))) (size_close_end 0)

size_less : {a : Bool × ℕ} {p q : Place} {k : ℕ} {ts us vs ws rest : List Tok} → Sign T.SquareOpen p ts us → ANumber k us vs → Sign T.SquareClose q vs ws → a ≡ sized k → rest ≡ ws → Sized a ts rest
size_less sign a_number sign e f = settled Sized e f range

size_more : {b : Bool} {k : ℕ} {t : Tok} {more rest : List Tok} → ReadsSize b k (t ∷ more) rest → mark_of t.symbol ≡ Some T.SquareOpen → Follows not_square rest → SizeOf (b, k) (t ∷ more) rest
size_more {t = t} {more = more} single e h = absurd (bars not_square t more T.SquareOpen e refl h)
size_more range e h = (_, _, sign, (_, _, a_number, (_, _, sign, (refl, refl))))

pub size_here : (old : Ahead) → mark_of (next_of old).symbol ≡ Some T.SquareOpen → Still Sized not_square old old SizeOf
size_here old e = is (here old) (λ a more rest x. let y = x.3.3 in size_less x.2 x.3.2 y.2 y.3.0 y.3.1) (λ a more rest x h. size_more x e h)

no_size : {b : Bool} {k : ℕ} {t : Tok} {more rest : List Tok} → ReadsSize b k (t ∷ more) rest → (mark_of t.symbol ≡ Some T.SquareOpen → ⊥) → Done {A = Bool × ℕ} (false, 1) (b, k) (t ∷ more) rest
no_size single f = (refl, refl)
no_size range f = absurd (f refl)

pub no_size_read : (old : Ahead) → (mark_of (next_of old).symbol ≡ Some T.SquareOpen → ⊥) → Reads Sized not_square old old (false, 1)
no_size_read old f = done (is (here old) (λ a more rest d. settled Sized d.0 d.1 single) (λ a more rest x h. no_size x f))

-- ---- [ word ]

abbrev pub WordOf : List ℕ → Bool → List Tok → List Tok → Type 0
WordOf word = Then (AWord word) (λ _. Done true)

maybe_less : {word : List ℕ} {b : Bool} {p : Place} {ts us rest : List Tok} → AWord word p ts us → b ≡ true → rest ≡ us → ReadsMaybe word b ts rest
maybe_less {word = word} a_word e f = settled (ReadsMaybe word) e f written

barred : (word : List ℕ) → not_word word (S.Name word) ≡ false
barred word = ap not ((bytes_eq-Decides word word).1 refl)

maybe_more : {word : List ℕ} {b : Bool} {t : Tok} {more rest : List Tok} → ReadsMaybe word b (t ∷ more) rest → t.symbol ≡ S.Name word → Follows (not_word word) rest → WordOf word b (t ∷ more) rest
maybe_more {word = word} {t = t} {more = more} left_out e h = absurd (bars_word (not_word word) t more word e (barred word) h)
maybe_more written e h = (_, _, a_word, (refl, refl))

pub maybe_here : (word : List ℕ) (old : Ahead) → (next_of old).symbol ≡ S.Name word → Still (ReadsMaybe word) (not_word word) old old (WordOf word)
maybe_here word old e = is (here old) (λ a more rest x. maybe_less x.2 x.3.0 x.3.1) (λ a more rest x h. maybe_more x e h)

no_word : {word : List ℕ} {b : Bool} {t : Tok} {more rest : List Tok} → ReadsMaybe word b (t ∷ more) rest → (t.symbol ≡ S.Name word → ⊥) → Done false b (t ∷ more) rest
no_word left_out f = (refl, refl)
no_word written f = absurd (f refl)

pub no_word_read : (word : List ℕ) (old : Ahead) → ((next_of old).symbol ≡ S.Name word → ⊥) → Reads (ReadsMaybe word) (not_word word) old old false
no_word_read word old f = done (is (here old) (λ a more rest d. settled (ReadsMaybe word) d.0 d.1 left_out) (λ a more rest x h. no_word x f))

-- ---- families

abbrev pub family_at : List ℕ × Place → Bool × ℕ → ℕ → Bool → Bool → Family
family_at name size elements input output =
    record { name = name.0; place = name.1; many = size.0; members = size.1; elements = elements; input = input; output = output }

abbrev pub FamilyEnd : List ℕ × Place → Bool × ℕ → ℕ → Bool → Bool → Family → List Tok → List Tok → Type 0
FamilyEnd name size elements input output = Then (Sign T.Semicolon) (λ _. Done (family_at name size elements input output))

abbrev pub FamilyOutput : List ℕ × Place → Bool × ℕ → ℕ → Bool → Family → List Tok → List Tok → Type 0
FamilyOutput name size elements input = Then (ReadsMaybe (codes "output")) (λ output. FamilyEnd name size elements input output)

abbrev pub FamilyInput : List ℕ × Place → Bool × ℕ → ℕ → Family → List Tok → List Tok → Type 0
FamilyInput name size elements = Then (ReadsMaybe (codes "input")) (λ input. FamilyOutput name size elements input)

abbrev pub FamilyElements : List ℕ × Place → Bool × ℕ → Family → List Tok → List Tok → Type 0
FamilyElements name size = Then ANumber (λ elements. FamilyInput name size elements)

abbrev pub FamilyOfWord : List ℕ × Place → Bool × ℕ → Family → List Tok → List Tok → Type 0
FamilyOfWord name size = Then (AWord (codes "of")) (λ _. FamilyElements name size)

abbrev pub FamilySize : List ℕ × Place → Family → List Tok → List Tok → Type 0
FamilySize name = Then Sized (λ size. FamilyOfWord name size)

abbrev pub FamilyName : Family → List Tok → List Tok → Type 0
FamilyName = Then AName (λ name. FamilySize name)

pub family_end : (name : List ℕ × Place) (size : Bool × ℕ) (elements : ℕ) (input output : Bool) → Completes (FamilyEnd name size elements input output)
family_end name size elements input output =
    sign_completes T.Semicolon (λ _. Done (family_at name size elements input output)) (done_completes (family_at name size elements input output))

pub family_output_end : (name : List ℕ × Place) (size : Bool × ℕ) (elements : ℕ) (input : Bool) → Completes (FamilyOutput name size elements input)
family_output_end name size elements input =
    then_completes (ReadsMaybe (codes "output")) (λ output. FamilyEnd name size elements input output) false [] (λ rest. left_out) (family_end name size elements input false)

pub family_input_end : (name : List ℕ × Place) (size : Bool × ℕ) (elements : ℕ) → Completes (FamilyInput name size elements)
family_input_end name size elements =
    then_completes (ReadsMaybe (codes "input")) (λ input. FamilyOutput name size elements input) false [] (λ rest. left_out) (family_output_end name size elements false)

pub family_elements_end : (name : List ℕ × Place) (size : Bool × ℕ) → Completes (FamilyElements name size)
family_elements_end name size = number_completes (λ elements. FamilyInput name size elements) (family_input_end name size 0)

pub family_of_end : (name : List ℕ × Place) (size : Bool × ℕ) → Completes (FamilyOfWord name size)
family_of_end name size = word_completes (codes "of") (λ _. FamilyElements name size) (family_elements_end name size)

pub family_size_end : (name : List ℕ × Place) → Completes (FamilySize name)
family_size_end name = then_completes Sized (λ size. FamilyOfWord name size) (false, 1) [] (λ rest. single) (family_of_end name (false, 1))

pub family_name_end : Completes FamilyName
family_name_end = name_completes (λ name. FamilySize name) (family_size_end ([], somewhere))

family_less : {a : Family} {p q r : Place} {n : List ℕ × Place} {s : Bool × ℕ} {k : ℕ} {i o : Bool} {ts us vs ws xs ys zs cs bs rest : List Tok} →
    Sign T.Object p ts us → AName n us vs → Sized s vs ws → AWord (codes "of") q ws xs → ANumber k xs ys → ReadsMaybe (codes "input") i ys zs → ReadsMaybe (codes "output") o zs cs →
    Sign T.Semicolon r cs bs → a ≡ family_at n s k i o → rest ≡ bs → ReadsFamily a ts rest
family_less sign a_name s a_word a_number i o sign e f = settled ReadsFamily e f (P.family s i o)

family_more : {a : Family} {t : Tok} {more rest : List Tok} → ReadsFamily a (t ∷ more) rest → Then (Sign T.Object) (λ _. FamilyName) a (t ∷ more) rest
family_more (P.family {n = n} {q = q} {many = many} {m = m} s i o) = (_, _, sign, ((n, q), _, a_name, ((many, m), _, s, (_, _, a_word, (_, _, a_number, (_, _, i, (_, _, o, (_, _, sign, (refl, refl)))))))))

pub family_here : (old : Ahead) → Still ReadsFamily any old old (Then (Sign T.Object) (λ _. FamilyName))
family_here old = is (here old)
    (λ a more rest x. let n = x.3 in let s = n.3 in let w = s.3 in let k = w.3 in let i = k.3 in let o = i.3 in let z = o.3 in
    family_less x.2 n.2 s.2 w.2 k.2 i.2 o.2 z.2 z.3.0 z.3.1)
    (λ a more rest x h. family_more x)

pub size_follows : {word : List ℕ} {p : Place} {vs us : List Tok} → AWord word p vs us → Follows not_square vs
size_follows a_word = tt

pub output_follows : {p : Place} {vs us : List Tok} → Sign T.Semicolon p vs us → Follows (not_word (codes "output")) vs
output_follows sign = tt

pub input_follows : {b : Bool} {p : Place} {vs us ws : List Tok} → ReadsMaybe (codes "output") b vs us → Sign T.Semicolon p us ws → Follows (not_word (codes "input")) vs
input_follows left_out sign = tt
input_follows written sign = tt

-- ---- tasks and loops

pub block_there : (rest : List Tok) → ReadsBlock [] (T.BraceOpen · somewhere ∷ T.BraceClose · somewhere ∷ rest) rest
block_there rest = block no_stmt

abbrev pub block_tokens : List Tok
block_tokens = T.BraceOpen · somewhere ∷ T.BraceClose · somewhere ∷ []

abbrev pub task_at : List ℕ × Place → Option Index → List Param → List Stmt → Task
task_at name index params body = record { name = name.0; place = name.1; index = index; params = params; body = body }

abbrev pub TaskBody : List ℕ × Place → Option Index → List Param → Task → List Tok → List Tok → Type 0
TaskBody name index params = Then ReadsBlock (λ body. Done (task_at name index params body))

abbrev pub TaskClose : List ℕ × Place → Option Index → List Param → Task → List Tok → List Tok → Type 0
TaskClose name index params = Then (Sign T.ParenClose) (λ _. TaskBody name index params)

pub task_body_end : (name : List ℕ × Place) (index : Option Index) (params : List Param) → Completes (TaskBody name index params)
task_body_end name index params = then_completes ReadsBlock (λ body. Done (task_at name index params body)) [] block_tokens block_there (done_completes (task_at name index params []))

pub task_close_end : (name : List ℕ × Place) (index : Option Index) (params : List Param) → Completes (TaskClose name index params)
task_close_end name index params = sign_completes T.ParenClose (λ _. TaskBody name index params) (task_body_end name index params)

pub outset_end : (name : List ℕ × Place) (index : Option Index) → Completes (Outset name index)
outset_end name index = then_completes ReadsMaybeParams (λ params. TaskClose name index params) [] [] (λ rest. no_params) (task_close_end name index [])

pub params_follow : {p : Place} {vs us : List Tok} → Sign T.ParenClose p vs us → Follows closing vs
params_follow sign = tt

abbrev pub TaskOpen : List ℕ × Place → Task → List Tok → List Tok → Type 0
TaskOpen name = Then (Sign T.ParenOpen) (λ _. Outset name None)

abbrev pub TaskName : Task → List Tok → List Tok → Type 0
TaskName = Then AName (λ name. TaskOpen name)

pub task_open_end : (name : List ℕ × Place) → Completes (TaskOpen name)
task_open_end name = sign_completes T.ParenOpen (λ _. Outset name None) (outset_end name None)

pub task_name_end : Completes TaskName
task_name_end = name_completes (λ name. TaskOpen name) (task_open_end ([], somewhere))

abbrev pub index_at : List ℕ × Place → Option Index
index_at index = Some (record { name = index.0; place = index.1 })

abbrev pub LoopSemicolon : List ℕ × Place → List ℕ × Place → Task → List Tok → List Tok → Type 0
LoopSemicolon name index = Then (Sign T.Semicolon) (λ _. Outset name (index_at index))

abbrev pub LoopIndex : List ℕ × Place → Task → List Tok → List Tok → Type 0
LoopIndex name = Then AName (λ index. LoopSemicolon name index)

abbrev pub LoopOpen : List ℕ × Place → Task → List Tok → List Tok → Type 0
LoopOpen name = Then (Sign T.ParenOpen) (λ _. LoopIndex name)

pub loop_semicolon_end : (name index : List ℕ × Place) → Completes (LoopSemicolon name index)
loop_semicolon_end name index = sign_completes T.Semicolon (λ _. Outset name (index_at index)) (outset_end name (index_at index))

pub loop_index_end : (name : List ℕ × Place) → Completes (LoopIndex name)
loop_index_end name = name_completes (λ index. LoopSemicolon name index) (loop_semicolon_end name ([], somewhere))

pub loop_open_end : (name : List ℕ × Place) → Completes (LoopOpen name)
loop_open_end name = sign_completes T.ParenOpen (λ _. LoopIndex name) (loop_index_end name)

pub loop_name_end : Completes (Then AName (λ name. LoopOpen name))
loop_name_end = name_completes (λ name. LoopOpen name) (loop_open_end ([], somewhere))

-- ---- main

abbrev pub main_at : Place → List Stmt → Main
main_at place body = record { place = place; body = body }

abbrev pub MainOf : Main → List Tok → List Tok → Type 0
MainOf = Then (Sign T.Main) (λ place. Then ReadsBlock (λ body. Done (main_at place body)))

pub main_body_end : (place : Place) → Completes (Then ReadsBlock (λ body. Done (main_at place body)))
main_body_end place = then_completes ReadsBlock (λ body. Done (main_at place body)) [] block_tokens block_there (done_completes (main_at place []))

main_less : {a : Main} {p : Place} {b : List Stmt} {ts us vs rest : List Tok} → Sign T.Main p ts us → ReadsBlock b us vs → a ≡ main_at p b → rest ≡ vs → ReadsMain a ts rest
main_less sign b e f = settled ReadsMain e f (P.main b)

main_more : {a : Main} {t : Tok} {more rest : List Tok} → ReadsMain a (t ∷ more) rest → MainOf a (t ∷ more) rest
main_more (P.main b) = (_, _, sign, (_, _, b, (refl, refl)))

pub main_here : (old : Ahead) → Still ReadsMain any old old MainOf
main_here old = is (here old) (λ a more rest x. main_less x.2 x.3.2 x.3.3.0 x.3.3.1) (λ a more rest x h. main_more x)

-- ---- which declaration begins so

family_first : {a : Family} {t : Tok} {more rest : List Tok} → ReadsFamily a (t ∷ more) rest → mark_of t.symbol ≡ Some T.Object
family_first (P.family s i o) = refl

main_first : {a : Main} {t : Tok} {more rest : List Tok} → ReadsMain a (t ∷ more) rest → mark_of t.symbol ≡ Some T.Main
main_first (P.main b) = refl

task_less : {a : Task} {p q r : Place} {n : List ℕ × Place} {ps : List Param} {b : List Stmt} {ts us vs ws xs ys zs rest : List Tok} →
    Sign T.Task p ts us → AName n us vs → Sign T.ParenOpen q vs ws → ReadsMaybeParams ps ws xs → Sign T.ParenClose r xs ys → ReadsBlock b ys zs →
    a ≡ task_at n None ps b → rest ≡ zs → ReadsTask a ts rest
task_less sign a_name sign ps sign b e f = settled ReadsTask e f (P.task ps b)

task_from : {a : Task} {ts rest : List Tok} → TaskOf a ts rest → ReadsTask a ts rest
task_from x = let n = x.3 in let o = n.3 in let ps = o.3 in let c = ps.3 in let b = c.3 in task_less x.2 n.2 o.2 ps.2 c.2 b.2 b.3.0 b.3.1

loop_less : {a : Task} {p q r s : Place} {n i : List ℕ × Place} {ps : List Param} {b : List Stmt} {ts us vs ws xs ys zs cs bs rest : List Tok} →
    Sign T.Loop p ts us → AName n us vs → Sign T.ParenOpen q vs ws → AName i ws xs → Sign T.Semicolon s xs ys → ReadsMaybeParams ps ys zs → Sign T.ParenClose r zs cs → ReadsBlock b cs bs →
    a ≡ task_at n (index_at i) ps b → rest ≡ bs → ReadsTask a ts rest
loop_less sign a_name sign a_name sign ps sign b e f = settled ReadsTask e f (P.loop ps b)

loop_from : {a : Task} {ts rest : List Tok} → LoopOf a ts rest → ReadsTask a ts rest
loop_from x = let n = x.3 in let o = n.3 in let i = o.3 in let m = i.3 in let ps = m.3 in let c = ps.3 in let b = c.3 in
    loop_less x.2 n.2 o.2 i.2 m.2 ps.2 c.2 b.2 b.3.0 b.3.1

-- the first word of a task is `task` or `loop`
data Kind (a : Task) (t : Tok) (more rest : List Tok) : Type 0 where
  a_task : mark_of t.symbol ≡ Some T.Task → TaskOf a (t ∷ more) rest → Kind a t more rest
  a_loop : mark_of t.symbol ≡ Some T.Loop → LoopOf a (t ∷ more) rest → Kind a t more rest

kind_of : {a : Task} {t : Tok} {more rest : List Tok} → ReadsTask a (t ∷ more) rest → Kind a t more rest
kind_of (P.task {n = n} {q = q} ps b) = a_task refl (_, _, sign, ((n, q), _, a_name, (_, _, sign, (_, _, ps, (_, _, sign, (_, _, b, (refl, refl)))))))
kind_of (P.loop {n = n} {i = i} {q = q} {s = s} ps b) = a_loop refl (_, _, sign, ((n, q), _, a_name, (_, _, sign, ((i, s), _, a_name, (_, _, sign, (_, _, ps, (_, _, sign, (_, _, b, (refl, refl)))))))))

abbrev pub FamilyAlone : Declared → List Tok → List Tok → Type 0
FamilyAlone = Then ReadsFamily (λ f. Done (D.Family f))

abbrev pub TaskAlone : Declared → List Tok → List Tok → Type 0
TaskAlone = Then TaskOf (λ t. Done (D.Task t))

abbrev pub LoopAlone : Declared → List Tok → List Tok → Type 0
LoopAlone = Then LoopOf (λ t. Done (D.Task t))

abbrev pub MainAlone : Declared → List Tok → List Tok → Type 0
MainAlone = Then ReadsMain (λ m. Done (D.Main m))

task_no_object : {a : Task} {t : Tok} {more rest : List Tok} → Kind a t more rest → mark_of t.symbol ≡ Some T.Object → ⊥
task_no_object (a_task f x) e = cc
task_no_object (a_loop f x) e = cc

same_entry : {A : Type 0} {m : Option A} {x y : A} → m ≡ Some x → m ≡ Some y → x ≡ y
same_entry e f = cc

object_task : T.Object ≡ T.Task → ⊥
object_task e = cc

object_loop : T.Object ≡ T.Loop → ⊥
object_loop e = cc

object_main : T.Object ≡ T.Main → ⊥
object_main e = cc

task_loop : T.Task ≡ T.Loop → ⊥
task_loop e = cc

task_main : T.Task ≡ T.Main → ⊥
task_main e = cc

loop_main : T.Loop ≡ T.Main → ⊥
loop_main e = cc

family_declared : {a : Declared} {f : Family} {ts us rest : List Tok} → ReadsFamily f ts us → a ≡ D.Family f → rest ≡ us → ReadsDeclaration a ts rest
family_declared r e f = settled ReadsDeclaration e f (family r)

family_go : {a : Declared} {t : Tok} {more rest : List Tok} → ReadsDeclaration a (t ∷ more) rest → mark_of t.symbol ≡ Some T.Object → FamilyAlone a (t ∷ more) rest
family_go (family r) e = (_, _, r, (refl, refl))
family_go (task r) e = absurd (task_no_object (kind_of r) e)
family_go (main r) e = absurd (object_main (same_entry e (main_first r)))

pub family_alone : (old : Ahead) → mark_of (next_of old).symbol ≡ Some T.Object → Still ReadsDeclaration any old old FamilyAlone
family_alone old e = is (here old) (λ a more rest x. family_declared x.2 x.3.0 x.3.1) (λ a more rest x h. family_go x e)

task_declared : {a : Declared} {k : Task} {ts us rest : List Tok} → ReadsTask k ts us → a ≡ D.Task k → rest ≡ us → ReadsDeclaration a ts rest
task_declared r e f = settled ReadsDeclaration e f (task r)

task_is : {a : Task} {t : Tok} {more rest : List Tok} → Kind a t more rest → mark_of t.symbol ≡ Some T.Task → TaskAlone (D.Task a) (t ∷ more) rest
task_is (a_task f x) e = (_, _, x, (refl, refl))
task_is (a_loop f x) e = absurd (task_loop (same_entry e f))

task_go : {a : Declared} {t : Tok} {more rest : List Tok} → ReadsDeclaration a (t ∷ more) rest → mark_of t.symbol ≡ Some T.Task → TaskAlone a (t ∷ more) rest
task_go (family r) e = absurd (object_task (same_entry (family_first r) e))
task_go (task r) e = task_is (kind_of r) e
task_go (main r) e = absurd (task_main (same_entry e (main_first r)))

pub task_alone : (old : Ahead) → mark_of (next_of old).symbol ≡ Some T.Task → Still ReadsDeclaration any old old TaskAlone
task_alone old e = is (here old) (λ a more rest x. task_declared (task_from x.2) x.3.0 x.3.1) (λ a more rest x h. task_go x e)

loop_is : {a : Task} {t : Tok} {more rest : List Tok} → Kind a t more rest → mark_of t.symbol ≡ Some T.Loop → LoopAlone (D.Task a) (t ∷ more) rest
loop_is (a_task f x) e = absurd (task_loop (same_entry f e))
loop_is (a_loop f x) e = (_, _, x, (refl, refl))

loop_go : {a : Declared} {t : Tok} {more rest : List Tok} → ReadsDeclaration a (t ∷ more) rest → mark_of t.symbol ≡ Some T.Loop → LoopAlone a (t ∷ more) rest
loop_go (family r) e = absurd (object_loop (same_entry (family_first r) e))
loop_go (task r) e = loop_is (kind_of r) e
loop_go (main r) e = absurd (loop_main (same_entry e (main_first r)))

pub loop_alone : (old : Ahead) → mark_of (next_of old).symbol ≡ Some T.Loop → Still ReadsDeclaration any old old LoopAlone
loop_alone old e = is (here old) (λ a more rest x. task_declared (loop_from x.2) x.3.0 x.3.1) (λ a more rest x h. loop_go x e)

main_declared : {a : Declared} {m : Main} {ts us rest : List Tok} → ReadsMain m ts us → a ≡ D.Main m → rest ≡ us → ReadsDeclaration a ts rest
main_declared r e f = settled ReadsDeclaration e f (main r)

not_task : {a : Task} {t : Tok} {more rest : List Tok} → Kind a t more rest → (mark_of t.symbol ≡ Some T.Task → ⊥) → (mark_of t.symbol ≡ Some T.Loop → ⊥) → ⊥
not_task (a_task f x) no_task no_loop = no_task f
not_task (a_loop f x) no_task no_loop = no_loop f

main_go : {a : Declared} {t : Tok} {more rest : List Tok} → ReadsDeclaration a (t ∷ more) rest → (mark_of t.symbol ≡ Some T.Object → ⊥) → (mark_of t.symbol ≡ Some T.Task → ⊥) →
    (mark_of t.symbol ≡ Some T.Loop → ⊥) → MainAlone a (t ∷ more) rest
main_go (family r) f g h = absurd (f (family_first r))
main_go (task r) f g h = absurd (not_task (kind_of r) g h)
main_go (main r) f g h = (_, _, r, (refl, refl))

pub main_alone : (old : Ahead) → (mark_of (next_of old).symbol ≡ Some T.Object → ⊥) → (mark_of (next_of old).symbol ≡ Some T.Task → ⊥) →
    (mark_of (next_of old).symbol ≡ Some T.Loop → ⊥) → Still ReadsDeclaration any old old MainAlone
main_alone old f g h = is (here old) (λ a more rest x. main_declared x.2 x.3.0 x.3.1) (λ a more rest x k. main_go x f g h)

-- `data` begins no declaration

object_data : T.Object ≡ T.Data → ⊥
object_data e = cc

task_data : T.Task ≡ T.Data → ⊥
task_data e = cc

loop_data : T.Loop ≡ T.Data → ⊥
loop_data e = cc

main_data : T.Main ≡ T.Data → ⊥
main_data e = cc

no_data : {a : Task} {t : Tok} {more rest : List Tok} → Kind a t more rest → mark_of t.symbol ≡ Some T.Data → ⊥
no_data (a_task f x) e = task_data (same_entry f e)
no_data (a_loop f x) e = loop_data (same_entry f e)

pub family_no_data : {a : Family} {t : Tok} {more rest : List Tok} → ReadsFamily a (t ∷ more) rest → mark_of t.symbol ≡ Some T.Data → ⊥
family_no_data r e = object_data (same_entry (family_first r) e)

pub task_no_data : {a : Task} {t : Tok} {more rest : List Tok} → ReadsTask a (t ∷ more) rest → mark_of t.symbol ≡ Some T.Data → ⊥
task_no_data r e = no_data (kind_of r) e

pub main_no_data : {a : Main} {t : Tok} {more rest : List Tok} → ReadsMain a (t ∷ more) rest → mark_of t.symbol ≡ Some T.Data → ⊥
main_no_data r e = main_data (same_entry (main_first r) e)

-- a declaration has tokens
pub no_declaration : {d : Declared} → ReadsDeclaration d [] [] → ⊥
no_declaration (family r) = elim r [ ]
no_declaration (task r) = elim r [ ]
no_declaration (main r) = elim r [ ]
