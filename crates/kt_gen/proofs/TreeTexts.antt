-- The canonical texts of the generated programs are the texts that they are made for.
use Rattle.std.proofs.Common.{◌≡◌, Bool, true, false, ℕ, ◌+◌, ◌*◌, List, [], ◌∷◌, ◌++◌, Some, None, codes, map, refl, ap, ◌∙◌, append_assoc}
use Rattle.std.specs.Fmt.{decimal, digits}
use Rattle.std.specs.List.{flat_map}
use Rattle.kt_law.specs.declared.operators.BinOp.TheVariants as B
use Rattle.kt_law.specs.declared.operators.Op.TheVariants as O
use Rattle.kt_law.specs.declared.places.Place.{Place}
use Rattle.kt_prog.specs.declared.programs.Arg.{Arg}
use Rattle.kt_prog.specs.declared.programs.Expr.{Expr, Num, Var, Elem, Bin}
use Rattle.kt_prog.specs.declared.programs.Family.{Family}
use Rattle.kt_prog.specs.declared.programs.Main.{Main}
use Rattle.kt_prog.specs.declared.programs.Stmt.{Stmt}
use Rattle.kt_prog.specs.declared.programs.Task.{Task}
use Rattle.kt_print.proofs.Forms.{fold_text, for_text, fork_text, printed_bin, printed_elem, printed_num, printed_var, stmt_text, store_text}
use Rattle.kt_print.specs.CanonicalExpressions.{Printed, expr_text}
use Rattle.kt_print.specs.CanonicalStatements.{arguments_text, argument_text, block_text, forked_text, text_of_stmt}
use Rattle.kt_print.specs.CanonicalText.{canonical_text, family_text, main_text, task_head, task_text, where_set}
use Rattle.kt_print.specs.CanonicalWords.{blanks}
use Rattle.kt_text.specs.declared.commands.Kind.{Kind}
use Rattle.kt_text.specs.declared.commands.Kind.TheVariants.{Mul, Walks, Stencil, Scan}
use Rattle.kt_gen.specs.Texts.{program_text, mul_text, walks_text, stencil_text, scan_text, rounds_of}
use Rattle.kt_gen.specs.Trees.{bare, below, copies, copy, each, fork, member, mul_program, number, object, on, one_added, one_copied, program_of, range, round, row_args, scan_all, scan_program, smooth, stencil_program, sum_all, sums, tile, tile_args, tiles, walks_program}

-- ---- the numbers of the texts

zero_is : decimal 0 ≡ codes "0"
unfolding digits
zero_is = refl

one_is : decimal 1 ≡ codes "1"
unfolding digits
one_is = refl

two_is : decimal 2 ≡ codes "2"
unfolding digits
two_is = refl

sixteen_is : decimal 16 ≡ codes "16"
unfolding digits
sixteen_is = refl

large_is : decimal 256 ≡ codes "256"
unfolding digits
large_is = refl

-- ---- expressions

text_num : (n : ℕ) → expr_text (Num n) ≡ decimal n
text_num n = ap (λ (p : Printed). p.text) (printed_num n)

text_var : (n : List ℕ) (p : Place) → expr_text (Var n p) ≡ n
text_var n p = ap (λ (p : Printed). p.text) (printed_var n p)

text_elem : (n : List ℕ) (p : Place) (e : Expr) → expr_text (Elem n p e) ≡ n ++ (codes "[" ++ (expr_text e ++ codes "]"))
text_elem n p e = ap (λ (p : Printed). p.text) (printed_elem n p e)

-- `a + b` and `a - b` of names and numbers, and `a * b + c`
plus_text : (a : List ℕ) (p : Place) (n : ℕ) → expr_text (Bin B.Add (Var a p) (Num n)) ≡ a ++ (codes " + " ++ decimal n)
plus_text a p n = ap (λ (x : Printed). x.text) (printed_bin B.Add (Var a p) (Num n)) ∙ rw (printed_var a p, printed_num n) refl

plus_one : (a : List ℕ) (p : Place) → expr_text (Bin B.Add (Var a p) (Num 1)) ≡ a ++ codes " + 1"
plus_one a p = plus_text a p 1 ∙ ap (λ (t : List ℕ). a ++ (codes " + " ++ t)) one_is

minus_text : (a : List ℕ) (p : Place) (n : ℕ) → expr_text (Bin B.Sub (Var a p) (Num n)) ≡ a ++ (codes " - " ++ decimal n)
minus_text a p n = ap (λ (x : Printed). x.text) (printed_bin B.Sub (Var a p) (Num n)) ∙ rw (printed_var a p, printed_num n) refl

minus_one : (a : List ℕ) (p : Place) → expr_text (Bin B.Sub (Var a p) (Num 1)) ≡ a ++ codes " - 1"
minus_one a p = minus_text a p 1 ∙ ap (λ (t : List ℕ). a ++ (codes " - " ++ t)) one_is

tile_index : (a c : List ℕ) (p : Place) (n : ℕ) →
    expr_text (Bin B.Add (Bin B.Mul (Var a p) (Num n)) (Var c p)) ≡ (a ++ (codes " * " ++ decimal n)) ++ (codes " + " ++ c)
tile_index a c p n =
    ap (λ (x : Printed). x.text) (printed_bin B.Add (Bin B.Mul (Var a p) (Num n)) (Var c p))
    ∙ rw (printed_bin B.Mul (Var a p) (Num n), printed_var a p, printed_num n, printed_var c p) refl

-- ---- arguments

member_text : (at : Place) (name : List ℕ) (e : Expr) (text : List ℕ) → expr_text e ≡ text → argument_text (member at name e).what ≡ name ++ (codes "[" ++ (text ++ codes "]"))
member_text at name e text is = text_elem name at e ∙ ap (λ t. name ++ (codes "[" ++ (t ++ codes "]"))) is

tile_text : (at : Place) (name row : List ℕ) (size : ℕ) (column : List ℕ) →
    argument_text (tile at name row size column).what ≡ name ++ (codes "[" ++ (((row ++ (codes " * " ++ decimal size)) ++ (codes " + " ++ column)) ++ codes "]"))
tile_text at name row size column = member_text at name _ _ (tile_index row column at size)

-- the text of a tile, before what stands behind it
tile_parts : (name l row m n p column r z : List ℕ) → (name ++ (l ++ (((row ++ (m ++ n)) ++ (p ++ column)) ++ r))) ++ z
    ≡ name ++ (l ++ (row ++ (m ++ (n ++ (p ++ (column ++ (r ++ z)))))))
tile_parts name l row m n p column r z = simp append_assoc refl

abbrev tile_line : List ℕ → List ℕ → ℕ → List ℕ → List ℕ → List ℕ
tile_line name row size column w = name ++ (codes "[" ++ (row ++ (codes " * " ++ (decimal size ++ (codes " + " ++ (column ++ (codes "]" ++ w)))))))

abbrev tile_alone : List ℕ → List ℕ → ℕ → List ℕ → List ℕ
tile_alone name row size column = name ++ (codes "[" ++ (((row ++ (codes " * " ++ decimal size)) ++ (codes " + " ++ column)) ++ codes "]"))

tile_first : (name row : List ℕ) (size : ℕ) (column z w : List ℕ) → z ≡ w → tile_alone name row size column ++ z ≡ tile_line name row size column w
tile_first name row size column z w h =
    tile_parts name (codes "[") row (codes " * ") (decimal size) (codes " + ") column (codes "]") z ∙ ap (tile_line name row size column) h

three_more : (s a b c z : List ℕ) → (s ++ (a ++ (s ++ (b ++ (s ++ (c ++ [])))))) ++ z ≡ s ++ (a ++ (s ++ (b ++ (s ++ (c ++ z)))))
three_more s a b c z = simp append_assoc refl

tile_args_on : (at : Place) (size : ℕ) (a b c z : List ℕ) → arguments_text [] (tile_args at size a b c) ++ z
    ≡ codes "16, 16, 16, " ++ tile_line a (codes "i") size (codes "k") (codes ", " ++ tile_line b (codes "k") size (codes "j")
    (codes ", " ++ tile_line c (codes "i") size (codes "j") z))
tile_args_on at size a b c z =
    let s : List ℕ = codes ", " in
    let x : List ℕ = tile_alone a (codes "i") size (codes "k") in
    let y : List ℕ = tile_alone b (codes "k") size (codes "j") in
    let v : List ℕ = tile_alone c (codes "i") size (codes "j") in
    let text : arguments_text [] (tile_args at size a b c) ≡ codes "16, 16, 16" ++ (s ++ (x ++ (s ++ (y ++ (s ++ (v ++ [])))))) =
    rw (text_num 16 ∙ sixteen_is, tile_text at a (codes "i") size (codes "k"), tile_text at b (codes "k") size (codes "j"), tile_text at c (codes "i") size (codes "j")) refl in
    ap (λ (t : List ℕ). t ++ z) text ∙ ap (λ (t : List ℕ). codes "16, 16, 16" ++ t) (three_more s x y v z)
    ∙ ap (λ (w : List ℕ). codes "16, 16, 16, " ++ w) (tile_first a (codes "i") size (codes "k") _ _ (ap (λ (w : List ℕ). codes ", " ++ w)
    (tile_first b (codes "k") size (codes "j") _ _ (ap (λ (w : List ℕ). codes ", " ++ w) (tile_first c (codes "i") size (codes "j") z z refl)))))

-- ---- statements, behind which something stands

each_parts : (i v a b body z : List ℕ) →
    ((i ++ ((codes "for " ++ (v ++ (codes " in " ++ ((a ++ (codes ".." ++ b)) ++ codes " {")))) ++ codes "\n")) ++ (body ++ (i ++ (codes "}" ++ codes "\n")))) ++ z
    ≡ i ++ (codes "for " ++ (v ++ (codes " in " ++ (a ++ (codes ".." ++ (b ++ (codes " {\n" ++ (body ++ (i ++ (codes "}\n" ++ z))))))))))
each_parts i v a b body z = simp append_assoc refl

each_on : (at : Place) (v : List ℕ) (from to : Expr) (body : List Stmt) (n : ℕ) (a b z : List ℕ) → expr_text from ≡ a → expr_text to ≡ b →
    text_of_stmt (each at v from to body) n ++ z
    ≡ blanks n ++ (codes "for " ++ (v ++ (codes " in " ++ (a ++ (codes ".." ++ (b ++ (codes " {\n" ++ (block_text (map text_of_stmt body) n ++ (blanks n ++ (codes "}\n" ++ z))))))))))
each_on at v from to body n a b z f t =
    ap (λ (text : List ℕ). text ++ z) (stmt_text (each at v from to body) n ∙ for_text v at from to body n)
    ∙ rw (f, t) (each_parts (blanks n) v a b (block_text (map text_of_stmt body) n) z)

block_on : (x : Stmt) (xs : List Stmt) (n : ℕ) (z : List ℕ) →
    block_text (map text_of_stmt (x ∷ xs)) n ++ z ≡ text_of_stmt x (n + 2) ++ (block_text (map text_of_stmt xs) n ++ z)
block_on x xs n z = append_assoc (text_of_stmt x (n + 2)) (block_text (map text_of_stmt xs) n) z

-- `}`
abbrev end_line : ℕ → List ℕ → List ℕ
end_line n z = blanks n ++ (codes "}\n" ++ z)

-- `for v in E..E {`, before what stands behind it
abbrev each_line : ℕ → List ℕ → List ℕ → List ℕ → List ℕ → List ℕ
each_line n v a b w = blanks n ++ (codes "for " ++ (v ++ (codes " in " ++ (a ++ (codes ".." ++ (b ++ (codes " {\n" ++ w)))))))

-- what is said of the text of a part is said before what stands behind it, `w` being the text of that

block_first : (x : Stmt) (xs : List Stmt) (n : ℕ) (z w : List ℕ) → text_of_stmt x (n + 2) ++ (block_text (map text_of_stmt xs) n ++ z) ≡ w →
    block_text (map text_of_stmt (x ∷ xs)) n ++ z ≡ w
block_first x xs n z w h = block_on x xs n z ∙ h

each_first : (at : Place) (v : List ℕ) (from to : Expr) (body : List Stmt) (n : ℕ) (a b z w : List ℕ) → expr_text from ≡ a → expr_text to ≡ b →
    block_text (map text_of_stmt body) n ++ end_line n z ≡ w → text_of_stmt (each at v from to body) n ++ z ≡ each_line n v a b w
each_first at v from to body n a b z w f t h = each_on at v from to body n a b z f t ∙ ap (each_line n v a b) h

below_first : (at : Place) (v : List ℕ) (to : ℕ) (b : List ℕ) (inner : Stmt) (n : ℕ) (z w : List ℕ) → decimal to ≡ b → text_of_stmt inner (n + 2) ++ end_line n z ≡ w →
    text_of_stmt (below at v to inner) n ++ z ≡ each_line n v (codes "0") b w
below_first at v to b inner n z w is h =
    each_first at v (Num 0) (Num to) (inner ∷ []) n (codes "0") b z w (text_num 0 ∙ zero_is) (text_num to ∙ is) (block_first inner [] n (end_line n z) w h)

fork_parts : (i name args z : List ℕ) →
    (i ++ ((codes "fork " ++ (name ++ (codes "(" ++ (args ++ codes ");")))) ++ codes "\n")) ++ z ≡ i ++ (codes "fork " ++ (name ++ (codes "(" ++ (args ++ (codes ");\n" ++ z)))))
fork_parts i name args z = simp append_assoc refl

fork_on : (at : Place) (name : List ℕ) (args : List Arg) (n : ℕ) (z : List ℕ) → text_of_stmt (fork at name None args) n ++ z
    ≡ blanks n ++ (codes "fork " ++ (name ++ (codes "(" ++ (arguments_text [] args ++ (codes ");\n" ++ z)))))
fork_on at name args n z =
    ap (λ (text : List ℕ). text ++ z) (stmt_text (fork at name None args) n ∙ fork_text name at None args n) ∙ fork_parts (blanks n) name (arguments_text [] args) z

-- three `for` and the fork of a kernel of tiles
abbrev tiles_fork : ℕ → ℕ → List ℕ → List ℕ → List ℕ → List ℕ → List ℕ → List ℕ
tiles_fork n size kernel a b c z =
    blanks n ++ (codes "fork " ++ (kernel ++ (codes "(16, 16, 16, " ++ (a ++ (codes "[i * " ++ (decimal size ++ (codes " + k], " ++ (b ++ (codes "[k * " ++
    (decimal size ++ (codes " + j], " ++ (c ++ (codes "[i * " ++ (decimal size ++ (codes " + j]);\n" ++ z)))))))))))))))

tiles_fork_on : (at : Place) (size : ℕ) (kernel a b c : List ℕ) (n : ℕ) (z : List ℕ) →
    text_of_stmt (fork at kernel None (tile_args at size a b c)) n ++ z ≡ tiles_fork n size kernel a b c z
tiles_fork_on at size kernel a b c n z =
    fork_on at kernel (tile_args at size a b c) n z
    ∙ ap (λ (text : List ℕ). blanks n ++ (codes "fork " ++ (kernel ++ (codes "(" ++ text)))) (tile_args_on at size a b c (codes ");\n" ++ z))

tiles_first : (line size : ℕ) (kernel a b c : List ℕ) (n : ℕ) (z : List ℕ) → text_of_stmt (tiles line size kernel a b c) n ++ z
    ≡ each_line n (codes "i") (codes "0") (decimal size) (each_line (n + 2) (codes "j") (codes "0") (decimal size)
    (each_line (n + 2 + 2) (codes "k") (codes "0") (decimal size)
    (tiles_fork (n + 2 + 2 + 2) size kernel a b c (end_line (n + 2 + 2) (end_line (n + 2) (end_line n z))))))
tiles_first line size kernel a b c n z =
    let one = end_line n z in
    let two = end_line (n + 2) one in
    let three = end_line (n + 2 + 2) two in
    below_first (on line) (codes "i") size (decimal size) _ n z _ refl (below_first (on (line + 1)) (codes "j") size (decimal size) _ (n + 2) one _ refl
    (below_first (on (line + 2)) (codes "k") size (decimal size) _ (n + 2 + 2) two _ refl (tiles_fork_on (on (line + 3)) size kernel a b c (n + 2 + 2 + 2) three)))

-- ---- declarations

range_parts : (name m e i o z : List ℕ) →
    (codes "object " ++ (name ++ ((codes "[" ++ (m ++ codes "]")) ++ (codes " of " ++ (e ++ (i ++ (o ++ codes ";")))))) ++ codes "\n") ++ z
    ≡ codes "object " ++ (name ++ (codes "[" ++ (m ++ (codes "] of " ++ (e ++ (i ++ (o ++ (codes ";\n" ++ z))))))))
range_parts name m e i o z = simp append_assoc refl

-- `object NAME[M] of N input output;`, before what stands behind it
abbrev range_line : List ℕ → ℕ → List ℕ → List ℕ → List ℕ → List ℕ → List ℕ
range_line name members elements input output w =
    codes "object " ++ (name ++ (codes "[" ++ (decimal members ++ (codes "] of " ++ (elements ++ (input ++ (output ++ (codes ";\n" ++ w))))))))

range_first : (at : Place) (name : List ℕ) (members elements : ℕ) (e : List ℕ) (input output : Bool) (families : List Family) (z w : List ℕ) → decimal elements ≡ e →
    flat_map family_text families ++ z ≡ w → flat_map family_text (range at name members elements input output ∷ families) ++ z
    ≡ range_line name members e (where_set input (codes " input")) (where_set output (codes " output")) w
range_first at name members elements e input output families z w is h =
    let line = range_line name members e (where_set input (codes " input")) (where_set output (codes " output")) in
    append_assoc (family_text (range at name members elements input output)) (flat_map family_text families) z
    ∙ rw is (range_parts name (decimal members) e (where_set input (codes " input")) (where_set output (codes " output")) (flat_map family_text families ++ z))
    ∙ ap line h

body_parts : (head block z : List ℕ) → (((head ++ codes " {") ++ codes "\n") ++ (block ++ codes "}\n")) ++ z ≡ head ++ (codes " {\n" ++ (block ++ (codes "}\n" ++ z)))
body_parts head block z = simp append_assoc refl

main_first : (m : Main) (z w : List ℕ) → block_text (map text_of_stmt m.body) 0 ++ (codes "}\n" ++ z) ≡ w →
    flat_map main_text (m ∷ []) ++ z ≡ codes "main {\n" ++ w
main_first m z w h =
    append_assoc (main_text m) [] z ∙ body_parts (codes "main") (block_text (map text_of_stmt m.body) 0) z ∙ ap (λ (w : List ℕ). codes "main {\n" ++ w) h

task_first : (t : Task) (z w : List ℕ) → block_text (map text_of_stmt t.body) 0 ++ (codes "}\n" ++ z) ≡ w →
    flat_map task_text (t ∷ []) ++ z ≡ (task_head t.index t.name t.params ++ codes ")") ++ (codes " {\n" ++ w)
task_first t z w h =
    let head : List ℕ = task_head t.index t.name t.params ++ codes ")" in
    append_assoc (task_text t) [] z ∙ body_parts head (block_text (map text_of_stmt t.body) 0) z ∙ ap (λ (w : List ℕ). head ++ (codes " {\n" ++ w)) h

-- ---- products

mul_is : (size : ℕ) → canonical_text (mul_program size) ≡ mul_text size
mul_is size =
    let q = size * size in
    let a : Family = range (on 1) (codes "A") q 256 true false in
    let b : Family = range (on 2) (codes "B") q 256 true false in
    let c : Family = range (on 3) (codes "C") q 256 false true in
    let product : Stmt = tiles 5 size (codes "k_mul") (codes "A") (codes "B") (codes "C") in
    let m : Main = record { place = on 4; body = product ∷ [] } in
    let z : List ℕ = flat_map main_text (m ∷ []) ++ codes "data\n" in
    range_first (on 1) (codes "A") q 256 _ true false (b ∷ c ∷ []) z _ large_is (range_first (on 2) (codes "B") q 256 _ true false (c ∷ []) z _ large_is
    (range_first (on 3) (codes "C") q 256 _ false true [] z _ large_is
    (main_first m (codes "data\n") _ (block_first product [] 0 (codes "}\ndata\n") _
    (tiles_first 5 size (codes "k_mul") (codes "A") (codes "B") (codes "C") 2 (codes "}\ndata\n"))))))

-- ---- walks

two_args : (a b z : List ℕ) → (a ++ (codes ", " ++ (b ++ []))) ++ z ≡ a ++ (codes ", " ++ (b ++ z))
two_args a b z = simp append_assoc refl

copy_fork : (at : Place) (from to : List ℕ) (n : ℕ) (z : List ℕ) →
    text_of_stmt (fork at (codes "copy") None (member at from (Var (codes "t") at) ∷ member at to (Var (codes "t") at) ∷ [])) n ++ z
    ≡ blanks n ++ (codes "fork copy(" ++ (from ++ (codes "[t], " ++ (to ++ (codes "[t]);\n" ++ z)))))
copy_fork at from to n z =
    fork_on at (codes "copy") _ n z
    ∙ rw (member_text at from _ (codes "t") (text_var (codes "t") at), member_text at to _ (codes "t") (text_var (codes "t") at)) (simp append_assoc refl)

copies_first : (line members : ℕ) (from to : List ℕ) (n : ℕ) (z : List ℕ) → text_of_stmt (copies line members from to) n ++ z
    ≡ each_line n (codes "t") (codes "0") (decimal members)
    (blanks (n + 2) ++ (codes "fork copy(" ++ (from ++ (codes "[t], " ++ (to ++ (codes "[t]);\n" ++ end_line n z))))))
copies_first line members from to n z =
    below_first (on line) (codes "t") members (decimal members) _ n z _ refl (copy_fork (on (line + 1)) from to (n + 2) (end_line n z))

store_parts : (i name at value z : List ℕ) →
    (i ++ (((name ++ (codes "[" ++ (at ++ codes "]"))) ++ (codes " = " ++ (value ++ codes ";"))) ++ codes "\n")) ++ z
    ≡ i ++ (name ++ (codes "[" ++ (at ++ (codes "] = " ++ (value ++ (codes ";\n" ++ z))))))
store_parts i name at value z = simp append_assoc refl

copied_on : (at : Place) (n : ℕ) (z : List ℕ) → text_of_stmt (one_copied at) n ++ z ≡ blanks n ++ (codes "R[i] = P[i];\n" ++ z)
copied_on at n z =
    ap (λ (text : List ℕ). text ++ z) (stmt_text (one_copied at) n ∙ store_text (codes "R") at (Var (codes "i") at) (Elem (codes "P") at (Var (codes "i") at)) n)
    ∙ rw (text_elem (codes "P") at (Var (codes "i") at), text_var (codes "i") at) (store_parts (blanks n) (codes "R") (codes "i") (codes "P[i]") z)

-- their lines within the outermost `for`
abbrev copies_lines : ℕ → List ℕ → List ℕ → List ℕ → List ℕ
copies_lines members from to z =
    each_line 4 (codes "t") (codes "0") (decimal members) (codes "      fork copy(" ++ (from ++ (codes "[t], " ++ (to ++ (codes "[t]);\n" ++ end_line 4 z)))))

abbrev tiles_lines : ℕ → List ℕ → List ℕ → List ℕ → List ℕ → List ℕ → List ℕ
tiles_lines size kernel a b c z =
    each_line 4 (codes "i") (codes "0") (decimal size) (each_line 6 (codes "j") (codes "0") (decimal size) (each_line 8 (codes "k") (codes "0") (decimal size)
    (tiles_fork 10 size kernel a b c (end_line 8 (end_line 6 (end_line 4 z))))))

abbrev round_text : ℕ → List ℕ → List ℕ
round_text size z =
    copies_lines (size * size) (codes "D") (codes "E") (tiles_lines size (codes "k_minplus") (codes "D") (codes "D") (codes "E")
    (copies_lines (size * size) (codes "E") (codes "D") (tiles_lines size (codes "k_minplus") (codes "E") (codes "E") (codes "D") z)))

round_first : (size : ℕ) (z : List ℕ) → block_text (map text_of_stmt (round size)) 2 ++ z ≡ round_text size z
round_first size z =
    let one : Stmt = copies 10 (size * size) (codes "D") (codes "E") in
    let two : Stmt = tiles 13 size (codes "k_minplus") (codes "D") (codes "D") (codes "E") in
    let three : Stmt = copies 20 (size * size) (codes "E") (codes "D") in
    let four : Stmt = tiles 23 size (codes "k_minplus") (codes "E") (codes "E") (codes "D") in
    let behind = λ (xs : List Stmt). block_text (map text_of_stmt xs) 2 ++ z in
    block_first one (two ∷ three ∷ four ∷ []) 2 z _ (copies_first 10 (size * size) (codes "D") (codes "E") 4 (behind (two ∷ three ∷ four ∷ []))
    ∙ ap (λ (w : List ℕ). copies_lines (size * size) (codes "D") (codes "E") w)
    (block_first two (three ∷ four ∷ []) 2 z _ (tiles_first 13 size (codes "k_minplus") (codes "D") (codes "D") (codes "E") 4 (behind (three ∷ four ∷ []))
    ∙ ap (λ (w : List ℕ). tiles_lines size (codes "k_minplus") (codes "D") (codes "D") (codes "E") w)
    (block_first three (four ∷ []) 2 z _ (copies_first 20 (size * size) (codes "E") (codes "D") 4 (behind (four ∷ []))
    ∙ ap (λ (w : List ℕ). copies_lines (size * size) (codes "E") (codes "D") w)
    (block_first four [] 2 z _ (tiles_first 23 size (codes "k_minplus") (codes "E") (codes "E") (codes "D") 4 z)))))))

walks_is : (size : ℕ) → canonical_text (walks_program size) ≡ walks_text size
walks_is size =
    let q = size * size in
    let d : Family = range (on 1) (codes "D") q 256 true true in
    let e : Family = range (on 2) (codes "E") q 256 false false in
    let inner : Stmt = below (on 4) (codes "i") 256 (one_copied (on 5)) in
    let all : Stmt = each (on 9) (codes "h") (Num 0) (Num (rounds_of size)) (round size) in
    let m : Main = record { place = on 8; body = all ∷ [] } in
    let y : List ℕ = flat_map main_text (m ∷ []) ++ codes "data\n" in
    let z : List ℕ = flat_map task_text (copy ∷ []) ++ y in
    range_first (on 1) (codes "D") q 256 _ true true (e ∷ []) z _ large_is (range_first (on 2) (codes "E") q 256 _ false false [] z _ large_is
    (task_first copy y _ (block_first inner [] 0 (codes "}\n" ++ y) _ (below_first (on 4) (codes "i") 256 (codes "256") (one_copied (on 5)) 2 (codes "}\n" ++ y) _ large_is
    (copied_on (on 5) 4 (end_line 2 (codes "}\n" ++ y))
    ∙ ap (λ (w : List ℕ). codes "    R[i] = P[i];\n  }\n}\n" ++ w)
    (main_first m (codes "data\n") _ (block_first all [] 0 (codes "}\ndata\n") _
    (each_first (on 9) (codes "h") (Num 0) (Num (rounds_of size)) (round size) 2 (codes "0") (decimal (rounds_of size)) (codes "}\ndata\n") _ (text_num 0 ∙ zero_is)
    (text_num (rounds_of size)) (round_first size (codes "  }\n}\ndata\n"))))))))))

-- ---- stencils

five_args : (a s b c d e z : List ℕ) → (a ++ (s ++ (b ++ (s ++ (c ++ (s ++ (d ++ (s ++ (e ++ []))))))))) ++ z
    ≡ a ++ (s ++ (b ++ (s ++ (c ++ (s ++ (d ++ (s ++ (e ++ z))))))))
five_args a s b c d e z = simp append_assoc refl

-- a name with what stands in its brackets
name_first : (name t z w : List ℕ) → z ≡ w → (name ++ t) ++ z ≡ name ++ (t ++ w)
name_first name t z w h = append_assoc name t z ∙ ap (λ (w : List ℕ). name ++ (t ++ w)) h

row_args_on : (at : Place) (from to z : List ℕ) → arguments_text [] (row_args at from to) ++ z
    ≡ codes "16, " ++ (from ++ (codes "[j - 1], " ++ (from ++ (codes "[j], " ++ (from ++ (codes "[j + 1], " ++ (to ++ (codes "[j]" ++ z))))))))
row_args_on at from to z =
    let s : List ℕ = codes ", " in
    let text : arguments_text [] (row_args at from to)
    ≡ codes "16" ++ (s ++ ((from ++ codes "[j - 1]") ++ (s ++ ((from ++ codes "[j]") ++ (s ++ ((from ++ codes "[j + 1]") ++ (s ++ ((to ++ codes "[j]") ++ [])))))))) =
    rw (
      text_num 16 ∙ sixteen_is,
      member_text at from _ (codes "j - 1") (minus_one (codes "j") at),
      member_text at from _ (codes "j") (text_var (codes "j") at),
      member_text at from _ (codes "j + 1") (plus_one (codes "j") at),
      member_text at to _ (codes "j") (text_var (codes "j") at),
    ) refl in
    ap (λ (t : List ℕ). t ++ z) text ∙ five_args (codes "16") s (from ++ codes "[j - 1]") (from ++ codes "[j]") (from ++ codes "[j + 1]") (to ++ codes "[j]") z
    ∙ ap (λ (w : List ℕ). codes "16, " ++ w) (name_first from (codes "[j - 1]") _ _ (ap (λ (w : List ℕ). s ++ w)
    (name_first from (codes "[j]") _ _ (ap (λ (w : List ℕ). s ++ w) (name_first from (codes "[j + 1]") _ _ (ap (λ (w : List ℕ). s ++ w)
    (name_first to (codes "[j]") z z refl)))))))

rows_fork : (at : Place) (from to : List ℕ) (n : ℕ) (z : List ℕ) → text_of_stmt (fork at (codes "k_stencil") None (row_args at from to)) n ++ z
    ≡ blanks n ++ (codes "fork k_stencil(16, " ++ (from ++ (codes "[j - 1], " ++ (from ++ (codes "[j], " ++ (from ++ (codes "[j + 1], " ++ (to ++ (codes "[j]);\n" ++ z)))))))))
rows_fork at from to n z =
    fork_on at (codes "k_stencil") (row_args at from to) n z ∙ ap (λ (w : List ℕ). blanks n ++ (codes "fork k_stencil(" ++ w)) (row_args_on at from to (codes ");\n" ++ z))

abbrev smooth_lines : ℕ → List ℕ → List ℕ → ℕ → List ℕ → List ℕ
smooth_lines size from to n z =
    each_line n (codes "j") (codes "1") (decimal (size + 1))
    (blanks (n + 2) ++ (codes "fork k_stencil(16, " ++ (from ++ (codes "[j - 1], " ++ (from ++ (codes "[j], " ++ (from ++ (codes "[j + 1], " ++ (to ++ (codes "[j]);\n" ++ end_line n z))))))))))

smooth_first : (line size : ℕ) (from to : List ℕ) (n : ℕ) (z : List ℕ) → text_of_stmt (smooth line size from to) n ++ z ≡ smooth_lines size from to n z
smooth_first line size from to n z =
    let at = on (line + 1) in
    let inner : Stmt = fork at (codes "k_stencil") None (row_args at from to) in
    each_first (on line) (codes "j") (Num 1) (Num (size + 1)) (inner ∷ []) n (codes "1") (decimal (size + 1)) z _ (text_num 1 ∙ one_is) (text_num (size + 1))
    (block_first inner [] n (end_line n z) _ (rows_fork at from to (n + 2) (end_line n z)))

stencil_is : (size : ℕ) → canonical_text (stencil_program size) ≡ stencil_text size
stencil_is size =
    let a : Family = range (on 1) (codes "A") (size + 2) 16 true true in
    let b : Family = range (on 2) (codes "B") (size + 2) 16 false false in
    let there : Stmt = smooth 5 size (codes "A") (codes "B") in
    let back : Stmt = smooth 8 size (codes "B") (codes "A") in
    let all : Stmt = each (on 4) (codes "h") (Num 0) (Num 2) (there ∷ back ∷ []) in
    let m : Main = record { place = on 3; body = all ∷ [] } in
    let z : List ℕ = flat_map main_text (m ∷ []) ++ codes "data\n" in
    let y : List ℕ = codes "  }\n}\ndata\n" in
    range_first (on 1) (codes "A") (size + 2) 16 _ true true (b ∷ []) z _ sixteen_is (range_first (on 2) (codes "B") (size + 2) 16 _ false false [] z _ sixteen_is
    (main_first m (codes "data\n") _ (block_first all [] 0 (codes "}\ndata\n") _
    (each_first (on 4) (codes "h") (Num 0) (Num 2) (there ∷ back ∷ []) 2 (codes "0") (codes "2") (codes "}\ndata\n") _ (text_num 0 ∙ zero_is) (text_num 2 ∙ two_is)
    (block_first there (back ∷ []) 2 y _ (smooth_first 5 size (codes "A") (codes "B") 4 (block_text (map text_of_stmt (back ∷ [])) 2 ++ y)
    ∙ ap (λ (w : List ℕ). smooth_lines size (codes "A") (codes "B") 4 w)
    (block_first back [] 2 y _ (smooth_first 8 size (codes "B") (codes "A") 4 y))))))))

-- ---- sums

fold_parts : (i name at value z : List ℕ) →
    (i ++ (((name ++ (codes "[" ++ (at ++ codes "]"))) ++ (codes " " ++ (codes "add" ++ (codes "= " ++ (value ++ codes ";"))))) ++ codes "\n")) ++ z
    ≡ i ++ (name ++ (codes "[" ++ (at ++ (codes "] add= " ++ (value ++ (codes ";\n" ++ z))))))
fold_parts i name at value z = simp append_assoc refl

added_on : (at : Place) (n : ℕ) (z : List ℕ) → text_of_stmt (one_added at) n ++ z ≡ blanks n ++ (codes "R[u] add= Q[i];\n" ++ z)
added_on at n z =
    ap (λ (text : List ℕ). text ++ z) (stmt_text (one_added at) n ∙ fold_text (codes "R") at (Var (codes "u") at) O.Add (Elem (codes "Q") at (Var (codes "i") at)) n)
    ∙ rw (text_elem (codes "Q") at (Var (codes "i") at), text_var (codes "u") at, text_var (codes "i") at) (fold_parts (blanks n) (codes "R") (codes "u") (codes "Q[i]") z)

-- `fork sums(16; t, S, A[t], P);`
sums_fork : (at : Place) (size n : ℕ) (z : List ℕ) →
    text_of_stmt (fork at (codes "sums") (Some (Num 16)) (bare at (codes "t") ∷ number at size ∷ member at (codes "A") (Var (codes "t") at) ∷ bare at (codes "P") ∷ [])) n ++ z
    ≡ blanks n ++ (codes "fork sums(16; t, " ++ (decimal size ++ (codes ", A[t], P);\n" ++ z)))
sums_fork at size n z =
    let args : List Arg = bare at (codes "t") ∷ number at size ∷ member at (codes "A") (Var (codes "t") at) ∷ bare at (codes "P") ∷ [] in
    let text : forked_text (Some (Num 16)) args ≡ codes "16; t, " ++ (decimal size ++ codes ", A[t], P") =
    rw (text_num 16 ∙ sixteen_is, text_var (codes "t") at, text_num size, member_text at (codes "A") _ (codes "t") (text_var (codes "t") at), text_var (codes "P") at) refl in
    ap (λ (t : List ℕ). t ++ z) (stmt_text (fork at (codes "sums") (Some (Num 16)) args) n ∙ fork_text (codes "sums") at (Some (Num 16)) args n)
    ∙ fork_parts (blanks n) (codes "sums") (forked_text (Some (Num 16)) args) z
    ∙ ap (λ (t : List ℕ). blanks n ++ (codes "fork sums(" ++ (t ++ (codes ");\n" ++ z)))) text
    ∙ ap (λ (t : List ℕ). blanks n ++ (codes "fork sums(16; t, " ++ t)) (append_assoc (decimal size) (codes ", A[t], P") (codes ");\n" ++ z))

scan_fork : (at : Place) (n : ℕ) (z : List ℕ) →
    text_of_stmt (fork at (codes "k_scan") None (number at 16 ∷ bare at (codes "t") ∷ bare at (codes "P") ∷ member at (codes "A") (Var (codes "t") at) ∷ [])) n ++ z
    ≡ blanks n ++ (codes "fork k_scan(16, t, P, A[t]);\n" ++ z)
scan_fork at n z =
    fork_on at (codes "k_scan") _ n z
    ∙ rw (text_num 16 ∙ sixteen_is, text_var (codes "t") at, text_var (codes "P") at, member_text at (codes "A") _ (codes "t") (text_var (codes "t") at)) refl

single_line : (size : ℕ) (z : List ℕ) → family_text (object (on 2) (codes "P") size) ++ z ≡ codes "object P of " ++ (decimal size ++ (codes ";\n" ++ z))
single_line size z = simp append_assoc refl

scan_is : (size : ℕ) → canonical_text (scan_program size) ≡ scan_text size
scan_is size =
    let p : Family = object (on 2) (codes "P") size in
    let t : Expr = Bin B.Add (Var (codes "t") (on 4)) (Num 1) in
    let inner : Stmt = each (on 4) (codes "u") t (Var (codes "m") (on 4)) (one_added (on 5) ∷ []) in
    let m : Main = record { place = on 8; body = sum_all size ∷ scan_all size ∷ [] } in
    let y : List ℕ = flat_map main_text (m ∷ []) ++ codes "data\n" in
    let z : List ℕ = flat_map task_text (sums ∷ []) ++ y in
    let x : List ℕ = codes "}\ndata\n" in
    let scanned : List ℕ = block_text (map text_of_stmt (scan_all size ∷ [])) 0 ++ x in
    range_first (on 1) (codes "A") size 16 _ true true (p ∷ []) z _ sixteen_is (append_assoc (family_text p) [] z ∙ single_line size z
    ∙ ap (λ (w : List ℕ). codes "object P of " ++ (decimal size ++ (codes ";\n" ++ w)))
    (task_first sums y _ (block_first inner [] 0 (codes "}\n" ++ y) _ (each_first (on 4) (codes "u") t (Var (codes "m") (on 4)) (one_added (on 5) ∷ []) 2 (codes "t + 1") (codes "m")
    (codes "}\n" ++ y) _ (plus_one (codes "t") (on 4)) (text_var (codes "m") (on 4)) (block_first (one_added (on 5)) [] 2 (end_line 2 (codes "}\n" ++ y)) _
    (added_on (on 5) 4 (end_line 2 (codes "}\n" ++ y))
    ∙ ap (λ (w : List ℕ). codes "    R[u] add= Q[i];\n  }\n}\n" ++ w)
    (main_first m (codes "data\n") _ (block_first (sum_all size) (scan_all size ∷ []) 0 x _
    (below_first (on 9) (codes "t") size (decimal size) _ 2 scanned _ refl (sums_fork (on 10) size 4 (end_line 2 scanned))
    ∙ ap (λ (w : List ℕ). each_line 2 (codes "t") (codes "0") (decimal size) (codes "    fork sums(16; t, " ++ (decimal size ++ (codes ", A[t], P);\n  }\n" ++ w))))
    (block_first (scan_all size) [] 0 x _ (below_first (on 12) (codes "t") size (decimal size) _ 2 x _ refl (scan_fork (on 13) 4 (codes "  }\n}\ndata\n")))))))))))))

pub text_is : (kind : Kind) (size : ℕ) → canonical_text (program_of kind size) ≡ program_text kind size
text_is Mul size = mul_is size
text_is Walks size = walks_is size
text_is Stencil size = stencil_is size
text_is Scan size = scan_is size
