-- The texts of the generated jobs. A capital letter that names a size stands for its decimal number.
use Rattle.std.specs.Prelude.{ℕ, zero, suc, ◌+◌, ◌*◌, ◌^◌, List, [], ◌∷◌, ◌++◌, codes, nat_eq, nat_le, if◌then◌else◌}
use Rattle.std.specs.Fmt.{decimal}
use Rattle.std.specs.List.{flat_map}
use Rattle.kt_text.specs.declared.commands.Kind.{Kind}
use Rattle.kt_text.specs.declared.commands.Kind.TheVariants.{Mul, Walks, Stencil, Scan}

-- a letter, by its byte, and the number that it stands for
pub record Letter : Type 0 where
  pub byte : ℕ
  pub value : ℕ

abbrev pub put : List Letter → ℕ → List ℕ
put [] byte = byte ∷ []
put (l ∷ letters) byte = if nat_eq byte l.byte then decimal l.value else put letters byte

-- the text with the numbers in place of the letters
abbrev pub filled : List Letter → List ℕ → List ℕ
filled letters text = flat_map (put letters) text

-- the letters S, Q, H, T and U
abbrev pub s_is : ℕ → Letter
s_is n = record { byte = 83; value = n }

abbrev pub q_is : ℕ → Letter
q_is n = record { byte = 81; value = n }

abbrev pub h_is : ℕ → Letter
h_is n = record { byte = 72; value = n }

abbrev pub t_is : ℕ → Letter
t_is n = record { byte = 84; value = n }

abbrev pub u_is : ℕ → Letter
u_is n = record { byte = 85; value = n }

-- S is the size and Q is S S.
abbrev pub mul_text : ℕ → List ℕ
mul_text size = filled (s_is size ∷ q_is (size * size) ∷ [])
    (codes "object A[Q] of 256 input;\n" ++
    (codes "object B[Q] of 256 input;\n" ++
    (codes "object C[Q] of 256 output;\n" ++
    (codes "main {\n" ++
    (codes "  for i in 0..S {\n" ++
    (codes "    for j in 0..S {\n" ++
    (codes "      for k in 0..S {\n" ++
    (codes "        fork k_mul(16, 16, 16, A[i * S + k], B[k * S + j], C[i * S + j]);\n" ++
    (codes "      }\n" ++
    (codes "    }\n" ++
    (codes "  }\n" ++
    (codes "}\n" ++
    codes "data\n"))))))))))))

-- the least h from `from` on with 4^h at least this much, if it is one of the next so many
abbrev pub least_power : ℕ → ℕ → ℕ → ℕ
least_power zero from much = from
least_power (suc more) from much = if nat_le much (4 ^ from) then from else least_power more (suc from) much

-- the least h from 1 on with 4^h at least 16 S, for sizes of which it is at most 8
abbrev pub rounds_of : ℕ → ℕ
rounds_of size = least_power 8 1 (16 * size)

-- S is the size, Q is S S, and H is the least h from 1 on with 4^h at least 16 S.
abbrev pub walks_text : ℕ → List ℕ
walks_text size = filled (s_is size ∷ q_is (size * size) ∷ h_is (rounds_of size) ∷ [])
    (codes "object D[Q] of 256 input output;\n" ++
    (codes "object E[Q] of 256;\n" ++
    (codes "task copy(r P, w R) {\n" ++
    (codes "  for i in 0..256 {\n" ++
    (codes "    R[i] = P[i];\n" ++
    (codes "  }\n" ++
    (codes "}\n" ++
    (codes "main {\n" ++
    (codes "  for h in 0..H {\n" ++
    (codes "    for t in 0..Q {\n" ++
    (codes "      fork copy(D[t], E[t]);\n" ++
    (codes "    }\n" ++
    (codes "    for i in 0..S {\n" ++
    (codes "      for j in 0..S {\n" ++
    (codes "        for k in 0..S {\n" ++
    (codes "          fork k_minplus(16, 16, 16, D[i * S + k], D[k * S + j], E[i * S + j]);\n" ++
    (codes "        }\n" ++
    (codes "      }\n" ++
    (codes "    }\n" ++
    (codes "    for t in 0..Q {\n" ++
    (codes "      fork copy(E[t], D[t]);\n" ++
    (codes "    }\n" ++
    (codes "    for i in 0..S {\n" ++
    (codes "      for j in 0..S {\n" ++
    (codes "        for k in 0..S {\n" ++
    (codes "          fork k_minplus(16, 16, 16, E[i * S + k], E[k * S + j], D[i * S + j]);\n" ++
    (codes "        }\n" ++
    (codes "      }\n" ++
    (codes "    }\n" ++
    (codes "  }\n" ++
    (codes "}\n" ++
    codes "data\n")))))))))))))))))))))))))))))))

-- T is S + 2 and U is S + 1.
abbrev pub stencil_text : ℕ → List ℕ
stencil_text size = filled (t_is (size + 2) ∷ u_is (size + 1) ∷ [])
    (codes "object A[T] of 16 input output;\n" ++
    (codes "object B[T] of 16;\n" ++
    (codes "main {\n" ++
    (codes "  for h in 0..2 {\n" ++
    (codes "    for j in 1..U {\n" ++
    (codes "      fork k_stencil(16, A[j - 1], A[j], A[j + 1], B[j]);\n" ++
    (codes "    }\n" ++
    (codes "    for j in 1..U {\n" ++
    (codes "      fork k_stencil(16, B[j - 1], B[j], B[j + 1], A[j]);\n" ++
    (codes "    }\n" ++
    (codes "  }\n" ++
    (codes "}\n" ++
    codes "data\n"))))))))))))

-- S is the size.
abbrev pub scan_text : ℕ → List ℕ
scan_text size = filled (s_is size ∷ [])
    (codes "object A[S] of 16 input output;\n" ++
    (codes "object P of S;\n" ++
    (codes "loop sums(i; int t, int m, r Q, cw(add) R) {\n" ++
    (codes "  for u in t + 1..m {\n" ++
    (codes "    R[u] add= Q[i];\n" ++
    (codes "  }\n" ++
    (codes "}\n" ++
    (codes "main {\n" ++
    (codes "  for t in 0..S {\n" ++
    (codes "    fork sums(16; t, S, A[t], P);\n" ++
    (codes "  }\n" ++
    (codes "  for t in 0..S {\n" ++
    (codes "    fork k_scan(16, t, P, A[t]);\n" ++
    (codes "  }\n" ++
    (codes "}\n" ++
    codes "data\n")))))))))))))))

-- the text of a generated program
abbrev pub program_text : Kind → ℕ → List ℕ
program_text Mul size = mul_text size
program_text Walks size = walks_text size
program_text Stencil size = stencil_text size
program_text Scan size = scan_text size
