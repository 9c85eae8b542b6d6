-- The numbers of the generated jobs: a row for each member of each input family.
use Rattle.std.specs.Prelude.{ℕ, ◌+◌, ◌-◌, ◌*◌, ◌^◌, ◌/◌, ◌%◌, List, [], ◌∷◌, ◌++◌, ◌||◌, codes, map, nat_eq, if◌then◌else◌}
use Rattle.std.specs.Fmt.{decimal}
use Rattle.std.specs.List.{flat_map, range_with_len}
use Rattle.kt_print.specs.Rows.{number_text}
use Rattle.kt_text.specs.declared.commands.Kind.{Kind}
use Rattle.kt_text.specs.declared.commands.Kind.TheVariants.{Mul, Walks, Stencil, Scan}

-- g(k) = (k k + N k + N) mod 1009, where N is the job's number modulo 1009
abbrev pub drawn : ℕ → ℕ → ℕ
drawn number k = let n = number % 1009 in (k * k + n * k + n) % 1009

-- the rows of so many members of so many elements; element e of member t is `f t e`
abbrev pub rows : ℕ → ℕ → (ℕ → ℕ → ℕ) → List (List ℕ)
rows members elements f = map (λ t. map (λ e. f t e) (range_with_len 0 elements)) (range_with_len 0 members)

-- Element e of A[t] is g(256 t + e). Element e of B[t] is g(256 Q + 256 t + e).
abbrev pub mul_rows : ℕ → ℕ → List (List ℕ)
mul_rows size number =
    let q = size * size in
    rows q 256 (λ t e. drawn number (256 * t + e)) ++ rows q 256 (λ t e. drawn number (256 * q + 256 * t + e))

-- the length of the arc from node u to node v: 0 where u = v, else g(16 S u + v), or 2^64-1 where that is divisible by 4
abbrev pub arc : ℕ → ℕ → ℕ → ℕ → ℕ
arc size number u v =
    let length = drawn number (16 * size * u + v) in
    if nat_eq u v then 0 else if nat_eq (length % 4) 0 then 2 ^ 64 - 1 else length

-- Element 16 a + b of D[I S + J], with a and b below 16, belongs to the nodes 16 I + a and 16 J + b.
abbrev pub walks_rows : ℕ → ℕ → List (List ℕ)
walks_rows size number =
    rows (size * size) 256 (λ t e. arc size number (16 * (t / size) + e / 16) (16 * (t % size) + e % 16))

-- A[0] and A[S + 1] are zeros. Element e of A[j], j from 1 to S, is g(16 (j - 1) + e).
abbrev pub stencil_rows : ℕ → ℕ → List (List ℕ)
stencil_rows size number =
    rows (size + 2) 16 (λ j e. if nat_eq j 0 || nat_eq j (size + 1) then 0 else drawn number (16 * (j - 1) + e))

-- Element e of A[t] is g(16 t + e).
abbrev pub scan_rows : ℕ → ℕ → List (List ℕ)
scan_rows size number = rows size 16 (λ t e. drawn number (16 * t + e))

abbrev pub rows_of : Kind → ℕ → ℕ → List (List ℕ)
rows_of Mul size number = mul_rows size number
rows_of Walks size number = walks_rows size number
rows_of Stencil size number = stencil_rows size number
rows_of Scan size number = scan_rows size number

-- the numbers of a generated job, in order
abbrev pub numbers_of : Kind → ℕ → ℕ → List ℕ
numbers_of kind size number = flat_map (λ row. row) (rows_of kind size number)

-- a row on a line, with one blank between the numbers
abbrev pub row_text : List ℕ → List ℕ
row_text [] = codes "\n"
row_text (n ∷ row) = decimal n ++ (flat_map number_text row ++ codes "\n")

-- the lines of numbers behind a generated program
abbrev pub lines_text : List (List ℕ) → List ℕ
lines_text rows = flat_map row_text rows

-- ---- the same by the rows' places among all, for the functions that draw them

abbrev pub width_of : Kind → ℕ
width_of Mul = 256
width_of Walks = 256
width_of Stencil = 16
width_of Scan = 16

abbrev pub members_of : Kind → ℕ → ℕ
members_of Mul size = size * size + size * size
members_of Walks size = size * size
members_of Stencil size = size + 2
members_of Scan size = size

-- element e of row t of a job
abbrev pub element_of : Kind → ℕ → ℕ → ℕ → ℕ → ℕ
element_of Mul size number t e = drawn number (256 * t + e)
element_of Walks size number t e = arc size number (16 * (t / size) + e / 16) (16 * (t % size) + e % 16)
element_of Stencil size number j e = if nat_eq j 0 || nat_eq j (size + 1) then 0 else drawn number (16 * (j - 1) + e)
element_of Scan size number t e = drawn number (16 * t + e)

abbrev pub row_of : Kind → ℕ → ℕ → ℕ → List ℕ
row_of kind size number t = map (λ e. element_of kind size number t e) (range_with_len 0 (width_of kind))
