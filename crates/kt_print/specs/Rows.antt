-- The text of rows: a line for each member of each output family. The rows are the elements of all families, in order.
use Rattle.std.specs.Prelude.{ℕ, ◌*◌, List, [], ◌∷◌, ◌++◌, take, drop, codes, if◌then◌else◌}
use Rattle.std.specs.Fmt.{decimal}
use Rattle.std.specs.List.{flat_map, range_with_len}
use Rattle.kt_prog.specs.declared.programs.Family.{Family}

-- a number with a blank before it
abbrev pub number_text : ℕ → List ℕ
number_text value = codes " " ++ decimal value

-- `NAME[k] v v v`, and a line feed
abbrev pub line_text : List ℕ → ℕ → List ℕ → List ℕ
line_text name member row = name ++ (codes "[" ++ (decimal member ++ (codes "]" ++ (flat_map number_text row ++ codes "\n"))))

-- the elements of one member, of those of its family
abbrev pub member_row : Family → List ℕ → ℕ → List ℕ
member_row family rows member = take family.elements (drop (member * family.elements) rows)

-- a line for each member
abbrev pub family_text : Family → List ℕ → List ℕ
family_text family rows = flat_map (λ k. line_text family.name k (member_row family rows k)) (range_with_len 0 family.members)

-- the output families' lines in the order of the text
abbrev pub rows_text : List Family → List ℕ → List ℕ
rows_text [] rows = []
rows_text (f ∷ families) rows =
    (if f.output then family_text f (take (f.members * f.elements) rows) else []) ++ rows_text families (drop (f.members * f.elements) rows)
