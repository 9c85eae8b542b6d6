-- The words that the program is called with.
use Rattle.std.specs.Prelude.{ℕ, ◌-◌, ◌^◌, Bool, ◌&&◌, List, [], ◌∷◌, length, map, nat_lt, nat_le, if◌then◌else◌, Option, Some, None, String, string_bytes, bytes_eq, codes}
use Rattle.std.specs.Char.{is_ascii_digit}
use Rattle.std.specs.List.{list_all}
use Rattle.std.specs.declared.alloc.Global.{Global}
use Rattle.kt_law.specs.declared.limits.TheConstants.{WORKERS}
use Rattle.kt_text.specs.declared.commands.Kind.{Kind}
use Rattle.kt_text.specs.declared.commands.Kind.TheVariants.{Mul, Walks, Stencil, Scan}
use Rattle.kt_text.specs.declared.commands.Command.{Command}
use Rattle.kt_text.specs.declared.commands.Command.TheVariants.{Check, Seq, Sim, Run, Gen, Demo}
use Rattle.kt_text.specs.Bytes.{value_of}

abbrev pub texts_of : List (String Global) → List (List ℕ)
texts_of words = map (λ (word : String Global). string_bytes word) words

-- 1 to 20 decimal digits and nothing else, leading zeros among them
abbrev pub is_number : List ℕ → Bool
is_number word = nat_lt 0 (length word) && nat_le (length word) 20 && list_all is_ascii_digit word

abbrev pub number_between : ℕ → ℕ → List ℕ → Option ℕ
number_between low high word =
    if is_number word && nat_le low (value_of word) && nat_le (value_of word) high then Some (value_of word) else None

-- W
abbrev pub workers_of : List ℕ → Option ℕ
workers_of word = number_between 1 WORKERS word

-- NUMBER
abbrev pub number_of : List ℕ → Option ℕ
number_of word = number_between 0 (2 ^ 64 - 1) word

-- KIND
abbrev pub kind_of : List ℕ → Option Kind
kind_of word =
    if bytes_eq word (codes "mul") then Some Mul
    else if bytes_eq word (codes "walks") then Some Walks
    else if bytes_eq word (codes "stencil") then Some Stencil
    else if bytes_eq word (codes "scan") then Some Scan
    else None

abbrev pub largest_of : Kind → ℕ
largest_of Mul = 25
largest_of Walks = 12
largest_of Stencil = 1024
largest_of Scan = 1024

-- KIND SIZE, a size from 1 on
abbrev pub size_of : Option Kind → List ℕ → Option (Kind × ℕ)
size_of (Some kind) word = elim (number_between 1 (largest_of kind) word) [ Some size ↦ Some (kind, size) | None ↦ None ]
size_of None word = None

abbrev pub sized_of : List ℕ → List ℕ → Option (Kind × ℕ)
sized_of kind size = size_of (kind_of kind) size

abbrev pub run_of : Option ℕ → Option Command
run_of (Some workers) = Some (Run workers)
run_of None = None

abbrev pub sim_of : Option ℕ → Option ℕ → Option Command
sim_of (Some workers) (Some number) = Some (Sim workers number)
sim_of _ _ = None

abbrev pub gen_of : Option (Kind × ℕ) → Option ℕ → Option Command
gen_of (Some sized) (Some number) = Some (Gen sized.0 sized.1 number)
gen_of _ _ = None

abbrev pub demo_of : Option (Kind × ℕ) → Option ℕ → Option ℕ → Option Command
demo_of (Some sized) (Some number) (Some workers) = Some (Demo sized.0 sized.1 number workers)
demo_of _ _ _ = None

-- `check`, `seq`, `run W`, `sim W NUMBER`, `gen KIND SIZE NUMBER`, `demo KIND SIZE NUMBER W`, and nothing else
abbrev pub command_of : List (List ℕ) → Option Command
command_of (name ∷ []) = if bytes_eq name (codes "check") then Some Check else if bytes_eq name (codes "seq") then Some Seq else None
command_of (name ∷ w ∷ []) = if bytes_eq name (codes "run") then run_of (workers_of w) else None
command_of (name ∷ w ∷ number ∷ []) = if bytes_eq name (codes "sim") then sim_of (workers_of w) (number_of number) else None
command_of (name ∷ kind ∷ size ∷ number ∷ []) = if bytes_eq name (codes "gen") then gen_of (sized_of kind size) (number_of number) else None
command_of (name ∷ kind ∷ size ∷ number ∷ w ∷ []) = if bytes_eq name (codes "demo") then demo_of (sized_of kind size) (number_of number) (workers_of w) else None
command_of _ = None
