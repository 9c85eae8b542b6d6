-- Statements of the laws.
use Rattle.std.specs.Prelude.{◌≡◌, ◌<◌, ◌-◌, ◌^◌, ◌⊎◌, ℕ, List}
use Rattle.kt_io.specs.Streams.{Rose}
use Rattle.kt_io.specs.Over.{Over, IsFaulty, IsUnwritten}
use Rattle.kt_io.specs.Ending.{Said, Faults, EndsWith, SendsWhole}

abbrev pub ConstantCountNeverRose : Type 0
ConstantCountNeverRose = (count : ℕ) → count < 2 ^ 64 - 1 → Rose count count → ⊥

-- where neither stream failed, an answer to the words and the job was written whole, or there was no memory and nothing was written
abbrev pub EndsWithoutFaults : (X : Type 0) → (List (List ℕ) → List ℕ → Said X → Type 0) → Type 0
EndsWithoutFaults X Answers = (faults : Faults X) (words : List (List ℕ)) (job : List ℕ) (source sink : Over) (exit : X) →
    (IsFaulty source → ⊥) → (IsFaulty sink → ⊥) → EndsWith faults (Answers words job) source sink exit →
    ((reply : Said X) × Answers words job reply × SendsWhole reply sink exit) ⊎ ((exit ≡ faults.no_memory) × IsUnwritten sink)
