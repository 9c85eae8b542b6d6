-- Lines that tell how a call ended, and the totals of a run.
use Rattle.std.specs.Prelude.{ℕ, List, [], ◌∷◌, ◌++◌, Option, Some, None, codes}
use Rattle.std.specs.Fmt.{decimal}
use Rattle.std.specs.List.{flat_map}
use Rattle.kt_law.specs.declared.faults.F.{F}
use Rattle.kt_law.specs.declared.faults.F.TheVariants as C
use Rattle.kt_law.specs.declared.places.P.{P}
use Rattle.kt_law.specs.declared.places.P.TheVariants as R
use Rattle.kt_law.specs.declared.places.Place.{Place}
use Rattle.kt_law.specs.declared.places.Refusal.{Refusal}
use Rattle.kt_prog.specs.Runs.{FaultRun}
use Rattle.kt_print.specs.declared.lines.Line.{Line}
use Rattle.kt_print.specs.declared.lines.Line.TheVariants as L

abbrev pub rule_word : P → List ℕ
rule_word R.P1 = codes "P1"
rule_word R.P2 = codes "P2"
rule_word R.P3 = codes "P3"
rule_word R.P4 = codes "P4"
rule_word R.P5 = codes "P5"
rule_word R.P6 = codes "P6"
rule_word R.P7 = codes "P7"
rule_word R.P8 = codes "P8"
rule_word R.P9 = codes "P9"
rule_word R.P10 = codes "P10"
rule_word R.P11 = codes "P11"
rule_word R.P12 = codes "P12"
rule_word R.P13 = codes "P13"
rule_word R.P14 = codes "P14"

abbrev pub fault_word : F → List ℕ
fault_word C.F1 = codes "F1"
fault_word C.F2 = codes "F2"
fault_word C.F3 = codes "F3"
fault_word C.F4 = codes "F4"
fault_word C.F5 = codes "F5"
fault_word C.F6 = codes "F6"
fault_word C.F7 = codes "F7"

-- `12:7`, line and column
abbrev pub place_text : Place → List ℕ
place_text p = decimal p.line ++ (codes ":" ++ decimal p.column)

-- `refused P9 12:7`
abbrev pub refusal_text : Refusal → List ℕ
refusal_text r = codes "refused " ++ (rule_word r.code ++ (codes " " ++ place_text r.place))

-- `data B2 7 9`, the numbers found and wanted
abbrev pub too_few_text : ℕ → ℕ → List ℕ
too_few_text found wanted = codes "data B2 " ++ (decimal found ++ (codes " " ++ decimal wanted))

-- a number with a sign before it
abbrev pub step_text : ℕ → List ℕ
step_text n = codes "." ++ decimal n

-- `1.3.2`, or `main` for the empty path
abbrev pub path_text : List ℕ → List ℕ
path_text [] = codes "main"
path_text (n ∷ path) = decimal n ++ flat_map step_text path

-- ` index 17`, where a loop met the fault
abbrev pub index_text : Option ℕ → List ℕ
index_text None = []
index_text (Some index) = codes " index " ++ decimal index

-- `fault F1 1.3.2 line 4` or `fault F2 1.2 index 17 line 9`
abbrev pub fault_text : FaultRun → List ℕ
fault_text f =
    codes "fault " ++ (fault_word f.fault ++ (codes " " ++ (path_text f.path ++ (index_text f.index ++ (codes " line " ++ decimal f.line)))))

-- `tasks 3 indexes 16 sum 5440`
abbrev pub totals_text : ℕ → ℕ → ℕ → List ℕ
totals_text tasks indexes sum = codes "tasks " ++ (decimal tasks ++ (codes " indexes " ++ (decimal indexes ++ (codes " sum " ++ decimal sum))))

-- a line without its end
abbrev pub words_of : Line → List ℕ
words_of L.Usage = codes "usage"
words_of L.TooLong = codes "too long"
words_of (L.Refused refusal) = refusal_text refusal
words_of (L.BadNumber place) = codes "data B1 " ++ place_text place
words_of (L.TooFew found wanted) = too_few_text found wanted
words_of (L.TooMany place) = codes "data B3 " ++ place_text place
words_of (L.Fault fault) = fault_text fault
words_of L.Limit = codes "limit"
words_of (L.Totals tasks indexes sum) = totals_text tasks indexes sum

abbrev pub line_of : Line → List ℕ
line_of line = words_of line ++ codes "\n"
