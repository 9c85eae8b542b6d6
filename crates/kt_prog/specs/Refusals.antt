-- Which breach is answered: the one with the least place, and of two at one place the one with the smaller number.
use Rattle.std.specs.Prelude.{ℕ, [], ◌∷◌, Bool, ◌&&◌, ◌||◌, Option, Some, None, nat_eq, nat_lt, if◌then◌else◌}
use Rattle.kt_law.specs.declared.places.P.{P}
use Rattle.kt_law.specs.declared.places.Place.{Place}
use Rattle.kt_law.specs.declared.places.Refusal.{Refusal}
use Rattle.kt_prog.specs.Rules.{Breaches}
use Rattle.kt_prog.specs.Declarations.{place_before}
use Rattle.kt_prog.specs.Accepted.{broken}
use Rattle.kt_prog.specs.declared.programs.Program.{Program}

abbrev pub rule_number : P → ℕ
rule_number P.P1 = 1
rule_number P.P2 = 2
rule_number P.P3 = 3
rule_number P.P4 = 4
rule_number P.P5 = 5
rule_number P.P6 = 6
rule_number P.P7 = 7
rule_number P.P8 = 8
rule_number P.P9 = 9
rule_number P.P10 = 10
rule_number P.P11 = 11
rule_number P.P12 = 12
rule_number P.P13 = 13
rule_number P.P14 = 14

abbrev pub same_place : Place → Place → Bool
same_place a b = nat_eq a.line b.line && nat_eq a.column b.column

abbrev pub goes_before : Refusal → Refusal → Bool
goes_before a b = place_before a.place b.place || same_place a.place b.place && nat_lt (rule_number a.code) (rule_number b.code)

-- the least breach so far, and one more
abbrev pub least_with : Option Refusal → Refusal → Option Refusal
least_with None r = Some r
least_with (Some b) r = Some (if goes_before r b then r else b)

-- the least breach so far, and more of them
abbrev pub noted : Option Refusal → Breaches → Option Refusal
noted b [] = b
noted b (r ∷ rs) = noted (least_with b r) rs

-- why a program isn't accepted
abbrev pub refusal_of : Program → Option Refusal
refusal_of p = noted None (broken p)
