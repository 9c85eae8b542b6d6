-- Exits: the number of each, and which ends a run.
use Rattle.std.specs.Prelude.{ℕ, Bool, true, false}
use Rattle.kaapi.specs.declared.exits.Exit.{Exit}
use Rattle.kaapi.specs.declared.exits.Exit.TheVariants as E

-- the number with which the process ends
abbrev pub number_of : Exit → ℕ
number_of E.Done = 0
number_of E.Usage = 2
number_of E.ReadFault = 3
number_of E.WriteFault = 4
number_of E.Refused = 5
number_of E.BadData = 6
number_of E.Fault = 7
number_of E.Limit = 8
number_of E.TooLong = 9
number_of E.NoMemory = 10

-- of the exits of words that ask for a run: a run came to its end, and its answer was written
abbrev pub ends_run : Exit → Bool
ends_run E.Done = true
ends_run E.Fault = true
ends_run E.Limit = true
ends_run E.Usage = false
ends_run E.ReadFault = false
ends_run E.WriteFault = false
ends_run E.Refused = false
ends_run E.BadData = false
ends_run E.TooLong = false
ends_run E.NoMemory = false
