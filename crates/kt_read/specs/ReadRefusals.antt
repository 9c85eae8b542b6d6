-- The refusal with which the reader ends.
use Rattle.std.specs.Prelude.{ℕ, List, Option, Some, None}
use Rattle.kt_law.specs.declared.places.P.TheVariants.{P4}
use Rattle.kt_law.specs.declared.places.Refusal.{Refusal}
use Rattle.kt_text.specs.Tokens.{next_token}
use Rattle.kt_tokens.specs.Ahead.{Ahead, next_of, refusal_in}
use Rattle.kt_read.specs.declared.reader.ReadRefusal.{ReadRefusal}
use Rattle.kt_read.specs.declared.reader.ReadRefusal.TheVariants.{Refused, NoMemory}
use Rattle.kt_read.specs.Jobs.{IsUnread}

abbrev pub IsReadRefusal : List ℕ → ReadRefusal → Type 0
IsReadRefusal bytes (Refused refusal) = IsUnread bytes refusal
IsReadRefusal bytes NoMemory = Unit {0}

abbrev pub refusal_or : Option Refusal → Refusal → Refusal
refusal_or (Some refusal) other = refusal
refusal_or None other = other

-- the refusal of the next token where it cannot stand, or where it is none
abbrev pub refused_at : Ahead → Refusal
refused_at a = refusal_or (refusal_in (next_token a.bytes a.at)) (record { code = P4; place = (next_of a).place })
