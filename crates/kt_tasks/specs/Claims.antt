-- What a claim does to the view of the seat, by what it answers.
use Rattle.std.specs.Prelude.{◌≡◌, ◌≢◌, ◌==◌, ℕ, ◌+◌, ◌≤◌, List, ◌∷◌, length, MatchBool}
use Rattle.atomic_table.specs.Table.{Step}
use Rattle.kt_law.specs.declared.limits.TheConstants.{TASKS, WORKERS}
use Rattle.kt_law.specs.declared.stands.Stand.{Stand}
use Rattle.kt_law.specs.declared.stands.Stand.TheVariants as S
use Rattle.kt_rule.specs.declared.views.Spot.{Spot}
use Rattle.kt_rule.specs.declared.views.View.{View}
use Rattle.kt_rule.specs.declared.views.Note.{Note}
use Rattle.kt_rule.specs.Rule.{Slots}
use Rattle.kt_rule.specs.Steps.{won_own, won_for, lost_one, stands, state_word, IsState}
use Rattle.kt_words.specs.Words.{packed_state, IsStateWord}
use Rattle.kt_words.specs.declared.states.StateWord.{StateWord}
use Rattle.kt_steps.specs.Told.{ClaimsForAt, IsMine, IsOwnAt, StandsAt, StartsGivenAt}
use Rattle.kt_tasks.specs.declared.states.Claim.{Claim}
use Rattle.kt_tasks.specs.declared.states.Claim.TheVariants as C
use Rattle.kt_tasks.specs.declared.states.Offer.{Offer}
use Rattle.kt_tasks.specs.declared.states.Offer.TheVariants as O

-- a word that says a state
abbrev pub IsStateFound : ℕ → Type 0
IsStateFound word = (x : StateWord) × IsStateWord x × (word ≡ packed_state x)

-- a claim for a thief finds one
abbrev pub ClaimsForFound : Step Slots → View → ℕ → View → Type 0
ClaimsForFound st v n w = ClaimsForAt st v n w × IsStateFound n

-- the task of an own record was begun; or the exchange found it in another state, which is this one, and the view moves as by a look
-- that finds it so
abbrev pub Claimed : View → ℕ → View → Claim → Type 0
Claimed v at w C.Won = (m : Spot) → IsMine v at m → w ≡ won_own v m
Claimed v at w (C.Stolen stand) = (stand ≢ S.Unclaimed) × (stand ≢ S.Empty)
    × ((m : Spot) → IsMine v at m → IsState m.berth stand × (w ≡ stands v at (state_word m.berth stand)))

-- for a thief: the record's task is promised to it, or the note of the entry tells that the claim was lost, with the word that was
-- found there
abbrev pub ClaimedFor : View → ℕ → StateWord → ℕ → View → Offer → Type 0
ClaimedFor v at x thief w O.Won = (g : Spot) × (g.berth.at ≡ at) × IsState g.berth S.Unclaimed
    × (state_word g.berth S.Unclaimed ≡ packed_state x) × (w ≡ won_for v (record { spot = g; thief = thief }))
ClaimedFor v at x thief w (O.Lost word) = (word ≢ packed_state x) × IsStateFound word
    × ((own : Note) (ns : List Note) → v.seen.notes ≡ own ∷ ns → w ≡ lost_one v own ns word)

-- a seat has begun no more tasks than numbers may be drawn
abbrev pub AreFew : View → Type 0
AreFew v = length v.tasks.running + (length v.tasks.halted + length v.tasks.ran) ≤ TASKS + WORKERS

-- the word is one of this task in some state
abbrev pub IsStateOf : Spot → ℕ → Type 0
IsStateOf m n = (b : Stand) × IsState m.berth b × (b ≢ S.Empty) × (n ≡ state_word m.berth b)

-- a claim of this task, which is a look at its record where it is lost
abbrev pub ClaimsOrLooks : Spot → Step Slots → View → ℕ → View → Type 0
ClaimsOrLooks m st v n w = MatchBool (n == st.first) (w ≡ won_own v m) (IsStateOf m n × StandsAt st v n w)

-- a claim and a start tell this of the view afterwards
abbrev pub ClaimsOwnFew : Step Slots → View → ℕ → View → Type 0
ClaimsOwnFew st v n w = ((m : Spot) → IsOwnAt st v m → ClaimsOrLooks m st v n w) × AreFew w

abbrev pub StartsFew : Step Slots → View → ℕ → View → Type 0
StartsFew st v n w = StartsGivenAt st v n w × AreFew w
