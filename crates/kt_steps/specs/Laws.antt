-- The laws of the rule: what is shown between any two steps, and for each kind of step that changes the shown core
-- which event of a run it enters, that the event is enabled there, and that the core after the step is the one that the
-- event makes. Every other kind leaves the shown core as it is.
use Rattle.std.specs.Prelude.{◌≡◌, ℕ, suc, ◌<◌, ◌≤◌, false, List, [], ◌∷◌, set, length, slice_index, Option}
use mathlib.Core.Option.{some}
use lib.ListN.{get_elem?}
use Rattle.atomic_table.specs.Table.{State}
use Rattle.kt_law.specs.Acts.{Act}
use Rattle.kt_law.specs.declared.stands.Stand.TheVariants as S
use Rattle.kt_order.specs.Body.{Do, Stop, Fork}
use Rattle.kt_order.specs.Machine.{Code}
use Rattle.kt_order.specs.Rest.{left}
use Rattle.kt_prog.specs.Calls.{Whole}
use Rattle.kt_prog.specs.Accepted.{IsAccepted}
use Rattle.kt_prog.specs.Script.{Fault}
use Rattle.kt_prog.specs.Reference.{Placed, machine_of}
use Rattle.kt_prog.specs.Store.{place_of}
use Rattle.kt_rights.specs.Acts.{effect}
use Rattle.kt_runs.specs.ByPath.{child, IsLawfulByPath}
use Rattle.kt_words.specs.Places.{place, element_word}
use Rattle.kt_words.specs.Words.{packed_state, IsStateWord}
use Rattle.kt_words.specs.declared.layouts.TheConstants.{RECORDS}
use Rattle.kt_rule.specs.declared.views.Setup.{Setup}
use Rattle.kt_rule.specs.declared.views.Spot.{Spot}
use Rattle.kt_rule.specs.declared.views.Execution.{Execution}
use Rattle.kt_rule.specs.declared.views.Berth.{Berth}
use Rattle.kt_rule.specs.declared.views.Note.{Note}
use Rattle.kt_rule.specs.declared.views.View.{View}
use Rattle.kt_rule.specs.Lists.{In}
use Rattle.kt_rule.specs.Records.{layout_of, own_record, word_at}
use Rattle.kt_rule.specs.Facts.{task_in}
use Rattle.kt_rule.specs.Rule.{Slots, IsRuled}
use Rattle.kt_rule.specs.Shown.{shown}
use Rattle.kt_rule.specs.Close.{first_view, IsOpening, AtClose}
use Rattle.kt_steps.specs.CoreMoves.{Move, Stays, Claims, Acts, Forks, Finishes, MovesBy}
use Rattle.kt_rule.specs.Steps.{state_place, state_word, won_own, BeforeKnown, IsFound, IsReady, won_for, starts, does_one, ends, published, IsBehind, IsBerth, IsBuilt}

-- the core that words and views show is lawful
abbrev pub ShowsLawfulCore : Type 0
ShowsLawfulCore = (j : Setup) (s : State Slots View) → IsRuled j s → IsLawfulByPath j.program j.input (shown j s)

-- the seat `id` has the view v and stands for somebody
abbrev pub IsSeat : State Slots View → ℕ → View → Type 0
IsSeat s id v = (get_elem? s.views id ≡ some v) × (0 < v.parts)

-- the words of an opening, and one seat that stands for all, are ruled
abbrev pub OpeningIsRuled : Type 0
OpeningIsRuled = (j : Setup) (ws : List ℕ) → IsAccepted j.program → 0 < j.workers → j.workers ≤ 8 → IsOpening j ws
    → IsRuled j (record { words = ws; homes = []; views = first_view j ∷ [] })

-- what the seat into which all were joined says at the end
abbrev pub CloseGives : Type 0
CloseGives = (j : Setup) (s : State Slots View) → IsRuled j s → (id : ℕ) (v : View) → IsSeat s id v → v.parts ≡ j.workers
    → AtClose j s.words v

-- the word becomes n, and the seat's view w
abbrev pub after_step : State Slots View → ℕ → ℕ → ℕ → View → State Slots View
after_step s i n id w = record { words = set s.words i n; homes = s.homes; views = set s.views id w }

-- the rule holds again, and the shown core has moved so
abbrev pub Enters : Setup → Move → State Slots View → State Slots View → Type 0
Enters j m s s' = IsRuled j s' × MovesBy j m s s'

-- the exchange that claims a record of the seat's own region for its own worker
abbrev pub ClaimOwnEnters : Type 0
ClaimOwnEnters = (j : Setup) (s : State Slots View) → IsRuled j s → (id : ℕ) (v : View) → IsSeat s id v → (a : ℕ) (m : Spot)
    → get_elem? v.region.spots a ≡ some m → BeforeKnown v m.path
    → slice_index s.words (state_place (layout_of j) m.berth.at) ≡ state_word m.berth S.Unclaimed
    → Enters j (Claims m.path) s (after_step s (state_place (layout_of j) m.berth.at) (state_word m.berth (S.Running v.worker)) id
    (won_own v m))

-- the exchange that claims for a thief the entry that was noted last, where it finds the word that was noted: by the
-- notes the entry is ready
abbrev pub ClaimForEnters : Type 0
ClaimForEnters = (j : Setup) (s : State Slots View) → IsRuled j s → (id : ℕ) (v : View) → IsSeat s id v → (own : Note) (ns : List Note)
    → v.seen.notes ≡ own ∷ ns → IsFound own → IsReady v own → (thief : ℕ) → thief < j.workers → (frame fork : ℕ)
    → IsStateWord (record { frame = frame; fork = fork; stand = S.Unclaimed })
    → own.word ≡ packed_state (record { frame = frame; fork = fork; stand = S.Unclaimed })
    → slice_index s.words (state_place (layout_of j) own.at) ≡ own.word
    → (g : Spot) × (g.berth.at ≡ own.at) × (state_word g.berth S.Unclaimed ≡ own.word)
    × Enters j (Claims g.path) s (after_step s (state_place (layout_of j) own.at)
    (packed_state (record { frame = frame; fork = fork; stand = S.Given thief })) id (won_for v (record { spot = g; thief = thief })))

-- the store that starts the first task that the seat was given
abbrev pub StartEnters : Type 0
StartEnters = (j : Setup) (s : State Slots View) → IsRuled j s → (id : ℕ) (v : View) → IsSeat s id v → (m : Spot) (rest : List Spot)
    → v.tasks.given ≡ m ∷ rest
    → Enters j Stays s (after_step s (state_place (layout_of j) m.berth.at) (state_word m.berth (S.Running v.worker)) id
    (starts v m rest))

-- the load, store or fetch of an element for the next act of the running body
abbrev pub ActEnters : Type 0
ActEnters = (j : Setup) (s : State Slots View) → IsRuled j s → (id : ℕ) (v : View) → IsSeat s id v
    → (e : Execution) (rest : List Execution)
    → v.tasks.running ≡ e ∷ rest → (d : Act) (next : ℕ → Code (machine_of j.program))
    → left (machine_of j.program) (task_in j e) ≡ Do d next
    → place_of j.program.families d < (layout_of j).elements
    → Enters j (Acts e.spot.path d) s (after_step s (place (layout_of j) (element_word (place_of j.program.families d)))
    (effect d.deed (word_at (layout_of j) s.words (element_word (place_of j.program.families d)))) id
    (does_one v d (word_at (layout_of j) s.words (element_word (place_of j.program.families d))) e rest))

-- the store that finishes the task of the running body, which is at its end or at a fault, and is no loop that has begun
abbrev pub FinishEnters : Type 0
FinishEnters = (j : Setup) (s : State Slots View) → IsRuled j s → (id : ℕ) (v : View) → IsSeat s id v
    → (e : Execution) (rest : List Execution)
    → v.tasks.running ≡ e ∷ rest → e.looping ≡ false → (fault : Option Fault) → left (machine_of j.program) (task_in j e) ≡ Stop fault
    → ((k : ℕ) → k < e.forks → In (child e.spot.path k) v.seen.known)
    → Enters j (Finishes e.spot.path) s (after_step s (state_place (layout_of j) e.spot.berth.at) (state_word e.spot.berth S.Finished) id
    (ends v e rest))

-- the store of the state word that publishes the next fork of the running body in the seat's next record
abbrev pub PublishEnters : Type 0
PublishEnters = (j : Setup) (s : State Slots View) → IsRuled j s → (id : ℕ) (v : View) → IsSeat s id v
    → (e : Execution) (rest : List Execution)
    → v.tasks.running ≡ e ∷ rest → (c : Placed) (code : Code (machine_of j.program))
    → left (machine_of j.program) (task_in j e) ≡ Fork c code
    → (b : Berth) → c.job ≡ Whole b.call → b.at ≡ own_record v.worker (length v.region.spots) → b.frame ≡ e.frame
    → e.frame ≡ v.tasks.begun
    → b.fork ≡ suc e.forks → b.parent ≡ suc e.spot.berth.at → IsBerth b → IsBuilt v.region.built b → length v.region.spots < RECORDS
    → IsBehind v e → v.draws.hands ≡ e.spot.path ∷ [] → v.draws.over ≡ 0
    → Enters j (Forks e.spot.path c) s (after_step s (state_place (layout_of j) b.at) (state_word b S.Unclaimed) id
    (published v e rest b))
