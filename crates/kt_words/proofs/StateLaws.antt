-- State words are a packing, and what is read from one.
use Rattle.std.proofs.Common.{◌≡◌, ◌≢◌, ℕ, ◌/◌, ◌%◌, ◌^◌, ◌<◌, [], ◌∷◌, get_or, Some, None, refl, sym, ap, ◌∙◌, subst, arith}
use Rattle.kt_law.specs.declared.stands.Stand.{Stand}
use Rattle.kt_law.specs.declared.stands.Stand.TheVariants as S
use Rattle.kt_words.specs.BitFields.{AllFit, packed, HasFields, Unpacks}
use Rattle.kt_words.specs.Words.{stand_number, worker_number, state_fields, IsBlankIfEmpty, IsStateWord, packed_state}
use Rattle.kt_words.specs.Laws.{IsPacking, ZeroIsEmpty}
use Rattle.kt_words.specs.declared.states.StateWord.{StateWord}
use Rattle.kt_words.proofs.Packings.{apart, unpacks_some, unpacks_none, packing}
use Rattle.kt_words.proofs.FieldLaws.{packed_again}

abbrev stand_at : ℕ → ℕ → Stand
stand_at number worker = get_or (S.Empty ∷ S.Unclaimed ∷ S.Given worker ∷ S.Running worker ∷ S.Finished ∷ []) number S.Empty

stand_at-numbers : (stand : Stand) → stand_at (stand_number stand) (worker_number stand) ≡ stand
stand_at-numbers S.Empty = refl
stand_at-numbers S.Unclaimed = refl
stand_at-numbers (S.Given worker) = refl
stand_at-numbers (S.Running worker) = refl
stand_at-numbers S.Finished = refl

same_stand : (a b : Stand) → stand_number a ≡ stand_number b → worker_number a ≡ worker_number b → a ≡ b
same_stand a b number worker = sym (stand_at-numbers a) ∙ (λ i. stand_at (number i) (worker i)) ∙ stand_at-numbers b

stand_number-below : (stand : Stand) → stand_number stand < 2 ^ 3
stand_number-below S.Empty = omega arith
stand_number-below S.Unclaimed = omega arith
stand_number-below (S.Given worker) = omega arith
stand_number-below (S.Running worker) = omega arith
stand_number-below S.Finished = omega arith

blank_of_task : (stand : Stand) → stand ≢ S.Empty → (frame fork : ℕ) → IsBlankIfEmpty stand frame fork
blank_of_task S.Empty task frame fork = absurd (task refl)
blank_of_task S.Unclaimed task frame fork = tt
blank_of_task (S.Given worker) task frame fork = tt
blank_of_task (S.Running worker) task frame fork = tt
blank_of_task S.Finished task frame fork = tt

state_fit : (v : StateWord) → IsStateWord v → AllFit (state_fields v)
state_fit v h = (stand_number-below v.stand, (h.worker_fits, (h.fork_fits, (h.frame_fits, tt))))

state_fixed : (word : ℕ) (v w : StateWord) → HasFields word (state_fields v) → HasFields word (state_fields w) → v ≡ w
state_fixed word v w a b =
    let stand : v.stand ≡ w.stand = same_stand v.stand w.stand (sym a.0 ∙ b.0) (sym a.1.0 ∙ b.1.0) in
    let fork : v.fork ≡ w.fork = sym a.1.1.0 ∙ b.1.1.0 in
    let frame : v.frame ≡ w.frame = sym a.1.1.1.0 ∙ b.1.1.1.0 in
    λ i. record { frame = frame i; fork = fork i; stand = stand i }

state_below : (v : StateWord) → IsStateWord v → packed (state_fields v) < 2 ^ 64
state_below v h = omega (arith, stand_number-below v.stand)

pub state_words : IsPacking IsStateWord packed_state
unfolding packed_state
state_words = packing IsStateWord state_fields state_fit state_fixed state_below

-- the parts of a state that is empty
empty_parts : (v : StateWord) → IsStateWord v → v.stand ≡ S.Empty → (v.frame ≡ 0) × (v.fork ≡ 0)
empty_parts v h empty = subst (λ stand. IsBlankIfEmpty stand v.frame v.fork) empty h.blank_if_empty

zero_of_empty : (v : StateWord) → IsStateWord v → v.stand ≡ S.Empty → packed (state_fields v) ≡ 0
zero_of_empty v h empty =
    let parts = empty_parts v h empty in
    let number : stand_number v.stand ≡ 0 = ap stand_number empty in
    let worker : worker_number v.stand ≡ 0 = ap worker_number empty in
    omega (arith, parts.0, parts.1)

abbrev blank : StateWord
blank = record { frame = 0; fork = 0; stand = S.Empty }

blank_in_range : IsStateWord blank
blank_in_range = record { frame_fits = omega arith; fork_fits = omega arith; worker_fits = omega arith; blank_if_empty = (refl, refl) }

pub zero_is_empty : ZeroIsEmpty
unfolding packed_state
zero_is_empty v h =
    (λ e. ap (λ (u : StateWord). u.stand) (apart IsStateWord state_fields state_fit state_fixed v blank h blank_in_range e), zero_of_empty v h)

pub empty_found : (word : ℕ) → word ≡ 0 → Unpacks IsStateWord packed_state word (Some (record { frame = 0; fork = 0; stand = S.Empty }))
unfolding packed_state
empty_found word e = unpacks_some IsStateWord state_fields state_fit state_fixed word blank blank_in_range (sym e)

pub task_found : (word number rest worker above fork frame : ℕ) (stand : Stand) → word < 2 ^ 64
    → number ≡ word % 2 ^ 3 → rest ≡ word / 2 ^ 3 → worker ≡ rest % 2 ^ 3 → above ≡ rest / 2 ^ 3
    → fork ≡ above % 2 ^ 17 → frame ≡ above / 2 ^ 17
    → stand_number stand ≡ number → worker_number stand ≡ worker → stand ≢ S.Empty
    → Unpacks IsStateWord packed_state word (Some (record { frame = frame; fork = fork; stand = stand }))
unfolding packed_state
task_found word number rest worker above fork frame stand small low high low' high' low'' high'' same_number same_worker task =
    let range : IsStateWord (record { frame = frame; fork = fork; stand = stand }) = record {
      frame_fits = omega arith;
      fork_fits = omega arith;
      worker_fits = omega arith;
      blank_if_empty = blank_of_task stand task frame fork;
    } in
    unpacks_some IsStateWord state_fields state_fit state_fixed word (record { frame = frame; fork = fork; stand = stand }) range (omega arith)

pub no_state : (word number rest worker : ℕ) → word ≢ 0 → number ≡ word % 2 ^ 3 → rest ≡ word / 2 ^ 3 → worker ≡ rest % 2 ^ 3
    → ((stand : Stand) → stand ≢ S.Empty → stand_number stand ≡ number → worker_number stand ≢ worker)
    → Unpacks IsStateWord packed_state word None
unfolding packed_state
no_state word number rest worker other low high low' nowhere =
    unpacks_none IsStateWord state_fields state_fit state_fixed word (λ v h has.
    let same_number : stand_number v.stand ≡ number = sym has.0 ∙ sym low in
    let same_worker : worker_number v.stand ≡ worker = sym has.1.0 ∙ ap (λ n. n % 2 ^ 3) (sym high) ∙ sym low' in
    let task : v.stand ≢ S.Empty = (λ empty. other (sym (packed_again word (state_fields v) has) ∙ zero_of_empty v h empty)) in
    nowhere v.stand task same_number same_worker)
