-- Events that put a task into another phase.
use Rattle.std.proofs.Common.{◌≡◌, ◌<◌, ◌≤◌, ℕ, List, length, refl, sym, subst, arith, Option, Some, None, Bool, true, false, not, nat_lt, ◌||◌}
use Rattle.std.proofs.lemmas.Bool.Decides.{nat_tests}
use Rattle.std.specs.Option.{option_map}
use Rattle.std.specs.List.{slice_get}
use Rattle.std.proofs.lemmas.List.{length-set}
use Rattle.kt_tables.specs.Tables.{TaskRow, CoreState, is_finished, open_before, clash_before, open_child}
use Rattle.kt_tables.specs.TableEvents.{after_at, in_phase, is_unclaimed, is_ended, is_looping, refusal, state_after, unless}
use Rattle.kt_core.specs.Steps.{rephased, rephased_at}
use Rattle.kt_tables.specs.declared.events.Event.{Event}
use Rattle.kt_tables.specs.declared.events.Event.TheVariants as E
use Rattle.kt_tables.specs.declared.events.Phase.{Phase}
use Rattle.kt_tables.specs.declared.events.Phase.TheVariants as P
use Rattle.kt_tables.specs.declared.events.Why.TheVariants as W

abbrev with_after : CoreState → Event → Option TaskRow → CoreState
with_after c e o = record { program = c.program; input = c.input; table = after_at c.program e o c.table }

abbrev with_phase : CoreState → ℕ → Phase → Option TaskRow → CoreState
with_phase c t phase o =
    record { program = c.program; input = c.input; table = record { store = c.table.store; tasks = rephased_at t phase o c.table.tasks } }

in_order_at : (c : CoreState) (t : ℕ) (o : Option TaskRow) → with_phase c t P.Running o ≡ with_after c (E.ClaimInOrder t) o
in_order_at c t None = refl
in_order_at c t (Some r) = refl

pub in_order_is : (c : CoreState) (t : ℕ) → rephased t P.Running c ≡ state_after (E.ClaimInOrder t) c
in_order_is c t = in_order_at c t (slice_get c.table.tasks t)

ready_at : (c : CoreState) (t : ℕ) (o : Option TaskRow) → with_phase c t P.Running o ≡ with_after c (E.ClaimReady t) o
ready_at c t None = refl
ready_at c t (Some r) = refl

pub ready_is : (c : CoreState) (t : ℕ) → rephased t P.Running c ≡ state_after (E.ClaimReady t) c
ready_is c t = ready_at c t (slice_get c.table.tasks t)

finish_at : (c : CoreState) (t : ℕ) (o : Option TaskRow) → with_phase c t P.Finished o ≡ with_after c (E.Finish t) o
finish_at c t None = refl
finish_at c t (Some r) = refl

pub finish_is : (c : CoreState) (t : ℕ) → rephased t P.Finished c ≡ state_after (E.Finish t) c
finish_is c t = finish_at c t (slice_get c.table.tasks t)

-- the answers to a claim in order, by what was found
pub in_order_refusal : (c : CoreState) (t : ℕ) (r : TaskRow) (o : Option ℕ) → slice_get c.table.tasks t ≡ Some r → is_unclaimed r.phase ≡ true
    → open_before t r c.table.tasks ≡ o → refusal (E.ClaimInOrder t) c.table ≡ option_map W.Earlier o
in_order_refusal c t r o at phase found = rw (at, phase, found) refl

pub ready_refusal : (c : CoreState) (t : ℕ) (r : TaskRow) (o : Option ℕ) → slice_get c.table.tasks t ≡ Some r → is_unclaimed r.phase ≡ true
    → clash_before t r c.table.tasks ≡ o → refusal (E.ClaimReady t) c.table ≡ option_map W.Clash o
ready_refusal c t r o at phase found = rw (at, phase, found) refl

-- an open child
pub finish_refusal : (c : CoreState) (t : ℕ) (r : TaskRow) (k : ℕ) → slice_get c.table.tasks t ≡ Some r → is_ended r.phase || is_looping r.phase ≡ true
    → open_child r c.table.tasks ≡ Some k → refusal (E.Finish t) c.table ≡ Some (W.Child k)
finish_refusal c t r k at phase found = rw (at, phase, found) refl

-- or else indexes that are left, or none
pub left_refusal : (c : CoreState) (t : ℕ) (r : TaskRow) (b : Bool) → slice_get c.table.tasks t ≡ Some r → is_ended r.phase || is_looping r.phase ≡ true
    → open_child r c.table.tasks ≡ None → not (nat_lt 0 r.loop.unretired) ≡ b → refusal (E.Finish t) c.table ≡ unless b (W.Left r.loop.unretired)
left_refusal c t r b at phase found left = rw (at, phase, found, left) refl

pub none_left : (n : ℕ) → n ≤ 0 → not (nat_lt 0 n) ≡ true
none_left n few = grind (arith, nat_tests)

pub some_left : (n : ℕ) → 0 < n → not (nat_lt 0 n) ≡ false
some_left n some = grind (arith, nat_tests)

-- another phase changes nothing of how many tasks there are
count_at : (t : ℕ) (phase : Phase) (o : Option TaskRow) (tasks : List TaskRow) → length (rephased_at t phase o tasks) ≡ length tasks
count_at t phase None tasks = refl
count_at t phase (Some r) tasks = length-set tasks t (in_phase phase r)

pub rephased_there : (c s : CoreState) (t : ℕ) (phase : Phase) → s ≡ rephased t phase c → t < length c.table.tasks → t < length s.table.tasks
rephased_there c s t phase is there =
    let size = count_at t phase (slice_get c.table.tasks t) c.table.tasks in
    subst (λ (u : CoreState). t < length u.table.tasks) (sym is) (omega (arith, size, there))

-- a task that is unclaimed is not finished
pub unclaimed_stays : (old new : Phase) → is_unclaimed old ≡ true → is_finished old ≡ true → is_finished new ≡ true
unclaimed_stays P.Unclaimed new unclaimed finished = absurd (cc finished)
unclaimed_stays P.Running new unclaimed finished = absurd (cc unclaimed)
unclaimed_stays P.Looping new unclaimed finished = absurd (cc unclaimed)
unclaimed_stays P.Ended new unclaimed finished = absurd (cc unclaimed)
unclaimed_stays P.Finished new unclaimed finished = absurd (cc unclaimed)
