-- The events of a loop: what each makes of the core, why it is refused, and that it leaves the core sound.
use Rattle.std.proofs.Common.{◌≡◌, ◌≤◌, ◌<◌, ℕ, zero, suc, List, [], ◌∷◌, Option, Bool, true, false, Some, None, ◌&&◌, not, nat_lt, refl, sym, ap, ◌∙◌, subst, arith}
use Rattle.std.specs.List.{slice_get, slice_set}
use Rattle.std.proofs.Math.Logic.{∥∥₁_elim}
use Rattle.std.specs.Coded.{le_prop}
use Rattle.std.proofs.lemmas.Bool.Decides.{nat_tests}
use Rattle.kt_prog.specs.Calls.{Index}
use Rattle.kt_prog.specs.Next.{NextIsOnElement, IsOnElement}
use Rattle.kt_prog.specs.declared.runs.Operation.{Operation}
use Rattle.kt_store.specs.Stores.{StoreState}
use Rattle.kt_tables.specs.LoopRows.{has_inside, can_take, is_taken, is_under_way, row_begun, row_split, row_taken, row_indexed, row_retired}
use Rattle.kt_tables.specs.Tables.{IndexRow, TaskRow, CoreState, is_finished}
use Rattle.kt_tables.specs.TableEvents.{is_running, is_looping, refusal, state_after, unless}
use Rattle.kt_tables.specs.TableLaws.{IsLawfulState, has_begun}
use Rattle.kt_tables.specs.declared.events.Event.{Event}
use Rattle.kt_tables.specs.declared.events.Event.TheVariants as E
use Rattle.kt_tables.specs.declared.events.Phase.{Phase}
use Rattle.kt_tables.specs.declared.events.Phase.TheVariants as P
use Rattle.kt_tables.specs.declared.events.Stand.{Stand}
use Rattle.kt_tables.specs.declared.events.Stand.TheVariants as S
use Rattle.kt_tables.specs.declared.events.Why.TheVariants as W
use Rattle.kt_core.specs.Links.{IsSound, LinkState}
use Rattle.kt_core.specs.Steps.{EventsKeepStatesLawful, Goes, acted}
use Rattle.kt_core.proofs.Changes.{changed, changed_sound, moved, store_of}
use Rattle.kt_core.proofs.Linking.{mapped_at}
use Rattle.kt_core.proofs.Updates.{under_way_there}

-- an event that changes one row, and keeps its path and its call, leaves the core sound
pub row_sound : EventsKeepStatesLawful → (c : CoreState) (links : List LinkState) (e : Event) (store : List ℕ) (t : ℕ) (r row : TaskRow)
    → slice_get c.table.tasks t ≡ Some r → changed c store t row ≡ state_after e c → row.path ≡ r.path → row.call ≡ r.call
    → (is_finished r.phase ≡ true → is_finished row.phase ≡ true) → Goes e c → IsSound c links → IsSound (changed c store t row) links
row_sound law c links e store t r row at same path call stays goes sound =
    changed_sound c links store t r row at path call stays sound (subst IsLawfulState (sym same) (law e c goes sound.lawful))

pub begun_is : (c s : CoreState) (t : ℕ) (r row : TaskRow) → c ≡ s → slice_get c.table.tasks t ≡ Some r → row ≡ row_begun r
    → changed c c.table.store t row ≡ state_after (E.Begin t) s
begun_is c s t r row view at is = rw (← view, at, is) refl

pub split_is : (c s : CoreState) (t n : ℕ) (r row : TaskRow) → c ≡ s → slice_get c.table.tasks t ≡ Some r → row ≡ row_split n r
    → changed c c.table.store t row ≡ state_after (E.Split t n) s
split_is c s t n r row view at is = rw (← view, at, is) refl

pub taken_is : (c s : CoreState) (t n k : ℕ) (r row : TaskRow) → c ≡ s → slice_get c.table.tasks t ≡ Some r → row ≡ row_taken n k r
    → changed c c.table.store t row ≡ state_after (E.Take t n k) s
taken_is c s t n k r row view at is = rw (← view, at, is) refl

pub retired_is : (c s : CoreState) (t n : ℕ) (r row : TaskRow) → c ≡ s → slice_get c.table.tasks t ≡ Some r → row ≡ row_retired n r
    → changed c c.table.store t row ≡ state_after (E.Retire t n) s
retired_is c s t n r row view at is = rw (← view, at, is) refl

pub indexed_is : (c s : CoreState) (t i : ℕ) (op : Operation) (r row : TaskRow) (store : StoreState) → c ≡ s → slice_get c.table.tasks t ≡ Some r
    → row ≡ row_indexed i op r → store ≡ acted op (store_of c) → moved c store t row ≡ state_after (E.Index t i op) s
indexed_is c s t i op r row store view at is act = rw (← view, at, is, act) refl

set_back : {X : Type 0} → (xs : List X) (t : ℕ) (x : X) → slice_get xs t ≡ Some x → slice_set xs t x ≡ xs
set_back [] t x e = refl
set_back (y ∷ xs) zero x e = ap (λ z. z ∷ xs) (the_some e)
  where
    the_some : Some y ≡ Some x → x ≡ y
    the_some h = cc
set_back (y ∷ xs) (suc t) x e = ap (λ zs. y ∷ zs) (set_back xs t x e)

-- the row put back
pub kept_is : (c s : CoreState) (t : ℕ) (r row : TaskRow) → c ≡ s → slice_get c.table.tasks t ≡ Some r → row ≡ r → changed c c.table.store t row ≡ s
kept_is c s t r row view at is =
    ap (λ (u : TaskRow). changed c c.table.store t u) is
    ∙ ap (λ (xs : List TaskRow). record { program = c.program; input = c.input; table = record { store = c.table.store; tasks = xs } }) (set_back c.table.tasks t r at)
    ∙ view

-- an index that is under way is taken

taken_of : (stand : Stand) → is_taken stand ≡ true → stand ≡ S.Taken
taken_of S.Untaken e = absurd (cc e)
taken_of S.Taken e = refl
taken_of S.Over e = absurd (cc e)

under_way_is : (o : Option IndexRow) → is_under_way o ≡ true → (v : IndexRow) × (o ≡ Some v) × (v.stand ≡ S.Taken)
under_way_is None e = absurd (cc e)
under_way_is (Some v) e = (v, refl, taken_of v.stand e)

looping_of : (phase : Phase) → is_looping phase ≡ true → phase ≡ P.Looping
looping_of P.Unclaimed e = absurd (cc e)
looping_of P.Running e = absurd (cc e)
looping_of P.Looping e = refl
looping_of P.Ended e = absurd (cc e)
looping_of P.Finished e = absurd (cc e)

pub index_on_element : NextIsOnElement → (c : CoreState) (links : List LinkState) (t i : ℕ) (op : Operation) (r : TaskRow) → IsSound c links → Goes (E.Index t i op) c
    → slice_get c.table.tasks t ≡ Some r → is_looping r.phase ≡ true → is_under_way (slice_get r.loop.indexes i) ≡ true → IsOnElement c.program.families op
index_on_element law c links t i op r sound goes at looping under =
    let fits = sound.fit t r.call (mapped_at (λ (u : TaskRow). u.call) c.table.tasks t r at) in
    let phase = looping_of r.phase looping in
    let v = under_way_is (slice_get r.loop.indexes i) under in
    let there = under_way_there r.loop.indexes i under in
    let within : i < r.call.length =
    ∥∥₁_elim sound.lawful.table le_prop
    (λ table.
    let ok = table.rows.loops t r at in
    let loop = ok.looping phase in
    let begun : has_begun c.program r ≡ true = rw (phase, loop) refl in
    let few = (ok.begun begun).0 in
    omega (arith, few, there)) in
    law c.program sound.lawful.accepted (Index r.call i) (fits, within) v.0.answers v.0.done op (goes.can.suits r at phase v.0 v.1 v.2).next

-- a phase that is not the last
pub running_stays : (old new : Phase) → is_running old ≡ true → is_finished old ≡ true → is_finished new ≡ true
running_stays P.Unclaimed new running finished = absurd (cc running)
running_stays P.Running new running finished = absurd (cc finished)
running_stays P.Looping new running finished = absurd (cc running)
running_stays P.Ended new running finished = absurd (cc running)
running_stays P.Finished new running finished = absurd (cc running)

pub looping_stays : (old new : Phase) → is_looping old ≡ true → is_finished old ≡ true → is_finished new ≡ true
looping_stays P.Unclaimed new looping finished = absurd (cc looping)
looping_stays P.Running new looping finished = absurd (cc looping)
looping_stays P.Looping new looping finished = absurd (cc finished)
looping_stays P.Ended new looping finished = absurd (cc looping)
looping_stays P.Finished new looping finished = absurd (cc looping)

pub indexed_sound : EventsKeepStatesLawful → (c : CoreState) (links : List LinkState) (t i : ℕ) (op : Operation) (r row : TaskRow) (store : StoreState)
    → slice_get c.table.tasks t ≡ Some r → row ≡ row_indexed i op r → store ≡ acted op (store_of c) → is_looping r.phase ≡ true → Goes (E.Index t i op) c → IsSound c links
    → IsSound (moved c store t row) links
indexed_sound law c links t i op r row store at is act looping goes sound =
    let after = indexed_is c c t i op r row (acted op (store_of c)) refl at is refl in
    let lawful = subst IsLawfulState (sym after) (law (E.Index t i op) c goes sound.lawful) in
    subst (λ (s : StoreState). IsSound (moved c s t row) links) (sym act)
    (changed_sound c links (acted op (store_of c)).elements t r row at (ap (λ (u : TaskRow). u.path) is) (ap (λ (u : TaskRow). u.call) is)
    (looping_stays r.phase row.phase looping) sound lawful)

-- the answers, by what was found
module _ (c : CoreState) (t : ℕ) (r : TaskRow) (at : slice_get c.table.tasks t ≡ Some r) where
  pub begin_refusal : is_running r.phase ≡ true → refusal (E.Begin t) c.table ≡ None
  begin_refusal running = rw (at, running) refl

  pub split_refusal : (n : ℕ) (b : Bool) → is_looping r.phase ≡ true → has_inside n r.loop.pieces ≡ b → refusal (E.Split t n) c.table ≡ unless b W.NoPiece
  split_refusal n b looping found = rw (at, looping, found) refl

  pub take_none : (n : ℕ) → is_looping r.phase ≡ true → refusal (E.Take t n 0) c.table ≡ Some W.NoPiece
  take_none n looping = rw (at, looping) refl

  pub take_refusal : (n k : ℕ) (b : Bool) → is_looping r.phase ≡ true → 1 ≤ k → can_take n k r.loop.pieces ≡ b → refusal (E.Take t n k) c.table ≡ unless b W.NoPiece
  take_refusal n k b looping some found = let less : nat_lt 0 k ≡ true = grind (arith, nat_tests) in rw (at, looping, less, found) refl

  pub index_refusal : (i : ℕ) (op : Operation) (b : Bool) → is_looping r.phase ≡ true → is_under_way (slice_get r.loop.indexes i) ≡ b
      → refusal (E.Index t i op) c.table ≡ unless b (W.NotTaken i)
  index_refusal i op b looping found = rw (at, looping, found) refl

  pub retire_refusal : (n : ℕ) (b : Bool) → is_looping r.phase ≡ true → nat_lt 0 n && not (nat_lt r.loop.ended n) ≡ b
      → refusal (E.Retire t n) c.table ≡ unless b (W.NotEnded r.loop.ended)
  retire_refusal n b looping found = rw (at, looping, found) refl

-- so many can be retired
pub enough : (n ended : ℕ) → 1 ≤ n → n ≤ ended → nat_lt 0 n && not (nat_lt ended n) ≡ true
enough n ended some few =
    let a : nat_lt 0 n ≡ true = grind (arith, nat_tests) in
    let b : nat_lt ended n ≡ false = grind (arith, nat_tests) in
    rw (a, b) refl

pub too_many : (n ended : ℕ) → ended < n → nat_lt 0 n && not (nat_lt ended n) ≡ false
too_many n ended few =
    let a : nat_lt 0 n ≡ true = grind (arith, nat_tests) in
    let b : nat_lt ended n ≡ true = grind (arith, nat_tests) in
    rw (a, b) refl
