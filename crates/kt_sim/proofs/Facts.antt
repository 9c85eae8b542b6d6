-- What a lawful core says of its loops.
use Rattle.std.proofs.Common.{◌≡◌, ◌≤◌, ◌<◌, ℕ, zero, suc, ◌+◌, ◌-◌, Bool, true, false, cond, not, nat_eq, nat_lt, ◌||◌, ◌&&◌, List, [], ◌∷◌, map, length, Option, Some, None, refl, sym, ap, ◌∙◌, subst, arith, slice_get}
use Rattle.std.proofs.Math.Logic.{∥∥₁_elim}
use Rattle.std.specs.Coded.{le_prop}
use Rattle.std.proofs.lemmas.Bool.Decides.{nat_tests}
use Rattle.std.proofs.lemmas.Option.{slice_get_within}
use Rattle.kt_order.specs.Books.{Piece, NoneEmpty, holding, holds, below, untaken, done_in}
use Rattle.kt_order.specs.Forest as order
use Rattle.kt_prog.specs.Operations.{is_loop_at}
use Rattle.kt_tables.specs.LoopRows.{can_take, is_taken, is_under_way}
use Rattle.kt_tables.specs.Tables.{IndexRow, LoopPart, TaskRow, CoreState, no_loop, is_finished}
use Rattle.kt_tables.specs.TableEvents.{is_looping}
use Rattle.kt_tables.specs.TableLaws.{IsLawfulTable, IsLawfulState, LoopOk, has_begun, index_phases, phase_of_stand}
use Rattle.kt_tables.specs.declared.events.Phase.{Phase}
use Rattle.kt_tables.specs.declared.events.Phase.TheVariants as P
use Rattle.kt_tables.specs.declared.events.Stand.{Stand}
use Rattle.kt_tables.specs.declared.events.Stand.TheVariants as I
use Rattle.kt_sim.specs.Simulated.{is_over}
use Rattle.kt_sim.proofs.Parts.{AreIdle, not_lt}

-- where none is untaken and none under way, all have ended
all_done : (rows : List IndexRow) → ((i : ℕ) → untaken (index_phases rows) i ≡ 0) → ((i : ℕ) (v : IndexRow) → slice_get rows i ≡ Some v → is_taken v.stand ≡ false)
    → done_in (index_phases rows) ≡ length rows
all_done [] none over = refl
all_done (v ∷ rows) none over = chosen v.stand (none 0) (over 0 v refl) (all_done rows (λ i. none (suc i)) (λ i u e. over (suc i) u e))
  where
    chosen : (stand : Stand) → untaken (phase_of_stand stand ∷ index_phases rows) 0 ≡ 0 → is_taken stand ≡ false → done_in (index_phases rows) ≡ length rows
        → done_in (phase_of_stand stand ∷ index_phases rows) ≡ suc (length rows)
    chosen I.Untaken a b rest = absurd (omega (arith, a))
    chosen I.Taken a b rest = cc
    chosen I.Over a b rest = omega (arith, rest)

holds_one : (from to i : ℕ) → from ≤ i → i < to → 1 ≤ below to i - below from i
holds_one from to i low high = omega (arith, low, high)

-- what can be taken is held by a piece
take_held : (at n : ℕ) (pieces : List Piece) → can_take at n pieces ≡ true → (i : ℕ) → at ≤ i → i < at + n → 1 ≤ holding pieces i
take_held at n [] h i low high = cc
take_held at n (p ∷ pieces) h i low high = chosen (nat_eq p.from at) refl h (λ g. take_held at n pieces g i low high)
  where
    chosen : (b : Bool) → nat_eq p.from at ≡ b → cond b (not (nat_lt p.to (at + n))) (can_take at n pieces) ≡ true
        → (can_take at n pieces ≡ true → 1 ≤ holding pieces i) → 1 ≤ holding (p ∷ pieces) i
    chosen true is g more =
        let from : p.from ≡ at = grind (arith, nat_tests) in
        let within = not_lt p.to (at + n) g in
        let one = holds_one p.from p.to i (omega (arith, from, low)) (omega (arith, high, within)) in
        omega (arith, one)
    chosen false is g more = let rest = more g in omega (arith, rest)

-- an index that is held has not ended
idle_at : (rows : List IndexRow) (i : ℕ) (v : IndexRow) → 1 ≤ untaken (index_phases rows) i → slice_get rows i ≡ Some v → is_over v.stand ≡ false
idle_at [] i v h e = cc
idle_at (u ∷ rows) zero v h e = let same : u ≡ v = cc in subst (λ (w : IndexRow). is_over w.stand ≡ false) same (chosen u.stand h)
  where
    chosen : (stand : Stand) → 1 ≤ untaken (phase_of_stand stand ∷ index_phases rows) 0 → is_over stand ≡ false
    chosen I.Untaken g = refl
    chosen I.Taken g = refl
    chosen I.Over g = absurd (omega (arith, g))
idle_at (u ∷ rows) (suc i) v h e = idle_at rows i v h e

module _ (c : CoreState) (law : IsLawfulState c) (t : ℕ) (r : TaskRow) (there : slice_get c.table.tasks t ≡ Some r) where
  told : (m n : ℕ) → (IsLawfulTable c.program c.input c.table → m ≤ n) → m ≤ n
  told m n f = ∥∥₁_elim law.table le_prop f

  begun : (table : IsLawfulTable c.program c.input c.table) → r.phase ≡ P.Looping → has_begun c.program r ≡ true
  begun table phase = let loop = (table.rows.loops t r there).looping phase in rw (phase, loop) refl

  other : (ph : Phase) → r.phase ≡ ph → (is_looping ph || is_finished ph) ≡ false → has_begun c.program r ≡ false
  other ph phase none =
      ap (λ (w : Phase). (is_looping w || is_finished w) && is_loop_at c.program r.call.task) phase
      ∙ ap (λ (b : Bool). b && is_loop_at c.program r.call.task) none

  pub covered : r.phase ≡ P.Looping → (i : ℕ) → holding r.loop.pieces i ≤ untaken (index_phases r.loop.indexes) i
  covered phase i =
      told (holding r.loop.pieces i) (untaken (index_phases r.loop.indexes) i)
      (λ table. let same = ((table.rows.loops t r there).begun (begun table phase)).1.covers i in omega (arith, same))

  -- the indexes of a chunk that can be taken have not ended
  pub idle : r.phase ≡ P.Looping → (at n : ℕ) → can_take at n r.loop.pieces ≡ true → AreIdle at n r.loop.indexes
  idle phase at n can i v low high e =
      let held = take_held at n r.loop.pieces can i low high in
      let cover = covered phase i in
      idle_at r.loop.indexes i v (omega (arith, held, cover)) e

  pub piece_some : r.phase ≡ P.Looping → (p : Piece) (pieces : List Piece) → r.loop.pieces ≡ p ∷ pieces → p.from < p.to
  piece_some phase p pieces is =
      told (suc p.from) p.to (λ table. (subst NoneEmpty is ((table.rows.loops t r there).begun (begun table phase)).1.pieces).0)

  -- a task that runs has no indexes yet
  pub bare : r.phase ≡ P.Running → length r.loop.indexes ≤ 0
  bare phase =
      told (length r.loop.indexes) 0
      (λ table. let none = ap (λ (k : LoopPart). length k.indexes) ((table.rows.loops t r there).other (other P.Running phase refl)) in omega (arith, none))

  pub long : length r.loop.indexes ≤ r.call.length
  long = told (length r.loop.indexes) r.call.length (λ table. chosen (has_begun c.program r) refl (table.rows.loops t r there))
    where
      chosen : (b : Bool) → has_begun c.program r ≡ b → LoopOk c.program r → length r.loop.indexes ≤ r.call.length
      chosen true is ok = let same = (ok.begun is).0 in omega (arith, same)
      chosen false is ok = let none = ap (λ (k : LoopPart). length k.indexes) (ok.other is) in omega (arith, none)

  -- a task that has ended has none that is not retired
  pub ended_none : r.phase ≡ P.Ended → r.loop.unretired ≤ 0
  ended_none phase =
      told r.loop.unretired 0 (λ table. let none = ap (λ (k : LoopPart). k.unretired) ((table.rows.loops t r there).other (other P.Ended phase refl)) in omega (arith, none))

  -- nor has a loop all of whose indexes have ended and are retired
  pub looped_none : r.phase ≡ P.Looping → r.loop.pieces ≡ [] → ((i : ℕ) → i < r.call.length → is_under_way (slice_get r.loop.indexes i) ≡ false) → r.loop.ended ≡ 0
      → r.loop.unretired ≤ 0
  looped_none phase none over zero_is =
      told r.loop.unretired 0
      (λ table.
      let ok = (table.rows.loops t r there).begun (begun table phase) in
      let count = ok.0 in
      let sum = ok.2 in
      let all = all_done r.loop.indexes (λ i. sym (ok.1.covers i) ∙ ap (λ (ps : List Piece). holding ps i) none)
      (λ i v e. sym (ap is_under_way e) ∙ over i (let within = slice_get_within r.loop.indexes i v e in omega (arith, within, count))) in
      omega (arith, sum, all, zero_is))
