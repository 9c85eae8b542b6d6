-- What an operation of the body of an index makes of a simulated run.
use Rattle.std.proofs.Common.{◌≡◌, ◌≢◌, ◌≤◌, ◌<◌, ℕ, zero, suc, ◌+◌, ◌-◌, Bool, true, false, List, [], ◌∷◌, ◌++◌, length, Option, Some, None, Ok, refl, sym, ap, ◌∙◌, subst, arith, slice_get, slice_set, length-set}
use Rattle.std.proofs.lemmas.Option.{slice_get_within}
use Rattle.kt_prog.specs.Calls.{Job, Index}
use Rattle.kt_prog.specs.Fits.{Fits}
use Rattle.kt_prog.specs.Operations.{heard, IsNext}
use Rattle.kt_prog.specs.declared.programs.Program.{Program}
use Rattle.kt_prog.specs.declared.runs.Operation.{Operation}
use Rattle.kt_prog.specs.declared.runs.Operation.TheVariants as O
use Rattle.kt_body.specs.Endings.{IsCalled}
use Rattle.kt_tables.specs.LoopRows.{ends, update, index_after, row_indexed}
use Rattle.kt_tables.specs.Tables.{IndexRow, TaskRow, CoreState, count_indexes}
use Rattle.kt_tables.specs.TableEvents.{CanAsk, IsIndexDue, store_after, after_at, Finds, state_after}
use Rattle.kt_tables.specs.declared.events.Event.TheVariants as E
use Rattle.kt_tables.specs.declared.events.Stand.{Stand}
use Rattle.kt_tables.specs.declared.events.Stand.TheVariants as I
use Rattle.kt_sim.specs.Left.{stand_left, taken_left, row_left, rows_left, room_left, left_in}
use Rattle.kt_sim.specs.Simulated.{EachRow, is_over, IsStill, IsQuiet, AreQuiet, IsSound, IsFew, IsCalm, Follows, IndexGoes, GoesOn, IsEnd}
use Rattle.kt_sim.proofs.Outside.{put_left}
use Rattle.kt_sim.proofs.Operated.{store_long}
use Rattle.kt_sim.proofs.Parts.{update_same, update_other, update_long, update_left, update_quiet}
use Rattle.kt_sim.proofs.Rows.{get_same, each_set, count_set}

-- what is next there is next in the body of its index
index_next_in : (c : CoreState) (t i : ℕ) (p : Program) (job : Job) (answers : List ℕ) (count : ℕ) (op : Operation) → c.program ≡ p
    → (g : IndexGoes c t i job answers count) → IsNext p job answers count op → IsNext c.program (Index g.row.call i) g.one.answers g.one.done op
index_next_in c t i p job answers count op same g next =
    subst (λ (q : Program). IsNext q (Index g.row.call i) g.one.answers g.one.done op) (sym same)
    (subst (λ (j : Job). IsNext p j g.one.answers g.one.done op) g.job_is
    (subst (λ (found : List ℕ). IsNext p job found g.one.done op) (sym g.answers_are)
    (subst (λ (n : ℕ). IsNext p job answers n op) (sym g.count_is) next)))

-- so it may be asked of the core
pub index_ask_in : (c : CoreState) (t i : ℕ) (p : Program) (job : Job) (answers : List ℕ) (count : ℕ) (op : Operation) → c.program ≡ p
    → IndexGoes c t i job answers count → IsNext p job answers count op → Finds c.program c.table.store op → CanAsk c.program (E.Index t i op) c.table
index_ask_in c t i p job answers count op same g next found =
    let due : IsIndexDue c.program i op g.one g.row c.table = record { next = index_next_in c t i p job answers count op same g next; finds = found } in
    record {
      there = slice_get_within c.table.tasks t g.row g.there;
      suits = λ r e looping v inside taken.
          let is : g.row ≡ r = cc in
          let one : g.one ≡ v = the_some (sym g.inside ∙ ap (λ (u : TaskRow). slice_get u.loop.indexes i) is ∙ inside) in
          subst (λ (u : TaskRow). IsIndexDue c.program i op v u c.table) is (subst (λ (w : IndexRow). IsIndexDue c.program i op w g.row c.table) one due);
    }
  where
    the_some : {v w : IndexRow} → Some v ≡ Some w → v ≡ w
    the_some e = cc

-- what an operation leaves of the index
record IndexStays (op : Operation) (v w : IndexRow) : Type 0 where
  pub stand : w.stand ≡ v.stand
  pub answers : w.answers ≡ v.answers ++ heard op
  pub done : w.done ≡ suc v.done
  pub none : ends op ≡ 0

index_stays : (op : Operation) (v : IndexRow) → IsCalled op → IndexStays op v (index_after op v)
index_stays (O.Load object element a) v h = record { stand = refl; answers = refl; done = refl; none = refl }
index_stays (O.Store object element x) v h = record { stand = refl; answers = refl; done = refl; none = refl }
index_stays (O.Fold object element f x) v h = record { stand = refl; answers = refl; done = refl; none = refl }
index_stays (O.Fork call) v h = record { stand = refl; answers = refl; done = refl; none = refl }
index_stays O.End v h = absurd h
index_stays (O.Fault law line) v h = absurd h

record IndexEnds (op : Operation) (w : IndexRow) : Type 0 where
  pub stand : w.stand ≡ I.Over
  pub one : ends op ≡ 1

index_ends : (op : Operation) (v : IndexRow) → IsEnd op → IndexEnds op (index_after op v)
index_ends O.End v h = record { stand = refl; one = refl }
index_ends (O.Fault law line) v h = record { stand = refl; one = refl }
index_ends (O.Load object element a) v h = absurd h
index_ends (O.Store object element x) v h = absurd h
index_ends (O.Fold object element f x) v h = absurd h
index_ends (O.Fork call) v h = absurd h

abbrev pub after_index : CoreState → ℕ → TaskRow → ℕ → Operation → CoreState
after_index c t r i op = record {
  program = c.program;
  input = c.input;
  table = record { store = store_after c.program op c.table.store; tasks = slice_set c.table.tasks t (row_indexed i op r) };
}

pub is_after_index : (c : CoreState) (t : ℕ) (r : TaskRow) (i : ℕ) (op : Operation) → slice_get c.table.tasks t ≡ Some r
    → state_after (E.Index t i op) c ≡ after_index c t r i op
is_after_index c t r i op there =
    ap (λ (o : Option TaskRow). let x : CoreState = record { program = c.program; input = c.input; table = after_at c.program (E.Index t i op) o c.table } in x) there

module _ (c : CoreState) (t i : ℕ) (job : Job) (answers : List ℕ) (count : ℕ) (op : Operation) (g : IndexGoes c t i job answers count) where
  abbrev rows : List TaskRow
  rows = slice_set c.table.tasks t (row_indexed i op g.row)

  pub index_long : length rows ≡ length c.table.tasks
  index_long = length-set c.table.tasks t (row_indexed i op g.row)

  pub index_count : count_indexes rows ≡ count_indexes c.table.tasks
  index_count =
      let sum = count_set c.table.tasks t g.row (row_indexed i op g.row) g.there in
      let same = update_long g.row.loop.indexes i (index_after op) in
      omega (arith, sum, same)

  index_sound : IsSound (after_index c t g.row i op)
  index_sound = record {
    calls = each_set (λ k u. Fits c.program u.call) c.table.tasks t (row_indexed i op g.row) (λ k u d e. g.sound.calls k u e) (g.sound.calls t g.row g.there);
    full = store_long c.program op c.table.store ∙ g.sound.full;
  }

  index_still : EachRow (λ k u. IsStill u) rows
  index_still = each_set (λ k u. IsStill u) c.table.tasks t (row_indexed i op g.row) (λ k u d e. g.still k u e) (g.still t g.row g.there)

  index_few : IsFew (after_index c t g.row i op)
  index_few = record {
    tasks = let long = index_long in let few = g.few.tasks in omega (arith, long, few);
    indexes = let count = index_count in let few = g.few.indexes in omega (arith, count, few);
  }

  index_left : left_in (after_index c t g.row i op) + row_left g.row ≡ left_in c + row_left (row_indexed i op g.row)
  index_left = put_left c t g.row (row_indexed i op g.row) g.there

  pub index_follows : left_in (after_index c t g.row i op) ≤ left_in c → Follows c (after_index c t g.row i op)
  index_follows le = record { program = refl; input = refl; more = let long = index_long in omega (arith, long); further = le }

  -- an operation that is a call
  pub index_called_follows : IsCalled op → Follows c (after_index c t g.row i op)
  index_called_follows called =
      let s = index_stays op g.one called in
      let sum = update_left g.row.loop.indexes i g.one (index_after op) g.inside in
      let stand = ap stand_left s.stand in
      let none = s.none in
      let same : row_left (row_indexed i op g.row) ≡ row_left g.row = omega (arith, sum, stand, none) in
      index_follows (level (left_in (after_index c t g.row i op)) (left_in c) (row_left g.row) (row_left (row_indexed i op g.row)) index_left same)
    where
      level : (x y a b : ℕ) → x + a ≡ y + b → b ≡ a → x ≤ y
      level x y a b sum same = omega (arith, sum, same)

  pub index_goes_called : IsCalled op → IndexGoes (after_index c t g.row i op) t i job (answers ++ heard op) (count + 1)
  index_goes_called called =
      let s = index_stays op g.one called in
      record {
        sound = index_sound;
        still = index_still;
        quiet = each_set (λ k u. k ≢ t → AreQuiet u.loop.indexes) c.table.tasks t (row_indexed i op g.row) (λ k u d e d'. g.quiet k u e d) (λ d. absurd (d refl));
        few = index_few;
        row = row_indexed i op g.row;
        there = get_same c.table.tasks t g.row (row_indexed i op g.row) g.there;
        looping = g.looping;
        others = λ j v e d. g.others j v (sym (update_other g.row.loop.indexes i j (index_after op) d) ∙ e) d;
        one = index_after op g.one;
        inside = update_same g.row.loop.indexes i g.one (index_after op) g.inside;
        taken = s.stand ∙ g.taken;
        job_is = g.job_is;
        answers_are = s.answers ∙ ap (λ (found : List ℕ). found ++ heard op) g.answers_are;
        count_is = let one = s.done in let two = g.count_is in omega (arith, one, two);
      }

  -- the end of the body
  pub index_ended_on : IsEnd op → GoesOn c (after_index c t g.row i op) (Ok tt)
  index_ended_on end =
      let s = index_ends op g.one end in
      let sum = update_left g.row.loop.indexes i g.one (index_after op) g.inside in
      let before : stand_left g.one.stand ≡ 2 = ap stand_left g.taken in
      let after : stand_left (index_after op g.one).stand ≡ 0 = ap stand_left s.stand in
      let ended = s.one in
      let less : row_left (row_indexed i op g.row) < row_left g.row = omega (arith, sum, before, after, ended) in
      let fewer = lower (left_in (after_index c t g.row i op)) (left_in c) (row_left g.row) (row_left (row_indexed i op g.row)) index_left less in (
        record {
          sound = index_sound;
          still = index_still;
          quiet = each_set (λ k u. AreQuiet u.loop.indexes) c.table.tasks t (row_indexed i op g.row) (λ k u d e. g.quiet k u e d)
              (update_quiet g.row.loop.indexes i (index_after op) g.others (λ v e h. let one : g.one ≡ v = cc in absurd (over_no v one s.stand h)));
          few = index_few;
        },
        index_follows (weaker (left_in (after_index c t g.row i op)) (left_in c) fewer),
        fewer,
      )
    where
      lower : (x y a b : ℕ) → x + a ≡ y + b → b < a → x < y
      lower x y a b sum less = omega (arith, sum, less)

      weaker : (x y : ℕ) → x < y → x ≤ y
      weaker x y less = omega (arith, less)

      over_no : (v : IndexRow) → g.one ≡ v → (index_after op g.one).stand ≡ I.Over → is_over (index_after op v).stand ≡ false → ⊥
      over_no v same over h =
          let is : is_over (index_after op g.one).stand ≡ false = subst (λ (w : IndexRow). is_over (index_after op w).stand ≡ false) (sym same) h in
          let no : true ≡ false = sym (ap is_over over) ∙ is in
          cc
