-- A loop of a simulated run begins.
use Rattle.std.proofs.Common.{◌≡◌, ◌≢◌, ◌≤◌, ◌<◌, ◌+◌, ◌-◌, ◌*◌, ℕ, zero, suc, true, List, [], ◌∷◌, length, replicate, inr, Option, Some, None, Ok, Err, refl, sym, ap, ◌∙◌, subst, arith, slice_get, slice_set, length-set}
use Rattle.std.proofs.lemmas.Option.{slice_get_within}
use Rattle.kt_law.specs.declared.limits.TheConstants.{INDEXES, LENGTH}
use Rattle.kt_order.specs.Books.{one_piece}
use Rattle.kt_prog.specs.Calls.{CallTree, Whole}
use Rattle.kt_prog.specs.Fits.{Fits}
use Rattle.kt_prog.specs.Operations.{IsNext, is_loop_at}
use Rattle.kt_prog.specs.declared.runs.Operation.{Operation}
use Rattle.kt_tables.specs.LoopRows.{row_begun}
use Rattle.kt_tables.specs.Tables.{IndexRow, TaskRow, CoreState, count_indexes, untaken_index}
use Rattle.kt_tables.specs.TableEvents.{CanAsk, NothingIsNext, Suits, after_at, refusal, state_after}
use Rattle.kt_tables.specs.TableLaws.{IsLawfulState}
use Rattle.kt_tables.specs.declared.events.Event.TheVariants as E
use Rattle.kt_tables.specs.declared.events.Phase.TheVariants as P
use Rattle.kt_sim.specs.declared.operations.Simulation.{Simulation}
use Rattle.kt_sim.specs.declared.operations.Stop.TheVariants as S
use Rattle.kt_sim.specs.Left.{pieces_left, taken_left, phase_left, loop_left, row_left, left_in}
use Rattle.kt_sim.specs.Simulated.{IsStill, IsQuiet, AreQuiet, Follows, Goes, GoesOn, HasZeroed}
use Rattle.kt_sim.proofs.Outside.{put, put_left}
use Rattle.kt_sim.proofs.Facts.{bare}
use Rattle.kt_sim.proofs.Operated.{fits_short}
use Rattle.kt_sim.proofs.Rows.{each_set, count_set}

-- indexes that nobody has taken
fresh_quiet : (n : ℕ) → AreQuiet (replicate n untaken_index)
fresh_quiet zero i v e = cc
fresh_quiet (suc n) zero v e = let same : untaken_index ≡ v = cc in subst (λ (w : IndexRow). IsQuiet w) same (λ h. (refl, refl))
fresh_quiet (suc n) (suc i) v e = fresh_quiet n i v e

fresh_left : (n : ℕ) → taken_left (replicate n untaken_index) ≡ 0
fresh_left zero = refl
fresh_left (suc n) = let rest = fresh_left n in omega (arith, rest)

fresh_long : (n : ℕ) → length (replicate n untaken_index) ≡ n
fresh_long zero = refl
fresh_long (suc n) = ap suc (fresh_long n)

piece_left : (n : ℕ) → pieces_left (one_piece n) ≤ 4 * n
piece_left zero = omega arith
piece_left (suc n) = omega arith

same_call : (a b : CallTree) → Whole a ≡ Whole b → a ≡ b
same_call a b e = cc

module _ (s : Simulation) (z : HasZeroed s) where
  abbrev pub row : TaskRow
  row = z.goes.row

  pub zeroed_call : z.call ≡ row.call
  zeroed_call = same_call z.call row.call z.goes.job_is

  pub zeroed_short : z.call.length ≤ LENGTH
  zeroed_short =
      let short = fits_short s.core.program row.call (z.goes.sound.calls s.task row z.goes.there) in
      let same = ap (λ (k : CallTree). k.length) zeroed_call in
      omega (arith, short, same)

  nothing : NothingIsNext s.core.program row
  nothing op next =
      z.done op
      (subst (λ (k : CallTree). IsNext s.core.program (Whole k) z.answers z.count op) (sym zeroed_call)
      (subst (λ (found : List ℕ). IsNext s.core.program (Whole row.call) found z.count op) z.goes.answers_are
      (subst (λ (n : ℕ). IsNext s.core.program (Whole row.call) row.answers n op) z.goes.count_is next)))

  pub ask_begin : CanAsk s.core.program (E.Begin s.task) s.core.table
  ask_begin = record {
    there = slice_get_within s.core.table.tasks s.task row z.goes.there;
    suits = λ r e. let is : row ≡ r = cc in subst (λ (u : TaskRow). Suits s.core.program (E.Begin s.task) u s.core.table) is
        (ap (λ (k : CallTree). is_loop_at s.core.program k.task) (sym zeroed_call) ∙ z.loop, λ running. nothing);
  }

  pub begin_free : refusal (E.Begin s.task) s.core.table ≡ None
  begin_free = rw (z.goes.there, z.goes.running) refl

  abbrev pub begun : CoreState
  begun = put s.core s.task (row_begun row)

  pub begun_is : state_after (E.Begin s.task) s.core ≡ begun
  begun_is =
      ap (λ (o : Option TaskRow). let x : CoreState = record { program = s.core.program; input = s.core.input; table = after_at s.core.program (E.Begin s.task) o s.core.table } in x) z.goes.there

  begun_less : row_left (row_begun row) < row_left row
  begun_less =
      let none = fresh_left row.call.length in
      let piece = piece_left row.call.length in
      let before : phase_left row.phase row.call.length ≡ phase_left P.Running row.call.length = ap (λ ph. phase_left ph row.call.length) z.goes.running in
      less (pieces_left (one_piece row.call.length)) (taken_left (replicate row.call.length untaken_index)) row.call.length (phase_left row.phase row.call.length) (loop_left row.loop) none piece before
    where
      less : (a b n x k : ℕ) → b ≡ 0 → a ≤ 4 * n → x ≡ 2 + 4 * n → 1 + (a + b + 0) < x + k
      less a b n x k none piece before = omega (arith, none, piece, before)

  begun_left : left_in begun < left_in s.core
  begun_left = lower (left_in begun) (left_in s.core) (row_left row) (row_left (row_begun row)) (put_left s.core s.task row (row_begun row) z.goes.there) begun_less
    where
      lower : (x y a b : ℕ) → x + a ≡ y + b → b < a → x < y
      lower x y a b sum less = omega (arith, sum, less)

  pub begun_count : IsLawfulState s.core → count_indexes begun.table.tasks ≡ count_indexes s.core.table.tasks + z.call.length
  begun_count law =
      let sum = count_set s.core.table.tasks s.task row (row_begun row) z.goes.there in
      let none = bare s.core law s.task row z.goes.there z.goes.running in
      let long = fresh_long row.call.length in
      let same = ap (λ (k : CallTree). k.length) zeroed_call in
      omega (arith, sum, none, long, same)

  begun_follows : Follows s.core begun
  begun_follows = record {
    program = refl;
    input = refl;
    more = let long = length-set s.core.table.tasks s.task (row_begun row) in omega (arith, long);
    further = weaker (left_in begun) (left_in s.core) begun_left;
  }
    where
      weaker : (x y : ℕ) → x < y → x ≤ y
      weaker x y less = omega (arith, less)

  pub begun_on : count_indexes begun.table.tasks ≤ INDEXES → GoesOn s.core begun (Ok tt)
  begun_on few = (
    record {
      sound = record {
        calls = each_set (λ k u. Fits s.core.program u.call) s.core.table.tasks s.task (row_begun row) (λ k u d e. z.goes.sound.calls k u e)
            (z.goes.sound.calls s.task row z.goes.there);
        full = z.goes.sound.full;
      };
      still = each_set (λ k u. IsStill u) s.core.table.tasks s.task (row_begun row) (λ k u d e. z.goes.still k u e d) (λ h. cc);
      quiet = each_set (λ k u. AreQuiet u.loop.indexes) s.core.table.tasks s.task (row_begun row) (λ k u d e. z.goes.quiet k u e) (fresh_quiet row.call.length);
      few = record {
        tasks = let long = length-set s.core.table.tasks s.task (row_begun row) in let low = z.goes.few.tasks in omega (arith, long, low);
        indexes = few;
      };
    },
    begun_follows,
    begun_left,
  )

  pub begun_over : INDEXES < count_indexes begun.table.tasks → GoesOn s.core begun (Err S.Over)
  begun_over many = (begun_follows, inr many)
