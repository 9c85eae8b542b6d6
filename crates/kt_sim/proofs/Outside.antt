-- Events outside of bodies.
use Rattle.std.proofs.Common.{◌≡◌, ◌≤◌, ◌<◌, ℕ, zero, suc, ◌+◌, ◌-◌, ◌*◌, Bool, true, false, cond, not, ◌||◌, ◌&&◌, nat_lt, List, [], ◌∷◌, length, Option, Some, None, refl, sym, ap, ◌∙◌, subst, arith, slice_get, slice_set, length-set}
use Rattle.std.proofs.lemmas.Bool.Decides.{nat_tests}
use Rattle.kt_prog.proofs.Lists.{both_hold}
use Rattle.kt_prog.specs.Fits.{Fits}
use Rattle.kt_tables.specs.LoopRows.{has_inside, can_take, row_split, row_taken, row_retired}
use Rattle.kt_tables.specs.Tables.{TaskRow, CoreState}
use Rattle.kt_tables.specs.TableEvents.{task_of, is_unclaimed, is_ended, is_looping, wants, unless, refusal, refusal_at, refusal_of, in_phase, with_row, after_at, state_after}
use Rattle.kt_tables.specs.TableLaws.{IsLawfulState}
use Rattle.kt_tables.specs.declared.events.Event.{Event}
use Rattle.kt_tables.specs.declared.events.Event.TheVariants as E
use Rattle.kt_tables.specs.declared.events.Phase.{Phase}
use Rattle.kt_tables.specs.declared.events.Phase.TheVariants as P
use Rattle.kt_tables.specs.declared.events.Why.{Why}
use Rattle.kt_tables.specs.declared.events.Why.TheVariants as W
use Rattle.kt_sim.specs.Left.{phase_left, loop_left, row_left, room_left, rows_left, left_in}
use Rattle.kt_sim.specs.Simulated.{is_before_end, IsStill, AreQuiet, IsSound, IsFew, IsCalm}
use Rattle.kt_sim.specs.Turns.{IsOutside, Leads}
use Rattle.kt_sim.proofs.Facts.{idle}
use Rattle.kt_sim.proofs.Parts.{cut_less, take_less, take_long, take_quiet, indexes_less, not_lt}
use Rattle.kt_sim.proofs.Rows.{each_set, left_set, count_set}

-- a task of a number below their count
pub row_there : (tasks : List TaskRow) (t : ℕ) → t < length tasks → (r : TaskRow) × (slice_get tasks t ≡ Some r)
row_there [] t lt = absurd (omega arith)
row_there (r ∷ tasks) zero lt = (r, refl)
row_there (r ∷ tasks) (suc t) lt = row_there tasks t (omega arith)

pub wanted : (test : Phase → Bool) (phase : Phase) (rest : Option Why) → wants test phase rest ≡ None → (test phase ≡ true) × (rest ≡ None)
wanted test phase rest h = chosen (test phase) refl h
  where
    chosen : (b : Bool) → test phase ≡ b → cond b rest (Some (W.Found phase)) ≡ None → (test phase ≡ true) × (rest ≡ None)
    chosen true is e = (is, e)
    chosen false is e = cc

holds_unless : (b : Bool) (why : Why) → unless b why ≡ None → b ≡ true
holds_unless true why e = refl
holds_unless false why e = cc

unclaimed_left : (phase : Phase) (n : ℕ) → is_unclaimed phase ≡ true → (phase_left phase n ≡ 3 + 4 * n) × (is_before_end phase ≡ true)
unclaimed_left P.Unclaimed n e = (refl, refl)
unclaimed_left P.Running n e = cc
unclaimed_left P.Looping n e = cc
unclaimed_left P.Ended n e = cc
unclaimed_left P.Finished n e = cc

ended_left : (phase : Phase) (n : ℕ) → (is_ended phase || is_looping phase) ≡ true → phase_left phase n ≡ 1
ended_left P.Unclaimed n e = cc
ended_left P.Running n e = cc
ended_left P.Looping n e = refl
ended_left P.Ended n e = refl
ended_left P.Finished n e = cc

pub looping_is : (phase : Phase) → is_looping phase ≡ true → phase ≡ P.Looping
looping_is P.Unclaimed e = cc
looping_is P.Running e = cc
looping_is P.Looping e = refl
looping_is P.Ended e = cc
looping_is P.Finished e = cc

above_zero : (n : ℕ) → nat_lt 0 n ≡ true → 1 ≤ n
above_zero n e = grind (arith, nat_tests)

-- the core with one row put in the place of another
abbrev pub put : CoreState → ℕ → TaskRow → CoreState
put c t s = record { program = c.program; input = c.input; table = with_row t s c.table }

abbrev pub Goal : CoreState → CoreState → Type 0
Goal c y = Leads c y × (left_in y < left_in c)

pub put_left : (c : CoreState) (t : ℕ) (r s : TaskRow) → slice_get c.table.tasks t ≡ Some r → left_in (put c t s) + row_left r ≡ left_in c + row_left s
put_left c t r s there =
    let sum = left_set c.table.tasks t r s there in
    let room : room_left (length (slice_set c.table.tasks t s)) ≡ room_left (length c.table.tasks) = ap room_left (length-set c.table.tasks t s) in
    added (room_left (length (slice_set c.table.tasks t s))) (room_left (length c.table.tasks)) (rows_left (slice_set c.table.tasks t s)) (rows_left c.table.tasks) room sum
  where
    added : (a b m n : ℕ) → a ≡ b → m + row_left r ≡ n + row_left s → (a + m) + row_left r ≡ (b + n) + row_left s
    added a b m n same sum = omega (arith, same, sum)

-- what the other row keeps
pub record Keeps (r s : TaskRow) : Type 0 where
  pub call : s.call ≡ r.call
  pub still : IsStill s
  pub quiet : AreQuiet s.loop.indexes
  pub long : length s.loop.indexes ≡ length r.loop.indexes
  pub less : row_left s < row_left r

module _ (c : CoreState) (t : ℕ) (r s : TaskRow) (there : slice_get c.table.tasks t ≡ Some r) (calm : IsCalm c) where
  pub puts : Keeps r s → Goal c (put c t s)
  puts keeps =
      let sum = put_left c t r s there in
      let less = keeps.less in
      let long = length-set c.table.tasks t s in
      let count = count_set c.table.tasks t r s there in
      let same = keeps.long in
      let fewer = lower (left_in (put c t s)) (left_in c) (row_left r) (row_left s) sum less in (
        record {
          calm = record {
            sound = record {
              calls = each_set (λ k u. Fits c.program u.call) c.table.tasks t s (λ k u d e. calm.sound.calls k u e)
                  (subst (Fits c.program) (sym keeps.call) (calm.sound.calls t r there));
              full = calm.sound.full;
            };
            still = each_set (λ k u. IsStill u) c.table.tasks t s (λ k u d e. calm.still k u e) keeps.still;
            quiet = each_set (λ k u. AreQuiet u.loop.indexes) c.table.tasks t s (λ k u d e. calm.quiet k u e) keeps.quiet;
            few = record {
              tasks = let few = calm.few.tasks in omega (arith, long, few);
              indexes = let few = calm.few.indexes in omega (arith, count, same, few);
            };
          };
          follows = record { program = refl; input = refl; more = omega (arith, long); further = weaker (left_in (put c t s)) (left_in c) fewer };
          long = long;
          indexes = omega (arith, count, same);
        },
        fewer,
      )
    where
      lower : (x y a b : ℕ) → x + a ≡ y + b → b < a → x < y
      lower x y a b sum less = omega (arith, sum, less)

      weaker : (x y : ℕ) → x < y → x ≤ y
      weaker x y less = omega (arith, less)

  claim_puts : is_unclaimed r.phase ≡ true → s ≡ in_phase P.Running r → Goal c (put c t s)
  claim_puts is same =
      let low = unclaimed_left r.phase r.call.length is in
      let more = low.0 in
      puts (subst (Keeps r) (sym same) (record {
        call = refl;
        still = λ b. calm.still t r there low.1;
        quiet = calm.quiet t r there;
        long = refl;
        less = omega (arith, more);
      }))

  finish_puts : (is_ended r.phase || is_looping r.phase) ≡ true → s ≡ in_phase P.Finished r → Goal c (put c t s)
  finish_puts is same =
      let one = ended_left r.phase r.call.length is in
      puts (subst (Keeps r) (sym same) (record {
        call = refl;
        still = λ b. cc;
        quiet = calm.quiet t r there;
        long = refl;
        less = omega (arith, one);
      }))

  split_puts : (at : ℕ) → has_inside at r.loop.pieces ≡ true → s ≡ row_split at r → Goal c (put c t s)
  split_puts at is same =
      let less = cut_less at r.loop.pieces is in
      puts (subst (Keeps r) (sym same) (record {
        call = refl;
        still = calm.still t r there;
        quiet = calm.quiet t r there;
        long = refl;
        less = omega (arith, less);
      }))

  take_puts : IsLawfulState c → r.phase ≡ P.Looping → (at n : ℕ) → 1 ≤ n → can_take at n r.loop.pieces ≡ true → s ≡ row_taken at n r → Goal c (put c t s)
  take_puts law phase at n some is same =
      let less = take_less at n r.loop.pieces some is in
      let more = indexes_less n at r.loop.indexes in
      puts (subst (Keeps r) (sym same) (record {
        call = refl;
        still = calm.still t r there;
        quiet = take_quiet n at r.loop.indexes (calm.quiet t r there) (idle c law t r there phase at n is);
        long = take_long n at r.loop.indexes;
        less = omega (arith, less, more);
      }))

  retire_puts : (n : ℕ) → 1 ≤ n → n ≤ r.loop.ended → s ≡ row_retired n r → Goal c (put c t s)
  retire_puts n some few same =
      puts (subst (Keeps r) (sym same) (record {
        call = refl;
        still = calm.still t r there;
        quiet = calm.quiet t r there;
        long = refl;
        less = omega (arith, some, few);
      }))

abbrev at_row : Event → CoreState → Option TaskRow → CoreState
at_row e c o = record { program = c.program; input = c.input; table = after_at c.program e o c.table }

row_leads : (e : Event) (c : CoreState) (r : TaskRow) → IsLawfulState c → IsCalm c → IsOutside e → slice_get c.table.tasks (task_of e) ≡ Some r → refusal_of e r c.table.tasks ≡ None
    → Goal c (at_row e c (Some r))
row_leads (E.ClaimInOrder t) c r law calm out there none = claim_puts c t r (in_phase P.Running r) there calm (wanted is_unclaimed r.phase _ none).0 refl
row_leads (E.ClaimReady t) c r law calm out there none = claim_puts c t r (in_phase P.Running r) there calm (wanted is_unclaimed r.phase _ none).0 refl
row_leads (E.Finish t) c r law calm out there none =
    finish_puts c t r (in_phase P.Finished r) there calm (wanted (λ ph. is_ended ph || is_looping ph) r.phase _ none).0 refl
row_leads (E.Split t at) c r law calm out there none =
    let two = wanted is_looping r.phase _ none in
    split_puts c t r (row_split at r) there calm at (holds_unless (has_inside at r.loop.pieces) W.NoPiece two.1) refl
row_leads (E.Take t at n) c r law calm out there none =
    let two = wanted is_looping r.phase _ none in
    let can = both_hold (nat_lt 0 n) (can_take at n r.loop.pieces) (holds_unless (nat_lt 0 n && can_take at n r.loop.pieces) W.NoPiece two.1) in
    take_puts c t r (row_taken at n r) there calm law (looping_is r.phase two.0) at n (above_zero n can.0) can.1 refl
row_leads (E.Retire t n) c r law calm out there none =
    let two = wanted is_looping r.phase _ none in
    let can = both_hold (nat_lt 0 n) (not (nat_lt r.loop.ended n)) (holds_unless (nat_lt 0 n && not (nat_lt r.loop.ended n)) (W.NotEnded r.loop.ended) two.1) in
    retire_puts c t r (row_retired n r) there calm n (above_zero n can.0) (not_lt r.loop.ended n can.1) refl
row_leads (E.Body t operation) c r law calm out there none = absurd out
row_leads (E.Begin t) c r law calm out there none = absurd out
row_leads (E.Index t i operation) c r law calm out there none = absurd out

pub event_leads : (e : Event) (c y : CoreState) → IsLawfulState c → IsCalm c → IsOutside e → task_of e < length c.table.tasks → refusal e c.table ≡ None → y ≡ state_after e c
    → Goal c y
event_leads e c y law calm out lt none same =
    let r = row_there c.table.tasks (task_of e) lt in
    let free : refusal_of e r.0 c.table.tasks ≡ None = ap (λ (o : Option TaskRow). refusal_at e o c.table.tasks) (sym r.1) ∙ none in
    let after : y ≡ at_row e c (Some r.0) = same ∙ ap (at_row e c) r.1 in
    subst (Goal c) (sym after) (row_leads e c r.0 law calm out r.1 free)
