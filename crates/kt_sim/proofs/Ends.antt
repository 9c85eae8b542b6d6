-- A whole body of a simulated run, from its beginning to its end.
use Rattle.std.proofs.Common.{◌≡◌, ◌≢◌, ◌≤◌, ◌<◌, ◌+◌, ℕ, zero, suc, Bool, true, false, nat_lt, if◌then◌else◌, is_some, IfOk, List, [], ◌∷◌, ◌++◌, length, Option, Some, None, Ok, Err, Result, refl, sym, ap, ◌∙◌, subst, arith, slice_get, slice_set, append-nil}
use Rattle.std.proofs.lemmas.Option.{slice_get_within}
use Rattle.std.proofs.lemmas.Bool.Decides.{nat_tests}
use Rattle.kt_law.specs.declared.limits.TheConstants.{DEFINITIONS, TASKS}
use Rattle.kt_prog.specs.Bodies.{index_in, task_at}
use Rattle.kt_prog.specs.Forms.{form_at}
use Rattle.kt_prog.specs.declared.form.Form.TheVariants as F
use Rattle.kt_prog.specs.Accepted.{IsAccepted}
use Rattle.kt_prog.specs.Calls.{CallTree, Job, Whole, Index}
use Rattle.kt_prog.specs.Fits.{Fits}
use Rattle.kt_prog.specs.Operations.{heard, operations, is_loop_at, zeroing, IsNext}
use Rattle.kt_prog.specs.Zeroes.{LoopIsZeroing}
use Rattle.kt_prog.specs.declared.programs.Program.{Program}
use Rattle.kt_prog.specs.declared.runs.Operation.{Operation}
use Rattle.kt_prog.specs.declared.runs.Operation.TheVariants as O
use Rattle.kt_body.specs.Endings.{Begins, Came, EndsSo, WentThrough, ZeroesSo, answers_of}
use Rattle.kt_body.specs.declared.ops.Ended.{Ended}
use Rattle.kt_body.specs.declared.ops.Ended.TheVariants as D
use Rattle.kt_tables.specs.Tables.{TaskRow, CoreState, count_indexes}
use Rattle.kt_tables.specs.TableEvents.{CanAsk, row_after, added_by, refusal, state_after}
use Rattle.kt_tables.specs.TableLaws.{IsLawfulState}
use Rattle.kt_tables.specs.declared.events.Phase.TheVariants as P
use Rattle.kt_sim.specs.declared.operations.Simulation.{Simulation}
use Rattle.kt_sim.specs.declared.operations.Stop.{Stop}
use Rattle.kt_sim.specs.declared.operations.Stop.TheVariants as S
use Rattle.kt_sim.specs.Left.{row_left, loop_left, phase_left, left_in}
use Rattle.kt_sim.specs.Simulated.{is_before_end, IsStill, IsCalm, Follows, Goes, IndexGoes, BodyGoes, GoesOrNot, At, Moves, IsAsLong, IsCounted, IsOfIndex, IsOut, IsOver, GoesOn, IsInPhase, IsTaken, IsEnd, IsLast, EndsWith, HasZeroed, event_of}
use Rattle.kt_sim.proofs.Facts.{long}
use Rattle.kt_sim.proofs.Operated.{after_op, is_after, each_row, sound_op, quiet_op, next_in, op_follows, op_left, fork_short, rows_count, rows_long}
use Rattle.kt_sim.proofs.IndexOperated.{after_index, is_after_index, index_ended_on, index_count, index_long}
use Rattle.kt_sim.proofs.Moved.{goes_in, body_ask}

-- what follows for each value
pub ok_then : {A E : Type 0} (r : Result A E) (P Q : A → Type 0) → IfOk r P → ((a : A) → P a → Q a) → IfOk r Q
ok_then (Ok a) P Q h f = f a h
ok_then (Err e) P Q h f = tt

-- a call whose form is not a loop's is none
pub not_loop : (p : Program) (n : ℕ) → (form_at p n ≡ F.Loop → ⊥) → is_loop_at p n ≡ false
not_loop p zero h = refl
not_loop p (suc k) h = chosen (nat_lt DEFINITIONS (suc k)) refl h
  where
    by_loop : (b : Bool) → ((if b then F.Loop else F.Task) ≡ F.Loop → ⊥) → b ≡ false
    by_loop true g = absurd (g refl)
    by_loop false g = refl

    beyond : (b : Bool) → b ≡ false → (if b then is_some (index_in (task_at p.tasks k)) else false) ≡ false
    beyond true e = cc
    beyond false e = refl

    chosen : (b : Bool) → nat_lt DEFINITIONS (suc k) ≡ b → ((if b then F.Kernel else if is_loop_at p (suc k) then F.Loop else F.Task) ≡ F.Loop → ⊥) → is_loop_at p (suc k) ≡ false
    chosen true is g = beyond (nat_lt k DEFINITIONS) (grind (arith, nat_tests))
    chosen false is g = by_loop (is_loop_at p (suc k)) g

not_both : (o : Option Stop) → o ≡ None → o ≡ Some S.NoMemory → ⊥
not_both o none out = cc

pub follows_same : (x : CoreState) → Follows x x
follows_same x = record { program = refl; input = refl; more = omega arith; further = same (left_in x) }
  where
    same : (n : ℕ) → n ≤ n
    same n = omega arith

at_most : (a b d : ℕ) → b ≤ a → d ≤ b → d ≤ a
at_most a b d one two = omega (arith, one, two)

pub follows_both : (x y z : CoreState) → Follows x y → Follows y z → Follows x z
follows_both x y z f g = record {
  program = g.program ∙ f.program;
  input = g.input ∙ f.input;
  more = let one = f.more in let two = g.more in omega (arith, one, two);
  further = at_most (left_in x) (left_in y) (left_in z) f.further g.further;
}

below_both : (a b d : ℕ) → b ≤ a → d < b → d < a
below_both a b d one two = omega (arith, one, two)

pub goes_on_after : (x y z : CoreState) (r : Result (Unit {0}) Stop) → Follows x y → GoesOn y z r → GoesOn x z r
goes_on_after x y z (Ok u) f (calm, g, less) = (calm, follows_both x y z f g, below_both (left_in x) (left_in y) (left_in z) f.further less)
goes_on_after x y z (Err S.Over) f (g, many) = (follows_both x y z f g, many)
goes_on_after x y z (Err S.NoMemory) f h = tt

-- before the body
pub begins_in : (s : Simulation) (call : CallTree) → IsLawfulState s.core → IsCalm s.core → IsInPhase P.Running s.task s.core → s.stop ≡ None → s.index ≡ None
    → ((r : TaskRow) → slice_get s.core.table.tasks s.task ≡ Some r → call ≡ r.call) → Begins At Moves IsOut s.core.program (Whole call) s
begins_in s call law calm at none task same =
    let quiet = calm.still s.task at.0 at.1 (rw at.2 refl) in
    let goes : Goes s.core s.task (Whole call) [] 0 = record {
      sound = calm.sound;
      still = λ k u e d. calm.still k u e;
      quiet = calm.quiet;
      few = calm.few;
      row = at.0;
      there = at.1;
      running = at.2;
      job_is = ap Whole (same at.0 at.1);
      answers_are = quiet.0;
      count_is = quiet.1;
    } in
    record {
      accepted = law.accepted;
      fits = subst (Fits s.core.program) (sym (same at.0 at.1)) (calm.sound.calls s.task at.0 at.1);
      stands = record {
        program = refl;
        stands = subst (λ (o : Option Stop). GoesOrNot o s.index s.core s.task (Whole call) [] 0) (sym none)
            (subst (λ (i : Option ℕ). BodyGoes i s.core s.task (Whole call) [] 0) (sym task) goes);
      };
      running = λ out. not_both s.stop none out;
    }

pub begins_taken : (s : Simulation) (i : ℕ) (call : CallTree) → IsLawfulState s.core → IsCalm s.core → IsTaken s.task i s.core → s.stop ≡ None → s.index ≡ Some i
    → ((r : TaskRow) → slice_get s.core.table.tasks s.task ≡ Some r → call ≡ r.call) → Begins At Moves IsOut s.core.program (Index call i) s
begins_taken s i call law calm at none index same =
    let quiet = calm.quiet s.task at.row at.there i at.one at.inside (rw at.taken refl) in
    let goes : IndexGoes s.core s.task i (Index call i) [] 0 = record {
      sound = calm.sound;
      still = calm.still;
      quiet = λ k u e d. calm.quiet k u e;
      few = calm.few;
      row = at.row;
      there = at.there;
      looping = at.looping;
      others = λ j v e d. calm.quiet s.task at.row at.there j v e;
      one = at.one;
      inside = at.inside;
      taken = at.taken;
      job_is = ap (λ (k : CallTree). Index k i) (same at.row at.there);
      answers_are = quiet.0;
      count_is = quiet.1;
    } in
    let short = long s.core law s.task at.row at.there in
    let within = slice_get_within at.row.loop.indexes i at.one at.inside in
    record {
      accepted = law.accepted;
      fits = subst (λ (k : CallTree). Fits s.core.program k × (i < k.length)) (sym (same at.row at.there)) (calm.sound.calls s.task at.row at.there, omega (arith, short, within));
      stands = record {
        program = refl;
        stands = subst (λ (o : Option Stop). GoesOrNot o s.index s.core s.task (Index call i) [] 0) (sym none)
            (subst (λ (j : Option ℕ). BodyGoes j s.core s.task (Index call i) [] 0) (sym index) goes);
      };
      running = λ out. not_both s.stop none out;
    }

-- the operations of a body
pub record WentOn (x y : Simulation) : Type 0 where
  pub index : y.index ≡ x.index
  pub follows : Follows x.core y.core
  pub counted : IsCounted x → IsCounted y
  pub long : IsOfIndex x → IsAsLong x y

pub went_on : (done : List Operation) (x y : Simulation) → WentThrough At Moves IsOut x done y → WentOn x y
went_on [] x y same = subst (WentOn x) same (record { index = refl; follows = follows_same x.core; counted = λ h. h; long = λ h. refl })
went_on (op ∷ done) x y (z, one, more) =
    let rest = went_on done z y more in
    record {
      index = rest.index ∙ one.index;
      follows = follows_both x.core z.core y.core one.follows rest.follows;
      counted = λ h. rest.counted (one.counted h);
      long = λ h. rest.long (λ none. h (sym one.index ∙ none)) ∙ one.long h;
    }

over_in : (y : Simulation) (job : Job) (answers : List ℕ) (count : ℕ) → y.stop ≡ Some S.Over → GoesOrNot y.stop y.index y.core y.task job answers count → IsOver y.core
over_in y job answers count over h = subst (λ (o : Option Stop). GoesOrNot o y.index y.core y.task job answers count) over h

came_over : (p : Program) (job : Job) (x y : Simulation) (done : List Operation) (stop : Stop) → Came At Moves IsOut p job x done y → y.stop ≡ Some stop
    → GoesOn x.core y.core (Err stop)
came_over p job x y done S.Over came over = ((went_on done x y came.went).follows, over_in y job (answers_of done) (length done) over came.stands.stands)
came_over p job x y done S.NoMemory came over = tt

halted_stop : (x y : CoreState) (o : Option Stop) (stop : Stop) → o ≡ Some S.NoMemory → o ≡ Some stop → GoesOn x y (Err stop)
halted_stop x y o S.Over out is = cc
halted_stop x y o S.NoMemory out is = tt

pub stopped : (p : Program) (job : Job) (x y : Simulation) (ended : Ended) (stop : Stop) → EndsSo At Moves IsOut p job x y ended → y.stop ≡ Some stop
    → GoesOn x.core y.core (Err stop)
stopped p job x y D.Done stop (done, all, came) is = came_over p job x y done stop came is
stopped p job x y (D.Fault law line) stop (done, all, came) is = came_over p job x y done stop came is
stopped p job x y D.Halted stop h is = halted_stop x.core y.core y.stop stop h.5.at_halt is

last_next : (p : Program) (job : Job) (done : List Operation) (op : Operation) → heard op ≡ [] → operations p job (answers_of done) ≡ done ++ op ∷ []
    → IsNext p job (answers_of done) (length done) op
last_next p job done op quiet all =
    let same : answers_of done ++ heard op ≡ answers_of done = ap (λ (xs : List ℕ). answers_of done ++ xs) quiet ∙ append-nil (answers_of done) in
    ap (λ (xs : List ℕ). slice_get (operations p job xs) (length done)) same ∙ ap (λ (ops : List Operation). slice_get ops (length done)) all ∙ at_end done
  where
    at_end : (done : List Operation) → slice_get (done ++ op ∷ []) (length done) ≡ Some op
    at_end [] = refl
    at_end (first ∷ done) = at_end done

came_last : (p : Program) (job : Job) (x y : Simulation) (done : List Operation) (op : Operation) → heard op ≡ []
    → operations p job (answers_of done) ≡ done ++ op ∷ [] → Came At Moves IsOut p job x done y → y.stop ≡ None → IsLast y op
came_last p job x y done op quiet all came none = record {
  job = job;
  answers = answers_of done;
  count = length done;
  goes = goes_in y job (answers_of done) (length done) none came.stands.stands;
  next = subst (λ (q : Program). IsNext q job (answers_of done) (length done) op) (sym came.stands.program) (last_next p job done op quiet all);
}

pub ends_with : (p : Program) (job : Job) (x y : Simulation) (ended : Ended) → EndsSo At Moves IsOut p job x y ended → y.stop ≡ None
    → EndsWith y ended × WentOn x y
ends_with p job x y D.Done (done, all, came) none = (came_last p job x y done O.End refl all came none, went_on done x y came.went)
ends_with p job x y (D.Fault law line) (done, all, came) none = (came_last p job x y done (O.Fault law line) refl all came none, went_on done x y came.went)
ends_with p job x y D.Halted h none = absurd (not_both y.stop none h.5.at_halt)

-- the zeroing of a loop
pub zero_stopped : (p : Program) (call : CallTree) (x y : Simulation) (ended : Ended) (stop : Stop) → ZeroesSo At Moves IsOut p call x y ended → y.stop ≡ Some stop
    → GoesOn x.core y.core (Err stop)
zero_stopped p call x y D.Done stop came is = came_over p (Whole call) x y (zeroing p call) stop came is
zero_stopped p call x y (D.Fault law line) stop h is = absurd h
zero_stopped p call x y D.Halted stop h is = halted_stop x.core y.core y.stop stop h.4.at_halt is

nothing_more : (p : Program) (call : CallTree) → LoopIsZeroing → is_loop_at p call.task ≡ true → (answers : List ℕ) (op : Operation)
    → IsNext p (Whole call) answers (length (zeroing p call)) op → ⊥
nothing_more p call law loop answers op next =
    let there : slice_get (zeroing p call) (length (zeroing p call)) ≡ Some op =
    sym (ap (λ (ops : List Operation). slice_get ops (length (zeroing p call))) (law p call loop (answers ++ heard op))) ∙ next in
    let within = slice_get_within (zeroing p call) (length (zeroing p call)) op there in
    not_less (length (zeroing p call)) within
  where
    not_less : (n : ℕ) → n < n → ⊥
    not_less n less = omega (arith, less)

pub zeroed : (p : Program) (call : CallTree) (x y : Simulation) (ended : Ended) → ZeroesSo At Moves IsOut p call x y ended → y.stop ≡ None → x.index ≡ None
    → LoopIsZeroing → is_loop_at p call.task ≡ true → ((z : HasZeroed y) × (z.call ≡ call)) × WentOn x y
zeroed p call x y D.Done came none task law loop =
    let went = went_on (zeroing p call) x y came.went in
    let answers = answers_of (zeroing p call) in
    let same = came.stands.program in (
      (
        record {
          call = call;
          answers = answers;
          count = length (zeroing p call);
          goes = subst (λ (i : Option ℕ). BodyGoes i y.core y.task (Whole call) answers (length (zeroing p call))) (went.index ∙ task)
              (goes_in y (Whole call) answers (length (zeroing p call)) none came.stands.stands);
          loop = ap (λ (q : Program). is_loop_at q call.task) same ∙ loop;
          done = λ op next. nothing_more p call law loop answers op (subst (λ (q : Program). IsNext q (Whole call) answers (length (zeroing p call)) op) same next);
        },
        refl,
      ),
      went,
    )
zeroed p call x y (D.Fault law' line) h none task law loop = absurd h
zeroed p call x y D.Halted h none task law loop = absurd (not_both y.stop none h.4.at_halt)

-- nothing refuses an operation of the body that goes
pub body_free : (o : Option ℕ) (c : CoreState) (t : ℕ) (job : Job) (answers : List ℕ) (count : ℕ) (op : Operation) → BodyGoes o c t job answers count
    → refusal (event_of o t op) c.table ≡ None
body_free None c t job answers count op g = rw (g.there, g.running) refl
body_free (Some i) c t job answers count op g = rw (g.there, g.looping, g.inside, g.taken) refl

-- the end of a body
pub ask_end : (s : Simulation) (op : Operation) → IsEnd op → IsLast s op → CanAsk s.core.program (event_of s.index s.task op) s.core.table
ask_end s O.End h last = body_ask s.index s.core s.task s.core.program last.job last.answers last.count O.End refl last.goes last.next tt
ask_end s (O.Fault law line) h last = body_ask s.index s.core s.task s.core.program last.job last.answers last.count (O.Fault law line) refl last.goes last.next tt
ask_end s (O.Load object element a) h last = absurd h
ask_end s (O.Store object element v) h last = absurd h
ask_end s (O.Fold object element f v) h last = absurd h
ask_end s (O.Fork call) h last = absurd h

record RowEnds (op : Operation) (r s : TaskRow) (tasks : List TaskRow) : Type 0 where
  pub call : s.call ≡ r.call
  pub phase : s.phase ≡ P.Ended
  pub alone : added_by op r tasks ≡ []
  pub left : row_left s ≡ 1 + loop_left r.loop

row_ends : (op : Operation) (r : TaskRow) (tasks : List TaskRow) → IsEnd op → RowEnds op r (row_after op r) tasks
row_ends O.End r tasks h = record { call = refl; phase = refl; alone = refl; left = refl }
row_ends (O.Fault law line) r tasks h = record { call = refl; phase = refl; alone = refl; left = refl }
row_ends (O.Load object element a) r tasks h = absurd h
row_ends (O.Store object element v) r tasks h = absurd h
row_ends (O.Fold object element f v) r tasks h = absurd h
row_ends (O.Fork call) r tasks h = absurd h

no_fork : (op : Operation) (call : CallTree) → IsEnd op → op ≡ O.Fork call → ⊥
no_fork op call h e = subst IsEnd e h

ended_on : (c : CoreState) (t : ℕ) (job : Job) (answers : List ℕ) (count : ℕ) (op : Operation) → IsAccepted c.program
    → (g : Goes c t job answers count) → IsNext c.program job answers count op → IsEnd op → GoesOn c (after_op c t g.row op) (Ok tt)
ended_on c t job answers count op ok g next end =
    let s = row_ends op g.row c.table.tasks end in
    let here = next_in c t c.program job answers count op refl g next in
    let before : phase_left g.row.phase g.row.call.length ≡ phase_left P.Running g.row.call.length = ap (λ ph. phase_left ph g.row.call.length) g.running in
    let after = s.left in
    let less : row_left (row_after op g.row) < row_left g.row = lesser (row_left (row_after op g.row)) (phase_left g.row.phase g.row.call.length) g.row.call.length (loop_left g.row.loop) after before in
    let sum = op_left c t g.row op g.there g.few.tasks (fork_short c t g.row op g.there ok g.sound here) in
    let none : length (added_by op g.row c.table.tasks) ≡ 0 = ap length s.alone in
    let long = rows_long c t g.row op g.there in
    let kept = rows_count c t g.row op g.there in (
      record {
        sound = sound_op c t g.row op g.there ok g.sound here s.call;
        still = each_row c t g.row op g.there (λ k u. IsStill u) (λ k u e d. g.still k u e d) (λ h. absurd (ended_no s.phase h)) (λ child e k. absurd (no_fork op child end e));
        quiet = quiet_op c t g.row op g.there g.quiet;
        few = record {
          tasks = let few = g.few.tasks in omega (arith, long, none, few);
          indexes = let few = g.few.indexes in omega (arith, kept, few);
        };
      },
      op_follows c t c.program job answers count op ok refl g next (weaker (row_left (row_after op g.row)) (row_left g.row) less),
      lower (left_in (after_op c t g.row op)) (left_in c) (row_left g.row) (row_left (row_after op g.row)) sum less,
    )
  where
    ended_no : (row_after op g.row).phase ≡ P.Ended → is_before_end (row_after op g.row).phase ≡ true → ⊥
    ended_no same h = let no : is_before_end P.Ended ≡ true = sym (ap is_before_end same) ∙ h in cc

    lesser : (x y n k : ℕ) → x ≡ 1 + k → y ≡ phase_left P.Running n → x < y + k
    lesser x y n k one two = omega (arith, one, two)

    weaker : (x y : ℕ) → x < y → x ≤ y
    weaker x y less = omega (arith, less)

    lower : (x y a b : ℕ) → x + a ≤ y + b → b < a → x < y
    lower x y a b sum less = omega (arith, sum, less)

pub record EndGoes (o : Option ℕ) (c y : CoreState) : Type 0 where
  pub long : o ≢ None → length y.table.tasks ≡ length c.table.tasks
  pub goes : GoesOn c y (Ok tt)
  pub indexes : count_indexes y.table.tasks ≡ count_indexes c.table.tasks

end_on : (o : Option ℕ) (c y : CoreState) (t : ℕ) (job : Job) (answers : List ℕ) (count : ℕ) (op : Operation) → IsAccepted c.program → BodyGoes o c t job answers count
    → IsNext c.program job answers count op → IsEnd op → y ≡ state_after (event_of o t op) c → EndGoes o c y
end_on None c y t job answers count op ok g next end same =
    subst (EndGoes None c) (sym (same ∙ is_after c t g.row op g.there))
    (record { long = λ no. absurd (no refl); goes = ended_on c t job answers count op ok g next end; indexes = rows_count c t g.row op g.there })
end_on (Some i) c y t job answers count op ok g next end same =
    subst (EndGoes (Some i) c) (sym (same ∙ is_after_index c t g.row i op g.there))
    (record { long = λ is. index_long c t i job answers count op g; goes = index_ended_on c t i job answers count op g end; indexes = index_count c t i job answers count op g })

pub end_goes : (s : Simulation) (op : Operation) (y : CoreState) → IsLawfulState s.core → IsEnd op → IsLast s op → y ≡ state_after (event_of s.index s.task op) s.core
    → EndGoes s.index s.core y
end_goes s op y law end last same = end_on s.index s.core y s.task last.job last.answers last.count op law.accepted last.goes last.next end same
