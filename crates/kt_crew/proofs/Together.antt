-- Lists of seats, of jobs and of what the workers bring back.
use Rattle.std.proofs.Common.{◌≡◌, ◌<◌, ℕ, zero, suc, ◌-◌, List, [], ◌∷◌, ◌++◌, append-nil, map, length, slice_get, get_or, take, drop, Option, Some, option_map, append_assoc, reverse, refl, sym, ap, ◌∙◌, subst, arith}
use Rattle.std.specs.List.{flat_map}
use Rattle.std.proofs.lemmas.List.{length-map, length-reverse, get_or-reverse, map_push}
use Rattle.std.proofs.lemmas.Option.{get_or_from_slice_get, slice_get-map, slice_get_read, slice_get_within}
use Rattle.kt_prog.specs.declared.programs.Program.{Program}
use Rattle.kt_rule.specs.declared.seats.Seat.{Seat}
use Rattle.kt_rule.specs.declared.tables.RunTable.{RunTable}
use Rattle.kt_rule.specs.declared.views.Setup.{Setup}
use Rattle.kt_rule.specs.declared.views.Execution.{Execution}
use Rattle.kt_rule.specs.declared.views.IndexRun.{IndexRun}
use Rattle.kt_rule.specs.Lists.{In, here, there}
use Rattle.kt_steps.proofs.Telling.{the_some}
use Rattle.kt_pool.specs.Seats.{AreSeatsOf, HaveNotStepped, IsSeatOf}
use Rattle.kt_crew.specs.declared.jobs.Job.{Job}
use Rattle.kt_crew.specs.declared.jobs.Done.{Done}
use Rattle.kt_crew.specs.Crews.{AreDone, AreJobs, AreReady, IsDoneBy, IsReady, seats_back, seats_in}
use Rattle.kt_prog.specs.Runs.{FaultRun}
use Rattle.kt_crew.specs.Ends.{first_with}
use Rattle.kt_crew.proofs.Leasts.{ran_by, retired_by}

-- the first is taken from the front
pub headed : {A : Type 0} (xs ys : List A) (x : A) → 0 < length xs → x ≡ get_or xs 0 x → ys ≡ take 0 xs ++ drop 1 xs → xs ≡ x ∷ ys
headed [] ys x some e f = absurd (omega arith)
headed (z ∷ xs) ys x some e f = λ i. sym e i ∷ sym f i

pub of_mapped : {A B : Type 0} (f : A → B) (xs : List A) (k : ℕ) (b : B) → slice_get (map f xs) k ≡ Some b
    → (x : A) × (slice_get xs k ≡ Some x) × (f x ≡ b)
of_mapped f [] k b at = absurd (cc at)
of_mapped f (y ∷ xs) zero b at = (y, refl, the_some at)
of_mapped f (y ∷ xs) (suc k) b at = of_mapped f xs k b at

pub in_at : {A : Type 0} (xs : List A) (x : A) → In x xs → (k : ℕ) × (slice_get xs k ≡ Some x)
in_at [] x i = elim i [ ]
in_at (y ∷ xs) x here = (0, refl)
in_at (y ∷ xs) x (there i) = let h = in_at xs x i in (suc h.0, h.1)

-- the next of a list goes from the one part to the other
pub goes_over : {A : Type 0} (xs now : List A) (left rest all : List A) (x : A) → now ≡ xs ++ x ∷ [] → left ≡ x ∷ rest → xs ++ left ≡ all
    → now ++ rest ≡ all
goes_over xs now left rest all x pushed taken both =
    ap (λ zs. zs ++ rest) pushed ∙ (append_assoc xs (x ∷ []) rest ∙ (ap (λ zs. xs ++ zs) (sym taken) ∙ both))

pub one_job : (jobs now : List Job) (job : Job) (left rest all : List Seat) → now ≡ jobs ++ job ∷ [] → left ≡ job.seat ∷ rest
    → seats_in jobs ++ left ≡ all → seats_in now ++ rest ≡ all
one_job jobs now job left rest all pushed =
    goes_over (seats_in jobs) (seats_in now) left rest all job.seat (ap seats_in pushed ∙ map_push (λ (x : Job). x.seat) jobs job)

pub ready_push : (p : Program) (jobs now : List Job) (job : Job) → now ≡ jobs ++ job ∷ [] → AreReady p jobs → IsReady p job.scratch → AreReady p now
ready_push p jobs now job pushed ready one = subst (AreReady p) (sym pushed) (each jobs ready)
  where
    each : (xs : List Job) → AreReady p xs → AreReady p (xs ++ job ∷ [])
    each [] h zero x at = subst (λ (y : Job). IsReady p y.scratch) (the_some at) one
    each [] h (suc k) x at = absurd (cc at)
    each (y ∷ xs) h zero x at = h 0 x at
    each (y ∷ xs) h (suc k) x at = each xs (λ i. h (suc i)) k x at

pub one_back : (seats now : List Seat) (d : Done) (left rest all : List Done) → now ≡ seats ++ d.seat ∷ [] → left ≡ d ∷ rest
    → seats ++ seats_back left ≡ seats_back all → now ++ seats_back rest ≡ seats_back all
one_back seats now d left rest all pushed taken =
    goes_over seats now (seats_back left) (seats_back rest) (seats_back all) d.seat pushed (ap seats_back taken)

pub none_left : {A : Type 0} (xs ys zs : List A) → length ys ≡ 0 → xs ++ ys ≡ zs → xs ≡ zs
none_left xs [] zs none both = sym (append-nil xs) ∙ both
none_left xs (y ∷ ys) zs none both = absurd (omega arith)

pub none_more : (least total : Option FaultRun) (done : List Done) → length done ≡ 0 → first_with least done ≡ total → least ≡ total
none_more least total [] none all = all
none_more least total (d ∷ done) none all = absurd (omega arith)

-- what stands in a list turned round
pub at_reverse : {A : Type 0} (xs : List A) (k : ℕ) (x : A) → slice_get (reverse xs) k ≡ Some x → (k < length xs) × (slice_get xs (length xs - suc k) ≡ Some x)
at_reverse xs k x at =
    let long = length-reverse xs in let below = slice_get_within (reverse xs) k x at in let less : k < length xs = omega arith in (
      less,
      slice_get_read xs (length xs) (length xs - suc k) x refl (omega arith)
          (sym (get_or_from_slice_get (reverse xs) k x x at) ∙ (get_or-reverse xs k x less ∙ ap (λ i. get_or xs i x) (let e : length xs - 1 - k ≡ length xs - suc k = omega arith in e))),
    )

-- each seat with its room is a job
pub all_jobs : (j : Setup) (t : RunTable) (p : Program) (seats : List Seat) (jobs : List Job) → seats_in jobs ≡ seats → AreReady p jobs
    → AreSeatsOf j t seats → HaveNotStepped j seats → AreJobs j t p jobs
all_jobs j t p seats jobs are ready all fresh =
    let long = ap length are in let mapped = length-map jobs (λ (x : Job). x.seat) in let n = all.count in record {
      count = omega arith;
      each = λ k job at.
          let there_is = subst (λ xs. slice_get xs k ≡ Some job.seat) are (slice_get-map (λ (x : Job). x.seat) jobs k ∙ ap (option_map (λ (x : Job). x.seat)) at) in
          let below = slice_get_within jobs k job at in record {
            own = omega arith;
            seat = all.each k job.seat there_is;
            fresh = (fresh k job.seat there_is).0;
            ready = ready k job at;
          };
    }

-- and what came back are all seats
pub all_back : (j : Setup) (t : RunTable) (p : Program) (done : List Done) → 0 < j.workers → AreDone j t p done → AreSeatsOf j t (seats_back done)
all_back j t p done some all = record {
  count = length-map done (λ (d : Done). d.seat) ∙ all.count;
  some = some;
  each = λ k s at. let h = of_mapped (λ (d : Done). d.seat) done k s at in subst (IsSeatOf j t k) h.2 (all.each k h.0 h.1).seat;
}

pub ran_back : (done : List Done) → flat_map (λ (s : Seat). s.token.me.0.tasks.ran) (seats_back done) ≡ ran_by done
ran_back [] = refl
ran_back (d ∷ done) = ap (λ (es : List Execution). d.seat.token.me.0.tasks.ran ++ es) (ran_back done)

pub retired_back : (done : List Done) → flat_map (λ (s : Seat). s.token.me.0.loops.retired) (seats_back done) ≡ retired_by done
retired_back [] = refl
retired_back (d ∷ done) = ap (λ (es : List IndexRun). d.seat.token.me.0.loops.retired ++ es) (retired_back done)

-- every worker met its end
pub each_done : (j : Setup) (t : RunTable) (p : Program) (done : List Done) → AreDone j t p done → (d : Done) → In d done → (k : ℕ) × IsDoneBy j t p k d
each_done j t p done all d i = let h = in_at done d i in (h.0, all.each h.0 d h.1)
