-- What the close says where all workers have come to their end.
use Rattle.std.proofs.Common.{◌≡◌, ◌≢◌, ◌↔◌, ◌<◌, ◌&&◌, ℕ, nat_eq, Bool, true, false, List, [], ◌∷◌, ◌++◌, append-nil, map, length, slice_get, Option, Some, None, inl, inr, refl, sym, ap, ◌∙◌, subst, arith, if◌then◌else◌}
use Rattle.std.specs.List.Sorted.{IsPermutation}
use Rattle.std.proofs.lemmas.Bool.Decides.{nat_tests}
use Rattle.kt_order.specs.Paths.{same_path}
use Rattle.kt_prog.specs.Accepted.{IsAccepted}
use Rattle.kt_prog.specs.Entries.{faults_of}
use Rattle.kt_prog.specs.Outcome.{fault_or_rows, outcome_of}
use Rattle.kt_prog.specs.Runs.{FaultRun}
use Rattle.kt_prog.specs.declared.programs.Program.{Program}
use Rattle.kt_prog.specs.declared.runs.Outcome.{Outcome}
use Rattle.kt_prog.specs.declared.runs.Outcome.TheVariants as O
use Rattle.kt_prog.specs.declared.runs.Ran.{Ran}
use Rattle.kt_faults.specs.First.{fault_else_rows}
use Rattle.kt_faults.specs.Laws.{EarlierIsFirst, FirstIsAnswer}
use Rattle.kt_rule.specs.declared.seats.Seat.{Seat}
use Rattle.kt_rule.specs.declared.tables.RunTable.{RunTable}
use Rattle.kt_rule.specs.declared.views.Setup.{Setup}
use Rattle.kt_rule.specs.declared.views.IndexRun.{IndexRun}
use Rattle.kt_rule.specs.declared.views.View.{View}
use Rattle.kt_rule.specs.Close.{run_entry, index_entry}
use Rattle.kt_rule.specs.Lists.{one_if}
use Rattle.kt_rule.specs.LoopFacts.{index_times}
use Rattle.kt_rule.proofs.Puts.{same_self}
use Rattle.kt_runs.specs.ByPath.{Path}
use Rattle.kt_pool.specs.declared.closing.Closed.{Closed}
use Rattle.kt_pool.specs.Closing.{IsOfAll, IsReferenceRun, KnowsMain, Limits, SomeSeat}
use Rattle.kt_pool.specs.Exact.{IsExact, done_entries, name_of, named_so, pair_times, reference_of}
use Rattle.kt_crew.specs.declared.jobs.Done.{Done}
use Rattle.kt_crew.specs.Crews.{AreDone, seats_back}
use Rattle.kt_crew.specs.Ends.{comes_to, first_with}
use Rattle.kt_crew.proofs.Leasts.{first_of_all, met_by, one_at_each, ran_by, retired_by, same_faults}
use Rattle.kt_crew.proofs.Together.{each_done, ran_back, retired_back}

-- the close of a run whose workers have all come to their end
pub record IsClosed (j : Setup) (t : RunTable) (p : Program) (done : List Done) (c : Closed) (v : View) : Type 0 where
  pub program : j.program ≡ p
  pub accepted : IsAccepted p
  pub some : 0 < j.workers
  pub done_all : AreDone j t p done
  pub lists : IsOfAll v (seats_back done)
  pub limits : Limits j c (seats_back done)
  pub whole : SomeSeat KnowsMain (seats_back done) → IsReferenceRun j c v

pub closed_so : (j : Setup) (t : RunTable) (p : Program) (done : List Done) (seats : List Seat) (c : Closed) (v : View) → seats ≡ seats_back done
    → j.program ≡ p → IsAccepted p → 0 < j.workers → AreDone j t p done → IsOfAll v seats → Limits j c seats
    → (SomeSeat KnowsMain seats → IsReferenceRun j c v) → IsClosed j t p done c v
closed_so j t p done seats c v is program accepted some all lists limits whole = record {
  program = program;
  accepted = accepted;
  some = some;
  done_all = all;
  lists = subst (IsOfAll v) is lists;
  limits = subst (Limits j c) is limits;
  whole = λ k. whole (subst (SomeSeat KnowsMain) (sym is) k);
}

module _ (earlier_law : EarlierIsFirst) (first_law : FirstIsAnswer) (j : Setup) (t : RunTable) (p : Program) (done : List Done) (c : Closed) (v : View)
    (h : IsClosed j t p done c v) where
  -- where the run was not stopped, the first worker has read that main is finished
  pub knows_main : c.limit ≡ false → SomeSeat KnowsMain (seats_back done)
  knows_main unstopped = first done refl
    where
      first : (ds : List Done) → done ≡ ds → SomeSeat KnowsMain (seats_back done)
      first [] is = let n = h.done_all.count in let s = h.some in let e = ap length is in absurd (omega arith)
      first (d ∷ ds) is =
          let at = subst (λ (xs : List Done). slice_get xs 0 ≡ Some d) (sym is) refl in
          let seat_at = subst (λ (xs : List Done). slice_get (seats_back xs) 0 ≡ Some d.seat) (sym is) refl in
          elim (h.done_all.each 0 d at).ends.cause [
            | inl main ↦ (0, d.seat, seat_at, main.0)
            | inr stop ↦ absurd (not_both (sym unstopped ∙ h.limits.stopped (0, d.seat, seat_at, stop)))
          ]
        where
          not_both : false ≡ true → ⊥
          not_both e = cc e

  ran_is : v.tasks.ran ≡ ran_by done
  ran_is = h.lists.ran ∙ ran_back done

  retired_is : v.loops.retired ≡ retired_by done
  retired_is = h.lists.retired ∙ retired_back done

  -- then the least fault is the answer's
  least_is : (r : IsReferenceRun j c v) → fault_or_rows c.rows.items (faults_of j.program (reference_of j).entries)
      ≡ fault_else_rows c.rows.items (first_with None done)
  least_is r =
      first_law (first_with None done) (met_by j done) (faults_of j.program (reference_of j).entries)
      (first_of_all earlier_law j done None [] refl
      (λ d i. let e = each_done j t p done h.done_all d i in e.1.ends.fault j e.1.seat.told))
      (one_at_each j done v.tasks.ran v.loops.retired ran_is retired_is
      (λ q. let a = r.exact.tasks.ran q in let b = r.exact.tasks.once q in omega arith)
      (λ q i. let a = r.exact.indexes.retired q i in let b = r.exact.indexes.once q i in omega arith))
      (same_faults j done v.tasks.ran v.loops.retired (faults_of j.program (reference_of j).entries) ran_is retired_is r.faults)
      c.rows.items

  abbrev answer : Bool → Ran
  answer b = if b then record { outcome = O.Limit; tasks = 0; indexes = 0 }
      else record { outcome = fault_else_rows c.rows.items (first_with None done); tasks = c.tasks; indexes = c.indexes }

  pub is_outcome : comes_to c (first_with None done) ≡ outcome_of j.program j.input
  is_outcome = by c.limit refl
    where
      by : (b : Bool) → c.limit ≡ b → answer c.limit ≡ outcome_of j.program j.input
      by true e = ap answer e ∙ sym (h.limits.outcome e)
      by false e = let r = h.whole (knows_main e) in
          ap answer e ∙ (ap (λ (o : Outcome). record { outcome = o; tasks = c.tasks; indexes = c.indexes }) (sym (least_is r)) ∙ sym r.outcome)

  no_limit : (o : Option FaultRun) → fault_else_rows c.rows.items o ≡ O.Limit → ⊥
  no_limit None e = cc e
  no_limit (Some f) e = cc e

  pub limit_is : (c.limit ≡ true) ↔ ((comes_to c (first_with None done)).outcome ≡ O.Limit)
  limit_is = (λ e. ap (λ b. (answer b).outcome) e, λ e. by c.limit refl e)
    where
      by : (b : Bool) → c.limit ≡ b → (answer c.limit).outcome ≡ O.Limit → c.limit ≡ true
      by true is e = is
      by false is e = absurd (no_limit (first_with None done) (sym (ap (λ b. (answer b).outcome) is) ∙ e))

  pub is_exact : (comes_to c (first_with None done)).outcome ≢ O.Limit → IsExact j v
  is_exact ne = by c.limit refl
    where
      by : (b : Bool) → c.limit ≡ b → IsExact j v
      by true e = absurd (ne (ap (λ b. (answer b).outcome) e))
      by false e = (h.whole (knows_main e)).exact
