-- What an operation makes of the seat within the body of an index.
use Rattle.std.proofs.Common.{◌≡◌, ◌<◌, inl, ℕ, suc, ◌+◌, true, false, List, [], ◌∷◌, ◌++◌, length, Option, Some, refl, sym, ap, ◌∙◌, subst, arith}
use Rattle.kt_law.specs.Acts.{Act, Deed, Load, Store, Fold}
use Rattle.kt_order.specs.Body.{Do, Stop}
use Rattle.kt_order.specs.Machine.{Code}
use Rattle.kt_order.specs.Rest.{left, left_of}
use Rattle.kt_order.specs.Stand.{stand}
use Rattle.kt_order.proofs.Stands.{stand_acted, stand_ended}
use Rattle.kt_prog.specs.Accepted.{IsAccepted}
use Rattle.kt_prog.specs.Calls.{CallTree, Job, Index}
use Rattle.kt_prog.specs.Fits.{FitsJob}
use Rattle.kt_prog.specs.Objects.{elements_of, first_element_of}
use Rattle.kt_prog.specs.Operations.{heard, operations, IsNext}
use Rattle.kt_prog.specs.Reference.{machine_of}
use Rattle.kt_prog.specs.Script.{Fault}
use Rattle.kt_prog.specs.declared.programs.Program.{Program}
use Rattle.kt_prog.specs.declared.runs.Operation.{Operation}
use Rattle.kt_prog.specs.declared.runs.Operation.TheVariants as O
use Rattle.kt_body.specs.Endings.{EndsSo, answers_of}
use Rattle.kt_body.specs.declared.ops.Ended.{Ended}
use Rattle.kt_body.specs.declared.ops.Ended.TheVariants as E
use Rattle.kt_runs.specs.Bodies.{IsFirst}
use Rattle.kt_runs.proofs.Next.{next_is_first}
use Rattle.kt_rule.specs.declared.views.IndexRun.{IndexRun}
use Rattle.kt_rule.specs.declared.views.Setup.{Setup}
use Rattle.kt_rule.specs.declared.views.View.{View}
use Rattle.kt_rule.specs.Facts.{index_task}
use Rattle.kt_rule.specs.Steps as Steps
use Rattle.kt_pieces.specs.Changes as Changes
use Rattle.kt_loops.specs.Operations.{DidOne, IsNextOn, with_taken}
use Rattle.kt_calls.specs.Ranges.{IsElementOf}
use Rattle.kt_intervals.specs.Indexes.{Came, GoneSo, Hand, IsIndexAtEnd, IsIndexOver, IsIndexGoing, StandsIn, Start, fault_with}
use Rattle.kt_intervals.proofs.Acts.{act_first, act_of, forks_nothing, heard_same, last_next, last_op, op_of, stops_with}

module _ (j : Setup) where
  abbrev tree : IndexRun → Code (machine_of j.program)
  tree e = (machine_of j.program).tree (index_task j e).call

  pub way_left : (e : IndexRun) (w : IsIndexGoing j e) → left (machine_of j.program) (index_task j e) ≡ w.st.left
  way_left e w = ap (left_of (machine_of j.program)) w.is

  pub way_begun : (e : IndexRun) → e.answers ≡ [] → e.done ≡ 0 → IsIndexGoing j e
  way_begun e answers done = record {
    st = record { left = tree e; forks = []; over = false };
    is = ap (λ (xs : List ℕ). stand (machine_of j.program) (tree e) xs e.done) answers ∙ ap (λ (n : ℕ). stand (machine_of j.program) (tree e) [] n) done;
    still = refl;
  }

  -- one operation more is counted
  one_more : (e : IndexRun) (found : List ℕ) → stand (machine_of j.program) (tree e) (e.answers ++ found) (e.done + 1) ≡ stand (machine_of j.program) (tree e) (e.answers ++ found) (suc e.done)
  one_more e found = let n : e.done + 1 ≡ suc e.done = omega arith in ap (λ (i : ℕ). stand (machine_of j.program) (tree e) (e.answers ++ found) i) n

  pub way_acted : (e : IndexRun) → IsIndexGoing j e → (object element : ℕ) (d : Deed) (n : ℕ) (k : ℕ → Code (machine_of j.program))
      → left (machine_of j.program) (index_task j e) ≡ Do (act_of object element d) k
      → IsIndexGoing j (Changes.heard (Steps.heard (act_of object element d) n) e)
  way_acted e w object element Load n k next = record {
    st = record { left = k n; forks = w.st.forks; over = false };
    is = one_more e (Steps.heard (act_of object element Load) n)
        ∙ stand_acted (machine_of j.program) (tree e) e.answers e.done w.st (act_of object element Load) k n w.is (sym (way_left e w) ∙ next) (λ b. cc);
    still = refl;
  }
  way_acted e w object element (Store v) n k next = record {
    st = record { left = k 0; forks = w.st.forks; over = false };
    is = one_more e (Steps.heard (act_of object element (Store v)) n)
        ∙ stand_acted (machine_of j.program) (tree e) e.answers e.done w.st (act_of object element (Store v)) k 0 w.is (sym (way_left e w) ∙ next) (λ b. refl);
    still = refl;
  }
  way_acted e w object element (Fold op v) n k next = record {
    st = record { left = k 0; forks = w.st.forks; over = false };
    is = one_more e (Steps.heard (act_of object element (Fold op v)) n)
        ∙ stand_acted (machine_of j.program) (tree e) e.answers e.done w.st (act_of object element (Fold op v)) k 0 w.is (sym (way_left e w) ∙ next) (λ b. refl);
    still = refl;
  }

  pub end_left : (e : IndexRun) (fault : Option Fault) → IsIndexAtEnd j e fault → left (machine_of j.program) (index_task j e) ≡ Stop fault
  end_left e fault h = way_left e h.way ∙ h.stops

  -- behind its end
  end_counted : (e : IndexRun) (fault : Option Fault) (h : IsIndexAtEnd j e fault)
      → stand (machine_of j.program) (tree e) e.answers (e.done + 1) ≡ Some (record { left = Stop fault; forks = h.way.st.forks; over = true })
  end_counted e fault h =
      (let n : e.done + 1 ≡ suc e.done = omega arith in ap (λ (i : ℕ). stand (machine_of j.program) (tree e) e.answers i) n)
      ∙ stand_ended (machine_of j.program) (tree e) e.answers e.done h.way.st fault h.way.is h.stops h.way.still

  pub ended_over : (e : IndexRun) (fault : Option Fault) → IsIndexAtEnd j e fault → IsIndexOver j (Changes.ended e)
  ended_over e fault h = record {
    st = record { left = Stop fault; forks = h.way.st.forks; over = true };
    is = end_counted e fault h;
    over = refl;
    fault = fault;
    stops = refl;
  }

  pub over_left : (e : IndexRun) (fault : Option Fault) → IsIndexAtEnd j e fault → left (machine_of j.program) (index_task j (Changes.ended e)) ≡ Stop fault
  over_left e fault h = ap (left_of (machine_of j.program)) (end_counted e fault h)

module _ (start : Start) (h : Hand) (p : Program) (job : Job) (answers : List ℕ) (count : ℕ) (s : StandsIn start h p job answers count) where
  taken_is : h.view.loops.taken ≡ s.since.done ++ s.e ∷ s.since.rest
  taken_is = ap (λ (w : View). w.loops.taken) s.since.same

  -- what is next in the body is first of what is left of the index
  first_of : (op : Operation) → IsNext p job answers count op → IsFirst s.setup.program op (left (machine_of s.setup.program) (index_task s.setup s.e))
  first_of op next =
      next_is_first s.setup.program (index_task s.setup s.e) s.way.st op s.way.is
      (subst (λ (q : Program). IsNext q (Index s.e.spot.berth.call s.e.index) s.e.answers s.e.done op) (sym s.same_program)
      (subst (λ (j : Job). IsNext p j s.e.answers s.e.done op) s.job_is
      (subst (λ (found : List ℕ). IsNext p job found s.e.done op) (sym s.answers_are)
      (subst (λ (n : ℕ). IsNext p job answers n op) (sym s.count_is) next))))

  -- the act that is left first
  acts : (object element : ℕ) (d : Deed) (a : ℕ) → IsNext p job answers count (op_of object element d a)
      → (k : ℕ → Code (machine_of s.setup.program))
      × (left (machine_of s.setup.program) (index_task s.setup s.e) ≡ Do (act_of object element d) k)
  acts object element d a next =
      act_first s.setup.program object element d a (left (machine_of s.setup.program) (index_task s.setup s.e)) (first_of (op_of object element d a) next)

  pub due_on : (number object element : ℕ) (d : Deed) → number ≡ first_element_of p.families object + element
      → IsNext p job answers count (op_of object element d 0) → IsNextOn h.view number d
  due_on number object element d is next =
      let k = acts object element d 0 next in
      inl (record {
        setup = s.setup;
        told = s.told;
        done = s.since.done;
        head = s.e;
        rest = s.since.rest;
        taken = taken_is;
        over = s.before;
        act = act_of object element d;
        does = refl;
        place = ap (λ (q : Program). first_element_of q.families object + element) s.same_program ∙ sym is;
        more = k.0;
        next = k.1;
      })

  pub element_inside : (number : ℕ) → number < elements_of p.families → IsElementOf h.view number
  element_inside number lt = record { setup = s.setup; told = s.told; below = rw s.same_program lt }

  -- after an operation on an element
  pub acted : (w : View) (object element : ℕ) (d : Deed) (n : ℕ) → DidOne h.view n w → IsNext p job answers count (op_of object element d n)
      → StandsIn start (record h { view = w }) p job (answers ++ heard (op_of object element d n)) (count + 1)
  acted w object element d n did next =
      let k = acts object element d n next in
      let act : Act = act_of object element d in
      let f : IndexRun = Changes.heard (Steps.heard act n) s.e in
      let same : w ≡ with_taken h.view (s.since.done ++ f ∷ s.since.rest) = did.0 s.setup s.told s.since.done s.e s.since.rest taken_is s.before act k.0 k.1 in
      record {
        program = s.program;
        setup = s.setup;
        told = ap (λ (x : View). x.setup) same ∙ s.told;
        same_program = s.same_program;
        firsts = s.firsts;
        e = f;
        since = record {
          done = s.since.done;
          start = s.since.start;
          rest = s.since.rest;
          was = s.since.was;
          many = s.since.many;
          went = ap (λ (x : IndexRun). Changes.heard (Steps.heard act n) x) s.since.went;
          same = same ∙ ap (λ (x : View). with_taken x (s.since.done ++ f ∷ s.since.rest)) s.since.same;
        };
        before = s.before;
        way = way_acted s.setup s.e s.way object element d n k.0 k.1;
        job_is = s.job_is;
        answers_are = ap (λ (xs : List ℕ). xs ++ Steps.heard act n) s.answers_are ∙ ap (λ (ys : List ℕ). answers ++ ys) (heard_same object element d n);
        count_is = let c = s.count_is in omega (arith, c);
      }

  -- no fork is next
  pub forks_none : IsAccepted p → FitsJob p job → (child : CallTree) → IsNext p job answers count (O.Fork child) → ⊥
  forks_none ok fits child next =
      forks_nothing p ok s.e.spot.berth.call s.e.index (subst (FitsJob p) s.job_is fits) answers count child
      (subst (λ (j : Job). IsNext p j answers count (O.Fork child)) s.job_is next)

came : (start : Start) (h : Hand) (p : Program) (job : Job) (done : List Operation) (ended : Ended) → heard (last_op p ended) ≡ []
    → operations p job (answers_of done) ≡ done ++ last_op p ended ∷ [] → StandsIn start h p job (answers_of done) (length done)
    → Came start h.view (fault_with ended)
came start h p job done ended quiet all s =
    let next = last_next p job done (last_op p ended) quiet all in
    let stops = stops_with s.setup.program ended (left (machine_of s.setup.program) (index_task s.setup s.e))
    (first_of start h p job (answers_of done) (length done) s (last_op p ended) next) in
    record {
      e = s.e;
      since = s.since;
      ends = λ j told.
          let same : s.setup ≡ j = some_is s.setup j (sym s.told ∙ ap (λ (w : View). w.setup) s.since.same ∙ told) in
          subst (λ (i : Setup). IsIndexAtEnd i s.e (fault_with ended)) same
          (record { way = s.way; stops = sym (way_left s.setup s.e s.way) ∙ stops });
    }
  where
    some_is : (a b : Setup) → Some a ≡ Some b → a ≡ b
    some_is a b e = cc

-- how a body has gone, from how its run has ended; S is what the run was on
module _ {S : Type 0} (hand : S → Hand) (goes : S → Operation → S → Type 0) (start : Start) where
  abbrev at : S → Program → Job → List ℕ → ℕ → Type 0
  at x p job answers count = StandsIn start (hand x) p job answers count

  abbrev halts : S → Type 0
  halts x = ⊥

  pub gone : (p : Program) (job : Job) (x y : S) (ended : Ended) → EndsSo at goes halts p job x y ended → GoneSo start (hand y).view ended
  gone p job x y E.Done (done, all, c) = came start (hand y) p job done E.Done refl all c.stands
  gone p job x y (E.Fault law line) (done, all, c) = came start (hand y) p job done (E.Fault law line) refl all c.stands
  gone p job x y E.Halted (done, more, refused, called, all, stuck) = stuck.at_halt
