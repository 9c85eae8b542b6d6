-- The turns of a simulated run.
use Rattle.std.proofs.Common.{◌≡◌, ◌≤◌, ◌<◌, ◌+◌, ℕ, Bool, true, false, not, cond, ◌||◌, ◌&&◌, nat_eq, nat_lt, List, [], ◌∷◌, length, Option, Some, None, Result, Ok, refl, sym, ap, ◌∙◌, subst, arith, slice_get, option_map}
use Rattle.std.proofs.lemmas.Bool.Decides.{nat_tests}
use Rattle.kt_order.specs.Books.{Piece}
use Rattle.kt_tables.specs.LoopRows.{can_take, is_taken, is_under_way}
use Rattle.kt_tables.specs.Tables.{IndexRow, TaskRow, CoreState, is_finished, open_before, open_child}
use Rattle.kt_tables.specs.TableEvents.{is_unclaimed, is_running, is_ended, is_looping, wants, unless, or_else, refusal, refusal_at}
use Rattle.kt_tables.specs.TableLaws.{IsLawfulState}
use Rattle.kt_tables.specs.declared.events.Event.TheVariants as E
use Rattle.kt_tables.specs.declared.events.Phase.{Phase}
use Rattle.kt_tables.specs.declared.events.Phase.TheVariants as P
use Rattle.kt_tables.specs.declared.events.Stand.{Stand}
use Rattle.kt_tables.specs.declared.events.Stand.TheVariants as I
use Rattle.kt_tables.specs.declared.events.Why.{Why}
use Rattle.kt_tables.specs.declared.events.Why.TheVariants as W
use Rattle.kt_sim.specs.declared.loops.Span.{Span}
use Rattle.kt_sim.specs.declared.operations.Stop.{Stop}
use Rattle.kt_sim.specs.Left.{left_in}
use Rattle.kt_sim.specs.Simulated.{IsCalm, GoesOn, IsInPhase, IsTaken}
use Rattle.kt_sim.specs.Turns.{BeginsPiece, IsFree, IsFreeIn, IsFreeLoop, IsFirst, IsRunOut, Tries, first_of}
use Rattle.kt_sim.proofs.Outside.{row_there, looping_is}
use Rattle.kt_sim.proofs.Facts.{ended_none, looped_none, piece_some}

pub tried : (x y : CoreState) (r : Result Bool Stop) (b : Bool) → Tries x y r → r ≡ Ok b → b ≡ true → left_in y < left_in x
tried x y r true h is e = let went = subst (Tries x y) is h in went.1
tried x y r false h is e = cc

pub went_on : (x y : CoreState) (r : Result (Unit {0}) Stop) (u : Unit {0}) → GoesOn x y r → r ≡ Ok u → left_in y < left_in x
went_on x y r u h is = let went = subst (GoesOn x y) is h in went.2

-- a task that can go on
free_in : (phase : Phase) (t : ℕ) (r : TaskRow) (tasks : List TaskRow) → (is_ended phase || is_looping phase) ≡ false → not (is_finished phase) ≡ true
    → open_before t r tasks ≡ None → IsFreeIn phase t r tasks
free_in P.Unclaimed t r tasks e live first = first
free_in P.Running t r tasks e live first = tt
free_in P.Looping t r tasks e live first = cc
free_in P.Ended t r tasks e live first = cc
free_in P.Finished t r tasks e live first = cc

abbrev IsPhase : CoreState → ℕ → Phase → Type 0
IsPhase c t phase = (r : TaskRow) → slice_get c.table.tasks t ≡ Some r → phase ≡ r.phase

pub free_here : (c : CoreState) (t : ℕ) (phase : Phase) → IsFirst t c → IsPhase c t phase → (is_ended phase || is_looping phase) ≡ false → IsFree t c
free_here c t phase first is e = record {
  there = first.there;
  free = λ r at.
      let two = first.first r at in
      free_in r.phase t r c.table.tasks (subst (λ (ph : Phase). (is_ended ph || is_looping ph) ≡ false) (is r at) e) two.0 two.1;
}

running_free : (phase : Phase) (t : ℕ) (r : TaskRow) (tasks : List TaskRow) → is_running phase ≡ true → IsFreeIn phase t r tasks
running_free P.Unclaimed t r tasks e = cc
running_free P.Running t r tasks e = tt
running_free P.Looping t r tasks e = cc
running_free P.Ended t r tasks e = cc
running_free P.Finished t r tasks e = cc

-- a task that runs can go on
pub free_to_run : (c : CoreState) (t : ℕ) (phase : Phase) → t < length c.table.tasks → IsPhase c t phase → is_running phase ≡ true → IsFree t c
free_to_run c t phase there is e = record {
  there = there;
  free = λ r at. running_free r.phase t r c.table.tasks (subst (λ (ph : Phase). is_running ph ≡ true) (is r at) e);
}

looping_free : (phase : Phase) (t : ℕ) (r : TaskRow) (tasks : List TaskRow) → is_looping phase ≡ true → open_child r tasks ≡ None → IsFreeIn phase t r tasks
looping_free P.Unclaimed t r tasks e none = cc
looping_free P.Running t r tasks e none = tt
looping_free P.Looping t r tasks e none = none
looping_free P.Ended t r tasks e none = none
looping_free P.Finished t r tasks e none = cc

-- and so can a loop
pub free_to_loop : (c : CoreState) (t : ℕ) (phase : Phase) → t < length c.table.tasks → IsPhase c t phase → is_looping phase ≡ true
    → ((r : TaskRow) → slice_get c.table.tasks t ≡ Some r → None ≡ open_child r c.table.tasks) → IsFree t c
free_to_loop c t phase there is e none = record {
  there = there;
  free = λ r at. looping_free r.phase t r c.table.tasks (subst (λ (ph : Phase). is_looping ph ≡ true) (is r at) e) (sym (none r at));
}

not_above : (n : ℕ) → n ≤ 0 → not (nat_lt 0 n) ≡ true
not_above n few = grind (arith, nat_tests)

abbrev left_or : TaskRow → Option Why
left_or r = unless (not (nat_lt 0 r.loop.unretired)) (W.Left r.loop.unretired)

finish_row : (c : CoreState) (t : ℕ) (r : TaskRow) (phase : Phase) → slice_get c.table.tasks t ≡ Some r → r.phase ≡ phase → (is_ended phase || is_looping phase) ≡ true
    → open_child r c.table.tasks ≡ None → r.loop.unretired ≤ 0 → refusal (E.Finish t) c.table ≡ None
finish_row c t r phase there is test none few =
    ap (λ (o : Option TaskRow). refusal_at (E.Finish t) o c.table.tasks) there
    ∙ ap (λ (ph : Phase). wants (λ ph'. is_ended ph' || is_looping ph') ph (or_else (option_map W.Child (open_child r c.table.tasks)) (left_or r))) is
    ∙ ap (λ (b : Bool). cond b (or_else (option_map W.Child (open_child r c.table.tasks)) (left_or r)) (Some (W.Found phase))) test
    ∙ ap (λ (o : Option ℕ). or_else (option_map W.Child o) (left_or r)) none
    ∙ ap (λ (b : Bool). unless b (W.Left r.loop.unretired)) (not_above r.loop.unretired few)

module _ (c : CoreState) (t : ℕ) (phase : Phase) (h : IsFree t c) (is : IsPhase c t phase) where
  abbrev at : (r : TaskRow) × (slice_get c.table.tasks t ≡ Some r)
  at = row_there c.table.tasks t h.there

  in_row : (wanted : Phase) → phase ≡ wanted → at.0.phase ≡ wanted
  in_row wanted e = sym (is at.0 at.1) ∙ e

  free_of : (wanted : Phase) → phase ≡ wanted → IsFreeIn wanted t at.0 c.table.tasks
  free_of wanted e = subst (λ (ph : Phase). IsFreeIn ph t at.0 c.table.tasks) (in_row wanted e) (h.free at.0 at.1)

  pub free_claim : phase ≡ P.Unclaimed → refusal (E.ClaimInOrder t) c.table ≡ None
  free_claim e =
      ap (λ (o : Option TaskRow). refusal_at (E.ClaimInOrder t) o c.table.tasks) at.1
      ∙ ap (λ (ph : Phase). wants is_unclaimed ph (option_map W.Earlier (open_before t at.0 c.table.tasks))) (in_row P.Unclaimed e)
      ∙ ap (λ (o : Option ℕ). option_map W.Earlier o) (free_of P.Unclaimed e)

  pub free_running : phase ≡ P.Running → IsInPhase P.Running t c
  free_running e = (at.0, at.1, in_row P.Running e)

  pub free_ended : IsLawfulState c → phase ≡ P.Ended → refusal (E.Finish t) c.table ≡ None
  free_ended law e = finish_row c t at.0 P.Ended at.1 (in_row P.Ended e) refl (free_of P.Ended e) (ended_none c law t at.0 at.1 (in_row P.Ended e))

  pub free_looping : phase ≡ P.Looping → IsFreeLoop t c
  free_looping e = (at.0, at.1, in_row P.Looping e, free_of P.Looping e)

  pub not_finished : phase ≡ P.Finished → ⊥
  not_finished e = free_of P.Finished e

-- an index that is under way is taken
taken_is : (stand : Stand) → is_taken stand ≡ true → stand ≡ I.Taken
taken_is I.Untaken e = cc
taken_is I.Taken e = refl
taken_is I.Over e = cc

under_way_is : (o : Option IndexRow) → is_under_way o ≡ true → (v : IndexRow) × (o ≡ Some v) × (v.stand ≡ I.Taken)
under_way_is None e = absurd (cc e)
under_way_is (Some v) e = (v, refl, taken_is v.stand e)

pub taken_in : (c : CoreState) (t i : ℕ) (r : TaskRow) → slice_get c.table.tasks t ≡ Some r → r.phase ≡ P.Looping → is_under_way (slice_get r.loop.indexes i) ≡ true → IsTaken t i c
taken_in c t i r there looping e =
    let v = under_way_is (slice_get r.loop.indexes i) e in
    record { row = r; there = there; looping = looping; one = v.0; inside = v.1; taken = v.2 }

pub taken_here : (c : CoreState) (t i : ℕ) (phase : Phase) → t < length c.table.tasks → IsPhase c t phase → is_looping phase ≡ true
    → ((r : TaskRow) → slice_get c.table.tasks t ≡ Some r → true ≡ is_under_way (slice_get r.loop.indexes i)) → IsTaken t i c
taken_here c t i phase there is looping e =
    let r = row_there c.table.tasks t there in
    taken_in c t i r.0 r.1 (looping_is r.0.phase (subst (λ (ph : Phase). is_looping ph ≡ true) (is r.0 r.1) looping)) (sym (e r.0 r.1))

-- the first piece of a loop can be taken
first_is : (pieces : List Piece) (span : Span) → first_of pieces ≡ Some span → (p : Piece) × (rest : List Piece) × (pieces ≡ p ∷ rest) × (p.from ≡ span.from) × (p.to ≡ span.to)
first_is [] span e = absurd (cc e)
first_is (p ∷ rest) span e = (p, rest, refl, from_is e, to_is e)
  where
    the_span : Some (record { from = p.from; to = p.to }) ≡ Some span → (record { from = p.from; to = p.to }) ≡ span
    the_span h = cc

    from_is : Some (record { from = p.from; to = p.to }) ≡ Some span → p.from ≡ span.from
    from_is h = ap (λ (s : Span). s.from) (the_span h)

    to_is : Some (record { from = p.from; to = p.to }) ≡ Some span → p.to ≡ span.to
    to_is h = ap (λ (s : Span). s.to) (the_span h)

pub begins_piece : (c : CoreState) (t : ℕ) (span : Span) → IsLawfulState c → (free : IsFreeLoop t c) → first_of free.0.loop.pieces ≡ Some span → BeginsPiece t span c
begins_piece c t span law free e =
    let first = first_is free.0.loop.pieces span e in
    let some = piece_some c law t free.0 free.1 free.2 first.0 first.1 first.2 in
    let from = first.3 in
    let to = first.4 in
    record { row = free.0; there = free.1; looping = free.2; first = e; some = omega (arith, some, from, to) }

none_first : (pieces : List Piece) → first_of pieces ≡ None → pieces ≡ []
none_first [] e = refl
none_first (p ∷ rest) e = absurd (cc e)

pub take_free : (c : CoreState) (t : ℕ) (span : Span) (n : ℕ) → BeginsPiece t span c → 1 ≤ n → span.from + n ≤ span.to → refusal (E.Take t span.from n) c.table ≡ None
take_free c t span n b some few =
    let first = first_is b.row.loop.pieces span b.first in
    let from = first.3 in
    let to = first.4 in
    ap (λ (o : Option TaskRow). refusal_at (E.Take t span.from n) o c.table.tasks) b.there
    ∙ ap (λ (ph : Phase). wants is_looping ph (unless (nat_lt 0 n && can_take span.from n b.row.loop.pieces) W.NoPiece)) b.looping
    ∙ ap (λ (ps : List Piece). unless (nat_lt 0 n && can_take span.from n ps) W.NoPiece) first.2
    ∙ can (nat_lt 0 n) (nat_eq first.0.from span.from) (nat_lt first.0.to (span.from + n)) (grind (arith, nat_tests)) (grind (arith, nat_tests)) (grind (arith, nat_tests))
  where
    can : (a b' d : Bool) → a ≡ true → b' ≡ true → d ≡ false → unless (a && cond b' (not d) (can_take span.from n (first_is b.row.loop.pieces span b.first).1)) W.NoPiece ≡ None
    can true true false x y z = refl
    can false b' d x y z = cc
    can true false d x y z = cc
    can true true true x y z = cc

pub runs_out : (c : CoreState) (t : ℕ) → (free : IsFreeLoop t c) → first_of free.0.loop.pieces ≡ None
    → ((i : ℕ) → i < free.0.call.length → is_under_way (slice_get free.0.loop.indexes i) ≡ false) → IsRunOut t c
runs_out c t free e none = record { loop = free; pieces = none_first free.0.loop.pieces e; none = none }

-- a loop that has run out retires what has ended, or is finished
pub retire_free : (c : CoreState) (t n : ℕ) → (out : IsRunOut t c) → n ≡ out.loop.0.loop.ended → 0 < n → refusal (E.Retire t n) c.table ≡ None
retire_free c t n out same some =
    let r = out.loop.0 in
    ap (λ (o : Option TaskRow). refusal_at (E.Retire t n) o c.table.tasks) out.loop.1
    ∙ ap (λ (ph : Phase). wants is_looping ph (unless (nat_lt 0 n && not (nat_lt r.loop.ended n)) (W.NotEnded r.loop.ended))) out.loop.2
    ∙ can (nat_lt 0 n) (nat_lt r.loop.ended n) (grind (arith, nat_tests)) (grind (arith, nat_tests))
  where
    can : (a b : Bool) → a ≡ true → b ≡ false → unless (a && not b) (W.NotEnded out.loop.0.loop.ended) ≡ None
    can true false x y = refl
    can false b x y = cc
    can true true x y = cc

pub out_free : (c : CoreState) (t : ℕ) → IsLawfulState c → (out : IsRunOut t c) → out.loop.0.loop.ended ≡ 0 → refusal (E.Finish t) c.table ≡ None
out_free c t law out none =
    finish_row c t out.loop.0 P.Looping out.loop.1 out.loop.2 refl out.loop.3
    (looped_none c law t out.loop.0 out.loop.1 out.loop.2 out.pieces out.none none)
