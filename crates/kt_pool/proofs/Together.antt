-- What all seats together know, and what their lists are.
use Rattle.std.proofs.Common.{◌≡◌, ℕ, zero, suc, ◌||◌, Bool, true, false, List, [], ◌∷◌, ◌++◌, slice_get, append-nil, append_assoc, refl, sym, ap, ◌∙◌, subst, Some}
use Rattle.std.specs.List.{flat_map}
use Rattle.kt_rule.specs.declared.seats.Seat.{Seat}
use Rattle.kt_rule.specs.declared.views.View.{View}
use Rattle.kt_rule.specs.Close.{together}
use Rattle.kt_rule.proofs.Sums.{in_left, in_right}
use Rattle.kt_steps.proofs.Telling.{the_some}
use Rattle.kt_pool.specs.Closing.{SomeSeat, KnowsMain, KnowsStop, IsOfAll}
use Rattle.kt_pool.specs.Seats.{taken_in, all_together}

-- a fact that a join keeps of both views
module _ (Knows : View → Type 0) (left : (v w : View) → Knows v → Knows (together v w)) (right : (v w : View) → Knows w → Knows (together v w))
  where
    kept_in : (v : View) (seats : List Seat) → Knows v → Knows (taken_in v seats)
    kept_in v [] h = h
    kept_in v (s ∷ seats) h = kept_in (together v s.token.me.0) seats (left v s.token.me.0 h)

    brought_in : (v : View) (seats : List Seat) (k : ℕ) (s : Seat) → slice_get seats k ≡ Some s → Knows s.token.me.0 → Knows (taken_in v seats)
    brought_in v [] k s at h = absurd (cc at)
    brought_in v (x ∷ seats) zero s at h = kept_in (together v x.token.me.0) seats
        (right v x.token.me.0 (subst (λ (z : Seat). Knows z.token.me.0) (sym (the_some at)) h))
    brought_in v (x ∷ seats) (suc k) s at h = brought_in (together v x.token.me.0) seats k s at h

    all_know : (seats : List Seat) → SomeSeat Knows seats → Knows (all_together seats)
    all_know [] (k, s, at, h) = absurd (cc at)
    all_know (x ∷ seats) (zero, s, at, h) = kept_in x.token.me.0 seats (subst (λ (z : Seat). Knows z.token.me.0) (sym (the_some at)) h)
    all_know (x ∷ seats) (suc k, s, at, h) = brought_in x.token.me.0 seats k s at h

or_left : (a b : Bool) → a ≡ true → (a || b) ≡ true
or_left true b e = refl
or_left false b e = absurd (cc e)

or_right : (a b : Bool) → b ≡ true → (a || b) ≡ true
or_right true b e = refl
or_right false b e = e

pub all_know_main : (seats : List Seat) → SomeSeat KnowsMain seats → KnowsMain (all_together seats)
all_know_main = all_know KnowsMain (λ v w. in_left v.seen.known w.seen.known []) (λ v w. in_right v.seen.known w.seen.known [])

pub all_know_stop : (seats : List Seat) → SomeSeat KnowsStop seats → KnowsStop (all_together seats)
all_know_stop = all_know KnowsStop (λ v w. or_left v.seen.stop w.seen.stop) (λ v w. or_right v.seen.stop w.seen.stop)

-- a list of a view that a join puts together
taken_list : {A : Type 0} (f : View → List A) → ((v w : View) → f (together v w) ≡ f v ++ f w) → (v : View) (seats : List Seat)
    → f (taken_in v seats) ≡ f v ++ flat_map (λ (s : Seat). f s.token.me.0) seats
taken_list f joins v [] = sym (append-nil (f v))
taken_list f joins v (s ∷ seats) =
    taken_list f joins (together v s.token.me.0) seats ∙ (ap (λ zs. zs ++ flat_map (λ (x : Seat). f x.token.me.0) seats) (joins v s.token.me.0)
    ∙ append_assoc (f v) (f s.token.me.0) (flat_map (λ (x : Seat). f x.token.me.0) seats))

pub is_of_all : (seats : List Seat) → IsOfAll (all_together seats) seats
is_of_all [] = record { claimed = refl; ran = refl; taken = refl; retired = refl }
is_of_all (s ∷ seats) = record {
  claimed = taken_list (λ (v : View). v.tasks.claimed) (λ v w. refl) s.token.me.0 seats;
  ran = taken_list (λ (v : View). v.tasks.ran) (λ v w. refl) s.token.me.0 seats;
  taken = taken_list (λ (v : View). v.loops.taken) (λ v w. refl) s.token.me.0 seats;
  retired = taken_list (λ (v : View). v.loops.retired) (λ v w. refl) s.token.me.0 seats;
}
