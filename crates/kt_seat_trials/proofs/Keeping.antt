-- What calls leave of a seat as it was.
use Rattle.std.proofs.Common.{◌≡◌, ℕ, zero, suc, ◌<◌, List, [], ◌∷◌, ◌++◌, length, take, drop, get_or, slice_get, refl, sym, ap, ◌∙◌, subst, arith, Some}
use lib.ListN.{get_elem?}
use Rattle.kt_runs.specs.ByPath.{Path, child}
use Rattle.kt_rule.specs.declared.seats.Seat.{Seat}
use Rattle.kt_rule.specs.declared.tables.RunTable.{RunTable}
use Rattle.kt_rule.specs.declared.views.Setup.{Setup}
use Rattle.kt_rule.specs.declared.views.Spot.{Spot}
use Rattle.kt_rule.specs.declared.views.View.{View}
use Rattle.kt_rule.specs.Views.{main_spot}
use Rattle.kt_rule.specs.Steps.{BeforeKnown, stands, state_word, won_own}
use Rattle.kt_steps.specs.Told.{IsLiveOf, IsMine}
use Rattle.kt_tasks.specs.Claims.{Claimed}
use Rattle.kt_tasks.specs.declared.states.Claim.{Claim}
use Rattle.kt_tasks.specs.declared.states.Claim.TheVariants as C
use Rattle.std.specs.List.{flat_map}
use Rattle.kt_pool.specs.Seats.{view_at_start, IsSeatOf, AreSeatsOf, HaveNotStepped}
use Rattle.kt_seat_trials.specs.Trials.{HasMain}

pub live_of : (j : Setup) (t : RunTable) (k : ℕ) (s : Seat) → IsSeatOf j t k s → IsLiveOf t.layout s.worker s.token.me.0
live_of j t k s h = let p = h.parts in
    record { setup = j; told = h.told; layout = h.layout; live = omega arith; own = h.number ∙ sym h.worker }

-- what no step changes
pub record Keeps (v w : View) : Type 0 where
  pub setup : w.setup ≡ v.setup
  pub worker : w.worker ≡ v.worker
  pub parts : w.parts ≡ v.parts
  pub made : w.made ≡ v.made
  pub spots : w.region.spots ≡ v.region.spots

pub keeps_is : (v w u : View) → w ≡ u → Keeps v u → Keeps v w
keeps_is v w u e h = subst (Keeps v) (sym e) h

pub seat_keeps : (j : Setup) (t : RunTable) (k : ℕ) (s s' : Seat) → s'.token.table_id ≡ s.token.table_id → s'.token.me.1 ≡ s.token.me.1
    → s'.worker ≡ s.worker → Keeps s.token.me.0 s'.token.me.0 → IsSeatOf j t k s → IsSeatOf j t k s'
seat_keeps j t k s s' table slots number h old = record {
  table = table ∙ old.table;
  layout = old.layout;
  slots = slots ∙ old.slots;
  number = number ∙ old.number;
  told = h.setup ∙ old.told;
  worker = h.worker ∙ old.worker;
  parts = h.parts ∙ old.parts;
  made = h.made ∙ old.made;
}

pub main_keeps : (v w : View) → Keeps v w → HasMain v → HasMain w
main_keeps v w h (a, at) = (a, ap (λ (ms : List Spot). get_elem? ms a) h.spots ∙ at)

nil_child : (q : Path) (k : ℕ) → [] ≡ child q k → ⊥
nil_child [] k e = cc
nil_child (x ∷ q) k e = cc

-- main is the first entry of its frame
pub mains_claim : (v : View) → HasMain v → (m : Spot) × IsMine v 0 m × BeforeKnown v m.path
mains_claim v (a, at) = (main_spot, (a, at, refl), λ q k e. absurd (nil_child q k e))

-- whatever a claim answers
pub claim_keeps : (v w : View) (m : Spot) (c : Claim) → IsMine v 0 m → Claimed v 0 w c → Keeps v w
claim_keeps v w m C.Won mine h = keeps_is v w (won_own v m) (h m mine)
    (record { setup = refl; worker = refl; parts = refl; made = refl; spots = refl })
claim_keeps v w m (C.Stolen stand) mine h = keeps_is v w (stands v 0 (state_word m.berth stand)) (h.2 m mine).1
    (record { setup = refl; worker = refl; parts = refl; made = refl; spots = refl })

the_some : {X : Type 0} → {x y : X} → Some x ≡ Some y → x ≡ y
the_some h = cc

-- three seats in a row
pub three : (j : Setup) (t : RunTable) (a b c : Seat) (seats : List Seat) → seats ≡ a ∷ b ∷ c ∷ [] → j.workers ≡ 3 → IsSeatOf j t 0 a
    → IsSeatOf j t 1 b → IsSeatOf j t 2 c → AreSeatsOf j t seats
three j t a b c seats e workers first second third = subst (AreSeatsOf j t) (sym e) (record {
  count = sym workers;
  some = omega arith;
  each = each;
})
  where
    each : (k : ℕ) (s : Seat) → slice_get (a ∷ b ∷ c ∷ []) k ≡ Some s → IsSeatOf j t k s
    each zero s at = subst (IsSeatOf j t 0) (the_some at) first
    each (suc zero) s at = subst (IsSeatOf j t 1) (the_some at) second
    each (suc (suc zero)) s at = subst (IsSeatOf j t 2) (the_some at) third
    each (suc (suc (suc k))) s at = absurd (cc at)

-- seats that have not stepped have nothing in these lists
nothing_in : {A : Type 0} (f : View → List A) (seats : List Seat) → ((k : ℕ) (s : Seat) → slice_get seats k ≡ Some s → f s.token.me.0 ≡ [])
    → flat_map (λ (s : Seat). f s.token.me.0) seats ≡ []
nothing_in f [] h = refl
nothing_in f (s ∷ seats) h = λ i. h 0 s refl i ++ nothing_in f seats (λ k x. h (suc k) x) i

at_start : {A : Type 0} (f : View → List A) (j : Setup) (k : ℕ) → f (view_at_start j 0) ≡ [] → ((n : ℕ) → f (view_at_start j (suc n)) ≡ [])
    → f (view_at_start j k) ≡ []
at_start f j zero first later = first
at_start f j (suc k) first later = later k

pub none_claimed : (j : Setup) (seats : List Seat) → HaveNotStepped j seats → flat_map (λ (s : Seat). s.token.me.0.tasks.claimed) seats ≡ []
none_claimed j seats h = nothing_in (λ (v : View). v.tasks.claimed) seats
    (λ k s at. ap (λ (v : View). v.tasks.claimed) (h k s at).0 ∙ at_start (λ (v : View). v.tasks.claimed) j k refl (λ n. refl))

pub none_ran : (j : Setup) (seats : List Seat) → HaveNotStepped j seats → flat_map (λ (s : Seat). s.token.me.0.tasks.ran) seats ≡ []
none_ran j seats h = nothing_in (λ (v : View). v.tasks.ran) seats
    (λ k s at. ap (λ (v : View). v.tasks.ran) (h k s at).0 ∙ at_start (λ (v : View). v.tasks.ran) j k refl (λ n. refl))

-- worker 0's seat has main
pub main_at_start : (j : Setup) (seats : List Seat) (s : Seat) → HaveNotStepped j seats → slice_get seats 0 ≡ Some s → HasMain s.token.me.0
main_at_start j seats s h at = (0, ap (λ (v : View). get_elem? v.region.spots 0) (h 0 s at).0)

headed : {A : Type 0} (xs ys : List A) (x : A) → 0 < length xs → x ≡ get_or xs 0 x → ys ≡ take 0 xs ++ drop 1 xs → xs ≡ x ∷ ys
headed [] ys x some_first e f = absurd (omega arith)
headed (z ∷ xs) ys x some_first e f = λ i. sym e i ∷ sym f i

none_long : (xs : List Seat) → length xs ≡ 0 → xs ≡ []
none_long [] e = refl
none_long (x ∷ xs) e = absurd (omega arith)

-- three seats that were taken from the front one after another
pub three_are : (xs ys zs ws : List Seat) (a b c : Seat) → length xs ≡ 3 → a ≡ get_or xs 0 a → ys ≡ take 0 xs ++ drop 1 xs → b ≡ get_or ys 0 b
    → zs ≡ take 0 ys ++ drop 1 ys → c ≡ get_or zs 0 c → ws ≡ take 0 zs ++ drop 1 zs → (xs ≡ a ∷ b ∷ c ∷ []) × (ws ≡ [])
three_are xs ys zs ws a b c three_long a_is ys_is b_is zs_is c_is ws_is =
    let e : xs ≡ a ∷ ys = headed xs ys a (omega arith) a_is ys_is in let n = ap (λ (l : List Seat). length l) e in
    let f : ys ≡ b ∷ zs = headed ys zs b (omega arith) b_is zs_is in let m = ap (λ (l : List Seat). length l) f in
    let g : zs ≡ c ∷ ws = headed zs ws c (omega arith) c_is ws_is in let k = ap (λ (l : List Seat). length l) g in
    let none = none_long ws (omega arith) in
    (e ∙ (ap (λ (l : List Seat). a ∷ l) f ∙ (ap (λ (l : List Seat). a ∷ b ∷ l) g ∙ ap (λ (l : List Seat). a ∷ b ∷ c ∷ l) none)), none)

-- each of them is the seat of its worker
pub seats_are : (j : Setup) (t : RunTable) (xs : List Seat) (a b c : Seat) → xs ≡ a ∷ b ∷ c ∷ [] → AreSeatsOf j t xs
    → IsSeatOf j t 0 a × IsSeatOf j t 1 b × IsSeatOf j t 2 c
seats_are j t xs a b c e all = let now = subst (AreSeatsOf j t) e all in (now.each 0 a refl, now.each 1 b refl, now.each 2 c refl)
