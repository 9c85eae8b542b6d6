-- Holding in order, and answers in order.
use Rattle.std.proofs.Common.{◌≡◌, ◌≢◌, ℕ, zero, suc, ◌+◌, ◌-◌, ◌<◌, ◌≤◌, ◌==◌, Bool, true, false, cond, List, [], ◌∷◌, ◌++◌, length, drop, slice_index, nat_eq, sym, refl, ap, ◌∙◌, subst, inl, inr, arith, eq-eqb, ne_eqb}
use mathlib.Core.Logic.{dite}
use native.Mathlib.Decide.{ℕ_discrete}
use Rattle.kt_words.specs.Words.{packed_post}
use Rattle.kt_words.specs.declared.posts.Post.TheVariants as P
use Rattle.kt_words.specs.declared.layouts.Layout.{Layout}
use Rattle.kt_words.specs.declared.pairs.Pair.{Pair}
use Rattle.kt_rule.specs.declared.views.View.{View}
use Rattle.kt_rule.specs.declared.views.Found.{Found}
use Rattle.kt_rule.specs.declared.views.Promise.{Promise}
use Rattle.kt_rule.specs.declared.views.Share.{Share}
use Rattle.kt_rule.specs.declared.views.Desk.{Desk}
use Rattle.kt_rule.specs.Lists.{In, here, there}
use Rattle.kt_steps.specs.Told.{IsLiveOf}
use Rattle.kt_posts.specs.declared.answers.Answer.{Answer}
use Rattle.kt_posts.specs.declared.answers.Answer.TheVariants as A
use Rattle.kt_posts.specs.Told.{IsPostWord}
use Rattle.kt_posts.specs.Desks.{holds_one, looks_at, without, other_promises, answers_one, gives_one, other_pieces, deals_one, pair_of}
use Rattle.kt_request.specs.Reports.{InOrder, posted_at, deal}
use Rattle.kt_request.specs.Serving.{Rising, HeldInto, LeadsOn, AreShares, Answering}
use Rattle.kt_request.proofs.Pieces.{drop_none, drop_past, drop_next, IsNext, next_piece, next_in, next_given}

-- HOLDS

abbrev find : ℕ → ℕ → Found
find k n = record { worker = k; word = n }

order_more : (k : ℕ) (fs : List Found) (n : ℕ) → IsPostWord n → InOrder k fs → InOrder k (fs ++ find (k + length fs) n ∷ [])
order_more k [] n p h = ((let e : k + 0 ≡ k = omega arith in e), p, tt)
order_more k (f ∷ fs) n p h = (
  h.0,
  h.1,
  subst (λ (z : ℕ). InOrder (suc k) (fs ++ find z n ∷ []))
      (let e : suc k + length fs ≡ k + suc (length fs) = omega arith in e) (order_more (suc k) fs n p h.2),
)

posted_more : (victim : ℕ) (fs : List Found) (f : Found)
    → posted_at victim (fs ++ f ∷ []) ≡ posted_at victim fs ++ cond (f.word == packed_post (P.Posted victim)) (f.worker ∷ []) []
posted_more victim [] f = go (f.word == packed_post (P.Posted victim))
  where
    go : (b : Bool) → cond b (f.worker ∷ []) [] ≡ [] ++ cond b (f.worker ∷ []) []
    go true = refl
    go false = refl
posted_more victim (x ∷ fs) f = go (x.word == packed_post (P.Posted victim)) (posted_more victim fs f)
  where
    go : (b : Bool)
        → posted_at victim (fs ++ f ∷ []) ≡ posted_at victim fs ++ cond (f.word == packed_post (P.Posted victim)) (f.worker ∷ []) []
        → cond b (x.worker ∷ posted_at victim (fs ++ f ∷ [])) (posted_at victim (fs ++ f ∷ []))
        ≡ cond b (x.worker ∷ posted_at victim fs) (posted_at victim fs) ++ cond (f.word == packed_post (P.Posted victim)) (f.worker ∷ []) []
    go true h = λ i. x.worker ∷ h i
    go false h = h

grouped : (xs : List Found) (ys : List Found) (z : Found) → (xs ++ ys) ++ z ∷ [] ≡ xs ++ (ys ++ z ∷ [])
grouped [] ys z = refl
grouped (x ∷ xs) ys z = λ i. x ∷ grouped xs ys z i

pub nothing_more : {A : Type 0} (xs : List A) → xs ++ [] ≡ xs
nothing_more [] = refl
nothing_more (x ∷ xs) = λ i. x ∷ nothing_more xs i

pub one_longer : {A : Type 0} (xs : List A) (x : A) → length (xs ++ x ∷ []) ≡ length xs + 1
one_longer [] x = refl
one_longer (y ∷ xs) x = let h = one_longer xs x in omega arith

-- the holds so far: the workers before k were looked at
pub record Holding (victim k : ℕ) (v0 v : View) (held : List ℕ) : Type 0 where
  pub found : List Found
  pub order : InOrder 0 found
  pub long : length found ≡ k
  pub held_is : held ≡ posted_at victim found
  pub is : v ≡ record v0 { desk = record v0.desk { held = held; found = v0.desk.found ++ found } }
  pub few : length held ≤ k

pub holds_none : (victim : ℕ) (v0 : View) (held : List ℕ) → held ≡ [] → v0.desk.held ≡ [] → Holding victim 0 v0 v0 held
holds_none victim v0 held e none_held = record {
  found = [];
  order = tt;
  long = refl;
  held_is = e;
  is = λ i. record v0 { desk = record v0.desk { held = (none_held ∙ sym e) i; found = sym (nothing_more v0.desk.found) i } };
  few = let l : length held ≡ 0 = ap (λ (z : List ℕ). length z) e in omega arith;
}

pub holds_more : (victim k n : ℕ) (v0 v w : View) (held held2 : List ℕ) → Holding victim k v0 v held → HeldInto victim k n v w held held2
    → Holding victim (k + 1) v0 w held2
holds_more victim k n v0 v w held held2 h (post, inl (hit, is, held2_is)) = record {
  found = h.found ++ find k n ∷ [];
  order = subst (λ (z : ℕ). InOrder 0 (h.found ++ find z n ∷ []))
      (let e : 0 + length h.found ≡ length h.found = omega arith in e ∙ h.long) (order_more 0 h.found n post h.order);
  long = one_longer h.found (find k n) ∙ ap (λ (z : ℕ). z + 1) h.long;
  held_is = held2_is ∙ (ap (λ (z : List ℕ). z ++ k ∷ []) h.held_is ∙ sym (posted_more victim h.found (find k n)
      ∙ ap (λ (b : Bool). posted_at victim h.found ++ cond b (k ∷ []) []) (eq-eqb n (packed_post (P.Posted victim)) hit)));
  is = is ∙ (ap (λ (z : View). holds_one z k n) h.is
      ∙ (λ i. record v0 { desk = record v0.desk { held = sym held2_is i; found = grouped v0.desk.found h.found (find k n) i } }));
  few = let a : length held2 ≡ length (held ++ k ∷ []) = ap (λ (z : List ℕ). length z) held2_is in let b = one_longer held k in
      let f = h.few in omega arith;
}
holds_more victim k n v0 v w held held2 h (post, inr (miss, is, held2_is)) = record {
  found = h.found ++ find k n ∷ [];
  order = subst (λ (z : ℕ). InOrder 0 (h.found ++ find z n ∷ []))
      (let e : 0 + length h.found ≡ length h.found = omega arith in e ∙ h.long) (order_more 0 h.found n post h.order);
  long = one_longer h.found (find k n) ∙ ap (λ (z : ℕ). z + 1) h.long;
  held_is = held2_is ∙ (h.held_is ∙ sym (posted_more victim h.found (find k n)
      ∙ (ap (λ (b : Bool). posted_at victim h.found ++ cond b (k ∷ []) []) (ne_eqb n (packed_post (P.Posted victim)) miss)
      ∙ nothing_more (posted_at victim h.found))));
  is = is ∙ (ap (λ (z : View). looks_at z k n) h.is
      ∙ (λ i. record v0 { desk = record v0.desk { held = sym held2_is i; found = grouped v0.desk.found h.found (find k n) i } }));
  few = let a : length held2 ≡ length held = ap (λ (z : List ℕ). length z) held2_is in let f = h.few in omega arith;
}

-- the seat still stands for somebody where its desk alone has changed
pub live_changed : (l : Layout) (k k' : ℕ) (v w : View) (d : Desk) → k' ≡ k → w ≡ record v { desk = d } → IsLiveOf l k v → IsLiveOf l k' w
live_changed l k k' v w d k_is is live = record {
  setup = live.setup;
  told = ap (λ (z : View). z.setup) is ∙ live.told;
  layout = live.layout;
  live = subst (λ (z : View). 0 < z.parts) (sym is) live.live;
  own = k_is ∙ (live.own ∙ ap (λ (z : View). z.worker) (sym is));
}

pub live_held : (l : Layout) (k k' victim n : ℕ) (v w : View) (held : List ℕ) → k' ≡ k → Holding victim n v w held → IsLiveOf l k v
    → IsLiveOf l k' w
live_held l k k' victim n v w held k_is h live = live_changed l k k' v w (record v.desk { held = held; found = v.desk.found ++ h.found })
    k_is h.is live

-- ANSWERS

pub live_leads : (l : Layout) (k k' : ℕ) (v w : View) → k' ≡ k → LeadsOn v w → IsLiveOf l k v → IsLiveOf l k' w
live_leads l k k' v w k_is is live = record {
  setup = live.setup;
  told = ap (λ (z : View). z.setup) is ∙ live.told;
  layout = live.layout;
  live = subst (λ (z : View). 0 < z.parts) (sym is) live.live;
  own = k_is ∙ (live.own ∙ ap (λ (z : View). z.worker) (sym is));
}

pub drop_at : (xs : List ℕ) (i : ℕ) → i < length xs → drop i xs ≡ slice_index xs i ∷ drop (i + 1) xs
drop_at xs i h = drop_next 0 xs i h ∙ ap (λ (k : ℕ). slice_index xs i ∷ drop k xs) (let e : suc i ≡ i + 1 = omega arith in e)

rising_drop : (xs : List ℕ) (i : ℕ) → Rising xs → Rising (drop i xs)
rising_drop xs zero h = subst Rising (sym (drop_none xs)) h
rising_drop [] (suc i) h = tt
rising_drop (x ∷ xs) (suc i) h = rising_drop xs i h.1

pub index_in : (xs : List ℕ) (i : ℕ) → i < length xs → In (slice_index xs i) xs
index_in [] i h = absurd (omega arith)
index_in (x ∷ xs) zero h = here
index_in (x ∷ xs) (suc i) h = there (index_in xs i (omega arith))

rising_index : (xs : List ℕ) (i j : ℕ) → Rising xs → i < j → j < length xs → slice_index xs i < slice_index xs j
rising_index [] i j h l m = absurd (omega arith)
rising_index (x ∷ xs) i zero h l m = absurd (omega arith)
rising_index (x ∷ xs) zero (suc j) h l m = h.0 (slice_index xs j) (index_in xs j (omega arith))
rising_index (x ∷ xs) (suc i) (suc j) h l m = rising_index xs i j h.1 (omega arith) (omega arith)

number_is : (k i : ℕ) → nat_eq k i ≡ true → k ≡ i
number_is k i e = dite (ℕ_discrete k i) (λ d. d) (λ no. let z : true ≡ false = sym e ∙ ne_eqb k i no in absurd (cc z))

without_none : (k : ℕ) (xs : List ℕ) → ((y : ℕ) → In y xs → k < y) → without k xs ≡ xs
without_none k [] h = refl
without_none k (x ∷ xs) h = go (nat_eq x k) refl (without_none k xs (λ y i. h y (there i)))
  where
    go : (b : Bool) → nat_eq x k ≡ b → without k xs ≡ xs → cond b (without k xs) (x ∷ without k xs) ≡ x ∷ xs
    go true e rest = let d : x ≡ k = number_is x k e in let l = h x here in absurd (omega arith)
    go false e rest = λ i. x ∷ rest i

without_head : (k : ℕ) (xs : List ℕ) → ((y : ℕ) → In y xs → k < y) → without k (k ∷ xs) ≡ xs
without_head k xs h = ap (λ (b : Bool). cond b (without k xs) (k ∷ without k xs)) (eq-eqb k k refl) ∙ without_none k xs h

held_after : (held : List ℕ) (i : ℕ) → i < length held → Rising held → without (slice_index held i) (drop i held) ≡ drop (i + 1) held
held_after held i less rising = let e = drop_at held i less in ap (without (slice_index held i)) e
    ∙ without_head (slice_index held i) (drop (i + 1) held) (subst Rising e (rising_drop held i rising)).0

in_other : (a : ℕ) (ms : List Promise) (m : Promise) → In m (other_promises a ms) → In m ms × (a ≢ m.spot.berth.at)
in_other a [] m h = elim h [ ]
in_other a (x ∷ ms) m h = go m x (nat_eq a x.spot.berth.at) refl h (in_other a ms m)
  where
    go : (m x : Promise) (b : Bool) → nat_eq a x.spot.berth.at ≡ b → In m (cond b (other_promises a ms) (x ∷ other_promises a ms))
        → (In m (other_promises a ms) → In m ms × (a ≢ m.spot.berth.at)) → In m (x ∷ ms) × (a ≢ m.spot.berth.at)
    go m x true e g rest = let r = rest g in (there r.0, r.1)
    go m x false e here rest = (here, λ d. let z : true ≡ false = sym (eq-eqb a x.spot.berth.at d) ∙ e in absurd (cc z))
    go m x false e (there g) rest = let r = rest g in (there r.0, r.1)

other_in : (a : ℕ) (ms : List Promise) (m : Promise) → In m ms → a ≢ m.spot.berth.at → In m (other_promises a ms)
other_in a [] m h n = elim h [ ]
other_in a (x ∷ ms) m h n = go m x (nat_eq a x.spot.berth.at) refl h n (other_in a ms m)
  where
    go : (m x : Promise) (b : Bool) → nat_eq a x.spot.berth.at ≡ b → In m (x ∷ ms) → a ≢ m.spot.berth.at
        → (In m ms → a ≢ m.spot.berth.at → In m (other_promises a ms)) → In m (cond b (other_promises a ms) (x ∷ other_promises a ms))
    go m x true e here n rest = absurd (n (number_is a x.spot.berth.at e))
    go m x true e (there g) n rest = rest g n
    go m x false e here n rest = here
    go m x false e (there g) n rest = there (rest g n)

module _ (held given : List ℕ) (at : ℕ) (pieces : List Pair) (others : List Share) (v0 : View) (i : ℕ) (v : View)
    (an : Answering held given at pieces others v0 i v) (less : i < length held) (rising : Rising held) where
  -- the pieces that are left, and those that are left behind the next answer
  abbrev now : List Pair
  now = drop (i - length given) pieces

  abbrev then : List Pair
  then = drop (i + 1 - length given) pieces

  pub held_in : In (slice_index held i) v.desk.held
  held_in = subst (In (slice_index held i)) (sym (an.desk ∙ drop_at held i less)) here

  -- no piece is left
  none_now : length given + length pieces ≤ i → now ≡ []
  none_now past = drop_past pieces (i - length given) (omega (arith, past))

  none_then : length given + length pieces ≤ i → then ≡ []
  none_then past = drop_past pieces (i + 1 - length given) (omega (arith, past))

  pub answered_failed : (w : View) → length given + length pieces ≤ i → w ≡ answers_one v (slice_index held i)
      → Answering held given at pieces others v0 (i + 1) w
  answered_failed w past w_is = subst (Answering held given at pieces others v0 (i + 1)) (sym w_is) (record {
    desk = ap (without (slice_index held i)) an.desk ∙ held_after held i less rising;
    each = λ j from l. absurd (omega (arith, past, from, l));
    no_more = λ m g. let x = an.no_more m g in let x1 = x.1 in let x2 = x.2 in absurd (omega (arith, past, x1, x2));
    hand = (an.hand.0, subst (AreShares at an.hand.0) (none_now past ∙ sym (none_then past)) an.hand.1, an.hand.2);
    apart = an.apart;
    few = an.few;
    same = ap (λ (z : View). record z {
      desk = record z.desk {
        held = without (slice_index held i) v.desk.held;
        wrote = (answers_one v (slice_index held i)).desk.wrote;
      };
    }) an.same;
  })

  -- the next piece is given
  module _ (p : Pair) (past : length given ≤ i) (next : now ≡ p ∷ then) where
    is_next : IsNext at p then others v.loops.pieces
    is_next = next_piece at p then others v.loops.pieces an.hand.0 (subst (AreShares at an.hand.0) next an.hand.1) an.hand.2

    pub piece_in : (x : Share) × In x v.loops.pieces × (x.spot.berth.at ≡ at) × (pair_of x ≡ p)
    piece_in = next_in at p then others v.loops.pieces is_next

    pub answered_piece : (w : View) → w ≡ deals_one v (slice_index held i) at p.low → Answering held given at pieces others v0 (i + 1) w
    answered_piece w w_is = subst (Answering held given at pieces others v0 (i + 1)) (sym w_is) (record {
      desk = ap (without (slice_index held i)) an.desk ∙ held_after held i less rising;
      each = λ j from l. absurd (omega (arith, past, from, l));
      no_more = λ m g. let x = an.no_more m g in let x1 = x.1 in let x2 = x.2 in absurd (omega (arith, past, x1, x2));
      hand = (is_next.rest, is_next.are, next_given at (i - length given) p then pieces others v.loops.pieces an.apart next is_next);
      apart = an.apart;
      few = an.few;
      same = ap (λ (z : View). record z {
        desk = record z.desk {
          held = without (slice_index held i) v.desk.held;
          wrote = (answers_one v (slice_index held i)).desk.wrote;
        };
        loops = record z.loops { pieces = other_pieces at p.low v.loops.pieces };
      }) an.same;
    })

    pub deal_piece : deal (drop i held) (drop i given) at now ≡ A.Piece at p ∷ deal (drop (i + 1) held) (drop (i + 1) given) at then
    deal_piece = (λ k. deal (drop_at held i less k) (drop_past given i past k) at (next k))
        ∙ (λ k. A.Piece at p ∷ deal (drop (i + 1) held) (sym (drop_past given (i + 1) (omega (arith, past))) k) at then)

  -- no piece was given before all tasks are
  same_left : i < length given → now ≡ then
  same_left room = ap (λ (n : ℕ). drop n pieces) (let e : i - length given ≡ i + 1 - length given = omega (arith, room) in e)

  pub answered_task : (w : View) → i < length given → Rising given → w ≡ gives_one v (slice_index held i) (slice_index given i)
      → Answering held given at pieces others v0 (i + 1) w
  answered_task w room rising_given w_is = subst (Answering held given at pieces others v0 (i + 1)) (sym w_is) (record {
    desk = ap (without (slice_index held i)) an.desk ∙ held_after held i less rising;
    each = λ j from l. let x = an.each j (omega arith) l in let up = rising_index given i j rising_given (omega arith) l in
        let at : x.0.spot.berth.at ≡ slice_index given j = x.3 in
        (x.0, other_in (slice_index given i) v.tasks.promised x.0 x.1 (λ d. absurd (omega arith)), x.2, x.3);
    no_more = λ m g. let r = in_other (slice_index given i) v.tasks.promised m g in let x = an.no_more m r.0 in let x1 = x.1 in (
      x.0,
      dite (ℕ_discrete x.0 i) (λ e. absurd (r.1 (ap (slice_index given) (sym e) ∙ sym x.3)))
          (λ other. let z : i + 1 ≤ x.0 = later i x.0 x1 other in z),
      x.2,
      x.3,
    );
    hand = (an.hand.0, subst (AreShares at an.hand.0) (same_left room) an.hand.1, an.hand.2);
    apart = an.apart;
    few = an.few;
    same = ap (λ (z : View). record z {
      tasks = record z.tasks { promised = other_promises (slice_index given i) v.tasks.promised };
      desk = record z.desk {
        held = without (slice_index held i) v.desk.held;
        wrote = (gives_one v (slice_index held i) (slice_index given i)).desk.wrote;
      };
    }) an.same;
  })
    where
      later : (i j : ℕ) → i ≤ j → j ≢ i → i + 1 ≤ j
      later i j l n = grind arith

  pub deal_task : i < length given
      → deal (drop i held) (drop i given) at now ≡ A.Task (slice_index given i) ∷ deal (drop (i + 1) held) (drop (i + 1) given) at then
  deal_task room = λ k. deal (drop_at held i less k) (drop_at given i room k) at (same_left room k)

  pub deal_failed : length given + length pieces ≤ i
      → deal (drop i held) (drop i given) at now ≡ A.Failed ∷ deal (drop (i + 1) held) (drop (i + 1) given) at then
  deal_failed past = (λ k. deal (drop_at held i less k) (drop_past given i (omega (arith, past)) k) at (none_now past k))
      ∙ (λ k. A.Failed ∷ deal (drop (i + 1) held) (sym (drop_past given (i + 1) (omega (arith, past))) k) at (sym (none_then past) k))

pub answers_more : (xs : List Answer) (a : Answer) (ys : List Answer) → (xs ++ a ∷ []) ++ ys ≡ xs ++ a ∷ ys
answers_more [] a ys = refl
answers_more (x ∷ xs) a ys = λ i. x ∷ answers_more xs a ys i

pub deal_none : (held given : List ℕ) (at : ℕ) (pieces : List Pair) (n : ℕ) → n ≡ length held → deal (drop n held) (drop n given) at pieces ≡ []
deal_none held given at pieces n e = ap (λ (z : List ℕ). deal z (drop n given) at pieces) (drop_past held n (omega arith))

pub deal_all : (held given : List ℕ) (at : ℕ) (pieces : List Pair)
    → deal (drop 0 held) (drop 0 given) at (drop (0 - length given) pieces) ≡ deal held given at pieces
deal_all held given at pieces =
    let none_before : 0 - length given ≡ 0 = omega arith in
    let rest = ap (λ (n : ℕ). drop n pieces) none_before ∙ drop_none pieces in
    λ k. deal (drop_none held k) (drop_none given k) at (rest k)
