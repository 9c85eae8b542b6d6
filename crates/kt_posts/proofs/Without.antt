-- Lists from which a thief or the promises of a record are dropped.
use Rattle.std.proofs.Common.{◌≡◌, ◌≢◌, ℕ, ◌+◌, Bool, true, false, cond, nat_eq, List, [], ◌∷◌, map, sym, refl, ap, ◌∙◌, arith, eq-eqb, ne_eqb}
use mathlib.Core.Logic.{dite}
use native.Mathlib.Decide.{ℕ_discrete}
use Rattle.kt_order.specs.Paths.{same_path}
use Rattle.kt_runs.specs.ByPath.{Path}
use Rattle.kt_rule.specs.declared.views.Promise.{Promise}
use Rattle.kt_rule.specs.declared.views.Wrote.{Wrote}
use Rattle.kt_rule.specs.declared.views.View.{View}
use Rattle.kt_rule.specs.Lists.{times, one_if, In, here, there}
use Rattle.kt_rule.specs.Views.{promise_path}
use Rattle.kt_rule.proofs.Puts.{same_is, same_ne}
use Rattle.kt_posts.specs.Desks.{without, unwritten, writes_one, other_promises, deals_one}

number_is : (k i : ℕ) → nat_eq k i ≡ true → k ≡ i
number_is k i e = dite (ℕ_discrete k i) (λ d. d) (λ no. let z : true ≡ false = sym e ∙ ne_eqb k i no in cc)

pub in_without : (k : ℕ) (is : List ℕ) (i : ℕ) → In i (without k is) → In i is × (i ≢ k)
in_without k [] i h = elim h [ ]
in_without k (x ∷ is) i h = go i x (nat_eq x k) refl h (in_without k is i)
  where
    go : (i x : ℕ) (b : Bool) → nat_eq x k ≡ b → In i (cond b (without k is) (x ∷ without k is))
        → (In i (without k is) → In i is × (i ≢ k)) → In i (x ∷ is) × (i ≢ k)
    go i x true e g rest = let r = rest g in (there r.0, r.1)
    go i x false e here rest = (here, λ d. let z : true ≡ false = sym (eq-eqb x k d) ∙ e in cc)
    go i x false e (there g) rest = let r = rest g in (there r.0, r.1)

pub without_in : (k : ℕ) (is : List ℕ) (i : ℕ) → In i is → i ≢ k → In i (without k is)
without_in k [] i h n = elim h [ ]
without_in k (x ∷ is) i h n = go i x (nat_eq x k) refl h n (without_in k is i)
  where
    go : (i x : ℕ) (b : Bool) → nat_eq x k ≡ b → In i (x ∷ is) → i ≢ k → (In i is → i ≢ k → In i (without k is))
        → In i (cond b (without k is) (x ∷ without k is))
    go i x true e here n rest = absurd (n (number_is x k e))
    go i x true e (there g) n rest = rest g n
    go i x false e here n rest = here
    go i x false e (there g) n rest = there (rest g n)

pub in_unwritten : (k : ℕ) (es : List Wrote) (e : Wrote) → In e (unwritten k es) → In e es × (e.thief ≢ k)
in_unwritten k [] e h = elim h [ ]
in_unwritten k (x ∷ es) e h = go e x (nat_eq x.thief k) refl h (in_unwritten k es e)
  where
    go : (e x : Wrote) (b : Bool) → nat_eq x.thief k ≡ b → In e (cond b (unwritten k es) (x ∷ unwritten k es))
        → (In e (unwritten k es) → In e es × (e.thief ≢ k)) → In e (x ∷ es) × (e.thief ≢ k)
    go e x true d g rest = let r = rest g in (there r.0, r.1)
    go e x false d here rest = (here, λ f. let z : true ≡ false = sym (eq-eqb x.thief k f) ∙ d in cc)
    go e x false d (there g) rest = let r = rest g in (there r.0, r.1)

-- what is written for a thief goes when the thief is answered
pub unwritten_one : (k n : ℕ) (es : List Wrote) → unwritten k (record { thief = k; piece = n } ∷ es) ≡ unwritten k es
unwritten_one k n es = ap (λ (b : Bool). cond b (unwritten k es) (record { thief = k; piece = n } ∷ unwritten k es)) (eq-eqb k k refl)

pub unwritten_again : (k : ℕ) (es : List Wrote) → unwritten k (unwritten k es) ≡ unwritten k es
unwritten_again k [] = refl
unwritten_again k (x ∷ es) = go (nat_eq x.thief k) refl (unwritten_again k es)
  where
    go : (b : Bool) → nat_eq x.thief k ≡ b → unwritten k (unwritten k es) ≡ unwritten k es
        → unwritten k (cond b (unwritten k es) (x ∷ unwritten k es)) ≡ cond b (unwritten k es) (x ∷ unwritten k es)
    go true e rest = rest
    go false e rest = ap (λ (b : Bool). cond b (unwritten k (unwritten k es)) (x ∷ unwritten k (unwritten k es))) e ∙ ap (λ (ys : List Wrote). x ∷ ys) rest

-- to write a piece for a thief and to give it is to give it
pub deals_written : (v : View) (k n at low : ℕ) → deals_one (writes_one v k n) k at low ≡ deals_one v k at low
deals_written v k n at low = ap (λ (ws : List Wrote). record (deals_one v k at low) { desk = record v.desk { held = without k v.desk.held; wrote = ws } })
    (unwritten_one k n (unwritten k v.desk.wrote) ∙ unwritten_again k v.desk.wrote)

-- the promises but those of the task at a path
abbrev pub kept_promises : Path → List Promise → List Promise
kept_promises p [] = []
kept_promises p (m ∷ ms) = cond (same_path p m.spot.path) (kept_promises p ms) (m ∷ kept_promises p ms)

pub in_kept : (p : Path) (ms : List Promise) (m : Promise) → In m (kept_promises p ms) → In m ms × (m.spot.path ≢ p)
in_kept p [] m h = elim h [ ]
in_kept p (x ∷ ms) m h = go m x (same_path p x.spot.path) refl h (in_kept p ms m)
  where
    go : (m x : Promise) (b : Bool) → same_path p x.spot.path ≡ b → In m (cond b (kept_promises p ms) (x ∷ kept_promises p ms))
        → (In m (kept_promises p ms) → In m ms × (m.spot.path ≢ p)) → In m (x ∷ ms) × (m.spot.path ≢ p)
    go m x true e g rest = let r = rest g in (there r.0, r.1)
    go m x false e here rest = (here, λ d. same_ne p x.spot.path e (sym d))
    go m x false e (there g) rest = let r = rest g in (there r.0, r.1)

-- to drop the promises of a record is to drop those of its task
pub same_drop : (p : Path) (a : ℕ) (ms : List Promise)
    → ((m : Promise) → In m ms → (a ≡ m.spot.berth.at → p ≡ m.spot.path) × (p ≡ m.spot.path → a ≡ m.spot.berth.at))
    → kept_promises p ms ≡ other_promises a ms
same_drop p a [] h = refl
same_drop p a (x ∷ ms) h = go (same_path p x.spot.path) refl (nat_eq a x.spot.berth.at) refl (same_drop p a ms (λ m i. h m (there i)))
  where
    go : (b : Bool) → same_path p x.spot.path ≡ b → (c : Bool) → nat_eq a x.spot.berth.at ≡ c
        → kept_promises p ms ≡ other_promises a ms
        → cond (same_path p x.spot.path) (kept_promises p ms) (x ∷ kept_promises p ms)
        ≡ cond (nat_eq a x.spot.berth.at) (other_promises a ms) (x ∷ other_promises a ms)
    go true e true d rest = rw (e, d) rest
    go true e false d rest = absurd
        (let a_is = (h x here).1 (same_is p x.spot.path e) in let z : true ≡ false = sym (eq-eqb a x.spot.berth.at a_is) ∙ d in cc)
    go false e true d rest = absurd (same_ne p x.spot.path e ((h x here).0 (number_is a x.spot.berth.at d)))
    go false e false d rest = rw (e, d) (λ i. x ∷ rest i)

-- how often a path stands in the rest: all but this one as often as before, and this one not
kept_split : (p q : Path) (ms : List Promise) → times q (map promise_path ms)
    ≡ cond (same_path q p) (times p (map promise_path ms)) 0 + times q (map promise_path (kept_promises p ms))
kept_split p q [] = go (same_path q p)
  where
    go : (b : Bool) → 0 ≡ cond b 0 0 + 0
    go true = refl
    go false = refl
kept_split p q (x ∷ ms) = go (same_path p x.spot.path) refl (same_path q p) refl (kept_split p q ms)
  where
    go : (b : Bool) → same_path p x.spot.path ≡ b → (c : Bool) → same_path q p ≡ c → times q (map promise_path ms)
        ≡ cond (same_path q p) (times p (map promise_path ms)) 0 + times q (map promise_path (kept_promises p ms))
        → one_if (same_path q x.spot.path) + times q (map promise_path ms)
        ≡ cond (same_path q p) (one_if (same_path p x.spot.path) + times p (map promise_path ms)) 0
        + times q (map promise_path (cond (same_path p x.spot.path) (kept_promises p ms) (x ∷ kept_promises p ms)))
    go true e true d h = let q_is = same_is q p d in
        let one : one_if (same_path q x.spot.path) ≡ 1 = ap (λ (z : Path). one_if (same_path z x.spot.path)) q_is ∙ ap one_if e in
        let h2 = rw d at h in rw (e, d) (omega arith)
    go true e false d h = let x_is = same_is p x.spot.path e in
        let none_here : one_if (same_path q x.spot.path) ≡ 0 = ap (λ (z : Path). one_if (same_path q z)) (sym x_is) ∙ ap one_if d in
        let h2 = rw d at h in rw (e, d) (omega arith)
    go false e true d h = let q_is = same_is q p d in
        let none_here : one_if (same_path q x.spot.path) ≡ 0 = ap (λ (z : Path). one_if (same_path z x.spot.path)) q_is ∙ ap one_if e in
        let h2 = rw d at h in rw (e, d) (omega arith)
    go false e false d h = let h2 = rw d at h in rw (e, d) (omega arith)

pub kept_times : (p : Path) (ms : List Promise) → times p (map promise_path ms) ≡ 1 → (q : Path)
    → times q (map promise_path ms) ≡ one_if (same_path q p) + times q (map promise_path (kept_promises p ms))
kept_times p ms one q = let h = kept_split p q ms in go (same_path q p) h
  where
    go : (b : Bool) → times q (map promise_path ms) ≡ cond b (times p (map promise_path ms)) 0
        + times q (map promise_path (kept_promises p ms))
        → times q (map promise_path ms) ≡ one_if b + times q (map promise_path (kept_promises p ms))
    go true h = omega arith
    go false h = omega arith
