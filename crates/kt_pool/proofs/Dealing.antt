-- Seats that are made by the first one.
use Rattle.std.proofs.Common.{◌≡◌, ℕ, zero, suc, ◌+◌, ◌-◌, ◌<◌, List, [], ◌∷◌, ◌++◌, length, take, drop, slice_get, refl, sym, ap, ◌∙◌, subst, arith, Some}
use Rattle.std.proofs.lemmas.List.{length-append, take_at, drop_at}
use Rattle.kt_rule.specs.declared.seats.Seat.{Seat}
use Rattle.kt_rule.specs.declared.tables.RunTable.{RunTable}
use Rattle.kt_rule.specs.declared.views.Setup.{Setup}
use Rattle.kt_rule.specs.declared.views.View.{View}
use Rattle.kt_rule.specs.Close.{first_view, keeps_most, newcomer}
use Rattle.kt_rule.specs.Records.{layout_of}
use Rattle.kt_steps.proofs.Telling.{the_some}
use Rattle.kt_pool.specs.Seats.{view_at_start, IsSeatOf, AreSeatsOf, HaveNotStepped}

-- what worker 0 knows when the seat of worker w is next
abbrev pub dealt : Setup → ℕ → View
dealt j w = record (first_view j) { parts = suc (j.workers - w); made = w }

pub dealt_first : (j : Setup) → 0 < j.workers → first_view j ≡ dealt j 1
dealt_first j some_workers = let e : j.workers ≡ suc (j.workers - 1) = omega arith in ap (λ (n : ℕ). record (first_view j) { parts = n }) e

pub dealt_more : (j : Setup) (w u : ℕ) → w < j.workers → u ≡ suc w → keeps_most (dealt j w) ≡ dealt j u
dealt_more j w u less u_is =
    let e : suc (j.workers - w) - 1 ≡ suc (j.workers - u) = omega arith in let d : w + 1 ≡ u = omega arith in
    λ i. record (first_view j) { parts = e i; made = d i }

pub dealt_all : (j : Setup) → dealt j j.workers ≡ view_at_start j 0
dealt_all j = let e : suc (j.workers - j.workers) ≡ 1 = omega arith in ap (λ (n : ℕ). record (first_view j) { parts = n; made = j.workers }) e

pub dealt_new : (j : Setup) (w k : ℕ) → w ≡ suc k → newcomer (dealt j w) ≡ view_at_start j (suc k)
dealt_new j w k e = ap (λ (n : ℕ). record (newcomer (first_view j)) { worker = n }) e

-- a seat that has not made a step
pub record IsNew (j : Setup) (t : RunTable) (k : ℕ) (s : Seat) : Type 0 where
  pub seat : IsSeatOf j t k s
  pub view : s.token.me.0 ≡ view_at_start j k
  pub fresh : s.word ≡ 0

module _ (j : Setup) (t : RunTable) where
  pub first_seat : (s : Seat) (w : ℕ) → layout_of j ≡ t.layout → s.token.table_id ≡ t.table.shared.table_id → s.token.me.1 ≡ []
      → s.token.me.0 ≡ dealt j w → w ≡ j.workers → s.worker ≡ 0 → s.word ≡ 0 → IsNew j t 0 s
  first_seat s w layout table slots view all number fresh =
      let now = view ∙ (ap (dealt j) all ∙ dealt_all j) in record {
        seat = record {
          table = table;
          layout = layout;
          slots = slots;
          number = number;
          told = ap (λ (v : View). v.setup) now;
          worker = ap (λ (v : View). v.worker) now;
          parts = ap (λ (v : View). v.parts) now;
          made = ap (λ (v : View). v.made) now;
        };
        view = now;
        fresh = fresh;
      }

  pub new_seat : (s : Seat) (v : View) (w k : ℕ) → layout_of j ≡ t.layout → s.token.table_id ≡ t.table.shared.table_id
      → s.token.me ≡ (newcomer v, []) → v ≡ dealt j w → w ≡ suc k → s.worker ≡ w → s.word ≡ 0 → IsNew j t (suc k) s
  new_seat s v w k layout table me view w_is number fresh =
      let now = ap (λ z. z.0) me ∙ (ap newcomer view ∙ dealt_new j w k w_is) in record {
        seat = record {
          table = table;
          layout = layout;
          slots = ap (λ z. z.1) me;
          number = number ∙ w_is;
          told = ap (λ (u : View). u.setup) now;
          worker = ap (λ (u : View). u.worker) now;
          parts = ap (λ (u : View). u.parts) now;
          made = ap (λ (u : View). u.made) now;
        };
        view = now;
        fresh = fresh;
      }

  -- one seat more behind the others
  pub one_more : (xs ys : List Seat) (x : Seat) → ys ≡ xs ++ x ∷ [] → ((k : ℕ) (s : Seat) → slice_get xs k ≡ Some s → IsNew j t (suc k) s)
      → IsNew j t (suc (length xs)) x → (k : ℕ) (s : Seat) → slice_get ys k ≡ Some s → IsNew j t (suc k) s
  one_more xs ys x are old new k s at =
      let e : suc (0 + k) ≡ suc k = omega arith in subst (λ (n : ℕ). IsNew j t n s) e (go xs 0 k (ap (λ (zs : List Seat). slice_get zs k) (sym are) ∙ at)
      (λ n y a. let d : suc n ≡ suc (0 + n) = omega arith in subst (λ (i : ℕ). IsNew j t i y) d (old n y a))
      (let d : suc (length xs) ≡ suc (0 + length xs) = omega arith in subst (λ (i : ℕ). IsNew j t i x) d new))
    where
      go : (zs : List Seat) (from i : ℕ) → slice_get (zs ++ x ∷ []) i ≡ Some s
          → ((n : ℕ) (y : Seat) → slice_get zs n ≡ Some y → IsNew j t (suc (from + n)) y) → IsNew j t (suc (from + length zs)) x
          → IsNew j t (suc (from + i)) s
      go [] from zero e h last = subst (IsNew j t (suc (from + 0))) (the_some e) last
      go [] from (suc i) e h last = absurd (cc e)
      go (z ∷ zs) from zero e h last = h zero s e
      go (z ∷ zs) from (suc i) e h last = let n : from + suc i ≡ suc from + i = omega arith in
          let l : from + suc (length zs) ≡ suc from + length zs = omega arith in
          subst (λ (k : ℕ). IsNew j t (suc k) s) (sym n) (go zs (suc from) i e
          (λ n y a. let d : from + suc n ≡ suc from + n = omega arith in subst (λ (k : ℕ). IsNew j t (suc k) y) d (h (suc n) y a))
          (subst (λ (k : ℕ). IsNew j t (suc k) x) l last))

  -- the first in front of the others
  pub each_new : (xs : List Seat) (x : Seat) → IsNew j t 0 x → ((k : ℕ) (s : Seat) → slice_get xs k ≡ Some s → IsNew j t (suc k) s)
      → (k : ℕ) (s : Seat) → slice_get (x ∷ xs) k ≡ Some s → IsNew j t k s
  each_new xs x first later zero s e = subst (IsNew j t 0) (the_some e) first
  each_new xs x first later (suc k) s e = later k s e

-- the last turned to the front
pub turned : (xs old rotated behind : List Seat) (x : Seat) (n : ℕ) → old ≡ xs ++ x ∷ [] → n ≡ length old
    → rotated ≡ drop (length old - 1) old ++ take (length old - 1) old → take n (rotated ++ behind) ≡ x ∷ xs
turned xs old rotated behind x n old_is n_is rotated_is =
    let long = length-append xs (x ∷ []) in let l = ap (λ (zs : List Seat). length zs) old_is in
    let less : length old - 1 ≡ length xs = omega arith in
    let now : rotated ≡ x ∷ xs = rotated_is ∙ ((λ i. drop (less i) (old_is i) ++ take (less i) (old_is i))
    ∙ (λ i. drop_at xs (x ∷ []) (length xs) refl i ++ take_at xs (x ∷ []) (length xs) refl i)) in
    let m = ap (λ (zs : List Seat). length zs) now in
    take_at rotated behind n (omega arith) ∙ now

-- the view names one setup
pub same_setup : (v : View) (i j : Setup) → v ≡ first_view i → v ≡ first_view j → i ≡ j
same_setup v i j a b = the_some (ap (λ (z : View). z.setup) (sym a ∙ b))

pub less_of : (v : View) (i j : Setup) (workers w : ℕ) → v ≡ first_view i → v ≡ first_view j → i.workers ≡ workers → w < workers → w < j.workers
less_of v i j workers w a b is less = let e = ap (λ (z : Setup). z.workers) (same_setup v i j a b) in omega arith

-- all seats are new
pub record AreNew (j : Setup) (t : RunTable) (seats : List Seat) : Type 0 where
  pub count : length seats ≡ j.workers
  pub some : 0 < j.workers
  pub each : (k : ℕ) (s : Seat) → slice_get seats k ≡ Some s → IsNew j t k s

pub are_seats : (j : Setup) (t : RunTable) (seats : List Seat) → AreNew j t seats → AreSeatsOf j t seats
are_seats j t seats h = record { count = h.count; some = h.some; each = λ k s at. (h.each k s at).seat }

pub have_not_stepped : (j : Setup) (t : RunTable) (seats : List Seat) → AreNew j t seats → HaveNotStepped j seats
have_not_stepped j t seats h = λ k s at. ((h.each k s at).view, (h.each k s at).fresh)

-- the seats of the others, and the first turned in front of them
pub all_new : (i j : Setup) (t : RunTable) (first v : View) (workers w n : ℕ) (xs old rotated behind : List Seat) (x : Seat)
    → first ≡ first_view i → i.workers ≡ workers → layout_of i ≡ t.layout → 0 < workers → first ≡ first_view j
    → ((j : Setup) → first ≡ first_view j → v ≡ dealt j w)
    → ((j : Setup) → first ≡ first_view j → layout_of j ≡ t.layout → (k : ℕ) (s : Seat) → slice_get xs k ≡ Some s → IsNew j t (suc k) s)
    → x.token.table_id ≡ t.table.shared.table_id → x.token.me.1 ≡ [] → x.token.me.0 ≡ v → x.worker ≡ 0 → x.word ≡ 0
    → length xs + 1 ≡ w → w ≡ workers → old ≡ xs ++ x ∷ [] → n ≡ length old
    → rotated ≡ drop (length old - 1) old ++ take (length old - 1) old → AreNew j t (take n (rotated ++ behind))
all_new i j t first v workers w n xs old rotated behind x first_is workers_are layout some_workers also_is view each table slots now number fresh count done
    old_is n_is rotated_is =
    let same = same_setup first i j first_is also_is in
    let layout_now = ap layout_of (sym same) ∙ layout in
    let all = ap (λ (z : Setup). z.workers) (sym same) ∙ workers_are in
    subst (AreNew j t) (sym (turned xs old rotated behind x n old_is n_is rotated_is)) (record {
      count = omega arith;
      some = omega arith;
      each = each_new j t xs x (first_seat j t x w layout_now table slots (now ∙ view j also_is) (done ∙ sym all) number fresh) (each j also_is layout_now);
    })
