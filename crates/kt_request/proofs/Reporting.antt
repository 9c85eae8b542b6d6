-- The report of a call of `serve`, from its parts.
use Rattle.std.proofs.Common.{◌≡◌, ℕ, zero, suc, ◌+◌, ◌-◌, ◌*◌, ◌<◌, ◌≤◌, ◌==◌, Bool, true, false, cond, List, [], ◌∷◌, ◌++◌, length, take, drop, slice_index, Option, Some, None, sym, refl, ap, ◌∙◌, subst, inl, inr, arith}
use Rattle.kt_words.specs.Words.{packed_post}
use Rattle.kt_words.specs.declared.posts.Post.TheVariants as P
use Rattle.kt_words.specs.declared.layouts.TheConstants.{RECORDS}
use Rattle.arrayvec.specs.ArrayVec.{ArrayVec}
use Rattle.kt_words.specs.declared.pairs.Pair.{Pair}
use Rattle.kt_ready.specs.declared.verdicts.Seen.{Seen}
use Rattle.kt_ready.specs.Contents.{Contents}
use Rattle.kt_rule.specs.declared.views.View.{View}
use Rattle.kt_rule.specs.declared.views.Note.{Note}
use Rattle.kt_rule.specs.declared.views.Found.{Found}
use Rattle.kt_rule.specs.declared.views.Promise.{Promise}
use Rattle.kt_rule.specs.declared.views.Spot.{Spot}
use Rattle.kt_rule.specs.declared.views.Share.{Share}
use Rattle.kt_rule.specs.Lists.{In, here, there}
use Rattle.kt_rule.proofs.Sums.{in_append, in_cons}
use Rattle.kt_pieces.specs.Changes.{shares_of}
use Rattle.kt_pieces.proofs.Splits.{cut_gives}
use Rattle.kt_loops.specs.declared.splits.Divided.{Divided}
use Rattle.kt_loops.specs.declared.splits.Divided.TheVariants as D
use Rattle.kt_posts.specs.Desks.{releases_now}
use Rattle.kt_request.specs.declared.served.Served.{Served}
use Rattle.kt_request.specs.Notes.{InRow, Noted, is_ready, ready_records}
use Rattle.kt_request.specs.Reports.{InOrder, posted_at, given_to, split_record, split_pieces, deal, HasCut, Reports, ServedOnly}
use Rattle.kt_request.specs.Serving.{Rising, HasSplitFor, SplitsOnly, AreShares, AreApart, LeadsOn, Ended, Answering}
use Rattle.kt_request.proofs.Turning.{ready_snoc}
use Rattle.kt_request.proofs.Dealing.{index_in, nothing_more}
use Rattle.kt_request.proofs.Pieces.{drop_none, drop_past, shares_are, no_shares, others_left}

in_snoc : (xs : List ℕ) (y z : ℕ) → In y (xs ++ z ∷ []) → Rattle.std.proofs.Common.◌⊎◌ (In y xs) (y ≡ z)
in_snoc xs y z i = elim (in_append xs (z ∷ []) y i) [
  | inl h ↦ inl h
  | inr h ↦ (elim (in_cons y z [] h) [ inl e ↦ inr e | inr k ↦ elim k [ ] ])
]

-- the held ones are workers, in rising order
posted_range : (victim k : ℕ) (fs : List Found) → InOrder k fs
    → ((y : ℕ) → In y (posted_at victim fs) → (k ≤ y) × (y < k + length fs)) × Rising (posted_at victim fs)
posted_range victim k [] h = ((λ y i. elim i [ ]), tt)
posted_range victim k (f ∷ fs) h = go (f.word == packed_post (P.Posted victim)) (posted_range victim (suc k) fs h.2)
  where
    first_or : (y w : ℕ) → w ≡ k → In y (w ∷ posted_at victim fs)
        → ((y : ℕ) → In y (posted_at victim fs) → (suc k ≤ y) × (y < suc k + length fs)) → (k ≤ y) × (y < k + suc (length fs))
    first_or y w w_is here rest = (omega arith, omega arith)
    first_or y w w_is (there i) rest = let r = rest y i in let r0 = r.0 in let r1 = r.1 in (omega arith, omega arith)

    go : (b : Bool)
        → ((y : ℕ) → In y (posted_at victim fs) → (suc k ≤ y) × (y < suc k + length fs)) × Rising (posted_at victim fs)
        → ((y : ℕ) → In y (cond b (f.worker ∷ posted_at victim fs) (posted_at victim fs)) → (k ≤ y) × (y < k + suc (length fs)))
        × Rising (cond b (f.worker ∷ posted_at victim fs) (posted_at victim fs))
    go true r = (
      (λ y i. first_or y f.worker h.0 i r.0),
      ((λ y i. let a = (r.0 y i).0 in let w : f.worker ≡ k = h.0 in omega arith), r.1),
    )
    go false r = ((λ y i. let a = r.0 y i in let a0 = a.0 in let a1 = a.1 in (omega arith, omega arith)), r.1)

rising_snoc : (xs : List ℕ) (z : ℕ) → Rising xs → ((y : ℕ) → In y xs → y < z) → Rising (xs ++ z ∷ [])
rising_snoc [] z h below = ((λ y i. elim i [ ]), tt)
rising_snoc (x ∷ xs) z h below = (
  (λ y i. elim (in_snoc xs y z i) [ inl k ↦ h.0 y k | inr e ↦ (let b = below x here in omega arith) ]),
  rising_snoc xs z h.1 (λ y i. below y (there i)),
)

rising_ready : (first : ℕ) (ns : List Note) (seen : List Seen) → Noted ns seen → InRow first ns
    → ((y : ℕ) → In y (ready_records seen) → y < first + length ns) × Rising (ready_records seen)
rising_ready first [] seen h row = subst (λ (z : List Seen). ((y : ℕ) → In y (ready_records z) → y < first + 0) × Rising (ready_records z))
    (sym h) ((λ y i. elim i [ ]), tt)
rising_ready first (n ∷ ns) seen h row = subst (λ (z : List ℕ). ((y : ℕ) → In y z → y < first + suc (length ns)) × Rising z)
    (sym (ap ready_records h.2 ∙ ready_snoc h.0 h.1)) (go (is_ready h.1.verdict) (rising_ready first ns h.0 h.3 row.1))
  where
    at_is : h.1.at ≡ first + length ns
    at_is = h.4 ∙ row.0

    go : (b : Bool) → ((y : ℕ) → In y (ready_records h.0) → y < first + length ns) × Rising (ready_records h.0)
        → ((y : ℕ) → In y (ready_records h.0 ++ cond b (h.1.at ∷ []) []) → y < first + suc (length ns))
        × Rising (ready_records h.0 ++ cond b (h.1.at ∷ []) [])
    go true r = (
      (λ y i. let a = at_is in elim (in_snoc (ready_records h.0) y h.1.at i) [
        | inl k ↦ (let b = r.0 y k in omega arith)
        | inr e ↦ omega arith
      ]),
      rising_snoc (ready_records h.0) h.1.at r.1 (λ y i. let a = at_is in let b = r.0 y i in omega arith),
    )
    go false r = subst (λ (z : List ℕ). ((y : ℕ) → In y z → y < first + suc (length ns)) × Rising z)
        (sym (nothing_more (ready_records h.0))) ((λ y i. let b = r.0 y i in omega arith), r.1)

in_take : (k : ℕ) (xs : List ℕ) (y : ℕ) → In y (take k xs) → In y xs
in_take zero [] y i = i
in_take zero (x ∷ xs) y i = elim i [ ]
in_take (suc k) [] y i = i
in_take (suc k) (x ∷ xs) y here = here
in_take (suc k) (x ∷ xs) y (there i) = there (in_take k xs y i)

rising_take : (k : ℕ) (xs : List ℕ) → Rising xs → Rising (take k xs)
rising_take zero [] h = h
rising_take zero (x ∷ xs) h = tt
rising_take (suc k) [] h = h
rising_take (suc k) (x ∷ xs) h = ((λ y i. h.0 y (in_take k xs y i)), rising_take k xs h.1)

take_length : (k : ℕ) (xs : List ℕ) → length (take k xs) ≤ k
take_length zero [] = omega arith
take_length zero (x ∷ xs) = omega arith
take_length (suc k) [] = omega arith
take_length (suc k) (x ∷ xs) = let h = take_length k xs in omega arith

module _ (first : ℕ) (held : List ℕ) (v0 : View) (ns : List Note) (v : View) (scan : Contents) (given : List ℕ)
    (e : Ended first held v0 ns v scan given) where
  pub given_rising : Rising given
  given_rising = subst Rising (sym e.given_is)
      (rising_take (length held) (ready_records scan.notes) (rising_ready first ns scan.notes e.scan_is.noted e.row).1)

  pub given_few : length given ≤ length held
  given_few = let a : length given ≡ length (take (length held) (ready_records scan.notes)) = ap (λ (z : List ℕ). length z) e.given_is in
      let b = take_length (length held) (ready_records scan.notes) in omega arith

  -- behind a split, before the first answer
  answering_from : (at : ℕ) (pieces : List Pair) (w : View) → v0.desk.held ≡ held → SplitsOnly v w → (xs : List Share)
      → AreShares at xs (drop (0 - length given) pieces) → w.loops.pieces ≡ xs ++ v.loops.pieces → AreApart pieces v.loops.pieces
      → length given + length pieces ≤ length held → Answering held given at pieces v.loops.pieces w 0 w
  answering_from at pieces w held_is only xs are hand apart few = record {
    desk = ap (λ (z : View). z.desk.held) only ∙ (ap (λ (z : View). z.desk.held) e.only.same ∙ (held_is ∙ sym (drop_none held)));
    each = λ j from less. let x = e.promised.each j less in
        (x.0, subst (In x.0) (sym (ap (λ (z : View). z.tasks.promised) only)) x.1, x.2, x.3);
    no_more = λ m i. let x = e.promised.no_more m (subst (In m) (ap (λ (z : View). z.tasks.promised) only) i) in (x.0, omega arith, x.1, x.2);
    hand = (xs, are, hand);
    apart = apart;
    few = few;
    same = refl;
  }

  -- no piece is apart from all others
  none_apart : AreApart [] v.loops.pieces
  none_apart = record { from = 0; to = 0; fill = refl; apart = λ x i. inr (omega arith) }

  answering_none : (w : View) → v0.desk.held ≡ held → SplitsOnly v w → w.loops.pieces ≡ v.loops.pieces
      → Answering held given 0 [] v.loops.pieces w 0 w
  answering_none w held_is only same = answering_from 0 [] w held_is only [] (no_shares 0 (0 - length given)) same none_apart
      (let a = given_few in omega (arith, a))

  abbrev Split : ℕ → View → Option Divided → Type 0
  Split victim w cut = HasSplitFor victim v (length held - length given) w cut

  -- a split changes no more than it says
  pub split_only : (victim : ℕ) (cut : Option Divided) (w : View) → Split victim w cut → SplitsOnly v w
  split_only victim None w s = subst (SplitsOnly v) (sym s.1) refl
  split_only victim (Some (D.Short n)) w s = subst (SplitsOnly v) (sym s.1.4) refl
  split_only victim (Some (D.Moved n)) w s = subst (SplitsOnly v) (sym s.1.4) refl
  split_only victim (Some (D.Got at pieces)) w s = subst (SplitsOnly v) (sym s.1.2.6) refl

  -- the pieces that a split gave are in hand before all others

  answering_got : (victim at : ℕ) (pieces : ArrayVec Pair) (w : View) → v0.desk.held ≡ held → Split victim w (Some (D.Got at pieces))
      → SplitsOnly v w → Answering held given at pieces.items v.loops.pieces w 0 w
  answering_got victim at pieces w held_is s only =
      let m : Spot = s.1.0 in let found : Pair = s.1.2.0 in let kept : Pair = s.1.2.1 in let two = s.1.2.3 in let cut = s.1.2.4 in
      let h = cut_gives found.low found.high (length held - length given) kept pieces.items two s.0 cut in
      let below = h.0 in let many = cut.many in let room = given_few in
      answering_from at pieces.items w held_is only (shares_of m pieces.items)
      (subst (AreShares at (shares_of m pieces.items)) (sym (drop_none pieces.items) ∙ ap (λ (n : ℕ). drop n pieces.items)
      (let z : 0 ≡ 0 - length given = omega arith in z)) (shares_are m at pieces.items s.1.1.lies))
      (ap (λ (z : View). z.loops.pieces) s.1.2.6)
      (record {
        from = kept.high;
        to = found.high;
        fill = cut.fill;
        apart = λ x i. elim (s.1.2.5 x i) [ inl before ↦ inl (omega (arith, before, below)) | inr after ↦ inr after ];
      })
      (omega (arith, many, room))

  pub answering_first : (victim : ℕ) (cut : Option Divided) (w : View) → v0.desk.held ≡ held → Split victim w cut
      → Answering held given (split_record cut) (split_pieces cut) v.loops.pieces w 0 w
  answering_first victim None w held_is s = answering_none w held_is (split_only victim None w s) (ap (λ (z : View). z.loops.pieces) s.1)
  answering_first victim (Some (D.Short n)) w held_is s = answering_none w held_is (split_only victim (Some (D.Short n)) w s)
      (ap (λ (z : View). z.loops.pieces) s.1.4)
  answering_first victim (Some (D.Moved n)) w held_is s = answering_none w held_is (split_only victim (Some (D.Moved n)) w s)
      (ap (λ (z : View). z.loops.pieces) s.1.4)
  answering_first victim (Some (D.Got at pieces)) w held_is s = answering_got victim at pieces w held_is s
      (split_only victim (Some (D.Got at pieces)) w s)

module _ (held given : List ℕ) (at : ℕ) (pieces : List Pair) (others : List Share) (v0 v : View)
    (a : Answering held given at pieces others v0 (length held) v) where
  pub held_none : v.desk.held ≡ []
  held_none = a.desk ∙ drop_past held (length held) (omega arith)

  pub none_promised : length given ≤ length held → v.tasks.promised ≡ []
  none_promised few = go v.tasks.promised (λ m i. let x = a.no_more m i in let x1 = x.1 in let x2 = x.2 in absurd (omega (arith, x1, x2, few)))
    where
      go : (ms : List Promise) → ((m : Promise) → In m ms → ⊥) → ms ≡ []
      go [] h = refl
      go (m ∷ ms) h = absurd (h m here)

  pub pieces_left : v.loops.pieces ≡ others
  pieces_left = let few = a.few in a.hand.2 ∙ others_left at a.hand.0 others (drop (length held - length given) pieces) a.hand.1
      (drop_past pieces (length held - length given) (omega (arith, few)))

pub held_small : (workers victim : ℕ) (fs : List Found) (xs : List ℕ) → InOrder 0 fs → length fs ≡ workers → xs ≡ posted_at victim fs
    → (i : ℕ) → i < length xs → slice_index xs i < workers
held_small workers victim fs xs order all is i less = let r = ((posted_range victim 0 fs order).0 (slice_index xs i)
    (subst (In (slice_index xs i)) is (index_in xs i less))).1 in omega arith

pub held_rising : (victim : ℕ) (fs : List Found) (xs : List ℕ) → InOrder 0 fs → xs ≡ posted_at victim fs → Rising xs
held_rising victim fs xs order is = subst Rising (sym is) (posted_range victim 0 fs order).1

-- the views behind the holds, the scan, the split, the answers and the release
module _ (workers victim : ℕ) (v v1 v2 vs v3 v4 : View) (scan : Contents) (held given : List ℕ) (fs : List Found) (ns : List Note)
    (v1_is : v1 ≡ record v { desk = record v.desk { held = held; found = v.desk.found ++ fs } })
    (e : Ended (RECORDS * victim) held v1 ns v2 scan given) (cut : Option Divided)
    (split_is : HasSplitFor victim v2 (length held - length given) vs cut) (same3 : LeadsOn vs v3) (v4_is : v4 ≡ releases_now v3) where
  split_same : SplitsOnly v2 vs
  split_same = split_only (RECORDS * victim) held v1 ns v2 scan given e victim cut vs split_is

  pub cuts : HasCut victim v fs (length held - length given) v4 cut
  cuts = go cut split_is
    where
      last_found : v4.desk.found ≡ vs.desk.found
      last_found = ap (λ (z : View). z.desk.found) v4_is ∙ ap (λ (z : View). z.desk.found) same3

      scan_found : v2.desk.found ≡ v.desk.found ++ fs
      scan_found = ap (λ (z : View). z.desk.found) e.only.same ∙ ap (λ (z : View). z.desk.found) v1_is

      scan_setup : v2.setup ≡ v.setup
      scan_setup = ap (λ (z : View). z.setup) e.only.same ∙ ap (λ (z : View). z.setup) v1_is

      scan_loops : v2.loops ≡ v.loops
      scan_loops = ap (λ (z : View). z.loops) e.only.same ∙ ap (λ (z : View). z.loops) v1_is

      go : (c : Option Divided) → HasSplitFor victim v2 (length held - length given) vs c → HasCut victim v fs (length held - length given) v4 c
      go None h = (h.0, last_found ∙ (ap (λ (z : View). z.desk.found) h.1 ∙ scan_found))
      go (Some answer) h = (h.0, (v2, vs, scan_setup, scan_loops, scan_found, h.1, last_found))

  pub reports : (s : Served) → InOrder 0 fs → length fs ≡ workers → s.held.items ≡ held → held ≡ posted_at victim fs → s.cut ≡ cut
      → s.answers.items ≡ deal held given (split_record cut) (split_pieces cut) → Reports workers victim v v4 scan s
  reports s order all s_held held_is s_cut answers =
      let notes_same : v4.seen.notes ≡ v2.seen.notes = ap (λ (z : View). z.seen.notes) v4_is ∙ (ap (λ (z : View). z.seen.notes) same3
      ∙ ap (λ (z : View). z.seen.notes) split_same) in
      let given_same : given ≡ given_to s.held.items scan.notes = e.given_is ∙ ap (λ (z : List ℕ). given_to z scan.notes) (sym s_held) in record {
        found = fs;
        in_order = order;
        all = all;
        held = s_held ∙ held_is;
        notes = ns;
        row = e.row;
        noted = e.scan_is.noted;
        ends = elim e.ends [ inl h ↦ inl (h.0, notes_same ∙ h.1) | inr h ↦ inr (notes_same ∙ h) ];
        cut = subst (λ (z : List ℕ × (List ℕ × Option Divided)). HasCut victim v fs (length z.0 - length z.1.0) v4 z.1.1)
            (λ i. (sym s_held i, (given_same i, sym s_cut i))) cuts;
        answers = answers ∙ (λ i. deal (sym s_held i) (given_same i) (split_record (sym s_cut i)) (split_pieces (sym s_cut i)));
        released = ap (λ (z : View). z.desk.leads) v4_is;
      }

  pub served_only : v3.tasks.promised ≡ [] → v3.loops.pieces ≡ v2.loops.pieces → ServedOnly v v4
  served_only none_left pieces_same = record {
    same = all_is ∙ (λ i. record v {
      seen = record v.seen { notes = sym (ap (λ (z : View). z.seen.notes) all_is) i; known = sym (ap (λ (z : View). z.seen.known) all_is) i };
      tasks = record v.tasks { claimed = sym (ap (λ (z : View). z.tasks.claimed) all_is) i; promised = none_left i };
      desk = record v.desk { leads = false; held = []; found = sym (ap (λ (z : View). z.desk.found) all_is) i; wrote = [] };
      loops = record v.loops {
        pieces = (pieces_same ∙ own_pieces) i;
        sight = sym (ap (λ (z : View). z.loops.sight) all_is) i;
      };
    });
    extends = record {
      known = (
        e.only.extends.known.0,
        ap (λ (z : View). z.seen.known) all_is
            ∙ (e.only.extends.known.1
            ∙ ap (λ (z : View). e.only.extends.known.0 ++ z.seen.known) v1_is),
      );
      claimed = (
        e.only.extends.claimed.0,
        ap (λ (z : View). z.tasks.claimed) all_is
            ∙ (e.only.extends.claimed.1
            ∙ ap (λ (z : View). z.tasks.claimed ++ e.only.extends.claimed.0) v1_is),
      );
    };
  }
    where
      own_pieces : v2.loops.pieces ≡ v.loops.pieces
      own_pieces = ap (λ (z : View). z.loops.pieces) e.only.same ∙ ap (λ (z : View). z.loops.pieces) v1_is

      all_is : v4 ≡ record v {
        seen = record v.seen { notes = v2.seen.notes; known = v2.seen.known };
        tasks = record v.tasks { claimed = v2.tasks.claimed; promised = v3.tasks.promised };
        desk = record v.desk { leads = false; held = []; found = vs.desk.found; wrote = [] };
        loops = record v.loops { pieces = v3.loops.pieces; sight = vs.loops.sight };
      }
      all_is = v4_is ∙ ap releases_now (same3 ∙ ap (λ (z : View). record z {
        tasks = record z.tasks { promised = v3.tasks.promised };
        desk = record z.desk { held = v3.desk.held; wrote = v3.desk.wrote };
        loops = record z.loops { pieces = v3.loops.pieces };
      }) (split_same ∙ ap (λ (z : View). record z {
        desk = record z.desk { found = vs.desk.found };
        loops = record z.loops { pieces = vs.loops.pieces; sight = vs.loops.sight };
      }) (e.only.same ∙ ap (λ (z : View). record z {
        seen = record z.seen { notes = v2.seen.notes; known = v2.seen.known };
        tasks = record z.tasks { claimed = v2.tasks.claimed; promised = v2.tasks.promised };
      }) v1_is)))
