-- What a turn of the scan keeps.
use Rattle.std.proofs.Common.{◌≡◌, ℕ, zero, suc, ◌+◌, ◌%◌, ◌<◌, ◌≤◌, ◌⊎◌, ◌==◌, ◌&&◌, not, Bool, true, false, cond, List, [], ◌∷◌, ◌++◌, length, take, slice_index, sym, refl, ap, ◌∙◌, subst, inl, inr, arith, eq-eqb, ne_eqb, Some, None}
use mathlib.Core.Logic.{dite}
use native.Mathlib.Decide.{ℕ_discrete}
use Rattle.kt_words.specs.Words.{packed_state, IsStateWord}
use Rattle.kt_words.specs.declared.states.StateWord.{StateWord}
use Rattle.kt_words.specs.declared.layouts.TheConstants.{RECORDS}
use Rattle.kt_words.specs.declared.layouts.Layout.{Layout}
use Rattle.kt_runs.specs.ByPath.{Path}
use Rattle.kt_ready.specs.declared.verdicts.Seen.{Seen}
use Rattle.kt_ready.specs.Contents.{Contents, HasFrame}
use Rattle.kt_rule.specs.declared.views.View.{View}
use Rattle.kt_rule.specs.declared.views.Note.{Note}
use Rattle.kt_rule.specs.declared.views.Promise.{Promise}
use Rattle.kt_rule.specs.Lists.{In, here, there}
use Rattle.kt_rule.specs.Steps.{note_of, going, stands, with_note, won_for, learnt}
use Rattle.kt_rule.specs.Records.{stand_in}
use Rattle.kt_steps.specs.Told.{IsLiveOf}
use Rattle.kt_tasks.specs.Accesses.{IsLookedAt}
use Rattle.kt_request.specs.Notes.{stand_said, taken_by, last_word, IsStanding, HasVerdict, Noted, HasScan, is_ready, InRow, ready_records}
use Rattle.kt_request.specs.Reports.{Extends}
use Rattle.kt_request.specs.Serving.{Saw, Claims, Claimed, Promised, ScansOnly, Scanned, Dealt, Turned, Ended}
use Rattle.kt_request.proofs.Claiming.{ready_verdict}

-- WHAT ELSE CHANGES

nothing_more : {A : Type 0} (xs : List A) → xs ++ [] ≡ xs
nothing_more [] = refl
nothing_more (x ∷ xs) = λ i. x ∷ nothing_more xs i

grouped : {A : Type 0} (xs ys zs : List A) → (xs ++ ys) ++ zs ≡ xs ++ (ys ++ zs)
grouped [] ys zs = refl
grouped (x ∷ xs) ys zs = λ i. x ∷ grouped xs ys zs i

pub extends_none : (v : View) → Extends v v
extends_none v = record { known = ([], refl); claimed = ([], sym (nothing_more v.tasks.claimed)) }

pub extends_all : (u v w : View) → Extends u v → Extends v w → Extends u w
extends_all u v w a b = record {
  known = (b.known.0 ++ a.known.0, b.known.1 ∙ (ap (λ (z : List Path). b.known.0 ++ z) a.known.1 ∙ sym (grouped b.known.0 a.known.0 u.seen.known)));
  claimed = (
    a.claimed.0 ++ b.claimed.0,
    b.claimed.1 ∙ (ap (λ (z : List Path). z ++ b.claimed.0) a.claimed.1
        ∙ grouped u.tasks.claimed a.claimed.0 b.claimed.0),
  );
}

pub only_none : (v : View) → ScansOnly v v
only_none v = record { same = refl; extends = extends_none v }

pub only_all : (u v w : View) → ScansOnly u v → ScansOnly v w → ScansOnly u w
only_all u v w a b = record {
  same = b.same ∙ ap (λ (z : View). record z {
    seen = record z.seen { notes = w.seen.notes; known = w.seen.known };
    tasks = record z.tasks { claimed = w.tasks.claimed; promised = w.tasks.promised };
  }) a.same;
  extends = extends_all u v w a.extends b.extends;
}

only_noted : (v : View) (n : Note) (ns : List Note) → ScansOnly v (with_note v n ns)
only_noted v n ns = record { same = refl; extends = record { known = ([], refl); claimed = ([], sym (nothing_more v.tasks.claimed)) } }

pub only_note : (v w : View) (n : Note) (ns : List Note) → w ≡ with_note v n ns → ScansOnly v w
only_note v w n ns is = subst (ScansOnly v) (sym is) (only_noted v n ns)

only_stood : (v : View) (at word : ℕ) → ScansOnly v (stands v at word)
only_stood v at word = record {
  same = refl;
  extends = record { known = (cond (stand_in word == 4) (learnt v at) [], refl); claimed = ([], sym (nothing_more v.tasks.claimed)) };
}

pub only_stands : (v w : View) (at word : ℕ) → w ≡ stands v at word → ScansOnly v w
only_stands v w at word is = subst (ScansOnly v) (sym is) (only_stood v at word)

only_won : (v : View) (m : Promise) → ScansOnly v (won_for v m)
only_won v m = record { same = refl; extends = record { known = ([], refl); claimed = (m.spot.path ∷ [], refl) } }

-- the seat still stands for somebody
pub live_scanned : (l : Layout) (k k' : ℕ) (v w : View) → k' ≡ k → ScansOnly v w → IsLiveOf l k v → IsLiveOf l k' w
live_scanned l k k' v w k_is only live = record {
  setup = live.setup;
  told = ap (λ (z : View). z.setup) only.same ∙ live.told;
  layout = live.layout;
  live = subst (λ (z : View). 0 < z.parts) (sym only.same) live.live;
  own = k_is ∙ (live.own ∙ ap (λ (z : View). z.worker) (sym only.same));
}

-- THE READY RECORDS

pub ready_snoc : (ss : List Seen) (s : Seen) → ready_records (ss ++ s ∷ []) ≡ ready_records ss ++ cond (is_ready s.verdict) (s.at ∷ []) []
ready_snoc [] s = refl
ready_snoc (x ∷ ss) s = go (is_ready x.verdict) (ready_snoc ss s)
  where
    go : (b : Bool) → ready_records (ss ++ s ∷ []) ≡ ready_records ss ++ cond (is_ready s.verdict) (s.at ∷ []) []
        → cond b (x.at ∷ ready_records (ss ++ s ∷ [])) (ready_records (ss ++ s ∷ []))
        ≡ cond b (x.at ∷ ready_records ss) (ready_records ss) ++ cond (is_ready s.verdict) (s.at ∷ []) []
    go true h = λ i. x.at ∷ h i
    go false h = h

ready_more : (ss : List Seen) (s : Seen) → is_ready s.verdict ≡ true → ready_records (ss ++ s ∷ []) ≡ ready_records ss ++ s.at ∷ []
ready_more ss s e = ready_snoc ss s ∙ ap (λ (b : Bool). ready_records ss ++ cond b (s.at ∷ []) []) e

pub ready_same : (ss : List Seen) (s : Seen) → is_ready s.verdict ≡ false → ready_records (ss ++ s ∷ []) ≡ ready_records ss
ready_same ss s e = ready_snoc ss s ∙ (ap (λ (b : Bool). ready_records ss ++ cond b (s.at ∷ []) []) e ∙ nothing_more (ready_records ss))

take_zero : (xs : List ℕ) → take 0 xs ≡ []
take_zero [] = refl
take_zero (x ∷ xs) = refl

abbrev empty : List ℕ
empty = []

take_nil : (k : ℕ) → take k empty ≡ empty
take_nil zero = refl
take_nil (suc k) = refl

take_full : (k : ℕ) (xs ys : List ℕ) → k ≤ length (take k xs) → take k (xs ++ ys) ≡ take k xs
take_full zero xs ys h = take_zero (xs ++ ys) ∙ sym (take_zero xs)
take_full (suc k) [] ys h = absurd (omega arith)
take_full (suc k) (x ∷ xs) ys h = λ i. x ∷ take_full k xs ys (omega arith) i

take_more : (k : ℕ) (xs : List ℕ) (y : ℕ) → length (take k xs) < k → take k (xs ++ y ∷ []) ≡ take k xs ++ y ∷ []
take_more zero xs y h = absurd (omega arith)
take_more (suc k) [] y h = λ i. y ∷ take_nil k i
take_more (suc k) (x ∷ xs) y h = λ i. x ∷ take_more k xs y (omega arith) i

-- the given ones where all thieves have one, and where one more was won
deal_full : (k : ℕ) (given : List ℕ) (ss : List Seen) (s : Seen) → given ≡ take k (ready_records ss) → k ≤ length given
    → is_ready s.verdict ≡ true → given ≡ take k (ready_records (ss ++ s ∷ []))
deal_full k given ss s is h e = let l : length given ≡ length (take k (ready_records ss)) = ap (λ (z : List ℕ). length z) is in
    is ∙ (sym (take_full k (ready_records ss) (s.at ∷ []) (omega arith)) ∙ ap (take k) (sym (ready_more ss s e)))

deal_more : (k : ℕ) (given : List ℕ) (ss : List Seen) (s : Seen) (at : ℕ) → s.at ≡ at → given ≡ take k (ready_records ss)
    → length given < k → is_ready s.verdict ≡ true → given ++ at ∷ [] ≡ take k (ready_records (ss ++ s ∷ []))
deal_more k given ss s at at_is is h e = let l : length given ≡ length (take k (ready_records ss)) = ap (λ (z : List ℕ). length z) is in
    (λ i. is i ++ sym at_is i ∷ []) ∙ (sym (take_more k (ready_records ss) s.at (omega arith)) ∙ ap (take k) (sym (ready_more ss s e)))

index_left : (xs ys : List ℕ) (i : ℕ) → i < length xs → slice_index (xs ++ ys) i ≡ slice_index xs i
index_left [] ys i h = absurd (omega arith)
index_left (x ∷ xs) ys zero h = refl
index_left (x ∷ xs) ys (suc i) h = index_left xs ys i (omega arith)

index_last : (xs : List ℕ) (y : ℕ) → slice_index (xs ++ y ∷ []) (length xs) ≡ y
index_last [] y = refl
index_last (x ∷ xs) y = index_last xs y

length_snoc : {A : Type 0} (xs : List A) (y : A) → length (xs ++ y ∷ []) ≡ suc (length xs)
length_snoc [] y = refl
length_snoc (x ∷ xs) y = ap suc (length_snoc xs y)

promised_more : (held given : List ℕ) (ps : List Promise) (m : Promise) (at : ℕ) → Promised held given ps
    → m.thief ≡ slice_index held (length given) → m.spot.berth.at ≡ at → Promised held (given ++ at ∷ []) (m ∷ ps)
promised_more held given ps m at h thief at_is = record {
  each = λ i less. let l = length_snoc given at in dite (ℕ_discrete i (length given))
      (λ e. (
        m,
        here,
        thief ∙ ap (slice_index held) (sym e),
        at_is
            ∙ (sym (index_last given at) ∙ ap (slice_index (given ++ at ∷ [])) (sym e)),
      ))
      (λ other. let less2 : i < length given = below i (length given) (length (given ++ at ∷ [])) l less other in let x = h.each i less2 in
      (x.0, there x.1, x.2, x.3 ∙ sym (index_left given (at ∷ []) i less2)));
  no_more = λ x i. old x i;
}
  where
    below : (i n k : ℕ) → k ≡ suc n → i < k → (i ≡ n → ⊥) → i < n
    below i n k e l o = grind arith

    old : (x : Promise) → In x (m ∷ ps)
        → (i : ℕ) × (i < length (given ++ at ∷ [])) × (x.spot.berth.at ≡ slice_index (given ++ at ∷ []) i)
    old x here = let l = length_snoc given at in (length given, omega arith, at_is ∙ sym (index_last given at))
    old x (there i) = let l = length_snoc given at in let y = h.no_more x i in let y1 = y.1 in
        (y.0, omega arith, y.2 ∙ sym (index_left given (at ∷ []) y.0 y.1))

pub noted_length : (ns : List Note) (seen : List Seen) → Noted ns seen → length seen ≡ length ns
noted_length [] seen h = ap (λ (z : List Seen). length z) h
noted_length (n ∷ ns) seen h = ap (λ (z : List Seen). length z) h.2 ∙ (length_snoc h.0 h.1 ∙ ap suc (noted_length ns h.0 h.3))

-- the scan has the note that is to be claimed
claims_scan : (v : View) (scan : Contents) (first : ℕ) (ns : List Note) (n : Note) (earlier : List Seen) (last : Seen) (at word : ℕ)
    → Claims v scan first ns n earlier last at word → HasScan (n ∷ ns) scan
claims_scan v scan first ns n earlier last at word c = record {
  noted = (
    earlier,
    last,
    c.seen,
    c.noted,
    c.last_at ∙ sym c.note.0,
    c.last_stand ∙ ap stand_said (sym c.note.1),
    subst IsStanding (sym c.note.1) c.standing,
    subst (HasVerdict n ns) (sym (ready_verdict last.verdict c.last_ready)) (c.ready.0, c.ready.2),
  );
  frame_is = c.frame_is;
}

module _ (v : View) (scan : Contents) (first : ℕ) (ns : List Note) (n : Note) (earlier : List Seen) (last : Seen) (at word : ℕ)
    (c : Claims v scan first ns n earlier last at word) (held given : List ℕ)
    (given_is : given ≡ take (length held) (ready_records earlier)) (ps : Promised held given v.tasks.promised) where
  pub dealt_full : length held ≤ length given → Dealt v v scan ns held given at word
  dealt_full full = (
    n,
    c.note.0,
    c.note.1,
    c.notes,
    claims_scan v scan first ns n earlier last at word c,
    deal_full (length held) given earlier last given_is full c.last_ready
        ∙ ap (λ (z : List Seen). take (length held) (ready_records z)) (sym c.seen),
    ps,
    only_none v,
  )

  pub dealt_won : (w : View) (scan' : Contents) (thief : ℕ) → length given < length held → thief ≡ slice_index held (length given)
      → Claimed v w scan scan' ns earlier at word thief true → Dealt v w scan' ns held (given ++ at ∷ []) at word
  dealt_won w scan' thief room thief_is (m, m_at, m_thief, w_is, scan_is) = (
    n,
    c.note.0,
    c.note.1,
    ap (λ (z : View). z.seen.notes) w_is ∙ c.notes,
    subst (HasScan (n ∷ ns)) (sym scan_is) (claims_scan v scan first ns n earlier last at word c),
    deal_more (length held) given earlier last at c.last_at given_is room c.last_ready
        ∙ ap (λ (z : List Seen). take (length held) (ready_records z)) (sym c.seen ∙ ap (λ (z : Contents). z.notes) (sym scan_is)),
    subst (λ (z : View). Promised held (given ++ at ∷ []) z.tasks.promised) (sym w_is)
        (promised_more held given v.tasks.promised m at ps (m_thief ∙ thief_is) m_at),
    subst (ScansOnly v) (sym w_is) (only_won v m),
  )

  pub dealt_lost : (w : View) (scan' : Contents) (thief : ℕ) → Claimed v w scan scan' ns earlier at word thief false
      → Dealt v w scan' ns held given at word
  dealt_lost w scan' thief (n2, s2, n_at, n_word, w_is, has, notes, not_ready) = (
    n2,
    n_at,
    n_word,
    ap (λ (z : View). z.seen.notes) w_is,
    has,
    given_is ∙ ap (take (length held)) (sym (ready_same earlier s2 not_ready) ∙ ap ready_records (sym notes)),
    subst (λ (z : View). Promised held given z.tasks.promised) (sym w_is) ps,
    only_note v w n2 ns w_is,
  )

-- the scan goes on from the notes that it has
going_is : (first : ℕ) (ns : List Note) (notes : List Note) (at : ℕ) → (ns ≡ []) ⊎ (notes ≡ ns) → InRow first ns → at ≡ first + length ns
    → first % RECORDS ≡ 0 → length ns < RECORDS → going at notes ≡ ns
going_is first ns [] at (inl e) row at_is whole less = sym e
going_is first ns (m ∷ ms) at (inl e) row at_is whole less = ap (λ (b : Bool). cond (not b && (suc m.at == at)) (m ∷ ms) [])
    (eq-eqb (at % RECORDS) 0 (let l : length ns ≡ 0 = ap (λ (z : List Note). length z) e in omega arith)) ∙ sym e
going_is first ns [] at (inr e) row at_is whole less = e
going_is first [] (m ∷ ms) at (inr e) row at_is whole less = absurd (cc e)
going_is first (n ∷ ns) (m ∷ ms) at (inr e) row at_is whole less =
    let m_is : m.at ≡ n.at = ap (λ (z : List Note). head_at z) e in let n_at : n.at ≡ first + length ns = row.0 in
    ap (λ (z : Bool × Bool). cond (not z.0 && z.1) (m ∷ ms) []) (λ i. (
      ne_eqb (at % RECORDS) 0 (λ z. absurd (omega arith)) i,
      eq-eqb (suc m.at) at (let z : suc m.at ≡ at = omega arith in z) i,
    )) ∙ e
  where
    head_at : List Note → ℕ
    head_at [] = 0
    head_at (x ∷ xs) = x.at

module _ (first : ℕ) (held : List ℕ) (v0 : View) (ns : List Note) (v : View) (scan : Contents) (given : List ℕ)
    (sc : Scanned first held v0 ns v scan given) (at : ℕ) (at_is : at ≡ first + length ns) (whole : first % RECORDS ≡ 0)
    (less : length ns < RECORDS) (v1 : View) (word : ℕ) (v1_is : v1 ≡ stands v at word) where
  pub looked_now : IsLookedAt v1 at word ns
  looked_now = ap (λ (z : View). z.seen.notes) v1_is
      ∙ ap (λ (z : List Note). note_of at word ∷ z) (going_is first ns v.seen.notes at sc.notes sc.row at_is whole less)

  pub only_looked : ScansOnly v0 v1
  only_looked = only_all v0 v v1 sc.only (only_stands v v1 at word v1_is)

  promised_looked : Promised held given v1.tasks.promised
  promised_looked = subst (λ (z : View). Promised held given z.tasks.promised) (sym v1_is) sc.promised

  pub turned_empty : word ≡ 0 → Turned first held v0 ns v1 scan scan given given at None
  turned_empty none_there = (
    looked_now ∙ ap (λ (z : ℕ). note_of at z ∷ ns) none_there,
    only_looked,
    promised_looked,
    refl,
    refl,
  )

  module _ (w : View) (scan' : Contents) (b : Bool) (standing : IsStanding word) (saw : Saw v1 w ns scan scan' at word b) where
    pub claims_now : b ≡ true → Claims w scan' first ns saw.0 scan.notes saw.1 at word
    claims_now ready = record {
      notes = ap (λ (z : View). z.seen.notes) saw.3;
      note = saw.2;
      standing = standing;
      ready = saw.9 ready;
      row = (saw.2.0 ∙ at_is, sc.row);
      noted = sc.scan_is.noted;
      frame_is = saw.4.frame_is;
      seen = saw.5;
      last_at = saw.6;
      last_stand = saw.7;
      last_ready = saw.8 ∙ ready;
    }

    pub only_saw : ScansOnly v0 w
    only_saw = only_all v0 v1 w only_looked (only_note v1 w saw.0 ns saw.3)

    pub promised_saw : Promised held given w.tasks.promised
    promised_saw = subst (λ (z : View). Promised held given z.tasks.promised) (sym saw.3) promised_looked

    pub turned_plain : b ≡ false → (last l : StateWord) → IsStateWord l
        → packed_state l ≡ cond (taken_by (packed_state last) word) word 0 → packed_state last ≡ last_word ns
        → Turned first held v0 ns w scan scan' given given at (Some l)
    turned_plain not_ready last l fits l_is last_is = (
      saw.0,
      record {
        notes = inr (ap (λ (z : View). z.seen.notes) saw.3);
        row = (saw.2.0 ∙ at_is, sc.row);
        scan_is = saw.4;
        given_is = sc.given_is ∙ ap (take (length held)) (sym (ready_same scan.notes saw.1 (saw.8 ∙ not_ready)) ∙ ap ready_records (sym saw.5));
        promised = promised_saw;
        only = only_saw;
      },
      (fits, l_is ∙ (λ i. cond (taken_by (last_is i) (sym saw.2.1 i)) (sym saw.2.1 i) 0)),
    )

    pub turned_dealt : (w2 : View) (scan2 : Contents) (given2 : List ℕ) → Dealt w w2 scan2 ns held given2 at word → (last l : StateWord)
        → IsStateWord l → packed_state l ≡ cond (taken_by (packed_state last) word) word 0 → packed_state last ≡ last_word ns
        → Turned first held v0 ns w2 scan scan2 given given2 at (Some l)
    turned_dealt w2 scan2 given2 (n, n_at, n_word, notes, has, given_now, ps, only) last l fits l_is last_is = (
      n,
      record {
        notes = inr notes;
        row = (n_at ∙ at_is, sc.row);
        scan_is = has;
        given_is = given_now;
        promised = ps;
        only = only_all v0 w w2 only_saw only;
      },
      (fits, l_is ∙ (λ i. cond (taken_by (last_is i) (sym n_word i)) (sym n_word i) 0)),
    )

pub start_scanned : (first : ℕ) (held : List ℕ) (v : View) (scan : Contents) (given : List ℕ) → scan.notes ≡ [] → HasFrame scan []
    → given ≡ [] → v.tasks.promised ≡ [] → Scanned first held v [] v scan given
start_scanned first held v scan given notes has given_is none_promised = record {
  notes = inl refl;
  row = tt;
  scan_is = record { noted = notes; frame_is = has };
  given_is = given_is ∙ (sym (take_nil (length held)) ∙ ap (λ (z : List Seen). take (length held) (ready_records z)) (sym notes));
  promised = record {
    each = λ i less. (let l : length given ≡ 0 = ap (λ (z : List ℕ). length z) given_is in absurd (omega arith));
    no_more = λ m i. elim (subst (In m) none_promised i) [ ];
  };
  only = only_none v;
}

pub end_full : (first : ℕ) (held : List ℕ) (v0 : View) (ns : List Note) (v : View) (scan : Contents) (given : List ℕ)
    → Scanned first held v0 ns v scan given → length ns ≡ RECORDS → Ended first held v0 ns v scan given
end_full first held v0 ns v scan given sc full = record {
  row = sc.row;
  scan_is = sc.scan_is;
  given_is = sc.given_is;
  promised = sc.promised;
  only = sc.only;
  most = omega arith;
  ends = inl (
    full,
    elim sc.notes [
      | inl e ↦ (let l : length ns ≡ 0 = ap (λ (z : List Note). length z) e in absurd (omega arith))
      | inr e ↦ e
    ],
  );
}

pub end_empty : (first : ℕ) (held : List ℕ) (v0 : View) (ns : List Note) (v w : View) (scan scan' : Contents) (given given' : List ℕ)
    (at : ℕ) → Scanned first held v0 ns v scan given → at ≡ first + length ns → length ns < RECORDS
    → Turned first held v0 ns w scan scan' given given' at None → Ended first held v0 ns w scan' given'
end_empty first held v0 ns v w scan scan' given given' at sc at_is less (notes, only, ps, scan_same, given_same) = record {
  row = sc.row;
  scan_is = subst (HasScan ns) (sym scan_same) sc.scan_is;
  given_is = given_same ∙ (sc.given_is ∙ ap (λ (z : Contents). take (length held) (ready_records z.notes)) (sym scan_same));
  promised = ps;
  only = only;
  most = omega arith;
  ends = inr (notes ∙ ap (λ (z : ℕ). note_of z 0 ∷ ns) at_is);
}
