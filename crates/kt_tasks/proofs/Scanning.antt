-- The loads of a scan, told of whichever note is the newest.
use Rattle.std.proofs.Common.{◌≡◌, ℕ, ◌+◌, ◌<◌, ◌≤◌, List, [], ◌∷◌, ◌++◌, true, false, length, sym, refl, ap, ◌∙◌, subst, arith, get_or, Some}
use mathlib.Core.Option.{none}
use Rattle.atomic_table.specs.Table.{Me, step, Allows}
use Rattle.kt_law.specs.declared.accesses.Access.{Access}
use Rattle.kt_words.specs.Places.{place, record_word}
use Rattle.kt_words.specs.Words.{IsHeadWord, packed_head, IsAccess, packed_access}
use Rattle.kt_words.specs.declared.heads.HeadWord.{HeadWord}
use Rattle.kt_words.specs.declared.layouts.Layout.{Layout}
use Rattle.kt_words.proofs.HeadLaws.{head_words}
use Rattle.kt_words.proofs.AccessLaws.{access_words}
use Rattle.kt_rule.specs.declared.views.Setup.{Setup}
use Rattle.kt_rule.specs.declared.views.Note.{Note}
use Rattle.kt_rule.specs.declared.views.View.{View}
use Rattle.kt_rule.specs.Records.{layout_of}
use Rattle.kt_rule.specs.Rule.{Slots, Holds}
use Rattle.kt_rule.specs.Steps.{Tells, note_of, headed_so, found_so, with_note, ScansHead, ScansAccess}
use Rattle.kt_steps.proofs.Looks.{scans_head, scans_access}
use Rattle.kt_steps.proofs.Telling.{the_some}
use Rattle.kt_steps.specs.Told.{IsLiveOf}
use Rattle.kt_tasks.specs.Accesses.{IsLookedAt, IsAmong, IsCounted, found_of, ScansHeadAt, ScansAccessAt}

firsts : (a b : Note) (xs ys : List Note) → a ∷ xs ≡ b ∷ ys → (a ≡ b) × (xs ≡ ys)
firsts a b xs ys e = (cc, cc)

module _ (opening : List ℕ) (slots id : ℕ) (me : Me Slots View) (j : Setup) (setup : me.0.setup ≡ Some j) (live : 0 < me.0.parts) where
  pub heads_told : (o : Note) (ns : List Note) (i : ℕ) → me.0.seen.notes ≡ o ∷ ns → i ≡ place (layout_of j) (record_word o.at 1)
      → Allows (Holds opening) slots id me i (λ n. n) (Tells ScansHeadAt (step slots i 0 0 none) me)
  heads_told o ns i notes i_is s h out at word =
      let d = scans_head opening slots id me j o ns i setup live notes i_is s h out at word in (
        d.0,
        d.1,
        d.2,
        d.3,
        (
          (λ p ms too. let both = firsts o p ns ms (sym notes ∙ too) in
              subst (λ (z : List Note). ScansHead p z (step slots i 0 0 none) me.0 (get_or s.words i 0) d.0) both.1
              (subst (λ (z : Note). ScansHead z ns (step slots i 0 0 none) me.0 (get_or s.words i 0) d.0) both.0 d.4.0)),
          d.4.1,
        ),
      )

  pub accesses_told : (o : Note) (ns : List Note) (i : ℕ) → me.0.seen.notes ≡ o ∷ ns → o.headed ≡ true → length o.accesses < o.count
      → o.count ≤ 8 → i ≡ place (layout_of j) (record_word o.at (13 + length o.accesses))
      → Allows (Holds opening) slots id me i (λ n. n) (Tells ScansAccessAt (step slots i 0 0 none) me)
  accesses_told o ns i notes headed more few i_is s h out at word =
      let d = scans_access opening slots id me j o ns i setup live notes headed more few i_is s h out at word in (
        d.0,
        d.1,
        d.2,
        d.3,
        (
          (λ k told p ms too. let both = firsts o p ns ms (sym notes ∙ too) in
              subst (λ (z : Setup). ScansAccess (layout_of z) p ms (step slots i 0 0 none) me.0 (get_or s.words i 0) d.0)
              (the_some (sym setup ∙ told))
              (subst (λ (z : List Note). ScansAccess (layout_of j) p z (step slots i 0 0 none) me.0 (get_or s.words i 0) d.0) both.1
              (subst (λ (z : Note). ScansAccess (layout_of j) z ns (step slots i 0 0 none) me.0 (get_or s.words i 0) d.0) both.0 d.4.0))),
          d.4.1,
        ),
      )

-- what is unpacked of the word is what the step told
pub headed_is : (o : Note) (ns : List Note) (n : ℕ) (v w : View) (x : HeadWord) → IsHeadWord x → packed_head x ≡ n
    → (h : HeadWord) × IsHeadWord h × (n ≡ packed_head h) × (w ≡ with_note v (headed_so o h) ns)
    → w ≡ with_note v (record o { headed = true; count = x.accesses }) ns
headed_is o ns n v w x fits is (h, h_fits, n_is, w_is) = w_is ∙ ap (λ (z : HeadWord). with_note v (headed_so o z) ns)
    (head_words.apart h x h_fits fits (sym n_is ∙ sym is))

pub access_is : (l : Layout) (o : Note) (ns : List Note) (n : ℕ) (v w : View) (x : Access) → IsAccess x → packed_access x ≡ n
    → (a : Access) × IsAccess a × (a.hi ≤ l.objects) × (n ≡ packed_access a) × (w ≡ with_note v (found_so o a) ns)
    → IsAmong l.objects x × (w ≡ with_note v (found_so o x) ns)
access_is l o ns n v w x fits is (a, a_fits, below, n_is, w_is) =
    let same = access_words.apart a x a_fits fits (sym n_is ∙ sym is) in (
      record { fits = fits; below = subst (λ (z : Access). z.hi ≤ l.objects) same below },
      w_is ∙ ap (λ (z : Access). with_note v (found_so o z) ns) same,
    )

-- so many accesses of the record were found
pub record Finding (at count : ℕ) (v w : View) (found : List Access) : Type 0 where
  pub word : ℕ
  pub rest : List Note
  pub looked : IsLookedAt v at word rest
  pub is : w ≡ with_note v (record { at = at; word = word; headed = true; count = count; accesses = found; lost = false; other = 0 }) rest

pub begins : (at count : ℕ) (v w : View) (word : ℕ) (ns : List Note) → IsLookedAt v at word ns
    → w ≡ with_note v (record (note_of at word) { headed = true; count = count }) ns → Finding at count v w []
begins at count v w word ns looked is = record { word = word; rest = ns; looked = looked; is = is }

pub goes_on : (at count : ℕ) (v w w' : View) (found : List Access) (a : Access) → Finding at count v w found
    → ((o : Note) (ns : List Note) → w.seen.notes ≡ o ∷ ns → w' ≡ with_note w (found_so o a) ns) → Finding at count v w' (found ++ a ∷ [])
goes_on at count v w w' found a h more = record {
  word = h.word;
  rest = h.rest;
  looked = h.looked;
  is =
      let o : Note = record { at = at; word = h.word; headed = true; count = count; accesses = found; lost = false; other = 0 } in
      more o h.rest (ap (λ (z : View). z.seen.notes) h.is) ∙ ap (λ (z : View). with_note z (found_so o a) h.rest) h.is;
}

pub counts : (at count : ℕ) (v w : View) (found : List Access) (k : ℕ) → Finding at count v w found → length found ≡ k → k < count
    → count ≤ 8 → IsCounted w at k
counts at count v w found k h long more few = record {
  own = record { at = at; word = h.word; headed = true; count = count; accesses = found; lost = false; other = 0 };
  rest = h.rest;
  notes = ap (λ (z : View). z.seen.notes) h.is;
  lies = refl;
  headed = refl;
  few = few;
  found_is = long;
  more = more;
}

-- all were
pub ends : (at count : ℕ) (v w : View) (found : List Access) → Finding at count v w found → length found ≡ count → (word : ℕ)
    (ns : List Note) → IsLookedAt v at word ns → w ≡ with_note v (found_of at word found) ns
ends at count v w found h long word ns looked =
    let both = firsts (note_of at h.word) (note_of at word) h.rest ns (sym h.looked ∙ looked) in
    let word_is : h.word ≡ word = ap (λ (z : Note). z.word) both.0 in h.is ∙ (λ i. with_note v (record {
      at = at;
      word = word_is i;
      headed = true;
      count = sym long i;
      accesses = found;
      lost = false;
      other = 0;
    }) (both.1 i))

-- the seat still stands for somebody
pub live_noted : (l : Layout) (k k' : ℕ) (v w : View) (o : Note) (ns : List Note) → k' ≡ k → w ≡ with_note v o ns → IsLiveOf l k v
    → IsLiveOf l k' w
live_noted l k k' v w o ns k_is w_is live = record {
  setup = live.setup;
  told = ap (λ (z : View). z.setup) w_is ∙ live.told;
  layout = live.layout;
  live = subst (λ (z : View). 0 < z.parts) (sym w_is) live.live;
  own = k_is ∙ (live.own ∙ ap (λ (z : View). z.worker) (sym w_is));
}

pub live_found : (l : Layout) (k k' at count : ℕ) (v w : View) (found : List Access) → k' ≡ k → Finding at count v w found → IsLiveOf l k v
    → IsLiveOf l k' w
live_found l k k' at count v w found k_is h live = live_noted l k k' v w _ h.rest k_is h.is live

nothing_after : {A : Type 0} (xs : List A) (a : A) → length (xs ++ a ∷ []) ≡ length xs + 1
nothing_after [] a = refl
nothing_after (x ∷ xs) a = let h = nothing_after xs a in omega arith

pub longer : (xs : List Access) (a : Access) → length (xs ++ a ∷ []) ≡ length xs + 1
longer xs a = nothing_after xs a
