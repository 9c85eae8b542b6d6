-- One entry seen, as the view and the scan have it.
use Rattle.std.proofs.Common.{◌≡◌, ◌≢◌, ℕ, ◌≤◌, All, Bool, true, false, cond, nat_le, List, [], ◌∷◌, ◌++◌, sym, refl, ap, ◌∙◌, subst, inl, inr, arith}
use Rattle.kt_law.specs.declared.stands.Stand.{Stand}
use Rattle.kt_law.specs.declared.stands.Stand.TheVariants as S
use Rattle.kt_law.specs.declared.accesses.Access.{Access}
use Rattle.kt_words.specs.Words.{packed_state, IsStateWord}
use Rattle.kt_words.specs.declared.states.StateWord.{StateWord}
use Rattle.kt_ready.specs.declared.verdicts.Seen.{Seen}
use Rattle.kt_ready.specs.declared.verdicts.Verdict.{Verdict}
use Rattle.kt_ready.specs.declared.verdicts.Verdict.TheVariants as V
use Rattle.kt_ready.specs.Verdicts.{Entry, IsVerdict}
use Rattle.kt_ready.specs.Contents.{Contents, HasFrame}
use Rattle.kt_ready.specs.Table.{IsBelow}
use Rattle.kt_rule.specs.declared.views.View.{View}
use Rattle.kt_rule.specs.declared.views.Note.{Note}
use Rattle.kt_rule.specs.Records.{fork_in}
use Rattle.kt_rule.specs.Steps.{note_of, with_note}
use Rattle.kt_tasks.specs.Accesses.{IsLookedAt, IsAmong, found_of}
use Rattle.kt_request.specs.Notes.{stand_said, taken_by, last_word, entry, before, frame, IsTold, HasVerdict, HasScan, is_ready, IsStanding}
use Rattle.kt_request.specs.Serving.{NoteOf, IsClaimable, Saw}
use Rattle.kt_request.proofs.Words.{said}

-- accesses among so many objects are below the limit of the scan
pub all_below : (objects limit : ℕ) (xs : List Access) → objects ≤ limit → All (IsAmong objects) xs → All (IsBelow limit) xs
all_below objects limit xs most h k d less object has = let a = (h k d less).below in let b = has.below in omega arith

abbrev pub SeenNow : View → View → List Note → Contents → Contents → (at word : ℕ) → Verdict → Type 0
SeenNow v w ns scan scan' at word r = (n : Note) × NoteOf n at word × IsTold n × (w ≡ with_note v n ns)
    × (scan'.notes ≡ scan.notes ++ (record { at = at; stand = stand_said word; verdict = r }) ∷ [])
    × ((frame : List Entry) → HasFrame scan frame → IsVerdict frame (entry n) r × HasFrame scan' (frame ++ entry n ∷ []))

module _ (v : View) (scan scan' : Contents) (at : ℕ) (x : StateWord) (fits : IsStateWord x) (r : Verdict) (ns : List Note)
    (notes : scan'.notes ≡ scan.notes ++ (record { at = at; stand = x.stand; verdict = r }) ∷ []) where
  abbrev word : ℕ
  word = packed_state x

  stand_is : x.stand ≡ stand_said word
  stand_is = sym (said x fits)

  notes_are : scan'.notes ≡ scan.notes ++ (record { at = at; stand = stand_said word; verdict = r }) ∷ []
  notes_are = notes ∙ ap (λ (z : Stand). scan.notes ++ (record { at = at; stand = z; verdict = r }) ∷ []) stand_is

  pub seen_finished : IsLookedAt v at word ns → x.stand ≡ S.Finished
      → ((frame : List Entry) → HasFrame scan frame → IsVerdict frame (record { stand = x.stand; accesses = [] }) r)
      → ((frame : List Entry) → HasFrame scan frame → HasFrame scan' (frame ++ (record { stand = x.stand; accesses = [] }) ∷ []))
      → SeenNow v v ns scan scan' at word r
  seen_finished looked fin verdict has = (
    note_of at word,
    (refl, refl, refl),
    inl (sym stand_is ∙ fin),
    (λ i. record v { seen = record v.seen { notes = looked i } }),
    notes_are,
    (λ frame h. subst (λ (z : Stand). IsVerdict frame (record { stand = z; accesses = [] }) r
        × HasFrame scan' (frame ++ (record { stand = z; accesses = [] }) ∷ [])) stand_is (verdict frame h, has frame h)),
  )

  pub seen_other : (w : View) (found shown : List Access) → shown ≡ found → w ≡ with_note v (found_of at word found) ns
      → ((frame : List Entry) → HasFrame scan frame → IsVerdict frame (record { stand = x.stand; accesses = shown }) r)
      → ((frame : List Entry) → HasFrame scan frame → HasFrame scan' (frame ++ (record { stand = x.stand; accesses = shown }) ∷ []))
      → SeenNow v w ns scan scan' at word r
  seen_other w found shown shown_is w_is verdict has = (
    found_of at word found,
    (refl, refl, refl),
    inr (record { headed = refl; all = refl }),
    w_is,
    notes_are,
    (λ frame h. subst (λ (z : Stand × List Access). IsVerdict frame (record { stand = z.0; accesses = z.1 }) r
        × HasFrame scan' (frame ++ (record { stand = z.0; accesses = z.1 }) ∷ [])) (λ i. (stand_is i, shown_is i))
        (verdict frame h, has frame h)),
  )

pub standing : (x : StateWord) → IsStateWord x → x.stand ≢ S.Empty → IsStanding (packed_state x)
standing x fits there = (x, fits, there, refl)

-- an entry that is cut
pub saw_cut : (v : View) (scan scan' : Contents) (at : ℕ) (x last : StateWord) → IsStateWord x → x.stand ≢ S.Empty
    → taken_by (packed_state last) (packed_state x) ≡ false → (ns : List Note) → IsLookedAt v at (packed_state x) ns → HasScan ns scan
    → packed_state last ≡ last_word ns → scan'.notes ≡ scan.notes ++ (record { at = at; stand = x.stand; verdict = V.Cut }) ∷ []
    → HasFrame scan' [] → Saw v v ns scan scan' at (packed_state x) false
saw_cut v scan scan' at x last fits there not_taken ns looked has last_is notes none_yet =
    let word : ℕ = packed_state x in let stand_is = sym (said x fits) in
    let out : taken_by (last_word ns) word ≡ false = ap (λ (z : ℕ). taken_by z word) (sym last_is) ∙ not_taken in (
      note_of at word,
      record { at = at; stand = x.stand; verdict = V.Cut },
      (refl, refl, refl),
      (λ i. record v { seen = record v.seen { notes = looked i } }),
      record {
        noted = (
          scan.notes,
          record { at = at; stand = x.stand; verdict = V.Cut },
          notes,
          has.noted,
          refl,
          stand_is,
          standing x fits there,
          (out, refl),
        );
        frame_is = subst (HasFrame scan')
            (sym (ap (λ (b : Bool). cond b (cond (nat_le (fork_in word) 1) [] (frame ns) ++ entry (note_of at word) ∷ []) []) out))
            none_yet;
      },
      notes,
      refl,
      stand_is,
      refl,
      (λ e. cc),
    )

verdict_has : (n : Note) (ns : List Note) (r : Verdict) → taken_by (last_word ns) n.word ≡ true → IsTold n
    → IsVerdict (before n ns) (entry n) r → n.lost ≡ false → HasVerdict n ns r
verdict_has n ns (V.Lost found) taken told h lost = absurd h
verdict_has n ns V.Cut taken told h lost = absurd h
verdict_has n ns V.Ready taken told h lost = (record { taken = taken; told = told; is = h }, lost)
verdict_has n ns (V.Taken stand) taken told h lost = (record { taken = taken; told = told; is = h }, lost)
verdict_has n ns (V.Blocked object) taken told h lost = (record { taken = taken; told = told; is = h }, lost)

ready_is : (n : Note) (ns : List Note) (r : Verdict) → taken_by (last_word ns) n.word ≡ true → IsTold n
    → IsVerdict (before n ns) (entry n) r → n.lost ≡ false → is_ready r ≡ true → IsClaimable n ns
ready_is n ns (V.Lost found) taken told h lost e = absurd h
ready_is n ns V.Cut taken told h lost e = absurd h
ready_is n ns (V.Taken stand) taken told h lost e = absurd (cc e)
ready_is n ns (V.Blocked object) taken told h lost e = absurd (cc e)
ready_is n ns V.Ready taken (inl fin) h lost e = let z : S.Unclaimed ≡ S.Finished = sym h.0 ∙ fin in absurd (cc z)
ready_is n ns V.Ready taken (inr found) h lost e = (record { taken = taken; told = inr found; is = h }, found, lost)

-- an entry that is taken into the frame
pub saw_taken : (v w : View) (scan scan1 scan' : Contents) (at : ℕ) (x last : StateWord) (r : Verdict) (ready : Bool) → IsStateWord x
    → x.stand ≢ S.Empty → is_ready r ≡ ready → taken_by (packed_state last) (packed_state x) ≡ true → (ns : List Note) → HasScan ns scan
    → packed_state last ≡ last_word ns → scan1.notes ≡ scan.notes
    → ((f : List Entry) → HasFrame scan f → HasFrame scan1 (cond (nat_le (fork_in (packed_state x)) 1) [] f))
    → SeenNow v w ns scan1 scan' at (packed_state x) r → Saw v w ns scan scan' at (packed_state x) ready
saw_taken v w scan scan1 scan' at x last r ready fits there ready_r taken ns has last_is notes1 frame1 (n, of, told, w_is, notes, seen) =
    let word : ℕ = packed_state x in
    let taken_n : taken_by (last_word ns) n.word ≡ true = (λ i. taken_by (sym last_is i) (of.1 i)) ∙ taken in
    let before_is : cond (nat_le (fork_in word) 1) [] (frame ns) ≡ before n ns
    = ap (λ (z : ℕ). cond (nat_le (fork_in z) 1) [] (frame ns)) (sym of.1) in
    let h = seen (before n ns) (subst (HasFrame scan1) before_is (frame1 (frame ns) has.frame_is)) in
    let s : Seen = record { at = at; stand = stand_said word; verdict = r } in
    let notes_now : scan'.notes ≡ scan.notes ++ s ∷ [] = notes ∙ ap (λ (z : List Seen). z ++ s ∷ []) notes1 in (
      n,
      s,
      of,
      w_is,
      record {
        noted = (
          scan.notes,
          s,
          notes_now,
          has.noted,
          sym of.0,
          ap stand_said (sym of.1),
          subst IsStanding (sym of.1) (standing x fits there),
          verdict_has n ns r taken_n told h.0 of.2,
        );
        frame_is = subst (HasFrame scan') (sym (ap (λ (b : Bool). cond b (before n ns ++ entry n ∷ []) []) taken_n)) h.1;
      },
      notes_now,
      refl,
      refl,
      ready_r,
      (λ e. ready_is n ns r taken_n told h.0 of.2 (ready_r ∙ e)),
    )

pub ready_not : (r : Verdict) → (r ≡ V.Ready → ⊥) → is_ready r ≡ false
ready_not V.Ready h = absurd (h refl)
ready_not (V.Taken stand) h = refl
ready_not (V.Blocked object) h = refl
ready_not (V.Lost stand) h = refl
ready_not V.Cut h = refl
