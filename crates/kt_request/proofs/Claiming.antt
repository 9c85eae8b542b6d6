-- A verdict Ready is what a claim for a thief wants.
use Rattle.std.proofs.Common.{◌≡◌, ◌≢◌, ℕ, suc, ◌+◌, ◌<◌, ◌≤◌, ◌⊎◌, ◌==◌, ◌&&◌, ◌||◌, Bool, true, false, cond, nat_le, List, [], ◌∷◌, ◌++◌, length, slice_index_or, sym, refl, ap, ◌∙◌, subst, inl, inr, arith, All}
use Rattle.std.proofs.lemmas.Bool.Decides.{nat_tests}
use mathlib.Core.Logic.{dite}
use native.Mathlib.Decide.{ℕ_discrete}
use Rattle.kt_law.specs.Accesses.{clash_of, any_clash, clash_between}
use Rattle.kt_law.specs.Laws.{ClashIsSymmetric}
use Rattle.kt_law.specs.declared.accesses.Access.{Access}
use Rattle.kt_law.specs.declared.stands.Stand.{Stand}
use Rattle.kt_law.specs.declared.stands.Stand.TheVariants as S
use Rattle.kt_words.specs.Words.{packed_state, stand_number, IsStateWord}
use Rattle.kt_words.specs.declared.states.StateWord.{StateWord}
use Rattle.kt_ready.specs.declared.verdicts.Seen.{Seen}
use Rattle.kt_ready.specs.declared.verdicts.Verdict.{Verdict}
use Rattle.kt_ready.specs.declared.verdicts.Verdict.TheVariants as V
use Rattle.kt_ready.specs.Verdicts.{Entry}
use Rattle.kt_ready.specs.Contents.{Contents, HasFrame, EndsReady}
use Rattle.kt_ready.specs.Laws.{ReadyClashesWithNone}
use Rattle.kt_rule.specs.declared.views.View.{View}
use Rattle.kt_rule.specs.declared.views.Note.{Note}
use Rattle.kt_rule.specs.Lists.{In, here, there}
use Rattle.kt_rule.specs.Records.{stand_in, fork_in, frame_in}
use Rattle.kt_rule.specs.Steps.{IsFound, LetsPass, with_note, lost_one}
use Rattle.kt_rule.specs.Steps as Steps
use Rattle.kt_rule.proofs.Sums.{in_left, in_right}
use Rattle.kt_rule.proofs.Words.{word_parts}
use Rattle.kt_steps.specs.Told.{IsNotedReady}
use Rattle.kt_tasks.specs.Claims.{IsStateFound}
use Rattle.kt_request.specs.Notes.{stand_said, taken_by, last_word, entry, before, frame, IsTold, IsStanding, HasVerdict, Noted, is_ready, InRow}
use Rattle.kt_request.specs.Serving.{Claims, Claimed}
use Rattle.kt_request.proofs.Words.{said}

in_at : {A : Type 0} (xs : List A) (x : A) → In x xs → (k : ℕ) × (k < length xs) × ((d : A) → slice_index_or xs k d ≡ x)
in_at [] x i = elim i [ ]
in_at (y ∷ xs) x here = (0, omega arith, λ d. refl)
in_at (y ∷ xs) x (there i) = let h = in_at xs x i in let l = h.1 in (suc h.0, omega arith, h.2)

all_in : {A : Type 0} (P : A → Type 0) (xs : List A) (x : A) → All P xs → In x xs → P x
all_in P xs x h i = let k = in_at xs x i in subst P (k.2 x) (h k.0 x k.1)

in_last : {A : Type 0} (xs : List A) (x : A) → In x (xs ++ x ∷ [])
in_last xs x = in_right xs (x ∷ []) x here

or_true : (a b : Bool) → a || b ≡ true → (a ≡ true) ⊎ ((a ≡ false) × (b ≡ true))
or_true true b e = inl refl
or_true false b e = inr (refl, e)

or_false : (a b : Bool) → a || b ≡ false → (a ≡ false) × (b ≡ false)
or_false true b e = absurd (cc e)
or_false false b e = (refl, e)

both_false : (a b : Bool) → a ≡ false → b ≡ false → a || b ≡ false
both_false true b e d = absurd (cc e)
both_false false b e d = d

and_true : (a b : Bool) → a && b ≡ true → (a ≡ true) × (b ≡ true)
and_true true b e = (refl, e)
and_true false b e = absurd (cc e)

le_is : (a b : ℕ) → nat_le a b ≡ true → a ≤ b
le_is a b e = grind (arith, nat_tests)

le_not : (a b : ℕ) → nat_le a b ≡ false → b < a
le_not a b e = grind (arith, nat_tests)

eq_is : (a b : ℕ) → (a == b) ≡ true → a ≡ b
eq_is a b e = grind (arith, nat_tests)

-- CLASHES, from the other side

module _ (symmetric : ClashIsSymmetric) where
  clash_head : (xs : List Access) (y : Access) (ys : List Access) → clash_between xs (y ∷ ys) ≡ false → any_clash y xs ≡ false
  clash_head [] y ys h = refl
  clash_head (x ∷ xs) y ys h = let p = or_false (any_clash x (y ∷ ys)) (clash_between xs (y ∷ ys)) h in
      both_false (clash_of y x) (any_clash y xs) (symmetric y x ∙ (or_false (clash_of x y) (any_clash x ys) p.0).0) (clash_head xs y ys p.1)

  clash_tail : (xs : List Access) (y : Access) (ys : List Access) → clash_between xs (y ∷ ys) ≡ false → clash_between xs ys ≡ false
  clash_tail [] y ys h = refl
  clash_tail (x ∷ xs) y ys h = let p = or_false (any_clash x (y ∷ ys)) (clash_between xs (y ∷ ys)) h in
      both_false (any_clash x ys) (clash_between xs ys) (or_false (clash_of x y) (any_clash x ys) p.0).1 (clash_tail xs y ys p.1)

  clash_turned : (xs ys : List Access) → clash_between xs ys ≡ false → clash_between ys xs ≡ false
  clash_turned xs [] h = refl
  clash_turned xs (y ∷ ys) h = both_false (any_clash y xs) (clash_between ys xs) (clash_head xs y ys h)
      (clash_turned xs ys (clash_tail xs y ys h))

-- THE FRAME

-- what the notes of a frame have of the forks before this one
record Sibling (ms : List Note) (m : Note) (i : ℕ) : Type 0 where
  note : Note
  among : In note (m ∷ ms)
  at : note.at + fork_in m.word ≡ m.at + suc i
  fork : fork_in note.word ≡ suc i
  same_frame : frame_in note.word ≡ frame_in m.word
  entry_in : In (entry note) (frame (m ∷ ms))
  told : IsTold note
  standing : IsStanding note.word

told_of : (n : Note) (ns : List Note) (r : Verdict) → HasVerdict n ns r → taken_by (last_word ns) n.word ≡ true → IsTold n
told_of n ns (V.Lost found) h taken = h.0.told
told_of n ns V.Cut h taken = let z : true ≡ false = sym taken ∙ h.0 in absurd (cc z)
told_of n ns V.Ready h taken = h.0.told
told_of n ns (V.Taken stand) h taken = h.0.told
told_of n ns (V.Blocked object) h taken = h.0.told

-- the frame with this note, where it is taken: it has the note, and where the note is no first one it has all from before
frame_has : (n : Note) (ns : List Note) → taken_by (last_word ns) n.word ≡ true → In (entry n) (frame (n ∷ ns))
frame_has n ns taken = subst (λ (b : Bool). In (entry n) (cond b (before n ns ++ entry n ∷ []) [])) (sym taken) (in_last (before n ns) (entry n))

frame_more : (n : Note) (ns : List Note) (e : Entry) → taken_by (last_word ns) n.word ≡ true → nat_le (fork_in n.word) 1 ≡ false
    → In e (frame ns) → In e (frame (n ∷ ns))
frame_more n ns e taken later i = subst (λ (b : Bool). In e (cond b (before n ns ++ entry n ∷ []) [])) (sym taken)
    (in_left (before n ns) (entry n ∷ []) e (subst (λ (b : Bool). In e (cond b [] (frame ns))) (sym later) i))

no_fork : fork_in 0 ≡ 0
unfolding fork_in
no_fork = refl

-- the record before a later entry of a frame was taken too
record Before (ns : List Note) (w : ℕ) : Type 0 where
  head : Note
  tail : List Note
  is : ns ≡ head ∷ tail
  taken : taken_by (last_word tail) head.word ≡ true
  same_frame : frame_in head.word ≡ frame_in w
  next : fork_in head.word + 1 ≡ fork_in w

follows : (ns : List Note) (w : ℕ) → taken_by (last_word ns) w ≡ true → nat_le (fork_in w) 1 ≡ false → Before ns w
follows ns w taken later = elim (or_true (nat_le (fork_in w) 1) ((frame_in (last_word ns) == frame_in w)
    && (fork_in (last_word ns) + 1 == fork_in w)) taken) [
      | inl e ↦ (let z : true ≡ false = sym e ∙ later in absurd (cc z))
      | inr h ↦ (let b = and_true (frame_in (last_word ns) == frame_in w) (fork_in (last_word ns) + 1 == fork_in w) h.1 in
          let more = le_not (fork_in w) 1 later in let same = eq_is (fork_in (last_word ns) + 1) (fork_in w) b.1 in
          go ns (eq_is (frame_in (last_word ns)) (frame_in w) b.0) same (omega arith))
    ]
  where
    go : (ns : List Note) → frame_in (last_word ns) ≡ frame_in w → fork_in (last_word ns) + 1 ≡ fork_in w → 0 < fork_in (last_word ns)
        → Before ns w
    go [] f k pos = let z = no_fork in absurd (omega arith)
    go (m ∷ ms) f k pos = pick (taken_by (last_word ms) m.word) refl
      where
        pick : (b : Bool) → taken_by (last_word ms) m.word ≡ b → Before (m ∷ ms) w
        pick true e = let l : last_word (m ∷ ms) ≡ m.word = ap (λ (b : Bool). cond b m.word 0) e in record {
          head = m;
          tail = ms;
          is = refl;
          taken = e;
          same_frame = ap frame_in (sym l) ∙ f;
          next = ap (λ (z : ℕ). fork_in z + 1) (sym l) ∙ k;
        }
        pick false e = let l : last_word (m ∷ ms) ≡ 0 = ap (λ (b : Bool). cond b m.word 0) e in let z = no_fork in
            let y : fork_in (last_word (m ∷ ms)) ≡ fork_in 0 = ap fork_in l in absurd (omega arith)

abbrev head_or : Note → List Note → Note
head_or d [] = d
head_or d (m ∷ ms) = m

abbrev tail_of : List Note → List Note
tail_of [] = []
tail_of (m ∷ ms) = ms

not_last : (i j k : ℕ) → j + 1 ≡ k → i < k → (suc i ≡ k → ⊥) → i < j
not_last i j k e l n = grind arith

row_head : (first : ℕ) (ns : List Note) (m : Note) (ms : List Note) → ns ≡ m ∷ ms → InRow first ns → m.at + 1 ≡ first + length ns
row_head first [] m ms e row = absurd (cc e)
row_head first (n ∷ ns) m ms e row = let a : n.at ≡ m.at = ap (λ (z : List Note). (head_or n z).at) e in
    let b : n.at ≡ first + length ns = row.0 in omega arith

walk : (first : ℕ) (ns : List Note) (seen : List Seen) → Noted ns seen → InRow first ns → (m : Note) (ms : List Note) → ns ≡ m ∷ ms
    → taken_by (last_word ms) m.word ≡ true → (i : ℕ) → i < fork_in m.word → Sibling ms m i
walk first [] seen noted row m ms e taken i less = absurd (cc e)
walk first (n ∷ ns) seen noted row m ms e taken i less = subst (λ (z : Note × List Note). Sibling z.1 z.0 i) (λ q. (head_is q, tail_is q))
    (step (walk first ns noted.0 noted.3 row.1))
  where
    head_is : n ≡ m
    head_is = ap (λ (z : List Note). head_or n z) e

    tail_is : ns ≡ ms
    tail_is = ap tail_of e

    taken_n : taken_by (last_word ns) n.word ≡ true
    taken_n = (λ q. taken_by (last_word (tail_is q)) ((head_is q).word)) ∙ taken

    less_n : i < fork_in n.word
    less_n = subst (λ (z : Note). i < fork_in z.word) (sym head_is) less

    step : ((m : Note) (ms : List Note) → ns ≡ m ∷ ms → taken_by (last_word ms) m.word ≡ true → (i : ℕ) → i < fork_in m.word
        → Sibling ms m i) → Sibling ns n i
    step rest = dite (ℕ_discrete (suc i) (fork_in n.word))
        (λ same. let s : suc i ≡ fork_in n.word = same in record {
          note = n;
          among = here;
          at = omega arith;
          fork = sym s;
          same_frame = refl;
          entry_in = frame_has n ns taken_n;
          told = told_of n ns noted.1.verdict noted.7 taken_n;
          standing = noted.6;
        })
        (λ other. let l = less_n in pick (nat_le (fork_in n.word) 1) refl (λ d. other d))
      where
        pick : (b : Bool) → nat_le (fork_in n.word) 1 ≡ b → (suc i ≡ fork_in n.word → ⊥) → Sibling ns n i
        pick true first_one other = let a = le_is (fork_in n.word) 1 first_one in let l = less_n in absurd (other (omega arith))
        pick false later other = let f = follows ns n.word taken_n later in let l = less_n in
            let fk : fork_in f.head.word + 1 ≡ fork_in n.word = f.next in
            let x = rest f.head f.tail f.is f.taken i (not_last i (fork_in f.head.word) (fork_in n.word) fk l other) in
            let at_n : n.at ≡ first + length ns = row.0 in let at_m = row_head first ns f.head f.tail f.is row.1 in let xa = x.at in record {
              note = x.note;
              among = there (subst (In x.note) (sym f.is) x.among);
              at = omega arith;
              fork = x.fork;
              same_frame = x.same_frame ∙ f.same_frame;
              entry_in = frame_more n ns (entry x.note) taken_n later
                  (subst (λ (z : List Note). In (entry x.note) (frame z)) (sym f.is) x.entry_in);
              told = x.told;
              standing = x.standing;
            }

-- the fork number of no word without a task is above 0
fork_pos : (w k : ℕ) → fork_in w ≡ suc k → 0 < w
unfolding fork_in
fork_pos w k e = omega arith

finished_is : (s : Stand) → stand_number s ≡ 4 → s ≡ S.Finished
finished_is S.Empty e = absurd (omega arith)
finished_is S.Unclaimed e = absurd (omega arith)
finished_is (S.Given k) e = absurd (omega arith)
finished_is (S.Running k) e = absurd (omega arith)
finished_is S.Finished e = refl

-- the number of Finished stands for it
finished_number : (word : ℕ) → IsStanding word → stand_said word ≡ S.Finished → stand_in word ≡ 4
finished_number word (x, fits, there_is, is) fin = ap stand_in is ∙ ((word_parts x fits).0
    ∙ ap stand_number (sym (said x fits) ∙ (ap stand_said (sym is) ∙ fin)))

module _ (law : ReadyClashesWithNone) (symmetric : ClashIsSymmetric) (v : View) (scan : Contents) (first : ℕ) (ns : List Note) (n : Note)
    (earlier : List Seen) (last : Seen) (at word : ℕ) (c : Claims v scan first ns n earlier last at word) where
  -- what a claim for a thief wants of the notes
  ready_notes : Steps.IsReady v n
  ready_notes i less =
      let later : nat_le (fork_in n.word) 1 ≡ false = not_first (fork_in n.word) i less in
      let f = follows ns n.word c.ready.0.taken later in let fk = f.next in
      let x = walk first ns earlier c.noted c.row.1 f.head f.tail f.is f.taken i (omega arith) in
      let at_m = row_head first ns f.head f.tail f.is c.row.1 in let at_n : n.at ≡ first + length ns = c.row.0 in let xa = x.at in (
        x.note,
        subst (In x.note) (sym c.notes) (there (subst (In x.note) (sym f.is) x.among)),
        (let z : x.note.at + fork_in n.word ≡ n.at + suc i = omega arith in z),
        fork_pos x.note.word i x.fork,
        x.same_frame ∙ f.same_frame,
        lets x.note (subst (λ (b : Bool). In (entry x.note) (cond b [] (frame ns))) (sym later)
            (subst (λ (z : List Note). In (entry x.note) (frame z)) (sym f.is) x.entry_in)) x.told x.standing,
      )
    where
      not_first : (f i : ℕ) → suc i < f → nat_le f 1 ≡ false
      not_first f i l = grind (arith, nat_tests)

      lets : (x : Note) → In (entry x) (before n ns) → IsTold x → IsStanding x.word → LetsPass n.accesses x
      lets x among (inl fin) standing = inl (finished_number x.word standing fin)
      lets x among (inr found) standing = dite (ℕ_discrete (stand_in x.word) 4) (λ fin. inl fin) (λ busy. inr (
        found,
        clash_turned symmetric n.accesses x.accesses
            (all_in (λ (e : Entry). e.stand ≢ S.Finished → clash_between (entry n).accesses e.accesses ≡ false) (before n ns) (entry x)
            ((law (before n ns) (entry n)).0 c.ready.0.is).1 among (λ fin. busy (finished_number x.word standing fin))),
      ))

  pub noted_ready : (x : StateWord) → IsStateWord x → word ≡ packed_state x → IsNotedReady v at x
  noted_ready x fits is = record {
    own = n;
    rest = ns;
    notes = c.notes;
    lies = c.note.0;
    found = c.ready.1;
    ready = ready_notes;
    fits = fits;
    waits = sym (said x fits) ∙ (ap stand_said (sym is ∙ sym c.note.1) ∙ c.ready.0.is.0);
    word = c.note.1 ∙ is;
  }

pub ready_verdict : (r : Verdict) → is_ready r ≡ true → r ≡ V.Ready
ready_verdict V.Ready e = refl
ready_verdict (V.Taken stand) e = absurd (cc e)
ready_verdict (V.Blocked object) e = absurd (cc e)
ready_verdict (V.Lost stand) e = absurd (cc e)
ready_verdict V.Cut e = absurd (cc e)

pub ends_ready : (v : View) (scan : Contents) (first : ℕ) (ns : List Note) (n : Note) (earlier : List Seen) (last : Seen) (at word : ℕ)
    → Claims v scan first ns n earlier last at word → EndsReady scan.notes
ends_ready v scan first ns n earlier last at word c = record {
  earlier = earlier;
  last = last;
  is = c.seen;
  ready = ready_verdict last.verdict c.last_ready;
}

pub lost_claimed : (v w : View) (scan scan' : Contents) (first : ℕ) (ns : List Note) (n : Note) (earlier : List Seen) (last : Seen)
    (at word thief found : ℕ) (stand : Stand) → Claims v scan first ns n earlier last at word → found ≢ word → IsStateFound found
    → ((o : Note) (ms : List Note) → v.seen.notes ≡ o ∷ ms → w ≡ lost_one v o ms found) → stand ≡ stand_said found
    → ((e : List Seen) (l : Seen) → scan.notes ≡ e ++ l ∷ [] → scan'.notes ≡ e ++ (record l { verdict = V.Lost stand }) ∷ [])
    → ((f : List Entry) → HasFrame scan f → HasFrame scan' f) → Claimed v w scan scan' ns earlier at word thief false
lost_claimed v w scan scan' first ns n earlier last at word thief found stand c other says w_is stand_is notes frames =
    let n2 : Note = record n { lost = true; other = found } in let s2 : Seen = record last { verdict = V.Lost stand } in
    let notes_now = notes earlier last c.seen in (
      n2,
      s2,
      c.note.0,
      c.note.1,
      w_is n ns c.notes,
      record {
        noted = (
          earlier,
          s2,
          notes_now,
          c.noted,
          c.last_at ∙ sym c.note.0,
          c.last_stand ∙ ap stand_said (sym c.note.1),
          subst IsStanding (sym c.note.1) c.standing,
          (
            record { taken = c.ready.0.taken; told = inr (record { headed = c.ready.1.headed; all = c.ready.1.all }); is = c.ready.0.is },
            record { lost = refl; other = λ e. other (e ∙ c.note.1); says = says; stand = stand_is },
          ),
        );
        frame_is = frames (frame (n ∷ ns)) c.frame_is;
      },
      notes_now,
      refl,
    )
