-- An operation of an index in hand on an element: it keeps the facts, and the core does the act of that index.
use Rattle.std.proofs.Common.{◌≡◌, ◌≢◌, ℕ, suc, ◌+◌, ◌*◌, ◌<◌, true, List, [], ◌∷◌, ◌++◌, map, set, length, length-set, sym, refl, ap, ◌∙◌, subst, arith}
use mathlib.Core.Option as o
use mathlib.Core.Option.{none, some, some-ne-none}
use lib.ListN.{get_elem?}
use Rattle.atomic_table.specs.Table.{State}
use Rattle.kt_law.specs.Acts.{Act}
use Rattle.kt_rights.specs.Acts.{effect}
use Rattle.kt_order.specs.Body.{Do}
use Rattle.kt_order.specs.Events as events
use Rattle.kt_order.specs.Events.{did}
use Rattle.kt_order.specs.Forest.{Phase, Running, Finished, Task}
use Rattle.kt_order.specs.Machine.{Machine, Code}
use Rattle.kt_order.specs.Rest.{left}
use Rattle.kt_prog.specs.Calls.{Index}
use Rattle.kt_prog.specs.Reference.{machine_of}
use Rattle.kt_prog.specs.Store.{place_of}
use Rattle.kt_runs.specs.ByPath.{Path, child}
use Rattle.kt_words.specs.Places.{Place, place, record_word, worker_word, element_word, request, post, answer}
use Rattle.kt_words.specs.Words.{packed_pair}
use Rattle.kt_words.specs.declared.layouts.Layout.{Layout}
use Rattle.kt_words.specs.declared.layouts.TheConstants.{RECORDS, FIELDS}
use Rattle.kt_rule.specs.declared.views.Setup.{Setup}
use Rattle.kt_rule.specs.declared.views.IndexRun.{IndexRun}
use Rattle.kt_rule.specs.declared.views.View.{View}
use Rattle.kt_rule.specs.Paths.{put}
use Rattle.kt_rule.specs.Lies.{Loops, IndexLie, Lie, Lies, is_gone, index_of, Cored}
use Rattle.kt_rule.specs.Records.{layout_of, word_at, elements, drawn_at, positions_at, stop_at}
use Rattle.kt_rule.specs.Facts.{index_task}
use Rattle.kt_rule.specs.LoopWords.{loop_words, hand_of, hands_of}
use Rattle.kt_rule.specs.LoopFacts.{IsIndex, Looped}
use Rattle.kt_rule.specs.Rule.{Slots, Facts}
use Rattle.kt_rule.specs.Steps.{heard as found_by}
use Rattle.kt_rule.proofs.LoopsStay.{words_same}
use Rattle.kt_rule.proofs.Shelf as shelf
use Rattle.kt_rule.proofs.Words.{says_field}
use Rattle.kt_pieces.specs.Changes.{change_index, hears, heard}
use Rattle.kt_pieces.proofs.Acts.{index_acted}
use Rattle.kt_pieces.proofs.Indexes.{change_at, change_else, change_long}
use Rattle.kt_pieces.proofs.LoopCores.{TurnsIndex}
use Rattle.kt_pieces.proofs.LoopCoreElements.{word_heard, word_left}
use Rattle.kt_pieces.proofs.LoopCoreRetires.{Acted, acts}
use Rattle.kt_pieces.proofs.Turns.{in_at}
use Rattle.kt_loops.specs.Operations.{with_taken}
use Rattle.kt_loops.proofs.BeginSteps.{hand_there, looped_at}
use Rattle.kt_loops.proofs.OnTheWay.{loops_on}
use Rattle.kt_loops.proofs.RetireSteps.{own_hands}
use Rattle.kt_loops.proofs.Turning.{LoopTurn}
use Rattle.kt_loops.proofs.TurningFacts.{book_turned}

-- THE ENTRY BEHIND SOME OTHERS

pub at_middle : {A : Type 0} (xs : List A) (y : A) (ys : List A) → get_elem? (xs ++ y ∷ ys) (length xs) ≡ some y
at_middle [] y ys = refl
at_middle (x ∷ xs) y ys = at_middle xs y ys

pub set_middle : {A : Type 0} (xs : List A) (y z : A) (ys : List A) → set (xs ++ y ∷ ys) (length xs) z ≡ xs ++ z ∷ ys
set_middle [] y z ys = refl
set_middle (x ∷ xs) y z ys = ap (λ zs. x ∷ zs) (set_middle xs y z ys)

-- A WORD OF AN ELEMENT IS SET

module _ (l : Layout) (ws : List ℕ) (e n : ℕ) (in_e : e < l.elements) where
  abbrev ws1 : List ℕ
  ws1 = set ws (place l (element_word e)) n

  -- the words of records stay
  records_stay : (a f : ℕ) → a < RECORDS * l.workers → f < FIELDS → word_at l ws1 (record_word a f) ≡ word_at l ws (record_word a f)
  records_stay a f less few = shelf.else l ws (element_word e) (record_word a f) n in_e (less, few) (λ d. cc)

  pub positions_stay : word_at l ws1 positions_at ≡ word_at l ws positions_at
  positions_stay = shelf.else l ws (element_word e) positions_at n in_e tt (λ d. cc)

  -- and those of loops
  pub loops_stay : loop_words l ws1 ≡ loop_words l ws
  loops_stay = words_same l ws ws1 positions_stay (λ k q less. shelf.else l ws (element_word e) (worker_word k q) n in_e less (λ d. cc))

-- AN OPERATION OF AN INDEX

module _ (j : Setup) (lies : Lies) (s : State Slots View) (f : Facts j lies s) (id : ℕ) (v : View) (at : get_elem? s.views id ≡ some v)
    (live : 0 < v.parts) (done : List IndexRun) (e : IndexRun) (rest : List IndexRun) (taken : v.loops.taken ≡ done ++ e ∷ rest)
    (d : Act) (k : ℕ → Code (machine_of j.program)) (next : left (machine_of j.program) (index_task j e) ≡ Do d k)
    (in_e : place_of j.program.families d < (layout_of j).elements) where
  abbrev l : Layout
  l = layout_of j

  abbrev m : Machine
  m = machine_of j.program

  abbrev p : Path
  p = e.spot.path

  abbrev q : Place
  q = element_word (place_of j.program.families d)

  stands : get_elem? v.loops.taken (length done) ≡ some e
  stands = ap (λ (xs : List IndexRun). get_elem? xs (length done)) taken ∙ at_middle done e rest

  pub own : IsIndex lies Running e
  own = (own_hands j lies s f id v at live).taken e (in_at v.loops.taken (length done) e stands)

  abbrev t : Lie
  t = own.task

  abbrev x : IndexLie
  x = own.index

  running_not : {ph : Phase} → ph ≡ Running → ph ≢ Finished
  running_not a b = let z : Running ≡ Finished = sym a ∙ b in cc

  on : (w : ℕ) × (t.stage ≡ Loops w)
  on = loops_on j lies s f p t own.is e.index x own.at (running_not own.phase_is)

  pub bare : (i : ℕ) → lies (child p i) ≡ none
  bare i = go (lies (child p i)) refl
    where
      go : (z : o.Option Lie) → lies (child p i) ≡ z → z ≡ none
      go none h = refl
      go (some y) h = absurd (some-ne-none x (sym own.at ∙ ap (λ (xs : List IndexLie). get_elem? xs e.index) (f.looped.childless p i t y own.is h)))

  -- what it finds
  abbrev n : ℕ
  n = word_at l s.words q

  abbrev found : List ℕ
  found = found_by d n

  abbrev pub u : Lie
  u = record t { indexes = change_index e.index (hears found) t.indexes }

  abbrev pub lies' : Lies
  lies' = put lies p (some u)

  abbrev new : ℕ
  new = effect d.deed n

  abbrev pub ws' : List ℕ
  ws' = set s.words (place l q) new

  abbrev after : List IndexRun
  after = done ++ heard found e ∷ rest

  -- it is the index of the core
  same_index : index_of j p t.berth.call e.index (some x) ≡ index_task j e
  same_index = λ h. record {
    call = record { path = map suc p; job = Index (own.berth h).call e.index };
    phase = own.phase_is h;
    answers = own.answers h;
    done = own.count h;
  }

  abbrev old : Task (machine_of j.program)
  old = index_of j p t.berth.call e.index (some x)

  pub turn_index : TurnsIndex t u e.index (hears found x)
  turn_index = record {
    berth = refl;
    here = change_at (hears found) e.index x t.indexes own.at;
    others = λ i ne. change_else (hears found) e.index i t.indexes ne;
  }

  now_is : index_of j p t.berth.call e.index (some (hears found x)) ≡ events.put m (did m d (m.answer d (elements l s.words))) old
  now_is = let more : x.count + 1 ≡ suc x.count = omega arith in λ h. record {
    call = old.call;
    phase = x.phase;
    answers = x.answers ++ word_heard j s.words d in_e h;
    done = more h;
  }

  -- its act is what the core does, and it may
  pub acted : Acted j p f.laws (elements l s.words) e.index lies f.core t own.is bare x own.at own.phase_is u (hears found x) turn_index refl d
  acted = acts j p f.laws (elements l s.words) e.index lies f.core t own.is bare x own.at own.phase_is u (hears found x) turn_index refl d k
      (ap (left m) same_index ∙ next) now_is

  core_now : Cored j lies' (elements l ws')
  core_now = subst (Cored j lies') (sym (word_left j s.words d in_e)) acted.core

  in_table : t.berth.at < RECORDS * j.workers
  in_table = f.words.inside p t own.is

  said : (g w : ℕ) → g < FIELDS → word_at l s.words (record_word t.berth.at g) ≡ w → word_at l ws' (record_word t.berth.at g) ≡ w
  said g w few says = records_stay l s.words (place_of j.program.families d) new in_e t.berth.at g in_table few ∙ says

  turn : LoopTurn (layout_of j) lies s.words p t u ws'
  turn = record {
    is = own.is;
    runner = on.0;
    was = true;
    now = true;
    runs = on.1;
    runs_still = on.1;
    berth = refl;
    long = length-set s.words (place l q) new;
    states = λ a less. records_stay l s.words (place_of j.program.families d) new in_e a 0 less (omega arith);
    apart = λ a g less few ne. records_stay l s.words (place_of j.program.families d) new in_e a (suc g) less few;
    fields = λ a g less few y z. records_stay l s.words (place_of j.program.families d) new in_e a (suc g) less few;
    first = said 3 (packed_pair (record { low = t.berth.call.length; high = t.first })) (omega arith)
        (says_field l lies s.words f.words p t own.is (ap is_gone on.1) 3 (packed_pair (record { low = t.berth.call.length; high = t.first })) (omega arith) refl);
    left = said 4 t.unretired (omega arith) (says_field l lies s.words f.words p t own.is (ap is_gone on.1) 4 t.unretired (omega arith) refl);
    desks = record {
      requests = λ i less. shelf.else l s.words q (worker_word i request) new in_e less (λ h. cc);
      posts = λ i less. shelf.else l s.words q (worker_word i post) new in_e less (λ h. cc);
      answers = λ i less. shelf.else l s.words q (worker_word i answer) new in_e less (λ h. cc);
    };
    drawn = shelf.else l s.words q drawn_at new in_e tt (λ h. cc);
    stop = shelf.else l s.words q stop_at new in_e tt (λ h. cc);
    rises = let same = positions_stay l s.words (place_of j.program.families d) new in_e in omega (arith, same);
  }

  looped_now : Looped j.workers lies' (loop_words l ws') (hands_of (set s.views id (with_taken v after)))
  looped_now = looped_at j lies s f id v at live lies' ws' (with_taken v after) (loop_words l s.words)
      (loops_stay l s.words (place_of j.program.families d) new in_e)
      (subst (λ (xs : List IndexRun). Looped j.workers lies' (loop_words l s.words) (set (hands_of s.views) id (hand_of (with_taken v xs))))
      (ap (λ (xs : List IndexRun). set xs (length done) (heard found e)) taken ∙ set_middle done e (heard found e) rest)
      (index_acted j.workers lies (loop_words l s.words) (hands_of s.views) f.looped id (hand_of v) (hand_there j lies s f id v at live) (length done) e
      stands p refl t own.is found))

  pub acts_now : Facts j lies' record { words = ws'; homes = s.homes; views = set s.views id (with_taken v after) }
  acts_now = book_turned j lies s p t u ws' id v (with_taken v after).loops f at live (record {
    turn = turn;
    stage = refl;
    answers = refl;
    count = refl;
    long = change_long (hears found) e.index t.indexes;
    core = core_now;
    looped = looped_now;
    pending = refl;
    positions = positions_stay l s.words (place_of j.program.families d) new in_e;
  })
