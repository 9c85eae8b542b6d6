-- A step on a word that is no record's and no element's, and a field of the seat's next record.
use Rattle.std.proofs.Common.{◌≡◌, ◌≢◌, ℕ, suc, ◌+◌, ◌*◌, ◌<◌, ◌≤◌, ◌⊎◌, Bool, true, false, List, [], ◌∷◌, set, get_or, length, slice_index, sym, refl, ap, ◌∙◌, subst, inl, inr, arith, length-set, Some}
use mathlib.Core.Option.{none, some, some-injective, some-ne-none}
use lib.ListN.{get_elem?}
use Rattle.atomic_table.specs.Table.{State, Me, stepped, keeps, step, Allows}
use Rattle.kt_law.specs.declared.limits.TheConstants.{TASKS, INDEXES}
use Rattle.kt_runs.specs.ByPath.{Path}
use Rattle.kt_words.specs.Places.{Place, place, IsWithin, shared_word, worker_word, record_word, element_word, version_word, Own}
use Rattle.kt_words.specs.declared.layouts.TheConstants.{RECORDS, FIELDS}
use Rattle.kt_words.specs.declared.layouts.Layout.{Layout}
use Rattle.kt_rule.specs.declared.views.Setup.{Setup}
use Rattle.kt_rule.specs.declared.views.Stored.{Stored}
use Rattle.kt_rule.specs.declared.views.Execution.{Execution}
use Rattle.kt_rule.specs.declared.views.Region.{Region}
use Rattle.kt_rule.specs.declared.views.Draws.{Draws}
use Rattle.kt_rule.specs.declared.views.View.{View}
use Rattle.kt_rule.specs.Lists.{In, here, there}
use Rattle.kt_rule.specs.Lies.{Lie, Lies, Cored, is_gone}
use Rattle.kt_rule.specs.Records.{layout_of, word_at, elements, drawn_at, positions_at, stop_at, own_record, field_of, task_field, frame_floor}
use Rattle.kt_rule.specs.Facts.{IsHeadAt, IsAccessAt, IsLeft, Words, Owns, Fits, Drawn, Stopped}
use Rattle.kt_rule.specs.Rule.{Slots, Facts, Holds}
use Rattle.kt_rule.specs.Steps.{Tells, next_of, builds, Builds, MaySet, knows_stop, LoadsStop, StoresStop}
use Rattle.kt_rule.proofs.Shelf as shelf
use Rattle.kt_rule.proofs.Shelf.{IsNoElement, elements_else}
use Rattle.kt_rule.proofs.Words.{same_lie, Keeps, note_keeps, IsPlain}
use Rattle.kt_rule.specs.LoopWords.{hand_of}
use Rattle.kt_rule.proofs.LoopsStay.{loops_stay, looped_keeps}
use Rattle.kt_steps.proofs.LoopSeats.{at_hand}
use Rattle.kt_rule.proofs.Moves.{at_below, drawn_keeps, positions_keeps, same_posted, OwnStay, asked_keeps, assemble, learned}
use Rattle.kt_steps.proofs.Steps.{set_word, inside, holds_so}

plain_no_element : (q : Place) → IsPlain q → IsNoElement q
plain_no_element (shared_word w) h = tt
plain_no_element (worker_word k w) h = tt
plain_no_element (record_word a f) h = absurd h
plain_no_element (element_word e) h = absurd h
plain_no_element (version_word o) h = tt

-- a region where the state words and the tasks stay
owns_stay : (l : Layout) (lies : Lies) (ws ws' : List ℕ) (seat : ℕ) (region : Region) (built : List Stored) (running : List Execution)
    (begun : ℕ) → Owns l lies ws seat region running begun
    → ((a : ℕ) → a < RECORDS → word_at l ws' (record_word (own_record seat a) 0) ≡ word_at l ws (record_word (own_record seat a) 0))
    → (length region.spots < RECORDS → (b : Stored) → In b built
    → (0 < b.field) × (b.field < FIELDS) × (word_at l ws' (record_word (own_record seat (length region.spots)) b.field) ≡ b.word))
    → Owns l lies ws' seat (record region { built = built }) running begun
owns_stay l lies ws ws' seat region built running begun o state built_now = record {
  room = o.room;
  spots = o.spots;
  under = o.under;
  built = built_now;
  stack = o.stack;
  framed = o.framed;
  falls = o.falls;
  old = λ a less. subst (λ (n : ℕ). n ≤ frame_floor (suc begun)) (sym (state a less)) (o.old a less);
  low = λ e es is topmost a from less. subst (λ (n : ℕ). n ≤ frame_floor begun) (sym (state a less)) (o.low e es is topmost a from less);
}

module _ (j : Setup) (lies : Lies) (s : State Slots View) (f : Facts j lies s) where
  abbrev l : Layout
  l = layout_of j

  pub seat_in : (k : ℕ) (x : View) → get_elem? s.views k ≡ some x → k < j.workers
  seat_in k x e = let a = at_below s.views k x e in let b = f.counts.few in omega arith

  pub main_lives : (t : Lie) → lies [] ≡ some t → is_gone t.stage ≡ false
  main_lives t e = ap (λ (z : Lie). is_gone z.stage) (some-injective t f.root.0 (sym e ∙ f.root.1)) ∙ f.root.3

  module _ (q : Place) (in_q : IsWithin l q) (plain : IsPlain q) (n : ℕ) where
    abbrev ws' : List ℕ
    ws' = set s.words (place l q) n

    pub record_stays : (a g : ℕ) → a < RECORDS * j.workers → g < FIELDS
        → word_at l ws' (record_word a g) ≡ word_at l s.words (record_word a g)
    record_stays a g less few = shelf.else l s.words q (record_word a g) n in_q (less, few)
        (λ e. let x : ⊥ = subst IsPlain (sym e) plain in x)

    pub plain_keeps : Keeps l lies s.words lies ws'
    plain_keeps = record {
      kept = λ p x e. (x, e, same_lie x x refl);
      back = λ p y e. inl (y, e, same_lie y y refl);
      used = λ a g less h. subst (λ (x : ℕ). frame_floor g < x) (sym (record_stays a 0 less (omega arith))) h;
    }

    pub plain_core : Cored j lies (elements l ws')
    plain_core = subst (Cored j lies) (sym (elements_else l s.words q n in_q (plain_no_element q plain))) f.core

    pub plain_words : Words l lies ws'
    plain_words = let wd = f.words in record {
      wide = let a = length-set s.words (place l q) n in let b = wd.wide in omega arith;
      inside = wd.inside;
      sound = wd.sound;
      says = λ p t e g x few is. record_stays t.berth.at g (wd.inside p t e) few ∙ wd.says p t e g x few is;
      alone = wd.alone;
      named = λ a less. elim (wd.named a less) [
        | inl z ↦ inl (record_stays a 0 less (omega arith) ∙ z)
        | inr (inl h) ↦ inr (inl h)
        | inr
            (inr h) ↦ inr (inr (subst IsLeft (sym (record_stays a 0 less (omega arith))) h))
      ];
      beside = wd.beside;
      numbered = wd.numbered;
      parents = wd.parents;
      above = wd.above;
      heads = λ a less. subst IsHeadAt (sym (record_stays a 1 less (omega arith))) (wd.heads a less);
      accesses = λ a k less few. subst (IsAccessAt l.objects) (sym (record_stays a (13 + k) less (omega arith)))
          (wd.accesses a k less few);
    }

    pub plain_fits : (word_at l s.words stop_at ≡ 1 → word_at l ws' stop_at ≡ 1) → (k : ℕ) (x : View) → k < j.workers
        → Fits j lies s.words k x → Fits j lies ws' k x
    plain_fits stop k x few h = record {
      setup = h.setup;
      own = h.own;
      owns = λ live. let o = h.owns live in owns_stay l lies s.words ws' k x.region x.region.built x.tasks.running x.tasks.begun o
          (λ a less. record_stays (own_record k a) 0 (omega arith) (omega arith))
          (λ less b i. let g = o.built less b i in
          (g.0, g.1, record_stays (own_record k (length x.region.spots)) b.field (omega arith) g.1 ∙ g.2));
      running = h.running;
      halted = h.halted;
      ran = h.ran;
      begun = h.begun;
      mine = h.mine;
      given = h.given;
      known = h.known;
      notes = λ m i. note_keeps l lies s.words lies ws' plain_keeps m (h.notes m i);
      stop = λ e. stop (h.stop e);
      line = h.line;
    }

    -- a live seat steps on a word that is no worker's, and only what it drew and whether it knows the stop word may change
    pub aside : ((k : ℕ) (o : Own) → worker_word k o ≢ q) → positions_at ≢ q → (word_at l s.words stop_at ≡ 1 → word_at l ws' stop_at ≡ 1)
        → (id : ℕ) (v : View) → get_elem? s.views id ≡ some v → 0 < v.parts → (stop : Bool) (draws : Draws)
        → Drawn j lies ws' (set s.views id (record v { seen = record v.seen { stop = stop }; draws = draws })) → Stopped l ws'
        → (stop ≡ true → word_at l ws' stop_at ≡ 1)
        → Facts j lies record {
          words = ws';
          homes = s.homes;
          views = set s.views id
              (record v { seen = record v.seen { stop = stop }; draws = draws });
        }
    aside not_own not_positions stays id v at live stop draws drawn stopped knows =
        let w : View = record v { seen = record v.seen { stop = stop }; draws = draws } in
        let own : OwnStay l s.words ws' = (λ k o less. shelf.else l s.words q (worker_word k o) n in_q less (not_own k o)) in
        let fit = plain_fits stays id v (seat_in id v at) (f.fits id v at) in
        assemble j lies lies s ws' id v w f at live (record {
          parts = refl;
          made = refl;
          keeps = plain_keeps;
          root = main_lives;
          core = plain_core;
          words = plain_words;
          mine = λ p. refl;
          claimed = λ p. refl;
          given = λ p. refl;
          begun = λ p. refl;
          asked = asked_keeps l lies lies s.words ws' s.views id v w f.asked f.counts.few at refl refl own (same_posted lies) (λ p. refl)
              (f.asked.promises id v at) (λ k x ne e. f.asked.promises k x e);
          drawn = drawn;
          positions = positions_keeps j lies lies s.words ws' s.views id v w f.positions at refl refl (λ p h. h)
              (shelf.else l s.words q positions_at n in_q tt not_positions) (λ p. omega arith);
          stopped = stopped;
          looped = looped_keeps l lies lies s.words ws' s.views id v w f.looped (loops_stay lies) at refl
              (shelf.else l s.words q positions_at n in_q tt not_positions) own;
          fits = record {
            setup = fit.setup;
            own = fit.own;
            owns = fit.owns;
            running = fit.running;
            halted = fit.halted;
            ran = fit.ran;
            begun = fit.begun;
            mine = fit.mine;
            given = fit.given;
            known = fit.known;
            notes = fit.notes;
            stop = knows;
            line = fit.line;
          };
          others = λ k x ne e. plain_fits stays k x (seat_in k x e) (f.fits k x e);
          unmade = λ a from less z. record_stays a 0 less (omega arith) ∙ z;
        })

-- THE STOP WORD

-- a load of it
pub loads_stop : (opening : List ℕ) (slots id : ℕ) (me : Me Slots View) (j : Setup) (i : ℕ) → me.0.setup ≡ Some j → 0 < me.0.parts
    → i ≡ place (layout_of j) stop_at
    → Allows (Holds opening) slots id me i (λ n. n) (Tells LoadsStop (step slots i 0 0 none) me)
loads_stop opening slots id me j i setup live i_is s h _ at _ = elim f.stopped.word [
  | inl z ↦ (v, keeps, tt, holds v (learned j lies s f id v at live v.seen fit.known fit.notes fit.stop fit.line), (inl (n_is ∙ z, refl), refl))
  | inr o ↦ (
    knows_stop v,
    keeps,
    tt,
    holds (knows_stop v) (learned j lies s f id v at live
        (record v.seen { stop = true }) fit.known fit.notes (λ _. o.0) fit.line),
    (inr (n_is ∙ o.0, refl), refl),
  )
]
  where
    v : View
    v = me.0

    there_is : (lies : Lies) × Facts j lies s
    there_is = inside opening s j id v h at live setup

    lies : Lies
    lies = there_is.0

    f : Facts j lies s
    f = there_is.1

    fit : Fits j lies s.words id v
    fit = f.fits id v at

    n_is : slice_index s.words i ≡ word_at (layout_of j) s.words stop_at
    n_is = ap (slice_index s.words) i_is

    holds : (w : View) → Facts j lies record { words = s.words; homes = s.homes; views = set s.views id w }
        → Holds opening (stepped s i (get_or s.words i 0) id me.1 w keeps)
    holds w g = holds_so opening _ j lies (subst
        (λ (ws : List ℕ). Facts j lies record { words = ws; homes = s.homes; views = set s.views id w }) (sym (set_word s.words i)) g)

-- and the store of it by a seat a draw of which was over its limit
pub stores_stop : (opening : List ℕ) (slots id : ℕ) (me : Me Slots View) (j : Setup) (i : ℕ) → me.0.setup ≡ Some j → 0 < me.0.parts
    → (0 < me.0.draws.over) ⊎ (0 < me.0.loops.over) → i ≡ place (layout_of j) stop_at
    → Allows (Holds opening) slots id me i (λ _. 1) (λ n. Tells StoresStop (step slots i 1 0 none) me n)
stores_stop opening slots id me j i setup live over i_is s h _ at _ = (
  knows_stop v,
  keeps,
  tt,
  holds_so opening _ j lies (subst (λ (z : ℕ). Facts j lies record {
    words = set s.words z 1;
    homes = s.homes;
    views = set s.views id
        (knows_stop v);
  }) (sym i_is) done),
  (refl, refl),
)
  where
    v : View
    v = me.0

    there_is : (lies : Lies) × Facts j lies s
    there_is = inside opening s j id v h at live setup

    lies : Lies
    lies = there_is.0

    f : Facts j lies s
    f = there_is.1

    ws1 : List ℕ
    ws1 = set s.words (place (layout_of j) stop_at) 1

    now : word_at (layout_of j) ws1 stop_at ≡ 1
    now = shelf.here (layout_of j) s.words stop_at 1 tt f.words.wide

    drawn_stays : word_at (layout_of j) ws1 drawn_at ≡ word_at (layout_of j) s.words drawn_at
    drawn_stays = shelf.else (layout_of j) s.words stop_at drawn_at 1 tt tt (λ e. cc)

    crossed : (TASKS < word_at (layout_of j) ws1 drawn_at) ⊎ (INDEXES < word_at (layout_of j) ws1 positions_at)
    crossed = elim over [
      | inl tasks ↦ inl (let a = f.drawn.crossed id v at tasks in let b = drawn_stays in omega arith)
      | inr indexes ↦ inr (let a = (f.looped.handles id (hand_of v) (at_hand s.views id v at)).crossed indexes in
          let b : word_at (layout_of j) ws1 positions_at ≡ word_at (layout_of j) s.words positions_at
          = shelf.else (layout_of j) s.words stop_at positions_at 1 tt tt (λ e. cc) in omega arith)
    ]

    done : Facts j lies record { words = ws1; homes = s.homes; views = set s.views id (knows_stop v) }
    done = aside j lies s f stop_at tt tt 1 (λ k o e. cc) (λ e. cc) (λ _. now) id v at live true v.draws
        (drawn_keeps j lies lies s.words ws1 s.views id v (knows_stop v) f.drawn at refl refl refl (λ p h. h) drawn_stays
        (λ p. omega arith))
        (record { word = inr (now, crossed) }) (λ _. now)

-- A FIELD OF THE NEXT RECORD: a store

pub builds_one : (opening : List ℕ) (slots id : ℕ) (me : Me Slots View) (j : Setup) (g n i : ℕ) → me.0.setup ≡ Some j → 0 < me.0.parts
    → length me.0.region.spots < RECORDS → 0 < g → g < FIELDS → MaySet (layout_of j) g n
    → ((b : Stored) → In b me.0.region.built → b.field ≢ g)
    → i ≡ place (layout_of j) (record_word (next_of me.0) g) → Allows (Holds opening) slots id me i (λ _. n)
    (λ x. Tells (Builds g) (step slots i n 0 none) me x)
builds_one opening slots id me j g n i setup live room pos big may new i_is s h _ at _ = (
  builds v g n,
  keeps,
  tt,
  holds_so opening _ j lies (subst (λ (z : ℕ). Facts j lies record {
    words = set s.words z n;
    homes = s.homes;
    views = set s.views id
        (builds v g n);
  }) (sym i_at) done),
  (refl, refl),
)
  where
    v : View
    v = me.0

    there_is : (lies : Lies) × Facts j lies s
    there_is = inside opening s j id v h at live setup

    lies : Lies
    lies = there_is.0

    f : Facts j lies s
    f = there_is.1

    l1 : Layout
    l1 = layout_of j

    a0 : ℕ
    a0 = own_record id (length v.region.spots)

    few : id < j.workers
    few = seat_in j lies s f id v at

    in_q : IsWithin l1 (record_word a0 g)
    in_q = (let a = few in let b = room in (omega arith, big))

    i_at : i ≡ place l1 (record_word a0 g)
    i_at = i_is ∙ ap (λ (k : ℕ). place l1 (record_word (own_record k (length v.region.spots)) g)) ((f.fits id v at).own live)

    ws1 : List ℕ
    ws1 = set s.words (place l1 (record_word a0 g)) n

    owns : Owns l1 lies s.words id v.region v.tasks.running v.tasks.begun
    owns = (f.fits id v at).owns live

    -- any other word of a record stays
    stays : (a k : ℕ) → a < RECORDS * j.workers → k < FIELDS → (a ≢ a0) ⊎ (k ≢ g)
        → word_at l1 ws1 (record_word a k) ≡ word_at l1 s.words (record_word a k)
    stays a k less lower other = shelf.else l1 s.words (record_word a0 g) (record_word a k) n in_q (less, lower)
        (λ e. elim other [ inl d ↦ (let x : a ≡ a0 = cc in d x) | inr d ↦ (let x : k ≡ g = cc in d x) ])

    state_stays : (a : ℕ) → a < RECORDS * j.workers → word_at l1 ws1 (record_word a 0) ≡ word_at l1 s.words (record_word a 0)
    state_stays a less = stays a 0 less (omega arith) (inr (omega arith))

    own_stay : OwnStay l1 s.words ws1
    own_stay k o less = shelf.else l1 s.words (record_word a0 g) (worker_word k o) n in_q less (λ e. cc)

    -- no live task lies in the next record
    not_here : (p : Path) (t : Lie) → lies p ≡ some t → is_gone t.stage ≡ false → t.berth.at ≢ a0
    not_here p t e lives d = let m = owns.under p t (length v.region.spots) e lives room d in
        let a = at_below v.region.spots (length v.region.spots) m.0 m.1 in absurd (omega arith)

    lives : (t : Lie) (k x : ℕ) (b : Bool) → is_gone t.stage ≡ b → field_of t k ≡ some x → is_gone t.stage ≡ false
    lives t k x true e is = absurd (some-ne-none x (sym is ∙ ap (λ (c : Bool). Rattle.std.specs.Prelude.cond c none (task_field t k)) e))
    lives t k x false e is = e

    keeps_all : Keeps l1 lies s.words lies ws1
    keeps_all = record {
      kept = λ p x e. (x, e, same_lie x x refl);
      back = λ p y e. inl (y, e, same_lie y y refl);
      used = λ a k less u. subst (λ (x : ℕ). frame_floor k < x) (sym (state_stays a less)) u;
    }

    or_not : (a b : ℕ) → (a ≡ b) ⊎ (a ≢ b)
    or_not a b = grind arith

    set_there : word_at l1 ws1 (record_word a0 g) ≡ n
    set_there = shelf.here l1 s.words (record_word a0 g) n in_q f.words.wide

    -- a fact of the field k of every record
    each : (P : ℕ → Type 0) (k : ℕ) → k < FIELDS → (k ≡ g → P n)
        → ((a : ℕ) → a < RECORDS * j.workers → P (word_at l1 s.words (record_word a k))) → (a : ℕ) → a < RECORDS * j.workers
        → P (word_at l1 ws1 (record_word a k))
    each P k lower set_now old a less = elim (or_not a a0) [
      | inl e ↦ (elim (or_not k g) [
        | inl d ↦ subst P (sym ((λ x. word_at l1 ws1 (record_word (e x) (d x))) ∙ set_there)) (set_now d)
        | inr d ↦ subst P (sym (stays a k less lower (inr d))) (old a less)
      ])
      | inr e ↦ subst P (sym (stays a k less lower (inl e))) (old a less)
    ]

    words : Words l1 lies ws1
    words = let wd = f.words in record {
      wide = let a = length-set s.words (place l1 (record_word a0 g)) n in let b = wd.wide in omega arith;
      inside = wd.inside;
      sound = wd.sound;
      says = λ p t e k x lower is. stays t.berth.at k (wd.inside p t e) lower
          (inl (not_here p t e (lives t k x (is_gone t.stage) refl is))) ∙ wd.says p t e k x lower is;
      alone = wd.alone;
      named = λ a less. elim (wd.named a less) [
        | inl z ↦ inl (state_stays a less ∙ z)
        | inr (inl u) ↦ inr (inl u)
        | inr (inr u) ↦ inr
            (inr (subst IsLeft (sym (state_stays a less)) u))
      ];
      beside = wd.beside;
      numbered = wd.numbered;
      parents = wd.parents;
      above = wd.above;
      heads = each IsHeadAt 1 (omega arith) (λ e. may.0 (sym e)) wd.heads;
      accesses = λ a k less lower. each (IsAccessAt l1.objects) (13 + k) (omega arith) (λ e. may.1 k lower (sym e))
          (λ b small. wd.accesses b k small lower) a less;
    }

    stop_stays : word_at l1 ws1 stop_at ≡ word_at l1 s.words stop_at
    stop_stays = shelf.else l1 s.words (record_word a0 g) stop_at n in_q tt (λ e. cc)

    drawn_stays : word_at l1 ws1 drawn_at ≡ word_at l1 s.words drawn_at
    drawn_stays = shelf.else l1 s.words (record_word a0 g) drawn_at n in_q tt (λ e. cc)

    moved : (k : ℕ) (x : View) (built : List Stored) → k < j.workers → Fits j lies s.words k x
        → (0 < x.parts → length x.region.spots < RECORDS → (b : Stored) → In b built
        → (0 < b.field) × (b.field < FIELDS) × (word_at l1 ws1 (record_word (own_record k (length x.region.spots)) b.field) ≡ b.word))
        → Fits j lies ws1 k (record x { region = record x.region { built = built } })
    moved k x built less fit built_now = record {
      setup = fit.setup;
      own = fit.own;
      owns = λ here_too. owns_stay l1 lies s.words ws1 k x.region built x.tasks.running x.tasks.begun (fit.owns here_too)
          (λ a lower. state_stays (own_record k a) (omega arith)) (built_now here_too);
      running = fit.running;
      halted = fit.halted;
      ran = fit.ran;
      begun = fit.begun;
      mine = fit.mine;
      given = fit.given;
      known = fit.known;
      notes = λ m u. note_keeps l1 lies s.words lies ws1 keeps_all m (fit.notes m u);
      stop = λ e. stop_stays ∙ fit.stop e;
      line = fit.line;
    }

    built_own : (b : Stored) → In b (record { field = g; word = n } ∷ v.region.built)
        → (0 < b.field) × (b.field < FIELDS) × (word_at l1 ws1 (record_word a0 b.field) ≡ b.word)
    built_own b here = (pos, big, set_there)
    built_own b (there u) = let c = owns.built room b u in
        (c.0, c.1, stays a0 b.field (let a = few in let r = room in omega arith) c.1 (inr (new b u)) ∙ c.2)

    built_other : (k : ℕ) (x : View) → k ≢ id → k < j.workers → Fits j lies s.words k x → 0 < x.parts → length x.region.spots < RECORDS
        → (b : Stored) → In b x.region.built → (0 < b.field) × (b.field < FIELDS)
        × (word_at l1 ws1 (record_word (own_record k (length x.region.spots)) b.field) ≡ b.word)
    built_other k x ne less fit here_too lower b u = let c = (fit.owns here_too).built lower b u in (
      c.0,
      c.1,
      stays (own_record k (length x.region.spots)) b.field (omega arith) c.1 (inl (let r = room in λ d. ne (omega arith)))
          ∙ c.2,
    )

    done : Facts j lies record { words = ws1; homes = s.homes; views = set s.views id (builds v g n) }
    done = assemble j lies lies s ws1 id v (builds v g n) f at live (record {
      parts = refl;
      made = refl;
      keeps = keeps_all;
      root = main_lives j lies s f;
      core = subst (Cored j lies) (sym (elements_else l1 s.words (record_word a0 g) n in_q tt)) f.core;
      words = words;
      mine = λ p. refl;
      claimed = λ p. refl;
      given = λ p. refl;
      begun = λ p. refl;
      asked = asked_keeps l1 lies lies s.words ws1 s.views id v (builds v g n) f.asked f.counts.few at refl refl own_stay
          (same_posted lies) (λ p. refl) (f.asked.promises id v at) (λ k x ne e. f.asked.promises k x e);
      drawn = drawn_keeps j lies lies s.words ws1 s.views id v (builds v g n) f.drawn at refl refl refl (λ p u. u) drawn_stays
          (λ p. omega arith);
      positions = positions_keeps j lies lies s.words ws1 s.views id v (builds v g n) f.positions at refl refl (λ p h. h)
          (shelf.else l1 s.words (record_word a0 g) positions_at n in_q tt (λ e. cc)) (λ p. omega arith);
      stopped = record {
        word = elim f.stopped.word [
          | inl z ↦ inl (stop_stays ∙ z)
          | inr o ↦ inr (
            stop_stays ∙ o.0,
            elim o.1 [
              | inl tasks ↦ inl (let a = drawn_stays in omega arith)
              | inr indexes ↦ inr (let a : word_at l1 ws1 positions_at ≡ word_at l1 s.words positions_at
                  = shelf.else l1 s.words (record_word a0 g) positions_at n in_q tt (λ e. cc) in omega arith)
            ],
          )
        ];
      };
      looped = looped_keeps l1 lies lies s.words ws1 s.views id v (builds v g n) f.looped (loops_stay lies) at refl
          (shelf.else l1 s.words (record_word a0 g) positions_at n in_q tt (λ e. cc)) own_stay;
      fits = moved id v (record { field = g; word = n } ∷ v.region.built) few (f.fits id v at) (λ _ _. built_own);
      others = λ k x ne e. moved k x x.region.built (seat_in j lies s f k x e) (f.fits k x e)
          (built_other k x ne (seat_in j lies s f k x e) (f.fits k x e));
      unmade = λ a from less z. state_stays a less ∙ z;
    })
