-- A step of a live seat: the rule again, from what the step owes (`Owed`). Every kind of step ends in one of three: a
-- turn of one task (`turned`), a load (`learned`), or `assemble` itself. A later fact over words that are no record's
-- and no element's gets a field of `Owed`, and one lemma that it stays where those words do.
use Rattle.std.proofs.Common.{◌≡◌, ◌≢◌, ℕ, zero, suc, ◌+◌, ◌*◌, ◌<◌, ◌≤◌, ◌⊎◌, true, false, cond, List, [], ◌∷◌, length, set, sym, refl, ap, ◌∙◌, subst, inl, inr, arith, ⊎_elim, length-set}
use mathlib.Core.Option.{some, some-injective, some-ne-none}
use lib.ListN.{get_elem?}
use Rattle.atomic_table.specs.Table.{State}
use Rattle.atomic_table.proofs.Lists.{at_set}
use Rattle.kt_law.specs.declared.limits.TheConstants.{TASKS}
use Rattle.kt_order.specs.Forest.{Finished}
use Rattle.kt_order.specs.Paths.{same_path}
use Rattle.kt_runs.specs.ByPath.{Path, child}
use Rattle.kt_words.specs.Places.{record_word, worker_word, Own, request, post, answer}
use Rattle.kt_words.specs.declared.layouts.Layout.{Layout}
use Rattle.kt_words.specs.declared.layouts.TheConstants.{RECORDS, FIELDS}
use Rattle.kt_rule.specs.declared.views.Setup.{Setup}
use Rattle.kt_rule.specs.declared.views.Spot.{Spot}
use Rattle.kt_rule.specs.declared.views.Execution.{Execution}
use Rattle.kt_rule.specs.declared.views.Promise.{Promise}
use Rattle.kt_rule.specs.declared.views.Note.{Note}
use Rattle.kt_rule.specs.declared.views.Tasks.{Tasks}
use Rattle.kt_rule.specs.declared.views.Seen.{Seen}
use Rattle.kt_rule.specs.declared.views.Region.{Region}
use Rattle.kt_rule.specs.declared.views.Desk.{Desk}
use Rattle.kt_rule.specs.declared.views.Share.{Share}
use Rattle.kt_rule.specs.declared.views.View.{View}
use Rattle.kt_rule.specs.Paths.{put}
use Rattle.kt_rule.specs.Lists.{weigh, times, In}
use Rattle.kt_rule.specs.Lies.{Posted, Lie, Lies, Cored, phase_of, is_gone}
use Rattle.kt_rule.specs.Records.{layout_of, word_at, elements, drawn_at, positions_at, stop_at, own_record}
use Rattle.kt_rule.specs.Views.{spot_path, path_of, promise_path, mine_in, claimed_in, promised_in, given_in, begun_in, drawn_in, executions, indexes_of, share_long, positions_in, pending_in, main_berth}
use Rattle.kt_rule.specs.Facts.{is_there, is_claimed, is_promised, is_given, is_begun, tally, Words, IsSo, IsUnderWay, IsOver, IsPublished, IsKnownFinished, IsGiven, Owns, Fits, waiting, Drawn, waiting_indexes, Positions, Stopped}
use Rattle.kt_rule.specs.Requests.{IsPromised, Desked, Asked}
use Rattle.kt_rule.specs.LoopWords.{loop_words, hands_of}
use Rattle.kt_rule.specs.LoopFacts.{Looped}
use Rattle.kt_rule.specs.Rule.{Slots, Facts}
use Rattle.kt_rule.proofs.Puts.{put_here, put_else, put_cases, at_put}
use Rattle.kt_rule.proofs.Sums.{weigh_set, tally_step, among}
use Rattle.kt_rule.proofs.LoopsStay.{SameLoop, LoopsStay, loops_stay, put_stay, looped_keeps}
use Rattle.kt_rule.proofs.Words.{same_at, same_frame, Keeps, nothing_changes, berth_keeps, known_keeps, note_keeps, Quiet, Turn, turn_back, turn_kept, turn_zeros, turn_low, turn_keeps, turn_words}

pub at_below : {A : Type 0} (xs : List A) (i : ℕ) (x : A) → get_elem? xs i ≡ some x → i < length xs
at_below [] i x e = absurd (some-ne-none x (sym e))
at_below (y ∷ xs) zero x e = omega arith
at_below (y ∷ xs) (suc i) x e = let h = at_below xs i x e in omega arith

-- a fact of each view, where one view changes
pub each_view : (P : ℕ → View → Type 0) (views : List View) (id : ℕ) (w : View) → P id w
    → ((k : ℕ) (x : View) → k ≢ id → get_elem? views k ≡ some x → P k x)
    → (k : ℕ) (x : View) → get_elem? (set views id w) k ≡ some x → P k x
each_view P views id w own others k x e = ⊎_elim
    (λ (h : (k ≡ id) × (w ≡ x)). subst (λ (z : ℕ × View). P z.0 z.1) (λ i. (sym h.0 i, h.1 i)) own)
    (λ (h : (k ≢ id) × (get_elem? views k ≡ some x)). others k x h.0 h.1) (at_set views id k w x e)

-- THE DRAWN COUNT, where its word and what was drawn stay

pub drawn_keeps : (j : Setup) (lies lies' : Lies) (ws ws' : List ℕ) (views : List View) (id : ℕ) (v w : View) → Drawn j lies ws views
    → get_elem? views id ≡ some v
    → length w.region.mine ≡ length v.region.mine → w.draws ≡ v.draws → w.parts ≡ v.parts
    → ((p : Path) → 0 < begun_in v p → 0 < begun_in w p)
    → word_at (layout_of j) ws' drawn_at ≡ word_at (layout_of j) ws drawn_at
    → ((p : Path) → waiting j p (lies p) ≤ waiting j p (lies' p)) → Drawn j lies' ws' (set views id w)
drawn_keeps j lies lies' ws ws' views id v w d at mine draws parts runs_more word more = record {
  count = let h = weigh_set (λ (x : View). length x.region.mine + length x.draws.hands) views id v w at in let k = d.count in
      let b = ap (λ z. length z.hands) draws in omega arith;
  hands = λ p. let h = weigh_set (λ (x : View). drawn_in x p) views id v w at in let k = d.hands p in
      let a = ap (λ z. times p z.hands) draws in let m = more p in omega arith;
  begun = each_view (λ k x. (p : Path) → In p x.draws.hands → 0 < begun_in x p) views id w
      (λ p i. runs_more p (d.begun id v at p (subst (λ z. In p z.hands) draws i))) (λ k x n e. d.begun k x e);
  bound = let h = weigh_set (λ (x : View). x.draws.over) views id v w at in let k = d.bound in
      let a = ap (λ z. z.over) draws in omega arith;
  overs = each_view (λ k x. x.draws.over ≤ x.parts) views id w (let a = d.overs id v at in let c = ap (λ z. z.over) draws in omega arith)
      (λ k x n e. d.overs k x e);
  held = each_view (λ k x. x.draws.over ≤ length x.draws.hands) views id w
      (subst (λ z. z.over ≤ length z.hands) (sym draws) (d.held id v at)) (λ k x n e. d.held k x e);
  crossed = each_view (λ k x. 0 < x.draws.over → TASKS < word_at (layout_of j) ws' drawn_at) views id w
      (λ over. let b = ap (λ z. z.over) draws in let c = d.crossed id v at (omega arith) in omega arith)
      (λ k x n e over. let c = d.crossed k x e over in omega arith);
}

-- THE COUNT OF POSITIONS, where its word and what was drawn stay

pub positions_keeps : (j : Setup) (lies lies' : Lies) (ws ws' : List ℕ) (views : List View) (id : ℕ) (v w : View)
    → Positions j lies ws views → get_elem? views id ≡ some v
    → positions_in w ≡ positions_in v → w.loops.pending ≡ v.loops.pending
    → ((p : Path) → 0 < begun_in v p → 0 < begun_in w p)
    → word_at (layout_of j) ws' positions_at ≡ word_at (layout_of j) ws positions_at
    → ((p : Path) → waiting_indexes j p (lies p) ≤ waiting_indexes j p (lies' p)) → Positions j lies' ws' (set views id w)
positions_keeps j lies lies' ws ws' views id v w d at same pending runs_more word more = record {
  count = let h = weigh_set positions_in views id v w at in let k = d.count in omega arith;
  pending = λ p. let h = weigh_set (λ (x : View). pending_in x p) views id v w at in let k = d.pending p in
      let a = ap (λ xs. weigh (λ (x : Share). cond (same_path p x.spot.path) (share_long x) 0) xs) pending in let m = more p in omega arith;
  begun = each_view (λ k x. (y : Share) → In y x.loops.pending → 0 < begun_in x y.spot.path) views id w
      (λ y i. runs_more y.spot.path (d.begun id v at y (subst (In y) pending i))) (λ k x n e. d.begun k x e);
}

-- REQUESTS, where their words and the tasks that are posted stay

pub record SamePosted (lies lies' : Lies) : Type 0 where
  pub forth : (q : Path) (x : Lie) (k : ℕ) → lies q ≡ some x → x.stage ≡ Posted k → lies' q ≡ some x
  pub back : (q : Path) (y : Lie) (k : ℕ) → lies' q ≡ some y → y.stage ≡ Posted k → lies q ≡ some y

pub same_posted : (lies : Lies) → SamePosted lies lies
same_posted lies = record { forth = λ q x k e o. e; back = λ q y k e o. e }

pub posted_put : (lies : Lies) (p : Path) (t u : Lie) → lies p ≡ some t → ((k : ℕ) → t.stage ≢ Posted k) → ((k : ℕ) → u.stage ≢ Posted k)
    → SamePosted lies (put lies p (some u))
posted_put lies p t u is t_not u_not = record {
  forth = λ q x k e o. put_else lies p (some u) q (λ d. t_not k
      (ap (λ (z : Lie). z.stage) (some-injective t x (sym is ∙ (ap lies d ∙ e))) ∙ o)) ∙ e;
  back = λ q y k e o. ⊎_elim (λ (h : (p ≡ q) × (u ≡ y)). absurd (u_not k (ap (λ (z : Lie). z.stage) h.1 ∙ o)))
      (λ (h : (p ≢ q) × (lies q ≡ some y)). h.1) (at_put lies p q u y e);
}

-- the words of the workers stay
abbrev pub OwnStay : Layout → List ℕ → List ℕ → Type 0
OwnStay l ws ws' = (k : ℕ) (o : Own) → k < l.workers → word_at l ws' (worker_word k o) ≡ word_at l ws (worker_word k o)

pub quiet_own : (l : Layout) (ws ws' : List ℕ) → Quiet l ws ws' → OwnStay l ws ws'
quiet_own l ws ws' quiet k o less = quiet (worker_word k o) tt less

pub desked_stays : (l : Layout) (ws ws' : List ℕ) → OwnStay l ws ws' → (seat : ℕ) → seat < l.workers → (d : Desk) → Desked l ws seat d
    → Desked l ws' seat d
desked_stays l ws ws' own seat less d h = record {
  free = λ e. own seat post less ∙ h.free e;
  busy = λ e. let a = own seat post less in let b = h.busy e in omega arith;
  asked = λ y e p. h.asked y e (sym (own seat post less) ∙ p);
  lead = λ e. let a = h.lead e in (a.0, own d.victim request a.0 ∙ a.1);
  held = λ k i. let a = h.held k i in (a.0, a.1, own k post a.0 ∙ a.2);
  saw = λ e. let a = h.saw e in (a.0, a.1, a.2, own seat post less ∙ a.3);
  wrote = λ e i. let a = h.wrote e i in (a.0, own e.thief answer (h.held e.thief a.0).0 ∙ a.1);
  got = λ e. let a = h.got e in (a.0, own seat answer less ∙ a.1);
}

module _ (l : Layout) (lies lies' : Lies) (ws ws' : List ℕ) (views : List View) (id : ℕ) (v w : View) (a : Asked l lies ws views)
    (few : length views ≤ l.workers) (at : get_elem? views id ≡ some v)
    (parts : w.parts ≡ v.parts) (desk : w.desk ≡ v.desk) (own_words : OwnStay l ws ws') (posted : SamePosted lies lies') where
  seat_in : (k : ℕ) (x : View) → get_elem? views k ≡ some x → k < l.workers
  seat_in k x e = let b = at_below views k x e in omega arith

  pub asked_keeps : ((q : Path) → promised_in w q + tally is_promised (lies q) ≡ promised_in v q + tally is_promised (lies' q))
      → ((m : Promise) → In m w.tasks.promised → IsPromised lies' m)
      → ((k : ℕ) (x : View) → k ≢ id → get_elem? views k ≡ some x → (m : Promise) → In m x.tasks.promised → IsPromised lies' m)
      → Asked l lies' ws' (set views id w)
  asked_keeps promised own others = record {
    posts = λ k less. let h = a.posts k less in (h.0, h.1, own_words k post less ∙ h.2);
    leads = λ k less. let h = a.leads k less in let e = own_words k request less in omega arith;
    tasks = λ k r less e. let h = a.tasks k r less (sym (own_words k post less) ∙ e) in
        (h.0, h.1, posted.forth h.0 h.1 k h.2 h.4, h.3, h.4);
    posted = λ p t k e o. let h = a.posted p t k (posted.back p t k e o) o in (h.0, own_words k post h.0 ∙ h.1);
    promised = tally_step promised_in is_promised lies views id v a.promised at w lies' promised;
    promises = each_view (λ k x. (m : Promise) → In m x.tasks.promised → IsPromised lies' m) views id w own others;
    desks = each_view (λ k x. 0 < x.parts → Desked l ws' k x.desk) views id w
        (λ live. subst (Desked l ws' id) (sym desk) (desked_stays l ws ws' own_words id (seat_in id v at) v.desk
        (a.desks id v at (omega arith))))
        (λ k x n e live. desked_stays l ws ws' own_words k (seat_in k x e) x.desk (a.desks k x e live));
    unasked = λ k from less. let n = length-set views id w in own_words k post less ∙ a.unasked k (omega arith) less;
  }

-- ASSEMBLY

-- what a step of the seat `id` from v to w owes, where the words become ws' and the tasks lies'; it may leave both as they are
pub record Owed (j : Setup) (lies : Lies) (s : State Slots View) (id : ℕ) (v : View) (lies' : Lies) (ws' : List ℕ)
    (w : View) : Type 0 where
  pub parts : w.parts ≡ v.parts
  pub made : w.made ≡ v.made
  pub keeps : Keeps (layout_of j) lies s.words lies' ws'
  pub root : (t : Lie) → lies' [] ≡ some t → is_gone t.stage ≡ false
  pub core : Cored j lies' (elements (layout_of j) ws')
  pub words : Words (layout_of j) lies' ws'
  -- each list changes as the tasks do
  pub mine : (q : Path) → mine_in w q + tally is_there (lies q) ≡ mine_in v q + tally is_there (lies' q)
  pub claimed : (q : Path) → claimed_in w q + tally is_claimed (lies q) ≡ claimed_in v q + tally is_claimed (lies' q)
  pub given : (q : Path) → given_in w q + tally is_given (lies q) ≡ given_in v q + tally is_given (lies' q)
  pub begun : (q : Path) → begun_in w q + tally is_begun (lies q) ≡ begun_in v q + tally is_begun (lies' q)
  -- the facts on words that are no record's and no element's
  pub asked : Asked (layout_of j) lies' ws' (set s.views id w)
  pub drawn : Drawn j lies' ws' (set s.views id w)
  pub positions : Positions j lies' ws' (set s.views id w)
  pub stopped : Stopped (layout_of j) ws'
  pub looped : Looped j.workers lies' (loop_words (layout_of j) ws') (hands_of (set s.views id w))
  -- what the seat knows, and what the others know
  pub fits : Fits j lies' ws' id w
  pub others : (k : ℕ) (x : View) → k ≢ id → get_elem? s.views k ≡ some x → Fits j lies' ws' k x
  pub unmade : (a : ℕ) → RECORDS * length s.views ≤ a → a < RECORDS * j.workers → word_at (layout_of j) s.words (record_word a 0) ≡ 0
      → word_at (layout_of j) ws' (record_word a 0) ≡ 0

pub assemble : (j : Setup) (lies lies' : Lies) (s : State Slots View) (ws' : List ℕ) (id : ℕ) (v w : View) → Facts j lies s
    → get_elem? s.views id ≡ some v → 0 < v.parts
    → Owed j lies s id v lies' ws' w → Facts j lies' record { words = ws'; homes = s.homes; views = set s.views id w }
assemble j lies lies' s ws' id v w f at live o = record {
  crew = f.crew;
  accepted = f.accepted;
  laws = f.laws;
  core = o.core;
  words = o.words;
  root = let r = berth_keeps (layout_of j) lies s.words lies' ws' o.keeps [] main_berth (f.root.0, f.root.1, f.root.2) in
      (r.0, r.1, r.2, o.root r.0 r.1);
  counts = record {
    parts = let h = weigh_set (λ (x : View). x.parts) s.views id v w at in let k = f.counts.parts in let p = o.parts in omega arith;
    mine = tally_step mine_in is_there lies s.views id v f.counts.mine at w lies' o.mine;
    claimed = tally_step claimed_in is_claimed lies s.views id v f.counts.claimed at w lies' o.claimed;
    given = tally_step given_in is_given lies s.views id v f.counts.given at w lies' o.given;
    begun = tally_step begun_in is_begun lies s.views id v f.counts.begun at w lies' o.begun;
    few = let n = length-set s.views id w in let k = f.counts.few in omega arith;
    made = let n = length-set s.views id w in each_view (λ k x. 0 < x.made → (k ≡ 0) × (length (set s.views id w) ≡ x.made)) s.views id w
        (λ some_made. let m = o.made in let k = f.counts.made id v at (omega arith) in let k1 : length s.views ≡ v.made = k.1 in
        (k.0, omega arith))
        (λ k x ne e some_made. let h = f.counts.made k x e some_made in let h1 : length s.views ≡ x.made = h.1 in (h.0, omega arith));
    idle = each_view (λ k x. x.parts ≡ 0 → x ≡ _) s.views id w (λ none_left. let p = o.parts in absurd (omega arith))
        (λ k x ne e. f.counts.idle k x e);
  };
  asked = o.asked;
  drawn = o.drawn;
  positions = o.positions;
  stopped = o.stopped;
  looped = o.looped;
  fits = each_view (Fits j lies' ws') s.views id w o.fits o.others;
  unmade = λ a from less. let n = length-set s.views id w in o.unmade a (omega arith) less (f.unmade a (omega arith) less);
}

pub stopped_quiet : (l : Layout) (ws ws' : List ℕ) → Quiet l ws ws' → Stopped l ws → Stopped l ws'
stopped_quiet l ws ws' quiet s = record {
  word = elim s.word [
    | inl z ↦ inl (quiet stop_at tt tt ∙ z)
    | inr h ↦ inr (
      quiet stop_at tt tt ∙ h.0,
      elim h.1 [
        | inl tasks ↦ inl (let e = quiet drawn_at tt tt in omega arith)
        | inr positions ↦ inr (let e = quiet positions_at tt tt in omega arith)
      ],
    )
  ];
}

-- what a seat knows stays so, where none of the tasks that it has in hand changes
pub fits_keep : (j : Setup) (lies : Lies) (ws : List ℕ) (lies' : Lies) (ws' : List ℕ) → Keeps (layout_of j) lies ws lies' ws'
    → (seat : ℕ) (v : View) → Fits j lies ws seat v
    → (Owns (layout_of j) lies ws seat v.region v.tasks.running v.tasks.begun
    → Owns (layout_of j) lies' ws' seat v.region v.tasks.running v.tasks.begun)
    → (word_at (layout_of j) ws stop_at ≡ 1 → word_at (layout_of j) ws' stop_at ≡ 1)
    → ((q : Path) → 0 < begun_in v q + given_in v q → lies' q ≡ lies q) → Fits j lies' ws' seat v
fits_keep j lies ws lies' ws' k seat v f owns stop same = record {
  setup = f.setup;
  own = f.own;
  owns = λ live. owns (f.owns live);
  running = λ e i. let h = f.running e i in
      (h.0, same e.spot.path (let a = among path_of v.tasks.running e i in omega arith) ∙ h.1, h.2, h.3);
  halted = λ e i. let h = f.halted e i in
      (h.0, same e.spot.path (let a = among path_of v.tasks.halted e i in omega arith) ∙ h.1, h.2, h.3);
  ran = λ e i. let h = f.ran e i in (h.0, same e.spot.path (let a = among path_of v.tasks.ran e i in omega arith) ∙ h.1, h.2, h.3);
  begun = f.begun;
  mine = λ m i. berth_keeps (layout_of j) lies ws lies' ws' k m.path m.berth (f.mine m i);
  given = λ m i. let h = f.given m i in (h.0, same m.path (let a = among spot_path v.tasks.given m i in omega arith) ∙ h.1, h.2, h.3);
  known = λ p i. known_keeps (layout_of j) lies ws lies' ws' k p (f.known p i);
  notes = λ n i. note_keeps (layout_of j) lies ws lies' ws' k n (f.notes n i);
  stop = λ e. stop (f.stop e);
  line = λ m i. berth_keeps (layout_of j) lies ws lies' ws' k m.path m.berth (f.line m i);
}

-- A TURN OF ONE TASK

module _ (l : Layout) (lies : Lies) (ws : List ℕ) (p : Path) (t u : Lie) (ws' : List ℕ) (it : Turn l lies ws p t u ws')
    (wd : Words l lies ws) where
  -- of every seat's region, the one's that makes the step too
  pub turn_owns : (seat : ℕ) (region : Region) (running : List Execution) (begun : ℕ) → seat < l.workers
      → Owns l lies ws seat region running begun → Owns l (put lies p (some u)) ws' seat region running begun
  turn_owns seat region running begun few o = record {
    room = o.room;
    spots = λ a m e. let x = o.spots a m e in let y = turn_kept l lies ws p t u ws' it wd m.path x.1.0 x.1.1 in
        (x.0, (y.0, y.1, y.2.berth ∙ x.1.2, y.3 ∙ x.1.3));
    under = λ q y a e live less at. let x = turn_back l lies ws p t u ws' it wd q y e in o.under q x.x a x.is (sym x.gone ∙ live) less
        (sym (same_at x.x y x.same) ∙ at);
    built = λ less b i. let h = o.built less b i in (h.0, h.1, later_of b.field h.0 h.1 (length region.spots) less ∙ h.2);
    stack = o.stack;
    framed = λ e i k y d. let x = turn_back l lies ws p t u ws' it wd (child e.spot.path k) y d in same_frame x.x y x.same
        ∙ o.framed e i k x.x x.is;
    falls = o.falls;
    old = λ a less. turn_low l lies ws p t u ws' it wd (own_record seat a) (suc begun) (omega arith) (o.old a less);
    low = λ e es is topmost a from less. turn_low l lies ws p t u ws' it wd (own_record seat a) begun (omega arith)
        (o.low e es is topmost a from less);
  }
    where
      later_of : (g : ℕ) → 0 < g → g < FIELDS → (a : ℕ) → a < RECORDS
          → word_at l ws' (record_word (own_record seat a) g) ≡ word_at l ws (record_word (own_record seat a) g)
      later_of zero pos big a less = absurd (omega arith)
      later_of (suc g) pos big a less = it.later (own_record seat a) g (omega arith) big

-- the view of a seat whose tasks change, and those that it knows finished
abbrev pub with_tasks : View → Tasks → List Path → View
with_tasks v tasks known = record v { tasks = tasks; seen = record v.seen { known = known } }

-- what a turn of the task at p by the seat `id` owes
pub record Turned (j : Setup) (lies : Lies) (s : State Slots View) (p : Path) (t u : Lie) (ws' : List ℕ) (id : ℕ) (v : View)
    (tasks : Tasks) (known : List Path) : Type 0 where
  pub turn : Turn (layout_of j) lies s.words p t u ws'
  pub loop : SameLoop t u
  pub core : Cored j (put lies p (some u)) (elements (layout_of j) ws')
  pub unposted : (k : ℕ) → t.stage ≢ Posted k
  pub unposted_now : (k : ℕ) → u.stage ≢ Posted k
  pub waits : waiting j p (some t) ≤ waiting j p (some u)
  pub waits_indexes : waiting_indexes j p (some t) ≤ waiting_indexes j p (some u)
  pub positions : weigh indexes_of (executions (with_tasks v tasks known)) ≡ weigh indexes_of (executions v)
  pub claimed : (q : Path) → claimed_in (with_tasks v tasks known) q + tally is_claimed (lies q) ≡ claimed_in v q + tally is_claimed
      (put lies p (some u) q)
  pub promised : (q : Path) → promised_in (with_tasks v tasks known) q + tally is_promised (lies q) ≡ promised_in v q + tally is_promised
      (put lies p (some u) q)
  pub given : (q : Path) → given_in (with_tasks v tasks known) q + tally is_given (lies q) ≡ given_in v q + tally is_given
      (put lies p (some u) q)
  pub begun : (q : Path) → begun_in (with_tasks v tasks known) q + tally is_begun (lies q) ≡ begun_in v q + tally is_begun
      (put lies p (some u) q)
  pub more : (q : Path) → 0 < begun_in v q → 0 < begun_in (with_tasks v tasks known) q
  -- what the seat knows of the tasks in its hands
  pub owns : Owns (layout_of j) (put lies p (some u)) ws' id v.region v.tasks.running v.tasks.begun
      → Owns (layout_of j) (put lies p (some u)) ws' id v.region tasks.running tasks.begun
  pub running : (e : Execution) → In e tasks.running → IsUnderWay j (put lies p (some u)) e
  pub halted : (e : Execution) → In e tasks.halted → IsUnderWay j (put lies p (some u)) e
  pub ran : (e : Execution) → In e tasks.ran → IsOver j (put lies p (some u)) e
  pub bound : tasks.begun ≤ length tasks.running + (length tasks.halted + length tasks.ran)
  pub promises : (m : Promise) → In m tasks.promised → IsPromised (put lies p (some u)) m
  pub gives : (m : Spot) → In m tasks.given → IsGiven (put lies p (some u)) m
  pub knows : (q : Path) → In q known → In q v.seen.known ⊎ ((p ≡ q) × (phase_of u.stage ≡ Finished))
  -- nobody else has the task in hand
  pub alone : (k : ℕ) (x : View) → k ≢ id → get_elem? s.views k ≡ some x → (begun_in x p ≡ 0) × (given_in x p ≡ 0) × (promised_in x p ≡ 0)

pub positive_not : (n : ℕ) → n ≡ 0 → 0 < n → ⊥
positive_not n e h = absurd (omega arith)

pub turned : (j : Setup) (lies : Lies) (s : State Slots View) (p : Path) (t u : Lie) (ws' : List ℕ) (id : ℕ) (v : View) (tasks : Tasks)
    (known : List Path) → Facts j lies s → get_elem? s.views id ≡ some v → 0 < v.parts
    → Turned j lies s p t u ws' id v tasks known
    → Facts j (put lies p (some u)) record { words = ws'; homes = s.homes; views = set s.views id (with_tasks v tasks known) }
turned j lies s p t u ws' id v tasks known f at live o =
    let l = layout_of j in
    let w : View = with_tasks v tasks known in
    let lies' : Lies = put lies p (some u) in
    let keeps = turn_keeps l lies s.words p t u ws' o.turn f.words in
    let seat_in : (k : ℕ) (x : View) → get_elem? s.views k ≡ some x
    → k < j.workers = (λ k x e. let a = at_below s.views k x e in let b = f.counts.few in omega arith) in
    let fit = f.fits id v at in
    let owns : (k : ℕ) (x : View) → k < j.workers → Owns l lies s.words k x.region x.tasks.running x.tasks.begun
    → Owns l lies' ws' k x.region x.tasks.running x.tasks.begun
    = (λ k x few. turn_owns l lies s.words p t u ws' o.turn f.words k x.region x.tasks.running x.tasks.begun few) in
    let stop : word_at l s.words stop_at ≡ 1 → word_at l ws' stop_at ≡ 1 = (λ e. o.turn.quiet stop_at tt tt ∙ e) in
    assemble j lies lies' s ws' id v w f at live (record {
      parts = refl;
      made = refl;
      keeps = keeps;
      root = λ y e. let x = turn_back l lies s.words p t u ws' o.turn f.words [] y e in x.gone ∙
          (ap (λ (z : Lie). is_gone z.stage) (some-injective x.x f.root.0 (sym x.is ∙ f.root.1)) ∙ f.root.3);
      core = o.core;
      words = turn_words l lies s.words p t u ws' o.turn f.words;
      mine = λ q. Rattle.kt_rule.proofs.Sums.stays mine_in is_there lies v w p t u o.turn.is refl (λ q. refl) q;
      claimed = o.claimed;
      given = o.given;
      begun = o.begun;
      asked = asked_keeps l lies lies' s.words ws' s.views id v w f.asked f.counts.few at refl refl
          (quiet_own l s.words ws' o.turn.quiet) (posted_put lies p t u o.turn.is o.unposted o.unposted_now) o.promised o.promises
          (λ k x n e m i. let h = f.asked.promises k x e m i in let a = o.alone k x n e in (
            h.0,
            put_else lies p (some u) m.spot.path (λ d. positive_not (promised_in x p) a.2
                (subst (λ (q : Path). 0 < promised_in x q) (sym d) (among promise_path x.tasks.promised m i))) ∙ h.1,
            h.2,
            h.3,
          ));
      drawn = drawn_keeps j lies lies' s.words ws' s.views id v w f.drawn at refl refl refl o.more (o.turn.quiet drawn_at tt tt)
          (λ q. elim (put_cases lies p (some u) q) [
            | inl h ↦ (let a : waiting j q (lies q) ≡ waiting j p (some t) = (λ i. waiting j (sym h.0 i) (lies (sym h.0 i))) ∙ ap
                (waiting j p) o.turn.is in
                let b : waiting j q (lies' q) ≡ waiting j p (some u) = ap (waiting j q) h.1 ∙ ap (λ (z : Path). waiting j z (some u))
                (sym h.0) in let c = o.waits in omega arith)
            | inr h ↦ (let b : waiting j q (lies' q) ≡ waiting j q (lies q) = ap (waiting j q) h.1 in omega arith)
          ]);
      positions = positions_keeps j lies lies' s.words ws' s.views id v w f.positions at (let e = o.positions in omega arith) refl o.more
          (o.turn.quiet positions_at tt tt)
          (λ q. elim (put_cases lies p (some u) q) [
            | inl h ↦ (let a : waiting_indexes j q (lies q) ≡ waiting_indexes j p (some t)
                = (λ i. waiting_indexes j (sym h.0 i) (lies (sym h.0 i))) ∙ ap (waiting_indexes j p) o.turn.is in
                let b : waiting_indexes j q (lies' q) ≡ waiting_indexes j p (some u) = ap (waiting_indexes j q) h.1
                ∙ ap (λ (z : Path). waiting_indexes j z (some u)) (sym h.0) in let c = o.waits_indexes in omega arith)
            | inr h ↦ (let b : waiting_indexes j q (lies' q) ≡ waiting_indexes j q (lies q) = ap (waiting_indexes j q) h.1 in omega arith)
          ]);
      stopped = stopped_quiet l s.words ws' o.turn.quiet f.stopped;
      looped = looped_keeps l lies lies' s.words ws' s.views id v w f.looped (put_stay lies p t u o.turn.is o.loop) at refl
          (o.turn.quiet positions_at tt tt) (quiet_own l s.words ws' o.turn.quiet);
      fits = record {
        setup = fit.setup;
        own = fit.own;
        owns = λ some_part. o.owns (owns id v (seat_in id v at) (fit.owns some_part));
        running = o.running;
        halted = o.halted;
        ran = o.ran;
        begun = o.bound;
        mine = λ m i. berth_keeps l lies s.words lies' ws' keeps m.path m.berth (fit.mine m i);
        given = o.gives;
        known = λ q i. elim (o.knows q i) [
          | inl old ↦ known_keeps l lies s.words lies' ws' keeps q (fit.known q old)
          | inr h ↦
              (u, ap lies' (sym h.0) ∙ put_here lies p (some u), h.1)
        ];
        notes = λ n i. note_keeps l lies s.words lies' ws' keeps n (fit.notes n i);
        stop = λ e. stop (fit.stop e);
        line = λ m i. berth_keeps l lies s.words lies' ws' keeps m.path m.berth (fit.line m i);
      };
      others = λ k x n e. let a = o.alone k x n e in let a0 = a.0 in
          let a1 = a.1 in fits_keep j lies s.words lies' ws' keeps k x (f.fits k x e) (owns k x (seat_in k x e)) stop
          (λ q h. put_else lies p (some u) q (λ d. positive_not (begun_in x p + given_in x p) (omega arith)
          (subst (λ (z : Path). 0 < begun_in x z + given_in x z) (sym d) h)));
      unmade = λ a from less z. turn_zeros l lies s.words p t u ws' o.turn f.words a less z;
    })

-- A LOAD: a live seat learns something, and nothing else changes

pub learned : (j : Setup) (lies : Lies) (s : State Slots View) → Facts j lies s → (id : ℕ) (v : View) → get_elem? s.views id ≡ some v
    → 0 < v.parts → (seen : Seen)
    → ((p : Path) → In p seen.known → IsKnownFinished lies p) → ((n : Note) → In n seen.notes → IsSo (layout_of j) lies s.words n)
    → (seen.stop ≡ true → word_at (layout_of j) s.words stop_at ≡ 1)
    → ((m : Spot) → In m seen.line → IsPublished lies m)
    → Facts j lies record { words = s.words; homes = s.homes; views = set s.views id (record v { seen = seen }) }
learned j lies s f id v at live seen known notes stop line = let w : View = record v { seen = seen } in let fit = f.fits id v at in
    assemble j lies lies s s.words id v w f at live (record {
      parts = refl;
      made = refl;
      keeps = nothing_changes (layout_of j) lies s.words;
      root = λ t e. ap (λ (z : Lie). is_gone z.stage) (some-injective t f.root.0 (sym e ∙ f.root.1)) ∙ f.root.3;
      core = f.core;
      words = f.words;
      mine = λ q. refl;
      claimed = λ q. refl;
      given = λ q. refl;
      begun = λ q. refl;
      asked = asked_keeps (layout_of j) lies lies s.words s.words s.views id v w f.asked f.counts.few at refl refl (λ k o less. refl)
          (same_posted lies) (λ q. refl) (f.asked.promises id v at) (λ k x n e. f.asked.promises k x e);
      drawn = drawn_keeps j lies lies s.words s.words s.views id v w f.drawn at refl refl refl (λ p h. h) refl (λ p. omega arith);
      positions = positions_keeps j lies lies s.words s.words s.views id v w f.positions at refl refl (λ p h. h) refl (λ p. omega arith);
      stopped = f.stopped;
      looped = looped_keeps (layout_of j) lies lies s.words s.words s.views id v w f.looped (loops_stay lies) at refl refl (λ k o less. refl);
      fits = record {
        setup = fit.setup;
        own = fit.own;
        owns = fit.owns;
        running = fit.running;
        halted = fit.halted;
        ran = fit.ran;
        begun = fit.begun;
        mine = fit.mine;
        given = fit.given;
        known = known;
        notes = notes;
        stop = stop;
        line = line;
      };
      others = λ k x n e. f.fits k x e;
      unmade = λ a from less z. z;
    })
