-- Requests: what the request, post and answer words of the workers say, and what the seats know of them.
use Rattle.std.specs.Prelude.{◌≡◌, ℕ, suc, ◌<◌, ◌≤◌, true, false, List, length}
use mathlib.Core.Option.{some}
use lib.ListN.{get_elem?}
use Rattle.kt_runs.specs.ByPath.{Path}
use Rattle.kt_words.specs.Places.{worker_word, request, post, answer}
use Rattle.kt_words.specs.Words.{packed_post, IsPost}
use Rattle.kt_words.specs.declared.layouts.Layout.{Layout}
use Rattle.kt_words.specs.declared.posts.Post.{Post}
use Rattle.kt_words.specs.declared.posts.Post.TheVariants as P
use Rattle.kt_rule.specs.declared.views.Promise.{Promise}
use Rattle.kt_rule.specs.declared.views.Wrote.{Wrote}
use Rattle.kt_rule.specs.declared.views.Desk.{Desk}
use Rattle.kt_rule.specs.declared.views.View.{View}
use Rattle.kt_rule.specs.Lists.{In}
use Rattle.kt_rule.specs.Lies.{Promised, Posted, Lie, Lies}
use Rattle.kt_rule.specs.Records.{word_at}
use Rattle.kt_rule.specs.Views.{promised_in}
use Rattle.kt_rule.specs.Facts.{is_promised, Tally}

abbrev pub IsAnswer : Post → Type 0
IsAnswer P.Idle = ⊥
IsAnswer (P.Posted victim) = ⊥
IsAnswer (P.Held victim) = ⊥
IsAnswer P.Failed = Unit {0}
IsAnswer (P.Task at) = Unit {0}
IsAnswer (P.Piece at) = Unit {0}

-- the task is promised to the thief
abbrev pub IsPromised : Lies → Promise → Type 0
IsPromised lies m = (t : Lie) × (lies m.spot.path ≡ some t) × (t.berth ≡ m.spot.berth) × (t.stage ≡ Promised m.thief)

-- what a live seat knows of requests is so
pub record Desked (l : Layout) (ws : List ℕ) (seat : ℕ) (d : Desk) : Type 0 where
  pub free : d.free ≡ true → word_at l ws (worker_word seat post) ≡ 0
  pub busy : d.free ≡ false → 0 < word_at l ws (worker_word seat post)
  pub asked : (victim : ℕ) → d.free ≡ false → word_at l ws (worker_word seat post) ≡ packed_post (P.Posted victim) → victim ≡ d.asked
  pub lead : d.leads ≡ true → (d.victim < l.workers) × (word_at l ws (worker_word d.victim request) ≡ suc seat)
  pub held : (k : ℕ) → In k d.held
      → (k < l.workers) × (d.leads ≡ true) × (word_at l ws (worker_word k post) ≡ packed_post (P.Held d.victim))
  -- an answer on the own post stays until the seat takes it
  pub saw : d.saw ≡ true → (o : Post) × IsAnswer o × (packed_post o ≡ d.word) × (word_at l ws (worker_word seat post) ≡ d.word)
  pub wrote : (e : Wrote) → In e d.wrote → In e.thief d.held × (word_at l ws (worker_word e.thief answer) ≡ e.piece)
  pub got : d.got ≡ true → (d.saw ≡ true) × (word_at l ws (worker_word seat answer) ≡ d.piece)

-- each post word is a post, and each request word names no more than a worker; a post gives a task exactly where this
-- task stands posted for that worker; the promised tasks are those that seats have in hand; the posts of workers
-- without a seat are idle
pub record Asked (l : Layout) (lies : Lies) (ws : List ℕ) (views : List View) : Type 0 where
  pub posts : (k : ℕ) → k < l.workers → (o : Post) × IsPost o × (word_at l ws (worker_word k post) ≡ packed_post o)
  pub leads : (k : ℕ) → k < l.workers → word_at l ws (worker_word k request) ≤ l.workers
  pub tasks : (k a : ℕ) → k < l.workers → word_at l ws (worker_word k post) ≡ packed_post (P.Task a)
      → (p : Path) × (t : Lie) × (lies p ≡ some t) × (t.berth.at ≡ a) × (t.stage ≡ Posted k)
  pub posted : (p : Path) (t : Lie) (k : ℕ) → lies p ≡ some t → t.stage ≡ Posted k
      → (k < l.workers) × (word_at l ws (worker_word k post) ≡ packed_post (P.Task t.berth.at))
  pub promised : Tally promised_in is_promised lies views
  pub promises : (seat : ℕ) (v : View) → get_elem? views seat ≡ some v → (m : Promise) → In m v.tasks.promised → IsPromised lies m
  pub desks : (seat : ℕ) (v : View) → get_elem? views seat ≡ some v → 0 < v.parts → Desked l ws seat v.desk
  pub unasked : (k : ℕ) → length views ≤ k → k < l.workers → word_at l ws (worker_word k post) ≡ 0
