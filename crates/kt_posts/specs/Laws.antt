-- The laws of the steps on requests, posts and answers: under its condition each keeps the rule, and the core that words
-- and views show stays as it is.
use Rattle.std.specs.Prelude.{◌≡◌, ℕ, suc, ◌<◌, true, false, [], set}
use Rattle.atomic_table.specs.Table.{State}
use Rattle.kt_words.specs.Places.{place, worker_word, request, post, answer}
use Rattle.kt_words.specs.Words.{packed_pair, packed_post, IsPost}
use Rattle.kt_words.specs.declared.posts.Post.{Post}
use Rattle.kt_words.specs.declared.posts.Post.TheVariants as P
use Rattle.kt_rule.specs.declared.views.Setup.{Setup}
use Rattle.kt_rule.specs.declared.views.Promise.{Promise}
use Rattle.kt_rule.specs.declared.views.Wrote.{Wrote}
use Rattle.kt_rule.specs.declared.views.Share.{Share}
use Rattle.kt_rule.specs.declared.views.View.{View}
use Rattle.kt_rule.specs.Lists.{In}
use Rattle.kt_rule.specs.Records.{layout_of, word_at}
use Rattle.kt_rule.specs.Rule.{Slots, IsRuled}
use Rattle.kt_steps.specs.CoreMoves.{Stays}
use Rattle.kt_steps.specs.Laws.{IsSeat, Enters, after_step}
use Rattle.kt_posts.specs.Desks.{is_answer, pair_of, posts, sees, gets_piece, freed, finds_busy, leads_now, looks_at, holds_one, writes_one, answers_one, gives_one, gives_piece, releases_now}
use Rattle.kt_posts.specs.Told.{Took}

-- the post of worker k becomes o, or its request word n, and the seat's view w
abbrev pub after_post : Setup → State Slots View → ℕ → Post → ℕ → View → State Slots View
after_post j s k o id w = after_step s (place (layout_of j) (worker_word k post)) (packed_post o) id w

abbrev pub after_request : Setup → State Slots View → ℕ → ℕ → ℕ → View → State Slots View
after_request j s k n id w = after_step s (place (layout_of j) (worker_word k request)) n id w

-- the view becomes w, and no word changes
abbrev pub after_look : State Slots View → ℕ → View → State Slots View
after_look s id w = record { words = s.words; homes = s.homes; views = set s.views id w }

abbrev pub post_of : Setup → State Slots View → ℕ → ℕ
post_of j s k = word_at (layout_of j) s.words (worker_word k post)

-- the store of the own request in an idle post
abbrev pub PostStays : Type 0
PostStays = (j : Setup) (s : State Slots View) → IsRuled j s → (id : ℕ) (v : View) → IsSeat s id v → (victim : ℕ)
    → v.desk.free ≡ true → IsPost (P.Posted victim)
    → Enters j Stays s (after_post j s v.worker (P.Posted victim) id (posts v victim))

-- the exchange of a request word from 0, by a seat that leads nobody
abbrev pub LeadStays : Type 0
LeadStays = (j : Setup) (s : State Slots View) → IsRuled j s → (id : ℕ) (v : View) → IsSeat s id v → (victim : ℕ)
    → v.desk.leads ≡ false → victim < j.workers → word_at (layout_of j) s.words (worker_word victim request) ≡ 0
    → Enters j Stays s (after_request j s victim (suc v.worker) id (leads_now v victim))

-- the exchange that finds another number there, and changes no word
abbrev pub BusyStays : Type 0
BusyStays = (j : Setup) (s : State Slots View) → IsRuled j s → (id : ℕ) (v : View) → IsSeat s id v → (victim : ℕ)
    → Enters j Stays s (after_look s id (finds_busy v victim (word_at (layout_of j) s.words (worker_word victim request))))

-- a load of the own post
abbrev pub PostLoadStays : Type 0
PostLoadStays = (j : Setup) (s : State Slots View) → IsRuled j s → (id : ℕ) (v : View) → IsSeat s id v
    → (o : Post) → post_of j s v.worker ≡ packed_post o
    → Enters j Stays s (after_look s id (sees v (packed_post o) (is_answer o)))

-- and of the own answer word, once an answer was seen
abbrev pub AnswerLoadStays : Type 0
AnswerLoadStays = (j : Setup) (s : State Slots View) → IsRuled j s → (id : ℕ) (v : View) → IsSeat s id v
    → v.desk.saw ≡ true
    → Enters j Stays s (after_look s id (gets_piece v (word_at (layout_of j) s.words (worker_word v.worker answer))))

-- the exchange of a post from Posted to Held, by the seat that leads the requests at this victim
abbrev pub HoldStays : Type 0
HoldStays = (j : Setup) (s : State Slots View) → IsRuled j s → (id : ℕ) (v : View) → IsSeat s id v → (thief : ℕ)
    → v.desk.leads ≡ true → thief < j.workers → post_of j s thief ≡ packed_post (P.Posted v.desk.victim)
    → Enters j Stays s (after_post j s thief (P.Held v.desk.victim) id (holds_one v thief (packed_post (P.Posted v.desk.victim))))

-- the exchange that finds another word in a worker's post, and changes none
abbrev pub LookStays : Type 0
LookStays = (j : Setup) (s : State Slots View) → IsRuled j s → (id : ℕ) (v : View) → IsSeat s id v → (worker : ℕ)
    → Enters j Stays s (after_look s id (looks_at v worker (post_of j s worker)))

-- the answer to a held thief that there is nothing: a store
abbrev pub FailedStays : Type 0
FailedStays = (j : Setup) (s : State Slots View) → IsRuled j s → (id : ℕ) (v : View) → IsSeat s id v → (thief : ℕ)
    → In thief v.desk.held → Enters j Stays s (after_post j s thief P.Failed id (answers_one v thief))

-- the answer to a held thief with a task that is promised to it: a store
abbrev pub TaskStays : Type 0
TaskStays = (j : Setup) (s : State Slots View) → IsRuled j s → (id : ℕ) (v : View) → IsSeat s id v → (m : Promise)
    → In m v.tasks.promised → In m.thief v.desk.held
    → Enters j Stays s (after_post j s m.thief (P.Task m.spot.berth.at) id (gives_one v m.thief m.spot.berth.at))

-- the store of a piece in the answer word of a held thief
abbrev pub WriteStays : Type 0
WriteStays = (j : Setup) (s : State Slots View) → IsRuled j s → (id : ℕ) (v : View) → IsSeat s id v → (thief word : ℕ)
    → In thief v.desk.held
    → Enters j Stays s (after_step s (place (layout_of j) (worker_word thief answer)) word id (writes_one v thief word))

-- and the answer that it is there, a piece which the seat has in hand: a store
abbrev pub PieceStays : Type 0
PieceStays = (j : Setup) (s : State Slots View) → IsRuled j s → (id : ℕ) (v : View) → IsSeat s id v → (e : Wrote) (x : Share)
    → In e v.desk.wrote → In x v.loops.pieces → e.piece ≡ packed_pair (pair_of x) → IsPost (P.Piece x.spot.berth.at)
    → Enters j Stays s (after_post j s e.thief (P.Piece x.spot.berth.at) id (gives_piece v e.thief x))

-- the exchange that takes the answer which was seen: it finds this very answer, and what it gives is the seat's
abbrev pub TakeStays : Type 0
TakeStays = (j : Setup) (s : State Slots View) → IsRuled j s → (id : ℕ) (v : View) → IsSeat s id v → v.desk.saw ≡ true
    → (o : Post) × (is_answer o ≡ true) × (v.desk.word ≡ packed_post o) × (post_of j s v.worker ≡ packed_post o)
    × ((w : View) × Took o v w × Enters j Stays s (after_post j s v.worker P.Idle id w))

-- the exchange that withdraws the own request, which nobody holds
abbrev pub WithdrawStays : Type 0
WithdrawStays = (j : Setup) (s : State Slots View) → IsRuled j s → (id : ℕ) (v : View) → IsSeat s id v → (victim : ℕ)
    → post_of j s v.worker ≡ packed_post (P.Posted victim)
    → Enters j Stays s (after_post j s v.worker P.Idle id (freed (sees v (packed_post (P.Posted victim)) false)))

-- the store that gives up a lead once all held thieves are answered
abbrev pub ReleaseStays : Type 0
ReleaseStays = (j : Setup) (s : State Slots View) → IsRuled j s → (id : ℕ) (v : View) → IsSeat s id v
    → v.desk.leads ≡ true → v.desk.held ≡ []
    → Enters j Stays s (after_request j s v.desk.victim 0 id (releases_now v))
