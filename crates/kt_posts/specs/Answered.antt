-- What each call answers, and what the seat knows then, by the word that its step found.
use Rattle.std.specs.Prelude.{◌≡◌, ◌≢◌, ℕ, suc, ◌<◌, true, false, Bool, MatchBool}
use Rattle.kt_words.specs.Words.{packed_post, packed_pair, IsPair}
use Rattle.kt_words.specs.declared.posts.Post.{Post}
use Rattle.kt_words.specs.declared.posts.Post.TheVariants as P
use Rattle.kt_rule.specs.declared.views.Spot.{Spot}
use Rattle.kt_rule.specs.declared.views.Share.{Share}
use Rattle.kt_rule.specs.declared.views.View.{View}
use Rattle.kt_posts.specs.declared.answers.Lead.{Lead}
use Rattle.kt_posts.specs.declared.answers.Lead.TheVariants as L
use Rattle.kt_posts.specs.declared.answers.Answer.{Answer}
use Rattle.kt_posts.specs.declared.answers.Answer.TheVariants as A
use Rattle.kt_posts.specs.Desks.{sees, gets_piece, freed, takes_task, pair_of, takes_piece, finds_busy, leads_now, looks_at, holds_one}
use Rattle.kt_posts.specs.Told.{IsPostWord, IsInRegion}

-- the request word was 0, or it names the worker that leads
abbrev pub Led : ℕ → ℕ → View → View → Lead → Type 0
Led workers victim v w L.Won = w ≡ leads_now v victim
Led workers victim v w (L.Busy leader) = (leader < workers) × (w ≡ finds_busy v victim (suc leader))

-- the post asks this victim, and the request is held; or it was found otherwise
abbrev pub Held : ℕ → ℕ → View → View → Bool → Type 0
Held victim thief v w won = (n : ℕ) × IsPostWord n × MatchBool won
    ((n ≡ packed_post (P.Posted victim)) × (w ≡ holds_one v thief n))
    ((n ≢ packed_post (P.Posted victim)) × (w ≡ looks_at v thief n))

-- what the own post says: nothing yet, or an answer, which the seat has in hand from then on
abbrev pub Settled : Post → View → View → Answer → Type 0
Settled P.Idle v w a = ⊥
Settled (P.Posted victim) v w a = (a ≡ A.NotYet) × (w ≡ sees v (packed_post (P.Posted victim)) false)
Settled (P.Held victim) v w a = (a ≡ A.NotYet) × (w ≡ sees v (packed_post (P.Held victim)) false)
Settled P.Failed v w a = (a ≡ A.Failed) × (w ≡ freed (sees v (packed_post P.Failed) true))
Settled (P.Task at) v w a = (a ≡ A.Task at)
    × ((m : Spot) × (m.berth.at ≡ at) × (w ≡ freed (takes_task (sees v (packed_post (P.Task at)) true) m))
    × IsInRegion v at)
-- the piece that the own answer word tells
Settled (P.Piece at) v w a = (x : Share) × (x.spot.berth.at ≡ at) × IsPair (pair_of x) × (a ≡ A.Piece at (pair_of x))
    × (w ≡ freed (takes_piece (gets_piece (sees v (packed_post (P.Piece at)) true) (packed_pair (pair_of x))) x))
    × IsInRegion v at

-- the same, where a request that nobody holds is withdrawn
abbrev pub Withdrew : Post → View → View → Answer → Type 0
Withdrew (P.Posted victim) v w a = (a ≡ A.Withdrawn) × (w ≡ freed (sees v (packed_post (P.Posted victim)) false))
Withdrew o v w a = Settled o v w a
