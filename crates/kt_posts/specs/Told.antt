-- What the steps of the calls tell. A step names its word by its number alone, so it tells of whichever worker's word
-- that is.
use Rattle.std.specs.Prelude.{◌≡◌, ℕ, ◌*◌, ◌<◌, ◌≤◌, ◌==◌, false, true, MatchBool, Some}
use Rattle.atomic_table.specs.Table.{Step}
use Rattle.kt_words.specs.Places.{place, worker_word, Own, request, post, answer}
use Rattle.kt_words.specs.declared.layouts.TheConstants.{RECORDS}
use Rattle.kt_words.specs.Words.{packed_post, packed_pair, IsPost, IsPair}
use Rattle.kt_words.specs.declared.posts.Post.{Post}
use Rattle.kt_words.specs.declared.posts.Post.TheVariants as P
use Rattle.kt_rule.specs.declared.views.Setup.{Setup}
use Rattle.kt_rule.specs.declared.views.Spot.{Spot}
use Rattle.kt_rule.specs.declared.views.Share.{Share}
use Rattle.kt_rule.specs.declared.views.View.{View}
use Rattle.kt_rule.specs.Lists.{In}
use Rattle.kt_rule.specs.Records.{layout_of}
use Rattle.kt_rule.specs.Rule.{Slots}
use Rattle.kt_posts.specs.Desks.{is_answer, is_idle, posts, sees, gets_piece, freed, takes_task, pair_of, takes_piece, finds_busy, leads_now, looks_at, holds_one, writes_one, answers_one, gives_one, gives_piece, releases_now}

-- the word is this one of worker k
abbrev pub IsOf : Setup → ℕ → Own → ℕ → Type 0
IsOf j k o word = (k < j.workers) × (word ≡ place (layout_of j) (worker_word k o))

-- a word that is packed from a post
abbrev pub IsPostWord : ℕ → Type 0
IsPostWord n = (o : Post) × IsPost o × (n ≡ packed_post o)

-- THE THIEF

abbrev pub PostsAt : Step Slots → View → ℕ → View → Type 0
PostsAt st v n w = (victim : ℕ) → IsPost (P.Posted victim) → st.first ≡ packed_post (P.Posted victim) → w ≡ posts v victim

-- a post was found that is not idle; where it is a request, it is to whom the seat asked
abbrev pub Peeks : Step Slots → View → ℕ → View → Type 0
Peeks st v n w = (o : Post) × IsPost o × (n ≡ packed_post o) × (is_idle o ≡ false)
    × ((victim : ℕ) → o ≡ P.Posted victim → victim ≡ v.desk.asked) × (w ≡ sees v n (is_answer o))

-- the own answer word was found
abbrev pub GetsPiece : Step Slots → View → ℕ → View → Type 0
GetsPiece st v n w = w ≡ gets_piece v n

-- a record with this number is in the region of one of the workers
abbrev pub IsInRegion : View → ℕ → Type 0
IsInRegion v at = (j : Setup) → v.setup ≡ Some j → at < RECORDS * j.workers

abbrev pub Took : Post → View → View → Type 0
Took (P.Task at) v w = (m : Spot) × (m.berth.at ≡ at) × (w ≡ freed (takes_task v m)) × IsInRegion v at
-- the piece is the pair that the seat found in its own answer word, where it looked there
Took (P.Piece at) v w = (x : Share) × (x.spot.berth.at ≡ at) × IsPair (pair_of x)
    × (v.desk.got ≡ true → packed_pair (pair_of x) ≡ v.desk.piece) × (w ≡ freed (takes_piece v x)) × IsInRegion v at
Took _ v w = w ≡ freed v

-- the answer that was seen is there still, and it is taken
abbrev pub TakesBack : Step Slots → View → ℕ → View → Type 0
TakesBack st v n w = (n ≡ st.first) × ((o : Post) × IsPost o × (is_answer o ≡ true) × (packed_post o ≡ n) × Took o v w)

-- the request was found and is withdrawn, or the post is seen as by a load
abbrev pub Withdraws : Step Slots → View → ℕ → View → Type 0
Withdraws st v n w = MatchBool (n == st.first) (w ≡ freed (sees v n false)) (Peeks st v n w)

-- THE LEADER

-- the request word was 0, or it names one of the workers, at most eight
abbrev pub LeadsAt : Step Slots → View → ℕ → View → Type 0
LeadsAt st v n w = (j : Setup) → v.setup ≡ Some j → (victim : ℕ) → IsOf j victim request st.word
    → (n ≤ j.workers) × (j.workers ≤ 8) × MatchBool (n == st.first) (w ≡ leads_now v victim) (w ≡ finds_busy v victim n)

abbrev pub HoldsAt : Step Slots → View → ℕ → View → Type 0
HoldsAt st v n w = (j : Setup) → v.setup ≡ Some j → (thief : ℕ) → IsOf j thief post st.word
    → IsPostWord n × MatchBool (n == st.first) (w ≡ holds_one v thief n) (w ≡ looks_at v thief n)

abbrev pub FailsAt : Step Slots → View → ℕ → View → Type 0
FailsAt st v n w = (j : Setup) → v.setup ≡ Some j → (thief : ℕ) → IsOf j thief post st.word → w ≡ answers_one v thief

abbrev pub GivesAt : Step Slots → View → ℕ → View → Type 0
GivesAt st v n w = (j : Setup) → v.setup ≡ Some j → (thief : ℕ) → IsOf j thief post st.word → (at : ℕ) → IsPost (P.Task at)
    → st.first ≡ packed_post (P.Task at) → w ≡ gives_one v thief at

-- a piece is written in a held thief's answer word
abbrev pub WritesAt : Step Slots → View → ℕ → View → Type 0
WritesAt st v n w = (j : Setup) → v.setup ≡ Some j → (thief : ℕ) → IsOf j thief answer st.word → w ≡ writes_one v thief st.first

-- and it is given in the thief's post
abbrev pub DealsAt : Step Slots → View → ℕ → View → Type 0
DealsAt st v n w = (j : Setup) → v.setup ≡ Some j → (thief : ℕ) → IsOf j thief post st.word → (x : Share) → In x v.loops.pieces
    → In (record { thief = thief; piece = packed_pair (pair_of x) }) v.desk.wrote → st.first ≡ packed_post (P.Piece x.spot.berth.at)
    → w ≡ gives_piece v thief x

abbrev pub Releases : Step Slots → View → ℕ → View → Type 0
Releases st v n w = w ≡ releases_now v
