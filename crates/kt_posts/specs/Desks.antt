-- What a seat knows after a step on a request, a post or an answer word.
use Rattle.std.specs.Prelude.{ℕ, Bool, true, false, cond, nat_eq, ◌&&◌, List, [], ◌∷◌, ◌++◌}
use Rattle.kt_words.specs.declared.pairs.Pair.{Pair}
use Rattle.kt_words.specs.declared.posts.Post.{Post}
use Rattle.kt_words.specs.declared.posts.Post.TheVariants as P
use Rattle.kt_rule.specs.declared.views.Spot.{Spot}
use Rattle.kt_rule.specs.declared.views.Promise.{Promise}
use Rattle.kt_rule.specs.declared.views.Wrote.{Wrote}
use Rattle.kt_rule.specs.declared.views.Share.{Share}
use Rattle.kt_rule.specs.declared.views.View.{View}

-- whether a post is an answer, which its worker may take
abbrev pub is_answer : Post → Bool
is_answer P.Idle = false
is_answer (P.Posted victim) = false
is_answer (P.Held victim) = false
is_answer P.Failed = true
is_answer (P.Task at) = true
is_answer (P.Piece at) = true

abbrev pub is_idle : Post → Bool
is_idle P.Idle = true
is_idle _ = false

-- THE THIEF

-- its request stands in its post
abbrev pub posts : View → ℕ → View
posts v victim = record v { desk = record v.desk { free = false; asked = victim; saw = false; got = false } }

-- it found this word in its post; whether that is an answer
abbrev pub sees : View → ℕ → Bool → View
sees v word answers = record v { desk = record v.desk { saw = answers; word = word; got = false } }

-- and this one in its answer word
abbrev pub gets_piece : View → ℕ → View
gets_piece v word = record v { desk = record v.desk { got = true; piece = word } }

-- its post is idle again
abbrev pub freed : View → View
freed v = record v { desk = record v.desk { free = true; saw = false; got = false } }

-- it was given a task, which it is to start next
abbrev pub takes_task : View → Spot → View
takes_task v m = record v { tasks = record v.tasks { given = m ∷ v.tasks.given } }

-- from where to where a piece goes
abbrev pub pair_of : Share → Pair
pair_of x = record { low = x.low; high = x.high }

-- it was given a piece of a loop
abbrev pub takes_piece : View → Share → View
takes_piece v x = record v { loops = record v.loops { pieces = x ∷ v.loops.pieces } }

-- THE LEADER

-- it found in the victim's request word that another leads there
abbrev pub finds_busy : View → ℕ → ℕ → View
finds_busy v victim word = record v { desk = record v.desk { found = record { worker = victim; word = word } ∷ [] } }

-- it leads the requests at the victim, and has looked at no post yet
abbrev pub leads_now : View → ℕ → View
leads_now v victim = record v { desk = record v.desk { leads = true; victim = victim; held = []; found = []; wrote = [] } }

-- it found this word in a worker's post, and holds the request, or does not
abbrev pub looks_at : View → ℕ → ℕ → View
looks_at v worker word = record v { desk = record v.desk { found = v.desk.found ++ record { worker = worker; word = word } ∷ [] } }

abbrev pub holds_one : View → ℕ → ℕ → View
holds_one v worker word = record v {
  desk = record v.desk {
    held = v.desk.held ++ worker ∷ [];
    found = v.desk.found ++ record { worker = worker; word = word } ∷ [];
  };
}

abbrev pub without : ℕ → List ℕ → List ℕ
without thief [] = []
without thief (k ∷ ks) = cond (nat_eq k thief) (without thief ks) (k ∷ without thief ks)

abbrev pub unwritten : ℕ → List Wrote → List Wrote
unwritten thief [] = []
unwritten thief (e ∷ es) = cond (nat_eq e.thief thief) (unwritten thief es) (e ∷ unwritten thief es)

-- a piece for a held thief is written in its answer word
abbrev pub writes_one : View → ℕ → ℕ → View
writes_one v thief word = record v {
  desk = record v.desk { wrote = record { thief = thief; piece = word } ∷ unwritten thief v.desk.wrote };
}

-- a thief is answered: it is held no longer
abbrev pub answers_one : View → ℕ → View
answers_one v thief = record v {
  desk = record v.desk { held = without thief v.desk.held; wrote = unwritten thief v.desk.wrote };
}

-- the promises but those of this record
abbrev pub other_promises : ℕ → List Promise → List Promise
other_promises at [] = []
other_promises at (m ∷ ms) = cond (nat_eq at m.spot.berth.at) (other_promises at ms) (m ∷ other_promises at ms)

-- it is answered with the task of this record, which is not promised any longer
abbrev pub gives_one : View → ℕ → ℕ → View
gives_one v thief at = record (answers_one v thief) { tasks = record v.tasks { promised = other_promises at v.tasks.promised } }

-- the pieces but those of this record that begin at this position
abbrev pub other_pieces : ℕ → ℕ → List Share → List Share
other_pieces at low [] = []
other_pieces at low (x ∷ xs) = cond (nat_eq at x.spot.berth.at && nat_eq low x.low) (other_pieces at low xs) (x ∷ other_pieces at low xs)

-- it is answered with the piece of this record that begins at this position, which is not in hand any longer
abbrev pub deals_one : View → ℕ → ℕ → ℕ → View
deals_one v thief at low = record (answers_one v thief) { loops = record v.loops { pieces = other_pieces at low v.loops.pieces } }

abbrev pub gives_piece : View → ℕ → Share → View
gives_piece v thief x = deals_one v thief x.spot.berth.at x.low

-- the lead is given up
abbrev pub releases_now : View → View
releases_now v = record v { desk = record v.desk { leads = false; held = []; wrote = [] } }
