-- What a seat knows after a step on a word of loops.
use Rattle.std.specs.Prelude.{ℕ, suc, ◌+◌, ◌-◌, true, false, List, [], ◌∷◌, ◌++◌, map, None, Some}
use Rattle.kt_runs.specs.ByPath.{Path}
use Rattle.kt_words.specs.Words.{packed_pair}
use Rattle.kt_words.specs.declared.pairs.Pair.{Pair}
use Rattle.kt_rule.specs.declared.views.Spot.{Spot}
use Rattle.kt_rule.specs.declared.views.Execution.{Execution}
use Rattle.kt_rule.specs.declared.views.Share.{Share}
use Rattle.kt_rule.specs.declared.views.IndexRun.{IndexRun}
use Rattle.kt_rule.specs.declared.views.View.{View}
use Rattle.kt_pieces.specs.Changes.{chunk_of, shares_of, ended, without_piece}

-- A LOOP BEGINS

-- its positions are drawn, from this one on; how often a draw was over the limit
abbrev pub share_from : Spot → ℕ → Share
share_from m first = record { spot = m; low = first; high = first + m.berth.call.length }

abbrev pub draws_positions : View → Execution → ℕ → ℕ → View
draws_positions v e first over = record v {
  loops = record v.loops { pending = share_from e.spot first ∷ []; placed = false; over = over };
}

-- the loop's record tells the first of them
abbrev pub places_first : View → View
places_first v = record v { loops = record v.loops { placed = true } }

-- the own home word names the record
abbrev pub homes_at : View → ℕ → View
homes_at v a = record v { loops = record v.loops { home = suc a } }

-- the own interval has them all: the loop has begun, its forks and its end are done
abbrev pub began : Execution → Execution
began e = record e { done = e.done + suc e.spot.berth.call.length; looping = true }

abbrev pub begins_now : View → Execution → List Execution → View
begins_now v e rest = record v {
  tasks = record v.tasks { running = began e ∷ rest };
  loops = record v.loops { pending = []; placed = false; free = false };
}

-- PIECES

-- a piece in hand is the own interval from now on
abbrev pub holds_piece : View → Share → View
holds_piece v x = record v {
  loops = record v.loops { pieces = without_piece x.spot.berth.at x.low v.loops.pieces; free = false };
}

-- the own interval was found empty
abbrev pub finds_empty : View → View
finds_empty v = record v { loops = record v.loops { free = true } }

-- the first n positions of the own interval, from `low` on, are taken as indexes of the loop
abbrev pub takes_chunk : View → Spot → ℕ → ℕ → ℕ → View
takes_chunk v m first low n = record v {
  loops = record v.loops { taken = v.loops.taken ++ chunk_of m first (low - first) n };
}

-- this word was found in a victim's interval
abbrev pub finds_interval : View → ℕ → ℕ → View
finds_interval v victim word = record v {
  desk = record v.desk { found = v.desk.found ++ record { worker = victim; word = word } ∷ [] };
}

-- a victim's interval was found, which may be split; and then its home word
abbrev pub sights : View → ℕ → ℕ → ℕ → View
sights v victim low high = record (finds_interval v victim (packed_pair (record { low = low; high = high }))) {
  loops = record v.loops { sight = Some (record { victim = victim; low = low; high = high; home = None }) };
}

abbrev pub sights_home : View → ℕ → ℕ → ℕ → ℕ → View
sights_home v victim low high word = record v {
  loops = record v.loops { sight = Some (record { victim = victim; low = low; high = high; home = Some word }) };
}

-- what was seen is of no use any longer
abbrev pub forgets : View → View
forgets v = record v { loops = record v.loops { sight = None } }

-- it was split, and these pieces are in hand, in rising order
abbrev pub takes_pieces : View → Spot → List Pair → View
takes_pieces v m dealt = record v {
  loops = record v.loops { pieces = shares_of m dealt ++ v.loops.pieces; sight = None };
}

-- INDEXES

-- the first of the indexes in hand are retired
abbrev pub retires_some : View → List IndexRun → List IndexRun → View
retires_some v done rest = record v {
  loops = record v.loops { taken = rest; retired = map ended done ++ v.loops.retired };
}

-- nothing is left of the loop at a path
abbrev pub finds_none_left : View → Path → View
finds_none_left v p = record v { loops = record v.loops { emptied = p ∷ v.loops.emptied } }
