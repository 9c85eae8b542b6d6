-- Where in a list of pieces an event finds its own.
use Rattle.std.specs.Prelude.{ℕ, suc, List, [], ◌∷◌, Bool, cond, nat_eq}
use Rattle.kt_order.specs.Books.{Piece, is_inside}

-- the place of the first piece that passes the test, or how many there are
abbrev pub first_place : (Piece → Bool) → List Piece → ℕ
first_place test [] = 0
first_place test (piece ∷ pieces) = cond (test piece) 0 (suc (first_place test pieces))

abbrev pub place_inside : ℕ → List Piece → ℕ
place_inside at pieces = first_place (is_inside at) pieces

abbrev pub begins_at : ℕ → Piece → Bool
begins_at at piece = nat_eq piece.from at

abbrev pub place_from : ℕ → List Piece → ℕ
place_from at pieces = first_place (begins_at at) pieces
