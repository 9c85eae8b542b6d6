-- Places differ and lie within the table, and a set word changes one place alone.
use Rattle.std.proofs.Common.{◌≡◌, ◌≢◌, ℕ, ◌<◌, [], ◌∷◌, get_or, refl, sym, ap, ◌∙◌, arith, get_or-set_same, get_or-set_other}
use Rattle.kt_words.specs.Places.{Shared, seats, tasks_drawn, positions_drawn, stop, Own, request, post, answer, interval, home, shared_word, worker_word, record_word, element_word, version_word, shared_number, own_number, place, total_of}
use Rattle.kt_words.specs.Laws.{PlacesDiffer, PlacesAreInside, SetIsRead, OthersStay}

-- the word with a number
abbrev shared_at : ℕ → Shared
shared_at n = get_or (seats ∷ tasks_drawn ∷ positions_drawn ∷ stop ∷ []) n seats

shared_at-number : (u : Shared) → shared_at (shared_number u) ≡ u
shared_at-number seats = refl
shared_at-number tasks_drawn = refl
shared_at-number positions_drawn = refl
shared_at-number stop = refl

same_shared : (u w : Shared) → shared_number u ≡ shared_number w → u ≡ w
same_shared u w e = sym (shared_at-number u) ∙ ap shared_at e ∙ shared_at-number w

shared_number-below : (u : Shared) → shared_number u < 4
shared_number-below seats = omega arith
shared_number-below tasks_drawn = omega arith
shared_number-below positions_drawn = omega arith
shared_number-below stop = omega arith

abbrev own_at : ℕ → Own
own_at n = get_or (request ∷ post ∷ answer ∷ interval ∷ home ∷ []) n request

own_at-number : (u : Own) → own_at (own_number u) ≡ u
own_at-number request = refl
own_at-number post = refl
own_at-number answer = refl
own_at-number interval = refl
own_at-number home = refl

same_own : (u w : Own) → own_number u ≡ own_number w → u ≡ w
same_own u w e = sym (own_at-number u) ∙ ap own_at e ∙ own_at-number w

own_number-below : (u : Own) → own_number u < 8
own_number-below request = omega arith
own_number-below post = omega arith
own_number-below answer = omega arith
own_number-below interval = omega arith
own_number-below home = omega arith

-- one clause for each pair of kinds
pub places_differ : PlacesDiffer
unfolding place
places_differ l (shared_word u) (shared_word w) h k e = ap shared_word (same_shared u w e)
places_differ l (shared_word u) (worker_word b w) h k e = absurd (omega (arith, shared_number-below u))
places_differ l (shared_word u) (record_word b g) h k e = absurd (omega (arith, shared_number-below u))
places_differ l (shared_word u) (element_word d) h k e = absurd (omega (arith, shared_number-below u))
places_differ l (shared_word u) (version_word o) h k e = absurd (omega (arith, shared_number-below u))
places_differ l (worker_word a u) (shared_word w) h k e = absurd (omega (arith, shared_number-below w))
places_differ l (worker_word a u) (worker_word b w) h k e =
    let in_u = own_number-below u in
    let in_w = own_number-below w in
    let same_worker : a ≡ b = omega arith in
    let same_number : own_number u ≡ own_number w = omega arith in
    λ i. worker_word (same_worker i) (same_own u w same_number i)
places_differ l (worker_word a u) (record_word b g) h k e = absurd (omega (arith, own_number-below u))
places_differ l (worker_word a u) (element_word d) h k e = absurd (omega (arith, own_number-below u))
places_differ l (worker_word a u) (version_word o) h k e = absurd (omega (arith, own_number-below u))
places_differ l (record_word a f) (shared_word w) h k e = absurd (omega (arith, shared_number-below w))
places_differ l (record_word a f) (worker_word b w) h k e = absurd (omega (arith, own_number-below w))
places_differ l (record_word a f) (record_word b g) h k e =
    let same_record : a ≡ b = omega arith in
    let same_field : f ≡ g = omega arith in
    λ i. record_word (same_record i) (same_field i)
places_differ l (record_word a f) (element_word d) h k e = absurd (omega arith)
places_differ l (record_word a f) (version_word o) h k e = absurd (omega arith)
places_differ l (element_word c) (shared_word w) h k e = absurd (omega (arith, shared_number-below w))
places_differ l (element_word c) (worker_word b w) h k e = absurd (omega (arith, own_number-below w))
places_differ l (element_word c) (record_word b g) h k e = absurd (omega arith)
places_differ l (element_word c) (element_word d) h k e = let same : c ≡ d = omega arith in ap element_word same
places_differ l (element_word c) (version_word o) h k e = absurd (omega arith)
places_differ l (version_word m) (shared_word w) h k e = absurd (omega (arith, shared_number-below w))
places_differ l (version_word m) (worker_word b w) h k e = absurd (omega (arith, own_number-below w))
places_differ l (version_word m) (record_word b g) h k e = absurd (omega arith)
places_differ l (version_word m) (element_word d) h k e = absurd (omega arith)
places_differ l (version_word m) (version_word o) h k e = let same : m ≡ o = omega arith in ap version_word same

pub places_are_inside : PlacesAreInside
unfolding place total_of
places_are_inside l (shared_word u) h = omega (arith, shared_number-below u)
places_are_inside l (worker_word a u) h = omega (arith, own_number-below u)
places_are_inside l (record_word a f) h = omega arith
places_are_inside l (element_word c) h = omega arith
places_are_inside l (version_word m) h = omega arith

pub set_is_read : SetIsRead
set_is_read l p words word h wide =
    let inside = places_are_inside l p h in
    get_or-set_same words (place l p) word 0 (omega arith)

pub others_stay : OthersStay
others_stay l p q words word h k other =
    let apart : place l q ≢ place l p = (λ e. other (places_differ l q p k h e)) in
    get_or-set_other words (place l p) (place l q) word 0 apart
