-- What is said of the items of the data, from those that were read.
use Rattle.std.proofs.Common.{◌≡◌, ◌≢◌, ◌&&◌, ℕ, suc, ◌+◌, ◌-◌, ◌<◌, ◌≤◌, ◌^◌, Bool, true, false, cond, List, [], ◌∷◌, ◌++◌, length, drop, take, map, refl, ap, sym, ◌∙◌, arith, append_assoc, inl, Some, None, Result, Ok, Err, nat_lt, is_none}
use Rattle.std.specs.Char.{is_ascii_digit}
use Rattle.std.specs.List.{find, list_all, prefix_len}
use Rattle.std.proofs.lemmas.List.{append-nil, drop_all, length-append, length-drop, length-map, map-append, take_all}
use Rattle.std.proofs.lemmas.List.Folds.{find-append}
use Rattle.std.proofs.lemmas.List.Sums.{prefix_len-le-length}
use Rattle.std.proofs.lemmas.Bool.Decides.{nat_tests}
use Rattle.std.proofs.Math.Seq.{drop-append_seam, take-append-add, take-append_seam}
use Rattle.kt_text.specs.declared.data.DataError.{DataError}
use Rattle.kt_text.specs.declared.data.DataError.TheVariants.{BadNumber, TooFew, TooMany}
use Rattle.kt_text.specs.Bytes.{is_blank, is_item_byte, value_of}
use Rattle.kt_text.specs.Places.{place_of}
use Rattle.kt_text.specs.Data.{Item, answer_of, begins_item, is_bad, item_at, item_number_of, items_of, numbers}
use Rattle.kt_text.proofs.ItemSteps.{IsEdge, begins_item-blanks, edge_behind, starts_behind, starts_behind-blanks, starts_behind-end, starts_behind-item}

abbrev said_of : List Item → ℕ → Result (List ℕ) DataError
said_of items wanted = answer_of items wanted (find (λ item. is_bad item) (take wanted items))

abbrev values_of : List Item → List ℕ
values_of items = map (λ (item : Item). value_of item.text) items

too_many : (read more : List Item) (item : Item) → find (λ i. is_bad i) read ≡ None → said_of (read ++ item ∷ more) (length read) ≡ Err (TooMany item.place)
too_many read more item good = rw (take-append_seam, good, drop-append_seam) refl

first_bad : (read more : List Item) (item : Item) → find (λ i. is_bad i) read ≡ None → is_bad item ≡ true → find (λ i. is_bad i) (read ++ item ∷ more) ≡ Some item
first_bad read more item good bad = rw (find-append, good, bad) refl

bad_number : (read more : List Item) (item : Item) (wanted : ℕ) → find (λ i. is_bad i) read ≡ None → length read < wanted → is_bad item ≡ true →
    said_of (read ++ item ∷ more) wanted ≡ Err (BadNumber item.place)
bad_number read more item wanted good few bad =
    let left : ℕ = wanted - suc (length read) in
    let split : wanted ≡ length read + suc left = omega arith in
    let seen : take wanted (read ++ item ∷ more) ≡ read ++ item ∷ take left more =
    ap (λ n. take n (read ++ item ∷ more)) split ∙ take-append-add read (item ∷ more) (suc left) in
    ap (λ items. answer_of (read ++ item ∷ more) wanted (find (λ i. is_bad i) items)) seen
    ∙ ap (λ found. answer_of (read ++ item ∷ more) wanted found) (first_bad read (take left more) item good bad)

too_few : (read : List Item) (wanted : ℕ) → find (λ i. is_bad i) read ≡ None → length read < wanted → said_of read wanted ≡ Err (TooFew (length read) wanted)
too_few read wanted good few =
    let all : length read ≤ wanted = omega arith in
    let less : nat_lt (length read) wanted ≡ true = grind (arith, nat_tests) in
    rw (take_all wanted read all, good, drop_all wanted read all, less) refl

all_read : (read : List Item) → find (λ i. is_bad i) read ≡ None → said_of read (length read) ≡ Ok (values_of read)
all_read read good =
    let all : length read ≤ length read = omega arith in
    let less : nat_lt (length read) (length read) ≡ false = grind (arith, nat_tests) in
    rw (take_all (length read) read all, good, drop_all (length read) read all, less) refl

abbrev items_behind : List ℕ → ℕ → ℕ → List Item
items_behind job from at = map (λ i. item_at job i) (starts_behind job from at)

-- these numbers were read from the items before `at`, where the next item begins, if there is one
pub record IsRead (job : List ℕ) (from at wanted : ℕ) (so_far : List ℕ) : Type 0 where
  pub behind : from ≤ at
  pub inside : at ≤ length job
  pub begins : at < length job → begins_item job from at ≡ true
  pub read : List Item
  pub whole : items_of job from ≡ read ++ items_behind job from at
  pub good : find (λ i. is_bad i) read ≡ None
  pub values : so_far ≡ values_of read
  pub few : length read ≤ wanted

length-values : {job : List ℕ} {from at wanted : ℕ} {so_far : List ℕ} → (r : IsRead job from at wanted so_far) → length so_far ≡ length r.read
length-values r = ap (λ ns. length ns) r.values ∙ length-map r.read (λ (item : Item). value_of item.text)

next_item : (job : List ℕ) (from at : ℕ) → from ≤ at → at < length job → begins_item job from at ≡ true →
    items_behind job from at ≡ item_at job at ∷ items_behind job from (at + prefix_len is_item_byte (drop at job))
next_item job from at low h e = ap (λ ks. map (λ i. item_at job i) ks) (starts_behind-item job from at low h e)

before_all : (job : List ℕ) (from wanted : ℕ) → from ≤ length job → IsRead job from (from + prefix_len is_blank (drop from job)) wanted []
before_all job from wanted h = record {
  behind = omega arith;
  inside = omega (arith, prefix_len-le-length is_blank (drop from job), length-drop from job);
  begins = begins_item-blanks job from from h (λ _. inl refl);
  read = [];
  whole = ap (λ ks. map (λ i. item_at job i) ks) (starts_behind-blanks job from from h);
  good = refl;
  values = refl;
  few = omega arith;
}

pub is_read-none : (job : List ℕ) (from at wanted : ℕ) (so_far : List ℕ) → from ≤ length job → at ≡ from + prefix_len is_blank (drop from job) → so_far ≡ [] →
    IsRead job from at wanted so_far
is_read-none job from at wanted so_far h is none = rw (is, none) (before_all job from wanted h)

some_if : (v : Bool) (m n : ℕ) → Some n ≡ cond v (Some m) None → n ≡ m
some_if true m n e = cc
some_if false m n e = cc

good_number : (text : List ℕ) (n : ℕ) → Some n ≡ item_number_of text → n ≡ value_of text
good_number text n e = some_if (list_all is_ascii_digit text && nat_lt (value_of text) (2 ^ 64)) (value_of text) n e

is_bad-good : (item : Item) (n : ℕ) → Some n ≡ item_number_of item.text → is_bad item ≡ false
is_bad-good item n e = ap (λ o. is_none o) (sym e)

is_bad-none : (item : Item) → None ≡ item_number_of item.text → is_bad item ≡ true
is_bad-none item e = ap (λ o. is_none o) (sym e)

find_more : (read : List Item) (item : Item) → find (λ i. is_bad i) read ≡ None → is_bad item ≡ false → find (λ i. is_bad i) (read ++ item ∷ []) ≡ None
find_more read item good e = rw (find-append, good, e) refl

-- the bytes that the code takes for the item at `at`
pub item_text : (job : List ℕ) (at stop : ℕ) → stop ≡ at + prefix_len is_item_byte (drop at job) → take (stop - at) (drop at job) ≡ (item_at job at).text
item_text job at stop e = let n : stop - at ≡ prefix_len is_item_byte (drop at job) = omega arith in rw n refl

-- the next item was read, and the blanks behind it skipped
read_on : (job : List ℕ) (from at wanted stop n : ℕ) (so_far : List ℕ) → (r : IsRead job from at wanted so_far) → at < length job →
    stop ≡ at + prefix_len is_item_byte (drop at job) → stop ≤ length job → Some n ≡ item_number_of (item_at job at).text → length so_far ≢ wanted →
    IsRead job from (stop + prefix_len is_blank (drop stop job)) wanted (so_far ++ n ∷ [])
read_on job from at wanted stop n so_far r h is high good other =
    let item : Item = item_at job at in
    let next : ℕ = stop + prefix_len is_blank (drop stop job) in
    let more : starts_behind job from (at + prefix_len is_item_byte (drop at job)) ≡ starts_behind job from next =
    ap (λ i. starts_behind job from i) (sym is) ∙ starts_behind-blanks job from stop high in
    let rest : items_behind job from at ≡ item ∷ items_behind job from next =
    next_item job from at r.behind h (r.begins h) ∙ ap (λ ks. item ∷ map (λ i. item_at job i) ks) more in
    let edge : IsEdge job from stop = rw is (edge_behind job from at r.inside) in
    record {
      behind = omega (arith, r.behind);
      inside = omega (arith, prefix_len-le-length is_blank (drop stop job), length-drop stop job);
      begins = begins_item-blanks job from stop high edge;
      read = r.read ++ item ∷ [];
      whole = r.whole ∙ ap (λ items. r.read ++ items) rest ∙ sym (append_assoc r.read (item ∷ []) (items_behind job from next));
      good = find_more r.read item r.good (is_bad-good item n good);
      values = rw (map-append, r.values, good_number item.text n good) refl;
      few = omega (arith, length-append r.read (item ∷ []), length-values r, r.few);
    }

pub is_read-more : (job : List ℕ) (from at wanted stop n next : ℕ) (so_far more : List ℕ) → IsRead job from at wanted so_far → at < length job →
    stop ≡ at + prefix_len is_item_byte (drop at job) → stop ≤ length job → Some n ≡ item_number_of (take (stop - at) (drop at job)) → length so_far ≢ wanted →
    next ≡ stop + prefix_len is_blank (drop stop job) → more ≡ so_far ++ n ∷ [] → IsRead job from next wanted more
is_read-more job from at wanted stop n next so_far more r h is high good other behind grown =
    rw (behind, grown) (read_on job from at wanted stop n so_far r h is high (good ∙ ap (λ text. item_number_of text) (item_text job at stop is)) other)

to_item : (job : List ℕ) (from at wanted : ℕ) (so_far : List ℕ) → (r : IsRead job from at wanted so_far) → at < length job →
    items_of job from ≡ r.read ++ item_at job at ∷ items_behind job from (at + prefix_len is_item_byte (drop at job))
to_item job from at wanted so_far r h = r.whole ∙ ap (λ items. r.read ++ items) (next_item job from at r.behind h (r.begins h))

to_end : (job : List ℕ) (from at wanted : ℕ) (so_far : List ℕ) → (r : IsRead job from at wanted so_far) → length job ≤ at → items_of job from ≡ r.read
to_end job from at wanted so_far r h = r.whole ∙ ap (λ ks. r.read ++ map (λ i. item_at job i) ks) (starts_behind-end job from at h) ∙ append-nil r.read

pub numbers-many : (job : List ℕ) (from at wanted : ℕ) (so_far : List ℕ) → IsRead job from at wanted so_far →
    at < length job → length so_far ≡ wanted → numbers job from wanted ≡ Err (TooMany (place_of job at))
numbers-many job from at wanted so_far r h all =
    let read : wanted ≡ length r.read = sym all ∙ length-values r in
    let more : List Item = items_behind job from (at + prefix_len is_item_byte (drop at job)) in
    ap (λ items. said_of items wanted) (to_item job from at wanted so_far r h) ∙ ap (λ n. said_of (r.read ++ item_at job at ∷ more) n) read
    ∙ too_many r.read more (item_at job at) r.good

pub numbers-bad : (job : List ℕ) (from at wanted stop : ℕ) (so_far : List ℕ) → IsRead job from at wanted so_far →
    at < length job → length so_far ≢ wanted → stop ≡ at + prefix_len is_item_byte (drop at job) → None ≡ item_number_of (take (stop - at) (drop at job)) →
    numbers job from wanted ≡ Err (BadNumber (place_of job at))
numbers-bad job from at wanted stop so_far r h other is bad =
    let few : length r.read < wanted = omega (arith, length-values r, r.few) in
    let none : None ≡ item_number_of (item_at job at).text = bad ∙ ap (λ text. item_number_of text) (item_text job at stop is) in
    ap (λ items. said_of items wanted) (to_item job from at wanted so_far r h)
    ∙ bad_number r.read (items_behind job from (at + prefix_len is_item_byte (drop at job))) (item_at job at) wanted r.good few (is_bad-none (item_at job at) none)

pub numbers-few : (job : List ℕ) (from at wanted : ℕ) (so_far : List ℕ) → IsRead job from at wanted so_far →
    length job ≤ at → length so_far < wanted → numbers job from wanted ≡ Err (TooFew (length so_far) wanted)
numbers-few job from at wanted so_far r h few =
    let fewer : length r.read < wanted = omega (arith, length-values r) in
    ap (λ items. said_of items wanted) (to_end job from at wanted so_far r h) ∙ too_few r.read wanted r.good fewer ∙ ap (λ n. Err (TooFew n wanted)) (sym (length-values r))

pub numbers-all : (job : List ℕ) (from at wanted : ℕ) (so_far : List ℕ) → IsRead job from at wanted so_far →
    length job ≤ at → wanted ≤ length so_far → numbers job from wanted ≡ Ok so_far
numbers-all job from at wanted so_far r h all =
    let read : wanted ≡ length r.read = omega (arith, length-values r, r.few) in
    ap (λ items. said_of items wanted) (to_end job from at wanted so_far r h) ∙ ap (λ n. said_of r.read n) read ∙ all_read r.read r.good ∙ ap (λ ns. Ok ns) (sym r.values)
