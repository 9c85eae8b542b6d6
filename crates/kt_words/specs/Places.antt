-- Where the words of a run stand.
use Rattle.std.specs.Prelude.{ℕ, ◌+◌, ◌*◌, ◌<◌}
use Rattle.kt_words.specs.declared.layouts.TheConstants.{RECORDS, FIELDS, SHARED_WORDS, WORKER_WORDS}
use Rattle.kt_words.specs.declared.layouts.Layout.{Layout}

-- the words that all workers share: what the table keeps for its own moves with seats, the counts, the stop word
pub data Shared : Type 0 where
  seats : Shared
  tasks_drawn : Shared
  positions_drawn : Shared
  stop : Shared

-- the words of one worker
pub data Own : Type 0 where
  request : Own
  post : Own
  answer : Own
  interval : Own
  home : Own

-- the words of a run: shared ones, those of a worker, the fields of a record, the elements, and the versions of objects
pub data Place : Type 0 where
  shared_word : Shared → Place
  worker_word : ℕ → Own → Place
  record_word : ℕ → ℕ → Place
  element_word : ℕ → Place
  version_word : ℕ → Place

-- the places that a layout has
abbrev pub IsWithin : Layout → Place → Type 0
IsWithin l (shared_word word) = Unit {0}
IsWithin l (worker_word worker word) = worker < l.workers
IsWithin l (record_word at field) = (at < RECORDS * l.workers) × (field < FIELDS)
IsWithin l (element_word number) = number < l.elements
IsWithin l (version_word object) = object < l.objects

abbrev pub shared_number : Shared → ℕ
shared_number seats = 0
shared_number tasks_drawn = 1
shared_number positions_drawn = 2
shared_number stop = 3

abbrev pub own_number : Own → ℕ
own_number request = 0
own_number post = 1
own_number answer = 2
own_number interval = 3
own_number home = 4

-- the number of the first field of all, of the first element, and of the first version
abbrev pub first_record : Layout → ℕ
first_record l = SHARED_WORDS + WORKER_WORDS * l.workers

abbrev pub first_element : Layout → ℕ
first_element l = first_record l + FIELDS * (RECORDS * l.workers)

abbrev pub first_version : Layout → ℕ
first_version l = first_element l + l.elements

-- the number of a word in the table
unfoldable pub place : Layout → Place → ℕ
place l (shared_word word) = shared_number word
place l (worker_word worker word) = SHARED_WORDS + WORKER_WORDS * worker + own_number word
place l (record_word at field) = first_record l + FIELDS * at + field
place l (element_word number) = first_element l + number
place l (version_word object) = first_version l + object

-- how many words the table has
unfoldable pub total_of : Layout → ℕ
total_of l = first_version l + l.objects
