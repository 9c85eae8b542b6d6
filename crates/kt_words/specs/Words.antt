-- The bit fields of each kind of word, and the values whose fields are in range.
use Rattle.std.specs.Prelude.{◌≡◌, ℕ, ◌^◌, ◌<◌, ◌≤◌, [], ◌∷◌}
use Rattle.kt_law.specs.Modes.{op_number}
use Rattle.kt_law.specs.declared.limits.TheConstants.{INTS, ACCESSES}
use Rattle.kt_law.specs.declared.stands.Stand.{Stand}
use Rattle.kt_law.specs.declared.stands.Stand.TheVariants as S
use Rattle.kt_law.specs.declared.modes.Mode.{Mode}
use Rattle.kt_law.specs.declared.modes.Mode.TheVariants as M
use Rattle.kt_law.specs.declared.accesses.Access.{Access}
use Rattle.kt_words.specs.BitFields.{Fields, packed}
use Rattle.kt_words.specs.declared.states.StateWord.{StateWord}
use Rattle.kt_words.specs.declared.heads.HeadWord.{HeadWord}
use Rattle.kt_words.specs.declared.pairs.Pair.{Pair}
use Rattle.kt_words.specs.declared.posts.Post.{Post}
use Rattle.kt_words.specs.declared.posts.Post.TheVariants as P

abbrev pub stand_number : Stand → ℕ
stand_number S.Empty = 0
stand_number S.Unclaimed = 1
stand_number (S.Given worker) = 2
stand_number (S.Running worker) = 3
stand_number S.Finished = 4

-- 0 where the stand has no worker
abbrev pub worker_number : Stand → ℕ
worker_number (S.Given worker) = worker
worker_number (S.Running worker) = worker
worker_number _ = 0

-- A state word: the stand in bits 0 to 2, its worker in bits 3 to 5, the fork number in bits 6 to 22, the frame from bit 23 on.
abbrev pub state_fields : StateWord → Fields
state_fields v = (3, stand_number v.stand) ∷ (3, worker_number v.stand) ∷ (17, v.fork) ∷ (41, v.frame) ∷ []

-- a record without a task has neither a frame nor a fork number, so its word is 0
abbrev pub IsBlankIfEmpty : Stand → ℕ → ℕ → Type 0
IsBlankIfEmpty S.Empty frame fork = (frame ≡ 0) × (fork ≡ 0)
IsBlankIfEmpty _ frame fork = Unit {0}

pub record IsStateWord (v : StateWord) : Type 0 where
  pub frame_fits : v.frame < 2 ^ 41
  pub fork_fits : v.fork < 2 ^ 17
  pub worker_fits : worker_number v.stand < 2 ^ 3
  pub blank_if_empty : IsBlankIfEmpty v.stand v.frame v.fork

unfoldable pub packed_state : StateWord → ℕ
packed_state v = packed (state_fields v)

-- A head word: the definition in bits 0 to 15, the depth in bits 16 to 21, the drawn number in bits 22 to 47,
-- the number of ints in bits 48 to 51, that of accesses in bits 52 to 55.
abbrev pub head_fields : HeadWord → Fields
head_fields v = (16, v.task) ∷ (6, v.depth) ∷ (26, v.number) ∷ (4, v.ints) ∷ (4, v.accesses) ∷ []

pub record IsHeadWord (v : HeadWord) : Type 0 where
  pub task_fits : v.task < 2 ^ 16
  pub depth_fits : v.depth < 2 ^ 6
  pub number_fits : v.number < 2 ^ 26
  pub ints_fit : v.ints ≤ INTS
  pub accesses_fit : v.accesses ≤ ACCESSES

unfoldable pub packed_head : HeadWord → ℕ
packed_head v = packed (head_fields v)

-- A pair: one number in bits 0 to 31, the other in bits 32 to 63.
abbrev pub pair_fields : Pair → Fields
pair_fields v = (32, v.low) ∷ (32, v.high) ∷ []

pub record IsPair (v : Pair) : Type 0 where
  pub low_fits : v.low < 2 ^ 32
  pub high_fits : v.high < 2 ^ 32

unfoldable pub packed_pair : Pair → ℕ
packed_pair v = packed (pair_fields v)

abbrev pub post_kind : Post → ℕ
post_kind P.Idle = 0
post_kind (P.Posted victim) = 1
post_kind (P.Held victim) = 2
post_kind P.Failed = 3
post_kind (P.Task at) = 4
post_kind (P.Piece at) = 5

-- the victim or the record, 0 where there is none
abbrev pub post_number : Post → ℕ
post_number (P.Posted victim) = victim
post_number (P.Held victim) = victim
post_number (P.Task at) = at
post_number (P.Piece at) = at
post_number _ = 0

-- A post word: the kind in bits 0 to 2, a number from bit 3 on.
abbrev pub post_fields : Post → Fields
post_fields v = (3, post_kind v) ∷ (61, post_number v) ∷ []

-- victims and records are numbers of 32 bits
pub record IsPost (v : Post) : Type 0 where
  pub number_fits : post_number v < 2 ^ 32

unfoldable pub packed_post : Post → ℕ
packed_post v = packed (post_fields v)

abbrev pub mode_number : Mode → ℕ
mode_number M.R = 0
mode_number M.W = 1
mode_number M.X = 2
mode_number (M.Cw op) = 3
mode_number M.Rp = 4
mode_number M.Wp = 5
mode_number M.Xp = 6
mode_number (M.Cwp op) = 7

-- 0 where the mode has no op
abbrev pub mode_op : Mode → ℕ
mode_op (M.Cw op) = op_number op
mode_op (M.Cwp op) = op_number op
mode_op _ = 0

-- An access word: lo in bits 0 to 19, hi in bits 20 to 39, the mode in bits 40 to 42, its op in bits 43 to 45.
abbrev pub access_fields : Access → Fields
access_fields v = (20, v.lo) ∷ (20, v.hi) ∷ (3, mode_number v.mode) ∷ (3, mode_op v.mode) ∷ []

-- an access is from lo up to hi, so its lo is at most its hi
pub record IsAccess (v : Access) : Type 0 where
  pub ordered : v.lo ≤ v.hi
  pub hi_fits : v.hi < 2 ^ 20

unfoldable pub packed_access : Access → ℕ
packed_access v = packed (access_fields v)
