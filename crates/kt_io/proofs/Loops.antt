-- What the loops that read and write a whole text keep.
use Rattle.std.proofs.Common.{◌≡◌, ◌<◌, ◌≤◌, ◌+◌, ℕ, List, [], ◌++◌, length, take, drop, sym, ◌∙◌, ap, arith, refl, subst, append_assoc, append-nil, length-append, length-take-le, take-append-drop}
use Rattle.std.specs.Prelude.{None, Some, Result, Ok, Err, IsErrAnd, IsErrOf}
use Rattle.std.specs.declared.option.Option.{Option}
use Rattle.std.proofs.KnownBytes.{Appends-nil, Appends-trans, Appends-kept, Consumes-trans}
use Rattle.std.specs.Io.KnownBytes.{Appends, Consumes, Keeps, IsAtEnd}
use Rattle.kt_io.specs.declared.whole.ReadError.{ReadError}
use Rattle.kt_io.specs.declared.whole.ReadError.TheVariants as R
use Rattle.kt_io.specs.Streams.{TakesAll, TakesWithin, HasMoreThan, AppendsPart}

-- ---- writing

-- a front of the bytes was written, in no more calls than it has bytes
pub record WroteSoFar (old now : Option (List ℕ)) (faults faults_now calls calls_now : ℕ) (bytes rest : List ℕ) : Type 0 where
  pub front : List ℕ
  pub split : front ++ rest ≡ bytes
  pub appended : Appends old now front
  pub later : faults ≤ faults_now
  pub writes : calls_now ≤ calls + length front

pub wrote_none : (old : Option (List ℕ)) (faults calls : ℕ) (bytes : List ℕ) → WroteSoFar old old faults faults calls calls bytes bytes
wrote_none old faults calls bytes =
    record { front = []; split = refl; appended = Appends-nil old; later = omega arith; writes = omega arith }

-- one more call wrote the front of the rest
pub wrote_more : (old now new : Option (List ℕ)) (faults faults_now faults_new calls calls_now calls_new count : ℕ) (bytes rest : List ℕ) →
    WroteSoFar old now faults faults_now calls calls_now bytes rest → Appends now new (take count rest) → 0 < count → count ≤ length rest →
    faults_now ≤ faults_new → calls_new ≤ calls_now + 1 → WroteSoFar old new faults faults_new calls calls_new bytes (drop count rest)
wrote_more old now new faults faults_now faults_new calls calls_now calls_new count bytes rest so_far more some fits later once = record {
  front = so_far.front ++ take count rest;
  split = append_assoc so_far.front (take count rest) (drop count rest) ∙ ap (λ l. so_far.front ++ l) (take-append-drop count rest) ∙ so_far.split;
  appended = Appends-trans old now new so_far.front (take count rest) so_far.appended more;
  later = omega arith;
  writes = omega (arith, length-append so_far.front (take count rest), length-take-le count rest fits);
}

-- nothing is left to write
pub wrote_all : (old now : Option (List ℕ)) (faults faults_now calls calls_now : ℕ) (bytes rest : List ℕ) →
    WroteSoFar old now faults faults_now calls calls_now bytes rest → rest ≡ [] → Appends old now bytes
wrote_all old now faults faults_now calls calls_now bytes rest so_far none =
    subst (Appends old now) (sym (append-nil so_far.front) ∙ ap (λ l. so_far.front ++ l) (sym none) ∙ so_far.split) so_far.appended

-- the next call failed
pub wrote_part : (old now new : Option (List ℕ)) (faults faults_now calls calls_now : ℕ) (bytes rest : List ℕ) →
    WroteSoFar old now faults faults_now calls calls_now bytes rest → Keeps now new → 0 < length rest → AppendsPart old new bytes
wrote_part old now new faults faults_now calls calls_now bytes rest so_far kept more =
    record { front = so_far.front; rest = rest; split = so_far.split; more = more; appended = Appends-kept old now new so_far.front so_far.appended kept }

-- no more calls were made than there are bytes, also with one more while some are left
pub wrote_within : (old now : Option (List ℕ)) (faults faults_now calls calls_now : ℕ) (bytes rest : List ℕ) →
    WroteSoFar old now faults faults_now calls calls_now bytes rest → calls_now + length rest ≤ calls + length bytes
wrote_within old now faults faults_now calls calls_now bytes rest so_far =
    omega (arith, so_far.writes, length-append so_far.front rest, ap length so_far.split)

-- ---- reading

-- these bytes were read, in no more calls than there are
pub record ReadSoFar (old now : Option (List ℕ)) (faults faults_now calls calls_now limit : ℕ) (bytes : List ℕ) : Type 0 where
  pub taken : Consumes old now bytes
  pub within : length bytes ≤ limit
  pub later : faults ≤ faults_now
  pub reads : calls_now ≤ calls + length bytes

-- the last read gave nothing
pub taken_all : (old now new : Option (List ℕ)) (bytes piece : List ℕ) → Consumes old now bytes → Consumes now new piece → piece ≡ [] → IsAtEnd new → TakesAll old new bytes
taken_all None now new bytes piece taken more none end = record { told = tt; at_end = end }
taken_all (Some xs) None new bytes piece taken more none end = absurd taken
taken_all (Some xs) (Some ys) None bytes piece taken more none end = absurd more
taken_all (Some xs) (Some ys) (Some zs) bytes piece taken more none end =
    record { told = sym (taken ∙ ap (λ l. bytes ++ l) (more ∙ ap (λ l. l ++ zs) none ∙ end) ∙ append-nil bytes); at_end = end }

-- no more bytes were taken than the limit
pub took_within : (old new : Option (List ℕ)) (bytes : List ℕ) (limit : ℕ) (too_many : Type 0) → Consumes old new bytes → length bytes ≤ limit → (too_many → ⊥) →
    TakesWithin limit too_many old new
took_within old new bytes limit too_many taken few not_so =
    record { bytes = bytes; taken = taken; few = omega arith; passed = (λ so. absurd (not_so so), λ more. absurd (omega arith)) }

-- nor with the front of one more piece
pub took_piece : (old now new : Option (List ℕ)) (bytes piece : List ℕ) (count limit : ℕ) (too_many : Type 0) → Consumes old now bytes → Consumes now new (take count piece) →
    count ≤ length piece → length bytes + count ≤ limit → (too_many → ⊥) → TakesWithin limit too_many old new
took_piece old now new bytes piece count limit too_many taken more fits few not_so =
    took_within old new (bytes ++ take count piece) limit too_many (Consumes-trans old now new bytes (take count piece) taken more)
    (omega (arith, length-append bytes (take count piece), length-take-le count piece fits)) not_so

-- with the front of one more piece it is one byte more than the limit
pub took_past : (old now new : Option (List ℕ)) (bytes piece : List ℕ) (count limit : ℕ) (too_many : Type 0) → Consumes old now bytes → Consumes now new (take count piece) →
    count ≤ length piece → length bytes + count ≡ limit + 1 → too_many → TakesWithin limit too_many old new
took_past old now new bytes piece count limit too_many taken more fits one_more so = record {
  bytes = bytes ++ take count piece;
  taken = Consumes-trans old now new bytes (take count piece) taken more;
  few = omega (arith, length-append bytes (take count piece), length-take-le count piece fits);
  passed = (λ _. omega (arith, length-append bytes (take count piece), length-take-le count piece fits), λ _. so);
}

-- a source that gave more than the limit has more
pub has_more : (old new : Option (List ℕ)) (bytes : List ℕ) (limit : ℕ) → Consumes old new bytes → limit < length bytes → HasMoreThan limit old
has_more None new bytes limit taken more = record { bytes = bytes; told = tt; more = more }
has_more (Some xs) None bytes limit taken more = absurd taken
has_more (Some xs) (Some ys) bytes limit taken more = record { bytes = xs; told = refl; more = rw taken (omega (arith, length-append bytes ys)) }

pub taken_past : (old now new : Option (List ℕ)) (bytes piece : List ℕ) (count limit : ℕ) → Consumes old now bytes → Consumes now new (take count piece) →
    count ≤ length piece → limit < length bytes + count → HasMoreThan limit old
taken_past old now new bytes piece count limit taken more fits past =
    has_more old new (bytes ++ take count piece) limit (Consumes-trans old now new bytes (take count piece) taken more)
    (omega (arith, length-append bytes (take count piece), length-take-le count piece fits))

-- want of memory is no other error
pub no_memory_alone : {T : Type 0} (result : Result T ReadError) → IsErrAnd result (λ e. e ≡ R.NoMemory) → IsErrOf result R.TooLong → ⊥
no_memory_alone (Ok bytes) fails so = absurd fails
no_memory_alone (Err error) fails so = cc
