-- Words that ask for a run by events, or by workers, or for that of a generated job, name 1 to 8 of them.
use Rattle.std.proofs.Common.{◌≡◌, ◌≤◌, ℕ, Bool, true, false, List, [], ◌∷◌, Some, None, Option, if◌then◌else◌, ◌&&◌, nat_le, refl, subst, arith}
use Rattle.std.proofs.lemmas.Bool.Decides.{nat_tests}
use Rattle.std.specs.Prelude.{bytes_eq, codes}
use Rattle.kt_law.specs.declared.limits.TheConstants.{WORKERS}
use Rattle.kt_text.specs.Bytes.{value_of}
use Rattle.kt_text.specs.Words.{command_of, is_number, number_between, number_of, run_of, sim_of, gen_of, demo_of, sized_of, workers_of}
use Rattle.kt_text.specs.declared.commands.Kind.{Kind}
use Rattle.kt_text.specs.declared.commands.Command.{Command}
use Rattle.kt_text.specs.declared.commands.Command.TheVariants as C

abbrev pub IsFew : ℕ → Type 0
IsFew w = (1 ≤ w) × (w ≤ WORKERS)

-- the workers that are asked for are few
abbrev HasFew : Option Command → Type 0
HasFew (Some (C.Sim w number)) = IsFew w
HasFew (Some (C.Run w)) = IsFew w
HasFew (Some (C.Demo kind size number w)) = IsFew w
HasFew _ = Unit {0}

one : (b c : Bool) → HasFew (if b then Some C.Check else if c then Some C.Seq else None)
one true c = tt
one false true = tt
one false false = tt

two : (b : Bool) (o : Option ℕ) → ((x : ℕ) → o ≡ Some x → IsFew x) → HasFew (if b then run_of o else None)
two true (Some workers) few = few workers refl
two true None few = tt
two false o few = tt

three : (b : Bool) (o q : Option ℕ) → ((x : ℕ) → o ≡ Some x → IsFew x) → HasFew (if b then sim_of o q else None)
three true (Some workers) (Some number) few = few workers refl
three true (Some workers) None few = tt
three true None q few = tt
three false o q few = tt

four : (b : Bool) (o : Option (Kind × ℕ)) (q : Option ℕ) → HasFew (if b then gen_of o q else None)
four true (Some sized) (Some number) = tt
four true (Some sized) None = tt
four true None q = tt
four false o q = tt

five : (b : Bool) (o : Option (Kind × ℕ)) (q r : Option ℕ) → ((x : ℕ) → r ≡ Some x → IsFew x) → HasFew (if b then demo_of o q r else None)
five true (Some sized) (Some number) (Some workers) few = few workers refl
five true (Some sized) (Some number) None few = tt
five true (Some sized) None r few = tt
five true None q r few = tt
five false o q r few = tt

between : (a : Bool) (x w : ℕ) → (if a && nat_le 1 x && nat_le x WORKERS then Some x else None) ≡ Some w → IsFew w
between a x w e = grind (arith, nat_tests)

named : (word : List ℕ) (x : ℕ) → workers_of word ≡ Some x → IsFew x
named word x h = between (is_number word) (value_of word) x h

has_few : (words : List (List ℕ)) → HasFew (command_of words)
has_few [] = tt
has_few (name ∷ []) = one (bytes_eq name (codes "check")) (bytes_eq name (codes "seq"))
has_few (name ∷ (v ∷ [])) = two (bytes_eq name (codes "run")) (workers_of v) (named v)
has_few (name ∷ (v ∷ (number ∷ []))) = three (bytes_eq name (codes "sim")) (workers_of v) (number_of number) (named v)
has_few (name ∷ (kind ∷ (size ∷ (number ∷ [])))) = four (bytes_eq name (codes "gen")) (sized_of kind size) (number_of number)
has_few (name ∷ (kind ∷ (size ∷ (number ∷ (v ∷ []))))) = five (bytes_eq name (codes "demo")) (sized_of kind size) (number_of number) (workers_of v) (named v)
has_few (name ∷ (kind ∷ (size ∷ (number ∷ (v ∷ (x ∷ more)))))) = tt

pub few_workers : (words : List (List ℕ)) (w number : ℕ) → command_of words ≡ Some (C.Sim w number) → IsFew w
few_workers words w number e = subst HasFew e (has_few words)

pub few_in_crew : (words : List (List ℕ)) (w : ℕ) → command_of words ≡ Some (C.Run w) → IsFew w
few_in_crew words w e = subst HasFew e (has_few words)

pub few_in_demo : (words : List (List ℕ)) (kind : Kind) (size number w : ℕ) → command_of words ≡ Some (C.Demo kind size number w) → IsFew w
few_in_demo words kind size number w e = subst HasFew e (has_few words)
