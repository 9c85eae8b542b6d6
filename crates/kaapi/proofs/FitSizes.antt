-- Words that ask for a generated job name a size of its kind.
use Rattle.std.proofs.Common.{◌≡◌, ◌≤◌, ℕ, Bool, true, false, List, [], ◌∷◌, Some, None, Option, if◌then◌else◌, ◌&&◌, nat_le, refl, subst, arith}
use Rattle.std.proofs.lemmas.Bool.Decides.{nat_tests}
use Rattle.std.specs.Prelude.{bytes_eq, codes}
use Rattle.kt_text.specs.Bytes.{value_of}
use Rattle.kt_text.specs.Words.{command_of, demo_of, gen_of, is_number, kind_of, largest_of, number_of, run_of, sim_of, size_of, sized_of, workers_of}
use Rattle.kt_text.specs.declared.commands.Kind.{Kind}
use Rattle.kt_text.specs.declared.commands.Command.{Command}
use Rattle.kt_text.specs.declared.commands.Command.TheVariants as C
use Rattle.kt_gen.specs.Jobs.{IsSize}

-- the size that is asked for is one of its kind
abbrev HasSize : Option Command → Type 0
HasSize (Some (C.Gen kind size number)) = IsSize kind size
HasSize (Some (C.Demo kind size number w)) = IsSize kind size
HasSize _ = Unit {0}

one : (b c : Bool) → HasSize (if b then Some C.Check else if c then Some C.Seq else None)
one true c = tt
one false true = tt
one false false = tt

two : (b : Bool) (o : Option ℕ) → HasSize (if b then run_of o else None)
two true (Some workers) = tt
two true None = tt
two false o = tt

three : (b : Bool) (o q : Option ℕ) → HasSize (if b then sim_of o q else None)
three true (Some workers) (Some number) = tt
three true (Some workers) None = tt
three true None q = tt
three false o q = tt

four : (b : Bool) (o : Option (Kind × ℕ)) (q : Option ℕ) → ((x : Kind × ℕ) → o ≡ Some x → IsSize x.0 x.1) → HasSize (if b then gen_of o q else None)
four true (Some x) (Some number) fits = fits x refl
four true (Some x) None fits = tt
four true None q fits = tt
four false o q fits = tt

five : (b : Bool) (o : Option (Kind × ℕ)) (q r : Option ℕ) → ((x : Kind × ℕ) → o ≡ Some x → IsSize x.0 x.1) → HasSize (if b then demo_of o q r else None)
five true (Some x) (Some number) (Some workers) fits = fits x refl
five true (Some x) (Some number) None fits = tt
five true (Some x) None r fits = tt
five true None q r fits = tt
five false o q r fits = tt

between : (a : Bool) (x n high : ℕ) → (if a && nat_le 1 x && nat_le x high then Some x else None) ≡ Some n → (1 ≤ n) × (n ≤ high)
between a x n high e = grind (arith, nat_tests)

abbrev with_kind : Kind → Option ℕ → Option (Kind × ℕ)
with_kind kind (Some size) = Some (kind, size)
with_kind kind None = None

chosen : (kind : Kind) (o : Option ℕ) (x : Kind × ℕ) → ((n : ℕ) → o ≡ Some n → (1 ≤ n) × (n ≤ largest_of kind)) → with_kind kind o ≡ Some x → IsSize x.0 x.1
chosen kind (Some n) x fits e =
    let same : (let y : Kind × ℕ = (kind, n) in y) ≡ x = cc in subst (λ (x : Kind × ℕ). IsSize x.0 x.1) same (fits n refl)
chosen kind None x fits e = cc

sized : (o : Option Kind) (word : List ℕ) (x : Kind × ℕ) → size_of o word ≡ Some x → IsSize x.0 x.1
sized (Some kind) word x e = chosen kind _ x (λ n h. between (is_number word) (value_of word) n (largest_of kind) h) e
sized None word x e = cc

has_size : (words : List (List ℕ)) → HasSize (command_of words)
has_size [] = tt
has_size (name ∷ []) = one (bytes_eq name (codes "check")) (bytes_eq name (codes "seq"))
has_size (name ∷ (v ∷ [])) = two (bytes_eq name (codes "run")) (workers_of v)
has_size (name ∷ (v ∷ (number ∷ []))) = three (bytes_eq name (codes "sim")) (workers_of v) (number_of number)
has_size (name ∷ (kind ∷ (size ∷ (number ∷ [])))) =
    four (bytes_eq name (codes "gen")) (sized_of kind size) (number_of number) (λ x h. sized (kind_of kind) size x h)
has_size (name ∷ (kind ∷ (size ∷ (number ∷ (v ∷ []))))) =
    five (bytes_eq name (codes "demo")) (sized_of kind size) (number_of number) (workers_of v) (λ x h. sized (kind_of kind) size x h)
has_size (name ∷ (kind ∷ (size ∷ (number ∷ (v ∷ (x ∷ more)))))) = tt

pub fit_size : (words : List (List ℕ)) (kind : Kind) (size number : ℕ) → command_of words ≡ Some (C.Gen kind size number) → IsSize kind size
fit_size words kind size number e = subst HasSize e (has_size words)

pub fit_demo : (words : List (List ℕ)) (kind : Kind) (size number w : ℕ) → command_of words ≡ Some (C.Demo kind size number w) → IsSize kind size
fit_demo words kind size number w e = subst HasSize e (has_size words)
