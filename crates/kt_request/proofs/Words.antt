-- What a packed state says, by the word alone.
use Rattle.std.proofs.Common.{◌≡◌, ◌≢◌, ℕ, ◌+◌, ◌==◌, ◌&&◌, ◌||◌, nat_le, Bool, true, false, sym, refl, ap, ◌∙◌, subst, arith, eq-eqb, ne_eqb, ◌≤◌, ◌<◌}
use Rattle.std.proofs.lemmas.Bool.Decides.{nat_tests}
use Rattle.kt_law.specs.declared.stands.Stand.{Stand}
use Rattle.kt_law.specs.declared.stands.Stand.TheVariants as S
use Rattle.kt_words.specs.Words.{packed_state, stand_number, worker_number, IsStateWord}
use Rattle.kt_words.specs.declared.states.StateWord.{StateWord}
use Rattle.kt_rule.specs.Records.{fork_in}
use Rattle.kt_rule.proofs.Words.{word_parts, number_below}
use Rattle.kt_request.specs.Notes.{worker_in, stand_with, stand_said, taken_by}

worker_part : (v : StateWord) → IsStateWord v → worker_in (packed_state v) ≡ worker_number v.stand
unfolding worker_in packed_state
worker_part v h = let b = h.worker_fits in let c = number_below v.stand in omega arith

named : (s : Stand) → stand_with (stand_number s) (worker_number s) ≡ s
named S.Empty = refl
named S.Unclaimed = refl
named (S.Given k) = refl
named (S.Running k) = refl
named S.Finished = refl

pub said : (v : StateWord) → IsStateWord v → stand_said (packed_state v) ≡ v.stand
said v h = (λ i. stand_with ((word_parts v h).0 i) (worker_part v h i)) ∙ named v.stand

-- whether an entry is taken, by the parts
pub taken_parts : (last state : StateWord) → IsStateWord last → IsStateWord state
    → (nat_le state.fork 1 || ((last.frame == state.frame) && (last.fork + 1 == state.fork))) ≡ taken_by (packed_state last) (packed_state state)
taken_parts last state l s = let p = word_parts last l in let q = word_parts state s in
    sym (λ i. nat_le (q.1 i) 1 || ((p.2 i == q.2 i) && (p.1 i + 1 == q.1 i)))

pub empty_packed : packed_state (record { frame = 0; fork = 0; stand = S.Empty }) ≡ 0
unfolding packed_state
empty_packed = omega arith

pub empty_fits : IsStateWord (record { frame = 0; fork = 0; stand = S.Empty })
empty_fits = record { frame_fits = omega arith; fork_fits = omega arith; worker_fits = omega arith; blank_if_empty = (refl, refl) }

-- the word of a record without a task is 0
pub empty_word : (v : StateWord) → IsStateWord v → v.stand ≡ S.Empty → packed_state v ≡ 0
empty_word v h e = let blank = subst (λ (s : Stand). Rattle.kt_words.specs.Words.IsBlankIfEmpty s v.frame v.fork) e h.blank_if_empty in
    (λ i. packed_state (record { frame = blank.0 i; fork = blank.1 i; stand = e i })) ∙ empty_packed

le_yes : (f : ℕ) → f ≤ 1 → nat_le f 1 ≡ true
le_yes f h = grind (arith, nat_tests)

le_no : (f : ℕ) → 1 < f → nat_le f 1 ≡ false
le_no f h = grind (arith, nat_tests)

pub first_fork : (x : StateWord) → IsStateWord x → x.fork ≤ 1 → nat_le (fork_in (packed_state x)) 1 ≡ true
first_fork x fits h = ap (λ (z : ℕ). nat_le z 1) (word_parts x fits).1 ∙ le_yes x.fork h

pub later_fork : (x : StateWord) → IsStateWord x → 1 < x.fork → nat_le (fork_in (packed_state x)) 1 ≡ false
later_fork x fits h = ap (λ (z : ℕ). nat_le z 1) (word_parts x fits).1 ∙ le_no x.fork h

module _ (last state : StateWord) (l : IsStateWord last) (s : IsStateWord state) where
  pub taken_first : state.fork ≤ 1 → nat_le state.fork 1 ≡ taken_by (packed_state last) (packed_state state)
  taken_first h = (le_yes state.fork h ∙ sym (ap (λ (b : Bool). b || ((last.frame == state.frame) && (last.fork + 1 == state.fork)))
      (le_yes state.fork h))) ∙ taken_parts last state l s

  pub taken_next : 1 < state.fork → last.frame ≡ state.frame
      → (last.fork + 1 == state.fork) ≡ taken_by (packed_state last) (packed_state state)
  taken_next h e = sym (λ i. le_no state.fork h i || (eq-eqb last.frame state.frame e i && (last.fork + 1 == state.fork)))
      ∙ taken_parts last state l s

  pub taken_other : 1 < state.fork → last.frame ≢ state.frame
      → (last.frame == state.frame) ≡ taken_by (packed_state last) (packed_state state)
  taken_other h n = (ne_eqb last.frame state.frame n
      ∙ sym (λ i. le_no state.fork h i || (ne_eqb last.frame state.frame n i && (last.fork + 1 == state.fork)))) ∙ taken_parts last state l s
