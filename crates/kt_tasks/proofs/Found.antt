-- What is found where a word is looked at.
use Rattle.std.proofs.Common.{◌≡◌, ◌≢◌, ◌==◌, ◌*◌, ◌<◌, eq-eqb, ne_eqb, MatchBool, ℕ, ◌⊎◌, Some, sym, refl, ap, ◌∙◌, subst, arith, inl, inr}
use Rattle.atomic_table.specs.Table.{Step}
use Rattle.kt_law.specs.declared.stands.Stand.{Stand}
use Rattle.kt_law.specs.declared.stands.Stand.TheVariants as S
use Rattle.kt_words.specs.Words.{packed_state, IsStateWord}
use Rattle.kt_words.specs.declared.states.StateWord.{StateWord}
use Rattle.kt_words.specs.declared.layouts.TheConstants.{RECORDS}
use Rattle.kt_rule.specs.declared.views.Berth.{Berth}
use Rattle.kt_rule.specs.declared.views.Setup.{Setup}
use Rattle.kt_rule.specs.declared.views.Spot.{Spot}
use Rattle.kt_rule.specs.declared.views.View.{View}
use Rattle.kt_rule.specs.Records.{layout_of}
use Rattle.kt_rule.specs.Rule.{Slots}
use Rattle.kt_rule.specs.Steps.{IsState, stands, state_place, state_word}
use Rattle.kt_rule.proofs.Words.{state_one}
use Rattle.kt_steps.specs.Told.{IsMine}
use Rattle.kt_tasks.specs.Claims.{ClaimsOwnFew, IsStateOf}

empty_packed : packed_state (record { frame = 0; fork = 0; stand = S.Empty }) ≡ 0
unfolding packed_state
empty_packed = omega arith

-- a word that is 0 or a state's says a state
pub word_found : (n : ℕ) → (n ≡ 0) ⊎ ((x : StateWord) × IsStateWord x × (x.stand ≢ S.Empty) × (n ≡ packed_state x))
    → (x : StateWord) × IsStateWord x × (n ≡ packed_state x)
word_found n (inl z) = (
  record { frame = 0; fork = 0; stand = S.Empty },
  record { frame_fits = omega arith; fork_fits = omega arith; worker_fits = omega arith; blank_if_empty = (refl, refl) },
  z
      ∙ sym empty_packed,
)
word_found n (inr (x, fits, taken, e)) = (x, fits, e)

-- the state that was found is that of the task that lies there
pub state_found : (x : StateWord) (b : Berth) (n : ℕ) → IsStateWord x × (packed_state x ≡ n)
    → (s : Stand) × IsState b s × (s ≢ S.Empty) × (n ≡ state_word b s)
    → (s : Stand) × (x ≡ record { frame = b.frame; fork = b.fork; stand = s })
state_found x b n h k = (k.0, state_one x (record { frame = b.frame; fork = b.fork; stand = k.0 }) h.0 k.1 (h.1 ∙ k.3))

-- so another state of it is packed with its numbers
pub repacked : (x : StateWord) (b : Berth) → (s : Stand) × (x ≡ record { frame = b.frame; fork = b.fork; stand = s })
    → (to : Stand) (n : ℕ) → n ≡ packed_state (record { frame = x.frame; fork = x.fork; stand = to }) → n ≡ state_word b to
repacked x b h to n e = e ∙ (λ i. packed_state (record { frame = (h.1 i).frame; fork = (h.1 i).fork; stand = to }))

-- what is told of an exchange that found the word
pub won_is : (n old : ℕ) (A B : Type 0) → n ≡ old → MatchBool (n == old) A B → A
won_is n old A B hit h = subst (λ b. MatchBool b A B) (eq-eqb n old hit) h

-- and of one that found another
pub lost_told : (A B : Type 0) → (n old : ℕ) → MatchBool (n == old) A B → (n ≡ old → ⊥) → B
lost_told A B n old h miss = subst (λ b. MatchBool b A B) (ne_eqb n old miss) h

-- and it stands as was found
pub stand_found : (x : StateWord) (b : Berth) (n : ℕ) → IsStateWord x × (packed_state x ≡ n)
    → (k : (s : Stand) × IsState b s × (s ≢ S.Empty) × (n ≡ state_word b s)) → x.stand ≡ k.0
stand_found x b n h k = ap (λ (z : StateWord). z.stand) (state_one x (record { frame = b.frame; fork = b.fork; stand = k.0 }) h.0 k.1
    (h.1 ∙ k.3))

-- where a claim of this own record was lost, this state of its task was found, and noted
pub lost_own : (st : Step Slots) (v x w : View) (n : ℕ) → x ≡ v → ClaimsOwnFew st x n w → (n ≡ st.first → ⊥) → (j : Setup) → v.setup ≡ Some j
    → (at : ℕ) → at < RECORDS * j.workers → st.word ≡ state_place (layout_of j) at → (m : Spot) → IsMine v at m
    → IsStateOf m n × (w ≡ stands v at n)
lost_own st v x w n same told miss j setup at inside place_is m (a, at_a, lies) =
    let now = subst (λ (z : View). ClaimsOwnFew st z n w) same told in
    let h = lost_told _ _ n st.first
    (now.0 m (j, setup, (a, at_a), place_is ∙ ap (λ (b : ℕ). state_place (layout_of j) b) (sym lies))) miss in
    (h.0, (h.1 j setup at inside place_is).1)
