-- A claim for a thief, told with the state that its exchange finds.
use Rattle.std.proofs.Common.{◌≡◌, ℕ, ◌*◌, ◌<◌, ◌==◌, ne_eqb, eq-eqb, MatchBool, true, false, List, ◌∷◌, sym, ap, ◌∙◌, get_or, slice_index, Some}
use mathlib.Core.Option.{none}
use prog.Atomic.{either}
use Rattle.atomic_table.specs.Table.{Me, step, Allows}
use Rattle.kt_law.specs.declared.stands.Stand.TheVariants as S
use Rattle.kt_words.specs.Words.{IsStateWord, packed_state}
use Rattle.kt_words.specs.declared.layouts.TheConstants.{RECORDS}
use Rattle.kt_words.specs.declared.states.StateWord.{StateWord}
use Rattle.kt_rule.specs.declared.views.Setup.{Setup}
use Rattle.kt_rule.specs.declared.views.Spot.{Spot}
use Rattle.kt_rule.specs.declared.views.Note.{Note}
use Rattle.kt_rule.specs.declared.views.View.{View}
use Rattle.kt_rule.specs.Records.{layout_of}
use Rattle.kt_rule.specs.Rule.{Slots, Holds}
use Rattle.kt_rule.specs.Steps.{Tells, state_place, state_word, IsState, IsFound, IsReady, won_for, lost_one}
use Rattle.kt_steps.proofs.Steps.{inside}
use Rattle.kt_steps.proofs.Looks.{packed_there}
use Rattle.kt_steps.proofs.Telling.{claims_for_at}
use Rattle.kt_tasks.specs.Claims.{IsStateFound, ClaimsForFound, ClaimedFor}
use Rattle.kt_tasks.specs.declared.states.Offer.TheVariants as O
use Rattle.kt_tasks.proofs.Found.{word_found}

pub claims_for_found : (opening : List ℕ) (slots id : ℕ) (me : Me Slots View) (j : Setup) → me.0.setup ≡ Some j → 0 < me.0.parts
    → (own : Note) (ns : List Note) (x : StateWord) (thief i old new : ℕ) → me.0.seen.notes ≡ own ∷ ns → IsFound own
    → IsReady me.0 own → IsStateWord x → x.stand ≡ S.Unclaimed → own.word ≡ packed_state x → thief < j.workers → thief < 8
    → own.at < RECORDS * j.workers → i ≡ state_place (layout_of j) own.at → old ≡ packed_state x
    → new ≡ packed_state (record { frame = x.frame; fork = x.fork; stand = S.Given thief })
    → Allows (Holds opening) slots id me i (λ n. either (n == old) new n) (Tells ClaimsForFound (step slots i old new none) me)
claims_for_found opening slots id me j setup live own ns x thief i old new notes found ready fits waits word_is below small in_a i_is
    old_is new_is s h out at word =
    let d = claims_for_at opening slots id me j setup live own ns x thief i old new notes found ready fits waits word_is below small i_is
    old_is new_is s h out at word in
    let y = inside opening s j id me.0 h at live setup in
    let there = word_found (get_or s.words i 0) (packed_there j y.0 s y.1 id me.0 at live own.at (get_or s.words i 0) in_a
    (ap (slice_index s.words) i_is)) in (d.0, d.1, d.2, d.3, ((d.4.0, there), d.4.1))

firsts : (a b : Note) (xs ys : List Note) → a ∷ xs ≡ b ∷ ys → (a ≡ b) × (xs ≡ ys)
firsts a b xs ys e = (cc, cc)

-- what is told of the note, told of the record
abbrev Told : (v : View) (x : StateWord) (thief : ℕ) (own : Note) (ns : List Note) (n old : ℕ) (w : View) → Type 0
Told v x thief own ns n old w = MatchBool (n == old)
    ((g : Spot) × (g.berth.at ≡ own.at) × IsState g.berth S.Unclaimed × (state_word g.berth S.Unclaimed ≡ own.word)
    × (w ≡ won_for v (record { spot = g; thief = thief }))) (w ≡ lost_one v own ns n)

pub won_told : (v : View) (at : ℕ) (x : StateWord) (thief : ℕ) (own : Note) (ns : List Note) (n old : ℕ) (w : View)
    → own.at ≡ at → own.word ≡ packed_state x → n ≡ old → Told v x thief own ns n old w → ClaimedFor v at x thief w O.Won
won_told v at x thief own ns n old w lies word hit h = go (n == old) (eq-eqb n old hit) h
  where
    go : (b : _) → b ≡ true → MatchBool b ((g : Spot) × (g.berth.at ≡ own.at) × IsState g.berth S.Unclaimed
        × (state_word g.berth S.Unclaimed ≡ own.word) × (w ≡ won_for v (record { spot = g; thief = thief }))) (w ≡ lost_one v own ns n)
        → ClaimedFor v at x thief w O.Won
    go true e k = (k.0, k.1 ∙ lies, k.2, k.3 ∙ word, k.4)
    go false e k = absurd (cc e)

pub lost_told : (v : View) (at : ℕ) (x : StateWord) (thief : ℕ) (own : Note) (ns : List Note) (n old : ℕ) (w : View)
    → v.seen.notes ≡ own ∷ ns → old ≡ packed_state x → (n ≡ old → ⊥) → Told v x thief own ns n old w → IsStateFound n
    → ClaimedFor v at x thief w (O.Lost n)
lost_told v at x thief own ns n old w notes old_is miss h found = (
  (λ e. miss (e ∙ sym old_is)),
  found,
  (λ own' ns' notes'. let same = firsts own own' ns ns' (sym notes ∙ notes') in
      go (n == old) (ne_eqb n old miss) h ∙ (λ i. lost_one v (same.0 i) (same.1 i) n)),
)
  where
    go : (b : _) → b ≡ false → MatchBool b ((g : Spot) × (g.berth.at ≡ own.at) × IsState g.berth S.Unclaimed
        × (state_word g.berth S.Unclaimed ≡ own.word) × (w ≡ won_for v (record { spot = g; thief = thief }))) (w ≡ lost_one v own ns n)
        → w ≡ lost_one v own ns n
    go true e k = absurd (cc e)
    go false e k = k
