-- The finish of a task as the table asks for it: behind its body's end, or that of a loop of which nothing is left.
use Rattle.std.proofs.Common.{◌≡◌, ℕ, ◌<◌, false, cond, List, ◌∷◌, sym, refl, ap, ◌∙◌, inl, inr, Some}
use mathlib.Core.Option.{none}
use Rattle.atomic_table.specs.Table.{Me, step, Allows, keeps}
use Rattle.kt_law.specs.declared.stands.Stand.TheVariants as S
use Rattle.kt_words.specs.Places.{place, record_word}
use Rattle.kt_rule.specs.declared.views.Setup.{Setup}
use Rattle.kt_rule.specs.declared.views.Execution.{Execution}
use Rattle.kt_rule.specs.declared.views.View.{View}
use Rattle.kt_rule.specs.Records.{layout_of}
use Rattle.kt_rule.specs.Rule.{Slots, Holds}
use Rattle.kt_rule.specs.Steps.{Tells, state_place, state_word, over, ends}
use Rattle.kt_steps.proofs.Steps.{inside, holds_at}
use Rattle.kt_steps.proofs.Telling.{finishes_at}
use Rattle.kt_loops.specs.Operations.{IsLoopEmptied, IsPlainEnd, MayFinish, finishes, FinishesAt}
use Rattle.kt_loops.proofs.LoopEnds as loops

-- the running body, whose task lies in this record
pub record IsRunning (v : View) (at : ℕ) : Type 0 where
  pub head : Execution
  pub rest : List Execution
  pub runs : v.tasks.running ≡ head ∷ rest
  pub lies : head.spot.berth.at ≡ at

pub ending : (v : View) (at : ℕ) → MayFinish v at → IsRunning v at
ending v at (inl plain) = record { head = plain.ended.head; rest = plain.ended.rest; runs = plain.ended.runs; lies = plain.ended.lies }
ending v at (inr empty) = record { head = empty.head; rest = empty.rest; runs = empty.runs; lies = empty.lies }

-- what the finish of a task that is no loop makes of the view
plain_ends : (v : View) (e : Execution) (rest : List Execution) → e.looping ≡ false → ends v e rest ≡ finishes v e rest
plain_ends v e rest plain = λ i. record v {
  tasks = record v.tasks { running = rest; ran = cond (sym plain i) e (over e) ∷ v.tasks.ran };
  seen = record v.seen { known = e.spot.path ∷ v.seen.known };
}

same_head : {x y : Execution} → {xs ys : List Execution} → x ∷ xs ≡ y ∷ ys → x ≡ y
same_head e = cc

same_rest : {x y : Execution} → {xs ys : List Execution} → x ∷ xs ≡ y ∷ ys → xs ≡ ys
same_rest e = cc

module _ (opening : List ℕ) (slots id : ℕ) (me : Me Slots View) (live : 0 < me.0.parts) where
  abbrev Finishing : ℕ → ℕ → Type 0
  Finishing i new = Allows (Holds opening) slots id me i (λ _. new) (λ _. Tells FinishesAt (step slots i new 0 none) me new)

  -- whichever body runs is this one
  same_finish : (e : Execution) (rest : List Execution) → me.0.tasks.running ≡ e ∷ rest → (y : Execution) (ys : List Execution)
      → me.0.tasks.running ≡ y ∷ ys → finishes me.0 e rest ≡ finishes me.0 y ys
  same_finish e rest runs y ys too = λ i. finishes me.0 (same_head (sym runs ∙ too) i) (same_rest (sym runs ∙ too) i)

  loop_told : (at : ℕ) (empty : IsLoopEmptied me.0 at) (i new : ℕ) → i ≡ state_place (layout_of empty.setup) empty.head.spot.berth.at
      → new ≡ state_word empty.head.spot.berth S.Finished → Finishing i new
  loop_told a empty i new i_is new_is s h out at word =
      let x = inside opening s empty.setup id me.0 h at live empty.told in let w : View = finishes me.0 empty.head empty.rest in (
        w,
        keeps,
        tt,
        holds_at opening empty.setup _ s id (place (layout_of empty.setup) (record_word empty.head.spot.berth.at 0)) i
            (state_word empty.head.spot.berth S.Finished) new w w (sym i_is) (sym new_is) refl
            (loops.ends_it empty.setup x.0 s x.1 id me.0 at live empty.head empty.rest empty.runs empty.looping empty.loop empty.none_left),
        ((λ y ys too. same_finish empty.head empty.rest empty.runs y ys too), refl),
      )

  plain_told : (at : ℕ) (plain : IsPlainEnd me.0 at) (i new : ℕ) → i ≡ state_place (layout_of plain.ended.setup) plain.ended.head.spot.berth.at
      → new ≡ state_word plain.ended.head.spot.berth S.Finished → Finishing i new
  plain_told a plain i new i_is new_is s h out at word =
      let q = plain.ended in
      let d = finishes_at opening slots id me q.setup q.told live q.head q.rest i new q.fault q.runs q.st q.stands q.still q.next q.children
      i_is new_is s h out at word in (
        d.0,
        d.1,
        d.2,
        d.3,
        (
          (λ y ys too. d.4.0 q.head q.rest q.runs ∙ (plain_ends me.0 q.head q.rest plain.plain ∙ same_finish q.head q.rest q.runs y ys too)),
          d.4.1,
        ),
      )

  -- the store of Finished in the state word of the running body's task
  pub finish_told : (at : ℕ) → MayFinish me.0 at → (e : Execution) (rest : List Execution) (i new : ℕ) → me.0.tasks.running ≡ e ∷ rest
      → ((j : Setup) → me.0.setup ≡ Some j → i ≡ state_place (layout_of j) e.spot.berth.at) → new ≡ state_word e.spot.berth S.Finished
      → Finishing i new
  finish_told a (inl plain) e rest i new runs i_is new_is = let q = plain.ended in let same = same_head (sym runs ∙ q.runs) in
      plain_told a plain i new (i_is q.setup q.told ∙ ap (λ (x : Execution). state_place (layout_of q.setup) x.spot.berth.at) same)
      (new_is ∙ ap (λ (x : Execution). state_word x.spot.berth S.Finished) same)
  finish_told a (inr empty) e rest i new runs i_is new_is = let same = same_head (sym runs ∙ empty.runs) in
      loop_told a empty i new (i_is empty.setup empty.told ∙ ap (λ (x : Execution). state_place (layout_of empty.setup) x.spot.berth.at) same)
      (new_is ∙ ap (λ (x : Execution). state_word x.spot.berth S.Finished) same)
