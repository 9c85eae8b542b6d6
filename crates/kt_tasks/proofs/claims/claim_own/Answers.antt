use Rattle.std.proofs.Common.{arith, ◌≡◌, ◌<◌, ◌*◌, ℕ, ap, ◌∙◌, sym, subst}
use Rattle.kt_law.specs.declared.stands.Stand.TheVariants as S
use mathlib.Core.Option.{none, some}
use lib.ListN.{get_elem?}
use Rattle.atomic_table.specs.Table.{step}
use Rattle.kt_words.specs.Places.{place, record_word}
use Rattle.kt_words.specs.declared.layouts.TheConstants.{RECORDS}
use Rattle.kt_words.specs.declared.layouts.Layout.{Layout}
use Rattle.kt_rule.specs.declared.views.Spot.{Spot}
use Rattle.kt_rule.specs.Steps.{stands, state_word, IsState, BeforeKnown}
use Rattle.kt_steps.specs.Told.{IsMine}
use Rattle.kt_steps.proofs.Telling.{shows_own}
use Rattle.kt_tasks.specs.Claims.{IsStateOf}
use Rattle.kt_tasks.proofs.Telling.{claims_own_few}
use Rattle.kt_tasks.proofs.Found.{lost_own, state_found, stand_found, repacked}
use Rattle.kt_tasks.proofs.claims.claim_own.Goals as goal

pub load-found-requires : goal.load-found-requires
load-found-requires c = let l = c.requires.live in let q = c.requires.mine in let wide = c.args.t.now.wide in
    let inside = c.field-place.ensures.inside in (
      c.requires.seat,
      omega arith,
      shows_own c.args.t.now.table.shared.key.items c.args.t.now.table.shared.table_id.slots c.args.s.now.token.id c.args.s.now.token.me
          l.setup l.told l.live q.0 q.1.0 _ q.1.1
          (c.field-place.ensures.value ∙ (λ i. place (sym l.layout i) (record_word (sym q.1.2 i) 0))),
    )

pub state_in-state-requires : goal.state_in-state-requires
state_in-state-requires c = let l = c.requires.live in let q = c.requires.mine in
    let h = c.load-found.ensures.2.0.0 q.0 (
      l.setup,
      l.told,
      (q.1.0, q.1.1),
      c.field-place.ensures.value ∙
          (λ i. place (sym l.layout i) (record_word (sym q.1.2 i) 0)),
    ) in
    record { packed = (record { frame = q.0.berth.frame; fork = q.0.berth.fork; stand = h.0 }, h.1, h.3) }

pub compare_exchange-word-requires : goal.compare_exchange-word-requires
compare_exchange-word-requires c = let l = c.requires.live in let q = c.requires.mine in let wide = c.args.t.now.wide in
    let inside = c.field-place.ensures.inside in
    let told = c.load-found.ensures.2.0 in let same = told.1 in
    let at_place = c.field-place.ensures.value ∙ (λ i. place (sym l.layout i) (record_word (sym q.1.2 i) 0)) in
    let found = state_found c.state_in-state.result q.0.berth c.load-found.result c.state_in-state.ensures.state
    (told.0 q.0 (l.setup, l.told, (q.1.0, q.1.1), at_place)) in (
      c.load-found.ensures.0 ∙ c.requires.seat,
      omega arith,
      claims_own_few c.args.t.now.table.shared.key.items c.args.t.now.table.shared.table_id.slots c.load-found.new.seat.id
          c.load-found.new.seat.me l.setup (ap (λ z. z.setup) same ∙ l.told)
          (subst (λ z. 0 < z.parts) (sym same) l.live) q.0 q.1.0 _ _ _
          (subst (λ z. get_elem? z.region.spots q.1.0 ≡ some q.0) (sym same) q.1.1)
          (subst (λ z. BeforeKnown z q.0.path) (sym same) q.2)
          (subst (λ (z : ℕ × Layout). z.0 < RECORDS * z.1.workers) (λ i. (sym q.1.2 i, sym l.layout i)) c.requires.inside.0)
          at_place
          (repacked c.state_in-state.result q.0.berth found S.Unclaimed _ c.pack_state-old.ensures)
          (repacked c.state_in-state.result q.0.berth found (S.Running c.args.s.now.worker) _ c.pack_state-new.ensures ∙
          (λ i. state_word q.0.berth (S.Running ((l.own ∙ ap (λ z. z.worker) (sym same)) i)))),
    )

-- what the exchange found instead
lost : (c : goal.Else-word-old) → (m : Spot) → IsMine c.args.s.now.token.me.0 c.args.at m → IsStateOf m c.compare_exchange-word.result
    × (c.compare_exchange-word.new.seat.me.0 ≡ stands c.args.s.now.token.me.0 c.args.at c.compare_exchange-word.result)
lost c m mine = let l = c.requires.live in
    lost_own (step c.args.t.now.table.shared.table_id.slots c.field-place.result c.pack_state-old.result c.pack_state-new.result none)
    _ c.load-found.new.seat.me.0 _ _ c.load-found.ensures.2.0.1 c.compare_exchange-word.ensures.2.0 c.if-word-old.false l.setup l.told
    c.args.at (subst (λ z. c.args.at < RECORDS * z.workers) (sym l.layout) c.requires.inside.0)
    (c.field-place.ensures.value ∙ ap (λ z. place z (record_word c.args.at 0)) (sym l.layout)) m mine

pub state_in-requires : goal.state_in-requires
state_in-requires c = let q = c.requires.mine in
    let h = (lost c q.0 q.1).0 in record { packed = (record { frame = q.0.berth.frame; fork = q.0.berth.fork; stand = h.0 }, h.1, h.3) }

-- the same where its state was read
lost_then : (c : goal.After-state_in) → (m : Spot) → IsMine c.args.s.now.token.me.0 c.args.at m → IsStateOf m c.compare_exchange-word.result
    × (c.compare_exchange-word.new.seat.me.0 ≡ stands c.args.s.now.token.me.0 c.args.at c.compare_exchange-word.result)
lost_then c m mine = let l = c.requires.live in
    lost_own (step c.args.t.now.table.shared.table_id.slots c.field-place.result c.pack_state-old.result c.pack_state-new.result none)
    _ c.load-found.new.seat.me.0 _ _ c.load-found.ensures.2.0.1 c.compare_exchange-word.ensures.2.0 c.if-word-old.false l.setup l.told
    c.args.at (subst (λ z. c.args.at < RECORDS * z.workers) (sym l.layout) c.requires.inside.0)
    (c.field-place.ensures.value ∙ ap (λ z. place z (record_word c.args.at 0)) (sym l.layout)) m mine

-- the word that was to be found
old_is : (c : goal.After-state_in) → c.pack_state-old.result ≡ state_word c.requires.mine.0.berth S.Unclaimed
old_is c = let l = c.requires.live in let q = c.requires.mine in
    repacked c.state_in-state.result q.0.berth
    (state_found c.state_in-state.result q.0.berth c.load-found.result c.state_in-state.ensures.state
    (c.load-found.ensures.2.0.0 q.0 (
      l.setup,
      l.told,
      (q.1.0, q.1.1),
      c.field-place.ensures.value ∙
          (λ i. place (sym l.layout i) (record_word (sym q.1.2 i) 0)),
    ))) S.Unclaimed _ c.pack_state-old.ensures

pub returns-clause-claimed : goal.returns-clause-claimed
returns-clause-claimed c =
    let q = c.requires.mine in let h = (lost_then c q.0 q.1).0 in
    let stand_is = stand_found c.state_in.result q.0.berth c.compare_exchange-word.result c.state_in.ensures.state h in (
      (λ e. c.if-word-old.false (h.3 ∙ (ap (state_word q.0.berth) (sym stand_is ∙ e) ∙ sym (old_is c)))),
      (λ e. h.2 (sym stand_is ∙ e)),
      (λ m mine.
          let k = lost_then c m mine in
          let is = stand_found c.state_in.result m.berth c.compare_exchange-word.result c.state_in.ensures.state k.0 in (
            subst (IsState m.berth) (sym is) k.0.1,
            k.1 ∙ ap (λ n. stands c.args.s.now.token.me.0 c.args.at n) (k.0.3 ∙ ap (state_word m.berth) (sym is)),
          )),
    )
