use Rattle.std.proofs.Common.{arith, inl, ◌≡◌, List, ◌∷◌, ap, ◌∙◌, sym}
use Rattle.kt_words.specs.Places.{place}
use Rattle.kt_words.specs.declared.layouts.Layout.{Layout}
use Rattle.kt_rule.specs.Records.{layout_of, drawn_at, stop_at}
use Rattle.kt_rule.specs.declared.views.Execution.{Execution}
use Rattle.kt_rule.specs.Steps.{knows_stop, published}
use Rattle.kt_steps.proofs.Asides.{stores_stop}
use Rattle.kt_steps.proofs.Telling.{the_some}
use Rattle.kt_tasks.specs.Publications.{berth_of}
use Rattle.kt_tasks.proofs.Calls.{writable}
use Rattle.kt_tasks.proofs.Drawn.{child_fits, may_announce, over_limit, published_so, room_after, view_filled, within_limit}
use Rattle.kt_tasks.proofs.Telling.{draws_next}
use Rattle.kt_tasks.proofs.publications.publish.Goals as goal

pub fetch_add-drawn-requires : goal.fetch_add-drawn-requires
fetch_add-drawn-requires c = let l = c.requires.live in let q = c.requires.may in let wide = c.args.t.now.wide in
    let inside = c.tasks_drawn-place.ensures.inside in
    let layout = ap layout_of (the_some (sym q.told ∙ l.told)) ∙ l.layout in (
      c.requires.seat,
      omega arith,
      draws_next c.args.t.now.table.shared.key.items c.args.t.now.table.shared.table_id.slots c.args.s.now.token.id c.args.s.now.token.me
          q.setup q.told l.live q.head q.rest q.forks q.more c.args.child.now _ q.runs q.next q.calls q.none q.within
          (c.tasks_drawn-place.ensures.value ∙ (λ i. place (sym layout i) drawn_at)),
    )

pub store-requires : goal.store-requires
store-requires c = let l = c.requires.live in let q = c.requires.may in let wide = c.args.t.now.wide in
    let inside = c.stop-stop.ensures.inside in
    let layout = ap layout_of (the_some (sym q.told ∙ l.told)) ∙ l.layout in
    let from = c.from.ensures in let test = c.if-drawn-from.true in
    let drew = over_limit q.head c.args.s.now.token.me.0 c.fetch_add-drawn.new.seat.me.0 c.fetch_add-drawn.result
    (c.fetch_add-drawn.ensures.2.0.0 q.head q.rest q.runs) (omega arith) in
    let over = ap (λ z. z.draws.over) drew in let parts = ap (λ z. z.parts) drew in let live = l.live in (
      c.fetch_add-drawn.ensures.0 ∙ c.requires.seat,
      omega arith,
      stores_stop c.args.t.now.table.shared.key.items c.args.t.now.table.shared.table_id.slots c.fetch_add-drawn.new.seat.id
          c.fetch_add-drawn.new.seat.me q.setup _ (ap (λ z. z.setup) drew ∙ q.told) (omega arith)
          (inl (omega arith)) (c.stop-stop.ensures.value ∙ (λ i. place (sym layout i) stop_at)),
    )

pub returns-then-drawn-from-clause-published : goal.returns-then-drawn-from-clause-published
returns-then-drawn-from-clause-published c =
    let from = c.from.ensures in let test = c.if-drawn-from.true in let told = c.fetch_add-drawn.ensures.2.0 in
    let few = told.1.few c.requires.may.within in (
      (λ e rest runs. c.store.ensures.2.0 ∙ ap knows_stop
          (over_limit e c.args.s.now.token.me.0 c.fetch_add-drawn.new.seat.me.0 c.fetch_add-drawn.result (told.0 e rest runs)
          (omega arith))),
      omega arith,
      omega arith,
    )

pub write_fields-requires-clause-fits : goal.write_fields-requires-clause-fits
write_fields-requires-clause-fits c = let l = c.requires.live in let q = c.requires.may in
    let from = c.from.ensures in let test = c.if-drawn-from.false in
    let layout = ap layout_of (the_some (sym q.told ∙ l.told)) ∙ l.layout in
    writable q.setup.program c.args.child.now c.args.t.now.layout c.fetch_add-drawn.result q.accepted
    (c.fetch_add-drawn.ensures.2.0.1.fits q.setup q.told q.head q.rest q.runs q.forks q.more q.next c.args.child.now q.calls)
    (ap (λ (z : Layout). z.objects) (sym layout)) (omega arith)

pub announce-requires-clause-may : goal.announce-requires-clause-may
announce-requires-clause-may c = let l = c.requires.live in let q = c.requires.may in let told = c.fetch_add-drawn.ensures.2.0 in
    let from = c.from.ensures in let test = c.if-drawn-from.false in
    let v = c.args.s.now.token.me.0 in let w = c.fetch_add-drawn.new.seat.me.0 in let x = c.write_fields.new.s.token.me.0 in
    let n = c.fetch_add-drawn.result in
    let layout = ap layout_of (the_some (sym q.told ∙ l.told)) ∙ l.layout in
    let fits = writable q.setup.program c.args.child.now c.args.t.now.layout n q.accepted
    (told.1.fits q.setup q.told q.head q.rest q.runs q.forks q.more q.next c.args.child.now q.calls)
    (ap (λ (z : Layout). z.objects) (sym layout)) (omega arith) in
    let drew = within_limit q.head v w n (told.0 q.head q.rest q.runs) (omega arith) in
    may_announce v x c.args.parent c.args.at c.args.frame c.args.fork n c.args.child.now q w
    (view_filled v w x q.head drew c.write_fields.ensures.written.filled) c.write_fields.ensures.written
    (child_fits v c.args.parent c.args.at c.args.frame c.args.fork n c.args.child.now c.args.t.now.layout q told.1 fits
    c.write_fields.ensures.few)

pub returns-clause-published : goal.returns-clause-published
returns-clause-published c = let q = c.requires.may in let told = c.fetch_add-drawn.ensures.2.0 in
    let from = c.from.ensures in let test = c.if-drawn-from.false in
    let v = c.args.s.now.token.me.0 in let w = c.fetch_add-drawn.new.seat.me.0 in let x = c.write_fields.new.s.token.me.0 in
    let n = c.fetch_add-drawn.result in
    let b = berth_of c.args.parent c.args.at c.args.frame c.args.fork c.args.child.now n in
    let drew = within_limit q.head v w n (told.0 q.head q.rest q.runs) (omega arith) in
    let is = view_filled v w x q.head drew c.write_fields.ensures.written.filled in
    let now : (e : Execution) (rest : List Execution) → v.tasks.running ≡ e ∷ rest → c.announce.new.s.token.me.0 ≡ published v e rest b =
    λ e rest runs. c.announce.ensures.published e rest (ap (λ z. z.tasks.running) is ∙ runs)
    ∙ published_so v x q.head e rest b q.within is in
    let mine = told.1.mine in (
      now,
      room_after v c.announce.new.s.token.me.0 q.head q.rest b (now q.head q.rest q.runs) (told.1.room (omega arith)),
      mine,
      omega arith,
    )
