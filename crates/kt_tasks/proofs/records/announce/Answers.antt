use Rattle.std.proofs.Common.{arith, ap, ◌∙◌, sym}
use Rattle.kt_words.specs.Places.{place, record_word}
use Rattle.kt_rule.specs.Records.{layout_of}
use Rattle.kt_steps.proofs.Telling.{the_some}
use Rattle.kt_tasks.specs.Publications.{berth_of}
use Rattle.kt_tasks.proofs.Telling.{publishes_as}
use Rattle.kt_tasks.proofs.records.announce.Goals as goal

pub store-requires : goal.store-requires
store-requires g c = let q = c.requires.may in let n = c.requires.next in let l = n.live in let wide = c.args.t.now.wide in
    let inside = c.field-place.ensures.inside in
    let layout = ap layout_of (the_some (sym q.told ∙ l.told)) ∙ l.layout in (
      c.requires.seat,
      omega arith,
      publishes_as c.args.t.now.table.shared.key.items c.args.t.now.table.shared.table_id.slots c.args.s.now.token.id
          c.args.s.now.token.me q.setup q.told l.live q.head q.rest q.forks q.more
          (berth_of c.args.parent c.args.at c.args.frame c.args.fork c.args.child.now c.args.number) _ _ _ c.requires.berth q.runs
          q.next q.calls n.free q.framed q.topmost q.numbered q.parent q.fits q.built n.room q.behind q.drawn q.within
          (c.field-place.ensures.value ∙ (λ i. place (sym layout i) (record_word c.args.at 0)))
          c.pack_state-word.ensures,
    )
