use Rattle.std.proofs.Common.{arith, sym, ◌∙◌}
use Rattle.kt_words.specs.Places.{place, record_word}
use Rattle.kt_tasks.proofs.Climbing.{climbs}
use Rattle.kt_tasks.proofs.paths.above.Goals as goal

pub load-parent-requires : goal.load-parent-requires
load-parent-requires c = let l = c.requires.live in let q = c.requires.reached in let wide = c.args.t.now.wide in
    let inside = c.field.ensures.inside in (
      c.requires.seat,
      omega arith,
      climbs c.args.t.now.table.shared.key.items c.args.t.now.table.shared.table_id.slots c.args.s.now.token.id
          c.args.s.now.token.me l.setup l.told l.live q.0 _ q.1.0
          (c.field.ensures.value ∙ (λ i. place (sym l.layout i) (record_word (sym q.1.1 i) 2))),
    )
