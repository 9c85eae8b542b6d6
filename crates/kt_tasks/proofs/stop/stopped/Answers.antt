use Rattle.std.proofs.Common.{arith, ap, ◌∙◌, sym}
use Rattle.kt_words.specs.Places.{place}
use Rattle.kt_rule.specs.Records.{stop_at}
use Rattle.kt_steps.proofs.Telling.{stop_told}
use Rattle.kt_tasks.proofs.stop.stopped.Goals as goal

pub load-requires : goal.load-requires
load-requires c = let l = c.requires.live in let wide = c.args.t.now.wide in let inside = c.stop.ensures.inside in (
  c.requires.seat,
  omega arith,
  stop_told c.args.t.now.table.shared.key.items c.args.t.now.table.shared.table_id.slots c.args.s.now.token.id c.args.s.now.token.me
      l.setup l.told l.live _
      (c.stop.ensures.value ∙ ap (λ z. place z stop_at) (sym l.layout)),
)
