use Rattle.std.proofs.Common.{sym}
use Rattle.kt_loops.proofs.IntervalTelling.{parts_told}
use Rattle.kt_loops.proofs.splits.exchange.Goals as goal

pub compare_exchange-requires : goal.compare_exchange-requires
compare_exchange-requires g c = (
  c.requires.seat,
  c.requires.inside,
  parts_told c.args.t.now.table.shared.key.items c.args.t.now.table.shared.table_id.slots c.args.s.now.token.id c.args.s.now.token.me
      c.args.place c.args.word c.args.left c.args.parts _ (sym c.requires.parts) c.requires.may,
)
