use Rattle.std.proofs.Common.{arith}
use Rattle.kt_loops.proofs.IndexTelling.{one_loads}
use Rattle.kt_cells.proofs.elements.load.Goals as goal

pub load-requires : goal.load-requires
load-requires c = let wide = c.args.t.now.wide in let inside = c.element.ensures.inside in (
  c.requires.seat,
  omega arith,
  one_loads c.args.t.now.table.shared.key.items c.args.t.now.table.shared.table_id.slots c.args.s.now.token.id c.args.s.now.token.me
      c.args.t.now.layout c.args.s.now.worker c.requires.live c.args.element _ c.requires.inside c.element.ensures.value c.requires.next,
)
