use Rattle.kt_pool.proofs.FirstStep.{tells_with}
use Rattle.kt_pool.proofs.openings.tell.Goals as goal

pub load-requires : goal.load-requires
load-requires g c = let q = c.requires.setup in (
  c.requires.seat,
  c.requires.words.0,
  tells_with c.args.t.now.key.items c.args.t.now.table_id.slots c.args.s.now.id c.args.s.now.me _ q.0 c.requires.words.1 q.1
      q.2 (c.programs_meet_laws.ensures q.0.program q.2) q.3 q.4 q.5 c.requires.blank,
)
