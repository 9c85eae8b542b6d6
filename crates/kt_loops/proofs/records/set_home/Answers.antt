use Rattle.std.proofs.Common.{arith, ◌+◌, ◌≡◌, suc, ◌∙◌, sym}
use Rattle.kt_words.specs.Places.{place, worker_word, home}
use Rattle.kt_loops.proofs.BeginTelling.{homes_told}
use Rattle.kt_loops.proofs.records.set_home.Goals as goal

pub store-requires : goal.store-requires
store-requires c = let l = c.requires.live in let wide = c.args.t.now.wide in let inside = c.home.ensures.inside in (
  c.requires.seat,
  omega arith,
  homes_told c.args.t.now.table.shared.key.items c.args.t.now.table.shared.table_id.slots c.args.s.now.token.id c.args.s.now.token.me
      l.setup l.told l.live c.args.at _ _ c.requires.free
      (c.home.ensures.value ∙ (λ i. place (sym l.layout i) (worker_word (l.own i) home)))
      (let e : c.from-word.result + 1 ≡ suc c.args.at = (let d = c.from-word.ensures in omega arith) in e),
)
