use Rattle.std.proofs.Common.{arith, sym, ◌∙◌}
use Rattle.kt_words.specs.Places.{place, record_word}
use Rattle.kt_tasks.proofs.Scanning.{heads_told, headed_is}
use Rattle.kt_tasks.proofs.accesses.accesses_told.Goals as goal

pub load-word-requires : goal.load-word-requires
load-word-requires c = let l = c.requires.live in let q = c.requires.looked in let wide = c.args.t.now.wide in
    let inside = c.field.ensures.inside in (
      c.requires.seat,
      omega arith,
      heads_told c.args.t.now.table.shared.key.items c.args.t.now.table.shared.table_id.slots c.args.s.now.token.id c.args.s.now.token.me
          l.setup l.told l.live q.0 q.1 _ q.2
          (c.field.ensures.value ∙ (λ i. place (sym l.layout i) (record_word (sym q.3 i) 1))),
    )

pub head_in-requires : goal.head_in-requires
head_in-requires c = let q = c.requires.looked in let h = c.load-word.ensures.2.0 q.0 q.1 q.2 in record { packed = (h.0, h.1, h.2) }

pub returns-clause-noted : goal.returns-clause-noted
returns-clause-noted c = λ o ns notes. headed_is o ns c.load-word.result c.args.s.now.token.me.0
    c.load-word.new.seat.me.0 c.head_in.result c.head_in.ensures.head.0 c.head_in.ensures.head.1
    (c.load-word.ensures.2.0 o ns notes)
