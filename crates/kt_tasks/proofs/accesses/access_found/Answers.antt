use Rattle.std.proofs.Common.{◌+◌, arith, sym, ◌∙◌, subst}
use Rattle.kt_words.specs.Places.{place, record_word}
use Rattle.kt_words.specs.declared.layouts.Layout.{Layout}
use Rattle.kt_rule.specs.Records.{layout_of}
use Rattle.kt_tasks.specs.Accesses.{IsAmong}
use Rattle.kt_tasks.proofs.Scanning.{accesses_told, access_is}
use Rattle.kt_tasks.proofs.accesses.access_found.Goals as goal

pub load-word-requires : goal.load-word-requires
load-word-requires c = let l = c.requires.live in let q = c.requires.counted in let wide = c.args.t.now.wide in
    let inside = c.field-place.ensures.inside in let found = q.found_is in let more = q.more in (
      c.requires.seat,
      omega arith,
      accesses_told c.args.t.now.table.shared.key.items c.args.t.now.table.shared.table_id.slots c.args.s.now.token.id
          c.args.s.now.token.me l.setup l.told l.live q.own q.rest _ q.notes q.headed (omega arith) q.few
          (c.field-place.ensures.value ∙ (λ i. place (sym l.layout i) (record_word (sym q.lies i) (13 + sym q.found_is i)))),
    )

pub access_in-requires : goal.access_in-requires
access_in-requires c = let l = c.requires.live in let q = c.requires.counted in
    let h = c.load-word.ensures.2.0 l.setup l.told q.own q.rest q.notes in record { packed = (h.0, h.1, h.3) }

pub returns-clause-among : goal.returns-clause-among
returns-clause-among c = let l = c.requires.live in let q = c.requires.counted in
    subst (λ (z : Layout). IsAmong z.objects c.access_in.result) l.layout
    (access_is (layout_of l.setup) q.own q.rest c.load-word.result c.args.s.now.token.me.0 c.load-word.new.seat.me.0 c.access_in.result c.access_in.ensures.access.0 c.access_in.ensures.access.1
    (c.load-word.ensures.2.0 l.setup l.told q.own q.rest q.notes)).0

pub returns-clause-noted : goal.returns-clause-noted
returns-clause-noted c = let l = c.requires.live in λ o ns notes. (access_is (layout_of l.setup) o ns c.load-word.result
    c.args.s.now.token.me.0 c.load-word.new.seat.me.0 c.access_in.result
    c.access_in.ensures.access.0 c.access_in.ensures.access.1 (c.load-word.ensures.2.0 l.setup l.told o ns notes)).1
