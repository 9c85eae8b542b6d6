use Rattle.std.proofs.Common.{ℕ, ◌*◌, ◌<◌, arith, ◌∙◌, sym, subst, refl}
use Rattle.kt_law.specs.declared.stands.Stand.TheVariants as S
use Rattle.kt_words.specs.Places.{place, record_word}
use Rattle.kt_words.specs.declared.layouts.TheConstants.{RECORDS}
use Rattle.kt_words.specs.declared.layouts.Layout.{Layout}
use Rattle.kt_tasks.proofs.Offering.{claims_for_found, won_told, lost_told}
use Rattle.kt_tasks.proofs.claims.claim_for.Goals as goal

pub compare_exchange-word-requires : goal.compare_exchange-word-requires
compare_exchange-word-requires c = let l = c.requires.live in let q = c.requires.noted in let wide = c.args.t.now.wide in
    let inside = c.field-place.ensures.inside in (
      c.requires.seat,
      omega arith,
      claims_for_found c.args.t.now.table.shared.key.items c.args.t.now.table.shared.table_id.slots c.args.s.now.token.id
          c.args.s.now.token.me l.setup l.told l.live q.own q.rest c.args.state c.args.thief _ _ _ q.notes q.found q.ready q.fits q.waits
          q.word (subst (λ z. c.args.thief < z.workers) (sym l.layout) c.requires.inside.1) c.requires.inside.2
          (subst (λ (z : ℕ × Layout). z.0 < RECORDS * z.1.workers) (λ i. (sym q.lies i, sym l.layout i)) c.requires.inside.0)
          (c.field-place.ensures.value ∙ (λ i. place (sym l.layout i) (record_word (sym q.lies i) 0)))
          c.pack_state-old.ensures c.pack_state-new.ensures,
    )

pub returns-then-word-old-clause-claimed : goal.returns-then-word-old-clause-claimed
returns-then-word-old-clause-claimed c = let q = c.requires.noted in
    won_told c.args.s.now.token.me.0 c.args.at c.args.state c.args.thief q.own q.rest c.compare_exchange-word.result
    c.pack_state-old.result c.compare_exchange-word.new.seat.me.0 q.lies q.word c.if-word-old.true
    (c.compare_exchange-word.ensures.2.0.0 q.own q.rest q.notes
    (record { frame = c.args.state.frame; fork = c.args.state.fork; stand = S.Given c.args.thief })
    (record { frame_fits = q.fits.frame_fits; fork_fits = q.fits.fork_fits; worker_fits = c.requires.inside.2; blank_if_empty = tt })
    c.pack_state-new.ensures c.args.thief refl)

pub returns-clause-claimed : goal.returns-clause-claimed
returns-clause-claimed c = let q = c.requires.noted in
    lost_told c.args.s.now.token.me.0 c.args.at c.args.state c.args.thief q.own q.rest c.compare_exchange-word.result
    c.pack_state-old.result c.compare_exchange-word.new.seat.me.0 q.notes c.pack_state-old.ensures c.if-word-old.false
    (c.compare_exchange-word.ensures.2.0.0 q.own q.rest q.notes
    (record { frame = c.args.state.frame; fork = c.args.state.fork; stand = S.Given c.args.thief })
    (record { frame_fits = q.fits.frame_fits; fork_fits = q.fits.fork_fits; worker_fits = c.requires.inside.2; blank_if_empty = tt })
    c.pack_state-new.ensures c.args.thief refl) c.compare_exchange-word.ensures.2.0.1
