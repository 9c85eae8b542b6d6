use Rattle.std.proofs.Common.{◌*◌, ◌-◌, ◌++◌, ℕ, List, length, refl, sym, ap, ◌∙◌, subst}
use Rattle.kt_words.specs.declared.layouts.TheConstants.{RECORDS}
use Rattle.kt_rule.specs.declared.views.View.{View}
use Rattle.kt_request.specs.Reports.{deal, split_record, split_pieces}
use Rattle.kt_request.specs.Serving.{Rising, HasSplitFor, Answering, Ended}
use Rattle.kt_request.proofs.Turning.{live_scanned}
use Rattle.kt_request.proofs.Pieces.{live_split}
use Rattle.kt_request.proofs.Dealing.{live_changed, live_leads}
use Rattle.kt_request.proofs.Reporting.{held_small, held_rising, given_rising, given_few, split_only, answering_first, held_none, none_promised, pieces_left, reports, served_only}
use Rattle.kt_request.proofs.serving.serve.Goals as goal

pub scan_all-given-requires-clause-held : goal.scan_all-given-requires-clause-held
scan_all-given-requires-clause-held c = let h = c.hold_all-held.ensures.held in (
  c.as_slice.ensures.fits,
  held_small c.args.t.now.layout.workers c.args.victim h.0 c.as_slice.result.now h.1 h.2 (c.as_slice.ensures.value ∙ h.3),
)

pub answer_all-answers-requires-clause-held : goal.answer_all-answers-requires-clause-held
answer_all-answers-requires-clause-held c =
    let h = c.hold_all-held.ensures.held in
    let v1 = c.hold_all-held.new.s.token.me.0 in
    let v2 = c.scan_all-given.new.s.token.me.0 in
    let first : ℕ = RECORDS * c.args.victim in
    let scan = c.scan_all-given.new.scan in
    let e = c.scan_all-given.ensures.ended in (
      c.as_slice-2.ensures.fits,
      held_rising c.args.victim h.0 c.as_slice-2.result.now h.1 (c.as_slice-2.ensures.value ∙ h.3),
      subst Rising (sym c.as_slice-3.ensures.value)
          (given_rising first c.as_slice.result.now v1 e.0 v2 scan c.scan_all-given.result.items e.1),
      held_small c.args.t.now.layout.workers c.args.victim h.0 c.as_slice-2.result.now h.1 h.2 (c.as_slice-2.ensures.value ∙ h.3),
    )

pub answer_all-answers-requires-clause-answering : goal.answer_all-answers-requires-clause-answering
answer_all-answers-requires-clause-answering c =
    let h = c.hold_all-held.ensures.held in
    let v1 = c.hold_all-held.new.s.token.me.0 in
    let v2 = c.scan_all-given.new.s.token.me.0 in
    let vs = c.split_for-cut.new.s.token.me.0 in
    let first : ℕ = RECORDS * c.args.victim in
    let held = c.hold_all-held.result.items in
    let given = c.scan_all-given.result.items in
    let scan = c.scan_all-given.new.scan in
    let cut = c.split_for-cut.result in
    let e = c.scan_all-given.ensures.ended in
    let ended = subst (λ (z : List ℕ). Ended first z v1 e.0 v2 scan given) c.as_slice.ensures.value e.1 in
    let split = subst (λ (n : ℕ). HasSplitFor c.args.victim v2 n vs cut) (λ i. c.len.ensures.value i - c.len-2.ensures.value i)
    c.split_for-cut.ensures.split in
    let others = v2.loops.pieces in
    let begins = subst (λ (z : List ℕ × List ℕ). Answering z.0 z.1 (split_record cut) (split_pieces cut) others vs 0 vs)
    (λ i. (sym c.as_slice-2.ensures.value i, sym c.as_slice-3.ensures.value i))
    (answering_first first held v1 e.0 v2 scan given ended c.args.victim cut vs (ap (λ (z : View). z.desk.held) h.4) split) in
    (others, begins)

pub release-requires-clause-live : goal.release-requires-clause-live
release-requires-clause-live c =
    let h = c.hold_all-held.ensures.held in
    let v1 = c.hold_all-held.new.s.token.me.0 in
    let v2 = c.scan_all-given.new.s.token.me.0 in
    let vs = c.split_for-cut.new.s.token.me.0 in
    let first : ℕ = RECORDS * c.args.victim in
    let held = c.hold_all-held.result.items in
    let given = c.scan_all-given.result.items in
    let scan = c.scan_all-given.new.scan in
    let cut = c.split_for-cut.result in
    let e = c.scan_all-given.ensures.ended in
    let ended = subst (λ (z : List ℕ). Ended first z v1 e.0 v2 scan given) c.as_slice.ensures.value e.1 in
    let split = subst (λ (n : ℕ). HasSplitFor c.args.victim v2 n vs cut) (λ i. c.len.ensures.value i - c.len-2.ensures.value i)
    c.split_for-cut.ensures.split in
    let others = v2.loops.pieces in
    let begins = subst (λ (z : List ℕ × List ℕ). Answering z.0 z.1 (split_record cut) (split_pieces cut) others vs 0 vs)
    (λ i. (sym c.as_slice-2.ensures.value i, sym c.as_slice-3.ensures.value i))
    (answering_first first held v1 e.0 v2 scan given ended c.args.victim cut vs (ap (λ (z : View). z.desk.held) h.4) split) in
    let v3 = c.answer_all-answers.new.s.token.me.0 in
    let a = c.answer_all-answers.ensures.answering others begins in
    let l = c.args.t.now.layout in
    live_leads l c.split_for-cut.new.s.worker c.answer_all-answers.new.s.worker vs v3 c.answer_all-answers.ensures.seat.2 a.same
    (live_split l c.scan_all-given.new.s.worker c.split_for-cut.new.s.worker v2 vs c.split_for-cut.ensures.seat.2
    (split_only first held v1 e.0 v2 scan given ended c.args.victim cut vs split)
    (live_scanned l c.hold_all-held.new.s.worker c.scan_all-given.new.s.worker v1 v2 c.scan_all-given.ensures.seat.2 e.1.only
    (live_changed l c.args.s.now.worker c.hold_all-held.new.s.worker c.args.s.now.token.me.0 v1 (record c.args.s.now.token.me.0.desk {
      held = held;
      found = c.args.s.now.token.me.0.desk.found ++ h.0;
    }) c.hold_all-held.ensures.seat.2 h.4 c.requires.live)))

pub release-requires-clause-leads : goal.release-requires-clause-leads
release-requires-clause-leads c =
    let h = c.hold_all-held.ensures.held in
    let v1 = c.hold_all-held.new.s.token.me.0 in
    let v2 = c.scan_all-given.new.s.token.me.0 in
    let vs = c.split_for-cut.new.s.token.me.0 in
    let first : ℕ = RECORDS * c.args.victim in
    let held = c.hold_all-held.result.items in
    let given = c.scan_all-given.result.items in
    let scan = c.scan_all-given.new.scan in
    let cut = c.split_for-cut.result in
    let e = c.scan_all-given.ensures.ended in
    let ended = subst (λ (z : List ℕ). Ended first z v1 e.0 v2 scan given) c.as_slice.ensures.value e.1 in
    let split = subst (λ (n : ℕ). HasSplitFor c.args.victim v2 n vs cut) (λ i. c.len.ensures.value i - c.len-2.ensures.value i)
    c.split_for-cut.ensures.split in
    let others = v2.loops.pieces in
    let begins = subst (λ (z : List ℕ × List ℕ). Answering z.0 z.1 (split_record cut) (split_pieces cut) others vs 0 vs)
    (λ i. (sym c.as_slice-2.ensures.value i, sym c.as_slice-3.ensures.value i))
    (answering_first first held v1 e.0 v2 scan given ended c.args.victim cut vs (ap (λ (z : View). z.desk.held) h.4) split) in
    let v3 = c.answer_all-answers.new.s.token.me.0 in
    let a = c.answer_all-answers.ensures.answering others begins in
    let only = split_only first held v1 e.0 v2 scan given ended c.args.victim cut vs split in (
      ap (λ (z : View). z.desk.leads) a.same ∙ (ap (λ (z : View). z.desk.leads) only ∙ (ap (λ (z : View). z.desk.leads) e.1.only.same
          ∙ (ap (λ (z : View). z.desk.leads) h.4 ∙ c.requires.leads.0))),
      ap (λ (z : View). z.desk.victim) a.same ∙ (ap (λ (z : View). z.desk.victim) only ∙ (ap (λ (z : View). z.desk.victim) e.1.only.same
          ∙ (ap (λ (z : View). z.desk.victim) h.4 ∙ c.requires.leads.1))),
    )

pub release-requires-clause-answered : goal.release-requires-clause-answered
release-requires-clause-answered c =
    let h = c.hold_all-held.ensures.held in
    let v1 = c.hold_all-held.new.s.token.me.0 in
    let v2 = c.scan_all-given.new.s.token.me.0 in
    let vs = c.split_for-cut.new.s.token.me.0 in
    let first : ℕ = RECORDS * c.args.victim in
    let held = c.hold_all-held.result.items in
    let given = c.scan_all-given.result.items in
    let scan = c.scan_all-given.new.scan in
    let cut = c.split_for-cut.result in
    let e = c.scan_all-given.ensures.ended in
    let ended = subst (λ (z : List ℕ). Ended first z v1 e.0 v2 scan given) c.as_slice.ensures.value e.1 in
    let split = subst (λ (n : ℕ). HasSplitFor c.args.victim v2 n vs cut) (λ i. c.len.ensures.value i - c.len-2.ensures.value i)
    c.split_for-cut.ensures.split in
    let others = v2.loops.pieces in
    let begins = subst (λ (z : List ℕ × List ℕ). Answering z.0 z.1 (split_record cut) (split_pieces cut) others vs 0 vs)
    (λ i. (sym c.as_slice-2.ensures.value i, sym c.as_slice-3.ensures.value i))
    (answering_first first held v1 e.0 v2 scan given ended c.args.victim cut vs (ap (λ (z : View). z.desk.held) h.4) split) in
    let v3 = c.answer_all-answers.new.s.token.me.0 in
    let a = c.answer_all-answers.ensures.answering others begins in
    let after = subst (λ (z : List ℕ × List ℕ). Answering z.0 z.1 (split_record cut) (split_pieces cut) others vs (length z.0) v3)
    (λ i. (c.as_slice-2.ensures.value i, c.as_slice-3.ensures.value i)) a in
    held_none held given (split_record cut) (split_pieces cut) others vs v3 after

pub returns-clause-report : goal.returns-clause-report
returns-clause-report c =
    let h = c.hold_all-held.ensures.held in
    let v1 = c.hold_all-held.new.s.token.me.0 in
    let v2 = c.scan_all-given.new.s.token.me.0 in
    let vs = c.split_for-cut.new.s.token.me.0 in
    let first : ℕ = RECORDS * c.args.victim in
    let held = c.hold_all-held.result.items in
    let given = c.scan_all-given.result.items in
    let scan = c.scan_all-given.new.scan in
    let cut = c.split_for-cut.result in
    let e = c.scan_all-given.ensures.ended in
    let ended = subst (λ (z : List ℕ). Ended first z v1 e.0 v2 scan given) c.as_slice.ensures.value e.1 in
    let split = subst (λ (n : ℕ). HasSplitFor c.args.victim v2 n vs cut) (λ i. c.len.ensures.value i - c.len-2.ensures.value i)
    c.split_for-cut.ensures.split in
    let others = v2.loops.pieces in
    let begins = subst (λ (z : List ℕ × List ℕ). Answering z.0 z.1 (split_record cut) (split_pieces cut) others vs 0 vs)
    (λ i. (sym c.as_slice-2.ensures.value i, sym c.as_slice-3.ensures.value i))
    (answering_first first held v1 e.0 v2 scan given ended c.args.victim cut vs (ap (λ (z : View). z.desk.held) h.4) split) in
    let v3 = c.answer_all-answers.new.s.token.me.0 in
    let a = c.answer_all-answers.ensures.answering others begins in
    reports c.args.t.now.layout.workers c.args.victim c.args.s.now.token.me.0 v1 v2 vs v3 c.release.new.s.token.me.0 scan held given h.0 e.0
    h.4 ended cut split a.same c.release.ensures.released
    (record { held = c.hold_all-held.result; answers = c.answer_all-answers.result; cut = cut }) h.1 h.2 refl h.3 refl
    (c.answer_all-answers.ensures.answers ∙ (λ i. deal (c.as_slice-2.ensures.value i) (c.as_slice-3.ensures.value i) (split_record cut)
    (split_pieces cut)))

pub returns-clause-others : goal.returns-clause-others
returns-clause-others c =
    let h = c.hold_all-held.ensures.held in
    let v1 = c.hold_all-held.new.s.token.me.0 in
    let v2 = c.scan_all-given.new.s.token.me.0 in
    let vs = c.split_for-cut.new.s.token.me.0 in
    let first : ℕ = RECORDS * c.args.victim in
    let held = c.hold_all-held.result.items in
    let given = c.scan_all-given.result.items in
    let scan = c.scan_all-given.new.scan in
    let cut = c.split_for-cut.result in
    let e = c.scan_all-given.ensures.ended in
    let ended = subst (λ (z : List ℕ). Ended first z v1 e.0 v2 scan given) c.as_slice.ensures.value e.1 in
    let split = subst (λ (n : ℕ). HasSplitFor c.args.victim v2 n vs cut) (λ i. c.len.ensures.value i - c.len-2.ensures.value i)
    c.split_for-cut.ensures.split in
    let others = v2.loops.pieces in
    let begins = subst (λ (z : List ℕ × List ℕ). Answering z.0 z.1 (split_record cut) (split_pieces cut) others vs 0 vs)
    (λ i. (sym c.as_slice-2.ensures.value i, sym c.as_slice-3.ensures.value i))
    (answering_first first held v1 e.0 v2 scan given ended c.args.victim cut vs (ap (λ (z : View). z.desk.held) h.4) split) in
    let v3 = c.answer_all-answers.new.s.token.me.0 in
    let a = c.answer_all-answers.ensures.answering others begins in
    let after = subst (λ (z : List ℕ × List ℕ). Answering z.0 z.1 (split_record cut) (split_pieces cut) others vs (length z.0) v3)
    (λ i. (c.as_slice-2.ensures.value i, c.as_slice-3.ensures.value i)) a in
    served_only c.args.t.now.layout.workers c.args.victim c.args.s.now.token.me.0 v1 v2 vs v3 c.release.new.s.token.me.0 scan held given h.0 e.0
    h.4 ended cut split a.same c.release.ensures.released
    (none_promised held given (split_record cut) (split_pieces cut) others vs v3 after (given_few first held v1 e.0 v2 scan given ended))
    (pieces_left held given (split_record cut) (split_pieces cut) others vs v3 after)
