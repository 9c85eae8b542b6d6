use Rattle.std.proofs.Common.{◌≡◌, ◌++◌, length, drop, List, ◌+◌, ◌-◌, arith, refl, sym, ap, ◌∙◌, ℕ, subst}
use Rattle.kt_posts.specs.declared.answers.Answer.{Answer}
use Rattle.kt_request.specs.Reports.{deal}
use Rattle.kt_request.specs.Serving.{Answering}
use Rattle.kt_request.proofs.Dealing.{answers_more, nothing_more, one_longer, deal_none, deal_all, live_leads}
use Rattle.kt_request.proofs.answering.answer_each.Goals as goal

pub loop-i-init : goal.loop-i-init
loop-i-init c = let e = c.new-answers.ensures in (
  (λ others an. an),
  ap (λ (z : List Answer). z ++ deal (drop 0 c.args.held.now) (drop 0 c.args.given.now) c.args.at
      (drop (0 - length c.args.given.now) c.args.pieces.now)) e
      ∙ deal_all c.args.held.now c.args.given.now c.args.at c.args.pieces.now,
  refl,
  refl,
  refl,
  ap (λ (z : List Answer). length z) e,
)

pub loop-i-preserved : goal.loop-i-preserved
loop-i-preserved c = let h = c.loop-i.invariant in let a = c.answer_one-answer in let p = c.push.ensures.items in
    let rest = deal (drop (c.loop-i.i + 1) c.args.held.now) (drop (c.loop-i.i + 1) c.args.given.now) c.args.at
    (drop (c.loop-i.i + 1 - length c.args.given.now) c.args.pieces.now) in (
      (λ others an. a.ensures.answering c.args.s.now.token.me.0 others (h.0 others an)),
      ap (λ (z : List Answer). z ++ deal (drop (c.loop-i.i + 1) c.args.held.now) (drop (c.loop-i.i + 1) c.args.given.now) c.args.at
          (drop (c.loop-i.i + 1 - length c.args.given.now) c.args.pieces.now)) p
          ∙ (answers_more c.loop-i.answers.items a.result rest
          ∙ (ap (λ (z : List Answer). c.loop-i.answers.items ++ z) (sym a.ensures.answer) ∙ h.1)),
      a.ensures.seat.0 ∙ h.2,
      a.ensures.seat.1 ∙ h.3,
      a.ensures.seat.2 ∙ h.4,
      ap (λ (z : List Answer). length z) p ∙ (one_longer c.loop-i.answers.items a.result ∙ ap (λ (z : ℕ). z + 1) h.5),
    )

pub answer_one-answer-requires : goal.answer_one-answer-requires
answer_one-answer-requires c = let h = c.loop-i.invariant in let an = h.0 c.requires.answering.0 c.requires.answering.1 in record {
  seat = h.2 ∙ c.requires.seat;
  live = live_leads c.args.t.now.layout c.args.s.now.worker c.loop-i.s.worker c.args.s.now.token.me.0 c.loop-i.s.token.me.0 h.4 an.same
      c.requires.live;
  held = (c.loop-i-test.true, c.requires.held.1, c.requires.held.2, c.requires.held.3);
  answering = (c.args.s.now.token.me.0, c.requires.answering.0, an);
}

pub returns : goal.returns
returns c = let h = c.loop-i.invariant in let test = c.loop-i-test.false in let most = c.loop-i.auto.i-end in
    let full : c.loop-i.i ≡ length c.args.held.now = omega arith in record {
      seat = (h.2, h.3, h.4);
      answering = λ others an. subst
          (λ (n : ℕ). Answering c.args.held.now c.args.given.now c.args.at c.args.pieces.now others c.args.s.now.token.me.0 n
          c.loop-i.s.token.me.0) full (h.0 others an);
      answers = sym (nothing_more c.loop-i.answers.items) ∙ (ap (λ (z : List Answer). c.loop-i.answers.items ++ z)
          (sym (deal_none c.args.held.now c.args.given.now c.args.at (drop (c.loop-i.i - length c.args.given.now) c.args.pieces.now)
          c.loop-i.i full)) ∙ h.1);
    }
