use Rattle.std.proofs.Common.{◌+◌, List, All, [], ◌∷◌, length, arith, sym, ap, ◌∙◌, subst}
use Rattle.std.proofs.lemmas.List.Elements.{All-append, All-cons, All-nil}
use Rattle.kt_law.specs.declared.accesses.Access.{Access}
use Rattle.kt_tasks.specs.Accesses.{IsAmong}
use Rattle.kt_tasks.proofs.Scanning.{Finding, begins, goes_on, counts, ends, live_found, longer}
use Rattle.kt_tasks.proofs.accesses.accesses_of.Goals as goal

pub loop-k-init : goal.loop-k-init
loop-k-init c = let q = c.requires.looked in let e = c.new-found.ensures in let a = c.accesses_told-count.ensures in (
  subst (Finding c.args.at c.accesses_told-count.result c.args.s.now.token.me.0 c.accesses_told-count.new.s.token.me.0) (sym e)
      (begins c.args.at c.accesses_told-count.result c.args.s.now.token.me.0 c.accesses_told-count.new.s.token.me.0 q.0 q.1 q.2
      (a.noted (Rattle.kt_rule.specs.Steps.note_of c.args.at q.0) q.1 q.2)),
  ap (λ (z : List Access). length z) e,
  subst (All (IsAmong c.args.t.now.layout.objects)) (sym e) (All-nil (IsAmong c.args.t.now.layout.objects)),
  a.seat.0,
  a.seat.1,
  a.seat.2,
  a.seat.3,
)

pub loop-k-preserved : goal.loop-k-preserved
loop-k-preserved c = let h = c.loop-k.invariant in let a = c.access_found in let p = c.push.ensures.items in
    let few = IsAmong c.args.t.now.layout.objects in (
      subst (Finding c.args.at c.accesses_told-count.result c.args.s.now.token.me.0 a.new.s.token.me.0) (sym p)
          (goes_on c.args.at c.accesses_told-count.result c.args.s.now.token.me.0 c.loop-k.s.token.me.0 a.new.s.token.me.0
          c.loop-k.found.items a.result h.0 a.ensures.noted),
      ap (λ (z : List Access). length z) p ∙ (longer c.loop-k.found.items a.result ∙ ap (λ z. z + 1) h.1),
      subst (All few) (sym p) (All-append few c.loop-k.found.items (a.result ∷ []) h.2
          (All-cons few a.result [] a.ensures.among (All-nil few))),
      a.ensures.seat.0 ∙ h.3,
      a.ensures.seat.1 ∙ h.4,
      a.ensures.seat.2 ∙ h.5,
      a.ensures.seat.3 ∙ h.6,
    )

pub access_found-requires : goal.access_found-requires
access_found-requires c = let h = c.loop-k.invariant in record {
  seat = h.3 ∙ c.requires.seat;
  live = live_found c.args.t.now.layout c.args.s.now.worker c.loop-k.s.worker c.args.at c.accesses_told-count.result
      c.args.s.now.token.me.0 c.loop-k.s.token.me.0 c.loop-k.found.items h.5 h.0 c.requires.live;
  inside = c.requires.inside;
  counted = counts c.args.at c.accesses_told-count.result c.args.s.now.token.me.0 c.loop-k.s.token.me.0 c.loop-k.found.items c.loop-k.k
      h.0 h.1 c.loop-k-test.true c.accesses_told-count.ensures.few;
}

pub push-requires : goal.push-requires
push-requires c = let h = c.loop-k.invariant in let n = h.1 in let less = c.loop-k-test.true in let few = c.accesses_told-count.ensures.few in
    (omega arith, omega arith)

pub returns : goal.returns
returns c = let h = c.loop-k.invariant in let n = h.1 in let most = c.loop-k.auto.k-end in let test = c.loop-k-test.false in record {
  seat = (h.3, h.4, h.5, h.6);
  among = h.2;
  found = ends c.args.at c.accesses_told-count.result c.args.s.now.token.me.0 c.loop-k.s.token.me.0 c.loop-k.found.items h.0 (omega arith);
}
