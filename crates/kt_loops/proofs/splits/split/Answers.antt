use Rattle.std.proofs.Common.{arith, ◌≡◌, ◌∙◌, ◌<◌, ap, sym, subst, refl, None, Some}
use mathlib.Core.Option.{none}
use Rattle.atomic_table.specs.Table.{step}
use Rattle.kt_words.specs.Places.{place, worker_word, interval, home}
use Rattle.kt_rule.specs.declared.views.View.{View}
use Rattle.kt_loops.specs.Hands.{forgets}
use Rattle.kt_loops.proofs.ChunkAnswers.{hit, miss}
use Rattle.kt_loops.proofs.IntervalTelling.{sights_told, home_told, split_told}
use Rattle.kt_loops.proofs.SplitAnswers.{sights_short, saw_one, saw_two, kept_fits, told_here, Given, home_small, split_got, split_moved}
use Rattle.kt_loops.proofs.splits.split.Goals as goal

pub load-word-requires : goal.load-word-requires
load-word-requires c = let l = c.requires.live in let wide = c.args.t.now.wide in let inside = c.interval-place.ensures.inside in (
  c.requires.seat,
  omega (arith, wide, inside),
  sights_told c.args.t.now.table.shared.key.items c.args.t.now.table.shared.table_id.slots c.args.s.now.token.id c.args.s.now.token.me
      l.setup l.told l.live c.args.victim _ (subst (λ z. c.args.victim < z.workers) (sym l.layout) c.requires.inside)
      (c.interval-place.ensures.value ∙ (λ i. place (sym l.layout i) (worker_word c.args.victim interval))),
)

pub returns-in-Short-clause-split : goal.returns-in-Short-clause-split
returns-in-Short-clause-split c = let l = c.requires.live in let p = c.pair_in.ensures.pair in let d = c.in-Short.ensures in
    let count = d.0 in let short = d.1 in (
      c.pair_in.result,
      p.0,
      count,
      short,
      sights_short (step c.args.t.now.table.shared.table_id.slots c.interval-place.result 0 0 none) c.args.s.now.token.me.0
          c.load-word.new.seat.me.0 c.load-word.result c.pair_in.result p.0 p.1 l.setup l.told c.args.victim
          (subst (λ z. c.args.victim < z.workers) (sym l.layout) c.requires.inside)
          (c.interval-place.ensures.value ∙ (λ i. place (sym l.layout i) (worker_word c.args.victim interval))) c.load-word.ensures.2.0
          (omega (arith, count, short)),
    )

pub load-home-requires : goal.load-home-requires
load-home-requires c = let l = c.requires.live in let wide = c.args.t.now.wide in let inside = c.home.ensures.inside in
    let slots = c.args.t.now.table.shared.table_id.slots in let v = c.args.s.now.token.me.0 in let seen = c.load-word.new.seat.me.0 in
    let x = c.pair_in.result in let p = c.pair_in.ensures.pair in let d = c.in-Cut.ensures in
    let less = subst (λ z. c.args.victim < z.workers) (sym l.layout) c.requires.inside in
    let at_is = c.interval-place.ensures.value ∙ (λ i. place (sym l.layout i) (worker_word c.args.victim interval)) in
    let home_is = c.home.ensures.value ∙ (λ i. place (sym l.layout i) (worker_word c.args.victim home)) in
    let saw = saw_one slots v seen seen c.interval-place.result c.home.result c.args.victim c.load-word.result 0 x p.0 p.1 d.0 l.setup l.told
    less at_is c.load-word.ensures.2.0 in (
      c.load-word.ensures.0 ∙ c.requires.seat,
      omega (arith, wide, inside),
      home_told c.args.t.now.table.shared.key.items slots c.load-word.new.seat.id c.load-word.new.seat.me
          l.setup (ap (λ (z : View). z.setup) saw ∙ l.told) (subst (λ (z : View). 0 < z.parts) (sym saw) l.live)
          (record { victim = c.args.victim; low = x.low; high = x.high; home = None }) _ (ap (λ (z : View). z.loops.sight) saw) home_is,
    )

pub exchange-found-requires-clause-may : goal.exchange-found-requires-clause-may
exchange-found-requires-clause-may c = let l = c.requires.live in
    let slots = c.args.t.now.table.shared.table_id.slots in let v = c.args.s.now.token.me.0 in let seen = c.load-word.new.seat.me.0 in
    let x = c.pair_in.result in let p = c.pair_in.ensures.pair in let d = c.in-Cut.ensures in
    let less = subst (λ z. c.args.victim < z.workers) (sym l.layout) c.requires.inside in
    let at_is = c.interval-place.ensures.value ∙ (λ i. place (sym l.layout i) (worker_word c.args.victim interval)) in
    let home_is = c.home.ensures.value ∙ (λ i. place (sym l.layout i) (worker_word c.args.victim home)) in
    let then = c.load-home.new.seat.me.0 in
    let saw = saw_two slots v seen then c.interval-place.result c.home.result c.args.victim c.load-word.result c.load-home.result x p.0 p.1 d.0 l.setup l.told
    less at_is home_is c.load-word.ensures.2.0 c.load-home.ensures.2.0 in
    let kept = c.in-Cut.cut.left in let dealt = c.in-Cut.cut.pieces.items in
    let small = kept_fits x kept c.args.parts dealt p.0 d.0 c.requires.some d.1 in
    let long = d.0 in
    split_told c.args.t.now.table.shared.key.items slots c.load-home.new.seat.id c.load-home.new.seat.me
    l.setup (ap (λ (z : View). z.setup) saw ∙ l.told) (subst (λ (z : View). 0 < z.parts) (sym saw) l.live)
    (record { victim = c.args.victim; low = x.low; high = x.high; home = Some c.load-home.result }) c.load-home.result c.args.parts kept dealt _ _ _
    (ap (λ (z : View). z.loops.sight) saw) refl c.requires.some (omega (arith, long)) d.1 at_is (p.0, sym p.1) (small, c.pack_pair-left.ensures)

pub overflow_cast-result : goal.overflow_cast-result
overflow_cast-result c = let l = c.requires.live in
    let slots = c.args.t.now.table.shared.table_id.slots in let v = c.args.s.now.token.me.0 in let seen = c.load-word.new.seat.me.0 in
    let x = c.pair_in.result in let p = c.pair_in.ensures.pair in let d = c.in-Cut.ensures in
    let less = subst (λ z. c.args.victim < z.workers) (sym l.layout) c.requires.inside in
    let at_is = c.interval-place.ensures.value ∙ (λ i. place (sym l.layout i) (worker_word c.args.victim interval)) in
    let home_is = c.home.ensures.value ∙ (λ i. place (sym l.layout i) (worker_word c.args.victim home)) in
    let then = c.load-home.new.seat.me.0 in
    let saw = saw_two slots v seen then c.interval-place.result c.home.result c.args.victim c.load-word.result c.load-home.result x p.0 p.1 d.0 l.setup l.told
    less at_is home_is c.load-word.ensures.2.0 c.load-home.ensures.2.0 in
    let kept = c.in-Cut.cut.left in let dealt = c.in-Cut.cut.pieces.items in
    let small = kept_fits x kept c.args.parts dealt p.0 d.0 c.requires.some d.1 in
    let w = c.exchange-found.new.s.token.me.0 in
    let told = told_here v then w c.args.victim c.load-home.result c.args.parts x kept dealt saw p.0 d.0 slots c.interval-place.result c.load-word.result
    c.pack_pair-left.result c.exchange-found.result p.1 small c.pack_pair-left.ensures d.1 c.exchange-found.ensures.told.0 in
    let given = Given v then w c.args.victim c.load-home.result c.args.parts x kept dealt saw p.0 d.0 in
    let small_home = home_small v then w c.args.victim c.load-home.result c.args.parts x kept dealt saw p.0 d.0
    (hit _ _ given (w ≡ forgets then) c.if-found-word.true told) l.setup l.told in
    let some_home = small_home.0 in let few = small_home.1 in omega (arith, some_home, few)

pub overflow_sub-result : goal.overflow_sub-result
overflow_sub-result c = let l = c.requires.live in
    let slots = c.args.t.now.table.shared.table_id.slots in let v = c.args.s.now.token.me.0 in let seen = c.load-word.new.seat.me.0 in
    let x = c.pair_in.result in let p = c.pair_in.ensures.pair in let d = c.in-Cut.ensures in
    let less = subst (λ z. c.args.victim < z.workers) (sym l.layout) c.requires.inside in
    let at_is = c.interval-place.ensures.value ∙ (λ i. place (sym l.layout i) (worker_word c.args.victim interval)) in
    let home_is = c.home.ensures.value ∙ (λ i. place (sym l.layout i) (worker_word c.args.victim home)) in
    let then = c.load-home.new.seat.me.0 in
    let saw = saw_two slots v seen then c.interval-place.result c.home.result c.args.victim c.load-word.result c.load-home.result x p.0 p.1 d.0 l.setup l.told
    less at_is home_is c.load-word.ensures.2.0 c.load-home.ensures.2.0 in
    let kept = c.in-Cut.cut.left in let dealt = c.in-Cut.cut.pieces.items in
    let small = kept_fits x kept c.args.parts dealt p.0 d.0 c.requires.some d.1 in
    let w = c.exchange-found.new.s.token.me.0 in
    let told = told_here v then w c.args.victim c.load-home.result c.args.parts x kept dealt saw p.0 d.0 slots c.interval-place.result c.load-word.result
    c.pack_pair-left.result c.exchange-found.result p.1 small c.pack_pair-left.ensures d.1 c.exchange-found.ensures.told.0 in
    let given = Given v then w c.args.victim c.load-home.result c.args.parts x kept dealt saw p.0 d.0 in
    let small_home = home_small v then w c.args.victim c.load-home.result c.args.parts x kept dealt saw p.0 d.0
    (hit _ _ given (w ≡ forgets then) c.if-found-word.true told) l.setup l.told in
    let some_home = small_home.0 in let few = small_home.1 in omega (arith, some_home, few)

pub returns-then-found-word-clause-split : goal.returns-then-found-word-clause-split
returns-then-found-word-clause-split c = let l = c.requires.live in
    let slots = c.args.t.now.table.shared.table_id.slots in let v = c.args.s.now.token.me.0 in let seen = c.load-word.new.seat.me.0 in
    let x = c.pair_in.result in let p = c.pair_in.ensures.pair in let d = c.in-Cut.ensures in
    let less = subst (λ z. c.args.victim < z.workers) (sym l.layout) c.requires.inside in
    let at_is = c.interval-place.ensures.value ∙ (λ i. place (sym l.layout i) (worker_word c.args.victim interval)) in
    let home_is = c.home.ensures.value ∙ (λ i. place (sym l.layout i) (worker_word c.args.victim home)) in
    let then = c.load-home.new.seat.me.0 in
    let saw = saw_two slots v seen then c.interval-place.result c.home.result c.args.victim c.load-word.result c.load-home.result x p.0 p.1 d.0 l.setup l.told
    less at_is home_is c.load-word.ensures.2.0 c.load-home.ensures.2.0 in
    let kept = c.in-Cut.cut.left in let dealt = c.in-Cut.cut.pieces.items in
    let small = kept_fits x kept c.args.parts dealt p.0 d.0 c.requires.some d.1 in
    let w = c.exchange-found.new.s.token.me.0 in
    let told = told_here v then w c.args.victim c.load-home.result c.args.parts x kept dealt saw p.0 d.0 slots c.interval-place.result c.load-word.result
    c.pack_pair-left.result c.exchange-found.result p.1 small c.pack_pair-left.ensures d.1 c.exchange-found.ensures.told.0 in
    let given = Given v then w c.args.victim c.load-home.result c.args.parts x kept dealt saw p.0 d.0 in
    split_got v then w c.args.victim c.load-home.result c.args.parts x kept dealt saw p.0 d.0 _ refl
    (hit _ _ given (w ≡ forgets then) c.if-found-word.true told) d.1

pub returns-else-found-word-clause-split : goal.returns-else-found-word-clause-split
returns-else-found-word-clause-split c = let l = c.requires.live in
    let slots = c.args.t.now.table.shared.table_id.slots in let v = c.args.s.now.token.me.0 in let seen = c.load-word.new.seat.me.0 in
    let x = c.pair_in.result in let p = c.pair_in.ensures.pair in let d = c.in-Cut.ensures in
    let less = subst (λ z. c.args.victim < z.workers) (sym l.layout) c.requires.inside in
    let at_is = c.interval-place.ensures.value ∙ (λ i. place (sym l.layout i) (worker_word c.args.victim interval)) in
    let home_is = c.home.ensures.value ∙ (λ i. place (sym l.layout i) (worker_word c.args.victim home)) in
    let then = c.load-home.new.seat.me.0 in
    let saw = saw_two slots v seen then c.interval-place.result c.home.result c.args.victim c.load-word.result c.load-home.result x p.0 p.1 d.0 l.setup l.told
    less at_is home_is c.load-word.ensures.2.0 c.load-home.ensures.2.0 in
    let kept = c.in-Cut.cut.left in let dealt = c.in-Cut.cut.pieces.items in
    let small = kept_fits x kept c.args.parts dealt p.0 d.0 c.requires.some d.1 in
    let w = c.exchange-found.new.s.token.me.0 in
    let told = told_here v then w c.args.victim c.load-home.result c.args.parts x kept dealt saw p.0 d.0 slots c.interval-place.result c.load-word.result
    c.pack_pair-left.result c.exchange-found.result p.1 small c.pack_pair-left.ensures d.1 c.exchange-found.ensures.told.0 in
    let given = Given v then w c.args.victim c.load-home.result c.args.parts x kept dealt saw p.0 d.0 in
    split_moved v then w c.args.victim c.load-home.result c.args.parts x kept dealt saw p.0 d.0 c.exchange-found.result
    (λ e. c.if-found-word.false (e ∙ p.1)) (miss _ _ given (w ≡ forgets then) c.if-found-word.false told)
