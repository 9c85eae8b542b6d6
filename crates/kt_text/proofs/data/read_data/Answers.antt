use Rattle.std.proofs.Common.{◌≡◌, ◌≢◌, length, arith, sym, ◌∙◌}
use Rattle.kt_text.proofs.ItemLists.{is_read-more, is_read-none, numbers-bad, numbers-many}
use Rattle.kt_text.proofs.data.read_data.Goals as goal

pub loop-at-init : goal.loop-at-init
loop-at-init c =
    is_read-none c.args.job.now c.args.from c.item_start-at.result c.args.wanted c.new-read.result.items c.requires.inside c.item_start-at.ensures.start c.new-read.ensures.items

pub returns-then-len-wanted-clause-refused : goal.returns-then-len-wanted-clause-refused
returns-then-len-wanted-clause-refused c =
    let all : length c.loop-at.read.items ≡ c.args.wanted = omega arith in
    λ _. rw c.place_at.ensures (numbers-many c.args.job.now c.args.from c.loop-at.at c.args.wanted c.loop-at.read.items c.loop-at.invariant c.loop-at-test.true all)

pub returns-in_default-clause-refused : goal.returns-in_default-clause-refused
returns-in_default-clause-refused c =
    let other : length c.loop-at.read.items ≢ c.args.wanted = omega arith in
    λ _. rw c.place_at-in_default.ensures
    (numbers-bad c.args.job.now c.args.from c.loop-at.at c.args.wanted c.item_stop-stop.result c.loop-at.read.items c.loop-at.invariant c.loop-at-test.true other c.item_stop-stop.ensures.stop
    (sym c.in_default.is ∙ c.item_number.ensures))

pub loop-at-preserved : goal.loop-at-preserved
loop-at-preserved c =
    let other : length c.loop-at.read.items ≢ c.args.wanted = omega arith in
    is_read-more c.args.job.now c.args.from c.loop-at.at c.args.wanted c.item_stop-stop.result c.in-Some.number c.item_start-at-in-loop-at.result c.loop-at.read.items c.push.new.self.items
    c.loop-at.invariant c.loop-at-test.true c.item_stop-stop.ensures.stop c.item_stop-stop.ensures.within (sym c.in-Some.is ∙ c.item_number.ensures) other c.item_start-at-in-loop-at.ensures.start c.in-Ok.ensures.items
