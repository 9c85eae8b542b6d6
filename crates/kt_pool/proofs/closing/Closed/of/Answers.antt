use Rattle.std.proofs.Common.{arith, ◌<◌, ◌∙◌, ap, sym, subst, refl, slice_index, nat_eq}
use Rattle.std.specs.Mem.Slots.{slots_items}
use Rattle.kt_words.specs.Places.{place}
use Rattle.kt_rule.specs.Records.{drawn_at, positions_at, layout_of}
use Rattle.kt_steps.proofs.Telling.{the_some}
use Rattle.kt_pool.specs.declared.closing.Closed.{Closed}
use Rattle.kt_pool.specs.Closing.{Closes}
use Rattle.kt_pool.proofs.AtEnd.{found_word, seen_few, seen_few_positions, seen_closes}
use Rattle.kt_pool.proofs.closing.Closed.of.Goals as goal

pub overflow_cast-tasks : goal.overflow_cast-tasks
overflow_cast-tasks c =
    let h = c.close_with-words.ensures.values.2 in let q = c.requires.told in
    let few = seen_few c.args.table.shared.key.items q.0 c.args.token.id c.args.token.me.0 h.0 h.1.0 h.1.1 q.1 q.3 q.4 in
    let found = found_word (slots_items c.close_with-words.result.words) c.tasks_drawn.result c.word-tasks.result c.word-tasks.ensures in
    let is = (ap (λ z. slice_index h.0.words z) (ap (λ l. place l drawn_at) q.2 ∙ sym c.tasks_drawn.ensures.value)
    ∙ ap (λ ws. slice_index ws c.tasks_drawn.result) h.2) ∙ found in
    omega arith

pub overflow_cast-indexes : goal.overflow_cast-indexes
overflow_cast-indexes c =
    let h = c.close_with-words.ensures.values.2 in let q = c.requires.told in
    let few = seen_few_positions c.args.table.shared.key.items q.0 c.args.token.id c.args.token.me.0 h.0 h.1.0 h.1.1 q.1 q.3 q.4 in
    let found = found_word (slots_items c.close_with-words.result.words) c.positions_drawn.result c.word-indexes.result c.word-indexes.ensures in
    let is = (ap (λ z. slice_index h.0.words z) (ap (λ l. place l positions_at) q.2 ∙ sym c.positions_drawn.ensures.value)
    ∙ ap (λ ws. slice_index ws c.positions_drawn.result) h.2) ∙ found in
    omega arith

pub returns-clause-closes : goal.returns-clause-closes
returns-clause-closes c = λ j told.
    let h = c.close_with-words.ensures.values.2 in let q = c.requires.told in let same = the_some (sym q.1 ∙ told) in
    let closed : Closed = record { rows = c.read_rows.new.rows; tasks = c.word-tasks.result; indexes = c.word-indexes.result; limit = nat_eq c.word-stop.result 1 } in
    subst (λ v. Closes j closed v) (sym c.new-kept.ensures.1)
    (seen_closes c.args.table.shared.key.items j c.args.token.id c.args.token.me.0 h.0 h.1.0 h.1.1 told (q.3 ∙ ap (λ z. z.workers) same)
    (subst (λ z. 0 < z.workers) same q.4) closed c.args.layout (slots_items c.close_with-words.result.words) c.tasks_drawn.result c.positions_drawn.result c.stop.result
    c.word-stop.result (ap layout_of (sym same) ∙ q.2) h.2 c.read_rows.ensures.read
    (found_word (slots_items c.close_with-words.result.words) c.tasks_drawn.result c.word-tasks.result c.word-tasks.ensures) c.tasks_drawn.ensures.value
    (found_word (slots_items c.close_with-words.result.words) c.positions_drawn.result c.word-indexes.result c.word-indexes.ensures)
    c.positions_drawn.ensures.value
    (found_word (slots_items c.close_with-words.result.words) c.stop.result c.word-stop.result c.word-stop.ensures) c.stop.ensures.value refl)
