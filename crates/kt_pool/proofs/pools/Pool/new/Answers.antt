use Rattle.std.proofs.Common.{arith, ◌∙◌, ap, sym, subst, refl, [], List, ℕ}
use Rattle.atomic_table.specs.Table.{opening}
use Rattle.kt_rule.specs.Rule.{Holds}
use Rattle.kt_rule.specs.Views.{blank_view}
use Rattle.kt_rule.specs.Records.{layout_of}
use Rattle.kt_pool.specs.Seats.{setup_of}
use Rattle.kt_pool.proofs.FirstStep.{holds_blank, moved_opening}
use Rattle.kt_pool.proofs.pools.Pool.new.Goals as goal

pub opening_words-requires-clause-some : goal.opening_words-requires-clause-some
opening_words-requires-clause-some c = let e = ap (λ z. z.workers) (c.layout_of-layout.ensures c.args.input.now) in let s = c.requires.some in omega arith

pub opening_words-requires-clause-few : goal.opening_words-requires-clause-few
opening_words-requires-clause-few c = let e = ap (λ z. z.workers) (c.layout_of-layout.ensures c.args.input.now) in let s = c.requires.few in omega arith

pub opening_words-requires-clause-layout : goal.opening_words-requires-clause-layout
opening_words-requires-clause-layout c = let e = c.layout_of-layout.ensures c.args.input.now in
    e ∙ ap (λ n. layout_of (setup_of c.args.program.now c.args.input.now n)) (sym (ap (λ z. z.workers) e))

pub of_words-requires : goal.of_words-requires
of_words-requires c = subst (λ (z : List ℕ). Holds c.in_ok-words.words.items (opening z [] blank_view)) (sym c.as_slice.ensures.value)
    (holds_blank c.in_ok-words.words.items)

pub told-requires-clause-opening : goal.told-requires-clause-opening
told-requires-clause-opening c = moved_opening c.args.program.now c.args.input.now c.layout_of-layout.result.workers c.args.workers c.in_ok-words.words.items
    c.in_ok-table.table.shared.key.items (ap (λ z. z.workers) (c.layout_of-layout.ensures c.args.input.now)) (ap (λ z. z.items) c.in_ok-table.ensures.5)
    c.in_ok-words.ensures.opening

pub seats_of-seats-requires-clause-told : goal.seats_of-seats-requires-clause-told
seats_of-seats-requires-clause-told c = (
  setup_of c.args.program.now c.args.input.now c.args.workers,
  c.told.ensures.told,
  refl,
  sym (c.layout_of-layout.ensures c.args.input.now),
  omega (arith, c.requires.some),
)

pub returns-clause-layout : goal.returns-clause-layout
returns-clause-layout c = c.layout_of-layout.ensures c.args.input.now

pub returns-clause-opening : goal.returns-clause-opening
returns-clause-opening c = moved_opening c.args.program.now c.args.input.now c.layout_of-layout.result.workers c.args.workers c.in_ok-words.words.items
    c.in_ok-table.table.shared.key.items (ap (λ z. z.workers) (c.layout_of-layout.ensures c.args.input.now)) (ap (λ z. z.items) c.in_ok-table.ensures.5)
    c.in_ok-words.ensures.opening

pub returns-clause-seats : goal.returns-clause-seats
returns-clause-seats c = c.seats_of-seats.ensures.seats (setup_of c.args.program.now c.args.input.now c.args.workers) c.told.ensures.told

pub returns-clause-views : goal.returns-clause-views
returns-clause-views c = c.seats_of-seats.ensures.views (setup_of c.args.program.now c.args.input.now c.args.workers) c.told.ensures.told
