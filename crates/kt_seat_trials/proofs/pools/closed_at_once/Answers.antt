use Rattle.std.proofs.Common.{◌∙◌}
use Rattle.kt_seat_trials.proofs.Keeping.{none_claimed, none_ran}
use Rattle.kt_seat_trials.proofs.pools.closed_at_once.Goals as goal

pub close-requires : goal.close-requires
close-requires c = (c.requires.seats.0, c.requires.seats.1)

pub returns-clause-claimed : goal.returns-clause-claimed
returns-clause-claimed c = c.close.ensures.lists.claimed ∙ none_claimed c.requires.seats.0 c.args.seats.items c.requires.seats.2

pub returns-clause-ran : goal.returns-clause-ran
returns-clause-ran c = c.close.ensures.lists.ran ∙ none_ran c.requires.seats.0 c.args.seats.items c.requires.seats.2
