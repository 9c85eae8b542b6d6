use Rattle.kt_pool_trials.specs.Driven.{IsRoomy, IsUnmoved}
use Rattle.kt_pool_trials.proofs.Driving.{first_of, rest_of}
use Rattle.kt_pool_trials.proofs.scenes.hires.Goals as goal

pub hired-requires-clause-seat : goal.hired-requires-clause-seat
hired-requires-clause-seat g c =
    first_of (IsUnmoved c.args.common.table.now c.args.common.program.now) c.args.seats.now.items c.remove-seat.result c.requires.seats.1
    c.remove-seat.ensures.value c.requires.seats.0

pub hired-requires-clause-equipped : goal.hired-requires-clause-equipped
hired-requires-clause-equipped g c =
    let roomy = first_of (IsRoomy c.args.common.program.now) c.args.room.now.items c.remove-tools.result c.requires.room.1
    c.remove-tools.ensures.value c.requires.room.0 in
    record { accepted = c.requires.accepted; firsts = c.requires.firsts; room = roomy.room }

pub hired-requires-clause-empty : goal.hired-requires-clause-empty
hired-requires-clause-empty g c =
    (first_of (IsRoomy c.args.common.program.now) c.args.room.now.items c.remove-tools.result c.requires.room.1
    c.remove-tools.ensures.value c.requires.room.0).none

pub returns-clause-seats : goal.returns-clause-seats
returns-clause-seats g c =
    rest_of (IsUnmoved c.args.common.table.now c.args.common.program.now) c.args.seats.now.items c.remove-seat.new.self.items c.requires.seats.1
    c.remove-seat.ensures.items c.requires.seats.0

pub returns-clause-room : goal.returns-clause-room
returns-clause-room g c =
    rest_of (IsRoomy c.args.common.program.now) c.args.room.now.items c.remove-tools.new.self.items c.requires.room.1
    c.remove-tools.ensures.items c.requires.room.0
