use Rattle.std.proofs.Common.{◌≤◌, ◌<◌, length, ap, sym, arith, ◌∙◌}
use Rattle.kt_prog.specs.Script.{give}
use Rattle.kt_prog.specs.Statements.{State}
use Rattle.kt_prog.specs.declared.scope.TheConstants.{NAMES}
use Rattle.kt_body.proofs.Names.{named_room, named_full}
use Rattle.kt_body.proofs.walk.Walk.add.Goals as goal

pub returns-then-len-lt-NAMES : goal.returns-then-len-lt-NAMES
returns-then-len-lt-NAMES c =
    let room : length c.self.inside.locals.items < NAMES = rw (← c.len.ensures.value) c.if-len-lt-NAMES.true in
    let same = ap (λ (s : State). length s.locals) c.self.view_is in
    let less : length c.args.self.now.locals < NAMES = omega (arith, room, same) in
    named_room _ _ _ less ∙ ap (λ (s : State). give s) (sym c.give.ensures)

pub returns-else-len-lt-NAMES : goal.returns-else-len-lt-NAMES
returns-else-len-lt-NAMES c =
    let full : NAMES ≤ length c.self.inside.locals.items = rw (← c.len.ensures.value) c.if-len-lt-NAMES.false in
    rw (← c.self.view_is) (named_full _ _ _ full)
