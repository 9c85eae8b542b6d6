use Rattle.std.proofs.Common.{◌≤◌, ◌<◌, ◌-◌}
use Rattle.kt_body.proofs.Ranges.{members_found, members_past, members_unordered}
use Rattle.kt_body.proofs.passed.members.Goals as goal

pub returns-then-a-b : goal.returns-then-a-b
returns-then-a-b c =
    members_unordered _ _ _ _ c.if-a-b.true

pub returns-then-b-from : goal.returns-then-b-from
returns-then-b-from c =
    let past : c.range.inside.hi - c.range.inside.lo < c.args.b = rw (← c.saturating_sub-length.ensures, ← c.from.ensures) c.if-b-from.true in
    rw (← c.range.view_is) (members_past _ _ _ _ c.if-a-b.false past)

pub returns : goal.returns
returns c =
    let fine : c.args.b ≤ c.range.inside.hi - c.range.inside.lo = rw (← c.saturating_sub-length.ensures, ← c.from.ensures) c.if-b-from.false in
    rw (← c.range.view_is) (members_found _ _ _ _ c.if-a-b.false fine)
