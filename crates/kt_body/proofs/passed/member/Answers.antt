use Rattle.std.proofs.Common.{◌≤◌, ◌<◌, ◌-◌}
use Rattle.kt_body.proofs.Ranges.{member_denied, member_found}
use Rattle.kt_body.proofs.passed.member.Goals as goal

pub returns-then-i-from-clause-value : goal.returns-then-i-from-clause-value
returns-then-i-from-clause-value c =
    let past : c.range.inside.hi - c.range.inside.lo ≤ c.args.i = rw (← c.saturating_sub-length.ensures, ← c.from.ensures) c.if-i-from.true in
    rw (← c.range.view_is) (member_denied _ _ _ past)

pub returns-clause-value : goal.returns-clause-value
returns-clause-value c =
    let there : c.args.i < c.range.inside.hi - c.range.inside.lo = rw (← c.saturating_sub-length.ensures, ← c.from.ensures) c.if-i-from.false in
    rw (← c.range.view_is) (member_found _ _ _ there)
