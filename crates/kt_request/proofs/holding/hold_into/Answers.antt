use Rattle.std.proofs.Common.{refl, inl, inr}
use Rattle.kt_request.proofs.holding.hold_into.Goals as goal

pub returns-then-not-hold-clause-held : goal.returns-then-not-hold-clause-held
returns-then-not-hold-clause-held c = let h = c.if-not-hold.ensures.held in (h.0, (h.1, inr (h.2.0, h.2.1, refl)))

pub returns-clause-held : goal.returns-clause-held
returns-clause-held c = let h = c.if-not-hold.ensures.held in (h.0, (h.1, inl (h.2.0, h.2.1, c.push.ensures.items)))
