use Rattle.std.proofs.Common.{◌∙◌, sym, ap, nat_lt, length}
use Rattle.kt_core.proofs.Cuts.{inside_found}
use Rattle.kt_core.proofs.pieces.has_inside.Goals as goal

pub returns : goal.returns
returns c = ap (λ n. nat_lt n (length c.args.pieces.now)) c.place_inside.ensures ∙ sym (inside_found c.args.at c.args.pieces.now)
