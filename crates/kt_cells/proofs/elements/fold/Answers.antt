use Rattle.std.proofs.Common.{arith, subst}
use Rattle.kt_law.specs.Acts.{Fold}
use Rattle.kt_law.specs.declared.operators.Op.{Op}
use Rattle.kt_law.specs.declared.operators.Op.TheVariants as O
use Rattle.kt_loops.specs.Operations.{IsNextOn}
use Rattle.kt_loops.proofs.IndexTelling.{one_folds}
use Rattle.kt_cells.proofs.elements.fold.Goals as goal

pub fetch_add-requires : goal.fetch_add-requires
fetch_add-requires c = let wide = c.args.t.now.wide in let inside = c.element-at.ensures.inside in (
  c.requires.seat,
  omega arith,
  one_folds c.args.t.now.table.shared.key.items c.args.t.now.table.shared.table_id.slots c.args.s.now.token.id c.args.s.now.token.me
      c.args.t.now.layout c.args.s.now.worker c.requires.live c.args.element _ c.requires.inside c.element-at.ensures.value c.args.value O.Add
      (subst (λ (z : Op). IsNextOn c.args.s.now.token.me.0 c.args.element (Fold z c.args.value)) c.in-Add.is c.requires.next),
)

pub fetch_min-requires : goal.fetch_min-requires
fetch_min-requires c = let wide = c.args.t.now.wide in let inside = c.element-at.ensures.inside in (
  c.requires.seat,
  omega arith,
  one_folds c.args.t.now.table.shared.key.items c.args.t.now.table.shared.table_id.slots c.args.s.now.token.id c.args.s.now.token.me
      c.args.t.now.layout c.args.s.now.worker c.requires.live c.args.element _ c.requires.inside c.element-at.ensures.value c.args.value O.Min
      (subst (λ (z : Op). IsNextOn c.args.s.now.token.me.0 c.args.element (Fold z c.args.value)) c.in-Min.is c.requires.next),
)

pub fetch_max-requires : goal.fetch_max-requires
fetch_max-requires c = let wide = c.args.t.now.wide in let inside = c.element-at.ensures.inside in (
  c.requires.seat,
  omega arith,
  one_folds c.args.t.now.table.shared.key.items c.args.t.now.table.shared.table_id.slots c.args.s.now.token.id c.args.s.now.token.me
      c.args.t.now.layout c.args.s.now.worker c.requires.live c.args.element _ c.requires.inside c.element-at.ensures.value c.args.value O.Max
      (subst (λ (z : Op). IsNextOn c.args.s.now.token.me.0 c.args.element (Fold z c.args.value)) c.in-Max.is c.requires.next),
)

pub fetch_and-requires : goal.fetch_and-requires
fetch_and-requires c = let wide = c.args.t.now.wide in let inside = c.element-at.ensures.inside in (
  c.requires.seat,
  omega arith,
  one_folds c.args.t.now.table.shared.key.items c.args.t.now.table.shared.table_id.slots c.args.s.now.token.id c.args.s.now.token.me
      c.args.t.now.layout c.args.s.now.worker c.requires.live c.args.element _ c.requires.inside c.element-at.ensures.value c.args.value O.And
      (subst (λ (z : Op). IsNextOn c.args.s.now.token.me.0 c.args.element (Fold z c.args.value)) c.in-And.is c.requires.next),
)

pub fetch_or-requires : goal.fetch_or-requires
fetch_or-requires c = let wide = c.args.t.now.wide in let inside = c.element-at.ensures.inside in (
  c.requires.seat,
  omega arith,
  one_folds c.args.t.now.table.shared.key.items c.args.t.now.table.shared.table_id.slots c.args.s.now.token.id c.args.s.now.token.me
      c.args.t.now.layout c.args.s.now.worker c.requires.live c.args.element _ c.requires.inside c.element-at.ensures.value c.args.value O.Or
      (subst (λ (z : Op). IsNextOn c.args.s.now.token.me.0 c.args.element (Fold z c.args.value)) c.in-Or.is c.requires.next),
)

pub fetch_xor-requires : goal.fetch_xor-requires
fetch_xor-requires c = let wide = c.args.t.now.wide in let inside = c.element-at.ensures.inside in (
  c.requires.seat,
  omega arith,
  one_folds c.args.t.now.table.shared.key.items c.args.t.now.table.shared.table_id.slots c.args.s.now.token.id c.args.s.now.token.me
      c.args.t.now.layout c.args.s.now.worker c.requires.live c.args.element _ c.requires.inside c.element-at.ensures.value c.args.value O.Xor
      (subst (λ (z : Op). IsNextOn c.args.s.now.token.me.0 c.args.element (Fold z c.args.value)) c.in-Xor.is c.requires.next),
)
