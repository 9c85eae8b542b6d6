use Rattle.std.proofs.Common.{sym, subst, ◌∙◌, inr, ◌≡◌, false}
use Rattle.kt_law.specs.Modes.{is_postponed}
use Rattle.kt_law.specs.Accesses.{clashes}
use Rattle.kt_rights.specs.Rights.{EachOf}
use Rattle.kt_rights.proofs.laws.indexes_are_apart.Goals as goal

pub returns : goal.returns
returns g c = λ obeys loop d e first second fits direct differ. inr (record {
  first = first.index;
  second = second.index;
  is_first = first.is;
  is_second = second.is;
  differ = differ;
  same = second.same ∙ sym first.same;
  direct = subst (EachOf (λ a. is_postponed a.mode ≡ false)) (sym first.same) direct;
  unalike = subst (λ xs. clashes xs ≡ false) (sym first.same) (obeys.unalike loop fits);
})
